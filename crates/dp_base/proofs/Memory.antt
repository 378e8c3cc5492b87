-- Want of memory, or what was refused.
use Rattle.std.specs.Prelude.{Bool, true, false}
use Rattle.dp_base.specs.Results.{unless, MemoryOr}

unless-weaker : (b : Bool) (P Q : Type 0) → (P → Q) → unless b P → unless b Q
unless-weaker true P Q f h = h
unless-weaker false P Q f h = f h

-- what is refused may be told by less
pub memory_or : {E : Type 0} (is_memory : E → Bool) (P Q : E → Type 0) → ((e : E) → P e → Q e) → (e : E) → MemoryOr is_memory P e → MemoryOr is_memory Q e
memory_or is_memory P Q f e h = unless-weaker (is_memory e) (P e) (Q e) (f e) h

unless-from : (b : Bool) (P : Type 0) → P → unless b P
unless-from true P p = tt
unless-from false P p = p

pub memory_or-from : {E : Type 0} (is_memory : E → Bool) (P : E → Type 0) (e : E) → P e → MemoryOr is_memory P e
memory_or-from is_memory P e p = unless-from (is_memory e) (P e) p
