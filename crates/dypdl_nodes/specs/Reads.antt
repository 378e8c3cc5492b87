-- What reading a node gives: a value, or the first refusal.
use Rattle.std.specs.Prelude.{ℕ, Bool, if◌then◌else◌, Option, None, Some, Result, Ok, Err}
use Rattle.dp_base.specs.declared.place.Place.{Place}
use Rattle.dypdl_nodes.specs.declared.ends.LoadEnd.{LoadEnd}
use Rattle.dypdl_nodes.specs.declared.ends.LoadEnd.TheVariants.{Refused, Memory}

-- what is refused: the number of the rule, the place, and in an expression the byte in it
pub record Refusal : Type 0 where
  pub number : ℕ
  pub place : Place
  pub offset : Option ℕ

abbrev pub Reads : Type 0 → Type 0
Reads A = Result A Refusal

-- what of an error is told: want of memory tells nothing of the text
abbrev pub told : LoadEnd → Option Refusal
told (Refused number place offset) = Some (record { number = number; place = place; offset = offset })
told Memory = None

abbrev pub refuse : {A : Type 0} → ℕ → Place → Reads A
refuse number at = Err (record { number = number; place = at; offset = None })

-- the same at a byte of the expression that stands there
abbrev pub refuse_at : {A : Type 0} → ℕ → Place → ℕ → Reads A
refuse_at number at offset = Err (record { number = number; place = at; offset = Some offset })

-- what there is, or a refusal
abbrev pub or_refuse : {A : Type 0} → ℕ → Place → Option A → Reads A
or_refuse number at (Some x) = Ok x
or_refuse number at None = refuse number at

-- a refusal where a test fails
abbrev pub holds : Bool → ℕ → Place → Reads (Unit {0})
holds test number at = if test then Ok tt else refuse number at
