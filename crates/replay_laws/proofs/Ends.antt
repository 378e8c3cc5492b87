-- How a replay ends early, part by part.
use Rattle.std.proofs.Common.{◌≡◌, ℕ, Bool, true, false, ◌⊎◌, inl, inr, Option, Some, None, Result, Ok, Err, refl}
use Rattle.std.specs.Prelude.{ℤ}
use Rattle.dp_base.specs.Results.{◌>>=◌}
use Rattle.dp_model.specs.declared.answers.Reason.TheVariants as reasons
use Rattle.spot_eval.specs.declared.ends.SpotFault.{SpotFault}
use Rattle.replay_list.specs.Replays.{after, only_if, or_fault, unless_base, unless_forced}
use Rattle.replay_list.specs.declared.replayed.Stop.{Stop}
use Rattle.replay_list.specs.declared.replayed.Stop.TheVariants as stops

pub bind_ok : {A B E : Type 0} (r : Result A E) (f : A → Result B E) (y : B) → (r >>= f) ≡ Ok y → (x : A) × (r ≡ Ok x) × (f x ≡ Ok y)
bind_ok (Ok x) f y h = (x, refl, h)
bind_ok (Err e) f y h = absurd (cc)

pub bind_err : {A B E : Type 0} (r : Result A E) (f : A → Result B E) (e : E) → (r >>= f) ≡ Err e → (r ≡ Err e) ⊎ ((x : A) × (r ≡ Ok x) × (f x ≡ Err e))
bind_err (Ok x) f e h = inr (x, refl, h)
bind_err {A} {B} {E} (Err d) f e h = inl (same d e h)
  where
    same : (d e : E) → ◌≡◌ {A = Result B E} (Err d) (Err e) → ◌≡◌ {A = Result A E} (Err d) (Err e)
    same d e h = let q : d ≡ e = cc in rw q refl

pub bind_done : {A B E : Type 0} (r : Result A E) (f : A → Result B E) (x : A) (v : Result B E) → r ≡ Ok x → f x ≡ v → (r >>= f) ≡ v
bind_done r f x v e h = rw e h

pub fault_ok : {A : Type 0} (r : Result A SpotFault) (x : A) → or_fault r ≡ Ok x → r ≡ Ok x
fault_ok (Ok y) x h = let q : y ≡ x = cc in rw q refl
fault_ok (Err met) x h = absurd (cc)

pub fault_err : {A : Type 0} (r : Result A SpotFault) (stop : Stop) → or_fault r ≡ Err stop → (met : SpotFault) × (r ≡ Err met) × (stop ≡ stops.Fault met)
fault_err (Ok y) stop h = absurd (cc)
fault_err (Err met) stop h = (met, refl, cc)

pub only_ok : {A : Type 0} (b : Bool) (stop : Stop) (v : Result A Stop) (x : A) → only_if b stop v ≡ Ok x → (b ≡ true) × (v ≡ Ok x)
only_ok true stop v x h = (refl, h)
only_ok false stop v x h = absurd (cc)

pub only_err : {A : Type 0} (b : Bool) (stop : Stop) (v : Result A Stop) (e : Stop) → only_if b stop v ≡ Err e → ((b ≡ false) × (e ≡ stop)) ⊎ ((b ≡ true) × (v ≡ Err e))
only_err true stop v e h = inr (refl, h)
only_err false stop v e h = inl (refl, cc)

pub base_ok : {A : Type 0} (base : Option ℤ) (v : Result A Stop) (x : A) → unless_base base v ≡ Ok x → (base ≡ None) × (v ≡ Ok x)
base_ok None v x h = (refl, h)
base_ok (Some b) v x h = absurd (cc)

pub base_err : {A : Type 0} (base : Option ℤ) (v : Result A Stop) (e : Stop) → unless_base base v ≡ Err e → ((b : ℤ) × (base ≡ Some b) × (e ≡ stops.Illegal reasons.AfterBase)) ⊎ ((base ≡ None) × (v ≡ Err e))
base_err None v e h = inr (refl, h)
base_err (Some b) v e h = inl (b, refl, cc)

pub forced_ok : {A : Type 0} (first : Option ℕ) (v : Result A Stop) (x : A) → unless_forced first v ≡ Ok x → (first ≡ None) × (v ≡ Ok x)
forced_ok None v x h = (refl, h)
forced_ok (Some f) v x h = absurd (cc)

pub forced_err : {A : Type 0} (first : Option ℕ) (v : Result A Stop) (e : Stop) → unless_forced first v ≡ Err e → ((f : ℕ) × (first ≡ Some f) × (e ≡ stops.Illegal reasons.Forced)) ⊎ ((first ≡ None) × (v ≡ Err e))
forced_err None v e h = inr (refl, h)
forced_err (Some f) v e h = inl (f, refl, cc)

pub after_ok : {A : Type 0} (done : ℕ) (r : Result A Stop) (x : A) → after done r ≡ Ok x → r ≡ Ok x
after_ok done (Ok y) x h = let q : y ≡ x = cc in rw q refl
after_ok done (Err stop) x h = absurd (cc)

pub after_err : {A : Type 0} (done : ℕ) (r : Result A Stop) (e : ℕ × Stop) → after done r ≡ Err e → (r ≡ Err e.1) × (done ≡ e.0)
after_err done (Ok y) e h = absurd (cc)
after_err done (Err stop) e h = let q : (done, stop) ≡ e = cc in rw (← q) (refl, refl)
