-- Values at spots, and the same values without their spots.
use Rattle.std.proofs.Common.{◌≡◌, Result, Ok, Err, refl, ap}
use Rattle.dp_base.specs.Results.{◌>>=◌}
use Rattle.dp_model.specs.declared.answers.FaultKind.{FaultKind}
use Rattle.dp_model.specs.declared.answers.Spot.{Spot}
use Rattle.spot_eval.specs.Answers.{at_spot}
use Rattle.spot_eval.specs.declared.ends.SpotFault.{SpotFault}

-- the same value, or the same fault without its spot
abbrev pub without_spot : {A : Type 0} → Result A SpotFault → Result A FaultKind
without_spot (Ok x) = Ok x
without_spot (Err met) = Err met.kind

pub from_value : {A : Type 0} (r : Result A SpotFault) (x : A) → without_spot r ≡ Ok x → r ≡ Ok x
from_value (Ok y) x e = let same : y ≡ x = cc in ap Ok same
from_value (Err met) x e = absurd (cc)

pub to_value : {A : Type 0} (r : Result A SpotFault) (x : A) → r ≡ Ok x → without_spot r ≡ Ok x
to_value r x e = ap without_spot e

pub spot_gone : {A : Type 0} (spot : Spot) (r : Result A FaultKind) → without_spot (at_spot spot r) ≡ r
spot_gone spot (Ok x) = refl
spot_gone spot (Err kind) = refl

-- a fault at a spot is that of the value there
pub fault_there : {A : Type 0} (spot : Spot) (r : Result A FaultKind) (met : SpotFault) → at_spot spot r ≡ Err met → (r ≡ Err met.kind) × (met.spot ≡ spot)
fault_there spot (Ok x) met e = absurd (cc)
fault_there spot (Err kind) met e =
    let told : SpotFault = record { spot = spot; kind = kind } in
    let same : told ≡ met = cc in
    (cc, cc)

-- steps in turn are one step that is made of them
pub bind_assoc : {A B C E : Type 0} (r : Result A E) (f : A → Result B E) (g : B → Result C E) → ((r >>= f) >>= g) ≡ (r >>= λ x. f x >>= g)
bind_assoc (Ok x) f g = refl
bind_assoc (Err e) f g = refl

-- the parts of two steps that have a value
pub two_values : {A B C E : Type 0} (r : Result A E) (q : Result B E) (f : A → B → C) (z : C) → (r >>= λ x. q >>= λ y. Ok (f x y)) ≡ Ok z → (x : A) × (y : B) × (r ≡ Ok x) × (q ≡ Ok y)
two_values (Ok x) (Ok y) f z e = (x, y, refl, refl)
two_values (Ok x) (Err k) f z e = absurd (cc)
two_values (Err k) q f z e = absurd (cc)
