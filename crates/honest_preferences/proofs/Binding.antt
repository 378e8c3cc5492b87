-- Values that are made in steps.
use Rattle.std.proofs.Common.{◌≡◌, Option, Some, None, Result, Ok, Err, ℤ, refl, subst, w64, to_z, of_z}
use Rattle.std.specs.Prelude.{IfSome}
use Rattle.std.proofs.lemmas.Int.{to_z-of_z}
use mir.Val.{SFits}
use Rattle.dp_base.specs.Results.{◌>>=◌}
use Rattle.dp_model.specs.declared.answers.FaultKind.{FaultKind}

-- what comes after a step has a value only where the step has
pub bound : {A B : Type 0} (r : Result A FaultKind) (f : A → Result B FaultKind) (y : B) → (r >>= f) ≡ Ok y → (x : A) × (r ≡ Ok x) × (f x ≡ Ok y)
bound (Ok x) f y h = (x, refl, h)
bound (Err k) f y h = absurd (cc)

pub ok_same : {A : Type 0} (a b : A) → ◌≡◌ {A = Result A FaultKind} (Ok a) (Ok b) → a ≡ b
ok_same a b e = cc

-- what is said of a value that is there, said in other words
pub if_some : (o : Option ℤ) (P Q : ℤ → Type 0) → IfSome o P → ((x : ℤ) → P x → Q x) → IfSome o Q
if_some None P Q h f = h
if_some (Some x) P Q h f = f x h

-- what is said of numbers that were passed as machine words, said of the numbers

pub read_two : (P : ℤ → ℤ → ℤ → Type 0) (o : Option ℤ) (x y : ℤ) → SFits w64 x → SFits w64 y → IfSome o (P (to_z w64 (of_z w64 x)) (to_z w64 (of_z w64 y))) → IfSome o (P x y)
read_two P o x y fx fy h = subst (λ (a : ℤ). IfSome o (P a y)) (to_z-of_z w64 x fx) (subst (λ (b : ℤ). IfSome o (P (to_z w64 (of_z w64 x)) b)) (to_z-of_z w64 y fy) h)

pub read_three : (P : ℤ → ℤ → ℤ → ℤ → Type 0) (o : Option ℤ) (x y z : ℤ) → SFits w64 x → SFits w64 y → SFits w64 z → IfSome o (P (to_z w64 (of_z w64 x)) (to_z w64 (of_z w64 y)) (to_z w64 (of_z w64 z))) → IfSome o (P x y z)
read_three P o x y z fx fy fz h = subst (λ (a : ℤ). IfSome o (P a y z)) (to_z-of_z w64 x fx) (read_two (P (to_z w64 (of_z w64 x))) o y z fy fz h)
