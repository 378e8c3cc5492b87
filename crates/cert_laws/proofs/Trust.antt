-- What the honesty of a model says of floors and of covering.
use Rattle.std.proofs.Common.{◌≡◌, ℕ, ◌≤◌, ◌⊎◌, inl, inr, Bool, true, false, zero, suc, List, [], ◌∷◌, slice_get, length, Option, Some, None, Result, Ok, Err, refl, sym, subst, ◌∙◌, ap, arith}
use Rattle.std.specs.Prelude.{ℤ, ◌≤ℤ◌, not, ◌&&◌, ◌==◌, IfSome}
use Rattle.std.specs.List.{fold}
use Rattle.std.specs.Int.{int_min, int_max}
use Rattle.std.proofs.lemmas.Int.{ints, clamps}
use Rattle.dp_base.specs.Results.{◌>>=◌, in_turn}
use Rattle.dp_model.specs.Costs.{InRange, better_of, join_onto, order_word}
use Rattle.dp_model.specs.Evaluation.{num_value}
use Rattle.dp_steps.specs.Bounds.{IsTightest, has_floors, IsFloor}
use Rattle.dp_steps.specs.Lists.{Prefix, Completion}
use Rattle.dp_claims.specs.Dominance.{Replaces}
use Rattle.dp_claims.specs.Enough.{Has}
use Rattle.dp_claims.specs.Honest.{BoundsHold, Honest}
use Rattle.dp_model.specs.declared.answers.FaultKind.{FaultKind}
use Rattle.dp_model.specs.declared.answers.Keep.{Keep}
use Rattle.dp_model.specs.declared.answers.Keep.TheVariants as keeps
use Rattle.dp_model.specs.declared.trees.Num.{Num}
use Rattle.dp_model.specs.declared.parts.JoinOp.{JoinOp}
use Rattle.dp_model.specs.declared.parts.PlainState.{PlainState}
use Rattle.dp_model.specs.declared.whole.Model.{Model}
use Rattle.cert_laws.specs.Shown.{word}
use Rattle.cert_laws.proofs.Costs.{self, no_better_word, isotone, either}

-- a path leads to an inner state
abbrev pub IsReached : Model → PlainState → Type 0
IsReached m s = (u : List ℕ) × Prefix m u s

-- What the proof takes of an honest model, or of pruning that is off: no completion is worth less than a floor, and for each
-- completion of a state one of a state that replaces it is no worse, and no longer where nodes of earlier layers cover.
pub record Fair (m : Model) (prune : Bool) (keep : Keep) : Type 0 where
  pub floors : (s : PlainState) (cost : Option ℤ) (floor : ℤ) → IsReached m s → IfSome cost InRange → IsFloor m prune s cost (Some floor)
      → (steps : List ℕ) (value : ℤ) → Completion m s steps value → word m (Some floor) ≤ℤ word m (Some (join_onto m.join cost value))
  pub better : (s other : PlainState) → IsReached m s → IsReached m other → Replaces m prune s other
      → (steps : List ℕ) (value : ℤ) → Completion m other steps value → (u : List ℕ) × (v : ℤ) × Completion m s u v × (word m (Some v) ≤ℤ word m (Some value)) × (keep ≡ keeps.All → length u ≤ length steps)

-- ---- places in lists

has_none : {A : Type 0} (x : A) → Has [] x → ⊥
has_none x h = let no : None ≡ Some x = h.1 in cc

has_head : {A : Type 0} (y : A) (xs : List A) (x : A) → Has (y ∷ xs) x → (y ≡ x) ⊎ Has xs x
has_head y xs x h = cases h.0 h.1
  where
    cases : (k : ℕ) → slice_get (y ∷ xs) k ≡ Some x → (y ≡ x) ⊎ Has xs x
    cases zero e = inl cc
    cases (suc k) e = inr (k, e)

-- ---- the tightest bound is the value of some bound

bind_ok : {A B : Type 0} (r : Result A FaultKind) (f : A → Result B FaultKind) (y : B) → (r >>= f) ≡ Ok y → (x : A) × (r ≡ Ok x) × (f x ≡ Ok y)
bind_ok (Ok x) f y e = (x, refl, e)
bind_ok {A} {B} (Err k) f y e = let clash : ◌≡◌ {A = Result B FaultKind} (Err k) (Ok y) = e in absurd (cc)

ok_same : {A : Type 0} (x y : A) → ◌≡◌ {A = Result A FaultKind} (Ok x) (Ok y) → x ≡ y
ok_same x y e = cc

value_from : (value : Num → Result ℤ FaultKind) (es : List Num) (xs : List ℤ) → in_turn value es ≡ Ok xs → (x : ℤ) → Has xs x → (i : ℕ) × (e : Num) × (slice_get es i ≡ Some e) × (value e ≡ Ok x)
value_from value [] xs is x h = absurd (has_none x (subst (λ (l : List ℤ). Has l x) (sym (ok_same [] xs is)) h))
value_from value (e ∷ es) xs is x h =
    let first = bind_ok (value e) (λ y. in_turn value es >>= λ ys. Ok (y ∷ ys)) xs is in
    let rest = bind_ok (in_turn value es) (λ ys. Ok (first.0 ∷ ys)) xs first.2 in
    elim (has_head first.0 rest.0 x (subst (λ (l : List ℤ). Has l x) (sym (ok_same (first.0 ∷ rest.0) xs rest.2)) h)) [
      | inl same ↦ (0, e, refl, first.1 ∙ ap Ok same)
      | inr later ↦ let r = value_from value es rest.0 rest.1 x later in (suc r.0, r.1, r.2, r.3)
    ]

picks_one : (minimize : Bool) (a b : ℤ) → (better_of minimize a b ≡ a) ⊎ (better_of minimize a b ≡ b)
picks_one true a b = least a b
  where
    least : (a b : ℤ) → (int_min a b ≡ a) ⊎ (int_min a b ≡ b)
    least a b = elim (either a b) [ inl le ↦ inl (omega (arith, ints, clamps, le)) | inr ge ↦ inr (omega (arith, ints, clamps, ge)) ]
picks_one false a b = most a b
  where
    most : (a b : ℤ) → (int_max a b ≡ a) ⊎ (int_max a b ≡ b)
    most a b = elim (either a b) [ inl le ↦ inr (omega (arith, ints, clamps, le)) | inr ge ↦ inl (omega (arith, ints, clamps, ge)) ]

fold_picks : (minimize : Bool) (first : ℤ) (others : List ℤ) → Has (first ∷ others) (fold (better_of minimize) first others)
fold_picks minimize first [] = (0, refl)
fold_picks minimize first (x ∷ others) =
    elim (has_head (better_of minimize first x) others (fold (better_of minimize) (better_of minimize first x) others) (fold_picks minimize (better_of minimize first x) others)) [
      | inl here ↦ elim (picks_one minimize first x) [
        | inl a ↦ (0, ap Some (sym a ∙ here))
        | inr b ↦ (1, ap Some (sym b ∙ here))
      ]
      | inr later ↦ (suc (suc later.0), later.1)
    ]

-- ---- with pruning off, and with it on in an honest model

no_floors : (bounds : List Num) → false && not (length bounds == 0) ≡ true → ⊥
no_floors bounds e = let clash : false ≡ true = e in cc

fair_off : (m : Model) (prune : Bool) (keep : Keep) → prune ≡ false → Fair m prune keep
fair_off m prune keep off =
    record {
      floors = λ s cost floor reach range is steps value done. absurd (no_floors m.bounds (subst (λ (on : Bool). has_floors m on ≡ true) off is.0));
      better = λ s other reach reach' replaces steps value done.
          (let same : s ≡ other = subst (λ (on : Bool). Replaces m on s other) off replaces in
          (steps, value, subst (λ (x : PlainState). Completion m x steps value) (sym same) done, self (word m (Some value)), λ all. no_longer (length steps)));
    }
  where
    no_longer : (n : ℕ) → n ≤ n
    no_longer n = omega arith

-- a tightest bound is not better than any completion
bound_below : (m : Model) (op : JoinOp) → BoundsHold m → (s : PlainState) → IsReached m s → (bound : ℤ) → IsTightest m s bound → (steps : List ℕ) (value : ℤ) → Completion m s steps value
    → order_word m.minimize op (Some bound) ≤ℤ order_word m.minimize op (Some value)
bound_below m op honest s reach bound tight steps value done =
    let at = subst (Has (tight.0 ∷ tight.1)) (sym tight.3) (fold_picks (not m.minimize) tight.0 tight.1) in
    let from = value_from (λ (e : Num). num_value m s e []) m.bounds (tight.0 ∷ tight.1) tight.2 bound at in
    no_better_word m.minimize op value bound (honest reach.0 s reach.1 from.0 from.1 bound from.2 from.3 steps value done)

fair_honest : (m : Model) (prune : Bool) (keep : Keep) → Honest m keep → prune ≡ true → Fair m prune keep
fair_honest m prune keep honest on =
    record {
      floors = λ s cost floor reach range is steps value done.
          (let b = is.1 in
          let below = bound_below m m.join honest.bounds s reach b.0 b.1 steps value done in
          subst (λ (f : ℤ). word m (Some f) ≤ℤ word m (Some (join_onto m.join cost value))) (sym b.2) (isotone m.minimize m.join cost cost b.0 value range range (self (word m cost)) below));
      better = λ s other reach reach' replaces steps value done.
          (let dominates = subst (λ (prune : Bool). Replaces m prune s other) on replaces in
          let d = honest.dominance reach.0 reach'.0 s other reach.1 reach'.1 dominates steps value done in
          (d.0, d.1, d.2, no_better_word m.minimize m.join value d.1 d.3, d.4));
    }

pub fair : (m : Model) (prune : Bool) (keep : Keep) → (prune ≡ false) ⊎ Honest m keep → Fair m prune keep
fair m false keep trusted = fair_off m false keep refl
fair m true keep (inl off) = fair_off m true keep off
fair m true keep (inr honest) = fair_honest m true keep honest refl
