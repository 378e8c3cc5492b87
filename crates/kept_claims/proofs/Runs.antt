-- The kept model is no harder to search to the end than the model: it meets no other faults, and has the same states.
use Rattle.std.proofs.Common.{◌≡◌, ℕ, zero, suc, Bool, List, [], ◌∷◌, slice_get, take, Option, Some, None, Result, Ok, Err, ℤ, refl, sym, ap, subst, ◌∙◌}
use Rattle.std.specs.Prelude.{◌<ℤ◌}
use Rattle.dp_model.specs.Costs.{order_word}
use Rattle.dp_model.specs.Evaluation.{num_value}
use Rattle.dp_model.specs.declared.answers.FaultKind.{FaultKind}
use Rattle.dp_model.specs.declared.answers.Keep.{Keep}
use Rattle.dp_model.specs.declared.answers.Spot.{Spot}
use Rattle.dp_model.specs.declared.answers.Spot.TheVariants as spots
use Rattle.dp_model.specs.declared.parts.JoinOp.{JoinOp}
use Rattle.dp_model.specs.declared.parts.PlainState.{PlainState}
use Rattle.dp_model.specs.declared.trees.Num.{Num}
use Rattle.dp_model.specs.declared.whole.Model.{Model}
use Rattle.dp_steps.specs.Bounds.{values_of}
use Rattle.dp_steps.specs.Faults.{HasValue, Meets}
use Rattle.dp_claims.specs.Enough.{ArePairs, IsEnough, IsLean, IsPair}
use Rattle.best_ledger.specs.Enough.{ArePriced}
use Rattle.kept_model.specs.Alike.{Alike}
use Rattle.kept_model.specs.Parts.{IsKept}
use Rattle.kept_model.specs.declared.kept.Kept.{Kept}
use Rattle.kept_model.proofs.Choice.{from_place, kept_alike}
use Rattle.kept_model.proofs.Faults.{faults}
use Rattle.kept_model.proofs.Lists.{back, path_too, prefix_too}
use Rattle.kept_model.proofs.Steps.{inner_too}
use Rattle.kept_model.proofs.Values.{num_same}
use Rattle.kept_claims.specs.Laws.{LawEnoughBestToo, LawEnoughToo, LawFaultsToo}

-- ---- faults

-- the first of some bounds that has no value
abbrev FirstFault : Model → PlainState → List Num → Type 0
FirstFault m s es = (j : ℕ) × (e : Num) × (kind : FaultKind) × (slice_get es j ≡ Some e) × (num_value m s e [] ≡ Err kind) × HasValue (values_of m s (take j es))

first_by : (m : Model) (s : PlainState) (x : Num) (es : List Num) (j : ℕ) (e : Num) (kind : FaultKind) → slice_get (x ∷ es) j ≡ Some e → num_value m s e [] ≡ Err kind → (r : Result ℤ FaultKind) → num_value m s x [] ≡ r → ((i : ℕ) → slice_get es i ≡ Some e → FirstFault m s es) → FirstFault m s (x ∷ es)
first_by m s x es j e kind at bad (Err why) is rest = (0, x, why, refl, is, ([], refl))
first_by m s x es zero e kind at bad (Ok v) is rest =
    let same : Some x ≡ Some e = at in
    let one : x ≡ e = cc in
    let clash : Ok v ≡ Err kind = sym is ∙ (ap (λ (y : Num). num_value m s y []) one ∙ bad) in
    absurd (cc)
first_by m s x es (suc j) e kind at bad (Ok v) is rest =
    let r = rest j at in
    (suc r.0, r.1, r.2, r.3, r.4, (v ∷ r.5.0, rw is (rw (r.5.1) refl)))

first_fault : (m : Model) (s : PlainState) (es : List Num) (j : ℕ) (e : Num) (kind : FaultKind) → slice_get es j ≡ Some e → num_value m s e [] ≡ Err kind → FirstFault m s es
first_fault m s [] j e kind at bad = let clash : None ≡ Some e = at in absurd (cc)
first_fault m s (x ∷ es) j e kind at bad = first_by m s x es j e kind at bad (num_value m s x []) refl (λ i at'. first_fault m s es i e kind at' bad)

bound_too : (m : Model) (kept : Kept) (other : Model) (is : IsKept m kept other) → Alike m other → (prune : Bool) (steps : List ℕ) (i : ℕ) (kind : FaultKind) → Meets other prune steps (spots.Bound i) kind → (at : Spot) × (why : FaultKind) × Meets m prune steps at why
bound_too m kept other is alike prune steps i kind h =
    let s = h.0 in
    let e = h.3.1.0 in
    let from = from_place kept.bounds m.bounds i e (sym (ap (λ (es : List Num). slice_get es i) is.bounds) ∙ h.3.1.1) in
    let bad : num_value m s e [] ≡ Err kind = sym (ap (λ (f : Num → List ℕ → Result ℤ FaultKind). f e []) (num_same m other alike s)) ∙ h.3.1.2 in
    let r = first_fault m s m.bounds from.0 e kind from.2 bad in
    (spots.Bound r.0, r.2, (s, h.1, path_too m other alike steps s h.1 h.2, ((inner_too m other alike s h.3.0.0, h.3.0.1, r.5), (r.1, r.3, r.4))))

by_spot : (m : Model) (kept : Kept) (other : Model) (is : IsKept m kept other) → Alike m other → (prune : Bool) (steps : List ℕ) (spot : Spot) (kind : FaultKind) → Meets other prune steps spot kind → (at : Spot) × (why : FaultKind) × Meets m prune steps at why
by_spot m kept other is alike prune steps (spots.Constraint i) kind h = (spots.Constraint i, kind, faults m other alike prune prune steps (spots.Constraint i) kind tt h)
by_spot m kept other is alike prune steps (spots.BaseCondition i j) kind h = (spots.BaseCondition i j, kind, faults m other alike prune prune steps (spots.BaseCondition i j) kind tt h)
by_spot m kept other is alike prune steps (spots.BaseCost i) kind h = (spots.BaseCost i, kind, faults m other alike prune prune steps (spots.BaseCost i) kind tt h)
by_spot m kept other is alike prune steps spots.Total kind h = (spots.Total, kind, faults m other alike prune prune steps spots.Total kind tt h)
by_spot m kept other is alike prune steps (spots.Bound i) kind h = bound_too m kept other is alike prune steps i kind h
by_spot m kept other is alike prune steps (spots.Precondition g j) kind h = (spots.Precondition g j, kind, faults m other alike prune prune steps (spots.Precondition g j) kind tt h)
by_spot m kept other is alike prune steps (spots.Weight g) kind h = (spots.Weight g, kind, faults m other alike prune prune steps (spots.Weight g) kind tt h)
by_spot m kept other is alike prune steps (spots.Cost g) kind h = (spots.Cost g, kind, faults m other alike prune prune steps (spots.Cost g) kind tt h)
by_spot m kept other is alike prune steps (spots.Effect g i) kind h = (spots.Effect g i, kind, faults m other alike prune prune steps (spots.Effect g i) kind tt h)

pub faults_law : LawFaultsToo
faults_law m kept other is prune steps spot kind h = by_spot m kept other is (kept_alike m kept other is) prune steps spot kind h

-- ---- budgets

module _ (m other : Model) (alike : Alike m other) where
  lean_too : (u : List ℕ) → IsLean other u → IsLean m u
  lean_too u lean i j s cost later less within first second =
      let there : Alike other m = back m other alike in
      let h = lean i j s cost later less within (path_too other m there (take i u) s cost first) (path_too other m there (take j u) s later second) in
      let by_join = subst (λ (op : JoinOp). order_word other.minimize op later <ℤ order_word other.minimize op cost) alike.join h in
      subst (λ (minimize : Bool). order_word minimize m.join later <ℤ order_word minimize m.join cost) alike.minimize by_join

  pair_too : (keep : Keep) (pair : ℕ × PlainState) → IsPair other keep pair → IsPair m keep pair
  pair_too keep pair h = (h.0, prefix_too m other alike h.0 pair.1 h.1, h.2, λ all. lean_too h.0 (h.3 all))

  pairs_too : (keep : Keep) (pairs : List (ℕ × PlainState)) → ArePairs other keep pairs → ArePairs m keep pairs
  pairs_too keep pairs h = record { different = h.different; each = λ pair has. pair_too keep pair (h.each pair has) }

  enough_too : (keep : Keep) (budget : ℕ) → IsEnough m keep budget → IsEnough other keep budget
  enough_too keep budget h =
      record {
        r = h.r;
        width = h.width;
        k = h.k;
        reached = λ pairs are. h.reached pairs (pairs_too keep pairs are);
        widest = λ l pairs are of_one. h.widest l pairs (pairs_too keep pairs are) of_one;
        doubled = h.doubled;
        within = h.within;
      }

  priced_too : (pairs : List (PlainState × Option ℤ)) → ArePriced other pairs → ArePriced m pairs
  priced_too pairs h =
      record {
        different = h.different;
        each = λ pair has. (let p = h.each pair has in (p.0, path_too m other alike p.0 pair.0 pair.1 p.1, inner_too m other alike pair.0 p.2, lean_too p.0 p.3));
      }

pub enough_best_law : LawEnoughBestToo
enough_best_law m kept other is budget h = (h.0, priced_too m other (kept_alike m kept other is) h.0 h.1, h.2)

pub enough_law : LawEnoughToo
enough_law m kept other is keep budget h = enough_too m other (kept_alike m kept other is) keep budget h
