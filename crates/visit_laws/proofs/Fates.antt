-- What a visit makes of one transition: its fate, or the first fault.
use Rattle.std.proofs.Common.{◌≡◌, ℕ, ◌+◌, Bool, true, false, if◌then◌else◌, List, [], ◌∷◌, ◌++◌, Option, Some, None, Result, Ok, Err, IfSome, ℤ, refl, sym, ap, subst, ◌∙◌, arith}
use Rattle.std.specs.Prelude.{pos, int_le, ◌≤ℤ◌}
use Rattle.std.proofs.lemmas.Bool.{false≢true}
use Rattle.std.proofs.lemmas.Int.{ints}
use Rattle.dp_base.specs.Results.{◌>>=◌}
use Rattle.dp_model.specs.Costs.{InRange, join, join_onto, order_word, ranged}
use Rattle.dp_model.specs.StepTexts.{ground_of}
use Rattle.dp_model.specs.declared.answers.FaultKind.{FaultKind}
use Rattle.dp_model.specs.declared.answers.Spot.{Spot}
use Rattle.dp_model.specs.declared.answers.Spot.TheVariants as spots
use Rattle.dp_model.specs.declared.parts.Transition.{Transition}
use Rattle.dp_model.specs.declared.parts.PlainState.{PlainState}
use Rattle.dp_model.specs.declared.whole.Model.{Model}
use Rattle.dp_steps.specs.States.{Base, Inner, Step, are_members, weight_of}
use Rattle.dp_steps.specs.Bounds.{IsFloor}
use Rattle.dp_steps.specs.Faults.{MayStep, MeetsIn}
use Rattle.state_layout.specs.declared.node.Node.{Node}
use Rattle.spot_eval.specs.Answers.{at_spot}
use Rattle.spot_eval.specs.Looks.{all_at, looked_at}
use Rattle.spot_eval.specs.Moves.{cost_at, effects_at, joined_at, named_enabled, next_at, number_enabled}
use Rattle.spot_eval.specs.declared.tests.Tests.TheVariants.{Preconditions}
use Rattle.spot_eval.specs.declared.ends.SpotFault.{SpotFault}
use Rattle.spot_eval.specs.declared.looks.Look.{Look}
use Rattle.spot_eval.specs.declared.looks.Look.TheVariants as looks
use Rattle.successors.specs.Answers.{Met, after, here}
use Rattle.successors.specs.Searches.{Visit}
use Rattle.successors.specs.Visits.{is_pruned, with_look, with_named, with_number}
use Rattle.successors.specs.declared.batch.Batch.{Batch}
use Rattle.visit_laws.specs.Fates.{Fate, IsFate, IsFaultOf, IsOf, IsSuccessor, Prunes, is_on_arrival}
use Rattle.visit_laws.specs.Looks.{is_looked}
use Rattle.visit_laws.specs.Fates.Fate.{Out, Total, Letter, Pruned}
use Rattle.visit_laws.proofs.Spots.{fault_there}
use Rattle.visit_laws.proofs.Tests.{first_fault}
use Rattle.visit_laws.proofs.Costs.{ranged_value}
use Rattle.visit_laws.proofs.Looks.{Is, look_spot, looked_is}
use Rattle.visit_laws.proofs.Steps.{cost_faults, effect_faults, fault_some, first_effect, next_fault, step_found}

-- ---- pruning

prunes : (m : Model) (best : ℕ) (n : Node) (floor : Option ℤ) → n.floor ≡ floor → is_pruned m best floor ≡ true → Prunes m best n
prunes m best n None q e = absurd (false≢true e)
prunes m best n (Some floor) q e = let test : int_le (pos best) (order_word m.minimize m.join (Some floor)) ≡ true = e in (floor, q, grind (arith, ints))

passes : (m : Model) (best : ℕ) (n : Node) (floor : Option ℤ) → n.floor ≡ floor → is_pruned m best floor ≡ false → Prunes m best n → ⊥
passes m best n None q e p = let clash : None ≡ Some p.0 = sym q ∙ p.1 in absurd (cc)
passes m best n (Some floor) q e p =
    let same : floor ≡ p.0 = cc in
    let at : pos best ≤ℤ order_word m.minimize m.join (Some floor) = rw same p.2 in
    let test : int_le (pos best) (order_word m.minimize m.join (Some floor)) ≡ false = e in
    absurd (grind (arith, ints))

-- ---- the spots of a transition's faults

enabled_is_of_step : (m : Model) (s : PlainState) (g : ℕ) (met : SpotFault) (o : Option (Transition × List ℕ)) → named_enabled m s g o ≡ Err met → IsOf g None met.spot
enabled_is_of_step m s g met None e = absurd (cc)
enabled_is_of_step m s g met (Some t) e = at_members (are_members s t.0.params t.1) e
  where
    at_members : (b : Bool) → (if b then all_at m s (Preconditions g) t.1 0 t.0.preconditions else Ok false) ≡ Err met → IsOf g None met.spot
    at_members true e = rw (first_fault m s (Preconditions g) t.1 t.0.preconditions 0 met e).spot refl
    at_members false e = absurd (cc)

pub enabled_is_of : (m : Model) (s : PlainState) (g : ℕ) (met : SpotFault) → number_enabled m s g ≡ Err met → IsOf g None met.spot
enabled_is_of m s g met e = enabled_is_of_step m s g met (ground_of m g) e

cost_is_of_step : (m : Model) (cost : Option ℤ) (g : ℕ) (met : SpotFault) (r : Result (Option ℤ) FaultKind) → (at_spot (spots.Weight g) r >>= joined_at m cost g) ≡ Err met → IsOf g None met.spot
cost_is_of_step m cost g met (Ok None) e = absurd (cc)
cost_is_of_step m cost g met (Ok (Some w)) e = rw (fault_some (spots.Cost g) (ranged (join_onto m.join cost w)) met e).1 refl
cost_is_of_step m cost g met (Err kind) e = rw (fault_there {A = Option ℤ} (spots.Weight g) (Err kind) met cc).1 refl

cost_is_of : (m : Model) (s : PlainState) (cost : Option ℤ) (g : ℕ) (t : Transition × List ℕ) (met : SpotFault) → cost_at m s cost g t ≡ Err met → IsOf g None met.spot
cost_is_of m s cost g t met e = cost_is_of_step m cost g met (weight_of m s t) e

effect_is_of : (m : Model) (s : PlainState) (g : ℕ) (t : Transition × List ℕ) (met : SpotFault) → next_at m s g t ≡ Err met → IsOf g None met.spot
effect_is_of m s g t met e = rw (first_effect m s g t.1 t.0.effects 0 met (next_fault s (effects_at m s g t.1 0 t.0.effects) met e)).spot refl

-- ---- one transition

-- a batch with the fate of one more transition
abbrev pub add : Batch → ℕ → Fate → Batch
add batch g Out = record batch { not_allowed = batch.not_allowed + 1 }
add batch g (Total total) = record batch { offers = batch.offers ++ record { cost = total; transition = g } ∷ [] }
add batch g (Letter n) = record batch { letters = batch.letters ++ n ∷ [] }
add batch g (Pruned n) = record batch { pruned = batch.pruned ++ n ∷ [] }

-- what is made of a transition that is considered and enabled
abbrev pub Made : Model → Visit → Batch → ℕ → Result Batch Met → Type 0
Made m v batch g (Ok more) = (fate : Fate) × IsFate m v g fate × (more ≡ add batch g fate)
Made m v batch g (Err met) = IsFaultOf m v g met

-- a step at a joined cost in range
abbrev pub Joins : Model → Visit → ℕ → Option ℤ → PlainState → Type 0
Joins m v g cost next = (weight : Option ℤ) × Step m v.state g weight next × (cost ≡ join m.join v.cost weight) × IfSome cost InRange

-- a fault in the successor
fault_after : (m : Model) (v : Visit) (g : ℕ) (cost : Option ℤ) (next : PlainState) (met : SpotFault) → Joins m v g cost next → is_on_arrival met.spot ≡ true → MeetsIn m v.prune cost next met.spot met.kind → IsFaultOf m v g (record { spot = met.spot; kind = met.kind; last = Some g })
fault_after m v g cost next met joins on_arrival meets = record {
  is_of = refl;
  meets = (joins.0, next, joins.1, subst (λ (c : Option ℤ). IfSome c InRange) joins.2 joins.3, subst (λ (c : Option ℤ). MeetsIn m v.prune c next met.spot met.kind) joins.2 meets);
  arrives = on_arrival;
}

-- a fault in the visited state
pub fault_here : (m : Model) (v : Visit) (g : ℕ) (met : SpotFault) → IsOf g None met.spot → MeetsIn m v.prune v.cost v.state met.spot met.kind → IsFaultOf m v g (record { spot = met.spot; kind = met.kind; last = None })
fault_here m v g met is meets = record { is_of = is; meets = meets; arrives = tt }

-- the spots of looks are evaluated on arrival
pub looked_arrives : (spot : Spot) → is_looked spot ≡ true → is_on_arrival spot ≡ true
looked_arrives spots.Total is = refl
looked_arrives (spots.Constraint i) is = is
looked_arrives (spots.BaseCondition i j) is = is
looked_arrives (spots.BaseCost i) is = is
looked_arrives (spots.Bound i) is = is
looked_arrives (spots.Precondition g j) is = is
looked_arrives (spots.Weight g) is = is
looked_arrives (spots.Cost g) is = is
looked_arrives (spots.Effect g i) is = is

made_base : (m : Model) (v : Visit) (batch : Batch) (g : ℕ) (cost : Option ℤ) (next : PlainState) (base : ℤ) (r : Result ℤ FaultKind) → ranged (join_onto m.join cost base) ≡ r → Joins m v g cost next → Base m next base → Made m v batch g (after g (at_spot spots.Total r >>= λ total. Ok (add batch g (Total total))))
made_base m v batch g cost next base (Ok total) q joins is =
    let value = ranged_value (join_onto m.join cost base) total q in (
      Total total,
      record {
        weight = joins.0;
        next = next;
        base = base;
        step = joins.1;
        is_base = is;
        cost_in_range = subst (λ (c : Option ℤ). IfSome c InRange) joins.2 joins.3;
        in_range = rw value.1 value.0;
        is = value.1 ∙ ap (λ (c : Option ℤ). join_onto m.join c base) joins.2;
      },
      refl,
    )
made_base m v batch g cost next base (Err kind) q joins is =
    fault_after m v g cost next (record { spot = spots.Total; kind = kind }) joins refl ((base, is), (base, is, q))

abbrev pub node_of : Visit → ℕ → Option ℤ → PlainState → Option ℤ → Node
node_of v g cost next floor = record { state = next; cost = cost; floor = floor; parent = Some v.id; transition = g }

successor : (m : Model) (v : Visit) (g : ℕ) (cost : Option ℤ) (next : PlainState) (floor : Option ℤ) → Joins m v g cost next → Inner m next → IsFloor m v.prune next cost floor → IsSuccessor m v g (node_of v g cost next floor)
successor m v g cost next floor joins inner is = record { weight = joins.0; step = joins.1; inner = inner; cost = joins.2; in_range = joins.3; floor = is; parent = refl; transition = refl }

made_open : (m : Model) (v : Visit) (batch : Batch) (g : ℕ) (cost : Option ℤ) (next : PlainState) (floor : Option ℤ) (b : Bool) → is_pruned m v.best floor ≡ b → Joins m v g cost next → Inner m next → IsFloor m v.prune next cost floor → Made m v batch g (Ok (if b then add batch g (Pruned (node_of v g cost next floor)) else add batch g (Letter (node_of v g cost next floor))))
made_open m v batch g cost next floor true q joins inner is = (Pruned (node_of v g cost next floor), (successor m v g cost next floor joins inner is, prunes m v.best (node_of v g cost next floor) floor refl q), refl)
made_open m v batch g cost next floor false q joins inner is = (Letter (node_of v g cost next floor), (successor m v g cost next floor joins inner is, passes m v.best (node_of v g cost next floor) floor refl q), refl)

made_look : (m : Model) (v : Visit) (batch : Batch) (g : ℕ) (cost : Option ℤ) (next : PlainState) (r : Result Look SpotFault) → looked_at m v.prune next cost ≡ r → Is m v.prune next cost r → Joins m v g cost next → Made m v batch g (after g (r >>= with_look m v g cost next batch))
made_look m v batch g cost next (Err met) q is joins = fault_after m v g cost next met joins (looked_arrives met.spot (look_spot m v.prune next cost met q)) is
made_look m v batch g cost next (Ok looks.NotAllowed) q is joins = (Out, (joins.0, next, joins.1, subst (λ (c : Option ℤ). IfSome c InRange) joins.2 joins.3, is), refl)
made_look m v batch g cost next (Ok (looks.Base base)) q is joins = made_base m v batch g cost next base (ranged (join_onto m.join cost base)) refl joins is
made_look m v batch g cost next (Ok (looks.Open floor)) q is joins = made_open m v batch g cost next floor (is_pruned m v.best floor) refl joins is.0 is.1

made_next : (m : Model) (v : Visit) (batch : Batch) (g : ℕ) (t : Transition × List ℕ) (cost : Option ℤ) (r : Result PlainState SpotFault) → next_at m v.state g t ≡ r → IfSome v.cost InRange → MayStep m v.state g → ground_of m g ≡ Some t → cost_at m v.state v.cost g t ≡ Ok cost → Made m v batch g (here r >>= λ next. after g (looked_at m v.prune next cost >>= with_look m v g cost next batch))
made_next m v batch g t cost (Ok next) q range may there found = made_look m v batch g cost next (looked_at m v.prune next cost) refl (looked_is m v.prune next cost) (step_found m v.state v.cost g t cost next range may there found q)
made_next m v batch g t cost (Err met) q range may there found = fault_here m v g met (effect_is_of m v.state g t met q) (effect_faults m v.prune v.cost v.state g t cost met range may there found q)

made_cost : (m : Model) (v : Visit) (batch : Batch) (g : ℕ) (t : Transition × List ℕ) (r : Result (Option ℤ) SpotFault) → cost_at m v.state v.cost g t ≡ r → IfSome v.cost InRange → MayStep m v.state g → ground_of m g ≡ Some t → Made m v batch g (here r >>= λ cost. here (next_at m v.state g t) >>= λ next. after g (looked_at m v.prune next cost >>= with_look m v g cost next batch))
made_cost m v batch g t (Ok cost) q range may there = made_next m v batch g t cost (next_at m v.state g t) refl range may there q
made_cost m v batch g t (Err met) q range may there = fault_here m v g met (cost_is_of m v.state v.cost g t met q) (cost_faults m v.prune v.cost v.state g t met may there q)

pub made : (m : Model) (v : Visit) (batch : Batch) (g : ℕ) → IfSome v.cost InRange → MayStep m v.state g → Made m v batch g (with_number m v batch g)
made m v batch g range may =
    let t = may.2.0 in
    let there = may.2.1 in
    subst (λ (o : Option (Transition × List ℕ)). Made m v batch g (with_named m v batch g o)) (sym there) (made_cost m v batch g t (cost_at m v.state v.cost g t) refl range may there)
