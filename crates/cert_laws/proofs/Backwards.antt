-- The law of certificates: no completion of a node is worth less than the claimed word. Where only nodes of the next layer cover,
-- by an induction over the layers that are left; where nodes of earlier layers cover too, by one over the length of the
-- completion.
use Rattle.std.proofs.Common.{◌≡◌, ℕ, ◌+◌, ◌≤◌, ◌<◌, ◌⊎◌, inl, inr, zero, suc, Bool, true, false, List, [], ◌∷◌, ◌++◌, length, slice_get, Option, Some, None, sym, subst, ◌∙◌, ap, refl, arith}
use Rattle.std.specs.Prelude.{ℤ, IfSome}
use Rattle.std.proofs.lemmas.List.{get_or_past}
use Rattle.std.proofs.lemmas.Option.{get_or_from_slice_get}
use Rattle.dp_model.specs.Costs.{InRange, join, join_onto}
use Rattle.dp_model.specs.declared.answers.Claim.{Claim}
use Rattle.dp_model.specs.declared.answers.Claim.TheVariants.{Optimal, Infeasible}
use Rattle.dp_model.specs.declared.answers.Keep.{Keep}
use Rattle.dp_model.specs.declared.answers.Keep.TheVariants.{Layer, All}
use Rattle.dp_model.specs.declared.parts.PlainState.{PlainState}
use Rattle.dp_model.specs.declared.whole.Model.{Model}
use Rattle.dp_steps.specs.Bounds.{IsFloor}
use Rattle.dp_steps.specs.Lists.{Completion, Solution}
use Rattle.dp_steps.specs.States.{Base, Forbidden, Inner}
use Rattle.cert_types.specs.declared.cert.Cert.{Cert}
use Rattle.cert_types.specs.declared.nodes.CertNode.{CertNode}
use Rattle.cert_laws.specs.Shown.{word, claimed_word, layer_of, list_of, IsAt, Stands, IsNotBelow, IsHigh, MayCover, IsCovered, LeadsTo, Accounts, ClaimHolds, Shown}
use Rattle.cert_laws.specs.Laws.{IsTrusted, ClaimIsTrue, LawShown}
use Rattle.cert_laws.proofs.Costs.{assoc, isotone, least_trans, word_no_better, below_none}
use Rattle.cert_laws.proofs.Moves.{inner_not_base, forbidden_not_allowed, base_same, step_same, step_enabled, leads_more, leads_range}
use Rattle.cert_laws.proofs.Trust.{Fair, fair, IsReached}

-- no word of a cost that is joined onto a number of this worth is less than the claimed one
abbrev IsWorth : Model → Claim → Option ℤ → ℤ → Type 0
IsWorth m claim cost value = IsNotBelow m claim (join_onto m.join cost value)

-- ---- a node that stands

stands_reached : (m : Model) (cert : Cert) (l place : ℕ) (s : PlainState) (cost : Option ℤ) → Stands m cert l place s cost → IsReached m s
stands_reached m cert l place s cost stands = (list_of cert.layers l place, ((cost, stands.path), stands.inner))

stands_range : (m : Model) (cert : Cert) (l place : ℕ) (s : PlainState) (cost : Option ℤ) → Stands m cert l place s cost → IfSome cost InRange
stands_range m cert l place s cost stands = leads_range m m.target None (list_of cert.layers l place) s cost tt stands.path

-- behind the last layer no node stands
none_stands : (m : Model) (cert : Cert) (l place : ℕ) (s : PlainState) (cost : Option ℤ) → length cert.layers ≤ l → Stands m cert l place s cost → ⊥
none_stands m cert l place s cost le stands =
    let e = get_or_past cert.layers l [] le in
    nothing place stands.node (subst (λ (nodes : List CertNode). slice_get nodes place ≡ Some stands.node) e stands.at)
  where
    nothing : (place : ℕ) (n : CertNode) → slice_get [] place ≡ Some n → ⊥
    nothing place n h = let no : None ≡ Some n = h in cc

-- ---- where a step from a node leads

-- a floor that is no less than the claimed word: no completion is worth less
by_floor : (m : Model) (cert : Cert) → Fair m cert.prune cert.keep → (s : PlainState) (cost : Option ℤ) (floor : ℤ) → IsReached m s → IfSome cost InRange → IsFloor m cert.prune s cost (Some floor)
    → IsNotBelow m cert.claim floor → (steps : List ℕ) (value : ℤ) → Completion m s steps value → IsWorth m cert.claim cost value
by_floor m cert fair s cost floor reach range is high steps value done =
    least_trans (claimed_word m cert.claim) (word m (Some floor)) (word m (Some (join_onto m.join cost value))) high (fair.floors s cost floor reach range is steps value done)

-- nodes of a layer have no completion, shorter than this list, that is worth less than the claimed word
abbrev NoShorter : Model → Cert → (layer : ℕ) → List ℕ → Type 0
NoShorter m cert layer steps =
    (l place : ℕ) (s : PlainState) (cost : Option ℤ) → MayCover cert.keep layer l → Stands m cert l place s cost → (u : List ℕ) (v : ℤ) → Completion m s u v → (cert.keep ≡ All → length u < length steps)
    → IsWorth m cert.claim cost v

-- what a covered state's completion is worth
by_covered : (m : Model) (cert : Cert) → Fair m cert.prune cert.keep → (layer : ℕ) (s : PlainState) (cost : Option ℤ) → IsReached m s → IfSome cost InRange → IsCovered m cert layer s cost
    → (t : ℕ) (steps : List ℕ) (value : ℤ) → Completion m s steps value → NoShorter m cert layer (t ∷ steps) → IsWorth m cert.claim cost value
by_covered m cert fair layer s cost reach range c t steps value done on =
    let reach' = stands_reached m cert c.l c.place c.state c.so_far c.stands in
    let range' = stands_range m cert c.l c.place c.state c.so_far c.stands in
    let d = fair.better c.state s reach' reach c.covers.0 steps value done in
    least_trans (claimed_word m cert.claim) (word m (Some (join_onto m.join c.so_far d.1))) (word m (Some (join_onto m.join cost value)))
    (on c.l c.place c.state c.so_far c.may c.stands d.0 d.1 d.2 (λ all. shorter (length d.0) (length steps) (d.4 all)))
    (isotone m.minimize m.join c.so_far cost d.1 value range' range c.covers.1 d.3)
  where
    shorter : (a b : ℕ) → a ≤ b → a < suc b
    shorter a b h = omega arith

-- a successor that is floored or covered
by_needless : (m : Model) (cert : Cert) → Fair m cert.prune cert.keep → (layer : ℕ) (s : PlainState) (cost : Option ℤ) → IsReached m s → IfSome cost InRange → (floor : Option ℤ) → IsFloor m cert.prune s cost floor
    → IsHigh m cert.claim floor ⊎ IsCovered m cert layer s cost → (t : ℕ) (steps : List ℕ) (value : ℤ) → Completion m s steps value → NoShorter m cert layer (t ∷ steps) → IsWorth m cert.claim cost value
by_needless m cert fair layer s cost reach range None is (inl high) t steps value done on = absurd high
by_needless m cert fair layer s cost reach range (Some floor) is (inl high) t steps value done on = by_floor m cert fair s cost floor reach range is high steps value done
by_needless m cert fair layer s cost reach range floor is (inr covered) t steps value done on = by_covered m cert fair layer s cost reach range covered t steps value done on

-- a state that is not allowed has no completion
forbidden_ends : (m : Model) (s : PlainState) (steps : List ℕ) (value : ℤ) → Forbidden m s → Completion m s steps value → ⊥
forbidden_ends m s [] value out done = forbidden_not_allowed m s out done.allowed
forbidden_ends m s (t ∷ steps) value out done = forbidden_not_allowed m s out done.3.inner.allowed

-- the completion of a base state is its base cost
base_ends : (m : Model) (s : PlainState) (base : ℤ) (steps : List ℕ) (value : ℤ) → Base m s base → Completion m s steps value → base ≡ value
base_ends m s base [] value is done = base_same m s base value is done
base_ends m s base (t ∷ steps) value is done = absurd (inner_not_base m s base done.3.inner is)

-- an inner state that a step leads to from a node is reached
next_reached : (m : Model) (cert : Cert) (l place : ℕ) (s : PlainState) (cost : Option ℤ) → Stands m cert l place s cost → (t : ℕ) (next : PlainState) (joined : Option ℤ) → LeadsTo m s cost t next joined → Inner m next → IsReached m next
next_reached m cert l place s cost stands t next joined leads inner =
    let u = list_of cert.layers l place in
    let range = subst (λ (c : Option ℤ). IfSome c InRange) leads.is leads.in_range in
    (u ++ t ∷ [], ((join m.join cost leads.weight, leads_more m m.target None u s cost stands.path t next leads.weight leads.step range), inner))

-- what the completion after one step is worth
by_step : (m : Model) (cert : Cert) → Fair m cert.prune cert.keep → (l place : ℕ) (s : PlainState) (cost : Option ℤ) → Stands m cert l place s cost → (t : ℕ) (a : Accounts m cert l s cost t)
    → (steps : List ℕ) (value : ℤ) → Completion m a.next steps value → NoShorter m cert (l + 1) (t ∷ steps) → IsWorth m cert.claim a.joined value
by_step m cert fair l place s cost stands t a steps value done on =
    elim a.settled [
      | inl out ↦ absurd (forbidden_ends m a.next steps value out done)
      | inr other ↦ elim other [
        | inl ends ↦
            let same : ends.base ≡ value = base_ends m a.next ends.base steps value ends.is_base done in
            let total : ends.total ≡ join_onto m.join a.joined value = ends.is ∙ ap (join_onto m.join a.joined) same in
            subst (IsNotBelow m cert.claim) total ends.high
        | inr goes ↦
            by_needless m cert fair (l + 1) a.next a.joined (next_reached m cert l place s cost stands t a.next a.joined a.leads goes.inner) a.leads.in_range goes.floor goes.is_floor goes.needless t steps value done on
      ]
    ]

-- what the completion of an open node is worth
by_open : (m : Model) (cert : Cert) → Fair m cert.prune cert.keep → Shown m cert → (l place : ℕ) (s : PlainState) (cost : Option ℤ) → (stands : Stands m cert l place s cost) → stands.node.cut ≡ false
    → (steps : List ℕ) (value : ℤ) → Completion m s steps value → NoShorter m cert (l + 1) steps → IsWorth m cert.claim cost value
by_open m cert fair shown l place s cost stands is_open [] value done on = absurd (inner_not_base m s value stands.inner done)
by_open m cert fair shown l place s cost stands is_open (t ∷ steps) value done on =
    let a = shown.steps l place s cost stands is_open t done.3.considered (step_enabled m s t done.1 done.0 done.3) in
    let same = step_same m s t done.1 a.leads.weight done.0 a.next done.3 a.leads.step in
    let done' = subst (λ (x : PlainState). Completion m x steps done.2) same.1 done.4 in
    let worth = by_step m cert fair l place s cost stands t a steps done.2 done' on in
    let joined : a.joined ≡ join m.join cost done.1 = a.leads.is ∙ ap (join m.join cost) (sym same.0) in
    let e : join_onto m.join a.joined done.2 ≡ join_onto m.join cost value =
    ap (λ (c : Option ℤ). join_onto m.join c done.2) joined ∙ assoc m.join cost done.1 done.2 ∙ ap (join_onto m.join cost) (sym done.5) in
    subst (IsNotBelow m cert.claim) e worth

-- what the completion of a node is worth
by_node : (m : Model) (cert : Cert) → Fair m cert.prune cert.keep → Shown m cert → (l place : ℕ) (s : PlainState) (cost : Option ℤ) → (stands : Stands m cert l place s cost) → (cut : Bool) → stands.node.cut ≡ cut
    → (steps : List ℕ) (value : ℤ) → Completion m s steps value → NoShorter m cert (l + 1) steps → IsWorth m cert.claim cost value
by_node m cert fair shown l place s cost stands true is steps value done on =
    let c = shown.cuts l place s cost stands is in
    by_floor m cert fair s cost c.0 (stands_reached m cert l place s cost stands) (stands_range m cert l place s cost stands) c.1 c.2 steps value done
by_node m cert fair shown l place s cost stands false is steps value done on = by_open m cert fair shown l place s cost stands is steps value done on

-- ---- the two inductions

-- by the layers that are left
from_layer : (m : Model) (cert : Cert) → Fair m cert.prune cert.keep → Shown m cert → cert.keep ≡ Layer → (left l : ℕ) → l + left ≡ length cert.layers
    → (place : ℕ) (s : PlainState) (cost : Option ℤ) → Stands m cert l place s cost → (steps : List ℕ) (value : ℤ) → Completion m s steps value → IsWorth m cert.claim cost value
from_layer m cert fair shown keep zero l at place s cost stands steps value done =
    absurd (none_stands m cert l place s cost (at_most l (length cert.layers) at) stands)
  where
    at_most : (l b : ℕ) → l + 0 ≡ b → b ≤ l
    at_most l b e = omega arith
from_layer m cert fair shown keep (suc left) l at place s cost stands steps value done =
    by_node m cert fair shown l place s cost stands stands.node.cut refl steps value done
    (λ k q s' cost' may stands' u v done' shorter. from_layer m cert fair shown keep left k (next l left (length cert.layers) at k (subst (λ (kept : Keep). MayCover kept (l + 1) k) keep may)) q s' cost' stands' u v done')
  where
    next : (l left b : ℕ) → l + suc left ≡ b → (k : ℕ) → k ≡ l + 1 → k + left ≡ b
    next l left b e k f = omega (arith, e, f)

-- by the length of the completion, whatever the layers
from_length : (m : Model) (cert : Cert) → Fair m cert.prune cert.keep → Shown m cert → cert.keep ≡ All → (k l place : ℕ) (s : PlainState) (cost : Option ℤ) → Stands m cert l place s cost
    → (steps : List ℕ) (value : ℤ) → Completion m s steps value → length steps < k → IsWorth m cert.claim cost value
from_length m cert fair shown keep zero l place s cost stands steps value done lt = absurd (never (length steps) lt)
  where
    never : (n : ℕ) → n < 0 → ⊥
    never n lt = absurd (omega arith)
from_length m cert fair shown keep (suc k) l place s cost stands steps value done lt =
    by_node m cert fair shown l place s cost stands stands.node.cut refl steps value done
    (λ j q s' cost' may stands' u v done' shorter. from_length m cert fair shown keep k j q s' cost' stands' u v done' (less (length u) (length steps) k (shorter keep) lt))
  where
    less : (a b k : ℕ) → a < b → b < suc k → a < k
    less a b k h f = omega arith

no_completion_below : (keep : Keep) (m : Model) (cert : Cert) → Fair m cert.prune cert.keep → Shown m cert → cert.keep ≡ keep → (place : ℕ) (s : PlainState) (cost : Option ℤ) → Stands m cert 0 place s cost
    → (steps : List ℕ) (value : ℤ) → Completion m s steps value → IsWorth m cert.claim cost value
no_completion_below Layer m cert fair shown keep place s cost stands steps value done = from_layer m cert fair shown keep (length cert.layers) 0 (from_zero (length cert.layers)) place s cost stands steps value done
  where
    from_zero : (k : ℕ) → 0 + k ≡ k
    from_zero k = omega arith
no_completion_below All m cert fair shown keep place s cost stands steps value done = from_length m cert fair shown keep (suc (length steps)) 0 place s cost stands steps value done (next (length steps))
  where
    next : (n : ℕ) → n < suc n
    next n = omega arith

-- ---- the law

-- the node that stands alone in layer 0 is the target's
start_stands : (m : Model) (cert : Cert) → Shown m cert → (n : CertNode) → slice_get cert.layers 0 ≡ Some (n ∷ []) → Stands m cert 0 0 m.target None
start_stands m cert shown n alone =
    let nodes : layer_of cert.layers 0 ≡ n ∷ [] = get_or_from_slice_get cert.layers 0 (n ∷ []) [] alone in
    let at : IsAt cert 0 0 n = ap (λ (ns : List CertNode). slice_get ns 0) nodes in
    let p = shown.nodes 0 0 n at in
    record { node = n; at = at; path = (refl, refl); inner = subst (Inner m) (sym p.1.0.1.0) p.1.1 }

-- no legal list is worth less than the claimed word
none_below : (m : Model) (cert : Cert) → IsTrusted m cert → Shown m cert → (steps : List ℕ) (cost : ℤ) → Solution m steps cost → IsNotBelow m cert.claim cost
none_below m cert trusted shown steps cost solution =
    elim shown.target [
      | inl out ↦ absurd (forbidden_ends m m.target steps cost out solution.completes)
      | inr other ↦ elim other [
        | inl base ↦ subst (IsNotBelow m cert.claim) (base_ends m m.target base.0 steps cost base.1 solution.completes) base.2
        | inr alone ↦
            no_completion_below cert.keep m cert (fair m cert.prune cert.keep trusted) shown refl 0 m.target None (start_stands m cert shown alone.0 alone.1) steps cost solution.completes
      ]
    ]

claim_is_true : (m : Model) (claim : Claim) → ClaimHolds m claim → ((steps : List ℕ) (cost : ℤ) → Solution m steps cost → IsNotBelow m claim cost) → ClaimIsTrue m claim
claim_is_true m (Optimal found) holds below = (holds, λ steps cost solution. word_no_better m.minimize m.join found.cost cost (below steps cost solution))
claim_is_true m Infeasible holds below = λ steps cost solution. below_none m.minimize m.join cost solution.in_range (below steps cost solution)

pub law : LawShown
law m cert trusted shown = claim_is_true m cert.claim shown.claim (none_below m cert trusted shown)
