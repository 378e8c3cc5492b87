-- What the passes of a run prove by the floors of the nodes that they dropped.
use Rattle.std.proofs.Common.{◌≡◌, ℕ, ◌+◌, ◌≤◌, inl, inr, Bool, true, false, not, List, [], ◌∷◌, ◌++◌, length, refl, sym, ap, ◌∙◌, subst, Option, Some, None, ℤ, arith}
use Rattle.std.specs.Prelude.{IfSome}
use Rattle.std.specs.Option.{option_to_list}
use Rattle.std.proofs.lemmas.Int.{ints}
use Rattle.std.proofs.lemmas.Bool.{cases_lt}
use Rattle.std.proofs.lemmas.List.{map-append}
use Rattle.board_words.specs.Steps.{best_known}
use Rattle.board_words.specs.declared.seat.View.{View}
use Rattle.cost_laws.specs.Orders.{InWideRange}
use Rattle.dp_claims.specs.Enough.{Has}
use Rattle.dp_model.specs.Costs.{InRange}
use Rattle.dp_model.specs.declared.answers.Found.{Found}
use Rattle.dp_model.specs.declared.answers.Options.{Options}
use Rattle.dp_model.specs.declared.answers.Verdict.TheVariants as verdicts
use Rattle.dp_model.specs.declared.whole.Model.{Model}
use Rattle.gap_ends.proofs.Dropped.{gap_law}
use Rattle.gap_laws.proofs.Bounds.{proved_law, run_bound_law}
use Rattle.gap_laws.proofs.Costs.{either}
use Rattle.gap_laws.specs.Gaps.{AreMore, IsReachedFloor, IsShownBy, NoneBetter}
use Rattle.gap_laws.specs.Gaps as gaps
use Rattle.pass_ends.specs.Ends.{IsLegal, IsPassEnd, dropped_of}
use Rattle.pass_ends.specs.Passes as runs
use Rattle.pass_ends.specs.declared.answers.PassEnd.TheVariants as ends
use Rattle.pass_ledger.proofs.Lists.{has_left, has_right}
use Rattle.pass_ledger.specs.Passes as ledgers
use Rattle.solve_passes.proofs.Drops.{has_no}
use Rattle.solve_passes.proofs.Passing.{solutions_more}
use Rattle.solve_passes.specs.Ongoing.{HasWord, IsBoundOf, IsImproved, IsWordOf, MeetsFloor, Passes, floor_for, held_after, held_cost, solutions_of, verdict_of}
use Rattle.solve_passes.specs.Records.{Pass, Ended, IsTrusted, KeepsWord, RightBound, RightVerdict, UsesFloors, costs, last_solution}
use Rattle.width_loop.specs.Gaps.{pass_bound, with_floor}

-- ---- costs that have order words

in_wide : (c : ℤ) → InRange c → InWideRange c
in_wide c h = (omega (arith, ints, h.0, h.1), omega (arith, ints, h.0, h.1))

pub legal_word : (m : Model) (best : Option Found) → IsLegal m best → HasWord best
legal_word m None legal = tt
legal_word m (Some f) legal = in_wide f.cost legal.in_range

-- the solution that is held after a pass has one
pub word_held : (m : Model) (held best found : Option Found) → IsImproved m held best found → HasWord held → HasWord best → HasWord (held_after held found)
word_held m held best None improved held_has best_has = held_has
word_held m held best (Some f) improved held_has best_has = subst HasWord improved.0 best_has

pub wide_held : (held : Option Found) → HasWord held → IfSome (held_cost held) InWideRange
wide_held None has = tt
wide_held (Some f) has = has

wide_pass : (minimize : Bool) (held : Option ℤ) (floor : ℤ) → IfSome held InWideRange → InWideRange floor → InWideRange (pass_bound minimize held floor)
wide_pass minimize None floor held_wide floor_wide = floor_wide
wide_pass minimize (Some h) floor held_wide floor_wide = either InWideRange minimize h floor held_wide floor_wide

-- so has the bound after a pass
pub wide_after : (minimize : Bool) (bound held floor : Option ℤ) → IfSome bound InWideRange → IfSome held InWideRange → IfSome floor InWideRange → IfSome (with_floor minimize bound held floor) InWideRange
wide_after minimize bound held None bound_wide held_wide floor_wide = bound_wide
wide_after minimize None held (Some floor) bound_wide held_wide floor_wide = wide_pass minimize held floor held_wide floor_wide
wide_after minimize (Some b) held (Some floor) bound_wide held_wide floor_wide = either InWideRange (not minimize) b (pass_bound minimize held floor) bound_wide (wide_pass minimize held floor held_wide floor_wide)

wide_shown : (p : ledgers.Pass) (best : ℕ) (floor : Option ℤ) → IsShownBy p best floor → IfSome floor InWideRange
wide_shown p best None shown = tt
wide_shown p best (Some floor) shown = shown.wide

-- so has the best floor of the dropped nodes of a pass
pub wide_floor : (p : ledgers.Pass) (before after : View) (visited dropped : ℕ) (floor : Option ℤ) (best : Option Found) → ledgers.StartsInner p → 1 ≤ p.share → IsPassEnd p before after (ends.Closed visited dropped floor best) → IfSome floor InWideRange
wide_floor p before after visited dropped None best inner share end = tt
wide_floor p before after visited dropped (Some floor) best inner share end =
    elim (cases_lt 0 dropped) [
      | inl some ↦ wide_shown p (best_known after) (Some floor) (gap_law p before after visited dropped (Some floor) best inner share end some)
      | inr none ↦
          let c = end.2 in
          absurd (has_no (dropped_of c.records p.shards) c.floor_is.0.0 (omega (arith, none, c.drops)) c.floor_is.0.1)
    ]

pub wide_floor_for : (gap : Bool) (floor : Option ℤ) → IfSome floor InWideRange → IfSome (floor_for gap floor) InWideRange
wide_floor_for true floor wide = wide
wide_floor_for false floor wide = tt

-- ---- the costs that were printed

map_found : (found : Option Found) (xs ys : List ℤ) → ((c : ℤ) → Has xs c → Has ys c) → IfSome (held_cost found) (Has xs) → IfSome (held_cost found) (Has ys)
map_found None xs ys more has = tt
map_found (Some f) xs ys more has = more f.cost has

last_has : (fs : List Found) → IfSome (held_cost (last_solution fs)) (Has (costs fs))
last_has [] = tt
last_has (f ∷ []) = (0, refl)
last_has (f ∷ g ∷ fs) = map_found (last_solution (g ∷ fs)) (costs (g ∷ fs)) (costs (f ∷ g ∷ fs)) (λ c has. has_right (f.cost ∷ []) (costs (g ∷ fs)) c has) (last_has (g ∷ fs))

-- the cost of the solution that is held is one of them
pub held_has : (fs : List Found) (held : Option Found) → last_solution fs ≡ held → IfSome (held_cost held) (Has (costs fs))
held_has fs held last = subst (λ (o : Option Found). IfSome (held_cost o) (Has (costs fs))) last (last_has fs)

-- after a pass they are still there
pub costs_more : (ps : List Pass) (p : Pass) → AreMore (costs (solutions_of ps)) (costs (solutions_of (ps ++ p ∷ [])))
costs_more ps p c has =
    let first : costs (solutions_of ps ++ option_to_list p.found) ≡ costs (solutions_of ps) ++ costs (option_to_list p.found) = map-append (λ (f : Found). f.cost) (solutions_of ps) (option_to_list p.found) in
    subst (λ (cs : List ℤ). Has cs c) (sym (ap costs (solutions_more ps p) ∙ first)) (has_left (costs (solutions_of ps)) (costs (option_to_list p.found)) c has)

-- ---- the bound of a run

pub word_is : (m : Model) (best : ℕ) (held : Option Found) → IsWordOf m best held → gaps.IsWordOf m best (held_cost held)
word_is m best None word = word
word_is m best (Some f) word = word

-- one pass more
pub bound_more : (m : Model) (options : Options) (gap : Bool) (share : ℕ) (some : 1 ≤ options.workers) (best count : ℕ) (found more : List Found) (bound held floor : Option ℤ) → IsBoundOf m options gap count found bound → AreMore (costs found) (costs more) →
    IfSome held (Has (costs more)) → IfSome held InWideRange → gaps.IsWordOf m best held → IsShownBy (runs.pass_of m options share some) best floor → IsBoundOf m options gap (count + 1) more (with_floor m.minimize bound held (floor_for gap floor))
bound_more m options true share some best count found more bound held floor proved all has wide word shown =
    run_bound_law (runs.pass_of m options share some) best count (costs found) (costs more) bound held floor proved all has wide word shown
bound_more m options false share some best count found more bound held floor proved all has wide word shown = proved

-- before `stopped`
pub stopped_bound : (m : Model) (options : Options) (gap : Bool) (count : ℕ) (ps : List Pass) (p : Pass) (visits : ℕ) (bound : Option ℤ) → IsBoundOf m options gap count (solutions_of ps) bound → length (ps ++ p ∷ []) ≡ count + 1 →
    RightBound m options gap (record { at_target = None; passes = ps ++ p ∷ []; bound = bound; ending = Ended (verdicts.Stopped visits) }) bound
stopped_bound m options false count ps p visits None proved counted = λ needs. let clash : false ≡ true = needs.1.0 in absurd cc
stopped_bound m options false count ps p visits (Some b) proved counted = let clash : Some b ≡ None = proved in absurd cc
stopped_bound m options true count ps p visits None (inl none) counted = λ needs. omega (arith, none, counted, needs.2)
stopped_bound m options true count ps p visits None (inr without) counted = λ needs. let clash : false ≡ true = sym without ∙ needs.1.1 in absurd cc
stopped_bound m options true count ps p visits (Some b) proved counted = (
  ((visits, refl), (refl, proved.1), omega (arith, proved.0, counted)),
  elim proved.2.is_one [ inl printed ↦ inl (costs_more ps p b printed) | inr reached ↦ inr reached ],
)

-- where the model is honest, no legal list is better than it
pub stopped_word : (m : Model) (options : Options) (gap : Bool) (count : ℕ) (found : List Found) (bound : Option ℤ) → IsBoundOf m options gap count found bound → IfSome bound (λ b. IsTrusted m options → NoneBetter m b)
stopped_word m options gap count found None proved = tt
stopped_word m options true count found (Some b) proved = proved.2.none
stopped_word m options false count found (Some b) proved = let clash : Some b ≡ None = proved in absurd cc

-- ---- a verdict by floors

-- there is no bound before a verdict on what is held
pub no_bound_before_verdict : (m : Model) (options : Options) (gap : Bool) (ps : List Pass) (held : Option Found) → RightBound m options gap (record { at_target = None; passes = ps; bound = None; ending = Ended (verdict_of held) }) None
no_bound_before_verdict m options gap ps None = λ needs. let clash : Ended verdicts.Infeasible ≡ Ended (verdicts.Stopped needs.0.0) = needs.0.1 in absurd cc
no_bound_before_verdict m options gap ps (Some f) = λ needs. let clash : Ended (verdicts.Optimal f.cost) ≡ Ended (verdicts.Stopped needs.0.0) = needs.0.1 in absurd cc

-- what is known where the solution that is held meets the floors of the dropped nodes
pub record IsProved (m : Model) (options : Options) (gap : Bool) (held : Option Found) : Type 0 where
  pub found : Found
  pub is_held : held ≡ Some found
  pub uses : UsesFloors m options gap
  pub none : IsTrusted m options → NoneBetter m found.cost

pub met_floor : (m : Model) (options : Options) (gap : Bool) (share : ℕ) (some : 1 ≤ options.workers) (best : ℕ) (floor : Option ℤ) (held : Option Found) → IsShownBy (runs.pass_of m options share some) best floor → IsWordOf m best held → MeetsFloor m (floor_for gap floor) held → IsProved m options gap held
met_floor m options false share some best floor held shown word met = absurd met
met_floor m options true share some best None held shown word met = absurd met
met_floor m options true share some best (Some c) None shown word met = absurd met
met_floor m options true share some best (Some c) (Some f) shown word met = record { found = f; is_held = refl; uses = (refl, shown.floors); none = proved_law (runs.pass_of m options share some) best f.cost c shown word met }

pub proved_right : (m : Model) (options : Options) (gap : Bool) (held : Option Found) (count visited : ℕ) (ps : List Pass) → IsProved m options gap held → Passes m options.keep held count visited ps → RightVerdict m options gap (record { at_target = None; passes = ps; bound = None; ending = Ended (verdict_of held) }) (verdict_of held)
proved_right m options gap None count visited ps proved h = let clash : None ≡ Some proved.found = proved.is_held in absurd cc
proved_right m options gap (Some f) count visited ps proved h = (ap held_cost h.last, inr (inl proved.uses))

pub proved_word : (m : Model) (options : Options) (gap : Bool) (held : Option Found) → IsProved m options gap held → KeepsWord m options None (Ended (verdict_of held))
proved_word m options gap None proved = let clash : None ≡ Some proved.found = proved.is_held in absurd cc
proved_word m options gap (Some f) proved = λ trusted.
    let e : Some f ≡ Some proved.found = proved.is_held in
    let same : proved.found ≡ f = cc in
    subst (λ (x : Found). NoneBetter m x.cost) same (proved.none trusted)
