-- Answers of passes, with the views of the board's whole seat before and after them.
use Rattle.std.specs.Prelude.{◌≡◌, ℕ, ◌-◌, false, [], ◌∷◌, Option, Some, None, ℤ, pos}
use Rattle.board_words.specs.Rules.{whole_part}
use Rattle.board_words.specs.declared.seat.View.{View}
use Rattle.dp_model.specs.declared.answers.Cause.TheVariants as causes
use Rattle.dp_model.specs.declared.answers.FaultAt.{FaultAt}
use Rattle.dp_model.specs.declared.answers.FaultKind.TheVariants.{ZeroDivisor}
use Rattle.dp_model.specs.declared.answers.Found.{Found}
use Rattle.dp_model.specs.declared.answers.Keep.TheVariants as keeps
use Rattle.dp_model.specs.declared.answers.Spot.TheVariants as spots
use Rattle.pass_ledger.specs.Worked.{plain, alone, first_pass, word_11, word_3, no_word}
use Rattle.pass_ledger.specs.WorkedFault.{meeting}
use Rattle.pass_ledger.specs.WorkedFloors.{pruning, dropping}
use Rattle.pass_ends.specs.Ends.{HasDrawn, IsCause, IsClosed, IsHalted}

-- The view of the whole seat of a board with a limit of 4 visits: how many numbers were drawn, the halt, and the least word offered.
abbrev pub whole : (drawn raised offered : ℕ) → View
whole drawn raised offered =
    record { part = whole_part; opening = no_word; limit = 4; seen = no_word; offered = offered; drawn = drawn; late = drawn - 4; top = drawn; raised = raised; met = raised }

-- before the pass two numbers were drawn, and after it five, the last one late
abbrev pub before : View
before = whole 2 0 no_word

abbrev pub spent : (raised : ℕ) → View
spent raised = whole 5 raised no_word

-- ---- causes

-- the fault of the worked run that meets one
abbrev pub met : FaultAt
met = record { steps = 1 ∷ []; spot = spots.Bound 0; kind = ZeroDivisor }

pub record LawWorkedCauses : Type 0 where
  pub budget : IsCause (alone 2) before (spent 1) causes.Budget
  pub no_halt : IsCause (alone 2) before (spent 0) causes.Budget → ⊥
  pub want_of_memory : IsCause (alone 2) before (spent 2) causes.Budget → ⊥
  pub a_fault : IsCause (alone 2) before (spent 3) causes.Budget → ⊥
  pub none_late : IsCause (alone 2) before (whole 4 1 no_word) causes.Budget → ⊥
  pub late_before : IsCause (alone 2) (spent 0) (spent 1) causes.Budget → ⊥
  pub fault : IsCause meeting before (spent 3) (causes.Fault met)
  pub fault_not_raised : IsCause meeting before (spent 1) (causes.Fault met) → ⊥
  pub fault_not_met : IsCause (record meeting { prune = false }) before (spent 3) (causes.Fault met) → ⊥

-- ---- draws

-- of the three numbers that were drawn since, one is late
pub record LawWorkedDraws : Type 0 where
  pub two : HasDrawn plain keeps.Layer before (spent 1) 2
  pub no_other : (visited : ℕ) → HasDrawn plain keeps.Layer before (spent 1) visited → visited ≡ 2
  -- no model's pass visits more nodes than there are pairs
  pub not_four : (visited : ℕ) → HasDrawn plain keeps.Layer before (whole 6 1 no_word) visited → ⊥

-- ---- closed passes

abbrev pub best_11 : Found
best_11 = record { cost = pos 11; steps = 0 ∷ 2 ∷ [] }

abbrev pub best_3 : Found
best_3 = record { cost = pos 3; steps = 1 ∷ 3 ∷ [] }

-- a best solution of this cost
abbrev pub Costs : Option Found → ℤ → Type 0
Costs best cost = (f : Found) × (best ≡ Some f) × (f.cost ≡ cost)

-- The first pass of the worked search visits two nodes, drops one, which has no floor, and finds a list of cost 11; no other answer has
-- its ledger. That with floors drops a node whose floor is 3. And no closed pass visits nothing, whatever its ledger.
pub record LawWorkedClosed : Type 0 where
  pub closed : IsClosed (alone 1) before (whole 4 0 word_11) 2 1 None (Some best_11)
  pub only :
      (visited dropped : ℕ) (floor : Option ℤ) (best : Option Found) (c : IsClosed (alone 1) before (whole 4 0 word_11) visited dropped floor best)
      → c.records ≡ first_pass ∷ [] → (visited ≡ 2) × (dropped ≡ 1) × (floor ≡ None) × Costs best (pos 11)
  pub only_floor :
      (visited dropped : ℕ) (floor : Option ℤ) (best : Option Found) (c : IsClosed pruning before (whole 4 0 word_11) visited dropped floor best)
      → c.records ≡ dropping ∷ [] → (visited ≡ 2) × (dropped ≡ 1) × (floor ≡ Some (pos 3)) × Costs best (pos 11)
  pub some_visit : (v w : View) (dropped : ℕ) (floor : Option ℤ) (best : Option Found) → IsClosed (alone 1) v w 0 dropped floor best → ⊥
  pub no_halt : (visited dropped : ℕ) (floor : Option ℤ) (best : Option Found) → IsClosed (alone 1) before (whole 4 3 word_11) visited dropped floor best → ⊥
  pub none_late : (visited dropped : ℕ) (floor : Option ℤ) (best : Option Found) → IsClosed (alone 1) before (whole 5 0 word_11) visited dropped floor best → ⊥

-- ---- halted passes

pub record LawWorkedHalted : Type 0 where
  pub lowered : IsHalted (alone 2) before (whole 5 1 word_3) causes.Budget (Some best_3)
  pub nothing_found : IsHalted (alone 2) before (spent 1) causes.Budget None
  pub not_lowered : IsHalted (alone 2) before (spent 1) causes.Budget (Some best_3) → ⊥
  pub lowered_by_none : IsHalted (alone 2) before (whole 5 1 word_3) causes.Budget None → ⊥
  pub lowered_by_a_worse_one : IsHalted (alone 2) before (whole 5 1 word_3) causes.Budget (Some best_11) → ⊥
  pub lowered_too_little : IsHalted (alone 2) before (whole 5 1 word_11) causes.Budget (Some best_3) → ⊥
