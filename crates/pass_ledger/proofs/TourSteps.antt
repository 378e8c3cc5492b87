-- The nodes of the tour's third pass: their floors, the steps to them, and which transitions are enabled in the visited ones.
use Rattle.std.proofs.Common.{◌≡◌, ℕ, ◌≤◌, zero, suc, true, ◌⊎◌, inl, inr, [], ◌∷◌, Some, refl, arith}
use Rattle.std.specs.Prelude.{pos}
use Rattle.std.proofs.lemmas.Int.{ints}
use Rattle.dp_model.specs.Costs.{InRange}
use Rattle.dp_steps.specs.Bounds.{IsFloor}
use Rattle.dp_steps.specs.States.{Enabled, Forbidden, Inner, Step}
use Rattle.cost_laws.specs.Orders.{InWideRange}
use Rattle.pass_ledger.specs.Letters.{InOrder}
use Rattle.pass_ledger.specs.Passes.{IsStart}
use Rattle.pass_ledger.specs.Records.{IsSuccessor, LeadsOut}
use Rattle.pass_ledger.specs.Tour.{at, tour}
use Rattle.pass_ledger.specs.WorkedTour.{touring, t0, t1, t2, t12, t21, t23, t231}
use Rattle.pass_ledger.proofs.Worked.{in_range, small}
use Rattle.pass_ledger.proofs.TourValues.{constraints_are, inner_at, tightest_at, visit_step, no_visit, no_return, no_more}

-- ---- the states

pub inner_0 : Inner tour t0.state
inner_0 = inner_at (1 ∷ 2 ∷ 3 ∷ []) 0 0 refl refl

pub inner_1 : Inner tour t1.state
inner_1 = inner_at (2 ∷ 3 ∷ []) 1 5 refl refl

pub inner_2 : Inner tour t2.state
inner_2 = inner_at (1 ∷ 3 ∷ []) 2 4 refl refl

pub inner_23 : Inner tour t23.state
inner_23 = inner_at (1 ∷ []) 3 8 refl refl

pub inner_12 : Inner tour t12.state
inner_12 = inner_at (3 ∷ []) 2 10 refl refl

pub inner_21 : Inner tour t21.state
inner_21 = inner_at (3 ∷ []) 1 9 refl refl

pub inner_231 : Inner tour t231.state
inner_231 = inner_at [] 1 12 refl refl

-- after 3 alone, customer 2 can't be visited in time, nor after 1 and 3
pub late_3 : Forbidden tour (at (1 ∷ 2 ∷ []) 3 8)
late_3 = constraints_are (1 ∷ 2 ∷ []) 3 8 _ refl

pub late_13 : Forbidden tour (at (2 ∷ []) 3 9)
late_13 = constraints_are (2 ∷ []) 3 9 _ refl

-- ---- the floors

floor_0 : IsFloor tour true t0.state t0.cost t0.floor
floor_0 = (refl, (pos 9, tightest_at (1 ∷ 2 ∷ 3 ∷ []) 0 0 (pos 9) refl, refl))

floor_1 : IsFloor tour true t1.state t1.cost t1.floor
floor_1 = (refl, (pos 9, tightest_at (2 ∷ 3 ∷ []) 1 5 (pos 9) refl, refl))

floor_2 : IsFloor tour true t2.state t2.cost t2.floor
floor_2 = (refl, (pos 9, tightest_at (1 ∷ 3 ∷ []) 2 4 (pos 9) refl, refl))

floor_23 : IsFloor tour true t23.state t23.cost t23.floor
floor_23 = (refl, (pos 6, tightest_at (1 ∷ []) 3 8 (pos 6) refl, refl))

floor_12 : IsFloor tour true t12.state t12.cost t12.floor
floor_12 = (refl, (pos 6, tightest_at (3 ∷ []) 2 10 (pos 6) refl, refl))

floor_21 : IsFloor tour true t21.state t21.cost t21.floor
floor_21 = (refl, (pos 6, tightest_at (3 ∷ []) 1 9 (pos 6) refl, refl))

floor_231 : IsFloor tour true t231.state t231.cost t231.floor
floor_231 = (refl, (pos 3, tightest_at [] 1 12 (pos 3) refl, refl))

pub start_is : IsStart touring t0
start_is = record { state = refl; cost = refl; floor = floor_0; parent = refl }

-- ---- the steps

pub step_1 : Step tour t0.state 1 (Some (pos 3)) t1.state
step_1 = visit_step (1 ∷ 2 ∷ 3 ∷ []) 0 0 1 3 (2 ∷ 3 ∷ []) 5 refl inner_0 refl refl refl refl refl

pub step_2 : Step tour t0.state 2 (Some (pos 4)) t2.state
step_2 = visit_step (1 ∷ 2 ∷ 3 ∷ []) 0 0 2 4 (1 ∷ 3 ∷ []) 4 refl inner_0 refl refl refl refl refl

pub step_3 : Step tour t0.state 3 (Some (pos 5)) (at (1 ∷ 2 ∷ []) 3 8)
step_3 = visit_step (1 ∷ 2 ∷ 3 ∷ []) 0 0 3 5 (1 ∷ 2 ∷ []) 8 refl inner_0 refl refl refl refl refl

pub step_12 : Step tour t1.state 2 (Some (pos 5)) t12.state
step_12 = visit_step (2 ∷ 3 ∷ []) 1 5 2 5 (3 ∷ []) 10 refl inner_1 refl refl refl refl refl

pub step_13 : Step tour t1.state 3 (Some (pos 4)) (at (2 ∷ []) 3 9)
step_13 = visit_step (2 ∷ 3 ∷ []) 1 5 3 4 (2 ∷ []) 9 refl inner_1 refl refl refl refl refl

pub step_21 : Step tour t2.state 1 (Some (pos 5)) t21.state
step_21 = visit_step (1 ∷ 3 ∷ []) 2 4 1 5 (3 ∷ []) 9 refl inner_2 refl refl refl refl refl

pub step_23 : Step tour t2.state 3 (Some (pos 3)) t23.state
step_23 = visit_step (1 ∷ 3 ∷ []) 2 4 3 3 (1 ∷ []) 8 refl inner_2 refl refl refl refl refl

pub step_231 : Step tour t23.state 1 (Some (pos 4)) t231.state
step_231 = visit_step (1 ∷ []) 3 8 1 4 [] 12 refl inner_23 refl refl refl refl refl

range_of : (n : ℕ) → n ≤ 20 → InRange (pos n)
range_of n le = in_range n (small n le)

pub t1_from : IsSuccessor touring 0 0 t0 1 t1
t1_from = record { weight = Some (pos 3); step = step_1; inner = inner_1; cost = refl; in_range = range_of 3 (omega arith); floor = floor_1; parent = refl; transition = refl }

pub t2_from : IsSuccessor touring 0 0 t0 2 t2
t2_from = record { weight = Some (pos 4); step = step_2; inner = inner_2; cost = refl; in_range = range_of 4 (omega arith); floor = floor_2; parent = refl; transition = refl }

pub t12_from : IsSuccessor touring 0 1 t1 2 t12
t12_from = record { weight = Some (pos 5); step = step_12; inner = inner_12; cost = refl; in_range = range_of 8 (omega arith); floor = floor_12; parent = refl; transition = refl }

pub t21_from : IsSuccessor touring 0 2 t2 1 t21
t21_from = record { weight = Some (pos 5); step = step_21; inner = inner_21; cost = refl; in_range = range_of 9 (omega arith); floor = floor_21; parent = refl; transition = refl }

pub t23_from : IsSuccessor touring 0 2 t2 3 t23
t23_from = record { weight = Some (pos 3); step = step_23; inner = inner_23; cost = refl; in_range = range_of 7 (omega arith); floor = floor_23; parent = refl; transition = refl }

pub t231_from : IsSuccessor touring 0 3 t23 1 t231
t231_from = record { weight = Some (pos 4); step = step_231; inner = inner_231; cost = refl; in_range = range_of 11 (omega arith); floor = floor_231; parent = refl; transition = refl }

pub out_3 : LeadsOut touring t0 3
out_3 = (Some (pos 5), at (1 ∷ 2 ∷ []) 3 8, step_3, late_3)

pub out_13 : LeadsOut touring t1 3
out_13 = (Some (pos 4), at (2 ∷ []) 3 9, step_13, late_13)

-- ---- nodes in order

has_word : (n : ℕ) → n ≤ 20 → InWideRange (pos n)
has_word n le = (omega (arith, ints, le), omega (arith, ints, le))

pub t1_in_order : InOrder tour t1
t1_in_order = record { is_node = record { state = refl; cost = range_of 3 (omega arith); floor = has_word 12 (omega arith) }; inner = inner_1; floor = floor_1.1 }

pub t2_in_order : InOrder tour t2
t2_in_order = record { is_node = record { state = refl; cost = range_of 4 (omega arith); floor = has_word 13 (omega arith) }; inner = inner_2; floor = floor_2.1 }

pub t23_in_order : InOrder tour t23
t23_in_order = record { is_node = record { state = refl; cost = range_of 7 (omega arith); floor = has_word 13 (omega arith) }; inner = inner_23; floor = floor_23.1 }

-- ---- which transitions are enabled

pub from_0 : (g : ℕ) → Enabled tour t0.state g → (g ≡ 1) ⊎ ((g ≡ 2) ⊎ (g ≡ 3))
from_0 zero h = absurd (no_visit (1 ∷ 2 ∷ 3 ∷ []) 0 0 0 refl refl h)
from_0 (suc zero) h = inl refl
from_0 (suc (suc zero)) h = inr (inl refl)
from_0 (suc (suc (suc zero))) h = inr (inr refl)
from_0 (suc (suc (suc (suc zero)))) h = absurd (no_return (1 ∷ 2 ∷ 3 ∷ []) 0 0 refl h)
from_0 (suc (suc (suc (suc (suc g))))) h = absurd (no_more t0.state g h)

pub from_1 : (g : ℕ) → Enabled tour t1.state g → (g ≡ 2) ⊎ (g ≡ 3)
from_1 zero h = absurd (no_visit (2 ∷ 3 ∷ []) 1 5 0 refl refl h)
from_1 (suc zero) h = absurd (no_visit (2 ∷ 3 ∷ []) 1 5 1 refl refl h)
from_1 (suc (suc zero)) h = inl refl
from_1 (suc (suc (suc zero))) h = inr refl
from_1 (suc (suc (suc (suc zero)))) h = absurd (no_return (2 ∷ 3 ∷ []) 1 5 refl h)
from_1 (suc (suc (suc (suc (suc g))))) h = absurd (no_more t1.state g h)

pub from_2 : (g : ℕ) → Enabled tour t2.state g → (g ≡ 1) ⊎ (g ≡ 3)
from_2 zero h = absurd (no_visit (1 ∷ 3 ∷ []) 2 4 0 refl refl h)
from_2 (suc zero) h = inl refl
from_2 (suc (suc zero)) h = absurd (no_visit (1 ∷ 3 ∷ []) 2 4 2 refl refl h)
from_2 (suc (suc (suc zero))) h = inr refl
from_2 (suc (suc (suc (suc zero)))) h = absurd (no_return (1 ∷ 3 ∷ []) 2 4 refl h)
from_2 (suc (suc (suc (suc (suc g))))) h = absurd (no_more t2.state g h)

pub from_23 : (g : ℕ) → Enabled tour t23.state g → g ≡ 1
from_23 zero h = absurd (no_visit (1 ∷ []) 3 8 0 refl refl h)
from_23 (suc zero) h = refl
from_23 (suc (suc zero)) h = absurd (no_visit (1 ∷ []) 3 8 2 refl refl h)
from_23 (suc (suc (suc zero))) h = absurd (no_visit (1 ∷ []) 3 8 3 refl refl h)
from_23 (suc (suc (suc (suc zero)))) h = absurd (no_return (1 ∷ []) 3 8 refl h)
from_23 (suc (suc (suc (suc (suc g))))) h = absurd (no_more t23.state g h)
