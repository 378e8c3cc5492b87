-- Wrong ledgers of the worked model, each of which one part of the definitions refuses.
use Rattle.std.specs.Prelude.{List, [], ◌∷◌, Some, None, pos}
use Rattle.dp_model.specs.declared.answers.Spot.TheVariants as spots
use Rattle.dp_model.specs.declared.answers.FaultKind.TheVariants.{Range}
use Rattle.pass_ledger.specs.Records.{step_id, visit_of, blank}
use Rattle.pass_ledger.specs.Ledgers.{Ledger, Closed}
use Rattle.pass_ledger.specs.Worked.{alone, node, n0, n1, n2, held, row_of, first_pass, second_pass, word_11, word_3, no_word}
use Rattle.pass_ledger.specs.WorkedFloors.{pruning, f2, dropping, pruned_one}
use Rattle.pass_ledger.specs.WorkedRun.{both}
use Rattle.state_layout.specs.declared.node.Node.{Node}
use Rattle.pass_ledger.specs.declared.mail.Letter.{Letter}
use Rattle.pass_ledger.specs.declared.mail.Letter.TheVariants.{State, Mark}
use Rattle.pass_ledger.specs.declared.records.ShardRecord.{ShardRecord}

-- the letters of the shard to itself, of which it received each
abbrev pub with_letters : ShardRecord → List Letter → ShardRecord
with_letters r letters = record r { received = letters ∷ []; posted = letters ∷ [] }

-- It leaves out the successor 2 of the target: a step from a visited node is not accounted for.
abbrev pub leaves_out : ShardRecord
leaves_out = with_letters (record first_pass { rows = row_of (n0 ∷ []) [] ∷ row_of (n1 ∷ []) [] ∷ [] }) (State 0 1 n1 ∷ Mark 0 1 1 1 ∷ Mark 0 2 0 0 ∷ [])

-- It forgets the target, and so has nothing to do: the owner of the target did not start with it.
abbrev pub forgets : ShardRecord
forgets = with_letters (record blank { rows = row_of [] [] ∷ [] }) (Mark 0 1 0 0 ∷ [])

-- It posts the mark of layer 1 twice: the letters are not in groups.
abbrev pub marks_twice : ShardRecord
marks_twice = with_letters second_pass (State 0 1 n1 ∷ State 0 1 n2 ∷ Mark 0 1 2 2 ∷ Mark 0 1 0 2 ∷ Mark 0 2 0 0 ∷ [])

-- The node of the state 1 is its own parent: a posted state was not made by a node of the layer before.
abbrev pub own_parent : Node
own_parent = node 1 (Some (pos 1)) (Some (step_id 0 1)) 0

abbrev pub goes_round : ShardRecord
goes_round =
    with_letters
    (record second_pass { rows = row_of (n0 ∷ []) [] ∷ row_of (own_parent ∷ n2 ∷ []) [] ∷ []; visits = visit_of 0 n0 ∷ visit_of 1 own_parent ∷ visit_of 1 n2 ∷ [] })
    (State 0 1 own_parent ∷ State 0 1 n2 ∷ Mark 0 1 2 2 ∷ Mark 0 2 0 0 ∷ [])

-- It visits a node twice, or counts it twice.
abbrev pub counts_twice : ShardRecord
counts_twice = record second_pass { visits = visit_of 0 n0 ∷ visit_of 1 n1 ∷ visit_of 1 n1 ∷ visit_of 1 n2 ∷ []; held = Some (held (pos 3) 3 3) }

-- It holds a cost that no step from a visited node has.
abbrev pub invents : ShardRecord
invents = record second_pass { held = Some (held (pos 2) 2 3) }

-- Of two shards, it keeps a state for itself that the other owns.
abbrev pub keeps_foreign : ShardRecord
keeps_foreign = record first_pass { received = (State 0 1 n1 ∷ []) ∷ [] ∷ []; posted = (State 0 1 n1 ∷ []) ∷ [] ∷ [] }

-- Two equal nodes are kept: one covers the other.
abbrev pub keeps_twins : ShardRecord
keeps_twins = record second_pass { rows = row_of (n0 ∷ []) [] ∷ row_of (n1 ∷ n1 ∷ []) [] ∷ [] }

-- It visits a node that it dropped.
abbrev pub visits_dropped : ShardRecord
visits_dropped = record first_pass { visits = visit_of 0 n0 ∷ visit_of 1 n1 ∷ visit_of 1 n2 ∷ [] }

-- It does not visit a node that it kept.
abbrev pub skips : ShardRecord
skips = record second_pass { visits = visit_of 0 n0 ∷ visit_of 1 n1 ∷ []; held = Some (held (pos 11) 1 2) }

-- It loses a node that it received: no kept or dropped one covers it.
abbrev pub loses : ShardRecord
loses = record first_pass { rows = row_of (n0 ∷ []) [] ∷ row_of (n1 ∷ []) [] ∷ [] }

-- It receives a state that nobody posted.
abbrev pub receives_more : ShardRecord
receives_more = record second_pass { received = (State 0 1 n1 ∷ State 0 1 n2 ∷ State 0 1 n2 ∷ Mark 0 1 2 2 ∷ Mark 0 2 0 0 ∷ []) ∷ [] }

-- It posts a state twice.
abbrev pub posts_twice : ShardRecord
posts_twice = with_letters second_pass (State 0 1 n1 ∷ State 0 1 n1 ∷ State 0 1 n2 ∷ Mark 0 1 3 3 ∷ Mark 0 2 0 0 ∷ [])

-- A mark tells a total that is not the sum.
abbrev pub adds_wrong : ShardRecord
adds_wrong = with_letters second_pass (State 0 1 n1 ∷ State 0 1 n2 ∷ Mark 0 1 2 5 ∷ Mark 0 2 0 0 ∷ [])

-- The mark of the layer after the last is missing.
abbrev pub stops_early : ShardRecord
stops_early = with_letters second_pass (State 0 1 n1 ∷ State 0 1 n2 ∷ Mark 0 1 2 2 ∷ [])

-- It met a fault.
abbrev pub met_fault : ShardRecord
met_fault = record second_pass { fault = Some (record { at = step_id 0 1; last = None; spot = spots.Weight 0; kind = Range }) }

-- The cost of the state 1 is 5 in place of 1.
abbrev pub dear : Node
dear = node 1 (Some (pos 5)) (Some (step_id 0 0)) 0

abbrev pub costs_more : ShardRecord
costs_more = with_letters (record first_pass { rows = row_of (n0 ∷ []) [] ∷ row_of (dear ∷ []) (n2 ∷ []) ∷ []; visits = visit_of 0 n0 ∷ visit_of 1 dear ∷ [] }) (State 0 1 dear ∷ State 0 1 n2 ∷ Mark 0 1 2 2 ∷ Mark 0 2 0 0 ∷ [])

-- A node has no floor, with pruning on.
abbrev pub lacks_floor : ShardRecord
lacks_floor = with_letters dropping (State 0 1 n1 ∷ State 0 1 f2 ∷ Mark 0 1 2 2 ∷ Mark 0 2 0 0 ∷ [])

pub record LawWrong : Type 0 where
  pub leaves_out_a_successor : Closed (alone 1) (leaves_out ∷ []) no_word word_11 → ⊥
  -- one node is kept and one is dropped, with a share of 2
  pub drops_below_the_share : Ledger (alone 2) (first_pass ∷ []) → ⊥
  -- a successor is pruned by the word of 3, and the best word is that of 11
  pub prunes_by_a_value_that_nobody_had : Closed pruning (pruned_one ∷ []) no_word word_11 → ⊥
  pub forgets_the_target : Closed (alone 1) (forgets ∷ []) no_word no_word → ⊥
  pub posts_a_mark_too_many : Closed (alone 2) (marks_twice ∷ []) word_11 word_3 → ⊥
  pub goes_round_in_a_cycle : Closed (alone 2) (goes_round ∷ []) word_11 word_3 → ⊥
  pub counts_a_node_twice : Ledger (alone 2) (counts_twice ∷ []) → ⊥
  pub holds_what_was_not_found : Closed (alone 2) (invents ∷ []) word_11 word_3 → ⊥
  pub keeps_more_than_the_share : Ledger (alone 1) (second_pass ∷ []) → ⊥
  pub keeps_covered_nodes : Ledger (alone 2) (keeps_twins ∷ []) → ⊥
  pub visits_a_dropped_node : Ledger (alone 1) (visits_dropped ∷ []) → ⊥
  pub skips_a_kept_node : Closed (alone 2) (skips ∷ []) no_word word_11 → ⊥
  pub loses_a_received_node : Closed (alone 1) (loses ∷ []) no_word word_11 → ⊥
  pub receives_what_was_not_posted : Closed (alone 2) (receives_more ∷ []) word_11 word_3 → ⊥
  pub posts_a_state_twice : Closed (alone 2) (posts_twice ∷ []) word_11 word_3 → ⊥
  pub tells_a_wrong_total : Closed (alone 2) (adds_wrong ∷ []) word_11 word_3 → ⊥
  pub lacks_the_last_mark : Closed (alone 2) (stops_early ∷ []) word_11 word_3 → ⊥
  pub met_a_fault : Closed (alone 2) (met_fault ∷ []) word_11 word_3 → ⊥
  pub joins_a_wrong_cost : Closed (alone 1) (costs_more ∷ []) no_word word_11 → ⊥
  pub lacks_a_floor : Closed pruning (lacks_floor ∷ []) no_word word_11 → ⊥
  -- the best word is that of 3, and none like it was opened with or held
  pub claims_a_better_word : Closed (alone 1) (first_pass ∷ []) no_word word_3 → ⊥
  -- the best word is greater than the opening one
  pub claims_a_worse_word : Closed (alone 1) (first_pass ∷ []) word_3 word_11 → ⊥
  pub keeps_the_state_of_another : (other : ShardRecord) → Closed both (keeps_foreign ∷ other ∷ []) no_word word_11 → ⊥
