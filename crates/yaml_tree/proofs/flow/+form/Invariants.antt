use Rattle.std.proofs.Common.{true, false, [], ◌+◌, ◌*◌}
use Rattle.yaml_tree.specs.Repeats.{InTurn}
use Rattle.yaml_tree.specs.Flow.{ListTurn, MapTurn, Form}
use Rattle.yaml_tree.specs.Known.{Knows}
use Rattle.yaml_tree.proofs.Sizes.{size}
use Rattle.yaml_tree.proofs.flow.+form.Given as goal

-- What stands inside a form has one level less. With the same levels each function calls those below it.
abbrev pub decreases-form : goal.decreases-form
decreases-form l = 6 * l.levels

abbrev pub decreases-item : goal.decreases-item
decreases-item l = 6 * l.levels + 1

abbrev pub decreases-items : goal.decreases-items
decreases-items l = 6 * l.levels + 2

abbrev pub decreases-list : goal.decreases-list
decreases-list l = 6 * l.levels + 3

abbrev pub decreases-value : goal.decreases-value
decreases-value l = 6 * l.levels + 1

abbrev pub decreases-value_of_key : goal.decreases-value_of_key
decreases-value_of_key l = 6 * l.levels + 2

abbrev pub decreases-entry : goal.decreases-entry
decreases-entry l = 6 * l.levels + 3

abbrev pub decreases-entries : goal.decreases-entries
decreases-entries l = 6 * l.levels + 4

abbrev pub decreases-map : goal.decreases-map
decreases-map l = 6 * l.levels + 5

-- the items so far were read in turn, and some of the text with each
abbrev pub invariant-items-loop-items : goal.invariant-items-loop-items
invariant-items-loop-items l = InTurn (ListTurn (Form true true l.levels)) [] l.fn.reader l.items.items l.reader

abbrev pub decreases-items-loop-items : goal.decreases-items-loop-items
decreases-items-loop-items l = size l.reader

-- the entries so far were read in turn, and their keys are known
abbrev pub invariant-entries-loop-entries : goal.invariant-entries-loop-entries
invariant-entries-loop-entries l =
    InTurn (MapTurn (Form true true l.levels) (Form true false l.levels)) [] l.fn.reader l.entries.items l.reader × Knows l.keys l.entries.items

abbrev pub decreases-entries-loop-entries : goal.decreases-entries-loop-entries
decreases-entries-loop-entries l = size l.reader
