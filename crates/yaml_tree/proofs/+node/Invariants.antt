use Rattle.std.proofs.Common.{◌+◌, ◌*◌}
use Rattle.yaml_tree.specs.Blocks.{BlockNode}
use Rattle.yaml_tree.proofs.BlockTurns.{ListSoFar, MapSoFar}
use Rattle.yaml_tree.proofs.Sizes.{size}
use Rattle.yaml_tree.proofs.+node.Given as goal

abbrev pub decreases-block::node : goal.decreases-block::node
decreases-block::node l = 4 * l.levels

abbrev pub decreases-block_below::below : goal.decreases-block_below::below
decreases-block_below::below l = 4 * l.levels + 1

abbrev pub decreases-block_list::item : goal.decreases-block_list::item
decreases-block_list::item l = 4 * l.levels + 2

abbrev pub decreases-block_list::list : goal.decreases-block_list::list
decreases-block_list::list l = 4 * l.levels + 3

abbrev pub decreases-block_map::value : goal.decreases-block_map::value
decreases-block_map::value l = 4 * l.levels + 2

abbrev pub decreases-block_map::map : goal.decreases-block_map::map
decreases-block_map::map l = 4 * l.levels + 3

abbrev pub invariant-block_list::list-loop-items : goal.invariant-block_list::list-loop-items
invariant-block_list::list-loop-items l = ListSoFar (BlockNode l.levels) l.levels l.indent l.fn.reader l.items.items l.reader

abbrev pub decreases-block_list::list-loop-items : goal.decreases-block_list::list-loop-items
decreases-block_list::list-loop-items l = size l.reader

abbrev pub invariant-block_map::map-loop-entries : goal.invariant-block_map::map-loop-entries
invariant-block_map::map-loop-entries l = MapSoFar (BlockNode l.levels) l.levels l.indent l.fn.first l.fn.reader l.entries.items l.key l.reader l.keys

abbrev pub decreases-block_map::map-loop-entries : goal.decreases-block_map::map-loop-entries
decreases-block_map::map-loop-entries l = size l.reader
