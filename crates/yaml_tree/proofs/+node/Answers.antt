-- A node in block style, and the lists and maps in it.
use Rattle.std.proofs.Common.{◌≡◌, ◌-◌, ◌∙◌, ◌++◌, ◌∷◌, [], true, false, List, Ok, Err, is_ok, ap, sym, subst, arith}
use Rattle.std.proofs.ResultArms.{chosen}
use Rattle.std.proofs.lemmas.Result.{IfOk-weaker, IfErr-weaker, err_from_is_err_and}
use Rattle.dp_base.proofs.Memory.{memory_or}
use Rattle.dp_base.specs.declared.place.Place.{Place}
use Rattle.yaml_tree.specs.Rest.{Rest}
use Rattle.yaml_tree.specs.Characters.{is_item}
use Rattle.yaml_tree.specs.Flow.{entry}
use Rattle.yaml_tree.specs.Blocks.{Item, BlockList, BlockNode}
use Rattle.yaml_tree.specs.BlockSteps.{MapFrom}
use Rattle.yaml_tree.specs.declared.tree.Tree.{Tree}
use Rattle.yaml_tree.specs.declared.tree.Tree.TheVariants as trees
use Rattle.yaml_tree.specs.declared.tree.Pair.{Pair}
use Rattle.yaml_tree.specs.Results.{is_memory}
use Rattle.yaml_tree.proofs.BlockNodes.{node_list, node_refused, node_whole, node_deep, node_map}
use Rattle.yaml_tree.proofs.BlockTurns.{ListSoFar, item-more, list_more, list_last, list_refused, MapSoFar, map_turn-more, map_more, map_last, map_key_refused, map_value_refused}
use Rattle.yaml_tree.proofs.Sizes.{item_turn-more, entry_turn-more}
use Rattle.yaml_tree.proofs.+node.Goals as goal

-- ---- a node

pub block::node-returns-then-is_item-clause-read : goal.block::node-returns-then-is_item-clause-read
block::node-returns-then-is_item-clause-read t c =
    let item : is_item c.args.reader.now.here ≡ true = sym (c.if-is_item.ensures ∙ ap is_item c.here.ensures.value) in
    IfOk-weaker c.list.result _ _
    (λ tree is. node_list c.args.levels c.args.least c.args.reader.now (Ok (tree, c.list.new.reader)) (omega (arith, c.if-levels-eq0.false)) item is)
    c.list.ensures.read

pub block::node-returns-then-is_item-clause-refused : goal.block::node-returns-then-is_item-clause-refused
block::node-returns-then-is_item-clause-refused t c =
    let item : is_item c.args.reader.now.here ≡ true = sym (c.if-is_item.ensures ∙ ap is_item c.here.ensures.value) in
    IfErr-weaker c.list.result _ _
    (λ e is. memory_or is_memory _ _ (λ f was. node_list c.args.levels c.args.least c.args.reader.now (Err f) (omega (arith, c.if-levels-eq0.false)) item was) e is)
    c.list.ensures.refused

pub block::node-returns-in_err-begun-clause-refused : goal.block::node-returns-in_err-begun-clause-refused
block::node-returns-in_err-begun-clause-refused t c =
    let no_item : is_item c.args.reader.now.here ≡ false = sym (c.if-is_item.ensures ∙ ap is_item c.here.ensures.value) in
    let p = err_from_is_err_and c.from_residual.result c.from_residual.ensures.1 in
    rw (p.1, p.2) (memory_or is_memory _ _ (λ e is. node_refused c.args.least c.args.reader.now no_item c.args.levels e is) _ c.in_err-begun.ensures.refused)

pub block::node-returns-then-not-is_key_here-clause-read : goal.block::node-returns-then-not-is_key_here-clause-read
block::node-returns-then-not-is_key_here-clause-read t c =
    let no_item : is_item c.args.reader.now.here ≡ false = sym (c.if-is_item.ensures ∙ ap is_item c.here.ensures.value) in
    let line = ap (λ (p : Place). p.line) c.place-at.ensures in
    IfOk-weaker c.whole_form.result _ _
    (λ tree is. node_whole c.args.least c.args.reader.now no_item c.args.levels c.what_begins-opening.result c.place-at.result.line (c.in_ok-begun.begun, c.form.new.reader)
    c.what_begins-opening.ensures line c.in_ok-begun.ensures.read (Ok (tree, c.whole_form.new.reader)) c.if-not-is_key_here.ensures is)
    c.whole_form.ensures.read

pub block::node-returns-then-not-is_key_here-clause-refused : goal.block::node-returns-then-not-is_key_here-clause-refused
block::node-returns-then-not-is_key_here-clause-refused t c =
    let no_item : is_item c.args.reader.now.here ≡ false = sym (c.if-is_item.ensures ∙ ap is_item c.here.ensures.value) in
    let line = ap (λ (p : Place). p.line) c.place-at.ensures in
    IfErr-weaker c.whole_form.result _ _
    (λ e is. memory_or is_memory _ _ (λ f was. node_whole c.args.least c.args.reader.now no_item c.args.levels c.what_begins-opening.result c.place-at.result.line (c.in_ok-begun.begun, c.form.new.reader)
    c.what_begins-opening.ensures line c.in_ok-begun.ensures.read (Err f) c.if-not-is_key_here.ensures was) e is)
    c.whole_form.ensures.refused

pub block::node-returns-in-Some-clause-refused : goal.block::node-returns-in-Some-clause-refused
block::node-returns-in-Some-clause-refused t c =
    let no_item : is_item c.args.reader.now.here ≡ false = sym (c.if-is_item.ensures ∙ ap is_item c.here.ensures.value) in
    let line = ap (λ (p : Place). p.line) c.place-at.ensures in
    node_deep c.args.least c.args.reader.now no_item c.args.levels c.what_begins-opening.result c.place-at.result.line (c.in_ok-begun.begun, c.form.new.reader)
    c.what_begins-opening.ensures line c.in_ok-begun.ensures.read c.in-Some.deep c.if-not-is_key_here.ensures (sym c.in-Some.ensures)

pub block::node-returns-clause-read : goal.block::node-returns-clause-read
block::node-returns-clause-read t c =
    let no_item : is_item c.args.reader.now.here ≡ false = sym (c.if-is_item.ensures ∙ ap is_item c.here.ensures.value) in
    let line = ap (λ (p : Place). p.line) c.place-at.ensures in
    IfOk-weaker c.map.result _ _
    (λ tree is. node_map c.args.least c.args.reader.now no_item c.args.levels c.what_begins-opening.result c.place-at.result.line (c.in_ok-begun.begun, c.form.new.reader)
    c.what_begins-opening.ensures line c.in_ok-begun.ensures.read c.place-at.result (Ok (tree, c.map.new.reader)) c.place-at.ensures c.if-not-is_key_here.ensures (sym c.in_default.ensures)
    (subst (λ (r : Rest). MapFrom (BlockNode (c.args.levels - 1)) (c.args.levels - 1) c.place-at.result c.in_ok-begun.begun r (Ok (tree, c.map.new.reader))) c.pass_colon.ensures is))
    c.map.ensures.read

pub block::node-returns-clause-refused : goal.block::node-returns-clause-refused
block::node-returns-clause-refused t c =
    let no_item : is_item c.args.reader.now.here ≡ false = sym (c.if-is_item.ensures ∙ ap is_item c.here.ensures.value) in
    let line = ap (λ (p : Place). p.line) c.place-at.ensures in
    IfErr-weaker c.map.result _ _
    (λ e is. memory_or is_memory _ _ (λ f was. node_map c.args.least c.args.reader.now no_item c.args.levels c.what_begins-opening.result c.place-at.result.line (c.in_ok-begun.begun, c.form.new.reader)
    c.what_begins-opening.ensures line c.in_ok-begun.ensures.read c.place-at.result (Err f) c.place-at.ensures c.if-not-is_key_here.ensures (sym c.in_default.ensures)
    (subst (λ (r : Rest). MapFrom (BlockNode (c.args.levels - 1)) (c.args.levels - 1) c.place-at.result c.in_ok-begun.begun r (Err f)) c.pass_colon.ensures was)) e is)
    c.map.ensures.refused

-- ---- a list

pub block_list::list-returns-in_err-item-clause-refused : goal.block_list::list-returns-in_err-item-clause-refused
block_list::list-returns-in_err-item-clause-refused t c =
    let N = BlockNode c.args.levels in
    let k = c.loop-items in
    let p = err_from_is_err_and c.from_residual.result c.from_residual.ensures.1 in
    rw (p.1, p.2) (memory_or is_memory _ _
    (λ e is. list_refused N c.args.levels c.args.reader.now c.place-at.result c.saturating_sub-indent.result k.items.items k.reader
    c.place-at.ensures c.saturating_sub-indent.ensures k.invariant e
    (subst (λ (r : Rest). Item N c.args.levels c.saturating_sub-indent.result r (Err e)) c.advance.ensures is))
    _ c.in_err-item.ensures.refused)

pub block_list::list-returns-then-not-next_item-clause-read : goal.block_list::list-returns-then-not-next_item-clause-read
block_list::list-returns-then-not-next_item-clause-read t c =
    let N = BlockNode c.args.levels in
    let k = c.loop-items in
    let item = subst (λ (r : Rest). Item N c.args.levels c.saturating_sub-indent.result r (Ok (c.in_ok-item.item, c.item.new.reader))) c.advance.ensures c.in_ok-item.ensures.read in
    let pushed = chosen _ _ _ _ c.push.ensures.items (ap is_ok c.in_ok-push.was) in
    let read =
    list_last N c.args.levels c.args.reader.now c.place-at.result c.saturating_sub-indent.result k.items.items k.reader
    c.place-at.ensures c.saturating_sub-indent.ensures k.invariant c.in_ok-item.item c.item.new.reader item c.if-not-next_item.ensures.0 in
    let here = subst (λ (r : Rest). BlockList N c.args.levels c.args.reader.now (Ok (trees.List c.place-at.result (k.items.items ++ c.in_ok-item.item ∷ []), r))) (sym c.if-not-next_item.ensures.1) read in
    subst (λ (xs : List Tree). BlockList N c.args.levels c.args.reader.now (Ok (trees.List c.place-at.result xs, c.next_item.new.reader))) (sym (c.fitted.ensures ∙ pushed)) here

pub block_list::list-loop-items-smaller : goal.block_list::list-loop-items-smaller
block_list::list-loop-items-smaller t c =
    let N = BlockNode c.args.levels in
    let k = c.loop-items in
    let item = subst (λ (r : Rest). Item N c.args.levels c.saturating_sub-indent.result r (Ok (c.in_ok-item.item, c.item.new.reader))) c.advance.ensures c.in_ok-item.ensures.read in
    item_turn-more c.args.levels c.saturating_sub-indent.result k.items.items k.reader c.in_ok-item.item c.next_item.new.reader
    (item-more N c.args.levels c.saturating_sub-indent.result k.items.items k.reader c.in_ok-item.item c.item.new.reader c.next_item.new.reader item c.if-not-next_item.ensures)

pub block_list::list-loop-items-preserved : goal.block_list::list-loop-items-preserved
block_list::list-loop-items-preserved t c =
    let N = BlockNode c.args.levels in
    let k = c.loop-items in
    let item = subst (λ (r : Rest). Item N c.args.levels c.saturating_sub-indent.result r (Ok (c.in_ok-item.item, c.item.new.reader))) c.advance.ensures c.in_ok-item.ensures.read in
    let pushed = chosen _ _ _ _ c.push.ensures.items (ap is_ok c.in_ok-push.was) in
    subst (λ (xs : List Tree). ListSoFar N c.args.levels c.saturating_sub-indent.result c.args.reader.now xs c.next_item.new.reader) (sym pushed)
    (list_more N c.args.levels c.args.reader.now c.saturating_sub-indent.result k.items.items k.reader k.invariant c.in_ok-item.item c.item.new.reader c.next_item.new.reader item c.if-not-next_item.ensures)

-- ---- a map

pub block_map::map-returns-in_err-value-clause-refused : goal.block_map::map-returns-in_err-value-clause-refused
block_map::map-returns-in_err-value-clause-refused t c =
    let k = c.loop-entries in
    let p = err_from_is_err_and c.from_residual-in_err-value.result c.from_residual-in_err-value.ensures.1 in
    rw (p.1, p.2) (memory_or is_memory _ _
    (λ e is. map_value_refused (BlockNode c.args.levels) c.args.levels c.saturating_sub-indent.result c.args.first c.args.reader.now k.entries.items k.key k.reader k.keys k.invariant
    c.args.at e c.saturating_sub-indent.ensures is)
    _ c.in_err-value.ensures.refused)

pub block_map::map-returns-in_err-next-clause-refused : goal.block_map::map-returns-in_err-next-clause-refused
block_map::map-returns-in_err-next-clause-refused t c =
    let k = c.loop-entries in
    let p = err_from_is_err_and c.from_residual-in_err-next.result c.from_residual-in_err-next.ensures.1 in
    rw (p.1, p.2) (memory_or is_memory _ _
    (λ e is. map_key_refused (BlockNode c.args.levels) c.args.levels c.saturating_sub-indent.result c.args.first c.args.reader.now k.entries.items k.key k.reader k.keys k.invariant
    c.in_ok-value.value c.value.new.reader c.in_ok-value.ensures.read c.args.at e c.saturating_sub-indent.ensures is)
    _ c.in_err-next.ensures.refused)

pub block_map::map-loop-entries-smaller : goal.block_map::map-loop-entries-smaller
block_map::map-loop-entries-smaller t c =
    let k = c.loop-entries in
    entry_turn-more c.args.levels c.saturating_sub-indent.result k.entries.items (k.key, k.reader) (entry k.key c.in_ok-value.value) (c.in-Some.next, c.next_key.new.reader)
    (map_turn-more (BlockNode c.args.levels) c.args.levels c.saturating_sub-indent.result c.args.first c.args.reader.now k.entries.items k.key k.reader k.keys k.invariant
    c.in_ok-value.value c.value.new.reader c.in_ok-value.ensures.read c.in-Some.next c.next_key.new.reader (rw c.in-Some.is at c.in_ok-next.ensures.read))

pub block_map::map-loop-entries-preserved : goal.block_map::map-loop-entries-preserved
block_map::map-loop-entries-preserved t c =
    let k = c.loop-entries in
    let pushed = chosen _ _ _ _ c.push.ensures.items (ap is_ok c.in_ok-push.was) in
    subst (λ (xs : List Pair). MapSoFar (BlockNode c.args.levels) c.args.levels c.saturating_sub-indent.result c.args.first c.args.reader.now xs c.in-Some.next c.next_key.new.reader c.next_key.new.keys) (sym pushed)
    (map_more (BlockNode c.args.levels) c.args.levels c.saturating_sub-indent.result c.args.first c.args.reader.now k.entries.items k.key k.reader k.keys k.invariant
    c.in_ok-value.value c.value.new.reader c.in_ok-value.ensures.read c.in-Some.next c.next_key.new.reader c.next_key.new.keys
    (rw c.in-Some.is at c.in_ok-next.ensures.read) (rw c.in-Some.is at c.in_ok-next.ensures.knows))

pub block_map::map-returns-in-None-clause-read : goal.block_map::map-returns-in-None-clause-read
block_map::map-returns-in-None-clause-read t c =
    let k = c.loop-entries in
    let pushed = chosen _ _ _ _ c.push.ensures.items (ap is_ok c.in_ok-push.was) in
    subst (λ (xs : List Pair). MapFrom (BlockNode c.args.levels) c.args.levels c.args.at c.args.first c.args.reader.now (Ok (trees.Map c.args.at xs, c.next_key.new.reader))) (sym (c.fitted.ensures ∙ pushed))
    (map_last (BlockNode c.args.levels) c.args.levels c.saturating_sub-indent.result c.args.first c.args.reader.now k.entries.items k.key k.reader k.keys k.invariant
    c.in_ok-value.value c.value.new.reader c.in_ok-value.ensures.read c.args.at c.next_key.new.reader c.saturating_sub-indent.ensures (rw c.in-None.is at c.in_ok-next.ensures.read))
