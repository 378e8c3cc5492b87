use Rattle.dypdl_data.proofs.Named.{names_set, if_ok}
use Rattle.dypdl_data.proofs.cells.give_cells.Goals as goal

pub returns-clause-named : goal.returns-clause-named
returns-clause-named c =
    if_ok c.give_table.result _ _ (names_set c.args.tables.now.items c.args.number c.index_mut.result.now c.give_table.new.table c.requires c.index_mut.ensures.value) c.give_table.ensures.named
