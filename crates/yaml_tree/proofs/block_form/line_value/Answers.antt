use Rattle.std.proofs.Common.{Ok, Err}
use Rattle.std.proofs.lemmas.Result.{IfOk-weaker, IfErr-weaker, err_from_is_err_and}
use Rattle.dp_base.proofs.Memory.{memory_or}
use Rattle.yaml_tree.specs.Results.{is_memory}
use Rattle.yaml_tree.proofs.BlockForms.{line_value-read, line_value-refused}
use Rattle.yaml_tree.proofs.block_form.line_value.Goals as goal

pub returns-in_err-begun-clause-refused : goal.returns-in_err-begun-clause-refused
returns-in_err-begun-clause-refused c =
    let p = err_from_is_err_and c.from_residual.result c.from_residual.ensures.1 in
    rw (p.1, p.2) (memory_or is_memory _ _ (λ e is. line_value-refused c.args.levels c.args.least c.args.reader.now e is) _ c.in_err-begun.ensures.refused)

pub returns-clause-read : goal.returns-clause-read
returns-clause-read c =
    IfOk-weaker c.whole_form.result _ _ (λ tree is. line_value-read c.args.levels c.args.least c.args.reader.now c.what_begins-opening.result (c.in_ok-begun.begun, c.form.new.reader) (Ok (tree, c.whole_form.new.reader)) c.what_begins-opening.ensures c.in_ok-begun.ensures.read is) c.whole_form.ensures.read

pub returns-clause-refused : goal.returns-clause-refused
returns-clause-refused c =
    IfErr-weaker c.whole_form.result _ _ (λ e is. memory_or is_memory _ _ (λ f was. line_value-read c.args.levels c.args.least c.args.reader.now c.what_begins-opening.result (c.in_ok-begun.begun, c.form.new.reader) (Err f) c.what_begins-opening.ensures c.in_ok-begun.ensures.read was) e is) c.whole_form.ensures.refused
