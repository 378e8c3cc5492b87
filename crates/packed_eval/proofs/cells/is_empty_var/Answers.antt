use Rattle.std.proofs.Common.{rules, ◌≡◌}
use Rattle.std.specs.Prelude.{None, slice_get}
use Rattle.dp_model.specs.Evaluation.{set_in}
use Rattle.state_layout.specs.Packing.{state_in}
use Rattle.packed_words.specs.Sets.{members_from}
use Rattle.packed_eval.proofs.Firsts.{no_first}
use Rattle.packed_eval.proofs.cells.is_empty_var.Goals as goal

pub returns-in-None : goal.returns-in-None
returns-in-None c =
    let none : None ≡ slice_get (members_from 0 (set_in (state_in c.args.at.now.words.now) c.args.v)) 0 = search rules in
    no_first (set_in (state_in c.args.at.now.words.now) c.args.v) none
