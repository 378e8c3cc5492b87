use Rattle.std.proofs.Common.{rules, ◌<◌, length}
use Rattle.std.proofs.lemmas.Option.{slice_get-get_or}
use Rattle.honest_states.proofs.absorbing.counted_in.Goals as goal

pub returns-then-is_counted : goal.returns-then-is_counted
returns-then-is_counted c =
    let lt : c.loop-atom.atom-index < length c.args.atoms.now = search rules in
    (c.loop-atom.atom-index, slice_get-get_or c.args.atoms.now c.loop-atom.atom-index 0 lt)
