use Rattle.std.proofs.lemmas.Option.{slice_get-get_or}
use Rattle.successors.proofs.switches.case_at.Goals as goal

pub case_of-requires-clause-switch : goal.case_of-requires-clause-switch
case_of-requires-clause-switch c = (c.requires.0, c.requires.1 c.args.place _ (slice_get-get_or c.args.switches.now c.args.place _ c.if-place-switches.true), c.requires.3)

pub returns-then-switches-place-gt0 : goal.returns-then-switches-place-gt0
returns-then-switches-place-gt0 c = λ numbers are less. c.case_of.ensures numbers (are c.args.place _ (slice_get-get_or c.args.switches.now c.args.place _ c.if-place-switches.true))
