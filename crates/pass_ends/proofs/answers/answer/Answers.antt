use Rattle.pass_ends.proofs.Endings.{ends_left, without_memory}
use Rattle.pass_ends.proofs.answers.answer.Goals as goal

pub dropped_in-requires : goal.dropped_in-requires
dropped_in-requires g c =
    let r = c.requires in
    (r.0, r.1, c.args.tally.now.logs.items, r.4, ends_left r.0 r.1 r.2 r.3 c.args.tally.now c.args.cause r.5 c.deref.result.now c.deref.ensures.value)

pub returns-in_default : goal.returns-in_default
returns-in_default g c p records before after law left = without_memory p records before after c.args.tally.now c.args.cause left _ c.out_of_memory.result c.out_of_memory.ensures

pub returns-in-Ok : goal.returns-in-Ok
returns-in-Ok g c p records before after law left =
    c.in-Ok.ensures p records before after law left (c.in-Some.ensures p records c.args.tally.now.logs.items law (ends_left p records before after c.args.tally.now c.args.cause left c.deref.result.now c.deref.ensures.value))

pub returns-in-Err : goal.returns-in-Err
returns-in-Err g c p records before after law left = without_memory p records before after c.args.tally.now c.args.cause left _ c.out_of_memory-in-Err.result c.out_of_memory-in-Err.ensures
