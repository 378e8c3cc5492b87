use Rattle.std.proofs.Common.{◌++◌, Option, sym, ap, ◌∙◌, append-nil}
use Rattle.pass_run.specs.Callers.{caller_list}
use Rattle.shard_turns.specs.declared.calling.Calling.{Calling}
use Rattle.pass_run.proofs.room.keep_caller.Goals as goal

pub returns-in-Some-clause-items : goal.returns-in-Some-clause-items
returns-in-Some-clause-items c = c.push_reserved.ensures.items ∙ ap (λ (o : Option Calling). c.args.callers.now.items ++ caller_list o) (sym c.in-Some.is)

pub returns-in-None-clause-items : goal.returns-in-None-clause-items
returns-in-None-clause-items c = sym (append-nil c.args.callers.now.items) ∙ ap (λ (o : Option Calling). c.args.callers.now.items ++ caller_list o) (sym c.in-None.is)
