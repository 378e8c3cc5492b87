use Rattle.std.proofs.Common.{ℕ, slice_set, ap}
use Rattle.pass_ledger.specs.declared.mail.Letter.TheVariants.{Mark}
use Rattle.shard_core.proofs.Accepts.{not_closed, mark_of, accept_none}
use Rattle.shard_core.proofs.shard.Shard.accept_mark.Goals as goal

pub overflow_sub-place : goal.overflow_sub-place
overflow_sub-place g c = not_closed c.requires.0 c.args.self.now c.requires.1 c.requires.2 (Mark c.args.from c.args.layer c.args.to_you c.args.total) c.requires.3

pub returns-in-Err-clause-same : goal.returns-in-Err-clause-same
returns-in-Err-clause-same g c = λ p r st. accept_none p c.args.self.now r st c.note_total.new.layers c.note_total.ensures.layouts c.note_total.ensures.nodes c.in-Err.ensures.same

pub returns-clause-taken : goal.returns-clause-taken
returns-clause-taken g c = λ p r suited st can.
    mark_of p c.args.self.now r st c.args.from c.args.layer c.args.to_you c.args.total can c.note_total.new.layers c.note_total.ensures.layouts
    c.note_total.ensures.nodes c.in_default-note_total.ensures.marked c.note_total.ensures.none c.note_total.ensures.others _ (ap (λ (n : ℕ). slice_set c.args.self.now.open_layers.items c.args.from n) c.in-Ok.ensures.sum)
