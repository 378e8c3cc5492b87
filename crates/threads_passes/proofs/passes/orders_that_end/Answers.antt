use Rattle.std.proofs.Common.{true, Ok, ap, ◌∙◌}
use Rattle.visit_laws.proofs.Starts.{start_open}
use Rattle.threads_passes.proofs.passes.orders_that_end.Goals as goal

pub count_orders-requires-clause-inner : goal.count_orders-requires-clause-inner
count_orders-requires-clause-inner g c = ((start_open c.args.model.now true c.in-Ok-Open.field-0-0).0 (c.in-Ok-Open.ensures.start ∙ ap Ok c.in-Ok-Open.field-0-is)).0
