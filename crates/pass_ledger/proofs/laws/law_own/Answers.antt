use Rattle.pass_ledger.proofs.Posts.{own_post}
use Rattle.pass_ledger.proofs.Runs.{own_fresh}
use Rattle.pass_ledger.proofs.Steps.{own_take, own_close, own_prune}
use Rattle.pass_ledger.proofs.Visits.{own_visit}
use Rattle.pass_ledger.proofs.laws.law_own.Goals as goal

pub returns : goal.returns
returns c = record { begins = own_fresh; takes = own_take; closes = own_close; prunes = own_prune; visits = own_visit; posts = own_post }
