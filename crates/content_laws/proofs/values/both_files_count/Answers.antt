use Rattle.content_laws.proofs.Joining.{lists_law}
use Rattle.content_laws.proofs.values.both_files_count.Goals as goal

pub returns : goal.returns
returns c = lists_law
