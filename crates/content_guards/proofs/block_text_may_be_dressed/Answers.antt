use Rattle.content_guards.proofs.Dresses.{dress_law}
use Rattle.content_guards.proofs.block_text_may_be_dressed.Goals as goal

pub returns : goal.returns
returns c = dress_law
