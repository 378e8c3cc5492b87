use Rattle.std.proofs.Common.{rules}
use Rattle.dp_outside.proofs.Calls.{fails-along}
use Rattle.dp_outside.proofs.mem_shelf.MemShelfShelf.read.Goals as goal

pub returns-then-is_err-clause-fails : goal.returns-then-is_err-clause-fails
returns-then-is_err-clause-fails c =
    fails-along _ _ _ _ _ _ _ (search rules) (search rules) (search rules) c.read_unless-count.ensures.fails
