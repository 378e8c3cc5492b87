use Rattle.best_ends.proofs.Endings.{without_memory}
use Rattle.best_ends.proofs.answers.answer.Goals as goal

pub returns-in-Err : goal.returns-in-Err
returns-in-Err g c b records before after law left = without_memory b records before after c.args.tally.now c.args.cause left c.out_of_memory.result c.out_of_memory.ensures
