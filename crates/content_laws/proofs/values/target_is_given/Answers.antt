use Rattle.content_laws.proofs.Targeting.{target_law, target_of_law}
use Rattle.content_laws.proofs.values.target_is_given.Goals as goal

pub returns : goal.returns
returns c = record { alone = target_law; in_model = target_of_law }
