use Rattle.content_laws.proofs.Choosing.{member_law, no_member_law}
use Rattle.content_laws.proofs.choices.parameter_is_member.Goals as goal

pub returns : goal.returns
returns c = record { enabled = member_law; disabled = no_member_law }
