use Rattle.cert_rows.proofs.Backed.{law_of_cut, law_of_rows, law_of_target}
use Rattle.cert_rows.proofs.Layers.{law_of_layers}
use Rattle.cert_rows.proofs.law_rows.Goals as goal

pub returns : goal.returns
returns c = record { rows = law_of_rows; target = law_of_target; cut = law_of_cut; layers = law_of_layers }
