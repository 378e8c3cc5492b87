-- What a certificate says, apart from what each keeps.
use Rattle.std.specs.Prelude.{ℕ, Bool, List}
use Rattle.dp_model.specs.declared.answers.Claim.{Claim}
use Rattle.dp_model.specs.declared.answers.Keep.{Keep}
use Rattle.cert_types.specs.declared.cert.Cert.{Cert}
use Rattle.cert_types.specs.declared.nodes.CertNode.{CertNode}

-- The parts of a certificate: the line that it begins in, which nodes cover, whether bounds and dominance are used, what is
-- claimed, and the nodes of each layer.
pub record Parts : Type 0 where
  pub first : ℕ
  pub keep : Keep
  pub prune : Bool
  pub claim : Claim
  pub layers : List (List CertNode)

abbrev pub parts_of : Cert → Parts
parts_of cert = record { first = cert.first; keep = cert.keep; prune = cert.prune; claim = cert.claim; layers = cert.layers }
