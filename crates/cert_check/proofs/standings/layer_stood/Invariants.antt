use Rattle.std.proofs.Common.{◌≡◌, map, take}
use Rattle.cert_types.specs.declared.nodes.CertNode.{CertNode}
use Rattle.cert_check.specs.Looked.{AllFit, found, stood}
use Rattle.cert_check.proofs.standings.layer_stood.Given as goal

-- those so far
abbrev pub invariant-loop-n : goal.invariant-loop-n
invariant-loop-n g l = (map found l.all.items ≡ map (λ (n : CertNode). stood l.looker l.before n.made) (take l.n-index l.nodes)) × AllFit l.looker l.all.items
