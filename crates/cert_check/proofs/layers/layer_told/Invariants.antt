use Rattle.std.proofs.Common.{◌≡◌, ℕ, ◌<◌, None, Some, length, slice_get}
use Rattle.eval_room.specs.Needs.{ServesModel}
use Rattle.cert_types.specs.declared.nodes.CertNode.{CertNode}
use Rattle.cert_laws.specs.Shown.{layer_of}
use Rattle.cert_laws.specs.PartChecks.{node_fails_in}
use Rattle.cert_check.proofs.layers.layer_told.Given as goal

-- no line so far is rejected in the part
abbrev pub invariant-loop-place : goal.invariant-loop-place
invariant-loop-place g l = ((k : ℕ) (n : CertNode) → k < l.place → slice_get (layer_of l.cert.layers l.l) k ≡ Some n → node_fails_in l.share.part l.looker l.cert l.l k n ≡ None) × ServesModel l.looker (length l.stack)
