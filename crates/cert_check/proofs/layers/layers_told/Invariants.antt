use Rattle.std.proofs.Common.{◌≡◌, ◌≤◌, drop, length}
use Rattle.eval_room.specs.Needs.{ServesModel}
use Rattle.state_layout.specs.Conditions.{IsLayoutOf}
use Rattle.cert_types.specs.Lines.{line_of_layer}
use Rattle.cert_types.specs.Places.{nodes_before}
use Rattle.cert_laws.specs.Checks.{covering}
use Rattle.cert_laws.specs.PartChecks.{layers_told_in}
use Rattle.cert_check.specs.Looked.{AllFit, AreFound, CoverAlike}
use Rattle.cert_check.proofs.layers.layers_told.Given as goal

-- the layers that are left decide; where the lists of this layer lead and what covers is at hand
abbrev pub invariant-loop-l : goal.invariant-loop-l
invariant-loop-l g l =
    (layers_told_in l.part l.looker l.cert l.l (drop l.l l.cert.layers) ≡ layers_told_in l.part l.looker l.cert 0 l.cert.layers)
    × AreFound l.looker l.cert l.l l.here.items
    × AllFit l.looker l.here.items
    × CoverAlike l.looker l.cert.prune l.past.nodes (covering l.looker l.cert l.cert.keep l.l)
    × IsLayoutOf l.looker l.past.layout
    × (l.line ≡ line_of_layer l.cert.first l.cert.claim l.cert.layers l.l)
    × ServesModel l.looker (length l.stack)
    × (l.before ≡ nodes_before l.cert.layers l.l)
    × (l.before ≤ l.line)
