use Rattle.std.proofs.Common.{◌≡◌, take}
use Rattle.cert_check.specs.Looked.{pasts, with_new}
use Rattle.cert_check.proofs.standings.remember.Given as goal

-- those so far are kept, unless others cover them
abbrev pub invariant-loop-standing : goal.invariant-loop-standing
invariant-loop-standing g l = (l.past.nodes ≡ with_new l.looker g.K.Covers.prune l.fn.past.nodes (pasts (take l.standing-index l.standings))) × (l.past.layout ≡ l.fn.past.layout)
