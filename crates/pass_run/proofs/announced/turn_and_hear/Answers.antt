use denote.Exit.{no}
use denote.Param.Send.{param_send, arg_send}
use Rattle.std.proofs.Common.{slice_get, sym, ap, ◌∙◌}
use Rattle.std.specs.Global.{Vec}
use Rattle.shard_threads.specs.declared.seated.Seated.{Seated}
use Rattle.shard_turns.specs.declared.turner.Turner.{Turner}
use Rattle.pass_run.proofs.Crosses.{of-turner}
use Rattle.pass_run.proofs.announced.turn_and_hear.Lts as lts
use Rattle.pass_run.proofs.announced.turn_and_hear.Goals as goal

pub returns-clause-sink : goal.returns-clause-sink
returns-clause-sink g c =
    let h = c.requires.ear in
    (c.turn_in_threads-turned.ensures.between h.0 h.1).sink_is ∙ sym h.1.sink_is

pub returns-clause-crier : goal.returns-clause-crier
returns-clause-crier g c =
    let h = c.requires.ear in
    (c.turn_in_threads-turned.ensures.between h.0 h.1).crier_is ∙ sym h.1.crier_is

pub turn_in_threads-turned-requires-clause-players : goal.turn_in_threads-turned-requires-clause-players
turn_in_threads-turned-requires-clause-players g c κs within = λ i s at. c.requires.players i s (ap (λ (v : Vec (Seated (Turner g.row.L.Denot g.row.K.Denot))). slice_get v.items i) (sym c.replace-waiting.ensures.value) ∙ at)

-- a shard may be sent
pub turn_in_threads-turned-requires-send-P : goal.turn_in_threads-turned-requires-send-P
turn_in_threads-turned-requires-send-P g c κs within = param_send 0 (lts.arg-2-0 g.row.L g.row.K g.row.R g.row.G g.row.S g.L.laws g.K.laws g.R.laws g.G.laws g.S.laws g.L.CostLaw g.L.CostLaw-dict g.K.Covers g.K.Covers-dict g.R.Threads g.R.Threads-dict g.R.Wait g.R.Wait-dict g.G.Gate g.G.Gate-dict g.S.Sink g.S.Sink-dict κs)
    (arg_send _ no _ (of-turner _ _ _ g.L.CostLaw g.K.Covers c.type_bounds.send-L c.type_bounds.send-K))
