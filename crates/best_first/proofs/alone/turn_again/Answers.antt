use Rattle.std.proofs.Common.{◌∙◌}
use Rattle.best_first.proofs.Resting.{goes_again}
use Rattle.best_first.proofs.alone.turn_again.Goals as goal

pub take_turn-requires-clause-acts : goal.take_turn-requires-clause-acts
take_turn-requires-clause-acts g c =
    let h = c.requires in
    let s = c.args.seated.now in
    (h.0.0, h.1.suited, goes_again h.0.0 c.args.floor.now.board.now c.args.floor.now.boxes.now.boxes.items s.player s.seat (c.has_stopped.ensures.goes_on c.if-has_stopped.false) h.1.keeps)

pub returns : goal.returns
returns g c = λ terms plays.
    let s = c.args.seated.now in
    let acts = goes_again terms.0 c.args.floor.now.board.now c.args.floor.now.boxes.now.boxes.items s.player s.seat (c.has_stopped.ensures.goes_on c.if-has_stopped.false) plays.keeps in
    record {
      suited = plays.suited;
      me = c.take_turn.ensures.me ∙ plays.me;
      keeps = c.take_turn.ensures.keeps terms.0 plays.suited acts;
    }
