use Rattle.std.proofs.Common.{◌≡◌, Option, Some, None, is_some, true, false, refl, subst, ◌∙◌}
use Rattle.best_turns.specs.Turners.{KeepsAs}
use Rattle.best_seats.specs.declared.ended.BestEnded.{BestEnded}
use Rattle.best_turns.proofs.player.BestTurnerPlayer.turn.Goals as goal

is_off : (o : Option BestEnded) → is_some o ≡ false → o ≡ None
is_off None e = refl
is_off (Some end) e = let clash : true ≡ false = e in absurd (cc)

pub take_turn-requires-clause-acts : goal.take_turn-requires-clause-acts
take_turn-requires-clause-acts g c =
    let h = c.requires.held in
    let t = c.args.self.now in
    (h.0.0, h.1.suited, subst (λ (o : Option BestEnded). KeepsAs h.0.0 c.args.board.now c.args.boxes.now.boxes.items o t c.args.seat.now) (is_off t.ended c.requires.goes_on) h.1.keeps)

pub take_turn-requires-clause-goes_on : goal.take_turn-requires-clause-goes_on
take_turn-requires-clause-goes_on g c = is_off c.args.self.now.ended c.requires.goes_on

pub returns : goal.returns
returns g c = λ terms plays.
    let t = c.args.self.now in
    let acts = subst (λ (o : Option BestEnded). KeepsAs terms.0 c.args.board.now c.args.boxes.now.boxes.items o t c.args.seat.now) (is_off t.ended c.requires.goes_on) plays.keeps in
    record {
      suited = plays.suited;
      me = c.take_turn.ensures.me ∙ plays.me;
      keeps = c.take_turn.ensures.keeps terms.0 plays.suited acts;
    }
