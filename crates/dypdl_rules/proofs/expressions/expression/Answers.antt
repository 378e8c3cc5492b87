use Rattle.dypdl_rules.proofs.expressions.expression.Goals as goal

pub returns : goal.returns
returns c = λ read h. rw (c.in_ok-text.ensures, ← c.place.ensures) (c.text_placed.ensures _ (c.expression_in.ensures read h))
