use Rattle.std.proofs.Common.{◌≡◌, refl, sym, ap, ◌∙◌}
use Rattle.poly_terms.specs.declared.table.Atom.TheVariants.{Bit}
use Rattle.poly_terms.specs.Worth.{worth, as_bit}
use Rattle.honest_states.proofs.Lists.{ok_some, on_ok}
use Rattle.honest_states.proofs.Opened.{opens_same, opens_put, bit_meets, so_true, so_false}
use Rattle.honest_states.proofs.opening.bit_of.Goals as goal

pub returns-in_ok-constant-in-Some-true-clause-shows : goal.returns-in_ok-constant-in-Some-true-clause-shows
returns-in_ok-constant-in-Some-true-clause-shows c = λ b so.
    opens_same c.args.table.now.items (λ v. as_bit b ≡ worth v c.in_ok-constant-in-Some-true.field-0.items)
    (λ v. ap as_bit (so_true c.args.known c.in-Some-true.field-0 b c.in-Some-true.is c.in-Some-true.field-0-test so) ∙ sym (c.in_ok-constant-in-Some-true.ensures v))

pub returns-in_ok-constant-in-Some-false-clause-shows : goal.returns-in_ok-constant-in-Some-false-clause-shows
returns-in_ok-constant-in-Some-false-clause-shows c = λ b so.
    opens_same c.args.table.now.items (λ v. as_bit b ≡ worth v c.in_ok-constant-in-Some-false.field-0.items)
    (λ v. ap as_bit (so_false c.args.known c.in-Some-false.field-0 b c.in-Some-false.is c.in-Some-false.field-0-test so) ∙ sym (c.in_ok-constant-in-Some-false.ensures v))

pub returns-in-None-clause-free : goal.returns-in-None-clause-free
returns-in-None-clause-free c = on_ok c.opened.result _ _ c.opened.ensures.free (λ f. f refl)

pub returns-in-None-clause-shows : goal.returns-in-None-clause-shows
returns-in-None-clause-shows c = ok_some c.opened.result _ _ c.opened.ensures.last (λ p h b so. opens_put c.args.table.now.items c.opened.new.table.items Bit (as_bit b) p.items h.0 refl (bit_meets b) h.1)
