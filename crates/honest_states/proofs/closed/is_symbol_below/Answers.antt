use Rattle.std.proofs.Common.{◌≡◌, true, List, Option, subst, ◌∙◌}
use Rattle.dp_model.specs.declared.parts.PlainValue.{PlainValue}
use Rattle.poly_terms.specs.declared.terms.Term.{Term}
use Rattle.poly_eval.specs.declared.symbols.Symbol.TheVariants as shown
use Rattle.poly_eval.specs.Shows.{ShowsValue}
use Rattle.poly_met.specs.Met.{sum_below}
use Rattle.honest_states.specs.Symbols.{RestsOn}
use Rattle.honest_states.proofs.Closing.{number_rests, bits_rest}
use Rattle.honest_states.proofs.closed.is_symbol_below.Goals as goal

pub returns-in-Number : goal.returns-in-Number
returns-in-Number c = λ yes. number_rests c.args.n c.args.symbol.now c.in-Number.sum c.in-Number.is (subst (λ (p : List Term). sum_below c.args.n p ≡ true) (c.deref.ensures.value ∙ c.list.ensures) (c.is_sum_below.ensures yes))

pub returns-in-Members : goal.returns-in-Members
returns-in-Members c = λ yes.
    bits_rest c.args.n c.args.symbol.now c.in-Members.bits c.in-Members.is
    (subst (λ (bits : List (List Term)). (held : Option PlainValue) → RestsOn c.args.n (λ v. ShowsValue v (shown.Members bits) held)) (c.deref-in-Members.ensures.value ∙ c.list-in-Members.ensures) (c.are_bits_below.ensures yes))
