use Rattle.std.proofs.Common.{rules, ◌≡◌, Bool, true, List, Option, sym, subst, ◌∙◌}
use Rattle.dp_model.specs.Evaluation.{set_held}
use Rattle.dp_model.specs.declared.parts.PlainValue.{PlainValue}
use Rattle.poly_terms.specs.declared.terms.Term.{Term}
use Rattle.poly_eval.specs.declared.symbols.Symbol.TheVariants as shown
use Rattle.poly_eval.specs.Shows.{ShowsValue}
use Rattle.honest_states.specs.declared.mode.Known.{Known}
use Rattle.honest_states.specs.declared.mode.Known.TheVariants as knowledge
use Rattle.honest_states.specs.Modes.{are_so, is_known}
use Rattle.honest_states.specs.Symbols.{Opens}
use Rattle.honest_states.proofs.opening.symbol_of.Goals as goal

pub returns-in-Some-2-clause-shows : goal.returns-in-Some-2-clause-shows
returns-in-Some-2-clause-shows c = λ held h.
    let shows : (z : Option PlainValue) → is_known (knowledge.Members c.deref.result.now) z ≡ true → Opens c.args.table.now.items c.bits_of.new.table.items (λ v. ShowsValue v (shown.Members c.in-Some-2.bits.items) z) = search rules in
    subst (λ (bits : List (List Term)). Opens c.args.table.now.items c.bits_of.new.table.items (λ v. ShowsValue v (shown.Members bits) held)) (sym c.of-in-Some-2.ensures)
    (shows held (subst (λ (ms : List (Option Bool)). are_so ms 0 (set_held held) ≡ true) (sym (c.deref.ensures.value ∙ c.list.ensures)) (subst (λ (k : Known). is_known k held ≡ true) c.in-Members.is h)))
