use Rattle.std.proofs.Common.{◌≡◌, true, Bool, List, Option, sym, subst, ◌∙◌}
use Rattle.dp_model.specs.Evaluation.{set_held}
use Rattle.poly_terms.specs.declared.terms.Term.{Term}
use Rattle.poly_eval.specs.declared.symbols.Symbol.{Symbol}
use Rattle.poly_eval.specs.declared.symbols.Symbol.TheVariants as shown
use Rattle.poly_eval.specs.Shows.{ShowsValue}
use Rattle.honest_states.specs.Modes.{are_so}
use Rattle.honest_states.proofs.joining.known_in.Goals as goal

pub returns-in_ok-members-in-Members : goal.returns-in_ok-members-in-Members
returns-in_ok-members-in-Members c = λ v held fits shows.
    subst (λ (ms : List (Option Bool)). are_so ms 0 (set_held held) ≡ true) (sym c.of.ensures)
    (c.in_ok-members-in-Members.ensures v held fits
    (subst (λ (bits : List (List Term)). ShowsValue v (shown.Members bits) held) (sym (c.deref-in-Members.ensures.value ∙ c.list-in-Members.ensures)) (subst (λ (x : Symbol). ShowsValue v x held) c.in-Members.is shows)))
