use Rattle.std.proofs.Common.{◌≡◌, ℕ, ℤ, Bool, true, List, Option, subst, ◌∙◌}
use Rattle.dp_model.specs.declared.parts.PlainValue.{PlainValue}
use Rattle.poly_terms.specs.declared.terms.Term.{Term}
use Rattle.poly_terms.specs.Fits.{Fits}
use Rattle.poly_eval.specs.declared.symbols.Symbol.TheVariants as shown
use Rattle.poly_eval.specs.Shows.{ShowsValue}
use Rattle.honest_states.specs.declared.mode.Known.TheVariants as knowledge
use Rattle.honest_states.specs.Modes.{is_known}
use Rattle.honest_states.proofs.Lists.{if_ok}
use Rattle.honest_states.proofs.Knowing.{within_members}
use Rattle.honest_states.proofs.within.is_within.Goals as goal

abbrev Says : List (List Term) → List (Option Bool) → ((ℕ → ℤ) → Type 0) → Type 0
Says bits members F = (v : ℕ → ℤ) (held : Option PlainValue) → F v → ShowsValue v (shown.Members bits) held → is_known (knowledge.Members members) held ≡ true

pub returns-in-Members-Members : goal.returns-in-Members-Members
returns-in-Members-Members c =
    if_ok c.are_members_within.result _ _ c.are_members_within.ensures (λ shows h yes.
    within_members c.args.table.now c.args.symbol.now c.args.known.now c.in-Members-Members.bits c.in-Members-Members.members c.in-Members-Members.is-0 c.in-Members-Members.is-1
    (subst (λ (bits : List (List Term)). Says bits c.in-Members-Members.members (Fits c.args.table.now)) (c.deref-in-Members-Members.ensures.value ∙ c.list-in-Members-Members.ensures)
    (subst (λ (ms : List (Option Bool)). Says c.deref-in-Members-Members.result.now ms (Fits c.args.table.now)) (c.deref-in-Members-Members-2.ensures.value ∙ c.list-in-Members-Members-2.ensures) (h yes))))
