use Rattle.std.proofs.Common.{rules, ◌≡◌, List, Some, slice_get, sym, subst}
use Rattle.dp_model.specs.Evaluation.{has, set_held}
use Rattle.dp_model.specs.declared.parts.Effect.{Effect}
use Rattle.poly_terms.specs.declared.terms.Term.{Term}
use Rattle.poly_terms.specs.Worth.{worth, as_bit}
use Rattle.poly_eval.specs.Shows.{IsSet}
use Rattle.wide_steps.specs.Steps.{wide_effect}
use Rattle.honest_steps.proofs.effects.value_of.Goals as goal

pub returns-in-Some-2-clause-value : goal.returns-in-Some-2-clause-value
returns-in-Some-2-clause-value c = λ s v state fits shows j p at.
    let told : IsSet c.args.model.now c.members.new.table.items c.args.before.now c.args.given.now c.in-Members.e c.in-Some-2.bits.items = search rules in
    let here : slice_get c.in-Some-2.bits.items j ≡ Some p = subst (λ (row : List (List Term)). slice_get row j ≡ Some p) c.of-in-Some-2.ensures at in
    subst (λ (e : Effect). as_bit (has (set_held (Some (wide_effect c.args.model.now s c.args.given.now e).1)) j) ≡ worth v p) (sym c.in-Members.is) ((told s v state fits shows).bits.bit j p here)
