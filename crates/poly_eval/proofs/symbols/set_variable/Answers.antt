use Rattle.std.proofs.Common.{rules, ◌≡◌, ℕ, true, length, Some, ℤ, sym, subst}
use Rattle.dp_model.specs.Evaluation.{count_of, has, set_in}
use Rattle.dp_model.specs.Typing.{is_set_below}
use Rattle.poly_eval.specs.Shows.{Shows}
use Rattle.poly_eval.specs.Bits.{Tells}
use Rattle.dp_model.specs.Typing.{kind_at}
use Rattle.dp_model.specs.declared.parts.VarKind.TheVariants as kinds
use Rattle.poly_eval.proofs.Fitting.{variable_below}
use Rattle.dp_model.specs.declared.parts.PlainState.{PlainState}
use Rattle.poly_eval.proofs.symbols.set_variable.Goals as goal

pub returns-then-len-count_of-clause-bits : goal.returns-then-len-count_of-clause-bits
returns-then-len-count_of-clause-bits c =
    let kind : kind_at c.args.model.now.variables c.args.place ≡ Some (kinds.Set c.in-Some.object) = search rules in
    let long : length c.in_ok-row.row.items ≡ count_of c.args.model.now c.in-Some.object = search rules in
    let tells : (v : ℕ → ℤ) (s : PlainState) → Shows v c.args.symbols.now s → Tells v c.in_ok-row.row.items (has (set_in s c.args.place)) = search rules in
    λ v s state shows. record {
      below = subst (λ (n : ℕ). is_set_below n (set_in s c.args.place) ≡ true) (sym long) (variable_below c.args.model.now s c.args.place c.in-Some.object state kind);
      bit = tells v s shows;
    }
