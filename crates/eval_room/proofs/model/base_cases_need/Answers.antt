use Rattle.std.proofs.Common.{rules, arith, ◌≡◌, ℕ}
use Rattle.std.proofs.lemmas.Option.{slice_get_within}
use Rattle.dp_model.specs.declared.parts.BaseCase.{BaseCase}
use Rattle.eval_room.specs.Needs.{ServesBaseCase}
use Rattle.eval_room.proofs.Lists.{before_more, base_case_more}
use Rattle.eval_room.proofs.model.base_cases_need.Goals as goal

pub loop-b-preserved : goal.loop-b-preserved
loop-b-preserved c = before_more (λ (x : BaseCase) (n : ℕ). ServesBaseCase c.args.model.now x n) (λ x a b h s. base_case_more h s) c.deref-b-items.result.now c.loop-b.b-index _ c.b-item.result c.loop-b.most _ _ c.loop-b-test.true c.b-item.is c.max-most.ensures c.in_ok-need.ensures c.loop-b.invariant

pub returns : goal.returns
returns c =
    let items : c.deref-b-items.result.now ≡ c.args.base_cases.now = search rules in
    rw (← items) (record { at = λ i x e. (let h = slice_get_within c.deref-b-items.result.now i x e in c.loop-b.invariant i x (omega (arith, h)) e) })
