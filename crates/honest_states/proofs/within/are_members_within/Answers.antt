use Rattle.std.proofs.Common.{◌≡◌, ℕ, ℤ, Bool, true, Option, None, get_or}
use Rattle.dp_model.specs.Evaluation.{has, set_held}
use Rattle.dp_model.specs.declared.parts.PlainValue.{PlainValue}
use Rattle.poly_terms.specs.Fits.{Fits}
use Rattle.poly_eval.specs.declared.symbols.Symbol.TheVariants as shown
use Rattle.poly_eval.specs.Shows.{ShowsValue}
use Rattle.honest_states.specs.Modes.{is_so}
use Rattle.honest_states.proofs.Lists.{all_below, one_further, read_at}
use Rattle.honest_states.proofs.Knowing.{members_from}
use Rattle.honest_states.proofs.within.are_members_within.Goals as goal

pub loop-j-preserved : goal.loop-j-preserved
loop-j-preserved c =
    let known = get_or c.args.members.now c.loop-j.j None in
    let now = c.in_ok-is_member_within.ensures c.if-not-branch.false in
    one_further (λ (i : ℕ) (y : Option Bool). (u : ℕ → ℤ) (z : Option PlainValue) → Fits c.args.table.now u → ShowsValue u (shown.Members c.args.bits.now) z → is_so y (has (set_held z) i) ≡ true)
    c.args.members.now c.loop-j.j known (read_at c.args.members.now c.loop-j.j None c.loop-j-test.true) now c.loop-j.invariant

pub returns : goal.returns
returns c = λ _ v held fits shows.
    members_from c.args.members.now (set_held held)
    (λ k x e. all_below
    (λ (i : ℕ) (y : Option Bool). (u : ℕ → ℤ) (z : Option PlainValue) → Fits c.args.table.now u → ShowsValue u (shown.Members c.args.bits.now) z → is_so y (has (set_held z) i) ≡ true)
    c.args.members.now c.loop-j.j c.loop-j-test.false c.loop-j.invariant k x e v held fits shows)
