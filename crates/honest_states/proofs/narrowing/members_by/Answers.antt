use Rattle.std.proofs.Common.{◌≡◌, ℕ, ℤ, Bool, true, List, Option, Some, None, slice_get, get_or}
use Rattle.dp_model.specs.Evaluation.{has, set_held}
use Rattle.poly_terms.specs.declared.terms.Term.{Term}
use Rattle.poly_terms.specs.Worth.{worth, as_bit}
use Rattle.honest_states.specs.Modes.{is_so}
use Rattle.honest_states.specs.Facts.{AreFacts}
use Rattle.honest_states.proofs.Lists.{longer, pushed, read_at}
use Rattle.honest_states.proofs.Knowing.{members_at, members_from}
use Rattle.honest_states.proofs.narrowing.members_by.Goals as goal

pub loop-j-preserved : goal.loop-j-preserved
loop-j-preserved c =
    let e = c.in_ok-push.ensures.items in (
      longer c.loop-j.more.items c.push.new.self.items c.member_at.result c.loop-j.j e c.loop-j.invariant.0,
      pushed
          (λ (k : ℕ) (y : Option Bool) (x : Option Bool). (v : ℕ → ℤ) (b : Bool) → AreFacts v c.args.told.now → ((p : List Term) → slice_get c.args.bits.now k ≡ Some p → as_bit b ≡ worth v p) → is_so y b ≡ true → is_so x b ≡ true)
          c.args.members.now c.loop-j.more.items c.push.new.self.items (get_or c.args.members.now c.loop-j.j None) c.member_at.result c.loop-j.j e c.loop-j.invariant.0 c.loop-j.invariant.1
          (read_at c.args.members.now c.loop-j.j None c.loop-j-test.true) c.member_at.ensures,
    )

pub returns : goal.returns
returns c = λ v held facts shows h.
    members_from c.loop-j.more.items (set_held held)
    (λ k x e. let here = c.loop-j.invariant.1 k x e in here.2 v (has (set_held held) k) facts (λ p q. shows k p q) (members_at c.args.members.now (set_held held) h k here.0 here.1))
