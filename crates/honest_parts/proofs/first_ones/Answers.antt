use Rattle.std.proofs.Common.{◌≡◌, ◌&&◌, Bool, true, false, List, Some, length, get_or, slice_get, refl, ap, sym, subst, ◌∙◌}
use Rattle.honest_parts.specs.First.{AreFirst}
use Rattle.honest_parts.proofs.First.{are_first, first_all, first_done, first_from, first_long, first_more, first_only}
use Rattle.honest_parts.proofs.first_ones.Goals.{then-so_far, else-so_far}
use Rattle.honest_parts.proofs.first_ones.Goals as goal

pub loop-one-preserved : goal.loop-one-preserved
loop-one-preserved c =
    let one = get_or c.args.proved.now c.loop-one.one-index false in
    let both : c.if-so_far.so_far ≡ (c.loop-one.so_far && one) = elim c.if-so_far.branch [
      | then-so_far w ↦ w.so_far-is ∙ ap (λ (b : Bool). b && one) (sym w.if-so_far.true)
      | else-so_far w ↦ w.so_far-is ∙ w.if-so_far.false ∙ ap (λ (b : Bool). b && one) (sym w.if-so_far.false)
    ] in
    first_more c.loop-one.kept.items c.push.new.self.items c.args.proved.now c.loop-one.one-index c.loop-one.so_far c.if-so_far.so_far one false (first_from true c.args.proved.now) c.loop-one-test.true refl both
    c.in_ok-push.ensures.items c.loop-one.invariant

pub returns-clause-each : goal.returns-clause-each
returns-clause-each c =
    let same = first_done c.loop-one.kept.items c.args.proved.now c.loop-one.one-index c.loop-one.so_far (first_from true c.args.proved.now) c.loop-one-test.false c.loop-one.invariant in
    ap length same ∙ first_long true c.args.proved.now

pub returns-clause-only : goal.returns-clause-only
returns-clause-only c = λ i kept.
    let same = first_done c.loop-one.kept.items c.args.proved.now c.loop-one.one-index c.loop-one.so_far (first_from true c.args.proved.now) c.loop-one-test.false c.loop-one.invariant in
    first_only c.args.proved.now i (subst (λ (ks : List Bool). slice_get ks i ≡ Some true) same kept)

pub returns-clause-all : goal.returns-clause-all
returns-clause-all c = λ i all.
    let same = first_done c.loop-one.kept.items c.args.proved.now c.loop-one.one-index c.loop-one.so_far (first_from true c.args.proved.now) c.loop-one-test.false c.loop-one.invariant in
    subst (λ (ks : List Bool). slice_get ks i ≡ Some true) (sym same) (first_all c.args.proved.now i all)

pub returns-clause-first : goal.returns-clause-first
returns-clause-first c =
    let same = first_done c.loop-one.kept.items c.args.proved.now c.loop-one.one-index c.loop-one.so_far (first_from true c.args.proved.now) c.loop-one-test.false c.loop-one.invariant in
    subst (λ (ks : List Bool). AreFirst ks) (sym same) (are_first c.args.proved.now)
