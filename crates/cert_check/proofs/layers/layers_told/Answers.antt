use Rattle.std.proofs.Common.{rules, arith, sym, ap, subst, refl, ◌∙◌, true, ℕ, ◌+◌, ◌<◌, ◌≡◌, ◌++◌, List, [], suc, length, map, drop}
use Rattle.std.specs.List.{list_all}
use Rattle.eval_room.specs.Needs.{ServesModel}
use Rattle.dom_store.specs.declared.past_node.PastNode.{PastNode}
use Rattle.cert_types.specs.Parents.{has_parent}
use Rattle.cert_types.specs.declared.nodes.CertNode.{CertNode}
use Rattle.cert_laws.specs.Shown.{layer_of}
use Rattle.cert_laws.specs.Checks.{covering, then_told}
use Rattle.cert_laws.specs.PartChecks.{layers_told_in}
use Rattle.cert_laws.specs.declared.answers.Checked.{Checked}
use Rattle.cert_check.specs.declared.standings.Standing.{Standing}
use Rattle.cert_check.specs.Looked.{AreFound, kept_before, pasts, stood, with_new}
use Rattle.cert_check.proofs.Alike.{alike_by, alike_kept, alike_new, alike_to}
use Rattle.cert_check.proofs.Rows.{before_fits, before_more, covering_first, covering_next, first_line, is_share, layers_step, next_line, none_before, parents_next, pasts_standing, stood_first, stood_next}
use Rattle.cert_check.proofs.layers.layers_told.Goals as goal

next_is : (l : ℕ) → l + 1 ≡ suc l
next_is l = omega arith

pub loop-l-init : goal.loop-l-init
loop-l-init g c =
    let m = c.args.looker.now in
    let cert = c.args.cert.now in
    let are : AreFound m cert 0 c.in_ok-here.here.items = c.in_ok-here.ensures.found ∙ ap (λ (ns : List CertNode). map (λ (n : CertNode). stood m [] n.made) ns) c.nodes_of.ensures ∙ stood_first m cert in (
      refl,
      are,
      c.in_ok-here.ensures.fits,
      alike_by m g.K.Covers.prune cert.prune _ (covering m cert cert.keep 0) c.requires.prune
          (alike_to m g.K.Covers.prune _ (with_new m g.K.Covers.prune [] (pasts c.deref.result.now)) ([] ++ pasts c.deref.result.now) (covering m cert cert.keep 0)
          (c.in_ok-remember.ensures.nodes ∙ ap (λ (ns : List PastNode). with_new m g.K.Covers.prune ns (pasts c.deref.result.now)) c.in_ok-past.ensures.nodes)
          (ap (λ (xs : List Standing). [] ++ pasts xs) c.deref.ensures.value
          ∙ ap (λ (ns : List PastNode). [] ++ ns) (pasts_standing m cert 0 c.in_ok-here.here.items are)
          ∙ covering_first m cert cert.keep)
          (alike_new m g.K.Covers.prune [] [] (pasts c.deref.result.now) (λ s cost. refl))),
      c.remember.ensures.layout ∙ c.in_ok-past.ensures.layout ∙ c.layout.ensures,
      ap (λ (n : ℕ). cert.first + 4 + n) c.lines_of_list.ensures ∙ (first_line cert).0,
      subst (λ (n : ℕ). ServesModel m n) (sym c.layer_stood.auto.stack) c.requires.room,
      none_before cert,
      omega arith,
    )

pub layer_stood-requires-in-loop-l-clause-parents : goal.layer_stood-requires-in-loop-l-clause-parents
layer_stood-requires-in-loop-l-clause-parents g c =
    let cert = c.args.cert.now in
    subst (λ (ns : List CertNode). list_all (has_parent (length c.deref-in-loop-l.result.now)) ns ≡ true) (sym c.nodes_of-in-loop-l.ensures)
    (subst (λ (xs : List Standing). list_all (has_parent (length xs)) (layer_of cert.layers (c.loop-l.l + 1)) ≡ true) (sym c.deref-in-loop-l.ensures.value)
    (parents_next c.args.looker.now cert c.loop-l.l (c.loop-l.l + 1) c.loop-l.here.items (next_is c.loop-l.l) c.loop-l.invariant.1))

pub layer_told-requires-clause-past : goal.layer_told-requires-clause-past
layer_told-requires-clause-past g c =
    let m = c.args.looker.now in
    let cert = c.args.cert.now in
    let l = c.loop-l.l in
    let are : AreFound m cert (l + 1) c.in_ok-next.next.items =
    c.in_ok-next.ensures.found
    ∙ ap (λ (ns : List CertNode). map (λ (n : CertNode). stood m c.deref-in-loop-l.result.now n.made) ns) c.nodes_of-in-loop-l.ensures
    ∙ ap (λ (xs : List Standing). map (λ (n : CertNode). stood m xs n.made) (layer_of cert.layers (l + 1))) c.deref-in-loop-l.ensures.value
    ∙ stood_next m cert l (l + 1) c.loop-l.here.items (next_is l) c.loop-l.invariant.1 in
    alike_to m g.K.Covers.prune _ (with_new m g.K.Covers.prune (kept_before cert.keep c.loop-l.past.nodes) (pasts c.deref-in-loop-l-2.result.now))
    (kept_before cert.keep (covering m cert cert.keep l) ++ pasts c.deref-in-loop-l-2.result.now) (covering m cert cert.keep (l + 1))
    c.in_ok-keep_next.ensures.nodes
    (ap (λ (xs : List Standing). kept_before cert.keep (covering m cert cert.keep l) ++ pasts xs) c.deref-in-loop-l-2.ensures.value
    ∙ ap (λ (ns : List PastNode). kept_before cert.keep (covering m cert cert.keep l) ++ ns) (pasts_standing m cert (l + 1) c.in_ok-next.next.items are)
    ∙ covering_next m cert cert.keep l (l + 1) (next_is l))
    (alike_new m g.K.Covers.prune (kept_before cert.keep c.loop-l.past.nodes) (kept_before cert.keep (covering m cert cert.keep l)) (pasts c.deref-in-loop-l-2.result.now)
    (alike_kept m g.K.Covers.prune cert.keep c.loop-l.past.nodes (covering m cert cert.keep l)
    (alike_by m cert.prune g.K.Covers.prune c.loop-l.past.nodes (covering m cert cert.keep l) (sym c.requires.prune) c.loop-l.invariant.3)))

pub overflow_add-line-in-loop-l-2 : goal.overflow_add-line-in-loop-l-2
overflow_add-line-in-loop-l-2 g c =
    let cert = c.args.cert.now in
    let lt : c.loop-l.l < length cert.layers = subst (λ (n : ℕ). c.loop-l.l < n) (search rules) c.loop-l-test.true in
    let fits = (next_line cert c.loop-l.l c.loop-l.line lt c.loop-l.invariant.5).1 in
    let same = ap length c.nodes_of-in-loop-l-2.ensures in
    omega (arith, fits, same)

pub layer_told-requires-clause-share : goal.layer_told-requires-clause-share
layer_told-requires-clause-share g c =
    let lt : c.loop-l.l < length c.args.cert.now.layers = subst (λ (n : ℕ). c.loop-l.l < n) (search rules) c.loop-l-test.true in
    is_share c.args.cert.now c.args.part c.loop-l.l c.loop-l.line c.loop-l.before c.requires.part lt c.loop-l.invariant.5 c.loop-l.invariant.8

pub overflow_add-before : goal.overflow_add-before
overflow_add-before g c =
    let cert = c.args.cert.now in
    let lt : c.loop-l.l < length cert.layers = subst (λ (n : ℕ). c.loop-l.l < n) (search rules) c.loop-l-test.true in
    let fits = (before_fits cert c.loop-l.l c.loop-l.line c.loop-l.before lt c.loop-l.invariant.5 c.loop-l.invariant.8).1 in
    let same = ap length c.nodes_of-in-loop-l-3.ensures in
    omega (arith, fits, same)

pub loop-l-preserved : goal.loop-l-preserved
loop-l-preserved g c =
    let m = c.args.looker.now in
    let cert = c.args.cert.now in
    let l = c.loop-l.l in
    let lt : l < length cert.layers = subst (λ (n : ℕ). l < n) (search rules) c.loop-l-test.true in
    let are : AreFound m cert (l + 1) c.in_ok-next.next.items =
    c.in_ok-next.ensures.found
    ∙ ap (λ (ns : List CertNode). map (λ (n : CertNode). stood m c.deref-in-loop-l.result.now n.made) ns) c.nodes_of-in-loop-l.ensures
    ∙ ap (λ (xs : List Standing). map (λ (n : CertNode). stood m xs n.made) (layer_of cert.layers (l + 1))) c.deref-in-loop-l.ensures.value
    ∙ stood_next m cert l (l + 1) c.loop-l.here.items (next_is l) c.loop-l.invariant.1 in (
      ap (λ (t : Checked). then_told t (layers_told_in c.args.part m cert (l + 1) (drop (l + 1) cert.layers))) (sym c.in-Yes.is ∙ c.in_ok-told.ensures)
          ∙ sym (layers_step c.args.part m cert l cert.layers lt) ∙ c.loop-l.invariant.0,
      are,
      c.in_ok-next.ensures.fits,
      alike_by m g.K.Covers.prune cert.prune _ (covering m cert cert.keep (l + 1)) c.requires.prune
          (alike_to m g.K.Covers.prune _ (with_new m g.K.Covers.prune (kept_before cert.keep c.loop-l.past.nodes) (pasts c.deref-in-loop-l-2.result.now))
          (kept_before cert.keep (covering m cert cert.keep l) ++ pasts c.deref-in-loop-l-2.result.now) (covering m cert cert.keep (l + 1))
          c.in_ok-keep_next.ensures.nodes
          (ap (λ (xs : List Standing). kept_before cert.keep (covering m cert cert.keep l) ++ pasts xs) c.deref-in-loop-l-2.ensures.value
          ∙ ap (λ (ns : List PastNode). kept_before cert.keep (covering m cert cert.keep l) ++ ns) (pasts_standing m cert (l + 1) c.in_ok-next.next.items are)
          ∙ covering_next m cert cert.keep l (l + 1) (next_is l))
          (alike_new m g.K.Covers.prune (kept_before cert.keep c.loop-l.past.nodes) (kept_before cert.keep (covering m cert cert.keep l)) (pasts c.deref-in-loop-l-2.result.now)
          (alike_kept m g.K.Covers.prune cert.keep c.loop-l.past.nodes (covering m cert cert.keep l)
          (alike_by m cert.prune g.K.Covers.prune c.loop-l.past.nodes (covering m cert cert.keep l) (sym c.requires.prune) c.loop-l.invariant.3)))),
      c.keep_next.ensures.layout,
      ap (λ (ns : List CertNode). c.loop-l.line + (1 + length ns)) c.nodes_of-in-loop-l-2.ensures ∙ (next_line cert l c.loop-l.line lt c.loop-l.invariant.5).0,
      subst (λ (n : ℕ). ServesModel m n) (sym (c.layer_told.auto.stack ∙ c.layer_stood-in-loop-l.auto.stack)) c.loop-l.invariant.6,
      ap (λ (ns : List CertNode). c.loop-l.before + length ns) c.nodes_of-in-loop-l-3.ensures ∙ before_more cert l c.loop-l.before lt c.loop-l.invariant.7,
      (let line = ap length c.nodes_of-in-loop-l-2.ensures in
          let more = ap length c.nodes_of-in-loop-l-3.ensures in
          omega (arith, line, more, c.loop-l.invariant.8)),
    )
