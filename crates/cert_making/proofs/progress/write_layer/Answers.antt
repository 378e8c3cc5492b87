use Rattle.std.proofs.Common.{◌≡◌, true, false, length, refl, sym, ◌∙◌, eqb-true, eq-eqb}
use Rattle.cert_making.specs.declared.ends.Halt.TheVariants as halts
use Rattle.cert_making.proofs.Texts.{unwritten_broken, unwritten_none, written_more, written_none}
use Rattle.cert_making.proofs.Turns.{passed_up}
use Rattle.cert_making.proofs.progress.write_layer.Goals as goal

not_both : true ≡ false → ⊥
not_both e = cc

pub returns-then-is_empty-clause-written : goal.returns-then-is_empty-clause-written
returns-then-is_empty-clause-written g c = λ options claim before layers w.
    let none : length c.args.nodes.now ≡ 0 = eqb-true (length c.args.nodes.now) 0 (sym c.is_empty.ensures ∙ c.if-is_empty.true) in
    written_none c.args.model.now options claim before _ layers c.args.progress.now w c.args.nodes.now none

pub returns-clause-written : goal.returns-clause-written
returns-clause-written g c = λ options claim before layers w.
    let some : length c.args.nodes.now ≡ 0 → ⊥ = λ e. not_both (sym (eq-eqb (length c.args.nodes.now) 0 e) ∙ (sym c.is_empty.ensures ∙ c.if-is_empty.false)) in
    written_more c.args.model.now options claim before _ layers c.args.progress.now w c.args.nodes.now some _ c.in_ok-put_layer.ensures.ok _ refl c.in_ok-lines.ensures.ok.0 c.in_ok-lines.ensures.ok.1

pub returns-in_err-lines-clause-stopped : goal.returns-in_err-lines-clause-stopped
returns-in_err-lines-clause-stopped g c = λ options claim before layers w.
    passed_up c.from_residual.result c.in_err-lines.field-0.0 _ c.from_residual.ensures.1 (unwritten_none c.args.model.now options claim before _ layers c.args.progress.now w c.args.nodes.now c.in_err-lines.field-0.0 c.in_err-lines.ensures.err)

pub returns-in_err-put_layer-clause-stopped : goal.returns-in_err-put_layer-clause-stopped
returns-in_err-put_layer-clause-stopped g c = λ options claim before layers w.
    let some : length c.args.nodes.now ≡ 0 → ⊥ = λ e. not_both (sym (eq-eqb (length c.args.nodes.now) 0 e) ∙ (sym c.is_empty.ensures ∙ c.if-is_empty.false)) in
    passed_up c.from_residual-in_err-put_layer.result halts.Write _ c.from_residual-in_err-put_layer.ensures.1
    (unwritten_broken c.args.model.now options claim before _ layers c.args.progress.now w c.args.nodes.now some _ c.in_err-put_layer.ensures.err halts.Write refl)
