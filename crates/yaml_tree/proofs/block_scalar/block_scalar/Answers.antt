use Rattle.std.proofs.Common.{◌+◌, ◌∙◌, ℕ, Err, drop, sym, ap}
use Rattle.std.proofs.lemmas.Bool.{eq-eqb, ne_eqb}
use Rattle.dp_base.specs.declared.place.Place.{Place}
use Rattle.yaml_tree.specs.Lines.{settle}
use Rattle.yaml_tree.specs.Texts.{place_in}
use Rattle.yaml_tree.specs.BlockScalars.{content_of}
use Rattle.yaml_tree.specs.declared.tree.YamlEnd.TheVariants.{Unread}
use Rattle.yaml_tree.proofs.BlockContents.{out_of_profile, shallow_line, whole_scalar}
use Rattle.yaml_tree.proofs.block_scalar.block_scalar.Goals as goal

pub returns-then-least-eq0-clause-refused : goal.returns-then-least-eq0-clause-refused
returns-then-least-eq0-clause-refused c =
    out_of_profile c.args.style c.args.chomping c.args.least c.args.at c.args.reader.now (eq-eqb c.args.least 0 c.if-least-eq0.true)

pub returns-in-Some-clause-refused : goal.returns-in-Some-clause-refused
returns-in-Some-clause-refused c =
    let r = c.args.reader.now in
    let row = c.in-Some.row in
    let are = c.content_of-content.ensures.value ∙ ap (content_of c.args.least) c.below-below.ensures in
    let there = sym c.shallow.ensures ∙ c.in-Some.is in
    let at = c.place.ensures ∙ ap (λ (file : ℕ). place_in file row.number (row.indent + 1)) c.file.ensures in
    shallow_line c.args.style c.args.chomping c.args.least c.args.at r c.content_of-content.result c.content_indent-indent.result (ne_eqb c.args.least 0 c.if-least-eq0.false) are c.content_indent-indent.ensures row there
    ∙ ap (λ (p : Place). Err (Unread p)) (sym at)

pub returns-clause-read : goal.returns-clause-read
returns-clause-read c =
    let r = c.args.reader.now in
    let are = c.content_of-content.ensures.value ∙ ap (content_of c.args.least) c.below-below.ensures in
    let none = sym c.shallow.ensures ∙ c.in_default.is in
    let left = c.settle.ensures ∙ ap settle (c.pass.ensures ∙ ap (λ (n : ℕ). record r { below = drop n r.below }) c.len.ensures) in
    whole_scalar c.args.style c.args.chomping c.args.least c.args.at r c.content_of-content.result c.content_indent-indent.result (ne_eqb c.args.least 0 c.if-least-eq0.false) are c.content_indent-indent.ensures
    c.of.result c.settle.new.reader none (c.of.ensures ∙ c.in_ok-text.ensures) left
