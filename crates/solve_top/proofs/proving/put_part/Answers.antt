use Rattle.std.proofs.Common.{List, ℕ, ◌++◌, ◌∙◌, ap, codes, sym}
use Rattle.std.proofs.lemmas.List.{append-nil}
use Rattle.dp_base.specs.Bytes.{line}
use Rattle.kept_model.specs.declared.parts.PartName.{PartName}
use Rattle.solve_report.proofs.Written.{Puts-same}
use Rattle.solve_top.specs.Parts.{part_line, proved_text}
use Rattle.solve_top.proofs.proving.put_part.Goals as goal

pub returns-in-Preference : goal.returns-in-Preference
returns-in-Preference g c =
    let front = codes "preference " in
    let text = ap (λ (told : List ℕ). line (front ++ (c.as_text.result.now ++ told))) (append-nil c.proved_text.result.now ∙ c.proved_text.ensures)
    ∙ ap (λ (name : List ℕ). line (front ++ (name ++ proved_text c.args.part.now.kept))) c.as_text.ensures
    ∙ ap (λ (name : PartName). part_line name c.args.part.now.kept) (sym c.in-Preference.is) in
    Puts-same text c.put_pieces-in-Preference.ensures
