use Rattle.std.proofs.Common.{ℕ, List, ◌++◌, ◌∙◌, ap, codes, decimal}
use Rattle.std.proofs.lemmas.List.{append-nil}
use Rattle.dp_base.specs.Bytes.{line}
use Rattle.solve_report.proofs.Written.{Puts-same}
use Rattle.solve_top.specs.Outcomes.{reason_word}
use Rattle.solve_top.proofs.checking.put_rejected.Goals as goal

pub returns : goal.returns
returns g c =
    let front = codes "verdict rejected " in
    let text = ap (λ (word : List ℕ). line (front ++ (decimal c.from.result ++ (codes " " ++ word)))) (append-nil c.reason_word.result.now ∙ c.reason_word.ensures)
    ∙ ap (λ (n : ℕ). line (front ++ (decimal n ++ (codes " " ++ reason_word c.args.reason)))) c.from.ensures in
    Puts-same text c.put_pieces.ensures
