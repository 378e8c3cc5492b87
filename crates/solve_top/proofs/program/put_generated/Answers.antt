use Rattle.std.proofs.Common.{◌≡◌, List, [], ℕ, ◌++◌, ◌∙◌, sym, ap, append_assoc, codes, decimal}
use Rattle.dp_base.specs.Bytes.{line}
use Rattle.solve_report.proofs.Written.{Puts-same}
use Rattle.solve_report.proofs.Spelled.{five}
use Rattle.solve_top.specs.Outcomes.{kind_text}
use Rattle.solve_top.proofs.program.put_generated.Goals as goal

six : (a b c d e f : List ℕ) → a ++ (b ++ (c ++ (d ++ (e ++ (f ++ []))))) ≡ a ++ b ++ c ++ d ++ e ++ f
six a b c d e f = sym (append_assoc a b _) ∙ five (a ++ b) c d e f

pub returns : goal.returns
returns g c =
    let text = ap line (six (codes "gen ") c.kind_name.result.now (codes " ") (decimal c.from.result) (codes " ") (decimal c.args.seed)
    ∙ ap (λ (k : List ℕ). codes "gen " ++ k ++ codes " " ++ decimal c.from.result ++ codes " " ++ decimal c.args.seed) c.kind_name.ensures
    ∙ ap (λ (n : ℕ). codes "gen " ++ kind_text c.args.kind ++ codes " " ++ decimal n ++ codes " " ++ decimal c.args.seed) c.from.ensures) in
    Puts-same text c.put_pieces.ensures
