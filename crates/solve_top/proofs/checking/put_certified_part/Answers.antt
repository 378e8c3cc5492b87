use Rattle.std.proofs.Common.{◌≡◌, ℕ, ℤ, List, ◌++◌, ◌∙◌, [], ap, sym, codes, decimal, rules, w64}
use Rattle.std.specs.Fmt.{signed_decimal}
use Rattle.std.proofs.lemmas.Int.{to_z-of_z}
use Rattle.std.proofs.lemmas.List.{append-nil}
use Rattle.dp_base.specs.Bytes.{line}
use Rattle.solve_report.proofs.Written.{Puts-same}
use Rattle.solve_top.specs.Outcomes.{claimed_text}
use Rattle.solve_top.proofs.checking.put_certified_part.Goals as goal

part_line : (i index n count : ℕ) (rest told : List ℕ) → i ≡ index → n ≡ count → rest ≡ told
    → line (codes "verdict part " ++ (decimal i ++ (codes " of " ++ (decimal n ++ rest)))) ≡ line (codes "verdict part " ++ (decimal index ++ (codes " of " ++ (decimal count ++ told))))
part_line i index n count rest told e f h =
    ap (λ (k : ℕ). line (codes "verdict part " ++ (decimal k ++ (codes " of " ++ (decimal n ++ rest))))) e
    ∙ ap (λ (k : ℕ). line (codes "verdict part " ++ (decimal index ++ (codes " of " ++ (decimal k ++ rest))))) f
    ∙ ap (λ (text : List ℕ). line (codes "verdict part " ++ (decimal index ++ (codes " of " ++ (decimal count ++ text))))) h

optimal_told : (z cost : ℤ) (told : List ℕ) → z ≡ cost → told ≡ codes " certified optimal " ++ signed_decimal cost → codes " certified optimal " ++ (signed_decimal z ++ []) ≡ told
optimal_told z cost told e is =
    ap (λ (text : List ℕ). codes " certified optimal " ++ text) (append-nil (signed_decimal z)) ∙ ap (λ (k : ℤ). codes " certified optimal " ++ signed_decimal k) e ∙ sym is

pub returns-in-Optimal : goal.returns-in-Optimal
returns-in-Optimal g c =
    Puts-same
    (part_line c.from-index.result c.args.part.index c.from-count.result c.args.part.count _ _ c.from-index.ensures c.from-count.ensures
    (optimal_told _ c.in-Optimal.found.cost (claimed_text c.args.claim.now) (to_z-of_z w64 c.in-Optimal.found.cost (search rules)) (ap claimed_text c.in-Optimal.is)))
    c.put_pieces.ensures

pub returns-in-Infeasible : goal.returns-in-Infeasible
returns-in-Infeasible g c =
    let told : codes " certified infeasible" ++ [] ≡ claimed_text c.args.claim.now = append-nil (codes " certified infeasible") ∙ sym (ap claimed_text c.in-Infeasible.is) in
    Puts-same (part_line c.from-index.result c.args.part.index c.from-count.result c.args.part.count _ _ c.from-index.ensures c.from-count.ensures told) c.put_pieces-in-Infeasible.ensures
