-- Lines of a certificate, spelled from pieces.
use Rattle.std.proofs.Common.{◌≡◌, ℕ, List, [], ◌∷◌, ◌++◌, length, map, codes, decimal, ap, refl, ◌∙◌, append_assoc}
use Rattle.std.specs.List.{flat_map}
use Rattle.std.proofs.lemmas.List.{append-nil}
use Rattle.dp_base.specs.Bytes.{line}
use Rattle.solve_report.proofs.Spelled.{two}
use Rattle.cert_text.specs.Texts.{layer_line, text_of_lines}
use Rattle.cert_types.specs.declared.nodes.CertNode.{CertNode}

pub map_lines : {A : Type 0} (f : A → List ℕ) (xs : List A) → text_of_lines (map f xs) ≡ flat_map (λ x. line (f x)) xs
map_lines f [] = refl
map_lines f (x ∷ xs) = ap (λ rest. line (f x) ++ rest) (map_lines f xs)

pub count_line : (front : List ℕ) {told count : ℕ} → told ≡ count → line (front ++ (decimal told ++ [])) ≡ line (front ++ decimal count)
count_line front {told} {count} same = ap line (two front (decimal told) ∙ ap (λ n. front ++ decimal n) same)

pub wide_line : (at : ℕ) {told : ℕ} (nodes : List CertNode) → told ≡ length nodes → line (codes "layer " ++ (decimal at ++ (codes " " ++ (decimal told ++ [])))) ≡ line (layer_line at nodes)
wide_line at {told} nodes same =
    ap (λ x. line (codes "layer " ++ (decimal at ++ (codes " " ++ x)))) (append-nil (decimal told)) ∙ ap (λ n. line (codes "layer " ++ (decimal at ++ (codes " " ++ decimal n)))) same

pub five_behind : (a b c d e text : List ℕ) → (a ++ (b ++ (c ++ (d ++ (e ++ []))))) ++ text ≡ a ++ (b ++ (c ++ (d ++ (e ++ text))))
five_behind a b c d e text = simp append_assoc refl
