-- Nodes that go to the letters.
use Rattle.std.proofs.Common.{◌≡◌, List, [], ◌∷◌, ◌++◌, map, sym, ◌∙◌, ap, append_assoc}
use Rattle.state_layout.specs.declared.node.Node.{Node}
use Rattle.best_ledger.specs.declared.records.ToPost.{ToPost}

-- the first of those that are left goes behind the letters
pub sends_next : (f : Node → ToPost) (letters new : List ToPost) (n : Node) (rest left : List Node) → left ≡ n ∷ rest → new ≡ letters ++ f n ∷ [] → new ++ map f rest ≡ letters ++ map f left
sends_next f letters new n rest left e is = ap (λ (us : List ToPost). us ++ map f rest) is ∙ (append_assoc letters (f n ∷ []) (map f rest) ∙ ap (λ (ns : List Node). letters ++ map f ns) (sym e))
