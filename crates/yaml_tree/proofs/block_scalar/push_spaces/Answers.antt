use Rattle.std.proofs.Common.{◌∙◌, ◌++◌, ◌∷◌, [], ℕ, List, replicate, string_bytes, ap, arith}
use Rattle.std.proofs.lemmas.List.{append_assoc, replicate_more}
use Rattle.yaml_tree.proofs.block_scalar.push_spaces.Goals as goal

pub loop-preserved : goal.loop-preserved
loop-preserved c =
    let pushed = c.in_ok-push.ensures in
    let old = string_bytes c.args.text.now in
    let n = c.loop.counter in
    pushed.bytes ∙ ap (λ (l : List ℕ). string_bytes c.loop.text ++ l) (pushed.ascii (omega arith)) ∙ ap (λ (l : List ℕ). l ++ 32 ∷ []) c.loop.invariant
    ∙ append_assoc old (replicate n 32) (32 ∷ []) ∙ ap (λ (l : List ℕ). old ++ l) (replicate_more n 32)
