-- Nodes that go to the letters.
use Rattle.std.proofs.Common.{◌≡◌, ℕ, List, [], ◌∷◌, ◌++◌, refl, sym, ◌∙◌, ap, append_assoc}
use Rattle.std.proofs.lemmas.List.{map-append}
use Rattle.state_layout.specs.declared.layout.Layout.{Layout}
use Rattle.state_layout.specs.declared.node.Node.{Node}
use Rattle.pass_ledger.specs.declared.records.Unsent.{Unsent}
use Rattle.shard_core.specs.Outgoing.{letter_of, letters_of}

-- the first of those that are left goes behind the letters
pub letters_next : (letters new : List Node) (n : Node) (rest left : List Node) → left ≡ n ∷ rest → new ≡ letters ++ n ∷ [] → new ++ rest ≡ letters ++ left
letters_next letters new n rest left e is = ap (λ (ns : List Node). ns ++ rest) is ∙ (append_assoc letters (n ∷ []) rest ∙ ap (λ (ns : List Node). letters ++ ns) (sym e))

-- where no letter is to be posted no node is left
pub no_letters : (layout : Layout) (shards : ℕ) (nodes : List Node) → letters_of layout shards nodes ≡ [] → nodes ≡ []
no_letters layout shards [] e = refl
no_letters layout shards (n ∷ nodes) e = absurd (cc)

-- more nodes give more letters
pub letters_more : (layout : Layout) (shards : ℕ) (letters more new : List Node) (us : List Unsent) → new ≡ letters ++ more → letters_of layout shards letters ≡ us → letters_of layout shards new ≡ us ++ letters_of layout shards more
letters_more layout shards letters more new us is e =
    ap (letters_of layout shards) is ∙ (map-append (letter_of layout shards) letters more ∙ ap (λ (vs : List Unsent). vs ++ letters_of layout shards more) e)
