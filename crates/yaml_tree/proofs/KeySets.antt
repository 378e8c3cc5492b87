-- What a set of codes knows after one more key.
use Rattle.std.proofs.Common.{◌≡◌, ℕ, Bool, true, false, ◌||◌, List, [], ◌∷◌, ◌++◌, Ordering, Less, Equal, Greater, refl, sym, ap, ◌∙◌}
use Rattle.std.specs.List.{list_any}
use Rattle.std.specs.Str.{bytes_eq}
use Rattle.std.specs.Ordering.{nat_cmp, is_eq, match_ordering}
use Rattle.std.specs.Cmp.Lexicographic.{slice_cmp}
use Rattle.std.specs.BTreeMap.{is_at}
use Rattle.std.specs.BTreeSet.{insert_key}
use Rattle.std.proofs.lemmas.List.Folds.{list_any-append}
use Rattle.std.proofs.lemmas.Map.Text.{is_eq-slice_cmp}
use Rattle.std.proofs.lemmas.Slice.Eq.{bytes_eq-Decides}
use Rattle.yaml_tree.specs.Flow.{entry}
use Rattle.yaml_tree.specs.Keys.{same_key, stands_before}
use Rattle.yaml_tree.specs.Known.{key_code}
use Rattle.yaml_tree.specs.declared.tree.Tree.{Tree}
use Rattle.yaml_tree.specs.declared.tree.Pair.{Pair}
use Rattle.yaml_tree.proofs.KeyCodes.{same_code}

any_same : {K : Type 0} (p q : K → Bool) → ((x : K) → p x ≡ q x) → (xs : List K) → list_any p xs ≡ list_any q xs
any_same p q same [] = refl
any_same p q same (x ∷ xs) = rw (same x, any_same p q same xs) refl

twice : (a b : Bool) → (a || b) ≡ (a || (a || b))
twice true b = refl
twice false b = refl

turned : (a b c : Bool) → (a || (b || c)) ≡ (b || (a || c))
turned true true c = refl
turned true false c = refl
turned false true c = refl
turned false false c = refl

behind : (a b : Bool) → (a || b) ≡ (b || (a || false))
behind true true = refl
behind true false = refl
behind false true = refl
behind false false = refl

-- what a set has after an insertion, by a test that equal keys pass alike
module _ {K : Type 0} (cmp : K → K → Ordering) (p : K → Bool) (alike : (x y : K) → cmp x y ≡ Equal → p x ≡ p y) (k : K) where
  any_at : (x : K) (xs inserted : List K) → list_any p inserted ≡ (p k || list_any p xs) → (o : Ordering) → cmp k x ≡ o
      → list_any p (match_ordering o (k ∷ x ∷ xs) (x ∷ xs) (x ∷ inserted)) ≡ (p k || (p x || list_any p xs))
  any_at x xs inserted so_far Less e = refl
  any_at x xs inserted so_far Equal e = rw (alike k x e) (twice (p x) (list_any p xs))
  any_at x xs inserted so_far Greater e = rw so_far (turned (p x) (p k) (list_any p xs))

  any_inserted : (xs : List K) → list_any p (insert_key cmp xs k) ≡ (p k || list_any p xs)
  any_inserted [] = refl
  any_inserted (x ∷ xs) = any_at x xs (insert_key cmp xs k) (any_inserted xs) (cmp k x) refl

module _ {K : Type 0} (items : K → List ℕ) (code : K) (key : Tree) (is : items code ≡ key_code key) (keys : List K) (earlier : List Pair) where
  abbrev code_cmp : K → K → Ordering
  code_cmp x y = slice_cmp nat_cmp (items x) (items y)

  -- a code is in the set exactly if its key stands before
  pub found_before : list_any (λ v. bytes_eq (key_code key) (items v)) keys ≡ stands_before key earlier → list_any (is_at (λ v. slice_cmp nat_cmp (items code) (items v))) keys ≡ stands_before key earlier
  found_before known =
      any_same (is_at (code_cmp code)) (λ v. bytes_eq (key_code key) (items v)) (λ v. is_eq-slice_cmp (items code) (items v) ∙ ap (λ (c : List ℕ). bytes_eq c (items v)) is) keys ∙ known

  -- the set with one more code has one more key
  pub known_more : (q value : Tree) → list_any (λ v. bytes_eq (key_code q) (items v)) keys ≡ stands_before q earlier
      → list_any (λ v. bytes_eq (key_code q) (items v)) (insert_key (λ x y. slice_cmp nat_cmp (items x) (items y)) keys code) ≡ stands_before q (earlier ++ entry key value ∷ [])
  known_more q value known =
      let p : K → Bool = λ v. bytes_eq (key_code q) (items v) in
      let alike : (x y : K) → code_cmp x y ≡ Equal → p x ≡ p y = λ x y e.
      let same : items x ≡ items y = (bytes_eq-Decides (items x) (items y)).0 (sym (is_eq-slice_cmp (items x) (items y)) ∙ ap is_eq e) in
      ap (bytes_eq (key_code q)) same in
      let one : p code ≡ same_key q key = ap (bytes_eq (key_code q)) is ∙ same_code q key in
      any_inserted code_cmp p alike code keys
      ∙ ap (λ (b : Bool). b || list_any p keys) one ∙ ap (λ (b : Bool). same_key q key || b) known
      ∙ behind (same_key q key) (stands_before q earlier)
      ∙ sym (list_any-append (λ (e : Pair). same_key q e.key) earlier (entry key value ∷ []))
