-- Keys are the same exactly where their codes are equal.
use Rattle.std.proofs.Common.{◌≡◌, ℕ, ◌+◌, Bool, true, false, ◌&&◌, List, [], ◌∷◌, ◌++◌, map, refl, sym, ap, ◌∙◌, subst, append_assoc, arith}
use Rattle.std.specs.List.{concat}
use Rattle.std.specs.Str.{bytes_eq}
use Rattle.std.proofs.lemmas.Bool.{false≢true, and_parts, and_from, false_from_ne_true}
use Rattle.std.proofs.lemmas.Slice.Eq.{bytes_eq-Decides}
use Rattle.yaml_tree.specs.Keys.{TreeTest, PairTest, each_passes, same_form, same_step, same_pair_step, same_key}
use Rattle.yaml_tree.specs.Known.{code_of, byte_code, code_step, pair_code_step, key_code, pair_code}
use Rattle.yaml_tree.specs.declared.tree.Tree.{Tree}
use Rattle.yaml_tree.specs.declared.tree.Tree as trees
use Rattle.yaml_tree.specs.declared.tree.Pair.{Pair}
use Rattle.yaml_tree.specs.declared.tree.Pair as pairs

-- The code of x, followed by anything, is that of another one with anything behind it exactly if both are the same and the same stands behind them.
record ToldApart {A : Type 0} (code : A → List ℕ) (same : A → A → Bool) (x : A) : Type 0 where
  apart : (y : A) (r s : List ℕ) → code x ++ r ≡ code y ++ s → (same x y ≡ true) × (r ≡ s)
  alike : (y : A) → same x y ≡ true → code x ≡ code y

-- a code does not begin with 0
abbrev Starts : {A : Type 0} → (A → List ℕ) → Type 0
Starts {A} code = (x : A) → (n : ℕ) × (rest : List ℕ) × (code x ≡ (n + 1) ∷ rest)

other_kind : {P : Type 0} (k l : ℕ) (xs ys : List ℕ) → (k ≡ l → ⊥) → k ∷ xs ≡ l ∷ ys → P
other_kind k l xs ys differ e = let same : k ≡ l = cc in absurd (differ same)

-- what stands behind two equal numbers
insides : (kind : ℕ) (a b r s : List ℕ) → (kind ∷ (a ++ 0 ∷ [])) ++ r ≡ (kind ∷ (b ++ 0 ∷ [])) ++ s → a ++ 0 ∷ r ≡ b ++ 0 ∷ s
insides kind a b r s e =
    let behind : (a ++ 0 ∷ []) ++ r ≡ (b ++ 0 ∷ []) ++ s = cc in
    sym (append_assoc a (0 ∷ []) r) ∙ behind ∙ append_assoc b (0 ∷ []) s

module _ {A : Type 0} (code : A → List ℕ) (same : A → A → Bool) (starts : Starts code) where
  -- 0 is not where a part begins
  not_at_end : (x : A) (r s t : List ℕ) → 0 ∷ r ≡ ((code x ++ s) ++ t) → ⊥
  not_at_end x r s t e =
      let at = starts x in
      let begun : 0 ∷ r ≡ (at.0 + 1) ∷ ((at.1 ++ s) ++ t) = e ∙ ap (λ (c : List ℕ). (c ++ s) ++ t) at.2 in
      let none : 0 ≡ at.0 + 1 = cc in
      absurd (omega arith)

  parts_apart : (xs : List ((x : A) × ToldApart code same x)) (ys : List A) (r s : List ℕ)
      → concat (map code (map (λ e. e.0) xs)) ++ 0 ∷ r ≡ concat (map code ys) ++ 0 ∷ s
      → (each_passes (map same (map (λ e. e.0) xs)) ys ≡ true) × (r ≡ s)
  parts_apart [] [] r s e = (refl, cc)
  parts_apart [] (y ∷ ys) r s e = absurd (not_at_end y r (concat (map code ys)) (0 ∷ s) e)
  parts_apart (x ∷ xs) [] r s e = absurd (not_at_end x.0 s (concat (map code (map (λ e. e.0) xs))) (0 ∷ r) (sym e))
  parts_apart (x ∷ xs) (y ∷ ys) r s e =
      let more = concat (map code (map (λ e. e.0) xs)) in
      let others = concat (map code ys) in
      let first = x.1.apart y (more ++ 0 ∷ r) (others ++ 0 ∷ s) (sym (append_assoc (code x.0) more (0 ∷ r)) ∙ e ∙ append_assoc (code y) others (0 ∷ s)) in
      let behind = parts_apart xs ys r s first.1 in
      (and_from (same x.0 y) (each_passes (map same (map (λ e. e.0) xs)) ys) first.0 behind.0, behind.1)

  parts_alike : (xs : List ((x : A) × ToldApart code same x)) (ys : List A) → each_passes (map same (map (λ e. e.0) xs)) ys ≡ true → concat (map code (map (λ e. e.0) xs)) ≡ concat (map code ys)
  parts_alike [] [] e = refl
  parts_alike [] (y ∷ ys) e = absurd (false≢true e)
  parts_alike (x ∷ xs) [] e = absurd (false≢true e)
  parts_alike (x ∷ xs) (y ∷ ys) e =
      let both = and_parts (same x.0 y) (each_passes (map same (map (λ e. e.0) xs)) ys) e in
      rw (x.1.alike y both.0, parts_alike xs ys both.1) refl

bytes_apart : (xs ys r s : List ℕ) → concat (map byte_code xs) ++ 0 ∷ r ≡ concat (map byte_code ys) ++ 0 ∷ s → (xs ≡ ys) × (r ≡ s)
bytes_apart [] [] r s e = (refl, cc)
bytes_apart [] (y ∷ ys) r s e = let none : 0 ≡ y + 1 = cc in absurd (omega arith)
bytes_apart (x ∷ xs) [] r s e = let none : x + 1 ≡ 0 = cc in absurd (omega arith)
bytes_apart (x ∷ xs) (y ∷ ys) r s e =
    let heads : x + 1 ≡ y + 1 = cc in
    let first : x ≡ y = omega arith in
    let rest : concat (map byte_code xs) ++ 0 ∷ r ≡ concat (map byte_code ys) ++ 0 ∷ s = cc in
    let behind = bytes_apart xs ys r s rest in
    (rw (first, behind.0) refl, behind.1)

-- ---- trees

abbrev KeyApart : Tree → Type 0
KeyApart = ToldApart key_code same_key

abbrev same_pair : Pair → Pair → Bool
same_pair = pairs.fold-Pair TreeTest PairTest same_step same_pair_step

abbrev PairApart : Pair → Type 0
PairApart = ToldApart pair_code same_pair

abbrev form_code : trees.Tree-F Tree Pair → List ℕ
form_code f = code_step (trees.map-Tree Tree Pair (List ℕ) (List ℕ) key_code pair_code f)

abbrev same_forms : trees.Tree-F Tree Pair → trees.Tree-F Tree Pair → Bool
same_forms f g = same_form (trees.map-Tree Tree Pair TreeTest PairTest same_key same_pair f) g

begun : (f : trees.Tree-F Tree Pair) → (n : ℕ) × (rest : List ℕ) × (form_code f ≡ (n + 1) ∷ rest)
begun (trees.Tree-F.Scalar at text) = (0, _, refl)
begun (trees.Tree-F.List at items) = (1, _, refl)
begun (trees.Tree-F.Map at entries) = (2, _, refl)

key_starts : Starts key_code
key_starts t =
    let is = trees.fold_out-Tree (List ℕ) (List ℕ) code_step pair_code_step t in
    let at = begun (trees.out-Tree t) in
    (at.0, at.1, is ∙ at.2)

pair_starts : Starts pair_code
pair_starts p =
    let is = pairs.fold_out-Pair (List ℕ) (List ℕ) code_step pair_code_step p in
    let at = key_starts p.key in
    (at.0, at.1 ++ key_code p.value, is ∙ ap (λ (c : List ℕ). c ++ key_code p.value) at.2)

abbrev TreeBelow : Type 0
TreeBelow = (t : Tree) × KeyApart t

abbrev PairBelow : Type 0
PairBelow = (p : Pair) × PairApart p

abbrev below : trees.Tree-F TreeBelow PairBelow → trees.Tree-F Tree Pair
below y = trees.map-Tree TreeBelow PairBelow Tree Pair (λ e. e.0) (λ e. e.0) y

forms_apart : (y : trees.Tree-F TreeBelow PairBelow) (g : trees.Tree-F Tree Pair) (r s : List ℕ) → form_code (below y) ++ r ≡ form_code g ++ s → (same_forms (below y) g ≡ true) × (r ≡ s)
forms_apart (trees.Tree-F.Scalar at text) (trees.Tree-F.Scalar at' text') r s e =
    let both = bytes_apart text text' r s (insides 1 (concat (map byte_code text)) (concat (map byte_code text')) r s e) in
    ((bytes_eq-Decides text text').1 both.0, both.1)
forms_apart (trees.Tree-F.List at items) (trees.Tree-F.List at' items') r s e =
    parts_apart key_code same_key key_starts items items' r s (insides 2 (concat (map key_code (map (λ e. e.0) items))) (concat (map key_code items')) r s e)
forms_apart (trees.Tree-F.Map at entries) (trees.Tree-F.Map at' entries') r s e =
    parts_apart pair_code same_pair pair_starts entries entries' r s (insides 3 (concat (map pair_code (map (λ e. e.0) entries))) (concat (map pair_code entries')) r s e)
forms_apart (trees.Tree-F.Scalar at text) (trees.Tree-F.List at' items') r s e = other_kind 1 2 _ _ (λ h. omega arith) e
forms_apart (trees.Tree-F.Scalar at text) (trees.Tree-F.Map at' entries') r s e = other_kind 1 3 _ _ (λ h. omega arith) e
forms_apart (trees.Tree-F.List at items) (trees.Tree-F.Scalar at' text') r s e = other_kind 2 1 _ _ (λ h. omega arith) e
forms_apart (trees.Tree-F.List at items) (trees.Tree-F.Map at' entries') r s e = other_kind 2 3 _ _ (λ h. omega arith) e
forms_apart (trees.Tree-F.Map at entries) (trees.Tree-F.Scalar at' text') r s e = other_kind 3 1 _ _ (λ h. omega arith) e
forms_apart (trees.Tree-F.Map at entries) (trees.Tree-F.List at' items') r s e = other_kind 3 2 _ _ (λ h. omega arith) e

forms_alike : (y : trees.Tree-F TreeBelow PairBelow) (g : trees.Tree-F Tree Pair) → same_forms (below y) g ≡ true → form_code (below y) ≡ form_code g
forms_alike (trees.Tree-F.Scalar at text) (trees.Tree-F.Scalar at' text') e = ap (λ (t : List ℕ). code_of 1 (map byte_code t)) ((bytes_eq-Decides text text').0 e)
forms_alike (trees.Tree-F.List at items) (trees.Tree-F.List at' items') e = ap (λ (c : List ℕ). 2 ∷ (c ++ 0 ∷ [])) (parts_alike key_code same_key key_starts items items' e)
forms_alike (trees.Tree-F.Map at entries) (trees.Tree-F.Map at' entries') e = ap (λ (c : List ℕ). 3 ∷ (c ++ 0 ∷ [])) (parts_alike pair_code same_pair pair_starts entries entries' e)
forms_alike (trees.Tree-F.Scalar at text) (trees.Tree-F.List at' items') e = absurd (false≢true e)
forms_alike (trees.Tree-F.Scalar at text) (trees.Tree-F.Map at' entries') e = absurd (false≢true e)
forms_alike (trees.Tree-F.List at items) (trees.Tree-F.Scalar at' text') e = absurd (false≢true e)
forms_alike (trees.Tree-F.List at items) (trees.Tree-F.Map at' entries') e = absurd (false≢true e)
forms_alike (trees.Tree-F.Map at entries) (trees.Tree-F.Scalar at' text') e = absurd (false≢true e)
forms_alike (trees.Tree-F.Map at entries) (trees.Tree-F.List at' items') e = absurd (false≢true e)

rolled_apart : (y : trees.Tree-F TreeBelow PairBelow) → KeyApart (trees.roll-Tree (below y))
rolled_apart y = record {
  apart = λ u r s e.
      let codes = ap (λ (c : List ℕ). c ++ r) (sym (code y)) ∙ e ∙ ap (λ (c : List ℕ). c ++ s) (other u) in
      let both = forms_apart y (trees.out-Tree u) r s codes in
      (test y u ∙ both.0, both.1);
  alike = λ u e. code y ∙ forms_alike y (trees.out-Tree u) (sym (test y u) ∙ e) ∙ sym (other u);
} where
  code : (y : trees.Tree-F TreeBelow PairBelow) → key_code (trees.roll-Tree (below y)) ≡ form_code (below y)
  code y = trees.fold-roll-Tree (List ℕ) (List ℕ) code_step pair_code_step (below y)

  other : (u : Tree) → key_code u ≡ form_code (trees.out-Tree u)
  other u = trees.fold_out-Tree (List ℕ) (List ℕ) code_step pair_code_step u

  test : (y : trees.Tree-F TreeBelow PairBelow) (u : Tree) → same_key (trees.roll-Tree (below y)) u ≡ same_forms (below y) (trees.out-Tree u)
  test y u = ap (λ (t : TreeTest). t u) (trees.fold-roll-Tree TreeTest PairTest same_step same_pair_step (below y))

form_apart : (x : trees.Tree-F Tree Pair) (y : trees.Tree-F TreeBelow PairBelow) → below y ≡ x → KeyApart (trees.roll-Tree x)
form_apart x y is = subst (λ (z : trees.Tree-F Tree Pair). KeyApart (trees.roll-Tree z)) is (rolled_apart y)

abbrev pair_below : pairs.Pair-F TreeBelow PairBelow → pairs.Pair-F Tree Pair
pair_below y = pairs.map-Pair TreeBelow PairBelow Tree Pair (λ e. e.0) (λ e. e.0) y

rolled_pair_apart : (y : pairs.Pair-F TreeBelow PairBelow) → PairApart (pairs.roll-Pair (pair_below y))
rolled_pair_apart y = record {
  apart = λ q r s e.
      let codes = sym (append_assoc (key_code y.key.0) (key_code y.value.0) r) ∙ ap (λ (c : List ℕ). c ++ r) (sym (code y)) ∙ e ∙ ap (λ (c : List ℕ). c ++ s) (other q) ∙ append_assoc (key_code q.key) (key_code q.value) s in
      let keys = y.key.1.apart q.key (key_code y.value.0 ++ r) (key_code q.value ++ s) codes in
      let values = y.value.1.apart q.value r s keys.1 in
      (test y q ∙ and_from (same_key y.key.0 q.key) (same_key y.value.0 q.value) keys.0 values.0, values.1);
  alike = λ q e.
      let both = and_parts (same_key y.key.0 q.key) (same_key y.value.0 q.value) (sym (test y q) ∙ e) in
      code y ∙ ap (λ (c : List ℕ). c ++ key_code y.value.0) (y.key.1.alike q.key both.0) ∙ ap (λ (c : List ℕ). key_code q.key ++ c) (y.value.1.alike q.value both.1) ∙ sym (other q);
} where
  code : (y : pairs.Pair-F TreeBelow PairBelow) → pair_code (pairs.roll-Pair (pair_below y)) ≡ key_code y.key.0 ++ key_code y.value.0
  code y = pairs.fold-roll-Pair (List ℕ) (List ℕ) code_step pair_code_step (pair_below y)

  other : (q : Pair) → pair_code q ≡ key_code q.key ++ key_code q.value
  other q = pairs.fold_out-Pair (List ℕ) (List ℕ) code_step pair_code_step q

  test : (y : pairs.Pair-F TreeBelow PairBelow) (q : Pair) → same_pair (pairs.roll-Pair (pair_below y)) q ≡ (same_key y.key.0 q.key && same_key y.value.0 q.value)
  test y q = ap (λ (t : PairTest). t q) (pairs.fold-roll-Pair TreeTest PairTest same_step same_pair_step (pair_below y))

entry_apart : (x : pairs.Pair-F Tree Pair) (y : pairs.Pair-F TreeBelow PairBelow) → pair_below y ≡ x → PairApart (pairs.roll-Pair x)
entry_apart x y is = subst (λ (z : pairs.Pair-F Tree Pair). PairApart (pairs.roll-Pair z)) is (rolled_pair_apart y)

key_apart : (t : Tree) → KeyApart t
key_apart = trees.ind-Tree KeyApart PairApart form_apart entry_apart

pub same_code : (t u : Tree) → bytes_eq (key_code t) (key_code u) ≡ same_key t u
same_code t u = step (same_key t u) refl where
  step : (b : Bool) → same_key t u ≡ b → bytes_eq (key_code t) (key_code u) ≡ b
  step true e = (bytes_eq-Decides (key_code t) (key_code u)).1 ((key_apart t).alike u e)
  step false e = false_from_ne_true (bytes_eq (key_code t) (key_code u)) (λ h.
      let codes = (bytes_eq-Decides (key_code t) (key_code u)).0 h in
      false≢true (sym e ∙ ((key_apart t).apart u [] [] (ap (λ (c : List ℕ). c ++ []) codes)).0))
