-- A tree that may be written, and how it looks.
use Rattle.std.proofs.Common.{◌≡◌, ℕ, suc, Bool, true, false, ◌||◌, List, [], ◌∷◌, ◌++◌, map, IsUtf8, refl, sym, ap, ◌∙◌, subst}
use Rattle.std.specs.Prelude.{codes}
use Rattle.std.specs.List.{All}
use Rattle.std.proofs.lemmas.List.Elements.{All-nil, All-cons}
use Rattle.std.proofs.lemmas.Str.{IsUtf8-from_is_utf8}
use Rattle.std.specs.Str.{is_utf8, chars}
use lib.Utf8.{encode}
use Rattle.dp_base.specs.declared.place.Place.{Place}
use Rattle.yaml_tree.specs.Flow.{entry}
use Rattle.yaml_tree.specs.Keys.{TreeTest, PairTest, same_form, same_step, same_pair_step, same_key}
use Rattle.yaml_tree.specs.declared.tree.Tree.{Tree}
use Rattle.yaml_tree.specs.declared.tree.Tree as trees
use Rattle.yaml_tree.specs.declared.tree.Tree.TheVariants as made
use Rattle.yaml_tree.specs.declared.tree.Pair.{Pair}
use Rattle.yaml_tree.specs.declared.tree.Pair as pairs
use Rattle.content_laws.specs.Writing.{Style, scalar_by, stands_plain, spaces, compact, wide, with_commas, in_brackets, written, NoneTwice, NoMapForm, IsNoMap, WritableForm, IsWritableIn, scalar, sample, LawSample}
use Rattle.content_laws.proofs.WrittenForms.{written_pair, written-form, written-pair}

-- ---- which trees may be written

pub scalar_fits : (levels : ℕ) (at : Place) (text : List ℕ) → IsUtf8 text → IsWritableIn (suc levels) (made.Scalar at text)
unfolding IsWritableIn
scalar_fits levels at text u = subst (WritableForm (IsWritableIn levels)) (sym (made.outs-Scalar at text)) u

pub list_fits : (levels : ℕ) (at : Place) (items : List Tree) → All (IsWritableIn levels) items → IsWritableIn (suc levels) (made.List at items)
unfolding IsWritableIn
list_fits levels at items all = subst (WritableForm (IsWritableIn levels)) (sym (made.outs-List at items)) all

abbrev pub FitsIn : (levels : ℕ) → Pair → Type 0
FitsIn levels pair = IsWritableIn levels pair.key × IsNoMap pair.key × IsWritableIn levels pair.value

pub map_fits : (levels : ℕ) (at : Place) (entries : List Pair) → All (FitsIn levels) entries → NoneTwice [] entries → IsWritableIn (suc levels) (made.Map at entries)
unfolding IsWritableIn
map_fits levels at entries all none = subst (WritableForm (IsWritableIn levels)) (sym (made.outs-Map at entries)) (all, none)

-- ---- how they look

module _ (s : Style) where
  pub scalar_looks : (at : Place) (text : List ℕ) → written s (made.Scalar at text) ≡ scalar_by (stands_plain s text) text
  scalar_looks at text = written-form s (made.Scalar at text) (trees.Tree-F.Scalar at text) (made.outs-Scalar at text)

  pub list_looks : (at : Place) (items : List Tree) → written s (made.List at items) ≡ in_brackets s.gap 91 93 (with_commas s.gap (map (written s) items))
  list_looks at items = written-form s (made.List at items) (trees.Tree-F.List at items) (made.outs-List at items)

  pub map_looks : (at : Place) (entries : List Pair) → written s (made.Map at entries) ≡ in_brackets s.gap 123 125 (with_commas s.gap (map (written_pair s) entries))
  map_looks at entries = written-form s (made.Map at entries) (trees.Tree-F.Map at entries) (made.outs-Map at entries)

-- ---- the sample

pub utf8 : (text : List ℕ) → is_utf8 text ≡ true → IsUtf8 text
utf8 text e = IsUtf8-from_is_utf8 text e

module _ (at : Place) where
  abbrev texts : Tree
  texts = made.List at (scalar at (codes "\n") ∷ made.List at [] ∷ scalar at (195 ∷ 169 ∷ []) ∷ [])

  abbrev two : Tree
  two = made.List at (scalar at (codes "1") ∷ scalar at (codes "2") ∷ [])

  abbrev inner : Tree
  inner = made.Map at (entry (scalar at (codes "\"")) (scalar at []) ∷ [])

  abbrev first : Pair
  first = entry (scalar at (codes "a\tb")) texts

  abbrev second : Pair
  second = entry two inner

  texts_fit : (levels : ℕ) → IsWritableIn (suc (suc levels)) texts
  unfolding is_utf8 chars encode
  texts_fit levels =
      let P : Tree → Type 0 = IsWritableIn (suc levels) in
      list_fits (suc levels) at (scalar at (codes "\n") ∷ made.List at [] ∷ scalar at (195 ∷ 169 ∷ []) ∷ [])
      (All-cons P (scalar at (codes "\n")) (made.List at [] ∷ scalar at (195 ∷ 169 ∷ []) ∷ []) (scalar_fits levels at (codes "\n") (utf8 (codes "\n") refl))
      (All-cons P (made.List at []) (scalar at (195 ∷ 169 ∷ []) ∷ []) (list_fits levels at [] (All-nil (IsWritableIn levels)))
      (All-cons P (scalar at (195 ∷ 169 ∷ [])) [] (scalar_fits levels at (195 ∷ 169 ∷ []) (utf8 (195 ∷ 169 ∷ []) refl)) (All-nil P))))

  two_fits : (levels : ℕ) → IsWritableIn (suc (suc levels)) two
  unfolding is_utf8 chars encode
  two_fits levels =
      let P : Tree → Type 0 = IsWritableIn (suc levels) in
      list_fits (suc levels) at (scalar at (codes "1") ∷ scalar at (codes "2") ∷ [])
      (All-cons P (scalar at (codes "1")) (scalar at (codes "2") ∷ []) (scalar_fits levels at (codes "1") (utf8 (codes "1") refl))
      (All-cons P (scalar at (codes "2")) [] (scalar_fits levels at (codes "2") (utf8 (codes "2") refl)) (All-nil P)))

  inner_fits : (levels : ℕ) → IsWritableIn (suc (suc levels)) inner
  unfolding is_utf8 chars encode
  inner_fits levels =
      let one : Pair = entry (scalar at (codes "\"")) (scalar at []) in
      map_fits (suc levels) at (one ∷ [])
      (All-cons (FitsIn (suc levels)) one []
      (scalar_fits levels at (codes "\"") (utf8 (codes "\"") refl), subst NoMapForm (sym (made.outs-Scalar at (codes "\""))) tt, scalar_fits levels at [] (utf8 [] refl))
      (All-nil (FitsIn (suc levels))))
      (refl, tt)

  looks : written compact (sample at) ≡ codes "{\"a\\tb\":[\"\\n\",[],\"" ++ 195 ∷ 169 ∷ codes "\"],[\"1\",\"2\"]:{\"\\\"\":\"\"}}"
  looks =
      let a : written compact (scalar at (codes "a\tb")) ≡ codes "\"a\\tb\"" = scalar_looks compact at (codes "a\tb") in
      let f : written compact (scalar at (codes "\n")) ≡ codes "\"\\n\"" = scalar_looks compact at (codes "\n") in
      let e : written compact (scalar at (195 ∷ 169 ∷ [])) ≡ 34 ∷ 195 ∷ 169 ∷ 34 ∷ [] = scalar_looks compact at (195 ∷ 169 ∷ []) in
      let none : written compact (made.List at []) ≡ codes "[]" = list_looks compact at [] in
      let t : written compact texts ≡ codes "[\"\\n\",[],\"" ++ 195 ∷ 169 ∷ codes "\"]" =
      list_looks compact at (scalar at (codes "\n") ∷ made.List at [] ∷ scalar at (195 ∷ 169 ∷ []) ∷ []) ∙ (λ i. in_brackets 0 91 93 (with_commas 0 (f i ∷ none i ∷ e i ∷ []))) in
      let o : written compact (scalar at (codes "1")) ≡ codes "\"1\"" = scalar_looks compact at (codes "1") in
      let w : written compact (scalar at (codes "2")) ≡ codes "\"2\"" = scalar_looks compact at (codes "2") in
      let k : written compact two ≡ codes "[\"1\",\"2\"]" = list_looks compact at (scalar at (codes "1") ∷ scalar at (codes "2") ∷ []) ∙ (λ i. in_brackets 0 91 93 (with_commas 0 (o i ∷ w i ∷ []))) in
      let q : written compact (scalar at (codes "\"")) ≡ codes "\"\\\"\"" = scalar_looks compact at (codes "\"") in
      let v : written compact (scalar at []) ≡ codes "\"\"" = scalar_looks compact at [] in
      let qv : written_pair compact (entry (scalar at (codes "\"")) (scalar at [])) ≡ codes "\"\\\"\":\"\"" = written-pair compact (entry (scalar at (codes "\"")) (scalar at [])) ∙ (λ i. q i ++ 58 ∷ (spaces 0 ++ v i)) in
      let m : written compact inner ≡ codes "{\"\\\"\":\"\"}" = map_looks compact at (entry (scalar at (codes "\"")) (scalar at []) ∷ []) ∙ (λ i. in_brackets 0 123 125 (qv i)) in
      map_looks compact at (first ∷ second ∷ [])
      ∙ (λ i. in_brackets 0 123 125 (with_commas 0 (written-pair compact first i ∷ written-pair compact second i ∷ [])))
      ∙ (λ i. in_brackets 0 123 125 (with_commas 0 ((a i ++ 58 ∷ (spaces 0 ++ t i)) ∷ (k i ++ 58 ∷ (spaces 0 ++ m i)) ∷ [])))

  looks_wide : written wide (sample at) ≡ codes "{ a\tb:  [ \"\\n\", [  ], " ++ 195 ∷ 169 ∷ codes " ], [ 1, 2 ]:  { \"\\\"\":  \"\" } }"
  looks_wide =
      let a : written wide (scalar at (codes "a\tb")) ≡ codes "a\tb" = scalar_looks wide at (codes "a\tb") in
      let f : written wide (scalar at (codes "\n")) ≡ codes "\"\\n\"" = scalar_looks wide at (codes "\n") in
      let e : written wide (scalar at (195 ∷ 169 ∷ [])) ≡ 195 ∷ 169 ∷ [] = scalar_looks wide at (195 ∷ 169 ∷ []) in
      let none : written wide (made.List at []) ≡ codes "[  ]" = list_looks wide at [] in
      let t : written wide texts ≡ codes "[ \"\\n\", [  ], " ++ 195 ∷ 169 ∷ codes " ]" =
      list_looks wide at (scalar at (codes "\n") ∷ made.List at [] ∷ scalar at (195 ∷ 169 ∷ []) ∷ []) ∙ (λ i. in_brackets 1 91 93 (with_commas 1 (f i ∷ none i ∷ e i ∷ []))) in
      let o : written wide (scalar at (codes "1")) ≡ codes "1" = scalar_looks wide at (codes "1") in
      let w : written wide (scalar at (codes "2")) ≡ codes "2" = scalar_looks wide at (codes "2") in
      let k : written wide two ≡ codes "[ 1, 2 ]" = list_looks wide at (scalar at (codes "1") ∷ scalar at (codes "2") ∷ []) ∙ (λ i. in_brackets 1 91 93 (with_commas 1 (o i ∷ w i ∷ []))) in
      let q : written wide (scalar at (codes "\"")) ≡ codes "\"\\\"\"" = scalar_looks wide at (codes "\"") in
      let v : written wide (scalar at []) ≡ codes "\"\"" = scalar_looks wide at [] in
      let qv : written_pair wide (entry (scalar at (codes "\"")) (scalar at [])) ≡ codes "\"\\\"\":  \"\"" = written-pair wide (entry (scalar at (codes "\"")) (scalar at [])) ∙ (λ i. q i ++ 58 ∷ (spaces 2 ++ v i)) in
      let m : written wide inner ≡ codes "{ \"\\\"\":  \"\" }" = map_looks wide at (entry (scalar at (codes "\"")) (scalar at []) ∷ []) ∙ (λ i. in_brackets 1 123 125 (qv i)) in
      map_looks wide at (first ∷ second ∷ [])
      ∙ (λ i. in_brackets 1 123 125 (with_commas 1 (written-pair wide first i ∷ written-pair wide second i ∷ [])))
      ∙ (λ i. in_brackets 1 123 125 (with_commas 1 ((a i ++ 58 ∷ (spaces 2 ++ t i)) ∷ (k i ++ 58 ∷ (spaces 2 ++ m i)) ∷ [])))

  not_same : same_key two (scalar at (codes "a\tb")) ≡ false
  not_same =
      ap (λ (t : TreeTest). t (scalar at (codes "a\tb"))) (trees.fold_out-Tree TreeTest PairTest same_step same_pair_step two)
      ∙ (λ i. same_form (trees.map-Tree Tree Pair TreeTest PairTest same_key (pairs.fold-Pair TreeTest PairTest same_step same_pair_step) (made.outs-List at (scalar at (codes "1") ∷ scalar at (codes "2") ∷ []) i)) (made.outs-Scalar at (codes "a\tb") i))

  fits : (levels : ℕ) → IsWritableIn (suc (suc (suc (suc levels)))) (sample at)
  unfolding is_utf8 chars encode
  fits levels =
      map_fits (suc (suc (suc levels))) at (first ∷ second ∷ [])
      (All-cons (FitsIn (suc (suc (suc levels)))) first (second ∷ [])
      (scalar_fits (suc (suc levels)) at (codes "a\tb") (utf8 (codes "a\tb") refl), subst NoMapForm (sym (made.outs-Scalar at (codes "a\tb"))) tt, texts_fit (suc levels))
      (All-cons (FitsIn (suc (suc (suc levels)))) second [] (
        two_fits (suc levels),
        subst NoMapForm (sym (made.outs-List at (scalar at (codes "1") ∷ scalar at (codes "2") ∷ []))) tt,
        inner_fits (suc levels),
      )
      (All-nil (FitsIn (suc (suc (suc levels)))))))
      (refl, (ap (λ (b : Bool). b || false) not_same, tt))

pub sample_law : LawSample
sample_law at = (fits at 60, looks at, looks_wide at)
