-- The place of a key is the place that an expression reads.
use Rattle.std.proofs.Common.{◌≡◌, ℕ, suc, ◌+◌, ◌*◌, Bool, true, false, ◌==◌, if◌then◌else◌, List, [], ◌∷◌, length, Option, Some, None, Ok, refl, sym, ap, ◌∙◌, arith, eq-eqb}
use Rattle.std.proofs.lemmas.Bool.Decides.{Decides-eqb}
use Rattle.dp_base.specs.declared.place.Place.{Place}
use Rattle.dp_base.specs.Results.{◌>>=◌}
use Rattle.dp_model.specs.Evaluation.{place_from}
use Rattle.yaml_tree.specs.declared.tree.Tree.{Tree}
use Rattle.yaml_tree.specs.Fields.{tree_place}
use Rattle.dypdl_nodes.specs.Reads.{Reads, refuse}
use Rattle.dypdl_nodes.specs.Scalars.{index_of}
use Rattle.dypdl_data.specs.Cells.{key_items, place_by, place_of_items, place_of}
use Rattle.dypdl_load.proofs.Lists.{bound}
use Rattle.content_laws.specs.Places.{AreMembers, IsKey, LawPlace}
use Rattle.content_laws.proofs.Outcomes.{ok_same}

no_more : {A : Type 0} (n : ℕ) (x : A) (xs : List A) → suc (length xs) ≡ 0 → ⊥
no_more n x xs e = absurd (omega arith)

-- the members that a place was made of
of_place : (counts : List ℕ) (items : List Tree) (from at : ℕ) → length items ≡ length counts → place_by from counts items ≡ Ok at → (ks : List ℕ) × AreMembers counts items ks × (at ≡ place_from from counts ks)
of_place [] [] from at len e = ([], tt, sym (ok_same from at e))
of_place [] (item ∷ items) from at len e = absurd (omega arith)
of_place (count ∷ counts) [] from at len e = absurd (omega arith)
of_place (count ∷ counts) (item ∷ items) from at len e =
    let k = bound (index_of count item) (λ k. place_by (from * count + k) counts items) at e in
    let rest = of_place counts items (from * count + k.0) at (omega arith) k.2 in
    (k.0 ∷ rest.0, (k.1, rest.1), rest.2)

to_place : (counts : List ℕ) (items : List Tree) (ks : List ℕ) (from : ℕ) → AreMembers counts items ks → place_by from counts items ≡ Ok (place_from from counts ks)
to_place [] [] [] from are = refl
to_place [] [] (k ∷ ks) from are = absurd are
to_place [] (item ∷ items) ks from are = absurd are
to_place (count ∷ counts) [] ks from are = absurd are
to_place (count ∷ counts) (item ∷ items) [] from are = absurd are
to_place (count ∷ counts) (item ∷ items) (k ∷ ks) from are =
    ap (λ (r : Reads ℕ). r >>= λ i. place_by (from * count + i) counts items) are.0 ∙ to_place counts items ks (from * count + k) are.1

as_many : (counts : List ℕ) (items : List Tree) (ks : List ℕ) → AreMembers counts items ks → length items ≡ length counts
as_many [] [] [] are = refl
as_many [] [] (k ∷ ks) are = absurd are
as_many [] (item ∷ items) ks are = absurd are
as_many (count ∷ counts) [] ks are = absurd are
as_many (count ∷ counts) (item ∷ items) [] are = absurd are
as_many (count ∷ counts) (item ∷ items) (k ∷ ks) are = ap suc (as_many counts items ks are.1)

by_length : (b : Bool) (r : Reads ℕ) (at : Place) (x : ℕ) → (if b then r else refuse 50 at) ≡ Ok x → (b ≡ true) × (r ≡ Ok x)
by_length true r at x e = (refl, e)
by_length false r at x e = absurd (cc e)

of_items : (counts : List ℕ) (place : Place) (o : Option (List Tree)) (at : ℕ) → place_of_items counts place o ≡ Ok at
    → (items : List Tree) × (ks : List ℕ) × (o ≡ Some items) × AreMembers counts items ks × (at ≡ place_from 0 counts ks)
of_items counts place None at e = absurd (cc e)
of_items counts place (Some items) at e =
    let found = by_length (length items == length counts) (place_by 0 counts items) place at e in
    let ks = of_place counts items 0 at ((Decides-eqb (length items) (length counts)).0 found.0) found.1 in
    (items, ks.0, refl, ks.1, ks.2)

pub of_key : (counts : List ℕ) (key : Tree) (at : ℕ) → place_of counts key ≡ Ok at → (ks : List ℕ) × IsKey counts key ks × (at ≡ place_from 0 counts ks)
of_key counts key at e =
    let found = of_items counts (tree_place key) (key_items key) at e in
    (found.1, record { items = found.0; are_items = found.2; are_members = found.3 }, found.4)

pub to_key : (counts : List ℕ) (key : Tree) (ks : List ℕ) → IsKey counts key ks → place_of counts key ≡ Ok (place_from 0 counts ks)
to_key counts key ks is =
    ap (place_of_items counts (tree_place key)) is.are_items
    ∙ ap (λ (b : Bool). if b then place_by 0 counts is.items else refuse 50 (tree_place key)) (eq-eqb (length is.items) (length counts) (as_many counts is.items ks is.are_members))
    ∙ to_place counts is.items ks 0 is.are_members

pub place_law : LawPlace
place_law counts key at = (of_key counts key at, λ found. to_key counts key found.0 found.1 ∙ ap Ok (sym found.2))
