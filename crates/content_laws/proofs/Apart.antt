-- Members that are below their counts, and that others have other places.
use Rattle.std.proofs.Common.{◌≡◌, ◌≤◌, ℕ, ◌+◌, ◌*◌, ◌<◌, Bool, true, false, nat_lt, if◌then◌else◌, List, [], ◌∷◌, map, Ok, refl, sym, ap, subst, arith}
use Rattle.std.proofs.Math.Nat.{mul-le-mul_right}
use Rattle.std.proofs.lemmas.Bool.Decides.{Decides-ltb}
use Rattle.dp_base.specs.declared.place.Place.{Place}
use Rattle.dp_model.specs.Evaluation.{place_from}
use Rattle.dp_model.specs.Typing.{type_count, cell_count}
use Rattle.dp_model.specs.declared.parts.ObjectType.{ObjectType}
use Rattle.yaml_tree.specs.declared.tree.Tree.{Tree}
use Rattle.yaml_tree.specs.Fields.{tree_place}
use Rattle.dypdl_nodes.specs.Reads.{Reads, refuse}
use Rattle.dypdl_nodes.specs.Scalars.{count_of, index_of}
use Rattle.dypdl_load.proofs.Lists.{bound}
use Rattle.content_laws.specs.Places.{AreMembers}
use Rattle.content_laws.specs.CellTexts.{AreBelow}
use Rattle.content_laws.proofs.Outcomes.{ok_same}

index_below : (count : ℕ) (item : Tree) (k : ℕ) → index_of count item ≡ Ok k → k < count
index_below count item k e =
    let i = bound (count_of item) (on_index count item) k e in
    tested count i.0 k (tree_place item) i.2
  where
    on_index : ℕ → Tree → ℕ → Reads ℕ
    on_index count item i = if nat_lt i count then Ok i else refuse 44 (tree_place item)

    by_test : (b : Bool) (i k : ℕ) (at : Place) → (if b then Ok i else refuse 44 at) ≡ Ok k → (b ≡ true) × (i ≡ k)
    by_test true i k at e = (refl, ok_same i k e)
    by_test false i k at e = absurd (cc e)

    tested : (count i k : ℕ) (at : Place) → (if nat_lt i count then Ok i else refuse 44 at) ≡ Ok k → k < count
    tested count i k at e = (let t = by_test (nat_lt i count) i k at e in subst (λ (n : ℕ). n < count) t.1 ((Decides-ltb i count).0 t.0))

pub members_below : (counts : List ℕ) (items : List Tree) (ks : List ℕ) → AreMembers counts items ks → AreBelow counts ks
members_below [] [] [] are = tt
members_below [] [] (k ∷ ks) are = absurd are
members_below [] (item ∷ items) ks are = absurd are
members_below (count ∷ counts) [] ks are = absurd are
members_below (count ∷ counts) (item ∷ items) [] are = absurd are
members_below (count ∷ counts) (item ∷ items) (k ∷ ks) are = (index_below count item k are.0, members_below counts items ks are.1)

-- different members have different places
not_less : (c a b k l : ℕ) → k < c → a < b → a * c + k ≡ b * c + l → ⊥
not_less c a b k l small less e =
    let step : a + 1 ≤ b = omega arith in
    let more : (a + 1) * c ≤ b * c = mul-le-mul_right c step in
    omega (arith, more, e, small)

heads_same : (c a b k l : ℕ) → k < c → l < c → a * c + k ≡ b * c + l → a ≡ b
heads_same c a b k l small also e =
    let not_a : a < b → ⊥ = λ less. not_less c a b k l small less e in
    let not_b : b < a → ⊥ = λ less. not_less c b a l k also less (sym e) in
    omega (arith, not_a, not_b)

pub one_place : (counts ks ls : List ℕ) (a b : ℕ) → AreBelow counts ks → AreBelow counts ls → place_from a counts ks ≡ place_from b counts ls → (a ≡ b) × (ks ≡ ls)
one_place [] [] [] a b x y e = (e, refl)
one_place [] [] (l ∷ ls) a b x y e = absurd y
one_place [] (k ∷ ks) ls a b x y e = absurd x
one_place (c ∷ counts) [] ls a b x y e = absurd x
one_place (c ∷ counts) (k ∷ ks) [] a b x y e = absurd y
one_place (c ∷ counts) (k ∷ ks) (l ∷ ls) a b x y e =
    let rest = one_place counts ks ls (a * c + k) (b * c + l) x.1 y.1 e in
    let head : a ≡ b = heads_same c a b k l x.0 y.0 rest.0 in
    let rows : a * c ≡ b * c = ap (λ (n : ℕ). n * c) head in
    let last : k ≡ l = omega arith in
    (head, (λ i. last i ∷ rest.1 i))

-- a place is below the count of cells
pub place_below : (objects : List ObjectType) (args ks : List ℕ) (from : ℕ) → AreBelow (map (type_count objects) args) ks → place_from from (map (type_count objects) args) ks < (from + 1) * cell_count objects args
place_below objects [] [] from below = omega arith
place_below objects [] (k ∷ ks) from below = absurd below
place_below objects (o ∷ args) [] from below = absurd below
place_below objects (o ∷ args) (k ∷ ks) from below =
    let c = type_count objects o in
    let rest = place_below objects args ks (from * c + k) below.1 in
    let less : from * c + k + 1 ≤ (from + 1) * c = (let k_less : k < c = below.0 in omega arith) in
    let more : (from * c + k + 1) * cell_count objects args ≤ (from + 1) * c * cell_count objects args = mul-le-mul_right (cell_count objects args) less in
    omega (arith, rest, more)
