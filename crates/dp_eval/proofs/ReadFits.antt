-- What the evaluators read is there, and what parameters are given fits.
use Rattle.std.proofs.Common.{◌≡◌, ℕ, suc, ◌+◌, ◌*◌, ◌≤◌, ◌<◌, Bool, true, false, ◌&&◌, cond, List, [], ◌∷◌, length, map, slice_get, ◌⊎◌, inl, inr, Some, Result, Ok, Err, ℤ, pos, negsuc, refl, ap, ◌∙◌, subst, arith, eqb, ltb, nat_lt, IsTrue}
use Rattle.std.specs.List.{list_all, flat_map, range_with_len}
use Rattle.std.proofs.lemmas.Bool.{and_parts, and_from, eqb-true, ltb-true, lt-ltb}
use Rattle.std.proofs.lemmas.List.{length-map}
use Rattle.std.proofs.lemmas.List.Folds.{list_all-append}
use Rattle.std.proofs.Math.Nat.{mul-le-mul_left, mul_comm, mul_assoc}
use Rattle.dp_base.specs.Results.{◌>>=◌}
use Rattle.dp_model.specs.Typing.{type_count, kind_at, kind_object, over_object, is_in_range, is_set_below, is_state, is_set_kind, is_table, are_cells, cell_count, are_arguments, is_num, NumTest}
use Rattle.dp_model.specs.Evaluation.{count_of, counts_of, table_counts, member_of, members_of, choices_of, ways, place_from, place_in, set_held}
use Rattle.dp_model.specs.declared.answers.FaultKind.{FaultKind}
use Rattle.dp_model.specs.declared.answers.FaultKind.TheVariants.{Index}
use Rattle.dp_model.specs.declared.trees.Over.TheVariants.{Object, Members}
use Rattle.dp_model.specs.declared.parts.ObjectType.{ObjectType}
use Rattle.dp_model.specs.declared.parts.Cells.{Cells}
use Rattle.dp_model.specs.declared.parts.Cells.TheVariants as cells
use Rattle.dp_model.specs.declared.parts.TableData.{TableData}
use Rattle.dp_model.specs.declared.parts.PlainState.{PlainState}
use Rattle.dp_model.specs.declared.whole.Model.{Model}
use Rattle.dp_eval.specs.Fits.{are_given, cells_length, ArgumentsFit, RangesFit, NumbersHeld, SetsHeld, CellsHeld, SumsHeld}
use Rattle.dp_eval.proofs.Fits.{bound, are_terms, terms_fit, num_values-length}
use Rattle.dp_eval.proofs.Ascending.{all_at, ascends-below, range_below}
use Rattle.dp_eval.proofs.Held.{small_in_range, small_objects, number_held_at, set_held_at, table_cells}

-- ---- parameters

pub arguments_fit : ArgumentsFit
arguments_fit m [] [] h = (refl, refl)
arguments_fit m [] (k ∷ given) h = absurd (cc)
arguments_fit m (over ∷ overs) [] h = absurd (cc)
arguments_fit m (over ∷ overs) (k ∷ given) h =
    let object = over_object m.variables over in
    let p = and_parts (nat_lt k (type_count m.objects object)) (are_arguments m.objects m.variables overs given) h in
    let below = ltb-true k (type_count m.objects object) p.0 in
    let few = small_objects m object in
    let rest = arguments_fit m overs given p.1 in
    (ap suc rest.0, and_from (is_in_range (pos k)) (are_given given) (small_in_range k (omega arith)) rest.1)

ascending_given : (count : ℕ) (set : List ℕ) → count ≤ 4096 → is_set_below count set ≡ true → are_given set ≡ true
ascending_given count set few h = ascends-below (λ k. is_in_range (pos k)) 0 count set (λ k b. small_in_range k (omega arith)) h

set_var_below : (m : Model) (s : PlainState) (v : ℕ) → IsTrue (is_state m.objects m.variables s) → is_set_kind (kind_at m.variables v) ≡ true → is_set_below (type_count m.objects (kind_object (kind_at m.variables v))) (set_held (slice_get s.values v)) ≡ true
set_var_below m s v held h = let n = set_held_at m.objects m.variables s.values v held h in rw n.1 n.2

pub ranges_fit : RangesFit
ranges_fit m s (Object object) held h = (range_below (type_count m.objects object), ascending_given (type_count m.objects object) (range_with_len 0 (type_count m.objects object)) (small_objects m object) (range_below (type_count m.objects object)))
ranges_fit m s (Members v) held h =
    let below = set_var_below m s v held h in
    (below, ascending_given (type_count m.objects (kind_object (kind_at m.variables v))) (set_held (slice_get s.values v)) (small_objects m (kind_object (kind_at m.variables v))) below)

-- ---- variables

pub numbers_held : NumbersHeld
numbers_held m s v held h = number_held_at m.objects m.variables s.values v held h

pub sets_held : SetsHeld
sets_held m s v held h = set_held_at m.objects m.variables s.values v held h

-- ---- cells

member_if : (count n k : ℕ) (b : Bool) → ltb n count ≡ b → ◌≡◌ {A = Result ℕ FaultKind} (cond b (Ok n) (Err Index)) (Ok k) → k < count
member_if count n k true e h = let same : n ≡ k = cc in subst (λ (k : ℕ). k < count) same (ltb-true n count e)
member_if count n k false e h = absurd (cc)

member_below : (count : ℕ) (n : ℤ) (k : ℕ) → member_of count n ≡ Ok k → k < count
member_below count (pos n) k h = member_if count n k (ltb n count) refl h
member_below count (negsuc n) k h = absurd (cc)

-- a place in a row, and the rows after it
row-step : (at count k cells place : ℕ) → k < count → place < (at * count + k + 1) * cells → place < (at + 1) * (count * cells)
row-step at count k cells place h p =
    let more : at * count + k + 1 ≤ (at + 1) * count = omega arith in
    let much = mul-le-mul_left cells more in
    let a = mul_comm cells (at * count + k + 1) in
    let b = mul_comm cells ((at + 1) * count) in
    let c = mul_assoc (at + 1) count cells in
    omega arith

-- members below the counts of these object types, one for each
abbrev are_below : Model → List ℕ → List ℕ → Bool
are_below m [] [] = true
are_below m (object ∷ args) (k ∷ members) = ltb k (count_of m object) && are_below m args members
are_below m [] (k ∷ members) = false
are_below m (object ∷ args) [] = false

place_below : (m : Model) (args members : List ℕ) (at : ℕ) → are_below m args members ≡ true → place_from at (counts_of m args) members < (at + 1) * cell_count m.objects args
place_below m [] members at h = omega arith
place_below m (object ∷ args) [] at h = absurd (cc)
place_below m (object ∷ args) (k ∷ members) at h =
    let count = count_of m object in
    let p = and_parts (ltb k count) (are_below m args members) h in
    row-step at count k (cell_count m.objects args) (place_from (at * count + k) (counts_of m args) members) (ltb-true k count p.0) (place_below m args members (at * count + k) p.1)

members_below : (m : Model) (args : List ℕ) (numbers : List ℤ) (members : List ℕ) → length numbers ≡ length args → members_of (counts_of m args) numbers ≡ Ok members → are_below m args members ≡ true
members_below m [] [] members l h = let same : [] ≡ members = cc in subst (λ (members : List ℕ). are_below m [] members ≡ true) same refl
members_below m [] (n ∷ numbers) members l h = absurd (omega arith)
members_below m (object ∷ args) [] members l h = absurd (omega arith)
members_below m (object ∷ args) (n ∷ numbers) members l h =
    let count = count_of m object in
    let first = bound (member_of count n) (λ k. members_of (counts_of m args) numbers >>= λ ks. Ok (k ∷ ks)) members h in
    let rest = bound (members_of (counts_of m args) numbers) (λ ks. Ok (first.0 ∷ ks)) members first.2 in
    let same : first.0 ∷ rest.0 ≡ members = cc in
    let l' : length numbers ≡ length args = omega arith in
    subst (λ (members : List ℕ). are_below m (object ∷ args) members ≡ true) same
    (and_from (ltb first.0 count) (are_below m args rest.0) (lt-ltb first.0 count (member_below count n first.0 first.1)) (members_below m args numbers rest.0 l' rest.1))

-- ways behind one member, and behind each member of a set

behind : (m : Model) (object k : ℕ) (args : List ℕ) (ws : List (List ℕ)) → ltb k (count_of m object) ≡ true → list_all (are_below m args) ws ≡ true → list_all (are_below m (object ∷ args)) (map (λ members. k ∷ members) ws) ≡ true
behind m object k args [] b h = refl
behind m object k args (w ∷ ws) b h =
    let p = and_parts (are_below m args w) (list_all (are_below m args) ws) h in
    and_from (ltb k (count_of m object) && are_below m args w) (list_all (are_below m (object ∷ args)) (map (λ members. k ∷ members) ws)) (and_from (ltb k (count_of m object)) (are_below m args w) b p.0) (behind m object k args ws b p.1)

behind_each : (m : Model) (object : ℕ) (args set : List ℕ) (ws : List (List ℕ)) → list_all (λ k. ltb k (count_of m object)) set ≡ true → list_all (are_below m args) ws ≡ true → list_all (are_below m (object ∷ args)) (flat_map (λ k. map (λ members. k ∷ members) ws) set) ≡ true
behind_each m object args [] ws b h = refl
behind_each m object args (k ∷ set) ws b h =
    let p = and_parts (ltb k (count_of m object)) (list_all (λ k. ltb k (count_of m object)) set) b in
    let here = map (λ members. k ∷ members) ws in
    let rest = flat_map (λ k. map (λ members. k ∷ members) ws) set in
    list_all-append (are_below m (object ∷ args)) here rest
    ∙ and_from (list_all (are_below m (object ∷ args)) here) (list_all (are_below m (object ∷ args)) rest) (behind m object k args ws p.0 h) (behind_each m object args set ws p.1 h)

ways_below : (m : Model) (args : List ℕ) (given : List (ℤ ⊎ List ℕ)) (choices : List (List ℕ)) → are_terms m args given ≡ true → choices_of (counts_of m args) given ≡ Ok choices → list_all (are_below m args) (ways choices) ≡ true
ways_below m [] [] choices f h = let same : [] ≡ choices = cc in subst (λ (choices : List (List ℕ)). list_all (are_below m []) (ways choices) ≡ true) same refl
ways_below m [] (x ∷ given) choices f h = absurd (cc)
ways_below m (object ∷ args) [] choices f h = absurd (cc)
ways_below m (object ∷ args) (inl n ∷ given) choices f h =
    let count = count_of m object in
    let first = bound (member_of count n) (λ k. choices_of (counts_of m args) given >>= λ rest. Ok ((k ∷ []) ∷ rest)) choices h in
    let rest = bound (choices_of (counts_of m args) given) (λ rest. Ok ((first.0 ∷ []) ∷ rest)) choices first.2 in
    let same : (first.0 ∷ []) ∷ rest.0 ≡ choices = cc in
    let one = and_from (ltb first.0 count) true (lt-ltb first.0 count (member_below count n first.0 first.1)) refl in
    subst (λ (choices : List (List ℕ)). list_all (are_below m (object ∷ args)) (ways choices) ≡ true) same
    (behind_each m object args (first.0 ∷ []) (ways rest.0) one (ways_below m args given rest.0 f rest.1))
ways_below m (object ∷ args) (inr set ∷ given) choices f h =
    let count = count_of m object in
    let p = and_parts (is_set_below count set) (are_terms m args given) f in
    let rest = bound (choices_of (counts_of m args) given) (λ rest. Ok (set ∷ rest)) choices h in
    let same : set ∷ rest.0 ≡ choices = cc in
    let each = ascends-below (λ k. ltb k count) 0 count set (λ k b. lt-ltb k count b) p.0 in
    subst (λ (choices : List (List ℕ)). list_all (are_below m (object ∷ args)) (ways choices) ≡ true) same
    (behind_each m object args set (ways rest.0) each (ways_below m args given rest.0 p.1 rest.1))

cells_full : (os : List ObjectType) (count : ℕ) (c : Cells) → are_cells os count c ≡ true → cells_length c ≡ count
cells_full os count (cells.Numbers xs) h = eqb-true (length xs) count (and_parts (eqb (length xs) count) _ h).0
cells_full os count (cells.Truths xs) h = eqb-true (length xs) count h
cells_full os count (cells.Sets object xs) h = eqb-true (length xs) count (and_parts (eqb (length xs) count) _ h).0

table_counts-at : (m : Model) (t : ℕ) (table : TableData) → slice_get m.tables t ≡ Some table → table_counts m t ≡ counts_of m table.args
table_counts-at m t table e = rw e refl

-- members below the counts of a table's arguments lead to one of its cells
cell_there : (m : Model) (t : ℕ) (table : TableData) (members : List ℕ) → slice_get m.tables t ≡ Some table → are_below m table.args members ≡ true → place_in m t members < cells_length table.cells
cell_there m t table members e h =
    let full = cells_full m.objects (cell_count m.objects table.args) table.cells (table_cells m.objects table (all_at (is_table m.objects) m.tables t table m.cells e)) in
    let below = place_below m table.args members 0 h in
    let place : place_in m t members ≡ place_from 0 (counts_of m table.args) members = ap (λ (counts : List ℕ). place_from 0 counts members) (table_counts-at m t table e) in
    omega arith

pub cells_held : CellsHeld
cells_held m s t table ns given numbers members e typed v h =
    let tests = map (is_num m.objects m.variables m.tables) ns in
    let p = and_parts (eqb (length tests) (length table.args)) (list_all (λ (n : NumTest). n (length given)) tests) typed in
    let many = eqb-true (length tests) (length table.args) p.0 in
    let same : length tests ≡ length ns = length-map ns (is_num m.objects m.variables m.tables) in
    let values = num_values-length m s ns given numbers v in
    cell_there m t table members e
    (members_below m table.args numbers members (omega arith) (subst (λ (counts : List ℕ). members_of counts numbers ≡ Ok members) (table_counts-at m t table e) h))

pub sums_held : SumsHeld
sums_held m s t table terms given xs choices i way held g e typed v h w =
    let h' = subst (λ (counts : List ℕ). choices_of counts xs ≡ Ok choices) (table_counts-at m t table e) h in
    let fit = terms_fit m s held table.args terms given xs g typed v in
    cell_there m t table way e (all_at (are_below m table.args) (ways choices) i way (ways_below m table.args xs choices fit h') w)
