-- Sets of a table in words, and what a table's cell has.
use Rattle.std.proofs.Common.{◌≡◌, ℕ, zero, suc, ◌+◌, ◌*◌, ◌/◌, ◌%◌, ◌^◌, ◌<◌, ◌≤◌, true, false, not, ◌&&◌, ◌||◌, eqb, List, [], ◌∷◌, ◌++◌, length, get_or, map, replicate, set, refl, sym, ap, subst, ◌∙◌, inl, inr, arith, rules}
use Rattle.std.specs.Prelude.{Option, Some, None, option_and_then, slice_get, unwrap_or, nat_lt, bit_or}
use Rattle.std.specs.Int.{bit_at}
use Rattle.std.specs.List.{filter, list_all, range_with_len}
use Rattle.std.proofs.lemmas.Bool.{and_parts, cases_lt, cases_eq, eq-eqb, ne_eqb, not-true, ltb-true, ltb-false, lt-ltb, le-ltb}
use Rattle.std.proofs.lemmas.List.FromFn.{get_or-map-range_with_len, length-map-range_with_len}
use Rattle.std.proofs.lemmas.List.{ext_get_or, get_or_past, get_or-replicate, get_or-set_same, get_or-set_other, length-replicate, length-set}
use Rattle.std.proofs.lemmas.List.Sums.{fold_push}
use Rattle.std.proofs.lemmas.Nat.{one_shl}
use Rattle.std.proofs.lemmas.Nat.Bits.{bit_at-zero}
use Rattle.bit_sets.specs.Sets.{bound_of, has, has_bit, members_of}
use Rattle.bit_sets.proofs.Meanings.{no_bit}
use Rattle.bit_sets.proofs.Ranges.{filter_same, filter_none}
use Rattle.dp_model.specs.Typing.{ascends, is_set_below, type_count, is_table, are_tables, are_cells, cell_count, are_numbers}
use Rattle.dp_model.specs.Evaluation.{count_of, counts_of, table_counts, cells_of, cells_object, set_cell}
use Rattle.dp_model.specs.declared.parts.ObjectType.{ObjectType}
use Rattle.dp_model.specs.declared.parts.Cells.{Cells}
use Rattle.dp_model.specs.declared.parts.Cells.TheVariants as cells
use Rattle.dp_model.specs.declared.parts.TableData.{TableData}
use Rattle.dp_model.specs.declared.whole.Model.{Model}
use Rattle.state_layout.specs.Signatures.{word_count, with_member, set_word, set_words}
use Rattle.state_layout.proofs.Decoding.{where_same, fold_bit}
use Rattle.state_layout.proofs.Stepping.{ascends_none}
use Rattle.packed_words.specs.declared.tables.Shape.{Shape}
use Rattle.packed_words.specs.declared.tables.Tables.{Tables}
use Rattle.packed_words.specs.Sets.{IsClean, one_word}
use Rattle.packed_words.specs.Tables.{sets_of, shape_of, shape_in, cell_in, AreTablesOf}

-- ---- a set in words, member by member

set_words_long : (count : ℕ) (xs : List ℕ) → length (set_words count xs) ≡ word_count count
set_words_long count xs = length-map-range_with_len (set_word xs) 0 (word_count count)

set_words_at : (count : ℕ) (xs : List ℕ) (k : ℕ) → k < word_count count → get_or (set_words count xs) k 0 ≡ set_word xs k
set_words_at count xs k h = get_or-map-range_with_len (set_word xs) 0 (word_count count) k k 0 h (omega arith)

-- no members yet
pub none_put : (count : ℕ) (words : List ℕ) → words ≡ replicate (word_count count) 0 → words ≡ set_words count []
none_put count words e = e ∙ ext_get_or 0 (replicate (word_count count) 0) (set_words count []) (length-replicate {A = ℕ} (word_count count) 0 ∙ sym (set_words_long count [])) (λ k h.
    let below : k < word_count count = omega (arith, h, length-replicate {A = ℕ} (word_count count) 0) in
    get_or-replicate (word_count count) k 0 0 below ∙ sym (set_words_at count [] k below))

one_more : (xs : List ℕ) (m k : ℕ) → set_word (xs ++ m ∷ []) k ≡ with_member k (set_word xs k) m
one_more xs m k = fold_push (with_member k) 0 xs m

-- the word that a member is in gets its bit, and the others stay
pub member_put : (count : ℕ) (xs words : List ℕ) (m : ℕ) → words ≡ set_words count xs → m / 64 < length words → set words (m / 64) (bit_or (get_or words (m / 64) 0) (1 * 2 ^ (m % 64) % 2 ^ 64)) ≡ set_words count (xs ++ m ∷ [])
member_put count xs words m e inside =
    let long : length words ≡ word_count count = ap length e ∙ set_words_long count xs in
    let new = set words (m / 64) (bit_or (get_or words (m / 64) 0) (1 * 2 ^ (m % 64) % 2 ^ 64)) in
    let new_long : length new ≡ word_count count = length-set words (m / 64) (bit_or (get_or words (m / 64) 0) (1 * 2 ^ (m % 64) % 2 ^ 64)) ∙ long in
    ext_get_or 0 new (set_words count (xs ++ m ∷ [])) (new_long ∙ sym (set_words_long count (xs ++ m ∷ []))) (λ k h.
    let below : k < word_count count = omega (arith, h, new_long) in
    let was : get_or words k 0 ≡ set_word xs k = ap (λ (ws : List ℕ). get_or ws k 0) e ∙ set_words_at count xs k below in
    let is : get_or (set_words count (xs ++ m ∷ [])) k 0 ≡ with_member k (set_word xs k) m = set_words_at count (xs ++ m ∷ []) k below ∙ one_more xs m k in
    at_place k was is (elim (cases_eq (m / 64) k) [
      | inl same ↦ (
          let bit : 1 * 2 ^ (m % 64) % 2 ^ 64 ≡ 2 ^ (m % 64) = one_shl (m % 64) 64 (omega arith) in
          rw (eq-eqb (m / 64) k same, sym same, get_or-set_same words (m / 64) (bit_or (get_or words (m / 64) 0) (1 * 2 ^ (m % 64) % 2 ^ 64)) 0 inside, bit) refl)
      | inr other ↦ rw (ne_eqb (m / 64) k other, get_or-set_other words (m / 64) k (bit_or (get_or words (m / 64) 0) (1 * 2 ^ (m % 64) % 2 ^ 64)) 0 (λ f. other (sym f))) refl
    ]))
  where
    at_place : (k : ℕ) → get_or words k 0 ≡ set_word xs k → get_or (set_words count (xs ++ m ∷ [])) k 0 ≡ with_member k (set_word xs k) m
        → get_or (set words (m / 64) (bit_or (get_or words (m / 64) 0) (1 * 2 ^ (m % 64) % 2 ^ 64))) k 0 ≡ with_member k (get_or words k 0) m
        → get_or (set words (m / 64) (bit_or (get_or words (m / 64) 0) (1 * 2 ^ (m % 64) % 2 ^ 64))) k 0 ≡ get_or (set_words count (xs ++ m ∷ [])) k 0
    at_place k was is step = step ∙ (ap (λ (w : ℕ). with_member k w m) was ∙ sym is)

-- a member in none of the words changes none
pub member_past : (count : ℕ) (xs words : List ℕ) (m : ℕ) → words ≡ set_words count xs → length words ≤ m / 64 → words ≡ set_words count (xs ++ m ∷ [])
member_past count xs words m e past =
    let long : length words ≡ word_count count = ap length e ∙ set_words_long count xs in
    e ∙ ext_get_or 0 (set_words count xs) (set_words count (xs ++ m ∷ [])) (set_words_long count xs ∙ sym (set_words_long count (xs ++ m ∷ []))) (λ k h.
    let below : k < word_count count = omega (arith, h, set_words_long count xs) in
    let other : with_member k (set_word xs k) m ≡ set_word xs k = rw (ne_eqb (m / 64) k (λ f. omega (arith, f, below, long, past))) refl in
    set_words_at count xs k below ∙ (sym other ∙ (sym (one_more xs m k) ∙ sym (set_words_at count (xs ++ m ∷ []) k below))))

-- ---- ascending lists

ascends_parts : (least count k : ℕ) (ks : List ℕ) → ascends least count (k ∷ ks) ≡ true → (least ≤ k) × (k < count) × (ascends (suc k) count ks ≡ true)
ascends_parts least count k ks h =
    let a = and_parts (not (nat_lt k least)) (nat_lt k count && ascends (suc k) count ks) h in
    let b = and_parts (nat_lt k count) (ascends (suc k) count ks) a.1 in
    (ltb-false k least (not-true (nat_lt k least) a.0), ltb-true k count b.0, b.1)

ascends_join : (least count k : ℕ) (ks : List ℕ) → least ≤ k → k < count → ascends (suc k) count ks ≡ true → ascends least count (k ∷ ks) ≡ true
ascends_join least count k ks h l t = rw (le-ltb k least h, lt-ltb k count l) t

has_above : (least count m : ℕ) (xs : List ℕ) → ascends least count xs ≡ true → m < least → has xs m ≡ false
has_above least count m [] h l = refl
has_above least count m (k ∷ ks) h l =
    let p = ascends_parts least count k ks h in
    rw (ne_eqb m k (λ e. omega (arith, e, p.0))) (has_above (suc k) count m ks p.2 (omega (arith, p.0)))

-- an ascending list is what it has
ascends_where : (least n : ℕ) (xs : List ℕ) → ascends least (least + n) xs ≡ true → filter (has xs) (range_with_len least n) ≡ xs
ascends_where least zero [] h = refl
ascends_where least zero (k ∷ ks) h = let p = ascends_parts least (least + zero) k ks h in absurd (omega (arith, p.0, p.1))
ascends_where least (suc n) [] h = filter_none (has []) least (suc n) (λ k l u. refl)
ascends_where least (suc n) (k ∷ ks) h =
    let p = ascends_parts least (least + suc n) k ks h in
    let s : least + suc n ≡ (least + 1) + n = omega arith in
    (elim (cases_eq least k) [
      | inl f ↦ (
          let rest : ascends (least + 1) ((least + 1) + n) ks ≡ true = subst (λ (z : ℕ). ascends z ((least + 1) + n) ks ≡ true) (omega (arith, f)) (subst (λ (z : ℕ). ascends (suc k) z ks ≡ true) s p.2) in
          let tail : filter (has (k ∷ ks)) (range_with_len (least + 1) n) ≡ ks = filter_same (has (k ∷ ks)) (has ks) (least + 1) n (λ m l u. rw (ne_eqb m k (λ g. omega (arith, f, g))) refl) ∙ ascends_where (least + 1) n ks rest in
          rw (eq-eqb least k f, tail, f) refl)
      | inr f ↦ (
          let above : least + 1 ≤ k = omega (arith, f, p.0) in
          let rest : ascends (least + 1) ((least + 1) + n) (k ∷ ks) ≡ true = ascends_join (least + 1) ((least + 1) + n) k ks above (omega (arith, p.1)) (subst (λ (z : ℕ). ascends (suc k) z ks ≡ true) s p.2) in
          rw (ne_eqb least k f, has_above (suc k) (least + suc n) least ks p.2 (omega (arith, above))) (ascends_where (least + 1) n (k ∷ ks) rest))
    ])

-- ---- the words of a set

module _ (count : ℕ) (set : List ℕ) (below : is_set_below count set ≡ true) where
  long : length (set_words count set) ≡ word_count count
  long = length-map-range_with_len (set_word set) 0 (word_count count)

  packed_bit : (k : ℕ) → has_bit (set_words count set) k ≡ has set k
  packed_bit k = elim (cases_lt (k / 64) (word_count count)) [
    | inl h ↦ (
        let word : get_or (set_words count set) (k / 64) 0 ≡ set_word set (k / 64) = get_or-map-range_with_len (set_word set) 0 (word_count count) (k / 64) (k / 64) 0 h (omega arith) in
        let j : 64 * (k / 64) + k % 64 ≡ k = omega arith in
        ap (λ (w : ℕ). eqb (bit_at w (k % 64)) 1) word ∙ fold_bit (k / 64) 0 (k % 64) set (omega arith) ∙ rw (bit_at-zero (k % 64), j) refl)
    | inr h ↦ no_bit (set_words count set) k (omega (arith, long)) ∙ sym (ascends_none 0 count k set below (omega arith))
  ]

  pub packed_members : members_of (set_words count set) ≡ set
  packed_members =
      where_same (has_bit (set_words count set)) (has set) (bound_of (set_words count set)) count packed_bit (λ k l. no_bit (set_words count set) k l) (λ k l. packed_bit k ∙ ascends_none 0 count k set below l)
      ∙ ascends_where 0 count set (subst (λ (z : ℕ). ascends 0 z set ≡ true) (omega arith) below)

  pub packed_clean : IsClean count (set_words count set)
  packed_clean = record { above = λ k h. packed_bit k ∙ ascends_none 0 count k set below h }

-- ---- one word of them

first_bit_same : (ws : List ℕ) → length ws ≤ 1 → (k : ℕ) → has_bit (one_word (get_or ws 0 0)) k ≡ has_bit ws k
unfolding one_word
first_bit_same ws few k = elim (cases_lt k 64) [
  | inl h ↦ (let z : k / 64 ≡ 0 = omega arith in rw z refl)
  | inr h ↦ no_bit (get_or ws 0 0 ∷ []) k (omega arith) ∙ sym (no_bit ws k (omega arith))
]

pub first_members : (ws : List ℕ) → length ws ≤ 1 → members_of (one_word (get_or ws 0 0)) ≡ members_of ws
first_members ws few = where_same (has_bit (one_word (get_or ws 0 0))) (has_bit ws) (bound_of (one_word (get_or ws 0 0))) (bound_of ws) (first_bit_same ws few) (λ k l. no_bit (one_word (get_or ws 0 0)) k l) (λ k l. first_bit_same ws few k ∙ no_bit ws k l)

pub first_clean : (count : ℕ) (ws : List ℕ) → length ws ≤ 1 → IsClean count ws → IsClean count (one_word (get_or ws 0 0))
first_clean count ws few clean = record { above = λ k h. first_bit_same ws few k ∙ clean.above k h }

-- words without a bit

zero_bit : (ws : List ℕ) → ((j : ℕ) → get_or ws j 0 ≡ 0) → (k : ℕ) → has_bit ws k ≡ false
zero_bit ws h k = rw (h (k / 64), bit_at-zero (k % 64)) refl

pub zero_members : (ws : List ℕ) → ((j : ℕ) → get_or ws j 0 ≡ 0) → members_of ws ≡ []
zero_members ws h = filter_none (has_bit ws) 0 (bound_of ws) (λ k l u. zero_bit ws h k)

pub zero_clean : (count : ℕ) (ws : List ℕ) → ((j : ℕ) → get_or ws j 0 ≡ 0) → IsClean count ws
zero_clean count ws h = record { above = λ k l. zero_bit ws h k }

pub zero_word : (j : ℕ) → get_or (one_word 0) j 0 ≡ 0
unfolding one_word
zero_word zero = refl
zero_word (suc j) = refl

-- ---- what is kept of a table

pub shape_there : (m : Model) (tables : Tables) → AreTablesOf m tables → (t : ℕ) (o : Option Shape) → o ≡ slice_get tables.shapes t → o ≡ shape_in m t
shape_there m tables flat t o e = e ∙ ap (λ (xs : List Shape). slice_get xs t) flat ∙ mapped m.tables t
  where
    mapped : (ts : List TableData) (i : ℕ) → slice_get (map (shape_of m) ts) i ≡ option_and_then (λ (x : TableData). Some (shape_of m x)) (slice_get ts i)
    mapped [] i = refl
    mapped (x ∷ xs) zero = refl
    mapped (x ∷ xs) (suc i) = mapped xs i

module _ (m : Model) (t : ℕ) where
  pub counts_some : (shape : Shape) → Some shape ≡ shape_in m t → shape.counts ≡ table_counts m t
  counts_some shape e = by (slice_get m.tables t) e
    where
      by : (o : Option TableData) → Some shape ≡ option_and_then (λ (x : TableData). Some (shape_of m x)) o → shape.counts ≡ unwrap_or (option_and_then (λ (x : TableData). Some (counts_of m x.args)) o) []
      by (Some x) e = let same : shape ≡ shape_of m x = cc in ap (λ (s : Shape). s.counts) same
      by None e = absurd (cc)

  pub counts_none : None ≡ shape_in m t → [] ≡ table_counts m t
  counts_none e = by (slice_get m.tables t) e
    where
      by : (o : Option TableData) → None ≡ option_and_then (λ (x : TableData). Some (shape_of m x)) o → [] ≡ unwrap_or (option_and_then (λ (x : TableData). Some (counts_of m x.args)) o) []
      by (Some x) e = absurd (cc)
      by None e = refl

  pub members_some : (shape : Shape) → Some shape ≡ shape_in m t → shape.members ≡ count_of m (cells_object (cells_of m t))
  members_some shape e = by (slice_get m.tables t) e
    where
      by : (o : Option TableData) → Some shape ≡ option_and_then (λ (x : TableData). Some (shape_of m x)) o → shape.members ≡ count_of m (cells_object (unwrap_or (option_and_then (λ (x : TableData). Some x.cells) o) (cells.Numbers [])))
      by (Some x) e = let same : shape ≡ shape_of m x = cc in ap (λ (s : Shape). s.members) same
      by None e = absurd (cc)

  pub cells_none : None ≡ shape_in m t → cells_of m t ≡ cells.Numbers []
  cells_none e = by (slice_get m.tables t) e
    where
      by : (o : Option TableData) → None ≡ option_and_then (λ (x : TableData). Some (shape_of m x)) o → unwrap_or (option_and_then (λ (x : TableData). Some x.cells) o) (cells.Numbers []) ≡ cells.Numbers []
      by (Some x) e = absurd (cc)
      by None e = refl

  pub sets_some : (shape : Shape) → Some shape ≡ shape_in m t → shape.sets ≡ map (set_words (count_of m (cells_object (cells_of m t)))) (sets_of (cells_of m t))
  sets_some shape e = by (slice_get m.tables t) e
    where
      by : (o : Option TableData) → Some shape ≡ option_and_then (λ (x : TableData). Some (shape_of m x)) o → shape.sets ≡ map (set_words (count_of m (cells_object (unwrap_or (option_and_then (λ (x : TableData). Some x.cells) o) (cells.Numbers []))))) (sets_of (unwrap_or (option_and_then (λ (x : TableData). Some x.cells) o) (cells.Numbers [])))
      by (Some x) e = let same : shape ≡ shape_of m x = cc in ap (λ (s : Shape). s.sets) same
      by None e = absurd (cc)

-- ---- a set in a table's cell

cell_of : (c : Cells) (p : ℕ) → set_cell c p ≡ unwrap_or (slice_get (sets_of c) p) []
cell_of (cells.Sets object xs) p = refl
cell_of (cells.Numbers xs) p = refl
cell_of (cells.Truths xs) p = refl

all_below : (count : ℕ) (xs : List (List ℕ)) (p : ℕ) → list_all (is_set_below count) xs ≡ true → is_set_below count (unwrap_or (slice_get xs p) []) ≡ true
all_below count [] p h = refl
all_below count (x ∷ xs) zero h = (and_parts (is_set_below count x) (list_all (is_set_below count) xs) h).0
all_below count (x ∷ xs) (suc p) h = all_below count xs p (and_parts (is_set_below count x) (list_all (is_set_below count) xs) h).1

cells_below : (os : List ObjectType) (n : ℕ) (c : Cells) (p : ℕ) → are_cells os n c ≡ true → is_set_below (type_count os (cells_object c)) (set_cell c p) ≡ true
cells_below os n (cells.Numbers xs) p h = refl
cells_below os n (cells.Truths xs) p h = refl
cells_below os n (cells.Sets object xs) p h =
    let rest = and_parts (eqb (length xs) n) (nat_lt object (length os) && list_all (is_set_below (type_count os object)) xs) h in
    all_below (type_count os object) xs p (and_parts (nat_lt object (length os)) (list_all (is_set_below (type_count os object)) xs) rest.1).1

table_below : (os : List ObjectType) (t : TableData) → is_table os t ≡ true → are_cells os (cell_count os t.args) t.cells ≡ true
table_below os t h =
    let rest = and_parts (list_all (λ object. nat_lt object (length os)) t.args) (are_cells os (cell_count os t.args) t.cells && (not t.element || are_numbers (Some t.cells))) h in
    (and_parts (are_cells os (cell_count os t.args) t.cells) (not t.element || are_numbers (Some t.cells)) rest.1).0

tables_below : (os : List ObjectType) (ts : List TableData) (t p : ℕ) → are_tables os ts ≡ true → is_set_below (type_count os (cells_object (unwrap_or (option_and_then (λ (x : TableData). Some x.cells) (slice_get ts t)) (cells.Numbers [])))) (set_cell (unwrap_or (option_and_then (λ (x : TableData). Some x.cells) (slice_get ts t)) (cells.Numbers [])) p) ≡ true
tables_below os [] t p h = refl
tables_below os (x ∷ xs) zero p h = cells_below os (cell_count os x.args) x.cells p (table_below os x (and_parts (is_table os x) (are_tables os xs) h).0)
tables_below os (x ∷ xs) (suc t) p h = tables_below os xs t p (and_parts (is_table os x) (are_tables os xs) h).1

pub cell_below : (m : Model) (t p : ℕ) → is_set_below (count_of m (cells_object (cells_of m t))) (set_cell (cells_of m t) p) ≡ true
cell_below m t p = tables_below m.objects m.tables t p (search (rules, m.cells))

module _ (m : Model) (t p : ℕ) where
  -- the words in a cell are those of its set
  pub cell_some : (words : List ℕ) → Some words ≡ cell_in m t p → words ≡ set_words (count_of m (cells_object (cells_of m t))) (set_cell (cells_of m t) p)
  cell_some words e = by (slice_get (sets_of (cells_of m t)) p) refl e
    where
      by : (o : Option (List ℕ)) → slice_get (sets_of (cells_of m t)) p ≡ o → Some words ≡ option_and_then (λ (xs : List ℕ). Some (set_words (count_of m (cells_object (cells_of m t))) xs)) o → words ≡ set_words (count_of m (cells_object (cells_of m t))) (set_cell (cells_of m t) p)
      by (Some xs) f e = let same : words ≡ set_words (count_of m (cells_object (cells_of m t))) xs = cc in same ∙ ap (set_words (count_of m (cells_object (cells_of m t)))) (sym (cell_of (cells_of m t) p ∙ ap (λ (o : Option (List ℕ)). unwrap_or o []) f))
      by None f e = absurd (cc)

  pub cell_none : None ≡ cell_in m t p → set_cell (cells_of m t) p ≡ []
  cell_none e = by (slice_get (sets_of (cells_of m t)) p) refl e
    where
      by : (o : Option (List ℕ)) → slice_get (sets_of (cells_of m t)) p ≡ o → None ≡ option_and_then (λ (xs : List ℕ). Some (set_words (count_of m (cells_object (cells_of m t))) xs)) o → set_cell (cells_of m t) p ≡ []
      by (Some xs) f e = absurd (cc)
      by None f e = cell_of (cells_of m t) p ∙ ap (λ (o : Option (List ℕ)). unwrap_or o []) f

  pub words_missing : cells_of m t ≡ cells.Numbers [] → None ≡ cell_in m t p
  words_missing e = sym (ap (λ (c : Cells). option_and_then (λ (ys : List ℕ). Some (set_words (count_of m (cells_object c)) ys)) (slice_get (sets_of c) p)) e)

  pub words_in : (shape : Shape) → Some shape ≡ shape_in m t → slice_get shape.sets p ≡ cell_in m t p
  words_in shape e = ap (λ (xs : List (List ℕ)). slice_get xs p) (sets_some m t shape e) ∙ mapped (sets_of (cells_of m t)) p
    where
      mapped : (xs : List (List ℕ)) (i : ℕ) → slice_get (map (set_words (count_of m (cells_object (cells_of m t)))) xs) i ≡ option_and_then (λ (ys : List ℕ). Some (set_words (count_of m (cells_object (cells_of m t))) ys)) (slice_get xs i)
      mapped [] i = refl
      mapped (x ∷ xs) zero = refl
      mapped (x ∷ xs) (suc i) = mapped xs i

  module _ (words : List ℕ) (there : Some words ≡ cell_in m t p) where
    right_length : length words ≡ word_count (count_of m (cells_object (cells_of m t)))
    right_length = ap length (cell_some words there) ∙ length-map-range_with_len (set_word (set_cell (cells_of m t) p)) 0 (word_count (count_of m (cells_object (cells_of m t))))

    right_members : members_of words ≡ set_cell (cells_of m t) p
    right_members = ap members_of (cell_some words there) ∙ packed_members (count_of m (cells_object (cells_of m t))) (set_cell (cells_of m t) p) (cell_below m t p)

    right_clean : IsClean (count_of m (cells_object (cells_of m t))) words
    right_clean = subst (λ (ws : List ℕ). IsClean (count_of m (cells_object (cells_of m t))) ws) (sym (cell_some words there)) (packed_clean (count_of m (cells_object (cells_of m t))) (set_cell (cells_of m t) p) (cell_below m t p))

  pub copied_members : (words out : List ℕ) (n : ℕ) → Some words ≡ cell_in m t p → n ≡ word_count (count_of m (cells_object (cells_of m t))) → (length words ≡ n → out ≡ words) → members_of out ≡ set_cell (cells_of m t) p
  copied_members words out n there long same = ap members_of (same (right_length words there ∙ sym long)) ∙ right_members words there

  pub copied_clean : (words out : List ℕ) (n : ℕ) → Some words ≡ cell_in m t p → n ≡ word_count (count_of m (cells_object (cells_of m t))) → (length words ≡ n → out ≡ words) → IsClean (count_of m (cells_object (cells_of m t))) out
  copied_clean words out n there long same = subst (λ (ws : List ℕ). IsClean (count_of m (cells_object (cells_of m t))) ws) (sym (same (right_length words there ∙ sym long))) (right_clean words there)

  pub word_members : (words : List ℕ) (w : ℕ) → Some words ≡ cell_in m t p → count_of m (cells_object (cells_of m t)) ≤ 64 → w ≡ get_or words 0 0 → members_of (one_word w) ≡ set_cell (cells_of m t) p
  word_members words w there few e = ap (λ (x : ℕ). members_of (one_word x)) e ∙ first_members words (omega (arith, right_length words there, few)) ∙ right_members words there

  pub word_clean : (words : List ℕ) (w : ℕ) → Some words ≡ cell_in m t p → count_of m (cells_object (cells_of m t)) ≤ 64 → w ≡ get_or words 0 0 → IsClean (count_of m (cells_object (cells_of m t))) (one_word w)
  word_clean words w there few e = subst (λ (x : ℕ). IsClean (count_of m (cells_object (cells_of m t))) (one_word x)) (sym e) (first_clean (count_of m (cells_object (cells_of m t))) words (omega (arith, right_length words there, few)) (right_clean words there))

pub zero_words : (ws : List ℕ) → ((j : ℕ) → j < length ws → get_or ws j 0 ≡ 0) → (j : ℕ) → get_or ws j 0 ≡ 0
zero_words ws h j = elim (cases_lt j (length ws)) [
  | inl l ↦ h j l
  | inr l ↦ get_or_past ws j 0 l
]
