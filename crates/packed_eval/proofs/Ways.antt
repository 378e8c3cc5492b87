-- Arguments of a sum, one after another, and the total over the sets that they are.
use Rattle.std.proofs.Common.{◌≡◌, ℕ, zero, suc, ◌+◌, ◌*◌, ◌≤◌, ◌<◌, ◌-◌, Bool, true, false, ◌||◌, eqb, leb, min, add-one, negsuc, FitsSigned, List, [], ◌∷◌, ◌++◌, length, get_or, map, take, drop, append_assoc, Result, Ok, Err, ℤ, pos, ◌+ℤ◌, inl, inr, ◌⊎◌, refl, sym, ap, subst, ◌∙◌, arith}
use Rattle.std.specs.Prelude.{Option, Some, None, option_and_then, unwrap_or, slice_get, slice_index}
use Rattle.std.specs.List.{flat_map, filter, list_all, range_with_len}
use Rattle.std.proofs.lemmas.Int.{ints, fits_signed_from_abs}
use Rattle.std.specs.Int.{w128}
use Rattle.std.proofs.Common.{w64}
use Rattle.std.proofs.Math.Nat.{mul-le-mul_right}
use Rattle.std.proofs.lemmas.List.{take_all, drop_all, take-append-le, drop-append-le, length-drop, length-take-le, get_or-drop}
use Rattle.std.proofs.lemmas.Option.{slice_get_past, unwrap_or-slice_get}
use Rattle.std.proofs.lemmas.Bool.{and_parts, cases_eq, eq-eqb, ne_eqb, leb-true, leb-false}
use Rattle.dp_base.specs.Results.{◌>>=◌}
use Rattle.dp_model.specs.Costs.{ranged}
use Rattle.dp_model.specs.Evaluation.{member_of, choices_of, ways, total_of, place_from, place_in, counts_of, table_counts, cells_of, number_cell}
use Rattle.dp_model.specs.Limits.{is_small_object, is_small_table, has_most, is_name}
use Rattle.dp_model.specs.declared.parts.Variable.{Variable}
use Rattle.dp_model.specs.declared.parts.TableData.{TableData}
use Rattle.bit_sets.proofs.Ranges.{filter_none}
use Rattle.packed_words.proofs.Shown.{few_members}
use Rattle.packed_words.proofs.OnePass.{advanced-is}
use Rattle.packed_words.specs.Places.{most, advanced}
use Rattle.dp_model.specs.declared.answers.FaultKind.{FaultKind}
use Rattle.dp_model.specs.declared.whole.Model.{Model}
use Rattle.bit_sets.specs.Sets.{members_of, has_bit, bound_of}
use Rattle.state_layout.specs.Signatures.{word_count}
use Rattle.packed_words.specs.Sets.{one_word}
use Rattle.packed_words.specs.Totals.{total_by}
use Rattle.packed_eval.specs.Sums.{sum_of_one, words_of, sets_in, place_after, total_over, cell_at, AreFew, bound_for, IsWithin, fault_in, waits_on, Chooses, unless, sum_after, chosen_in, sum_chosen}

-- ---- one argument more

module _ (m : Model) (t : ℕ) (chosen : List (List ℕ)) (count : ℕ) (rest : List ℕ) (choice : List ℕ) where
  moved : (xs : List (ℤ ⊎ List ℕ)) (c : Result (List (List ℕ)) FaultKind) → ((c >>= λ more. Ok (choice ∷ more)) >>= λ more. ranged (total_of m t (ways (chosen ++ more)))) ≡ (c >>= λ more. ranged (total_of m t (ways ((chosen ++ choice ∷ []) ++ more))))
  moved xs (Ok more) = ap (λ (ys : List (List ℕ)). ranged (total_of m t (ways ys))) (sym (append_assoc chosen (choice ∷ []) more))
  moved xs (Err kind) = refl

  number_step : (z : ℤ) (xs : List (ℤ ⊎ List ℕ)) (r : Result ℕ FaultKind) → (fault_in r ≡ None → (k : ℕ) × (r ≡ Ok k) × (choice ≡ k ∷ [])) → ((r >>= λ k. choices_of rest xs >>= λ more. Ok ((k ∷ []) ∷ more)) >>= λ more. ranged (total_of m t (ways (chosen ++ more)))) ≡ unless (fault_in r) (choices_of rest xs >>= λ more. ranged (total_of m t (ways ((chosen ++ choice ∷ []) ++ more))))
  number_step z xs (Ok k) h =
      let c = h refl in
      let same : choice ≡ k ∷ [] = c.2 ∙ ap (λ (j : ℕ). j ∷ []) (let q = c.1 in cc) in
      subst (λ (w : List ℕ). ((choices_of rest xs >>= λ more. Ok (w ∷ more)) >>= λ more. ranged (total_of m t (ways (chosen ++ more)))) ≡ (choices_of rest xs >>= λ more. ranged (total_of m t (ways ((chosen ++ choice ∷ []) ++ more))))) same (moved xs (choices_of rest xs))
  number_step z xs (Err kind) h = refl

  pub sum_step : (waits : Option FaultKind) (x : ℤ ⊎ List ℕ) (r : Result (List (ℤ ⊎ List ℕ)) FaultKind) → (waits_on count waits x ≡ None → Chooses count x choice) → sum_after m t chosen waits (count ∷ rest) (r >>= λ xs. Ok (x ∷ xs)) ≡ sum_after m t (chosen ++ choice ∷ []) (waits_on count waits x) rest r
  sum_step waits x (Err kind) h = refl
  sum_step (Some kind) x (Ok xs) h = refl
  sum_step None (inl z) (Ok xs) h = number_step z xs (member_of count z) h
  sum_step None (inr set) (Ok xs) h = subst (λ (w : List ℕ). ((choices_of rest xs >>= λ more. Ok (w ∷ more)) >>= λ more. ranged (total_of m t (ways (chosen ++ more)))) ≡ (choices_of rest xs >>= λ more. ranged (total_of m t (ways ((chosen ++ choice ∷ []) ++ more))))) (h refl) (moved xs (choices_of rest xs))

-- ---- sets in words

take_nil : (n : ℕ) → take {A = ℕ} n [] ≡ []
take_nil zero = refl
take_nil (suc n) = refl

take_two : (a b : ℕ) (xs : List ℕ) → take (a + b) xs ≡ take a xs ++ take b (drop a xs)
take_two zero b xs = let e : 0 + b ≡ b = omega arith in rw e refl
take_two (suc a) b [] = let e : suc a + b ≡ suc (a + b) = omega arith in rw (e, take_nil b) refl
take_two (suc a) b (x ∷ xs) = let e : suc a + b ≡ suc (a + b) = omega arith in rw e (ap (λ (ys : List ℕ). x ∷ ys) (take_two a b xs))

pub take_more : (counts : List ℕ) (i count : ℕ) (rest : List ℕ) → drop i counts ≡ count ∷ rest → take (i + 1) counts ≡ take i counts ++ count ∷ []
take_more [] zero count rest e = absurd cc
take_more [] (suc i) count rest e = absurd cc
take_more (c ∷ cs) zero count rest e = let same : c ≡ count = cc in ap (λ (k : ℕ). k ∷ []) same
take_more (c ∷ cs) (suc i) count rest e = let n : suc i + 1 ≡ suc (i + 1) = omega arith in rw n (ap (λ (ks : List ℕ). c ∷ ks) (take_more cs i count rest e))

set_more : (counts : List ℕ) (held mine : List ℕ) (count : ℕ) → length held ≡ words_of counts → length mine ≡ word_count count → sets_in (counts ++ count ∷ []) (held ++ mine) ≡ sets_in counts held ++ members_of mine ∷ []
set_more [] [] mine count h k = ap (λ (ws : List ℕ). members_of ws ∷ []) (take_all (word_count count) mine (omega (arith, k)))
set_more [] (x ∷ xs) mine count h k = absurd (omega arith)
set_more (c ∷ cs) held mine count h k =
    let low : word_count c ≤ length held = omega (arith, h) in
    let first : take (word_count c) (held ++ mine) ≡ take (word_count c) held = take-append-le (word_count c) held mine low in
    let behind : drop (word_count c) (held ++ mine) ≡ drop (word_count c) held ++ mine = drop-append-le (word_count c) held mine low in
    let long : length (drop (word_count c) held) ≡ words_of cs = omega (arith, h, length-drop (word_count c) held) in
    ap (λ (ws : List ℕ). members_of ws ∷ sets_in (cs ++ count ∷ []) (drop (word_count c) (held ++ mine))) first
    ∙ ap (λ (ws : List ℕ). members_of (take (word_count c) held) ∷ sets_in (cs ++ count ∷ []) ws) behind
    ∙ ap (λ (xs : List (List ℕ)). members_of (take (word_count c) held) ∷ xs) (set_more cs (drop (word_count c) held) mine count long k)

pub sets_more : (counts : List ℕ) (count used : ℕ) (old new more : List ℕ) → more ≡ counts ++ count ∷ [] → used ≡ words_of counts → used + word_count count ≤ length new → take used new ≡ take used old → sets_in more (take (used + word_count count) new) ≡ sets_in counts (take used old) ++ members_of (take (word_count count) (drop used new)) ∷ []
sets_more counts count used old new more m u room same =
    let mine = take (word_count count) (drop used new) in
    let long : length (take used old) ≡ words_of counts = ap (λ (ws : List ℕ). length ws) (sym same) ∙ length-take-le used new (omega (arith, room)) ∙ u in
    let wide : length mine ≡ word_count count = length-take-le (word_count count) (drop used new) (omega (arith, room, length-drop used new)) in
    let words : take (used + word_count count) new ≡ take used old ++ mine = take_two used (word_count count) new ∙ ap (λ (ws : List ℕ). ws ++ mine) same in
    rw (m, words) (set_more counts (take used old) mine count long wide)

pub words_more : (counts : List ℕ) (count : ℕ) → words_of (counts ++ count ∷ []) ≡ words_of counts + word_count count
words_more [] count = omega arith
words_more (c ∷ cs) count = omega (arith, words_more cs count)

-- words between others

pub front_kept : (used : ℕ) (front behind : List ℕ) → length front ≡ used → take used (front ++ behind) ≡ front
front_kept used front behind h = take-append-le used front behind (omega (arith, h)) ∙ take_all used front (omega (arith, h))

pub front_off : (used : ℕ) (front behind : List ℕ) → length front ≡ used → drop used (front ++ behind) ≡ behind
front_off used front behind h = drop-append-le used front behind (omega (arith, h)) ∙ ap (λ (xs : List ℕ). xs ++ behind) (drop_all used front (omega (arith, h)))

pub between : (used n : ℕ) (front mine rest : List ℕ) → length front ≡ used → length mine ≡ n → take n (drop used (front ++ (mine ++ rest))) ≡ mine
between used n front mine rest h k = ap (λ (xs : List ℕ). take n xs) (front_off used front (mine ++ rest) h) ∙ front_kept n mine rest k

-- ---- the total

abbrev total_at : (ℕ → ℤ) → ℕ → List ℕ → List (List ℕ) → ℤ
total_at cell place counts [] = pos 0
total_at cell place counts (members ∷ rest) = cell (place_from place counts members) +ℤ total_at cell place counts rest

module _ (cell : ℕ → ℤ) where
  joined : (place : ℕ) (counts : List ℕ) (xs ys : List (List ℕ)) → total_at cell place counts (xs ++ ys) ≡ total_at cell place counts xs +ℤ total_at cell place counts ys
  joined place counts [] ys = omega (arith, ints)
  joined place counts (x ∷ xs) ys = let h = joined place counts xs ys in omega (arith, ints, h)

  behind_one : (place : ℕ) (counts : List ℕ) (k : ℕ) (ws : List (List ℕ)) → total_at cell place counts (map (λ members. k ∷ members) ws) ≡ total_at cell (place_after place counts k) (drop 1 counts) ws
  behind_one place counts k [] = refl
  behind_one place [] k (w ∷ ws) = ap (λ (z : ℤ). cell place +ℤ z) (behind_one place [] k ws)
  behind_one place (c ∷ cs) k (w ∷ ws) = ap (λ (z : ℤ). cell (place_from (place * c + k) cs w) +ℤ z) (behind_one place (c ∷ cs) k ws)

  behind_set : (place : ℕ) (counts : List ℕ) (ws : List (List ℕ)) (f : ℕ → ℤ) → ((k : ℕ) → total_at cell (place_after place counts k) (drop 1 counts) ws ≡ f k) → (set : List ℕ) → total_at cell place counts (flat_map (λ k. map (λ members. k ∷ members) ws) set) ≡ total_by f set
  behind_set place counts ws f h [] = refl
  behind_set place counts ws f h (k ∷ set) =
      joined place counts (map (λ members. k ∷ members) ws) (flat_map (λ j. map (λ members. j ∷ members) ws) set)
      ∙ ap (λ (z : ℤ). z +ℤ total_at cell place counts (flat_map (λ j. map (λ members. j ∷ members) ws) set)) (behind_one place counts k ws ∙ h k)
      ∙ ap (λ (z : ℤ). f k +ℤ z) (behind_set place counts ws f h set)

  over_ways : (place : ℕ) (counts : List ℕ) (sets : List (List ℕ)) → total_at cell place counts (ways sets) ≡ total_over cell place counts sets
  over_ways place [] [] = omega (arith, ints)
  over_ways place (c ∷ cs) [] = omega (arith, ints)
  over_ways place counts (set ∷ sets) = behind_set place counts (ways sets) (λ k. total_over cell (place_after place counts k) (drop 1 counts) sets) (λ k. over_ways (place_after place counts k) (drop 1 counts) sets) set

pub total_is : (m : Model) (t : ℕ) (sets : List (List ℕ)) → total_of m t (ways sets) ≡ total_over (number_cell (cells_of m t)) 0 (table_counts m t) sets
total_is m t sets = same (ways sets) ∙ over_ways (number_cell (cells_of m t)) 0 (table_counts m t) sets
  where
    same : (ws : List (List ℕ)) → total_of m t ws ≡ total_at (number_cell (cells_of m t)) 0 (table_counts m t) ws
    same [] = refl
    same (w ∷ ws) = ap (λ (z : ℤ). number_cell (cells_of m t) (place_in m t w) +ℤ z) (same ws)

-- ---- one member after another

pub total_same : (f g : ℕ → ℤ) → ((k : ℕ) → f k ≡ g k) → (ks : List ℕ) → total_by f ks ≡ total_by g ks
total_same f g h [] = refl
total_same f g h (k ∷ ks) = rw (h k, total_same f g h ks) refl

pub over_same : (f g : ℕ → ℤ) → ((p : ℕ) → f p ≡ g p) → (place : ℕ) (counts : List ℕ) (sets : List (List ℕ)) → total_over f place counts sets ≡ total_over g place counts sets
over_same f g h place counts [] = h place
over_same f g h place counts (set ∷ sets) = total_same (λ k. total_over f (place_after place counts k) (drop 1 counts) sets) (λ k. total_over g (place_after place counts k) (drop 1 counts) sets) (λ k. over_same f g h (place_after place counts k) (drop 1 counts) sets) set

pub total_step : (f : ℕ → ℤ) (members : ℕ → List ℕ) (from k : ℕ) (total cell after all : ℤ) → members from ≡ k ∷ members (suc k) → cell ≡ f k → after ≡ total +ℤ cell → total +ℤ total_by f (members from) ≡ all → after +ℤ total_by f (members (k + 1)) ≡ all
total_step f members from k total cell after all p q r h = rw add-one (of_rest (members (suc k)) (rw p at h))
  where
    of_rest : (ks : List ℕ) → total +ℤ total_by f (k ∷ ks) ≡ all → after +ℤ total_by f ks ≡ all
    of_rest ks e = omega (arith, ints, q, r)

pub place_next : (at place count k : ℕ) → at ≡ min most place → advanced at count k ≡ min most (place * count + k)
place_next at place count k e = rw e (advanced-is place count k)

-- ---- a set of one member

pub one_where : (m a n : ℕ) → a ≤ m → m < a + n → filter (λ k. eqb k m || false) (range_with_len a n) ≡ m ∷ []
one_where m a zero h l = absurd (omega arith)
one_where m a (suc n) h l = elim (cases_eq a m) [
  | inl e ↦ (
      let none : filter (λ k. eqb k m || false) (range_with_len (a + 1) n) ≡ [] = filter_none (λ k. eqb k m || false) (a + 1) n (λ k u v. rw (ne_eqb k m (λ g. omega (arith, e, g))) refl) in
      rw (eq-eqb a m e, none, e) refl)
  | inr e ↦ rw (ne_eqb a m e) (one_where m (a + 1) n (omega (arith, e)) (omega arith))
]

-- ---- how many arguments a table has

few_at : (m : Model) (objects : List ℕ) (i : ℕ) → slice_index (counts_of m objects) i ≤ 4096
few_at m [] i = omega arith
few_at m (o ∷ os) zero = few_members m o
few_at m (o ∷ os) (suc i) = few_at m os i

counts_length : (m : Model) (objects : List ℕ) → length (counts_of m objects) ≡ length objects
counts_length m [] = refl
counts_length m (o ∷ os) = ap suc (counts_length m os)

small_at : (ts : List TableData) (t : ℕ) (x : TableData) → list_all is_small_table ts ≡ true → slice_get ts t ≡ Some x → is_small_table x ≡ true
small_at [] t x h e = absurd cc
small_at (y ∷ ts) zero x h e = let same : y ≡ x = cc in rw same at (and_parts (is_small_table y) (list_all is_small_table ts) h).0
small_at (y ∷ ts) (suc t) x h e = small_at ts t x (and_parts (is_small_table y) (list_all is_small_table ts) h).1 e

small_tables : (m : Model) → list_all is_small_table m.tables ≡ true
small_tables m =
    let a = and_parts (has_most 1024 m.objects) _ m.few_names in
    let b = and_parts (list_all is_small_object m.objects) _ a.1 in
    let c = and_parts (has_most 1024 m.variables) _ b.1 in
    let d = and_parts (list_all (λ (v : Variable). is_name v.name) m.variables) _ c.1 in
    let e = and_parts (has_most 1024 m.tables) _ d.1 in
    (and_parts (list_all is_small_table m.tables) _ e.1).0

pub few_counts : (m : Model) (t : ℕ) → AreFew (table_counts m t)
few_counts m t = by (slice_get m.tables t) refl
  where
    by : (o : Option TableData) → slice_get m.tables t ≡ o → AreFew (unwrap_or (option_and_then (λ (x : TableData). Some (counts_of m x.args)) o) [])
    by None e = record { four = omega arith; each = λ i. omega arith }
    by (Some x) e =
        let small : is_small_table x ≡ true = small_at m.tables t x (small_tables m) e in
        let few : length x.args ≤ 4 = leb-true (length x.args) 4 (and_parts (is_name x.name) (has_most 4 x.args) small).1 in
        record { four = omega (arith, few, counts_length m x.args); each = λ i. few_at m x.args i }

pub bound_small : (n : ℕ) → n ≤ 3 → bound_for n ≤ 5070602400912917605986812821504
bound_small zero h = omega arith
bound_small (suc zero) h = omega arith
bound_small (suc (suc zero)) h = omega arith
bound_small (suc (suc (suc zero))) h = omega arith
bound_small (suc (suc (suc (suc n)))) h = absurd (omega arith)

-- ---- totals one member after another, and how large they are

pub over_none : (cell : ℕ → ℤ) (place : ℕ) (counts held : List ℕ) → length counts ≡ 0 → cell place ≡ total_over cell place counts (sets_in counts held)
over_none cell place [] held h = refl
over_none cell place (c ∷ cs) held h = absurd (omega arith)

pub bound_none : (counts : List ℕ) → length counts ≡ 0 → bound_for (length counts) ≡ 9223372036854775808
bound_none [] h = refl
bound_none (c ∷ cs) h = absurd (omega arith)

pub within_step : (b from member : ℕ) (total more after : ℤ) → from ≤ member → IsWithin (from * b) total → IsWithin b more → after ≡ total +ℤ more → IsWithin ((member + 1) * b) after
within_step b from member total more after h t r e =
    let grows : from * b ≤ member * b = mul-le-mul_right b h in
    let low = t.low in
    let high = t.high in
    let down = r.low in
    let up = r.high in
    record { low = omega (arith, ints, grows, e, low, down); high = omega (arith, ints, grows, e, high, up) }

pub fits_within : (b : ℕ) (z : ℤ) → IsWithin b z → b < 170141183460469231731687303715884105728 → FitsSigned w128 z
fits_within b (pos n) h s = let high = h.high in fits_signed_from_abs w128 (pos n) (omega (arith, ints, high, s))
fits_within b (negsuc n) h s = let low = h.low in fits_signed_from_abs w128 (negsuc n) (omega (arith, ints, low, s))

pub sum_fits : (b from : ℕ) (total more : ℤ) → from ≤ 8192 → b ≤ 5070602400912917605986812821504 → IsWithin (from * b) total → IsWithin b more → FitsSigned w128 (total +ℤ more)
sum_fits b from total more f s t r =
    let grows : (from + 1) * b ≤ 8193 * b = mul-le-mul_right b (omega (arith, f)) in
    fits_within ((from + 1) * b) (total +ℤ more) (within_step b from from total more (total +ℤ more) (omega arith) t r refl) (omega (arith, grows, s))

pub total_told : (m : Model) (t : ℕ) (cells : List ℤ) (counts : List ℕ) (sets : List (List ℕ)) (total : ℤ) → counts ≡ table_counts m t → ((p : ℕ) → number_cell (cells_of m t) p ≡ cell_at cells p) → total ≡ total_over (cell_at cells) 0 counts sets → total ≡ total_of m t (ways sets)
total_told m t cells counts sets total c h e = e ∙ over_same (cell_at cells) (number_cell (cells_of m t)) (λ p. sym (h p)) 0 counts sets ∙ rw c (sym (total_is m t sets))

-- ---- a set in words has no more members than bits

filter_few : (f : ℕ → Bool) (xs : List ℕ) → length (filter f xs) ≤ length xs
filter_few f [] = omega arith
filter_few f (x ∷ xs) = by (f x) refl (filter_few f xs)
  where
    by : (t : Bool) → f x ≡ t → length (filter f xs) ≤ length xs → length (filter f (x ∷ xs)) ≤ length (x ∷ xs)
    by true e h = rw e (omega (arith, h))
    by false e h = rw e (omega (arith, h))

range_long : (a n : ℕ) → length (range_with_len a n) ≡ n
range_long a zero = refl
range_long a (suc n) = ap suc (range_long (a + 1) n)

pub few_members_of : (ws : List ℕ) → length (members_of ws) ≤ 64 * length ws
few_members_of ws = let h = filter_few (has_bit ws) (range_with_len 0 (bound_of ws)) in let k = range_long 0 (bound_of ws) in omega (arith, h, k)

pub same_front : (xs ys : List ℕ) → length xs ≤ length ys → ((k : ℕ) → k < length xs → get_or ys k 0 ≡ get_or xs k 0) → take (length xs) ys ≡ xs
same_front [] ys h f = refl
same_front (x ∷ xs) [] h f = absurd (omega (arith, h))
same_front (x ∷ xs) (y ∷ ys) h f =
    let first : y ≡ x = f 0 (omega arith) in
    rw first (ap (λ (zs : List ℕ). x ∷ zs) (same_front xs ys (omega (arith, h)) (λ k l. f (suc k) (omega (arith, l)))))

-- ---- sums over one set

-- the total over the set of a table's only argument
pub one_told : (m : Model) (t : ℕ) (cells : List ℤ) (count : ℕ) (set : List ℕ) (total : ℤ) → table_counts m t ≡ count ∷ [] → ((p : ℕ) → number_cell (cells_of m t) p ≡ cell_at cells p) → total ≡ total_by (cell_at cells) set → total ≡ total_of m t (ways (set ∷ []))
one_told m t cells count set total c h e =
    e
    ∙ total_same (cell_at cells) (λ k. number_cell (cells_of m t) (0 * count + k)) (λ k. let none : 0 * count + k ≡ k = omega arith in rw none (sym (h k))) set
    ∙ whole (table_counts m t) c
    ∙ sym (total_is m t (set ∷ []))
  where
    whole : (counts : List ℕ) → counts ≡ count ∷ [] → total_by (λ k. number_cell (cells_of m t) (0 * count + k)) set ≡ total_over (number_cell (cells_of m t)) 0 counts (set ∷ [])
    whole counts p = rw p refl

-- what a number of 64 bits has at most
pub cell_within : (z : ℤ) → FitsSigned w64 z → IsWithin 9223372036854775808 z
cell_within z small = record { low = omega (arith, ints); high = omega (arith, ints) }

pub at_member : (m : Model) (t count : ℕ) (z : ℤ) (k : ℕ) (set : List ℕ) (r : Result ℤ FaultKind) → member_of count z ≡ Ok k → set ≡ k ∷ [] → r ≡ ranged (total_of m t (ways (set ∷ []))) → r ≡ sum_of_one m t count z
at_member m t count z k set r p e h = h ∙ rw (p, e) refl

-- ---- the cells of a row

module _ (cells : List ℤ) (k : ℕ) where
  in_row : (n : ℕ) (t : Bool) → leb n (length cells) ≡ t → cell_at (drop (min n (length cells)) cells) k ≡ cell_at cells (n + k)
  in_row n true e =
      let start : min n (length cells) ≡ n = omega (arith, leb-true n (length cells) e) in
      rw start (unwrap_or-slice_get (drop n cells) k (pos 0) ∙ get_or-drop n cells k (pos 0) ∙ sym (unwrap_or-slice_get cells (n + k) (pos 0)))
  in_row n false e =
      let past : length cells < n = omega (arith, leb-false n (length cells) e) in
      let start : min n (length cells) ≡ length cells = omega (arith, past) in
      let none : slice_get cells (n + k) ≡ None = slice_get_past cells (n + k) (omega (arith, past)) in
      rw (start, drop_all (length cells) cells (omega arith), none) refl

-- a row begins at its first cell, or ends where the cells end
pub row_cells : (cells : List ℤ) (n at start k : ℕ) → at ≡ min most (n + 0) → start ≡ min at (length cells) → length cells ≤ most → cell_at (take (length cells - start) (drop start cells)) k ≡ cell_at cells (n + k)
row_cells cells n at start k p e h =
    let begins : start ≡ min n (length cells) = omega (arith, p, e, h) in
    let all : take (length cells - start) (drop start cells) ≡ drop start cells = take_all (length cells - start) (drop start cells) (omega (arith, length-drop start cells)) in
    rw (all, begins) (in_row cells k n (leb n (length cells)) refl)

-- a set in one word is all of its words
all_words : (set : List ℕ) → 1 ≤ length set → length set < 2 → one_word (get_or set 0 0) ≡ set
unfolding one_word
all_words [] h l = absurd (omega (arith, h))
all_words (w ∷ []) h l = refl
all_words (w ∷ v ∷ ws) h l = absurd (omega (arith, l))

pub one_of : (set : List ℕ) → 1 ≤ length set → length set < 2 → members_of (one_word (get_or set 0 0)) ≡ members_of set
one_of set h l = ap (λ (ws : List ℕ). members_of ws) (all_words set h l)

-- ---- two arguments, of object types with at most 64 members

pub one_chosen : (count : ℕ) (z : ℤ) (k : ℕ) (set : List ℕ) → member_of count z ≡ Ok k → set ≡ k ∷ [] → chosen_in count (inl z) ≡ Ok set
one_chosen count z k set p e = rw (p, e) refl

module _ (count last : ℕ) where
  chosen_last : (a : List ℕ) (y : ℤ ⊎ List ℕ) → (choices_of (last ∷ []) (y ∷ []) >>= λ more. Ok (a ∷ more)) ≡ (chosen_in last y >>= λ b. Ok (a ∷ b ∷ []))
  chosen_last a (inl z) = by (member_of last z)
    where
      by : (r : Result ℕ FaultKind) → ((r >>= λ k. choices_of [] [] >>= λ choices. Ok ((k ∷ []) ∷ choices)) >>= λ more. Ok (a ∷ more)) ≡ ((r >>= λ k. Ok (k ∷ [])) >>= λ b. Ok (a ∷ b ∷ []))
      by (Ok k) = refl
      by (Err kind) = refl
  chosen_last a (inr set) = refl

  two_choices : (x y : ℤ ⊎ List ℕ) → choices_of (count ∷ last ∷ []) (x ∷ y ∷ []) ≡ (chosen_in count x >>= λ a. chosen_in last y >>= λ b. Ok (a ∷ b ∷ []))
  two_choices (inl z) y = by (member_of count z)
    where
      by : (r : Result ℕ FaultKind) → (r >>= λ k. choices_of (last ∷ []) (y ∷ []) >>= λ choices. Ok ((k ∷ []) ∷ choices)) ≡ ((r >>= λ k. Ok (k ∷ [])) >>= λ a. chosen_in last y >>= λ b. Ok (a ∷ b ∷ []))
      by (Ok k) = chosen_last (k ∷ []) y
      by (Err kind) = refl
  two_choices (inr set) y = chosen_last set y

  module _ (m : Model) (t : ℕ) (x y : ℤ ⊎ List ℕ) (c : table_counts m t ≡ count ∷ last ∷ []) where
    of_choices : sum_chosen m t (x ∷ y ∷ []) ≡ (chosen_in count x >>= λ a. chosen_in last y >>= λ b. ranged (total_of m t (ways (a ∷ b ∷ []))))
    of_choices = whole (table_counts m t) c
      where
        inside : (r s : Result (List ℕ) FaultKind) → ((r >>= λ a. s >>= λ b. Ok (a ∷ b ∷ [])) >>= λ choices. ranged (total_of m t (ways choices))) ≡ (r >>= λ a. s >>= λ b. ranged (total_of m t (ways (a ∷ b ∷ []))))
        inside (Ok a) (Ok b) = refl
        inside (Ok a) (Err kind) = refl
        inside (Err kind) s = refl

        whole : (counts : List ℕ) → counts ≡ count ∷ last ∷ [] → (choices_of counts (x ∷ y ∷ []) >>= λ choices. ranged (total_of m t (ways choices))) ≡ (chosen_in count x >>= λ a. chosen_in last y >>= λ b. ranged (total_of m t (ways (a ∷ b ∷ []))))
        whole counts p = rw (p, two_choices x y) (inside (chosen_in count x) (chosen_in last y))

pub both_chosen : (m : Model) (t count last : ℕ) (x y : ℤ ⊎ List ℕ) (set behind : List ℕ) (r : Result ℤ FaultKind) → table_counts m t ≡ count ∷ last ∷ [] → chosen_in count x ≡ Ok set → chosen_in last y ≡ Ok behind → r ≡ ranged (total_of m t (ways (set ∷ behind ∷ []))) → r ≡ sum_chosen m t (x ∷ y ∷ [])
both_chosen m t count last x y set behind r c p q e = e ∙ sym (of_choices count last m t x y c ∙ rw (p, q) refl)

-- the total, where the row of each member of the first set is found once
pub rows_told : (m : Model) (t : ℕ) (cells : List ℤ) (count last : ℕ) (set behind : List ℕ) (total : ℤ) → table_counts m t ≡ count ∷ last ∷ [] → ((p : ℕ) → number_cell (cells_of m t) p ≡ cell_at cells p) → total ≡ total_by (λ k. total_by (λ j. cell_at cells (k * last + j)) behind) set → total ≡ total_of m t (ways (set ∷ behind ∷ []))
rows_told m t cells count last set behind total c h e =
    e
    ∙ total_same (λ k. total_by (λ j. cell_at cells (k * last + j)) behind) (λ k. total_by (λ j. number_cell (cells_of m t) ((0 * count + k) * last + j)) behind) row set
    ∙ whole (table_counts m t) c
    ∙ sym (total_is m t (set ∷ behind ∷ []))
  where
    row : (k : ℕ) → total_by (λ j. cell_at cells (k * last + j)) behind ≡ total_by (λ j. number_cell (cells_of m t) ((0 * count + k) * last + j)) behind
    row k = let none : 0 * count + k ≡ k = omega arith in rw none (total_same (λ j. cell_at cells (k * last + j)) (λ j. number_cell (cells_of m t) (k * last + j)) (λ j. sym (h (k * last + j))) behind)

    whole : (counts : List ℕ) → counts ≡ count ∷ last ∷ [] → total_by (λ k. total_by (λ j. number_cell (cells_of m t) ((0 * count + k) * last + j)) behind) set ≡ total_over (number_cell (cells_of m t)) 0 counts (set ∷ behind ∷ [])
    whole counts p = rw p refl
