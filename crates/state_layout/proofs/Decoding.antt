-- What the words of a state say of its values.
use Rattle.std.proofs.Common.{◌≡◌, ℕ, ◌+◌, ◌-◌, ◌*◌, ◌/◌, ◌%◌, ◌^◌, ◌<◌, ◌≤◌, Bool, true, false, ◌||◌, eqb, List, [], ◌∷◌, ◌++◌, length, get_or, map, fold, append-nil, append_assoc, refl, sym, ap, subst, ◌∙◌, inl, inr, arith}
use Rattle.std.specs.Prelude.{ℤ, nat_eq, slice_get, Some}
use Rattle.std.specs.Int.{bit_at, cast_signed, cast_unsigned, w64}
use Rattle.std.specs.List.{filter, range_with_len}
use Rattle.std.proofs.lemmas.Int.{of_z-to_z}
use Rattle.std.proofs.lemmas.Bool.{cases_lt, cases_eq, cases_Bool, eq-eqb, ne_eqb}
use Rattle.std.proofs.lemmas.List.{get_or_past}
use Rattle.std.proofs.lemmas.Option.{slice_get-get_or}
use Rattle.std.proofs.lemmas.List.FromFn.{get_or-map-range_with_len, length-map-range_with_len, map-range_with_len_more}
use Rattle.std.proofs.lemmas.Nat.{or_lt, pow_below}
use Rattle.std.proofs.lemmas.Nat.Bits.{bit_at-lt, bit_at-zero, bit_at-pow_same, bit_at-pow_other, same_from_bits_below}
use Rattle.bit_sets.specs.Sets.{has, members_where}
use Rattle.bit_sets.proofs.Bits.{bit_is_or, bit_from_test}
use Rattle.bit_sets.proofs.Ranges.{filter_same, filter_none, filter_range_split, any_inside, any_outside}
use Rattle.dp_model.specs.Evaluation.{number_held, set_held, number_in, set_in}
use Rattle.dp_model.specs.declared.parts.PlainValue.{PlainValue}
use Rattle.dp_model.specs.declared.parts.PlainValue.TheVariants.{Number, Members}
use Rattle.state_layout.specs.Signatures.{with_member, set_word}
use Rattle.state_layout.specs.declared.layout.Slot.{Slot}
use Rattle.state_layout.specs.Packing.{count_in, holds_set, first_place, further_place, word_place, word_in, has_member, members_in, value_in, state_in, is_set}
use Rattle.state_layout.specs.Forms.{HoldsSlot}
use Rattle.state_layout.proofs.Ranking.{first_there, further_there, far_place, word_first, word_of_set, word_of_none}

or_false : (b : Bool) → (b || false) ≡ b
or_false true = refl
or_false false = refl

or_assoc : (a b c : Bool) → ((a || b) || c) ≡ (a || (b || c))
or_assoc true b c = refl
or_assoc false b c = refl

-- ---- one word

pub first_read : (words : List ℕ) (count place : ℕ) → count ≡ count_in words → get_or words (first_place count place) 0 ≡ word_in words place 0
first_read words count place e = ap (λ (k : ℕ). get_or words k 0) (first_there words count place e) ∙ sym (word_first words place)

pub further_read : (words : List ℕ) (slot : Slot) (count place number : ℕ) → count ≡ count_in words → HoldsSlot slot words place → is_set slot.kind ≡ true → 1 ≤ number → get_or words (further_place count slot.sets slot.rank number) 0 ≡ word_in words place number
further_read words slot count place number e held is h = ap (λ (k : ℕ). get_or words k 0) (further_there words slot count place number e held.rank held.sets h) ∙ sym (word_of_set words place number (held.kind ∙ is))

pub further_past : (words : List ℕ) (slot : Slot) (count place number at : ℕ) → count ≡ count_in words → HoldsSlot slot words place → is_set slot.kind ≡ true → 1 ≤ number → at ≡ further_place count slot.sets slot.rank number → length words ≤ at → 0 ≡ word_in words place number
further_past words slot count place number at e held is h f past = sym (get_or_past words at 0 past) ∙ ap (λ (k : ℕ). get_or words k 0) f ∙ further_read words slot count place number e held is h

pub word_small : (words : List ℕ) (place number : ℕ) → ((k : ℕ) → get_or words k 0 < 2 ^ 64) → word_in words place number < 2 ^ 64
word_small words place number small = elim (cases_eq number 0) [
  | inl e ↦ rw (e, word_first words place) (small (word_place words place 0))
  | inr e ↦ elim (cases_Bool (holds_set words place)) [
    | inl is ↦ rw (word_of_set words place number is) (small (word_place words place number))
    | inr is ↦ rw (word_of_none words place number is (omega (arith, e))) (omega arith)
  ]
]

-- past the words there is nothing
word_beyond : (words : List ℕ) (place number : ℕ) → place < count_in words → length words ≤ number → 1 ≤ number → word_in words place number ≡ 0
word_beyond words place number h k some = elim (cases_Bool (holds_set words place)) [
  | inl is ↦ word_of_set words place number is ∙ get_or_past words (word_place words place number) 0 (omega (arith, far_place words place number h is))
  | inr is ↦ word_of_none words place number is some
]

nothing_in : (words : List ℕ) (place : ℕ) → length words ≤ 0 → word_in words place 0 ≡ 0
nothing_in words place h = word_first words place ∙ get_or_past words (word_place words place 0) 0 (omega arith)

-- ---- one value

pub value_number : (words : List ℕ) (place : ℕ) → holds_set words place ≡ false → value_in words place ≡ Number (cast_signed w64 (word_in words place 0))
unfolding value_in
value_number words place h = rw h refl

pub value_set : (words : List ℕ) (place : ℕ) → holds_set words place ≡ true → value_in words place ≡ Members (members_in words place)
unfolding value_in
value_set words place h = rw h refl

pub value_at : (words : List ℕ) (place : ℕ) (x : PlainValue) → place < count_in words → get_or (state_in words).values place x ≡ value_in words place
value_at words place x h = get_or-map-range_with_len (value_in words) 0 (count_in words) place place x h (omega arith)

pub values_length : (words : List ℕ) → length (state_in words).values ≡ count_in words
values_length words = length-map-range_with_len (value_in words) 0 (count_in words)

pub value_there : (words : List ℕ) (place : ℕ) → place < count_in words → slice_get (state_in words).values place ≡ Some (value_in words place)
value_there words place h = slice_get-get_or (state_in words).values place (value_in words place) (omega (arith, values_length words)) ∙ ap Some (value_at words place (value_in words place) h)

-- ---- members

pub no_member : (words : List ℕ) (place m : ℕ) → place < count_in words → 64 * length words ≤ m → has_member words place m ≡ false
unfolding has_member
no_member words place m h k =
    let none : word_in words place (m / 64) ≡ 0 = (elim (cases_eq (m / 64) 0) [
      | inl e ↦ rw e (nothing_in words place (omega (arith, e)))
      | inr e ↦ word_beyond words place (m / 64) h (omega arith) (omega (arith, e))
    ]) in
    rw (none, bit_at-zero (m % 64)) refl

pub member_is_bit : (words : List ℕ) (place m : ℕ) → place < count_in words → has (members_in words place) m ≡ has_member words place m
member_is_bit words place m h = elim (cases_lt m (64 * length words)) [
  | inl low ↦ any_inside (has_member words place) m 0 (64 * length words) (omega arith) (omega arith)
  | inr high ↦ any_outside (has_member words place) m 0 (64 * length words) (λ k l u e. omega arith) ∙ sym (no_member words place m h high)
]

trimmed : (f : ℕ → Bool) (n m : ℕ) → ((k : ℕ) → n ≤ k → f k ≡ false) → n ≤ m → members_where m f ≡ members_where n f
trimmed f n m none h =
    let e : n + (m - n) ≡ m = omega arith in
    let whole : members_where (n + (m - n)) f ≡ members_where n f = filter_range_split f 0 n (m - n) ∙ rw (filter_none f (0 + n) (m - n) (λ k l u. none k (omega arith)), append-nil) refl in
    subst (λ (k : ℕ). members_where k f ≡ members_where n f) e whole

-- a test that holds of nothing from either bound on
pub where_same : (f g : ℕ → Bool) (n m : ℕ) → ((k : ℕ) → f k ≡ g k) → ((k : ℕ) → n ≤ k → f k ≡ false) → ((k : ℕ) → m ≤ k → f k ≡ false) → members_where n f ≡ members_where m g
where_same f g n m same none_n none_m =
    let other : members_where m f ≡ members_where m g = filter_same f g 0 m (λ k l u. same k) in
    (elim (cases_lt n m) [
      | inl h ↦ sym (trimmed f n m none_n (omega arith))
      | inr h ↦ trimmed f m n none_m h
    ]) ∙ other

-- the members below any bound from which on there are none
pub members_below : (words : List ℕ) (place bound : ℕ) → place < count_in words → ((m : ℕ) → bound ≤ m → has_member words place m ≡ false) → members_where bound (has_member words place) ≡ members_in words place
members_below words place bound h none = where_same (has_member words place) (has_member words place) bound (64 * length words) (λ k. refl) none (λ k l. no_member words place k h l)

-- ---- the word of a set

bit_with : (number word x b : ℕ) → b < 64 → eqb (bit_at (with_member number word x) b) 1 ≡ (eqb (bit_at word b) 1 || nat_eq (64 * number + b) x)
bit_with number word x b h = elim (cases_eq (x / 64) number) [
  | inl e ↦ rw (eq-eqb (x / 64) number e, bit_is_or word (2 ^ (x % 64)) b) (ap (λ z. eqb (bit_at word b) 1 || z) (elim (cases_eq b (x % 64)) [
    | inl f ↦ rw (f, bit_at-pow_same (x % 64), eq-eqb (64 * number + x % 64) x (omega arith)) refl
    | inr f ↦ rw (bit_at-pow_other (x % 64) b f, ne_eqb (64 * number + b) x (λ g. f (omega arith))) refl
  ]))
  | inr e ↦ rw (ne_eqb (x / 64) number e, ne_eqb (64 * number + b) x (λ g. e (omega arith))) (sym (or_false (eqb (bit_at word b) 1)))
]

pub fold_bit : (number word b : ℕ) (xs : List ℕ) → b < 64 → eqb (bit_at (fold (with_member number) word xs) b) 1 ≡ (eqb (bit_at word b) 1 || has xs (64 * number + b))
fold_bit number word b [] h = sym (or_false (eqb (bit_at word b) 1))
fold_bit number word b (x ∷ xs) h = fold_bit number (with_member number word x) b xs h ∙ ap (λ z. z || has xs (64 * number + b)) (bit_with number word x b h) ∙ or_assoc (eqb (bit_at word b) 1) (nat_eq (64 * number + b) x) (has xs (64 * number + b))

small_with : (number word x : ℕ) → word < 2 ^ 64 → with_member number word x < 2 ^ 64
small_with number word x h = elim (cases_eq (x / 64) number) [
  | inl e ↦ rw (eq-eqb (x / 64) number e) (or_lt 64 word (2 ^ (x % 64)) h (pow_below (x % 64) 64 (omega arith)))
  | inr e ↦ rw (ne_eqb (x / 64) number e) h
]

fold_small : (number word : ℕ) (xs : List ℕ) → word < 2 ^ 64 → fold (with_member number) word xs < 2 ^ 64
fold_small number word [] h = h
fold_small number word (x ∷ xs) h = fold_small number (with_member number word x) xs (small_with number word x h)

-- the word of the members is the word that they were read from
pub set_word_is : (words : List ℕ) (place number : ℕ) → place < count_in words → ((k : ℕ) → get_or words k 0 < 2 ^ 64) → set_word (members_in words place) number ≡ word_in words place number
unfolding has_member
set_word_is words place number h small = same_from_bits_below 64 (set_word (members_in words place) number) (word_in words place number) (fold_small number 0 (members_in words place) (omega arith)) (word_small words place number small) (λ b u. (
    let f : (64 * number + b) / 64 ≡ number = omega arith in
    let g : (64 * number + b) % 64 ≡ b = omega arith in
    let t : has_member words place (64 * number + b) ≡ eqb (bit_at (word_in words place number) b) 1 = rw (f, g) refl in
    bit_from_test (bit_at (set_word (members_in words place) number) b) (bit_at (word_in words place number) b) (bit_at-lt (set_word (members_in words place) number) b) (bit_at-lt (word_in words place number) b)
    (fold_bit number 0 b (members_in words place) u ∙ rw (bit_at-zero b, member_is_bit words place (64 * number + b) h, t) refl)))

-- what the state has there
pub number_there : (words : List ℕ) (place : ℕ) (z : ℤ) → place < count_in words → value_in words place ≡ Number z → z ≡ number_in (state_in words) place
number_there words place z h e = sym (ap number_held (value_there words place h ∙ ap Some e))

pub set_there : (words : List ℕ) (place : ℕ) → place < count_in words → holds_set words place ≡ true → set_in (state_in words) place ≡ members_in words place
set_there words place h is = ap set_held (value_there words place h ∙ ap Some (value_set words place is))

pub bits_there : (words : List ℕ) (slot : Slot) (place number w : ℕ) → HoldsSlot slot words place → is_set slot.kind ≡ true → w ≡ word_in words place number → (k : ℕ) → k < 64 → eqb (bit_at w k) 1 ≡ has (set_in (state_in words) place) (64 * number + k)
unfolding has_member
bits_there words slot place number w held is e k h =
    let f : (64 * number + k) / 64 ≡ number = omega arith in
    let g : (64 * number + k) % 64 ≡ k = omega arith in
    let t : has_member words place (64 * number + k) ≡ eqb (bit_at (word_in words place number) k) 1 = rw (f, g) refl in
    ap (λ (x : ℕ). eqb (bit_at x k) 1) e ∙ sym t ∙ sym (member_is_bit words place (64 * number + k) held.inside) ∙ ap (λ (xs : List ℕ). has xs (64 * number + k)) (sym (set_there words place held.inside (held.kind ∙ is)))

-- ---- equal sets

pub sets_same : (a b : List ℕ) (count place bound : ℕ) → place < count_in a → place < count_in b → ((m : ℕ) → count ≤ m → has_member a place m ≡ false) → ((m : ℕ) → count ≤ m → has_member b place m ≡ false) → count ≤ 64 * bound → ((j : ℕ) → j < bound → word_in a place j ≡ word_in b place j) → members_in a place ≡ members_in b place
unfolding has_member
sets_same a b count place bound in_a in_b none_a none_b whole same = where_same (has_member a place) (has_member b place) (64 * length a) (64 * length b)
    (λ k. (elim (cases_lt k count) [
      | inl h ↦ ap (λ w. eqb (bit_at w (k % 64)) 1) (same (k / 64) (omega arith))
      | inr h ↦ none_a k h ∙ sym (none_b k h)
    ]))
    (λ k l. no_member a place k in_a l)
    (λ k l. (elim (cases_lt k count) [
      | inl h ↦ ap (λ w. eqb (bit_at w (k % 64)) 1) (same (k / 64) (omega arith)) ∙ no_member b place k in_b l
      | inr h ↦ none_a k h
    ]))

pub words_differ : (a b : List ℕ) (place number : ℕ) → place < count_in a → place < count_in b → ((k : ℕ) → get_or a k 0 < 2 ^ 64) → ((k : ℕ) → get_or b k 0 < 2 ^ 64) → members_in a place ≡ members_in b place → word_in a place number ≡ word_in b place number
words_differ a b place number in_a in_b small_a small_b same = sym (set_word_is a place number in_a small_a) ∙ ap (λ set. set_word set number) same ∙ set_word_is b place number in_b small_b

-- ---- numbers

pub unsigned_word : (words : List ℕ) (place number : ℕ) → ((k : ℕ) → get_or words k 0 < 2 ^ 64) → cast_unsigned w64 (cast_signed w64 (word_in words place number)) ≡ word_in words place number
unsigned_word words place number small = of_z-to_z w64 (word_in words place number) (word_small words place number small)

pub number_read : (words : List ℕ) (place word : ℕ) (z : ℤ) → word < 2 ^ 64 → word ≡ word_in words place 0 → z ≡ cast_signed w64 word → holds_set words place ≡ false → value_in words place ≡ Number (cast_signed w64 (cast_unsigned w64 z))
number_read words place word z small e f kind =
    let same : cast_signed w64 (cast_unsigned w64 z) ≡ z = rw f (ap (cast_signed w64) (of_z-to_z w64 word small)) in
    let read : z ≡ cast_signed w64 (word_in words place 0) = f ∙ ap (cast_signed w64) e in
    value_number words place kind ∙ ap Number (sym read) ∙ ap Number (sym same)

pub values_more : (words : List ℕ) (n : ℕ) → map (value_in words) (range_with_len 0 (n + 1)) ≡ map (value_in words) (range_with_len 0 n) ++ value_in words n ∷ []
values_more words n = map-range_with_len_more (value_in words) 0 n n (omega arith)

-- the members in one word more
pub word_members : (words : List ℕ) (place number first word : ℕ) → first ≡ number * 64 → word ≡ word_in words place number → filter (has_member words place) (range_with_len 0 (64 * number)) ++ filter (λ k. eqb (bit_at word (k - first)) 1) (range_with_len first 64) ≡ filter (has_member words place) (range_with_len 0 (64 * (number + 1)))
unfolding has_member
word_members words place number first word e f =
    let g : 0 + 64 * number ≡ first = omega arith in
    let s : 64 * number + 64 ≡ 64 * (number + 1) = omega arith in
    let second : filter (λ k. eqb (bit_at word (k - first)) 1) (range_with_len first 64) ≡ filter (has_member words place) (range_with_len first 64) = filter_same (λ k. eqb (bit_at word (k - first)) 1) (has_member words place) first 64 (λ k l u. (
    let at : k / 64 ≡ number = omega arith in
    let in_word : k % 64 ≡ k - first = omega arith in
    rw (f, at, in_word) refl)) in
    let split : filter (has_member words place) (range_with_len 0 (64 * number + 64)) ≡ filter (has_member words place) (range_with_len 0 (64 * number)) ++ filter (has_member words place) (range_with_len (0 + 64 * number) 64) = filter_range_split (has_member words place) 0 (64 * number) 64 in
    ap (λ xs. filter (has_member words place) (range_with_len 0 (64 * number)) ++ xs) second
    ∙ ap (λ (k : ℕ). filter (has_member words place) (range_with_len 0 (64 * number)) ++ filter (has_member words place) (range_with_len k 64)) (sym g)
    ∙ sym split
    ∙ ap (λ (k : ℕ). filter (has_member words place) (range_with_len 0 k)) s

pub word_bit_more : (f : ℕ → Bool) (first bit : ℕ) (start old new : List ℕ) → new ≡ old ++ filter f (range_with_len (first + bit) 1) → old ≡ start ++ filter f (range_with_len first bit) → new ≡ start ++ filter f (range_with_len first (bit + 1))
word_bit_more f first bit start old new e g = e ∙ ap (λ xs. xs ++ filter f (range_with_len (first + bit) 1)) g ∙ append_assoc start (filter f (range_with_len first bit)) (filter f (range_with_len (first + bit) 1)) ∙ ap (λ xs. start ++ xs) (sym (filter_range_split f first bit 1))
