-- In a flat layout a state's words are those of its first row, and in one without resources the signature has all words.
use Rattle.std.proofs.Common.{◌≡◌, ℕ, zero, suc, ◌+◌, ◌<◌, ◌^◌, Bool, true, false, ◌&&◌, List, [], ◌∷◌, ◌++◌, length, get_or, drop, map, fold, refl, sym, ap, subst, ◌∙◌, inl, inr, arith}
use Rattle.std.specs.Prelude.{ℤ, pos, unwrap_or, Option, None, IsTrue, ◌↔◌, ◌||◌, nat_eq}
use Rattle.std.specs.Bool.{Decides}
use Rattle.std.specs.Int.{to_le_bytes, cast_signed, cast_unsigned, w64}
use Rattle.std.specs.List.{range_with_len}
use Rattle.std.proofs.lemmas.Bool.{cases_eq, cases_Bool}
use Rattle.std.proofs.lemmas.Bool.Decides.{Decides-eqb}
use Rattle.dp_model.specs.Typing.{is_without}
use Rattle.dp_model.specs.declared.parts.Preference.{Preference}
use Rattle.dp_model.specs.declared.parts.Preference.TheVariants.{Without, Less, Greater}
use Rattle.dp_model.specs.declared.parts.PlainValue.{PlainValue}
use Rattle.dp_model.specs.declared.parts.PlainValue.TheVariants.{Number, Members}
use Rattle.dp_model.specs.declared.parts.PlainState.{PlainState}
use Rattle.state_layout.specs.declared.layout.Slot.{Slot}
use Rattle.state_layout.specs.Signatures.{word_count, set_word, value_words, signature_in, without_preference, hash_byte, hash_onto}
use Rattle.state_layout.specs.Keys.{key_step, key_onto}
use Rattle.state_layout.specs.Merits.{value_merit, merit_in}
use Rattle.state_layout.specs.Tests.{is_same_value, are_same_values, is_at_most, is_at_least, are_at_least, dominates_by}
use Rattle.state_layout.specs.Packing.{count_in, holds_set, word_in, members_in, value_in, state_in, is_set}
use Rattle.state_layout.specs.Forms.{HoldsSlot, Fits, no_slot}
use Rattle.state_layout.specs.Flat.{IsFlat, HasNoResource}
use Rattle.state_layout.proofs.Decoding.{value_number, value_set, set_word_is, sets_same, words_differ, unsigned_word}
use Rattle.state_layout.proofs.Deciding.{same_value_decides, same_values_decide}
use Rattle.state_layout.proofs.Stepping.{members_from, get_or_default, read_again, decided, whole_key_next, whole_hash_step, set_value_words, number_value_words, no_value_words, hash_one}

-- ---- what holds of each slot

-- of one slot more
pub each_more : (P : Slot → Type 0) (slots : List Slot) (n : ℕ) (d : Slot) → n < length slots → P (get_or slots n d) → ((j : ℕ) (slot : Slot) → j < n → slot ≡ get_or slots j slot → P slot) → (j : ℕ) (slot : Slot) → j < n + 1 → slot ≡ get_or slots j slot → P slot
each_more P slots n d h here before j slot u e = elim (cases_eq j n) [
  | inl f ↦ subst P (sym (e ∙ ap (λ (k : ℕ). get_or slots k slot) f ∙ get_or_default slots n slot d h)) here
  | inr f ↦ before j slot (omega (arith, f)) e
]

-- of the slot at a place
pub each_at : (P : Slot → Type 0) (slots : List Slot) (n : ℕ) (d : Slot) → n < length slots → ((j : ℕ) (slot : Slot) → j < length slots → slot ≡ get_or slots j slot → P slot) → P (get_or slots n d)
each_at P slots n d h all = all n (get_or slots n d) h (read_again slots n d h)

-- ---- the first row

-- the word of a set that has one
one_set_word : (words : List ℕ) (i : ℕ) (slot : Slot) → i < count_in words → ((k : ℕ) → get_or words k 0 < 2 ^ 64) → holds_set words i ≡ true → word_count slot.count ≡ 1 → word_in words i 0 ∷ [] ≡ value_words slot (value_in words i)
one_set_word words i slot inside small is one = ap (λ (w : ℕ). w ∷ []) (sym (set_word_is words i 0 inside small)) ∙ sym (ap (λ (n : ℕ). map (set_word (members_in words i)) (range_with_len 0 n)) one) ∙ set_value_words words i slot is

-- that of a value that is no resource
pub one_word : (words : List ℕ) (i : ℕ) (slot : Slot) → HoldsSlot slot words i → ((k : ℕ) → get_or words k 0 < 2 ^ 64) → (is_set slot.kind ≡ true → word_count slot.count ≡ 1) → (is_set slot.kind || is_without slot.preference) ≡ true → word_in words i 0 ∷ [] ≡ value_words slot (value_in words i)
one_word words i slot held small one h = elim (cases_Bool (is_set slot.kind)) [
  | inl is ↦ one_set_word words i slot held.inside small (held.kind ∙ is) (one is)
  | inr is ↦ number_value_words words i slot (held.kind ∙ is) (sym (ap (λ (t : Bool). t || is_without slot.preference) is) ∙ h) small
]

-- a resource has none
pub no_word : (words : List ℕ) (i : ℕ) (slot : Slot) → HoldsSlot slot words i → is_set slot.kind ≡ false → is_without slot.preference ≡ false → [] ≡ value_words slot (value_in words i)
no_word words i slot held is h = no_value_words words i slot (held.kind ∙ is) h

module _ (slots : List Slot) (words : List ℕ) (fits : Fits slots words) (flat : IsFlat slots) (i : ℕ) (h : i < length slots) (small : (k : ℕ) → get_or words k 0 < 2 ^ 64) where
  abbrev slot : Slot
  slot = get_or slots i no_slot

  held : HoldsSlot slot words i
  held = fits.holds i slot h (read_again slots i no_slot h)

  -- the first word is the only one
  flat_words : word_in words i 0 ∷ [] ≡ value_words (without_preference slot) (value_in words i)
  flat_words = elim (cases_Bool (is_set slot.kind)) [
    | inl is ↦ one_set_word words i (without_preference slot) held.inside small (held.kind ∙ is) (flat i slot h (read_again slots i no_slot h) is)
    | inr is ↦ number_value_words words i (without_preference slot) (held.kind ∙ is) refl small
  ]

  pub flat_key_next : (key mixed word all : ℕ) → mixed ≡ key_step key word → word ≡ word_in words i 0 → key_onto key (signature_in (map without_preference (drop i slots)) (drop i (state_in words).values)) ≡ all → key_onto mixed (signature_in (map without_preference (drop (i + 1) slots)) (drop (i + 1) (state_in words).values)) ≡ all
  flat_key_next key mixed word all e f g = whole_key_next slots words fits i no_slot h key mixed all (without_preference slot) refl (e ∙ ap (λ (w : ℕ). key_onto key (w ∷ [])) f ∙ ap (key_onto key) flat_words) g

  pub flat_hash_next : (hash hashed word all : ℕ) → hashed ≡ fold hash_byte hash (to_le_bytes w64 word) → word ≡ word_in words i 0 → hash_onto hash (signature_in (map without_preference (drop i slots)) (drop i (state_in words).values)) ≡ all → hash_onto hashed (signature_in (map without_preference (drop (i + 1) slots)) (drop (i + 1) (state_in words).values)) ≡ all
  flat_hash_next hash hashed word all e f g = whole_hash_step slots words fits i no_slot h hash hashed all (without_preference slot) refl (e ∙ hash_one hash word ∙ ap (λ (w : ℕ). hash_onto hash (w ∷ [])) f ∙ ap (hash_onto hash) flat_words) g

numbers_from : (x y : ℤ) → Number x ≡ Number y → x ≡ y
numbers_from x y e = cc

module _ (a b : List ℕ) (i : ℕ) (slot : Slot) (held_a : HoldsSlot slot a i) (held_b : HoldsSlot slot b i) where
  -- the same first word, the same value
  pub flat_same_value : (is_set slot.kind ≡ true → word_count slot.count ≡ 1) → word_in a i 0 ≡ word_in b i 0 → value_in a i ≡ value_in b i
  flat_same_value flat e = elim (cases_Bool (is_set slot.kind)) [
    | inl is ↦
        let one = flat is in
        value_set a i (held_a.kind ∙ is)
        ∙ ap Members (sets_same a b slot.count i 1 held_a.inside held_b.inside (λ m l. held_a.below m is l) (λ m l. held_b.below m is l) (omega (arith, one)) (λ j u. (let z : 0 ≡ j = omega arith in subst (λ (k : ℕ). word_in a i k ≡ word_in b i k) z e)))
        ∙ sym (value_set b i (held_b.kind ∙ is))
    | inr is ↦ value_number a i (held_a.kind ∙ is) ∙ ap (λ (w : ℕ). Number (cast_signed w64 w)) e ∙ sym (value_number b i (held_b.kind ∙ is))
  ]

  -- the same value, the same first word
  pub same_first_word : ((k : ℕ) → get_or a k 0 < 2 ^ 64) → ((k : ℕ) → get_or b k 0 < 2 ^ 64) → value_in a i ≡ value_in b i → word_in a i 0 ≡ word_in b i 0
  same_first_word small_a small_b e = elim (cases_Bool (is_set slot.kind)) [
    | inl is ↦ words_differ a b i 0 held_a.inside held_b.inside small_a small_b (members_from (members_in a i) (members_in b i) (sym (value_set a i (held_a.kind ∙ is)) ∙ e ∙ value_set b i (held_b.kind ∙ is)))
    | inr is ↦
        let numbers = numbers_from (cast_signed w64 (word_in a i 0)) (cast_signed w64 (word_in b i 0)) (sym (value_number a i (held_a.kind ∙ is)) ∙ e ∙ value_number b i (held_b.kind ∙ is)) in
        sym (unsigned_word a i 0 small_a) ∙ ap (λ (n : ℤ). cast_unsigned w64 n) numbers ∙ unsigned_word b i 0 small_b
  ]

  -- so the words are the test of values of which no other is preferred
  pub first_words_test : (r : Bool) (x y : ℕ) → ((k : ℕ) → get_or a k 0 < 2 ^ 64) → ((k : ℕ) → get_or b k 0 < 2 ^ 64) → (is_set slot.kind ≡ true → word_count slot.count ≡ 1) → x ≡ word_in a i 0 → y ≡ word_in b i 0 → r ≡ nat_eq x y → r ≡ is_same_value (value_in a i) (value_in b i)
  first_words_test r x y small_a small_b flat e f t =
      let d = Decides-eqb x y in
      decided r (is_same_value (value_in a i) (value_in b i)) (value_in a i ≡ value_in b i) (λ h. flat_same_value flat (sym e ∙ d.0 (sym t ∙ h) ∙ f), λ h. t ∙ d.1 (e ∙ same_first_word small_a small_b h ∙ sym f)) (same_value_decides (value_in a i) (value_in b i))

-- of sets, to be at most another is to be the same
pub same_at_most : (a b : List ℕ) (i : ℕ) → holds_set a i ≡ true → holds_set b i ≡ true → is_same_value (value_in a i) (value_in b i) ≡ is_at_most (value_in a i) (value_in b i)
same_at_most a b i left right =
    ap (λ (x : PlainValue). is_same_value x (value_in b i)) (value_set a i left)
    ∙ ap (λ (x : PlainValue). is_same_value (Members (members_in a i)) x) (value_set b i right)
    ∙ sym (ap (λ (x : PlainValue). is_at_most x (value_in b i)) (value_set a i left) ∙ ap (λ (x : PlainValue). is_at_most (Members (members_in a i)) x) (value_set b i right))

module _ (slots : List Slot) (a b : List ℕ) (left : Fits slots a) (right : Fits slots b) (i : ℕ) (h : i < length slots) where
  abbrev at_place : Slot
  at_place = get_or slots i no_slot

  pub flat_same_there : IsFlat slots → word_in a i 0 ≡ word_in b i 0 → value_in a i ≡ value_in b i
  flat_same_there flat e = flat_same_value a b i at_place (left.holds i at_place h (read_again slots i no_slot h)) (right.holds i at_place h (read_again slots i no_slot h)) (flat i at_place h (read_again slots i no_slot h)) e

  pub first_word_there : ((k : ℕ) → get_or a k 0 < 2 ^ 64) → ((k : ℕ) → get_or b k 0 < 2 ^ 64) → value_in a i ≡ value_in b i → word_in a i 0 ≡ word_in b i 0
  first_word_there small_a small_b e = same_first_word a b i at_place (left.holds i at_place h (read_again slots i no_slot h)) (right.holds i at_place h (read_again slots i no_slot h)) small_a small_b e

-- ---- without resources

without_is : (p : Preference) → is_without p ≡ true → p ≡ Without
without_is Without h = refl
without_is Less h = absurd (cc)
without_is Greater h = absurd (cc)

slots_left : (slot : Slot) (slots : List Slot) → HasNoResource (slot ∷ slots) → HasNoResource slots
slots_left slot slots h i s u e = h (suc i) s (omega arith) e

all_value_words : (slot : Slot) (x : PlainValue) → is_without slot.preference ≡ true → value_words (without_preference slot) x ≡ value_words slot x
all_value_words slot (Number n) h = rw h refl
all_value_words slot (Members set) h = refl

-- the signature has the words of all values
pub all_words : (slots : List Slot) (xs : List PlainValue) → HasNoResource slots → signature_in (map without_preference slots) xs ≡ signature_in slots xs
all_words [] xs h = refl
all_words (slot ∷ slots) [] h = refl
all_words (slot ∷ slots) (x ∷ xs) h =
    ap (λ (words : List ℕ). words ++ signature_in (map without_preference slots) xs) (all_value_words slot x (h zero slot (omega arith) refl))
    ∙ ap (λ (rest : List ℕ). value_words slot x ++ rest) (all_words slots xs (slots_left slot slots h))

no_value_merit : (p : Preference) (x : PlainValue) → is_without p ≡ true → value_merit p x ≡ None
no_value_merit Without (Number n) h = refl
no_value_merit Without (Members set) h = refl
no_value_merit Less x h = absurd (cc)
no_value_merit Greater x h = absurd (cc)

-- no state is better than another
pub no_merit_in : (slots : List Slot) (xs : List PlainValue) → HasNoResource slots → pos 0 ≡ merit_in slots xs
no_merit_in [] xs h = refl
no_merit_in (slot ∷ slots) [] h = refl
no_merit_in (slot ∷ slots) (x ∷ xs) h = no_merit_in slots xs (slots_left slot slots h) ∙ sym (ap (λ (m : Option ℤ). unwrap_or m (merit_in slots xs)) (no_value_merit slot.preference x (h zero slot (omega arith) refl)))

same_at_least : (slots : List Slot) (xs ys : List PlainValue) → HasNoResource slots → are_at_least slots xs ys ≡ are_same_values xs ys
same_at_least [] xs ys h = refl
same_at_least (slot ∷ slots) [] [] h = refl
same_at_least (slot ∷ slots) [] (y ∷ ys) h = refl
same_at_least (slot ∷ slots) (x ∷ xs) [] h = refl
same_at_least (slot ∷ slots) (x ∷ xs) (y ∷ ys) h =
    ap (λ (p : Preference). is_at_least p x y && are_at_least slots xs ys) (without_is slot.preference (h zero slot (omega arith) refl))
    ∙ ap (λ (t : Bool). is_same_value x y && t) (same_at_least slots xs ys (slots_left slot slots h))

same_state_decides : (s other : PlainState) → Decides (are_same_values s.values other.values) (s ≡ other)
same_state_decides s other =
    let d = same_values_decide s.values other.values in
    let state : List PlainValue → PlainState = λ xs. record { values = xs } in
    (λ t. ap state (d.0 t), λ e. d.1 (ap (λ (x : PlainState). x.values) e))

-- a state dominates itself alone
pub dominates_same : (slots : List Slot) (s other : PlainState) (r : Bool) → HasNoResource slots → (IsTrue r ↔ (s ≡ other)) → r ≡ dominates_by slots s other
dominates_same slots s other r h same = decided r (are_same_values s.values other.values) (s ≡ other) same (same_state_decides s other) ∙ sym (same_at_least slots s.values other.values h)
