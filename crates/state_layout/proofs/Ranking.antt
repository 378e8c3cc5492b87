-- How many sets come before a variable, and where the words of variables stand.
use Rattle.std.proofs.Common.{◌≡◌, ℕ, zero, suc, ◌+◌, ◌-◌, ◌*◌, ◌<◌, ◌≤◌, Bool, true, false, ◌||◌, eqb, cond, List, [], ◌∷◌, length, length-append, get_or, take, refl, sym, ap, subst, ◌∙◌, inl, inr, arith}
use Rattle.std.specs.List.{filter, range_with_len}
use Rattle.std.proofs.lemmas.Bool.{cases_lt, cases_eq, cases_Bool, ne_eqb}
use Rattle.std.proofs.lemmas.List.Filters.{length-filter_more}
use Rattle.std.proofs.lemmas.Nat.{same_from_place, mul-le}
use Rattle.bit_sets.proofs.Ranges.{filter_same, filter_range_split}
use Rattle.dp_model.specs.declared.parts.ObjectType.{ObjectType}
use Rattle.dp_model.specs.declared.parts.Variable.{Variable}
use Rattle.state_layout.specs.declared.layout.Slot.{Slot}
use Rattle.state_layout.specs.Slots.{slot_of, rank_after, sets_among, slots_from, slots_of}
use Rattle.state_layout.specs.Packing.{count_in, holds_set, rank_in, sets_in, head_of, first_place, further_place, word_place, word_in, is_set}
use Rattle.state_layout.specs.Forms.{sets_before, AreRanked}

or_true : (b : Bool) → (b || true) ≡ true
or_true true = refl
or_true false = refl

-- ---- ranks in words

one : (b : Bool) (a : ℕ) → length (cond b (a ∷ []) []) ≡ cond b 1 0
one true a = refl
one false a = refl

pub rank_more : (words : List ℕ) (n : ℕ) → rank_in words (n + 1) ≡ rank_in words n + cond (holds_set words n) 1 0
unfolding rank_in
rank_more words n =
    let z : 0 + n ≡ n = omega arith in
    ap (λ (xs : List ℕ). length xs) (filter_range_split (holds_set words) 0 n 1)
    ∙ length-append (filter (holds_set words) (range_with_len 0 n)) (filter (holds_set words) (range_with_len (0 + n) 1))
    ∙ ap (λ (k : ℕ). length (filter (holds_set words) (range_with_len 0 n)) + k) (one (holds_set words (0 + n)) (0 + n) ∙ ap (λ (k : ℕ). cond (holds_set words k) 1 0) z)

rank_up : (words : List ℕ) (n d : ℕ) → rank_in words n ≤ rank_in words (n + d)
unfolding rank_in
rank_up words n d =
    let e : length (filter (holds_set words) (range_with_len 0 (n + d))) ≡ length (filter (holds_set words) (range_with_len 0 n)) + length (filter (holds_set words) (range_with_len (0 + n) d)) = ap (λ (xs : List ℕ). length xs) (filter_range_split (holds_set words) 0 n d) ∙ length-append (filter (holds_set words) (range_with_len 0 n)) (filter (holds_set words) (range_with_len (0 + n) d)) in
    omega (arith, e)

pub rank_less : (words : List ℕ) (p q : ℕ) → p < q → holds_set words p ≡ true → rank_in words p < rank_in words q
rank_less words p q h is =
    let e : (p + 1) + (q - (p + 1)) ≡ q = omega arith in
    let more : rank_in words (p + 1) ≡ rank_in words p + 1 = rank_more words p ∙ rw is refl in
    subst (λ (k : ℕ). rank_in words p < rank_in words k) e (omega (arith, more, rank_up words (p + 1) (q - (p + 1))))

rank_apart : (words : List ℕ) (p q : ℕ) → holds_set words p ≡ true → holds_set words q ≡ true → rank_in words p ≡ rank_in words q → p ≡ q
rank_apart words p q left right e = elim (cases_lt p q) [
  | inl h ↦ absurd (omega (arith, rank_less words p q h left, e))
  | inr h ↦ elim (cases_lt q p) [
    | inl k ↦ absurd (omega (arith, rank_less words q p k right, e))
    | inr k ↦ omega arith
  ]
]

pub rank_kept : (old new : List ℕ) (n : ℕ) → ((p : ℕ) → p < n → holds_set new p ≡ holds_set old p) → rank_in new n ≡ rank_in old n
unfolding rank_in
rank_kept old new n same = ap (λ (xs : List ℕ). length xs) (filter_same (holds_set new) (holds_set old) 0 n (λ k l u. same k (omega arith)))

-- ---- ranks in slots

pub same_rank : (slots : List Slot) (words : List ℕ) (d : Slot) → ((place : ℕ) → place < length slots → holds_set words place ≡ is_set (get_or slots place d).kind) → (n : ℕ) → n ≤ length slots → rank_in words n ≡ sets_before slots n
unfolding rank_in
same_rank slots words d same zero h = refl
same_rank slots words d same (suc n) h =
    let e : n + 1 ≡ suc n = omega arith in
    let more : rank_in words (n + 1) ≡ sets_before slots (n + 1) = rank_more words n ∙ ap (λ (k : ℕ). k + cond (holds_set words n) 1 0) (same_rank slots words d same n (omega arith)) ∙ ap (λ (b : Bool). sets_before slots n + cond b 1 0) (same n (omega arith)) ∙ sym (length-filter_more (λ (slot : Slot). is_set slot.kind) slots n d (omega arith)) in
    subst (λ (k : ℕ). rank_in words k ≡ sets_before slots k) e more

pub slots_length : (objects : List ObjectType) (sets rank : ℕ) (vs : List Variable) → length (slots_from objects sets rank vs) ≡ length vs
slots_length objects sets rank [] = refl
slots_length objects sets rank (v ∷ vs) = ap suc (slots_length objects sets (rank_after rank v.kind) vs)

one_rank : (b : Bool) (rank : ℕ) (s : Slot) (t : List Slot) → cond b (rank + 1) rank + length t ≡ rank + length (cond b (s ∷ t) t)
one_rank true rank s t = omega arith
one_rank false rank s t = refl

ranks_from : (objects : List ObjectType) (sets rank : ℕ) (vs : List Variable) (place : ℕ) (slot : Slot) → place < length vs → slot ≡ get_or (slots_from objects sets rank vs) place slot → slot.rank ≡ rank + sets_before (slots_from objects sets rank vs) place
ranks_from objects sets rank [] place slot h e = absurd (omega arith)
ranks_from objects sets rank (v ∷ vs) zero slot h e = ap (λ (s : Slot). s.rank) e ∙ omega arith
ranks_from objects sets rank (v ∷ vs) (suc place) slot h e = ranks_from objects sets (rank_after rank v.kind) vs place slot (omega arith) e ∙ one_rank (is_set v.kind) rank (slot_of objects sets rank v) (filter (λ (s : Slot). is_set s.kind) (take place (slots_from objects sets (rank_after rank v.kind) vs)))

sets_from : (objects : List ObjectType) (sets rank : ℕ) (vs : List Variable) (place : ℕ) (slot : Slot) → place < length vs → slot ≡ get_or (slots_from objects sets rank vs) place slot → slot.sets ≡ sets
sets_from objects sets rank [] place slot h e = absurd (omega arith)
sets_from objects sets rank (v ∷ vs) zero slot h e = ap (λ (s : Slot). s.sets) e
sets_from objects sets rank (v ∷ vs) (suc place) slot h e = sets_from objects sets (rank_after rank v.kind) vs place slot (omega arith) e

one_of_both : (b : Bool) (s : Slot) (t : List Slot) (v : Variable) (u : List Variable) → length t ≡ length u → length (cond b (s ∷ t) t) ≡ length (cond b (v ∷ u) u)
one_of_both true s t v u e = ap suc e
one_of_both false s t v u e = e

all_sets : (objects : List ObjectType) (sets rank : ℕ) (vs : List Variable) → sets_before (slots_from objects sets rank vs) (length (slots_from objects sets rank vs)) ≡ sets_among vs
all_sets objects sets rank [] = refl
all_sets objects sets rank (v ∷ vs) =
    let rest : List Slot = slots_from objects sets (rank_after rank v.kind) vs in
    one_of_both (is_set v.kind) (slot_of objects sets rank v) (filter (λ (s : Slot). is_set s.kind) (take (length rest) rest)) v (filter (λ (w : Variable). is_set w.kind) vs) (all_sets objects sets (rank_after rank v.kind) vs)

pub ranked_slots : (objects : List ObjectType) (variables : List Variable) (slots : List Slot) → slots ≡ slots_of objects variables → AreRanked slots
ranked_slots objects variables slots e =
    let ranked : AreRanked (slots_of objects variables) = record {
      rank = λ place slot h f. ranks_from objects (sets_among variables) 0 variables place slot (omega (arith, slots_length objects (sets_among variables) 0 variables)) f ∙ omega arith;
      sets = λ place slot h f. sets_from objects (sets_among variables) 0 variables place slot (omega (arith, slots_length objects (sets_among variables) 0 variables)) f ∙ sym (all_sets objects (sets_among variables) 0 variables);
    } in
    subst (λ (xs : List Slot). AreRanked xs) (sym e) ranked

-- ---- places

pub first_there : (words : List ℕ) (count place : ℕ) → count ≡ count_in words → first_place count place ≡ word_place words place 0
unfolding word_place
first_there words count place e = ap (λ (c : ℕ). first_place c place) e

pub further_is : (words : List ℕ) (place number : ℕ) → 1 ≤ number → word_place words place number ≡ further_place (count_in words) (sets_in words) (rank_in words place) number
unfolding word_place
further_is words place number h = rw (ne_eqb number 0 (λ e. omega arith)) refl

pub further_there : (words : List ℕ) (slot : Slot) (count place number : ℕ) → count ≡ count_in words → slot.rank ≡ rank_in words place → slot.sets ≡ sets_in words → 1 ≤ number → further_place count slot.sets slot.rank number ≡ word_place words place number
further_there words slot count place number e rank sets h =
    ap (λ (c : ℕ). further_place c slot.sets slot.rank number) e
    ∙ ap (λ (c : ℕ). further_place (count_in words) c slot.rank number) sets
    ∙ ap (λ (c : ℕ). further_place (count_in words) (sets_in words) c number) rank
    ∙ sym (further_is words place number h)

pub low_place : (words : List ℕ) (place number : ℕ) → head_of (count_in words) ≤ word_place words place number
low_place words place number = elim (cases_eq number 0) [
  | inl e ↦ rw e (omega (arith, first_there words (count_in words) place refl))
  | inr e ↦ omega (arith, further_is words place number (omega (arith, e)))
]

-- the word with a number of a set does not stand before the number
pub far_place : (words : List ℕ) (place number : ℕ) → place < count_in words → holds_set words place ≡ true → number ≤ word_place words place number
far_place words place number h is = elim (cases_eq number 0) [
  | inl e ↦ rw e (omega arith)
  | inr e ↦ (
      let some : rank_in words place < sets_in words = rank_less words place (count_in words) h is in
      let l : (number - 1) * 1 ≤ (number - 1) * sets_in words = mul-le (number - 1) 1 (number - 1) (sets_in words) (omega arith) (omega (arith, some)) in
      omega (arith, e, l, further_is words place number (omega (arith, e))))
]

-- one word of one variable stands at one place
pub apart_places : (words : List ℕ) (p j place number : ℕ) → p < count_in words → place < count_in words → (1 ≤ j → holds_set words p ≡ true) → (1 ≤ number → holds_set words place ≡ true) → word_place words p j ≡ word_place words place number → (p ≡ place) × (j ≡ number)
apart_places words p j place number h inside left right e = elim (cases_eq j 0) [
  | inl f ↦ elim (cases_eq number 0) [
    | inl g ↦ (
        let low : first_place (count_in words) p ≡ word_place words p j = first_there words (count_in words) p refl ∙ ap (λ (k : ℕ). word_place words p k) (sym f) in
        let other : first_place (count_in words) place ≡ word_place words place number = first_there words (count_in words) place refl ∙ ap (λ (k : ℕ). word_place words place k) (sym g) in
        (omega (arith, low, other, e), omega (arith, f, g)))
    | inr g ↦ (
        let low : first_place (count_in words) p ≡ word_place words p j = first_there words (count_in words) p refl ∙ ap (λ (k : ℕ). word_place words p k) (sym f) in
        absurd (omega (arith, low, further_is words place number (omega (arith, g)), e)))
  ]
  | inr f ↦ elim (cases_eq number 0) [
    | inl g ↦ (
        let other : first_place (count_in words) place ≡ word_place words place number = first_there words (count_in words) place refl ∙ ap (λ (k : ℕ). word_place words place k) (sym g) in
        absurd (omega (arith, other, further_is words p j (omega (arith, f)), e)))
    | inr g ↦ (
        let is_left : holds_set words p ≡ true = left (omega (arith, f)) in
        let is_right : holds_set words place ≡ true = right (omega (arith, g)) in
        let same = same_from_place (j - 1) (rank_in words p) (number - 1) (rank_in words place) (sets_in words) (rank_less words p (count_in words) h is_left) (rank_less words place (count_in words) inside is_right) (omega (arith, further_is words p j (omega (arith, f)), further_is words place number (omega (arith, g)), e)) in
        (rank_apart words p place is_left is_right same.1, omega (arith, same.0, f, g)))
  ]
]

pub place_kept : (old new : List ℕ) (place number : ℕ) → count_in new ≡ count_in old → ((p : ℕ) → p < count_in old → holds_set new p ≡ holds_set old p) → place < count_in old → word_place new place number ≡ word_place old place number
place_kept old new place number count kind h = elim (cases_eq number 0) [
  | inl e ↦ rw e (sym (first_there new (count_in new) place refl) ∙ ap (λ (c : ℕ). first_place c place) count ∙ first_there old (count_in old) place refl)
  | inr e ↦ (
      let rank : rank_in new place ≡ rank_in old place = rank_kept old new place (λ p u. kind p (omega arith)) in
      let sets : sets_in new ≡ sets_in old = ap (λ (c : ℕ). rank_in new c) count ∙ rank_kept old new (count_in old) kind in
      further_is new place number (omega (arith, e))
      ∙ ap (λ (c : ℕ). further_place c (sets_in new) (rank_in new place) number) count
      ∙ ap (λ (c : ℕ). further_place (count_in old) c (rank_in new place) number) sets
      ∙ ap (λ (c : ℕ). further_place (count_in old) (sets_in old) c number) rank
      ∙ sym (further_is old place number (omega (arith, e))))
]

-- ---- words

pub word_first : (words : List ℕ) (place : ℕ) → word_in words place 0 ≡ get_or words (word_place words place 0) 0
unfolding word_in
word_first words place = refl

pub word_of_set : (words : List ℕ) (place number : ℕ) → holds_set words place ≡ true → word_in words place number ≡ get_or words (word_place words place number) 0
unfolding word_in
word_of_set words place number is = rw (is, or_true (eqb number 0)) refl

pub word_of_none : (words : List ℕ) (place number : ℕ) → holds_set words place ≡ false → 1 ≤ number → word_in words place number ≡ 0
unfolding word_in
word_of_none words place number is h = rw (is, ne_eqb number 0 (λ e. omega arith)) refl

-- a word of the variable is one of the words, or there is none
pub word_cases : (words new : List ℕ) (place number : ℕ) → holds_set new place ≡ holds_set words place → (((1 ≤ number → holds_set words place ≡ true) → get_or new (word_place new place number) 0 ≡ get_or words (word_place words place number) 0)) → word_in new place number ≡ word_in words place number
word_cases words new place number kind same = elim (cases_eq number 0) [
  | inl e ↦ rw e (word_first new place ∙ ap (λ (k : ℕ). get_or new (word_place new place k) 0) (sym e) ∙ same (λ h. absurd (omega (arith, e))) ∙ ap (λ (k : ℕ). get_or words (word_place words place k) 0) e ∙ sym (word_first words place))
  | inr e ↦ elim (cases_Bool (holds_set words place)) [
    | inl is ↦ word_of_set new place number (kind ∙ is) ∙ same (λ h. is) ∙ sym (word_of_set words place number is)
    | inr is ↦ word_of_none new place number (kind ∙ is) (omega (arith, e)) ∙ sym (word_of_none words place number is (omega (arith, e)))
  ]
]
