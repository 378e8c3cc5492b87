-- The words of a state with nothing in it.
use Rattle.std.proofs.Common.{◌≡◌, ℕ, ◌+◌, ◌-◌, ◌*◌, ◌/◌, ◌%◌, ◌^◌, ◌<◌, ◌≤◌, Bool, true, false, ◌&&◌, eqb, cond, List, length, get_or, set, max, refl, sym, ap, subst, ◌∙◌, inl, inr, arith}
use Rattle.std.specs.Prelude.{nat_lt, bit_or}
use Rattle.std.specs.Int.{bit_at}
use Rattle.std.proofs.lemmas.Bool.{cases_lt, cases_eq, cases_Bool, eq-eqb, ne_eqb, lt-ltb, le-ltb}
use Rattle.std.proofs.lemmas.List.{get_or-set_same, get_or-set_other}
use Rattle.std.proofs.lemmas.Nat.{or_mod, pow-add, one_shl, mul-le}
use Rattle.std.proofs.lemmas.Nat.Bits.{bit_at-zero, bit_at_above, bit_at_or, same_from_bits}
use Rattle.bit_sets.specs.Sets.{has_bit}
use Rattle.bit_sets.proofs.Meanings.{insert_bit}
use Rattle.state_layout.specs.declared.layout.Slot.{Slot}
use Rattle.state_layout.specs.Signatures.{word_count}
use Rattle.state_layout.specs.Packing.{count_in, holds_set, rank_in, sets_in, head_of, further_place, word_place, has_member, is_set}
use Rattle.state_layout.specs.Forms.{HasRoom, no_slot, sets_before, AreRanked, Marked, HasRows}
use Rattle.state_layout.proofs.Ranking.{rank_less, same_rank, low_place, word_of_set}
use Rattle.state_layout.proofs.Stepping.{get_or_default}

and_false : (b : Bool) → (b && false) ≡ false
and_false true = refl
and_false false = refl

mod_few : (n : ℕ) → n < 65536 → n % 65536 ≡ n
mod_few n h = omega arith

or_none : (n : ℕ) → bit_or n 0 ≡ n
or_none n = same_from_bits (bit_or n 0) n (λ i. bit_at_or n 0 i ∙ omega (arith, bit_at-zero i))

row_more : (n m : ℕ) → (n + 1) * m ≡ n * m + m
row_more n m = grind arith

same_below : (k n m : ℕ) → m ≡ n + 1 → (k ≡ n → ⊥) → nat_lt k n ≡ nat_lt k m
same_below k n m e f = elim (cases_lt k n) [
  | inl h ↦ rw (lt-ltb k n h, lt-ltb k m (omega arith)) refl
  | inr h ↦ rw (le-ltb k n h, le-ltb k m (omega (arith, f))) refl
]

-- ---- rows

pub rows_none : (slots : List Slot) → HasRows slots 0 1
rows_none slots = record { one = omega arith; few = omega arith; enough = λ p slot h e is. absurd (omega arith) }

few_words : (count : ℕ) → count < 2 ^ 32 → word_count count ≤ 67108864
few_words count h = omega arith

more_rows : (b : Bool) (rows more : ℕ) → rows ≤ cond b (max rows more) rows
more_rows true rows more = omega arith
more_rows false rows more = omega arith

at_most_rows : (b : Bool) (rows more most : ℕ) → rows ≤ most → more ≤ most → cond b (max rows more) rows ≤ most
at_most_rows true rows more most h k = omega arith
at_most_rows false rows more most h k = h

pub rows_more : (slots : List Slot) (i rows new : ℕ) (d : Slot) → HasRows slots i rows → i < length slots → new ≤ 67108864 → new ≡ cond (is_set (get_or slots i d).kind) (max rows (word_count (get_or slots i d).count)) rows → HasRows slots (i + 1) new
rows_more slots i rows new d so h small e =
    let up : rows ≤ new = rw e (more_rows (is_set (get_or slots i d).kind) rows (word_count (get_or slots i d).count)) in
    record {
      one = omega (arith, so.one, up);
      few = small;
      enough = λ p slot u f is. (elim (cases_eq p i) [
        | inl g ↦ (
            let here : slot ≡ get_or slots i d = subst (λ (k : ℕ). slot ≡ get_or slots k slot) g f ∙ get_or_default slots i slot d h in
            let kind : is_set (get_or slots i d).kind ≡ true = ap (λ (s : Slot). is_set s.kind) (sym here) ∙ is in
            let larger : new ≡ max rows (word_count (get_or slots i d).count) = e ∙ rw kind refl in
            let same : word_count slot.count ≡ word_count (get_or slots i d).count = ap (λ (s : Slot). word_count s.count) here in
            omega (arith, larger, same))
        | inr g ↦ omega (arith, so.enough p slot (omega (arith, g)) f is, up)
      ]);
    }

-- ---- marks

pub mark_none : (slots : List Slot) (words : List ℕ) → length slots < 65536 → ((k : ℕ) → get_or words k 0 ≡ 0) → 0 < length words → Marked slots 0 (set words 0 (length slots))
unfolding count_in
mark_none slots words few none room = record {
  number = ap (λ (w : ℕ). w % 65536) (get_or-set_same words 0 (length slots) 0 room) ∙ mod_few (length slots) few;
  bits = λ k h. (elim (cases_eq (k / 64) 0) [
    | inl e ↦ rw (e, get_or-set_same words 0 (length slots) 0 room, bit_at_above (length slots) 16 (k % 64) few (omega arith), le-ltb k (16 + 0) (omega arith)) refl
    | inr e ↦ rw (get_or-set_other words 0 (k / 64) (length slots) 0 e, none (k / 64), bit_at-zero (k % 64), le-ltb k (16 + 0) (omega arith)) refl
  ]);
}

low_same : (w b : ℕ) → 16 ≤ b → b < 64 → bit_or w (1 * 2 ^ b % 2 ^ 64) % 65536 ≡ w % 65536
low_same w b h k =
    let shl : 1 * 2 ^ b % 2 ^ 64 ≡ 2 ^ b = one_shl b 64 k in
    let e : (b - 16) + 16 ≡ b = omega arith in
    let split : 2 ^ b ≡ 2 ^ (b - 16) * 2 ^ 16 = ap (λ (n : ℕ). 2 ^ n) (sym e) ∙ pow-add 2 (b - 16) 16 in
    let none : 2 ^ b % 65536 ≡ 0 = omega (arith, split) in
    ap (λ (x : ℕ). bit_or w x % 65536) shl ∙ or_mod w (2 ^ b) 16 ∙ ap (λ (x : ℕ). bit_or (w % 65536) x) none ∙ or_none (w % 65536)

pub mark_more : (slots : List Slot) (i : ℕ) (d : Slot) (words new : List ℕ) → Marked slots i words → i < length slots → 16 + i < 64 * length words → new ≡ cond (is_set (get_or slots i d).kind) (set words ((16 + i) / 64) (bit_or (get_or words ((16 + i) / 64) 0) (1 * 2 ^ ((16 + i) % 64) % 2 ^ 64))) words → Marked slots (i + 1) new
unfolding count_in
mark_more slots i d words new so h room e = elim (cases_Bool (is_set (get_or slots i d).kind)) [
  | inl is ↦ (
      let x : ℕ = bit_or (get_or words ((16 + i) / 64) 0) (1 * 2 ^ ((16 + i) % 64) % 2 ^ 64) in
      let put : new ≡ set words ((16 + i) / 64) x = e ∙ rw is refl in
      let here : is_set (get_or slots i no_slot).kind ≡ true = ap (λ (s : Slot). is_set s.kind) (get_or_default slots i no_slot d h) ∙ is in
      record {
        number = (elim (cases_eq ((16 + i) / 64) 0) [
          | inl z ↦ rw (put, z) (ap (λ (w : ℕ). w % 65536) (get_or-set_same words 0 (bit_or (get_or words 0 0) (1 * 2 ^ ((16 + i) % 64) % 2 ^ 64)) 0 (omega arith)) ∙ low_same (get_or words 0 0) ((16 + i) % 64) (omega arith) (omega arith)) ∙ so.number
          | inr z ↦ rw put (ap (λ (w : ℕ). w % 65536) (get_or-set_other words ((16 + i) / 64) 0 x 0 (λ f. z (sym f)))) ∙ so.number
        ]);
        bits = λ k l. (ap (λ (ws : List ℕ). has_bit ws k) put ∙ insert_bit words (16 + i) x k room refl ∙ (elim (cases_eq k (16 + i)) [
          | inl f ↦ (let g : (16 + i) - 16 ≡ i = omega arith in rw (f, eq-eqb (16 + i) (16 + i) refl, lt-ltb (16 + i) (16 + (i + 1)) (omega arith), g, here) refl)
          | inr f ↦ rw (ne_eqb k (16 + i) f, so.bits k l) (ap (λ (b : Bool). b && is_set (get_or slots (k - 16) no_slot).kind) (same_below k (16 + i) (16 + (i + 1)) (omega arith) f))
        ]));
      })
  | inr not_set ↦ (
      let kept : new ≡ words = e ∙ rw not_set refl in
      let here : is_set (get_or slots i no_slot).kind ≡ false = ap (λ (s : Slot). is_set s.kind) (get_or_default slots i no_slot d h) ∙ not_set in
      record {
        number = ap (λ (ws : List ℕ). get_or ws 0 0 % 65536) kept ∙ so.number;
        bits = λ k l. (ap (λ (ws : List ℕ). has_bit ws k) kept ∙ so.bits k l ∙ (elim (cases_eq k (16 + i)) [
          | inl f ↦ (let g : k - 16 ≡ i = omega (arith, f) in rw (g, here) (and_false (nat_lt k (16 + i)) ∙ sym (and_false (nat_lt k (16 + (i + 1))))))
          | inr f ↦ ap (λ (b : Bool). b && is_set (get_or slots (k - 16) no_slot).kind) (same_below k (16 + i) (16 + (i + 1)) (omega arith) f)
        ]));
      })
]

-- ---- the words of a state with nothing in it

-- the words of a set of few enough members are before the end
further_room : (count sets rank number rows : ℕ) → rank < sets → 1 ≤ number → number < rows → further_place count sets rank number < head_of count + count + (rows - 1) * sets
further_room count sets rank number rows h some k =
    let row : ((number - 1) + 1) * sets ≤ (rows - 1) * sets = mul-le ((number - 1) + 1) sets (rows - 1) sets (omega arith) (omega arith) in
    omega (arith, row, row_more (number - 1) sets)

pub blank_room : (slots : List Slot) (words : List ℕ) (rows : ℕ) → length slots < 65536 → AreRanked slots → HasRows slots (length slots) rows → Marked slots (length slots) words → head_of (length slots) + length slots + (rows - 1) * sets_before slots (length slots) ≤ length words → HasRoom slots words
unfolding holds_set has_member
blank_room slots words rows few ranked r so long =
    let above : (k : ℕ) → 16 + length slots ≤ k → has_bit words k ≡ false = λ k h. so.bits k (omega arith) ∙ rw (le-ltb k (16 + length slots) h) refl in
    let kinds : (place : ℕ) → place < length slots → holds_set words place ≡ is_set (get_or slots place no_slot).kind = λ place h. so.bits (16 + place) (omega arith) ∙ rw (lt-ltb (16 + place) (16 + length slots) (omega arith)) (let g : (16 + place) - 16 ≡ place = omega arith in ap (λ (k : ℕ). is_set (get_or slots k no_slot).kind) g) in
    let kind : (place : ℕ) (slot : Slot) → place < length slots → slot ≡ get_or slots place slot → holds_set words place ≡ is_set slot.kind = λ place slot h e. kinds place h ∙ ap (λ (s : Slot). is_set s.kind) (get_or_default slots place no_slot slot h ∙ sym e) in
    let ranks : (n : ℕ) → n ≤ length slots → rank_in words n ≡ sets_before slots n = same_rank slots words no_slot kinds in
    let row : head_of (length slots) + length slots ≤ length words = omega (arith, long) in
    let all : sets_in words ≡ sets_before slots (length slots) = ap (λ (n : ℕ). rank_in words n) so.number ∙ ranks (length slots) (omega arith) in
    record {
      fits = record {
        count = so.number;
        few = few;
        row = row;
        holds = λ place slot h e. record {
          inside = omega (arith, so.number);
          row = omega (arith, so.number, row);
          kind = kind place slot h e;
          rank = ranked.rank place slot h e ∙ sym (ranks place (omega arith));
          sets = ranked.sets place slot h e ∙ sym all;
          below = λ m is l. (
              let at : ℕ = word_place words place (m / 64) in
              let low : head_of (count_in words) ≤ at = low_place words place (m / 64) in
              let f : (64 * at + m % 64) / 64 ≡ at = omega arith in
              let g : (64 * at + m % 64) % 64 ≡ m % 64 = omega arith in
              let bit : has_bit words (64 * at + m % 64) ≡ false = above (64 * at + m % 64) (omega (arith, so.number, low)) in
              ap (λ (w : ℕ). eqb (bit_at w (m % 64)) 1) (word_of_set words place (m / 64) (kind place slot h e ∙ is)) ∙ sym (rw (f, g) refl) ∙ bit);
        };
      };
      room = λ place number slot h e is some l. (
          let less : slot.rank < slot.sets = omega (arith, ranked.rank place slot h e, ranked.sets place slot h e, ranks place (omega arith), ranks (length slots) (omega arith), rank_less words place (length slots) h (kind place slot h e ∙ is)) in
          let within : further_place (length slots) slot.sets slot.rank number < head_of (length slots) + length slots + (rows - 1) * slot.sets = further_room (length slots) slot.sets slot.rank number rows less some (omega (arith, r.enough place slot h e is)) in
          let same : (rows - 1) * slot.sets ≡ (rows - 1) * sets_before slots (length slots) = ap (λ (n : ℕ). (rows - 1) * n) (ranked.sets place slot h e) in
          omega (arith, within, same, long));
    }
