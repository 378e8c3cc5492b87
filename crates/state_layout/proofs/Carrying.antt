-- Words that are carried over to others with a place for each word.
use Rattle.std.proofs.Common.{◌≡◌, ℕ, ◌+◌, ◌*◌, ◌/◌, ◌%◌, ◌<◌, ◌≤◌, true, false, eqb, List, [], ◌∷◌, length, get_or, set, refl, sym, ap, ◌∙◌, inl, inr, arith}
use Rattle.std.specs.Int.{bit_at, cast_signed, w64}
use Rattle.std.proofs.lemmas.Bool.{cases_lt, cases_eq, cases_Bool}
use Rattle.std.proofs.lemmas.List.{get_or_past, get_or-set_same, get_or-set_other}
use Rattle.std.proofs.lemmas.Nat.Bits.{bit_at-zero}
use Rattle.dp_model.specs.declared.parts.PlainValue.TheVariants.{Number, Members}
use Rattle.state_layout.specs.declared.layout.Slot.{Slot}
use Rattle.state_layout.specs.Signatures.{word_count}
use Rattle.state_layout.specs.Packing.{count_in, holds_set, rank_in, sets_in, head_of, first_place, further_place, word_place, word_in, has_member, value_in, state_in, is_set}
use Rattle.state_layout.specs.Forms.{HoldsSlot, Fits, HasRoom, no_slot}
use Rattle.state_layout.proofs.Ranking.{first_there, further_there, place_kept, rank_kept, word_first, word_of_set}
use Rattle.state_layout.proofs.Decoding.{value_number, value_set, where_same, no_member}
use Rattle.state_layout.proofs.Stepping.{states_same, get_or_default}

pub carried_more : (new old_new words : List ℕ) (i x : ℕ) → x ≡ get_or words i 0 → ((j : ℕ) → j < i → get_or old_new j 0 ≡ get_or words j 0) → i < length old_new → (j : ℕ) → j < i + 1 → get_or (set old_new i x) j 0 ≡ get_or words j 0
carried_more new old_new words i x e so h j u = elim (cases_eq j i) [
  | inl f ↦ rw f (get_or-set_same old_new i x 0 h ∙ e)
  | inr f ↦ get_or-set_other old_new i j x 0 f ∙ so j (omega (arith, f))
]

module _ (slots : List Slot) (blank new words : List ℕ) (room : HasRoom slots blank) (fits : Fits slots words) (long : length new ≡ length blank) (same : (j : ℕ) → j < length new → get_or new j 0 ≡ get_or words j 0) where
  there : head_of (length slots) + length slots ≤ length new
  there = omega (arith, room.fits.row, long)

  carried_count : count_in new ≡ length slots
  unfolding count_in
  carried_count = ap (λ (x : ℕ). x % 65536) (same 0 (omega (arith, there))) ∙ fits.count

  counts : count_in new ≡ count_in words
  counts = carried_count ∙ sym fits.count

  carried_kind : (p : ℕ) → p < length slots → holds_set new p ≡ holds_set words p
  unfolding holds_set
  carried_kind p h = ap (λ (x : ℕ). eqb (bit_at x ((16 + p) % 64)) 1) (same ((16 + p) / 64) (omega (arith, there)))

  carried_place : (p j : ℕ) → p < length slots → word_place new p j ≡ word_place words p j
  carried_place p j h = place_kept words new p j counts (λ k u. carried_kind k (omega (arith, fits.count))) (omega (arith, fits.count))

  carried_rank : (p : ℕ) → p ≤ length slots → rank_in new p ≡ rank_in words p
  carried_rank p h = rank_kept words new p (λ k u. carried_kind k (omega arith))

  carried_sets : sets_in new ≡ sets_in words
  carried_sets = ap (λ (k : ℕ). rank_in new k) counts ∙ carried_rank (count_in words) (omega (arith, fits.count))

  carried_first : (p : ℕ) → p < length slots → word_in new p 0 ≡ word_in words p 0
  carried_first p h =
      let at : first_place (length slots) p ≡ word_place new p 0 = first_there new (length slots) p (sym carried_count) in
      word_first new p ∙ same (word_place new p 0) (omega (arith, there, at)) ∙ ap (λ (k : ℕ). get_or words k 0) (carried_place p 0 h) ∙ sym (word_first words p)

  module _ (p : ℕ) (slot : Slot) (h : p < length slots) (e : slot ≡ get_or slots p slot) where
    carried_member : (m : ℕ) → is_set slot.kind ≡ true → has_member new p m ≡ has_member words p m
    unfolding has_member
    carried_member m is =
        let old : holds_set words p ≡ true = (fits.holds p slot h e).kind ∙ is in
        let now : holds_set new p ≡ true = carried_kind p h ∙ old in
        (elim (cases_lt (word_place new p (m / 64)) (length new)) [
          | inl l ↦ ap (λ (w : ℕ). eqb (bit_at w (m % 64)) 1) (word_of_set new p (m / 64) now ∙ same (word_place new p (m / 64)) l ∙ ap (λ (k : ℕ). get_or words k 0) (carried_place p (m / 64) h) ∙ sym (word_of_set words p (m / 64) old))
          | inr l ↦ (
              let past : word_in new p (m / 64) ≡ 0 = word_of_set new p (m / 64) now ∙ get_or_past new (word_place new p (m / 64)) 0 l in
              let beyond : slot.count ≤ m = (elim (cases_eq (m / 64) 0) [
                | inl z ↦ absurd (omega (arith, there, z, first_there new (length slots) p (sym carried_count), ap (λ (k : ℕ). word_place new p k) z))
                | inr z ↦ elim (cases_lt (m / 64) (word_count slot.count)) [
                  | inl u ↦ absurd (
                      let at : further_place (length slots) slot.sets slot.rank (m / 64) ≡ word_place new p (m / 64) = further_there new slot (length slots) p (m / 64) (sym carried_count) ((fits.holds p slot h e).rank ∙ sym (carried_rank p (omega arith))) ((fits.holds p slot h e).sets ∙ sym carried_sets) (omega (arith, z)) in
                      omega (arith, room.room p (m / 64) slot h e is (omega (arith, z)) u, long, at))
                  | inr u ↦ omega arith
                ]
              ]) in
              rw (past, bit_at-zero (m % 64)) (sym ((fits.holds p slot h e).below m is beyond)))
        ])

    carried_value : value_in new p ≡ value_in words p
    carried_value = elim (cases_Bool (is_set slot.kind)) [
      | inl is ↦ (
          let old_set : holds_set words p ≡ true = (fits.holds p slot h e).kind ∙ is in
          value_set new p (carried_kind p h ∙ old_set)
          ∙ ap Members (where_same (has_member new p) (has_member words p) (64 * length new) (64 * length words) (λ k. carried_member k is) (λ k l. no_member new p k (omega (arith, carried_count)) l) (λ k l. carried_member k is ∙ no_member words p k (fits.holds p slot h e).inside l))
          ∙ sym (value_set words p old_set))
      | inr is ↦ (
          let old_number : holds_set words p ≡ false = (fits.holds p slot h e).kind ∙ is in
          value_number new p (carried_kind p h ∙ old_number)
          ∙ ap (λ (w : ℕ). Number (cast_signed w64 w)) (carried_first p h)
          ∙ sym (value_number words p old_number))
    ]

    carried_slot : HoldsSlot slot new p
    carried_slot = record {
      inside = omega (arith, carried_count);
      row = omega (arith, carried_count, there);
      rank = (fits.holds p slot h e).rank ∙ sym (carried_rank p (omega arith));
      sets = (fits.holds p slot h e).sets ∙ sym carried_sets;
      kind = carried_kind p h ∙ (fits.holds p slot h e).kind;
      below = λ m is l. carried_member m is ∙ (fits.holds p slot h e).below m is l;
    }

  pub carried_room : HasRoom slots new
  carried_room = record {
    fits = record { count = carried_count; few = fits.few; row = there; holds = λ p slot h e. carried_slot p slot h e };
    room = λ p j slot h e is some u. omega (arith, room.room p j slot h e is some u, long);
  }

  pub carried_state : state_in new ≡ state_in words
  carried_state = states_same slots new words carried_room.fits fits (λ p h. carried_value p (get_or slots p no_slot) h (get_or_default slots p no_slot (get_or slots p no_slot) h))

-- words that are as many have the same places
pub whole_room : (slots : List Slot) (blank words : List ℕ) → HasRoom slots blank → Fits slots words → length words ≡ length blank → HasRoom slots words
whole_room slots blank words room fits long = carried_room slots blank words words room fits long (λ j h. refl)

-- five words, one by one
pub five : (words : List ℕ) → length words ≡ 5 → get_or words 0 0 ∷ get_or words 1 0 ∷ get_or words 2 0 ∷ get_or words 3 0 ∷ get_or words 4 0 ∷ [] ≡ words
five (a ∷ b ∷ c ∷ d ∷ e ∷ []) h = refl
five [] h = absurd (omega (arith, h))
five (a ∷ []) h = absurd (omega (arith, h))
five (a ∷ b ∷ []) h = absurd (omega (arith, h))
five (a ∷ b ∷ c ∷ []) h = absurd (omega (arith, h))
five (a ∷ b ∷ c ∷ d ∷ []) h = absurd (omega (arith, h))
five (a ∷ b ∷ c ∷ d ∷ e ∷ f ∷ words) h = absurd (omega (arith, h))

-- a state without variables has no place for any
pub no_room : HasRoom [] (0 ∷ 0 ∷ 0 ∷ 0 ∷ 0 ∷ [])
unfolding count_in
no_room = record {
  fits = record { count = refl; few = omega arith; row = omega arith; holds = λ p slot h e. absurd (omega (arith, h)) };
  room = λ p j slot h e is some u. absurd (omega (arith, h));
}
