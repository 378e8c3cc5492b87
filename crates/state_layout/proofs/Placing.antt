-- Writes into the words of one variable.
use Rattle.std.proofs.Common.{◌≡◌, ℕ, zero, suc, ◌+◌, ◌*◌, ◌/◌, ◌%◌, ◌<◌, ◌≤◌, true, false, not, ◌&&◌, eqb, List, [], ◌∷◌, ◌++◌, length, get_or, set, take, drop, append-nil, refl, sym, ap, subst, ◌∙◌, inl, inr, arith}
use Rattle.std.specs.Prelude.{ℤ, nat_lt}
use Rattle.std.specs.Int.{bit_at, cast_signed, cast_unsigned, w64}
use Rattle.std.specs.List.{filter, range_with_len}
use Rattle.std.proofs.lemmas.Bool.{and_parts, ltb-true, ltb-false, not-true, lt-ltb, le-ltb, cases_lt, cases_eq, eq-eqb, ne_eqb}
use Rattle.std.proofs.lemmas.List.{get_or-set_same, get_or-set_other, length-set, same_lists, drop_all, take_all}
use Rattle.std.proofs.lemmas.List.FromFn.{fill_by_all}
use Rattle.std.proofs.lemmas.Nat.Bits.{bit_at-zero}
use Rattle.bit_sets.specs.Sets.{has, has_bit, members_where, members_of}
use Rattle.bit_sets.proofs.Ranges.{filter_same, filter_none}
use Rattle.dp_model.specs.Typing.{ascends, is_set_below}
use Rattle.dp_model.specs.declared.parts.PlainValue.{PlainValue}
use Rattle.dp_model.specs.declared.parts.PlainValue.TheVariants.{Number, Members}
use Rattle.dp_model.specs.declared.parts.PlainState.{PlainState}
use Rattle.state_layout.specs.declared.layout.Slot.{Slot}
use Rattle.state_layout.specs.Signatures.{set_word, word_count}
use Rattle.state_layout.specs.Packing.{count_in, holds_set, rank_in, sets_in, word_place, word_in, has_member, members_in, value_in, state_in, is_set, HasFirstRow}
use Rattle.state_layout.specs.Forms.{Fits, HasRoom, with_value, Elsewhere, Written}
use Rattle.state_layout.proofs.Ranking.{rank_kept, first_there, further_there, low_place, apart_places, place_kept, word_first, word_of_set, word_cases}
use Rattle.state_layout.proofs.Decoding.{value_at, values_length, value_number, value_set, where_same, fold_bit, members_below}
use Rattle.state_layout.proofs.Stepping.{get_or_default, ascends_none}

-- ---- one word

module _ (words : List ℕ) (place number w : ℕ) (inside : place < count_in words) (set_there : 1 ≤ number → holds_set words place ≡ true) (room : word_place words place number < length words) where
  count_kept : count_in (set words (word_place words place number) w) ≡ count_in words
  unfolding count_in
  count_kept = let other : 0 ≡ word_place words place number → ⊥ = λ e. omega (arith, low_place words place number) in ap (λ (x : ℕ). x % 65536) (get_or-set_other words (word_place words place number) 0 w 0 other)

  kind_kept : (p : ℕ) → p < count_in words → holds_set (set words (word_place words place number) w) p ≡ holds_set words p
  unfolding holds_set
  kind_kept p h = let other : (16 + p) / 64 ≡ word_place words place number → ⊥ = λ e. omega (arith, low_place words place number) in ap (λ (x : ℕ). eqb (bit_at x ((16 + p) % 64)) 1) (get_or-set_other words (word_place words place number) ((16 + p) / 64) w 0 other)

  place_same : (p j : ℕ) → p < count_in words → word_place (set words (word_place words place number) w) p j ≡ word_place words p j
  place_same p j h = place_kept words (set words (word_place words place number) w) p j count_kept kind_kept h

  word_kept : (p j : ℕ) → p < count_in words → ((p ≡ place) × (j ≡ number) → ⊥) → word_in (set words (word_place words place number) w) p j ≡ word_in words p j
  word_kept p j h other = word_cases words (set words (word_place words place number) w) p j (kind_kept p h) (λ left. (
      ap (λ (k : ℕ). get_or (set words (word_place words place number) w) k 0) (place_same p j h)
      ∙ get_or-set_other words (word_place words place number) (word_place words p j) w 0 (λ e. other (apart_places words p j place number h inside left set_there e))))

  word_put : word_in (set words (word_place words place number) w) place number ≡ w
  word_put =
      let here : get_or (set words (word_place words place number) w) (word_place (set words (word_place words place number) w) place number) 0 ≡ w = ap (λ (k : ℕ). get_or (set words (word_place words place number) w) k 0) (place_same place number inside) ∙ get_or-set_same words (word_place words place number) w 0 room in
      (elim (cases_eq number 0) [
        | inl e ↦ subst (λ (k : ℕ). word_in (set words (word_place words place number) w) place k ≡ w) (sym e) (word_first (set words (word_place words place number) w) place ∙ ap (λ (k : ℕ). get_or (set words (word_place words place number) w) (word_place (set words (word_place words place number) w) place k) 0) (sym e) ∙ here)
        | inr e ↦ word_of_set (set words (word_place words place number) w) place number (kind_kept place inside ∙ set_there (omega (arith, e))) ∙ here
      ])

pub written_none : (place : ℕ) (f : ℕ → ℕ) (words : List ℕ) → Written place f 0 words words
written_none place f words = record {
  elsewhere = record { long = refl; count = refl; kind = λ p h. refl; word = λ p j h o. refl };
  here = λ j h. absurd (omega arith);
  after = λ j h. refl;
}

pub written_more : (place : ℕ) (f : ℕ → ℕ) (n w : ℕ) (old mid : List ℕ) → Written place f n old mid → place < count_in old → (1 ≤ n → holds_set old place ≡ true) → word_place mid place n < length mid → w ≡ f n → Written place f (n + 1) old (set mid (word_place mid place n) w)
written_more place f n w old mid so inside is room value =
    let same : count_in mid ≡ count_in old = so.elsewhere.count in
    let in_mid : place < count_in mid = omega (arith, same) in
    let is_mid : 1 ≤ n → holds_set mid place ≡ true = λ h. so.elsewhere.kind place inside ∙ is h in
    record {
      elsewhere = record {
        long = length-set mid (word_place mid place n) w ∙ so.elsewhere.long;
        count = count_kept mid place n w in_mid is_mid room ∙ same;
        kind = λ p h. kind_kept mid place n w in_mid is_mid room p (omega (arith, same)) ∙ so.elsewhere.kind p h;
        word = λ p j h o. word_kept mid place n w in_mid is_mid room p j (omega (arith, same)) (λ b. o b.0) ∙ so.elsewhere.word p j h o;
      };
      here = λ j h. (elim (cases_eq j n) [
        | inl e ↦ rw e (word_put mid place n w in_mid is_mid room ∙ value)
        | inr e ↦ word_kept mid place n w in_mid is_mid room place j in_mid (λ b. e b.1) ∙ so.here j (omega (arith, e))
      ]);
      after = λ j h. word_kept mid place n w in_mid is_mid room place j in_mid (λ b. omega (arith, b.1)) ∙ so.after j (omega arith);
    }

-- a slot that is read at a place is one slot
same_slot : (slots : List Slot) (place : ℕ) (x y : Slot) → place < length slots → x ≡ get_or slots place x → y ≡ get_or slots place y → x ≡ y
same_slot slots place x y h e f = e ∙ get_or_default slots place x y h ∙ sym f

ascends_parts : (least count k : ℕ) (ks : List ℕ) → ascends least count (k ∷ ks) ≡ true → (least ≤ k) × (k < count) × (ascends (suc k) count ks ≡ true)
ascends_parts least count k ks h =
    let two = and_parts (not (nat_lt k least)) (nat_lt k count && ascends (suc k) count ks) h in
    let rest = and_parts (nat_lt k count) (ascends (suc k) count ks) two.1 in
    (ltb-false k least (not-true (nat_lt k least) two.0), ltb-true k count rest.0, rest.1)

ascends_join : (least count k : ℕ) (ks : List ℕ) → least ≤ k → k < count → ascends (suc k) count ks ≡ true → ascends least count (k ∷ ks) ≡ true
ascends_join least count k ks h l t = rw (le-ltb k least h, lt-ltb k count l) t

has_above : (least count m : ℕ) (xs : List ℕ) → ascends least count xs ≡ true → m < least → has xs m ≡ false
has_above least count m [] h l = refl
has_above least count m (k ∷ ks) h l =
    let p = ascends_parts least count k ks h in
    rw (ne_eqb m k (λ e. omega (arith, e, p.0))) (has_above (suc k) count m ks p.2 (omega (arith, p.0)))

-- ---- the values after a write

module _ (place : ℕ) (old new : List ℕ) (so : Elsewhere place old new) where
  member_elsewhere : (p m : ℕ) → p < count_in old → (p ≡ place → ⊥) → has_member new p m ≡ has_member old p m
  unfolding has_member
  member_elsewhere p m h o = ap (λ (w : ℕ). eqb (bit_at w (m % 64)) 1) (so.word p (m / 64) h o)

  value_elsewhere : (p : ℕ) → p < count_in old → (p ≡ place → ⊥) → value_in new p ≡ value_in old p
  unfolding value_in
  value_elsewhere p h o = rw (so.kind p h, so.word p 0 h o, so.long, filter_same (has_member new p) (has_member old p) 0 (64 * length old) (λ k l u. member_elsewhere p k h o)) refl

  pub state_written : (x : PlainValue) → place < count_in old → value_in new place ≡ x → state_in new ≡ with_value (state_in old) place x
  state_written x inside here =
      let values : List PlainValue = set (state_in old).values place x in
      let long : length values ≡ count_in new = length-set (state_in old).values place x ∙ values_length old ∙ sym so.count in
      let in_old : place < length (state_in old).values = omega (arith, values_length old) in
      let each : (k : ℕ) → k < count_in new → get_or values k x ≡ value_in new k = λ k h. (elim (cases_eq k place) [
        | inl e ↦ rw e (get_or-set_same (state_in old).values place x x in_old ∙ sym here)
        | inr e ↦ get_or-set_other (state_in old).values place k x x e ∙ value_at old k x (omega (arith, so.count)) ∙ sym (value_elsewhere k (omega (arith, so.count)) e)
      ]) in
      let state : List PlainValue → PlainState = λ xs. record { values = xs } in
      sym (ap state (fill_by_all (value_in new) values (count_in new) x long each))

  ranks_elsewhere : (p : ℕ) → p ≤ count_in old → rank_in new p ≡ rank_in old p
  ranks_elsewhere p h = rank_kept old new p (λ k u. so.kind k (omega arith))

  sets_elsewhere : sets_in new ≡ sets_in old
  sets_elsewhere = ap (λ (k : ℕ). rank_in new k) so.count ∙ ranks_elsewhere (count_in old) (omega arith)

  pub room_written : (slots : List Slot) → HasRoom slots old → place < length slots → ((slot : Slot) (m : ℕ) → slot ≡ get_or slots place slot → is_set slot.kind ≡ true → slot.count ≤ m → has_member new place m ≡ false) → HasRoom slots new
  room_written slots r inside below = record {
    fits = record {
      count = so.count ∙ r.fits.count;
      few = r.fits.few;
      row = omega (arith, so.long, r.fits.row);
      holds = λ p slot h e. (let was = r.fits.holds p slot h e in record {
        inside = omega (arith, so.count, was.inside);
        row = omega (arith, so.count, so.long, was.row);
        kind = so.kind p was.inside ∙ was.kind;
        rank = was.rank ∙ sym (ranks_elsewhere p (omega (arith, was.inside)));
        sets = was.sets ∙ sym sets_elsewhere;
        below = λ m is l. (elim (cases_eq p place) [
          | inl f ↦ rw f (below slot m (rw f at e) is l)
          | inr f ↦ member_elsewhere p m was.inside f ∙ was.below m is l
        ]);
      });
    };
    room = λ p j slot h e is some l. omega (arith, r.room p j slot h e is some l, so.long);
  }

-- ---- places for writes

pub first_row : (slots : List Slot) (words : List ℕ) → Fits slots words → HasFirstRow words
first_row slots words fits = omega (arith, fits.count, fits.row)

pub first_inside : (slots : List Slot) (words : List ℕ) (place : ℕ) → HasRoom slots words → place < length slots → word_place words place 0 < length words
first_inside slots words place r h = omega (arith, first_there words (length slots) place (sym r.fits.count), r.fits.row)

module _ (slots : List Slot) (place : ℕ) (slot : Slot) (f : ℕ → ℕ) (n : ℕ) (old mid : List ℕ) (r : HasRoom slots old) (h : place < length slots) (e : slot ≡ get_or slots place slot) where
  -- a set that is being written has its slot still, but for members above the count
  pub slot_kept : Elsewhere place old mid → (slot.rank ≡ rank_in mid place) × (slot.sets ≡ sets_in mid) × (holds_set mid place ≡ is_set slot.kind) × (place < count_in mid) × HasFirstRow mid
  slot_kept so =
      let was = r.fits.holds place slot h e in (
        was.rank ∙ sym (ranks_elsewhere place old mid so place (omega (arith, was.inside))),
        was.sets ∙ sym (sets_elsewhere place old mid so),
        so.kind place was.inside ∙ was.kind,
        omega (arith, so.count, was.inside),
        omega (arith, so.count, so.long, was.row),
      )

  pub set_inside : is_set slot.kind ≡ true → Written place f n old mid → n < word_count slot.count → word_place mid place n < length mid
  set_inside is so l =
      let kept = slot_kept so.elsewhere in
      (elim (cases_eq n 0) [
        | inl z ↦ rw z (omega (arith, first_there mid (length slots) place (sym (so.elsewhere.count ∙ r.fits.count)), r.fits.row, so.elsewhere.long))
        | inr z ↦ omega (arith, r.room place n slot h e is (omega (arith, z)) l, so.elsewhere.long, further_there mid slot (length slots) place n (sym (so.elsewhere.count ∙ r.fits.count)) kept.0 kept.1 (omega (arith, z)))
      ])

-- ---- numbers

pub number_written : (slots : List Slot) (old new : List ℕ) (place : ℕ) (slot : Slot) (n : ℤ) → HasRoom slots old → place < length slots → slot ≡ get_or slots place slot → is_set slot.kind ≡ false → cast_signed w64 (cast_unsigned w64 n) ≡ n → Written place (λ j. cast_unsigned w64 n) 1 old new → HasRoom slots new × (state_in new ≡ with_value (state_in old) place (Number n))
number_written slots old new place slot n r h e is fits so =
    let held = r.fits.holds place slot h e in
    let kind : holds_set new place ≡ false = so.elsewhere.kind place held.inside ∙ held.kind ∙ is in
    let value : value_in new place ≡ Number n = value_number new place kind ∙ ap Number (ap (cast_signed w64) (so.here 0 (omega arith)) ∙ fits) in
    (room_written place old new so.elsewhere slots r h (λ other m f t l. absurd (let g : is_set other.kind ≡ is_set slot.kind = ap (λ (s : Slot). is_set s.kind) (same_slot slots place other slot h f e) in cc)), state_written place old new so.elsewhere (Number n) held.inside value)

-- ---- sets

module _ (slots : List Slot) (old new : List ℕ) (place : ℕ) (slot : Slot) (r : HasRoom slots old) (h : place < length slots) (e : slot ≡ get_or slots place slot) (is : is_set slot.kind ≡ true) (f : ℕ → ℕ) (n : ℕ) (so : Written place f n old new) (enough : n ≡ word_count slot.count) (none : (m : ℕ) → slot.count ≤ m → eqb (bit_at (f (m / 64)) (m % 64)) 1 ≡ false) where
  written_below : (m : ℕ) → slot.count ≤ m → has_member new place m ≡ false
  unfolding has_member
  written_below m l = elim (cases_lt (m / 64) n) [
    | inl u ↦ rw (so.here (m / 64) u) (none m l)
    | inr u ↦ rw (so.after (m / 64) u) ((r.fits.holds place slot h e).below m is l)
  ]

  written_member : (m : ℕ) → m < 64 * n → has_member new place m ≡ eqb (bit_at (f (m / 64)) (m % 64)) 1
  unfolding has_member
  written_member m u = rw (so.here (m / 64) (omega arith)) refl

  members_written : (members : List ℕ) → members_where (64 * n) (λ m. eqb (bit_at (f (m / 64)) (m % 64)) 1) ≡ members → HasRoom slots new × (state_in new ≡ with_value (state_in old) place (Members members))
  members_written members read =
      let held = r.fits.holds place slot h e in
      let kind : holds_set new place ≡ true = so.elsewhere.kind place held.inside ∙ held.kind ∙ is in
      let in_new : place < count_in new = omega (arith, so.elsewhere.count, held.inside) in
      let same : members_in new place ≡ members_where (64 * n) (has_member new place) = sym (members_below new place (64 * n) in_new (λ m l. written_below m (omega (arith, enough)))) in
      let other : members_where (64 * n) (has_member new place) ≡ members_where (64 * n) (λ m. eqb (bit_at (f (m / 64)) (m % 64)) 1) = filter_same (has_member new place) (λ m. eqb (bit_at (f (m / 64)) (m % 64)) 1) 0 (64 * n) (λ k l u. written_member k (omega arith)) in
      let value : value_in new place ≡ Members members = value_set new place kind ∙ ap Members (same ∙ other ∙ read) in
      (room_written place old new so.elsewhere slots r h (λ o m g t l. written_below m (let c : o.count ≡ slot.count = ap (λ (s : Slot). s.count) (same_slot slots place o slot h g e) in omega (arith, c))), state_written place old new so.elsewhere (Members members) held.inside value)

pub words_written : (slots : List Slot) (old new room : List ℕ) (place : ℕ) (slot : Slot) (n : ℕ) → HasRoom slots old → place < length slots → slot ≡ get_or slots place slot → is_set slot.kind ≡ true → Written place (λ j. get_or room j 0) n old new → n ≡ word_count slot.count → length room ≡ n → ((m : ℕ) → slot.count ≤ m → has_bit room m ≡ false) → HasRoom slots new × (state_in new ≡ with_value (state_in old) place (Members (members_of room)))
words_written slots old new room place slot n r h e is so enough long none = members_written slots old new place slot r h e is (λ j. get_or room j 0) n so enough none (members_of room) (ap (λ (k : ℕ). members_where (64 * k) (has_bit room)) (sym long))

-- the same of a set of one word
pub one_written : (slots : List Slot) (old : List ℕ) (place : ℕ) (slot : Slot) (w : ℕ) → HasRoom slots old → place < length slots → slot ≡ get_or slots place slot → is_set slot.kind ≡ true → word_count slot.count ≡ 1 → ((m : ℕ) → slot.count ≤ m → has_bit (w ∷ []) m ≡ false) → HasRoom slots (set old (word_place old place 0) w) × (state_in (set old (word_place old place 0) w) ≡ with_value (state_in old) place (Members (members_of (w ∷ []))))
one_written slots old place slot w r h e is one none =
    let so : Written place (λ j. get_or (w ∷ []) j 0) 1 old (set old (word_place old place 0) w) = written_more place (λ j. get_or (w ∷ []) j 0) 0 w old old (written_none place (λ j. get_or (w ∷ []) j 0) old) (omega (arith, r.fits.count)) (λ l. absurd (omega arith)) (first_inside slots old place r h) refl in
    words_written slots old (set old (word_place old place 0) w) (w ∷ []) place slot 1 r h e is so (sym one) refl none

-- a set is the members that its words have
ascends_where : (least n : ℕ) (xs : List ℕ) → ascends least (least + n) xs ≡ true → filter (has xs) (range_with_len least n) ≡ xs
ascends_where least zero [] h = refl
ascends_where least zero (k ∷ ks) h = let p = ascends_parts least (least + zero) k ks h in absurd (omega (arith, p.0, p.1))
ascends_where least (suc n) [] h = filter_none (has []) least (suc n) (λ k l u. refl)
ascends_where least (suc n) (k ∷ ks) h =
    let p = ascends_parts least (least + suc n) k ks h in
    let s : least + suc n ≡ (least + 1) + n = omega arith in
    (elim (cases_eq least k) [
      | inl f ↦ (
          let rest : ascends (least + 1) ((least + 1) + n) ks ≡ true = subst (λ (z : ℕ). ascends z ((least + 1) + n) ks ≡ true) (omega (arith, f)) (subst (λ (z : ℕ). ascends (suc k) z ks ≡ true) s p.2) in
          let tail : filter (has (k ∷ ks)) (range_with_len (least + 1) n) ≡ ks = filter_same (has (k ∷ ks)) (has ks) (least + 1) n (λ m l u. rw (ne_eqb m k (λ g. omega (arith, f, g))) refl) ∙ ascends_where (least + 1) n ks rest in
          rw (eq-eqb least k f, tail, f) refl)
      | inr f ↦ (
          let above : least + 1 ≤ k = omega (arith, f, p.0) in
          let rest : ascends (least + 1) ((least + 1) + n) (k ∷ ks) ≡ true = ascends_join (least + 1) ((least + 1) + n) k ks above (omega (arith, p.1)) (subst (λ (z : ℕ). ascends (suc k) z ks ≡ true) s p.2) in
          rw (ne_eqb least k f, has_above (suc k) (least + suc n) least ks p.2 (omega (arith, above))) (ascends_where (least + 1) n (k ∷ ks) rest))
    ])

pub list_written : (slots : List Slot) (old new xs : List ℕ) (place : ℕ) (slot : Slot) (n : ℕ) → HasRoom slots old → place < length slots → slot ≡ get_or slots place slot → is_set slot.kind ≡ true → Written place (set_word xs) n old new → n ≡ word_count slot.count → is_set_below slot.count xs ≡ true → HasRoom slots new × (state_in new ≡ with_value (state_in old) place (Members xs))
list_written slots old new xs place slot n r h e is so enough below =
    let bit : (m : ℕ) → eqb (bit_at (set_word xs (m / 64)) (m % 64)) 1 ≡ has xs m = λ m. (let j : 64 * (m / 64) + m % 64 ≡ m = omega arith in fold_bit (m / 64) 0 (m % 64) xs (omega arith) ∙ rw (bit_at-zero (m % 64), j) refl) in
    let none : (m : ℕ) → slot.count ≤ m → has xs m ≡ false = λ m l. ascends_none 0 slot.count m xs below l in
    members_written slots old new place slot r h e is (set_word xs) n so enough (λ m l. bit m ∙ none m l) xs
    (where_same (λ m. eqb (bit_at (set_word xs (m / 64)) (m % 64)) 1) (has xs) (64 * n) slot.count bit (λ m l. bit m ∙ none m (omega (arith, enough))) (λ m l. bit m ∙ none m l)
    ∙ ascends_where 0 slot.count xs (subst (λ (z : ℕ). ascends 0 z xs ≡ true) (omega arith) below))

-- ---- all values

read_any : {A : Type 0} (xs : List A) (i : ℕ) (d e : A) → i < length xs → get_or xs i d ≡ get_or xs i e
read_any [] i d e h = absurd (omega arith)
read_any (x ∷ xs) zero d e h = refl
read_any (x ∷ xs) (suc i) d e h = read_any xs i d e (omega arith)

pub filled_more : (values : List PlainValue) (old new : List ℕ) (i : ℕ) (x : PlainValue) → state_in new ≡ with_value (state_in old) i x → x ≡ get_or values i x → i < length values → i < count_in old → ((k : ℕ) (d : PlainValue) → k < i → get_or (state_in old).values k d ≡ get_or values k d) → (k : ℕ) (d : PlainValue) → k < i + 1 → get_or (state_in new).values k d ≡ get_or values k d
filled_more values old new i x e f h in_old so k d u = ap (λ (s : PlainState). get_or s.values k d) e ∙ (elim (cases_eq k i) [
  | inl g ↦ rw g (get_or-set_same (state_in old).values i x d (omega (arith, values_length old)) ∙ f ∙ read_any values i x d h)
  | inr g ↦ get_or-set_other (state_in old).values i k x d g ∙ so k d (omega (arith, g))
])

pub filled_all : (slots : List Slot) (values : List PlainValue) (words : List ℕ) (n : ℕ) → HasRoom slots words → length values ≡ length slots → length slots ≤ n → ((k : ℕ) (d : PlainValue) → k < n → get_or (state_in words).values k d ≡ get_or values k d) → (state_in words).values ≡ values
filled_all slots values words n r long all so = same_lists (state_in words).values values (values_length words ∙ r.fits.count ∙ sym long) (λ k d h. so k d (omega (arith, h, values_length words, r.fits.count)))

-- what is written back to a vector
pub written_back : (len : ℕ) (new items : List ℕ) → length new ≡ length items → len ≡ length items → take len (new ++ drop (length new) items) ≡ new
written_back len new items e f = rw (drop_all (length new) items (omega arith), append-nil) (take_all len new (omega arith))
