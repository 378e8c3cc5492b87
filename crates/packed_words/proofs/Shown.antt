-- What the words of a scene have for a variable, by the model's kind of it.
use Rattle.std.proofs.Common.{◌≡◌, ℕ, zero, suc, ◌*◌, ◌/◌, ◌%◌, ◌<◌, ◌≤◌, true, false, List, [], ◌∷◌, length, get_or, map, eqb, refl, sym, ap, ◌∙◌, inl, inr, arith, rules}
use Rattle.std.specs.Prelude.{Option, Some, None, option_and_then, slice_get, unwrap_or, IsTrue}
use Rattle.std.specs.Int.{bit_at}
use Rattle.std.specs.List.{list_all, range_with_len}
use Rattle.std.proofs.lemmas.Bool.{and_parts, leb-true, cases_lt}
use Rattle.std.proofs.lemmas.List.FromFn.{get_or-map-range_with_len, length-map-range_with_len}
use Rattle.std.proofs.lemmas.Option.{slice_get_within, slice_get-get_or}
use Rattle.bit_sets.specs.Sets.{bound_of, has_bit, members_of}
use Rattle.bit_sets.proofs.Meanings.{no_bit}
use Rattle.dp_model.specs.Typing.{is_number_kind, is_set_kind, kind_at, type_count}
use Rattle.dp_model.specs.Evaluation.{count_of, kind_of, object_of_kind, set_in}
use Rattle.dp_model.specs.Limits.{is_small_object, is_name}
use Rattle.dp_model.specs.declared.parts.ObjectType.{ObjectType}
use Rattle.dp_model.specs.declared.parts.Variable.{Variable}
use Rattle.dp_model.specs.declared.parts.VarKind.{VarKind}
use Rattle.dp_model.specs.declared.parts.VarKind.TheVariants as kinds
use Rattle.dp_model.specs.declared.parts.Preference.TheVariants.{Without}
use Rattle.dp_model.specs.declared.whole.Model.{Model}
use Rattle.state_layout.specs.declared.layout.Slot.{Slot}
use Rattle.state_layout.specs.Slots.{slots_from, kind_count, sets_among, rank_after}
use Rattle.state_layout.specs.Signatures.{word_count}
use Rattle.state_layout.specs.Packing.{holds_set, word_in, has_member, state_in, is_set}
use Rattle.state_layout.specs.Forms.{HoldsSlot, no_slot}
use Rattle.state_layout.proofs.Decoding.{where_same, no_member, set_there}
use Rattle.state_layout.proofs.Ranking.{slots_length}
use Rattle.state_layout.proofs.Stepping.{get_or_default}
use Rattle.packed_words.specs.Scenes.{Shows}
use Rattle.packed_words.specs.Sets.{IsClean}

slot_at : (objects : List ObjectType) (sets rank : ℕ) (vs : List Variable) (v : ℕ) (x : Variable) (d : Slot) → v < length vs → x ≡ get_or vs v x → ((get_or (slots_from objects sets rank vs) v d).kind ≡ x.kind) × ((get_or (slots_from objects sets rank vs) v d).count ≡ kind_count objects x.kind)
slot_at objects sets rank [] v x d h e = absurd (omega arith)
slot_at objects sets rank (y ∷ vs) zero x d h e = (ap (λ (z : Variable). z.kind) (sym e), ap (λ (z : Variable). kind_count objects z.kind) (sym e))
slot_at objects sets rank (y ∷ vs) (suc v) x d h e = slot_at objects sets (rank_after rank y.kind) vs v x d (omega arith) e

-- how many members an object type may have

small_object : (o : ObjectType) → is_small_object o ≡ true → o.count ≤ 4096
small_object o h = leb-true o.count 4096 (and_parts (is_name o.name) _ h).1

few_at : (os : List ObjectType) (object : ℕ) → list_all is_small_object os ≡ true → type_count os object ≤ 4096
few_at [] object h = omega arith
few_at (o ∷ os) zero h = small_object o (and_parts (is_small_object o) (list_all is_small_object os) h).0
few_at (o ∷ os) (suc object) h = few_at os object (and_parts (is_small_object o) (list_all is_small_object os) h).1

pub few_members : (m : Model) (object : ℕ) → count_of m object ≤ 4096
few_members m object = few_at m.objects object (search (rules, m.few_names))

-- ---- the variable's slot

module _ (m : Model) (slots : List Slot) (words : List ℕ) (shown : Shows m slots words) (v : ℕ) where
  long : length slots ≡ length m.variables
  long = ap (λ (xs : List Slot). length xs) shown.layout ∙ slots_length m.objects (sets_among m.variables) 0 m.variables

  slot_of_variable : (x : Variable) (d : Slot) → slice_get m.variables v ≡ Some x → (v < length slots) × ((get_or slots v d).kind ≡ x.kind) × ((get_or slots v d).count ≡ kind_count m.objects x.kind)
  slot_of_variable x d e =
      let h : v < length m.variables = slice_get_within m.variables v x e in
      let q : x ≡ get_or m.variables v x = (let same = slice_get-get_or m.variables v x h in cc) in
      let s = slot_at m.objects (sets_among m.variables) 0 m.variables v x d h q in
      (omega (arith, h, long), rw shown.layout s.0, rw shown.layout s.1)

  number_by : (o : Option Variable) → slice_get m.variables v ≡ o → is_number_kind (option_and_then (λ (x : Variable). Some x.kind) o) ≡ true → (d : Slot) → (v < length slots) × (is_set (get_or slots v d).kind ≡ false)
  number_by None e h d = absurd (cc)
  number_by (Some x) e h d = let s = slot_of_variable x d e in (s.0, ap is_set s.1 ∙ plain x.kind h)
    where
      plain : (k : VarKind) → is_number_kind (Some k) ≡ true → is_set k ≡ false
      plain (kinds.Element object) h = refl
      plain kinds.Integer h = refl
      plain (kinds.Set object) h = absurd (cc)

  pub number_held : (d : Slot) → IsTrue (is_number_kind (kind_at m.variables v)) → (v < length slots) × (holds_set words v ≡ false)
  number_held d h =
      let s = number_by (slice_get m.variables v) refl h d in
      let slot = get_or slots v d in
      (s.0, (shown.fits.holds v slot s.0 (get_or_default slots v d slot s.0)).kind ∙ s.1)

  set_by : (o : Option Variable) → slice_get m.variables v ≡ o → is_set_kind (option_and_then (λ (x : Variable). Some x.kind) o) ≡ true → (d : Slot) → (v < length slots) × (is_set (get_or slots v d).kind ≡ true) × ((get_or slots v d).count ≡ count_of m (object_of_kind (unwrap_or (option_and_then (λ (x : Variable). Some x.kind) o) kinds.Integer)))
  set_by None e h d = absurd (cc)
  set_by (Some x) e h d = let s = slot_of_variable x d e in (s.0, ap is_set s.1 ∙ held x.kind h, s.2 ∙ counted x.kind h)
    where
      held : (k : VarKind) → is_set_kind (Some k) ≡ true → is_set k ≡ true
      held (kinds.Element object) h = absurd (cc)
      held kinds.Integer h = absurd (cc)
      held (kinds.Set object) h = refl

      counted : (k : VarKind) → is_set_kind (Some k) ≡ true → kind_count m.objects k ≡ count_of m (object_of_kind k)
      counted (kinds.Element object) h = absurd (cc)
      counted kinds.Integer h = absurd (cc)
      counted (kinds.Set object) h = refl

  -- the slot of a variable that holds a set
  module _ (h : IsTrue (is_set_kind (kind_at m.variables v))) where
    pub set_inside : v < length slots
    set_inside = (set_by (slice_get m.variables v) refl h no_slot).0

    module _ (d : Slot) where
      pub set_held : HoldsSlot (get_or slots v d) words v
      set_held = shown.fits.holds v (get_or slots v d) set_inside (get_or_default slots v d (get_or slots v d) set_inside)

      pub set_kind : is_set (get_or slots v d).kind ≡ true
      set_kind = (set_by (slice_get m.variables v) refl h d).1

      pub set_count : (get_or slots v d).count ≡ count_of m (object_of_kind (kind_of m v))
      set_count = (set_by (slice_get m.variables v) refl h d).2

      pub set_few : (get_or slots v d).count ≤ 4096
      set_few = omega (arith, set_count, few_members m (object_of_kind (kind_of m v)))

-- what is read past the slots
abbrev pub past_slots : Slot
past_slots = record { kind = kinds.Element 0; count = 0; preference = Without; rank = 0; sets = 0 }

-- ---- the words of a set

module _ (words : List ℕ) (slot : Slot) (place : ℕ) (held : HoldsSlot slot words place) (kind : is_set slot.kind ≡ true) where
  -- the bits of words that are those of the set
  same_bit : (out : List ℕ) → word_count slot.count ≤ length out → ((j : ℕ) → j < length out → get_or out j 0 ≡ word_in words place j) → (k : ℕ) → has_bit out k ≡ has_member words place k
  unfolding has_member
  same_bit out far each k = elim (cases_lt (k / 64) (length out)) [
    | inl h ↦ ap (λ w. eqb (bit_at w (k % 64)) 1) (each (k / 64) h)
    | inr h ↦ no_bit out k (omega arith) ∙ sym (held.below k kind (omega arith))
  ]

  pub set_copied : (out : List ℕ) → word_count slot.count ≤ length out → ((j : ℕ) → j < length out → get_or out j 0 ≡ word_in words place j) → members_of out ≡ set_in (state_in words) place
  set_copied out far each =
      where_same (has_bit out) (has_member words place) (bound_of out) (64 * length words) (same_bit out far each) (λ k l. no_bit out k l) (λ k l. same_bit out far each k ∙ no_member words place k held.inside l)
      ∙ sym (set_there words place held.inside (held.kind ∙ kind))

  pub clean_copied : (out : List ℕ) → word_count slot.count ≤ length out → ((j : ℕ) → j < length out → get_or out j 0 ≡ word_in words place j) → IsClean slot.count out
  clean_copied out far each = record { above = λ k h. same_bit out far each k ∙ held.below k kind h }

  -- the words of the set, one behind another
  pub words_held : List ℕ
  words_held = map (word_in words place) (range_with_len 0 (word_count slot.count))

  pub held_length : length words_held ≡ word_count slot.count
  unfolding words_held
  held_length = length-map-range_with_len (word_in words place) 0 (word_count slot.count)

  pub held_word : (j : ℕ) → j < word_count slot.count → get_or words_held j 0 ≡ word_in words place j
  unfolding words_held
  held_word j h = get_or-map-range_with_len (word_in words place) 0 (word_count slot.count) j j 0 h (omega arith)

  pub held_members : members_of words_held ≡ set_in (state_in words) place
  held_members = set_copied words_held (omega (arith, held_length)) (λ j h. held_word j (omega (arith, held_length)))
