-- The steps of loops over the variables of a state in words, and what the words of a packed state fit.
use Rattle.std.proofs.Common.{◌≡◌, ℕ, zero, suc, ◌+◌, ◌<◌, ◌≤◌, Bool, true, false, not, ◌&&◌, List, [], ◌∷◌, ◌++◌, length, get_or, drop, map, fold, append_assoc, append-nil, refl, sym, ap, subst, ◌∙◌, inl, inr, arith, rules}
use Rattle.std.specs.Prelude.{nat_eq, nat_lt, unwrap_or, ◌↔◌, IsTrue, ◌^◌, ℤ, Option, Some, None}
use Rattle.std.specs.Bool.{Decides}
use Rattle.std.specs.List.{range_with_len}
use Rattle.std.proofs.lemmas.Bool.{and_parts, leb-true, ltb-true, ne_eqb, cases_Bool, not-true}
use Rattle.std.proofs.lemmas.List.{drop_more, drop_all}
use Rattle.std.proofs.lemmas.List.FromFn.{fill_by_all}
use Rattle.bit_sets.specs.Sets.{has}
use Rattle.dp_model.specs.Typing.{ascends, may_hold, are_held}
use Rattle.dp_model.specs.declared.parts.Preference.{Preference}
use Rattle.dp_model.specs.declared.parts.ObjectType.{ObjectType}
use Rattle.dp_model.specs.declared.parts.Variable.{Variable}
use Rattle.dp_model.specs.declared.parts.VarKind.{VarKind}
use Rattle.dp_model.specs.declared.parts.VarKind.TheVariants as kinds
use Rattle.dp_model.specs.declared.parts.PlainValue.{PlainValue}
use Rattle.dp_model.specs.declared.parts.PlainValue.TheVariants.{Number, Members}
use Rattle.dp_model.specs.declared.parts.PlainState.{PlainState}
use Rattle.dp_model.specs.declared.whole.Model.{Model}
use Rattle.state_layout.specs.declared.layout.Slot.{Slot}
use Rattle.state_layout.specs.declared.layout.Layout.{Layout}
use Rattle.state_layout.specs.Slots.{slots_of, slots_from, kind_count, sets_among, rank_after}
use Rattle.state_layout.specs.Conditions.{IsPackedFor, IsStateFor}
use Rattle.std.specs.Int.{to_le_bytes, w64}
use Rattle.std.specs.Cmp.Lexicographic.{pointwise}
use Rattle.std.proofs.lemmas.Slice.Eq.{slice_eq-Decides}
use Rattle.std.proofs.lemmas.Bool.Decides.{Decides-eqb}
use Rattle.dp_model.specs.declared.parts.Preference.TheVariants.{Without, Less, Greater}
use Rattle.dp_model.specs.Typing.{is_without}
use Rattle.state_layout.specs.Signatures.{value_words, set_words, signature_in, without_preference, hash_byte, hash_onto}
use Rattle.state_layout.specs.Keys.{key_onto}
use Rattle.state_layout.specs.Merits.{value_merit, merit_in}
use Rattle.state_layout.specs.Tests.{is_at_most, is_at_least, are_at_least}
use Rattle.state_layout.specs.Packing.{count_in, holds_set, rank_in, word_in, has_member, members_in, value_in, state_in, is_set, HasFirstRow}
use Rattle.state_layout.specs.Forms.{Fits, holds_by, AreHeld, AreRanked, sets_before, no_slot}
use Rattle.state_layout.proofs.Decoding.{value_at, values_length, value_number, value_set, member_is_bit, unsigned_word}
use Rattle.state_layout.proofs.Signing.{signature_more, packed_length, hash_append}
use Rattle.state_layout.proofs.Keying.{key_append}
use Rattle.state_layout.proofs.Ranking.{slots_length, ranked_slots, same_rank}
use Rattle.state_layout.proofs.Deciding.{at_least_more}

pub members_from : (x y : List ℕ) → Members x ≡ Members y → x ≡ y
members_from x y e = cc

pub get_or_default : (xs : List Slot) (i : ℕ) (d e : Slot) → i < length xs → get_or xs i d ≡ get_or xs i e
get_or_default [] i d e h = absurd (omega arith)
get_or_default (x ∷ xs) zero d e h = refl
get_or_default (x ∷ xs) (suc i) d e h = get_or_default xs i d e (omega arith)

module _ (slots : List Slot) (words : List ℕ) (fits : Fits slots words) (i : ℕ) (slot : Slot) (h : i < length slots) (e : slot ≡ get_or slots i slot) where
  inside : i < count_in words
  inside = omega (arith, fits.count)

  in_values : i < length (state_in words).values
  in_values = omega (arith, values_length words, fits.count)

  pub signature_step : signature_in (drop i slots) (drop i (state_in words).values) ≡ value_words slot (value_in words i) ++ signature_in (drop (i + 1) slots) (drop (i + 1) (state_in words).values)
  signature_step = signature_more slots (state_in words).values i slot (value_in words i) h in_values e (sym (value_at words i (value_in words i) inside))

  pub whole_step : signature_in (map without_preference (drop i slots)) (drop i (state_in words).values) ≡ value_words (without_preference slot) (value_in words i) ++ signature_in (map without_preference (drop (i + 1) slots)) (drop (i + 1) (state_in words).values)
  whole_step = rw (drop_more slots i slot h, drop_more (state_in words).values i (value_in words i) in_values, ← e, value_at words i (value_in words i) inside) refl

  pub merit_step : merit_in (drop i slots) (drop i (state_in words).values) ≡ unwrap_or (value_merit slot.preference (value_in words i)) (merit_in (drop (i + 1) slots) (drop (i + 1) (state_in words).values))
  merit_step = rw (drop_more slots i slot h, drop_more (state_in words).values i (value_in words i) in_values, ← e, value_at words i (value_in words i) inside) refl

pub least_step : (slots : List Slot) (a b : List ℕ) → Fits slots a → Fits slots b → (i : ℕ) (slot : Slot) → i < length slots → slot ≡ get_or slots i slot → are_at_least (drop i slots) (drop i (state_in a).values) (drop i (state_in b).values) ≡ (is_at_least slot.preference (value_in a i) (value_in b i) && are_at_least (drop (i + 1) slots) (drop (i + 1) (state_in a).values) (drop (i + 1) (state_in b).values))
least_step slots a b f g i slot h e = at_least_more slots (state_in a).values (state_in b).values i slot (value_in a i) (value_in b i) h (in_values slots a f i slot h e) (in_values slots b g i slot h e) e (sym (value_at a i (value_in a i) (inside slots a f i slot h e))) (sym (value_at b i (value_in b i) (inside slots b g i slot h e)))

-- states whose values are the same
pub states_same : (slots : List Slot) (a b : List ℕ) → Fits slots a → Fits slots b → ((i : ℕ) → i < length slots → value_in a i ≡ value_in b i) → state_in a ≡ state_in b
states_same slots a b f g same =
    let e : count_in a ≡ count_in b = f.count ∙ sym g.count in
    let values : (state_in a).values ≡ map (value_in b) (range_with_len 0 (count_in b)) = fill_by_all (value_in b) (state_in a).values (count_in b) (value_in a 0) (values_length a ∙ e) (λ k u. value_at a k (value_in a 0) (omega (arith, e)) ∙ same k (omega (arith, g.count))) in
    let state : List PlainValue → PlainState = λ xs. record { values = xs } in
    ap state values

pub value_from_states : (a b : List ℕ) (i : ℕ) → i < count_in a → i < count_in b → state_in a ≡ state_in b → value_in a i ≡ value_in b i
value_from_states a b i h k same = sym (value_at a i (value_in a i) h) ∙ ap (λ (s : PlainState). get_or s.values i (value_in a i)) same ∙ value_at b i (value_in a i) k

-- ---- steps of the loops, at what the code reads as the slot

pub read_again : (slots : List Slot) (i : ℕ) (d : Slot) → i < length slots → get_or slots i d ≡ get_or slots i (get_or slots i d)
read_again slots i d h = get_or_default slots i d (get_or slots i d) h

module _ (slots : List Slot) (words : List ℕ) (fits : Fits slots words) (i : ℕ) (d : Slot) (h : i < length slots) where
  pub hash_step : (hash hashed all : ℕ) → hashed ≡ hash_onto hash (value_words (get_or slots i d) (value_in words i)) → hash_onto hash (signature_in (drop i slots) (drop i (state_in words).values)) ≡ all → hash_onto hashed (signature_in (drop (i + 1) slots) (drop (i + 1) (state_in words).values)) ≡ all
  hash_step hash hashed all e f =
      let rest : List ℕ = signature_in (drop (i + 1) slots) (drop (i + 1) (state_in words).values) in
      ap (λ (x : ℕ). hash_onto x rest) e ∙ sym (hash_append hash (value_words (get_or slots i d) (value_in words i)) rest) ∙ ap (hash_onto hash) (sym (signature_step slots words fits i (get_or slots i d) h (read_again slots i d h))) ∙ f

  pub whole_hash_step : (hash hashed all : ℕ) (slot : Slot) → slot ≡ without_preference (get_or slots i d) → hashed ≡ hash_onto hash (value_words slot (value_in words i)) → hash_onto hash (signature_in (map without_preference (drop i slots)) (drop i (state_in words).values)) ≡ all → hash_onto hashed (signature_in (map without_preference (drop (i + 1) slots)) (drop (i + 1) (state_in words).values)) ≡ all
  whole_hash_step hash hashed all slot g e f =
      let rest : List ℕ = signature_in (map without_preference (drop (i + 1) slots)) (drop (i + 1) (state_in words).values) in
      ap (λ (x : ℕ). hash_onto x rest) (e ∙ ap (λ (x : Slot). hash_onto hash (value_words x (value_in words i))) g) ∙ sym (hash_append hash (value_words (without_preference (get_or slots i d)) (value_in words i)) rest) ∙ ap (hash_onto hash) (sym (whole_step slots words fits i (get_or slots i d) h (read_again slots i d h))) ∙ f

  pub key_next : (key mixed all : ℕ) → mixed ≡ key_onto key (value_words (get_or slots i d) (value_in words i)) → key_onto key (signature_in (drop i slots) (drop i (state_in words).values)) ≡ all → key_onto mixed (signature_in (drop (i + 1) slots) (drop (i + 1) (state_in words).values)) ≡ all
  key_next key mixed all e f =
      let rest : List ℕ = signature_in (drop (i + 1) slots) (drop (i + 1) (state_in words).values) in
      ap (λ (x : ℕ). key_onto x rest) e ∙ sym (key_append key (value_words (get_or slots i d) (value_in words i)) rest) ∙ ap (key_onto key) (sym (signature_step slots words fits i (get_or slots i d) h (read_again slots i d h))) ∙ f

  pub whole_key_next : (key mixed all : ℕ) (slot : Slot) → slot ≡ without_preference (get_or slots i d) → mixed ≡ key_onto key (value_words slot (value_in words i)) → key_onto key (signature_in (map without_preference (drop i slots)) (drop i (state_in words).values)) ≡ all → key_onto mixed (signature_in (map without_preference (drop (i + 1) slots)) (drop (i + 1) (state_in words).values)) ≡ all
  whole_key_next key mixed all slot g e f =
      let rest : List ℕ = signature_in (map without_preference (drop (i + 1) slots)) (drop (i + 1) (state_in words).values) in
      ap (λ (x : ℕ). key_onto x rest) (e ∙ ap (λ (x : Slot). key_onto key (value_words x (value_in words i))) g) ∙ sym (key_append key (value_words (without_preference (get_or slots i d)) (value_in words i)) rest) ∙ ap (key_onto key) (sym (whole_step slots words fits i (get_or slots i d) h (read_again slots i d h))) ∙ f

  pub words_step : (old new all : List ℕ) → new ≡ old ++ value_words (get_or slots i d) (value_in words i) → old ++ signature_in (drop i slots) (drop i (state_in words).values) ≡ all → new ++ signature_in (drop (i + 1) slots) (drop (i + 1) (state_in words).values) ≡ all
  words_step old new all e f =
      let rest : List ℕ = signature_in (drop (i + 1) slots) (drop (i + 1) (state_in words).values) in
      ap (λ (x : List ℕ). x ++ rest) e ∙ append_assoc old (value_words (get_or slots i d) (value_in words i)) rest ∙ ap (λ (x : List ℕ). old ++ x) (sym (signature_step slots words fits i (get_or slots i d) h (read_again slots i d h))) ∙ f

  pub merit_past : (r : Option ℤ) (all : ℤ) → r ≡ value_merit (get_or slots i d).preference (value_in words i) → r ≡ None → merit_in (drop i slots) (drop i (state_in words).values) ≡ all → merit_in (drop (i + 1) slots) (drop (i + 1) (state_in words).values) ≡ all
  merit_past r all e f g = ap (λ (x : Option ℤ). unwrap_or x (merit_in (drop (i + 1) slots) (drop (i + 1) (state_in words).values))) (sym f ∙ e) ∙ sym (merit_step slots words fits i (get_or slots i d) h (read_again slots i d h)) ∙ g

  pub merit_here : (n : ℤ) (r : Option ℤ) (all : ℤ) → r ≡ value_merit (get_or slots i d).preference (value_in words i) → r ≡ Some n → merit_in (drop i slots) (drop i (state_in words).values) ≡ all → n ≡ all
  merit_here n r all e f g = ap (λ (x : Option ℤ). unwrap_or x (merit_in (drop (i + 1) slots) (drop (i + 1) (state_in words).values))) (sym f ∙ e) ∙ sym (merit_step slots words fits i (get_or slots i d) h (read_again slots i d h)) ∙ g

module _ (slots : List Slot) (a b : List ℕ) (left : Fits slots a) (right : Fits slots b) (i : ℕ) (d : Slot) where
  pub least_goes : i < length slots → (r all : Bool) → r ≡ is_at_least (get_or slots i d).preference (value_in a i) (value_in b i) → r ≡ true → are_at_least (drop i slots) (drop i (state_in a).values) (drop i (state_in b).values) ≡ all → are_at_least (drop (i + 1) slots) (drop (i + 1) (state_in a).values) (drop (i + 1) (state_in b).values) ≡ all
  least_goes h r all e f g = ap (λ (x : Bool). x && are_at_least (drop (i + 1) slots) (drop (i + 1) (state_in a).values) (drop (i + 1) (state_in b).values)) (sym f ∙ e) ∙ sym (least_step slots a b left right i (get_or slots i d) h (read_again slots i d h)) ∙ g

  pub least_fails : i < length slots → (r all : Bool) → r ≡ is_at_least (get_or slots i d).preference (value_in a i) (value_in b i) → r ≡ false → are_at_least (drop i slots) (drop i (state_in a).values) (drop i (state_in b).values) ≡ all → false ≡ all
  least_fails h r all e f g = ap (λ (x : Bool). x && are_at_least (drop (i + 1) slots) (drop (i + 1) (state_in a).values) (drop (i + 1) (state_in b).values)) (sym f ∙ e) ∙ sym (least_step slots a b left right i (get_or slots i d) h (read_again slots i d h)) ∙ g

  pub least_done : length slots ≤ i → (all : Bool) → are_at_least (drop i slots) (drop i (state_in a).values) (drop i (state_in b).values) ≡ all → true ≡ all
  least_done h all g =
      let values_a : length (state_in a).values ≤ i = omega (arith, values_length a, left.count) in
      let values_b : length (state_in b).values ≤ i = omega (arith, values_length b, right.count) in
      sym (rw (drop_all i slots h, drop_all i (state_in a).values values_a, drop_all i (state_in b).values values_b) refl) ∙ g

-- ---- one value

pub decided : (r t : Bool) (P : Type 0) → (IsTrue r ↔ P) → Decides t P → r ≡ t
decided true true P e d = refl
decided true false P e d = sym (d.1 (e.0 refl))
decided false true P e d = e.1 (d.0 refl)
decided false false P e d = refl

module _ (a b : List ℕ) (place : ℕ) (left : holds_set a place ≡ true) (right : holds_set b place ≡ true) (r : Bool) (same : IsTrue r ↔ (members_in a place ≡ members_in b place)) where
  pub set_values_same : IsTrue r ↔ (value_in a place ≡ value_in b place)
  set_values_same = (λ h. value_set a place left ∙ ap Members (same.0 h) ∙ sym (value_set b place right), λ h. same.1 (members_from (members_in a place) (members_in b place) (sym (value_set a place left) ∙ h ∙ value_set b place right)))

  pub set_at_most : r ≡ is_at_most (value_in a place) (value_in b place)
  set_at_most = decided r (pointwise nat_eq (members_in a place) (members_in b place)) (members_in a place ≡ members_in b place) same (slice_eq-Decides Decides-eqb (members_in a place) (members_in b place) (pointwise nat_eq (members_in a place) (members_in b place)) refl) ∙ sym (ap (λ (x : PlainValue). is_at_most x (value_in b place)) (value_set a place left) ∙ ap (λ (x : PlainValue). is_at_most (Members (members_in a place)) x) (value_set b place right))

no_merit : (p : Preference) (set : List ℕ) → None ≡ value_merit p (Members set)
no_merit Without set = refl
no_merit Less set = refl
no_merit Greater set = refl

pub set_merit : (words : List ℕ) (place : ℕ) (p : Preference) → holds_set words place ≡ true → None ≡ value_merit p (value_in words place)
set_merit words place p h = no_merit p (members_in words place) ∙ ap (value_merit p) (sym (value_set words place h))

pub set_value_words : (words : List ℕ) (place : ℕ) (slot : Slot) → holds_set words place ≡ true → set_words slot.count (members_in words place) ≡ value_words slot (value_in words place)
set_value_words words place slot h = ap (value_words slot) (sym (value_set words place h))

pub number_value_words : (words : List ℕ) (place : ℕ) (slot : Slot) → holds_set words place ≡ false → is_without slot.preference ≡ true → ((k : ℕ) → get_or words k 0 < 2 ^ 64) → word_in words place 0 ∷ [] ≡ value_words slot (value_in words place)
number_value_words words place slot h e small = sym (ap (value_words slot) (value_number words place h) ∙ rw (e, unsigned_word words place 0 small) refl)

pub no_value_words : (words : List ℕ) (place : ℕ) (slot : Slot) → holds_set words place ≡ false → is_without slot.preference ≡ false → [] ≡ value_words slot (value_in words place)
no_value_words words place slot h e = sym (ap (value_words slot) (value_number words place h) ∙ rw e refl)

pub hash_one : (hash word : ℕ) → fold hash_byte hash (to_le_bytes w64 word) ≡ hash_onto hash (word ∷ [])
hash_one hash word = sym (ap (fold hash_byte hash) (append-nil (to_le_bytes w64 word)))

-- ---- what the words of a packed state fit

holds_kind : (objects : List ObjectType) (kind : VarKind) (p : Preference) (rank sets : ℕ) (x : PlainValue) → may_hold objects kind x ≡ true → holds_by (record { kind = kind; count = kind_count objects kind; preference = p; rank = rank; sets = sets }) x ≡ true
holds_kind objects kinds.Integer p rank sets (Number n) h = refl
holds_kind objects (kinds.Element o) p rank sets (Number n) h = refl
holds_kind objects (kinds.Set o) p rank sets (Members set) h = h
holds_kind objects kinds.Integer p rank sets (Members set) h = absurd (cc)
holds_kind objects (kinds.Element o) p rank sets (Members set) h = absurd (cc)
holds_kind objects (kinds.Set o) p rank sets (Number n) h = absurd (cc)

held_fits : (objects : List ObjectType) (sets rank : ℕ) (vs : List Variable) (xs : List PlainValue) → are_held objects vs xs ≡ true → (i : ℕ) (slot : Slot) (x : PlainValue) → i < length vs → slot ≡ get_or (slots_from objects sets rank vs) i slot → x ≡ get_or xs i x → holds_by slot x ≡ true
held_fits objects sets rank [] xs h i slot x l e f = absurd (omega arith)
held_fits objects sets rank (v ∷ vs) [] h i slot x l e f = absurd (cc)
held_fits objects sets rank (v ∷ vs) (y ∷ ys) h zero slot x l e f = rw (e, f) (holds_kind objects v.kind v.preference rank sets y (and_parts (may_hold objects v.kind y) (are_held objects vs ys) h).0)
held_fits objects sets rank (v ∷ vs) (y ∷ ys) h (suc i) slot x l e f = held_fits objects sets (rank_after rank v.kind) vs ys (and_parts (may_hold objects v.kind y) (are_held objects vs ys) h).1 i slot x (omega arith) e f

pub ascends_none : (least count m : ℕ) (set : List ℕ) → ascends least count set ≡ true → count ≤ m → has set m ≡ false
ascends_none least count m [] h l = refl
ascends_none least count m (k ∷ ks) h l =
    let rest = (and_parts (not (nat_lt k least)) (nat_lt k count && ascends (suc k) count ks) h).1 in
    let two = and_parts (nat_lt k count) (ascends (suc k) count ks) rest in
    let below : k < count = ltb-true k count two.0 in
    rw (ne_eqb m k (λ e. omega arith)) (ascends_none (suc k) count m ks two.1 l)

-- a slot holds a value, by its kind and below its count
slot_kind : (slot : Slot) (words : List ℕ) (i : ℕ) → holds_by slot (value_in words i) ≡ true → holds_set words i ≡ is_set slot.kind
slot_kind slot words i t = elim (cases_Bool (holds_set words i)) [
  | inl e ↦ e ∙ sym (and_parts (is_set slot.kind) (ascends 0 slot.count (members_in words i)) (sym (ap (holds_by slot) (value_set words i e)) ∙ t)).0
  | inr e ↦ e ∙ sym (not-true (is_set slot.kind) (sym (ap (holds_by slot) (value_number words i e)) ∙ t))
]

slot_below : (slot : Slot) (words : List ℕ) (i : ℕ) → i < count_in words → holds_by slot (value_in words i) ≡ true → (m : ℕ) → is_set slot.kind ≡ true → slot.count ≤ m → has_member words i m ≡ false
slot_below slot words i h t m is l =
    let e : holds_set words i ≡ true = slot_kind slot words i t ∙ is in
    let two = and_parts (is_set slot.kind) (ascends 0 slot.count (members_in words i)) (sym (ap (holds_by slot) (value_set words i e)) ∙ t) in
    sym (member_is_bit words i m h) ∙ ascends_none 0 slot.count m (members_in words i) two.1 l

pub few_variables : (m : Model) → length m.variables ≤ 1024
few_variables m = leb-true (length m.variables) 1024 (search (rules, m.few_names))

slots_long : (m : Model) (slots : List Slot) → slots ≡ slots_of m.objects m.variables → length slots ≡ length m.variables
slots_long m slots e = ap (λ (xs : List Slot). length xs) e ∙ slots_length m.objects (sets_among m.variables) 0 m.variables

pub few_slots : (m : Model) (slots : List Slot) → slots ≡ slots_of m.objects m.variables → length slots < 65536
few_slots m slots e = omega (arith, few_variables m, slots_long m slots e)

pub packed_fits : (layout : Layout) (p : PlainState) (words : List ℕ) → state_in words ≡ p → HasFirstRow words → IsPackedFor layout p → Fits layout words
packed_fits layout p words e row h =
    let m : Model = h.0 in
    let long : length p.values ≡ length layout = packed_length layout p h in
    let values : length (state_in words).values ≡ length p.values = ap (λ (s : PlainState). length s.values) e in
    let count : count_in words ≡ length layout = sym (values_length words) ∙ values ∙ long in
    let slots : length layout ≡ length m.variables = slots_long m layout h.1 in
    let few : length m.variables ≤ 1024 = few_variables m in
    let held : (i : ℕ) (slot : Slot) → i < length layout → slot ≡ get_or layout i slot → holds_by slot (value_in words i) ≡ true = λ i slot u f. held_fits m.objects (sets_among m.variables) 0 m.variables p.values h.2 i slot (value_in words i) (omega (arith, slots)) (subst (λ (xs : List Slot). slot ≡ get_or xs i slot) h.1 f) (sym (value_at words i (value_in words i) (omega (arith, count))) ∙ ap (λ (s : PlainState). get_or s.values i (value_in words i)) e) in
    let ranked : AreRanked layout = ranked_slots m.objects m.variables layout h.1 in
    let ranks : (n : ℕ) → n ≤ length layout → rank_in words n ≡ sets_before layout n = same_rank layout words no_slot (λ i u. slot_kind (get_or layout i no_slot) words i (held i (get_or layout i no_slot) u (get_or_default layout i no_slot (get_or layout i no_slot) u))) in
    record {
      count = count;
      few = omega (arith, slots, few);
      row = omega (arith, count, row);
      holds = λ i slot u f. record {
        inside = omega (arith, count);
        row = row;
        kind = slot_kind slot words i (held i slot u f);
        rank = ranked.rank i slot u f ∙ sym (ranks i (omega arith));
        sets = ranked.sets i slot u f ∙ sym (ap (λ (n : ℕ). rank_in words n) count ∙ ranks (length layout) (omega arith));
        below = λ k is l. slot_below slot words i (omega (arith, count)) (held i slot u f) k is l;
      };
    }

-- a state of the model holds what the slots may hold
pub state_held : (layout : Layout) (s : PlainState) → IsStateFor layout s → AreHeld layout s.values
state_held layout s h =
    let m : Model = h.0 in
    let slots : length layout ≡ length m.variables = slots_long m layout h.1 in
    record {
      long = packed_length layout s h;
      each = λ i slot x u e f. held_fits m.objects (sets_among m.variables) 0 m.variables s.values h.2 i slot x (omega (arith, slots)) (subst (λ (xs : List Slot). slot ≡ get_or xs i slot) h.1 e) f;
    }
