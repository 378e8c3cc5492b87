-- Tables that grow by free atoms, whose values are chosen.
use Rattle.std.specs.Prelude.{int_le}
use Rattle.std.proofs.Common.{◌≡◌, ℕ, suc, ◌<◌, ◌≤◌, inl, inr, Bool, true, false, List, [], ◌∷◌, ◌++◌, length, slice_get, Option, Some, None, ℤ, pos, ◌≤ℤ◌, refl, sym, ap, ◌∙◌, subst, arith}
use Rattle.std.proofs.lemmas.Option.{slice_get_within}
use Rattle.std.proofs.lemmas.Bool.{and_parts}
use Rattle.std.proofs.lemmas.Int.{ints}
use Rattle.dp_model.specs.Evaluation.{has, set_held}
use Rattle.dp_model.specs.declared.parts.PlainState.{PlainState}
use Rattle.dp_model.specs.declared.parts.PlainValue.{PlainValue}
use Rattle.poly_terms.specs.declared.table.Atom.{Atom}
use Rattle.poly_terms.specs.declared.table.Atom.TheVariants.{Bit, Number, Most, Least, Over, AtMostZero}
use Rattle.poly_terms.specs.declared.terms.Term.{Term}
use Rattle.poly_terms.specs.declared.spans.Span.{Span}
use Rattle.poly_terms.specs.Worth.{worth, as_bit}
use Rattle.poly_terms.specs.Spans.{AtLeast, AtMost}
use Rattle.poly_terms.specs.Fits.{Fits, Meets}
use Rattle.poly_eval.specs.declared.symbols.Symbol.{Symbol}
use Rattle.poly_eval.specs.declared.symbols.Symbol.TheVariants as shown
use Rattle.poly_eval.specs.Shows.{Shows, ShowsValue}
use Rattle.poly_met.proofs.Tables.{put, put_other, put_same}
use Rattle.honest_states.specs.Modes.{is_from, is_to, is_between, is_so}
use Rattle.honest_states.specs.Symbols.{is_free_kind, AreFree, CanShow, Opens}
use Rattle.honest_states.proofs.Lists.{get_last, get_front, get_here, length_last}

-- what a free atom may be does not rest on the others
pub meets_free : (v w : ℕ → ℤ) (a : Atom) (x : ℤ) → is_free_kind a ≡ true → Meets v a x → Meets w a x
meets_free v w Bit x h m = m
meets_free v w (Number low high) x h m = m
meets_free v w (Most p q) x h m = absurd (cc)
meets_free v w (Least p q) x h m = absurd (cc)
meets_free v w (Over p d) x h m = absurd (cc)
meets_free v w (AtMostZero p) x h m = absurd (cc)

pub free_more : (table : List Atom) (atom : Atom) → is_free_kind atom ≡ true → AreFree table → AreFree (table ++ atom ∷ [])
free_more table atom free all k a e = elim (get_last table atom k a e) [
  | inl h ↦ all k a h
  | inr h ↦ subst (λ (b : Atom). is_free_kind b ≡ true) (sym h.1) free
]

-- one more free atom can have each value of its kind
pub fits_more : (table : List Atom) (atom : Atom) (v : ℕ → ℤ) (x : ℤ) → AreFree table → is_free_kind atom ≡ true → Meets v atom x → Fits table v → Fits (table ++ atom ∷ []) (put v (length table) x)
fits_more table atom v x all free meets fits k a e =
    let w = put v (length table) x in
    elim (get_last table atom k a e) [
      | inl h ↦ subst (Meets w a) (sym (put_other v (length table) x k (slice_get_within table k a h))) (meets_free v w a (v k) (all k a h) (fits k a h))
      | inr h ↦
          subst (λ (b : Atom). Meets w b (w k)) (sym h.1)
          (subst (λ (j : ℕ). Meets w atom (w j)) (sym h.0)
          (subst (Meets w atom) (sym (put_same v (length table) x)) (meets_free v w atom x free meets)))
    ]

le_self : (n : ℕ) → n ≤ n
le_self n = omega arith

le_one : (n : ℕ) → n < suc n
le_one n = omega arith

le_more : (n m : ℕ) → m ≡ suc n → n ≤ m
le_more n m e = omega (arith, e)

lt_more : (n m : ℕ) → m ≡ suc n → n < m
lt_more n m e = omega (arith, e)

le_trans : (a b c : ℕ) → a ≤ b → b ≤ c → a ≤ c
le_trans a b c h g = omega (arith, h, g)

lt_le : (k a b : ℕ) → k < a → a ≤ b → k < b
lt_le k a b h g = omega (arith, h, g)

-- a table that stays as it is: what is said holds of all values
pub opens_same : (table : List Atom) (P : (ℕ → ℤ) → Type 0) → ((v : ℕ → ℤ) → P v) → Opens table table P
opens_same table P holds = record { longer = le_self (length table); rests = λ v w agree p. holds w; chosen = λ free v fits. (v, fits, λ k lt. refl, holds v) }

-- one more atom whose value is this
pub opens_one : (table : List Atom) (atom : Atom) (x : ℤ) (p : List Term) → is_free_kind atom ≡ true → ((v : ℕ → ℤ) → Meets v atom x) → ((v : ℕ → ℤ) → worth v p ≡ v (length table))
    → Opens table (table ++ atom ∷ []) (λ v. x ≡ worth v p)
opens_one table atom x p free meets is = record {
  longer = le_more (length table) (length (table ++ atom ∷ [])) (length_last table atom);
  rests = λ v w agree e. e ∙ is v ∙ sym (agree (length table) (lt_more (length table) (length (table ++ atom ∷ [])) (length_last table atom))) ∙ sym (is w);
  chosen = λ all v fits. (
    put v (length table) x,
    fits_more table atom v x all free (meets v) fits,
    put_other v (length table) x,
    sym (is (put v (length table) x) ∙ put_same v (length table) x),
  );
}

-- what holds after one growth and after another holds together
pub opens_more : (a b c : List Atom) (P Q R : (ℕ → ℤ) → Type 0) → (AreFree a → AreFree b) → ((v : ℕ → ℤ) → P v → Q v → R v) → ((v : ℕ → ℤ) → R v → P v) → ((v : ℕ → ℤ) → R v → Q v)
    → Opens a b P → Opens b c Q → Opens a c R
opens_more a b c P Q R stays both first second one two = record {
  longer = le_trans (length a) (length b) (length c) one.longer two.longer;
  rests = λ v w agree r. both w (one.rests v w (λ k lt. agree k (lt_le k (length b) (length c) lt two.longer)) (first v r)) (two.rests v w agree (second v r));
  chosen = λ free v fits.
      let u = one.chosen free v fits in
      let w = two.chosen (stays free) u.0 u.1 in (
        w.0,
        w.1,
        λ k lt. w.2 k (lt_le k (length a) (length b) lt one.longer) ∙ u.2 k lt,
        both w.0 (one.rests u.0 w.0 w.2 u.3) w.3,
      );
}

from_test : (a b : ℤ) → int_le a b ≡ true → a ≤ℤ b
from_test a b h = grind (arith, ints)

-- a number between the ends, as an atom's value
at_least : (low : Option ℤ) (x : ℤ) → is_from low x ≡ true → AtLeast low x
at_least None x h = tt
at_least (Some low) x h = from_test low x h

at_most : (high : Option ℤ) (x : ℤ) → is_to high x ≡ true → AtMost high x
at_most None x h = tt
at_most (Some high) x h = from_test x high h

pub number_meets : (span : Span) (x : ℤ) → is_between span x ≡ true → (v : ℕ → ℤ) → Meets v (Number span.low span.high) x
number_meets span x h v =
    let parts = and_parts (is_from span.low x) (is_to span.high x) h in
    (at_least span.low x parts.0, at_most span.high x parts.1)

pub bit_meets : (b : Bool) (v : ℕ → ℤ) → Meets v Bit (as_bit b)
bit_meets true v = inr refl
bit_meets false v = inl refl

-- the same where the table is told by an equation
pub opens_put : (old new : List Atom) (atom : Atom) (x : ℤ) (p : List Term) → new ≡ old ++ atom ∷ [] → is_free_kind atom ≡ true → ((v : ℕ → ℤ) → Meets v atom x) → ((v : ℕ → ℤ) → worth v p ≡ v (length old)) → Opens old new (λ v. x ≡ worth v p)
opens_put old new atom x p e free meets is = subst (λ (ts : List Atom). Opens old ts (λ v. x ≡ worth v p)) (sym e) (opens_one old atom x p free meets is)

-- what is known of a member, where that is all
known_true : (x b : Bool) → x ≡ true → is_so (Some x) b ≡ true → b ≡ true
known_true true b h so = so
known_true false b h so = absurd (cc)

known_false : (x b : Bool) → x ≡ false → is_so (Some x) b ≡ true → b ≡ false
known_false true b h so = absurd (cc)
known_false false true h so = absurd (cc)
known_false false false h so = refl

pub so_true : (known : Option Bool) (x b : Bool) → known ≡ Some x → x ≡ true → is_so known b ≡ true → b ≡ true
so_true known x b e h so = known_true x b h (subst (λ (k : Option Bool). is_so k b ≡ true) e so)

pub so_false : (known : Option Bool) (x b : Bool) → known ≡ Some x → x ≡ false → is_so known b ≡ true → b ≡ false
so_false known x b e h so = known_false x b h (subst (λ (k : Option Bool). is_so k b ≡ true) e so)

both_ends : (low high x : ℤ) → low ≡ high → low ≤ℤ x → x ≤ℤ high → x ≡ low
both_ends low high x e h k = omega (arith, ints, e, h, k)

-- a number whose both ends are one
pub point_is : (span : Span) (low high x : ℤ) → span.low ≡ Some low → span.high ≡ Some high → low ≡ high → is_between span x ≡ true → x ≡ low
point_is span low high x l h e held =
    let parts = and_parts (is_from span.low x) (is_to span.high x) held in
    both_ends low high x e (from_test low x (subst (λ (o : Option ℤ). is_from o x ≡ true) l parts.0)) (from_test x high (subst (λ (o : Option ℤ). is_to o x ≡ true) h parts.1))

-- one more bit
pub bits_more : (a b c : List Atom) (bits grown : List (List Term)) (p : List Term) (held : Option PlainValue) (j : ℕ) → grown ≡ bits ++ p ∷ [] → length bits ≡ j → (AreFree a → AreFree b)
    → Opens a b (λ v. ShowsValue v (shown.Members bits) held) → Opens b c (λ v. as_bit (has (set_held held) j) ≡ worth v p) → Opens a c (λ v. ShowsValue v (shown.Members grown) held)
bits_more a b c bits grown p held j e len free one two =
    subst (λ (g : List (List Term)). Opens a c (λ v. ShowsValue v (shown.Members g) held)) (sym e)
    (opens_more a b c (λ v. ShowsValue v (shown.Members bits) held) (λ v. as_bit (has (set_held held) j) ≡ worth v p) (λ v. ShowsValue v (shown.Members (bits ++ p ∷ [])) held) free
    (λ v ps q k r h. elim (get_last bits p k r h) [
      | inl g ↦ ps k r g
      | inr g ↦ ap (λ (n : ℕ). as_bit (has (set_held held) n)) (g.0 ∙ len) ∙ q ∙ ap (worth v) (sym g.1)
    ])
    (λ v rs k r h. rs k r (get_front bits (p ∷ []) k r h))
    (λ v rs. subst (λ (n : ℕ). as_bit (has (set_held held) n) ≡ worth v p) len (rs (length bits) p (get_here bits p []))) one two)

-- one more symbol
pub symbols_more : (a b c : List Atom) (symbols grown : List Symbol) (x : Symbol) (s : PlainState) (j : ℕ) → grown ≡ symbols ++ x ∷ [] → length symbols ≡ j → (AreFree a → AreFree b)
    → Opens a b (λ v. Shows v symbols s) → Opens b c (λ v. ShowsValue v x (slice_get s.values j)) → Opens a c (λ v. Shows v grown s)
symbols_more a b c symbols grown x s j e len free one two =
    subst (λ (g : List Symbol). Opens a c (λ v. Shows v g s)) (sym e)
    (opens_more a b c (λ v. Shows v symbols s) (λ v. ShowsValue v x (slice_get s.values j)) (λ v. Shows v (symbols ++ x ∷ []) s) free
    (λ v ps q k y h. elim (get_last symbols x k y h) [
      | inl g ↦ ps k y g
      | inr g ↦ subst (λ (z : Symbol). ShowsValue v z (slice_get s.values k)) (sym g.1) (subst (λ (n : ℕ). ShowsValue v x (slice_get s.values n)) (sym (g.0 ∙ len)) q)
    ])
    (λ v rs k y h. rs k y (get_front symbols (x ∷ []) k y h))
    (λ v rs. subst (λ (n : ℕ). ShowsValue v x (slice_get s.values n)) len (rs (length symbols) x (get_here symbols x []))) one two)

-- symbols over a table from nothing can show the state
pub opened_shows : (table : List Atom) (symbols : List Symbol) (s : PlainState) → Opens [] table (λ v. Shows v symbols s) → CanShow table symbols s
opened_shows table symbols s opens =
    let w = opens.chosen (λ k a e. absurd (none k a e)) (λ k. pos 0) (λ k a e. absurd (none k a e)) in
    (w.0, w.1, w.3)
  where
    none : (k : ℕ) (a : Atom) → slice_get [] k ≡ Some a → ⊥
    none k a e = cc

pub no_bits : (table : List Atom) (bits : List (List Term)) (held : Option PlainValue) → bits ≡ [] → Opens table table (λ v. ShowsValue v (shown.Members bits) held)
no_bits table bits held e = subst (λ (xs : List (List Term)). Opens table table (λ v. ShowsValue v (shown.Members xs) held)) (sym e) (opens_same table (λ v. ShowsValue v (shown.Members []) held) (λ v k p h. absurd (none k p h)))
  where
    none : (k : ℕ) (p : List Term) → slice_get [] k ≡ Some p → ⊥
    none k p e = cc

pub no_symbols : (table old : List Atom) (symbols : List Symbol) (s : PlainState) → symbols ≡ [] → table ≡ old → Opens old table (λ v. Shows v symbols s)
no_symbols table old symbols s e f =
    subst (λ (ts : List Atom). Opens old ts (λ v. Shows v symbols s)) (sym f)
    (subst (λ (xs : List Symbol). Opens old old (λ v. Shows v xs s)) (sym e) (opens_same old (λ v. Shows v [] s) (λ v k x h. absurd (none k x h))))
  where
    none : (k : ℕ) (x : Symbol) → slice_get [] k ≡ Some x → ⊥
    none k x e = cc

pub free_none : (table : List Atom) → table ≡ [] → AreFree table
free_none table e = subst AreFree (sym e) (λ k a h. absurd (none k a h))
  where
    none : (k : ℕ) (a : Atom) → slice_get [] k ≡ Some a → ⊥
    none k a e = cc
