-- The bytes of a written tree: UTF-8, no line feed, and at the end no blank.
use Rattle.std.proofs.Common.{◌≡◌, ℕ, zero, suc, ◌<◌, ◌≤◌, Bool, true, false, not, ◌==◌, List, [], ◌∷◌, ◌++◌, length, get_or, map, IsUtf8, ◌⊎◌, inl, inr, refl, sym, ap, ◌∙◌, subst, arith, append_assoc, append-nil}
use Rattle.std.specs.List.{All, list_all}
use Rattle.std.proofs.lemmas.Bool.{and_parts, and_from, cases_lt, ne_eqb}
use Rattle.std.proofs.lemmas.List.Elements.{All-head, All-tail, All-weaker}
use Rattle.std.proofs.lemmas.Str.{IsUtf8-append, IsUtf8-nil, IsUtf8-encode, IsUtf8-from_ascii, encode_ascii, inside_one}
use Rattle.std.proofs.lemmas.Str.Ascii.{IsAscii-nil, IsAscii-cons}
use lib.Utf8.{scalar, scalars, encode, encodes}
use Rattle.dp_base.specs.Bytes.{is_blank}
use Rattle.yaml_tree.specs.declared.tree.Tree.{Tree}
use Rattle.yaml_tree.specs.declared.tree.Tree as trees
use Rattle.yaml_tree.specs.declared.tree.Pair.{Pair}
use Rattle.content_laws.specs.Writing.{Style, is_plain_byte, scalar_by, stands_plain, colon_gap, written_byte, between_quotes, spaces, with_commas, in_brackets, written, IsNoMap, WritableForm, IsWritableIn}
use Rattle.content_laws.proofs.WrittenPlain.{other, plain_end}
use Rattle.content_laws.proofs.WrittenScalars.{IsEscaped, IsPlain, written_as, in_quotes}
use Rattle.content_laws.proofs.WrittenForms.{its_plain, written_pair, written_form, written-form, written-pair}

-- ---- UTF-8 without a line feed

abbrev pub no_feed : ℕ → Bool
no_feed byte = not (byte == 10)

pub record IsLine (text : List ℕ) : Type 0 where
  pub utf8 : IsUtf8 text
  pub no_feeds : list_all no_feed text ≡ true

pub none_fed : (xs ys : List ℕ) → list_all no_feed xs ≡ true → list_all no_feed ys ≡ true → list_all no_feed (xs ++ ys) ≡ true
none_fed [] ys a b = b
none_fed (x ∷ xs) ys a b =
    let parts = and_parts (no_feed x) (list_all no_feed xs) a in
    and_from (no_feed x) (list_all no_feed (xs ++ ys)) parts.0 (none_fed xs ys parts.1 b)

pub both : (xs ys : List ℕ) → IsLine xs → IsLine ys → IsLine (xs ++ ys)
both xs ys a b = record { utf8 = IsUtf8-append xs ys a.utf8 b.utf8; no_feeds = none_fed xs ys a.no_feeds b.no_feeds }

pub empty_line : IsLine []
empty_line = record { utf8 = IsUtf8-nil; no_feeds = refl }

pub one_utf8 : (byte : ℕ) → byte < 128 → IsUtf8 (byte ∷ [])
one_utf8 byte low = IsUtf8-from_ascii (byte ∷ []) (IsAscii-cons byte [] low IsAscii-nil)

pub one_line : (byte : ℕ) → byte < 128 → no_feed byte ≡ true → IsLine (byte ∷ [])
one_line byte low plain = record { utf8 = one_utf8 byte low; no_feeds = and_from (no_feed byte) true plain refl }

pub spaces_line : (n : ℕ) → IsLine (spaces n)
spaces_line zero = empty_line
spaces_line (suc n) = both (32 ∷ []) (spaces n) (one_line 32 (omega arith) refl) (spaces_line n)

-- ---- between quotes

quoted_both : (xs ys : List ℕ) → between_quotes (xs ++ ys) ≡ between_quotes xs ++ between_quotes ys
quoted_both [] ys = refl
quoted_both (x ∷ xs) ys = ap (λ (l : List ℕ). written_byte x ++ l) (quoted_both xs ys) ∙ sym (append_assoc (written_byte x) (between_quotes xs) (between_quotes ys))

high_byte : (byte : ℕ) → 128 ≤ byte → written_byte byte ≡ byte ∷ []
high_byte byte high =
    rw (ne_eqb byte 34 (λ e. omega arith), ne_eqb byte 92 (λ e. omega arith), ne_eqb byte 47 (λ e. omega arith), ne_eqb byte 10 (λ e. omega arith), ne_eqb byte 9 (λ e. omega arith)) refl

quoted_high : (xs : List ℕ) → ((k : ℕ) → k < length xs → 128 ≤ get_or xs k 0) → between_quotes xs ≡ xs
quoted_high [] high = refl
quoted_high (x ∷ xs) high =
    let first : 128 ≤ x = high 0 (omega arith) in
    let others : between_quotes xs ≡ xs = quoted_high xs (λ k below. high (suc k) (omega arith)) in
    λ i. high_byte x first i ++ others i

written_utf8 : (byte : ℕ) → byte < 128 → IsEscaped byte ⊎ IsPlain byte → IsUtf8 (written_byte byte)
written_utf8 byte low (inl e) = subst IsUtf8 (sym e.is) (IsUtf8-append (92 ∷ []) (e.second ∷ []) (one_utf8 92 (omega arith)) (one_utf8 e.second e.low))
written_utf8 byte low (inr p) = subst IsUtf8 (sym p.is) (one_utf8 byte low)

quoted_low : (c : ℕ) → c < 128 → IsUtf8 (between_quotes (encode c))
quoted_low c low =
    subst (λ (l : List ℕ). IsUtf8 (between_quotes l)) (sym (encode_ascii c low))
    (subst IsUtf8 (sym (append-nil (written_byte c))) (written_utf8 c low (written_as c)))

quoted_char : (c : ℕ) → scalar c ≡ true → IsUtf8 (between_quotes (encode c))
quoted_char c ok = elim (cases_lt c 128) [
  | inl small ↦ quoted_low c small
  | inr big ↦
      let high : (k : ℕ) → k < length (encode c) → 128 ≤ get_or (encode c) k 0 = λ k below. elim (cases_lt (get_or (encode c) k 0) 128) [
        | inl low ↦ absurd (omega (arith, inside_one c [] (encode c) k (sym (append-nil _)) below low))
        | inr h ↦ h
      ] in
      subst IsUtf8 (sym (quoted_high (encode c) high)) (IsUtf8-encode c ok)
]

quoted_chars : (cs : List ℕ) → scalars cs ≡ true → IsUtf8 (between_quotes (encodes cs))
quoted_chars [] e = IsUtf8-nil
quoted_chars (c ∷ cs) e =
    let parts = and_parts (scalar c) (scalars cs) e in
    subst IsUtf8 (sym (quoted_both (encode c) (encodes cs))) (IsUtf8-append _ _ (quoted_char c parts.0) (quoted_chars cs parts.1))

written_no_feed : (byte : ℕ) → IsEscaped byte ⊎ IsPlain byte → list_all no_feed (written_byte byte) ≡ true
written_no_feed byte (inl e) = ap (list_all no_feed) e.is ∙ and_from (no_feed e.second) true (ap not e.no_feed) refl
written_no_feed byte (inr p) = ap (list_all no_feed) p.is ∙ and_from (no_feed byte) true (ap not p.no_feed) refl

quoted_no_feed : (text : List ℕ) → list_all no_feed (between_quotes text) ≡ true
quoted_no_feed [] = refl
quoted_no_feed (byte ∷ text) = none_fed (written_byte byte) (between_quotes text) (written_no_feed byte (written_as byte)) (quoted_no_feed text)

quoted_line : (text : List ℕ) → IsUtf8 text → IsLine (in_quotes text)
quoted_line text u =
    let inside : IsLine (between_quotes text) = record { utf8 = subst (λ (l : List ℕ). IsUtf8 (between_quotes l)) u.1.1 (quoted_chars u.0 u.1.0); no_feeds = quoted_no_feed text } in
    both (34 ∷ []) (between_quotes text ++ 34 ∷ []) (one_line 34 (omega arith) refl) (both (between_quotes text) (34 ∷ []) inside (one_line 34 (omega arith) refl))

plain_no_feed : (text : List ℕ) → list_all is_plain_byte text ≡ true → list_all no_feed text ≡ true
plain_no_feed [] inside = refl
plain_no_feed (x ∷ xs) inside =
    let parts = and_parts (is_plain_byte x) (list_all is_plain_byte xs) inside in
    and_from (no_feed x) (list_all no_feed xs) (ap not (other is_plain_byte x 10 parts.0 refl)) (plain_no_feed xs parts.1)

-- ---- between brackets

commas_line : {A : Type 0} (n : ℕ) (text : A → List ℕ) (xs : List A) → All (λ (x : A). IsLine (text x)) xs → IsLine (with_commas n (map text xs))
commas_line n text [] all = empty_line
commas_line n text (x ∷ []) all = All-head (λ x. IsLine (text x)) x [] all
commas_line n text (x ∷ y ∷ ys) all =
    both (text x) (44 ∷ (spaces n ++ with_commas n (map text (y ∷ ys)))) (All-head (λ x. IsLine (text x)) x (y ∷ ys) all)
    (both (44 ∷ []) (spaces n ++ with_commas n (map text (y ∷ ys))) (one_line 44 (omega arith) refl)
    (both (spaces n) (with_commas n (map text (y ∷ ys))) (spaces_line n) (commas_line n text (y ∷ ys) (All-tail (λ x. IsLine (text x)) x (y ∷ ys) all))))

brackets_line : (n first last : ℕ) (text : List ℕ) → IsLine (first ∷ []) → IsLine (last ∷ []) → IsLine text → IsLine (in_brackets n first last text)
brackets_line n first last text a b inside =
    both (first ∷ []) (spaces n ++ (text ++ (spaces n ++ last ∷ []))) a
    (both (spaces n) (text ++ (spaces n ++ last ∷ [])) (spaces_line n)
    (both text (spaces n ++ last ∷ []) inside (both (spaces n) (last ∷ []) (spaces_line n) b)))

-- ---- trees

module _ (s : Style) where
  pair_line : (pair : Pair) → IsLine (written s pair.key) → IsLine (written s pair.value) → IsLine (written_pair s pair)
  pair_line pair key value =
      subst IsLine (sym (written-pair s pair))
      (both (written s pair.key) (58 ∷ (spaces (colon_gap s) ++ written s pair.value)) key
      (both (58 ∷ []) (spaces (colon_gap s) ++ written s pair.value) (one_line 58 (omega arith) refl) (both (spaces (colon_gap s)) (written s pair.value) (spaces_line (colon_gap s)) value)))

  scalar_line : (text : List ℕ) (b : Bool) → stands_plain s text ≡ b → IsUtf8 text → IsLine (scalar_by b text)
  scalar_line text true is u = record { utf8 = u; no_feeds = plain_no_feed text (its_plain s text is).inside }
  scalar_line text false is u = quoted_line text u

  form_line : (levels : ℕ) → ((tree : Tree) → IsWritableIn levels tree → IsLine (written s tree)) → (form : trees.Tree-F Tree Pair) → WritableForm (IsWritableIn levels) form → IsLine (written_form s form)
  form_line levels each (trees.Tree-F.Scalar at text) fit = scalar_line text (stands_plain s text) refl fit
  form_line levels each (trees.Tree-F.List at items) fit =
      brackets_line s.gap 91 93 (with_commas s.gap (map (written s) items)) (one_line 91 (omega arith) refl) (one_line 93 (omega arith) refl)
      (commas_line s.gap (written s) items (All-weaker (IsWritableIn levels) (λ tree. IsLine (written s tree)) each items fit))
  form_line levels each (trees.Tree-F.Map at entries) fit =
      brackets_line s.gap 123 125 (with_commas s.gap (map (written_pair s) entries)) (one_line 123 (omega arith) refl) (one_line 125 (omega arith) refl)
      (commas_line s.gap (written_pair s) entries
      (All-weaker (λ entry. IsWritableIn levels entry.key × IsNoMap entry.key × IsWritableIn levels entry.value) (λ pair. IsLine (written_pair s pair))
      (λ pair is. pair_line pair (each pair.key is.0) (each pair.value is.2)) entries fit.0))

  pub tree_line : (levels : ℕ) (tree : Tree) → IsWritableIn levels tree → IsLine (written s tree)
  unfolding IsWritableIn
  tree_line zero tree fit = absurd fit
  tree_line (suc levels) tree fit = subst IsLine (sym (written-form s tree (trees.out-Tree tree) refl)) (form_line levels (tree_line levels) (trees.out-Tree tree) fit)

  -- ---- the last byte

  pub record Ended (text : List ℕ) : Type 0 where
    pub front : List ℕ
    pub last : ℕ
    pub is : text ≡ front ++ last ∷ []
    pub no_blank : is_blank last ≡ false
    pub no_return : (last == 13) ≡ false

  ended_brackets : (first last : ℕ) (text : List ℕ) → is_blank last ≡ false → (last == 13) ≡ false → Ended (in_brackets s.gap first last text)
  ended_brackets first last text no_blank no_return = record {
    front = first ∷ (spaces s.gap ++ (text ++ spaces s.gap));
    last = last;
    is = ap (λ (l : List ℕ). first ∷ l) (simp append_assoc);
    no_blank = no_blank;
    no_return = no_return;
  }

  ended_scalar : (text : List ℕ) (b : Bool) → stands_plain s text ≡ b → Ended (scalar_by b text)
  ended_scalar text true is = (let e = plain_end text (its_plain s text is) in record { front = e.front; last = e.last; is = e.is; no_blank = e.no_blank; no_return = e.no_return })
  ended_scalar text false is = record { front = 34 ∷ between_quotes text; last = 34; is = refl; no_blank = refl; no_return = refl }

  ended_form : (form : trees.Tree-F Tree Pair) → Ended (written_form s form)
  ended_form (trees.Tree-F.Scalar at text) = ended_scalar text (stands_plain s text) refl
  ended_form (trees.Tree-F.List at items) = ended_brackets 91 93 (with_commas s.gap (map (written s) items)) refl refl
  ended_form (trees.Tree-F.Map at entries) = ended_brackets 123 125 (with_commas s.gap (map (written_pair s) entries)) refl refl

  pub ended : (tree : Tree) → Ended (written s tree)
  ended tree = subst Ended (sym (written-form s tree (trees.out-Tree tree) refl)) (ended_form (trees.out-Tree tree))
