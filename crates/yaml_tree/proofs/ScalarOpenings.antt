-- Where a quoted scalar begins, its parts stand.
use Rattle.std.proofs.Common.{◌≡◌, ℕ, suc, ◌+◌, ◌≤◌, ◌<◌, Bool, true, false, List, [], ◌∷◌, ◌++◌, length, get_or, drop, take, Option, None, Some, Result, Ok, Err, IsCharBoundary, inl, inr, refl, sym, ap, ◌∙◌, subst, arith}
use Rattle.std.specs.Str.{IsUtf8}
use Rattle.std.proofs.lemmas.Bool.{ne_eqb, cases_eq, false≢true}
use Rattle.std.proofs.lemmas.Bool.Decides.{nat_tests}
use Rattle.std.proofs.lemmas.List.{append_assoc, length-append, take_at, get_or_at, get_or_append_left}
use Rattle.std.proofs.lemmas.Str.{IsCharBoundary-before_ascii, IsCharBoundary-after_ascii}
use Rattle.std.proofs.lemmas.Option.{same_Some, none-some}
use Rattle.yaml_tree.specs.Characters.{begins}
use Rattle.yaml_tree.specs.Scalars.{longer, single_quoted, double_quoted, escaped, escape_at, double_text}
use Rattle.yaml_tree.specs.Openings.{quote_opening, opening_of, opening_with}
use Rattle.yaml_tree.specs.declared.opening.Opening.TheVariants.{Quoted}
use Rattle.yaml_tree.proofs.ScalarQuotes.{single_other, single_pair, single_closes, single_open, double_other, double_escape, double_cut, double_closes, double_open}
use Rattle.yaml_tree.proofs.ScalarTexts.{IsSingle, with_front, longer-some, doubled_other, doubled_escape, doubled_cut, doubled_none, first_byte-front}

-- ---- the bytes before the quote that closes

-- the quote, what stands before it, and what stands behind it
pub record Closes (quote : ℕ) (bytes inner : List ℕ) : Type 0 where
  pub behind : List ℕ
  pub split : bytes ≡ inner ++ (quote ∷ behind)

closes-more : (quote : ℕ) (front bytes left inner : List ℕ) → Closes quote bytes left → front ++ left ≡ inner → Closes quote (front ++ bytes) inner
closes-more quote front bytes left inner closes whole = record {
  behind = closes.behind;
  split = ap (λ (l : List ℕ). front ++ l) closes.split ∙ sym (append_assoc front left (quote ∷ closes.behind)) ∙ ap (λ (l : List ℕ). l ++ (quote ∷ closes.behind)) whole;
}

closes-here : (quote : ℕ) (bytes inner : List ℕ) → Some [] ≡ Some inner → Closes quote (quote ∷ bytes) inner
closes-here quote bytes inner is = record { behind = bytes; split = ap (λ (l : List ℕ). l ++ (quote ∷ bytes)) (same_Some [] inner is) }

double_at_quote : (byte : ℕ) (bytes inner : List ℕ) → byte ≡ 34 → double_quoted (byte ∷ bytes) ≡ Some inner → Closes 34 (byte ∷ bytes) inner
double_at_quote byte bytes inner same is =
    let is_here = ap (λ (b : ℕ). double_quoted (b ∷ bytes)) (sym same) ∙ is in
    subst (λ (b : ℕ). Closes 34 (b ∷ bytes) inner) (sym same) (closes-here 34 bytes inner (sym (double_closes bytes) ∙ is_here))

double_closes-at : (bytes inner : List ℕ) → double_quoted bytes ≡ Some inner → Closes 34 bytes inner
double_closes-at [] inner is = absurd (none-some inner (sym double_open ∙ is))
double_closes-at (byte ∷ []) inner is = elim (cases_eq byte 34) [
  | inl quote ↦ double_at_quote byte [] inner quote is
  | inr no_quote ↦ elim (cases_eq byte 92) [
    | inl slash ↦ absurd (none-some inner (sym double_cut ∙ ap (λ (b : ℕ). double_quoted (b ∷ [])) (sym slash) ∙ is))
    | inr no_slash ↦ absurd (none-some inner (sym (double_other byte [] no_quote no_slash ∙ ap (longer (byte ∷ [])) double_open) ∙ is))
  ]
]
double_closes-at (byte ∷ next ∷ bytes) inner is = elim (cases_eq byte 34) [
  | inl quote ↦ double_at_quote byte (next ∷ bytes) inner quote is
  | inr no_quote ↦ elim (cases_eq byte 92) [
    | inl slash ↦
        let some = longer-some (92 ∷ (next ∷ [])) (double_quoted bytes) inner (sym (double_escape next bytes) ∙ ap (λ (b : ℕ). double_quoted (b ∷ (next ∷ bytes))) (sym slash) ∙ is) in
        let closes = closes-more 34 (92 ∷ (next ∷ [])) bytes some.0 inner (double_closes-at bytes some.0 some.1) some.2 in
        subst (λ (b : ℕ). Closes 34 (b ∷ (next ∷ bytes)) inner) (sym slash) closes
    | inr no_slash ↦
        let some = longer-some (byte ∷ []) (double_quoted (next ∷ bytes)) inner (sym (double_other byte (next ∷ bytes) no_quote no_slash) ∙ is) in
        closes-more 34 (byte ∷ []) (next ∷ bytes) some.0 inner (double_closes-at (next ∷ bytes) some.0 some.1) some.2
  ]
]

-- the same of single quotes, where those bytes alone are closed by a quote too
record SingleCloses (bytes inner : List ℕ) : Type 0 where
  at_quote : Closes 39 bytes inner
  alone : IsSingle inner

single_here : (bytes inner : List ℕ) → single_quoted (39 ∷ bytes) ≡ Some inner → begins 39 bytes ≡ false → SingleCloses (39 ∷ bytes) inner
single_here bytes inner is last =
    let none : Some [] ≡ Some inner = sym (single_closes bytes last) ∙ is in
    record { at_quote = closes-here 39 bytes inner none; alone = subst IsSingle (same_Some [] inner none) (single_closes [] refl) }

single_next : (byte : ℕ) (bytes left inner : List ℕ) → (byte ≡ 39 → ⊥) → SingleCloses bytes left → (byte ∷ []) ++ left ≡ inner → SingleCloses (byte ∷ bytes) inner
single_next byte bytes left inner other closes whole = record {
  at_quote = closes-more 39 (byte ∷ []) bytes left inner closes.at_quote whole;
  alone = subst IsSingle whole (single_other byte (left ++ 39 ∷ []) other ∙ ap (longer (byte ∷ [])) closes.alone);
}

single_next_pair : (bytes left inner : List ℕ) → SingleCloses bytes left → (39 ∷ (39 ∷ [])) ++ left ≡ inner → SingleCloses (39 ∷ (39 ∷ bytes)) inner
single_next_pair bytes left inner closes whole = record {
  at_quote = closes-more 39 (39 ∷ (39 ∷ [])) bytes left inner closes.at_quote whole;
  alone = subst IsSingle whole (single_pair (left ++ 39 ∷ []) ∙ ap (longer (39 ∷ (39 ∷ []))) closes.alone);
}

single_closes-at : (bytes inner : List ℕ) → single_quoted bytes ≡ Some inner → SingleCloses bytes inner
single_closes-at [] inner is = absurd (none-some inner (sym single_open ∙ is))
single_closes-at (byte ∷ []) inner is = elim (cases_eq byte 39) [
  | inl quote ↦ subst (λ (b : ℕ). SingleCloses (b ∷ []) inner) (sym quote) (single_here [] inner (ap (λ (b : ℕ). single_quoted (b ∷ [])) (sym quote) ∙ is) refl)
  | inr other ↦ absurd (none-some inner (sym (single_other byte [] other ∙ ap (longer (byte ∷ [])) single_open) ∙ is))
]
single_closes-at (byte ∷ next ∷ bytes) inner is = elim (cases_eq byte 39) [
  | inl quote ↦
      let is_here = ap (λ (b : ℕ). single_quoted (b ∷ (next ∷ bytes))) (sym quote) ∙ is in
      let at_quote : SingleCloses (39 ∷ (next ∷ bytes)) inner = elim (cases_eq next 39) [
        | inl twice ↦
            let is_pair = ap (λ (b : ℕ). single_quoted (39 ∷ (b ∷ bytes))) (sym twice) ∙ is_here in
            let some = longer-some (39 ∷ (39 ∷ [])) (single_quoted bytes) inner (sym (single_pair bytes) ∙ is_pair) in
            subst (λ (b : ℕ). SingleCloses (39 ∷ (b ∷ bytes)) inner) (sym twice) (single_next_pair bytes some.0 inner (single_closes-at bytes some.0 some.1) some.2)
        | inr other ↦ single_here (next ∷ bytes) inner is_here (ne_eqb next 39 other)
      ] in
      subst (λ (b : ℕ). SingleCloses (b ∷ (next ∷ bytes)) inner) (sym quote) at_quote
  | inr other ↦
      let some = longer-some (byte ∷ []) (single_quoted (next ∷ bytes)) inner (sym (single_other byte (next ∷ bytes) other) ∙ is) in
      single_next byte (next ∷ bytes) some.0 inner other (single_closes-at (next ∷ bytes) some.0 some.1) some.2
]

-- ---- the parts of a quoted scalar

pub record QuotedHere (single : Bool) (inside : ℕ) (here : List ℕ) : Type 0 where
  pub quote : ℕ
  pub inner : List ℕ
  pub behind : List ℕ
  pub low : quote < 128
  pub split : here ≡ quote ∷ (inner ++ (quote ∷ behind))
  pub count : length inner ≡ inside
  pub alone : single ≡ true → IsSingle inner

quote_opening-is : (s single : Bool) (inside : ℕ) (o : Option (List ℕ)) → quote_opening s o ≡ Quoted single inside → (inner : List ℕ) × (o ≡ Some inner) × (length inner ≡ inside) × (s ≡ single)
quote_opening-is s single inside None is = absurd cc
quote_opening-is s single inside (Some inner) is = (inner, refl, cc, cc)

no_quote : (flow maps ragged : Bool) (byte : ℕ) (bytes : List ℕ) (single : Bool) (inside : ℕ) → (byte ≡ 39 → ⊥) → (byte ≡ 34 → ⊥) → opening_with flow maps ragged byte bytes ≡ Quoted single inside → ⊥
no_quote flow maps ragged byte bytes single inside a b is = grind (arith, nat_tests)

quoted-with : (flow maps ragged : Bool) (byte : ℕ) (bytes : List ℕ) (single : Bool) (inside : ℕ) → opening_with flow maps ragged byte bytes ≡ Quoted single inside → QuotedHere single inside (byte ∷ bytes)
quoted-with flow maps ragged byte bytes single inside is = elim (cases_eq byte 39) [
  | inl same ↦
      let some = quote_opening-is true single inside (single_quoted bytes) (ap (λ (b : ℕ). opening_with flow maps ragged b bytes) (sym same) ∙ is) in
      let closes = single_closes-at bytes some.0 some.1 in
      let found : QuotedHere single inside (39 ∷ bytes) = record {
        quote = 39;
        inner = some.0;
        behind = closes.at_quote.behind;
        low = omega arith;
        split = ap (λ (l : List ℕ). 39 ∷ l) closes.at_quote.split;
        count = some.2;
        alone = λ _. closes.alone;
      } in
      subst (λ (b : ℕ). QuotedHere single inside (b ∷ bytes)) (sym same) found
  | inr no_single ↦ elim (cases_eq byte 34) [
    | inl same ↦
        let some = quote_opening-is false single inside (double_quoted bytes) (ap (λ (b : ℕ). opening_with flow maps ragged b bytes) (sym same) ∙ is) in
        let closes = double_closes-at bytes some.0 some.1 in
        let found : QuotedHere single inside (34 ∷ bytes) = record {
          quote = 34;
          inner = some.0;
          behind = closes.behind;
          low = omega arith;
          split = ap (λ (l : List ℕ). 34 ∷ l) closes.split;
          count = some.2;
          alone = λ yes. absurd (false≢true (some.3 ∙ yes));
        } in
        subst (λ (b : ℕ). QuotedHere single inside (b ∷ bytes)) (sym same) found
    | inr no_double ↦ absurd (no_quote flow maps ragged byte bytes single inside no_single no_double is)
  ]
]

pub quoted_here : (flow maps ragged : Bool) (here : List ℕ) (single : Bool) (inside : ℕ) → opening_of flow maps ragged here ≡ Quoted single inside → QuotedHere single inside here
quoted_here flow maps ragged [] single inside is = absurd cc
quoted_here flow maps ragged (byte ∷ bytes) single inside is = quoted-with flow maps ragged byte bytes single inside is

-- ---- the first backslash before another character than those of an escape

pub record BadEscape (from : ℕ) (bytes : List ℕ) (at : ℕ) : Type 0 where
  pub passed : ℕ
  pub place : at ≡ from + passed
  pub within : passed < length bytes
  pub slash : get_or bytes passed 0 ≡ 92

with_front-refused : (front : List ℕ) (read : Result (List ℕ) ℕ) (at : ℕ) → with_front front read ≡ Err at → read ≡ Err at
with_front-refused front (Ok text) at is = absurd cc
with_front-refused front (Err other) at is = is

bad_here : (from at : ℕ) (bytes : List ℕ) → ◌≡◌ {A = Result (List ℕ) ℕ} (Err from) (Err at) → BadEscape from (92 ∷ bytes) at
bad_here from at bytes is = let same : from ≡ at = cc in record { passed = 0; place = omega arith; within = omega arith; slash = refl }

bad_next : (from byte : ℕ) (bytes : List ℕ) (at : ℕ) → BadEscape (from + 1) bytes at → BadEscape from (byte ∷ bytes) at
bad_next from byte bytes at bad = record { passed = suc bad.passed; place = omega (arith, bad.place); within = omega (arith, bad.within); slash = bad.slash }

bad_pair : (from next : ℕ) (bytes : List ℕ) (at : ℕ) (o : Option ℕ) → escape_at from o (double_text (from + 2) bytes) ≡ Err at → (double_text (from + 2) bytes ≡ Err at → BadEscape (from + 2) bytes at) → BadEscape from (92 ∷ (next ∷ bytes)) at
bad_pair from next bytes at None is later = bad_here from at (next ∷ bytes) is
bad_pair from next bytes at (Some character) is later =
    let read = with_front-refused (character ∷ []) (double_text (from + 2) bytes) at (sym (first_byte-front character (double_text (from + 2) bytes)) ∙ is) in
    let e : from + 2 ≡ from + 1 + 1 = omega arith in
    bad_next from 92 (next ∷ bytes) at (bad_next (from + 1) next bytes at (subst (λ (n : ℕ). BadEscape n bytes at) e (later read)))

bad_at : (from : ℕ) (bytes : List ℕ) (at : ℕ) → double_text from bytes ≡ Err at → BadEscape from bytes at
bad_at from [] at is = let none = sym (doubled_none from) ∙ is in absurd cc
bad_at from (byte ∷ []) at is = elim (cases_eq byte 92) [
  | inl slash ↦ subst (λ (b : ℕ). BadEscape from (b ∷ []) at) (sym slash) (bad_here from at [] (sym (doubled_cut from) ∙ ap (λ (b : ℕ). double_text from (b ∷ [])) (sym slash) ∙ is))
  | inr other ↦
      let none = sym (doubled_none (from + 1)) ∙ with_front-refused (byte ∷ []) (double_text (from + 1) []) at (sym (doubled_other from byte [] other) ∙ is) in
      absurd cc
]
bad_at from (byte ∷ next ∷ bytes) at is = elim (cases_eq byte 92) [
  | inl slash ↦
      let is_here = sym (doubled_escape from next bytes) ∙ ap (λ (b : ℕ). double_text from (b ∷ (next ∷ bytes))) (sym slash) ∙ is in
      subst (λ (b : ℕ). BadEscape from (b ∷ (next ∷ bytes)) at) (sym slash) (bad_pair from next bytes at (escaped next) is_here (λ later. bad_at (from + 2) bytes at later))
  | inr other ↦
      bad_next from byte (next ∷ bytes) at (bad_at (from + 1) (next ∷ bytes) at (with_front-refused (byte ∷ []) (double_text (from + 1) (next ∷ bytes)) at (sym (doubled_other from byte (next ∷ bytes) other) ∙ is)))
]

-- ---- what stands where

module _ (single : Bool) (inside : ℕ) (here : List ℕ) (parts : QuotedHere single inside here) where
  pub quoted-length : inside + 2 ≤ length here
  quoted-length = omega (arith, ap length parts.split, length-append parts.inner (parts.quote ∷ parts.behind), parts.count)

  pub quoted-inner : take inside (drop 1 here) ≡ parts.inner
  quoted-inner = ap (λ (l : List ℕ). take inside (drop 1 l)) parts.split ∙ take_at parts.inner (parts.quote ∷ parts.behind) inside parts.count

  first_quote : get_or here 0 0 ≡ parts.quote
  first_quote = ap (λ (l : List ℕ). get_or l 0 0) parts.split

  last_quote : get_or here (inside + 1) 0 ≡ parts.quote
  last_quote =
      let e : inside + 1 ≡ suc inside = omega arith in
      ap (λ (n : ℕ). get_or here n 0) e ∙ ap (λ (l : List ℕ). get_or l (suc inside) 0) parts.split ∙ get_or_at parts.inner parts.quote parts.behind 0 inside parts.count

  pub cut-first : IsUtf8 here → IsCharBoundary here 1
  cut-first utf8 = IsCharBoundary-after_ascii here 0 utf8 (omega (arith, quoted-length)) (omega (arith, first_quote, parts.low))

  pub cut-last : IsCharBoundary here (inside + 1)
  cut-last = IsCharBoundary-before_ascii here (inside + 1) (omega (arith, quoted-length)) (omega (arith, last_quote, parts.low))

  pub cut-behind : IsUtf8 here → IsCharBoundary here (inside + 2)
  cut-behind utf8 =
      let e : inside + 1 + 1 ≡ inside + 2 = omega arith in
      subst (λ (n : ℕ). IsCharBoundary here n) e (IsCharBoundary-after_ascii here (inside + 1) utf8 (omega (arith, quoted-length)) (omega (arith, last_quote, parts.low)))

  pub cut-slash : (at : ℕ) → double_text 1 (take inside (drop 1 here)) ≡ Err at → IsCharBoundary here at
  cut-slash at is =
      let bad = bad_at 1 parts.inner at (ap (double_text 1) (sym quoted-inner) ∙ is) in
      let e : at ≡ suc bad.passed = omega (arith, bad.place) in
      let slash : get_or here at 0 ≡ 92 =
      ap (λ (n : ℕ). get_or here n 0) e ∙ ap (λ (l : List ℕ). get_or l (suc bad.passed) 0) parts.split ∙ get_or_append_left parts.inner (parts.quote ∷ parts.behind) 0 bad.passed bad.within ∙ bad.slash in
      IsCharBoundary-before_ascii here at (omega (arith, e, bad.within, parts.count, quoted-length)) (omega (arith, slash))
