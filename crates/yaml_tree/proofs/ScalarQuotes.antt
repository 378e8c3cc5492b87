-- Where quoted scalars close.
use Rattle.std.proofs.Common.{◌≡◌, ℕ, ◌+◌, ◌≤◌, ◌<◌, false, List, [], ◌∷◌, ◌++◌, length, get_or, drop, Option, None, Some, inl, inr, refl, sym, ap, ◌∙◌, add-zero, arith}
use Rattle.std.proofs.lemmas.Bool.{ne_eqb, cases_lt}
use Rattle.std.proofs.lemmas.List.{drop_more, drop_all, length-append}
use Rattle.yaml_tree.specs.Characters.{begins}
use Rattle.yaml_tree.specs.Scalars.{longer, single_quoted, double_quoted}

-- how many bytes stand before the closing quote, where so many were passed
abbrev pub further : ℕ → Option (List ℕ) → Option ℕ
further at None = None
further at (Some inner) = Some (at + length inner)

further-longer : (at : ℕ) (front : List ℕ) (inner : Option (List ℕ)) → further at (longer front inner) ≡ further (at + length front) inner
further-longer at front None = refl
further-longer at front (Some inner) = let e : at + length (front ++ inner) ≡ at + length front + length inner = omega (arith, length-append front inner) in ap (λ (n : ℕ). Some n) e

further-here : (at : ℕ) → further at (Some []) ≡ Some at
further-here at = ap (λ (n : ℕ). Some n) (add-zero at)

two_at : (bytes : List ℕ) (at : ℕ) → at + 1 < length bytes → drop at bytes ≡ get_or bytes at 0 ∷ (get_or bytes (at + 1) 0 ∷ drop (at + 2) bytes)
two_at bytes at lt =
    let first : at < length bytes = omega arith in
    let e : at + 1 + 1 ≡ at + 2 = omega arith in
    drop_more bytes at 0 first ∙ ap (λ (l : List ℕ). get_or bytes at 0 ∷ l) (drop_more bytes (at + 1) 0 lt ∙ ap (λ (n : ℕ). get_or bytes (at + 1) 0 ∷ drop n bytes) e)

-- ---- single quotes

pub single_other : (byte : ℕ) (bytes : List ℕ) → (byte ≡ 39 → ⊥) → single_quoted (byte ∷ bytes) ≡ longer (byte ∷ []) (single_quoted bytes)
unfolding single_quoted
single_other byte [] other = rw (ne_eqb byte 39 other) refl
single_other byte (next ∷ bytes) other = rw (ne_eqb byte 39 other) refl

pub single_pair : (bytes : List ℕ) → single_quoted (39 ∷ (39 ∷ bytes)) ≡ longer (39 ∷ (39 ∷ [])) (single_quoted bytes)
unfolding single_quoted
single_pair bytes = refl

pub single_closes : (bytes : List ℕ) → begins 39 bytes ≡ false → single_quoted (39 ∷ bytes) ≡ Some []
unfolding single_quoted
single_closes [] other = refl
single_closes (next ∷ bytes) other = rw other refl

pub single_open : single_quoted [] ≡ None
unfolding single_quoted
single_open = refl

pub single_other_at : (bytes : List ℕ) (at : ℕ) → at < length bytes → (get_or bytes at 0 ≡ 39 → ⊥) → further at (single_quoted (drop at bytes)) ≡ further (at + 1) (single_quoted (drop (at + 1) bytes))
single_other_at bytes at lt other =
    let byte : ℕ = get_or bytes at 0 in
    ap (λ (l : List ℕ). further at (single_quoted l)) (drop_more bytes at 0 lt) ∙ ap (further at) (single_other byte (drop (at + 1) bytes) other) ∙ further-longer at (byte ∷ []) (single_quoted (drop (at + 1) bytes))

pub single_pair_at : (bytes : List ℕ) (at : ℕ) → at + 1 < length bytes → get_or bytes at 0 ≡ 39 → get_or bytes (at + 1) 0 ≡ 39 → further at (single_quoted (drop at bytes)) ≡ further (at + 2) (single_quoted (drop (at + 2) bytes))
single_pair_at bytes at lt first second =
    let left : List ℕ = drop (at + 2) bytes in
    ap (λ (l : List ℕ). further at (single_quoted l)) (two_at bytes at lt ∙ ap (λ (b : ℕ). b ∷ (get_or bytes (at + 1) 0 ∷ left)) first ∙ ap (λ (b : ℕ). 39 ∷ (b ∷ left)) second)
    ∙ ap (further at) (single_pair left) ∙ further-longer at (39 ∷ (39 ∷ [])) (single_quoted left)

begins_not : (byte : ℕ) (bytes : List ℕ) (at : ℕ) → (at < length bytes → get_or bytes at 0 ≡ byte → ⊥) → begins byte (drop at bytes) ≡ false
begins_not byte bytes at other =
    elim (cases_lt at (length bytes)) [
      | inl lt ↦ ap (begins byte) (drop_more bytes at 0 lt) ∙ ne_eqb (get_or bytes at 0) byte (other lt)
      | inr le ↦ ap (begins byte) (drop_all at bytes le)
    ]

pub single_closes_at : (bytes : List ℕ) (at : ℕ) → at < length bytes → get_or bytes at 0 ≡ 39 → (at + 1 < length bytes → get_or bytes (at + 1) 0 ≡ 39 → ⊥) → further at (single_quoted (drop at bytes)) ≡ Some at
single_closes_at bytes at lt first other =
    ap (λ (l : List ℕ). further at (single_quoted l)) (drop_more bytes at 0 lt ∙ ap (λ (b : ℕ). b ∷ drop (at + 1) bytes) first)
    ∙ ap (further at) (single_closes (drop (at + 1) bytes) (begins_not 39 bytes (at + 1) other)) ∙ further-here at

pub single_open_at : (bytes : List ℕ) (at : ℕ) → length bytes ≤ at → further at (single_quoted (drop at bytes)) ≡ None
single_open_at bytes at le = ap (λ (l : List ℕ). further at (single_quoted l)) (drop_all at bytes le) ∙ ap (further at) single_open

-- ---- double quotes

pub double_other : (byte : ℕ) (bytes : List ℕ) → (byte ≡ 34 → ⊥) → (byte ≡ 92 → ⊥) → double_quoted (byte ∷ bytes) ≡ longer (byte ∷ []) (double_quoted bytes)
unfolding double_quoted
double_other byte [] no_quote no_escape = rw (ne_eqb byte 34 no_quote) refl
double_other byte (next ∷ bytes) no_quote no_escape = rw (ne_eqb byte 34 no_quote, ne_eqb byte 92 no_escape) refl

pub double_escape : (next : ℕ) (bytes : List ℕ) → double_quoted (92 ∷ (next ∷ bytes)) ≡ longer (92 ∷ (next ∷ [])) (double_quoted bytes)
unfolding double_quoted
double_escape next bytes = refl

pub double_cut : double_quoted (92 ∷ []) ≡ None
unfolding double_quoted
double_cut = refl

pub double_closes : (bytes : List ℕ) → double_quoted (34 ∷ bytes) ≡ Some []
unfolding double_quoted
double_closes [] = refl
double_closes (next ∷ bytes) = refl

pub double_open : double_quoted [] ≡ None
unfolding double_quoted
double_open = refl

pub double_other_at : (bytes : List ℕ) (at : ℕ) → at < length bytes → (get_or bytes at 0 ≡ 34 → ⊥) → (get_or bytes at 0 ≡ 92 → ⊥) → further at (double_quoted (drop at bytes)) ≡ further (at + 1) (double_quoted (drop (at + 1) bytes))
double_other_at bytes at lt no_quote no_escape =
    let byte : ℕ = get_or bytes at 0 in
    ap (λ (l : List ℕ). further at (double_quoted l)) (drop_more bytes at 0 lt) ∙ ap (further at) (double_other byte (drop (at + 1) bytes) no_quote no_escape) ∙ further-longer at (byte ∷ []) (double_quoted (drop (at + 1) bytes))

pub double_open_at : (bytes : List ℕ) (at : ℕ) → length bytes ≤ at → further at (double_quoted (drop at bytes)) ≡ None
double_open_at bytes at le = ap (λ (l : List ℕ). further at (double_quoted l)) (drop_all at bytes le) ∙ ap (further at) double_open

pub double_escape_at : (bytes : List ℕ) (at : ℕ) → at < length bytes → get_or bytes at 0 ≡ 92 → further at (double_quoted (drop at bytes)) ≡ further (at + 2) (double_quoted (drop (at + 2) bytes))
double_escape_at bytes at lt is =
    elim (cases_lt (at + 1) (length bytes)) [
      | inl more ↦
          let next : ℕ = get_or bytes (at + 1) 0 in
          let left : List ℕ = drop (at + 2) bytes in
          ap (λ (l : List ℕ). further at (double_quoted l)) (two_at bytes at more ∙ ap (λ (b : ℕ). b ∷ (next ∷ left)) is) ∙ ap (further at) (double_escape next left) ∙ further-longer at (92 ∷ (next ∷ [])) (double_quoted left)
      | inr le ↦
          let past : length bytes ≤ at + 2 = omega arith in
          ap (λ (l : List ℕ). further at (double_quoted l)) (drop_more bytes at 0 lt ∙ ap (λ (b : ℕ). b ∷ drop (at + 1) bytes) is ∙ ap (λ (l : List ℕ). 92 ∷ l) (drop_all (at + 1) bytes le))
          ∙ ap (further at) double_cut ∙ sym (double_open_at bytes (at + 2) past)
    ]

pub double_closes_at : (bytes : List ℕ) (at : ℕ) → at < length bytes → get_or bytes at 0 ≡ 34 → further at (double_quoted (drop at bytes)) ≡ Some at
double_closes_at bytes at lt is =
    ap (λ (l : List ℕ). further at (double_quoted l)) (drop_more bytes at 0 lt ∙ ap (λ (b : ℕ). b ∷ drop (at + 1) bytes) is) ∙ ap (further at) (double_closes (drop (at + 1) bytes)) ∙ further-here at
