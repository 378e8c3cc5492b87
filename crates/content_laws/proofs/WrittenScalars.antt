-- Scalars between double quotes.
use Rattle.std.proofs.Common.{◌≡◌, ℕ, suc, ◌+◌, ◌<◌, Bool, false, ◌==◌, List, [], ◌∷◌, ◌++◌, length, take, drop, Option, Some, Ok, ◌⊎◌, inl, inr, refl, sym, ap, ◌∙◌, subst, append_assoc, arith}
use Rattle.std.proofs.lemmas.Bool.{ne_eqb, cases_eq}
use Rattle.std.proofs.lemmas.List.{length-append}
use Rattle.std.proofs.Math.Seq.{drop-append_seam, take-append_seam}
use Rattle.yaml_tree.specs.Rest.{Rest, place, on}
use Rattle.yaml_tree.specs.Openings.{quote_opening, opening_of, opening}
use Rattle.yaml_tree.specs.Scalars.{longer, double_quoted, escaped, first_byte, escape_at, double_text, quoted_to, quoted}
use Rattle.yaml_tree.specs.Flow.{Outcome, Reading, FormOf}
use Rattle.yaml_tree.specs.declared.tree.Tree.TheVariants as made
use Rattle.yaml_tree.proofs.ScalarQuotes.{double_other, double_escape, double_closes}
use Rattle.yaml_tree.proofs.ScalarTexts.{doubled_escape, doubled_none}
use Rattle.content_laws.specs.Writing.{written_byte, between_quotes}

-- ---- a byte is written behind a backslash, or by itself

pub record IsEscaped (byte : ℕ) : Type 0 where
  pub second : ℕ
  pub is : written_byte byte ≡ 92 ∷ second ∷ []
  pub means : escaped second ≡ Some byte
  pub low : second < 128
  pub no_feed : (second == 10) ≡ false

pub record IsPlain (byte : ℕ) : Type 0 where
  pub is : written_byte byte ≡ byte ∷ []
  pub no_quote : byte ≡ 34 → ⊥
  pub no_escape : byte ≡ 92 → ⊥
  pub no_feed : (byte == 10) ≡ false

pub written_as : (byte : ℕ) → IsEscaped byte ⊎ IsPlain byte
written_as byte = elim (cases_eq byte 34) [
  | inl same ↦ inl (subst IsEscaped (sym same) (record { second = 34; is = refl; means = refl; low = omega arith; no_feed = refl }))
  | inr quote ↦ elim (cases_eq byte 92) [
    | inl same ↦ inl (subst IsEscaped (sym same) (record { second = 92; is = refl; means = refl; low = omega arith; no_feed = refl }))
    | inr escape ↦ elim (cases_eq byte 47) [
      | inl same ↦ inl (subst IsEscaped (sym same) (record { second = 47; is = refl; means = refl; low = omega arith; no_feed = refl }))
      | inr slash ↦ elim (cases_eq byte 10) [
        | inl same ↦ inl (subst IsEscaped (sym same) (record { second = 110; is = refl; means = refl; low = omega arith; no_feed = refl }))
        | inr feed ↦ elim (cases_eq byte 9) [
          | inl same ↦ inl (subst IsEscaped (sym same) (record { second = 116; is = refl; means = refl; low = omega arith; no_feed = refl }))
          | inr tab ↦ inr (record {
            is = rw (ne_eqb byte 34 quote, ne_eqb byte 92 escape, ne_eqb byte 47 slash, ne_eqb byte 10 feed, ne_eqb byte 9 tab) refl;
            no_quote = quote;
            no_escape = escape;
            no_feed = ne_eqb byte 10 feed;
          })
        ]
      ]
    ]
  ]
]

-- ---- where it closes

closes_behind : (byte : ℕ) (text rest : List ℕ) → IsEscaped byte ⊎ IsPlain byte → double_quoted (between_quotes text ++ 34 ∷ rest) ≡ Some (between_quotes text)
    → double_quoted (between_quotes (byte ∷ text) ++ 34 ∷ rest) ≡ Some (between_quotes (byte ∷ text))
closes_behind byte text rest (inl e) so_far =
    ap (λ (w : List ℕ). double_quoted ((w ++ between_quotes text) ++ 34 ∷ rest)) e.is
    ∙ double_escape e.second (between_quotes text ++ 34 ∷ rest) ∙ ap (longer (92 ∷ e.second ∷ [])) so_far
    ∙ ap (λ (w : List ℕ). Some (w ++ between_quotes text)) (sym e.is)
closes_behind byte text rest (inr p) so_far =
    ap (λ (w : List ℕ). double_quoted ((w ++ between_quotes text) ++ 34 ∷ rest)) p.is
    ∙ double_other byte (between_quotes text ++ 34 ∷ rest) p.no_quote p.no_escape ∙ ap (longer (byte ∷ [])) so_far
    ∙ ap (λ (w : List ℕ). Some (w ++ between_quotes text)) (sym p.is)

pub closes : (text rest : List ℕ) → double_quoted (between_quotes text ++ 34 ∷ rest) ≡ Some (between_quotes text)
closes [] rest = double_closes rest
closes (byte ∷ text) rest = closes_behind byte text rest (written_as byte) (closes text rest)

-- ---- what it stands for

doubled_plain : (at byte : ℕ) (bytes : List ℕ) → (byte ≡ 92 → ⊥) → double_text at (byte ∷ bytes) ≡ first_byte byte (double_text (at + 1) bytes)
unfolding double_text
doubled_plain at byte [] other = rw (ne_eqb byte 92 other) refl
doubled_plain at byte (next ∷ bytes) other = rw (ne_eqb byte 92 other) refl

means_with : (at byte : ℕ) (text : List ℕ) → IsEscaped byte ⊎ IsPlain byte → ((at : ℕ) → double_text at (between_quotes text) ≡ Ok text) → double_text at (between_quotes (byte ∷ text)) ≡ Ok (byte ∷ text)
means_with at byte text (inl e) others =
    ap (λ (w : List ℕ). double_text at (w ++ between_quotes text)) e.is ∙ doubled_escape at e.second (between_quotes text)
    ∙ ap (λ (o : Option ℕ). escape_at at o (double_text (at + 2) (between_quotes text))) e.means ∙ ap (first_byte byte) (others (at + 2))
means_with at byte text (inr p) others =
    ap (λ (w : List ℕ). double_text at (w ++ between_quotes text)) p.is ∙ doubled_plain at byte (between_quotes text) p.no_escape
    ∙ ap (first_byte byte) (others (at + 1))

pub means : (text : List ℕ) (at : ℕ) → double_text at (between_quotes text) ≡ Ok text
means [] at = doubled_none at
means (byte ∷ text) at = means_with at byte text (written_as byte) (means text)

-- ---- the scalar at a point

abbrev pub in_quotes : List ℕ → List ℕ
in_quotes text = 34 ∷ (between_quotes text ++ 34 ∷ [])

pub split_quotes : (text behind : List ℕ) → in_quotes text ++ behind ≡ 34 ∷ (between_quotes text ++ 34 ∷ behind)
split_quotes text behind = ap (λ (w : List ℕ). 34 ∷ w) (append_assoc (between_quotes text) (34 ∷ []) behind)

pub begins_quoted : (flow maps ragged : Bool) (text behind here : List ℕ) → here ≡ in_quotes text ++ behind → opening_of flow maps ragged here ≡ quote_opening false (Some (between_quotes text))
begins_quoted flow maps ragged text behind here is =
    ap (opening_of flow maps ragged) (is ∙ split_quotes text behind) ∙ ap (quote_opening false) (closes text behind)

pub read_quoted : (from : Rest) (text behind : List ℕ) → from.here ≡ in_quotes text ++ behind
    → quoted from false (length (between_quotes text)) ≡ Ok (made.Scalar (place from) text, on (length (between_quotes text) + 2) from)
read_quoted from text behind is =
    let inside : take (length (between_quotes text)) (drop 1 from.here) ≡ between_quotes text =
    ap (λ (w : List ℕ). take (length (between_quotes text)) (drop 1 w)) (is ∙ split_quotes text behind) ∙ take-append_seam (between_quotes text) (34 ∷ behind) in
    ap (λ (w : List ℕ). quoted_to from (length (between_quotes text)) (double_text 1 w)) inside
    ∙ ap (quoted_to from (length (between_quotes text))) (means text 1)

pub behind_quoted : (text behind here : List ℕ) → here ≡ in_quotes text ++ behind → drop (length (between_quotes text) + 2) here ≡ behind
behind_quoted text behind here is =
    let longer : length (between_quotes text) + 2 ≡ suc (length (between_quotes text ++ 34 ∷ [])) = omega (arith, length-append (between_quotes text) (34 ∷ [])) in
    ap (drop (length (between_quotes text) + 2)) is ∙ ap (λ (k : ℕ). drop k (in_quotes text ++ behind)) longer ∙ drop-append_seam (between_quotes text ++ 34 ∷ []) behind

pub form_quoted : (flow maps : Bool) (Node Key : Reading) (from : Rest) (text behind : List ℕ) → from.here ≡ in_quotes text ++ behind
    → FormOf flow Node Key (opening flow maps from) from (Ok (made.Scalar (place from) text, on (length (between_quotes text) + 2) from))
form_quoted flow maps Node Key from text behind is =
    let outcome : Outcome = Ok (made.Scalar (place from) text, on (length (between_quotes text) + 2) from) in
    subst (λ (h : List ℕ). FormOf flow Node Key (opening_of flow maps from.ragged h) from outcome) (sym (is ∙ split_quotes text behind))
    (subst (λ (o : Option (List ℕ)). FormOf flow Node Key (quote_opening false o) from outcome) (sym (closes text behind))
    (sym (read_quoted from text behind is)))
