use Rattle.std.proofs.Common.{◌≡◌, ◌<◌, ◌+◌, ◌∙◌, ℕ, List, ◌∷◌, sym, true, false, slice_index, length, drop, ap, subst, arith}
use Rattle.std.proofs.lemmas.Str.{IsCharBoundary-after_ascii}
use Rattle.std.specs.Str.{IsUtf8}
use Rattle.dypdl_expr.specs.Tokens.{Word, is_inner, is_white, tokens_from}
use Rattle.dypdl_expr.specs.Lexemes.{followed_by}
use Rattle.dypdl_expr.specs.declared.tokens.Lexeme.{Lexeme}
use Rattle.dypdl_expr.proofs.TokenSteps.{all_passed, at_word, at_open, at_close, at_bar, last_mark, outer_below}
use Rattle.dypdl_expr.proofs.tokens.Tokens.next.Goals.{then-byte-eq40, else-byte-eq40+then-byte-eq41, else-byte-eq40+else-byte-eq41}
use Rattle.dypdl_expr.proofs.tokens.Tokens.next.Goals as goal

pub returns-then-begin-text : goal.returns-then-begin-text
returns-then-begin-text c = sym c.self.view_is ∙ c.white_end-begin.ensures.same ∙ all_passed false c.self.inside.text.now c.white_end-begin.result (omega arith)

pub returns-then-is_inner : goal.returns-then-is_inner
returns-then-is_inner c =
    let text = c.self.inside.text.now in
    let begin = c.white_end-begin.result in
    let end = c.word_end-end.result in
    let inner : is_inner (slice_index text begin) ≡ true = ap (λ (l : List ℕ). is_inner (slice_index l begin)) (sym c.as_bytes.ensures.value) ∙ sym c.is_inner.ensures ∙ c.if-is_inner.true in
    sym c.self.view_is ∙ c.white_end-begin.ensures.same ∙ at_word text begin end (omega arith) inner c.word_end-end.ensures.run c.word_end-end.ensures.same
    ∙ ap (λ (w : List ℕ). Word begin w ∷ tokens_from false end (drop end text)) (sym c.range.ensures.value)

pub invariant_of-self-2 : goal.invariant_of-self-2
invariant_of-self-2 c =
    let text = c.self.inside.text.now in
    let begin = c.white_end-begin.result in
    let outer : is_inner (slice_index text begin) ≡ false = ap (λ (l : List ℕ). is_inner (slice_index l begin)) (sym c.as_bytes.ensures.value) ∙ sym c.is_inner.ensures ∙ c.if-is_inner.false in
    (c.self.invariant.0, IsCharBoundary-after_ascii text begin (subst IsUtf8 c.as_bytes.ensures.value c.as_bytes.ensures.utf8) (omega arith) (outer_below _ outer))

pub returns : goal.returns
returns c =
    let text = c.self.inside.text.now in
    let begin = c.white_end-begin.result in
    let same = sym c.self.view_is ∙ c.white_end-begin.ensures.same in
    let lt : begin < length text = omega arith in
    let byte : slice_index text begin ≡ slice_index c.as_bytes.result.now begin = ap (λ (l : List ℕ). slice_index l begin) (sym c.as_bytes.ensures.value) in
    let outer : is_inner (slice_index text begin) ≡ false = ap is_inner byte ∙ sym c.is_inner.ensures ∙ c.if-is_inner.false in
    let black : is_white (slice_index text begin) ≡ false = c.white_end-begin.ensures.stops lt in
    let rest = tokens_from false (begin + 1) (drop (begin + 1) text) in
    elim c.if-byte-eq40.branch [
      | then-byte-eq40 w ↦ same ∙ at_open text begin lt (byte ∙ w.if-byte-eq40.true) ∙ ap (λ (x : Lexeme). followed_by x rest) (sym w.result-is)
      | else-byte-eq40+then-byte-eq41 w ↦ same ∙ at_close text begin lt (byte ∙ w.if-byte-eq41.true) ∙ ap (λ (x : Lexeme). followed_by x rest) (sym w.result-is)
      | else-byte-eq40+else-byte-eq41 w ↦
          same ∙ at_bar text begin lt (last_mark _ outer black (λ h. w.if-byte-eq40.false (sym byte ∙ h)) (λ h. w.if-byte-eq41.false (sym byte ∙ h))) ∙ ap (λ (x : Lexeme). followed_by x rest) (sym w.result-is)
    ]
