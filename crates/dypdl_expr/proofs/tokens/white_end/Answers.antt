use Rattle.std.proofs.Common.{◌≡◌, ◌∙◌, sym, true, slice_index}
use Rattle.std.proofs.lemmas.Str.{IsCharBoundary-after_ascii}
use Rattle.dypdl_expr.specs.Tokens.{is_white}
use Rattle.dypdl_expr.proofs.TokenSteps.{white_more, white_below}
use Rattle.dypdl_expr.proofs.tokens.white_end.Goals as goal

pub loop-end-preserved : goal.loop-end-preserved
loop-end-preserved c =
    let bytes = c.as_bytes-bytes.result.now in
    let white : is_white (slice_index bytes c.loop-end.end) ≡ true = sym c.is_white.ensures ∙ c.if-is_white.true in
    record {
      boundary = IsCharBoundary-after_ascii bytes c.loop-end.end c.as_bytes-bytes.ensures.utf8 c.loop-end-test.true (white_below _ white);
      same = c.loop-end.invariant.same ∙ white_more bytes c.loop-end.end c.loop-end-test.true white;
    }
