use Rattle.std.proofs.Common.{◌≡◌, ◌∙◌, ◌+◌, ◌-◌, ◌++◌, ◌∷◌, [], ℕ, List, Some, None, Ok, Err, length, drop, string_bytes, sym, ap, arith}
use Rattle.std.specs.List.{slice_get}
use Rattle.std.specs.Option.{option_and_then}
use Rattle.std.proofs.lemmas.List.{length-append, length-drop}
use Rattle.std.proofs.lemmas.Str.{IsCharBoundary-after_ascii}
use Rattle.std.proofs.lemmas.Str.Pattern.{split_parts}
use Rattle.yaml_tree.specs.Scalars.{escaped, double_text}
use Rattle.yaml_tree.proofs.ScalarTexts.{Without, with_front, first_escaped, doubled_more, doubled_bad, doubled_last, IsUtf8-behind}
use Rattle.yaml_tree.proofs.quoted.inner.double_text.Goals.{In-Some, In-Some-escaped}
use Rattle.yaml_tree.proofs.quoted.inner.double_text.Goals as goal

parts : (c : In-Some) → (c.loop-part.left.now ≡ c.in-Some.part.now ++ (92 ∷ c.in-Some.behind.now)) × Without 92 c.in-Some.part.now
parts c = rw c.in-Some.is at (split_parts 92 c.loop-part.left.now c.split_once.result c.split_once.ensures.cases (omega arith))

lengths : (c : In-Some) → length c.loop-part.left.now ≡ length c.in-Some.part.now + 1 + length c.in-Some.behind.now
lengths c = let split = (parts c).0 in omega (arith, ap length split, length-append c.in-Some.part.now (92 ∷ c.in-Some.behind.now))

escape : (c : In-Some-escaped) → option_and_then escaped (slice_get c.in-Some.behind.now 0) ≡ Some c.in-Some-escaped.character
escape c = ap (λ (l : List ℕ). option_and_then escaped (slice_get l 0)) (sym c.as_bytes.ensures.value) ∙ sym c.escaped.ensures ∙ c.in-Some-escaped.is

pub returns-in_default-escaped : goal.returns-in_default-escaped
returns-in_default-escaped c =
    let some = (goal.at.returns-in_default-escaped c).In-Some in
    let p = parts some in
    let left = c.loop-part.left.now in
    let part = c.in-Some.part.now in
    let behind = c.in-Some.behind.now in
    let at = 1 + (length c.args.inner.now - length left) in
    let none : option_and_then escaped (slice_get behind 0) ≡ None = ap (λ (l : List ℕ). option_and_then escaped (slice_get l 0)) (sym c.as_bytes.ensures.value) ∙ sym c.escaped.ensures ∙ c.in_default-escaped.is in
    let place : at + length part ≡ length c.args.inner.now - length behind = omega (arith, lengths some, c.loop-part.invariant.shorter) in
    c.loop-part.invariant.text ∙ doubled_bad at (string_bytes c.loop-part.text) part behind left p.0 p.1 none ∙ ap (λ (n : ℕ). Err n) place

pub range_from-left-requires : goal.range_from-left-requires
range_from-left-requires c =
    let p = parts (goal.at.range_from-left-requires c).In-Some in
    let first = first_escaped c.in-Some.behind.now c.in-Some-escaped.character (escape (goal.at.range_from-left-requires c).In-Some-escaped) in
    let utf8 = IsUtf8-behind 92 c.loop-part.left.now c.in-Some.part.now c.in-Some.behind.now (omega arith) c.loop-part.invariant.utf8 p.0 in
    λ _. IsCharBoundary-after_ascii c.in-Some.behind.now 0 utf8 first.0 first.1

pub loop-part-preserved : goal.loop-part-preserved
loop-part-preserved c =
    let some = (goal.at.loop-part-preserved c).In-Some in
    let p = parts some in
    let inner = c.args.inner.now in
    let text = string_bytes c.loop-part.text in
    let left = c.loop-part.left.now in
    let part = c.in-Some.part.now in
    let behind = c.in-Some.behind.now in
    let character = c.in-Some-escaped.character in
    let is = escape (goal.at.loop-part-preserved c).In-Some-escaped in
    let first = first_escaped behind character is in
    let at : ℕ = 1 + (length inner - length left) in
    let left_is = c.range_from-left.ensures.value in
    let len : length c.range_from-left.result.now ≡ length behind - 1 = ap length left_is ∙ length-drop 1 behind in
    let place : at + length part + 2 ≡ 1 + (length inner - length c.range_from-left.result.now) = omega (arith, lengths some, c.loop-part.invariant.shorter, len, first.0) in
    let pushed : string_bytes c.push.new.self ≡ text ++ part ++ character ∷ [] =
    c.in_ok-push.ensures.bytes ∙ ap (λ (l : List ℕ). string_bytes c.push_str.new.self ++ l) (c.in_ok-push.ensures.ascii first.2) ∙ ap (λ (l : List ℕ). l ++ character ∷ []) c.in_ok-push_str.ensures.bytes in
    record {
      utf8 = c.range_from-left.utf8;
      shorter = omega (arith, lengths some, c.loop-part.invariant.shorter, len);
      text = c.loop-part.invariant.text ∙ doubled_more at text part behind left character p.0 p.1 is
          ∙ ap (λ (l : List ℕ). with_front l (double_text (at + length part + 2) (drop 1 behind))) (sym pushed)
          ∙ ap (λ (n : ℕ). with_front (string_bytes c.push.new.self) (double_text n (drop 1 behind))) place
          ∙ ap (λ (l : List ℕ). with_front (string_bytes c.push.new.self) (double_text (1 + (length inner - length c.range_from-left.result.now)) l)) (sym left_is);
    }

pub returns : goal.returns
returns c =
    let left = c.loop-part.left.now in
    let none = rw c.in_default.is at (split_parts 92 left c.split_once.result c.split_once.ensures.cases (omega arith)) in
    c.loop-part.invariant.text ∙ doubled_last (1 + (length c.args.inner.now - length left)) (string_bytes c.loop-part.text) left none ∙ ap (λ (l : List ℕ). Ok l) (sym c.in_ok-push_str-2.ensures.bytes)
