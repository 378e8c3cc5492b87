use Rattle.std.proofs.Common.{◌≡◌, ◌∙◌, ◌≤◌, ◌++◌, ◌∷◌, [], ℕ, List, length, get_or, drop, string_bytes, sym, ap, arith}
use Rattle.std.proofs.lemmas.Str.{IsCharBoundary-after_ascii}
use Rattle.std.proofs.lemmas.Str.Pattern.{split_parts}
use Rattle.yaml_tree.specs.Scalars.{single_text}
use Rattle.yaml_tree.proofs.ScalarTexts.{Without, IsSingle, single_pair_in, single_more, single_last, IsUtf8-behind}
use Rattle.yaml_tree.proofs.quoted.inner.single_text.Goals.{In-Some}
use Rattle.yaml_tree.proofs.quoted.inner.single_text.Goals as goal

parts : (c : In-Some) → (c.loop-part.left.now ≡ c.in-Some.part.now ++ (39 ∷ c.in-Some.behind.now)) × Without 39 c.in-Some.part.now
parts c = rw c.in-Some.is at (split_parts 39 c.loop-part.left.now c.split_once.result c.split_once.ensures.cases (omega arith))

-- behind the quote stands another one
pair : (c : In-Some) → (c.in-Some.behind.now ≡ 39 ∷ drop 1 c.in-Some.behind.now) × IsSingle (drop 1 c.in-Some.behind.now)
pair c = let p = parts c in single_pair_in c.in-Some.part.now c.in-Some.behind.now c.loop-part.left.now c.loop-part.invariant.closes p.0 p.1

pub range_from-left-requires : goal.range_from-left-requires
range_from-left-requires c =
    let some = (goal.at.range_from-left-requires c).In-Some in
    let behind = c.in-Some.behind.now in
    let p = parts some in
    let second = (pair some).0 in
    let utf8 = IsUtf8-behind 39 c.loop-part.left.now c.in-Some.part.now behind (omega arith) c.loop-part.invariant.utf8 p.0 in
    let one : 1 ≤ length behind = omega (arith, ap length second) in
    let quote : get_or behind 0 0 ≡ 39 = ap (λ (l : List ℕ). get_or l 0 0) second in
    λ _. IsCharBoundary-after_ascii behind 0 utf8 one (omega arith)

pub loop-part-preserved : goal.loop-part-preserved
loop-part-preserved c =
    let some = (goal.at.loop-part-preserved c).In-Some in
    let p = parts some in
    let second = pair some in
    let left = c.range_from-left.ensures.value in
    let feed = c.in_ok-push.ensures.ascii (omega arith) in
    let pushed : string_bytes c.push.new.self ≡ string_bytes c.loop-part.text ++ c.in-Some.part.now ++ 39 ∷ [] =
    c.in_ok-push.ensures.bytes ∙ ap (λ (l : List ℕ). string_bytes c.push_str.new.self ++ l) feed ∙ ap (λ (l : List ℕ). l ++ 39 ∷ []) c.in_ok-push_str.ensures.bytes in
    record {
      utf8 = c.range_from-left.utf8;
      closes = rw left second.1;
      text = c.loop-part.invariant.text ∙ single_more (string_bytes c.loop-part.text) c.in-Some.part.now c.in-Some.behind.now c.loop-part.left.now p.0 p.1 second.0
          ∙ ap (λ (l : List ℕ). l ++ single_text (drop 1 c.in-Some.behind.now)) (sym pushed) ∙ ap (λ (l : List ℕ). string_bytes c.push.new.self ++ single_text l) (sym left);
    }

pub returns : goal.returns
returns c =
    let none = rw c.in_default.is at (split_parts 39 c.loop-part.left.now c.split_once.result c.split_once.ensures.cases (omega arith)) in
    c.in_ok-push_str-2.ensures.bytes ∙ sym (c.loop-part.invariant.text ∙ single_last (string_bytes c.loop-part.text) c.loop-part.left.now none)
