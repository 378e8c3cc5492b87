use Rattle.std.proofs.Common.{◌≡◌, ◌+◌, ◌∙◌, ◌++◌, ◌∷◌, [], ℕ, List, Some, None, true, false, length, replicate, string_bytes, string_len, sym, ap, arith}
use Rattle.std.specs.List.{slice_get, prefix_len}
use Rattle.std.proofs.lemmas.List.{replicate_more}
use Rattle.yaml_tree.specs.Lines.{is_empty}
use Rattle.yaml_tree.proofs.ScalarLines.{blank_line, blanks_more, blanks_stop, blanks_end}
use Rattle.yaml_tree.proofs.plain.line_feeds.Goals.{in-Some+then-not-is_empty, in_default}
use Rattle.yaml_tree.proofs.plain.line_feeds.Goals as goal

pub loop-row-preserved : goal.loop-row-preserved
loop-row-preserved c =
    let k = c.loop-row.invariant in
    let rows = c.args.reader.now.below in
    let row = c.in-Some.row in
    let n = string_len c.loop-row.feeds in
    let pushed = c.in_ok-push.ensures in
    let there : slice_get rows n ≡ Some row = ap (slice_get rows) (sym c.len.ensures) ∙ sym c.row.ensures ∙ c.in-Some.is in
    let blank : blank_line row ≡ true = ap is_empty (sym c.text.ensures) ∙ sym c.is_empty.ensures ∙ c.if-not-is_empty.false in
    let feed = pushed.ascii (omega arith) in
    let more : string_len c.push.new.self ≡ n + 1 = omega (arith, pushed.len, ap length feed) in
    record {
      feeds = pushed.bytes ∙ ap (λ (l : List ℕ). string_bytes c.loop-row.feeds ++ l) feed ∙ ap (λ (l : List ℕ). l ++ 10 ∷ []) k.feeds ∙ replicate_more n 10 ∙ ap (λ (m : ℕ). replicate m 10) (sym more);
      blank = rw more (sym (blanks_more rows n row there blank) ∙ k.blank);
    }

pub returns : goal.returns
returns c =
    let k = c.loop-row.invariant in
    let rows = c.args.reader.now.below in
    let n = string_len c.loop-row.feeds in
    let all = λ (count : n ≡ prefix_len blank_line rows). k.feeds ∙ ap (λ (m : ℕ). replicate m 10) count in
    elim c.match-row.branch [
      | in-Some+then-not-is_empty w ↦
          let row = w.in-Some.row in
          let there : slice_get rows n ≡ Some row = ap (slice_get rows) (sym c.len.ensures) ∙ sym c.row.ensures ∙ w.in-Some.is in
          let full : blank_line row ≡ false = ap is_empty (sym w.text.ensures) ∙ sym w.is_empty.ensures ∙ w.if-not-is_empty.true in
          all (sym (blanks_stop rows n row there full) ∙ k.blank)
      | in_default w ↦
          let there : slice_get rows n ≡ None = ap (slice_get rows) (sym c.len.ensures) ∙ sym c.row.ensures ∙ w.in_default.is in
          all (sym (blanks_end rows n there) ∙ k.blank)
    ]
