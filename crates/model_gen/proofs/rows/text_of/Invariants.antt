use Rattle.std.proofs.Common.{◌≡◌, ◌++◌, drop, string_bytes}
use Rattle.model_gen.specs.Texts.{lines}
use Rattle.model_gen.proofs.rows.text_of.Given as goal

abbrev pub invariant-loop-words : goal.invariant-loop-words
invariant-loop-words l = string_bytes l.text ++ lines (drop l.words-index l.lines) ≡ lines l.lines
