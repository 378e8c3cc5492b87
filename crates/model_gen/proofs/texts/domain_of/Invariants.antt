use Rattle.std.proofs.Common.{◌≡◌, ◌++◌, drop, string_bytes}
use Rattle.std.specs.List.{flat_map}
use Rattle.dp_base.specs.Bytes.{line}
use Rattle.model_gen.proofs.texts.domain_of.Given as goal

abbrev pub invariant-loop-words : goal.invariant-loop-words
invariant-loop-words l = string_bytes l.text ++ flat_map (λ words. line words.now) (drop l.words-index l.lines) ≡ flat_map (λ words. line words.now) l.lines
