use Rattle.std.proofs.Common.{◌≡◌, sym, ap, subst, ◌∙◌, List, ℕ, arith}
use Rattle.bit_sets.specs.Sets.{members_of}
use Rattle.packed_words.specs.Sets.{IsClean, one_word}
use Rattle.packed_eval.proofs.Held.{word_written, one_for, none_there, no_words, none_members}
use Rattle.packed_eval.proofs.cells.write_word.Goals as goal

pub returns-then-count-gt0-clause-members : goal.returns-then-count-gt0-clause-members
returns-then-count-gt0-clause-members c =
    ap (λ (ws : List ℕ). members_of ws) (word_written c.args.out.now c.args.word (c.requires.length ∙ one_for c.args.count (omega (arith, c.if-count-gt0.true)) c.requires.few))

pub returns-then-count-gt0-clause-clean : goal.returns-then-count-gt0-clause-clean
returns-then-count-gt0-clause-clean c =
    subst (λ (ws : List ℕ). IsClean c.args.count ws) (sym (word_written c.args.out.now c.args.word (c.requires.length ∙ one_for c.args.count (omega (arith, c.if-count-gt0.true)) c.requires.few))) c.requires.clean

pub returns-else-count-gt0-clause-members : goal.returns-else-count-gt0-clause-members
returns-else-count-gt0-clause-members c =
    let none : c.args.count ≡ 0 = omega (arith, c.if-count-gt0.false) in
    none_members c.args.out.now (no_words c.args.count c.args.out.now none c.requires.length)
    ∙ sym (none_there (one_word c.args.word) (subst (λ (n : ℕ). IsClean n (one_word c.args.word)) none c.requires.clean))
