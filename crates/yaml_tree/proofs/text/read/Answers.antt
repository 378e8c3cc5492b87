use Rattle.std.proofs.Common.{IfOk, IfErr, rules}
use Rattle.std.proofs.lemmas.Result.{IfOk-weaker}
use Rattle.yaml_tree.specs.Texts.{Spells, Refused}
use Rattle.yaml_tree.specs.Results.{MemoryOr}
use Rattle.yaml_tree.proofs.WithinTexts.{reads_within}
use Rattle.yaml_tree.proofs.BaseOne.{only-tree, only-refusal}
use Rattle.yaml_tree.proofs.text.read.Goals as goal

pub returns-in-Ok-clause-every : goal.returns-in-Ok-clause-every
returns-in-Ok-clause-every c =
    let read : IfOk c.of_lines.result (Spells c.args.file c.args.bytes.now) = search rules in
    let refused : IfErr c.of_lines.result (MemoryOr (Refused c.args.file c.args.bytes.now)) = search rules in
    only-tree c.args.file c.args.bytes.now c.of_lines.result read refused

pub returns-in-Ok-clause-every_refusal : goal.returns-in-Ok-clause-every_refusal
returns-in-Ok-clause-every_refusal c =
    let read : IfOk c.of_lines.result (Spells c.args.file c.args.bytes.now) = search rules in
    let refused : IfErr c.of_lines.result (MemoryOr (Refused c.args.file c.args.bytes.now)) = search rules in
    only-refusal c.args.file c.args.bytes.now c.of_lines.result read refused

pub returns-in-Ok-clause-within : goal.returns-in-Ok-clause-within
returns-in-Ok-clause-within c =
    let read : IfOk c.of_lines.result (Spells c.args.file c.args.bytes.now) = search rules in
    IfOk-weaker c.of_lines.result _ _ (λ tree spells. reads_within c.args.file c.args.bytes.now tree spells) read
