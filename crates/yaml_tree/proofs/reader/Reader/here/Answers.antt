-- What is left of a line is text, since it is cut between characters.
use Rattle.std.proofs.Common.{subst}
use Rattle.std.specs.Str.{IsUtf8}
use Rattle.std.proofs.lemmas.Str.{IsUtf8-between}
use Rattle.yaml_tree.specs.Rest.{Rest}
use Rattle.yaml_tree.proofs.reader.Reader.here.Goals as goal

pub returns-clause-utf8 : goal.returns-clause-utf8
returns-clause-utf8 c =
    let r = c.self.inside in
    let k = c.self.invariant in
    let P : Rest → Type 0 = λ x. IsUtf8 x.here in
    subst P c.self.view_is (IsUtf8-between r.text.now r.at r.stop (rw c.as_bytes.ensures.value at c.as_bytes.ensures.utf8) k.in_order k.starts k.ends)
