use Rattle.std.proofs.Common.{◌≡◌, Ok, Err}
use Rattle.yaml_tree.proofs.One.{one_reading}
use Rattle.yaml_tree.proofs.laws.one_reading.Goals as goal

pub returns-clause-one_tree : goal.returns-clause-one_tree
returns-clause-one_tree c file text a b is_a is_b = let e : Ok a ≡ Ok b = one_reading file text (Ok a) (Ok b) is_a is_b in cc

pub returns-clause-no_refusal : goal.returns-clause-no_refusal
returns-clause-no_refusal c file text tree e spells refused = let same : Ok tree ≡ Err e = one_reading file text (Ok tree) (Err e) spells refused in absurd cc

pub returns-clause-one_refusal : goal.returns-clause-one_refusal
returns-clause-one_refusal c file text e f is_e is_f = let same : Err e ≡ Err f = one_reading file text (Err e) (Err f) is_e is_f in cc
