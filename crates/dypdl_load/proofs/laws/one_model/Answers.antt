use Rattle.std.proofs.Common.{◌≡◌, Ok, sym, ap, ◌∙◌}
use Rattle.dypdl_rules.specs.Expressions.{Reading}
use Rattle.dypdl_load.specs.Meaning.{meaning, parts_of}
use Rattle.dypdl_load.proofs.Readings.{one_reading}
use Rattle.dypdl_load.proofs.Same.{same_model}
use Rattle.dypdl_load.proofs.laws.one_model.Goals as goal

pub returns : goal.returns
returns c read other domain problem a b is also x y =
    let e : Ok (parts_of a) ≡ Ok (parts_of b) = sym x ∙ ap (λ (r : Reading). meaning r domain problem) (one_reading read other is also) ∙ y in
    let same : parts_of a ≡ parts_of b = cc in
    same_model a b same
