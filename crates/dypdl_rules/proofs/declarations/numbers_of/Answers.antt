use Rattle.std.proofs.Common.{arith}
use Rattle.std.proofs.lemmas.Grind.{common_steps}
use Rattle.std.proofs.lemmas.Iterator.Adapters.{position_from-zero}
use Rattle.std.specs.Str.{bytes_eq}
use Rattle.dypdl_data.specs.Objects.{object_names}
use Rattle.dypdl_rules.proofs.declarations.numbers_of.Goals as goal

pub returns : goal.returns
returns c = λ word. grind (arith, common_steps, c.loop-at.invariant word, position_from-zero (bytes_eq word) (object_names c.args.objects.now))
