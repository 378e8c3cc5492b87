-- Want of memory among the causes.
use Rattle.std.specs.Prelude.{Bool, true, false}
use Rattle.dypdl_ground.specs.declared.ends.GroundEnd.{GroundEnd}
use Rattle.dypdl_ground.specs.declared.ends.GroundEnd.TheVariants.{TooMany, Memory}

abbrev pub is_memory : GroundEnd → Bool
is_memory Memory = true
is_memory (TooMany transition) = false
