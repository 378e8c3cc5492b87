-- What of an error is told.
use Rattle.std.specs.Prelude.{Option, Some, None}
use Rattle.dypdl_words.specs.declared.ends.TypeEnd.{TypeEnd}
use Rattle.dypdl_words.specs.declared.ends.TypeEnd.TheVariants.{Memory}

-- want of memory tells nothing of an expression
abbrev pub told : TypeEnd → Option TypeEnd
told Memory = None
told e = Some e
