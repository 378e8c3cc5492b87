use Rattle.dypdl_data.specs.Laws.{FitObjects}
use Rattle.dypdl_data.specs.Objects.{objects_of}
use Rattle.dypdl_data.proofs.Steps.{when_ok}
use Rattle.dypdl_data.proofs.FitObjects as fit
use Rattle.dypdl_data.proofs.laws.objects_fit.Goals as goal

pub returns : goal.returns
returns c = λ at names numbers objects e. when_ok FitObjects (objects_of at names numbers) objects e (fit.objects_fit at names numbers)
