use Rattle.std.proofs.Common.{◌≡◌, true}
use Rattle.dp_model.specs.Typing.{is_state}
use Rattle.dypdl_data.specs.Target.{target_of}
use Rattle.dypdl_data.proofs.Steps.{when_ok}
use Rattle.dypdl_data.proofs.FitTarget as fit
use Rattle.dypdl_data.proofs.laws.target_fits.Goals as goal

pub returns : goal.returns
returns c = λ objects variables tree s e. when_ok (λ s. is_state objects variables s ≡ true) (target_of objects variables tree) s e (fit.target_fits objects variables tree)
