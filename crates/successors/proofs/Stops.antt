-- A fault in the state at hand ends a call.
use Rattle.std.proofs.Common.{◌≡◌, Result, Ok, Err, refl}
use Rattle.std.specs.Result.{IsErrAnd}
use Rattle.dp_base.specs.Results.{◌>>=◌}
use Rattle.spot_eval.specs.Answers.{Answers}
use Rattle.spot_eval.specs.declared.ends.SpotEnd.{SpotEnd}
use Rattle.spot_eval.specs.declared.ends.SpotEnd.TheVariants as spots
use Rattle.spot_eval.specs.declared.ends.SpotFault.{SpotFault}
use Rattle.successors.specs.Answers.{AnswersBy, Met, ended, here}
use Rattle.successors.specs.declared.ends.ExpandEnd.{ExpandEnd}

ends : {A B C : Type 0} (view : C → B) (spot_end : SpotEnd) (value : Result A SpotFault) (f : A → Result B Met) → Answers (Err spot_end) value → AnswersBy view (Err (ended spot_end)) (here value >>= f)
ends view (spots.Fault met) value f h = rw h refl
ends view spots.Memory value f h = tt

pub stops : {A B C : Type 0} (view : C → B) (told : Result C ExpandEnd) (spot_end : SpotEnd) (value : Result A SpotFault) (f : A → Result B Met) → IsErrAnd told (λ (e : ExpandEnd). e ≡ ended spot_end) → Answers (Err spot_end) value → AnswersBy view told (here value >>= f)
stops view (Ok x) spot_end value f e h = absurd e
stops view (Err x) spot_end value f e h = rw e (ends view spot_end value f h)
