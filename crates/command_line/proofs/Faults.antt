-- Words with a fault ask for no job, and words without one for the job that was found.
use Rattle.std.proofs.Common.{◌≡◌, ◌≢◌, [], ◌∷◌, Option, None, refl, ap, length, arith}
use Rattle.clap.specs.Words.{Kinds}
use Rattle.command_line.specs.Jobs.{unless_fault}
use Rattle.command_line.specs.declared.jobs.Job.{Job}

pub faulty : (kinds : Kinds) (job : Option Job) → kinds ≢ [] → unless_fault kinds job ≡ None
faulty [] job not = absurd (not refl)
faulty (kind ∷ kinds) job not = refl

pub free : (kinds : Kinds) (job : Option Job) → kinds ≡ [] → unless_fault kinds job ≡ job
free [] job is = refl
free (kind ∷ kinds) job is = absurd (omega (arith, ap length is))
