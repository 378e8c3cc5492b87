-- Which jobs words ask for, what fits in them, and which files they read.
use Rattle.std.specs.Prelude.{◌≡◌, ℕ, ◌≤◌, true, List, [], ◌∷◌, None, Some, IfSome}
use Rattle.dp_model.specs.declared.answers.Keep.TheVariants as keeps
use Rattle.dp_model.specs.declared.answers.Options.{Options}
use Rattle.cert_types.specs.Places.{IsPart}
use Rattle.command_line.specs.Jobs.{job_of}
use Rattle.command_line.specs.declared.jobs.Job.{Job}
use Rattle.command_line.specs.declared.jobs.Job.TheVariants.{Solve, Replay, Show, Gen, Check}
use Rattle.model_gen.specs.Kinds.{least_size, most_size}
use Rattle.pass_ends.specs.Passes.{AreOptions}
use Rattle.solve_top.specs.Texts.{Third, Steps, Certificate}

-- the words ask for this job
abbrev pub Asks : List (List ℕ) → Job → Type 0
Asks words job = job_of words ≡ Some job

-- words that ask for nothing
abbrev pub AskNothing : List (List ℕ) → Type 0
AskNothing words = job_of words ≡ None

-- the names of the files that a job reads, in the order in which they are read: the domain, the problem, and a list or a
-- certificate
abbrev pub names_of : Job → List (List ℕ)
names_of (Solve domain problem search) = domain ∷ problem ∷ []
names_of (Replay domain problem list) = domain ∷ problem ∷ list ∷ []
names_of (Show domain problem) = domain ∷ problem ∷ []
names_of (Gen kind size seed workers) = []
names_of (Check domain problem cert proved part) = domain ∷ problem ∷ cert ∷ []

-- what the third of them is, where there are three
abbrev pub third_of : Job → Third
third_of (Check domain problem cert proved part) = Certificate
third_of job = Steps

-- how certificates are written of a search of the best node first, in which nodes of all layers cover
abbrev pub keeping_all : Options → Options
keeping_all options = record { workers = options.workers; budget = options.budget; prune = options.prune; keep = keeps.All }

-- how a generated model is searched: with pruning, and with the budget that is taken where none is given
abbrev pub gen_options : ℕ → Options
gen_options workers = record { workers = workers; budget = 10000000; prune = true; keep = keeps.Layer }

-- what is asked for lies in its range
abbrev pub JobFits : Job → Type 0
JobFits (Solve domain problem search) = AreOptions search.options
JobFits (Replay domain problem list) = Unit {0}
JobFits (Show domain problem) = Unit {0}
JobFits (Check domain problem cert proved part) = IfSome part IsPart
JobFits (Gen kind size seed workers) = (least_size kind ≤ size) × (size ≤ most_size kind) × AreOptions (gen_options workers)
