-- What comes of a generated model.
use Rattle.std.proofs.Common.{◌≤◌, ℕ, Bool, List, [], ◌++◌, Option, Some, None, false, inr, refl, sym, subst, append_assoc, arith}
use Rattle.dp_outside.specs.Outside.{Takes, TakesFront}
use Rattle.solve_report.proofs.Written.{TakesFront-longer}
use Rattle.dp_model.specs.declared.answers.Options.{Options}
use Rattle.dp_model.specs.declared.whole.Model.{Model}
use Rattle.command_line.specs.declared.jobs.Job.TheVariants as jobs
use Rattle.model_gen.specs.Texts.{domain_text, problem_text}
use Rattle.model_gen.specs.declared.kinds.GenKind.{GenKind}
use Rattle.run_ends.specs.declared.solved.Solved.{Solved}
use Rattle.solve_top.proofs.Behinds.{Writes, then_writes}
use Rattle.solve_top.proofs.Programs.{as_printed}
use Rattle.solve_passes.specs.Ongoing.{Concluded}
use Rattle.solve_passes.specs.Records.{Record, OutOfMemory, Right, ending_status, record_text}
use Rattle.solve_passes.specs.declared.progress.Printing.TheVariants.{VerdictAlone}
use Rattle.run_ends.specs.declared.status.Status.{Status}
use Rattle.run_ends.specs.declared.status.Status.TheVariants as statuses
use Rattle.solve_top.specs.Jobs.{gen_options}
use Rattle.solve_top.specs.Outcomes.{NoGenerated, Generated, Does, Printed, SolvesGenerated, gen_line, ground_line, no_model_text}
use Rattle.solve_passes.proofs.Announces.{nothing_announced}
use Rattle.solve_top.specs.Runs.{RefusedBy, outcome_of}
use Rattle.solve_top.specs.Texts.{IsRefused, Means}
use Rattle.solve_top.specs.declared.causes.NoModel.{NoModel}
use Rattle.solve_top.specs.declared.causes.NoModel.TheVariants as causes

-- ---- the model was loaded

-- its ground transitions, and then a run
pub ground_then : (m : Model) (workers : ℕ) (first second third : Option (List ℕ)) (solved : Solved) → Takes first second (ground_line m) → Concluded m (gen_options workers) false VerdictAlone second third solved → SolvesGenerated m workers first third solved.status
ground_then m workers first second third solved took c =
    (c.run, c.right, c.word, then_writes first second third (ground_line m) (record_text VerdictAlone m c.run) (ending_status c.run.ending) solved.status took (as_printed c))

-- a run that ended at once for want of memory
abbrev pub no_run : Record
no_run = record { at_target = None; passes = []; bound = None; ending = OutOfMemory }

none_within : (n : ℕ) → 0 ≤ n
none_within n = omega arith

pub right_no_run : (m : Model) (options : Options) (gap : Bool) → Right m options gap no_run
right_no_run m options gap = record {
  numbered = tt;
  dropping = tt;
  within_budget = none_within options.budget;
  reached = tt;
  legal = tt;
  improving = tt;
  announced = nothing_announced m OutOfMemory;
  base_target = tt;
  bound = λ needs. absurd (omega (arith, needs.2));
  ending = tt;
}

-- the line of its ground transitions could not be written
pub ground_failed : (m : Model) (workers : ℕ) (before after : Option (List ℕ)) → TakesFront before after (ground_line m) → SolvesGenerated m workers before after statuses.WriteFault
ground_failed m workers before after front = (no_run, right_no_run m (gen_options workers) false, tt, inr (refl, TakesFront-longer before after (ground_line m) (record_text VerdictAlone m no_run) front))

-- ---- the whole

module _ (kind : GenKind) (size seed workers : ℕ) (files : List ℕ → Option (List ℕ)) (first second third : Option (List ℕ)) where
  -- the first line, and then a searched model
  pub line_then : (m : Model) (status : Status) → Takes first second (gen_line kind size seed) → Means (domain_text kind) (problem_text kind size seed) m → SolvesGenerated m workers second third status → Does (jobs.Gen kind size seed workers) files first third status
  line_then m status took means s = λ words asks. (
    Generated kind size seed m (gen_options workers) s.0,
    (workers, asks, refl, means, s.1, s.2),
    subst (λ (text : List ℕ). Writes first third text (ending_status s.0.ending) status) (sym (append_assoc (gen_line kind size seed) (ground_line m) (record_text VerdictAlone m s.0)))
        (then_writes first second third (gen_line kind size seed) (ground_line m ++ record_text VerdictAlone m s.0) (ending_status s.0.ending) status took s.3),
  )

  -- the first line, and then why there is no model
  pub line_then_none : (e : NoModel) (status : Status) → Takes first second (gen_line kind size seed) → RefusedBy (IsRefused (domain_text kind) (problem_text kind size seed)) e → Printed second third (outcome_of e) status → Does (jobs.Gen kind size seed workers) files first third status
  line_then_none (causes.Refused number place offset) status took h printed = λ words asks. (
    NoGenerated kind size seed (Some (record { number = number; place = place; offset = offset })),
    (workers, asks, h),
    then_writes first second third (gen_line kind size seed) (no_model_text (Some (record { number = number; place = place; offset = offset }))) statuses.Refused status took printed,
  )
  line_then_none causes.Memory status took h printed = λ words asks. (
    NoGenerated kind size seed None,
    (workers, asks, tt),
    then_writes first second third (gen_line kind size seed) (no_model_text None) statuses.Memory status took printed,
  )
  line_then_none (causes.ReadFault file) status took h printed = absurd h
  line_then_none (causes.TooLong file) status took h printed = absurd h

  -- the first line could not be written
  pub line_failed : TakesFront first third (gen_line kind size seed) → Does (jobs.Gen kind size seed workers) files first third statuses.WriteFault
  line_failed front = λ words asks. (NoGenerated kind size seed None, (workers, asks, tt), inr (refl, TakesFront-longer first third (gen_line kind size seed) (no_model_text None) front))
