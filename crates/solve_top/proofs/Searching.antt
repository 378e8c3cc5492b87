-- A search behind the lines that tell the parts of its model.
use Rattle.std.proofs.Common.{◌≡◌, ℕ, ◌≤◌, inl, inr, Bool, List, [], ◌++◌, Option, Some, None, Result, refl, subst, ap, ◌∙◌, arith}
use Rattle.std.specs.Prelude.{OnErr, OnOk}
use Rattle.cert_types.specs.declared.parts.CheckPart.{CheckPart}
use Rattle.cert_laws.specs.PartChecks.{checked_by}
use Rattle.cert_laws.specs.declared.answers.Checked.{Checked as Findings}
use Rattle.cert_types.specs.declared.cert.Cert.{Cert}
use Rattle.dp_outside.specs.Outside.{Rose, Takes, TakesFront}
use Rattle.dp_outside.specs.declared.failing.Failed.{Failed}
use Rattle.solve_report.proofs.Written.{TakesFront-longer}
use Rattle.solve_report.specs.Puts.{Puts}
use Rattle.dp_model.specs.declared.answers.Options.{Options}
use Rattle.dp_model.specs.declared.whole.Model.{Model}
use Rattle.best_ledger.specs.Right.{BestRun, RightBest}
use Rattle.best_ledger.specs.Right as best
use Rattle.command_line.specs.declared.jobs.Engine.{Engine}
use Rattle.command_line.specs.declared.jobs.Engine.TheVariants as engines
use Rattle.command_line.specs.declared.jobs.Search.{Search}
use Rattle.kept_claims.specs.Searched.{WordOf, WordOfBest}
use Rattle.kept_claims.proofs.Searched.{searched_law}
use Rattle.kept_model.specs.declared.kept.Kept.{Kept}
use Rattle.kept_model.specs.declared.parts.Part.{Part}
use Rattle.run_ends.specs.declared.status.Status.{Status}
use Rattle.run_ends.specs.declared.status.Status.TheVariants as statuses
use Rattle.solve_best.specs.Texts.{run_text}
use Rattle.solve_passes.proofs.Counted.{none_counted}
use Rattle.solve_passes.specs.Records.{OutOfMemory, record_text}
use Rattle.solve_passes.specs.declared.progress.Printing.TheVariants.{All}
use Rattle.solve_top.specs.Behind.{Nothing, IsAnnounced, Solves, SolvesBest, SolvesBy, behind_text}
use Rattle.solve_top.specs.Jobs.{keeping_all}
use Rattle.solve_top.specs.Outcomes.{Checks, IsSearch, IsBestSearch, SearchesFor, Solving, SolvingBest, checked_status, checked_text, outcome_status}
use Rattle.solve_top.specs.Parts.{ServesFor, part_lines, parts_text}
use Rattle.solve_top.specs.declared.proving.Searched.{Searched}
use Rattle.solve_top.proofs.Behinds.{Writes, as_text, none_may, put_writes, then_writes}
use Rattle.solve_top.proofs.Generated.{no_run, right_no_run}

-- where nothing was found before memory ran out
abbrev no_best_run : BestRun
no_best_run = record { found = None; visited = None; ending = best.OutOfMemory }

right_no_best_run : (m : Model) (options : Options) → RightBest m options no_best_run
right_no_best_run m options = record { within_budget = tt; reached = tt; legal = tt; ending = tt }

none_announced : (announce : Bool) → IsAnnounced announce no_run
none_announced announce = λ k p at. absurd (cc)

word_of_none : (m : Model) (proved : Option Kept) (options : Options) → WordOf m proved options no_run
word_of_none m None options = tt
word_of_none m (Some kept) options = record { legal = tt; announced = λ c has. let clash : None ≡ Some c = has.1 in absurd (cc); ending = tt }

word_of_no_best : (m : Model) (proved : Option Kept) (options : Options) → WordOfBest m proved options no_best_run
word_of_no_best m None options = tt
word_of_no_best m (Some kept) options = record { legal = tt; ending = tt }

module _ (m : Model) (search : Search) (s : Searched) (serves : ServesFor m search.proved s) where
  -- a text behind the lines of the parts
  behind_parts : (first second third : Option (List ℕ)) (text : List ℕ) (wanted status : Status) → Takes first second (part_lines s.parts.items) → Writes second third text wanted status → Writes first third (parts_text m serves.0 ++ text) wanted status
  behind_parts first second third text wanted status took writes =
      subst (λ (lines : List ℕ). Writes first third (lines ++ text) wanted status) serves.2 (then_writes first second third (part_lines s.parts.items) text wanted status took writes)

  -- a front of the lines of the parts is one of them and of what would stand behind
  front_of_parts : (first third : Option (List ℕ)) (text : List ℕ) → TakesFront first third (part_lines s.parts.items) → TakesFront first third (parts_text m serves.0 ++ text)
  front_of_parts first third text front = subst (λ (lines : List ℕ). TakesFront first third (lines ++ text)) serves.2 (TakesFront-longer first third (part_lines s.parts.items) text front)

  layers_then : (first second third : Option (List ℕ)) (status : Status) → search.engine ≡ engines.Beam → Takes first second (part_lines s.parts.items)
      → Solves s.model search.options search.gap search.announce search.certificate second third status → SearchesFor m search first third status
  layers_then first second third status engine took solves =
      let is : IsSearch m serves.0 s.model search solves.run solves.follows.0 = record {
        engine = engine;
        is_searched = serves.1;
        right = solves.right;
        announcing = solves.announcing;
        counted = solves.counted;
        word = searched_law.word m search.proved serves.0 s.model search.options search.gap solves.run serves.1 solves.right solves.word;
        stands = solves.follows.1;
      } in
      inl (
        serves.0,
        s.model,
        solves.run,
        solves.follows.0,
        is,
        behind_parts first second third (record_text (All search.announce) s.model solves.run ++ behind_text s.model search.options solves.follows.0)
            (outcome_status (Solving m serves.0 s.model search solves.run solves.follows.0)) status took solves.follows.2,
      )

  best_then : (first second third : Option (List ℕ)) (status : Status) → search.engine ≡ engines.Best → Takes first second (part_lines s.parts.items)
      → SolvesBest s.model search.options search.certificate second third status → SearchesFor m search first third status
  best_then first second third status engine took solves =
      let is : IsBestSearch m serves.0 s.model search solves.run solves.follows.0 = record {
        engine = engine;
        is_searched = serves.1;
        right = solves.right;
        counted = solves.counted;
        word = searched_law.word_best m search.proved serves.0 s.model search.options solves.run serves.1 solves.right solves.word;
        stands = solves.follows.1;
      } in
      inr (inl (
        serves.0,
        s.model,
        solves.run,
        solves.follows.0,
        is,
        behind_parts first second third (run_text s.model solves.run ++ behind_text s.model (keeping_all search.options) solves.follows.0)
            (outcome_status (SolvingBest m serves.0 s.model search solves.run solves.follows.0)) status took solves.follows.2,
      ))

  -- the lines of the parts, and then a search
  pub parts_then : (first second third : Option (List ℕ)) (status : Status) → Takes first second (part_lines s.parts.items)
      → SolvesBy search.engine s.model search.options search.gap search.announce search.certificate second third status → SearchesFor m search first third status
  parts_then first second third status took solves = by_engine search.engine refl solves
    where
      by_engine : (engine : Engine) → search.engine ≡ engine → SolvesBy engine s.model search.options search.gap search.announce search.certificate second third status → SearchesFor m search first third status
      by_engine engines.Beam is h = layers_then first second third status is took h
      by_engine engines.Best is h = best_then first second third status is took h

  -- the lines of the parts could not be written
  pub parts_failed : (first third : Option (List ℕ)) → TakesFront first third (part_lines s.parts.items) → SearchesFor m search first third statuses.WriteFault
  parts_failed first third front = by_engine search.engine refl
    where
      by_engine : (engine : Engine) → search.engine ≡ engine → SearchesFor m search first third statuses.WriteFault
      by_engine engines.Beam is =
          inl (
            serves.0,
            s.model,
            no_run,
            Nothing,
            record {
              engine = is;
              is_searched = serves.1;
              right = right_no_run s.model search.options search.gap;
              announcing = none_announced search.announce;
              counted = none_counted s.model search.options None OutOfMemory;
              word = word_of_none m serves.0 search.options;
              stands = none_may s.model search.options search.certificate None refl;
            },
            inr (refl, front_of_parts first third (record_text (All search.announce) s.model no_run ++ []) front),
          )
      by_engine engines.Best is =
          inr (inl (
            serves.0,
            s.model,
            no_best_run,
            Nothing,
            record {
              engine = is;
              is_searched = serves.1;
              right = right_no_best_run s.model search.options;
              counted = λ closes. tt;
              word = word_of_no_best m serves.0 search.options;
              stands = none_may s.model (keeping_all search.options) search.certificate None refl;
            },
            inr (refl, front_of_parts first third (run_text s.model no_best_run ++ []) front),
          ))

-- a count that did not fall and then rose, rose
pub rose_later : (first second third : ℕ) → first ≤ second → Rose second third → Rose first third
rose_later first second third count (inl rose) = inl (omega (arith, count, rose))
rose_later first second third count (inr most) = inr most

-- ---- a check

-- the lines of the parts and what was told of a certificate were put
pub was_told : (m : Model) (asked : Bool) (s : Searched) (serves : ServesFor m asked s) (cert : Cert) (which : Option CheckPart) (parts : List Part) (told : Findings) (before after : Option (List ℕ)) (f g : ℕ) (put : Result (Unit {0}) Failed) (wanted status : Status)
    → parts ≡ s.parts.items → told ≡ checked_by which s.model cert → wanted ≡ checked_status told → Puts before after f g (part_lines parts ++ checked_text which cert.claim told) put → OnOk put (status ≡ wanted) → OnErr put (status ≡ statuses.WriteFault)
    → Checks m cert asked which before after status
was_told m asked s serves cert which parts told before after f g put wanted status same is means puts ok err =
    let text = part_lines parts ++ checked_text which cert.claim told in
    let lines : text ≡ parts_text m serves.0 ++ checked_text which cert.claim (checked_by which s.model cert) =
    ap (λ (ps : List Part). part_lines ps ++ checked_text which cert.claim told) same ∙ ap (λ (t : List ℕ). t ++ checked_text which cert.claim told) serves.2 ∙ ap (λ (x : Findings). parts_text m serves.0 ++ checked_text which cert.claim x) is in
    let writes = as_text before after text (parts_text m serves.0 ++ checked_text which cert.claim (checked_by which s.model cert)) wanted status lines (put_writes before after f g text put wanted status puts ok err) in
    inl (serves.0, s.model, serves.1, subst (λ (x : Status). Writes before after (parts_text m serves.0 ++ checked_text which cert.claim (checked_by which s.model cert)) x status) (means ∙ ap checked_status is) writes)
