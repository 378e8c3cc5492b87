-- What a search or a check of the searched model promises, it promises of the model.
use Rattle.std.proofs.Common.{Bool, true, false, List, ℕ, Option, Some, None, ℤ, subst}
use Rattle.dp_claims.specs.Enough.{Has}
use Rattle.dp_steps.specs.Lists.{Solution}
use Rattle.dp_model.specs.declared.answers.Options.{Options}
use Rattle.dp_model.specs.declared.whole.Model.{Model}
use Rattle.best_ledger.specs.Right.{BestRun, KeepsWordBest, RightBest}
use Rattle.cert_types.specs.declared.cert.Cert.{Cert}
use Rattle.cert_laws.specs.Shown.{Shown}
use Rattle.cert_laws.proofs.Backwards.{law}
use Rattle.solve_passes.specs.Records.{KeepsWord, Record, Right, announced_costs}
use Rattle.kept_model.specs.Parts.{IsKept}
use Rattle.kept_model.proofs.Choice.{kept_alike}
use Rattle.kept_model.proofs.Lists.{solution_too}
use Rattle.kept_model.specs.declared.kept.Kept.{Kept}
use Rattle.kept_claims.specs.Searched.{ClaimOf, IsSearched, LawSearched, WordOf, WordOfBest}
use Rattle.kept_claims.proofs.Words.{certified_law, run_best_law, run_law, word_best_law, word_law}

announced : (m : Model) (kept : Kept) (searched : Model) (options : Options) (gap : Bool) (run : Record) → IsKept m kept searched → Right searched options gap run → (c : ℤ) → Has (announced_costs run.passes) c → (steps : List ℕ) × Solution m steps c
announced m kept searched options gap run is right c has =
    let there = right.announced.legal c has in
    (there.0, solution_too m searched (kept_alike m kept searched is) there.0 c there.1)

word : (m : Model) (asked : Bool) (proved : Option Kept) (searched : Model) (options : Options) (gap : Bool) (run : Record) → IsSearched m asked proved searched → Right searched options gap run → KeepsWord searched options run.bound run.ending → WordOf m proved options run
word m false None searched options gap run is right h = subst (λ (x : Model). KeepsWord x options run.bound run.ending) is h
word m true (Some kept) searched options gap run is right h = record { legal = run_law m kept searched options gap run is.1 right; announced = announced m kept searched options gap run is.1 right; ending = word_law m kept searched options run.bound run.ending is.1 is.0 h }
word m false (Some kept) searched options gap run is right h = absurd is
word m true None searched options gap run is right h = absurd is

word_best : (m : Model) (asked : Bool) (proved : Option Kept) (searched : Model) (options : Options) (run : BestRun) → IsSearched m asked proved searched → RightBest searched options run → KeepsWordBest searched options run.ending → WordOfBest m proved options run
word_best m false None searched options run is right h = subst (λ (x : Model). KeepsWordBest x options run.ending) is h
word_best m true (Some kept) searched options run is right h = record { legal = run_best_law m kept searched options run is.1 right; ending = word_best_law m kept searched options run.ending is.1 is.0 h }
word_best m false (Some kept) searched options run is right h = absurd is
word_best m true None searched options run is right h = absurd is

claim : (m : Model) (asked : Bool) (proved : Option Kept) (searched : Model) (cert : Cert) → IsSearched m asked proved searched → Shown searched cert → ClaimOf m proved cert
claim m false None searched cert is h = λ trusted. law m cert trusted (subst (λ (x : Model). Shown x cert) is h)
claim m true (Some kept) searched cert is h = certified_law m kept searched cert is.1 is.0 h
claim m false (Some kept) searched cert is h = absurd is
claim m true None searched cert is h = absurd is

pub searched_law : LawSearched
searched_law = record { word = word; word_best = word_best; claim = claim }
