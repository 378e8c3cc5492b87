-- Which model is searched: the model itself, or what was proved of it; and what the answers then say of the model.
use Rattle.std.specs.Prelude.{◌≡◌, ℕ, Bool, true, false, List, slice_get, Option, Some, None, IfSome, ℤ}
use Rattle.std.specs.List.{AllByRecursion}
use Rattle.dp_model.specs.declared.answers.Found.{Found}
use Rattle.dp_model.specs.declared.answers.Options.{Options}
use Rattle.dp_model.specs.declared.trees.Num.{Num}
use Rattle.dp_model.specs.declared.whole.Model.{Model}
use Rattle.dp_steps.specs.Lists.{Solution}
use Rattle.dp_claims.specs.Enough.{Has}
use Rattle.best_ledger.specs.Right.{BestRun, KeepsWordBest, RightBest}
use Rattle.cert_types.specs.declared.cert.Cert.{Cert}
use Rattle.cert_laws.specs.Laws.{ClaimIsTrue, IsTrusted}
use Rattle.cert_laws.specs.Shown.{Shown}
use Rattle.solve_passes.specs.Records.{KeepsWord, Record, Right, announced_costs, solutions}
use Rattle.kept_model.specs.Honesty.{AreHonest}
use Rattle.kept_model.specs.Parts.{IsKept}
use Rattle.kept_model.specs.declared.kept.Kept.{Kept}
use Rattle.kept_claims.specs.Words.{BestEndingIsTrue, EndingIsTrue}

-- Each dual bound that is searched has the number that it has in the model, so that a fault of it is told by that number.
abbrev pub HaveNumbers : (m searched : Model) → Type 0
HaveNumbers m searched = (i : ℕ) (e : Num) → slice_get searched.bounds i ≡ Some e → slice_get m.bounds i ≡ Some e

-- Pruning by what is proved alone is asked for or not. If it is, these parts were proved to be honest, and the model is searched with
-- them alone; else the model itself is searched.
abbrev pub IsSearched : Model → (asked : Bool) → (proved : Option Kept) → (searched : Model) → Type 0
IsSearched m false None searched = searched ≡ m
IsSearched m true (Some kept) searched = AreHonest m kept × IsKept m kept searched × HaveNumbers m searched
IsSearched m false (Some kept) searched = ⊥
IsSearched m true None searched = ⊥

-- What a run says of the model, whatever its dual bounds and preferences say: its solutions are legal lists, each cost that it
-- announces is that of a legal list, and its ending is true.
pub record IsTrueRun (m : Model) (run : Record) : Type 0 where
  pub legal : AllByRecursion (λ (s : Found). Solution m s.steps s.cost) (solutions run)
  pub announced : (c : ℤ) → Has (announced_costs run.passes) c → (steps : List ℕ) × Solution m steps c
  pub ending : EndingIsTrue m run.bound run.ending

pub record IsTrueBestRun (m : Model) (run : BestRun) : Type 0 where
  pub legal : IfSome run.found (λ s. Solution m s.steps s.cost)
  pub ending : BestEndingIsTrue m run.ending

-- What a run says of all legal lists of the model: with parts proved this, and else what it says of an honest model.
abbrev pub WordOf : Model → (proved : Option Kept) → Options → Record → Type 0
WordOf m None options run = KeepsWord m options run.bound run.ending
WordOf m (Some kept) options run = IsTrueRun m run

abbrev pub WordOfBest : Model → (proved : Option Kept) → Options → BestRun → Type 0
WordOfBest m None options run = KeepsWordBest m options run.ending
WordOfBest m (Some kept) options run = IsTrueBestRun m run

-- what a certificate that shows its claim says of the model
abbrev pub ClaimOf : Model → (proved : Option Kept) → Cert → Type 0
ClaimOf m None cert = IsTrusted m cert → ClaimIsTrue m cert.claim
ClaimOf m (Some kept) cert = ClaimIsTrue m cert.claim

-- What a search or a check of the searched model promises, it promises of the model.
pub record LawSearched : Type 0 where
  pub word : (m : Model) (asked : Bool) (proved : Option Kept) (searched : Model) (options : Options) (gap : Bool) (run : Record) → IsSearched m asked proved searched → Right searched options gap run → KeepsWord searched options run.bound run.ending → WordOf m proved options run
  pub word_best : (m : Model) (asked : Bool) (proved : Option Kept) (searched : Model) (options : Options) (run : BestRun) → IsSearched m asked proved searched → RightBest searched options run → KeepsWordBest searched options run.ending → WordOfBest m proved options run
  pub claim : (m : Model) (asked : Bool) (proved : Option Kept) (searched : Model) (cert : Cert) → IsSearched m asked proved searched → Shown searched cert → ClaimOf m proved cert
