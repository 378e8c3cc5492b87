-- What a search of the kept model says is true of the model: they have the same legal lists, and the kept model is honest.
use Rattle.std.proofs.Common.{ℕ, Bool, List, [], ◌∷◌, Option, Some, None, ℤ, inr, sym, subst}
use Rattle.std.specs.Prelude.{IfSome}
use Rattle.std.specs.List.{AllByRecursion}
use Rattle.dp_model.specs.Costs.{IsBetter}
use Rattle.dp_steps.specs.Lists.{Solution}
use Rattle.dp_claims.specs.Honest.{Honest}
use Rattle.dp_model.specs.declared.answers.Claim.{Claim}
use Rattle.dp_model.specs.declared.answers.Claim.TheVariants as claims
use Rattle.dp_model.specs.declared.answers.Found.{Found}
use Rattle.dp_model.specs.declared.answers.Keep.TheVariants as keeps
use Rattle.dp_model.specs.declared.answers.Options.{Options}
use Rattle.dp_model.specs.declared.answers.Verdict.TheVariants as verdicts
use Rattle.dp_model.specs.declared.whole.Model.{Model}
use Rattle.best_ledger.specs.Right.{BestEnding, BestRun, KeepsWordBest}
use Rattle.best_ledger.specs.Right as best
use Rattle.cert_laws.specs.Laws.{ClaimIsTrue}
use Rattle.cert_laws.proofs.Backwards.{law}
use Rattle.gap_laws.specs.Gaps.{NoneBetter}
use Rattle.solve_passes.specs.Records.{Ending, Ended, OutOfMemory, KeepsWord, solutions}
use Rattle.kept_model.specs.Alike.{Alike}
use Rattle.kept_model.proofs.Choice.{kept_alike, kept_honest}
use Rattle.kept_model.proofs.Lists.{back, solution_too}
use Rattle.kept_claims.specs.Laws.{LawCertified, LawRun, LawRunBest, LawWord, LawWordBest}
use Rattle.kept_claims.specs.Words.{BestEndingIsTrue, EndingIsTrue}

module _ (m other : Model) (alike : Alike m other) where
  legal_there : (steps : List ℕ) (cost : ℤ) → Solution m steps cost → Solution other steps cost
  legal_there = solution_too other m (back m other alike)

  better_there : (a b : ℤ) → IsBetter m.minimize a b → IsBetter other.minimize a b
  better_there a b h = subst (λ (minimize : Bool). IsBetter minimize a b) (sym alike.minimize) h

  none_better : (b : ℤ) → NoneBetter other b → NoneBetter m b
  none_better b h steps cost legal better = h steps cost (legal_there steps cost legal) (better_there cost b better)

  none_at_all : ((steps : List ℕ) (cost : ℤ) → Solution other steps cost → ⊥) → (steps : List ℕ) (cost : ℤ) → Solution m steps cost → ⊥
  none_at_all h steps cost legal = h steps cost (legal_there steps cost legal)

  bound_true : (bound : Option ℤ) → IfSome bound (NoneBetter other) → IfSome bound (NoneBetter m)
  bound_true None h = h
  bound_true (Some b) h = none_better b h

  claim_true : (claim : Claim) → ClaimIsTrue other claim → ClaimIsTrue m claim
  claim_true (claims.Optimal found) h =
      (solution_too m other alike found.steps found.cost h.0, λ steps cost legal better. h.1 steps cost (legal_there steps cost legal) (better_there cost found.cost better))
  claim_true claims.Infeasible h = none_at_all h

  all_legal : (ss : List Found) → AllByRecursion (λ (s : Found). Solution other s.steps s.cost) ss → AllByRecursion (λ (s : Found). Solution m s.steps s.cost) ss
  all_legal [] h = h
  all_legal (s ∷ ss) h = (solution_too m other alike s.steps s.cost h.0, all_legal ss h.1)

  if_legal : (found : Option Found) → IfSome found (λ s. Solution other s.steps s.cost) → IfSome found (λ s. Solution m s.steps s.cost)
  if_legal None h = h
  if_legal (Some s) h = solution_too m other alike s.steps s.cost h

trusted_bound : (other : Model) (options : Options) (bound : Option ℤ) → Honest other options.keep → (visits : ℕ) → KeepsWord other options bound (Ended (verdicts.Stopped visits)) → IfSome bound (NoneBetter other)
trusted_bound other options None honest visits word = word
trusted_bound other options (Some b) honest visits word = word (inr honest)

ending_true : (m : Model) (other : Model) (options : Options) (bound : Option ℤ) (ending : Ending) → Alike m other → Honest other options.keep → KeepsWord other options bound ending → EndingIsTrue m bound ending
ending_true m other options bound (Ended (verdicts.Optimal cost)) alike honest word = (none_better m other alike cost (word (inr honest)), tt)
ending_true m other options bound (Ended verdicts.Infeasible) alike honest word = (none_at_all m other alike (word (inr honest)), tt)
ending_true m other options bound (Ended (verdicts.Stopped visits)) alike honest word = (tt, bound_true m other alike bound (trusted_bound other options bound honest visits word))
ending_true m other options bound (Ended (verdicts.Fault fault)) alike honest word = (tt, tt)
ending_true m other options bound (Ended (verdicts.Legal cost)) alike honest word = (tt, tt)
ending_true m other options bound (Ended (verdicts.Illegal done reason)) alike honest word = (tt, tt)
ending_true m other options bound OutOfMemory alike honest word = tt

best_true : (m : Model) (other : Model) (options : Options) (ending : BestEnding) → Alike m other → Honest other keeps.All → KeepsWordBest other options ending → BestEndingIsTrue m ending
best_true m other options (best.Ended (verdicts.Optimal cost)) alike honest word = none_better m other alike cost (word (inr honest))
best_true m other options (best.Ended verdicts.Infeasible) alike honest word = none_at_all m other alike (word (inr honest))
best_true m other options (best.Ended (verdicts.Stopped visits)) alike honest word = tt
best_true m other options (best.Ended (verdicts.Fault fault)) alike honest word = tt
best_true m other options (best.Ended (verdicts.Legal cost)) alike honest word = tt
best_true m other options (best.Ended (verdicts.Illegal done reason)) alike honest word = tt
best_true m other options best.OutOfMemory alike honest word = tt

pub word_law : LawWord
word_law m kept other options bound ending is are word = ending_true m other options bound ending (kept_alike m kept other is) (kept_honest m kept other options.keep is are) word

pub word_best_law : LawWordBest
word_best_law m kept other options ending is are word = best_true m other options ending (kept_alike m kept other is) (kept_honest m kept other keeps.All is are) word

pub certified_law : LawCertified
certified_law m kept other cert is are shown = claim_true m other (kept_alike m kept other is) cert.claim (law other cert (inr (kept_honest m kept other cert.keep is are)) shown)

pub run_law : LawRun
run_law m kept other options gap r is right = all_legal m other (kept_alike m kept other is) (solutions r) right.legal

pub run_best_law : LawRunBest
run_best_law m kept other options r is right = if_legal m other (kept_alike m kept other is) r.found right.legal
