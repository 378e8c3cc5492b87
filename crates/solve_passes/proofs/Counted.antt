-- What the passes of a run count, with one pass more.
use Rattle.std.proofs.Common.{◌≡◌, ℕ, ◌+◌, ◌<◌, ◌⊎◌, inl, inr, List, [], ◌∷◌, ◌++◌, length, slice_get, Option, Some, None, ℤ, refl, arith, length-append}
use Rattle.std.specs.Prelude.{IfSome}
use Rattle.std.proofs.lemmas.Option.{slice_get_within}
use Rattle.cost_laws.specs.Orders.{InWideRange}
use Rattle.dp_model.specs.declared.answers.Cause.{Cause}
use Rattle.dp_model.specs.declared.answers.Cause.TheVariants as causes
use Rattle.dp_model.specs.declared.answers.Found.{Found}
use Rattle.dp_model.specs.declared.answers.Options.{Options}
use Rattle.dp_model.specs.declared.answers.Verdict.TheVariants as verdicts
use Rattle.dp_model.specs.declared.whole.Model.{Model}
use Rattle.pass_run.proofs.Places.{each_more, none_there}
use Rattle.solve_passes.specs.Counted.{Closes, CountsClosed, CountsHalted, CountsRefused, Halts, HasWords, IsCounted}
use Rattle.solve_passes.specs.Ongoing.{halt_ending, printed_bound, verdict_of}
use Rattle.solve_passes.specs.Records.{Ended, Ending, OutOfMemory, Pass}

-- ---- before any pass

pub none_counted : (m : Model) (options : Options) (target : Option Found) (ending : Ending) → IsCounted m options (record { at_target = target; passes = []; bound = None; ending = ending })
none_counted m options target ending = record {
  closed = λ k p at _. absurd (none_there k p at);
  halted = λ k p at _ _. absurd (none_there k p at);
  refused = λ k p at _. absurd (none_there k p at);
  words = λ k p at. absurd (none_there k p at);
  bound = tt;
}

-- ---- one pass more

-- what closed passes count
abbrev pub AreClosed : Model → Options → List Pass → Type 0
AreClosed m options ps = (k : ℕ) (p : Pass) → slice_get ps k ≡ Some p → CountsClosed m options p × CountsRefused m options p × HasWords p

module _ (m : Model) (options : Options) (ps : List Pass) (p : Pass) (before : AreClosed m options ps) where
  abbrev more : List Pass
  more = ps ++ p ∷ []

  long : length more ≡ length ps + 1
  long = let both = length-append ps (p ∷ []) in let one : length (p ∷ []) ≡ 1 = refl in omega (arith, both, one)

  no_later : length ps + 1 < length more → ⊥
  no_later less = omega (arith, long, less)

  no_sooner : (k : ℕ) → k < length ps → k + 1 ≡ length more → ⊥
  no_sooner k less is = omega (arith, long, less, is)

  pub closed_more : CountsClosed m options p → CountsRefused m options p → HasWords p → AreClosed m options more
  closed_more closed refused words = each_more (λ (k : ℕ) (q : Pass). CountsClosed m options q × CountsRefused m options q × HasWords q) ps more p refl before (closed, refused, words)

  pub counted_more : (bound : Option ℤ) (ending : Ending) → (Closes ending → CountsClosed m options p) → (Halts ending → CountsHalted m options ending p) → CountsRefused m options p → HasWords p → IfSome bound InWideRange
      → IsCounted m options (record { at_target = None; passes = more; bound = bound; ending = ending })
  counted_more bound ending closed halted refused words wide = record {
    closed = each_more (λ (k : ℕ) (q : Pass). (k + 1 < length more) ⊎ Closes ending → CountsClosed m options q) ps more p refl (λ k q at _. (before k q at).0) last_closed;
    halted = each_more (λ (k : ℕ) (q : Pass). k + 1 ≡ length more → Halts ending → CountsHalted m options ending q) ps more p refl (λ k q at is halts. absurd (no_sooner k (within k q at) is)) (λ _ halts. halted halts);
    refused = each_more (λ (k : ℕ) (q : Pass). CountsRefused m options q) ps more p refl (λ k q at. (before k q at).1) refused;
    words = each_more (λ (k : ℕ) (q : Pass). HasWords q) ps more p refl (λ k q at. (before k q at).2) words;
    bound = wide;
  }
    where
      last_closed : (length ps + 1 < length more) ⊎ Closes ending → CountsClosed m options p
      last_closed (inl less) = absurd (no_later less)
      last_closed (inr closes) = closed closes

      within : (k : ℕ) (q : Pass) → slice_get ps k ≡ Some q → k < length ps
      within k q at = slice_get_within ps k q at

-- ---- how a run ends after a pass

-- a verdict on what is held ends no halted pass
pub no_halt : (held : Option Found) → Halts (Ended (verdict_of held)) → ⊥
no_halt None halts = halts
no_halt (Some f) halts = halts

-- no run ends so after a halted pass that ends with a closed one
pub no_close : (visits : ℕ) (cause : Cause) → Closes (halt_ending visits cause) → ⊥
no_close visits causes.Budget closes = closes
no_close visits (causes.Fault fault) closes = closes
no_close visits causes.Memory closes = closes

-- where it ends with a verdict memory sufficed
pub had_memory : (visits : ℕ) (cause : Cause) → Halts (halt_ending visits cause) → cause ≡ causes.Memory → ⊥
had_memory visits causes.Budget halts is = let clash : causes.Budget ≡ causes.Memory = is in absurd cc
had_memory visits (causes.Fault fault) halts is = let clash : causes.Fault fault ≡ causes.Memory = is in absurd cc
had_memory visits causes.Memory halts is = halts

-- where it is stopped the budget was spent
pub was_spent : (visits : ℕ) (cause : Cause) (v : ℕ) → halt_ending visits cause ≡ Ended (verdicts.Stopped v) → cause ≡ causes.Budget
was_spent visits causes.Budget v is = refl
was_spent visits (causes.Fault fault) v is = let clash : Ended (verdicts.Fault fault) ≡ Ended (verdicts.Stopped v) = is in absurd cc
was_spent visits causes.Memory v is = let clash : OutOfMemory ≡ Ended (verdicts.Stopped v) = is in absurd cc

-- the bound that is printed is that of the passes before
pub wide_printed : (halt : Option Cause) (bound : Option ℤ) → IfSome bound InWideRange → IfSome (printed_bound halt bound) InWideRange
wide_printed None bound wide = tt
wide_printed (Some causes.Budget) bound wide = wide
wide_printed (Some (causes.Fault fault)) bound wide = tt
wide_printed (Some causes.Memory) bound wide = tt
