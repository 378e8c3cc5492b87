-- What a visit makes of transitions in turn: their fates in order, or the first fault.
use Rattle.std.proofs.Common.{◌≡◌, ℕ, zero, suc, ◌+◌, ◌<◌, ◌≤◌, Bool, true, false, cond, if◌then◌else◌, ◌⊎◌, inl, inr, List, [], ◌∷◌, slice_get, filter, Some, None, Result, Ok, Err, IfSome, refl, sym, ap, subst, ◌∙◌, arith}
use Rattle.std.specs.List.{range_with_len}
use Rattle.std.proofs.lemmas.Bool.{false≢true, cases_lt}
use Rattle.dp_base.specs.Results.{◌>>=◌, each}
use Rattle.dp_model.specs.Costs.{InRange}
use Rattle.dp_model.specs.declared.whole.Model.{Model}
use Rattle.dp_steps.specs.States.{Considered, Enabled, Inner}
use Rattle.dp_claims.specs.Enough.{Has}
use Rattle.spot_eval.specs.Moves.{number_enabled}
use Rattle.spot_eval.specs.declared.ends.SpotFault.{SpotFault}
use Rattle.successors.specs.Answers.{Met, after, here}
use Rattle.successors.specs.Batches.{empty_batch}
use Rattle.successors.specs.Searches.{Visit}
use Rattle.successors.specs.Visits.{with_number, with_tested}
use Rattle.successors.specs.declared.batch.Batch.{Batch}
use Rattle.visit_laws.specs.Fates.{Fate, IsFate, IsFaultOf, numbers_of}
use Rattle.visit_laws.proofs.Transitions.{enabled_faults, enabled_found}
use Rattle.visit_laws.proofs.Rising.{Rises, rises_sooner}
use Rattle.visit_laws.proofs.Fates.{Made, add, enabled_is_of, fault_here, made}

abbrev pub add_all : Batch → List (ℕ × Fate) → Batch
add_all batch [] = batch
add_all batch (x ∷ xs) = add_all (add batch x.0 x.1) xs

-- the whole treatment of the transition meets no fault
abbrev pub Settled : Model → Visit → ℕ → Type 0
Settled m v g = (batch : Batch) × (more : Batch) × (with_tested m v batch g ≡ Ok more)

-- a transition that is not enabled is settled
pub settled_off : (m : Model) (v : Visit) (g : ℕ) → number_enabled m v.state g ≡ Ok false → Settled m v g
settled_off m v g e = (empty_batch, empty_batch, rw e refl)

pub settled_on : (m : Model) (v : Visit) (g : ℕ) (batch more : Batch) → number_enabled m v.state g ≡ Ok true → with_number m v batch g ≡ Ok more → Settled m v g
settled_on m v g batch more e made = (batch, more, rw e made)

module _ (m : Model) (v : Visit) (p : ℕ → Bool) where
  -- the fates of the enabled ones of the numbers from one on, below another, that pass a test
  pub record Between (from to : ℕ) (fates : List (ℕ × Fate)) : Type 0 where
    pub ascends : Rises from (numbers_of fates)
    pub stepping : (g : ℕ) (fate : Fate) → Has fates (g, fate) → Enabled m v.state g
    pub fated : (g : ℕ) (fate : Fate) → Has fates (g, fate) → IsFate m v g fate
    pub every : (g : ℕ) → from ≤ g → g < to → p g ≡ true → Enabled m v.state g → (fate : Fate) × Has fates (g, fate)
    pub settled : (g : ℕ) → from ≤ g → g < to → p g ≡ true → Settled m v g

  -- what is made of them
  abbrev pub Looped : Batch → ℕ → ℕ → Result Batch Met → Type 0
  Looped batch from to (Ok more) = (fates : List (ℕ × Fate)) × Between from to fates × (more ≡ add_all batch fates)
  Looped batch from to (Err met) = (g : ℕ) × (from ≤ g) × IsFaultOf m v g met × ((h : ℕ) → from ≤ h → h < g → p h ≡ true → Settled m v h)

  nothing_between : (from : ℕ) → Between from from []
  nothing_between from = record {
    ascends = tt;
    stepping = λ g fate there. absurd (let clash : None ≡ Some (g, fate) = there.1 in cc);
    fated = λ g fate there. absurd (let clash : None ≡ Some (g, fate) = there.1 in cc);
    every = λ g low high passes enabled. absurd (omega arith);
    settled = λ g low high passes. absurd (omega arith);
  }

  every_later : (from to g : ℕ) (fates : List (ℕ × Fate)) → (p from ≡ true → Enabled m v.state from → ⊥) → Between (from + 1) to fates → g < to → p g ≡ true → Enabled m v.state g → (from < g) ⊎ (g ≤ from) → from ≤ g → (fate : Fate) × Has fates (g, fate)
  every_later from to g fates off rest high passes enabled (inl less) low = rest.every g (omega arith) high passes enabled
  every_later from to g fates off rest high passes enabled (inr most) low =
      let same : g ≡ from = omega arith in
      absurd (off (rw (← same) passes) (subst (λ (k : ℕ). Enabled m v.state k) same enabled))

  -- the first is settled, and so are those after it below another
  settled_more : (from to g : ℕ) → (p from ≡ true → Settled m v from) → ((g : ℕ) → from + 1 ≤ g → g < to → p g ≡ true → Settled m v g) → from ≤ g → g < to → p g ≡ true → (from < g) ⊎ (g ≤ from) → Settled m v g
  settled_more from to g here rest low high passes (inl less) = rest g (omega arith) high passes
  settled_more from to g here rest low high passes (inr most) =
      let same : from ≡ g = omega arith in
      subst (λ (k : ℕ). Settled m v k) same (here (rw same passes))

  -- the first number is none of them
  skip : (from to : ℕ) (fates : List (ℕ × Fate)) → (p from ≡ true → Enabled m v.state from → ⊥) → (p from ≡ true → Settled m v from) → Between (from + 1) to fates → Between from to fates
  skip from to fates off here rest = record {
    ascends = rises_sooner from (from + 1) (numbers_of fates) (omega arith) rest.ascends;
    stepping = rest.stepping;
    fated = rest.fated;
    every = λ g low high passes enabled. every_later from to g fates off rest high passes enabled (cases_lt from g) low;
    settled = λ g low high passes. settled_more from to g here rest.settled low high passes (cases_lt from g);
  }

  -- what holds of the first and of each later one holds of each
  pub in_cons : (P : ℕ × Fate → Type 0) (x y : ℕ × Fate) (xs : List (ℕ × Fate)) (k : ℕ) → P x → ((y : ℕ × Fate) → Has xs y → P y) → slice_get (x ∷ xs) k ≡ Some y → P y
  in_cons P x y xs zero here later e = let same : x ≡ y = cc in subst P same here
  in_cons P x y xs (suc k) here later e = later y (k, e)

  every_now : (from to g : ℕ) (fate : Fate) (fates : List (ℕ × Fate)) → Between (from + 1) to fates → g < to → p g ≡ true → Enabled m v.state g → (from < g) ⊎ (g ≤ from) → from ≤ g → (fate' : Fate) × Has ((from, fate) ∷ fates) (g, fate')
  every_now from to g fate fates rest high passes enabled (inl less) low =
      let there = rest.every g (omega arith) high passes enabled in
      (there.0, (suc there.1.0, there.1.1))
  every_now from to g fate fates rest high passes enabled (inr most) low =
      let same : from ≡ g = omega arith in
      (fate, (zero, ap (λ (k : ℕ). Some (k, fate)) same))

  -- the first number is one of them
  first : (from to : ℕ) (fate : Fate) (fates : List (ℕ × Fate)) → Enabled m v.state from → Settled m v from → IsFate m v from fate → Between (from + 1) to fates → Between from to ((from, fate) ∷ fates)
  first from to fate fates enabled here is rest = record {
    ascends = (omega arith, rest.ascends);
    stepping = λ g f there. in_cons (λ x. Enabled m v.state x.0) (from, fate) (g, f) fates there.0 enabled (λ y has. rest.stepping y.0 y.1 has) there.1;
    fated = λ g f there. in_cons (λ x. IsFate m v x.0 x.1) (from, fate) (g, f) fates there.0 is (λ y has. rest.fated y.0 y.1 has) there.1;
    every = λ g low high passes enabled'. every_now from to g fate fates rest high passes enabled' (cases_lt from g) low;
    settled = λ g low high passes. settled_more from to g (λ passes. here) rest.settled low high passes (cases_lt from g);
  }

  -- a fault after the first, which is settled
  later : (from g : ℕ) (met : Met) → (p from ≡ true → Settled m v from) → from + 1 ≤ g → IsFaultOf m v g met → ((h : ℕ) → from + 1 ≤ h → h < g → p h ≡ true → Settled m v h) → (g : ℕ) × (from ≤ g) × IsFaultOf m v g met × ((h : ℕ) → from ≤ h → h < g → p h ≡ true → Settled m v h)
  later from g met here after is rest = (g, omega arith, is, λ h low high passes. settled_more from g h here rest low high passes (cases_lt from h))

  -- a fault of the first
  at_once : (from : ℕ) (met : Met) → IsFaultOf m v from met → (g : ℕ) × (from ≤ g) × IsFaultOf m v g met × ((h : ℕ) → from ≤ h → h < g → p h ≡ true → Settled m v h)
  at_once from met is = (from, omega arith, is, λ h low high passes. absurd (omega arith))

  skipped : (batch : Batch) (from to : ℕ) (r : Result Batch Met) → (p from ≡ true → Enabled m v.state from → ⊥) → (p from ≡ true → Settled m v from) → Looped batch (from + 1) to r → Looped batch from to r
  skipped batch from to (Ok more) off here rest = (rest.0, skip from to rest.0 off here rest.1, rest.2)
  skipped batch from to (Err met) off here rest = later from rest.0 met here rest.1 rest.2 rest.3

  added : (batch more : Batch) (from to : ℕ) (fate : Fate) (r : Result Batch Met) → more ≡ add batch from fate → Enabled m v.state from → Settled m v from → IsFate m v from fate → Looped more (from + 1) to r → Looped batch from to r
  added batch more from to fate (Ok most) same enabled here is rest =
      ((from, fate) ∷ rest.0, first from to fate rest.0 enabled here is rest.1, rest.2 ∙ ap (λ (b : Batch). add_all b rest.0) same)
  added batch more from to fate (Err met) same enabled here is rest = later from rest.0 met (λ passes. here) rest.1 rest.2 rest.3

  loop_made : (batch : Batch) (from to : ℕ) (xs : List ℕ) (r : Result Batch Met) → with_number m v batch from ≡ r → Made m v batch from r → number_enabled m v.state from ≡ Ok true → ((other : Batch) → Looped other (from + 1) to (each (with_tested m v) other xs)) → Looped batch from to (r >>= λ t. each (with_tested m v) t xs)
  loop_made batch from to xs (Ok more) q made on rest =
      added batch more from to made.0 (each (with_tested m v) more xs) made.2 ((enabled_found m v.state from).0 on) (settled_on m v from batch more on q) made.1 (rest more)
  loop_made batch from to xs (Err met) q made on rest = at_once from met made

  loop_tested : IfSome v.cost InRange → Inner m v.state → ((g : ℕ) → Considered m v.state g) → (batch : Batch) (from to : ℕ) (xs : List ℕ) (r : Result Bool SpotFault) → number_enabled m v.state from ≡ r → ((other : Batch) → Looped other (from + 1) to (each (with_tested m v) other xs)) → Looped batch from to ((here r >>= λ enabled. if enabled then with_number m v batch from else Ok batch) >>= λ t. each (with_tested m v) t xs)
  loop_tested range inner considered batch from to xs (Ok true) q rest =
      let enabled = (enabled_found m v.state from).0 q in
      loop_made batch from to xs (with_number m v batch from) refl (made m v batch from range (inner, considered from, enabled)) q rest
  loop_tested range inner considered batch from to xs (Ok false) q rest =
      skipped batch from to (each (with_tested m v) batch xs) (λ passes enabled. let on = (enabled_found m v.state from).1 enabled in absurd (cc)) (λ passes. settled_off m v from q) (rest batch)
  loop_tested range inner considered batch from to xs (Err met) q rest =
      at_once from (record { spot = met.spot; kind = met.kind; last = None }) (fault_here m v from met (enabled_is_of m v.state from met q) (enabled_faults m v.prune v.cost v.state from met inner (considered from) q))

  loop_step : IfSome v.cost InRange → Inner m v.state → ((g : ℕ) → Considered m v.state g) → (batch : Batch) (from to : ℕ) (xs : List ℕ) (b : Bool) → p from ≡ b → ((other : Batch) → Looped other (from + 1) to (each (with_tested m v) other xs)) → Looped batch from to (each (with_tested m v) batch (cond b (from ∷ xs) xs))
  loop_step range inner considered batch from to xs true q rest = loop_tested range inner considered batch from to xs (number_enabled m v.state from) refl rest
  loop_step range inner considered batch from to xs false q rest = skipped batch from to (each (with_tested m v) batch xs) (λ passes enabled. false≢true (sym q ∙ passes)) (λ passes. absurd (false≢true (sym q ∙ passes))) (rest batch)

  pub looped : IfSome v.cost InRange → Inner m v.state → ((g : ℕ) → Considered m v.state g) → (n from to : ℕ) → from + n ≡ to → (batch : Batch) → Looped batch from to (each (with_tested m v) batch (filter p (range_with_len from n)))
  looped range inner considered zero from to at batch =
      let same : from ≡ to = omega arith in
      ([], subst (λ (k : ℕ). Between from k []) same (nothing_between from), refl)
  looped range inner considered (suc n) from to at batch =
      loop_step range inner considered batch from to (filter p (range_with_len (from + 1) n)) (p from) refl (λ other. looped range inner considered n (from + 1) to (omega arith) other)
