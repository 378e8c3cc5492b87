-- Which transitions are found to be enabled and considered.
use Rattle.std.proofs.Common.{◌≡◌, ℕ, zero, suc, ◌+◌, ◌<◌, ◌≤◌, Bool, true, false, not, ◌&&◌, cond, if◌then◌else◌, ◌⊎◌, inl, inr, List, [], ◌∷◌, length, slice_get, take, filter, Option, Some, None, option_and_then, Result, Ok, Err, ℤ, refl, sym, ap, subst, ◌∙◌, arith, zero-add}
use Rattle.std.specs.Prelude.{option_map, nat_lt}
use Rattle.std.specs.List.{range_with_len}
use Rattle.std.proofs.lemmas.Bool.{false≢true, ltb-true, lt-ltb, or_cases, or_left, or_right, not_from_false, not-true, cases_Bool, cases_order, cases_lt, and_from, and_parts, false_from_ne_true}
use Rattle.std.proofs.lemmas.Option.{slice_get_within}
use Rattle.dp_model.specs.StepTexts.{ground_of}
use Rattle.dp_model.specs.declared.answers.FaultKind.{FaultKind}
use Rattle.dp_model.specs.declared.parts.Ground.{Ground}
use Rattle.dp_model.specs.declared.parts.Transition.{Transition}
use Rattle.dp_model.specs.declared.parts.PlainState.{PlainState}
use Rattle.dp_model.specs.declared.whole.Model.{Model}
use Rattle.dp_steps.specs.States.{Considered, Enabled, Inner, IsForced, all_true, are_members, is_enabled}
use Rattle.dp_steps.specs.Faults.{MeetsIn}
use Rattle.spot_eval.specs.declared.ends.SpotFault.{SpotFault}
use Rattle.spot_eval.specs.Looks.{all_at, spot_of}
use Rattle.spot_eval.specs.Moves.{enabled_at, first_enabled, forced_of, goes_before, is_forced, may_step_at, named_enabled, named_forced, number_enabled}
use Rattle.spot_eval.specs.declared.tests.Tests.TheVariants.{Preconditions}
use Rattle.visit_laws.specs.Transitions.{AllConsidered, BeforeFaults, BeforeFound, BeforeNone, EnabledFaults, EnabledFound, ForcedAlone, ForcedFaults, ForcedFound, MayNotStep, MayStepFaults, MayStepFound, NoneForced, PreconditionMet, first_before}
use Rattle.visit_laws.proofs.Spots.{without_spot, from_value, to_value}
use Rattle.visit_laws.proofs.Tests.{all_values, first_fault, test_met}

-- ---- one transition

enabled_step : (members : Bool) (q : Result Bool SpotFault) (plain : Result Bool FaultKind) → without_spot q ≡ plain → without_spot (if members then q else Ok false) ≡ (if members then plain else Ok false)
enabled_step true q plain h = h
enabled_step false q plain h = refl

pub enabled_value : (m : Model) (s : PlainState) (g : ℕ) (t : Transition × List ℕ) → without_spot (enabled_at m s g t) ≡ is_enabled m s t
enabled_value m s g t =
    enabled_step (are_members s t.0.params t.1) (all_at m s (Preconditions g) t.1 0 t.0.preconditions) (all_true m s t.1 t.0.preconditions) (all_values m s (Preconditions g) t.1 0 t.0.preconditions)

pub number_there : (m : Model) (s : PlainState) (g : ℕ) (t : Transition × List ℕ) → ground_of m g ≡ Some t → number_enabled m s g ≡ enabled_at m s g t
number_there m s g t there = ap (named_enabled m s g) there

-- what is found of a transition is what the definition says of it
pub found_is : (m : Model) (s : PlainState) (g : ℕ) (t : Transition × List ℕ) (b : Bool) → ground_of m g ≡ Some t → number_enabled m s g ≡ Ok b → is_enabled m s t ≡ Ok b
found_is m s g t b there e = sym (enabled_value m s g t) ∙ to_value (enabled_at m s g t) b (sym (number_there m s g t there) ∙ e)

pub is_found : (m : Model) (s : PlainState) (g : ℕ) (t : Transition × List ℕ) (b : Bool) → ground_of m g ≡ Some t → is_enabled m s t ≡ Ok b → number_enabled m s g ≡ Ok b
is_found m s g t b there e = number_there m s g t there ∙ from_value (enabled_at m s g t) b (enabled_value m s g t ∙ e)

named_is : (m : Model) (s : PlainState) (g : ℕ) (o : Option (Transition × List ℕ)) → ground_of m g ≡ o → named_enabled m s g o ≡ Ok true → Enabled m s g
named_is m s g None there e = absurd (cc)
named_is m s g (Some t) there e = (t, there, found_is m s g t true there (number_there m s g t there ∙ e))

pub enabled_found : EnabledFound
enabled_found m s g = (λ e. named_is m s g (ground_of m g) refl e, λ enabled. is_found m s g enabled.0 true enabled.1 enabled.2)

precondition_met : (m : Model) (prune : Bool) (cost : Option ℤ) (s : PlainState) (g : ℕ) (t : Transition × List ℕ) (met : SpotFault) (members : Bool) → are_members s t.0.params t.1 ≡ members → ground_of m g ≡ Some t → Inner m s → Considered m s g → (if members then all_at m s (Preconditions g) t.1 0 t.0.preconditions else Ok false) ≡ Err met → MeetsIn m prune cost s met.spot met.kind
precondition_met m prune cost s g t met false q there inner considered e = absurd (cc)
precondition_met m prune cost s g t met true q there inner considered e =
    let f = first_fault m s (Preconditions g) t.1 t.0.preconditions 0 met e in
    let at : met.spot ≡ spot_of (Preconditions g) f.place = f.spot ∙ ap (spot_of (Preconditions g)) (zero-add f.place) in
    rw at ((inner, considered, (t, there, q, f.before)), (t, f.test, there, f.there, f.fault))

named_met : (m : Model) (prune : Bool) (cost : Option ℤ) (s : PlainState) (g : ℕ) (met : SpotFault) (o : Option (Transition × List ℕ)) → ground_of m g ≡ o → Inner m s → Considered m s g → named_enabled m s g o ≡ Err met → MeetsIn m prune cost s met.spot met.kind
named_met m prune cost s g met None there inner considered e = absurd (cc)
named_met m prune cost s g met (Some t) there inner considered e = precondition_met m prune cost s g t met (are_members s t.0.params t.1) refl there inner considered e

pub enabled_faults : EnabledFaults
enabled_faults m prune cost s g met inner considered e = named_met m prune cost s g met (ground_of m g) refl inner considered e

-- ---- forced transitions by their numbers

named_is_forced : (m : Model) (g : ℕ) (o : Option (Transition × List ℕ)) → ground_of m g ≡ o → named_forced o ≡ true → IsForced m g
named_is_forced m g None there e = absurd (false≢true e)
named_is_forced m g (Some t) there e = (t, there, e)

pub forced_is : (m : Model) (g : ℕ) → is_forced m g ≡ true → IsForced m g
forced_is m g e = named_is_forced m g (ground_of m g) refl e

pub is_forced_there : (m : Model) (g : ℕ) → IsForced m g → is_forced m g ≡ true
is_forced_there m g forced = ap named_forced forced.1 ∙ forced.2

named_within : (m : Model) (g : ℕ) (t : Transition × List ℕ) (o : Option Ground) → slice_get m.dp_ground g ≡ o → option_and_then (λ (x : Ground). option_map (λ (t : Transition). (t, x.args)) (slice_get m.transitions x.transition)) o ≡ Some t → g < length m.dp_ground
named_within m g t None there e = absurd (cc)
named_within m g t (Some x) there e = slice_get_within m.dp_ground g x there

-- the number of a ground transition is below their count
pub ground_within : (m : Model) (g : ℕ) (t : Transition × List ℕ) → ground_of m g ≡ Some t → g < length m.dp_ground
ground_within m g t e = named_within m g t (slice_get m.dp_ground g) refl e

-- ---- the first enabled one of the numbers in a range that pass a test

module _ (m : Model) (s : PlainState) (p : ℕ → Bool) where
  -- no number from one on, below another, that passes is enabled or a fault
  abbrev pub NoneEnabled : ℕ → ℕ → Type 0
  NoneEnabled from to = (f : ℕ) → from ≤ f → f < to → p f ≡ true → number_enabled m s f ≡ Ok false

  -- the first of which something else is found
  pub record First (from to f : ℕ) : Type 0 where
    pub low : from ≤ f
    pub high : f < to
    pub passes : p f ≡ true
    pub before : NoneEnabled from f

  -- what is found of them
  abbrev pub Told : ℕ → ℕ → Result (Option ℕ) SpotFault → Type 0
  Told from to (Ok None) = NoneEnabled from to
  Told from to (Ok (Some f)) = First from to f × (number_enabled m s f ≡ Ok true)
  Told from to (Err met) = (f : ℕ) × First from to f × (number_enabled m s f ≡ Err met)

  more_at : (from to : ℕ) → (p from ≡ true → number_enabled m s from ≡ Ok false) → NoneEnabled (from + 1) to → (f : ℕ) → from ≤ f → f < to → p f ≡ true → (from < f) ⊎ (f ≤ from) → number_enabled m s f ≡ Ok false
  more_at from to here rest f low high passes (inl after) = rest f (omega arith) high passes
  more_at from to here rest f low high passes (inr same) = let at : from ≡ f = omega arith in rw (← at) (here (rw at passes))

  more : (from to : ℕ) → (p from ≡ true → number_enabled m s from ≡ Ok false) → NoneEnabled (from + 1) to → NoneEnabled from to
  more from to here rest f low high passes = more_at from to here rest f low high passes (cases_lt from f)

  wider : (from to f : ℕ) → (p from ≡ true → number_enabled m s from ≡ Ok false) → First (from + 1) to f → First from to f
  wider from to f here first =
      let low : from + 1 ≤ f = first.low in
      record { low = omega arith; high = first.high; passes = first.passes; before = more from f here first.before }

  widen : (from to : ℕ) (v : Result (Option ℕ) SpotFault) → (p from ≡ true → number_enabled m s from ≡ Ok false) → Told (from + 1) to v → Told from to v
  widen from to (Ok None) here told = more from to here told
  widen from to (Ok (Some f)) here told = (wider from to f here told.0, told.1)
  widen from to (Err met) here told = (told.0, wider from to told.0 here told.1, told.2)

  is_first : (from to : ℕ) → from < to → p from ≡ true → First from to from
  is_first from to high passes = record { low = omega arith; high = high; passes = passes; before = λ f low below passed. absurd (omega arith) }

  told_step : (from to : ℕ) (rest : List ℕ) (b : Bool) (r : Result Bool SpotFault) → p from ≡ b → number_enabled m s from ≡ r → from < to → Told (from + 1) to (first_enabled m s rest) → Told from to (first_enabled m s (cond b (from ∷ rest) rest))
  told_step from to rest false r passes q high told = widen from to (first_enabled m s rest) (λ e. absurd (false≢true (sym passes ∙ e))) told
  told_step from to rest true (Ok true) passes q high told = rw q (is_first from to high passes, q)
  told_step from to rest true (Ok false) passes q high told = rw q (widen from to (first_enabled m s rest) (λ e. q) told)
  told_step from to rest true (Err met) passes q high told = rw q (from, is_first from to high passes, q)

  told_to : (n from to : ℕ) → from + n ≡ to → Told from to (first_enabled m s (filter p (range_with_len from n)))
  told_to zero from to at = λ f low high passes. absurd (omega arith)
  told_to (suc n) from to at =
      told_step from to (filter p (range_with_len (from + 1) n)) (p from) (number_enabled m s from) refl refl (omega arith) (told_to n (from + 1) to (omega arith))

  pub told : (n : ℕ) → Told 0 n (first_enabled m s (filter p (range_with_len 0 n)))
  told n = told_to n 0 n (zero-add n)

  -- where none is enabled, none is found
  pub none_told : (to : ℕ) (v : Result (Option ℕ) SpotFault) → Told 0 to v → NoneEnabled 0 to → v ≡ Ok None
  none_told to (Ok None) told none = refl
  none_told to (Ok (Some f)) told none = let clash = none f (omega arith) told.0.high told.0.passes in absurd (cc)
  none_told to (Err met) told none = let clash = none told.0 (omega arith) told.1.high told.1.passes in absurd (cc)

-- ---- the forced ones among them

filter_step : (q : ℕ → Bool) (b : Bool) (x : ℕ) (xs ys : List ℕ) → filter q xs ≡ ys → filter q (cond b (x ∷ xs) xs) ≡ cond (b && q x) (x ∷ ys) ys
filter_step q true x xs ys h = rw h refl
filter_step q false x xs ys h = h

filter_twice : (p q : ℕ → Bool) (xs : List ℕ) → filter q (filter p xs) ≡ filter (λ x. p x && q x) xs
filter_twice p q [] = refl
filter_twice p q (x ∷ xs) = filter_step q (p x) x (filter p xs) (filter (λ x. p x && q x) xs) (filter_twice p q xs)

-- a forced transition that is tested before another
abbrev pub is_before : Model → ℕ → ℕ → Bool
is_before m g f = is_forced m f && goes_before m g f

before_told : (m : Model) (s : PlainState) (g : ℕ) → Told m s (is_before m g) 0 (length m.dp_ground) (first_enabled m s (filter (goes_before m g) (forced_of m)))
before_told m s g = rw (filter_twice (is_forced m) (goes_before m g) (range_with_len 0 (length m.dp_ground))) (told m s (is_before m g) (length m.dp_ground))

forced_told : (m : Model) (s : PlainState) → Told m s (is_forced m) 0 (length m.dp_ground) (first_enabled m s (forced_of m))
forced_told m s = told m s (is_forced m) (length m.dp_ground)

goes_where : (m : Model) (g f : ℕ) → (f < g) ⊎ (IsForced m g → ⊥) → goes_before m g f ≡ true
goes_where m g f (inl less) = or_left (nat_lt f g) (not (is_forced m g)) (lt-ltb f g less)
goes_where m g f (inr free) = or_right (nat_lt f g) (not (is_forced m g)) (not_from_false (is_forced m g) (false_from_ne_true (is_forced m g) (λ e. free (forced_is m g e))))

where_cases : (m : Model) (g f : ℕ) → (nat_lt f g ≡ true) ⊎ (not (is_forced m g) ≡ true) → (f < g) ⊎ (IsForced m g → ⊥)
where_cases m g f (inl less) = inl (ltb-true f g less)
where_cases m g f (inr free) = inr (λ forced. false≢true (sym (not-true (is_forced m g) free) ∙ is_forced_there m g forced))

where_goes : (m : Model) (g f : ℕ) → goes_before m g f ≡ true → (f < g) ⊎ (IsForced m g → ⊥)
where_goes m g f e = where_cases m g f (or_cases (nat_lt f g) (not (is_forced m g)) e)

considered_none : (m : Model) (s : PlainState) (g : ℕ) → NoneEnabled m s (is_before m g) 0 (length m.dp_ground) → Considered m s g
considered_none m s g none f t forced there order =
    let passes = and_from (is_forced m f) (goes_before m g f) (is_forced_there m f forced) (goes_where m g f order) in
    found_is m s f t false there (none f (omega arith) (ground_within m f t there) passes)

none_considered : (m : Model) (s : PlainState) (g : ℕ) → Considered m s g → NoneEnabled m s (is_before m g) 0 (length m.dp_ground)
none_considered m s g considered f low high passes =
    let parts = and_parts (is_forced m f) (goes_before m g f) passes in
    let forced = forced_is m f parts.0 in
    is_found m s f forced.0 false forced.1 (considered f forced.0 forced forced.1 (where_goes m g f parts.1))

-- the order of a forced one before a forced one
order_less : (m : Model) (g f : ℕ) → IsForced m g → (f < g) ⊎ (IsForced m g → ⊥) → f < g
order_less m g f forced (inl less) = less
order_less m g f forced (inr free) = absurd (free forced)

-- the first of some forced ones is considered, if those before it are among them
considered_first : (m : Model) (s : PlainState) (p : ℕ → Bool) (to f : ℕ) → First m s p 0 to f → IsForced m f → ((k : ℕ) → IsForced m k → k < f → p k ≡ true) → Considered m s f
considered_first m s p to f first forced among k t forced' there order =
    let less = order_less m f k forced order in
    found_is m s k t false there (first.before k (omega arith) less (among k forced' less))

less_order : (m : Model) (g f k : ℕ) → k < f → (f < g) ⊎ (IsForced m g → ⊥) → (k < g) ⊎ (IsForced m g → ⊥)
less_order m g f k less (inl below) = inl (omega arith)
less_order m g f k less (inr free) = inr free

before_considered : (m : Model) (s : PlainState) (g f : ℕ) → First m s (is_before m g) 0 (length m.dp_ground) f → Considered m s f
before_considered m s g f first =
    let parts = and_parts (is_forced m f) (goes_before m g f) first.passes in
    considered_first m s (is_before m g) (length m.dp_ground) f first (forced_is m f parts.0)
    (λ k forced less. and_from (is_forced m k) (goes_before m g k) (is_forced_there m k forced) (goes_where m g k (less_order m g f k less (where_goes m g f parts.1))))

forced_considered : (m : Model) (s : PlainState) (f : ℕ) → First m s (is_forced m) 0 (length m.dp_ground) f → Considered m s f
forced_considered m s f first = considered_first m s (is_forced m) (length m.dp_ground) f first (forced_is m f first.passes) (λ k forced less. is_forced_there m k forced)

-- ---- what may step

step_found : (m : Model) (s : PlainState) (g : ℕ) (v : Result (Option ℕ) SpotFault) → first_enabled m s (filter (goes_before m g) (forced_of m)) ≡ v → Told m s (is_before m g) 0 (length m.dp_ground) v → may_step_at m s g ≡ Ok true → Considered m s g × Enabled m s g
step_found m s g (Ok None) q told e = (considered_none m s g told, (enabled_found m s g).0 (rw q at e))
step_found m s g (Ok (Some f)) q told e = let clash : Ok false ≡ Ok true = rw q at e in absurd (cc)
step_found m s g (Err met) q told e = let clash : Err met ≡ Ok true = rw q at e in absurd (cc)

pub may_step_found : MayStepFound
may_step_found m s g = (
  λ e. step_found m s g (first_enabled m s (filter (goes_before m g) (forced_of m))) refl (before_told m s g) e,
  λ may.
      (let none = none_told m s (is_before m g) (length m.dp_ground) (first_enabled m s (filter (goes_before m g) (forced_of m))) (before_told m s g) (none_considered m s g may.0) in
      rw none ((enabled_found m s g).1 may.1)),
)

pub may_not_step : MayNotStep
may_not_step m s g e considered enabled =
    let may = (may_step_found m s g).1 (considered, enabled) in
    absurd (cc)

step_met : (m : Model) (prune : Bool) (cost : Option ℤ) (s : PlainState) (g : ℕ) (met : SpotFault) (v : Result (Option ℕ) SpotFault) → first_enabled m s (filter (goes_before m g) (forced_of m)) ≡ v → Told m s (is_before m g) 0 (length m.dp_ground) v → Inner m s → may_step_at m s g ≡ Err met → MeetsIn m prune cost s met.spot met.kind
step_met m prune cost s g met (Ok None) q told inner e = enabled_faults m prune cost s g met inner (considered_none m s g told) (rw q at e)
step_met m prune cost s g met (Ok (Some f)) q told inner e = let clash : Ok false ≡ Err met = rw q at e in absurd (cc)
step_met m prune cost s g met (Err other) q told inner e =
    let same : Err other ≡ Err met = rw q at e in
    enabled_faults m prune cost s told.0 met inner (before_considered m s g told.0 told.1) (cc)

pub may_step_faults : MayStepFaults
may_step_faults m prune cost s g met inner e = step_met m prune cost s g met (first_enabled m s (filter (goes_before m g) (forced_of m))) refl (before_told m s g) inner e

pub precondition_found : PreconditionMet
precondition_found m prune cost s g j kind meets =
    let considered = meets.0.1 in
    let admits = meets.0.2 in
    let fault = meets.1 in
    let there = fault.2 in
    let same : Some admits.0 ≡ Some fault.0 = sym admits.1 ∙ there in
    let one : admits.0 ≡ fault.0 = cc in
    let members : are_members s fault.0.0.params fault.0.1 ≡ true = subst (λ (t : Transition × List ℕ). are_members s t.0.params t.1 ≡ true) one admits.2 in
    let before : all_true m s fault.0.1 (take j fault.0.0.preconditions) ≡ Ok true = subst (λ (t : Transition × List ℕ). all_true m s t.1 (take j t.0.preconditions) ≡ Ok true) one admits.3 in
    let test = test_met m s (Preconditions g) fault.0.1 fault.0.0.preconditions 0 j j fault.1 kind (zero-add j) before fault.3 fault.4 in
    let found : enabled_at m s g fault.0 ≡ Err (record { spot = spot_of (Preconditions g) j; kind = kind }) = rw (members, test) refl in
    let number = number_there m s g fault.0 there ∙ found in
    let none = none_told m s (is_before m g) (length m.dp_ground) (first_enabled m s (filter (goes_before m g) (forced_of m))) (before_told m s g) (none_considered m s g considered) in
    (number, rw none number)

-- ---- the forced transitions

pub forced_found : ForcedFound
forced_found m s f e =
    let first : Told m s (is_forced m) 0 (length m.dp_ground) (Ok (Some f)) = subst (λ (v : Result (Option ℕ) SpotFault). Told m s (is_forced m) 0 (length m.dp_ground) v) e (forced_told m s) in
    (forced_is m f first.0.passes, forced_considered m s f first.0, (enabled_found m s f).0 first.1)

-- each forced one before the first enabled one is found not to be enabled
pub forced_before : (m : Model) (s : PlainState) (f g : ℕ) → first_enabled m s (forced_of m) ≡ Ok (Some f) → IsForced m g → g < f → number_enabled m s g ≡ Ok false
forced_before m s f g e forced less =
    let first : Told m s (is_forced m) 0 (length m.dp_ground) (Ok (Some f)) = subst (λ (v : Result (Option ℕ) SpotFault). Told m s (is_forced m) 0 (length m.dp_ground) v) e (forced_told m s) in
    first.0.before g (omega arith) less (is_forced_there m g forced)

-- and so is each forced one where none is enabled
pub none_before : (m : Model) (s : PlainState) (g : ℕ) → first_enabled m s (forced_of m) ≡ Ok None → IsForced m g → number_enabled m s g ≡ Ok false
none_before m s g e forced =
    let none : NoneEnabled m s (is_forced m) 0 (length m.dp_ground) = subst (λ (v : Result (Option ℕ) SpotFault). Told m s (is_forced m) 0 (length m.dp_ground) v) e (forced_told m s) in
    none g (omega arith) (ground_within m g forced.0 forced.1) (is_forced_there m g forced)

-- an enabled forced transition goes before each other one that is not forced, or has a greater number
pub alone_at : (m : Model) (s : PlainState) (f g : ℕ) → IsForced m f → Enabled m s f → Considered m s g → (f < g) ⊎ (IsForced m g → ⊥) → ⊥
alone_at m s f g forced enabled considered order =
    let off = is_found m s f forced.0 false forced.1 (considered f forced.0 forced forced.1 order) in
    let on = (enabled_found m s f).1 enabled in
    absurd (cc)

alone_order : (m : Model) (s : PlainState) (f g : ℕ) → IsForced m f → Considered m s f → Enabled m s f → Considered m s g → Enabled m s g → IsForced m g → (f ≡ g) ⊎ ((f < g) ⊎ (g < f)) → g ≡ f
alone_order m s f g forced considered enabled considered' enabled' forced' (inl same) = sym same
alone_order m s f g forced considered enabled considered' enabled' forced' (inr (inl less)) = absurd (alone_at m s f g forced enabled considered' (inl less))
alone_order m s f g forced considered enabled considered' enabled' forced' (inr (inr less)) = absurd (alone_at m s g f forced' enabled' considered (inl less))

alone_cases : (m : Model) (s : PlainState) (f g : ℕ) → IsForced m f → Considered m s f → Enabled m s f → Considered m s g → Enabled m s g → (is_forced m g ≡ true) ⊎ (is_forced m g ≡ false) → g ≡ f
alone_cases m s f g forced considered enabled considered' enabled' (inl is) = alone_order m s f g forced considered enabled considered' enabled' (forced_is m g is) (cases_order f g)
alone_cases m s f g forced considered enabled considered' enabled' (inr free) = absurd (alone_at m s f g forced enabled considered' (inr (λ is. false≢true (sym free ∙ is_forced_there m g is))))

pub forced_alone : ForcedAlone
forced_alone m s f g e considered enabled =
    let found = forced_found m s f e in
    alone_cases m s f g found.0 found.1 found.2 considered enabled (cases_Bool (is_forced m g))

pub none_forced : NoneForced
none_forced m s f t e forced there = found_is m s f t false there (none_before m s f e forced)

pub all_considered : AllConsidered
all_considered m s g e f t forced there order = none_forced m s f t e forced there

-- the first forced one that meets a fault, before which none is enabled
pub forced_fault : (m : Model) (s : PlainState) (met : SpotFault) → first_enabled m s (forced_of m) ≡ Err met → (f : ℕ) × IsForced m f × ((number_enabled m s f ≡ Err met) × ((h : ℕ) → IsForced m h → h < f → number_enabled m s h ≡ Ok false))
forced_fault m s met e =
    let first : Told m s (is_forced m) 0 (length m.dp_ground) (Err met) = subst (λ (v : Result (Option ℕ) SpotFault). Told m s (is_forced m) 0 (length m.dp_ground) v) e (forced_told m s) in
    (first.0, forced_is m first.0 first.1.passes, (first.2, λ h forced less. first.1.before h (omega arith) less (is_forced_there m h forced)))

pub forced_faults : ForcedFaults
forced_faults m prune cost s met inner e =
    let first : Told m s (is_forced m) 0 (length m.dp_ground) (Err met) = subst (λ (v : Result (Option ℕ) SpotFault). Told m s (is_forced m) 0 (length m.dp_ground) v) e (forced_told m s) in
    enabled_faults m prune cost s first.0 met inner (forced_considered m s first.0 first.1) first.2

-- ---- the forced transitions that are tested before another

-- none of them is the transition itself
not_itself : (m : Model) (g f : ℕ) → IsForced m f → (f < g) ⊎ (IsForced m g → ⊥) → f ≡ g → ⊥
not_itself m g f forced (inl less) same = absurd (omega arith)
not_itself m g f forced (inr free) same = free (subst (λ (k : ℕ). IsForced m k) same forced)

pub before_found : BeforeFound
before_found m s g f e =
    let first : Told m s (is_before m g) 0 (length m.dp_ground) (Ok (Some f)) = subst (λ (v : Result (Option ℕ) SpotFault). Told m s (is_before m g) 0 (length m.dp_ground) v) e (before_told m s g) in
    let parts = and_parts (is_forced m f) (goes_before m g f) first.0.passes in
    let forced = forced_is m f parts.0 in
    (forced, before_considered m s g f first.0, (enabled_found m s f).0 first.1, not_itself m g f forced (where_goes m g f parts.1))

pub before_none : BeforeNone
before_none m s g = (
  λ e. considered_none m s g (subst (λ (v : Result (Option ℕ) SpotFault). Told m s (is_before m g) 0 (length m.dp_ground) v) e (before_told m s g)),
  λ considered. none_told m s (is_before m g) (length m.dp_ground) (first_before m s g) (before_told m s g) (none_considered m s g considered),
)

pub before_faults : BeforeFaults
before_faults m prune cost s g met inner e =
    let first : Told m s (is_before m g) 0 (length m.dp_ground) (Err met) = subst (λ (v : Result (Option ℕ) SpotFault). Told m s (is_before m g) 0 (length m.dp_ground) v) e (before_told m s g) in
    enabled_faults m prune cost s first.0 met inner (before_considered m s g first.0 first.1) first.2
