-- What is found of a visit.
use Rattle.std.proofs.Common.{◌≡◌, ℕ, zero, suc, ◌+◌, ◌<◌, true, false, not, ◌⊎◌, inl, inr, List, [], ◌∷◌, ◌++◌, length, slice_get, Option, Some, None, Result, Ok, Err, IfSome, refl, sym, ap, subst, ◌∙◌, arith, zero-add, add-zero, append_assoc, append-nil}
use Rattle.std.proofs.lemmas.Bool.{false≢true, cases_Bool, cases_order, not_from_false, false_from_ne_true}
use Rattle.dp_base.specs.Results.{◌>>=◌, each}
use Rattle.dp_model.specs.Costs.{InRange}
use Rattle.dp_model.specs.declared.parts.PlainState.{PlainState}
use Rattle.dp_model.specs.declared.whole.Model.{Model}
use Rattle.dp_steps.specs.States.{Considered, Enabled, Inner, IsForced}
use Rattle.spot_eval.specs.Moves.{first_enabled, forced_of, is_forced, number_enabled, others_of}
use Rattle.spot_eval.specs.declared.ends.SpotFault.{SpotFault}
use Rattle.successors.specs.Answers.{Met, here}
use Rattle.successors.specs.Batches.{empty_batch}
use Rattle.successors.specs.Searches.{Visit}
use Rattle.successors.specs.Visits.{after_forced, expansion, with_number, with_tested}
use Rattle.successors.specs.declared.batch.Batch.{Batch}
use Rattle.visit_laws.specs.Fates.{AreFates, Fate, IsFate, IsFaultOf, batch_of, letters_of, numbers_of, offers_of, out_of, pruned_of}
use Rattle.visit_laws.specs.Fates.Fate.{Out, Total, Letter, Pruned}
use Rattle.visit_laws.specs.Visits.{FatesFound, FirstFound, VisitFaults}
use Rattle.visit_laws.proofs.Transitions.{all_considered, alone_at, enabled_found, forced_alone, forced_before, forced_fault, forced_faults, forced_found, forced_is, ground_within, is_forced_there, is_found, none_before}
use Rattle.visit_laws.proofs.Rising.{increasing}
use Rattle.visit_laws.proofs.Fates.{Made, add, enabled_is_of, fault_here, made}
use Rattle.visit_laws.proofs.InTurn.{Looped, Settled, add_all, looped, settled_off, settled_on}
use Rattle.visit_laws.proofs.Exact.{fault_considered, settled_no_fault}

-- ---- the whole visit

-- each considered transition below a number is settled
abbrev pub AllSettled : Model → Visit → ℕ → Type 0
AllSettled m v to = (g : ℕ) → g < to → Considered m v.state g → Settled m v g

-- what is found of it
abbrev pub Found : Model → Visit → Result Batch Met → Type 0
Found m v (Ok batch) = (fates : List (ℕ × Fate)) × AreFates m v fates × (batch ≡ add_all empty_batch fates) × AllSettled m v (length m.dp_ground)
Found m v (Err met) = (g : ℕ) × IsFaultOf m v g met × AllSettled m v g

-- without an enabled forced one, those are settled that are forced, and those that are settled in their turn
none_settled : (m : Model) (v : Visit) (g : ℕ) → first_enabled m v.state (forced_of m) ≡ Ok None → (not (is_forced m g) ≡ true → Settled m v g) → (is_forced m g ≡ true) ⊎ (is_forced m g ≡ false) → Settled m v g
none_settled m v g none others (inl is) = settled_off m v g (none_before m v.state g none (forced_is m g is))
none_settled m v g none others (inr free) = others (not_from_false (is_forced m g) free)

found_loop : (m : Model) (v : Visit) (r : Result Batch Met) → IfSome v.cost InRange → Inner m v.state → first_enabled m v.state (forced_of m) ≡ Ok None → Looped m v (λ g. not (is_forced m g)) empty_batch 0 (length m.dp_ground) r → Found m v r
found_loop m v (Ok batch) range inner none looped = (
  looped.0,
  record {
    ascending = increasing 0 (numbers_of looped.0) looped.1.ascends;
    stepping = λ g fate there. (all_considered m v.state g none, looped.1.stepping g fate there);
    fated = looped.1.fated;
    every = λ g considered enabled. looped.1.every g (omega arith) (ground_within m g enabled.0 enabled.1) (free m v.state g none enabled) enabled;
  },
  looped.2,
  λ g high considered. none_settled m v g none (λ free. looped.1.settled g (omega arith) high free) (cases_Bool (is_forced m g)),
)
  where
    free : (m : Model) (s : PlainState) (g : ℕ) → first_enabled m s (forced_of m) ≡ Ok None → Enabled m s g → not (is_forced m g) ≡ true
    free m s g none enabled =
        not_from_false (is_forced m g) (false_from_ne_true (is_forced m g) (λ e.
        (let off = none_before m s g none (forced_is m g e) in
        let on = (enabled_found m s g).1 enabled in
        absurd (cc))))
found_loop m v (Err met) range inner none looped =
    (looped.0, looped.2, λ g high considered. none_settled m v g none (λ free. looped.3 g (omega arith) high free) (cases_Bool (is_forced m g)))

-- a considered transition is the enabled forced one, or a forced one before it
one_order : (m : Model) (v : Visit) (f g : ℕ) → first_enabled m v.state (forced_of m) ≡ Ok (Some f) → Considered m v.state g → IsForced m g → (f ≡ g) ⊎ ((f < g) ⊎ (g < f)) → (g ≡ f) ⊎ ((g < f) × Settled m v g)
one_order m v f g one considered forced (inl same) = inl (sym same)
one_order m v f g one considered forced (inr (inl less)) =
    let is = forced_found m v.state f one in
    absurd (alone_at m v.state f g is.0 is.2 considered (inl less))
one_order m v f g one considered forced (inr (inr less)) = inr (less, settled_off m v g (forced_before m v.state f g one forced less))

one_cases : (m : Model) (v : Visit) (f g : ℕ) → first_enabled m v.state (forced_of m) ≡ Ok (Some f) → Considered m v.state g → (is_forced m g ≡ true) ⊎ (is_forced m g ≡ false) → (g ≡ f) ⊎ ((g < f) × Settled m v g)
one_cases m v f g one considered (inl is) = one_order m v f g one considered (forced_is m g is) (cases_order f g)
one_cases m v f g one considered (inr free) =
    let is = forced_found m v.state f one in
    absurd (alone_at m v.state f g is.0 is.2 considered (inr (λ forced. false≢true (sym free ∙ is_forced_there m g forced))))

one_settled : (m : Model) (v : Visit) (f g : ℕ) → Settled m v f → (g ≡ f) ⊎ ((g < f) × Settled m v g) → Settled m v g
one_settled m v f g here (inl same) = subst (λ (k : ℕ). Settled m v k) (sym same) here
one_settled m v f g here (inr before) = before.1

before_settled : (m : Model) (v : Visit) (f g : ℕ) → g < f → (g ≡ f) ⊎ ((g < f) × Settled m v g) → Settled m v g
before_settled m v f g less (inl same) = absurd (omega arith)
before_settled m v f g less (inr before) = before.1

-- one forced transition is alone
found_one : (m : Model) (v : Visit) (g : ℕ) (r : Result Batch Met) → first_enabled m v.state (forced_of m) ≡ Ok (Some g) → with_number m v empty_batch g ≡ r → Made m v empty_batch g r → Found m v r
found_one m v g (Ok batch) one q made =
    let is = forced_found m v.state g one in (
      one_fate g made.0,
      record {
        ascending = λ k low. absurd (omega arith);
        stepping = λ h fate there. in_one (λ x. Considered m v.state x.0 × Enabled m v.state x.0) (g, made.0) (h, fate) there.0 (is.1, is.2) there.1;
        fated = λ h fate there. in_one (λ x. IsFate m v x.0 x.1) (g, made.0) (h, fate) there.0 made.1 there.1;
        every = λ h considered enabled. (made.0, (zero, ap (λ (k : ℕ). Some (k, made.0)) (sym (forced_alone m v.state g h one considered enabled))));
      },
      made.2,
      λ h high considered. one_settled m v g h (settled_on m v g empty_batch batch ((enabled_found m v.state g).1 is.2) q) (one_cases m v g h one considered (cases_Bool (is_forced m h))),
    )
  where
    one_fate : ℕ → Fate → List (ℕ × Fate)
    one_fate g fate = (g, fate) ∷ []

    in_one : (P : ℕ × Fate → Type 0) (x y : ℕ × Fate) (k : ℕ) → P x → slice_get (x ∷ []) k ≡ Some y → P y
    in_one P x y zero here e = let same : x ≡ y = cc in subst P same here
    in_one P x y (suc k) here e = absurd (let clash : None ≡ Some y = e in cc)
found_one m v g (Err met) one q made = (g, made, λ h less considered. before_settled m v g h less (one_cases m v g h one considered (cases_Bool (is_forced m h))))

-- before the forced one that meets a fault, the considered ones are forced, and not enabled
first_settled : (m : Model) (v : Visit) (f h : ℕ) {met : SpotFault} → h < f → IsForced m f → number_enabled m v.state f ≡ Err met → ((h : ℕ) → IsForced m h → h < f → number_enabled m v.state h ≡ Ok false) → Considered m v.state h → (is_forced m h ≡ true) ⊎ (is_forced m h ≡ false) → Settled m v h
first_settled m v f h less forced fault before considered (inl is) = settled_off m v h (before h (forced_is m h is) less)
first_settled m v f h less forced fault before considered (inr free) =
    let off = is_found m v.state f forced.0 false forced.1 (considered f forced.0 forced forced.1 (inr (λ is. false≢true (sym free ∙ is_forced_there m h is)))) in
    absurd (cc)

found_cases : (m : Model) (v : Visit) (r : Result (Option ℕ) SpotFault) → first_enabled m v.state (forced_of m) ≡ r → IfSome v.cost InRange → Inner m v.state → Found m v (here r >>= after_forced m v)
found_cases m v (Ok (Some g)) q range inner = found_one m v g (with_number m v empty_batch g) q refl (made m v empty_batch g range (inner, (forced_found m v.state g q).1, (forced_found m v.state g q).2))
found_cases m v (Ok None) q range inner =
    found_loop m v (each (with_tested m v) empty_batch (others_of m)) range inner q
    (looped m v (λ g. not (is_forced m g)) range inner (λ g. all_considered m v.state g q) (length m.dp_ground) 0 (length m.dp_ground) (zero-add (length m.dp_ground)) empty_batch)
found_cases m v (Err met) q range inner =
    let first = forced_fault m v.state met q in
    let is = enabled_is_of m v.state first.0 met first.2.0 in (
      first.0,
      fault_here m v first.0 met is (forced_faults m v.prune v.cost v.state met inner q),
      λ h less considered. first_settled m v first.0 h less first.1 first.2.0 first.2.1 considered (cases_Bool (is_forced m h)),
    )

pub found : (m : Model) (v : Visit) → IfSome v.cost InRange → Inner m v.state → Found m v (expansion m v)
found m v range inner = found_cases m v (first_enabled m v.state (forced_of m)) refl range inner

-- ---- the batch

joined : Batch → List (ℕ × Fate) → Batch
joined batch fates = record { letters = batch.letters ++ letters_of fates; offers = batch.offers ++ offers_of fates; pruned = batch.pruned ++ pruned_of fates; not_allowed = batch.not_allowed + out_of fates }

join_nil : (batch : Batch) → batch ≡ joined batch []
unfolding joined
join_nil batch = simp (append-nil, add-zero)

join_one : (batch : Batch) (g : ℕ) (fate : Fate) (fates : List (ℕ × Fate)) → joined (add batch g fate) fates ≡ joined batch ((g, fate) ∷ fates)
unfolding joined
join_one batch g Out fates = let count : (batch.not_allowed + 1) + out_of fates ≡ batch.not_allowed + (out_of fates + 1) = omega arith in rw count refl
join_one batch g (Total total) fates = simp append_assoc
join_one batch g (Letter n) fates = simp append_assoc
join_one batch g (Pruned n) fates = simp append_assoc

all_joined : (batch : Batch) (fates : List (ℕ × Fate)) → add_all batch fates ≡ joined batch fates
all_joined batch [] = join_nil batch
all_joined batch (x ∷ xs) = all_joined (add batch x.0 x.1) xs ∙ join_one batch x.0 x.1 xs

all_of : (fates : List (ℕ × Fate)) → add_all empty_batch fates ≡ batch_of fates
unfolding joined
all_of fates = let count : 0 + out_of fates ≡ out_of fates = omega arith in all_joined empty_batch fates ∙ rw count refl

pub fates_found : FatesFound
fates_found m v batch inner range e =
    let f : Found m v (Ok batch) = subst (λ (r : Result Batch Met). Found m v r) e (found m v range inner) in
    (f.0, f.1, f.2 ∙ all_of f.0)

pub visit_faults : VisitFaults
visit_faults m v met inner range e =
    let f : Found m v (Err met) = subst (λ (r : Result Batch Met). Found m v r) e (found m v range inner) in
    f.1.meets

-- ---- the first fault

pub all_settled : (m : Model) (v : Visit) (batch : Batch) → Inner m v.state → IfSome v.cost InRange → expansion m v ≡ Ok batch → AllSettled m v (length m.dp_ground)
all_settled m v batch inner range e =
    let f : Found m v (Ok batch) = subst (λ (r : Result Batch Met). Found m v r) e (found m v range inner) in
    f.3

pub first_found : FirstFound
first_found m v met inner range e =
    let f : Found m v (Err met) = subst (λ (r : Result Batch Met). Found m v r) e (found m v range inner) in
    (f.0, f.1, λ h other less is. settled_no_fault m v h other range is (f.2 h less (fault_considered m v h other is)))
