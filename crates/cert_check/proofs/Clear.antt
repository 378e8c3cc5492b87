-- Which transitions can reject the line of an open node: those that may step. Where a forced one is found enabled it alone may, where the
-- forced ones meet a fault none may, and else those that are enabled and not forced.
use Rattle.std.proofs.Common.{◌≡◌, ℕ, ◌<◌, ◌≤◌, ◌⊎◌, inl, inr, Bool, true, false, List, length, Option, Some, None, Result, Ok, Err, refl, sym, ap, subst, ◌∙◌, arith}
use Rattle.std.specs.Option.{is_some}
use Rattle.std.specs.List.{range_with_len}
use Rattle.std.proofs.lemmas.Bool.{cases_lt, cases_order}
use Rattle.dp_model.specs.StepTexts.{ground_of}
use Rattle.dp_model.specs.declared.whole.Model.{Model}
use Rattle.dp_steps.specs.States.{Considered, IsForced}
use Rattle.spot_eval.specs.Moves.{first_enabled, forced_of, is_forced, may_step_at, number_enabled}
use Rattle.spot_eval.specs.declared.ends.SpotFault.{SpotFault}
use Rattle.visit_laws.proofs.Transitions.{all_considered, enabled_found, forced_alone, forced_fault, forced_found, forced_is, ground_within, is_found, may_step_found, none_before}
use Rattle.dom_store.specs.declared.past_node.PastNode.{PastNode}
use Rattle.replay_list.specs.declared.replayed.Reached.{Reached}
use Rattle.cert_types.specs.declared.cert.Cert.{Cert}
use Rattle.cert_laws.specs.Checks.{first_of, step_fails, step_fails_if, steps_fail, taken_fails}
use Rattle.cert_laws.specs.declared.answers.CertReason.{CertReason}
use Rattle.cert_check.specs.Looked.{pick_fails}
use Rattle.cert_check.specs.Wants.{LeavesOne}
use Rattle.cert_check.specs.declared.wants.Leap.{Leap}
use Rattle.cert_check.proofs.Tests.{first_at, none_of}

-- ---- the first of many, where one alone may be there
pub only_one : (fails : ℕ → Option CertReason) (n f : ℕ) → f < n → ((k : ℕ) → (k ≡ f → ⊥) → fails k ≡ None) → first_of fails (range_with_len 0 n) ≡ fails f
only_one fails n f within others = by (fails f) refl
  where
    by : (o : Option CertReason) → fails f ≡ o → first_of fails (range_with_len 0 n) ≡ fails f
    by (Some reason) e = first_at fails n f reason within (λ k less. others k (λ same. absurd (omega (arith, same)))) e ∙ sym e
    by None e = none_of fails n (λ k less. elim (cases_order k f) [
      | inl same ↦ subst (λ (j : ℕ). fails j ≡ None) (sym same) e
      | inr apart ↦ others k (λ same. elim apart [ inl low ↦ absurd (omega (arith, same)) | inr high ↦ absurd (omega (arith, same)) ])
    ]) ∙ sym e

-- ---- one transition

module _ (m : Model) (cert : Cert) (past : List PastNode) (here : Reached) where
  not_taken : (g : ℕ) (v : Result Bool SpotFault) → (v ≡ Ok true → ⊥) → step_fails_if m cert past here g v ≡ None
  not_taken g (Ok true) never = absurd (never refl)
  not_taken g (Ok false) never = refl
  not_taken g (Err met) never = refl

  -- one that may not step rejects nothing
  pub still : (g : ℕ) → (may_step_at m here.state g ≡ Ok true → ⊥) → step_fails m cert past here g ≡ None
  still g never = not_taken g (may_step_at m here.state g) never

  -- one that may is taken
  pub taken : (g : ℕ) → may_step_at m here.state g ≡ Ok true → step_fails m cert past here g ≡ taken_fails m cert past here g (ground_of m g)
  taken g may = ap (step_fails_if m cert past here g) may

  -- one that is not found enabled may not
  pub disabled : (g : ℕ) → (number_enabled m here.state g ≡ Ok true → ⊥) → step_fails m cert past here g ≡ None
  disabled g never = still g (λ may. never ((enabled_found m here.state g).1 ((may_step_found m here.state g).0 may).1))

  -- ---- where no forced one is enabled

  pub forced_still : (g : ℕ) → first_enabled m here.state (forced_of m) ≡ Ok None → is_forced m g ≡ true → step_fails m cert past here g ≡ None
  forced_still g clear forced = disabled g (λ enabled. let off = none_before m here.state g clear (forced_is m g forced) in absurd (cc))

  pub enabled_taken : (g : ℕ) → first_enabled m here.state (forced_of m) ≡ Ok None → number_enabled m here.state g ≡ Ok true → step_fails m cert past here g ≡ taken_fails m cert past here g (ground_of m g)
  enabled_taken g clear enabled = taken g ((may_step_found m here.state g).1 (all_considered m here.state g clear, (enabled_found m here.state g).0 enabled))

  -- ---- where one is

  pub one_taken : (f : ℕ) → first_enabled m here.state (forced_of m) ≡ Ok (Some f) → steps_fail m cert past here ≡ taken_fails m cert past here f (ground_of m f)
  one_taken f first =
      let found = forced_found m here.state f first in
      only_one (step_fails m cert past here) (length m.dp_ground) f (ground_within m f found.0.0 found.0.1)
      (λ k other. still k (λ may. let may_too = (may_step_found m here.state k).0 may in other (forced_alone m here.state f k first may_too.0 may_too.1)))
      ∙ taken f ((may_step_found m here.state f).1 (found.1, found.2))

  -- ---- where they meet a fault

  pub fault_still : (met : SpotFault) → first_enabled m here.state (forced_of m) ≡ Err met → steps_fail m cert past here ≡ None
  fault_still met first =
      let fault = forced_fault m here.state met first in
      none_of (step_fails m cert past here) (length m.dp_ground) (λ g less. still g (λ may.
      let may_too = (may_step_found m here.state g).0 may in
      let enabled = (enabled_found m here.state g).1 may_too.1 in
      elim (cases_order fault.0 g) [
        | inl same ↦ (let there = subst (λ (k : ℕ). number_enabled m here.state k ≡ Err met) same fault.2.0 in absurd (cc))
        | inr (inl below) ↦ absurd (goes_before fault.0 g met fault.1 fault.2.0 may_too.0 (inl below))
        | inr (inr above) ↦ ahead fault.0 g met fault.1 fault.2.0 fault.2.1 may_too.0 enabled above
      ]))
    where
      -- a forced transition that meets a fault goes before no transition that is considered
      goes_before : (f g : ℕ) (met : SpotFault) → IsForced m f → number_enabled m here.state f ≡ Err met → Considered m here.state g → (f < g) ⊎ (IsForced m g → ⊥) → ⊥
      goes_before f g met forced fault considered order =
          let off = is_found m here.state f forced.0 false forced.1 (considered f forced.0 forced forced.1 order) in
          absurd (cc)

      -- and one before it that is enabled is not forced
      ahead : (f g : ℕ) (met : SpotFault) → IsForced m f → number_enabled m here.state f ≡ Err met → ((h : ℕ) → IsForced m h → h < f → number_enabled m here.state h ≡ Ok false) → Considered m here.state g → number_enabled m here.state g ≡ Ok true → g < f → ⊥
      ahead f g met forced fault before considered enabled less =
          goes_before f g met forced fault considered (inr (λ too. let off = before g too less in absurd (cc)))

-- ---- the transitions in turn

-- none so far rejects the line
abbrev pub NoneFails : (fails : ℕ → Option CertReason) → ℕ → Type 0
NoneFails fails place = (k : ℕ) → k < place → fails k ≡ None

not_some : (o : Option CertReason) → false ≡ is_some o → o ≡ None
not_some (Some reason) h = absurd (cc)
not_some None h = refl

same_pick : (g k : ℕ) → Some g ≡ Some k → g ≡ k
same_pick g k e = cc

-- where what was picked rejects nothing, none up to the next place does
pub leapt : (m : Model) (cert : Cert) (past : List PastNode) (here : Reached) (place : ℕ) (leap : Leap) (o : Option CertReason) → LeavesOne m here.state place leap → NoneFails (step_fails m cert past here) place → o ≡ pick_fails m cert past here leap.pick → false ≡ is_some o
    → NoneFails (step_fails m cert past here) leap.next
leapt m cert past here place leap o leaves none is not k less = by leap.pick refl (cases_lt k place)
  where
    quiet : (pick : Option ℕ) → leap.pick ≡ pick → pick_fails m cert past here pick ≡ None
    quiet pick e = ap (pick_fails m cert past here) (sym e) ∙ sym is ∙ not_some o not

    passed : place ≤ k → (leap.pick ≡ Some k → ⊥) → step_fails m cert past here k ≡ None
    passed low other = disabled m cert past here k (λ enabled. let off = leaves.others k low less other in absurd (cc))

    at_pick : (g : ℕ) → leap.pick ≡ Some g → place ≤ k → (k ≡ g) ⊎ ((k < g) ⊎ (g < k)) → step_fails m cert past here k ≡ None
    at_pick g e low (inl same) = ap (step_fails m cert past here) same ∙ quiet (Some g) e
    at_pick g e low (inr apart) = passed low (λ again. let one = same_pick g k (sym e ∙ again) in elim apart [ inl a ↦ absurd (omega (arith, one)) | inr b ↦ absurd (omega (arith, one)) ])

    by : (pick : Option ℕ) → leap.pick ≡ pick → (k < place) ⊎ (place ≤ k) → step_fails m cert past here k ≡ None
    by pick e (inl before) = none k before
    by None e (inr low) = passed low (λ picked. let clash : None ≡ Some k = sym e ∙ picked in absurd (cc))
    by (Some g) e (inr low) = at_pick g e low (cases_order k g)

-- and where it rejects the line it is the first that does
pub picked_first : (m : Model) (cert : Cert) (past : List PastNode) (here : Reached) (place : ℕ) (leap : Leap) (o : Option CertReason) → LeavesOne m here.state place leap → NoneFails (step_fails m cert past here) place → o ≡ pick_fails m cert past here leap.pick → true ≡ is_some o
    → o ≡ steps_fail m cert past here
picked_first m cert past here place leap None leaves none is some = absurd (cc)
picked_first m cert past here place leap (Some reason) leaves none is some = by leap.pick refl
  where
    before : (g : ℕ) → leap.pick ≡ Some g → g < leap.next → (k : ℕ) → k < g → (k < place) ⊎ (place ≤ k) → step_fails m cert past here k ≡ None
    before g e high k less (inl early) = none k early
    before g e high k less (inr late) =
        disabled m cert past here k
        (λ enabled. let off = leaves.others k late (omega (arith, less, high)) (λ again. absurd (omega (arith, less, same_pick g k (sym e ∙ again)))) in absurd (cc))

    by : (pick : Option ℕ) → leap.pick ≡ pick → Some reason ≡ steps_fail m cert past here
    by None e = let clash : Some reason ≡ None = is ∙ ap (pick_fails m cert past here) e in absurd (cc)
    by (Some g) e =
        let inside = leaves.picked g e in
        let fails : step_fails m cert past here g ≡ Some reason = sym (is ∙ ap (pick_fails m cert past here) e) in
        sym (first_at (step_fails m cert past here) (length m.dp_ground) g reason (omega (arith, inside.1, leaves.within)) (λ k less. before g e inside.1 k less (cases_lt k place)) fails)
