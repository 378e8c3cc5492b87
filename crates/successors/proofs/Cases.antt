-- A look at one variable leaves one candidate.
use Rattle.std.proofs.Common.{◌≡◌, ℕ, ◌+◌, ◌-◌, ◌<◌, ◌≤◌, ◌⊎◌, inl, inr, Bool, true, false, zero, suc, List, [], ◌∷◌, ◌++◌, length, map, drop, set, get_or, slice_get, Option, Some, None, IfSome, Result, Ok, Err, if◌then◌else◌, ℤ, pos, ◌+ℤ◌, refl, sym, ap, subst, ◌∙◌, arith}
use Rattle.std.proofs.lemmas.Int.{ints}
use Rattle.std.specs.Ordering.{int_eq}
use Rattle.std.specs.Result.{IsErrAnd}
use Rattle.std.proofs.lemmas.Bool.{cases_Bool, cases_lt}
use Rattle.std.proofs.lemmas.Bool.Decides.{Decides-int_eq}
use Rattle.std.proofs.lemmas.List.{at_drop_more, drop_all, length-map}
use Rattle.std.proofs.lemmas.Option.{slice_get-get_or, slice_get_within, same_Some}
use Rattle.dp_base.specs.Results.{◌>>=◌, each}
use Rattle.dp_model.specs.Evaluation.{cond_value, num_value, number_in, ArgValue, CondValue, NumValue, SetValue, arg_step, cond_step, num_step, set_step}
use Rattle.dp_model.specs.StepTexts.{ground_of}
use Rattle.dp_model.specs.Typing.{is_number_kind, kind_at}
use Rattle.dp_model.specs.declared.answers.FaultKind.{FaultKind}
use Rattle.dp_model.specs.declared.parts.PlainState.{PlainState}
use Rattle.dp_model.specs.declared.parts.Transition.{Transition}
use Rattle.dp_model.specs.declared.trees.Compare.{Compare}
use Rattle.dp_model.specs.declared.trees.Compare.TheVariants.{Same}
use Rattle.dp_model.specs.declared.trees.Cond.{Cond}
use Rattle.dp_model.specs.declared.trees.Cond as conds
use Rattle.dp_model.specs.declared.trees.Num.{Num}
use Rattle.dp_model.specs.declared.trees.Num as nums
use Rattle.dp_model.specs.declared.whole.Model.{Model}
use Rattle.dp_steps.specs.States.{are_members}
use Rattle.spot_eval.specs.Looks.{all_at}
use Rattle.spot_eval.specs.Moves.{number_enabled, others_of}
use Rattle.spot_eval.specs.declared.ends.SpotFault.{SpotFault}
use Rattle.spot_eval.specs.declared.tests.Tests.TheVariants.{Preconditions}
use Rattle.successors.specs.Answers.{AnswersBy, Met}
use Rattle.successors.specs.Candidates.{candidate_of}
use Rattle.successors.specs.Searches.{Visit}
use Rattle.successors.specs.Switches.{FailsElse, IsCase, IsSwitch, AreSwitches, LeavesOne}
use Rattle.successors.specs.Visits.{with_picked, with_tested}
use Rattle.successors.specs.declared.batch.Batch.{Batch}
use Rattle.successors.specs.declared.candidates.Candidate.{Candidate}
use Rattle.successors.specs.declared.ends.ExpandEnd.{ExpandEnd}
use Rattle.successors.specs.declared.ends.ExpandEnd.TheVariants as expand_ends
use Rattle.successors.specs.declared.switches.Case.{Case}
use Rattle.successors.specs.declared.switches.Switch.{Switch}
use Rattle.successors.specs.declared.switches.Wanted.{Wanted}
use Rattle.successors.proofs.Skips.{passed_over}

-- ---- a condition that wants a number

not_same : (a b : ℤ) → (a ≡ b → ⊥) → int_eq a b ≡ false
not_same a b ne = elim (cases_Bool (int_eq a b)) [ inl same ↦ absurd (ne ((Decides-int_eq a b).0 same)) | inr other ↦ other ]

pub some_both : {A : Type 0} (o : Option A) (P Q R : A → Type 0) → IfSome o P → IfSome o Q → ((x : A) → P x → Q x → R x) → IfSome o R
some_both None P Q R p q f = p
some_both (Some x) P Q R p q f = f x p q

module _ (m : Model) (s : PlainState) (given : List ℕ) where
  same_value : (c : Cond) (a b : Num) → conds.out-Cond c ≡ conds.Cond-F.Numbers Same a b → cond_value m s c given ≡ (num_value m s a given >>= λ x. num_value m s b given >>= λ y. Ok (int_eq x y))
  same_value c a b p = rw (conds.fold_out-Cond ArgValue CondValue NumValue SetValue arg_step (cond_step m s) (num_step m s) (set_step m s) c, p) refl

  both : (r q : Result ℤ FaultKind) (x y : ℤ) → r ≡ Ok x → q ≡ Ok y → ◌≡◌ {A = Result Bool FaultKind} (r >>= λ a. q >>= λ b. Ok (int_eq a b)) (Ok (int_eq x y))
  both r q x y e f = rw e (rw f refl)

  fails_left : (c : Cond) (a b : Num) (v : ℕ) (n : ℤ) → conds.out-Cond c ≡ conds.Cond-F.Numbers Same a b → num_value m s a given ≡ Ok (number_in s v) → num_value m s b given ≡ Ok n → (number_in s v ≡ n → ⊥) → cond_value m s c given ≡ Ok false
  fails_left c a b v n is held value other = same_value c a b is ∙ both (num_value m s a given) (num_value m s b given) (number_in s v) n held value ∙ ap Ok (not_same (number_in s v) n other)

  fails_right : (c : Cond) (a b : Num) (v : ℕ) (n : ℤ) → conds.out-Cond c ≡ conds.Cond-F.Numbers Same a b → num_value m s b given ≡ Ok (number_in s v) → num_value m s a given ≡ Ok n → (number_in s v ≡ n → ⊥) → cond_value m s c given ≡ Ok false
  fails_right c a b v n is held value other = same_value c a b is ∙ both (num_value m s a given) (num_value m s b given) n (number_in s v) value held ∙ ap Ok (not_same n (number_in s v) (λ back. other (sym back)))

-- an expression is this variable in each state, or this number
abbrev pub IsVariable : Num → ℕ → Type 0
IsVariable e v = (m : Model) (s : PlainState) (given : List ℕ) → num_value m s e given ≡ Ok (number_in s v)

abbrev pub IsNumber : Num → List ℕ → ℤ → Type 0
IsNumber e given n = (m : Model) (s : PlainState) → num_value m s e given ≡ Ok n

pub wanted_left : (c : Cond) (op : Compare) (a b : Num) (given : List ℕ) (v : ℕ) (n : ℤ) → conds.out-Cond c ≡ conds.Cond-F.Numbers op a b → op ≡ Same → IsVariable a v → IsNumber b given n → FailsElse c given v n
wanted_left c op a b given v n is same held value m s other = fails_left m s given c a b v n (is ∙ ap (λ (o : Compare). conds.Cond-F.Numbers o a b) same) (held m s given) (value m s) other

pub wanted_right : (c : Cond) (op : Compare) (a b : Num) (given : List ℕ) (o : Option Wanted) → conds.out-Cond c ≡ conds.Cond-F.Numbers op a b → op ≡ Same → IfSome o (λ w. IsVariable b w.variable) → IfSome o (λ w. IsNumber a given w.number) → IfSome o (λ w. FailsElse c given w.variable w.number)
wanted_right c op a b given o is same variable number = some_both o _ _ _ variable number (λ w held value m s other. fails_right m s given c a b w.variable w.number (is ∙ ap (λ (o : Compare). conds.Cond-F.Numbers o a b) same) (held m s given) (value m s) other)

-- ---- a first precondition that fails

tests_fail : (m : Model) (s : PlainState) (g : ℕ) (given : List ℕ) (c : Cond) (cs : List Cond) → slice_get cs 0 ≡ Some c → cond_value m s c given ≡ Ok false → all_at m s (Preconditions g) given 0 cs ≡ Ok false
tests_fail m s g given c [] e h = absurd (cc)
tests_fail m s g given c (x ∷ cs) e h =
    let same : c ≡ x = cc in
    let fails : cond_value m s x given ≡ Ok false = subst (λ (y : Cond). cond_value m s y given ≡ Ok false) same h in
    rw fails refl

either_way : (b : Bool) (value : Result Bool SpotFault) → value ≡ Ok false → (if b then value else Ok false) ≡ Ok false
either_way true value h = h
either_way false value h = refl

pub first_decides : (t : Transition) (given : List ℕ) (c : Cond) (v : ℕ) (n : ℤ) → slice_get t.preconditions 0 ≡ Some c → FailsElse c given v n → (g : ℕ) (m : Model) → ground_of m g ≡ Some (t, given) → IsCase m v n g
first_decides t given c v n e fails g m there s other =
    let last = either_way (are_members s t.params given) (all_at m s (Preconditions g) given 0 t.preconditions) (tests_fail m s g given c t.preconditions e (fails m s other)) in
    rw there last

some_is : (k i : ℕ) → Some k ≡ Some i → k ≡ i
some_is k i q = ap (λ (o : Option ℕ). elim o [ Some x ↦ x | None ↦ k ]) q

-- ---- those between are passed over

module _ (m : Model) (visit : Visit) (numbers : List ℕ) where
  -- what the ground transitions from a place on make of a batch
  abbrev pub from : Batch → ℕ → Result Batch Met
  from batch place = each (with_tested m visit) batch (drop place numbers)

  pub tested_first : (batch : Batch) (place : ℕ) → place < length numbers → from batch place ≡ (with_tested m visit batch (get_or numbers place 0) >>= λ b. from b (place + 1))
  tested_first batch place h = at_drop_more (each (with_tested m visit) batch) numbers place 0 h

  pub all_skipped : (batch : Batch) (n place : ℕ) → place + n ≤ length numbers → ((k g : ℕ) → place ≤ k → k < place + n → slice_get numbers k ≡ Some g → number_enabled m visit.state g ≡ Ok false) → from batch place ≡ from batch (place + n)
  all_skipped batch zero place h none = ap (from batch) (omega arith)
  all_skipped batch (suc n) place h none =
      let g : ℕ = get_or numbers place 0 in
      let there : slice_get numbers place ≡ Some g = slice_get-get_or numbers place 0 (omega arith) in
      let passed : with_tested m visit batch g ≡ Ok batch = passed_over m visit batch g (none place g (omega arith) (omega arith) there) in
      let later = all_skipped batch n (place + 1) (omega arith) (λ k g a b e. none k g (omega arith) (omega arith) e) in
      tested_first batch place (omega arith) ∙ rw passed (later ∙ ap (from batch) (omega arith))

  skipped_to : (batch : Batch) (place next : ℕ) → place ≤ next → next ≤ length numbers → ((k g : ℕ) → place ≤ k → k < next → slice_get numbers k ≡ Some g → number_enabled m visit.state g ≡ Ok false) → from batch place ≡ from batch next
  skipped_to batch place next le within none =
      let whole : place + (next - place) ≡ next = omega arith in
      all_skipped batch (next - place) place (omega arith) (λ k g a b e. none k g a (omega arith) e) ∙ ap (from batch) whole

  then_skipped : (value : Result Batch Met) (place next : ℕ) → place ≤ next → next ≤ length numbers → ((k g : ℕ) → place ≤ k → k < next → slice_get numbers k ≡ Some g → number_enabled m visit.state g ≡ Ok false) → (value >>= λ b. from b place) ≡ (value >>= λ b. from b next)
  then_skipped (Ok b) place next le within none = skipped_to b place next le within none
  then_skipped (Err e) place next le within none = refl

  pub one_left : (batch : Batch) (place : ℕ) (case : Case) → LeavesOne m visit.state numbers place case → from batch place ≡ (with_picked m visit batch numbers case.pick >>= λ b. from b case.next)
  one_left batch place case h = by case.pick refl
    where
      by : (pick : Option ℕ) → case.pick ≡ pick → from batch place ≡ (with_picked m visit batch numbers pick >>= λ b. from b case.next)
      by None e = skipped_to batch place case.next (omega (arith, h.later)) h.within (λ k g a b at. h.others k g a b (λ same. absurd (cc)) at)
      by (Some k) e =
          let inside = h.picked k e in
          skipped_to batch place k inside.0 (omega (arith, h.within, inside.1)) (λ i g a b at. h.others i g a (omega (arith, inside.1)) (λ same. absurd (omega (arith, some_is k i (sym e ∙ same)))) at)
          ∙ tested_first batch k (omega (arith, h.within, inside.1))
          ∙ then_skipped (with_tested m visit batch (get_or numbers k 0)) (k + 1) case.next (omega (arith, inside.1)) h.within (λ i g a b at. h.others i g (omega (arith, inside.0)) b (λ same. absurd (omega (arith, some_is k i (sym e ∙ same)))) at)

-- ---- what is left of candidates decides

pub all_left : (m : Model) (visit : Visit) (numbers : List ℕ) (batch : Batch) (place : ℕ) → length numbers ≤ place → from m visit numbers batch place ≡ Ok batch
all_left m visit numbers batch place h = rw (drop_all place numbers h) refl

-- ---- what one look leaves

pub plain_leaves : (m : Model) (s : PlainState) (numbers : List ℕ) (place : ℕ) → place < length numbers → LeavesOne m s numbers place (record { pick = Some place; next = place + 1 })
plain_leaves m s numbers place less = record {
  later = omega arith;
  within = omega arith;
  picked = λ k e. let same : place ≡ k = some_is place k e in (omega arith, omega arith);
  others = λ k g a b other at. let same : place ≡ k = omega arith in absurd (other (ap Some same));
}

pub case_leaves : (m : Model) (s : PlainState) (numbers : List ℕ) (place : ℕ) (switch : Switch) (held : ℤ) (pick : Option ℕ) → 0 < switch.count → IsSwitch m numbers place switch → held ≡ number_in s switch.variable → IfSome pick (λ k. (j : ℕ) × (j < switch.count) × (k ≡ place + j) × (held ≡ switch.number +ℤ pos j)) → (pick ≡ None → (j : ℕ) → j < switch.count → held ≡ switch.number +ℤ pos j → ⊥) → LeavesOne m s numbers place (record { pick = pick; next = place + switch.count })
case_leaves m s numbers place switch held pick some is shown found none = record {
  later = omega (arith, some);
  within = is.within;
  picked = λ k e. let f = found_at k e in (omega (arith, f.1, f.2), omega (arith, f.1, f.2));
  others = λ k g a b other at.
      let j : ℕ = k - place in
      let whole : place + j ≡ k = omega arith in
      is.cases j g (omega arith) (subst (λ (i : ℕ). slice_get numbers i ≡ Some g) (sym whole) at) s (λ same. not_picked k j whole (omega arith) other pick refl (shown ∙ same));
}
  where
    found_at : (k : ℕ) → pick ≡ Some k → (j : ℕ) × (j < switch.count) × (k ≡ place + j) × (held ≡ switch.number +ℤ pos j)
    found_at k e = subst (λ (o : Option ℕ). IfSome o (λ k. (j : ℕ) × (j < switch.count) × (k ≡ place + j) × (held ≡ switch.number +ℤ pos j))) e found

    not_picked : (k j : ℕ) → place + j ≡ k → j < switch.count → (pick ≡ Some k → ⊥) → (o : Option ℕ) → pick ≡ o → held ≡ switch.number +ℤ pos j → ⊥
    not_picked k j whole less other None e same = none e j less same
    not_picked k j whole less other (Some i) e same =
        let f = found_at i e in
        let equal : f.0 ≡ j = omega (arith, ints, f.3, same) in
        let here : i ≡ k = omega (arith, f.2, whole, equal) in
        other (e ∙ ap Some here)

-- ---- lists of switches

got_behind : (xs : List Switch) (x : Switch) (i : ℕ) (y : Switch) → slice_get (xs ++ x ∷ []) i ≡ Some y → (slice_get xs i ≡ Some y) ⊎ ((i ≡ length xs) × (x ≡ y))
got_behind [] x zero y e = inr (refl, cc)
got_behind [] x (suc i) y e = let no : None ≡ Some y = e in absurd (cc)
got_behind (z ∷ xs) x zero y e = inl e
got_behind (z ∷ xs) x (suc i) y e = elim (got_behind xs x i y e) [ inl a ↦ inl a | inr b ↦ inr (ap suc b.0, b.1) ]

got_set : (xs : List Switch) (i : ℕ) (x : Switch) (k : ℕ) (y : Switch) → slice_get (set xs i x) k ≡ Some y → ((k ≡ i) × (x ≡ y)) ⊎ (slice_get xs k ≡ Some y)
got_set [] i x k y e = inr e
got_set (z ∷ xs) zero x zero y e = inl (refl, cc)
got_set (z ∷ xs) zero x (suc k) y e = inr e
got_set (z ∷ xs) (suc i) x zero y e = inr e
got_set (z ∷ xs) (suc i) x (suc k) y e = elim (got_set xs i x k y e) [ inl a ↦ inl (ap suc a.0, a.1) | inr b ↦ inr b ]

pub behind : (m : Model) (numbers : List ℕ) (switches : List Switch) (x : Switch) → AreSwitches m numbers switches → IsSwitch m numbers (length switches) x → AreSwitches m numbers (switches ++ x ∷ [])
behind m numbers switches x are is i y at = elim (got_behind switches x i y at) [
  | inl before ↦ are i y before
  | inr last ↦ rw last.0 (subst (λ (z : Switch). IsSwitch m numbers (length switches) z) last.1 is)
]

pub put : (m : Model) (numbers : List ℕ) (switches : List Switch) (place : ℕ) (x : Switch) → AreSwitches m numbers switches → IsSwitch m numbers place x → AreSwitches m numbers (set switches place x)
put m numbers switches place x are is i y at = elim (got_set switches place x i y at) [
  | inl same ↦ rw same.0 (subst (λ (z : Switch). IsSwitch m numbers place z) same.1 is)
  | inr other ↦ are i y other
]

-- ---- one switch

pub single : (m : Model) (numbers : List ℕ) (place g v : ℕ) (n : ℤ) → slice_get numbers place ≡ Some g → is_number_kind (kind_at m.variables v) ≡ true → IsCase m v n g → IsSwitch m numbers place (record { variable = v; number = n; count = 1 })
single m numbers place g v n there kind case = record {
  within = omega (arith, slice_get_within numbers place g there);
  kind = λ _. kind;
  cases = only;
}
  where
    only : (j x : ℕ) → j < 1 → slice_get numbers (place + j) ≡ Some x → IsCase m v (n +ℤ pos j) x
    only j x less at =
        let first : j ≡ 0 = omega arith in
        let here : slice_get numbers place ≡ Some x = subst (λ (i : ℕ). slice_get numbers i ≡ Some x) (omega arith) at in
        let same : g ≡ x = same_Some g x (sym there ∙ here) in
        let alone : n ≡ n +ℤ pos j = omega (arith, ints) in
        subst (λ (k : ℤ). IsCase m v k x) alone (subst (λ (y : ℕ). IsCase m v n y) same case)

pub without_cases : (m : Model) (numbers : List ℕ) (place v : ℕ) (n : ℤ) → place < length numbers → IsSwitch m numbers place (record { variable = v; number = n; count = 0 })
without_cases m numbers place v n le = record {
  within = omega arith;
  kind = λ less. absurd (omega arith);
  cases = λ j g less at. absurd (omega arith);
}

pub longer : (m : Model) (numbers : List ℕ) (head place g : ℕ) (n : ℤ) (x : Switch) → IsSwitch m numbers head x → 0 < x.count → head + x.count ≡ place → slice_get numbers place ≡ Some g → x.number +ℤ pos x.count ≡ n → IsCase m x.variable n g → IsSwitch m numbers head (record { variable = x.variable; number = x.number; count = x.count + 1 })
longer m numbers head place g n x is some ends there next case = record {
  within = omega (arith, slice_get_within numbers place g there);
  kind = λ _. is.kind some;
  cases = one_more;
}
  where
    one_more : (j y : ℕ) → j < x.count + 1 → slice_get numbers (head + j) ≡ Some y → IsCase m x.variable (x.number +ℤ pos j) y
    one_more j y less at = elim (cases_lt j x.count) [
      | inl inside ↦ is.cases j y inside at
      | inr past ↦
          let last : x.count ≡ j = omega arith in
          let here : slice_get numbers place ≡ Some y = subst (λ (i : ℕ). slice_get numbers i ≡ Some y) (omega arith) at in
          let same : g ≡ y = same_Some g y (sym there ∙ here) in
          let number : n ≡ x.number +ℤ pos j = sym next ∙ ap (λ (k : ℕ). x.number +ℤ pos k) last in
          subst (λ (k : ℤ). IsCase m x.variable k y) number (subst (λ (z : ℕ). IsCase m x.variable n z) same case)
    ]

-- what stands at a place of a list
pub got : (xs : List Switch) (k : ℕ) (x : Switch) → k < length xs → x ≡ get_or xs k x → slice_get xs k ≡ Some x
got xs k x less e = slice_get-get_or xs k x less ∙ ap Some (sym e)

pub one_behind : (m : Model) (numbers : List ℕ) (old new : List Switch) (g v : ℕ) (n : ℤ) → new ≡ old ++ record { variable = v; number = n; count = 1 } ∷ [] → AreSwitches m numbers old → slice_get numbers (length old) ≡ Some g → is_number_kind (kind_at m.variables v) ≡ true → IsCase m v n g → AreSwitches m numbers new
one_behind m numbers old new g v n is are there kind case = rw is (behind m numbers old (record { variable = v; number = n; count = 1 }) are (single m numbers (length old) g v n there kind case))

pub lengthened : (m : Model) (numbers : List ℕ) (switches : List Switch) (head place g v : ℕ) (n : ℤ) (seen x : Switch) → AreSwitches m numbers switches → head < length switches → seen ≡ get_or switches head seen → x ≡ get_or switches head x → 0 < seen.count → head + seen.count ≡ place → seen.variable ≡ v → seen.number +ℤ pos seen.count ≡ n → slice_get numbers place ≡ Some g → IsCase m v n g → AreSwitches m numbers (set switches head (record { variable = x.variable; number = x.number; count = x.count + 1 }))
lengthened m numbers switches head place g v n seen x are inside seen_at x_at some ends variable next there case =
    let same : seen ≡ x = same_Some seen x (sym (got switches head seen inside seen_at) ∙ got switches head x inside x_at) in
    let is = are head x (got switches head x inside x_at) in
    let case_of_x : IsCase m x.variable n g = subst (λ (k : ℕ). IsCase m k n g) (sym variable ∙ ap (λ (y : Switch). y.variable) same) case in
    put m numbers switches head _ are (longer m numbers head place g n x is (subst (λ (y : Switch). 0 < y.count) same some) (subst (λ (y : Switch). head + y.count ≡ place) same ends) there (subst (λ (y : Switch). y.number +ℤ pos y.count ≡ n) same next) case_of_x)

-- a number that stands at the place behind the switches so far
pub number_at : (numbers listed : List ℕ) (i n : ℕ) → listed ≡ numbers → i < length listed → n ≡ i → slice_get numbers n ≡ Some (get_or listed i 0)
number_at numbers listed i n same less at = rw (at, sym same) (slice_get-get_or listed i 0 less)

-- ---- a loop over the candidates

pub as_many : (m : Model) (candidates : List Candidate) → candidates ≡ map (candidate_of m) (others_of m) → length candidates ≡ length (others_of m)
as_many m candidates e = ap length e ∙ length-map (others_of m) (candidate_of m)

pub leaves_here : (m n : Model) (s t : PlainState) (numbers : List ℕ) (place : ℕ) (case : Case) → n ≡ m → t ≡ s → LeavesOne n t numbers place case → LeavesOne m s numbers place case
leaves_here m n s t numbers place case e f h = subst (λ (x : Model). LeavesOne x s numbers place case) e (subst (λ (x : PlainState). LeavesOne n x numbers place case) f h)

pub picked_inside : (m : Model) (s : PlainState) (numbers : List ℕ) (place : ℕ) (case : Case) → LeavesOne m s numbers place case → IfSome case.pick (λ k. k < length numbers)
picked_inside m s numbers place case h = by case.pick refl
  where
    by : (o : Option ℕ) → case.pick ≡ o → IfSome o (λ k. k < length numbers)
    by None e = tt
    by (Some k) e = omega (arith, (h.picked k e).1, h.within)

-- an error ends the loop with it
pub stops_there : {A B C D : Type 0} (view : C → B) (seen : D → A) (told : Result C ExpandEnd) (end : ExpandEnd) (value : Result A Met) (f : A → Result B Met) (whole : Result B Met) → whole ≡ (value >>= f) → IsErrAnd told (λ (e : ExpandEnd). e ≡ end) → AnswersBy seen (Err end) value → AnswersBy view told whole
stops_there view seen (Ok x) end value f whole same e h = absurd e
stops_there view seen (Err x) end value f whole same e h = rw (e, same) (ends end h)
  where
    ends : (end : ExpandEnd) → AnswersBy seen (Err end) value → AnswersBy view (Err end) (value >>= f)
    ends (expand_ends.Fault spot kind last) h = rw h refl
    ends expand_ends.Memory h = tt

-- the look that a round of the loop takes
pub leaves_now : (m n : Model) (s t : PlainState) (candidates : List Candidate) (switches : List Switch) (place : ℕ) (case : Case) → candidates ≡ map (candidate_of m) (others_of m) → n ≡ m → t ≡ s → AreSwitches m (others_of m) switches → place < length candidates → ((numbers : List ℕ) → AreSwitches n numbers switches → place < length numbers → LeavesOne n t numbers place case) → LeavesOne m s (others_of m) place case
leaves_now m n s t candidates switches place case listed e f are less look =
    leaves_here m n s t (others_of m) place case e f (look (others_of m) (subst (λ (x : Model). AreSwitches x (others_of m) switches) (sym e) are) (omega (arith, less, as_many m candidates listed)))
