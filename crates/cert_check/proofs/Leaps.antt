-- A look at one variable leaves one ground transition.
use Rattle.std.proofs.Common.{◌≡◌, ℕ, ◌+◌, ◌-◌, ◌<◌, ◌≤◌, ◌⊎◌, inl, inr, Bool, true, false, zero, suc, List, [], ◌∷◌, length, replicate, set, slice_get, Option, Some, None, IfSome, Result, Ok, if◌then◌else◌, ℤ, pos, ◌+ℤ◌, refl, sym, ap, subst, ◌∙◌, arith}
use Rattle.std.proofs.lemmas.Int.{ints}
use Rattle.std.specs.Ordering.{int_eq}
use Rattle.std.proofs.lemmas.Bool.{cases_Bool}
use Rattle.std.proofs.lemmas.Bool.Decides.{Decides-int_eq}
use Rattle.dp_base.specs.Results.{◌>>=◌}
use Rattle.dp_model.specs.Evaluation.{cond_value, num_value, number_in, ArgValue, CondValue, NumValue, SetValue, arg_step, cond_step, num_step, set_step}
use Rattle.dp_model.specs.StepTexts.{ground_of}
use Rattle.dp_model.specs.Typing.{is_number_kind, kind_at}
use Rattle.dp_model.specs.declared.answers.FaultKind.{FaultKind}
use Rattle.dp_model.specs.declared.parts.PlainState.{PlainState}
use Rattle.dp_model.specs.declared.parts.Transition.{Transition}
use Rattle.dp_model.specs.declared.trees.Compare.{Compare}
use Rattle.dp_model.specs.declared.trees.Compare.TheVariants.{Same}
use Rattle.dp_model.specs.declared.trees.Cond.{Cond}
use Rattle.dp_model.specs.declared.trees.Cond as conds
use Rattle.dp_model.specs.declared.trees.Num.{Num}
use Rattle.dp_model.specs.declared.whole.Model.{Model}
use Rattle.dp_steps.specs.States.{are_members}
use Rattle.spot_eval.specs.Looks.{all_at}
use Rattle.spot_eval.specs.declared.ends.SpotFault.{SpotFault}
use Rattle.spot_eval.specs.declared.tests.Tests.TheVariants.{Preconditions}
use Rattle.cert_check.specs.Wants.{FailsElse, IsRow, LeavesOne, Wants}
use Rattle.cert_check.specs.declared.wants.Row.{Row}
use Rattle.cert_check.specs.declared.wants.Wanted.{Wanted}

-- ---- a condition that wants a number

not_same : (a b : ℤ) → (a ≡ b → ⊥) → int_eq a b ≡ false
not_same a b ne = elim (cases_Bool (int_eq a b)) [ inl same ↦ absurd (ne ((Decides-int_eq a b).0 same)) | inr other ↦ other ]

pub some_both : {A : Type 0} (o : Option A) (P Q R : A → Type 0) → IfSome o P → IfSome o Q → ((x : A) → P x → Q x → R x) → IfSome o R
some_both None P Q R p q f = p
some_both (Some x) P Q R p q f = f x p q

module _ (m : Model) (s : PlainState) (given : List ℕ) where
  same_value : (c : Cond) (a b : Num) → conds.out-Cond c ≡ conds.Cond-F.Numbers Same a b → cond_value m s c given ≡ (num_value m s a given >>= λ x. num_value m s b given >>= λ y. Ok (int_eq x y))
  same_value c a b p = rw (conds.fold_out-Cond ArgValue CondValue NumValue SetValue arg_step (cond_step m s) (num_step m s) (set_step m s) c, p) refl

  both : (r q : Result ℤ FaultKind) (x y : ℤ) → r ≡ Ok x → q ≡ Ok y → ◌≡◌ {A = Result Bool FaultKind} (r >>= λ a. q >>= λ b. Ok (int_eq a b)) (Ok (int_eq x y))
  both r q x y e f = rw e (rw f refl)

  fails_left : (c : Cond) (a b : Num) (v : ℕ) (n : ℤ) → conds.out-Cond c ≡ conds.Cond-F.Numbers Same a b → num_value m s a given ≡ Ok (number_in s v) → num_value m s b given ≡ Ok n → (number_in s v ≡ n → ⊥) → cond_value m s c given ≡ Ok false
  fails_left c a b v n is held value other = same_value c a b is ∙ both (num_value m s a given) (num_value m s b given) (number_in s v) n held value ∙ ap Ok (not_same (number_in s v) n other)

  fails_right : (c : Cond) (a b : Num) (v : ℕ) (n : ℤ) → conds.out-Cond c ≡ conds.Cond-F.Numbers Same a b → num_value m s b given ≡ Ok (number_in s v) → num_value m s a given ≡ Ok n → (number_in s v ≡ n → ⊥) → cond_value m s c given ≡ Ok false
  fails_right c a b v n is held value other = same_value c a b is ∙ both (num_value m s a given) (num_value m s b given) n (number_in s v) value held ∙ ap Ok (not_same n (number_in s v) (λ back. other (sym back)))

-- an expression is this variable in each state, or this number
abbrev pub IsVariable : Num → ℕ → Type 0
IsVariable e v = (m : Model) (s : PlainState) (given : List ℕ) → num_value m s e given ≡ Ok (number_in s v)

abbrev pub IsNumber : Num → List ℕ → ℤ → Type 0
IsNumber e given n = (m : Model) (s : PlainState) → num_value m s e given ≡ Ok n

pub wanted_left : (c : Cond) (op : Compare) (a b : Num) (given : List ℕ) (v : ℕ) (n : ℤ) → conds.out-Cond c ≡ conds.Cond-F.Numbers op a b → op ≡ Same → IsVariable a v → IsNumber b given n → FailsElse c given v n
wanted_left c op a b given v n is same held value m s other = fails_left m s given c a b v n (is ∙ ap (λ (o : Compare). conds.Cond-F.Numbers o a b) same) (held m s given) (value m s) other

pub wanted_right : (c : Cond) (op : Compare) (a b : Num) (given : List ℕ) (o : Option Wanted) → conds.out-Cond c ≡ conds.Cond-F.Numbers op a b → op ≡ Same → IfSome o (λ w. IsVariable b w.variable) → IfSome o (λ w. IsNumber a given w.number) → IfSome o (λ w. FailsElse c given w.variable w.number)
wanted_right c op a b given o is same variable number = some_both o _ _ _ variable number (λ w held value m s other. fails_right m s given c a b w.variable w.number (is ∙ ap (λ (o : Compare). conds.Cond-F.Numbers o a b) same) (held m s given) (value m s) other)

-- ---- a first precondition that fails

tests_fail : (m : Model) (s : PlainState) (g : ℕ) (given : List ℕ) (c : Cond) (cs : List Cond) → slice_get cs 0 ≡ Some c → cond_value m s c given ≡ Ok false → all_at m s (Preconditions g) given 0 cs ≡ Ok false
tests_fail m s g given c [] e h = absurd (cc)
tests_fail m s g given c (x ∷ cs) e h =
    let same : c ≡ x = cc in
    let fails : cond_value m s x given ≡ Ok false = subst (λ (y : Cond). cond_value m s y given ≡ Ok false) same h in
    rw fails refl

either_way : (b : Bool) (value : Result Bool SpotFault) → value ≡ Ok false → (if b then value else Ok false) ≡ Ok false
either_way true value h = h
either_way false value h = refl

pub first_decides : (t : Transition) (given : List ℕ) (c : Cond) (v : ℕ) (n : ℤ) → slice_get t.preconditions 0 ≡ Some c → FailsElse c given v n → (g : ℕ) (m : Model) → ground_of m g ≡ Some (t, given) → Wants m v n g
first_decides t given c v n e fails g m there s other =
    let last = either_way (are_members s t.params given) (all_at m s (Preconditions g) given 0 t.preconditions) (tests_fail m s g given c t.preconditions e (fails m s other)) in
    rw there last

-- ---- one row

pub no_wants : (m : Model) (place : ℕ) (row : Row) → row.count ≡ 0 → place ≤ length m.dp_ground → IsRow m place row
no_wants m place row none le = record {
  within = omega (arith, none);
  kind = λ some. absurd (omega (arith, none));
  wants = λ j less. absurd (omega (arith, none));
}

pub alone : (m : Model) (place v : ℕ) (n : ℤ) → place < length m.dp_ground → is_number_kind (kind_at m.variables v) ≡ true → Wants m v n place → IsRow m place (record { variable = v; number = n; count = 1 })
alone m place v n there kind wants = record {
  within = omega arith;
  kind = λ _. kind;
  wants = λ j less.
      let first : place ≡ place + j = omega arith in
      let same : n ≡ n +ℤ pos j = omega (arith, ints) in
      subst (λ (k : ℤ). Wants m v k (place + j)) same (subst (λ (g : ℕ). Wants m v n g) first wants);
}

pub in_front : (m : Model) (place v : ℕ) (n : ℤ) (behind : Row) → is_number_kind (kind_at m.variables v) ≡ true → Wants m v n place → IsRow m (place + 1) behind → v ≡ behind.variable → n +ℤ pos 1 ≡ behind.number → IsRow m place (record { variable = v; number = n; count = behind.count + 1 })
in_front m place v n behind kind wants is same next = record {
  within = omega (arith, is.within);
  kind = λ _. kind;
  wants = each;
}
  where
    each : (j : ℕ) → j < behind.count + 1 → Wants m v (n +ℤ pos j) (place + j)
    each zero less =
        let first : place ≡ place + 0 = omega arith in
        let number : n ≡ n +ℤ pos 0 = omega (arith, ints) in
        subst (λ (k : ℤ). Wants m v k (place + 0)) number (subst (λ (g : ℕ). Wants m v n g) first wants)
    each (suc j) less =
        let there : place + 1 + j ≡ place + suc j = omega arith in
        let number : behind.number +ℤ pos j ≡ n +ℤ pos (suc j) = omega (arith, ints, next) in
        let inner : Wants m behind.variable (behind.number +ℤ pos j) (place + 1 + j) = is.wants j (omega arith) in
        subst (λ (w : ℕ). Wants m w (n +ℤ pos (suc j)) (place + suc j)) (sym same) (subst (λ (k : ℤ). Wants m behind.variable k (place + suc j)) number (subst (λ (g : ℕ). Wants m behind.variable (behind.number +ℤ pos j) g) there inner))

-- ---- all rows

pub got_set : (xs : List Row) (i : ℕ) (x : Row) (k : ℕ) (y : Row) → slice_get (set xs i x) k ≡ Some y → ((k ≡ i) × (x ≡ y)) ⊎ (slice_get xs k ≡ Some y)
got_set [] i x k y e = inr e
got_set (z ∷ xs) zero x zero y e = inl (refl, cc)
got_set (z ∷ xs) zero x (suc k) y e = inr e
got_set (z ∷ xs) (suc i) x zero y e = inr e
got_set (z ∷ xs) (suc i) x (suc k) y e = elim (got_set xs i x k y e) [ inl a ↦ inl (ap suc a.0, a.1) | inr b ↦ inr b ]

-- each row that is there is one
abbrev pub Are : Model → List Row → Type 0
Are m rows = (place : ℕ) (row : Row) → slice_get rows place ≡ Some row → IsRow m place row

pub put : (m : Model) (rows : List Row) (place : ℕ) (row : Row) → Are m rows → IsRow m place row → Are m (set rows place row)
put m rows place row are is i y at = elim (got_set rows place row i y at) [
  | inl same ↦ rw same.0 (subst (λ (z : Row). IsRow m place z) same.1 is)
  | inr other ↦ are i y other
]

pub none_yet : (m : Model) (row : Row) (n : ℕ) → row.count ≡ 0 → n ≤ length m.dp_ground → Are m (replicate n row)
none_yet m row n none le place other at = let there = replicated n place at in subst (λ (r : Row). IsRow m place r) there.1 (no_wants m place row none (omega (arith, there.0, le)))
  where
    replicated : (n place : ℕ) → slice_get (replicate n row) place ≡ Some other → (place < n) × (row ≡ other)
    replicated zero place at = let no : None ≡ Some other = at in absurd (cc)
    replicated (suc n) zero at = (omega arith, cc)
    replicated (suc n) (suc place) at = let r = replicated n place at in (omega (arith, r.0), r.1)

-- ---- what one look leaves

some_is : (k i : ℕ) → Some k ≡ Some i → k ≡ i
some_is k i q = ap (λ (o : Option ℕ). elim o [ Some x ↦ x | None ↦ k ]) q

pub plain_leaves : (m : Model) (s : PlainState) (place : ℕ) → place < length m.dp_ground → LeavesOne m s place (record { pick = Some place; next = place + 1 })
plain_leaves m s place less = record {
  later = omega arith;
  within = omega arith;
  picked = λ k e. let same : place ≡ k = some_is place k e in (omega arith, omega arith);
  others = λ k a b other. let same : place ≡ k = omega arith in absurd (other (ap Some same));
}

pub row_leaves : (m : Model) (s : PlainState) (place : ℕ) (row : Row) (held : ℤ) (pick : Option ℕ) → 0 < row.count → IsRow m place row → held ≡ number_in s row.variable → IfSome pick (λ k. (j : ℕ) × (j < row.count) × (k ≡ place + j) × (held ≡ row.number +ℤ pos j)) → (pick ≡ None → (j : ℕ) → j < row.count → held ≡ row.number +ℤ pos j → ⊥) → LeavesOne m s place (record { pick = pick; next = place + row.count })
row_leaves m s place row held pick some is shown found none = record {
  later = omega (arith, some);
  within = is.within;
  picked = λ k e. let f = found_at k e in (omega (arith, f.1, f.2), omega (arith, f.1, f.2));
  others = λ k a b other.
      let j : ℕ = k - place in
      let whole : place + j ≡ k = omega arith in
      let wants : Wants m row.variable (row.number +ℤ pos j) k = subst (λ (g : ℕ). Wants m row.variable (row.number +ℤ pos j) g) whole (is.wants j (omega arith)) in
      wants s (λ same. not_picked k j whole (omega arith) other pick refl (shown ∙ same));
}
  where
    found_at : (k : ℕ) → pick ≡ Some k → (j : ℕ) × (j < row.count) × (k ≡ place + j) × (held ≡ row.number +ℤ pos j)
    found_at k e = subst (λ (o : Option ℕ). IfSome o (λ k. (j : ℕ) × (j < row.count) × (k ≡ place + j) × (held ≡ row.number +ℤ pos j))) e found

    not_picked : (k j : ℕ) → place + j ≡ k → j < row.count → (pick ≡ Some k → ⊥) → (o : Option ℕ) → pick ≡ o → held ≡ row.number +ℤ pos j → ⊥
    not_picked k j whole less other None e same = none e j less same
    not_picked k j whole less other (Some i) e same =
        let f = found_at i e in
        let equal : f.0 ≡ j = omega (arith, ints, f.3, same) in
        let here : i ≡ k = omega (arith, f.2, whole, equal) in
        other (e ∙ ap Some here)
