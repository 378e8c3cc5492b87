-- A candidate whose first membership fails is not enabled, and the membership is one of a set variable.
use Rattle.std.proofs.Common.{◌≡◌, ℕ, ◌<◌, true, false, List, [], ◌∷◌, length, map, get_or, Option, Some, None, Ok, refl, sym, ap, subst, ◌∙◌, arith}
use Rattle.std.specs.Bool.{IsTrue}
use Rattle.std.specs.List.{list_all}
use Rattle.std.proofs.lemmas.Bool.{and_parts}
use Rattle.std.proofs.lemmas.List.{get_or-map, length-map}
use Rattle.dp_model.specs.Evaluation.{has, set_in}
use Rattle.dp_model.specs.StepTexts.{ground_of}
use Rattle.dp_model.specs.Typing.{is_set_kind, kind_at, over_typed}
use Rattle.dp_model.specs.declared.parts.ObjectType.{ObjectType}
use Rattle.dp_model.specs.declared.parts.PlainState.{PlainState}
use Rattle.dp_model.specs.declared.parts.Transition.{Transition}
use Rattle.dp_model.specs.declared.parts.Variable.{Variable}
use Rattle.dp_model.specs.declared.trees.Over.{Over}
use Rattle.dp_model.specs.declared.trees.Over.TheVariants.{Object, Members}
use Rattle.dp_model.specs.declared.whole.Model.{Model}
use Rattle.dp_steps.specs.States.{are_members}
use Rattle.packed_spots.specs.Firsts.{first_holds}
use Rattle.packed_spots.specs.Values.{in_four}
use Rattle.packed_spots.proofs.Rooms.{params_typed}
use Rattle.spot_eval.specs.Moves.{number_enabled, others_of}
use Rattle.successors.specs.Candidates.{first_membership, first_asked, candidate_of, values_asked}
use Rattle.successors.specs.Searches.{Visit}
use Rattle.successors.specs.Visits.{with_tested}
use Rattle.successors.specs.declared.batch.Batch.{Batch}
use Rattle.successors.specs.declared.candidates.Candidate.{Candidate}
use Rattle.successors.specs.declared.candidates.Membership.{Membership}

-- ---- the membership of a first parameter

asked_of : (t : Option (Transition × List ℕ)) (x : Membership) → first_asked t ≡ Some x → (u : Transition × List ℕ) × (t ≡ Some u) × (first_membership u.0.params u.1 ≡ Some x)
asked_of None x e = absurd (cc)
asked_of (Some u) x e = (u, refl, e)

set_in_first : (objects : List ObjectType) (variables : List Variable) (params : List Over) (given : List ℕ) (x : Membership) → first_membership params given ≡ Some x → list_all (over_typed objects variables) params ≡ true → IsTrue (is_set_kind (kind_at variables x.variable))
set_in_first objects variables [] given x e h = absurd (cc)
set_in_first objects variables (over ∷ overs) [] x e h = absurd (cc)
set_in_first objects variables (Object object ∷ overs) (k ∷ given) x e h = absurd (cc)
set_in_first objects variables (Members v ∷ overs) (k ∷ given) x e h =
    let same : record { variable = v; member = k } ≡ x = cc in
    subst (λ (y : Membership). IsTrue (is_set_kind (kind_at variables y.variable))) same (and_parts (is_set_kind (kind_at variables v)) (list_all (over_typed objects variables) overs) h).0

pub set_in_asked : (m : Model) (g : ℕ) (x : Membership) → first_asked (ground_of m g) ≡ Some x → IsTrue (is_set_kind (kind_at m.variables x.variable))
set_in_asked m g x e =
    let u = asked_of (ground_of m g) x e in
    set_in_first m.objects m.variables u.0.0.params u.0.1 x u.2 (params_typed m g u.0.0 u.0.1 u.1)

no_members : (s : PlainState) (params : List Over) (given : List ℕ) (x : Membership) → first_membership params given ≡ Some x → has (set_in s x.variable) x.member ≡ false → are_members s params given ≡ false
no_members s [] given x e h = absurd (cc)
no_members s (over ∷ overs) [] x e h = absurd (cc)
no_members s (Object object ∷ overs) (k ∷ given) x e h = absurd (cc)
no_members s (Members v ∷ overs) (k ∷ given) x e h =
    let same : record { variable = v; member = k } ≡ x = cc in
    let out : has (set_in s v) k ≡ false = ap (λ (y : Membership). has (set_in s y.variable) y.member) same ∙ h in
    rw out refl

pub not_enabled : (m : Model) (s : PlainState) (g : ℕ) (x : Membership) → first_asked (ground_of m g) ≡ Some x → has (set_in s x.variable) x.member ≡ false → number_enabled m s g ≡ Ok false
not_enabled m s g x e h =
    let u = asked_of (ground_of m g) x e in
    let out = no_members s u.0.0.params u.0.1 x u.2 h in
    rw (u.1, out) refl

-- ---- a first membership that holds

no_first : (s : PlainState) (params : List Over) (given : List ℕ) → first_membership params given ≡ None → first_holds s params given ≡ true
no_first s [] given e = refl
no_first s (over ∷ overs) [] e = refl
no_first s (Object object ∷ overs) (k ∷ given) e = refl
no_first s (Members v ∷ overs) (k ∷ given) e = absurd (cc)

held_first : (s : PlainState) (params : List Over) (given : List ℕ) (x : Membership) → first_membership params given ≡ Some x → has (set_in s x.variable) x.member ≡ true → first_holds s params given ≡ true
held_first s [] given x e h = refl
held_first s (over ∷ overs) [] x e h = refl
held_first s (Object object ∷ overs) (k ∷ given) x e h = refl
held_first s (Members v ∷ overs) (k ∷ given) x e h =
    let same : record { variable = v; member = k } ≡ x = cc in
    ap (λ (y : Membership). has (set_in s y.variable) y.member) same ∙ h

pub first_without : (m : Model) (s : PlainState) (g : ℕ) → first_asked (ground_of m g) ≡ None → (t : Transition × List ℕ) → ground_of m g ≡ Some t → first_holds s t.0.params t.1 ≡ true
first_without m s g e t there = no_first s t.0.params t.1 (ap first_asked (sym there) ∙ e)

pub first_within : (m : Model) (s : PlainState) (g : ℕ) (x : Membership) → first_asked (ground_of m g) ≡ Some x → has (set_in s x.variable) x.member ≡ true → (t : Transition × List ℕ) → ground_of m g ≡ Some t → first_holds s t.0.params t.1 ≡ true
first_within m s g x e h t there = held_first s t.0.params t.1 x (ap first_asked (sym there) ∙ e) h

-- ---- lists of candidates

pub passed_over : (m : Model) (visit : Visit) (batch : Batch) (g : ℕ) → number_enabled m visit.state g ≡ Ok false → with_tested m visit batch g ≡ Ok batch
passed_over m visit batch g h = rw h refl

abbrev pub numbers_of : List Candidate → List ℕ
numbers_of candidates = map (λ (c : Candidate). c.number) candidates

numbers_back : (m : Model) (numbers : List ℕ) → numbers_of (map (candidate_of m) numbers) ≡ numbers
numbers_back m [] = refl
numbers_back m (g ∷ numbers) = ap (λ (gs : List ℕ). g ∷ gs) (numbers_back m numbers)

pub numbers_are : (m : Model) (candidates : List Candidate) → candidates ≡ map (candidate_of m) (others_of m) → numbers_of candidates ≡ others_of m
numbers_are m candidates e = ap numbers_of e ∙ numbers_back m (others_of m)

pub candidate_at : (m : Model) (candidates : List Candidate) (i : ℕ) (d : Candidate) → candidates ≡ map (candidate_of m) (others_of m) → i < length candidates → get_or candidates i d ≡ candidate_of m (get_or candidates i d).number
candidate_at m candidates i d e less = by (get_or candidates i d) (ap (λ (cs : List Candidate). get_or cs i d) e ∙ get_or-map (candidate_of m) (others_of m) i 0 d (omega (arith, ap length e, length-map (others_of m) (candidate_of m))))
  where
    by : (c : Candidate) → c ≡ candidate_of m (get_or (others_of m) i 0) → c ≡ candidate_of m c.number
    by c same = same ∙ ap (λ (x : Candidate). candidate_of m x.number) (sym same)

-- ---- the values of a candidate's parameters

pub values_are : (m : Model) (c : Candidate) (t : Transition) (given : List ℕ) → c ≡ candidate_of m c.number → ground_of m c.number ≡ Some (t, given) → c.values ≡ in_four given
values_are m c t given e there = ap (λ (x : Candidate). x.values) e ∙ ap values_asked there
