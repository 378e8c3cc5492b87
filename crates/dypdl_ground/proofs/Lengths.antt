-- How many ground transitions there are.
use Rattle.std.proofs.Common.{◌≡◌, ℕ, ◌+◌, ◌*◌, ◌<◌, ◌≤◌, suc, zero, List, [], ◌∷◌, ◌++◌, length, map, take, get_or, refl, sym, subst, arith}
use Rattle.std.specs.List.{flat_map}
use Rattle.std.proofs.lemmas.List.{length-append, length-map, append-nil, append_assoc}
use Rattle.std.proofs.lemmas.List.FromFn.{length-range_with_len}
use Rattle.dp_model.specs.Evaluation.{ways}
use Rattle.dp_model.specs.declared.parts.ObjectType.{ObjectType}
use Rattle.dp_model.specs.declared.parts.Variable.{Variable}
use Rattle.dp_model.specs.declared.parts.Transition.{Transition}
use Rattle.dp_model.specs.declared.parts.Ground.{Ground}
use Rattle.dypdl_ground.specs.Grounds.{IsFirstPast, most_ground, members_below, choice_count, argument_lists, ground_with, grounded, grounded_from, all_grounded}
use Rattle.dypdl_ground.specs.Counts.{product}

prefixed-length : (rest : List (List ℕ)) (set : List ℕ) → length (flat_map (λ k. map (λ members. k ∷ members) rest) set) ≡ length set * length rest
prefixed-length rest [] = omega arith
prefixed-length rest (k ∷ ks) =
    let a = length-append (map (λ members. k ∷ members) rest) (flat_map (λ k. map (λ members. k ∷ members) rest) ks) in
    let b = length-map rest (λ (members : List ℕ). k ∷ members) in
    let c = prefixed-length rest ks in
    let d : suc (length ks) * length rest ≡ length rest + length ks * length rest = omega arith in
    rw (a, b, c, d) refl

ways-length : (counts : List ℕ) → length (ways (map members_below counts)) ≡ product counts
ways-length [] = refl
ways-length (count ∷ counts) =
    rw (prefixed-length (ways (map members_below counts)) (members_below count), length-range_with_len 0 count, ways-length counts) refl

-- how many there are of one transition
pub grounded_length : (objects : List ObjectType) (variables : List Variable) (i : ℕ) (t : Transition) → length (grounded objects variables i t) ≡ product (map (choice_count objects variables) t.params)
grounded_length objects variables i t =
    rw (length-map (argument_lists objects variables t.params) (ground_with i), ways-length (map (choice_count objects variables) t.params)) refl

-- ground transitions of transitions, and then of one more
grounded_from-more : (objects : List ObjectType) (variables : List Variable) (at n : ℕ) (ts : List Transition) (d : Transition) → n < length ts
    → grounded_from objects variables at (take (n + 1) ts) ≡ grounded_from objects variables at (take n ts) ++ grounded objects variables (at + n) (get_or ts n d)
grounded_from-more objects variables at n [] d h = absurd (omega arith)
grounded_from-more objects variables at zero (t ∷ ts) d h =
    let e : at + 0 ≡ at = omega arith in
    rw (append-nil (grounded objects variables at t), e) refl
grounded_from-more objects variables at (suc n) (t ∷ ts) d h =
    let e : suc at + n ≡ at + suc n = omega arith in
    let f : suc n + 1 ≡ suc (n + 1) = omega arith in
    let step = grounded_from-more objects variables (suc at) n ts d (omega arith) in
    rw (f, step, e) (sym (append_assoc (grounded objects variables at t) (grounded_from objects variables (suc at) (take n ts)) (grounded objects variables (at + suc n) (get_or ts n d))))

pub grounded_more : (objects : List ObjectType) (variables : List Variable) (n : ℕ) (ts : List Transition) (d : Transition) → n < length ts
    → all_grounded objects variables (take (n + 1) ts) ≡ all_grounded objects variables (take n ts) ++ grounded objects variables n (get_or ts n d)
grounded_more objects variables n ts d h = let e : 0 + n ≡ n = omega arith in subst (λ i. grounded_from objects variables 0 (take (n + 1) ts) ≡ grounded_from objects variables 0 (take n ts) ++ grounded objects variables i (get_or ts n d)) e (grounded_from-more objects variables 0 n ts d h)

module _ (objects : List ObjectType) (variables : List Variable) (i : ℕ) (t : Transition) (old : List Ground) (counts : List ℕ) where
  pub many_with : counts ≡ map (choice_count objects variables) t.params → most_ground < length old + product counts → most_ground < length (old ++ grounded objects variables i t)
  many_with e h = rw (length-append old (grounded objects variables i t), grounded_length objects variables i t, ← e) h

  pub few_with : counts ≡ map (choice_count objects variables) t.params → length old + product counts ≤ most_ground → length (old ++ grounded objects variables i t) ≤ most_ground
  few_with e h = rw (length-append old (grounded objects variables i t), grounded_length objects variables i t, ← e) h

-- one more transition of a list, to whose ground transitions so far others were pushed
module _ (objects : List ObjectType) (variables : List Variable) (ts : List Transition) (i : ℕ) (t : Transition) (old : List Ground) (there : i < length ts) (is : t ≡ get_or ts i t) (before : old ≡ all_grounded objects variables (take i ts)) where
  with_more : all_grounded objects variables (take (i + 1) ts) ≡ old ++ grounded objects variables i t
  with_more =
      let more : all_grounded objects variables (take (i + 1) ts) ≡ all_grounded objects variables (take i ts) ++ grounded objects variables i t =
      subst (λ x. all_grounded objects variables (take (i + 1) ts) ≡ all_grounded objects variables (take i ts) ++ grounded objects variables i x) (sym is) (grounded_more objects variables i ts t there) in
      rw before more

  pub pushed_more : (new : List Ground) → new ≡ old ++ grounded objects variables i t → new ≡ all_grounded objects variables (take (i + 1) ts)
  pushed_more new e = rw with_more e

  pub first_past : length old ≤ most_ground → most_ground < length (old ++ grounded objects variables i t) → IsFirstPast objects variables ts i
  first_past few many = record { there = there; few_before = rw (← before) few; many_with = rw with_more many }
