-- Memberships of parameters, one after another.
use Rattle.std.proofs.Common.{◌≡◌, ℕ, zero, suc, ◌+◌, ◌<◌, ◌≤◌, true, ◌&&◌, List, [], ◌∷◌, length, get_or, drop, refl, arith}
use Rattle.dp_model.specs.declared.trees.Over.{Over}
use Rattle.dp_model.specs.declared.trees.Over.TheVariants.{Object, Members}
use Rattle.dp_model.specs.declared.parts.PlainState.{PlainState}
use Rattle.dp_steps.specs.States.{are_members}
use Rattle.spot_eval.specs.Moves.{is_member}

first_member : (s : PlainState) (over : Over) (overs : List Over) (k : ℕ) (given : List ℕ) → are_members s (over ∷ overs) (k ∷ given) ≡ (is_member s over k && are_members s overs given)
first_member s (Object object) overs k given = refl
first_member s (Members v) overs k given = refl

pub members_step : (s : PlainState) (params : List Over) (given : List ℕ) (i : ℕ) (d : Over) → i < length params → i < length given → are_members s (drop i params) (drop i given) ≡ (is_member s (get_or params i d) (get_or given i 0) && are_members s (drop (i + 1) params) (drop (i + 1) given))
members_step s [] given i d p q = absurd (omega arith)
members_step s (over ∷ overs) [] i d p q = absurd (omega arith)
members_step s (over ∷ overs) (k ∷ given) zero d p q = first_member s over overs k given
members_step s (over ∷ overs) (k ∷ given) (suc i) d p q =
    let e : suc i + 1 ≡ suc (i + 1) = omega arith in
    rw e (members_step s overs given i d (omega arith) (omega arith))

-- no values are left
no_values : (s : PlainState) (params : List Over) → are_members s params [] ≡ true
no_values s [] = refl
no_values s (over ∷ overs) = refl

pub members_past : (s : PlainState) (params : List Over) (given : List ℕ) (i : ℕ) → length given ≤ i → are_members s (drop i params) (drop i given) ≡ true
members_past s params [] zero p = no_values s params
members_past s params (k ∷ given) zero p = absurd (omega arith)
members_past s params [] (suc i) p = no_values s (drop (suc i) params)
members_past s [] (k ∷ given) (suc i) p = refl
members_past s (over ∷ overs) (k ∷ given) (suc i) p = members_past s overs given i (omega arith)
