-- Where the first membership holds and there is no other parameter, all memberships hold.
use Rattle.std.proofs.Common.{◌≡◌, ℕ, ◌≤◌, true, List, [], ◌∷◌, length, refl, arith}
use Rattle.dp_model.specs.declared.parts.PlainState.{PlainState}
use Rattle.dp_model.specs.declared.trees.Over.{Over}
use Rattle.dp_model.specs.declared.trees.Over.TheVariants.{Object, Members}
use Rattle.dp_steps.specs.States.{are_members}
use Rattle.packed_spots.specs.Firsts.{first_holds}

pub few_members : (s : PlainState) (params : List Over) (given : List ℕ) → first_holds s params given ≡ true → length params ≤ 1 → are_members s params given ≡ true
few_members s [] given h few = refl
few_members s (over ∷ []) [] h few = refl
few_members s (Object object ∷ []) (k ∷ given) h few = refl
few_members s (Members v ∷ []) (k ∷ given) h few = rw h refl
few_members s (over ∷ other ∷ overs) given h few = absurd (omega (arith, few))
