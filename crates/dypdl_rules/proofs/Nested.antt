-- What a condition in a map is refused for, the map is refused for.
use Rattle.std.proofs.Common.{◌≡◌, ℕ, suc, List, ◌++◌, Option, Some, None, Result, Ok, refl}
use Rattle.dp_base.specs.Results.{◌>>=◌, Refuses}
use Rattle.dp_base.specs.declared.place.Place.{Place}
use Rattle.dp_model.specs.declared.trees.Cond.{Cond}
use Rattle.yaml_tree.specs.declared.tree.Tree.{Tree}
use Rattle.yaml_tree.specs.declared.tree.Tree as trees
use Rattle.yaml_tree.specs.declared.tree.Pair.{Pair}
use Rattle.dypdl_words.specs.declared.scope.Param.{Param}
use Rattle.dypdl_nodes.specs.Reads.{Refusal}
use Rattle.dypdl_rules.specs.Declarations.{Declared, InForce}
use Rattle.dypdl_rules.specs.Expressions.{Reading}
use Rattle.dypdl_rules.specs.Conditions.{for_all, Quantifier, quantifier_of, condition_within}

pub passed_on : {A B R : Type 0} (o : Option R) (value : Result A R) (f : A → Result B R) → Refuses o value → Refuses o (value >>= f)
passed_on None value f h = tt
passed_on (Some r) value f h = rw h refl

pub inner_refused : (read : Reading) (d : Declared) (inner levels : ℕ) (params : List Param) (tree : Tree) (place : Place) (entries : List Pair) (q : Quantifier) (now : InForce) (o : Option Refusal)
    → levels ≡ suc inner → trees.out-Tree tree ≡ trees.Tree-F.Map place entries → quantifier_of d place entries ≡ Ok q → now ≡ record { lists = d; params = params ++ q.params }
    → Refuses o (condition_within read now.lists inner now.params q.condition) → Refuses o (condition_within read d levels params tree)
unfolding condition_within
inner_refused read d inner levels params tree place entries q now o l t e n h =
    rw (l, t, e) (passed_on o (condition_within read d inner (params ++ q.params) q.condition) (λ (c : Cond). Ok (for_all q.params c)) (rw n at h))
