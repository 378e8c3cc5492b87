-- The worked model with its first way forced: where it is enabled, no other way is considered.
use Rattle.std.specs.Prelude.{◌≡◌, true, false, IsTrue, List, [], ◌∷◌, None, codes}
use Rattle.std.specs.List.{list_all}
use Rattle.std.proofs.Common.{refl}
use Rattle.std.proofs.Math.Nat.{zero-lt-suc}
use Rattle.std.proofs.lemmas.Bool.{and_from}
use Rattle.dp_model.specs.Typing.{is_transition, are_trees}
use Rattle.dp_model.specs.declared.answers.Keep.TheVariants as keeps
use Rattle.dp_model.specs.declared.parts.JoinOp.TheVariants.{Plus}
use Rattle.dp_model.specs.declared.parts.Transition.{Transition}
use Rattle.dp_model.specs.declared.whole.Model.{Model}
use Rattle.dp_steps.specs.States.{Considered}
use Rattle.pass_ledger.specs.Passes.{Pass}
use Rattle.pass_ledger.specs.Records.{Accounted, visit_of}
use Rattle.pass_ledger.specs.TwoWays.{at, way, variables, ends, without_values, typed_way, typed_ends}
use Rattle.pass_ledger.specs.Worked.{n0, n1, n2}
use Rattle.pass_ledger.specs.declared.mail.Letter.{Letter}
use Rattle.pass_ledger.specs.declared.mail.Letter.TheVariants.{State}

abbrev pub forced_way : Transition
forced_way = record (way (codes "p") 0 1 1) { forced = true }

abbrev pub one_forced : List Transition
one_forced = forced_way ∷ way (codes "q") 0 2 2 ∷ way (codes "e") 1 3 10 ∷ way (codes "d") 2 3 1 ∷ []

typed_ways : list_all (is_transition [] variables []) one_forced ≡ true
typed_ways =
    and_from _ _ (typed_way (codes "p") 0 1 1 refl refl refl) (and_from _ _ (typed_way (codes "q") 0 2 2 refl refl refl)
    (and_from _ _ (typed_way (codes "e") 1 3 10 refl refl refl) (and_from _ _ (typed_way (codes "d") 2 3 1 refl refl refl) refl)))

pub typed : IsTrue (are_trees [] variables [] one_forced [] ends [])
typed = and_from _ _ typed_ways (and_from _ _ refl (and_from _ _ typed_ends refl))

abbrev pub forcing : Model
forcing =
    record {
      domain = codes "one";
      problem = codes "forced";
      minimize = true;
      join = Plus;
      objects = [];
      variables = variables;
      tables = [];
      transitions = one_forced;
      dp_ground = without_values 0 ∷ without_values 1 ∷ without_values 2 ∷ without_values 3 ∷ [];
      constraints = [];
      base_cases = ends;
      bounds = [];
      target = at 0;
      kinds = refl;
      cells = refl;
      typed = typed;
      held = refl;
      grounded = refl;
      few_names = refl;
      few_rules = and_from _ _ refl (and_from _ _ refl (and_from _ _ refl (and_from _ _ refl (and_from _ _ refl (and_from _ _ refl refl)))));
    }

-- a pass of one shard, without pruning
abbrev pub forced_pass : Pass
forced_pass = record { model = forcing; prune = false; keep = keeps.Layer; shards = 1; share = 1; owner = λ s. 0; owned = λ s. zero-lt-suc 0 }

-- a visit of the target that posted these letters
abbrev pub AccountedBy : List Letter → Type 0
AccountedBy letters = Accounted forced_pass 0 None (letters ∷ []) [] [] 0 (visit_of 0 n0)

-- In the target the forced way is considered, and the other one, which is enabled there too, is not. So a visit of the target has to
-- post the successor of the forced way, and not that of the other.
pub record LawWorkedForced : Type 0 where
  pub forced : Considered forcing (at 0) 0
  pub other : Considered forcing (at 0) 1 → ⊥
  pub accounted : AccountedBy (State 0 1 n1 ∷ [])
  pub left_out : AccountedBy [] → ⊥
  pub other_posted : AccountedBy (State 0 1 n2 ∷ []) → ⊥
