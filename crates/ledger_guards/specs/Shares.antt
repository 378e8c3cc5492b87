-- Nodes that are shared out.
use Rattle.std.specs.Prelude.{true, [], ◌∷◌, Some, None, pos}
use Rattle.dom_store.specs.Taking.{AreShared}
use Rattle.dom_store.specs.declared.taking.Taken.{Taken}
use Rattle.dp_model.specs.declared.parts.JoinOp.TheVariants.{Plus}
use Rattle.pass_ledger.specs.WorkedFloors.{f1, f2}
use Rattle.ledger_guards.specs.Floors.{floored}

-- the node with the better floor is kept
abbrev pub better_kept : Taken
better_kept = record { kept = f1 ∷ []; dropped = f2 ∷ []; least_floor = Some (pos 3) }

abbrev pub worse_kept : Taken
worse_kept = record { kept = f2 ∷ []; dropped = f1 ∷ []; least_floor = Some (pos 2) }

abbrev pub none_kept : Taken
none_kept = record { kept = []; dropped = f1 ∷ f2 ∷ []; least_floor = Some (pos 2) }

abbrev pub both_kept : Taken
both_kept = record { kept = f1 ∷ f2 ∷ []; dropped = []; least_floor = None }

abbrev pub one_lost : Taken
one_lost = record { kept = f1 ∷ []; dropped = []; least_floor = None }

pub record LawWorkedShares : Type 0 where
  pub better : AreShared true Plus 1 floored better_kept
  pub not_worse : AreShared true Plus 1 floored worse_kept → ⊥
  pub not_none : AreShared true Plus 1 floored none_kept → ⊥
  pub not_both : AreShared true Plus 1 floored both_kept → ⊥
  pub not_lost : AreShared true Plus 1 floored one_lost → ⊥
  pub both : AreShared true Plus 2 floored both_kept
  pub not_fewer : AreShared true Plus 2 floored better_kept → ⊥
