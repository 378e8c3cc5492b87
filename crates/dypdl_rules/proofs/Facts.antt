-- What is read is well typed, list by list.
use Rattle.std.proofs.Common.{◌≡◌, List, [], map, Option, Ok, IsTrue, refl}
use Rattle.std.proofs.lemmas.Result.{IfOk-at_ok}
use Rattle.std.specs.List.{list_all}
use Rattle.dp_model.specs.Typing.{is_transition, is_cond, is_base_case, is_num}
use Rattle.dp_model.specs.declared.parts.BaseCase.{BaseCase}
use Rattle.dp_model.specs.declared.trees.Cond.{Cond}
use Rattle.dp_model.specs.declared.trees.Num.{Num}
use Rattle.yaml_tree.specs.declared.tree.Tree.{Tree}
use Rattle.dypdl_rules.specs.Declarations.{Declared}
use Rattle.dypdl_rules.specs.Expressions.{Reading}
use Rattle.dypdl_rules.specs.Conditions.{condition_step}
use Rattle.dypdl_rules.specs.Moves.{move_step, moves_of}
use Rattle.dypdl_rules.specs.BaseCases.{base_case_step, bound_step, constraints_of, base_cases_of, bounds_of}
use Rattle.dypdl_rules.specs.declared.transitions.Move.{Move}
use Rattle.dypdl_rules.proofs.Given.{both_keep}
use Rattle.dypdl_rules.proofs.Typed.{MovesTyped, move_kept, CondsTyped, condition_kept, CasesTyped, case_kept, BoundsTyped, bound_kept}

pub moves_typed : (read : Reading) (d : Declared) (domain problem : Option Tree) (ms : List Move) → moves_of read d domain problem ≡ Ok ms
    → IsTrue (list_all (is_transition d.objects d.variables d.tables) (map (λ (m : Move). m.transition) ms))
moves_typed read d domain problem ms e = IfOk-at_ok (MovesTyped read d) e (both_keep (MovesTyped read d) 65536 (move_step read d) domain problem (move_kept read d) refl)

pub constraints_typed : (read : Reading) (d : Declared) (domain problem : Option Tree) (cs : List Cond) → constraints_of read d domain problem ≡ Ok cs
    → IsTrue (list_all (λ c. is_cond d.objects d.variables d.tables c 0) cs)
constraints_typed read d domain problem cs e = IfOk-at_ok (CondsTyped read d 0) e (both_keep (CondsTyped read d 0) 65536 (condition_step read d []) domain problem (condition_kept read d []) refl)

pub base_cases_typed : (read : Reading) (d : Declared) (domain problem : Option Tree) (bs : List BaseCase) → base_cases_of read d domain problem ≡ Ok bs
    → IsTrue (list_all (is_base_case d.objects d.variables d.tables) bs)
base_cases_typed read d domain problem bs e = IfOk-at_ok (CasesTyped read d) e (both_keep (CasesTyped read d) 65536 (base_case_step read d) domain problem (case_kept read d) refl)

pub bounds_typed : (read : Reading) (d : Declared) (domain problem : Option Tree) (ns : List Num) → bounds_of read d domain problem ≡ Ok ns
    → IsTrue (list_all (λ n. is_num d.objects d.variables d.tables n 0) ns)
bounds_typed read d domain problem ns e = IfOk-at_ok (BoundsTyped read d) e (both_keep (BoundsTyped read d) 1024 (bound_step read d) domain problem (bound_kept read d) refl)
