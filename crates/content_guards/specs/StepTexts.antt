-- The step texts of a model that was loaded are lines, and name their ground transitions.
use Rattle.std.specs.Prelude.{◌≡◌, ℕ, ◌+◌, List, ◌++◌, length, slice_get, None, Some, Ok}
use Rattle.std.specs.Str.{IsUtf8}
use Rattle.dp_model.specs.declared.parts.Transition.{Transition}
use Rattle.dp_model.specs.declared.whole.Model.{Model}
use Rattle.yaml_tree.specs.Texts.{Spells}
use Rattle.yaml_tree.specs.declared.tree.Tree.{Tree}
use Rattle.dypdl_rules.specs.Expressions.{Reading}
use Rattle.dypdl_load.specs.Meaning.{meaning, parts_of}
use Rattle.step_names.specs.Lines.{bad_byte}
use Rattle.cert_types.specs.Parts.{Parts}
use Rattle.cert_text.specs.ReadBack.{AreBehind, AreInFront, HasStepTexts, IsCertificate}
use Rattle.cert_text.specs.Said.{certificate_in}
use Rattle.cert_text.specs.Texts.{cert_lines, text_of_lines}

-- The names of the transitions are UTF-8, as all texts of files are.
abbrev pub AreNamedInUtf8 : Model → Type 0
AreNamedInUtf8 m = (i : ℕ) (t : Transition) → slice_get m.transitions i ≡ Some t → IsUtf8 t.name

abbrev pub LawStepTexts : Type 0
LawStepTexts =
    (read : Reading) (domain problem : Tree) (m : Model) → meaning read domain problem ≡ Ok (parts_of m)
    → AreNamedInUtf8 m → HasStepTexts m

-- The same of two files. All that is read there is UTF-8.
abbrev pub LawFileSteps : Type 0
LawFileSteps =
    (read : Reading) (domain_text problem_text : List ℕ) (domain problem : Tree) (m : Model) → Spells 1 domain_text domain → Spells 2 problem_text problem
    → meaning read domain problem ≡ Ok (parts_of m) → HasStepTexts m

-- So what is written of a certificate for such a model is read back as that certificate, wherever its lines stand in a file. It is UTF-8, as
-- are the names, and so the lines in front of it are all that has to be UTF-8 beside it.
abbrev pub LawReadOfFiles : Type 0
LawReadOfFiles =
    (read : Reading) (domain_text problem_text : List ℕ) (domain problem : Tree) (m : Model) → Spells 1 domain_text domain → Spells 2 problem_text problem
    → meaning read domain problem ≡ Ok (parts_of m)
    → (p : Parts) (front back : List (List ℕ)) → IsCertificate m p → AreInFront front → AreBehind back → p.first ≡ length front + 1
    → bad_byte (text_of_lines front) ≡ None
    → certificate_in m (text_of_lines (front ++ (cert_lines m p ++ back))) ≡ Ok p
