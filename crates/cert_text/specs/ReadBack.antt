-- What is written of a certificate is read back as that certificate, wherever its text stands in a file.
use Rattle.std.specs.Prelude.{◌≡◌, ℕ, ◌+◌, ◌<◌, ◌&&◌, ◌||◌, ◌==◌, not, Bool, true, false, nat_lt, nat_le, IsTrue, List, [], ◌∷◌, ◌++◌, length, Option, Some, None, Ok, Err, ℤ, pos, negsuc}
use Rattle.std.specs.List.{list_all}
use Rattle.std.specs.Str.Lines.{lines}
use Rattle.dp_model.specs.StepTexts.{step_text}
use Rattle.dp_model.specs.declared.answers.Claim.{Claim}
use Rattle.dp_model.specs.declared.answers.Claim.TheVariants as claims
use Rattle.dp_model.specs.declared.answers.Keep.{Keep}
use Rattle.dp_model.specs.declared.whole.Model.{Model}
use Rattle.step_names.specs.Lines.{bad_byte, is_blank_line, line_place}
use Rattle.step_names.specs.StepNames.{step_named}
use Rattle.cert_types.specs.Lines.{line_of_end}
use Rattle.cert_types.specs.Parents.{are_made, have_parents}
use Rattle.cert_types.specs.Parts.{Parts}
use Rattle.cert_text.specs.Named.{are_named}
use Rattle.cert_text.specs.Said.{certificate_in, is_mark, keep_said}
use Rattle.cert_text.specs.Texts.{cert_lines, text_of_lines}
use Rattle.cert_text.specs.declared.ends.CertTextEnd.TheVariants.{Bad}
use Rattle.cert_types.specs.declared.nodes.CertNode.{CertNode}

-- no line feed and no carriage return
abbrev pub is_line : List ℕ → Bool
is_line text = list_all (λ byte. not (byte == 10 || byte == 13)) text

-- Step texts are lines, and no two ground transitions have the same one. A model that was loaded has such step texts.
abbrev pub HasStepTexts : Model → Type 0
HasStepTexts m = (g : ℕ) → g < length m.dp_ground → (step_named m (step_text m g) ≡ Some g) × IsTrue (is_line (step_text m g))

abbrev pub is_keep : Option Keep → Bool
is_keep None = false
is_keep (Some keep) = true

-- no line `keep ..` follows a line `certificate 1`. The line before these was `certificate 1` or was not.
abbrev pub hides_none : (marked : Bool) → List (List ℕ) → Bool
hides_none marked [] = true
hides_none marked (line ∷ more) = not (marked && is_keep (keep_said line)) && hides_none (is_mark line) more

-- lines that may stand in front of a certificate
abbrev pub AreInFront : List (List ℕ) → Type 0
AreInFront front = IsTrue (list_all is_line front) × IsTrue (hides_none false front)

-- lines that may stand behind it
abbrev pub AreBehind : List (List ℕ) → Type 0
AreBehind back = IsTrue (list_all is_line back) × IsTrue (list_all is_blank_line back)

-- a cost in the range of a model
abbrev pub is_cost : ℤ → Bool
is_cost (pos n) = nat_le n 4611686018427387903
is_cost (negsuc n) = nat_lt n 4611686018427387903

abbrev pub has_cost : Claim → Bool
has_cost (claims.Optimal found) = is_cost found.cost
has_cost claims.Infeasible = true

-- What a certificate keeps, with costs in range, ground transitions of the model, and nodes in each layer.
pub record IsCertificate (m : Model) (p : Parts) : Type 0 where
  pub made : IsTrue (are_made p.layers)
  pub parents : IsTrue (have_parents p.layers)
  pub few_lines : line_of_end p.first p.claim p.layers < 4294967296
  pub named : IsTrue (are_named (length m.dp_ground) p.claim p.layers)
  pub cost : IsTrue (has_cost p.claim)
  pub nodes : IsTrue (list_all (λ (nodes : List CertNode). nat_lt 0 (length nodes)) p.layers)

abbrev pub LawReadBack : Type 0
LawReadBack =
    (m : Model) (p : Parts) (front back : List (List ℕ)) → HasStepTexts m → IsCertificate m p → AreInFront front → AreBehind back → p.first ≡ length front + 1
    → bad_byte (text_of_lines (front ++ (cert_lines m p ++ back))) ≡ None
    → certificate_in m (text_of_lines (front ++ (cert_lines m p ++ back))) ≡ Ok p

-- A text that is read as a certificate has the lines of that certificate. Those in front hide none, and those behind are blank.
-- No text has so many lines as 32 bits can count.
abbrev pub LawNothingElse : Type 0
LawNothingElse =
    (m : Model) (p : Parts) (bytes : List ℕ) → length (lines bytes) < 4294967295 → certificate_in m bytes ≡ Ok p
    → (front : List (List ℕ)) × (back : List (List ℕ)) × (lines bytes ≡ front ++ (cert_lines m p ++ back)) × IsTrue (hides_none false front) × IsTrue (list_all is_blank_line back) × (p.first ≡ length front + 1)

-- A line behind the first one that a text is refused for is the first bad line of each text that begins with the same lines up
-- to it: what stands behind it does not matter.
abbrev pub LawFirstBad : Type 0
LawFirstBad =
    (m : Model) (text other : List ℕ) (shared rest more : List (List ℕ)) → lines text ≡ shared ++ rest → lines other ≡ shared ++ more → bad_byte text ≡ None → bad_byte other ≡ None → 1 < length shared
    → certificate_in m text ≡ Err (Bad (line_place (length shared))) → certificate_in m other ≡ Err (Bad (line_place (length shared)))

-- A text that breaks off within a certificate is refused in the line behind its last one. It has the first two lines of the
-- certificate, without which none begins, and not the last one.
abbrev pub LawMissingLines : Type 0
LawMissingLines =
    (m : Model) (p : Parts) (front shown rest : List (List ℕ)) → HasStepTexts m → IsCertificate m p → AreInFront front → p.first ≡ length front + 1
    → cert_lines m p ≡ shown ++ rest → 1 < length shown → 0 < length rest
    → bad_byte (text_of_lines (front ++ shown)) ≡ None
    → certificate_in m (text_of_lines (front ++ shown)) ≡ Err (Bad (line_place (length front + length shown + 1)))
