-- Entries are read back from their lines.
use Rattle.std.proofs.Common.{◌≡◌, ◌≢◌, ℕ, ◌+◌, ◌<◌, ◌==◌, Bool, true, false, List, [], ◌∷◌, ◌++◌, length, map, Option, Some, None, refl, sym, ap, ◌∙◌, arith, append_assoc, length-append}
use Rattle.std.specs.Prelude.{if◌then◌else◌, nat_lt, option_map, option_and_then}
use Rattle.std.specs.List.{AllByRecursion, flat_map, list_all}
use Rattle.std.proofs.lemmas.Bool.{and_from, and_parts}
use Rattle.std.proofs.lemmas.Bool.Decides.{nat_tests}
use Rattle.std.proofs.lemmas.List.{append-nil}
use Rattle.std.proofs.lemmas.List.Folds.{list_all-append}
use Rattle.dp_model.specs.StepTexts.{step_text}
use Rattle.dp_model.specs.declared.whole.Model.{Model}
use Rattle.step_names.specs.StepNames.{step_named}
use Rattle.cert_text.specs.ReadBack.{HasStepTexts, is_line}
use Rattle.cert_text.proofs.ReadBack.{ascii_line, is_print, line_append}
use Rattle.text_laws.specs.Entries.{Entry, Head, HasWords, Reading, entries_in, owned, read, with_entry}
use Rattle.text_laws.proofs.Heads.{SpotPasses, head_back, head_line, head_passes}

-- the lines of an entry, and of several
abbrev pub entry_lines : Model → Entry → List (List ℕ)
entry_lines m e = head_line e.head ∷ map (step_text m) e.steps

abbrev pub all_lines : Model → List Entry → List (List ℕ)
all_lines m es = flat_map (entry_lines m) es

-- all of these are ground transitions of the model
abbrev pub are_steps : Model → List ℕ → Bool
are_steps m steps = list_all (λ g. nat_lt g (length m.dp_ground)) steps

-- an entry owns as many steps as it tells, which are ground transitions, and the text of a fault's spot passes a test
pub record Fits (test : List ℕ → Bool) (m : Model) (e : Entry) : Type 0 where
  pub count : length e.steps ≡ owned e.head
  pub steps : are_steps m e.steps ≡ true
  pub spot : SpotPasses test e.head

less : (a b : ℕ) → nat_lt a b ≡ true → a < b
less a b h = grind (arith, nat_tests)

same : (a b : ℕ) → a ≡ b → (a == b) ≡ true
same a b h = grind (arith, nat_tests)

not_same : (a b : ℕ) → a ≢ b → (a == b) ≡ false
not_same a b h = grind (arith, nat_tests)

-- the steps that an entry misses are read
steps_back : (m : Model) (done : List Entry) (head : Head) (had steps : List ℕ) (ls : List (List ℕ)) → HasStepTexts m → are_steps m steps ≡ true → length had + length steps ≡ owned head
    → read m (with_entry done (record { head = head; steps = had })) (map (step_text m) steps ++ ls) ≡ read m (record { done = done ++ record { head = head; steps = had ++ steps } ∷ []; begun = None }) ls
steps_back m done head had [] ls has are count =
    let is : (length had == owned head) ≡ true = same (length had) (owned head) (omega (arith, count)) in
    ap (λ (test : Bool). read m (if test then record { done = done ++ record { head = head; steps = had } ∷ []; begun = None } else record { done = done; begun = Some (record { head = head; steps = had }) }) ls) is
    ∙ ap (λ (steps : List ℕ). read m (record { done = done ++ record { head = head; steps = steps } ∷ []; begun = None }) ls) (sym (append-nil had))
steps_back m done head had (g ∷ steps) ls has are count =
    let parts = and_parts (nat_lt g (length m.dp_ground)) (are_steps m steps) are in
    let misses : (length had == owned head) ≡ false = not_same (length had) (owned head) (omega (arith, count)) in
    let longer : length (had ++ g ∷ []) ≡ length had + 1 = length-append had (g ∷ []) in
    let rest = map (step_text m) steps ++ ls in
    let named : step_named m (step_text m g) ≡ Some g = (has g (less g (length m.dp_ground) parts.0)).0 in
    ap (λ (test : Bool). read m (if test then record { done = done ++ record { head = head; steps = had } ∷ []; begun = None } else record { done = done; begun = Some (record { head = head; steps = had }) }) (step_text m g ∷ rest)) misses
    ∙ ap (λ (o : Option ℕ). option_and_then (λ (later : Reading). read m later rest) (option_map (λ (g : ℕ). with_entry done (record { head = head; steps = had ++ g ∷ [] })) o)) named
    ∙ steps_back m done head (had ++ g ∷ []) steps ls has parts.1 (omega (arith, count, longer))
    ∙ ap (λ (steps : List ℕ). read m (record { done = done ++ record { head = head; steps = steps } ∷ []; begun = None }) ls) (append_assoc had (g ∷ []) steps)

entry_back : (test : List ℕ → Bool) (m : Model) (done : List Entry) (e : Entry) (ls : List (List ℕ)) → HasStepTexts m → HasWords e.head → Fits test m e
    → read m (record { done = done; begun = None }) (entry_lines m e ++ ls) ≡ read m (record { done = done ++ e ∷ []; begun = None }) ls
entry_back test m done e ls has words fits =
    let rest = map (step_text m) e.steps ++ ls in
    ap (λ (o : Option Head). option_and_then (λ (later : Reading). read m later rest) (option_map (λ (head : Head). with_entry done (record { head = head; steps = [] })) o)) (head_back e.head words)
    ∙ steps_back m done e.head [] e.steps ls has fits.steps (omega (arith, fits.count))

all_back : (test : List ℕ → Bool) (m : Model) (done es : List Entry) → HasStepTexts m → AllByRecursion (λ (e : Entry). HasWords e.head) es → AllByRecursion (Fits test m) es → read m (record { done = done; begun = None }) (all_lines m es) ≡ Some (done ++ es)
all_back test m done [] has words fit = ap Some (sym (append-nil done))
all_back test m done (e ∷ es) has words fit =
    entry_back test m done e (all_lines m es) has words.0 fit.0
    ∙ all_back test m (done ++ e ∷ []) es has words.1 fit.1
    ∙ ap Some (append_assoc done (e ∷ []) es)

pub entries_back : (test : List ℕ → Bool) (m : Model) (es : List Entry) → HasStepTexts m → AllByRecursion (λ (e : Entry). HasWords e.head) es → AllByRecursion (Fits test m) es → entries_in m (all_lines m es) ≡ Some es
entries_back test m es has words fit = all_back test m [] es has words fit

-- ---- their lines pass tests

module _ (test : List ℕ → Bool) (two : (a b : List ℕ) → test a ≡ true → test b ≡ true → test (a ++ b) ≡ true) (ascii : (text : List ℕ) → list_all is_print text ≡ true → test text ≡ true)
    (m : Model) (steps : (g : ℕ) → g < length m.dp_ground → test (step_text m g) ≡ true) where
  steps_pass : (gs : List ℕ) → are_steps m gs ≡ true → list_all test (map (step_text m) gs) ≡ true
  steps_pass [] are = refl
  steps_pass (g ∷ gs) are =
      let parts = and_parts (nat_lt g (length m.dp_ground)) (are_steps m gs) are in
      and_from (test (step_text m g)) (list_all test (map (step_text m) gs)) (steps g (less g (length m.dp_ground) parts.0)) (steps_pass gs parts.1)

  pub all_pass : (es : List Entry) → AllByRecursion (Fits test m) es → list_all test (all_lines m es) ≡ true
  all_pass [] fit = refl
  all_pass (e ∷ es) fit =
      list_all-append test (entry_lines m e) (all_lines m es)
      ∙ and_from (list_all test (entry_lines m e)) (list_all test (all_lines m es))
      (and_from (test (head_line e.head)) (list_all test (map (step_text m) e.steps)) (head_passes test two ascii e.head fit.0.spot) (steps_pass e.steps fit.0.steps))
      (all_pass es fit.1)

pub all_are_lines : (m : Model) (es : List Entry) → HasStepTexts m → AllByRecursion (Fits is_line m) es → list_all is_line (all_lines m es) ≡ true
all_are_lines m es has fit = all_pass is_line line_append ascii_line m (λ g within. (has g within).1) es fit
