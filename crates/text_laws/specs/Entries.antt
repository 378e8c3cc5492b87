-- The entries of what a search prints: each is a line that begins with words of its own, and the lines of steps that it owns, whatever
-- they look like. How they are read back, line by line, by the counts that their first lines tell.
use Rattle.std.specs.Prelude.{ℕ, ◌-◌, ◌^◌, ◌<◌, ◌==◌, if◌then◌else◌, List, [], ◌∷◌, ◌++◌, length, reverse, Option, Some, None, option_map, option_and_then, ℤ, pos, negsuc, codes}
use Rattle.std.specs.Option.{option_or}
use Rattle.std.specs.Str.{bytes_eq}
use Rattle.dp_model.specs.declared.answers.FaultKind.{FaultKind}
use Rattle.dp_model.specs.declared.answers.FaultKind.TheVariants as kinds
use Rattle.dp_model.specs.declared.whole.Model.{Model}
use Rattle.solve_report.specs.Lines.{kind_text}
use Rattle.step_names.specs.StepNames.{step_named}
use Rattle.cert_text.specs.Said.{unless_none}
use Rattle.cert_text.specs.Words.{behind, number_behind, number_said, word}

-- ---- entries

-- what a line says that is no step; of a fault's spot its text is told
pub data Head : Type 0 where
  AnnounceLine : (cost : ℤ) → Head
  SolutionLine : (cost : ℤ) (steps : ℕ) → Head
  AnnouncedLine : (announced refused : ℕ) → Head
  PassLine : (number share visited dropped : ℕ) → Head
  SearchLine : (visited : ℕ) → Head
  BoundLine : (cost : ℤ) → Head
  OptimalLine : (cost : ℤ) → Head
  InfeasibleLine : Head
  StoppedLine : (visits : ℕ) → Head
  FaultLine : (kind : FaultKind) (spot : List ℕ) (steps : ℕ) → Head
  MemoryLine : Head

pub record Entry : Type 0 where
  pub head : Head
  pub steps : List ℕ

-- how many lines of steps a line owns
abbrev pub owned : Head → ℕ
owned (SolutionLine cost steps) = steps
owned (FaultLine kind spot steps) = steps
owned head = 0

-- numbers of 64 bits, without a sign and with one
abbrev pub IsWord : ℕ → Type 0
IsWord n = n < 2 ^ 64

abbrev pub IsSignedWord : ℤ → Type 0
IsSignedWord (pos n) = n < 2 ^ 63
IsSignedWord (negsuc n) = n < 2 ^ 63

-- the numbers of a line have 64 bits
abbrev pub HasWords : Head → Type 0
HasWords (AnnounceLine cost) = IsSignedWord cost
HasWords (SolutionLine cost steps) = IsSignedWord cost × IsWord steps
HasWords (AnnouncedLine announced refused) = IsWord announced × IsWord refused
HasWords (PassLine number share visited dropped) = IsWord number × IsWord share × IsWord visited × IsWord dropped
HasWords (SearchLine visited) = IsWord visited
HasWords (BoundLine cost) = IsSignedWord cost
HasWords (OptimalLine cost) = IsSignedWord cost
HasWords InfeasibleLine = Unit {0}
HasWords (StoppedLine visits) = IsWord visits
HasWords (FaultLine kind spot steps) = IsWord steps
HasWords MemoryLine = Unit {0}

-- ---- words of a line

-- a whole number, with a `-` in front where it is less than 0
abbrev pub signed_of : (negative : Option (List ℕ)) → (text : List ℕ) → Option ℤ
signed_of (Some digits) text = option_map (λ (n : ℕ). negsuc (n - 1)) (option_and_then unless_none (number_said digits))
signed_of None text = option_map (λ (n : ℕ). pos n) (number_said text)

abbrev pub signed_said : List ℕ → Option ℤ
signed_said text = signed_of (behind (codes "-") text) text

abbrev pub signed_behind : (front line : List ℕ) → Option ℤ
signed_behind front line = option_and_then signed_said (behind front line)

-- the number behind this front, which a space ends, and what stands behind that space
abbrev pub with_rest : {A : Type 0} → (List ℕ → Option A) → List ℕ × List ℕ → Option (A × List ℕ)
with_rest {A} said words = option_map (λ (a : A). (a, words.1)) (said words.0)

abbrev pub first_said : {A : Type 0} → (List ℕ → Option A) → (front line : List ℕ) → Option (A × List ℕ)
first_said {A} said front line = option_and_then (with_rest said) (option_and_then word (behind front line))

-- the word that the last space begins, behind what stands in front of that space
abbrev pub last_word : List ℕ → Option (List ℕ × List ℕ)
last_word text = option_map (λ (words : List ℕ × List ℕ). (reverse words.1, reverse words.0)) (word (reverse text))

-- what stands in front of this end of a text
abbrev pub before : (end text : List ℕ) → Option (List ℕ)
before end text = option_map (λ (front : List ℕ). reverse front) (behind (reverse end) (reverse text))

-- ---- one line

abbrev pub announce_said : List ℕ → Option Head
announce_said line = option_map (λ (cost : ℤ). AnnounceLine cost) (signed_behind (codes "announce ") line)

abbrev pub solution_counted : ℤ × List ℕ → Option Head
solution_counted cost = option_map (λ (steps : ℕ). SolutionLine cost.0 steps) (number_said cost.1)

abbrev pub solution_said : List ℕ → Option Head
solution_said line = option_and_then solution_counted (first_said signed_said (codes "solution ") line)

abbrev pub announced_counted : ℕ × List ℕ → Option Head
announced_counted announced = option_map (λ (refused : ℕ). AnnouncedLine announced.0 refused) (number_behind (codes "refused ") announced.1)

abbrev pub announced_said : List ℕ → Option Head
announced_said line = option_and_then announced_counted (first_said number_said (codes "announced ") line)

abbrev pub pass_visited : (number share : ℕ) → ℕ × List ℕ → Option Head
pass_visited number share visited = option_map (λ (dropped : ℕ). PassLine number share visited.0 dropped) (number_behind (codes "dropped ") visited.1)

abbrev pub pass_shared : (number : ℕ) → ℕ × List ℕ → Option Head
pass_shared number share = option_and_then (pass_visited number share.0) (first_said number_said (codes "visited ") share.1)

abbrev pub pass_numbered : ℕ × List ℕ → Option Head
pass_numbered number = option_and_then (pass_shared number.0) (first_said number_said (codes "share ") number.1)

abbrev pub pass_said : List ℕ → Option Head
pass_said line = option_and_then pass_numbered (first_said number_said (codes "pass ") line)

abbrev pub search_said : List ℕ → Option Head
search_said line = option_map (λ (visited : ℕ). SearchLine visited) (number_behind (codes "search visited ") line)

abbrev pub bound_said : List ℕ → Option Head
bound_said line = option_map (λ (cost : ℤ). BoundLine cost) (signed_behind (codes "bound ") line)

abbrev pub optimal_said : List ℕ → Option Head
optimal_said line = option_map (λ (cost : ℤ). OptimalLine cost) (signed_behind (codes "verdict optimal ") line)

abbrev pub stopped_said : List ℕ → Option Head
stopped_said line = option_map (λ (visits : ℕ). StoppedLine visits) (number_behind (codes "verdict stopped ") line)

-- a line without numbers
abbrev pub plain_said : (text : List ℕ) → Head → List ℕ → Option Head
plain_said text head line = if bytes_eq line text then Some head else None

-- the spot's text, and how many steps lead to it
abbrev pub fault_counted : FaultKind → List ℕ × List ℕ → Option Head
fault_counted kind words = option_and_then (λ (spot : List ℕ). option_map (λ (steps : ℕ). FaultLine kind spot steps) (number_said words.1)) (before (codes " after") words.0)

abbrev pub fault_of : FaultKind → List ℕ → Option Head
fault_of kind text = option_and_then (fault_counted kind) (last_word text)

abbrev pub fault_said : FaultKind → List ℕ → Option Head
fault_said kind line = option_and_then (fault_of kind) (behind (codes "verdict fault " ++ (kind_text kind ++ codes " at ")) line)

-- the first of these that is there
abbrev pub first_of : List (Option Head) → Option Head
first_of [] = None
first_of (told ∷ others) = option_or told (first_of others)

abbrev pub head_said : List ℕ → Option Head
head_said line =
    first_of
    (announce_said line
    ∷ solution_said line
    ∷ announced_said line
    ∷ pass_said line
    ∷ search_said line
    ∷ bound_said line
    ∷ optimal_said line
    ∷ plain_said (codes "verdict infeasible") InfeasibleLine line
    ∷ stopped_said line
    ∷ fault_said kinds.Range line
    ∷ fault_said kinds.ZeroDivisor line
    ∷ fault_said kinds.Negative line
    ∷ fault_said kinds.Index line
    ∷ plain_said (codes "memory") MemoryLine line
    ∷ [])

-- ---- all lines

-- the entries that are whole, and the one whose lines are read
pub record Reading : Type 0 where
  pub done : List Entry
  pub begun : Option Entry

-- an entry is whole with all the steps that it owns
abbrev pub with_entry : List Entry → Entry → Reading
with_entry done entry = if length entry.steps == owned entry.head then record { done = done ++ entry ∷ []; begun = None } else record { done = done; begun = Some entry }

-- what is read with one more line: a step of the entry that is begun, or the first line of another one
abbrev pub next : Model → (done : List Entry) → (begun : Option Entry) → List ℕ → Option Reading
next m done None line = option_map (λ (head : Head). with_entry done (record { head = head; steps = [] })) (head_said line)
next m done (Some entry) line = option_map (λ (g : ℕ). with_entry done (record { head = entry.head; steps = entry.steps ++ g ∷ [] })) (step_named m line)

-- no entry misses a step
abbrev pub finished : (done : List Entry) → (begun : Option Entry) → Option (List Entry)
finished done None = Some done
finished done (Some entry) = None

abbrev pub read : Model → Reading → List (List ℕ) → Option (List Entry)
read m r [] = finished r.done r.begun
read m r (line ∷ more) = option_and_then (λ (later : Reading). read m later more) (next m r.done r.begun line)

-- the entries of these lines
abbrev pub entries_in : Model → List (List ℕ) → Option (List Entry)
entries_in m lines = read m (record { done = []; begun = None }) lines
