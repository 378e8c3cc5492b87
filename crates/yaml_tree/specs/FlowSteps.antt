-- The steps in which the turns of flow forms are read.
use Rattle.std.specs.Prelude.{◌≡◌, ◌<◌, ℕ, ◌&&◌, ◌==◌, if◌then◌else◌, MatchBool, List, [], ◌∷◌, ◌++◌, Result, Ok, Err}
use Rattle.yaml_tree.specs.Rest.{Rest, on}
use Rattle.yaml_tree.specs.Characters.{begins}
use Rattle.yaml_tree.specs.Lines.{flow_point}
use Rattle.yaml_tree.specs.declared.opening.Opening.{Opening}
use Rattle.yaml_tree.specs.Repeats.{Turn, Last, Refused}
use Rattle.yaml_tree.specs.Flow.{Outcome, Reading, may_be_key, is_key_colon, next_turn, empty_at, ends_entry}
use Rattle.yaml_tree.specs.Known.{Knows}
use Rattle.yaml_tree.specs.declared.keys.Keys.{Keys}
use Rattle.yaml_tree.specs.declared.tree.Tree.{Tree}
use Rattle.yaml_tree.specs.declared.tree.Pair.{Pair}
use Rattle.yaml_tree.specs.declared.tree.YamlEnd.{YamlEnd}
use Rattle.yaml_tree.specs.declared.turns.Step.{Step}
use Rattle.yaml_tree.specs.declared.turns.Step.TheVariants as steps

-- a character of ASCII stands first
abbrev pub BeginsAscii : List ℕ → Type 0
BeginsAscii [] = ⊥
BeginsAscii (byte ∷ bytes) = byte < 128

-- At the point after an item or an entry: `,` before the next one, or the bracket that ends the form, or a refusal.
abbrev pub goes_on : {A : Type 0} → (close : ℕ) → A → YamlEnd → Rest → Turn A Rest
goes_on close x other next =
    if begins 44 next.here then next_turn x (flow_point (on 1 next))
    else (if begins close next.here then Last (x ∷ []) (on 1 next)
    else Refused other)

-- What a step leaves in the set of keys: the keys of all entries, if there is a further turn.
abbrev pub KnowsNext : Keys → List Pair → Step Pair → Type 0
KnowsNext keys before (steps.More entry) = Knows keys (before ++ entry ∷ [])
KnowsNext keys before (steps.Last entry) = Unit {0}

-- ---- the value of an entry, and the point behind it

abbrev pub with_point : Tree → Result Rest YamlEnd → Outcome
with_point tree (Ok next) = Ok (tree, next)
with_point tree (Err e) = Err e

abbrev pub to_point : Outcome → Outcome
to_point (Ok x) = with_point x.0 (flow_point x.1)
to_point (Err e) = Err e

-- from behind the `:` of a key
abbrev pub ColonValue : Reading → (colon : Rest) → Result Rest YamlEnd → Outcome → Type 0
ColonValue Node colon (Err e) outcome = outcome ≡ Err e
ColonValue Node colon (Ok next) outcome = MatchBool (ends_entry next.here)
    (outcome ≡ Ok (empty_at colon, next))
    ((value : Outcome) × Node next value × (outcome ≡ to_point value))

-- from behind a key that began with this in that line
abbrev pub KeyValue : Reading → Opening → (line : ℕ) (to : Rest) → Result Rest YamlEnd → Outcome → Type 0
KeyValue Node opening line to (Err e) outcome = outcome ≡ Err e
KeyValue Node opening line to (Ok next) outcome = MatchBool (may_be_key opening (line == to.line) && is_key_colon opening next.here)
    (ColonValue Node (on 1 next) (flow_point (on 1 next)) outcome)
    (outcome ≡ Ok (empty_at to, next))
