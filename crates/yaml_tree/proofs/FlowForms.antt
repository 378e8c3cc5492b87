-- The forms by what begins them, where levels are left, and the entries of maps.
use Rattle.std.proofs.Common.{◌≡◌, ℕ, suc, ◌-◌, ◌<◌, Bool, true, false, not, if◌then◌else◌, List, [], ◌∷◌, ◌++◌, Result, Ok, Err, refl, sym, ap, ◌∙◌, subst, arith}
use Rattle.std.specs.Prelude.{MatchBool}
use Rattle.dp_base.specs.declared.place.Place.{Place}
use Rattle.yaml_tree.specs.Rest.{Rest, place, on}
use Rattle.yaml_tree.specs.Characters.{begins}
use Rattle.yaml_tree.specs.Lines.{flow_point}
use Rattle.yaml_tree.specs.Openings.{opening}
use Rattle.yaml_tree.specs.Keys.{stands_before}
use Rattle.yaml_tree.specs.Repeats.{Turn, More, Last, Refused}
use Rattle.yaml_tree.specs.Flow.{Outcome, Reading, next_turn, is_keyed, entry, empty_at, ends_entry, entry_ends, entry_turn, value_turn, ValueTurn, KeyTurn, MapTurn, FormOf, Form}
use Rattle.yaml_tree.specs.FlowSteps.{goes_on, KnowsNext, with_point, to_point, ColonValue, KeyValue}
use Rattle.yaml_tree.specs.Known.{Knows}
use Rattle.yaml_tree.specs.Results.{turn_of}
use Rattle.yaml_tree.specs.declared.keys.Keys.{Keys}
use Rattle.yaml_tree.specs.declared.opening.Opening.{Opening}
use Rattle.yaml_tree.specs.declared.tree.Tree.{Tree}
use Rattle.yaml_tree.specs.declared.tree.Pair.{Pair}
use Rattle.yaml_tree.specs.declared.tree.YamlEnd.{YamlEnd}
use Rattle.yaml_tree.specs.declared.turns.Step.{Step}
use Rattle.yaml_tree.specs.declared.turns.Step.TheVariants as steps
use Rattle.yaml_tree.specs.declared.tree.YamlEnd.TheVariants.{Unread}

-- ---- choices between facts

at_false : (b : Bool) (P Q : Type 0) → b ≡ false → Q → MatchBool b P Q
at_false true P Q e is = absurd cc
at_false false P Q e is = is

either : (b : Bool) (P P' Q Q' : Type 0) → (P → P') → (Q → Q') → MatchBool b P Q → MatchBool b P' Q'
either true P P' Q Q' f g is = f is
either false P P' Q Q' f g is = g is

-- ---- a form where levels are left

pub form_at : (flow maps : Bool) (levels : ℕ) (from : Rest) (begun : Opening) (outcome : Outcome) → 0 < levels → opening flow maps from ≡ begun → FormOf flow (Form true true (levels - 1)) (Form true false (levels - 1)) begun from outcome → Form flow maps levels from outcome
form_at flow maps levels from begun outcome some is form =
    let one : levels ≡ suc (levels - 1) = omega arith in
    subst (λ (n : ℕ). Form flow maps n from outcome) (sym one)
    (subst (λ (o : Opening). FormOf flow (Form true true (levels - 1)) (Form true false (levels - 1)) o from outcome) (sym is) form)

-- ---- entries of maps

-- the turn that a value and the point behind it make
abbrev entry_of : Tree → Outcome → Turn Pair Rest
entry_of key (Ok x) = entry_ends (entry key x.0) x.1
entry_of key (Err e) = Refused e

pointed : (key value : Tree) (point : Result Rest YamlEnd) → entry_of key (with_point value point) ≡ entry_turn (entry key value) point
pointed key value (Ok next) = refl
pointed key value (Err e) = refl

valued : (key : Tree) (value : Outcome) → entry_of key (to_point value) ≡ value_turn key value
valued key (Ok x) = pointed key x.0 (flow_point x.1)
valued key (Err e) = refl

module _ (Node : Reading) (key : Tree) where
  colon_turn : (colon : Rest) (point : Result Rest YamlEnd) (outcome : Outcome) → ColonValue Node colon point outcome → ValueTurn Node key colon point (entry_of key outcome)
  colon_turn colon (Err e) outcome is = ap (entry_of key) is
  colon_turn colon (Ok next) outcome is =
      either (ends_entry next.here)
      (outcome ≡ Ok (empty_at colon, next)) (entry_of key outcome ≡ entry_ends (entry key (empty_at colon)) next)
      ((value : Outcome) × Node next value × (outcome ≡ to_point value)) ((value : Outcome) × Node next value × (entry_of key outcome ≡ value_turn key value))
      (λ e. ap (entry_of key) e) (λ v. (v.0, v.1, ap (entry_of key) v.2 ∙ valued key v.0)) is

  key_turn : (from to : Rest) (point : Result Rest YamlEnd) (outcome : Outcome) → KeyValue Node (opening true true from) from.line to point outcome → KeyTurn Node from key to point (entry_of key outcome)
  key_turn from to (Err e) outcome is = ap (entry_of key) is
  key_turn from to (Ok next) outcome is =
      either (is_keyed from to next)
      (ColonValue Node (on 1 next) (flow_point (on 1 next)) outcome) (ValueTurn Node key (on 1 next) (flow_point (on 1 next)) (entry_of key outcome))
      (outcome ≡ Ok (empty_at to, next)) (entry_of key outcome ≡ entry_ends (entry key (empty_at to)) next)
      (colon_turn (on 1 next) (flow_point (on 1 next)) outcome) (λ e. ap (entry_of key) e) is

module _ (Node Key : Reading) (before : List Pair) (from to : Rest) (key : Tree) (begun : Opening) (at : Place) (no_end : begins 125 from.here ≡ false) (read : Key from (Ok (key, to))) (begun_is : begun ≡ opening true true from) (at_is : at ≡ place from) where
  map_turn-value : (outcome : Outcome) → stands_before key before ≡ false → KeyValue Node begun at.line to (flow_point to) outcome → MapTurn Node Key before from (entry_of key outcome)
  map_turn-value outcome once value =
      let as_begun : KeyValue Node (opening true true from) at.line to (flow_point to) outcome = subst (λ (o : Opening). KeyValue Node o at.line to (flow_point to) outcome) begun_is value in
      let in_line : KeyValue Node (opening true true from) from.line to (flow_point to) outcome = subst (λ (p : Place). KeyValue Node (opening true true from) p.line to (flow_point to) outcome) at_is as_begun in
      at_false (begins 125 from.here) _ _ no_end
      (Ok (key, to), read, at_false (stands_before key before) _ _ once (key_turn Node key from to (flow_point to) outcome in_line))

  pub map_turn-refused : (e : YamlEnd) → stands_before key before ≡ false → KeyValue Node begun at.line to (flow_point to) (Err e) → MapTurn Node Key before from (Refused e)
  map_turn-refused e once value = map_turn-value (Err e) once value

  pub map_turn-entry : (value : Tree) (next : Rest) (behind : Place) (turn : Turn Pair Rest) → stands_before key before ≡ false → KeyValue Node begun at.line to (flow_point to) (Ok (value, next)) → behind ≡ place next → goes_on 125 (entry key value) (Unread behind) next ≡ turn → MapTurn Node Key before from turn
  map_turn-entry value next behind turn once read_value behind_is ends =
      let ending : entry_ends (entry key value) next ≡ turn = ap (λ (p : Place). goes_on 125 (entry key value) (Unread p) next) (sym behind_is) ∙ ends in
      subst (MapTurn Node Key before from) ending (map_turn-value (Ok (value, next)) once read_value)

-- what the set of keys answers
pub was_new : (new before : Bool) → new ≡ not before → new ≡ true → before ≡ false
was_new new true is fresh = absurd cc
was_new new false is fresh = refl

-- the entry that a turn gives is the one that was read
given : (comma close : Bool) (point : Result Rest YamlEnd) (pair other : Pair) (end : Rest) (e : YamlEnd) (left : Rest) → (if comma then next_turn pair point else (if close then Last (pair ∷ []) end else Refused e)) ≡ More other left → pair ≡ other
given true close (Ok next) pair other end e left is = cc
given true close (Err f) pair other end e left is = absurd cc
given false true point pair other end e left is = absurd cc
given false false point pair other end e left is = absurd cc

pub knows_next : (keys : Keys) (before : List Pair) (pair : Pair) (e : YamlEnd) (next left : Rest) (step : Step Pair) → goes_on 125 pair e next ≡ turn_of step left → Knows keys (before ++ pair ∷ []) → KnowsNext keys before step
knows_next keys before pair e next left (steps.More other) is known =
    let same : pair ≡ other = given (begins 44 next.here) (begins 125 next.here) (flow_point (on 1 next)) pair other (on 1 next) e left is in
    subst (λ (p : Pair). Knows keys (before ++ p ∷ [])) same known
knows_next keys before pair e next left (steps.Last other) is known = tt
