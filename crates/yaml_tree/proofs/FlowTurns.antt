-- What is read in turns, and how a list or a map is made of it.
use Rattle.std.proofs.Common.{◌≡◌, List, [], ◌∷◌, ◌++◌, None, Some, Result, Ok, Err, refl, sym, ap, ◌∙◌, subst, append_assoc}
use Rattle.std.specs.Prelude.{IsErrAnd, IfErr}
use Rattle.std.proofs.lemmas.List.{append-nil}
use Rattle.dp_base.specs.declared.place.Place.{Place}
use Rattle.dp_base.proofs.Memory.{memory_or, memory_or-from}
use Rattle.yaml_tree.specs.Rest.{Rest, place, on}
use Rattle.yaml_tree.specs.Lines.{flow_point}
use Rattle.yaml_tree.specs.Repeats.{Turn, More, Last, Refused, InTurn, Repeats}
use Rattle.yaml_tree.specs.Flow.{Reading, ListTurn, MapTurn, FromNext, ListForm, MapForm}
use Rattle.yaml_tree.specs.Results.{is_memory, MemoryOr, turn_of}
use Rattle.yaml_tree.specs.declared.tree.Tree.{Tree}
use Rattle.yaml_tree.specs.declared.tree.Tree.TheVariants as trees
use Rattle.yaml_tree.specs.declared.tree.Pair.{Pair}
use Rattle.yaml_tree.specs.declared.tree.YamlEnd.{YamlEnd}
use Rattle.yaml_tree.specs.declared.turns.Step.{Step}
use Rattle.yaml_tree.specs.declared.turns.Step.TheVariants as steps

-- ---- refusals

pub refused_as : {T : Type 0} (P Q : YamlEnd → Type 0) → ((e : YamlEnd) → P e → Q e) → (r : Result T YamlEnd) → IfErr r (MemoryOr P) → IfErr r (MemoryOr Q)
refused_as P Q h (Ok x) is = tt
refused_as P Q h (Err e) is = memory_or is_memory P Q h e is

-- a refusal that is passed on
passed_on : {T : Type 0} (r : Result T YamlEnd) (e : YamlEnd) (P : YamlEnd → Type 0) → IsErrAnd r (λ y. y ≡ e) → MemoryOr P e → IfErr r (MemoryOr P)
passed_on (Ok x) e P same is = absurd same
passed_on (Err y) e P same is = subst (MemoryOr P) (sym same) is

pub passed_as : {T : Type 0} (P Q : YamlEnd → Type 0) → ((e : YamlEnd) → P e → Q e) → (r : Result T YamlEnd) (e : YamlEnd) → IsErrAnd r (λ y. y ≡ e) → MemoryOr P e → IfErr r (MemoryOr Q)
passed_as P Q h r e same is = passed_on r e Q same (memory_or is_memory P Q h e is)

pub refused_now : {T : Type 0} (P : YamlEnd → Type 0) (r : Result T YamlEnd) (e : YamlEnd) → IsErrAnd r (λ y. y ≡ e) → P e → IfErr r (MemoryOr P)
refused_now P r e same is = passed_on r e P same (memory_or-from is_memory P e is)

-- ---- turns

module _ {A S : Type 0} (OneTurn : List A → S → Turn A S → Type 0) where
  -- one more turn
  pub in_turn-more : (before : List A) (from : S) (xs : List A) (x : A) (at next : S) → InTurn OneTurn before from xs at → OneTurn (before ++ xs) at (More x next) → InTurn OneTurn before from (xs ++ x ∷ []) next
  in_turn-more before from [] x at next is one =
      (next, subst (λ (b : List A). OneTurn b from (More x next)) (append-nil before) (subst (λ (s : S). OneTurn (before ++ []) s (More x next)) (sym is) one), refl)
  in_turn-more before from (y ∷ ys) x at next is one =
      let more : OneTurn ((before ++ y ∷ []) ++ ys) at (More x next) = subst (λ (b : List A). OneTurn b at (More x next)) (sym (append_assoc before (y ∷ []) ys)) one in
      (is.0, is.1, in_turn-more (before ++ y ∷ []) is.0 ys x at next is.2 more)

  -- turns up to one that is the last
  pub repeats-last : (from : S) (xs : List A) (at : S) (others : List A) (left : Rest) → InTurn OneTurn [] from xs at → OneTurn xs at (Last others left) → Repeats OneTurn from (Ok (xs ++ others, left))
  repeats-last from xs at others left is one = record { read = xs; at = at; end = Last others left; in_turn = is; last = one; ends = refl }

  -- turns up to one that is refused
  pub repeats-refused : (from : S) (xs : List A) (at : S) (e : YamlEnd) → InTurn OneTurn [] from xs at → OneTurn xs at (Refused e) → Repeats OneTurn from (Err e)
  repeats-refused from xs at e is one = record { read = xs; at = at; end = Refused e; in_turn = is; last = one; ends = refl }

-- ---- lists and maps from their brackets on

module _ {A : Type 0} (OneTurn : List A → Rest → Turn A Rest → Type 0) (point : Result Rest YamlEnd) where
  from_next : (next : Rest) (read : Result (List A × Rest) YamlEnd) → point ≡ Ok next → Repeats OneTurn next read → FromNext OneTurn point read
  from_next next read is repeats = subst (λ (p : Result Rest YamlEnd). FromNext OneTurn p read) (sym is) repeats

  from_nowhere : (e : YamlEnd) → point ≡ Err e → FromNext OneTurn point (Err e)
  from_nowhere e is = subst (λ (p : Result Rest YamlEnd). FromNext OneTurn p (Err e)) (sym is) refl

module _ (Node : Reading) (from : Rest) where
  pub list_form-read : (next left : Rest) (items : List Tree) (at : Place) → at ≡ place from → flow_point (on 1 from) ≡ Ok next → Repeats (ListTurn Node) next (Ok (items, left)) → ListForm Node from (Ok (trees.List at items, left))
  list_form-read next left items at here is repeats =
      (Ok (items, left), from_next (ListTurn Node) (flow_point (on 1 from)) next (Ok (items, left)) is repeats, ap (λ (p : Place). Ok (trees.List p items, left)) here)

  pub list_form-refused : (next : Rest) (e : YamlEnd) → flow_point (on 1 from) ≡ Ok next → Repeats (ListTurn Node) next (Err e) → ListForm Node from (Err e)
  list_form-refused next e is repeats = (Err e, from_next (ListTurn Node) (flow_point (on 1 from)) next (Err e) is repeats, refl)

  pub list_form-nowhere : (e : YamlEnd) → flow_point (on 1 from) ≡ Err e → ListForm Node from (Err e)
  list_form-nowhere e is = (Err e, from_nowhere (ListTurn Node) (flow_point (on 1 from)) e is, refl)

module _ (Node Key : Reading) (from : Rest) where
  pub map_form-read : (next left : Rest) (entries : List Pair) (at : Place) → at ≡ place from → flow_point (on 1 from) ≡ Ok next → Repeats (MapTurn Node Key) next (Ok (entries, left)) → MapForm Node Key from (Ok (trees.Map at entries, left))
  map_form-read next left entries at here is repeats =
      (Ok (entries, left), from_next (MapTurn Node Key) (flow_point (on 1 from)) next (Ok (entries, left)) is repeats, ap (λ (p : Place). Ok (trees.Map p entries, left)) here)

  pub map_form-refused : (next : Rest) (e : YamlEnd) → flow_point (on 1 from) ≡ Ok next → Repeats (MapTurn Node Key) next (Err e) → MapForm Node Key from (Err e)
  map_form-refused next e is repeats = (Err e, from_next (MapTurn Node Key) (flow_point (on 1 from)) next (Err e) is repeats, refl)

  pub map_form-nowhere : (e : YamlEnd) → flow_point (on 1 from) ≡ Err e → MapForm Node Key from (Err e)
  map_form-nowhere e is = (Err e, from_nowhere (MapTurn Node Key) (flow_point (on 1 from)) e is, refl)

-- ---- the ends of lists and maps, as the reader's steps say them

module _ {A : Type 0} (OneTurn : List A → Rest → Turn A Rest → Type 0) (from : Rest) (read : List A) (at left : Rest) (all : List A) (step : Step A) (so_far : InTurn OneTurn [] from read at) (one : OneTurn read at (turn_of step left)) where
  pub ends_empty : step ≡ steps.Last None → all ≡ read → Repeats OneTurn from (Ok (all, left))
  ends_empty is all_is =
      let last : OneTurn read at (Last [] left) = subst (λ (s : Step A). OneTurn read at (turn_of s left)) is one in
      subst (λ (xs : List A). Repeats OneTurn from (Ok (xs, left))) (append-nil read ∙ sym all_is) (repeats-last OneTurn from read at [] left so_far last)

  pub ends_with : (x : A) → step ≡ steps.Last (Some x) → all ≡ read ++ x ∷ [] → Repeats OneTurn from (Ok (all, left))
  ends_with x is all_is =
      let last : OneTurn read at (Last (x ∷ []) left) = subst (λ (s : Step A). OneTurn read at (turn_of s left)) is one in
      subst (λ (xs : List A). Repeats OneTurn from (Ok (xs, left))) (sym all_is) (repeats-last OneTurn from read at (x ∷ []) left so_far last)
