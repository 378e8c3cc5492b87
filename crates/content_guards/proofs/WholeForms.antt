-- Scalars and flow forms of whole characters are trees of whole characters, and so is what is left behind them.
use Rattle.std.proofs.Common.{◌≡◌, ℕ, zero, suc, ◌+◌, ◌<◌, Bool, true, false, not, ◌&&◌, ◌||◌, ◌==◌, if◌then◌else◌, List, [], ◌∷◌, ◌++◌, length, take, drop, Option, None, Some, Result, Ok, Err, refl, sym, ap, ◌∙◌, subst, inl, inr, arith}
use Rattle.std.specs.List.{list_all}
use Rattle.std.proofs.lemmas.Bool.{and_from}
use Rattle.std.proofs.lemmas.Bool.Decides.{nat_tests}
use Rattle.std.proofs.lemmas.List.Folds.{list_all-append}
use Rattle.yaml_tree.specs.Rest.{Rest, place, on}
use Rattle.yaml_tree.specs.Characters.{begins, begins_plain}
use Rattle.yaml_tree.specs.Lines.{flow_point}
use Rattle.yaml_tree.specs.Scalars.{inner_of, single_quoted, double_quoted, single_text, double_text, part_of, plain, plain_part, text_within, quoted}
use Rattle.yaml_tree.specs.Openings.{quote_opening, before_blank, is_header, opening_of, opening}
use Rattle.yaml_tree.specs.Keys.{stands_before}
use Rattle.yaml_tree.specs.Repeats.{Turn, More, Last, Refused, InTurn, EndsWith, Repeats}
use Rattle.yaml_tree.specs.Flow.{Outcome, Reading, next_turn, item_ends, item_turn, ListTurn, FromNext, ListForm, entry, empty_at, ends_entry, entry_ends, entry_turn, value_turn, ValueTurn, KeyTurn, AfterKey, MapTurn, MapForm, header_line, plain_scalar, FormOf, Form, is_keyed}
use Rattle.yaml_tree.specs.declared.tree.Tree.{Tree}
use Rattle.yaml_tree.specs.declared.tree.Tree.TheVariants as trees
use Rattle.yaml_tree.specs.declared.tree.Pair.{Pair}
use Rattle.yaml_tree.specs.declared.tree.YamlEnd.{YamlEnd}
use Rattle.yaml_tree.proofs.FlowMarks.{keyed-begins}
use Rattle.yaml_tree.proofs.Sizes.{which, plain_text, scalar_at-ok, quoted_to-ok, list_made-ok, map_made-ok}
use Rattle.content_guards.proofs.Whole.{whole, low_step, no_bytes}
use Rattle.content_guards.proofs.WholeScalars.{IsWhole, passed_whole, point_whole, part_whole, plain_whole, single_whole, double_whole}
use Rattle.content_guards.proofs.WholeTrees.{is_whole, whole_pair, scalar_whole, list_whole, map_whole}

-- a tree of whole characters, and what is left behind it
abbrev pub Made : Tree × Rest → Type 0
Made x = (is_whole x.0 ≡ true) × IsWhole x.1

-- whichever way a choice goes
pub split : {O : Type 0} (P : O → Type 0) (b : Bool) {x y : O} → (b ≡ true → P x) → (b ≡ false → P y) → P (if b then x else y)
split P true a c = a refl
split P false a c = c refl

-- ---- what stands between quotes

-- what stands between quotes, and behind the closing one
pub record Between (here : List ℕ) (single : Bool) (inside : ℕ) : Type 0 where
  pub text : (text : List ℕ) → text_within single (take inside (drop 1 here)) ≡ Ok text → whole [] text ≡ true
  pub behind : whole [] (drop (inside + 2) here) ≡ true

two_more : (n : ℕ) → suc (suc n) ≡ n + 2
two_more n = omega arith

between_single : (byte : ℕ) (bytes inner : List ℕ) → byte < 128 → whole [] (byte ∷ bytes) ≡ true → single_quoted bytes ≡ Some inner → Between (byte ∷ bytes) true (length inner)
between_single byte bytes inner low h is =
    let c = single_whole bytes [] inner (low_step [] byte bytes low h).1 is in
    record { text = texts c.closed.front c.text; behind = subst (λ (k : ℕ). whole [] (drop k (byte ∷ bytes)) ≡ true) (two_more (length inner)) c.closed.behind }
  where
    texts : take (length inner) bytes ≡ inner → whole [] (single_text inner) ≡ true → (text : List ℕ) → text_within true (take (length inner) bytes) ≡ Ok text → whole [] text ≡ true
    texts front good text e =
        let same : single_text (take (length inner) bytes) ≡ text = cc e in
        subst (λ (l : List ℕ). whole [] l ≡ true) (sym (ap single_text front) ∙ same) good

between_double : (byte : ℕ) (bytes inner : List ℕ) → byte < 128 → whole [] (byte ∷ bytes) ≡ true → double_quoted bytes ≡ Some inner → Between (byte ∷ bytes) false (length inner)
between_double byte bytes inner low h is =
    let c = double_whole bytes [] inner (low_step [] byte bytes low h).1 is in
    record { text = texts c.closed.front (c.text 1); behind = subst (λ (k : ℕ). whole [] (drop k (byte ∷ bytes)) ≡ true) (two_more (length inner)) c.closed.behind }
  where
    texts : take (length inner) bytes ≡ inner → ((text : List ℕ) → double_text 1 inner ≡ Ok text → whole [] text ≡ true) → (text : List ℕ) → text_within false (take (length inner) bytes) ≡ Ok text → whole [] text ≡ true
    texts front good text e = good text (ap (double_text 1) (sym front) ∙ e)

low_quote : (byte : ℕ) → (byte == 34 || byte == 39) ≡ true → byte < 128
low_quote byte is = grind (arith, nat_tests)

between : (byte : ℕ) (bytes inner : List ℕ) (single : Bool) → byte < 128 → (byte == 39) ≡ single → whole [] (byte ∷ bytes) ≡ true → inner_of (byte ∷ bytes) ≡ Some inner → Between (byte ∷ bytes) single (length inner)
between byte bytes inner true low e h is = between_single byte bytes inner low h (ap (λ (b : Bool). if b then single_quoted bytes else double_quoted bytes) (sym e) ∙ is)
between byte bytes inner false low e h is = between_double byte bytes inner low h (ap (λ (b : Bool). if b then single_quoted bytes else double_quoted bytes) (sym e) ∙ is)

-- ---- scalars

pub plain_made : (flow : Bool) (least : ℕ) (from : Rest) (x : Tree × Rest) → IsWhole from → plain flow least from ≡ Ok x → Made x
plain_made flow least from x good is =
    let s = scalar_at-ok from (plain_text flow least from) x is in
    let t = plain_whole flow least from s.0 good s.1 in
    subst Made (sym s.2) (scalar_whole (place from) s.0.0 t.0, t.1)

plain_part_made : (from : Rest) (x : Tree × Rest) → IsWhole from → plain_part from ≡ Ok x → Made x
plain_part_made from x good is =
    let e : (trees.Scalar (place from) (part_of false from.here), on (length (part_of false from.here)) from) ≡ x = cc is in
    let part = part_whole false from.here good.0 in
    subst Made e (scalar_whole (place from) (part_of false from.here) part.0, (part.1, good.1))

header_line_made : (from : Rest) (x : Tree × Rest) → IsWhole from → header_line from ≡ Ok x → Made x
header_line_made from x good is =
    let e : (trees.Scalar (place from) [], record from { here = [] }) ≡ x = cc is in subst Made e (scalar_whole (place from) [] no_bytes, (no_bytes, good.1))

quoted_made : (from : Rest) (single : Bool) (inside : ℕ) (x : Tree × Rest) → Between from.here single inside → IsWhole from → quoted from single inside ≡ Ok x → Made x
quoted_made from single inside x b good is =
    let s = quoted_to-ok from inside (text_within single (take inside (drop 1 from.here))) x is in
    subst Made (sym s.2) (scalar_whole (place from) s.0 (b.text s.0 s.1), (b.behind, good.1))

-- ---- turns

-- What a turn adds passes a test. Where it goes on, the next one may begin, and where it ends, whole characters are left.
abbrev pub Passes : {A S : Type 0} → (A → Bool) → (S → Type 0) → Turn A S → Type 0
Passes test Ready (More x next) = (test x ≡ true) × Ready next
Passes test Ready (Last xs left) = (list_all test xs ≡ true) × IsWhole left
Passes test Ready (Refused e) = Unit {0}

module _ {A S : Type 0} (test : A → Bool) (Ready : S → Type 0) (OneTurn : List A → S → Turn A S → Type 0)
    (passes : (before : List A) (from : S) (turn : Turn A S) → Ready from → OneTurn before from turn → Passes test Ready turn) where
  in_turn_passes : (before : List A) (from : S) (xs : List A) (at : S) → Ready from → InTurn OneTurn before from xs at → (list_all test xs ≡ true) × Ready at
  in_turn_passes before from [] at now is = (refl, subst Ready is now)
  in_turn_passes before from (x ∷ xs) at now is =
      let one = passes before from (More x is.0) now is.1 in
      let rest = in_turn_passes (before ++ x ∷ []) is.0 xs at one.1 is.2 in
      (and_from (test x) (list_all test xs) one.0 rest.0, rest.1)

  ends_passes : (xs : List A) (end : Turn A S) (x : List A × Rest) → list_all test xs ≡ true → Passes test Ready end → EndsWith xs end (Ok x) → (list_all test x.0 ≡ true) × IsWhole x.1
  ends_passes xs (More y next) x all pass is = absurd is
  ends_passes xs (Last ys left) x all pass is =
      let e : x ≡ (xs ++ ys, left) = cc is in
      subst (λ (z : List A × Rest). (list_all test z.0 ≡ true) × IsWhole z.1) (sym e) (list_all-append test xs ys ∙ and_from (list_all test xs) (list_all test ys) all pass.0, pass.1)
  ends_passes xs (Refused e) x all pass is = absurd (cc is)

  pub repeats_pass : (from : S) (x : List A × Rest) → Ready from → Repeats OneTurn from (Ok x) → (list_all test x.0 ≡ true) × IsWhole x.1
  repeats_pass from x now is =
      let run = in_turn_passes [] from is.read is.at now is.in_turn in
      ends_passes is.read is.end x run.0 (passes is.read is.at is.end run.1 is.last) is.ends

-- whichever of two turns it is
pub either : {A S : Type 0} (test : A → Bool) (Ready : S → Type 0) (b : Bool) (t u : Turn A S) → (b ≡ true → Passes test Ready t) → (b ≡ false → Passes test Ready u) → Passes test Ready (if b then t else u)
either test Ready true t u a b = a refl
either test Ready false t u a b = b refl

-- one that is the last
pub one_passes : {A : Type 0} (test : A → Bool) (x : A) → test x ≡ true → list_all test (x ∷ []) ≡ true
one_passes test x pass = and_from (test x) true pass refl

-- ---- flow forms

abbrev TurnsPass : {A : Type 0} → (A → Bool) → (List A → Rest → Turn A Rest → Type 0) → Type 0
TurnsPass {A} test OneTurn = (before : List A) (from : Rest) (turn : Turn A Rest) → IsWhole from → OneTurn before from turn → Passes test IsWhole turn

from_next_passes : {A : Type 0} (test : A → Bool) (OneTurn : List A → Rest → Turn A Rest → Type 0) → TurnsPass test OneTurn
    → (o : Result Rest YamlEnd) → ((q : Rest) → o ≡ Ok q → IsWhole q) → (x : List A × Rest) → FromNext OneTurn o (Ok x) → (list_all test x.0 ≡ true) × IsWhole x.1
from_next_passes test OneTurn passes (Ok next) good x is = repeats_pass test IsWhole OneTurn passes next x (good next refl) is
from_next_passes test OneTurn passes (Err e) good x is = absurd (cc is)

abbrev pub Makes : Reading → Type 0
Makes Node = (from : Rest) (x : Tree × Rest) → IsWhole from → Node from (Ok x) → Made x

next_turn_passes : {A : Type 0} (test : A → Bool) (x : A) (o : Result Rest YamlEnd) → test x ≡ true → ((q : Rest) → o ≡ Ok q → IsWhole q) → Passes test IsWhole (next_turn x o)
next_turn_passes test x (Ok next) pass good = (pass, good next refl)
next_turn_passes test x (Err e) pass good = tt

-- behind a `,`
comma_passes : {A : Type 0} (test : A → Bool) (x : A) (next : Rest) → test x ≡ true → IsWhole next → begins 44 next.here ≡ true → Passes test IsWhole (next_turn x (flow_point (on 1 next)))
comma_passes test x next pass good is = next_turn_passes test x (flow_point (on 1 next)) pass (λ q e. point_whole (on 1 next) q (passed_whole 44 next (omega arith) is good) e)

item_ends_passes : (from : Rest) (item : Tree) (to : Rest) (o : Result Rest YamlEnd) → is_whole item ≡ true → ((q : Rest) → o ≡ Ok q → IsWhole q) → Passes is_whole IsWhole (item_ends from item to o)
item_ends_passes from item to (Err e) is good = tt
item_ends_passes from item to (Ok next) is good =
    either is_whole IsWhole (begins 44 next.here) _ _ (λ h. comma_passes is_whole item next is (good next refl) h)
    (λ h. either is_whole IsWhole (begins 93 next.here) _ _ (λ k. (one_passes is_whole item is, passed_whole 93 next (omega arith) k (good next refl)))
    (λ k. either is_whole IsWhole (is_keyed from to next) _ _ (λ l. tt) (λ l. tt)))

item_turn_passes : (from : Rest) (item : Outcome) → ((x : Tree × Rest) → item ≡ Ok x → Made x) → Passes is_whole IsWhole (item_turn from item)
item_turn_passes from (Ok x) made = item_ends_passes from x.0 x.1 (flow_point x.1) (made x refl).0 (λ q e. point_whole x.1 q (made x refl).1 e)
item_turn_passes from (Err e) made = tt

pub entry_whole : (key value : Tree) → is_whole key ≡ true → is_whole value ≡ true → whole_pair (entry key value) ≡ true
entry_whole key value k v = and_from (is_whole key) (is_whole value) k v

pub empty_whole : (at : Rest) → is_whole (empty_at at) ≡ true
empty_whole at = scalar_whole (place at) [] no_bytes

module _ (Node : Reading) (makes : Makes Node) where
  list_turn_passes : TurnsPass is_whole (ListTurn Node)
  list_turn_passes before from turn good is =
      elim (which (begins 93 from.here) _ _ is) [
        | inl h ↦ subst (Passes is_whole IsWhole) (sym h.1) (refl, passed_whole 93 from (omega arith) h.0 good)
        | inr h ↦ subst (Passes is_whole IsWhole) (sym h.1.2) (item_turn_passes from h.1.0 (λ x e. makes from x good (subst (Node from) e h.1.1)))
      ]

  list_form_made : (from : Rest) (x : Tree × Rest) → begins 91 from.here ≡ true → IsWhole from → ListForm Node from (Ok x) → Made x
  list_form_made from x opens good is =
      let m = list_made-ok (place from) is.0 x (sym is.2) in
      let all = from_next_passes is_whole (ListTurn Node) list_turn_passes (flow_point (on 1 from)) (λ q e. point_whole (on 1 from) q (passed_whole 91 from (omega arith) opens good) e) m.0 (subst (FromNext (ListTurn Node) (flow_point (on 1 from))) m.1 is.1) in
      subst Made (sym m.2) (list_whole (place from) m.0.0 all.0, all.1)

  entry_ends_passes : (pair : Pair) (next : Rest) → whole_pair pair ≡ true → IsWhole next → Passes whole_pair IsWhole (entry_ends pair next)
  entry_ends_passes pair next is good =
      either whole_pair IsWhole (begins 44 next.here) _ _ (λ h. comma_passes whole_pair pair next is good h)
      (λ h. either whole_pair IsWhole (begins 125 next.here) _ _ (λ k. (one_passes whole_pair pair is, passed_whole 125 next (omega arith) k good)) (λ k. tt))

  entry_turn_passes : (pair : Pair) (o : Result Rest YamlEnd) → whole_pair pair ≡ true → ((q : Rest) → o ≡ Ok q → IsWhole q) → Passes whole_pair IsWhole (entry_turn pair o)
  entry_turn_passes pair (Ok next) is good = entry_ends_passes pair next is (good next refl)
  entry_turn_passes pair (Err e) is good = tt

  value_turn_passes : (key : Tree) (value : Outcome) → is_whole key ≡ true → ((x : Tree × Rest) → value ≡ Ok x → Made x) → Passes whole_pair IsWhole (value_turn key value)
  value_turn_passes key (Ok x) is made = entry_turn_passes (entry key x.0) (flow_point x.1) (entry_whole key x.0 is (made x refl).0) (λ q e. point_whole x.1 q (made x refl).1 e)
  value_turn_passes key (Err e) is made = tt

  value_turns_pass : (key : Tree) (colon : Rest) (o : Result Rest YamlEnd) → is_whole key ≡ true → ((q : Rest) → o ≡ Ok q → IsWhole q) → (turn : Turn Pair Rest) → ValueTurn Node key colon o turn → Passes whole_pair IsWhole turn
  value_turns_pass key colon (Err e) is good turn t = subst (Passes whole_pair IsWhole) (sym t) tt
  value_turns_pass key colon (Ok next) is good turn t =
      elim (which (ends_entry next.here) _ _ t) [
        | inl h ↦ subst (Passes whole_pair IsWhole) (sym h.1) (entry_ends_passes (entry key (empty_at colon)) next (entry_whole key (empty_at colon) is (empty_whole colon)) (good next refl))
        | inr h ↦ subst (Passes whole_pair IsWhole) (sym h.1.2) (value_turn_passes key h.1.0 is (λ x e. makes next x (good next refl) (subst (Node next) e h.1.1)))
      ]

  key_turn_passes : (from : Rest) (key : Tree) (to : Rest) (o : Result Rest YamlEnd) → is_whole key ≡ true → ((q : Rest) → o ≡ Ok q → IsWhole q) → (turn : Turn Pair Rest) → KeyTurn Node from key to o turn → Passes whole_pair IsWhole turn
  key_turn_passes from key to (Err e) is good turn t = subst (Passes whole_pair IsWhole) (sym t) tt
  key_turn_passes from key to (Ok next) is good turn t =
      elim (which (is_keyed from to next) _ _ t) [
        | inl h ↦
            let colon : begins 58 next.here ≡ true = keyed-begins (opening true true from) (from.line == to.line) next.here h.0 in
            value_turns_pass key (on 1 next) (flow_point (on 1 next)) is (λ q e. point_whole (on 1 next) q (passed_whole 58 next (omega arith) colon (good next refl)) e) turn h.1
        | inr h ↦ subst (Passes whole_pair IsWhole) (sym h.1) (entry_ends_passes (entry key (empty_at to)) next (entry_whole key (empty_at to) is (empty_whole to)) (good next refl))
      ]

  after_key_passes : (before : List Pair) (from : Rest) (key : Outcome) → ((x : Tree × Rest) → key ≡ Ok x → Made x) → (turn : Turn Pair Rest) → AfterKey Node before from key turn → Passes whole_pair IsWhole turn
  after_key_passes before from (Err e) made turn t = subst (Passes whole_pair IsWhole) (sym t) tt
  after_key_passes before from (Ok x) made turn t =
      elim (which (stands_before x.0 before) _ _ t) [
        | inl h ↦ subst (Passes whole_pair IsWhole) (sym h.1) tt
        | inr h ↦ key_turn_passes from x.0 x.1 (flow_point x.1) (made x refl).0 (λ q e. point_whole x.1 q (made x refl).1 e) turn h.1
      ]

  module _ (Key : Reading) (key_makes : Makes Key) where
    map_turn_passes : TurnsPass whole_pair (MapTurn Node Key)
    map_turn_passes before from turn good is =
        elim (which (begins 125 from.here) _ _ is) [
          | inl h ↦ subst (Passes whole_pair IsWhole) (sym h.1) (refl, passed_whole 125 from (omega arith) h.0 good)
          | inr h ↦ after_key_passes before from h.1.0 (λ x e. key_makes from x good (subst (Key from) e h.1.1)) turn h.1.2
        ]

    map_form_made : (from : Rest) (x : Tree × Rest) → begins 123 from.here ≡ true → IsWhole from → MapForm Node Key from (Ok x) → Made x
    map_form_made from x opens good is =
        let m = map_made-ok (place from) is.0 x (sym is.2) in
        let all = from_next_passes whole_pair (MapTurn Node Key) map_turn_passes (flow_point (on 1 from)) (λ q e. point_whole (on 1 from) q (passed_whole 123 from (omega arith) opens good) e) m.0 (subst (FromNext (MapTurn Node Key) (flow_point (on 1 from))) m.1 is.1) in
        subst Made (sym m.2) (map_whole (place from) m.0.0 all.0, all.1)

    -- by what begins
    quotes_made : (flow : Bool) (from : Rest) (x : Tree × Rest) (single : Bool) (inner : Option (List ℕ)) → ((inside : List ℕ) → inner ≡ Some inside → Between from.here single (length inside)) → IsWhole from
        → FormOf flow Node Key (quote_opening single inner) from (Ok x) → Made x
    quotes_made flow from x single None opens good form = absurd (cc form)
    quotes_made flow from x single (Some inner) opens good form = quoted_made from single (length inner) x (opens inner refl) good (sym form)

    plain_form_made : (flow : Bool) (from : Rest) (x : Tree × Rest) → IsWhole from → Ok x ≡ plain_scalar flow from → Made x
    plain_form_made true from x good form = plain_made true 0 from x good (sym form)
    plain_form_made false from x good form = plain_part_made from x good (sym form)

    form_of_made : (flow maps : Bool) (from : Rest) (x : Tree × Rest) → IsWhole from → FormOf flow Node Key (opening flow maps from) from (Ok x) → Made x
    form_of_made flow maps from x good = by from.here refl
      where
        by : (here : List ℕ) → from.here ≡ here → FormOf flow Node Key (opening_of flow maps from.ragged here) from (Ok x) → Made x
        by [] e = λ form. absurd (cc form)
        by (byte ∷ bytes) e =
            let P : _ → Type 0 = λ o. FormOf flow Node Key o from (Ok x) → Made x in
            split P (byte == 34 || byte == 39)
            (λ h. quotes_made flow from x (byte == 39) (inner_of (byte ∷ bytes)) (λ inner is. subst (λ (l : List ℕ). Between l (byte == 39) (length inner)) (sym e) (between byte bytes inner (byte == 39) (low_quote byte h) refl (ap (λ (l : List ℕ). whole [] l) (sym e) ∙ good.0) is)) good)
            (λ h. split P (byte == 91) (λ k form. list_form_made from x (ap (begins 91) e ∙ k) good form)
            (λ k. split P (byte == 123) (λ l. split P maps (λ m form. map_form_made from x (ap (begins 123) e ∙ l) good form) (λ m form. absurd (cc form)))
            (λ l. split P (byte == 38) (λ m form. absurd (cc form))
            (λ m. split P (byte == 42) (λ n form. absurd (cc form))
            (λ n. split P (byte == 33) (λ o form. absurd (cc form))
            (λ o. split P (byte == 124 || byte == 62) (λ p. split P (not flow && maps && is_header bytes) (λ q form. header_line_made from x good (sym form)) (λ q form. absurd (cc form)))
            (λ p. split P (begins_plain flow (byte ∷ bytes)) (λ q form. plain_form_made flow from x good form)
            (λ q. split P (byte == 63 && before_blank from.ragged bytes) (λ r form. absurd (cc form)) (λ r form. absurd (cc form))))))))))

pub form_made : (flow maps : Bool) (levels : ℕ) → Makes (Form flow maps levels)
form_made flow maps zero from x good form = absurd (cc form)
form_made flow maps (suc levels) from x good form =
    form_of_made (Form true true levels) (form_made true true levels) (Form true false levels) (form_made true false levels) flow maps from x good form
