-- The scalars of a flow form have no more bytes than what was left of the text.
use Rattle.std.proofs.Common.{◌≡◌, ℕ, zero, suc, ◌+◌, ◌≤◌, Bool, true, false, ◌==◌, if◌then◌else◌, List, [], ◌∷◌, ◌++◌, length, take, drop, Option, None, Some, Result, Ok, Err, refl, sym, ◌∙◌, subst, inl, inr, arith, length-drop, length-take}
use Rattle.std.specs.List.{list_all}
use Rattle.std.proofs.lemmas.Bool.{and_from}
use Rattle.std.proofs.lemmas.List.Folds.{list_all-append}
use Rattle.yaml_tree.specs.Rest.{Rest, place, on}
use Rattle.yaml_tree.specs.Characters.{begins}
use Rattle.yaml_tree.specs.Lines.{flow_point}
use Rattle.yaml_tree.specs.Scalars.{part_of, plain, plain_part, single_text, escaped, first_byte, escape_at, double_text, text_within, quoted}
use Rattle.yaml_tree.specs.Openings.{opening}
use Rattle.yaml_tree.specs.Keys.{stands_before}
use Rattle.yaml_tree.specs.Repeats.{Turn, More, Last, Refused, InTurn, EndsWith, Repeats}
use Rattle.yaml_tree.specs.Flow.{Outcome, Reading, next_turn, item_ends, item_turn, ListTurn, FromNext, ListForm, entry, empty_at, ends_entry, entry_ends, entry_turn, value_turn, ValueTurn, KeyTurn, AfterKey, MapTurn, MapForm, header_line, FormOf, Form, is_keyed}
use Rattle.yaml_tree.specs.Within.{is_within, IsWithin}
use Rattle.yaml_tree.specs.declared.opening.Opening.{Opening}
use Rattle.yaml_tree.specs.declared.opening.Opening.TheVariants.{Plain, Quoted, OpenQuote, FlowList, FlowMap, Header, Outside, Nothing}
use Rattle.yaml_tree.specs.declared.tree.Tree.{Tree}
use Rattle.yaml_tree.specs.declared.tree.Tree.TheVariants as trees
use Rattle.yaml_tree.specs.declared.tree.Pair.{Pair}
use Rattle.yaml_tree.specs.declared.tree.YamlEnd.{YamlEnd}
use Rattle.yaml_tree.proofs.Sizes.{size, chosen, which, on-size, flow_point-size, part_of-length, plain_text, plain_text-takes, scalar_at-ok, quoted_to-ok, list_made-ok, map_made-ok, behind_bracket, Shortens, TurnsShorten, list_turn-shortens, map_turn-shortens, form-shortens}
use Rattle.yaml_tree.proofs.WithinTrees.{pair_within, scalar_within, list_within, map_within}

-- ---- scalars

single_text-length : (inner : List ℕ) → length (single_text inner) ≤ length inner
unfolding single_text
single_text-length [] = omega arith
single_text-length (byte ∷ []) = omega arith
single_text-length (byte ∷ next ∷ bytes) = step (byte == 39) (single_text-length bytes) (single_text-length (next ∷ bytes)) where
  step : (b : Bool) → length (single_text bytes) ≤ length bytes → length (single_text (next ∷ bytes)) ≤ length (next ∷ bytes) → length (if b then byte ∷ single_text bytes else byte ∷ single_text (next ∷ bytes)) ≤ length (byte ∷ next ∷ bytes)
  step true less same = omega arith
  step false less same = omega arith

first_byte-length : (byte : ℕ) (o : Result (List ℕ) ℕ) (n : ℕ) → ((text : List ℕ) → o ≡ Ok text → length text ≤ n) → (text : List ℕ) → first_byte byte o ≡ Ok text → length text ≤ suc n
first_byte-length byte (Ok some) n less text is = let e : byte ∷ some ≡ text = cc is in rw (← e) (omega (arith, less some refl))
first_byte-length byte (Err at) n less text is = absurd (cc is)

escape_at-length : (at : ℕ) (byte : Option ℕ) (o : Result (List ℕ) ℕ) (n : ℕ) → ((text : List ℕ) → o ≡ Ok text → length text ≤ n) → (text : List ℕ) → escape_at at byte o ≡ Ok text → length text ≤ suc n
escape_at-length at None o n less text is = absurd (cc is)
escape_at-length at (Some byte) o n less text is = first_byte-length byte o n less text is

double_text-length : (at : ℕ) (inner text : List ℕ) → double_text at inner ≡ Ok text → length text ≤ length inner
unfolding double_text
double_text-length at [] text is = let e : [] ≡ text = cc is in rw (← e) (omega arith)
double_text-length at (byte ∷ []) text is =
    elim (chosen (byte == 92) _ _ _ is) [
      | inl h ↦ absurd (cc h.1)
      | inr h ↦ let e : byte ∷ [] ≡ text = cc h.1 in rw (← e) (omega arith)
    ]
double_text-length at (byte ∷ next ∷ bytes) text is =
    elim (chosen (byte == 92) _ _ _ is) [
      | inl h ↦ let l = escape_at-length at (escaped next) (double_text (at + 2) bytes) (length bytes) (λ some e. double_text-length (at + 2) bytes some e) text h.1 in omega (arith, l)
      | inr h ↦ let l = first_byte-length byte (double_text (at + 1) (next ∷ bytes)) (length (next ∷ bytes)) (λ some e. double_text-length (at + 1) (next ∷ bytes) some e) text h.1 in omega (arith, l)
    ]

text_within-length : (single : Bool) (inner text : List ℕ) → text_within single inner ≡ Ok text → length text ≤ length inner
text_within-length true inner text is = let e : single_text inner ≡ text = cc is in rw (← e) (single_text-length inner)
text_within-length false inner text is = double_text-length 1 inner text is

pub plain_within : (most : ℕ) (flow : Bool) (least : ℕ) (from : Rest) (x : Tree × Rest) → size from ≤ most → plain flow least from ≡ Ok x → IsWithin most x.0
plain_within most flow least from x fits is =
    let s = scalar_at-ok from (plain_text flow least from) x is in
    rw s.2 (scalar_within most (place from) s.0.0 (omega (arith, plain_text-takes flow least from s.0 s.1)))

plain_part_within : (most : ℕ) (from : Rest) (x : Tree × Rest) → size from ≤ most → plain_part from ≡ Ok x → IsWithin most x.0
plain_part_within most from x fits is =
    let e : (trees.Scalar (place from) (part_of false from.here), on (length (part_of false from.here)) from) ≡ x = cc is in
    rw (← e) (scalar_within most (place from) (part_of false from.here) (omega (arith, part_of-length false from.here)))

header_line_within : (most : ℕ) (from : Rest) (x : Tree × Rest) → header_line from ≡ Ok x → IsWithin most x.0
header_line_within most from x is =
    let e : (trees.Scalar (place from) [], record from { here = [] }) ≡ x = cc is in rw (← e) (scalar_within most (place from) [] (omega arith))

quoted_within : (most : ℕ) (from : Rest) (single : Bool) (inside : ℕ) (x : Tree × Rest) → size from ≤ most → quoted from single inside ≡ Ok x → IsWithin most x.0
quoted_within most from single inside x fits is =
    let s = quoted_to-ok from inside (text_within single (take inside (drop 1 from.here))) x is in
    rw s.2 (scalar_within most (place from) s.0 (omega (arith, text_within-length single (take inside (drop 1 from.here)) s.0 s.1, length-take inside (drop 1 from.here), length-drop 1 from.here)))

-- ---- turns

-- what a turn adds passes a test
abbrev pub Passes : {A S : Type 0} → (A → Bool) → Turn A S → Type 0
Passes test (More x next) = test x ≡ true
Passes test (Last xs left) = list_all test xs ≡ true
Passes test (Refused e) = Unit {0}

-- Where turns begin something is ready: then what they add passes a test, and where they go on it is ready again.
module _ {A S : Type 0} (test : A → Bool) (Ready : S → Type 0) (OneTurn : List A → S → Turn A S → Type 0)
    (ready : (before : List A) (from : S) (x : A) (next : S) → Ready from → OneTurn before from (More x next) → Ready next)
    (passes : (before : List A) (from : S) (turn : Turn A S) → Ready from → OneTurn before from turn → Passes test turn) where
  pub in_turn_passes : (before : List A) (from : S) (xs : List A) (at : S) → Ready from → InTurn OneTurn before from xs at → (list_all test xs ≡ true) × Ready at
  in_turn_passes before from [] at now is = (refl, subst Ready is now)
  in_turn_passes before from (x ∷ xs) at now is =
      let rest = in_turn_passes (before ++ x ∷ []) is.0 xs at (ready before from x is.0 now is.1) is.2 in
      (and_from (test x) (list_all test xs) (passes before from (More x is.0) now is.1) rest.0, rest.1)

  ends_passes : (xs : List A) (end : Turn A S) (x : List A × Rest) → list_all test xs ≡ true → Passes test end → EndsWith xs end (Ok x) → list_all test x.0 ≡ true
  ends_passes xs (More y next) x all pass is = absurd is
  ends_passes xs (Last ys left) x all pass is =
      let e : x ≡ (xs ++ ys, left) = cc is in
      rw e (list_all-append test xs ys ∙ and_from (list_all test xs) (list_all test ys) all pass)
  ends_passes xs (Refused e) x all pass is = absurd (cc is)

  pub repeats_pass : (from : S) (x : List A × Rest) → Ready from → Repeats OneTurn from (Ok x) → list_all test x.0 ≡ true
  repeats_pass from x now is =
      let run = in_turn_passes [] from is.read is.at now is.in_turn in
      ends_passes is.read is.end x run.0 (passes is.read is.at is.end run.1 is.last) is.ends

-- the same of turns that begin where at most so much is left
fits_on : {A : Type 0} (most : ℕ) (OneTurn : List A → Rest → Turn A Rest → Type 0) → TurnsShorten size 1 OneTurn → (before : List A) (from : Rest) (x : A) (next : Rest) → size from ≤ most → OneTurn before from (More x next) → size next ≤ most
fits_on most OneTurn shorten before from x next fits is = omega (arith, shorten before from (More x next) is)

abbrev pub TurnsPass : {A : Type 0} → (most : ℕ) → (A → Bool) → (List A → Rest → Turn A Rest → Type 0) → Type 0
TurnsPass {A} most test OneTurn = (before : List A) (from : Rest) (turn : Turn A Rest) → size from ≤ most → OneTurn before from turn → Passes test turn

from_next_passes : {A : Type 0} (most : ℕ) (test : A → Bool) (OneTurn : List A → Rest → Turn A Rest → Type 0) → TurnsShorten size 1 OneTurn → TurnsPass most test OneTurn
    → (o : Result Rest YamlEnd) → ((q : Rest) → o ≡ Ok q → size q ≤ most) → (x : List A × Rest) → FromNext OneTurn o (Ok x) → list_all test x.0 ≡ true
from_next_passes most test OneTurn shorten passes (Ok next) fits x is = repeats_pass test (λ (r : Rest). size r ≤ most) OneTurn (fits_on most OneTurn shorten) passes next x (fits next refl) is
from_next_passes most test OneTurn shorten passes (Err e) fits x is = absurd (cc is)

-- whichever of two turns it is
either : {A S : Type 0} (test : A → Bool) (b : Bool) (t u : Turn A S) → Passes test t → Passes test u → Passes test (if b then t else u)
either test true t u a b = a
either test false t u a b = b

-- ---- flow forms

abbrev pub IsBounded : (most : ℕ) → Reading → Type 0
IsBounded most Node = (from : Rest) (x : Tree × Rest) → size from ≤ most → Node from (Ok x) → IsWithin most x.0

next_turn_passes : {A : Type 0} (test : A → Bool) (x : A) (o : Result Rest YamlEnd) → test x ≡ true → Passes test (next_turn x o)
next_turn_passes test x (Ok next) pass = pass
next_turn_passes test x (Err e) pass = tt

-- one that is the last
pub one_passes : {A : Type 0} (test : A → Bool) (x : A) → test x ≡ true → list_all test (x ∷ []) ≡ true
one_passes test x pass = and_from (test x) true pass refl

item_ends_passes : (most : ℕ) (from : Rest) (item : Tree) (to : Rest) (o : Result Rest YamlEnd) → IsWithin most item → Passes (is_within most) (item_ends from item to o)
item_ends_passes most from item to (Err e) is = tt
item_ends_passes most from item to (Ok next) is =
    either (is_within most) (begins 44 next.here) _ _ (next_turn_passes (is_within most) item (flow_point (on 1 next)) is)
    (either (is_within most) (begins 93 next.here) _ _ (one_passes (is_within most) item is)
    (either (is_within most) (is_keyed from to next) _ _ tt tt))

item_turn_passes : (most : ℕ) (from : Rest) (item : Outcome) → ((x : Tree × Rest) → item ≡ Ok x → IsWithin most x.0) → Passes (is_within most) (item_turn from item)
item_turn_passes most from (Ok x) within = item_ends_passes most from x.0 x.1 (flow_point x.1) (within x refl)
item_turn_passes most from (Err e) within = tt

pub entry_within : (most : ℕ) (key value : Tree) → IsWithin most key → IsWithin most value → pair_within most (entry key value) ≡ true
entry_within most key value k v = and_from (is_within most key) (is_within most value) k v

pub empty_within : (most : ℕ) (at : Rest) → IsWithin most (empty_at at)
empty_within most at = scalar_within most (place at) [] (omega arith)

module _ (most : ℕ) (Node : Reading) (shortens : Shortens Node) (bounded : IsBounded most Node) where
  list_turn_passes : TurnsPass most (is_within most) (ListTurn Node)
  list_turn_passes before from turn fits is =
      elim (which (begins 93 from.here) _ _ is) [
        | inl h ↦ rw h.1 refl
        | inr h ↦ rw h.1.2 (item_turn_passes most from h.1.0 (λ x e. bounded from x fits (subst (Node from) e h.1.1)))
      ]

  list_form_within : IsBounded most (ListForm Node)
  list_form_within from x fits is =
      let m = list_made-ok (place from) is.0 x (sym is.2) in
      let all = from_next_passes most (is_within most) (ListTurn Node) (list_turn-shortens Node shortens) list_turn_passes (flow_point (on 1 from)) (λ q e. omega (arith, behind_bracket from q e)) m.0 (subst (FromNext (ListTurn Node) (flow_point (on 1 from))) m.1 is.1) in
      rw m.2 (list_within most (place from) m.0.0 all)

  entry_ends_passes : (pair : Pair) (next : Rest) → pair_within most pair ≡ true → Passes (pair_within most) (entry_ends pair next)
  entry_ends_passes pair next is =
      either (pair_within most) (begins 44 next.here) _ _ (next_turn_passes (pair_within most) pair (flow_point (on 1 next)) is)
      (either (pair_within most) (begins 125 next.here) _ _ (one_passes (pair_within most) pair is) tt)

  entry_turn_passes : (pair : Pair) (o : Result Rest YamlEnd) → pair_within most pair ≡ true → Passes (pair_within most) (entry_turn pair o)
  entry_turn_passes pair (Ok next) is = entry_ends_passes pair next is
  entry_turn_passes pair (Err e) is = tt

  value_turn_passes : (key : Tree) (value : Outcome) → IsWithin most key → ((x : Tree × Rest) → value ≡ Ok x → IsWithin most x.0) → Passes (pair_within most) (value_turn key value)
  value_turn_passes key (Ok x) is within = entry_turn_passes (entry key x.0) (flow_point x.1) (entry_within most key x.0 is (within x refl))
  value_turn_passes key (Err e) is within = tt

  value_turns_pass : (key : Tree) (colon : Rest) (o : Result Rest YamlEnd) → IsWithin most key → ((q : Rest) → o ≡ Ok q → size q ≤ most) → (turn : Turn Pair Rest) → ValueTurn Node key colon o turn → Passes (pair_within most) turn
  value_turns_pass key colon (Err e) is fits turn t = rw t tt
  value_turns_pass key colon (Ok next) is fits turn t =
      elim (which (ends_entry next.here) _ _ t) [
        | inl h ↦ rw h.1 (entry_ends_passes (entry key (empty_at colon)) next (entry_within most key (empty_at colon) is (empty_within most colon)))
        | inr h ↦ rw h.1.2 (value_turn_passes key h.1.0 is (λ x e. bounded next x (fits next refl) (subst (Node next) e h.1.1)))
      ]

  key_turn_passes : (from : Rest) (key : Tree) (to : Rest) (o : Result Rest YamlEnd) → IsWithin most key → ((q : Rest) → o ≡ Ok q → size q ≤ most) → (turn : Turn Pair Rest) → KeyTurn Node from key to o turn → Passes (pair_within most) turn
  key_turn_passes from key to (Err e) is fits turn t = rw t tt
  key_turn_passes from key to (Ok next) is fits turn t =
      elim (which (is_keyed from to next) _ _ t) [
        | inl h ↦ value_turns_pass key (on 1 next) (flow_point (on 1 next)) is (λ q e. omega (arith, flow_point-size (on 1 next) q e, on-size 1 next, fits next refl)) turn h.1
        | inr h ↦ rw h.1 (entry_ends_passes (entry key (empty_at to)) next (entry_within most key (empty_at to) is (empty_within most to)))
      ]

  after_key_passes : (before : List Pair) (from : Rest) (key : Outcome) → ((x : Tree × Rest) → key ≡ Ok x → IsWithin most x.0 × (size x.1 ≤ most)) → (turn : Turn Pair Rest) → AfterKey Node before from key turn → Passes (pair_within most) turn
  after_key_passes before from (Err e) known turn t = rw t tt
  after_key_passes before from (Ok x) known turn t =
      elim (which (stands_before x.0 before) _ _ t) [
        | inl h ↦ rw h.1 tt
        | inr h ↦ key_turn_passes from x.0 x.1 (flow_point x.1) (known x refl).0 (λ q e. omega (arith, flow_point-size x.1 q e, (known x refl).1)) turn h.1
      ]

  module _ (Key : Reading) (key_shortens : Shortens Key) (key_bounded : IsBounded most Key) where
    map_turn_passes : TurnsPass most (pair_within most) (MapTurn Node Key)
    map_turn_passes before from turn fits is =
        elim (which (begins 125 from.here) _ _ is) [
          | inl h ↦ rw h.1 refl
          | inr h ↦ after_key_passes before from h.1.0 (λ x e. let key : Key from (Ok x) = subst (Key from) e h.1.1 in (key_bounded from x fits key, omega (arith, key_shortens from x key))) turn h.1.2
        ]

    map_form_within : IsBounded most (MapForm Node Key)
    map_form_within from x fits is =
        let m = map_made-ok (place from) is.0 x (sym is.2) in
        let all = from_next_passes most (pair_within most) (MapTurn Node Key) (map_turn-shortens Node shortens Key key_shortens) map_turn_passes (flow_point (on 1 from)) (λ q e. omega (arith, behind_bracket from q e)) m.0 (subst (FromNext (MapTurn Node Key) (flow_point (on 1 from))) m.1 is.1) in
        rw m.2 (map_within most (place from) m.0.0 all)

    form_of_within : (flow : Bool) (o : Opening) → IsBounded most (FormOf flow Node Key o)
    form_of_within true Plain from x fits form = plain_within most true 0 from x fits (sym form)
    form_of_within false Plain from x fits form = plain_part_within most from x fits (sym form)
    form_of_within flow (Quoted single inside) from x fits form = quoted_within most from single inside x fits (sym form)
    form_of_within flow OpenQuote from x fits form = absurd (cc form)
    form_of_within flow FlowList from x fits form = list_form_within from x fits form
    form_of_within flow FlowMap from x fits form = map_form_within from x fits form
    form_of_within flow (Header style chomping) from x fits form = header_line_within most from x (sym form)
    form_of_within flow (Outside feature) from x fits form = absurd (cc form)
    form_of_within flow Nothing from x fits form = absurd (cc form)

pub form_within : (most : ℕ) (flow maps : Bool) (levels : ℕ) → IsBounded most (Form flow maps levels)
form_within most flow maps zero from x fits form = absurd (cc form)
form_within most flow maps (suc levels) from x fits form =
    form_of_within most (Form true true levels) (form-shortens true true levels) (form_within most true true levels) (Form true false levels) (form-shortens true false levels) (form_within most true false levels) flow (opening flow maps from) from x fits form
