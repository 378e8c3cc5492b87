-- What is written of a tree is a form that gives the tree, but for places.
use Rattle.std.proofs.Common.{◌≡◌, ℕ, zero, suc, ◌+◌, Bool, true, false, ◌&&◌, ◌||◌, ◌==◌, List, [], ◌∷◌, ◌++◌, length, drop, map, Option, Result, Ok, ◌⊎◌, inl, inr, refl, sym, ap, ◌∙◌, subst, append_assoc}
use Rattle.std.specs.Prelude.{MatchBool, codes, if◌then◌else◌}
use Rattle.std.specs.Str.{bytes_eq}
use Rattle.dp_base.specs.declared.place.Place.{Place}
use Rattle.std.specs.List.{All}
use Rattle.std.proofs.lemmas.Bool.{cond-true, cond-false, and_parts, false≢true, eq-eqb}
use Rattle.std.proofs.lemmas.List.Elements.{All-head, All-tail}
use Rattle.yaml_tree.specs.Rest.{Rest, place, on}
use Rattle.yaml_tree.specs.Characters.{begins, is_flow_mark, ends_scalar, is_item}
use Rattle.yaml_tree.specs.Lines.{flow_point}
use Rattle.yaml_tree.specs.Openings.{quote_opening, opening_of}
use Rattle.yaml_tree.specs.Keys.{stands_before}
use Rattle.yaml_tree.specs.Repeats.{Turn, Last}
use Rattle.yaml_tree.specs.Flow.{Reading, may_be_key, is_key_colon, is_keyed, next_turn, item_ends, ListTurn, entry, ends_entry, entry_ends, entry_turn, ValueTurn, KeyTurn, AfterKey, MapTurn, FormOf, Form}
use Rattle.yaml_tree.specs.declared.tree.Tree.{Tree}
use Rattle.yaml_tree.specs.declared.tree.Tree as trees
use Rattle.yaml_tree.specs.declared.tree.Tree.TheVariants as made
use Rattle.yaml_tree.specs.declared.tree.Pair.{Pair}
use Rattle.yaml_tree.specs.declared.tree.Pair as pairs
use Rattle.yaml_tree.specs.declared.tree.YamlEnd.{YamlEnd}
use Rattle.yaml_tree.proofs.BaseText.{MatchBool-no}
use Rattle.content_laws.specs.Writing.{Style, between_quotes, may_be_plain, scalar_by, stands_plain, spaces, colon_gap, write_step, write_pair_step, written, NoneTwice, NoMapForm, IsNoMap, WritableForm, IsWritableIn}
use Rattle.content_laws.proofs.WrittenBlanks.{IsSolid}
use Rattle.content_laws.proofs.WrittenPlain.{PlainText, plain_text, Stop, stop_mark, stop_colon, form_plain, behind_plain}
use Rattle.content_laws.proofs.WrittenScalars.{closes, split_quotes, form_quoted, behind_quoted}
use Rattle.content_laws.proofs.WrittenCodes.{tree_codes, pair_codes, scalar_codes, list_codes, listed_codes, map_codes, mapped_codes, stands_alike}
use Rattle.content_laws.proofs.WrittenTurns.{Starts, next_point, AllFit, Step, enclosed}

-- ---- parts that fit behind those before them

abbrev pub FitsItem : (levels : ℕ) → List Tree → Tree → Type 0
FitsItem levels earlier tree = IsWritableIn levels tree

pub all_items : (levels : ℕ) (earlier xs : List Tree) → All (IsWritableIn levels) xs → AllFit (FitsItem levels) earlier xs
all_items levels earlier [] all = tt
all_items levels earlier (x ∷ xs) all = (All-head (IsWritableIn levels) x xs all, all_items levels (earlier ++ x ∷ []) xs (All-tail (IsWritableIn levels) x xs all))

abbrev pub FitsEntry : (levels : ℕ) → List Pair → Pair → Type 0
FitsEntry levels earlier pair = (stands_before pair.key earlier ≡ false) × (IsWritableIn levels pair.key × IsNoMap pair.key × IsWritableIn levels pair.value)

pub all_entries : (levels : ℕ) (earlier xs : List Pair) → All (λ (entry : Pair). IsWritableIn levels entry.key × IsNoMap entry.key × IsWritableIn levels entry.value) xs → NoneTwice earlier xs → AllFit (FitsEntry levels) earlier xs
all_entries levels earlier [] all none = tt
all_entries levels earlier (x ∷ xs) all none =
    let P : Pair → Type 0 = λ entry. IsWritableIn levels entry.key × IsNoMap entry.key × IsWritableIn levels entry.value in
    ((none.0, All-head P x xs all), all_entries levels (earlier ++ x ∷ []) xs (All-tail P x xs all) none.1)

module _ (s : Style) where
  -- ---- the text, one step into a tree

  abbrev pub written_pair : Pair → List ℕ
  written_pair = pairs.fold-Pair (List ℕ) (List ℕ) (write_step s) (write_pair_step s)

  abbrev pub written_form : trees.Tree-F Tree Pair → List ℕ
  written_form form = write_step s (trees.map-Tree Tree Pair (List ℕ) (List ℕ) (written s) written_pair form)

  pub written-form : (tree : Tree) (form : trees.Tree-F Tree Pair) → trees.out-Tree tree ≡ form → written s tree ≡ written_form form
  written-form tree form is = trees.fold_out-Tree (List ℕ) (List ℕ) (write_step s) (write_pair_step s) tree ∙ ap written_form is

  pub written-pair : (pair : Pair) → written_pair pair ≡ written s pair.key ++ 58 ∷ (spaces (colon_gap s) ++ written s pair.value)
  written-pair pair = pairs.fold_out-Pair (List ℕ) (List ℕ) (write_step s) (write_pair_step s) pair

  -- ---- how it begins

  -- a byte with which what is written of a tree may begin
  pub record IsFirst (byte : ℕ) : Type 0 where
    pub solid : IsSolid byte
    pub no_comma : (byte == 44) ≡ false
    pub no_list_end : (byte == 93) ≡ false
    pub no_map_end : (byte == 125) ≡ false
    pub no_directive : (byte == 37) ≡ false
    pub no_dot : (byte == 46) ≡ false
    pub no_space : (byte == 32) ≡ false
    pub no_mark : (byte == 239) ≡ false

  pub record Begun (text : List ℕ) : Type 0 where
    pub byte : ℕ
    pub more : List ℕ
    pub is : text ≡ byte ∷ more
    pub first : IsFirst byte
    pub no_item : (behind : List ℕ) → is_item (text ++ behind) ≡ false
    pub no_start : (behind : List ℕ) → bytes_eq (text ++ behind) (codes "---") ≡ false

  quote_first : IsFirst 34
  quote_first = record { solid = record { no_blank = refl; no_comment = refl }; no_comma = refl; no_list_end = refl; no_map_end = refl; no_directive = refl; no_dot = refl; no_space = refl; no_mark = refl }

  list_first : IsFirst 91
  list_first = record { solid = record { no_blank = refl; no_comment = refl }; no_comma = refl; no_list_end = refl; no_map_end = refl; no_directive = refl; no_dot = refl; no_space = refl; no_mark = refl }

  map_first : IsFirst 123
  map_first = record { solid = record { no_blank = refl; no_comment = refl }; no_comma = refl; no_list_end = refl; no_map_end = refl; no_directive = refl; no_dot = refl; no_space = refl; no_mark = refl }

  begun_plain : (text : List ℕ) → PlainText text → Begun text
  begun_plain text p = record {
    byte = p.byte;
    more = p.more;
    is = p.is;
    first = record { solid = p.solid; no_comma = p.no_comma; no_list_end = p.no_list_end; no_map_end = p.no_map_end; no_directive = p.no_directive; no_dot = p.no_dot; no_space = p.no_space; no_mark = p.no_mark };
    no_item = p.no_item;
    no_start = p.no_start;
  }

  -- a scalar that stands plain
  pub its_plain : (text : List ℕ) → stands_plain s text ≡ true → PlainText text
  its_plain text is = plain_text text (and_parts s.plain (may_be_plain text) is).1

  begun_scalar : (text : List ℕ) (b : Bool) → stands_plain s text ≡ b → Begun (scalar_by b text)
  begun_scalar text true is = begun_plain text (its_plain text is)
  begun_scalar text false is = record { byte = 34; more = _; is = refl; first = quote_first; no_item = λ behind. refl; no_start = λ behind. refl }

  begun_form : (form : trees.Tree-F Tree Pair) → Begun (written_form form)
  begun_form (trees.Tree-F.Scalar at text) = begun_scalar text (stands_plain s text) refl
  begun_form (trees.Tree-F.List at items) = record { byte = 91; more = _; is = refl; first = list_first; no_item = λ behind. refl; no_start = λ behind. refl }
  begun_form (trees.Tree-F.Map at entries) = record { byte = 123; more = _; is = refl; first = map_first; no_item = λ behind. refl; no_start = λ behind. refl }

  pub begun : (tree : Tree) → Begun (written s tree)
  begun tree = subst Begun (sym (written-form tree (trees.out-Tree tree) refl)) (begun_form (trees.out-Tree tree))

  pub begun_then : (text behind : List ℕ) → Begun text → Begun (text ++ behind)
  begun_then text behind b = record {
    byte = b.byte;
    more = b.more ++ behind;
    is = ap (λ (t : List ℕ). t ++ behind) b.is;
    first = b.first;
    no_item = λ more. ap is_item (append_assoc text behind more) ∙ b.no_item (behind ++ more);
    no_start = λ more. ap (λ (t : List ℕ). bytes_eq t (codes "---")) (append_assoc text behind more) ∙ b.no_start (behind ++ more);
  }

  pub as_starts : (text : List ℕ) → Begun text → Starts text
  as_starts text b = record { byte = b.byte; more = b.more; is = b.is; solid = b.first.solid }

  pub starts_tree : (tree : Tree) → Starts (written s tree)
  starts_tree tree = as_starts (written s tree) (begun tree)

  begun_pair : (pair : Pair) → Begun (written_pair pair)
  begun_pair pair = subst Begun (sym (written-pair pair)) (begun_then (written s pair.key) (58 ∷ (spaces (colon_gap s) ++ written s pair.value)) (begun pair.key))

  starts_pair : (pair : Pair) → Starts (written_pair pair)
  starts_pair pair = as_starts (written_pair pair) (begun_pair pair)

  -- ---- what reading it gives

  pub record ReadAs (Node : Reading) (tree : Tree) (from : Rest) (behind : List ℕ) : Type 0 where
    pub read : Tree
    pub left : Rest
    pub form : Node from (Ok (read, left))
    pub here : left.here ≡ behind
    pub line : left.line ≡ from.line
    pub below : left.below ≡ from.below
    pub same : tree_codes tree ≡ tree_codes read

  -- what may end a plain scalar ends it
  abbrev pub is_plain_form : trees.Tree-F Tree Pair → Bool
  is_plain_form (trees.Tree-F.Scalar at text) = stands_plain s text
  is_plain_form (trees.Tree-F.List at items) = false
  is_plain_form (trees.Tree-F.Map at entries) = false

  abbrev pub Stops : trees.Tree-F Tree Pair → (flow : Bool) → (behind : List ℕ) → Type 0
  Stops form flow behind = is_plain_form form ≡ true → Stop flow behind

  plain_style : (form : trees.Tree-F Tree Pair) → is_plain_form form ≡ true → s.plain ≡ true
  plain_style (trees.Tree-F.Scalar at text) is = (and_parts s.plain (may_be_plain text) is).0
  plain_style (trees.Tree-F.List at items) is = absurd (false≢true is)
  plain_style (trees.Tree-F.Map at entries) is = absurd (false≢true is)

  -- behind the `:` of a plain key stands a space
  gap_ends : (behind : List ℕ) → s.plain ≡ true → ends_scalar true (spaces (colon_gap s) ++ behind) ≡ true
  gap_ends behind is = ap (λ (b : Bool). ends_scalar true (spaces (if b then suc s.gap else s.gap) ++ behind)) is

  abbrev pub Claim : (levels : ℕ) → Type 0
  Claim levels = (flow maps : Bool) (tree : Tree) (from : Rest) (behind : List ℕ) → IsWritableIn levels tree → (maps ≡ false → IsNoMap tree) → Stops (trees.out-Tree tree) flow behind
      → from.here ≡ written s tree ++ behind → ReadAs (Form flow maps levels) tree from behind

  -- at the next point stands a byte
  at_byte : (b : ℕ) (next : Rest) (byte : ℕ) (more : List ℕ) (is : Bool) → next.here ≡ byte ∷ more → (byte == b) ≡ is → begins b next.here ≡ is
  at_byte b next byte more is here e = ap (begins b) here ∙ e

  module _ (levels : ℕ) (claim : Claim levels) where
    abbrev Inner : Reading
    Inner = Form true true levels

    -- ---- lists

    item_read : (before : List Tree) (x : Tree) (from next : Rest) (behind : List ℕ) (turn : Turn Tree Rest) (one : ReadAs Inner x from behind) → begins 93 from.here ≡ false
        → flow_point one.left ≡ Ok next → item_ends from one.read one.left (Ok next) ≡ turn → ListTurn Inner before from turn
    item_read before x from next behind turn one no_end point ends =
        MatchBool-no (begins 93 from.here) _ _ no_end (Ok (one.read, one.left), one.form, sym (ap (item_ends from one.read one.left) point ∙ ends))

    item_step : (earlier before : List Tree) (x : Tree) (from : Rest) (k byte : ℕ) (more : List ℕ)
        → map tree_codes before ≡ map tree_codes earlier → FitsItem levels earlier x → IsSolid byte → is_flow_mark byte ≡ true → from.here ≡ written s x ++ (spaces k ++ byte ∷ more)
        → Step tree_codes (written s) (FitsItem levels) (ListTurn Inner) s.gap 93 before x from byte more
    item_step earlier before x from k byte more known fit solid mark is =
        let behind : List ℕ = spaces k ++ byte ∷ more in
        let one = claim true true x from behind fit (λ e. absurd cc) (λ e. stop_mark k byte more mark) is in
        let point = next_point one.left k (byte ∷ more) (record { byte = byte; more = more; is = refl; solid = solid }) one.here in
        let first = begun_then (written s x) behind (begun x) in
        let no_end : begins 93 from.here ≡ false = at_byte 93 from first.byte first.more false (is ∙ first.is) first.first.no_list_end in
        record {
          read = one.read;
          next = point.next;
          here = point.here_is;
          line = point.line ∙ one.line;
          below = point.below ∙ one.below;
          same = one.same;
          on_comma = λ comma. item_read before x from point.next behind (next_turn one.read (flow_point (on 1 point.next))) one no_end point.is
              (cond-true (begins 44 point.next.here) _ _ (at_byte 44 point.next byte more true point.here_is (ap (λ (b : ℕ). b == 44) comma)));
          on_close = λ close. item_read before x from point.next behind (Last (one.read ∷ []) (on 1 point.next)) one no_end point.is
              (cond-false (begins 44 point.next.here) _ _ (at_byte 44 point.next byte more false point.here_is (ap (λ (b : ℕ). b == 44) close))
              ∙ cond-true (begins 93 point.next.here) _ _ (at_byte 93 point.next byte more true point.here_is (ap (λ (b : ℕ). b == 93) close)));
        }

    -- ---- keys

    abbrev Key : Reading
    Key = Form true false levels

    abbrev keyed_at : (ragged one_line : Bool) → (here colon : List ℕ) → Bool
    keyed_at ragged one_line here colon = may_be_key (opening_of true true ragged here) one_line && is_key_colon (opening_of true true ragged here) colon

    keyed_scalar : (text : List ℕ) (b ragged one_line : Bool) (here colon behind more : List ℕ) → stands_plain s text ≡ b → here ≡ scalar_by b text ++ behind → colon ≡ 58 ∷ more → one_line ≡ true → (s.plain ≡ true → ends_scalar true more ≡ true)
        → keyed_at ragged one_line here colon ≡ true
    keyed_scalar text true ragged one_line here colon behind more plain is follows line ends =
        let p = its_plain text plain in
        ap (λ (h : List ℕ). keyed_at ragged one_line h colon) is
        ∙ ap (λ o. may_be_key o one_line && is_key_colon o colon) (p.opens true true ragged behind)
        ∙ (λ i. line i && (begins 58 (follows i) && ends_scalar true (drop 1 (follows i))))
        ∙ ends (and_parts s.plain (may_be_plain text) plain).0
    keyed_scalar text false ragged one_line here colon behind more plain is follows line ends =
        ap (λ (h : List ℕ). keyed_at ragged one_line h colon) (is ∙ split_quotes text behind)
        ∙ ap (λ (o : Option (List ℕ)). may_be_key (quote_opening false o) one_line && is_key_colon (quote_opening false o) colon) (closes text behind)
        ∙ ap (begins 58) follows

    keyed_form : (form : trees.Tree-F Tree Pair) (ragged one_line : Bool) (here colon behind more : List ℕ) → NoMapForm form → here ≡ written_form form ++ behind → colon ≡ 58 ∷ more → one_line ≡ true → (s.plain ≡ true → ends_scalar true more ≡ true)
        → keyed_at ragged one_line here colon ≡ true
    keyed_form (trees.Tree-F.Scalar at text) ragged one_line here colon behind more no_map is follows line ends = keyed_scalar text (stands_plain s text) ragged one_line here colon behind more refl is follows line ends
    keyed_form (trees.Tree-F.List at items) ragged one_line here colon behind more no_map is follows line ends =
        ap (λ (h : List ℕ). keyed_at ragged one_line h colon) is ∙ ap (begins 58) follows
    keyed_form (trees.Tree-F.Map at entries) ragged one_line here colon behind more no_map is follows line ends = absurd no_map

    keyed : (key : Tree) (from to colon : Rest) (behind more : List ℕ) → IsNoMap key → from.here ≡ written s key ++ behind → colon.here ≡ 58 ∷ more → (from.line == to.line) ≡ true → (s.plain ≡ true → ends_scalar true more ≡ true) → is_keyed from to colon ≡ true
    keyed key from to colon behind more no_map is follows line ends =
        keyed_form (trees.out-Tree key) from.ragged (from.line == to.line) from.here colon.here behind more no_map
        (is ∙ ap (λ (t : List ℕ). t ++ behind) (written-form key (trees.out-Tree key) refl)) follows line ends

    -- ---- entries

    MatchBool-yes : (b : Bool) (P Q : Type 0) → b ≡ true → P → MatchBool b P Q
    MatchBool-yes b P Q e p = let R : Bool → Type 0 = λ x. MatchBool x P Q in subst R (sym e) p

    value_read : (key : Tree) (colon next value_next : Rest) (value : Tree) (left : Rest) (turn : Turn Pair Rest) → ends_entry next.here ≡ false → Inner next (Ok (value, left))
        → flow_point left ≡ Ok value_next → entry_ends (entry key value) value_next ≡ turn → ValueTurn Inner key colon (Ok next) turn
    value_read key colon next value_next value left turn begun_value form point ends =
        MatchBool-no (ends_entry next.here) _ _ begun_value (Ok (value, left), form, sym (ap (entry_turn (entry key value)) point ∙ ends))

    key_read : (before : List Pair) (from : Rest) (key : Tree) (to colon next : Rest) (turn : Turn Pair Rest) → stands_before key before ≡ false → flow_point to ≡ Ok colon
        → is_keyed from to colon ≡ true → flow_point (on 1 colon) ≡ Ok next → ValueTurn Inner key (on 1 colon) (Ok next) turn → AfterKey Inner before from (Ok (key, to)) turn
    key_read before from key to colon next turn fresh point is_key value_point value =
        MatchBool-no (stands_before key before) _ _ fresh
        (subst (λ (p : Result Rest YamlEnd). KeyTurn Inner from key to p turn) (sym point)
        (MatchBool-yes (is_keyed from to colon) _ _ is_key
        (subst (λ (p : Result Rest YamlEnd). ValueTurn Inner key (on 1 colon) p turn) (sym value_point) value)))

    entry_step : (earlier before : List Pair) (x : Pair) (from : Rest) (k byte : ℕ) (more : List ℕ)
        → map pair_codes before ≡ map pair_codes earlier → FitsEntry levels earlier x → IsSolid byte → is_flow_mark byte ≡ true → from.here ≡ written_pair x ++ (spaces k ++ byte ∷ more)
        → Step pair_codes written_pair (FitsEntry levels) (MapTurn Inner Key) s.gap 125 before x from byte more
    entry_step earlier before x from k byte more known fit solid mark is =
        let behind : List ℕ = spaces k ++ byte ∷ more in
        let value_on : List ℕ = written s x.value ++ behind in
        let split : from.here ≡ written s x.key ++ (58 ∷ (spaces (colon_gap s) ++ value_on)) =
        is ∙ ap (λ (t : List ℕ). t ++ behind) (written-pair x) ∙ append_assoc (written s x.key) (58 ∷ (spaces (colon_gap s) ++ written s x.value)) behind
        ∙ ap (λ (t : List ℕ). written s x.key ++ (58 ∷ t)) (append_assoc (spaces (colon_gap s)) (written s x.value) behind) in
        let key = claim true false x.key from (58 ∷ (spaces (colon_gap s) ++ value_on)) fit.1.0 (λ e. fit.1.1) (λ e. stop_colon true (spaces (colon_gap s) ++ value_on) (gap_ends value_on (plain_style (trees.out-Tree x.key) e))) split in
        let colon = next_point key.left 0 (58 ∷ (spaces (colon_gap s) ++ value_on)) (record { byte = 58; more = spaces (colon_gap s) ++ value_on; is = refl; solid = record { no_blank = refl; no_comment = refl } }) key.here in
        let value_begun = begun_then (written s x.value) behind (begun x.value) in
        let at_value = next_point (on 1 colon.next) (colon_gap s) value_on (as_starts value_on value_begun) (ap (drop 1) colon.here_is) in
        let value = claim true true x.value at_value.next behind fit.1.2 (λ e. absurd cc) (λ e. stop_mark k byte more mark) at_value.here_is in
        let point = next_point value.left k (byte ∷ more) (record { byte = byte; more = more; is = refl; solid = solid }) value.here in
        let first = begun_then (written s x.key) (58 ∷ (spaces (colon_gap s) ++ value_on)) (begun x.key) in
        let no_end : begins 125 from.here ≡ false = at_byte 125 from first.byte first.more false (split ∙ first.is) first.first.no_map_end in
        let begins_value : ends_entry at_value.next.here ≡ false =
        (λ i. at_byte 44 at_value.next value_begun.byte value_begun.more false (at_value.here_is ∙ value_begun.is) value_begun.first.no_comma i
        || at_byte 125 at_value.next value_begun.byte value_begun.more false (at_value.here_is ∙ value_begun.is) value_begun.first.no_map_end i) in
        let fresh : stands_before key.read before ≡ false = stands_alike x.key key.read before earlier key.same known ∙ fit.0 in
        let is_key : is_keyed from key.left colon.next ≡ true = keyed x.key from key.left colon.next (58 ∷ (spaces (colon_gap s) ++ value_on)) (spaces (colon_gap s) ++ value_on) fit.1.1 split colon.here_is (eq-eqb from.line key.left.line (sym key.line)) (gap_ends value_on) in
        let whole : (turn : Turn Pair Rest) → entry_ends (entry key.read value.read) point.next ≡ turn → MapTurn Inner Key before from turn = λ turn ends.
        MatchBool-no (begins 125 from.here) _ _ no_end (
          Ok (key.read, key.left),
          key.form,
          key_read before from key.read key.left colon.next at_value.next turn fresh colon.is is_key at_value.is
              (value_read key.read (on 1 colon.next) at_value.next point.next value.read value.left turn begins_value value.form point.is ends),
        ) in
        record {
          read = entry key.read value.read;
          next = point.next;
          here = point.here_is;
          line = point.line ∙ value.line ∙ at_value.line ∙ colon.line ∙ key.line;
          below = point.below ∙ value.below ∙ at_value.below ∙ colon.below ∙ key.below;
          same = λ i. (key.same i, value.same i);
          on_comma = λ comma. whole (next_turn (entry key.read value.read) (flow_point (on 1 point.next)))
              (cond-true (begins 44 point.next.here) _ _ (at_byte 44 point.next byte more true point.here_is (ap (λ (b : ℕ). b == 44) comma)));
          on_close = λ close. whole (Last (entry key.read value.read ∷ []) (on 1 point.next))
              (cond-false (begins 44 point.next.here) _ _ (at_byte 44 point.next byte more false point.here_is (ap (λ (b : ℕ). b == 44) close))
              ∙ cond-true (begins 125 point.next.here) _ _ (at_byte 125 point.next byte more true point.here_is (ap (λ (b : ℕ). b == 125) close)));
        }

    -- ---- forms

    no_items : (from : Rest) (behind : List ℕ) → from.here ≡ 93 ∷ behind → ListTurn Inner [] from (Last [] (on 1 from))
    no_items from behind is = MatchBool-yes (begins 93 from.here) _ _ (ap (begins 93) is) refl

    no_entries : (from : Rest) (behind : List ℕ) → from.here ≡ 125 ∷ behind → MapTurn Inner Key [] from (Last [] (on 1 from))
    no_entries from behind is = MatchBool-yes (begins 125 from.here) _ _ (ap (begins 125) is) refl

    closing : (byte : ℕ) → (byte ≡ 93) ⊎ (byte ≡ 125) → IsSolid byte
    closing byte (inl e) = subst IsSolid (sym e) (record { no_blank = refl; no_comment = refl })
    closing byte (inr e) = subst IsSolid (sym e) (record { no_blank = refl; no_comment = refl })

    scalar_read : (flow maps : Bool) (tree : Tree) (at : Place) (text : List ℕ) (b : Bool) (from : Rest) (behind : List ℕ) → trees.out-Tree tree ≡ trees.Tree-F.Scalar at text → stands_plain s text ≡ b
        → (b ≡ true → Stop flow behind) → from.here ≡ scalar_by b text ++ behind → ReadAs (Form flow maps (suc levels)) tree from behind
    scalar_read flow maps tree at text true from behind is plain stop here =
        let p = its_plain text plain in
        record {
          read = made.Scalar (place from) text;
          left = on (length text) from;
          form = form_plain from text behind p here flow maps Inner Key (stop refl);
          here = behind_plain from text behind p here;
          line = refl;
          below = refl;
          same = scalar_codes tree at text is ∙ sym (scalar_codes (made.Scalar (place from) text) (place from) text (made.outs-Scalar (place from) text));
        }
    scalar_read flow maps tree at text false from behind is plain stop here = record {
      read = made.Scalar (place from) text;
      left = on (length (between_quotes text) + 2) from;
      form = form_quoted flow maps Inner Key from text behind here;
      here = behind_quoted text behind from.here here;
      line = refl;
      below = refl;
      same = scalar_codes tree at text is ∙ sym (scalar_codes (made.Scalar (place from) text) (place from) text (made.outs-Scalar (place from) text));
    }

    form_read : (flow maps : Bool) (tree : Tree) (form : trees.Tree-F Tree Pair) (from : Rest) (behind : List ℕ) → trees.out-Tree tree ≡ form → WritableForm (IsWritableIn levels) form
        → (maps ≡ false → NoMapForm form) → Stops form flow behind → from.here ≡ written_form form ++ behind → ReadAs (Form flow maps (suc levels)) tree from behind
    form_read flow maps tree (trees.Tree-F.Scalar at text) from behind is fit no_map stop here = scalar_read flow maps tree at text (stands_plain s text) from behind is refl stop here
    form_read flow maps tree (trees.Tree-F.List at items) from behind is fit no_map stop here =
        let all = enclosed tree_codes (written s) (FitsItem levels) (ListTurn Inner) s.gap 93 starts_tree (closing 93 (inl refl)) refl item_step no_items 91 items from behind (all_items levels [] items fit) here in
        record {
          read = made.List (place from) all.read;
          left = all.left;
          form = subst (λ (h : List ℕ). FormOf flow Inner Key (opening_of flow maps from.ragged h) from (Ok (made.List (place from) all.read, all.left))) (sym here)
              (Ok (all.read, all.left), all.form, refl);
          here = all.here;
          line = all.line;
          below = all.below;
          same = listed_codes tree at items is ∙ ap list_codes all.same ∙ sym (listed_codes (made.List (place from) all.read) (place from) all.read (made.outs-List (place from) all.read));
        }
    form_read flow true tree (trees.Tree-F.Map at entries) from behind is fit no_map stop here =
        let all = enclosed pair_codes written_pair (FitsEntry levels) (MapTurn Inner Key) s.gap 125 starts_pair (closing 125 (inr refl)) refl entry_step no_entries 123 entries from behind (all_entries levels [] entries fit.0 fit.1) here in
        record {
          read = made.Map (place from) all.read;
          left = all.left;
          form = subst (λ (h : List ℕ). FormOf flow Inner Key (opening_of flow true from.ragged h) from (Ok (made.Map (place from) all.read, all.left))) (sym here)
              (Ok (all.read, all.left), all.form, refl);
          here = all.here;
          line = all.line;
          below = all.below;
          same = mapped_codes tree at entries is ∙ ap map_codes all.same ∙ sym (mapped_codes (made.Map (place from) all.read) (place from) all.read (made.outs-Map (place from) all.read));
        }
    form_read flow false tree (trees.Tree-F.Map at entries) from behind is fit no_map stop here = absurd (no_map refl)

  pub reads_back : (levels : ℕ) → Claim levels
  unfolding IsWritableIn
  reads_back zero flow maps tree from behind fit no_map stop is = absurd fit
  reads_back (suc levels) flow maps tree from behind fit no_map stop is =
      form_read levels (reads_back levels) flow maps tree (trees.out-Tree tree) from behind refl fit no_map stop
      (is ∙ ap (λ (t : List ℕ). t ++ behind) (written-form tree (trees.out-Tree tree) refl))
