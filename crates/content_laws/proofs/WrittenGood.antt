-- The lines of a tree in block style are good: UTF-8, with something in front and at the end, and no line that marks documents.
use Rattle.std.proofs.Common.{◌≡◌, ℕ, zero, suc, ◌+◌, Bool, true, false, ◌&&◌, ◌==◌, List, [], ◌∷◌, ◌++◌, refl, sym, ap, ◌∙◌, append_assoc, append-nil, arith}
use Rattle.std.specs.Prelude.{codes}
use Rattle.std.specs.List.{All, flat_map}
use Rattle.std.specs.Str.{bytes_eq}
use Rattle.std.proofs.lemmas.List.Elements.{All-head, All-tail}
use Rattle.std.proofs.lemmas.Bool.{false≢true}
use Rattle.dp_base.specs.Bytes.{is_blank}
use Rattle.yaml_tree.specs.Characters.{begins}
use Rattle.yaml_tree.specs.declared.tree.Tree.{Tree}
use Rattle.yaml_tree.specs.declared.tree.Tree as trees
use Rattle.yaml_tree.specs.declared.tree.Pair.{Pair}
use Rattle.content_laws.specs.Writing.{Style, spaces, written, IsNoMap, WritableForm, IsWritableIn}
use Rattle.content_laws.specs.BlockWriting.{Layout, Line, form_in_line, is_in_line, behind_front, item_lines, value_lines, entry_lines, block_lines}
use Rattle.content_laws.proofs.WrittenForms.{Begun, begun, begun_then}
use Rattle.content_laws.proofs.WrittenBytes.{IsLine, Ended, ended, tree_line, spaces_line, one_line, both}
use Rattle.content_laws.proofs.WrittenBlocks.{no_line, lines_of}
use Rattle.content_laws.proofs.WrittenScan.{IsGood, AllGood, all_good}

-- ---- one line

module _ (s : Style) where
  good_text : (text : List ℕ) → IsLine text → Begun s text → Ended s text → IsGood text
  good_text text line first end = record {
    text_is = record {
      line = line;
      byte = first.byte;
      more = first.more;
      is = first.is;
      solid = first.first.solid;
      no_space = first.first.no_space;
      no_mark = first.first.no_mark;
      front = end.front;
      last = end.last;
      ends = end.is;
      no_blank = end.no_blank;
      no_return = end.no_return;
    };
    no_directive = ap (begins 37) first.is ∙ first.first.no_directive;
    no_start = ap (λ (t : List ℕ). bytes_eq t (codes "---")) (sym (append-nil text)) ∙ first.no_start [];
    no_end = ap (λ (t : List ℕ). bytes_eq t (codes "...")) first.is ∙ ap (λ (c : Bool). c && bytes_eq first.more (46 ∷ 46 ∷ [])) first.first.no_dot;
  }

  good_tree : (levels : ℕ) (tree : Tree) → IsWritableIn levels tree → IsGood (written s tree)
  good_tree levels tree fit = good_text (written s tree) (tree_line s levels tree fit) (begun s tree) (ended s tree)

  -- a key, `:` and what stands behind that
  good_key : (levels : ℕ) (key : Tree) (rest front : List ℕ) (last : ℕ) → IsWritableIn levels key → IsLine (58 ∷ rest) → 58 ∷ rest ≡ front ++ last ∷ [] → is_blank last ≡ false → (last == 13) ≡ false → IsGood (written s key ++ 58 ∷ rest)
  good_key levels key rest front last fit line ends no_blank no_return =
      good_text (written s key ++ 58 ∷ rest) (both (written s key) (58 ∷ rest) (tree_line s levels key fit) line) (begun_then s (written s key) (58 ∷ rest) (begun s key))
      (record {
        front = written s key ++ front;
        last = last;
        is = ap (λ (t : List ℕ). written s key ++ t) ends ∙ sym (append_assoc (written s key) front (last ∷ []));
        no_blank = no_blank;
        no_return = no_return;
      })

good_item : (k : ℕ) (text : List ℕ) → IsGood text → IsGood (45 ∷ (spaces (suc k) ++ text))
good_item k text good =
    let t = good.text_is in
    record {
      text_is = record {
        line = both (45 ∷ []) (spaces (suc k) ++ text) (one_line 45 (omega arith) refl) (both (spaces (suc k)) text (spaces_line (suc k)) t.line);
        byte = 45;
        more = spaces (suc k) ++ text;
        is = refl;
        solid = record { no_blank = refl; no_comment = refl };
        no_space = refl;
        no_mark = refl;
        front = 45 ∷ (spaces (suc k) ++ t.front);
        last = t.last;
        ends = ap (λ (x : List ℕ). 45 ∷ (spaces (suc k) ++ x)) t.ends ∙ ap (λ (x : List ℕ). 45 ∷ x) (sym (append_assoc (spaces (suc k)) t.front (t.last ∷ [])));
        no_blank = t.no_blank;
        no_return = t.no_return;
      };
      no_directive = refl;
      no_start = refl;
      no_end = refl;
    }

-- ---- all lines

module _ (l : Layout) where
  module _ (levels : ℕ) (each : (indent : ℕ) (tree : Tree) → IsWritableIn levels tree → AllGood (block_lines l levels indent tree)) where
    abbrev Node : ℕ → Tree → List Line
    Node = block_lines l levels

    good_behind : (indent : ℕ) (lines : List Line) → AllGood lines → AllGood (behind_front indent (45 ∷ spaces (suc l.behind)) lines)
    good_behind indent [] good = tt
    good_behind indent (line ∷ lines) good = (good_item l.behind line.1 good.0, good.1)

    good_items : (indent : ℕ) (xs : List Tree) → All (IsWritableIn levels) xs → AllGood (flat_map (item_lines l Node indent) xs)
    good_items indent [] fits = tt
    good_items indent (x ∷ xs) fits =
        let deeper : ℕ = indent + 2 + l.behind in
        all_good (item_lines l Node indent x) (flat_map (item_lines l Node indent) xs)
        (good_behind indent (Node deeper x) (each deeper x (All-head (IsWritableIn levels) x xs fits)))
        (good_items indent xs (All-tail (IsWritableIn levels) x xs fits))

    good_value : (in_line : Bool) (indent : ℕ) (key value : Tree) → IsWritableIn levels key → IsWritableIn levels value → AllGood (value_lines l Node indent (written l.style key) in_line value)
    good_value true indent key value fit value_fit =
        let end = ended l.style value in
        let rest : List ℕ = spaces (suc l.behind) ++ written l.style value in
        let line : IsLine (58 ∷ rest) = both (58 ∷ []) rest (one_line 58 (omega arith) refl) (both (spaces (suc l.behind)) (written l.style value) (spaces_line (suc l.behind)) (tree_line l.style levels value value_fit)) in
        let ends : 58 ∷ rest ≡ (58 ∷ (spaces (suc l.behind) ++ end.front)) ++ end.last ∷ [] =
        ap (λ (t : List ℕ). 58 ∷ (spaces (suc l.behind) ++ t)) end.is ∙ ap (λ (t : List ℕ). 58 ∷ t) (sym (append_assoc (spaces (suc l.behind)) end.front (end.last ∷ []))) in
        (good_key l.style levels key rest (58 ∷ (spaces (suc l.behind) ++ end.front)) end.last fit line ends end.no_blank end.no_return, tt)
    good_value false indent key value fit value_fit =
        (good_key l.style levels key [] [] 58 fit (one_line 58 (omega arith) refl) refl refl refl, each _ value value_fit)

    good_entries : (indent : ℕ) (xs : List Pair) → All (λ (entry : Pair). IsWritableIn levels entry.key × IsNoMap entry.key × IsWritableIn levels entry.value) xs → AllGood (flat_map (entry_lines l Node indent) xs)
    good_entries indent [] fits = tt
    good_entries indent (x ∷ xs) fits =
        let P : Pair → Type 0 = λ entry. IsWritableIn levels entry.key × IsNoMap entry.key × IsWritableIn levels entry.value in
        let fit = All-head P x xs fits in
        all_good (entry_lines l Node indent x) (flat_map (entry_lines l Node indent) xs) (good_value (is_in_line l x.value) indent x.key x.value fit.0 fit.2) (good_entries indent xs (All-tail P x xs fits))

    good_form : (indent : ℕ) (tree : Tree) (in_line : Bool) (form : trees.Tree-F Tree Pair) → (in_line ≡ false → form_in_line form ≡ false) → IsWritableIn (suc levels) tree → WritableForm (IsWritableIn levels) form
        → AllGood (lines_of l Node indent (written l.style tree) in_line form)
    good_form indent tree true form block fit parts = (good_tree l.style (suc levels) tree fit, tt)
    good_form indent tree false (trees.Tree-F.Scalar at text) block fit parts = absurd (false≢true (sym (block refl)))
    good_form indent tree false (trees.Tree-F.List at items) block fit parts = good_items indent items parts
    good_form indent tree false (trees.Tree-F.Map at entries) block fit parts = good_entries indent entries parts.0

  pub good_lines : (levels indent : ℕ) (tree : Tree) → IsWritableIn levels tree → AllGood (block_lines l levels indent tree)
  unfolding IsWritableIn block_lines
  good_lines zero indent tree fit = absurd fit
  good_lines (suc levels) indent tree fit = good_form levels (good_lines levels) indent tree (is_in_line l tree) (trees.out-Tree tree) (no_line l tree) fit fit
