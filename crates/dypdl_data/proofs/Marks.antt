-- Members by marks are the members by names.
use Rattle.std.proofs.Common.{◌≡◌, ℕ, zero, suc, ◌+◌, ◌<◌, Bool, true, false, ◌||◌, cond, nat_eq, nat_lt, List, [], ◌∷◌, ◌++◌, filter, replicate, slice_set, if◌then◌else◌, None, Ok, Err, refl, sym, ap, ◌∙◌, arith}
use Rattle.std.specs.List.{range_with_len}
use Rattle.std.proofs.lemmas.Bool.Decides.{nat_tests}
use Rattle.std.proofs.lemmas.List.Folds.{list_any-append}
use Rattle.dp_base.specs.Results.{◌>>=◌, each}
use Rattle.dp_model.specs.Evaluation.{has, members_where}
use Rattle.yaml_tree.specs.declared.tree.Tree.{Tree}
use Rattle.yaml_tree.specs.Fields.{tree_place}
use Rattle.dypdl_nodes.specs.Reads.{Reads, Refusal}
use Rattle.dypdl_nodes.specs.Shapes.{items_of}
use Rattle.dypdl_nodes.specs.Scalars.{count_of, index_of}
use Rattle.dypdl_data.specs.Tables.{member_step, members_of}
use Rattle.dypdl_data.specs.Marks.{mark_step, marked_from, marked_in}

-- whether each member is named, from k on
abbrev marks_from : (k n : ℕ) → List ℕ → List Bool
marks_from k zero named = []
marks_from k (suc n) named = has named k ∷ marks_from (k + 1) n named

or_last : (a b : Bool) → a || (b || false) ≡ a || b
or_last true b = refl
or_last false true = refl
or_last false false = refl

has_push : (named : List ℕ) (m k : ℕ) → has (named ++ m ∷ []) k ≡ has named k || nat_eq k m
has_push named m k = list_any-append (nat_eq k) named (m ∷ []) ∙ or_last (has named k) (nat_eq k m)

or_no : (a : Bool) → a || false ≡ a
or_no true = refl
or_no false = refl

or_yes : (a : Bool) → a || true ≡ true
or_yes true = refl
or_yes false = refl

has_other : (named : List ℕ) (m k : ℕ) → m < k → has (named ++ m ∷ []) k ≡ has named k
has_other named m k h =
    let other : nat_eq k m ≡ false = grind (arith, nat_tests) in
    has_push named m k ∙ ap (λ (b : Bool). has named k || b) other ∙ or_no (has named k)

has_later : (named : List ℕ) (m k : ℕ) → k < m → has (named ++ m ∷ []) k ≡ has named k
has_later named m k h =
    let other : nat_eq k m ≡ false = grind (arith, nat_tests) in
    has_push named m k ∙ ap (λ (b : Bool). has named k || b) other ∙ or_no (has named k)

has_itself : (named : List ℕ) (k : ℕ) → has (named ++ k ∷ []) k ≡ true
has_itself named k =
    let same : nat_eq k k ≡ true = grind (arith, nat_tests) in
    has_push named k k ∙ ap (λ (b : Bool). has named k || b) same ∙ or_yes (has named k)

two : (a b : Bool) (ms ns : List Bool) → a ≡ b → ms ≡ ns → a ∷ ms ≡ b ∷ ns
two a b ms ns e h = rw (e, h) refl

none_named : (k n : ℕ) → replicate n false ≡ marks_from k n []
none_named k zero = refl
none_named k (suc n) = ap (λ (ms : List Bool). false ∷ ms) (none_named (k + 1) n)

below_untouched : (k n m : ℕ) (named : List ℕ) → m < k → marks_from k n (named ++ m ∷ []) ≡ marks_from k n named
below_untouched k zero m named h = refl
below_untouched k (suc n) m named h = two _ _ _ _ (has_other named m k h) (below_untouched (k + 1) n m named (omega arith))

one_marked : (k n j m : ℕ) (named : List ℕ) → j < n → m ≡ k + j → slice_set (marks_from k n named) j true ≡ marks_from k n (named ++ m ∷ [])
one_marked k zero j m named h e = absurd (omega arith)
one_marked k (suc n) zero m named h e =
    let here : m ≡ k = omega arith in
    rw here (two _ _ _ _ (sym (has_itself named k)) (sym (below_untouched (k + 1) n k named (omega arith))))
one_marked k (suc n) (suc j) m named h e = two _ _ _ _ (sym (has_later named m k (omega arith))) (one_marked (k + 1) n j m named (omega arith) (omega arith))

one_filtered : (b : Bool) (k : ℕ) (xs : List ℕ) (marks : List Bool) → xs ≡ marked_from (k + 1) marks → cond b (k ∷ xs) xs ≡ marked_from k (b ∷ marks)
one_filtered true k xs marks h = ap (λ (ks : List ℕ). k ∷ ks) h
one_filtered false k xs marks h = h

named_marked : (k n : ℕ) (named : List ℕ) → filter (has named) (range_with_len k n) ≡ marked_from k (marks_from k n named)
named_marked k zero named = refl
named_marked k (suc n) named = one_filtered (has named k) k _ _ (named_marked (k + 1) n named)

abbrev either : Bool → ℕ → Refusal → Reads ℕ
either b i e = if b then Ok i else Err e

either_below : (count i k : ℕ) (e : Refusal) (b : Bool) → nat_lt i count ≡ b → either b i e ≡ Ok k → k < count
either_below count i k e true test h =
    let same : i ≡ k = cc in
    grind (arith, nat_tests)
either_below count i k e false test h = cc

tested_below : (count k : ℕ) (e : Refusal) (r : Reads ℕ) → (r >>= λ i. either (nat_lt i count) i e) ≡ Ok k → k < count
tested_below count k e (Ok i) h = either_below count i k e (nat_lt i count) refl h
tested_below count k e (Err r) h = cc

index_below : (count : ℕ) (tree : Tree) (k : ℕ) → index_of count tree ≡ Ok k → k < count
index_below count tree k h = tested_below count k (record { number = 44; place = tree_place tree; offset = None }) (count_of tree) h

abbrev kept : List ℕ → Reads (List ℕ)
kept ks = Ok ks

abbrev Agrees : (count : ℕ) → List Tree → List ℕ → Type 0
Agrees count items named =
    (each (member_step count) named items >>= λ all. Ok (members_where count (has all)))
    ≡ (each (mark_step count) (marks_from 0 count named) items >>= λ marks. Ok (marked_from 0 marks))

one_agrees : (count : ℕ) (items : List Tree) (named : List ℕ) (r : Reads ℕ) → ((k : ℕ) → r ≡ Ok k → k < count) → ((k : ℕ) → Agrees count items (named ++ k ∷ [])) → (((r >>= λ k. Ok (named ++ k ∷ [])) >>= λ t. each (member_step count) t items) >>= λ all. Ok (members_where count (has all))) ≡ (((r >>= λ k. Ok (slice_set (marks_from 0 count named) k true)) >>= λ t. each (mark_step count) t items) >>= λ marks. Ok (marked_from 0 marks))
one_agrees count items named (Ok k) below ih = rw (one_marked 0 count k k named (below k refl) (omega arith)) (ih k)
one_agrees count items named (Err e) below ih = refl

agrees : (count : ℕ) (items : List Tree) (named : List ℕ) → Agrees count items named
agrees count [] named = ap kept (named_marked 0 count named)
agrees count (item ∷ items) named = one_agrees count items named (index_of count item) (index_below count item) (λ k. agrees count items (named ++ k ∷ []))

from_items : (count : ℕ) (r : Reads (List Tree)) → (r >>= λ items. each (member_step count) [] items >>= λ all. Ok (members_where count (has all))) ≡ (r >>= λ items. each (mark_step count) (replicate count false) items >>= λ marks. Ok (marked_from 0 marks))
from_items count (Ok items) = rw (none_named 0 count) (agrees count items [])
from_items count (Err e) = refl

pub members_marked : (count : ℕ) (tree : Tree) → members_of count tree ≡ marked_in count tree
members_marked count tree = from_items count (items_of tree)
