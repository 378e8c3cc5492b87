-- Numbers, sets of members and a target that are read fit a model.
use Rattle.std.proofs.Common.{◌≡◌, ◌≤◌, ◌<◌, ℕ, zero, suc, ◌+◌, ◌^◌, Bool, true, false, not, ◌&&◌, nat_lt, cond, if◌then◌else◌, List, [], ◌∷◌, ◌++◌, length, filter, replicate, slice_get, slice_set, Option, Some, None, Ok, Err, IfOk, ℤ, pos, negsuc, neg_ℤ, int_le, int_lt, refl, sym, ap, ◌∙◌, arith, append_assoc}
use Rattle.std.specs.List.{range_with_len}
use Rattle.std.specs.Str.Parse.{signed_digits_value}
use Rattle.std.proofs.lemmas.List.{append-nil}
use Rattle.std.proofs.lemmas.Bool.Decides.{nat_tests}
use Rattle.dp_base.specs.declared.place.Place.{Place}
use Rattle.dp_base.specs.Results.{◌>>=◌, each}
use Rattle.dp_model.specs.Costs.{greatest}
use Rattle.dp_model.specs.Evaluation.{has, members_where}
use Rattle.dp_model.specs.Typing.{type_count, ascends, is_set_below, may_hold, are_held, is_state}
use Rattle.dp_model.specs.declared.parts.ObjectType.{ObjectType}
use Rattle.dp_model.specs.declared.parts.Variable.{Variable}
use Rattle.dp_model.specs.declared.parts.VarKind.{VarKind}
use Rattle.dp_model.specs.declared.parts.VarKind.TheVariants as kinds
use Rattle.dp_model.specs.declared.parts.PlainValue.{PlainValue}
use Rattle.dp_model.specs.declared.parts.PlainValue.TheVariants as values
use Rattle.yaml_tree.specs.declared.tree.Tree.{Tree}
use Rattle.yaml_tree.specs.declared.tree.Pair.{Pair}
use Rattle.yaml_tree.specs.Fields.{tree_place}
use Rattle.dypdl_nodes.specs.Reads.{Reads, or_refuse}
use Rattle.dypdl_nodes.specs.Shapes.{items_of, entries_of}
use Rattle.dypdl_nodes.specs.Scalars.{text_of, writes_number, number_written, number_between, number_of}
use Rattle.dypdl_data.specs.Names.{known_key}
use Rattle.dypdl_data.specs.Tables.{member_step, members_of}
use Rattle.dypdl_data.specs.Variables.{variable_names}
use Rattle.dypdl_data.specs.Target.{value_of, value_at, target_step, held_step, target_of}
use Rattle.dypdl_data.proofs.Steps.{after, then_if, each_keeps, both, first, second}

-- ---- numbers

or_refuse_if : {A : Type 0} (P : A → Type 0) (number : ℕ) (at : Place) (b : Bool) (x : A) → (b ≡ true → P x) → IfOk (or_refuse number at (if b then Some x else None)) P
or_refuse_if P number at true x h = h refl
or_refuse_if P number at false x h = tt

abbrev IsBetween : ℤ → ℤ → ℤ → Type 0
IsBetween least most n = int_le least n && int_le n most ≡ true

pub number_fits : (least most : ℤ) (tree : Tree) → IfOk (number_between least most tree) (IsBetween least most)
number_fits least most tree =
    after (IsBetween least most) (text_of tree) (λ text. or_refuse 42 (tree_place tree) (number_written least most text))
    (λ text. or_refuse_if (IsBetween least most) 42 (tree_place tree) (writes_number text && (int_le least (signed_digits_value 10 text) && int_le (signed_digits_value 10 text) most)) (signed_digits_value 10 text)
    (λ e. second (writes_number text) _ e))

element_fits : (n : ℤ) → IsBetween (pos 0) (pos 4294967295) n → int_le (pos 0) n && int_lt n (pos (2 ^ 32)) ≡ true
element_fits (pos k) e = grind (arith, nat_tests)
element_fits (negsuc k) e = absurd (cc e)

-- ---- sets of members

one_ascends : (b : Bool) (least k count : ℕ) (rest : List ℕ) → least ≤ k → k < count → ascends (suc k) count rest ≡ true → ascends least count rest ≡ true → ascends least count (cond b (k ∷ rest) rest) ≡ true
one_ascends true least k count rest low below h other =
    let low_test : not (nat_lt k least) ≡ true = grind (arith, nat_tests) in
    let below_test : nat_lt k count ≡ true = grind (arith, nat_tests) in
    both (not (nat_lt k least)) (nat_lt k count && ascends (suc k) count rest) low_test (both (nat_lt k count) (ascends (suc k) count rest) below_test h)
one_ascends false least k count rest low below h other = other

filter_ascends : (p : ℕ → Bool) (least k n count : ℕ) → least ≤ k → k + n ≤ count → ascends least count (filter p (range_with_len k n)) ≡ true
filter_ascends p least k zero count low high = refl
filter_ascends p least k (suc n) count low high =
    one_ascends (p k) least k count (filter p (range_with_len (k + 1) n)) low (omega arith)
    (filter_ascends p (suc k) (k + 1) n count (omega arith) (omega arith))
    (filter_ascends p least (k + 1) n count (omega arith) (omega arith))

pub members_fit : (count : ℕ) (tree : Tree) → IfOk (members_of count tree) (λ set. is_set_below count set ≡ true)
members_fit count tree =
    after (λ set. is_set_below count set ≡ true) (items_of tree) (λ items. each (member_step count) [] items >>= λ named. Ok (members_where count (has named))) (λ items.
    after (λ set. is_set_below count set ≡ true) (each (member_step count) [] items) (λ named. Ok (members_where count (has named))) (λ named.
    filter_ascends (has named) 0 0 count count (omega arith) (omega arith)))

-- ---- values

value_fits : (objects : List ObjectType) (kind : VarKind) (tree : Tree) → IfOk (value_of objects kind tree) (λ x. may_hold objects kind x ≡ true)
value_fits objects kinds.Integer tree =
    then_if (IsBetween (neg_ℤ greatest) greatest) (λ x. may_hold objects kinds.Integer x ≡ true) (number_of tree) (λ n. Ok (values.Number n)) (number_fits (neg_ℤ greatest) greatest tree) (λ n h. h)
value_fits objects (kinds.Element object) tree =
    then_if (IsBetween (pos 0) (pos 4294967295)) (λ x. may_hold objects (kinds.Element object) x ≡ true) (number_between (pos 0) (pos 4294967295) tree) (λ n. Ok (values.Number n)) (number_fits (pos 0) (pos 4294967295) tree) (λ n h. element_fits n h)
value_fits objects (kinds.Set object) tree =
    then_if (λ set. is_set_below (type_count objects object) set ≡ true) (λ x. may_hold objects (kinds.Set object) x ≡ true) (members_of (type_count objects object) tree) (λ set. Ok (values.Members set)) (members_fit (type_count objects object) tree) (λ set h. h)

-- ---- the values so far

abbrev are_fit : List ObjectType → List Variable → List (Option PlainValue) → Bool
are_fit objects [] [] = true
are_fit objects (v ∷ vs) (None ∷ held) = are_fit objects vs held
are_fit objects (v ∷ vs) (Some x ∷ held) = may_hold objects v.kind x && are_fit objects vs held
are_fit objects [] (h ∷ held) = false
are_fit objects (v ∷ vs) [] = false

module _ (objects : List ObjectType) where
  none_fit : (vs : List Variable) → are_fit objects vs (replicate (length vs) None) ≡ true
  none_fit [] = refl
  none_fit (v ∷ vs) = none_fit vs

  rest_fits : (v : Variable) (vs : List Variable) (h : Option PlainValue) (held : List (Option PlainValue)) → are_fit objects (v ∷ vs) (h ∷ held) ≡ true → are_fit objects vs held ≡ true
  rest_fits v vs None held e = e
  rest_fits v vs (Some x) held e = second (may_hold objects v.kind x) (are_fit objects vs held) e

  with_rest : (v : Variable) (vs : List Variable) (h : Option PlainValue) (old new : List (Option PlainValue)) → are_fit objects (v ∷ vs) (h ∷ old) ≡ true → are_fit objects vs new ≡ true → are_fit objects (v ∷ vs) (h ∷ new) ≡ true
  with_rest v vs None old new e k = k
  with_rest v vs (Some x) old new e k = both (may_hold objects v.kind x) (are_fit objects vs new) (first (may_hold objects v.kind x) (are_fit objects vs old) e) k

  one_set : (vs : List Variable) (held : List (Option PlainValue)) (i : ℕ) (v : Variable) (x : PlainValue) → are_fit objects vs held ≡ true → slice_get vs i ≡ Some v → may_hold objects v.kind x ≡ true → are_fit objects vs (slice_set held i (Some x)) ≡ true
  one_set [] held i v x e there fits = absurd (cc there)
  one_set (w ∷ vs) [] i v x e there fits = absurd (cc e)
  one_set (w ∷ vs) (h ∷ held) zero v x e there fits =
      let same : v ≡ w = cc in
      both (may_hold objects w.kind x) (are_fit objects vs held) (ap (λ (u : Variable). may_hold objects u.kind x) (sym same) ∙ fits) (rest_fits w vs h held e)
  one_set (w ∷ vs) (h ∷ held) (suc i) v x e there fits =
      with_rest w vs h held (slice_set held i (Some x)) e (one_set vs held i v x (rest_fits w vs h held e) there fits)

  abbrev Fits : List Variable → List (Option PlainValue) → Type 0
  Fits vs held = are_fit objects vs held ≡ true

  at_fits : (vs : List Variable) (held : List (Option PlainValue)) (i : ℕ) (tree : Tree) (o : Option Variable) → slice_get vs i ≡ o → Fits vs held → IfOk (value_at objects held i tree o) (Fits vs)
  at_fits vs held i tree None there h = h
  at_fits vs held i tree (Some v) there h =
      then_if (λ x. may_hold objects v.kind x ≡ true) (Fits vs) (value_of objects v.kind tree) (λ x. Ok (slice_set held i (Some x))) (value_fits objects v.kind tree)
      (λ x fits. one_set vs held i v x h there fits)

  one_value : (vs : List Variable) (held : List (Option PlainValue)) (pair : Pair) → Fits vs held → IfOk (target_step objects vs held pair) (Fits vs)
  one_value vs held pair h =
      after (Fits vs) (known_key 45 (variable_names vs) pair.key) (λ i. value_at objects held i pair.value (slice_get vs i))
      (λ i. at_fits vs held i pair.value (slice_get vs i) refl h)

  abbrev EndsFit : List Variable → (done all : List PlainValue) → Type 0
  EndsFit vs done all = (rest : List PlainValue) × ((all ≡ done ++ rest) × (are_held objects vs rest ≡ true))

  all_fit : (vs : List Variable) (held : List (Option PlainValue)) (at : Place) (done : List PlainValue) → Fits vs held → IfOk (each (held_step at) done held) (EndsFit vs done)
  all_fit [] [] at done h = ([], (sym (append-nil done), refl))
  all_fit [] (x ∷ held) at done h = absurd (cc h)
  all_fit (v ∷ vs) [] at done h = absurd (cc h)
  all_fit (v ∷ vs) (None ∷ held) at done h = tt
  all_fit (v ∷ vs) (Some x ∷ held) at done h =
      one_longer (each (held_step at) (done ++ x ∷ []) held) (all_fit vs held at (done ++ x ∷ []) (second (may_hold objects v.kind x) (are_fit objects vs held) h))
    where
      one_longer : (r : Reads (List PlainValue)) → IfOk r (EndsFit vs (done ++ x ∷ [])) → IfOk r (EndsFit (v ∷ vs) done)
      one_longer (Ok all) k = (x ∷ k.0, (k.1.0 ∙ append_assoc done (x ∷ []) k.0, both (may_hold objects v.kind x) (are_held objects vs k.0) (first (may_hold objects v.kind x) (are_fit objects vs held) h) k.1.1))
      one_longer (Err e) k = tt

  pub target_fits : (vs : List Variable) (tree : Tree) → IfOk (target_of objects vs tree) (λ s. is_state objects vs s ≡ true)
  target_fits vs tree =
      after (λ s. is_state objects vs s ≡ true) (entries_of tree) (λ entries. each (target_step objects vs) (replicate (length vs) None) entries >>= λ held. each (held_step (tree_place tree)) [] held >>= λ values. Ok (record { values = values })) (λ entries.
      then_if (Fits vs) (λ s. is_state objects vs s ≡ true) (each (target_step objects vs) (replicate (length vs) None) entries) (λ held. each (held_step (tree_place tree)) [] held >>= λ values. Ok (record { values = values })) (each_keeps (Fits vs) (target_step objects vs) entries (replicate (length vs) None) (one_value vs) (none_fit vs)) (λ held h.
      then_if (EndsFit vs []) (λ s. is_state objects vs s ≡ true) (each (held_step (tree_place tree)) [] held) (λ values. Ok (record { values = values })) (all_fit vs held (tree_place tree) [] h) (λ all k.
      ap (λ (xs : List PlainValue). are_held objects vs xs) k.1.0 ∙ k.1.1)))
