-- Which numbers stand in a list.
use Rattle.std.proofs.Common.{◌≡◌, ℕ, ◌+◌, ◌<◌, true, List, length, get_or, Some, refl, sym, ◌∙◌, arith}
use Rattle.std.specs.Prelude.{slice_get, nat_eq}
use Rattle.std.specs.List.{Contains, range_with_len}
use Rattle.std.proofs.lemmas.Option.{slice_get_within, slice_get_read, get_or_from_slice_get}
use Rattle.std.proofs.lemmas.List.FromFn.{length-range_with_len, get_or-range_with_len}
use Rattle.std.proofs.lemmas.Map.Views.{exact_unsigned_eq, Contains-from_any, list_any-from_Contains}
use Rattle.std.proofs.lemmas.Cmp.{nat_eq_equiv}
use Rattle.dp_model.specs.Evaluation.{has}

pub contains_at : {A : Type 0} (xs : List A) (i : ℕ) (x : A) → slice_get xs i ≡ Some x → Contains xs x
contains_at xs i x e = (i, slice_get_within xs i x e, get_or_from_slice_get xs i x x e)

pub at_contains : {A : Type 0} (xs : List A) (x : A) → Contains xs x → (i : ℕ) × (slice_get xs i ≡ Some x)
at_contains xs x h = (h.0, slice_get_read xs (length xs) h.0 x refl h.1 (sym h.2))

pub range_has : (n k : ℕ) → k < n → Contains (range_with_len 0 n) k
range_has n k h = (k, rw (length-range_with_len 0 n) h, get_or-range_with_len 0 n k k h ∙ (omega arith))

pub in_range : (n k : ℕ) → Contains (range_with_len 0 n) k → k < n
in_range n k h =
    let within : h.0 < n = rw (length-range_with_len 0 n) at h.1 in
    let is : get_or (range_with_len 0 n) h.0 k ≡ 0 + h.0 = get_or-range_with_len 0 n h.0 k within in
    let same : get_or (range_with_len 0 n) h.0 k ≡ k = h.2 in
    omega arith

pub contains_has : (set : List ℕ) (k : ℕ) → has set k ≡ true → Contains set k
contains_has set k e = Contains-from_any {eq = nat_eq} exact_unsigned_eq k set e

pub has_contains : (set : List ℕ) (k : ℕ) → Contains set k → has set k ≡ true
has_contains set k h = list_any-from_Contains {eq = nat_eq} nat_eq_equiv k set h
