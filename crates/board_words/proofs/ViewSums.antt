-- Sums, least and greatest over a list of views, where one view changes and where one is added.
use Rattle.std.proofs.Common.{◌≡◌, ℕ, ◌+◌, ◌*◌, ◌≤◌, List, [], ◌∷◌, ◌++◌, min, max, refl, sym, ap, arith, zero, suc, mul-add}
use Rattle.std.proofs.Math.ListN.{set}
use mathlib.Core.Option.{some, some-injective, some-ne-none}
use lib.ListN.{get_elem?}
use Rattle.board_words.specs.Sums.{total, least, greatest}
use Rattle.board_words.specs.declared.seat.View.{View}

pub total_set : (f : View → ℕ) (vs : List View) (i : ℕ) (v w : View) → get_elem? vs i ≡ some v → total f (set vs i w) + f v ≡ total f vs + f w
total_set f [] i v w e = absurd (some-ne-none v (sym e))
total_set f (x ∷ xs) zero v w e = let same : f x ≡ f v = ap f (some-injective x v e) in omega arith
total_set f (x ∷ xs) (suc i) v w e = let h = total_set f xs i v w e in omega arith

pub total_snoc : (f : View → ℕ) (vs : List View) (w : View) → total f (vs ++ w ∷ []) ≡ total f vs + f w
total_snoc f [] w = omega arith
total_snoc f (x ∷ xs) w = let h = total_snoc f xs w in omega arith

pub total_at : (f : View → ℕ) (vs : List View) (i : ℕ) (v : View) → get_elem? vs i ≡ some v → f v ≤ total f vs
total_at f [] i v e = absurd (some-ne-none v (sym e))
total_at f (x ∷ xs) zero v e = let same : f x ≡ f v = ap f (some-injective x v e) in omega arith
total_at f (x ∷ xs) (suc i) v e = let h = total_at f xs i v e in omega arith

-- sums with a bound for each view
pub total_within : (f g : View → ℕ) (k : ℕ) (vs : List View) → ((i : ℕ) (v : View) → get_elem? vs i ≡ some v → f v ≤ k * g v) → total f vs ≤ k * total g vs
total_within f g k [] each = omega arith
total_within f g k (x ∷ xs) each =
    let here = each 0 x refl in
    let rest = total_within f g k xs (λ i v e. each (suc i) v e) in
    let spread : k * (g x + total g xs) ≡ k * g x + k * total g xs = mul-add k (g x) (total g xs) in
    omega arith

module _ (a : ℕ) (f : View → ℕ) where
  pub least_lower : (vs : List View) (i x : ℕ) (v w : View) → get_elem? vs i ≡ some v → f w ≡ min (f v) x → least a f (set vs i w) ≡ min (least a f vs) x
  least_lower [] i x v w e h = absurd (some-ne-none v (sym e))
  least_lower (y ∷ ys) zero x v w e h = let same : f y ≡ f v = ap f (some-injective y v e) in omega arith
  least_lower (y ∷ ys) (suc i) x v w e h = let rest = least_lower ys i x v w e h in omega arith

  pub least_same : (vs : List View) (i : ℕ) (v w : View) → get_elem? vs i ≡ some v → f w ≡ f v → least a f (set vs i w) ≡ least a f vs
  least_same [] i v w e h = absurd (some-ne-none v (sym e))
  least_same (y ∷ ys) zero v w e h = let same : f y ≡ f v = ap f (some-injective y v e) in omega arith
  least_same (y ∷ ys) (suc i) v w e h = let rest = least_same ys i v w e h in omega arith

  pub least_swap : (vs : List View) (i : ℕ) (v w : View) → get_elem? vs i ≡ some v → min (least a f (set vs i w)) (f v) ≡ min (least a f vs) (f w)
  least_swap [] i v w e = absurd (some-ne-none v (sym e))
  least_swap (y ∷ ys) zero v w e = let same : f y ≡ f v = ap f (some-injective y v e) in omega arith
  least_swap (y ∷ ys) (suc i) v w e = let rest = least_swap ys i v w e in omega arith

  pub least_snoc : (vs : List View) (w : View) → least a f (vs ++ w ∷ []) ≡ min (least a f vs) (f w)
  least_snoc [] w = omega arith
  least_snoc (y ∷ ys) w = let rest = least_snoc ys w in omega arith

  pub least_at : (vs : List View) (i : ℕ) (v : View) → get_elem? vs i ≡ some v → least a f vs ≤ f v
  least_at [] i v e = absurd (some-ne-none v (sym e))
  least_at (y ∷ ys) zero v e = let same : f y ≡ f v = ap f (some-injective y v e) in omega arith
  least_at (y ∷ ys) (suc i) v e = let rest = least_at ys i v e in omega arith

  pub least_within : (vs : List View) → least a f vs ≤ a
  least_within [] = omega arith
  least_within (y ∷ ys) = let rest = least_within ys in omega arith

module _ (f : View → ℕ) where
  pub greatest_raise : (vs : List View) (i x : ℕ) (v w : View) → get_elem? vs i ≡ some v → f w ≡ max (f v) x → greatest f (set vs i w) ≡ max (greatest f vs) x
  greatest_raise [] i x v w e h = absurd (some-ne-none v (sym e))
  greatest_raise (y ∷ ys) zero x v w e h = let same : f y ≡ f v = ap f (some-injective y v e) in omega arith
  greatest_raise (y ∷ ys) (suc i) x v w e h = let rest = greatest_raise ys i x v w e h in omega arith

  pub greatest_same : (vs : List View) (i : ℕ) (v w : View) → get_elem? vs i ≡ some v → f w ≡ f v → greatest f (set vs i w) ≡ greatest f vs
  greatest_same [] i v w e h = absurd (some-ne-none v (sym e))
  greatest_same (y ∷ ys) zero v w e h = let same : f y ≡ f v = ap f (some-injective y v e) in omega arith
  greatest_same (y ∷ ys) (suc i) v w e h = let rest = greatest_same ys i v w e h in omega arith

  pub greatest_swap : (vs : List View) (i : ℕ) (v w : View) → get_elem? vs i ≡ some v → max (greatest f (set vs i w)) (f v) ≡ max (greatest f vs) (f w)
  greatest_swap [] i v w e = absurd (some-ne-none v (sym e))
  greatest_swap (y ∷ ys) zero v w e = let same : f y ≡ f v = ap f (some-injective y v e) in omega arith
  greatest_swap (y ∷ ys) (suc i) v w e = let rest = greatest_swap ys i v w e in omega arith

  pub greatest_snoc : (vs : List View) (w : View) → greatest f (vs ++ w ∷ []) ≡ max (greatest f vs) (f w)
  greatest_snoc [] w = omega arith
  greatest_snoc (y ∷ ys) w = let rest = greatest_snoc ys w in omega arith

  pub greatest_at : (vs : List View) (i : ℕ) (v : View) → get_elem? vs i ≡ some v → f v ≤ greatest f vs
  greatest_at [] i v e = absurd (some-ne-none v (sym e))
  greatest_at (y ∷ ys) zero v e = let same : f y ≡ f v = ap f (some-injective y v e) in omega arith
  greatest_at (y ∷ ys) (suc i) v e = let rest = greatest_at ys i v e in omega arith

-- where the parts add up to nothing, so does what a view without part lacks
pub none_total : (f g : View → ℕ) (vs : List View) → total g vs ≡ 0 → ((i : ℕ) (v : View) → get_elem? vs i ≡ some v → g v ≡ 0 → f v ≡ 0) → total f vs ≡ 0
none_total f g [] z each = refl
none_total f g (x ∷ xs) z each = let here = each 0 x refl (omega arith) in let rest = none_total f g xs (omega arith) (λ i v e. each (suc i) v e) in omega arith

pub none_least : (a top : ℕ) (f g : View → ℕ) (vs : List View) → a ≤ top → total g vs ≡ 0 → ((i : ℕ) (v : View) → get_elem? vs i ≡ some v → g v ≡ 0 → f v ≡ top) → least a f vs ≡ a
none_least a top f g [] le z each = refl
none_least a top f g (x ∷ xs) le z each = let here = each 0 x refl (omega arith) in let rest = none_least a top f g xs le (omega arith) (λ i v e. each (suc i) v e) in omega arith

pub none_greatest : (f g : View → ℕ) (vs : List View) → total g vs ≡ 0 → ((i : ℕ) (v : View) → get_elem? vs i ≡ some v → g v ≡ 0 → f v ≡ 0) → greatest f vs ≡ 0
none_greatest f g [] z each = refl
none_greatest f g (x ∷ xs) z each = let here = each 0 x refl (omega arith) in let rest = none_greatest f g xs (omega arith) (λ i v e. each (suc i) v e) in omega arith

pub greatest_within : (f : View → ℕ) (most : ℕ) (vs : List View) → ((i : ℕ) (v : View) → get_elem? vs i ≡ some v → f v ≤ most) → greatest f vs ≤ most
greatest_within f most [] each = omega arith
greatest_within f most (x ∷ xs) each = let here = each 0 x refl in let rest = greatest_within f most xs (λ i v e. each (suc i) v e) in omega arith
