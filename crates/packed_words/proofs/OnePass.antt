-- The place of a table's cell, found in one pass, is the place of the members of all arguments.
use Rattle.std.proofs.Common.{◌≡◌, ℕ, zero, suc, ◌+◌, ◌*◌, ◌≤◌, Bool, true, List, [], ◌∷◌, min, Result, Ok, Err, ℤ, refl, ap, ◌∙◌, arith, leb, false, mul-zero}
use Rattle.std.proofs.Math.Nat.{le-mul_of_pos_right}
use Rattle.std.proofs.lemmas.Bool.{leb-true, leb-false}
use Rattle.dp_base.specs.Results.{◌>>=◌}
use Rattle.dp_model.specs.Evaluation.{member_of, members_of, place_from, place_in, table_counts}
use Rattle.dp_model.specs.declared.answers.FaultKind.{FaultKind}
use Rattle.dp_model.specs.declared.whole.Model.{Model}
use Rattle.packed_words.specs.Operands.{at_operands}
use Rattle.packed_words.specs.Places.{most, advanced, placed, placed_at}

placed-none : (zs : List ℤ) (led : Result ℕ FaultKind) → placed [] zs led ≡ led
placed-none [] led = refl
placed-none (z ∷ zs) led = placed-none zs led

placed-fault : (counts : List ℕ) (zs : List ℤ) (kind : FaultKind) → placed counts zs (Err kind) ≡ Err kind
placed-fault counts [] kind = refl
placed-fault [] (z ∷ zs) kind = placed-none zs (Err kind)
placed-fault (count ∷ counts) (z ∷ zs) kind = placed-fault counts zs kind

-- products past the last word stay there

least : (n x k : ℕ) → min n (min n x + k) ≡ min n (x + k)
least n x k = omega arith

held : (n p count : ℕ) → min n (min n p * count) ≡ min n (p * count)
held n p zero = rw (mul-zero (min n p), mul-zero p) refl
held n p (suc c) =
    let a : n ≤ n * suc c = le-mul_of_pos_right n (omega arith) in
    let b : p ≤ p * suc c = le-mul_of_pos_right p (omega arith) in
    by_order (leb p n) refl a b
  where
    by_order : (t : Bool) → leb p n ≡ t → n ≤ n * suc c → p ≤ p * suc c → min n (min n p * suc c) ≡ min n (p * suc c)
    by_order true e a b = let q : min n p ≡ p = omega (arith, leb-true p n e) in rw q refl
    by_order false e a b = let q : min n p ≡ n = omega (arith, leb-false p n e) in rw q (let h = leb-false p n e in omega arith)

pub advanced-is : (p count k : ℕ) → advanced (min most p) count k ≡ min most (p * count + k)
advanced-is p count k = rw (held most p count) (least most (p * count) k)

pub placed-is : (counts : List ℕ) (zs : List ℤ) (p : ℕ) → placed counts zs (Ok (min most p)) ≡ (members_of counts zs >>= λ members. Ok (min most (place_from p counts members)))
placed-is [] zs p = placed-none zs (Ok (min most p))
placed-is (count ∷ counts) [] p = refl
placed-is (count ∷ counts) (z ∷ zs) p = at_member (member_of count z) (λ k. placed-is counts zs (p * count + k))
  where
    behind : (k : ℕ) (r : Result (List ℕ) FaultKind) → (r >>= λ members. Ok (min most (place_from (p * count + k) counts members))) ≡ ((r >>= λ members. Ok (k ∷ members)) >>= λ members. Ok (min most (place_from p (count ∷ counts) members)))
    behind k (Ok members) = refl
    behind k (Err kind) = refl

    at_member : (r : Result ℕ FaultKind) → ((k : ℕ) → placed counts zs (Ok (min most (p * count + k))) ≡ (members_of counts zs >>= λ members. Ok (min most (place_from (p * count + k) counts members)))) → placed counts zs (r >>= λ k. Ok (advanced (min most p) count k)) ≡ ((r >>= λ k. members_of counts zs >>= λ members. Ok (k ∷ members)) >>= λ members. Ok (min most (place_from p (count ∷ counts) members)))
    at_member (Ok k) h = rw (advanced-is p count k) (h k ∙ behind k (members_of counts zs))
    at_member (Err kind) h = placed-fault counts zs kind

-- the cell at a place that was found so, and the fault in place of one

module _ {A : Type 0} (m : Model) (t : ℕ) (cell : ℕ → A) where
  pub cell_fault : (operands : Result (List ℤ) FaultKind) (kind : FaultKind) → Err kind ≡ placed_at (table_counts m t) operands → Err kind ≡ at_operands m t cell operands
  cell_fault (Err other) kind e = cc
  cell_fault (Ok zs) kind e = of_members (members_of (table_counts m t) zs) (e ∙ placed-is (table_counts m t) zs 0)
    where
      of_members : (r : Result (List ℕ) FaultKind) → Err kind ≡ (r >>= λ members. Ok (min most (place_from 0 (table_counts m t) members))) → Err kind ≡ (r >>= λ members. Ok (cell (place_in m t members)))
      of_members (Ok members) e = absurd cc
      of_members (Err other) e = cc

  pub cell_at : (operands : Result (List ℤ) FaultKind) (at : ℕ) (x : A) → Ok at ≡ placed_at (table_counts m t) operands → ((place : ℕ) → at ≡ min most place → x ≡ cell place) → Ok x ≡ at_operands m t cell operands
  cell_at (Err kind) at x e h = absurd cc
  cell_at (Ok zs) at x e h = of_members (members_of (table_counts m t) zs) (e ∙ placed-is (table_counts m t) zs 0)
    where
      of_members : (r : Result (List ℕ) FaultKind) → Ok at ≡ (r >>= λ members. Ok (min most (place_from 0 (table_counts m t) members))) → Ok x ≡ (r >>= λ members. Ok (cell (place_in m t members)))
      of_members (Ok members) e = ap Ok (h (place_in m t members) (let q : at ≡ min most (place_from 0 (table_counts m t) members) = cc in q))
      of_members (Err kind) e = absurd cc
