-- The best of what the shards hold, as one shard more is looked at, and the first fault.
use Rattle.std.proofs.Common.{◌≡◌, ℕ, ◌+◌, ◌<◌, inl, inr, Bool, true, false, if◌then◌else◌, List, [], ◌∷◌, ◌++◌, length, take, get_or, Option, Some, None, refl, sym, subst, ◌∙◌, ap, arith}
use Rattle.std.specs.Prelude.{IfSome, ℤ, ◌≤ℤ◌, int_lt, is_some}
use Rattle.std.proofs.lemmas.Int.{ints}
use Rattle.std.proofs.lemmas.List.{take_more}
use Rattle.std.proofs.Math.Seq.{take-length}
use Rattle.cost_laws.specs.Orders.{InWideRange}
use Rattle.dp_model.specs.Costs.{order_word}
use Rattle.dp_model.specs.declared.parts.JoinOp.{JoinOp}
use Rattle.pass_ledger.specs.declared.records.FaultHere.{FaultHere}
use Rattle.pass_ledger.specs.declared.records.Held.{Held}
use Rattle.pass_ledger.proofs.Appends.{get_push, get_last}
use Rattle.pass_ledger.proofs.Lists.{get_left}
use Rattle.best_shard.specs.declared.shard.BestShardEnd.{BestShardEnd}
use Rattle.pass_ends.specs.Bests.{better_held}
use Rattle.best_ends.specs.Left.{IsBestHeld, IsSomeFault}

-- what is said of the first so many elements and of the next one is said of one element more
pub next_taken : {A : Type 0} (P : List A → Type 0) (xs : List A) (k : ℕ) (d : A) → k < length xs → P (take k xs ++ get_or xs k d ∷ []) → P (take (k + 1) xs)
next_taken P xs k d lt h = subst P (sym (take_more xs k d lt)) h

pub all_taken : {A : Type 0} (P : List A → Type 0) (xs : List A) (k : ℕ) → k ≡ length xs → P (take k xs) → P xs
all_taken P xs k e h = subst P (ap (λ (n : ℕ). take n xs) e ∙ take-length xs) h

-- what stands for an element where there is none
abbrev pub no_end : BestShardEnd
no_end = record { shard = 0; visited = 0; held = None; fault = None }

-- ---- what is held

pub no_held : (o : Option Held) (h : Held) → o ≡ None → o ≡ Some h → ⊥
no_held o h none some = let clash : None ≡ Some h = sym none ∙ some in cc

at_most : (a : ℤ) → a ≤ℤ a
at_most a = omega (arith, ints)

some_is : {a b : Held} → Some a ≡ Some b → a ≡ b
some_is h = cc

less : (a b c : ℤ) → int_lt a b ≡ true → b ≤ℤ c → a ≤ℤ c
less a b c h k = grind (arith, ints)

not_less : (a b : ℤ) → int_lt b a ≡ false → a ≤ℤ b
not_less a b h = grind (arith, ints)

-- a solution is no worse than itself
same_cost : (minimize : Bool) (operator : JoinOp) (a b : Held) → Some a ≡ Some b → order_word minimize operator (Some a.cost) ≤ℤ order_word minimize operator (Some b.cost)
same_cost minimize operator a b e =
    subst (λ (x : Held). order_word minimize operator (Some a.cost) ≤ℤ order_word minimize operator (Some x.cost)) (some_is e) (at_most (order_word minimize operator (Some a.cost)))

-- the next shard holds nothing
none_more : (minimize : Bool) (operator : JoinOp) (ends : List BestShardEnd) (e : BestShardEnd) (best : Option Held) → IsBestHeld minimize operator ends best → e.held ≡ None → IsBestHeld minimize operator (ends ++ e ∷ []) best
none_more minimize operator ends e None h none = λ i other at.
    elim (get_push ends e i other at) [
      | inl old ↦ h i other old
      | inr new ↦ subst (λ (x : BestShardEnd). x.held ≡ None) new.1 none
    ]
none_more minimize operator ends e (Some best) h none = (
  (h.0.0, h.0.1, get_left ends (e ∷ []) h.0.0 h.0.1 h.0.2, h.0.3),
  λ i other held at is.
      elim (get_push ends e i other at) [
        | inl old ↦ h.1 i other held old is
        | inr new ↦ absurd (no_held other.held held (subst (λ (x : BestShardEnd). x.held ≡ None) new.1 none) is)
      ],
)

-- it holds the first solution
first_more : (minimize : Bool) (operator : JoinOp) (ends : List BestShardEnd) (e : BestShardEnd) (held : Held) → IsBestHeld minimize operator ends None → e.held ≡ Some held → IsBestHeld minimize operator (ends ++ e ∷ []) (Some held)
first_more minimize operator ends e held h is = (
  (length ends, e, get_last ends e, is),
  λ i other more at has.
      elim (get_push ends e i other at) [
        | inl old ↦ absurd (no_held other.held more (h i other old) has)
        | inr new ↦ same_cost minimize operator held more (sym is ∙ (ap (λ (x : BestShardEnd). x.held) new.1 ∙ has))
      ],
)

-- it holds one, and the better of both is kept
by_test : (minimize : Bool) (operator : JoinOp) (ends : List BestShardEnd) (e : BestShardEnd) (best held : Held) (t : Bool) → int_lt (order_word minimize operator (Some held.cost)) (order_word minimize operator (Some best.cost)) ≡ t
    → IsBestHeld minimize operator ends (Some best) → e.held ≡ Some held → IsBestHeld minimize operator (ends ++ e ∷ []) (if t then Some held else Some best)
by_test minimize operator ends e best held true lt h is = (
  (length ends, e, get_last ends e, is),
  λ i other more at has.
      elim (get_push ends e i other at) [
        | inl old ↦ less (order_word minimize operator (Some held.cost)) (order_word minimize operator (Some best.cost)) (order_word minimize operator (Some more.cost)) lt (h.1 i other more old has)
        | inr new ↦ same_cost minimize operator held more (sym is ∙ (ap (λ (x : BestShardEnd). x.held) new.1 ∙ has))
      ],
)
by_test minimize operator ends e best held false ge h is = (
  (h.0.0, h.0.1, get_left ends (e ∷ []) h.0.0 h.0.1 h.0.2, h.0.3),
  λ i other more at has.
      elim (get_push ends e i other at) [
        | inl old ↦ h.1 i other more old has
        | inr new ↦ subst (λ (x : Held). order_word minimize operator (Some best.cost) ≤ℤ order_word minimize operator (Some x.cost)) (some_is (sym is ∙ (ap (λ (x : BestShardEnd). x.held) new.1 ∙ has))) (not_less (order_word minimize operator (Some best.cost)) (order_word minimize operator (Some held.cost)) ge)
      ],
)

best_with : (minimize : Bool) (operator : JoinOp) (ends : List BestShardEnd) (e : BestShardEnd) (best held : Option Held) → IsBestHeld minimize operator ends best → e.held ≡ held → IsBestHeld minimize operator (ends ++ e ∷ []) (better_held minimize operator best held)
best_with minimize operator ends e None None h is = none_more minimize operator ends e None h is
best_with minimize operator ends e None (Some held) h is = first_more minimize operator ends e held h is
best_with minimize operator ends e (Some best) None h is = none_more minimize operator ends e (Some best) h is
best_with minimize operator ends e (Some best) (Some held) h is = by_test minimize operator ends e best held (int_lt (order_word minimize operator (Some held.cost)) (order_word minimize operator (Some best.cost))) refl h is

pub best_more : (minimize : Bool) (operator : JoinOp) (ends : List BestShardEnd) (e : BestShardEnd) (best new : Option Held) → IsBestHeld minimize operator ends best → new ≡ better_held minimize operator best e.held → IsBestHeld minimize operator (ends ++ e ∷ []) new
best_more minimize operator ends e best new h is = subst (λ (o : Option Held). IsBestHeld minimize operator (ends ++ e ∷ []) o) (sym is) (best_with minimize operator ends e best e.held h refl)

pub none_held : (minimize : Bool) (operator : JoinOp) → IsBestHeld minimize operator [] None
none_held minimize operator i e at = let clash : None ≡ Some e = at in absurd (cc)

better_wide : (minimize : Bool) (operator : JoinOp) (a b : Option Held) → IfSome a (λ (h : Held). InWideRange h.cost) → IfSome b (λ (h : Held). InWideRange h.cost) → IfSome (better_held minimize operator a b) (λ (h : Held). InWideRange h.cost)
better_wide minimize operator None b p q = q
better_wide minimize operator (Some a) None p q = p
better_wide minimize operator (Some a) (Some b) p q = of_test (int_lt (order_word minimize operator (Some b.cost)) (order_word minimize operator (Some a.cost)))
  where
    of_test : (t : Bool) → IfSome (if t then Some b else Some a) (λ (h : Held). InWideRange h.cost)
    of_test true = q
    of_test false = p

pub new_wide : (minimize : Bool) (operator : JoinOp) (a b new : Option Held) → new ≡ better_held minimize operator a b → IfSome a (λ (h : Held). InWideRange h.cost) → IfSome b (λ (h : Held). InWideRange h.cost) → IfSome new (λ (h : Held). InWideRange h.cost)
new_wide minimize operator a b new is p q = subst (λ (o : Option Held). IfSome o (λ (h : Held). InWideRange h.cost)) (sym is) (better_wide minimize operator a b p q)

-- ---- faults

pub none_met : IsSomeFault [] None
none_met i e at = let clash : None ≡ Some e = at in absurd (cc)

pub none_met_more : (ends : List BestShardEnd) (e : BestShardEnd) → IsSomeFault ends None → e.fault ≡ None → IsSomeFault (ends ++ e ∷ []) None
none_met_more ends e h none i other at =
    elim (get_push ends e i other at) [
      | inl old ↦ h i other old
      | inr new ↦ subst (λ (x : BestShardEnd). x.fault ≡ None) new.1 none
    ]

pub is_none : (o : Option FaultHere) → is_some o ≡ false → o ≡ None
is_none None e = refl
is_none (Some f) e = absurd (let clash : true ≡ false = e in cc)
