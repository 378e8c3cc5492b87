-- Totals of cells over the members of sets.
use Rattle.std.proofs.Common.{◌≡◌, ℕ, zero, suc, ◌+◌, ◌*◌, ◌-◌, ◌<◌, ◌≤◌, Bool, true, false, cond, List, [], ◌∷◌, ◌++◌, length, map, filter, drop, take, get_or, slice_get, Some, ℤ, pos, ◌+ℤ◌, ◌*ℤ◌, refl, sym, ap, ap₂, ◌∙◌, subst, arith, append_assoc, add-one}
use Rattle.std.specs.Prelude.{unwrap_or}
use Rattle.std.specs.List.{range_with_len, flat_map}
use Rattle.std.proofs.Math.IntN.{zero-*ℤ, *ℤ_comm}
use Rattle.std.proofs.Math.Seq.{take-length}
use Rattle.std.proofs.lemmas.Int.{ints}
use Rattle.std.proofs.lemmas.List.Elements.{filter-append}
use Rattle.ring_laws.proofs.Ring.{one_times, times_add, times_assoc}
use Rattle.dp_model.specs.Typing.{is_set_below}
use Rattle.dp_model.specs.Evaluation.{has, members_where, ways, total_of, place_in, number_cell, cells_of, table_counts}
use Rattle.dp_model.specs.declared.whole.Model.{Model}
use Rattle.poly_terms.specs.declared.terms.Term.{Term}
use Rattle.poly_terms.specs.Worth.{worth, as_bit}
use Rattle.poly_eval.specs.Shows.{AreBits}
use Rattle.poly_eval.specs.Bits.{AreChoices}
use Rattle.poly_eval.specs.Totals.{total_at, place_after, part_of, behind}
use Rattle.poly_eval.proofs.SetSteps.{where_has, range_end}

total_at-next : (cells : List ℤ) (place : ℕ) (counts : List ℕ) (k : ℕ) (ws : List (List ℕ)) → total_at cells place counts (map (λ members. k ∷ members) ws) ≡ total_at cells (place_after place counts k) (drop 1 counts) ws
total_at-next cells place counts k [] = refl
total_at-next cells place [] k (w ∷ ws) = rw (total_at-next cells place [] k ws) refl
total_at-next cells place (count ∷ counts) k (w ∷ ws) = rw (total_at-next cells place (count ∷ counts) k ws) refl

total_at-append : (cells : List ℤ) (place : ℕ) (counts : List ℕ) (vs ws : List (List ℕ)) → total_at cells place counts (vs ++ ws) ≡ total_at cells place counts vs +ℤ total_at cells place counts ws
total_at-append cells place counts [] ws = omega (arith, ints)
total_at-append cells place counts (v ∷ vs) ws = let e = total_at-append cells place counts vs ws in omega (arith, ints)

-- where no argument is left
pub total_at-none : (cells : List ℤ) (place : ℕ) (counts : List ℕ) → total_at cells place counts (ways []) ≡ unwrap_or (slice_get cells place) (pos 0)
total_at-none cells place [] = omega (arith, ints)
total_at-none cells place (count ∷ counts) = omega (arith, ints)

-- the cells of a model's table, as a list
pub total_of-at : (m : Model) (t : ℕ) (cells : List ℤ) → ((place : ℕ) → number_cell (cells_of m t) place ≡ unwrap_or (slice_get cells place) (pos 0)) → (ws : List (List ℕ)) → total_of m t ws ≡ total_at cells 0 (table_counts m t) ws
total_of-at m t cells h [] = refl
total_of-at m t cells h (w ∷ ws) = rw (h (place_in m t w), total_of-at m t cells h ws) refl

-- the ways that begin with one of these members
abbrev ways_from : List ℕ → List (List ℕ) → List (List ℕ)
ways_from set rest = flat_map (λ k. map (λ members. k ∷ members) rest) set

ways_append : (a b : List ℕ) (rest : List (List ℕ)) → ways_from (a ++ b) rest ≡ ways_from a rest ++ ways_from b rest
ways_append [] b rest = refl
ways_append (k ∷ a) b rest = ap (λ (xs : List (List ℕ)). map (λ members. k ∷ members) rest ++ xs) (ways_append a b rest) ∙ sym (append_assoc (map (λ members. k ∷ members) rest) (ways_from a rest) (ways_from b rest))

module _ (cells : List ℤ) (place : ℕ) (counts : List ℕ) (sets : List (List ℕ)) where
  one_more : (b : Bool) (n : ℕ) → total_at cells place counts (ways_from (cond b (n ∷ []) []) (ways sets)) ≡ as_bit b *ℤ behind cells place counts sets n
  one_more true n =
      total_at-append cells place counts (map (λ members. n ∷ members) (ways sets)) []
      ∙ ap (λ (z : ℤ). z +ℤ pos 0) (total_at-next cells place counts n (ways sets))
      ∙ no_more (behind cells place counts sets n)
      ∙ sym (one_times (behind cells place counts sets n)) where
        no_more : (z : ℤ) → z +ℤ pos 0 ≡ z
        no_more z = omega (arith, ints)
  one_more false n = sym (zero-*ℤ (behind cells place counts sets n))

  total_where : (n : ℕ) (f : ℕ → Bool) → total_at cells place counts (ways (members_where n f ∷ sets)) ≡ part_of n f (behind cells place counts sets)
  total_where zero f = refl
  total_where (suc n) f =
      ap (λ (xs : List ℕ). total_at cells place counts (ways_from (filter f xs) (ways sets))) (range_end n)
      ∙ ap (λ (xs : List ℕ). total_at cells place counts (ways_from xs (ways sets))) (filter-append f (range_with_len 0 n) (n ∷ []))
      ∙ ap (total_at cells place counts) (ways_append (filter f (range_with_len 0 n)) (filter f (n ∷ [])) (ways sets))
      ∙ total_at-append cells place counts (ways_from (filter f (range_with_len 0 n)) (ways sets)) (ways_from (filter f (n ∷ [])) (ways sets))
      ∙ ap₂ (λ (x y : ℤ). x +ℤ y) (total_where n f) (one_more (f n) n)

  pub total_is : (n : ℕ) (set : List ℕ) → is_set_below n set ≡ true → total_at cells place counts (ways (set ∷ sets)) ≡ part_of n (has set) (behind cells place counts sets)
  total_is n set h = ap (λ (xs : List ℕ). total_at cells place counts (ways (xs ∷ sets))) (sym (where_has n set h)) ∙ total_where n (has set)

-- one more part of a sum
pub part_more : (base factor part bit g old more new : ℤ) → old ≡ base +ℤ factor *ℤ part → more ≡ factor *ℤ bit → new ≡ old +ℤ more *ℤ g → new ≡ base +ℤ factor *ℤ (part +ℤ bit *ℤ g)
part_more base factor part bit g old more new e f h =
    h ∙ ap₂ (λ (x y : ℤ). x +ℤ y) e (ap (λ (z : ℤ). z *ℤ g) f ∙ times_assoc factor bit g)
    ∙ grouped base (factor *ℤ part) (factor *ℤ (bit *ℤ g)) ∙ ap (λ (z : ℤ). base +ℤ z) (sym (times_add factor part (bit *ℤ g))) where
      grouped : (x y z : ℤ) → (x +ℤ y) +ℤ z ≡ x +ℤ (y +ℤ z)
      grouped x y z = omega (arith, ints)

no_more : (z : ℤ) → z +ℤ pos 0 ≡ z
no_more z = omega (arith, ints)

zero_first : (z : ℤ) → pos 0 +ℤ z ≡ z
zero_first z = omega (arith, ints)

-- nothing is added yet
pub none_yet : (base factor : ℤ) → base ≡ base +ℤ factor *ℤ pos 0
none_yet base factor = sym (ap (λ (z : ℤ). base +ℤ z) (*ℤ_comm factor (pos 0) ∙ zero-*ℤ factor) ∙ no_more base)

-- a multiple by 0 is nothing
pub nothing_added : (base factor g : ℤ) → factor ≡ pos 0 → base ≡ base +ℤ factor *ℤ g
nothing_added base factor g e = sym (ap (λ (z : ℤ). base +ℤ z) (ap (λ (z : ℤ). z *ℤ g) e ∙ zero-*ℤ g) ∙ no_more base)

-- a row for each set, none or one first

pub no_rows : (v : ℕ → ℤ) (rows : List (List (List Term))) (sets : List (List ℕ)) → length rows < 1 → AreChoices v rows sets → sets ≡ []
no_rows v [] [] h k = refl
no_rows v [] (set ∷ sets) h k = absurd k
no_rows v (row ∷ rows) sets h k = absurd (omega arith)

with_rows : (v : ℕ → ℤ) (row : List (List Term)) (rows : List (List (List Term))) (sets : List (List ℕ)) (P : List (List ℕ) → Type 0) → AreChoices v (row ∷ rows) sets
    → ((set : List ℕ) (rest : List (List ℕ)) → AreBits v row set → AreChoices v rows rest → P (set ∷ rest)) → P sets
with_rows v row rows [] P k f = absurd k
with_rows v row rows (set ∷ sets) P k f = f set sets k.0 k.1

-- a row of rows, as its first one and the others
pub first_others : (rows : List (List (List Term))) (first : List (List Term)) → 1 ≤ length rows → first ≡ get_or rows 0 first → rows ≡ first ∷ take (length rows - 1) (drop 1 rows)
first_others [] first h e = absurd (omega arith)
first_others (x ∷ xs) first h e =
    let f : length (x ∷ xs) - 1 ≡ length xs = omega arith in
    rw (f, take-length) (ap (λ (y : List (List Term)). y ∷ xs) (sym e))

module _ (v : ℕ → ℤ) (cells : List ℤ) (place : ℕ) (counts : List ℕ) where
  -- where no row is left
  pub last_cell : (rows : List (List (List Term))) (sets : List (List ℕ)) (base factor new : ℤ) → length rows < 1 → AreChoices v rows sets
      → new ≡ base +ℤ factor *ℤ unwrap_or (slice_get cells place) (pos 0) → new ≡ base +ℤ factor *ℤ total_at cells place counts (ways sets)
  last_cell rows sets base factor new h k e =
      e ∙ ap (λ (z : ℤ). base +ℤ factor *ℤ z) (sym (total_at-none cells place counts) ∙ ap (λ (ss : List (List ℕ)). total_at cells place counts (ways ss)) (sym (no_rows v rows sets h k)))

  -- one more member of a set
  pub more_cells : (sets : List (List ℕ)) (n : ℕ) (set : List ℕ) (bits : List (List Term)) (bit : List Term) (base factor old more new : ℤ) (next : ℕ) → slice_get bits n ≡ Some bit → AreBits v bits set
      → old ≡ base +ℤ factor *ℤ part_of n (has set) (behind cells place counts sets) → more ≡ factor *ℤ worth v bit → next ≡ place_after place counts n
      → new ≡ old +ℤ more *ℤ total_at cells next (drop 1 counts) (ways sets) → new ≡ base +ℤ factor *ℤ part_of (n + 1) (has set) (behind cells place counts sets)
  more_cells sets n set bits bit base factor old more new next here are e f t h =
      rw add-one
      (part_more base factor (part_of n (has set) (behind cells place counts sets)) (as_bit (has set n)) (behind cells place counts sets n) old more new e
      (f ∙ ap (λ (z : ℤ). factor *ℤ z) (sym (are.bit n bit here)))
      (h ∙ ap (λ (k : ℕ). old +ℤ more *ℤ total_at cells k (drop 1 counts) (ways sets)) t))

  -- all members of the first set
  pub all_cells : (rows : List (List (List Term))) (first : List (List Term)) (others : List (List (List Term))) (bits : List (List Term)) (n : ℕ) (base factor new : ℤ) → rows ≡ first ∷ others → bits ≡ first → n ≡ length bits
      → ((set : List ℕ) (sets : List (List ℕ)) → AreBits v bits set → AreChoices v others sets → new ≡ base +ℤ factor *ℤ part_of n (has set) (behind cells place counts sets))
      → (sets : List (List ℕ)) → AreChoices v rows sets → new ≡ base +ℤ factor *ℤ total_at cells place counts (ways sets)
  all_cells rows first others bits n base factor new is same many h sets k =
      with_rows v first others sets (λ (ss : List (List ℕ)). new ≡ base +ℤ factor *ℤ total_at cells place counts (ways ss))
      (subst (λ (rs : List (List (List Term))). AreChoices v rs sets) is k)
      (λ set rest b c.
      h set rest (subst (λ (row : List (List Term)). AreBits v row set) (sym same) b) c
      ∙ ap (λ (z : ℤ). base +ℤ factor *ℤ z)
      (sym (total_is cells place counts rest n set (subst (λ (k : ℕ). is_set_below k set ≡ true) (sym (many ∙ ap length same)) b.below))))

-- the total of a model's table
pub sum_is : (m : Model) (t : ℕ) (cells : List ℤ) (ws : List (List ℕ)) (one new : ℤ) → ((place : ℕ) → number_cell (cells_of m t) place ≡ unwrap_or (slice_get cells place) (pos 0))
    → one ≡ pos 1 → new ≡ pos 0 +ℤ one *ℤ total_at cells 0 (table_counts m t) ws → total_of m t ws ≡ new
sum_is m t cells ws one new h e f =
    total_of-at m t cells h ws
    ∙ sym (f ∙ zero_first (one *ℤ total_at cells 0 (table_counts m t) ws) ∙ ap (λ (z : ℤ). z *ℤ total_at cells 0 (table_counts m t) ws) e ∙ one_times (total_at cells 0 (table_counts m t) ws))
