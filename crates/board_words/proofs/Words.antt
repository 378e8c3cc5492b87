-- Three words in a list, how a view stands to them after a change, and what a whole seat knows.
use Rattle.std.proofs.Common.{◌≡◌, ℕ, ◌+◌, ◌-◌, ◌*◌, ◌≤◌, List, [], ◌∷◌, min, max, refl, sym, ap, ◌∙◌, subst, arith, zero, suc, ⊎_elim, slice_index}
use Rattle.std.proofs.Math.ListN.{set}
use mathlib.Core.Option.{some, some-ne-none}
use lib.ListN.{get_elem?}
use Rattle.atomic_table.proofs.Lists.{at_set}
use Rattle.board_words.specs.Sums.{total, least, greatest}
use Rattle.board_words.specs.Rules.{no_word, whole_part, draws_each, spent_view, Fits, Balanced}
use Rattle.board_words.specs.declared.seat.View.{View}
use Rattle.board_words.proofs.ViewSums.{total_set, total_within, least_swap, least_at, least_within, greatest_swap, greatest_at, none_total, none_least, none_greatest}

pub word_0 : (ws : List ℕ) (a b c n : ℕ) → ws ≡ a ∷ b ∷ c ∷ [] → set ws 0 n ≡ n ∷ b ∷ c ∷ []
word_0 ws a b c n e = ap (λ (xs : List ℕ). set xs 0 n) e

pub word_1 : (ws : List ℕ) (a b c n : ℕ) → ws ≡ a ∷ b ∷ c ∷ [] → set ws 1 n ≡ a ∷ n ∷ c ∷ []
word_1 ws a b c n e = ap (λ (xs : List ℕ). set xs 1 n) e

pub word_2 : (ws : List ℕ) (a b c n : ℕ) → ws ≡ a ∷ b ∷ c ∷ [] → set ws 2 n ≡ a ∷ b ∷ n ∷ []
word_2 ws a b c n e = ap (λ (xs : List ℕ). set xs 2 n) e

pub found_0 : (ws : List ℕ) (a b c : ℕ) → ws ≡ a ∷ b ∷ c ∷ [] → slice_index ws 0 ≡ a
found_0 ws a b c e = ap (λ (xs : List ℕ). slice_index xs 0) e

pub found_1 : (ws : List ℕ) (a b c : ℕ) → ws ≡ a ∷ b ∷ c ∷ [] → slice_index ws 1 ≡ b
found_1 ws a b c e = ap (λ (xs : List ℕ). slice_index xs 1) e

pub found_2 : (ws : List ℕ) (a b c : ℕ) → ws ≡ a ∷ b ∷ c ∷ [] → slice_index ws 2 ≡ c
found_2 ws a b c e = ap (λ (xs : List ℕ). slice_index xs 2) e

pub at_here : (vs : List View) (i : ℕ) (v w : View) → get_elem? vs i ≡ some v → get_elem? (set vs i w) i ≡ some w
at_here [] i v w e = absurd (some-ne-none v (sym e))
at_here (x ∷ xs) zero v w e = refl
at_here (x ∷ xs) (suc i) v w e = at_here xs i v w e

-- a view that is none of a step's own stays fit where the best word falls and the halt word rises
stays_fit : (opening limit best cause best' cause' : ℕ) (v : View) → best' ≤ best → cause ≤ cause' → Fits opening limit best cause v → Fits opening limit best' cause' v
stays_fit opening limit best cause best' cause' v p q f =
    record { spent = f.spent; opening_is = f.opening_is; limit_is = f.limit_is; seen = omega (arith, f.seen); drawn = f.drawn; raised = f.raised; met = omega (arith, f.met) }

-- a spent view fits any words
pub spent_fits : (opening limit best cause : ℕ) → best ≤ no_word → Fits opening limit best cause spent_view
spent_fits opening limit best cause le =
    record { spent = λ none. refl; opening_is = λ some. absurd (omega arith); limit_is = λ some. absurd (omega arith); seen = le; drawn = omega arith; raised = omega arith; met = omega arith }

-- one view changes, and the words with it
pub changed : (opening limit : ℕ) (words words' : List ℕ) (views : List View) (i : ℕ) (v w : View) (b : Balanced opening limit words views)
    → get_elem? views i ≡ some v → w.part ≡ v.part
    → (best drawn cause : ℕ) → words' ≡ best ∷ drawn ∷ cause ∷ [] → best ≤ b.best → b.cause ≤ cause → Fits opening limit best cause w
    → best ≡ least opening (λ u. u.offered) (set views i w)
    → drawn ≡ total (λ u. u.drawn) (set views i w)
    → drawn ≡ greatest (λ u. u.top) (set views i w)
    → total (λ u. u.late) (set views i w) ≡ drawn - limit
    → cause ≡ greatest (λ u. u.raised) (set views i w)
    → Balanced opening limit words' (set views i w)
changed opening limit words words' views i v w b at part best drawn cause words_are lower higher fits best_is drawn_is top_is late_is cause_is = record {
  best = best;
  drawn = drawn;
  cause = cause;
  words_are = words_are;
  opening_fits = b.opening_fits;
  each = λ j u e. ⊎_elim
      (λ own. subst (Fits opening limit best cause) own.1 fits)
      (λ other. stays_fit opening limit b.best b.cause best cause u lower higher (b.each j u other.1))
      (at_set views i j w u e);
  parts = (let s = total_set (λ u. u.part) views i v w at in let p = b.parts in omega arith);
  best_is = best_is;
  drawn_is = drawn_is;
  top_is = top_is;
  late_is = late_is;
  cause_is = cause_is;
}

-- where one view takes over what another had, and that one is spent, sums, greatest and least stay
pub total_joined : (h : View → ℕ) (vs : List View) (i j : ℕ) (v w both : View) → get_elem? vs i ≡ some v → get_elem? (set vs i both) j ≡ some w
    → h both ≡ h v + h w → h spent_view ≡ 0 → total h (set (set vs i both) j spent_view) ≡ total h vs
total_joined h vs i j v w both at at_other add none =
    let one = total_set h vs i v both at in
    let two = total_set h (set vs i both) j w spent_view at_other in
    omega arith

pub greatest_joined : (h : View → ℕ) (vs : List View) (i j : ℕ) (v w both : View) → get_elem? vs i ≡ some v → get_elem? (set vs i both) j ≡ some w → get_elem? vs j ≡ some w
    → get_elem? (set (set vs i both) j spent_view) i ≡ some both → h both ≡ max (h v) (h w) → h spent_view ≡ 0 → greatest h (set (set vs i both) j spent_view) ≡ greatest h vs
greatest_joined h vs i j v w both at at_other was still add none =
    let one = greatest_swap h vs i v both at in
    let two = greatest_swap h (set vs i both) j w spent_view at_other in
    let a = greatest_at h vs i v at in
    let b = greatest_at h vs j w was in
    let c = greatest_at h (set vs i both) i both (at_here vs i v both at) in
    let d = greatest_at h (set (set vs i both) j spent_view) i both still in
    omega arith

pub least_joined : (a : ℕ) (h : View → ℕ) (vs : List View) (i j : ℕ) (v w both : View) → get_elem? vs i ≡ some v → get_elem? (set vs i both) j ≡ some w → get_elem? vs j ≡ some w
    → get_elem? (set (set vs i both) j spent_view) i ≡ some both → h both ≡ min (h v) (h w) → a ≤ h spent_view → least a h (set (set vs i both) j spent_view) ≡ least a h vs
least_joined a h vs i j v w both at at_other was still add none =
    let one = least_swap a h vs i v both at in
    let two = least_swap a h (set vs i both) j w spent_view at_other in
    let p = least_at a h vs i v at in
    let q = least_at a h vs j w was in
    let r = least_at a h (set vs i both) i both (at_here vs i v both at) in
    let t = least_at a h (set (set vs i both) j spent_view) i both still in
    let u = least_within a h vs in
    let x = least_within a h (set vs i both) in
    omega arith

-- what holds of all views together, seen from the one at place i
module _ (opening limit : ℕ) (words : List ℕ) (views : List View) (b : Balanced opening limit words views) (i : ℕ) (v : View) (at : get_elem? views i ≡ some v) where
  -- the draws of all seats are few
  pub few_draws : b.drawn ≤ draws_each * whole_part
  few_draws =
      let t = total_within (λ (u : View). u.drawn) (λ (u : View). u.part) draws_each views (λ j u e. (b.each j u e).drawn) in
      let is = b.drawn_is in
      let all : draws_each * total (λ (u : View). u.part) views ≡ draws_each * whole_part = ap (λ (k : ℕ). draws_each * k) b.parts in
      omega arith

  -- beside a whole seat every view is spent
  rest_spent : (j : ℕ) (u : View) → get_elem? (set views i spent_view) j ≡ some u → u.part ≡ 0 → u ≡ spent_view
  rest_spent j u e none = ⊎_elim (λ own. sym own.1) (λ other. (b.each j u other.1).spent none) (at_set views i j spent_view u e)

  rest_none : v.part ≡ whole_part → total (λ (u : View). u.part) (set views i spent_view) ≡ 0
  rest_none all = let t = total_set (λ (u : View). u.part) views i v spent_view at in let p = b.parts in omega arith

  -- so sums, greatest and least are those of the whole seat's view
  pub alone_total : (f : View → ℕ) → v.part ≡ whole_part → f spent_view ≡ 0 → total f views ≡ f v
  alone_total f all none_there =
      let t = total_set f views i v spent_view at in
      let z = none_total f (λ (u : View). u.part) (set views i spent_view) (rest_none all) (λ j u e none. ap f (rest_spent j u e none) ∙ none_there) in
      omega arith

  pub alone_greatest : (f : View → ℕ) → v.part ≡ whole_part → f spent_view ≡ 0 → greatest f views ≡ f v
  alone_greatest f all none_there =
      let t = greatest_swap f views i v spent_view at in
      let z = none_greatest f (λ (u : View). u.part) (set views i spent_view) (rest_none all) (λ j u e none. ap f (rest_spent j u e none) ∙ none_there) in
      omega arith

  pub alone_least : v.part ≡ whole_part → least opening (λ (u : View). u.offered) views ≡ min opening v.offered
  alone_least all =
      let t = least_swap opening (λ (u : View). u.offered) views i v spent_view at in
      let z = none_least opening no_word (λ (u : View). u.offered) (λ (u : View). u.part) (set views i spent_view) b.opening_fits (rest_none all) (λ j u e none. ap (λ (u : View). u.offered) (rest_spent j u e none)) in
      let l = least_within opening (λ (u : View). u.offered) views in
      let o = b.opening_fits in
      omega arith
