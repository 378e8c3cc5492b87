-- Each kind of step keeps the rule, and tells its seat what is said of it.
use Rattle.std.proofs.Common.{◌≡◌, ℕ, ◌+◌, ◌-◌, ◌<◌, ◌≤◌, ◌^◌, ◌%◌, List, [], ◌∷◌, min, max, refl, sym, ap, ◌∙◌, subst, arith, nat_lt, cond, ⊎_elim, slice_index, mod-eq_of_lt}
use Rattle.std.proofs.lemmas.Bool.Decides.{nat_tests}
use Rattle.std.proofs.Math.ListN.{set}
use mathlib.Core.Option.{some}
use lib.ListN.{get_elem?}
use Rattle.atomic_table.specs.Table.{State, Me, Step, Allows, Splits, Joins, keeps}
use Rattle.atomic_table.proofs.Lists.{at_set, at_snoc, set_else}
use Rattle.board_words.specs.Causes.{halt_number, IsHaltWord}
use Rattle.board_words.specs.declared.halt.HaltCause.{HaltCause}
use Rattle.board_words.specs.declared.halt.HaltCause.TheVariants.{Budget, Memory, Fault}
use Rattle.board_words.specs.Sums.{total, least, greatest}
use Rattle.board_words.specs.Rules.{spent_view, MayDraw, MaySplit, Fits, Balanced, Kept}
use Rattle.board_words.specs.Steps as steps
use Rattle.board_words.specs.Steps.{after_look, after_offer, after_draw, after_halt, after_halted, after_split, split_view, after_join, IsBestFor, IsCountFor, IsCauseFor}
use Rattle.board_words.specs.declared.seat.View.{View}
use Rattle.board_words.proofs.ViewSums.{total_set, total_snoc, total_at, least_lower, least_same, least_snoc, least_at, least_within, greatest_raise, greatest_same, greatest_snoc, greatest_at, greatest_within}
use Rattle.board_words.proofs.Words.{word_0, word_1, word_2, found_0, found_1, found_2, at_here, changed, spent_fits, total_joined, greatest_joined, least_joined, few_draws, alone_total, alone_greatest, alone_least}

-- the number of a cause is a halt word
pub number_fits : (cause : HaltCause) → IsHaltWord (halt_number cause)
number_fits Budget = omega arith
number_fits Memory = omega arith
number_fits Fault = omega arith

-- one more draw is late exactly where its number is not below the limit
late_one : (n limit : ℕ) → (n + 1) - limit ≡ (n - limit) + cond {A = ℕ} (nat_lt n limit) 0 1
late_one n limit = grind (arith, nat_tests)

module _ (key : ℕ × ℕ) (slots id : ℕ) (m : Me (Unit {0}) View) (idle : m.1 ≡ []) (part : 0 < m.0.part) where
  abbrev v : View
  v = m.0

  -- what a step finds, where the rule holds
  module _ (s : State (Unit {0}) View) (b : Kept key s) (at : get_elem? s.views id ≡ some v) where
    best_for : (n : ℕ) → n ≡ b.best → IsBestFor v n
    best_for n found =
        let f = b.each id v at in record {
          opening = (let l = least_within key.0 (λ (u : View). u.offered) s.views in let is = b.best_is in let o = f.opening_is part in omega arith);
          seen = omega (arith, f.seen);
          offered = (let l = least_at key.0 (λ (u : View). u.offered) s.views id v at in let is = b.best_is in omega arith);
          exact = λ all. (let l = alone_least key.0 key.1 s.words s.views b id v at all in let is = b.best_is in let o = f.opening_is part in omega arith);
        }

    count_for : (n : ℕ) → n ≡ b.drawn → IsCountFor v n
    count_for n found =
        let f = b.each id v at in record {
          top = (let l = greatest_at (λ (u : View). u.top) s.views id v at in let is = b.top_is in omega arith);
          own = (let l = total_at (λ (u : View). u.drawn) s.views id v at in let is = b.drawn_is in omega arith);
          exact = λ all. (
            (let l = alone_total key.0 key.1 s.words s.views b id v at (λ (u : View). u.drawn) all refl in let is = b.drawn_is in omega arith),
            (let l = alone_greatest key.0 key.1 s.words s.views b id v at (λ (u : View). u.top) all refl in let is = b.top_is in omega arith),
          );
          late = λ all. (let l = alone_total key.0 key.1 s.words s.views b id v at (λ (u : View). u.late) all refl in let is = b.late_is in let o = f.limit_is part in omega arith);
        }

    -- the halt word is the number of a cause, since each view's is
    halt_word : IsHaltWord b.cause
    halt_word = let t = greatest_within (λ (u : View). u.raised) 3 s.views (λ j u e. (b.each j u e).raised) in let is = b.cause_is in omega arith

    cause_for : (n : ℕ) → n ≡ b.cause → IsCauseFor v n
    cause_for n found =
        let f = b.each id v at in record {
          number = (let h = halt_word in omega arith);
          met = omega (arith, f.met);
          raised = (let l = greatest_at (λ (u : View). u.raised) s.views id v at in let is = b.cause_is in omega arith);
          exact = λ all. (let l = alone_greatest key.0 key.1 s.words s.views b id v at (λ (u : View). u.raised) all refl in let is = b.cause_is in omega arith);
        }

    -- what a change of the view leaves
    same_best : (w : View) → w.offered ≡ v.offered → b.best ≡ least key.0 (λ (u : View). u.offered) (set s.views id w)
    same_best w same = let l = least_same key.0 (λ (u : View). u.offered) s.views id v w at same in let is = b.best_is in omega arith

    same_drawn : (w : View) → w.drawn ≡ v.drawn → b.drawn ≡ total (λ (u : View). u.drawn) (set s.views id w)
    same_drawn w same = let l = total_set (λ (u : View). u.drawn) s.views id v w at in let is = b.drawn_is in omega arith

    same_top : (w : View) → w.top ≡ v.top → b.drawn ≡ greatest (λ (u : View). u.top) (set s.views id w)
    same_top w same = let l = greatest_same (λ (u : View). u.top) s.views id v w at same in let is = b.top_is in omega arith

    same_late : (w : View) → w.late ≡ v.late → total (λ (u : View). u.late) (set s.views id w) ≡ b.drawn - key.1
    same_late w same = let l = total_set (λ (u : View). u.late) s.views id v w at in let is = b.late_is in omega arith

    same_cause : (w : View) → w.raised ≡ v.raised → b.cause ≡ greatest (λ (u : View). u.raised) (set s.views id w)
    same_cause w same = let l = greatest_same (λ (u : View). u.raised) s.views id v w at same in let is = b.cause_is in omega arith

    -- a step that changes no word, and no view
    told : (words : List ℕ) → words ≡ b.best ∷ b.drawn ∷ b.cause ∷ [] → Balanced key.0 key.1 words (set s.views id v)
    told words are = changed key.0 key.1 s.words words s.views id v v b at refl b.best b.drawn b.cause are (omega arith) (omega arith) (b.each id v at)
        (same_best v refl) (same_drawn v refl) (same_top v refl) (same_late v refl) (same_cause v refl)

  pub looks : (said : Step (Unit {0})) → Allows (Kept key) slots id m 0 (λ n. n) (steps.Looks said m)
  looks said s b homes at fits =
      let n : ℕ = slice_index s.words 0 in
      let found : n ≡ b.best = found_0 s.words b.best b.drawn b.cause b.words_are in
      let w = after_look v n in
      let f = b.each id v at in (
        w,
        keeps,
        tt,
        changed key.0 key.1 s.words (set s.words 0 n) s.views id v w b at refl b.best b.drawn b.cause
            (word_0 s.words b.best b.drawn b.cause n b.words_are ∙ ap (λ (k : ℕ). k ∷ b.drawn ∷ b.cause ∷ []) found) (omega arith) (omega arith)
            (record { spent = λ none. absurd (omega arith); opening_is = f.opening_is; limit_is = f.limit_is; seen = omega arith; drawn = f.drawn; raised = f.raised; met = f.met })
            (same_best s b at w refl) (same_drawn s b at w refl) (same_top s b at w refl) (same_late s b at w refl) (same_cause s b at w refl),
        ((refl, refl), best_for s b at n found),
      )

  pub offers : (said : Step (Unit {0})) (word : ℕ) → said.first ≡ word → Allows (Kept key) slots id m 0 (λ n. min n word) (steps.Offers said m)
  offers said word is_word s b homes at fits =
      let n : ℕ = slice_index s.words 0 in
      let found : n ≡ b.best = found_0 s.words b.best b.drawn b.cause b.words_are in
      let w = after_offer v word in
      let f = b.each id v at in (
        w,
        keeps,
        tt,
        changed key.0 key.1 s.words (set s.words 0 (min n word)) s.views id v w b at refl (min n word) b.drawn b.cause
            (word_0 s.words b.best b.drawn b.cause (min n word) b.words_are) (omega arith) (omega arith)
            (record { spent = λ none. absurd (omega arith); opening_is = f.opening_is; limit_is = f.limit_is; seen = omega (arith, f.seen); drawn = f.drawn; raised = f.raised; met = f.met })
            (let l = least_lower key.0 (λ (u : View). u.offered) s.views id word v w at refl in let is = b.best_is in omega arith)
            (same_drawn s b at w refl) (same_top s b at w refl) (same_late s b at w refl) (same_cause s b at w refl),
        ((refl, ap (after_offer v) (sym is_word)), best_for s b at n found),
      )

  pub draws : (said : Step (Unit {0})) → MayDraw v → Allows (Kept key) slots id m 1 (λ n. (n + 1) % 2 ^ 64) (steps.Draws said m)
  draws said room s b homes at fits =
      let n : ℕ = slice_index s.words 1 in
      let found : n ≡ b.drawn = found_1 s.words b.best b.drawn b.cause b.words_are in
      let bound = few_draws key.0 key.1 s.words s.views b id v at in
      let next : (n + 1) % 2 ^ 64 ≡ n + 1 = mod-eq_of_lt (omega arith) in
      let w = after_draw v n in
      let f = b.each id v at in
      let count = count_for s b at n found in (
        w,
        keeps,
        tt,
        changed key.0 key.1 s.words (set s.words 1 ((n + 1) % 2 ^ 64)) s.views id v w b at refl b.best (n + 1) b.cause
            (word_1 s.words b.best b.drawn b.cause ((n + 1) % 2 ^ 64) b.words_are ∙ ap (λ (k : ℕ). b.best ∷ k ∷ b.cause ∷ []) next) (omega arith) (omega arith)
            (record { spent = λ none. absurd (omega arith); opening_is = f.opening_is; limit_is = f.limit_is; seen = f.seen; drawn = omega arith; raised = f.raised; met = f.met })
            (same_best s b at w refl)
            (let l = total_set (λ (u : View). u.drawn) s.views id v w at in let is = b.drawn_is in omega arith)
            (let l = greatest_raise (λ (u : View). u.top) s.views id (n + 1) v w at (let t = count.top in omega arith) in let is = b.top_is in omega arith)
            (let l = total_set (λ (u : View). u.late) s.views id v w at in
            let is = b.late_is in
            let one = late_one n key.1 in
            let same : cond {A = ℕ} (nat_lt n v.limit) 0 1 ≡ cond {A = ℕ} (nat_lt n key.1) 0 1 = ap (λ (k : ℕ). cond {A = ℕ} (nat_lt n k) 0 1) (f.limit_is part) in
            omega arith)
            (same_cause s b at w refl),
        ((refl, refl), count),
      )

  pub halts : (said : Step (Unit {0})) (cause : ℕ) → IsHaltWord cause → said.first ≡ cause → Allows (Kept key) slots id m 2 (λ n. max n cause) (steps.Raises said m)
  halts said cause is_number is_cause s b homes at fits =
      let n : ℕ = slice_index s.words 2 in
      let found : n ≡ b.cause = found_2 s.words b.best b.drawn b.cause b.words_are in
      let w = after_halt v cause in
      let f = b.each id v at in (
        w,
        keeps,
        tt,
        changed key.0 key.1 s.words (set s.words 2 (max n cause)) s.views id v w b at refl b.best b.drawn (max n cause)
            (word_2 s.words b.best b.drawn b.cause (max n cause) b.words_are) (omega arith) (omega arith)
            (record { spent = λ none. absurd (omega arith); opening_is = f.opening_is; limit_is = f.limit_is; seen = f.seen; drawn = f.drawn; raised = (let r = f.raised in omega arith); met = omega (arith, f.met) })
            (same_best s b at w refl) (same_drawn s b at w refl) (same_top s b at w refl) (same_late s b at w refl)
            (let l = greatest_raise (λ (u : View). u.raised) s.views id cause v w at refl in let is = b.cause_is in omega arith),
        (refl, ap (after_halt v) (sym is_cause)),
      )

  pub meets : (said : Step (Unit {0})) → Allows (Kept key) slots id m 2 (λ n. n) (steps.Meets said m)
  meets said s b homes at fits =
      let n : ℕ = slice_index s.words 2 in
      let found : n ≡ b.cause = found_2 s.words b.best b.drawn b.cause b.words_are in
      let w = after_halted v n in
      let f = b.each id v at in (
        w,
        keeps,
        tt,
        changed key.0 key.1 s.words (set s.words 2 n) s.views id v w b at refl b.best b.drawn b.cause
            (word_2 s.words b.best b.drawn b.cause n b.words_are ∙ ap (λ (k : ℕ). b.best ∷ b.drawn ∷ k ∷ []) found) (omega arith) (omega arith)
            (record { spent = λ none. absurd (omega arith); opening_is = f.opening_is; limit_is = f.limit_is; seen = f.seen; drawn = f.drawn; raised = f.raised; met = omega arith })
            (same_best s b at w refl) (same_drawn s b at w refl) (same_top s b at w refl) (same_late s b at w refl) (same_cause s b at w refl),
        ((refl, refl), cause_for s b at n found),
      )

  pub tells_best : (said : Step (Unit {0})) → Allows (Kept key) slots id m 0 (λ n. n) (steps.TellsBest said m)
  tells_best said s b homes at fits =
      let n : ℕ = slice_index s.words 0 in
      let found : n ≡ b.best = found_0 s.words b.best b.drawn b.cause b.words_are in
      (v, keeps, tt, told s b at (set s.words 0 n) (word_0 s.words b.best b.drawn b.cause n b.words_are ∙ ap (λ (k : ℕ). k ∷ b.drawn ∷ b.cause ∷ []) found), (refl, best_for s b at n found))

  pub tells_drawn : (said : Step (Unit {0})) → Allows (Kept key) slots id m 1 (λ n. n) (steps.TellsDrawn said m)
  tells_drawn said s b homes at fits =
      let n : ℕ = slice_index s.words 1 in
      let found : n ≡ b.drawn = found_1 s.words b.best b.drawn b.cause b.words_are in
      (v, keeps, tt, told s b at (set s.words 1 n) (word_1 s.words b.best b.drawn b.cause n b.words_are ∙ ap (λ (k : ℕ). b.best ∷ k ∷ b.cause ∷ []) found), (refl, count_for s b at n found))

  pub tells_cause : (said : Step (Unit {0})) → Allows (Kept key) slots id m 2 (λ n. n) (steps.TellsCause said m)
  tells_cause said s b homes at fits =
      let n : ℕ = slice_index s.words 2 in
      let found : n ≡ b.cause = found_2 s.words b.best b.drawn b.cause b.words_are in
      (v, keeps, tt, told s b at (set s.words 2 n) (word_2 s.words b.best b.drawn b.cause n b.words_are ∙ ap (λ (k : ℕ). b.best ∷ b.drawn ∷ k ∷ []) found), (refl, cause_for s b at n found))

  pub splits : MaySplit v → Splits (Kept key) id v (after_split v) (split_view v)
  splits may s b at =
      let left = after_split v in
      let right = split_view v in
      let f = b.each id v at in
      let vs = set s.views id left in
      let two : 2 ≤ v.part = may.0 in
      record {
        best = b.best;
        drawn = b.drawn;
        cause = b.cause;
        words_are = b.words_are;
        opening_fits = b.opening_fits;
        each = λ j u e. ⊎_elim
            (λ old. ⊎_elim
            (λ own. subst (Fits key.0 key.1 b.best b.cause) own.1
            (record { spent = λ none. absurd (omega arith); opening_is = λ some. f.opening_is part; limit_is = λ some. f.limit_is part; seen = f.seen; drawn = may.1; raised = f.raised; met = f.met }))
            (λ other. b.each j u other.1)
            (at_set s.views id j left u old))
            (λ new. subst (Fits key.0 key.1 b.best b.cause) new
            (record { spent = λ none. absurd (omega arith); opening_is = λ some. f.opening_is part; limit_is = λ some. f.limit_is part; seen = f.seen; drawn = omega arith; raised = omega arith; met = omega arith }))
            (at_snoc vs right u j e);
        parts = (let t = total_set (λ (u : View). u.part) s.views id v left at in let p = b.parts in let l = total_snoc (λ (u : View). u.part) vs right in omega arith);
        best_is = (let l = same_best s b at left refl in let t = least_snoc key.0 (λ (u : View). u.offered) vs right in let o = b.opening_fits in let a = least_within key.0 (λ (u : View). u.offered) vs in omega arith);
        drawn_is = (let l = same_drawn s b at left refl in let t = total_snoc (λ (u : View). u.drawn) vs right in omega arith);
        top_is = (let l = same_top s b at left refl in let t = greatest_snoc (λ (u : View). u.top) vs right in omega arith);
        late_is = (let l = same_late s b at left refl in let t = total_snoc (λ (u : View). u.late) vs right in omega arith);
        cause_is = (let l = same_cause s b at left refl in let t = greatest_snoc (λ (u : View). u.raised) vs right in omega arith);
      }

  pub joins : (other : ℕ) (w : View) → 0 < w.part → Joins (Kept key) id v other w (after_join v w) spent_view
  joins other w some_part s b at apart at_other =
      let both = after_join v w in
      let f = b.each id v at in
      let vs = set s.views id both in
      let us = set vs other spent_view in
      let was : get_elem? s.views other ≡ some w = sym (set_else s.views id other both apart) ∙ at_other in
      let g = b.each other w was in
      let here : get_elem? vs id ≡ some both = at_here s.views id v both at in
      let here_still : get_elem? us id ≡ some both = set_else vs other id spent_view (λ e. apart (sym e)) ∙ here in
      let sum : (h : View → ℕ) → h both ≡ h v + h w → h spent_view ≡ 0 → total h us ≡ total h s.views = λ h add none. total_joined h s.views id other v w both at at_other add none in
      let top : (h : View → ℕ) → h both ≡ max (h v) (h w) → h spent_view ≡ 0 → greatest h us ≡ greatest h s.views = λ h add none. greatest_joined h s.views id other v w both at at_other was here_still add none in
      record {
        best = b.best;
        drawn = b.drawn;
        cause = b.cause;
        words_are = b.words_are;
        opening_fits = b.opening_fits;
        each = λ j u e. ⊎_elim
            (λ own. subst (Fits key.0 key.1 b.best b.cause) own.1 (spent_fits key.0 key.1 b.best b.cause (let l = least_within key.0 (λ (u : View). u.offered) s.views in let is = b.best_is in let o = b.opening_fits in omega arith)))
            (λ old. ⊎_elim
            (λ own. subst (Fits key.0 key.1 b.best b.cause) own.1
            (record {
              spent = λ none. absurd (omega arith);
              opening_is = λ some. f.opening_is part;
              limit_is = λ some. f.limit_is part;
              seen = (let p = f.seen in let q = g.seen in omega arith);
              drawn = (let p = f.drawn in let q = g.drawn in omega arith);
              raised = (let p = f.raised in let q = g.raised in omega arith);
              met = (let p = f.met in let q = g.met in omega arith);
            }))
            (λ rest. b.each j u rest.1)
            (at_set s.views id j both u old.1))
            (at_set vs other j spent_view u e);
        parts = sum (λ (u : View). u.part) refl refl ∙ b.parts;
        best_is = b.best_is ∙ sym (least_joined key.0 (λ (u : View). u.offered) s.views id other v w both at at_other was here_still refl b.opening_fits);
        drawn_is = b.drawn_is ∙ sym (sum (λ (u : View). u.drawn) refl refl);
        top_is = b.top_is ∙ sym (top (λ (u : View). u.top) refl refl);
        late_is = sum (λ (u : View). u.late) refl refl ∙ b.late_is;
        cause_is = b.cause_is ∙ sym (top (λ (u : View). u.raised) refl refl);
      }
