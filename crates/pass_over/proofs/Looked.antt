-- What a pass announced, by the costs that were looked at while it ran and its best.
use Rattle.std.proofs.Common.{◌≡◌, ℕ, ◌≤◌, ◌⊎◌, inl, inr, Bool, true, false, if◌then◌else◌, List, [], ◌∷◌, ◌++◌, Option, Some, None, Result, Ok, Err, ℤ, pos, refl, sym, ap, subst, ◌∙◌, arith}
use Rattle.std.specs.Prelude.{◌≤ℤ◌, IfSome, option_map, option_to_list}
use Rattle.std.specs.Result.{is_err}
use Rattle.announce_laws.proofs.Lasts.{last_law}
use Rattle.announce_laws.specs.Called.{IsSolved}
use Rattle.announce_laws.specs.Last.{Improving, announced, is_announced, last_after, last_of, word_or_none}
use Rattle.announcing.specs.Telling.{IsTold, announce_text}
use Rattle.announcing.specs.declared.telling.Told.{Told}
use Rattle.board_words.specs.Steps.{best_known}
use Rattle.board_words.specs.declared.seat.View.{View}
use Rattle.dp_claims.specs.Enough.{Has}
use Rattle.dp_model.specs.Costs.{InRange, order_word}
use Rattle.dp_model.specs.declared.answers.Found.{Found}
use Rattle.dp_model.specs.declared.whole.Model.{Model}
use Rattle.dp_outside.specs.Outside.{Rose, Takes, TakesFront}
use Rattle.dp_outside.specs.declared.failing.Failed.{Failed}
use Rattle.dp_steps.specs.Lists.{Solution}
use Rattle.pass_ends.specs.Ends.{IsLegal, IsLowered, IsPassEnd}
use Rattle.pass_ends.specs.declared.answers.PassEnd.{PassEnd}
use Rattle.pass_ends.specs.declared.answers.PassEnd.TheVariants as ends
use Rattle.pass_ledger.proofs.Lists.{has_cases, has_head, has_none, has_right}
use Rattle.pass_ledger.specs.Passes.{Pass, word_of}
use Rattle.pass_over.specs.Announcements.{EndsAnnounced, HasAnnounced, HasRefused, RanOut, best_in, cost_in, last_or}
use Rattle.pass_over.specs.declared.announced.AnnouncedEnd.{AnnouncedEnd}
use Rattle.solve_report.proofs.Written.{Takes-nothing}
use Rattle.solve_report.specs.Puts.{Puts}

-- ---- how a pass ended

legal_in : (p : Pass) (was now : View) (end : PassEnd) → IsPassEnd p was now end → IsLegal p.model (best_in end)
legal_in p was now (ends.Closed visited dropped floor best) h = h.1
legal_in p was now (ends.Halted cause visited dropped best) h = h.1

lowered_in : (p : Pass) (was now : View) (end : PassEnd) → IsPassEnd p was now end → (RanOut end → ⊥) → IsLowered p (best_known was) (best_in end) (best_known now)
lowered_in p was now (ends.Closed visited dropped floor best) h fine = h.2.best_is
lowered_in p was now (ends.Halted cause visited dropped best) h fine = h.2.best_is fine

-- ---- what was looked at

-- the announced costs were looked at
announced_from : (minimize : Bool) (last : Option ℤ) (costs : List ℤ) (c : ℤ) → Has (announced minimize last costs) c → Has costs c
announced_from minimize last [] c has = has
announced_from minimize last (x ∷ costs) c has = by_test (λ l h. has_right (x ∷ []) costs c (announced_from minimize l costs c h)) (is_announced minimize last x) (last_after minimize last x) has
  where
    by_test : ((l : Option ℤ) → Has (announced minimize l costs) c → Has (x ∷ costs) c) → (t : Bool) (l : Option ℤ) → Has ((if t then x ∷ [] else []) ++ announced minimize l costs) c → Has (x ∷ costs) c
    by_test later true l h = elim (has_head x (announced minimize l costs) c h) [ inl e ↦ (0, ap (λ (z : ℤ). Some z) e) | inr more ↦ later l more ]
    by_test later false l h = later l h

-- the last of the announced costs
last_is : (minimize : Bool) (last : Option ℤ) (costs : List ℤ) → last_of minimize last costs ≡ last_or last (announced minimize last costs)
last_is minimize last [] = refl
last_is minimize last (x ∷ costs) = by_test (λ l. last_is minimize l costs) (is_announced minimize last x)
  where
    by_test : ((l : Option ℤ) → last_of minimize l costs ≡ last_or l (announced minimize l costs)) → (t : Bool) → last_of minimize (if t then Some x else last) costs ≡ last_or last ((if t then x ∷ [] else []) ++ announced minimize (if t then Some x else last) costs)
    by_test later true = later (Some x)
    by_test later false = later last

-- ---- what was written

module _ (before after : Option (List ℕ)) (faults faults_after : ℕ) (text : List ℕ) (failed : Bool) where
  clash : true ≡ false → ⊥
  clash e = cc

  taken_whole : (result : Result (Unit {0}) Failed) → Puts before after faults faults_after text result → failed ≡ is_err result → failed ≡ false → Takes before after text
  taken_whole (Ok done) puts is fine = puts.ok
  taken_whole (Err end) puts is fine = absurd (clash (sym is ∙ fine))

  taken_front : (result : Result (Unit {0}) Failed) → Puts before after faults faults_after text result → failed ≡ is_err result → failed ≡ true → TakesFront before after text × Rose faults faults_after
  taken_front (Ok done) puts is stopped = absurd (clash (sym stopped ∙ is))
  taken_front (Err end) puts is stopped = (puts.err, puts.failed)

-- each cost that was looked at is that of a legal list, so what was announced is as it is to be
module _ (m : Model) (minimize : Bool) (last : Option ℤ) (looked : List ℤ) (before after : Option (List ℕ)) (faults faults_after : ℕ) (told : Told) (h : IsTold minimize last looked before after faults faults_after told)
    (same : minimize ≡ m.minimize) (legal : (c : ℤ) → Has looked c → (steps : List ℕ) × Solution m steps c) (r : AnnouncedEnd) (last_told : r.last ≡ told.last) (count_told : r.announced ≡ told.count) (failed_told : r.failed ≡ told.failed) where
  has_announced : HasAnnounced m last before after faults faults_after r
  has_announced =
      let all = announced minimize last looked in
      record {
        costs = all;
        legal = λ c has. legal c (announced_from minimize last looked c has);
        improving = subst (λ (b : Bool). Improving b last all) same (last_law.improving minimize last looked);
        written = λ fine.
            let f : told.failed ≡ false = sym failed_told ∙ fine in
            (taken_whole before after faults faults_after (announce_text all) told.failed h.result h.written h.result_is f, count_told ∙ h.count_is f, last_told ∙ (h.last_is f ∙ last_is minimize last looked));
        stopped = λ stop. taken_front before after faults faults_after (announce_text all) told.failed h.result h.written h.result_is (sym failed_told ∙ stop);
        count = h.written.count;
      }

-- ---- the answer

-- a pass ended so, and each of these costs is that of a legal list, none better than its best word
module _ (p : Pass) (was now : View) (end : PassEnd) (ended : IsPassEnd p was now end) (costs : List ℤ) (solved : (c : ℤ) → Has costs c → IsSolved p (best_known now) c) where
  best_legal : (found : Option Found) → IsLegal p.model found → (c : ℤ) → Has (option_to_list (option_map (λ (f : Found). f.cost) found)) c → (steps : List ℕ) × Solution p.model steps c
  best_legal None legal c has = absurd (has_none c has)
  best_legal (Some f) legal c has = elim (has_head f.cost [] c has) [ inl e ↦ (f.steps, subst (λ (x : ℤ). Solution p.model f.steps x) e legal) | inr none ↦ absurd (has_none c none) ]

  all_legal : (c : ℤ) → Has (costs ++ option_to_list (cost_in end)) c → (steps : List ℕ) × Solution p.model steps c
  all_legal c has =
      elim (has_cases costs (option_to_list (cost_in end)) c has) [
        | inl a ↦ (solved c a).0
        | inr b ↦ best_legal (best_in end) (legal_in p was now end ended) c b
      ]

  -- what law_last asks of the pass's best
  best_word : (found : Option Found) → IsLegal p.model found → IfSome found (λ f. pos (best_known now) ≤ℤ word_of p f.cost) → IfSome (option_map (λ (f : Found). f.cost) found) (λ c. InRange c × (pos (best_known now) ≤ℤ order_word p.model.minimize p.model.join (Some c)))
  best_word None legal above = tt
  best_word (Some f) legal above = (legal.in_range, above)

  best_one : (found : Option Found) → (best_known now ≡ best_known was) ⊎ ((f : Found) × (found ≡ Some f) × (pos (best_known now) ≡ word_of p f.cost))
      → (best_known now ≡ best_known was) ⊎ ((c : ℤ) × (option_map (λ (f : Found). f.cost) found ≡ Some c) × (pos (best_known now) ≡ order_word p.model.minimize p.model.join (Some c)))
  best_one found (inl same) = inl same
  best_one found (inr one) = inr (one.0.cost, ap (λ (o : Option Found). option_map (λ (f : Found). f.cost) o) one.1, one.2)

  last_word : (last : Option ℤ) → (RanOut end → ⊥) → pos (best_known was) ≡ word_or_none p.model last → pos (best_known now) ≡ word_or_none p.model (last_of p.model.minimize last (costs ++ option_to_list (cost_in end)))
  last_word last fine word =
      let low = lowered_in p was now end ended fine in
      last_law.last p.model (best_known was) (best_known now) last costs (cost_in end) word low.no_greater
      (λ c has. (let s = solved c has in (s.0.1.in_range, s.1)))
      (best_word (best_in end) (legal_in p was now end ended) low.no_worse)
      (best_one (best_in end) low.is_one)

  module _ (minimize : Bool) (last : Option ℤ) (before after : Option (List ℕ)) (faults faults_after : ℕ) (told : Told) (same : minimize ≡ p.model.minimize) (r : AnnouncedEnd) (last_told : r.last ≡ told.last) (count_told : r.announced ≡ told.count) (failed_told : r.failed ≡ told.failed) (refused : HasRefused p r.refused) where
    -- these costs were looked at, and the pass's best
    pub ends_looked : r.end ≡ end → IsTold minimize last (costs ++ option_to_list (cost_in end)) before after faults faults_after told → EndsAnnounced p was now last before after faults faults_after r
    ends_looked same_end h = (
      subst (IsPassEnd p was now) (sym same_end) ended,
      has_announced p.model minimize last (costs ++ option_to_list (cost_in end)) before after faults faults_after told h same all_legal r last_told count_told failed_told,
      λ fine going word.
          let f : told.failed ≡ false = sym failed_told ∙ fine in
          let is : r.last ≡ last_of p.model.minimize last (costs ++ option_to_list (cost_in end)) = last_told ∙ (h.last_is f ∙ ap (λ (b : Bool). last_of b last (costs ++ option_to_list (cost_in end))) same) in
          subst (λ (o : Option ℤ). pos (best_known now) ≡ word_or_none p.model o) (sym is) (last_word last (λ ran. going (subst RanOut (sym same_end) ran)) word),
      refused,
    )

    -- these costs alone were looked at, and memory ran out
    pub ends_lost : (other : PassEnd) → r.end ≡ other → IsPassEnd p was now other → RanOut other → IsTold minimize last costs before after faults faults_after told → EndsAnnounced p was now last before after faults faults_after r
    ends_lost other same_end h ran looked = (
      subst (IsPassEnd p was now) (sym same_end) h,
      has_announced p.model minimize last costs before after faults faults_after told looked same (λ c has. (solved c has).0) r last_told count_told failed_told,
      λ _ going _. absurd (going (subst RanOut (sym same_end) ran)),
      refused,
    )

-- ---- a pass that announced nothing

-- it could not begin: nothing was drawn, and memory ran out
pub ends_silent : (p : Pass) (was now : View) (last : Option ℤ) (before after : Option (List ℕ)) (faults faults_after : ℕ) (end : PassEnd) (r : AnnouncedEnd) → r ≡ record { end = end; last = last; announced = 0; refused = 0; failed = false } → IsPassEnd p was now end → RanOut end
    → after ≡ before → faults_after ≡ faults → EndsAnnounced p was now last before after faults faults_after r
ends_silent p was now last before after faults faults_after end r is h ran same count =
    subst (EndsAnnounced p was now last before after faults faults_after) (sym is)
    (subst (λ (t : Option (List ℕ)). EndsAnnounced p was now last before t faults faults_after quiet) (sym same)
    (subst (λ (n : ℕ). EndsAnnounced p was now last before before faults n quiet) (sym count)
    (h, record { costs = []; legal = λ c has. absurd (has_none c has); improving = tt; written = λ _. (Takes-nothing before, refl, refl); stopped = λ stop. absurd (clash stop); count = le_same faults }, λ _ going _. absurd (going ran), inl refl)))
  where
    quiet : AnnouncedEnd
    quiet = record { end = end; last = last; announced = 0; refused = 0; failed = false }

    clash : false ≡ true → ⊥
    clash e = cc

    le_same : (n : ℕ) → n ≤ n
    le_same n = omega arith
