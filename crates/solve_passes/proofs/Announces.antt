-- What the passes of a run announce, with one pass more.
use Rattle.std.proofs.Common.{◌≡◌, ℕ, ◌+◌, ◌^◌, ◌<◌, ◌≤◌, ◌⊎◌, inl, inr, zero, suc, Bool, true, false, List, [], ◌∷◌, ◌++◌, length, slice_get, Option, Some, None, is_some, ℤ, pos, refl, sym, ap, subst, ◌∙◌, arith, length-append}
use Rattle.std.specs.Prelude.{IfSome, option_map}
use Rattle.std.proofs.lemmas.Grind.{flat_map-append}
use Rattle.std.proofs.lemmas.Int.{ints}
use Rattle.std.proofs.lemmas.List.{append-nil}
use Rattle.std.proofs.lemmas.Option.{slice_get_within}
use Rattle.announce_laws.specs.Last.{Improving, word_or_none}
use Rattle.cost_laws.specs.Orders.{InWideRange}
use Rattle.dp_claims.specs.Enough.{Has}
use Rattle.dp_model.specs.Costs.{InRange, IsBetter, order_word}
use Rattle.dp_model.specs.declared.answers.Found.{Found}
use Rattle.dp_model.specs.declared.parts.JoinOp.{JoinOp}
use Rattle.dp_model.specs.declared.parts.JoinOp.TheVariants.{Plus, Most, Least}
use Rattle.dp_model.specs.declared.whole.Model.{Model}
use Rattle.dp_outside.specs.Outside.{Rose}
use Rattle.dp_steps.specs.Lists.{Solution}
use Rattle.pass_ends.specs.declared.answers.PassEnd.{PassEnd}
use Rattle.pass_ledger.proofs.Lists.{has_cases, has_none}
use Rattle.pass_run.proofs.Places.{each_more, none_there}
use Rattle.pass_over.specs.Announcements.{HasAnnounced, HasLast, last_or}
use Rattle.pass_over.specs.declared.announced.AnnouncedEnd.{AnnouncedEnd}
use Rattle.solve_report.proofs.Written.{Takes-nothing}
use Rattle.solve_passes.specs.Announcing.{IsMade, MayAnnounce}
use Rattle.solve_passes.specs.Ongoing.{AreAnnounced, HasWord, IsWordOf, announces, held_after, held_cost}
use Rattle.solve_passes.specs.Records.{Announced, Pass, Ending, OutOfMemory, RightAnnounced, TellsBest, announced_costs, costs_in}
use Rattle.solve_passes.specs.declared.progress.Counts.{Counts}
use Rattle.solve_passes.specs.declared.progress.Printing.{Printing}

-- ---- before any pass

pub nothing_announced : (m : Model) (ending : Ending) → RightAnnounced m ending []
nothing_announced m ending = record { legal = λ c has. absurd (has_none c has); improving = tt; best = λ k p at. absurd (none_there k p at) }

pub none_announced : (m : Model) (printing : Printing) → AreAnnounced m printing None []
none_announced m printing = record { each = λ k p at. absurd (none_there k p at); legal = λ c has. absurd (has_none c has); improving = tt; last = λ _. refl }

-- ---- costs that get better

improving_on : (minimize : Bool) (last : Option ℤ) (xs ys : List ℤ) → Improving minimize last xs → Improving minimize (last_or last xs) ys → Improving minimize last (xs ++ ys)
improving_on minimize last [] ys h more = more
improving_on minimize last (x ∷ xs) ys h more = (h.0, improving_on minimize (Some x) xs ys h.1 more)

last_on : (last : Option ℤ) (xs ys : List ℤ) → last_or last (xs ++ ys) ≡ last_or (last_or last xs) ys
last_on last [] ys = refl
last_on last (x ∷ xs) ys = last_on (Some x) xs ys

costs_more : (ps : List Pass) (p : Pass) → announced_costs (ps ++ p ∷ []) ≡ announced_costs ps ++ costs_in p.announced
costs_more ps p = flat_map-append (λ (q : Pass). costs_in q.announced) ps (p ∷ []) ∙ ap (λ (xs : List ℤ). announced_costs ps ++ xs) (append-nil (costs_in p.announced))

none_off : (announced : Option Announced) → is_some announced ≡ false → costs_in announced ≡ []
none_off None e = refl
none_off (Some a) e = let clash : true ≡ false = e in absurd (cc)

-- ---- one pass more

module _ (m : Model) (printing : Printing) (held : Option Found) (ps : List Pass) (p : Pass) (h : AreAnnounced m printing held ps) (may : MayAnnounce m printing (held_cost held) p.announced) where
  abbrev more : List Pass
  more = ps ++ p ∷ []

  legal_more : (c : ℤ) → Has (announced_costs more) c → (steps : List ℕ) × Solution m steps c
  legal_more c has = elim (has_cases (announced_costs ps) (costs_in p.announced) c (subst (λ (xs : List ℤ). Has xs c) (costs_more ps p) has)) [ inl a ↦ h.legal c a | inr b ↦ may.legal c b ]

  -- where costs are announced they go on after that of the held solution, and else there are none
  improving_by : (t : Bool) → announces printing ≡ t → Improving m.minimize None (announced_costs ps ++ costs_in p.announced)
  improving_by true on =
      improving_on m.minimize None (announced_costs ps) (costs_in p.announced) h.improving (subst (λ (o : Option ℤ). Improving m.minimize o (costs_in p.announced)) (sym (h.last on)) may.improving)
  improving_by false off =
      subst (λ (xs : List ℤ). Improving m.minimize None (announced_costs ps ++ xs)) (sym (none_off p.announced (may.on ∙ off))) (subst (Improving m.minimize None) (sym (append-nil (announced_costs ps))) h.improving)

  improving_more : Improving m.minimize None (announced_costs more)
  improving_more = subst (Improving m.minimize None) (sym (costs_more ps p)) (improving_by (announces printing) refl)

  pub each_announces : (k : ℕ) (q : Pass) → slice_get more k ≡ Some q → is_some q.announced ≡ announces printing
  each_announces = each_more (λ (k : ℕ) (q : Pass). is_some q.announced ≡ announces printing) ps more p refl (λ k q at. (h.each k q at).0) may.on

  pub right_more : (ending : Ending) → ((ending ≡ OutOfMemory → ⊥) → TellsBest p) → RightAnnounced m ending more
  right_more ending best = record {
    legal = legal_more;
    improving = improving_more;
    best = λ k q at before. each_more (λ (i : ℕ) (x : Pass). (ending ≡ OutOfMemory → i + 1 < length more) → TellsBest x) ps more p refl (λ i x here _. (h.each i x here).1) (λ last. best (λ lost. no_later (last lost))) k q at before;
  }
    where
      no_later : length ps + 1 < length more → ⊥
      no_later lt = let long = length-append ps (p ∷ []) in let one : length (p ∷ []) ≡ 1 = refl in omega (arith, lt, long, one)

  pub announced_more : (held' : Option Found) → TellsBest p → (announces printing ≡ true → last_or (held_cost held) (costs_in p.announced) ≡ held_cost held') → AreAnnounced m printing held' more
  announced_more held' best last = record {
    each = each_more (λ (k : ℕ) (q : Pass). (is_some q.announced ≡ announces printing) × TellsBest q) ps more p refl h.each (may.on, best);
    legal = legal_more;
    improving = improving_more;
    last = λ on. ap (last_or None) (costs_more ps p) ∙ (last_on None (announced_costs ps) (costs_in p.announced) ∙ (ap (λ (o : Option ℤ). last_or o (costs_in p.announced)) (h.last on) ∙ last on));
  }

-- ---- the last announced cost has the best word, so it is that of the best solution

-- one of these costs, or the one before them
last_among : (last : Option ℤ) (xs : List ℤ) (c : ℤ) → last_or last xs ≡ Some c → Has xs c ⊎ (last ≡ Some c)
last_among last [] c e = inr e
last_among last (x ∷ xs) c e = elim (last_among (Some x) xs c e) [ inl h ↦ inl (suc h.0, h.1) | inr is ↦ inl (0, is) ]

words_differ : (minimize : Bool) (op : JoinOp) (a b : ℤ) → order_word minimize op (Some a) ≡ order_word minimize op (Some b) → a ≡ b
words_differ true Plus a b e = omega (arith, ints, e)
words_differ true Most a b e = omega (arith, ints, e)
words_differ true Least a b e = omega (arith, ints, e)
words_differ false Plus a b e = omega (arith, ints, e)
words_differ false Most a b e = omega (arith, ints, e)
words_differ false Least a b e = omega (arith, ints, e)

no_word_is : (minimize : Bool) (op : JoinOp) (c : ℤ) → InWideRange c → pos 18446744073709551615 ≡ order_word minimize op (Some c) → ⊥
no_word_is true Plus c within e = omega (arith, ints, within.0, within.1, e)
no_word_is true Most c within e = omega (arith, ints, within.0, within.1, e)
no_word_is true Least c within e = omega (arith, ints, within.0, within.1, e)
no_word_is false Plus c within e = omega (arith, ints, within.0, within.1, e)
no_word_is false Most c within e = omega (arith, ints, within.0, within.1, e)
no_word_is false Least c within e = omega (arith, ints, within.0, within.1, e)

wide : (c : ℤ) → InRange c → InWideRange c
wide c within = (omega (arith, ints, within.0, within.1), omega (arith, ints, within.0, within.1))

module _ (m : Model) (best : ℕ) where
  same_cost : (last : Option ℤ) (held : Option Found) → IfSome last InWideRange → HasWord held → pos best ≡ word_or_none m last → IsWordOf m best held → last ≡ held_cost held
  same_cost None None in_last in_held word is = refl
  same_cost None (Some f) in_last in_held word is = absurd (no_word_is m.minimize m.join f.cost in_held (sym word ∙ is))
  same_cost (Some c) None in_last in_held word is = absurd (no_word_is m.minimize m.join c in_last (ap pos (sym is) ∙ word))
  same_cost (Some c) (Some f) in_last in_held word is = ap (λ (x : ℤ). Some x) (words_differ m.minimize m.join c f.cost (sym word ∙ is))

-- ---- a pass that announced tells its best

better_through : (minimize : Bool) (a b c : ℤ) → IsBetter minimize a b → IsBetter minimize b c → IsBetter minimize a c
better_through true a b c x y = omega (arith, ints, x, y)
better_through false a b c x y = omega (arith, ints, x, y)

not_itself : (minimize : Bool) (a b : ℤ) → a ≡ b → IsBetter minimize a b → ⊥
not_itself true a b e x = omega (arith, ints, e, x)
not_itself false a b e x = omega (arith, ints, e, x)

-- the last of further costs is better than the one before them
last_better : (minimize : Bool) (x : ℤ) (xs : List ℤ) (c : ℤ) → IsBetter minimize x c → Improving minimize (Some x) xs → IfSome (last_or (Some x) xs) (λ l. IsBetter minimize l c)
last_better minimize x [] c better h = better
last_better minimize x (y ∷ xs) c better h = last_better minimize y xs c (better_through minimize y x c h.0 better) h.1

module _ (minimize : Bool) where
  none_new : (last : Option ℤ) (xs : List ℤ) → Improving minimize last xs → last_or last xs ≡ last → xs ≡ []
  none_new last [] h same = refl
  none_new None (x ∷ xs) h same = absurd (some_last x xs same)
    where
      some_last : (y : ℤ) (ys : List ℤ) → last_or (Some y) ys ≡ None → ⊥
      some_last y [] e = cc
      some_last y (z ∷ ys) e = some_last z ys e
  none_new (Some c) (x ∷ xs) h same = absurd (not_itself minimize c c refl (subst (λ (o : Option ℤ). IfSome o (λ l. IsBetter minimize l c)) same (last_better minimize x xs c h.0 h.1)))

  -- after a better solution the last cost is not the one before
  new_last : (last : Option ℤ) (xs : List ℤ) (f : ℤ) → last_or last xs ≡ Some f → IfSome last (λ c. IsBetter minimize f c) → last_or None xs ≡ Some f
  new_last None [] f is better = is
  new_last (Some c) [] f is better = absurd (not_itself minimize f c (let e : Some c ≡ Some f = is in cc) better)
  new_last last (x ∷ xs) f is better = is

held_better : (minimize : Bool) (held : Option Found) (f : Found) → IfSome held (λ h. IsBetter minimize f.cost h.cost) → IfSome (held_cost held) (λ c. IsBetter minimize f.cost c)
held_better minimize None f better = tt
held_better minimize (Some h) f better = better

tells_by : (m : Model) (held found : Option Found) (costs : List ℤ) → IfSome found (λ f. IfSome held (λ h. IsBetter m.minimize f.cost h.cost)) → Improving m.minimize (held_cost held) costs → last_or (held_cost held) costs ≡ held_cost (held_after held found)
    → last_or None costs ≡ option_map (λ (f : Found). f.cost) found
tells_by m held None costs new improving is = ap (last_or None) (none_new m.minimize (held_cost held) costs improving is)
tells_by m held (Some f) costs new improving is = new_last m.minimize (held_cost held) costs f.cost is (held_better m.minimize held f new)

pub tells_best : (m : Model) (printing : Printing) (held found : Option Found) (announced : Option Announced) → MayAnnounce m printing (held_cost held) announced → IfSome found (λ f. IfSome held (λ h. IsBetter m.minimize f.cost h.cost))
    → (announces printing ≡ true → last_or (held_cost held) (costs_in announced) ≡ held_cost (held_after held found)) → IfSome announced (λ a. last_or None a.costs ≡ option_map (λ (f : Found). f.cost) found)
tells_best m printing held found None may new is = tt
tells_best m printing held found (Some a) may new is = tells_by m held found a.costs new may.improving (is (sym may.on))

-- where the best word is that of the solution held after the pass
pub last_held : (m : Model) (printing : Printing) (held after : Option Found) (announced : Option Announced) (best : ℕ) → MayAnnounce m printing (held_cost held) announced → HasWord held → HasWord after → IsWordOf m best after
    → pos best ≡ word_or_none m (last_or (held_cost held) (costs_in announced)) → last_or (held_cost held) (costs_in announced) ≡ held_cost after
last_held m printing held after announced best may in_held in_after is word = same_cost m best (last_or (held_cost held) (costs_in announced)) after (ranged (last_or (held_cost held) (costs_in announced)) refl) in_after word is
  where
    held_in : (o : Option Found) (c : ℤ) → HasWord o → held_cost o ≡ Some c → InWideRange c
    held_in None c h e = let clash : None ≡ Some c = e in absurd (cc)
    held_in (Some f) c h e = let same : f.cost ≡ c = (let both : Some f.cost ≡ Some c = e in cc) in subst InWideRange same h

    ranged : (o : Option ℤ) → last_or (held_cost held) (costs_in announced) ≡ o → IfSome o InWideRange
    ranged None e = tt
    ranged (Some c) e = elim (last_among (held_cost held) (costs_in announced) c e) [ inl has ↦ wide c (may.legal c has).1.in_range | inr last ↦ held_in held c in_held last ]

-- ---- a pass that was made

pub rose_after : (a b c : ℕ) → a ≤ b → Rose b c → Rose a c
rose_after a b c le (inl rose) = inl (omega (arith, le, rose))
rose_after a b c le (inr most) = inr most

clash : true ≡ false → ⊥
clash e = cc

-- it announced
pub made_aloud : (m : Model) (printing : Printing) (last : Option ℤ) (word word_after : ℕ) (before after : Option (List ℕ)) (faults faults_after : ℕ) (r : AnnouncedEnd) → announces printing ≡ true → r.refused < 2 ^ 64 → HasAnnounced m last before after faults faults_after r → HasLast m word word_after last r
    → IsMade m printing last word word_after before after faults faults_after (record { end = r.end; counts = Some (record { announced = r.announced; refused = r.refused }); failed = r.failed })
made_aloud m printing last word word_after before after faults faults_after r on few h best = record {
  announced = Some (record { costs = h.costs; refused = r.refused });
  may = record { on = sym on; legal = h.legal; improving = h.improving; few_refused = few };
  refused_is = refl;
  written = λ fine. ((h.written fine).0, ap (λ (n : ℕ). Some (record { announced = n; refused = r.refused })) (h.written fine).1);
  stopped = h.stopped;
  count = h.count;
  last_word = λ fine going _ was. subst (λ (o : Option ℤ). pos word_after ≡ word_or_none m o) (h.written fine).2 (best fine going was);
}

-- it did not
pub made_quiet : (m : Model) (printing : Printing) (last : Option ℤ) (word word_after : ℕ) (told : Option (List ℕ)) (faults : ℕ) (end : PassEnd) → announces printing ≡ false → IsMade m printing last word word_after told told faults faults (record { end = end; counts = None; failed = false })
made_quiet m printing last word word_after told faults end off = record {
  announced = None;
  may = record { on = sym off; legal = λ c has. absurd (has_none c has); improving = tt; few_refused = tt };
  refused_is = refl;
  written = λ _. (Takes-nothing told, refl);
  stopped = λ stop. absurd (clash (sym stop));
  count = omega arith;
  last_word = λ _ _ on. absurd (clash (sym on ∙ off));
}

-- what is known of the counted calls is known of those of the record
pub calls_told : (P : ℕ → Type 0) (announced : Option Announced) (counts : Option Counts) → option_map (λ (a : Announced). a.refused) announced ≡ option_map (λ (c : Counts). c.refused) counts → IfSome counts (λ c. P c.refused) → IfSome announced (λ a. P a.refused)
calls_told P None counts is h = tt
calls_told P (Some a) None is h = absurd (let no : Some a.refused ≡ None = is in cc)
calls_told P (Some a) (Some c) is h = let same : a.refused ≡ c.refused = (let both : Some a.refused ≡ Some c.refused = is in cc) in subst P (sym same) h
