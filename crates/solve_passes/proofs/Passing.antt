-- A record grows by a pass, and is right where a run ends.
use Rattle.std.proofs.Common.{◌≡◌, ℕ, ◌+◌, ◌-◌, ◌^◌, ◌<◌, ◌≤◌, Bool, true, false, inl, List, [], ◌∷◌, ◌++◌, length, refl, sym, ap, ◌∙◌, subst, Option, Some, None, is_some, ℤ, arith, length-append}
use Rattle.std.specs.Prelude.{IfSome}
use Rattle.std.specs.List.{AllByRecursion}
use Rattle.std.specs.Option.{option_map, option_to_list}
use Rattle.std.proofs.lemmas.List.{append-nil}
use Rattle.std.proofs.lemmas.List.Sums.{sum_by-append}
use Rattle.std.proofs.lemmas.Grind.{flat_map-append}
use Rattle.dp_model.specs.declared.answers.Keep.{Keep}
use Rattle.dp_claims.specs.Enough.{IsAtMostReached}
use Rattle.dp_model.specs.Costs.{IsBetter}
use Rattle.dp_model.specs.declared.answers.Found.{Found}
use Rattle.dp_model.specs.declared.answers.Options.{Options}
use Rattle.dp_model.specs.declared.whole.Model.{Model}
use Rattle.dp_outside.specs.Outside.{Takes, TakesFront}
use Rattle.dp_steps.specs.Lists.{Solution}
use Rattle.solve_passes.specs.Ongoing.{History, IsBoundOf, Passes, announces, counts_line, solutions_of, held_after, pass_of, rest_text}
use Rattle.solve_passes.specs.Records.{Announced, Pass, Ending, NumberedFrom, AllButLastDropped, LastDroppedNone, Improving, Right, RightAnnounced, RightBound, RightEnding, last_cost, last_solution, visits, announced_lines, bound_text, count_line, pass_text, passes_text, ending_text, record_text, solution_lines}
use Rattle.solve_passes.specs.declared.progress.Printing.{Printing}
use Rattle.solve_passes.specs.declared.progress.Printing.TheVariants.{All, VerdictAlone}
use Rattle.solve_passes.specs.declared.progress.Progress.{Progress}
use Rattle.pass_run.proofs.Places.{none_there}
use Rattle.solve_passes.proofs.Announces.{none_announced}
use Rattle.solve_passes.specs.Announcing.{counts_of}
use Rattle.solve_report.proofs.Written.{Takes-nothing, TakesFront-longer}
use Rattle.solve_report.specs.Lines.{pass_line}

numbered_more : (k : ℕ) (ps : List Pass) (p : Pass) → NumberedFrom k ps → p.number ≡ k + length ps → p.share ≡ 2 ^ (k + length ps - 1) → NumberedFrom k (ps ++ p ∷ [])
numbered_more k [] p n h g = (omega (arith, h), g ∙ ap (λ (i : ℕ). 2 ^ (i - 1)) (omega arith), tt)
numbered_more k (q ∷ ps) p n h g = (n.0, n.1, numbered_more (k + 1) ps p n.2 (omega (arith, h)) (g ∙ ap (λ (i : ℕ). 2 ^ (i - 1)) (omega arith)))

pub last_but_dropped : (ps : List Pass) (p : Pass) → AllByRecursion (λ (q : Pass). 0 < q.dropped) ps → AllButLastDropped (ps ++ p ∷ [])
last_but_dropped [] p h = tt
last_but_dropped (q ∷ []) p h = (h.0, tt)
last_but_dropped (q ∷ r ∷ ps) p h = (h.0, last_but_dropped (r ∷ ps) p h.1)

pub last_kept_all : (ps : List Pass) (p : Pass) → p.dropped ≡ 0 → LastDroppedNone (ps ++ p ∷ [])
last_kept_all [] p h = h
last_kept_all (q ∷ []) p h = h
last_kept_all (q ∷ r ∷ ps) p h = last_kept_all (r ∷ ps) p h

pub dropping_more : (ps : List Pass) (p : Pass) → 0 < p.dropped → AllByRecursion (λ (q : Pass). 0 < q.dropped) ps → AllByRecursion (λ (q : Pass). 0 < q.dropped) (ps ++ p ∷ [])
dropping_more [] p d h = (d, tt)
dropping_more (q ∷ ps) p d h = (h.0, dropping_more ps p d h.1)

visits_more : (ps : List Pass) (p : Pass) → visits (ps ++ p ∷ []) ≡ visits ps + p.visited
visits_more ps p = sum_by-append (λ (q : Pass). q.visited) ps (p ∷ []) ∙ omega arith

reached_more : (m : Model) (keep : Keep) (ps : List Pass) (p : Pass) → AllByRecursion (λ (q : Pass). IsAtMostReached m keep q.visited) ps → IsAtMostReached m keep p.visited → AllByRecursion (λ (q : Pass). IsAtMostReached m keep q.visited) (ps ++ p ∷ [])
reached_more m keep [] p h r = (r, tt)
reached_more m keep (q ∷ ps) p h r = (h.0, reached_more m keep ps p h.1 r)

pub solutions_more : (ps : List Pass) (p : Pass) → solutions_of (ps ++ p ∷ []) ≡ solutions_of ps ++ option_to_list p.found
solutions_more ps p = flat_map-append (λ (q : Pass). option_to_list q.found) ps (p ∷ []) ∙ ap (λ (xs : List Found). solutions_of ps ++ xs) (append-nil (option_to_list p.found))

-- ---- solutions

-- solutions, each legal and better than the one before
record Held (m : Model) (held : Option Found) (fs : List Found) : Type 0 where
  legal : AllByRecursion (λ (f : Found). Solution m f.steps f.cost) fs
  improving : Improving m.minimize fs
  last : last_solution fs ≡ held

legal_more : (m : Model) (fs : List Found) (f : Found) → AllByRecursion (λ (f : Found). Solution m f.steps f.cost) fs → Solution m f.steps f.cost → AllByRecursion (λ (f : Found). Solution m f.steps f.cost) (fs ++ f ∷ [])
legal_more m [] f h s = (s, tt)
legal_more m (g ∷ fs) f h s = (h.0, legal_more m fs f h.1 s)

improving_more : (minimize : Bool) (fs : List Found) (f : Found) → Improving minimize fs → IfSome (last_cost fs) (λ c. IsBetter minimize f.cost c) → Improving minimize (fs ++ f ∷ [])
improving_more minimize [] f h b = tt
improving_more minimize (g ∷ []) f h b = (b, tt)
improving_more minimize (g ∷ e ∷ fs) f h b = (h.0, improving_more minimize (e ∷ fs) f h.1 b)

last_more : (fs : List Found) (f : Found) → last_solution (fs ++ f ∷ []) ≡ Some f
last_more [] f = refl
last_more (g ∷ []) f = refl
last_more (g ∷ e ∷ fs) f = last_more (e ∷ fs) f

pub nothing_last : (fs : List Found) → last_solution fs ≡ None → fs ≡ []
nothing_last [] h = refl
nothing_last (g ∷ []) h = cc
nothing_last (g ∷ e ∷ fs) h = cc (nothing_last (e ∷ fs) h)

-- a solution that is better than the last one
better_than_last : (minimize : Bool) (last held : Option Found) (f : Found) → last ≡ held → IfSome held (λ h. IsBetter minimize f.cost h.cost) → IfSome (option_map (λ (g : Found). g.cost) last) (λ c. IsBetter minimize f.cost c)
better_than_last minimize None held f same h = tt
better_than_last minimize (Some g) held f same h = subst (λ (o : Option Found). IfSome o (λ h. IsBetter minimize f.cost h.cost)) (sym same) h

-- a solution that is new is legal, and better than what is held
abbrev pub IsNew : Model → (held new : Option Found) → Type 0
IsNew m held new = IfSome new (λ f. Solution m f.steps f.cost × IfSome held (λ h. IsBetter m.minimize f.cost h.cost))

held_more : (m : Model) (held : Option Found) (fs : List Found) (new : Option Found) → Held m held fs → IsNew m held new → Held m (held_after held new) (fs ++ option_to_list new)
held_more m held fs None h new = subst (Held m held) (sym (append-nil fs)) h
held_more m held fs (Some f) h new = record {
  legal = legal_more m fs f h.legal new.0;
  improving = improving_more m.minimize fs f h.improving (better_than_last m.minimize (last_solution fs) held f h.last new.1);
  last = last_more fs f;
}

-- ---- passes

-- one pass more
pub passes_more : (m : Model) (keep : Keep) (held : Option Found) (count visited : ℕ) (ps : List Pass) (p : Pass) → Passes m keep held count visited ps → p.number ≡ count + 1 → p.share ≡ 2 ^ count → IsAtMostReached m keep p.visited → IsNew m held p.found →
    Passes m keep (held_after held p.found) (count + 1) (visited + p.visited) (ps ++ p ∷ [])
passes_more m keep held count visited ps p h number share reached new =
    let x = held_more m held (solutions_of ps) p.found (record { legal = h.legal; improving = h.improving; last = h.last }) new in
    let is = sym (solutions_more ps p) in
    record {
      counted = length-append ps (p ∷ []) ∙ ap (λ (n : ℕ). n + 1) h.counted;
      numbered = numbered_more 1 ps p h.numbered (omega (arith, number, h.counted)) (share ∙ ap (λ (n : ℕ). 2 ^ n) (omega (arith, h.counted)));
      spent = visits_more ps p ∙ ap (λ (n : ℕ). n + p.visited) h.spent;
      reached = reached_more m keep ps p h.reached reached;
      legal = subst (AllByRecursion (λ (f : Found). Solution m f.steps f.cost)) is x.legal;
      improving = subst (Improving m.minimize) is x.improving;
      last = ap last_solution (sym is) ∙ x.last;
    }

-- before any pass
pub begins : (printing : Printing) (m : Model) (options : Options) (gap : Bool) (before : Option (List ℕ)) → History m options gap printing before before None 0 0 None
begins printing m options gap before = record {
  passes = [];
  told = nothing_told printing;
  known = record { counted = refl; numbered = tt; spent = refl; reached = tt; legal = tt; improving = tt; last = refl };
  dropping = tt;
  proved = none_proved gap;
  announced = none_announced m printing;
  counts = λ k p at. absurd (none_there k p at);
}
  where
    none_proved : (g : Bool) → IsBoundOf m options g 0 [] None
    none_proved true = inl refl
    none_proved false = refl

    nothing_told : (p : Printing) → Takes before before (passes_text p m [])
    nothing_told (All announce) = Takes-nothing before
    nothing_told VerdictAlone = Takes-nothing before

-- a record of passes and an ending that fits them
pub right_record : (m : Model) (options : Options) (gap : Bool) (held : Option Found) (count visited : ℕ) (ps : List Pass) (bound : Option ℤ) (end : Ending) → Passes m options.keep held count visited ps → AllButLastDropped ps → visited ≤ options.budget → RightAnnounced m end ps →
    RightBound m options gap (record { at_target = None; passes = ps; bound = bound; ending = end }) bound → RightEnding m options gap (record { at_target = None; passes = ps; bound = bound; ending = end }) end →
    Right m options gap (record { at_target = None; passes = ps; bound = bound; ending = end })
right_record m options gap held count visited ps bound end h dropping within announced bounded ending = record {
  numbered = h.numbered;
  dropping = dropping;
  within_budget = subst (λ (n : ℕ). n ≤ options.budget) (sym h.spent) within;
  reached = h.reached;
  legal = h.legal;
  improving = h.improving;
  announced = announced;
  base_target = tt;
  bound = bounded;
  ending = ending;
}

-- there is a pass
pub some_pass : (ps : List Pass) (p : Pass) → ps ++ p ∷ [] ≡ [] → ⊥
some_pass [] p h = cc
some_pass (q ∷ ps) p h = cc

-- ---- texts

-- the text of one pass more
pub text_more : (printing : Printing) (m : Model) (ps : List Pass) (p : Pass) → passes_text printing m (ps ++ p ∷ []) ≡ passes_text printing m ps ++ passes_text printing m (p ∷ [])
text_more (All announce) m ps p = flat_map-append (pass_text m) ps (p ∷ [])
text_more VerdictAlone m ps p = refl

-- how much a pass announced
count_is : (announced : Option Announced) → counts_line (counts_of announced) ≡ count_line announced
count_is None = refl
count_is (Some a) = refl

-- the text of a pass is that of what it announced, and then the rest
pub text_of_pass : (printing : Printing) (m : Model) (progress : Progress) (announced : Option Announced) (found : Option Found) (visited dropped : ℕ) → is_some announced ≡ announces printing →
    announced_lines announced ++ rest_text printing m progress (counts_of announced) found visited dropped ≡ passes_text printing m (pass_of progress announced found visited dropped ∷ [])
text_of_pass (All announce) m progress announced found visited dropped on =
    let line = pass_line (progress.passes + 1) progress.schedule.share visited dropped in
    ap (λ (t : List ℕ). announced_lines announced ++ (solution_lines m found ++ (t ++ line))) (count_is announced)
    ∙ sym (append-nil (announced_lines announced ++ (solution_lines m found ++ (count_line announced ++ line))))
text_of_pass VerdictAlone m progress None found visited dropped on = refl
text_of_pass VerdictAlone m progress (Some a) found visited dropped on = let clash : true ≡ false = on in absurd (cc)

-- a front of what it announced is a front of its text
pub front_of_pass : (printing : Printing) (m : Model) (progress : Progress) (announced : Option Announced) (found : Option Found) (visited dropped : ℕ) (before after : Option (List ℕ)) → is_some announced ≡ announces printing →
    TakesFront before after (announced_lines announced) → TakesFront before after (passes_text printing m (pass_of progress announced found visited dropped ∷ []))
front_of_pass printing m progress announced found visited dropped before after on front =
    subst (TakesFront before after) (text_of_pass printing m progress announced found visited dropped on)
    (TakesFront-longer before after (announced_lines announced) (rest_text printing m progress (counts_of announced) found visited dropped) front)

-- the text of a record whose target is not base
pub text_of_record : (printing : Printing) (m : Model) (ps : List Pass) (bound : Option ℤ) (end : Ending) → record_text printing m (record { at_target = None; passes = ps; bound = bound; ending = end }) ≡ passes_text printing m ps ++ (bound_text bound printing ++ ending_text m end)
text_of_record (All announce) m ps bound end = refl
text_of_record VerdictAlone m ps bound end = refl
