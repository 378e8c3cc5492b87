-- What is found of a visit, kind by kind, and that each transition has one fate.
use Rattle.std.proofs.Common.{◌≡◌, ℕ, zero, suc, ◌+◌, ◌≤◌, Bool, true, false, ◌⊎◌, inl, inr, List, [], ◌∷◌, map, slice_get, Option, Some, Ok, ℤ, refl, sym, ap, subst, ◌∙◌, arith}
use Rattle.dp_model.specs.Costs.{join, join_onto}
use Rattle.dp_model.specs.declared.parts.Transition.{Transition}
use Rattle.dp_model.specs.declared.parts.PlainState.{PlainState}
use Rattle.dp_model.specs.declared.whole.Model.{Model}
use Rattle.dp_steps.specs.States.{Allowed, Base, Forbidden, Step, next_state, weight_of}
use Rattle.dp_steps.specs.Bounds.{IsFloor}
use Rattle.dp_claims.specs.Enough.{Has}
use Rattle.path_log.specs.declared.logs.StepId.{StepId}
use Rattle.state_layout.specs.declared.node.Node.{Node}
use Rattle.successors.specs.Searches.{Visit}
use Rattle.successors.specs.declared.batch.Batch.{Batch}
use Rattle.successors.specs.declared.batch.Offer.{Offer}
use Rattle.visit_laws.specs.Fates.{AreFates, Fate, IsFate, IsSuccessor, IsTotal, LeadsOut, batch_of, letters_of, numbers_of, offers_of, pruned_of, with_letter, with_offer, with_pruned}
use Rattle.visit_laws.specs.Fates.Fate.{Out, Total, Letter, Pruned}
use Rattle.visit_laws.specs.Visits.{Accounted, Ascending, BatchFound, FatesExclude, IsBatch, IsKept, IsOffered, LettersSound, OffersSound, PrunedSound}
use Rattle.visit_laws.proofs.BaseCases.{base_best, not_inner}
use Rattle.visit_laws.proofs.Looks.{floor_found_at}
use Rattle.visit_laws.proofs.Steps.{same_ground}
use Rattle.visit_laws.proofs.Rising.{Rises, increasing, rises, rises_sooner}
use Rattle.visit_laws.proofs.Visits.{fates_found}

-- ---- which fates the items of a batch have

later : (xs : List (ℕ × Fate)) (x y : ℕ × Fate) → Has xs y → Has (x ∷ xs) y
later xs x y has = (suc has.0, has.1)

letter_step : (n : Node) (g : ℕ) (fate : Fate) (xs : List (ℕ × Fate)) (k : ℕ) → ((k : ℕ) → slice_get (letters_of xs) k ≡ Some n → (h : ℕ) × Has xs (h, Letter n)) → slice_get (with_letter fate (letters_of xs)) k ≡ Some n → (h : ℕ) × Has ((g, fate) ∷ xs) (h, Letter n)
letter_step n g Out xs k rest e = let r = rest k e in (r.0, later xs (g, Out) (r.0, Letter n) r.1)
letter_step n g (Total total) xs k rest e = let r = rest k e in (r.0, later xs (g, Total total) (r.0, Letter n) r.1)
letter_step n g (Pruned other) xs k rest e = let r = rest k e in (r.0, later xs (g, Pruned other) (r.0, Letter n) r.1)
letter_step n g (Letter other) xs zero rest e = let same : other ≡ n = cc in (g, (zero, ap (λ (o : Node). Some (g, Letter o)) same))
letter_step n g (Letter other) xs (suc k) rest e = let r = rest k e in (r.0, later xs (g, Letter other) (r.0, Letter n) r.1)

letter_fate : (n : Node) (fates : List (ℕ × Fate)) (k : ℕ) → slice_get (letters_of fates) k ≡ Some n → (g : ℕ) × Has fates (g, Letter n)
letter_fate n [] k e = absurd (cc)
letter_fate n (x ∷ xs) k e = letter_step n x.0 x.1 xs k (λ j h. letter_fate n xs j h) e

pruned_step : (n : Node) (g : ℕ) (fate : Fate) (xs : List (ℕ × Fate)) (k : ℕ) → ((k : ℕ) → slice_get (pruned_of xs) k ≡ Some n → (h : ℕ) × Has xs (h, Pruned n)) → slice_get (with_pruned fate (pruned_of xs)) k ≡ Some n → (h : ℕ) × Has ((g, fate) ∷ xs) (h, Pruned n)
pruned_step n g Out xs k rest e = let r = rest k e in (r.0, later xs (g, Out) (r.0, Pruned n) r.1)
pruned_step n g (Total total) xs k rest e = let r = rest k e in (r.0, later xs (g, Total total) (r.0, Pruned n) r.1)
pruned_step n g (Letter other) xs k rest e = let r = rest k e in (r.0, later xs (g, Letter other) (r.0, Pruned n) r.1)
pruned_step n g (Pruned other) xs zero rest e = let same : other ≡ n = cc in (g, (zero, ap (λ (o : Node). Some (g, Pruned o)) same))
pruned_step n g (Pruned other) xs (suc k) rest e = let r = rest k e in (r.0, later xs (g, Pruned other) (r.0, Pruned n) r.1)

pruned_fate : (n : Node) (fates : List (ℕ × Fate)) (k : ℕ) → slice_get (pruned_of fates) k ≡ Some n → (g : ℕ) × Has fates (g, Pruned n)
pruned_fate n [] k e = absurd (cc)
pruned_fate n (x ∷ xs) k e = pruned_step n x.0 x.1 xs k (λ j h. pruned_fate n xs j h) e

offer_step : (o : Offer) (g : ℕ) (fate : Fate) (xs : List (ℕ × Fate)) (k : ℕ) → ((k : ℕ) → slice_get (offers_of xs) k ≡ Some o → Has xs (o.transition, Total o.cost)) → slice_get (with_offer g fate (offers_of xs)) k ≡ Some o → Has ((g, fate) ∷ xs) (o.transition, Total o.cost)
offer_step o g Out xs k rest e = later xs (g, Out) (o.transition, Total o.cost) (rest k e)
offer_step o g (Letter n) xs k rest e = later xs (g, Letter n) (o.transition, Total o.cost) (rest k e)
offer_step o g (Pruned n) xs k rest e = later xs (g, Pruned n) (o.transition, Total o.cost) (rest k e)
offer_step o g (Total total) xs zero rest e =
    let told : Offer = record { cost = total; transition = g } in
    let same : told ≡ o = cc in
    (zero, ap (λ (x : Offer). Some (x.transition, Total x.cost)) same)
offer_step o g (Total total) xs (suc k) rest e = later xs (g, Total total) (o.transition, Total o.cost) (rest k e)

offer_fate : (o : Offer) (fates : List (ℕ × Fate)) (k : ℕ) → slice_get (offers_of fates) k ≡ Some o → Has fates (o.transition, Total o.cost)
offer_fate o [] k e = absurd (cc)
offer_fate o (x ∷ xs) k e = offer_step o x.0 x.1 xs k (λ j h. offer_fate o xs j h) e

-- ---- and which items the fates have

-- what is in the list without its first fate's item is in the whole
past_letter : (n : Node) (fate : Fate) (ns : List Node) → Has ns n → Has (with_letter fate ns) n
past_letter n Out ns has = has
past_letter n (Total total) ns has = has
past_letter n (Letter other) ns has = (suc has.0, has.1)
past_letter n (Pruned other) ns has = has

fate_letter : (g : ℕ) (n : Node) (fates : List (ℕ × Fate)) (k : ℕ) → slice_get fates k ≡ Some (g, Letter n) → Has (letters_of fates) n
fate_letter g n [] k e = absurd (cc)
fate_letter g n (x ∷ xs) zero e =
    let same : x ≡ (g, Letter n) = cc in
    let fate : x.1 ≡ Letter n = ap (λ (y : ℕ × Fate). y.1) same in
    rw fate (zero, refl)
fate_letter g n (x ∷ xs) (suc k) e = past_letter n x.1 (letters_of xs) (fate_letter g n xs k e)

past_pruned : (n : Node) (fate : Fate) (ns : List Node) → Has ns n → Has (with_pruned fate ns) n
past_pruned n Out ns has = has
past_pruned n (Total total) ns has = has
past_pruned n (Letter other) ns has = has
past_pruned n (Pruned other) ns has = (suc has.0, has.1)

fate_pruned : (g : ℕ) (n : Node) (fates : List (ℕ × Fate)) (k : ℕ) → slice_get fates k ≡ Some (g, Pruned n) → Has (pruned_of fates) n
fate_pruned g n [] k e = absurd (cc)
fate_pruned g n (x ∷ xs) zero e =
    let same : x ≡ (g, Pruned n) = cc in
    let fate : x.1 ≡ Pruned n = ap (λ (y : ℕ × Fate). y.1) same in
    rw fate (zero, refl)
fate_pruned g n (x ∷ xs) (suc k) e = past_pruned n x.1 (pruned_of xs) (fate_pruned g n xs k e)

past_offer : (o : Offer) (g : ℕ) (fate : Fate) (os : List Offer) → Has os o → Has (with_offer g fate os) o
past_offer o g Out os has = has
past_offer o g (Total total) os has = (suc has.0, has.1)
past_offer o g (Letter other) os has = has
past_offer o g (Pruned other) os has = has

abbrev pub offer : ℕ → ℤ → Offer
offer g total = record { cost = total; transition = g }

fate_offer : (g : ℕ) (total : ℤ) (fates : List (ℕ × Fate)) (k : ℕ) → slice_get fates k ≡ Some (g, Total total) → Has (offers_of fates) (offer g total)
fate_offer g total [] k e = absurd (cc)
fate_offer g total (x ∷ xs) zero e =
    let same : x ≡ (g, Total total) = cc in
    subst (λ (y : ℕ × Fate). Has (with_offer y.0 y.1 (offers_of xs)) (offer g total)) (sym same) (zero, refl)
fate_offer g total (x ∷ xs) (suc k) e = past_offer (offer g total) x.0 x.1 (offers_of xs) (fate_offer g total xs k e)

-- ---- the kinds ascend

module _ (m : Model) (v : Visit) where
  abbrev pub Fated : List (ℕ × Fate) → Type 0
  Fated fates = (g : ℕ) (fate : Fate) → Has fates (g, fate) → IsFate m v g fate

  letters_rise_step : (from g : ℕ) (fate : Fate) (ns : List Node) → IsFate m v g fate → from ≤ g → Rises (g + 1) (map (λ (n : Node). n.transition) ns) → Rises from (map (λ (n : Node). n.transition) (with_letter fate ns))
  letters_rise_step from g Out ns is low h = rises_sooner from (g + 1) (map (λ (n : Node). n.transition) ns) (omega arith) h
  letters_rise_step from g (Total total) ns is low h = rises_sooner from (g + 1) (map (λ (n : Node). n.transition) ns) (omega arith) h
  letters_rise_step from g (Pruned n) ns is low h = rises_sooner from (g + 1) (map (λ (n : Node). n.transition) ns) (omega arith) h
  letters_rise_step from g (Letter n) ns is low h = rw is.0.transition (low, h)

  letters_rise : (from : ℕ) (fates : List (ℕ × Fate)) → Fated fates → Rises from (numbers_of fates) → Rises from (map (λ (n : Node). n.transition) (letters_of fates))
  letters_rise from [] fated h = tt
  letters_rise from (x ∷ xs) fated h =
      letters_rise_step from x.0 x.1 (letters_of xs) (fated x.0 x.1 (zero, refl)) h.0 (letters_rise (x.0 + 1) xs (λ g fate has. fated g fate (later xs x (g, fate) has)) h.1)

  pruned_rise_step : (from g : ℕ) (fate : Fate) (ns : List Node) → IsFate m v g fate → from ≤ g → Rises (g + 1) (map (λ (n : Node). n.transition) ns) → Rises from (map (λ (n : Node). n.transition) (with_pruned fate ns))
  pruned_rise_step from g Out ns is low h = rises_sooner from (g + 1) (map (λ (n : Node). n.transition) ns) (omega arith) h
  pruned_rise_step from g (Total total) ns is low h = rises_sooner from (g + 1) (map (λ (n : Node). n.transition) ns) (omega arith) h
  pruned_rise_step from g (Letter n) ns is low h = rises_sooner from (g + 1) (map (λ (n : Node). n.transition) ns) (omega arith) h
  pruned_rise_step from g (Pruned n) ns is low h = rw is.0.transition (low, h)

  pruned_rise : (from : ℕ) (fates : List (ℕ × Fate)) → Fated fates → Rises from (numbers_of fates) → Rises from (map (λ (n : Node). n.transition) (pruned_of fates))
  pruned_rise from [] fated h = tt
  pruned_rise from (x ∷ xs) fated h =
      pruned_rise_step from x.0 x.1 (pruned_of xs) (fated x.0 x.1 (zero, refl)) h.0 (pruned_rise (x.0 + 1) xs (λ g fate has. fated g fate (later xs x (g, fate) has)) h.1)

offers_rise_step : (from g : ℕ) (fate : Fate) (os : List Offer) → from ≤ g → Rises (g + 1) (map (λ (o : Offer). o.transition) os) → Rises from (map (λ (o : Offer). o.transition) (with_offer g fate os))
offers_rise_step from g Out os low h = rises_sooner from (g + 1) (map (λ (o : Offer). o.transition) os) (omega arith) h
offers_rise_step from g (Letter n) os low h = rises_sooner from (g + 1) (map (λ (o : Offer). o.transition) os) (omega arith) h
offers_rise_step from g (Pruned n) os low h = rises_sooner from (g + 1) (map (λ (o : Offer). o.transition) os) (omega arith) h
offers_rise_step from g (Total total) os low h = (low, h)

offers_rise : (from : ℕ) (fates : List (ℕ × Fate)) → Rises from (numbers_of fates) → Rises from (map (λ (o : Offer). o.transition) (offers_of fates))
offers_rise from [] h = tt
offers_rise from (x ∷ xs) h = offers_rise_step from x.0 x.1 (offers_of xs) h.0 (offers_rise (x.0 + 1) xs h.1)

-- ---- the batch

module _ (m : Model) (v : Visit) (fates : List (ℕ × Fate)) (are : AreFates m v fates) where
  letters_sound : LettersSound m v (batch_of fates)
  letters_sound n has =
      let there = letter_fate n fates has.0 has.1 in
      let is = are.fated there.0 (Letter n) there.1 in
      (subst (λ (g : ℕ). IsSuccessor m v g n) (sym is.0.transition) is.0, is.1)

  pruned_sound : PrunedSound m v (batch_of fates)
  pruned_sound n has =
      let there = pruned_fate n fates has.0 has.1 in
      let is = are.fated there.0 (Pruned n) there.1 in
      (subst (λ (g : ℕ). IsSuccessor m v g n) (sym is.0.transition) is.0, is.1)

  offers_sound : OffersSound m v (batch_of fates)
  offers_sound o has = are.fated o.transition (Total o.cost) (offer_fate o fates has.0 has.1)

  accounted_as : (g : ℕ) (fate : Fate) → Has fates (g, fate) → IsFate m v g fate → LeadsOut m v g ⊎ (IsOffered m v (batch_of fates) g ⊎ IsKept m v (batch_of fates) g)
  accounted_as g Out has is = inl is
  accounted_as g (Total total) has is = inr (inl (total, is, fate_offer g total fates has.0 has.1))
  accounted_as g (Letter n) has is = inr (inr (n, is.0, inl (fate_letter g n fates has.0 has.1)))
  accounted_as g (Pruned n) has is = inr (inr (n, is.0, inr (fate_pruned g n fates has.0 has.1)))

  accounted : Accounted m v (batch_of fates)
  accounted g considered enabled =
      let fate = are.every g considered enabled in
      accounted_as g fate.0 fate.1 (are.fated g fate.0 fate.1)

  ascending : Ascending (batch_of fates)
  ascending =
      let rise = rises (numbers_of fates) are.ascending in
      record {
        letters = increasing 0 (map (λ (n : Node). n.transition) (letters_of fates)) (letters_rise m v 0 fates are.fated rise);
        offers = increasing 0 (map (λ (o : Offer). o.transition) (offers_of fates)) (offers_rise 0 fates rise);
        pruned = increasing 0 (map (λ (n : Node). n.transition) (pruned_of fates)) (pruned_rise m v 0 fates are.fated rise);
      }

  is_batch : IsBatch m v (batch_of fates)
  is_batch = record { letters = letters_sound; pruned = pruned_sound; offers = offers_sound; accounted = accounted; ascending = ascending }

pub batch_found : BatchFound
batch_found m v batch inner range e =
    let f = fates_found m v batch inner range e in
    subst (λ (b : Batch). IsBatch m v b) (sym f.2) (is_batch m v f.0 f.1)

-- ---- one fate

pub same_next : (m : Model) (s : PlainState) (g : ℕ) (w w' : Option ℤ) (next next' : PlainState) → Step m s g w next → Step m s g w' next' → (w ≡ w') × (next ≡ next')
same_next m s g w w' next next' a b =
    let t = a.move.0 in
    let same = same_ground m g t b.move.0 a.move.1 b.move.1 in
    let weighs : weight_of m s t ≡ Ok w' = subst (λ (u : Transition × List ℕ). weight_of m s u ≡ Ok w') same b.move.3 in
    let leads : next_state m s t ≡ Ok next' = subst (λ (u : Transition × List ℕ). next_state m s u ≡ Ok next') same b.move.4 in
    let weights : Ok w ≡ Ok w' = sym a.move.3 ∙ weighs in
    let states : Ok next ≡ Ok next' = sym a.move.4 ∙ leads in
    (cc, cc)

pub not_both : (m : Model) (s s' : PlainState) → s ≡ s' → Forbidden m s → Allowed m s' → ⊥
not_both m s s' same forbidden allowed =
    let at : Allowed m s = subst (λ (x : PlainState). Allowed m x) (sym same) allowed in
    let clash : Ok false ≡ Ok true = sym forbidden ∙ at in
    cc

pub same_base : (m : Model) (s s' : PlainState) (a b : ℤ) → s ≡ s' → Base m s a → Base m s' b → a ≡ b
same_base m s s' a b same is is' =
    let at : Base m s b = subst (λ (x : PlainState). Base m x b) (sym same) is' in
    let clash : Ok (Some a) ≡ Ok (Some b) = sym (base_best m s a is) ∙ base_best m s b at in
    cc

same_total : (m : Model) (v : Visit) (g : ℕ) (a b : ℤ) → IsTotal m v g a → IsTotal m v g b → a ≡ b
same_total m v g a b x y =
    let same = same_next m v.state g x.weight y.weight x.next y.next x.step y.step in
    let bases = same_base m x.next y.next x.base y.base same.1 x.is_base y.is_base in
    x.is ∙ (ap (λ (w : Option ℤ). join_onto m.join (join m.join v.cost w) x.base) same.0 ∙ ap (λ (c : ℤ). join_onto m.join (join m.join v.cost y.weight) c) bases) ∙ sym y.is

same_floor : (m : Model) (prune : Bool) (s s' : PlainState) (cost cost' floor floor' : Option ℤ) → s ≡ s' → cost ≡ cost' → IsFloor m prune s cost floor → IsFloor m prune s' cost' floor' → floor ≡ floor'
same_floor m prune s s' cost cost' floor floor' states costs is is' =
    let one : IsFloor m prune s cost' floor' = subst (λ (x : PlainState). IsFloor m prune x cost' floor') (sym states) is' in
    let two : IsFloor m prune s cost floor' = subst (λ (c : Option ℤ). IsFloor m prune s c floor') (sym costs) one in
    let same : Ok floor ≡ Ok floor' = sym (floor_found_at m prune s cost floor is) ∙ floor_found_at m prune s cost floor' two in
    cc

abbrev pub node : PlainState → Option ℤ → Option ℤ → Option StepId → ℕ → Node
node state cost floor parent transition = record { state = state; cost = cost; floor = floor; parent = parent; transition = transition }

same_node : (m : Model) (v : Visit) (g : ℕ) (a b : Node) → IsSuccessor m v g a → IsSuccessor m v g b → a ≡ b
same_node m v g a b x y =
    let same = same_next m v.state g x.weight y.weight a.state b.state x.step y.step in
    let states : a.state ≡ b.state = same.1 in
    let costs : a.cost ≡ b.cost = x.cost ∙ ap (λ (w : Option ℤ). join m.join v.cost w) same.0 ∙ sym y.cost in
    let floors : a.floor ≡ b.floor = same_floor m v.prune a.state b.state a.cost b.cost a.floor b.floor states costs x.floor y.floor in
    let parents : a.parent ≡ b.parent = x.parent ∙ sym y.parent in
    let transitions : a.transition ≡ b.transition = x.transition ∙ sym y.transition in
    let e : node a.state a.cost a.floor a.parent a.transition ≡ node b.state b.cost b.floor b.parent b.transition = cc in
    e

pub fates_exclude : FatesExclude
fates_exclude m v g = record {
  out_total = λ out total x. not_both m out.1 x.next (same_next m v.state g out.0 x.weight out.1 x.next out.2 x.step).1 out.4 x.is_base.allowed;
  out_node = λ out n x. not_both m out.1 n.state (same_next m v.state g out.0 x.weight out.1 n.state out.2 x.step).1 out.4 x.inner.allowed;
  total_node = λ total x n y. not_inner m x.next n.state x.base (same_next m v.state g x.weight y.weight x.next n.state x.step y.step).1 x.is_base y.inner;
  one_total = λ a b x y. same_total m v g a b x y;
  one_node = λ a b x y. same_node m v g a b x y;
}
