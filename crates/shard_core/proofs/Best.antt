-- What is held after the offers of a visit.
use Rattle.std.proofs.Common.{◌≡◌, zero, suc, ◌⊎◌, inl, inr, Bool, true, false, if◌then◌else◌, List, [], ◌∷◌, Option, Some, None, refl, sym, subst, ◌∙◌, ap, arith}
use Rattle.std.specs.Prelude.{ℤ, ◌≤ℤ◌, int_lt}
use Rattle.std.proofs.lemmas.Int.{ints}
use Rattle.dp_claims.specs.Enough.{Has}
use Rattle.path_log.specs.declared.logs.StepId.{StepId}
use Rattle.pass_ledger.specs.Passes.{Pass, word_of}
use Rattle.pass_ledger.specs.Records.{Reaches}
use Rattle.pass_ledger.specs.declared.records.Held.{Held}
use Rattle.pass_ledger.proofs.Lists.{has_none, has_head}
use Rattle.successors.specs.declared.batch.Offer.{Offer}
use Rattle.shard_core.specs.Offers.{held_by, is_better, better_held, best_held, is_news}

lower : (a b c : ℤ) → int_lt a b ≡ true → b ≤ℤ c → a ≤ℤ c
lower a b c h k = grind (arith, ints)

not_lower : (a b : ℤ) → int_lt a b ≡ false → b ≤ℤ a
not_lower a b h = grind (arith, ints)

less_trans : (a b c : ℤ) → int_lt a b ≡ true → int_lt b c ≡ true → int_lt a c ≡ true
less_trans a b c h k = grind (arith, ints)

itself : (a : ℤ) → a ≤ℤ a
itself a = omega (arith, ints)

module _ (p : Pass) (id : StepId) where
  abbrev test : ℤ → ℤ → Bool
  test a b = is_better p.model.minimize p.model.join a b

  abbrev one : Option Held → Offer → Option Held
  one held offer = better_held p.model.minimize p.model.join id held offer

  abbrev all : Option Held → List Offer → Option Held
  all held offers = best_held p.model.minimize p.model.join id held offers

  -- what is held is no worse than before, and than each offer
  by_total : (old : Held) (offer : Offer) (total : ℤ) (b : Bool) → test offer.cost old.cost ≡ b → word_of p old.cost ≤ℤ word_of p total → Reaches p (if b then Some (held_by id offer) else Some old) total
  by_total old offer total true e h = lower (word_of p offer.cost) (word_of p old.cost) (word_of p total) e h
  by_total old offer total false e h = h

  one_reaches : (held : Option Held) (offer : Offer) (total : ℤ) → Reaches p held total → Reaches p (one held offer) total
  one_reaches None offer total h = absurd h
  one_reaches (Some old) offer total h = by_total old offer total (test offer.cost old.cost) refl h

  by_offer : (old : Held) (offer : Offer) (b : Bool) → test offer.cost old.cost ≡ b → Reaches p (if b then Some (held_by id offer) else Some old) offer.cost
  by_offer old offer true e = itself (word_of p offer.cost)
  by_offer old offer false e = not_lower (word_of p offer.cost) (word_of p old.cost) e

  one_offer : (held : Option Held) (offer : Offer) → Reaches p (one held offer) offer.cost
  one_offer None offer = itself (word_of p offer.cost)
  one_offer (Some old) offer = by_offer old offer (test offer.cost old.cost) refl

  pub all_reaches : (held : Option Held) (offers : List Offer) (total : ℤ) → Reaches p held total → Reaches p (all held offers) total
  all_reaches held [] total h = h
  all_reaches held (offer ∷ offers) total h = all_reaches (one held offer) offers total (one_reaches held offer total h)

  pub all_offers : (held : Option Held) (offers : List Offer) (offer : Offer) → Has offers offer → Reaches p (all held offers) offer.cost
  all_offers held [] offer h = absurd (has_none offer h)
  all_offers held (o ∷ offers) offer h =
      elim (has_head o offers offer h) [
        | inl e ↦ all_reaches (one held o) offers offer.cost (subst (λ (q : Offer). Reaches p (one held o) q.cost) e (one_offer held o))
        | inr more ↦ all_offers (one held o) offers offer more
      ]

  -- it is what was held, or an offer
  abbrev IsOneOf : List Offer → Held → Type 0
  IsOneOf offers h = (offer : Offer) × Has offers offer × (h ≡ held_by id offer)

  some_is : {a b : Held} → Some a ≡ Some b → a ≡ b
  some_is e = cc

  by_from : (old : Held) (offer : Offer) (b : Bool) (h : Held) → (if b then Some (held_by id offer) else Some old) ≡ Some h → (Some old ≡ Some h) ⊎ (h ≡ held_by id offer)
  by_from old offer true h e = inr (sym (some_is e))
  by_from old offer false h e = inl e

  one_from : (held : Option Held) (offer : Offer) (h : Held) → one held offer ≡ Some h → (held ≡ Some h) ⊎ (h ≡ held_by id offer)
  one_from None offer h e = inr (sym (some_is e))
  one_from (Some old) offer h e = by_from old offer (test offer.cost old.cost) h e

  pub all_from : (held : Option Held) (offers : List Offer) (h : Held) → all held offers ≡ Some h → (held ≡ Some h) ⊎ IsOneOf offers h
  all_from held [] h e = inl e
  all_from held (o ∷ offers) h e =
      elim (all_from (one held o) offers h e) [
        | inl at ↦ elim (one_from held o h at) [ inl old ↦ inl old | inr new ↦ inr (o, (zero, refl), new) ]
        | inr more ↦ inr (more.0, (suc more.1.0, more.1.1), more.2)
      ]

  -- where nothing better is held, the same is
  abbrev Since : Held → Held → Type 0
  Since old h = (h ≡ old) ⊎ (test h.cost old.cost ≡ true)

  by_since : (old a : Held) (offer : Offer) (b : Bool) → test offer.cost a.cost ≡ b → Since old a → (h : Held) × ((if b then Some (held_by id offer) else Some a) ≡ Some h) × Since old h
  by_since old a offer false e since = (a, refl, since)
  by_since old a offer true e (inl same) = (held_by id offer, refl, inr (subst (λ (k : Held). test offer.cost k.cost ≡ true) same e))
  by_since old a offer true e (inr less) = (held_by id offer, refl, inr (less_trans (word_of p offer.cost) (word_of p a.cost) (word_of p old.cost) e less))

  all_since : (old a : Held) (offers : List Offer) → Since old a → (h : Held) × (all (Some a) offers ≡ Some h) × Since old h
  all_since old a [] since = (a, refl, since)
  all_since old a (o ∷ offers) since =
      let n = by_since old a o (test o.cost a.cost) refl since in
      let more = all_since old n.0 offers n.2 in
      (more.0, ap (λ (k : Option Held). all k offers) n.1 ∙ more.1, more.2)

  pub no_news : (held : Option Held) (offers : List Offer) → is_news p.model.minimize p.model.join held (all held offers) ≡ false → all held offers ≡ held
  no_news None [] e = refl
  no_news None (o ∷ offers) e =
      let h = all_since (held_by id o) (held_by id o) offers (inl refl) in
      absurd (let clash : true ≡ false = sym (ap (is_news p.model.minimize p.model.join None) h.1) ∙ e in cc)
  no_news (Some old) offers e =
      let h = all_since old old offers (inl refl) in
      elim h.2 [
        | inl same ↦ h.1 ∙ ap Some same
        | inr less ↦ absurd (let clash : true ≡ false = sym (ap (is_news p.model.minimize p.model.join (Some old)) h.1 ∙ less) ∙ e in cc)
      ]
