-- The best word of a run is that of the solution that is held, and what it says of all legal lists.
use Rattle.std.proofs.Common.{◌≡◌, ℕ, ◌≤◌, inl, inr, Bool, true, false, refl, sym, ap, ◌∙◌, subst, Option, Some, None, ℤ, pos, ◌≤ℤ◌, arith}
use Rattle.std.specs.Prelude.{IfSome, IsTrue, ◌↔◌, ◌<ℤ◌}
use Rattle.std.proofs.lemmas.Int.{ints}
use Rattle.board_words.specs.Rules.{no_word}
use Rattle.cost_laws.specs.Laws.{better_by_word}
use Rattle.dp_model.specs.Costs.{InRange, IsBetter, order_word}
use Rattle.dp_model.specs.declared.answers.Found.{Found}
use Rattle.dp_model.specs.declared.answers.Options.{Options}
use Rattle.dp_model.specs.declared.parts.JoinOp.{JoinOp}
use Rattle.dp_model.specs.declared.parts.JoinOp.TheVariants.{Plus, Most, Least}
use Rattle.pass_ends.specs.Ends.{IsLegal, IsLowered}
use Rattle.pass_ledger.specs.Ledgers.{NoneBelow}
use Rattle.pass_ledger.specs.Passes.{Pass, word_of}
use Rattle.solve_passes.specs.Ongoing.{IsImproved, IsWordOf, held_after, verdict_of}
use Rattle.solve_passes.specs.Records.{Ended, IsTrusted, KeepsWord}

-- ---- words

-- the word of a cost of a legal list is below that of no solution
word_small : (minimize : Bool) (op : JoinOp) (c : ℤ) → InRange c → order_word minimize op (Some c) <ℤ pos no_word
word_small true Plus c within = omega (arith, ints, within.0, within.1)
word_small true Most c within = omega (arith, ints, within.0, within.1)
word_small true Least c within = omega (arith, ints, within.0, within.1)
word_small false Plus c within = omega (arith, ints, within.0, within.1)
word_small false Most c within = omega (arith, ints, within.0, within.1)
word_small false Least c within = omega (arith, ints, within.0, within.1)

better_word : (minimize : Bool) (op : JoinOp) (a b : ℤ) → IsBetter minimize a b → order_word minimize op (Some a) <ℤ order_word minimize op (Some b)
better_word minimize op a b = (better_by_word minimize op a b).0

not_less : (a b : ℤ) → (a <ℤ b → ⊥) → b ≤ℤ a
not_less a b h = grind (arith, ints, h)

-- what is not better has no lesser word
no_better_word : (minimize : Bool) (op : JoinOp) (a b : ℤ) → (IsBetter minimize a b → ⊥) → order_word minimize op (Some b) ≤ℤ order_word minimize op (Some a)
no_better_word minimize op a b h = not_less (order_word minimize op (Some a)) (order_word minimize op (Some b)) (λ less. h ((better_by_word minimize op a b).1 less))

-- what a test that was false says of two costs
pub not_better : (minimize : Bool) (a b a' b' : ℤ) → a' ≡ a → b' ≡ b → IsTrue false ↔ IsBetter minimize a' b' → IsBetter minimize a b → ⊥
not_better minimize a b a' b' same_a same_b tested better =
    let said : IsBetter minimize a' b' = subst (λ (x : ℤ). IsBetter minimize x b') (sym same_a) (subst (λ (x : ℤ). IsBetter minimize a x) (sym same_b) better) in
    let no : false ≡ true = tested.1 said in
    cc

-- ---- numbers

same_number : (a b : ℕ) (x y : ℤ) → a ≤ b → pos a ≡ x → pos b ≡ y → y ≤ℤ x → pos a ≡ y
same_number a b x y h e f g = omega (arith, ints, h, e, f, g)

not_above : (a b : ℕ) (x y : ℤ) → a ≡ b → pos b ≡ y → pos a ≤ℤ x → x <ℤ y → ⊥
not_above a b x y same e h less = omega (arith, ints, same, e, h, less)

above_none : (a b : ℕ) (x : ℤ) → a ≡ b → b ≡ no_word → pos a ≤ℤ x → x <ℤ pos no_word → ⊥
above_none a b x same e h less = omega (arith, ints, same, e, h, less)

-- ---- the best word after a pass

module _ (p : Pass) (before after : ℕ) where
  -- no better solution was found
  kept : (held best : Option Found) → IsWordOf p.model before held → IsImproved p.model held best None → IsLowered p before best after → IsWordOf p.model after held
  kept held None word worse lowered = elim lowered.is_one [
    | inl same ↦ subst (λ (n : ℕ). IsWordOf p.model n held) (sym same) word
    | inr new ↦ let e : None ≡ Some new.0 = new.1 in absurd (cc)
  ]
  kept held (Some f) word worse lowered = elim lowered.is_one [
    | inl same ↦ subst (λ (n : ℕ). IsWordOf p.model n held) (sym same) word
    | inr new ↦
        let e : Some f ≡ Some new.0 = new.1 in
        let is : f ≡ new.0 = cc in
        let h = worse.0 in
        let held_word : pos before ≡ word_of p h.cost = subst (λ (o : Option Found). IsWordOf p.model before o) worse.1 word in
        let new_word : pos after ≡ word_of p f.cost = new.2 ∙ ap (λ (x : Found). word_of p x.cost) (sym is) in
        let no_less = no_better_word p.model.minimize p.model.join f.cost h.cost worse.2 in
        subst (λ (o : Option Found). IsWordOf p.model after o) (sym worse.1) (same_number after before (word_of p f.cost) (word_of p h.cost) lowered.no_greater new_word held_word no_less)
  ]

  -- nothing is as good as a better solution
  passed : (held : Option Found) (f : Found) → InRange f.cost → IsWordOf p.model before held → IfSome held (λ h. IsBetter p.model.minimize f.cost h.cost) → pos after ≤ℤ word_of p f.cost → after ≡ before → ⊥
  passed None f within word better no_worse same = above_none after before (word_of p f.cost) same word no_worse (word_small p.model.minimize p.model.join f.cost within)
  passed (Some h) f within word better no_worse same =
      not_above after before (word_of p f.cost) (word_of p h.cost) same word no_worse (better_word p.model.minimize p.model.join f.cost h.cost better)

  -- a better solution was found
  replaced : (held best : Option Found) (f : Found) → IsLegal p.model best → IsWordOf p.model before held → IsImproved p.model held best (Some f) → IsLowered p before best after → IsWordOf p.model after (Some f)
  replaced held None f legal word new lowered = let e : None ≡ Some f = new.0 in absurd (cc)
  replaced held (Some g) f legal word new lowered =
      let e : Some g ≡ Some f = new.0 in
      let is : g ≡ f = cc in
      elim lowered.is_one [
        | inl same ↦ absurd (passed held f (subst (λ (x : Found). InRange x.cost) is legal.in_range) word new.1 (subst (λ (x : Found). pos after ≤ℤ word_of p x.cost) is lowered.no_worse) same)
        | inr one ↦
            let e' : Some g ≡ Some one.0 = one.1 in
            let is' : g ≡ one.0 = cc in
            one.2 ∙ ap (λ (x : Found). word_of p x.cost) (sym is' ∙ is)
      ]

  pub word_after : (held best found : Option Found) → IsLegal p.model best → IsWordOf p.model before held → IsImproved p.model held best found → IsLowered p before best after → IsWordOf p.model after (held_after held found)
  word_after held best None legal word improved lowered = kept held best word improved lowered
  word_after held best (Some f) legal word improved lowered = replaced held best f legal word improved lowered

-- ---- what the best word says of all legal lists

none_legal : (p : Pass) (best : ℕ) (cost : ℤ) → best ≡ no_word → InRange cost → pos best ≤ℤ word_of p cost → ⊥
none_legal p best cost none within above = above_none best best (word_of p cost) refl none above (word_small p.model.minimize p.model.join cost within)

none_better : (p : Pass) (best : ℕ) (held other : ℤ) → pos best ≡ word_of p held → pos best ≤ℤ word_of p other → IsBetter p.model.minimize other held → ⊥
none_better p best held other is above better = not_above best best (word_of p other) (word_of p held) refl is above (better_word p.model.minimize p.model.join other held better)

-- where no legal list has a word below the best word, the verdict on what is held is true
pub keeps_word : (p : Pass) (options : Options) (best : ℕ) (held : Option Found) → IsWordOf p.model best held → (IsTrusted p.model options → NoneBelow p (pos best)) → KeepsWord p.model options None (Ended (verdict_of held))
keeps_word p options best None word none = λ trusted steps cost s. none_legal p best cost word s.in_range (none trusted steps cost s)
keeps_word p options best (Some f) word none = λ trusted steps other s better. none_better p best f.cost other word (none trusted steps other s) better
