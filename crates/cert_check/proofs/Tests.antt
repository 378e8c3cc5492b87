-- What the calls of the check compute, and what the definitions say: words and costs, what covers, the first of many.
use Rattle.std.proofs.Common.{◌≡◌, ℕ, ◌+◌, ◌<◌, ◌≤◌, ◌⊎◌, inl, inr, zero, suc, Bool, true, false, ◌||◌, List, [], ◌∷◌, Option, Some, None, refl, sym, subst, ◌∙◌, arith}
use Rattle.std.specs.Prelude.{ℤ, pos, ◌≤ℤ◌, int_le}
use Rattle.std.specs.Option.{is_some}
use Rattle.std.specs.List.{range_with_len}
use Rattle.std.proofs.lemmas.Int.{ints}
use Rattle.dp_model.specs.Costs.{order_word}
use Rattle.dp_model.specs.declared.answers.Claim.TheVariants.{Optimal, Infeasible}
use Rattle.dp_model.specs.declared.answers.Found.{Found}
use Rattle.dp_model.specs.declared.parts.JoinOp.{JoinOp}
use Rattle.dp_model.specs.declared.whole.Model.{Model}
use Rattle.dp_claims.specs.Enough.{Has}
use Rattle.cost_laws.specs.Orders.{InWideRange}
use Rattle.state_layout.specs.Slots.{slots_of}
use Rattle.state_layout.specs.declared.layout.Slot.{Slot}
use Rattle.state_layout.specs.declared.node.Node.{Node}
use Rattle.dom_store.specs.Covering.{bare, covers}
use Rattle.dom_store.specs.Past.{covers_past, is_past}
use Rattle.dom_store.specs.declared.past_node.PastNode.{PastNode}
use Rattle.cert_laws.specs.Checks.{first_of, is_covered, is_high}
use Rattle.cert_check.specs.Looked.{is_no_better}
use Rattle.cert_laws.specs.declared.answers.CertReason.{CertReason}
use Rattle.cert_laws.proofs.Lists.{has_head}

-- ---- words and costs

le_true : (a b : ℤ) → int_le a b ≡ true → a ≤ℤ b
le_true a b h = grind (arith, ints)

true_le : (a b : ℤ) → a ≤ℤ b → int_le a b ≡ true
true_le a b h = grind (arith, ints)

same_bool : (p q : Bool) → (p ≡ true → q ≡ true) → (q ≡ true → p ≡ true) → p ≡ q
same_bool true q h k = sym (h refl)
same_bool false true h k = k refl
same_bool false false h k = refl

not_true : (p : Bool) → (p ≡ true → ⊥) → p ≡ false
not_true true h = absurd (h refl)
not_true false h = refl

least_up : (op : JoinOp) (a b : ℤ) → a ≤ℤ b → order_word true op (Some a) ≤ℤ order_word true op (Some b)
least_up op a b h = omega (arith, ints)

least_down : (op : JoinOp) (a b : ℤ) → order_word true op (Some a) ≤ℤ order_word true op (Some b) → a ≤ℤ b
least_down op a b h = omega (arith, ints)

least_words : (op : JoinOp) (a b : ℤ) → int_le (order_word true op (Some a)) (order_word true op (Some b)) ≡ int_le a b
least_words op a b =
    same_bool (int_le (order_word true op (Some a)) (order_word true op (Some b))) (int_le a b)
    (λ h. true_le a b (least_down op a b (le_true (order_word true op (Some a)) (order_word true op (Some b)) h)))
    (λ h. true_le (order_word true op (Some a)) (order_word true op (Some b)) (least_up op a b (le_true a b h)))

most_up : (op : JoinOp) (a b : ℤ) → b ≤ℤ a → order_word false op (Some a) ≤ℤ order_word false op (Some b)
most_up op a b h = omega (arith, ints)

most_down : (op : JoinOp) (a b : ℤ) → order_word false op (Some a) ≤ℤ order_word false op (Some b) → b ≤ℤ a
most_down op a b h = omega (arith, ints)

most_words : (op : JoinOp) (a b : ℤ) → int_le (order_word false op (Some a)) (order_word false op (Some b)) ≡ int_le b a
most_words op a b =
    same_bool (int_le (order_word false op (Some a)) (order_word false op (Some b))) (int_le b a)
    (λ h. true_le b a (most_down op a b (le_true (order_word false op (Some a)) (order_word false op (Some b)) h)))
    (λ h. true_le (order_word false op (Some a)) (order_word false op (Some b)) (most_up op a b (le_true b a h)))

no_word : (minimize : Bool) (op : JoinOp) (n : ℤ) → InWideRange n → pos 18446744073709551615 ≤ℤ order_word minimize op (Some n) → ⊥
no_word true op n range le = absurd (omega (arith, ints, range.0, range.1))
no_word false op n range le = absurd (omega (arith, ints, range.0, range.1))

none_words : (minimize : Bool) (op : JoinOp) (n : ℤ) → InWideRange n → int_le (pos 18446744073709551615) (order_word minimize op (Some n)) ≡ false
none_words minimize op n range =
    not_true (int_le (pos 18446744073709551615) (order_word minimize op (Some n)))
    (λ h. no_word minimize op n range (le_true (pos 18446744073709551615) (order_word minimize op (Some n)) h))

-- a number is no better than a claimed cost where it is not less, or not greater
pub high_cost : (m : Model) (minimize : Bool) (found : Found) (n : ℤ) → m.minimize ≡ minimize → is_high m (Optimal found) (Some n) ≡ is_no_better minimize found.cost n
high_cost m true found n e = rw e (least_words m.join found.cost n)
high_cost m false found n e = rw e (most_words m.join found.cost n)

pub high_none : (m : Model) (n : ℤ) → InWideRange n → is_high m Infeasible (Some n) ≡ false
high_none m n range = none_words m.minimize m.join n range

-- ---- what covers

-- only the state and the cost so far of a node count
covered_bare : (prune minimize : Bool) (operator : JoinOp) (slots : List Slot) (n : PastNode) (other : Node) → covers_past prune minimize operator slots n other ≡ covers_past prune minimize operator slots n (bare other.state other.cost)
unfolding covers
covered_bare prune minimize operator slots n other = refl

past_bare : (prune minimize : Bool) (operator : JoinOp) (slots : List Slot) (past : List PastNode) (other : Node) → is_past (covers_past prune minimize operator slots) past other ≡ is_past (covers_past prune minimize operator slots) past (bare other.state other.cost)
past_bare prune minimize operator slots [] other = refl
past_bare prune minimize operator slots (n ∷ past) other =
    rw (covered_bare prune minimize operator slots n other, past_bare prune minimize operator slots past other) refl

-- by the layout and the law of a model it is what the check asks
pub past_covers : (m : Model) (prune on minimize : Bool) (operator : JoinOp) (slots : List Slot) (past : List PastNode) (other : Node) → minimize ≡ m.minimize → operator ≡ m.join → slots ≡ slots_of m.objects m.variables → prune ≡ on
    → is_past (covers_past prune minimize operator slots) past other ≡ is_covered m on past other.state other.cost
past_covers m prune on minimize operator slots past other e f g h = past_bare prune minimize operator slots past other ∙ rw (e, f, g, h) refl

-- ---- the first of many

range_last : (a n : ℕ) (g : ℕ) → Has (range_with_len a n) g → g < a + n
range_last a zero g has = let no : None ≡ Some g = has.1 in absurd (cc)
range_last a (suc n) g has =
    elim (has_head a (range_with_len (a + 1) n) g has) [
      | inl e ↦ first a n g e
      | inr t ↦ (let r = range_last (a + 1) n g t in later a n g r)
    ]
  where
    first : (a n g : ℕ) → a ≡ g → g < a + suc n
    first a n g e = omega arith

    later : (a n g : ℕ) → g < a + 1 + n → g < a + suc n
    later a n g h = omega arith

-- where none of so many is there, none is the first
pub none_of : (fails : ℕ → Option CertReason) (n : ℕ) → ((k : ℕ) → k < n → fails k ≡ None) → first_of fails (range_with_len 0 n) ≡ None
none_of fails n h = all (range_with_len 0 n) (λ g has. h g (from_zero g n (range_last 0 n g has)))
  where
    from_zero : (g n : ℕ) → g < 0 + n → g < n
    from_zero g n h = omega arith

    all : (gs : List ℕ) → ((g : ℕ) → Has gs g → fails g ≡ None) → first_of fails gs ≡ None
    all [] k = refl
    all (g ∷ gs) k = rw (k g (0, refl)) (all gs (λ x has. k x (suc has.0, has.1)))

first_from : (fails : ℕ → Option CertReason) (a n i : ℕ) (reason : CertReason) → a ≤ i → i < a + n → ((k : ℕ) → k < i → fails k ≡ None) → fails i ≡ Some reason → first_of fails (range_with_len a n) ≡ Some reason
first_from fails a zero i reason low high none some = absurd (omega arith)
first_from fails a (suc n) i reason low high none some =
    elim (here_or a i low) [
      | inl e ↦ rw (subst (λ (k : ℕ). fails k ≡ Some reason) (sym e) some) refl
      | inr less ↦ rw (none a less) (first_from fails (a + 1) n i reason (above a i less) (within a n i high) none some)
    ]
  where
    here_or : (a i : ℕ) → a ≤ i → (a ≡ i) ⊎ (a < i)
    here_or a i h = grind arith

    above : (a i : ℕ) → a < i → a + 1 ≤ i
    above a i h = omega arith

    within : (a n i : ℕ) → i < a + suc n → i < a + 1 + n
    within a n i h = omega arith

-- the first that is there
pub first_at : (fails : ℕ → Option CertReason) (n i : ℕ) (reason : CertReason) → i < n → ((k : ℕ) → k < i → fails k ≡ None) → fails i ≡ Some reason → first_of fails (range_with_len 0 n) ≡ Some reason
first_at fails n i reason within none some = first_from fails 0 n i reason (omega arith) (to_zero i n within) none some
  where
    to_zero : (i n : ℕ) → i < n → i < 0 + n
    to_zero i n h = omega arith

-- what is found at a place is the first, where none before it is there
pub first_some : (fails : ℕ → Option CertReason) (n i : ℕ) (o : Option CertReason) → i < n → ((k : ℕ) → k < i → fails k ≡ None) → o ≡ fails i → true ≡ is_some o → o ≡ first_of fails (range_with_len 0 n)
first_some fails n i (Some reason) within none is some = sym (first_at fails n i reason within none (sym is))
first_some fails n i None within none is some = absurd (cc)

not_some : (o : Option CertReason) → false ≡ is_some o → o ≡ None
not_some (Some reason) h = absurd (cc)
not_some None h = refl

-- so far and here none is there
pub none_more : (fails : ℕ → Option CertReason) (i : ℕ) (o : Option CertReason) → ((k : ℕ) → k < i → fails k ≡ None) → o ≡ fails i → false ≡ is_some o → (k : ℕ) → k < i + 1 → fails k ≡ None
none_more fails i o none is not k lt =
    elim (below_or k i lt) [
      | inl less ↦ none k less
      | inr e ↦ subst (λ (j : ℕ). fails j ≡ None) (sym e) (sym is ∙ not_some o not)
    ]
  where
    below_or : (k i : ℕ) → k < i + 1 → (k < i) ⊎ (k ≡ i)
    below_or k i h = grind arith

pub or_true : (h b needless : Bool) → h ≡ true → needless ≡ true → needless ≡ (h || b)
or_true true b needless e f = f
or_true false b needless e f = absurd (cc)

pub or_false : (h b needless : Bool) → h ≡ false → needless ≡ b → needless ≡ (h || b)
or_false true b needless e f = absurd (cc)
or_false false b needless e f = f
