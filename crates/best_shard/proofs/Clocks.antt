-- The clock of a shard is the greatest stamp of what it recorded.
use Rattle.std.proofs.Common.{◌≡◌, ℕ, ◌+◌, ◌≤◌, inl, inr, List, [], ◌∷◌, ◌++◌, map, refl, subst, ap, ◌∙◌, arith}
use Rattle.std.specs.Prelude.{max}
use Rattle.dp_claims.specs.Enough.{Has}
use Rattle.state_layout.specs.declared.node.Node.{Node}
use Rattle.pass_ledger.specs.declared.records.PrunedAt.{PrunedAt}
use Rattle.pass_ledger.proofs.Lists.{has_none, has_head}
use Rattle.best_ledger.specs.Events.{moments_of}
use Rattle.best_ledger.specs.declared.letters.BestLetter.{BestLetter}
use Rattle.best_ledger.specs.declared.records.Moment.{Moment}
use Rattle.best_ledger.specs.declared.records.Moment.TheVariants.{Came, Pruned}
use Rattle.best_shard.specs.Stands.{clock_of, stamp_in}

first_below : (a b : ℕ) → a ≤ max a b
first_below a b = omega arith

later_below : (s a b : ℕ) → s ≤ b → s ≤ max a b
later_below s a b h = omega (arith, h)

-- no stamp is greater
pub below : (history : List Moment) (m : Moment) → Has history m → stamp_in m ≤ clock_of history
below [] m h = absurd (has_none m h)
below (x ∷ history) m h =
    elim (has_head x history m h) [
      | inl e ↦ subst (λ (k : Moment). stamp_in k ≤ clock_of (x ∷ history)) e (first_below (stamp_in x) (clock_of history))
      | inr more ↦ later_below (stamp_in m) (stamp_in x) (clock_of history) (below history m more)
    ]

none_first : (b : ℕ) → b ≡ max 0 b
none_first b = omega arith

grouped : (x y z : ℕ) → max x (max y z) ≡ max (max x y) z
grouped x y z = omega arith

joined : (a b : List Moment) → clock_of (a ++ b) ≡ max (clock_of a) (clock_of b)
joined [] b = none_first (clock_of b)
joined (x ∷ a) b = ap (max (stamp_in x)) (joined a b) ∙ grouped (stamp_in x) (clock_of a) (clock_of b)

none_pruned : (prunes : List PrunedAt) → clock_of (map (λ (q : PrunedAt). Pruned q) prunes) ≡ 0
none_pruned [] = refl
none_pruned (q ∷ prunes) = ap (max 0) (none_pruned prunes)

-- a letter that comes
came : (clock clock' was stamp now : ℕ) → clock ≡ was → clock' ≡ max clock stamp → now ≡ max was (max stamp 0) → clock' ≡ now
came clock clock' was stamp now e is n = omega (arith, e, is, n)

pub clock_took : (clock clock' : ℕ) (history : List Moment) (x : BestLetter) → clock ≡ clock_of history → clock' ≡ max clock x.stamp → clock' ≡ clock_of (history ++ Came x ∷ [])
clock_took clock clock' history x e is = came clock clock' (clock_of history) x.stamp (clock_of (history ++ Came x ∷ [])) e is (joined history (Came x ∷ []))

-- a node that is pruned
same : (clock was now : ℕ) → clock ≡ was → now ≡ max was (max 0 0) → clock ≡ now
same clock was now e n = omega (arith, e, n)

pub clock_pruned : (clock : ℕ) (history : List Moment) (q : PrunedAt) → clock ≡ clock_of history → clock ≡ clock_of (history ++ Pruned q ∷ [])
clock_pruned clock history q e = same clock (clock_of history) (clock_of (history ++ Pruned q ∷ [])) e (joined history (Pruned q ∷ []))

-- a visit
raised : (clock was more now : ℕ) → clock ≡ was → more ≡ 0 → now ≡ max was (max (clock + 1) more) → clock + 1 ≡ now
raised clock was more now e none n = omega (arith, e, none, n)

pub clock_after : (clock : ℕ) (history : List Moment) (n : Node) (prunes : List PrunedAt) → clock ≡ clock_of history → clock + 1 ≡ clock_of (history ++ moments_of (clock + 1) n prunes)
clock_after clock history n prunes e =
    raised clock (clock_of history) (clock_of (map (λ (q : PrunedAt). Pruned q) prunes)) (clock_of (history ++ moments_of (clock + 1) n prunes)) e (none_pruned prunes) (joined history (moments_of (clock + 1) n prunes))
