-- A new shard stands for the record of a shard that has not begun.
use Rattle.std.proofs.Common.{◌≡◌, ℕ, ◌+◌, ◌<◌, inl, inr, zero, suc, true, false, List, [], length, get_or, map, replicate, Option, Some, None, refl, sym, subst, ◌∙◌, ap, arith}
use Rattle.std.proofs.lemmas.List.{get_or-replicate, length-replicate}
use Rattle.std.proofs.lemmas.List.Sums.{sum_by-cons}
use Rattle.dp_claims.specs.Enough.{Has}
use Rattle.dom_store.specs.Contents.{IsCovered}
use Rattle.dom_store.specs.Order.{IsLeastFloor}
use Rattle.dom_store.specs.Past.{past_node}
use Rattle.std.specs.Prelude.{IfSome}
use Rattle.dp_model.specs.declared.answers.Keep.{Keep}
use Rattle.dp_model.specs.declared.answers.Keep.TheVariants.{Layer, All}
use Rattle.dp_model.specs.declared.whole.Model.{Model}
use Rattle.state_layout.specs.Conditions.{IsLayoutOf, IsNodeOf, IsNodeFor}
use Rattle.state_layout.specs.declared.layout.Layout.{Layout}
use Rattle.state_layout.specs.declared.node.Node.{Node}
use Rattle.pass_ledger.specs.Events.{fresh}
use Rattle.pass_ledger.specs.Groups.{unfinished}
use Rattle.pass_ledger.specs.Letters.{of, states_at, all_states_at}
use Rattle.pass_ledger.specs.Passes.{Pass}
use Rattle.pass_ledger.specs.Past.{past_of}
use Rattle.pass_ledger.specs.Records.{Own, Starts}
use Rattle.pass_ledger.specs.Rows.{Received}
use Rattle.pass_ledger.specs.declared.mail.Letter.{Letter}
use Rattle.pass_ledger.specs.declared.mail.Letter.TheVariants.{State, Mark}
use Rattle.pass_ledger.proofs.Lists.{has_none}
use Rattle.shard_core.specs.Layers.{nodes_at, busy_at, AreOf, Merges}
use Rattle.shard_core.specs.Outgoing.{letters_of}
use Rattle.shard_core.specs.Stands.{Stands, Belongs}
use Rattle.shard_core.specs.declared.shard.Shard.{Shard}

past_begins : (keep : Keep) → past_of keep [] ≡ []
past_begins Layer = refl
past_begins All = refl

none_of : (shards j : ℕ) → of (replicate shards []) j ≡ []
none_of zero j = refl
none_of (suc n) zero = refl
none_of (suc n) (suc j) = none_of n j

no_letter : (shards j : ℕ) (x : Letter) → Has (of (replicate shards []) j) x → ⊥
no_letter shards j x h = has_none x (subst (λ (xs : List Letter). Has xs x) (none_of shards j) h)

count_none : (l n : ℕ) → all_states_at l (replicate n []) ≡ 0
count_none l zero = refl
count_none l (suc n) = let a = count_none l n in let b = sum_by-cons (states_at l) [] (replicate n []) in omega (arith, a, b)

pub equal_long : (counts : List ℕ) (n x : ℕ) → counts ≡ replicate n x → length counts ≡ n
equal_long counts n x e = ap length e ∙ length-replicate n x

pub equal_at : (counts : List ℕ) (n x d : ℕ) → counts ≡ replicate n x → (j : ℕ) → j < n → get_or counts j d ≡ x
equal_at counts n x d e j lt = ap (λ (xs : List ℕ). get_or xs j d) e ∙ get_or-replicate n j x d lt

pub some_fits : (m : Model) (layout : Layout) → IsLayoutOf m layout → (start : Option Node) → IfSome start (IsNodeOf m) → IfSome start (IsNodeFor layout)
some_fits m layout is None h = tt
some_fits m layout is (Some n) h = (m, is, h)

pub some_good : (m : Model) (start : Option Node) → IfSome start (IsNodeOf m) → (n : Node) → start ≡ Some n → IsNodeOf m n
some_good m start h n e = subst (λ (o : Option Node). IfSome o (IsNodeOf m)) e h

pub only_start : (p : Pass) (start : Option Node) (nodes : List Node) → (start ≡ None → nodes ≡ []) → ((m : Node) → start ≡ Some m → Merges p [] m nodes) → (n : Node) → Has nodes n → start ≡ Some n
only_start p None nodes none some n h = absurd (has_none n (subst (λ (ns : List Node). Has ns n) (none refl) h))
only_start p (Some m) nodes none some n h = elim ((some m refl).only n h) [ inl gone ↦ absurd (has_none n gone) | inr e ↦ ap Some (sym e) ]

module _ {A B : Type 0} where
  -- the layers of a new shard: layer 0 has the target's node in its owner, and nothing else is there
  pub new_stands : (p : Pass) (start : Option Node) (s : Shard A B) → Belongs p s.me s.shards s.share s.expander s.layout → s.keep ≡ p.keep → s.past.layout ≡ s.layout → s.past.nodes ≡ [] → Starts p s.me start → Own p s.me (fresh p.shards start) → ((n : Node) → start ≡ Some n → IsNodeOf p.model n)
      → s.layer ≡ 0 → s.waiting.items ≡ [] → s.letters.items ≡ [] → s.visited ≡ 0 → s.log.shard ≡ s.me → s.log.entries ≡ [] → s.held ≡ None → s.fault ≡ None → s.dropped ≡ 0 → s.least_floor ≡ None
      → length s.open_layers.items ≡ p.shards → ((j : ℕ) → j < p.shards → get_or s.open_layers.items j 1 ≡ 1) → s.told ≡ p.shards → length s.sent.items ≡ p.shards → ((j : ℕ) → j < p.shards → get_or s.sent.items j 0 ≡ 0) → s.total ≡ 0
      → AreOf s.layout s.collected.items → ((d : ℕ) → busy_at s.collected.items d ≡ false) → ((n : Node) → start ≡ Some n → IsCovered p.model p.prune (nodes_at s.collected.items 0) n) → ((n : Node) → Has (nodes_at s.collected.items 0) n → start ≡ Some n) → ((d : ℕ) → nodes_at s.collected.items (suc d) ≡ [])
      → Stands p s (fresh p.shards start)
  new_stands p start s belongs keep past_layout past_none starts own good layer waiting letters visited shard entries held fault dropped floor open_long open_is told sent_long sent_is total are calm covers only later =
      record {
        belongs = belongs;
        ends = (shard, record { own = own; log_is = entries; visited_is = visited; held_is = held; fault_is = fault; dropped_is = dropped; floor_is = subst (λ f. IsLeastFloor p.model.minimize p.model.join [] f) (sym floor) (inl refl) });
        fine = refl;
        start = good;
        layer = layer;
        begun = λ _. refl;
        waiting = waiting;
        letters = ap (letters_of s.layout s.shards) letters;
        intake = record { long = open_long; open_are = λ j lt. open_is j lt ∙ sym (ap (λ (xs : List Letter). (unfinished (1, 0) xs).0) (none_of p.shards j)) };
        collects = record {
          layouts = are;
          only = λ d n h. subst (λ (l : ℕ). Received p start (replicate p.shards []) l n) (sym (place d)) (is_only d n h);
          all = λ d n h. is_all d n (subst (λ (l : ℕ). Received p start (replicate p.shards []) l n) (place d) h);
          busy = λ d e. absurd (let clash : true ≡ false = sym e ∙ calm d in cc);
          calm = λ d j f y t h _. absurd (no_letter p.shards j (Mark f (s.layer + d) y t) h);
        };
        past = record { keep_is = keep; layout_is = past_layout; nodes_are = past_none ∙ sym (ap (map past_node) (past_begins p.keep)) };
        outbox = record {
          few = omega (arith, told);
          long = sent_long;
          told_are = λ j _. ap (unfinished (1, 0)) (none_of p.shards j) ∙ ap (λ (l : ℕ). (l + 1, 0)) (sym layer);
          open_are = λ j ge lt. absurd (omega (arith, told, ge, lt));
          sent_are = λ j lt. sent_is j lt ∙ sym (ap (states_at s.layer) (none_of p.shards j));
          total_is = (let a = count_none s.layer p.shards in let b = ap length letters in omega (arith, a, b, total));
          total_fits = omega (arith, total);
          held_back = λ _. (letters, waiting);
        };
      }
    where
      place : (d : ℕ) → s.layer + d ≡ d
      place d = omega (arith, layer)

      is_only : (d : ℕ) (n : Node) → Has (nodes_at s.collected.items d) n → Received p start (replicate p.shards []) d n
      is_only zero n h = only n h
      is_only (suc d) n h = absurd (has_none n (subst (λ (ns : List Node). Has ns n) (later d) h))

      is_all : (d : ℕ) (n : Node) → Received p start (replicate p.shards []) d n → IsCovered p.model p.prune (nodes_at s.collected.items d) n
      is_all zero n h = covers n h
      is_all (suc d) n h = absurd (no_letter p.shards h.0 (State h.0 (d + 1) n) h.2)
