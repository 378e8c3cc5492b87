-- A shard that takes a letter stands for the record that took it.
use Rattle.std.proofs.Common.{◌≡◌, ℕ, inl, inr, List, [], ◌∷◌, ◌++◌, length, map, refl, sym, subst, ap, ◌∙◌}
use Rattle.std.specs.Prelude.{max}
use Rattle.dp_claims.specs.Enough.{Has}
use Rattle.dp_claims.specs.Dominance.{Covers}
use Rattle.dom_store.specs.Contents.{Contents, Apart}
use Rattle.dom_store.specs.Past.{Past, IsPast}
use Rattle.dom_store.specs.declared.past_node.PastNode.{PastNode}
use Rattle.state_layout.specs.Conditions.{IsNodeFor}
use Rattle.state_layout.specs.declared.layout.Layout.{Layout}
use Rattle.state_layout.specs.declared.node.Node.{Node}
use Rattle.pass_ledger.specs.Passes.{Pass}
use Rattle.pass_ledger.specs.Past.{IsCoveredBy}
use Rattle.pass_ledger.specs.Rows as rows
use Rattle.pass_ledger.proofs.Lists.{has_map}
use Rattle.best_ledger.specs.Events.{CanTake, IsPastCovered}
use Rattle.best_ledger.specs.Histories.{visits_in, IsNew}
use Rattle.best_ledger.specs.Logs.{entry_of}
use Rattle.best_ledger.specs.declared.letters.BestLetter.{BestLetter}
use Rattle.best_ledger.specs.declared.records.BestRecord.{BestRecord}
use Rattle.best_ledger.specs.declared.records.BestVisit.{BestVisit}
use Rattle.best_ledger.specs.declared.records.Moment.{Moment}
use Rattle.best_ledger.specs.declared.records.Moment.TheVariants.{Came, Visited}
use Rattle.best_ledger.proofs.Histories.{place_of, moment_of}
use Rattle.best_ledger.proofs.Posts.{own_law}
use Rattle.successors.specs.Searches.{Search}
use Rattle.shard_core.proofs.Closes.{apart_in}
use Rattle.best_shard.specs.Calls.{MayCome, IsTaking}
use Rattle.best_shard.specs.Opening.{Opens}
use Rattle.best_shard.specs.Stands.{Stands, Follows, Remembers, past_visit}
use Rattle.best_shard.specs.declared.shard.BestShard.{BestShard}
use Rattle.best_shard.proofs.Clocks.{clock_took}
use Rattle.best_shard.proofs.Lists.{map_has, visits_same}

-- what is apart in the ledger is apart in the store
pub apart_out : (p : Pass) (ns : List Node) → rows.Apart p ns → Apart p.model p.prune ns
apart_out p [] h = tt
apart_out p (n ∷ ns) h = (h.0, apart_out p ns h.1)

-- a visited node stands in the past
in_past : (layout : Layout) (past : Past) (history : List Moment) → Remembers layout past history → (w : BestVisit) → Has history (Visited w) → Has past.nodes (past_visit w)
in_past layout past history is w h = subst (λ (ns : List PastNode). Has ns (past_visit w)) (sym is.nodes_are) (map_has past_visit (visits_in history) w (place_of history w h))

not_past_new : (p : Pass) (layout : Layout) (past : Past) (history : List Moment) → Remembers layout past history → (n : Node) → (IsPast p.model p.prune past.nodes n → ⊥) → IsNew p history n
not_past_new p layout past history is n free w h c = free (past_visit w, in_past layout past history is w h, c)

past_covers : (p : Pass) (layout : Layout) (past : Past) (history : List Moment) → Remembers layout past history → (n : Node) → IsPast p.model p.prune past.nodes n → IsPastCovered p history n
past_covers p layout past history is n c =
    let v = has_map past_visit (visits_in history) c.0 (subst (λ (ns : List PastNode). Has ns c.0) is.nodes_are c.1) in (
      v.0,
      moment_of history v.1.0 v.0 v.1.1,
      subst (λ (k : PastNode). Covers p.model p.prune k.state k.cost n.state n.cost) (sym v.2) c.2,
    )

module _ {A B : Type 0} where
  pub node_fits : (p : Pass) (s : BestShard A B) (r : BestRecord) → Stands p s r → (x : BestLetter) → MayCome p x → IsNodeFor s.layout x.node
  node_fits p s r st x may = (p.model, st.follows.belongs.layout_is, may.lawful.is_node)

  pub waits_apart : (p : Pass) (s : BestShard A B) (r : BestRecord) → Stands p s r → Apart p.model p.prune s.waiting.nodes
  waits_apart p s r st = subst (λ (ns : List Node). Apart p.model p.prune ns) (sym st.waiting) (apart_out p r.waiting st.follows.ends.1.own.waits.apart)

  can_take : (p : Pass) (s : BestShard A B) (r : BestRecord) → Stands p s r → (x : BestLetter) → MayCome p x → (new : List Node) → Opens p s.past.nodes s.waiting.nodes x.node new → CanTake p r x new
  can_take p s r st x may new o =
      record {
        from = may.from;
        lawful = may.lawful;
        kept = λ n h. elim (o.kept n h) [
          | inl old ↦ inl (subst (λ (ns : List Node). Has ns n) st.waiting old)
          | inr here ↦ inr (
            here.0,
            subst (IsNew p r.history) here.0 (not_past_new p s.layout s.past r.history st.follows.past x.node here.1),
            subst (λ (k : Node). IsCoveredBy p r.waiting k → ⊥) here.0 (λ c. here.2 (subst (λ (ns : List Node). IsCoveredBy p ns x.node) (sym st.waiting) c)),
          )
        ];
        apart = apart_in p new o.apart;
        left = λ n h. o.left n (subst (λ (ns : List Node). Has ns n) (sym st.waiting) h);
        added = elim o.added [ inl c ↦ inl c | inr c ↦ inr (past_covers p s.layout s.past r.history st.follows.past x.node c) ];
      }

  takes : (p : Pass) (s : BestShard A B) (r : BestRecord) → Stands p s r → (x : BestLetter) → MayCome p x → (waiting' : Contents) → Opens p s.past.nodes s.waiting.nodes x.node waiting'.nodes → waiting'.layout ≡ s.waiting.layout
      → (clock' : ℕ) → clock' ≡ max s.clock x.stamp → IsTaking p r x (record s { waiting = waiting'; clock = clock' })
  takes p s r st x may waiting' o wl clock' is =
      record {
        rest = waiting'.nodes;
        can = can;
        stands = record {
          follows = record {
            belongs = f.belongs;
            ends = (
              f.ends.0,
              record {
                own = own_law.takes p s.me r f.ends.1.own x waiting'.nodes can;
                log_is = f.ends.1.log_is ∙ sym (ap (map entry_of) same);
                visited_is = f.ends.1.visited_is ∙ sym (ap length same);
                held_is = f.ends.1.held_is;
                fault_is = f.ends.1.fault_is;
              },
            );
            fine = f.fine;
            start = f.start;
            layout_is = wl ∙ f.layout_is;
            past = record { layout_is = f.past.layout_is; nodes_are = f.past.nodes_are ∙ sym (ap (map past_visit) same) };
            letters = f.letters;
            clock = clock_took s.clock clock' r.history x f.clock is;
          };
          waiting = refl;
        };
      }
    where
      f : Follows p s r
      f = st.follows

      can : CanTake p r x waiting'.nodes
      can = can_take p s r st x may waiting'.nodes o

      same : visits_in (r.history ++ Came x ∷ []) ≡ visits_in r.history
      same = visits_same r.history (Came x ∷ []) refl

  -- the expander is the same
  pub took : (p : Pass) (s : BestShard A B) (r : BestRecord) → Stands p s r → (x : BestLetter) → MayCome p x → (waiting' : Contents) → Opens p s.past.nodes s.waiting.nodes x.node waiting'.nodes → waiting'.layout ≡ s.waiting.layout
      → (expander' : Search) → expander' ≡ s.expander → (clock' : ℕ) → clock' ≡ max s.clock x.stamp → IsTaking p r x (record s { waiting = waiting'; expander = expander'; clock = clock' })
  took p s r st x may waiting' o wl expander' same clock' is =
      subst (λ (y : Search). IsTaking p r x (record s { waiting = waiting'; expander = y; clock = clock' })) (sym same) (takes p s r st x may waiting' o wl clock' is)

  pub took_none : (p : Pass) (s : BestShard A B) (r : BestRecord) → Stands p s r → (waiting' : Contents) → waiting'.nodes ≡ s.waiting.nodes → waiting'.layout ≡ s.waiting.layout → (expander' : Search) → expander' ≡ s.expander
      → Stands p (record s { waiting = waiting'; expander = expander' }) r
  took_none p s r st waiting' nodes wl expander' same =
      subst (λ (y : Search). Stands p (record s { waiting = waiting'; expander = y }) r) (sym same) (record {
        follows = record {
          belongs = st.follows.belongs;
          ends = st.follows.ends;
          fine = st.follows.fine;
          start = st.follows.start;
          layout_is = wl ∙ st.follows.layout_is;
          past = st.follows.past;
          letters = st.follows.letters;
          clock = st.follows.clock;
        };
        waiting = nodes ∙ st.waiting;
      })
