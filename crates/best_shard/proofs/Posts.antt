-- A shard that hands out a letter stands for the record that posted it.
use Rattle.std.proofs.Common.{◌≡◌, ℕ, ◌<◌, zero, List, [], ◌∷◌, refl, sym, subst, ◌∙◌}
use Rattle.std.specs.Prelude.{Option, Some, None, IfNone}
use Rattle.std.specs.declared.alloc.Global.{Global}
use Rattle.std.specs.declared.collections.VecDeque.{VecDeque}
use Rattle.dp_claims.specs.Enough.{Has}
use Rattle.pass_ledger.specs.Passes.{Pass}
use Rattle.best_ledger.specs.Events.{CanPost}
use Rattle.best_ledger.specs.declared.records.BestRecord.{BestRecord}
use Rattle.best_ledger.specs.declared.records.ToPost.{ToPost}
use Rattle.best_ledger.proofs.Posts.{own_law}
use Rattle.best_shard.specs.Calls.{IsPosting}
use Rattle.best_shard.specs.Stands.{Stands, Follows}
use Rattle.best_shard.specs.declared.shard.BestShard.{BestShard}

module _ {A B : Type 0} where
  pub posts : (p : Pass) (s : BestShard A B) (r : BestRecord) → Stands p s r → (u : ToPost) (letters' : VecDeque ToPost Global) → s.letters.items ≡ u ∷ letters'.items → IsPosting p r u (record s { letters = letters' })
  posts p s r st u letters' first =
      record {
        rest = letters'.items;
        can = can;
        stands = record {
          follows = record {
            belongs = f.belongs;
            ends = (
              f.ends.0,
              record {
                own = own_law.posts p s.me r f.ends.1.own u letters'.items can;
                log_is = f.ends.1.log_is;
                visited_is = f.ends.1.visited_is;
                held_is = f.ends.1.held_is;
                fault_is = f.ends.1.fault_is;
              },
            );
            fine = f.fine;
            start = f.start;
            layout_is = f.layout_is;
            past = f.past;
            letters = refl;
            clock = f.clock;
          };
          waiting = st.waiting;
        };
      }
    where
      f : Follows p s r
      f = st.follows

      was : r.unsent ≡ u ∷ letters'.items
      was = sym f.letters ∙ first

      receiver : u.to < p.shards
      receiver = let made = f.ends.1.own.sends.unsent_made u (subst (λ (us : List ToPost). Has us u) (sym was) (zero, refl)) in subst (λ (k : ℕ). k < p.shards) made.owner (p.owned u.letter.node.state)

      can : CanPost p r u letters'.items
      can = record { receiver = receiver; before = []; after = letters'.items; was = was; is = refl }

  pub posts_none : (p : Pass) (s : BestShard A B) (r : BestRecord) → Stands p s r → (letters' : VecDeque ToPost Global) → s.letters.items ≡ [] → letters'.items ≡ [] → (r.unsent ≡ []) × Stands p (record s { letters = letters' }) r
  posts_none p s r st letters' none none' = (
    sym st.follows.letters ∙ none,
    record {
      follows = record {
        belongs = st.follows.belongs;
        ends = st.follows.ends;
        fine = st.follows.fine;
        start = st.follows.start;
        layout_is = st.follows.layout_is;
        past = st.follows.past;
        letters = none' ∙ (sym none ∙ st.follows.letters);
        clock = st.follows.clock;
      };
      waiting = st.waiting;
    },
  )

-- what holds in any case holds where there is none
pub none_holds : {X Y : Type 0} (o : Option X) → Y → IfNone o Y
none_holds (Some x) y = tt
none_holds None y = y
