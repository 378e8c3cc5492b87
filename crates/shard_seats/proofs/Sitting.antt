-- How the seat of a shard changes.
use Rattle.std.proofs.Common.{◌≡◌, ℕ, ◌+◌, ◌*◌, ◌^◌, ◌≤◌, ◌<◌, min, max, nat_lt, if◌then◌else◌, inl, inr, true, List, [], ◌∷◌, ◌++◌, length, Option, Some, None, refl, sym, ap, subst, ◌∙◌, arith}
use Rattle.std.specs.Prelude.{ℤ, pos, int_lt}
use Rattle.std.proofs.lemmas.Bool.Decides.{nat_tests}
use Rattle.std.proofs.lemmas.Int.{ints}
use Rattle.std.proofs.lemmas.List.{length_push}
use Rattle.board_words.specs.Causes.{halt_number}
use Rattle.board_words.specs.Rules.{no_word, draws_each, MayDraw}
use Rattle.board_words.specs.Seats.{BoardFacts, SeatFacts, IsSeatOf}
use Rattle.board_words.specs.Steps.{after_look, after_draw, after_halt, after_halted, split_view, IsBestFor, IsCountFor}
use Rattle.board_words.specs.declared.halt.HaltCause.{HaltCause}
use Rattle.board_words.specs.declared.halt.HaltCause.TheVariants as causes
use Rattle.board_words.specs.declared.seat.View.{View}
use Rattle.dp_claims.specs.Enough.{Has}
use Rattle.pass_ledger.specs.Counts.{row_pairs}
use Rattle.pass_ledger.specs.Events.{fresh, prune, visit}
use Rattle.pass_ledger.specs.Passes.{Pass, word_of}
use Rattle.pass_ledger.specs.Records.{visit_of, Own, Done}
use Rattle.pass_ledger.specs.declared.records.FaultHere.{FaultHere}
use Rattle.pass_ledger.specs.declared.records.Held.{Held}
use Rattle.pass_ledger.specs.declared.records.PrunedAt.{PrunedAt}
use Rattle.pass_ledger.specs.declared.records.ShardRecord.{ShardRecord}
use Rattle.pass_ledger.specs.declared.records.Unsent.{Unsent}
use Rattle.pass_ledger.specs.declared.records.Visit.{Visit}
use Rattle.pass_ledger.proofs.Lists.{has_none, has_head, has_cases}
use Rattle.shard_core.specs.Calls.{IsOffer}
use Rattle.shard_core.specs.Offers.{is_news}
use Rattle.shard_seats.specs.Seats.{IsOfferOf, HasSeen, Sits, HasCause, HadMemory, HasDrawnFor, Sat}
use Rattle.shard_seats.specs.declared.ended.Ended.{Ended}
use Rattle.shard_seats.specs.declared.ended.Ended.TheVariants as ends
use Rattle.shard_seats.proofs.Kept.{few_visits}
use Rattle.state_layout.specs.declared.node.Node.{Node}

-- ---- the best word

le_trans : (a b c : ℕ) → a ≤ b → b ≤ c → a ≤ c
le_trans a b c h k = omega arith

le_same : (a b : ℕ) → b ≡ a → a ≤ b
le_same a b e = omega arith

-- the best word does not rise, so each pruning before used no less
pub seen_lower : (v : View) (pruned : List PrunedAt) (best : ℕ) → HasSeen v pruned → IsBestFor v best → HasSeen (after_look v best) pruned
seen_lower v pruned best h b q there = le_trans best v.seen q.best b.seen (h q there)

pub seen_more : (v : View) (pruned more : List PrunedAt) → HasSeen v pruned → ((q : PrunedAt) → Has more q → q.best ≡ v.seen) → HasSeen v (pruned ++ more)
seen_more v pruned more h new q there = elim (has_cases pruned more q there) [ inl a ↦ h q a | inr b ↦ le_same v.seen q.best (new q b) ]

-- ---- the word that was offered

first_word : (p : Pass) (offered word : ℕ) (cost : ℤ) → word ≤ offered → pos word ≡ word_of p cost → pos (min offered word) ≡ word_of p cost
first_word p offered word cost le e = ap pos (least offered word le) ∙ e
  where
    least : (a b : ℕ) → b ≤ a → min a b ≡ b
    least a b h = omega arith

-- what is held is better than what was held, so its word is less than the one that was offered
offers_held : (p : Pass) (offered word : ℕ) (before : Option Held) (held : Held) → word ≤ no_word → IsOfferOf p offered before → is_news p.model.minimize p.model.join before (Some held) ≡ true → pos word ≡ word_of p held.cost
    → pos (min offered word) ≡ word_of p held.cost
offers_held p offered word None held fits was news e = first_word p offered word held.cost (subst (λ (n : ℕ). word ≤ n) (sym was) fits) e
offers_held p offered word (Some old) held fits was news e = first_word p offered word held.cost (less offered word (word_of p old.cost) (word_of p held.cost) news was e) e
  where
    less : (a b : ℕ) (x y : ℤ) → int_lt y x ≡ true → pos a ≡ x → pos b ≡ y → b ≤ a
    less a b x y lt e f = lower a b (subst (λ (z : ℤ). int_lt z (pos a) ≡ true) (sym f) (subst (λ (z : ℤ). int_lt y z ≡ true) (sym e) lt))
      where
        lower : (a b : ℕ) → int_lt (pos b) (pos a) ≡ true → b ≤ a
        lower a b h = grind (arith, ints, nat_tests)

-- the word of what is held was offered, where it was news, and else what was offered before is still its word
pub offered_after : (p : Pass) (offered : ℕ) (before after : Option Held) → IsOfferOf p offered before → IsOffer p before after None → IsOfferOf p offered after
offered_after p offered before after was same = subst (IsOfferOf p offered) (sym same) was

pub offered_news : (p : Pass) (offered word : ℕ) (before after : Option Held) → word ≤ no_word → IsOfferOf p offered before → IsOffer p before after (Some word) → IsOfferOf p (min offered word) after
offered_news p offered word before after fits was offer =
    subst (IsOfferOf p (min offered word)) (sym offer.2)
    (offers_held p offered word before offer.1 fits was (subst (λ (h : Option Held). is_news p.model.minimize p.model.join before h ≡ true) offer.2 offer.0) offer.3)

-- ---- numbers that are drawn

in_time : (late number limit budget : ℕ) → late ≡ 0 → limit ≡ budget → number < budget → late + (if nat_lt number limit then 0 else 1) ≡ 0
in_time late number limit budget none same lt = grind (arith, nat_tests)

too_late : (late number limit budget : ℕ) → late ≡ 0 → limit ≡ budget → budget ≤ number → late + (if nat_lt number limit then 0 else 1) ≡ 1
too_late late number limit budget none same le = grind (arith, nat_tests)

pub may_draw : (p : Pass) (budget limit : ℕ) (v : View) (r : ShardRecord) → limit ≤ 2 ^ 40 → v.limit ≡ limit → Sits p budget v r → MayDraw v
may_draw p budget limit v r small same s = few v.drawn v.top budget limit v.limit v.part s.drawn_below s.top s.limit same small s.part
  where
    few : (drawn top budget limit own part : ℕ) → drawn ≤ top → top ≤ budget → own ≡ budget → own ≡ limit → limit ≤ 2 ^ 40 → part ≡ 1 → drawn < draws_each * part
    few drawn top budget limit own part a b c d e f = omega (arith, a, b, c, d, e, f)

-- ---- a shard that goes on

-- one that has done nothing, with a seat that was split off
pub sits_fresh : (p : Pass) (budget : ℕ) (v w : View) (start : Option Node) → w ≡ split_view v → v.limit ≡ budget → Sits p budget w (fresh p.shards start)
sits_fresh p budget v w start e limit = record {
  part = ap (λ (x : View). x.part) e;
  limit = ap (λ (x : View). x.limit) e ∙ limit;
  offered = ap (λ (x : View). x.offered) e;
  seen = λ q h. absurd (has_none q h);
  drawn = ap (λ (x : View). x.drawn) e;
  drawn_below = (let a = ap (λ (x : View). x.drawn) e in omega (arith, a));
  top = (let a = ap (λ (x : View). x.top) e in omega (arith, a));
  late = ap (λ (x : View). x.late) e;
  raised = ap (λ (x : View). x.raised) e;
  met = ap (λ (x : View). x.met) e;
}

-- another record with the same visits and prunings, that holds the same
pub sits_same : (p : Pass) (budget : ℕ) (v : View) (r r' : ShardRecord) → r'.held ≡ r.held → r'.pruned ≡ r.pruned → r'.visits ≡ r.visits → Sits p budget v r → Sits p budget v r'
sits_same p budget v r r' held pruned visits s =
    record {
      part = s.part;
      limit = s.limit;
      offered = subst (IsOfferOf p v.offered) (sym held) s.offered;
      seen = subst (HasSeen v) (sym pruned) s.seen;
      drawn = s.drawn ∙ ap (λ (vs : List Visit). length vs) (sym visits);
      drawn_below = s.drawn_below;
      top = s.top;
      late = s.late;
      raised = s.raised;
      met = s.met;
    }

one_pruned : (v : View) (n : Node) (best : ℕ) (q : PrunedAt) → Has (record { node = n; best = best } ∷ []) q → q.best ≡ best
one_pruned v n best q h = elim (has_head (record { node = n; best = best }) [] q h) [ inl e ↦ ap (λ (a : PrunedAt). a.best) (sym e) | inr none ↦ absurd (has_none q none) ]

pub sits_pruned : (p : Pass) (budget : ℕ) (v : View) (r : ShardRecord) (n : Node) (rest : List Node) (best : ℕ) → Sits p budget v r → IsBestFor v best → Sits p budget (after_look v best) (prune r n rest best)
sits_pruned p budget v r n rest best s b =
    record {
      part = s.part;
      limit = s.limit;
      offered = s.offered;
      seen = seen_more (after_look v best) r.pruned (record { node = n; best = best } ∷ []) (seen_lower v r.pruned best s.seen b) (one_pruned v n best);
      drawn = s.drawn;
      drawn_below = s.drawn_below;
      top = s.top;
      late = s.late;
      raised = s.raised;
      met = s.met;
    }

-- the view after the best word was looked at and a number drawn
abbrev pub drawn_at : View → (best number : ℕ) → View
drawn_at v best number = after_draw (after_look v best) number

one_up : (a b c : ℕ) → a ≡ b → c ≡ b + 1 → a + 1 ≡ c
one_up a b c e f = omega arith

up : (a b : ℕ) → a ≤ b → a + 1 ≤ b + 1
up a b h = omega arith

below : (a b : ℕ) → a < b → a + 1 ≤ b
below a b h = omega arith

pub sits_visited : (p : Pass) (budget : ℕ) (v : View) (r : ShardRecord) (best number : ℕ) → Sits p budget v r → IsBestFor v best → IsCountFor (after_look v best) number → number < budget
    → (l : ℕ) (n : Node) (rest : List Node) (made : List Unsent) (prunes : List PrunedAt) → ((q : PrunedAt) → Has prunes q → q.best ≡ best) → (held : Option Held) (offered : ℕ) → IsOfferOf p offered held
    → Sits p budget (record (drawn_at v best number) { offered = offered }) (visit r l n rest made prunes held None)
sits_visited p budget v r best number s b count lt l n rest made prunes by_best held offered offer =
    record {
      part = s.part;
      limit = s.limit;
      offered = offer;
      seen = seen_more (after_look v best) r.pruned prunes (seen_lower v r.pruned best s.seen b) by_best;
      drawn = one_up v.drawn (length r.visits) (length (r.visits ++ visit_of l n ∷ [])) s.drawn (length_push r.visits (visit_of l n));
      drawn_below = up v.drawn number count.own;
      top = below number budget lt;
      late = in_time v.late number v.limit budget s.late s.limit lt;
      raised = s.raised;
      met = s.met;
    }

-- ---- a shard that has ended

same_le : (a b c : ℕ) → a ≡ b → b ≤ c → a ≤ c
same_le a b c e h = omega arith

up_le : (a b c : ℕ) → a ≡ b → b + 1 ≤ c → a + 1 ≤ c
up_le a b c e h = omega arith

raises : (a b : ℕ) → a ≡ 0 → max a b ≡ b
raises a b e = omega arith

cause_kept : (v : View) (r : ShardRecord) (number : ℕ) (cause : HaltCause) → HasCause v r cause → HasCause (after_halt v number) r cause
cause_kept v r number causes.Budget h = h
cause_kept v r number causes.Memory h = h
cause_kept v r number causes.Fault h = h

-- so many draws, of which so many were late, and so many visits
in_step : (drawn visits late : ℕ) → drawn ≡ visits → late ≡ 0 → drawn ≡ visits + late
in_step drawn visits late e none = omega (arith, e, none)

one_late : (drawn visits late : ℕ) → drawn ≡ visits → late ≡ 1 → drawn + 1 ≡ visits + late
one_late drawn visits late e one = omega (arith, e, one)

one_more : (drawn visits more late : ℕ) → drawn ≡ visits → more ≡ visits + 1 → late ≡ 0 → drawn + 1 ≡ more + late
one_more drawn visits more late e up none = omega (arith, e, up, none)

-- a shard that halts the pass
sat_halted : (p : Pass) (i : ℕ) (v : View) (r : ShardRecord) (cause : HaltCause) → v.part ≡ 1 → IsOfferOf p v.offered r.held → HasSeen v r.pruned → v.drawn ≤ length (row_pairs 0 r.rows) → v.drawn ≤ v.top → (HadMemory (ends.Halted cause) → HasDrawnFor v r)
    → v.raised ≡ 0 → HasCause v r cause → Sat p i (ends.Halted cause) (after_halt v (halt_number cause)) r
sat_halted p i v r cause part offered seen few below drawn raised why =
    record { part = part; offered = offered; seen = seen; few_drawn = few; drawn_below = below; drawn = drawn; cause = (raises v.raised (halt_number cause) raised, cause_kept v r (halt_number cause) cause why) }

module _ (p : Pass) (i budget : ℕ) (v : View) (r : ShardRecord) (own : Own p i r) (s : Sits p budget v r) where
  few : v.drawn ≤ length (row_pairs 0 r.rows)
  few = same_le v.drawn (length r.visits) (length (row_pairs 0 r.rows)) s.drawn (few_visits p i r own)

  drawn_for : HasDrawnFor v r
  drawn_for = in_step v.drawn (length r.visits) v.late s.drawn s.late

  -- it met the halt of another
  pub sat_met : (word : ℕ) → 0 < word → Sat p i ends.Met (after_halted v word) r
  sat_met word some = record { part = s.part; offered = s.offered; seen = s.seen; few_drawn = few; drawn_below = s.drawn_below; drawn = λ _. drawn_for; cause = (s.raised, s.late, some) }

  pub sat_done : Done p i r → Sat p i ends.Done v r
  sat_done done = record { part = s.part; offered = s.offered; seen = s.seen; few_drawn = few; drawn_below = s.drawn_below; drawn = λ _. drawn_for; cause = (s.raised, s.late, s.drawn, done) }

  -- memory ran out before it drew a number
  pub sat_memory : Sat p i (ends.Halted causes.Memory) (after_halt v (halt_number causes.Memory)) r
  sat_memory = sat_halted p i v r causes.Memory s.part s.offered s.seen few s.drawn_below (λ _. drawn_for) s.raised s.late

  -- ---- after it drew a number for a node that waits
  module _ (best number : ℕ) (b : IsBestFor v best) (count : IsCountFor (after_look v best) number) (waits : length r.visits + 1 ≤ length (row_pairs 0 r.rows)) where
    drawn_few : v.drawn + 1 ≤ length (row_pairs 0 r.rows)
    drawn_few = up_le v.drawn (length r.visits) (length (row_pairs 0 r.rows)) s.drawn waits

    drawn_top : v.drawn + 1 ≤ number + 1
    drawn_top = up v.drawn number count.own

    -- the budget was spent
    pub sat_budget : budget ≤ number → Sat p i (ends.Halted causes.Budget) (after_halt (drawn_at v best number) (halt_number causes.Budget)) r
    sat_budget spent =
        let late = too_late v.late number v.limit budget s.late s.limit spent in
        sat_halted p i (drawn_at v best number) r causes.Budget s.part s.offered (seen_lower v r.pruned best s.seen b) drawn_few drawn_top (λ _. one_late v.drawn (length r.visits) (drawn_at v best number).late s.drawn late) s.raised late

    -- memory ran out in the visit
    pub sat_drawn : number < budget → Sat p i (ends.Halted causes.Memory) (after_halt (drawn_at v best number) (halt_number causes.Memory)) r
    sat_drawn lt = sat_halted p i (drawn_at v best number) r causes.Memory s.part s.offered (seen_lower v r.pruned best s.seen b) drawn_few drawn_top (λ had. absurd (had refl)) s.raised (in_time v.late number v.limit budget s.late s.limit lt)

    -- the visit met a fault
    pub sat_fault : number < budget → (l : ℕ) (n : Node) (rest : List Node) (met : FaultHere) → Sat p i (ends.Halted causes.Fault) (after_halt (drawn_at v best number) (halt_number causes.Fault)) (visit r l n rest [] [] r.held (Some met))
    sat_fault lt l n rest met =
        let late = in_time v.late number v.limit budget s.late s.limit lt in
        sat_halted p i (drawn_at v best number) (visit r l n rest [] [] r.held (Some met)) causes.Fault s.part s.offered (seen_more (after_look v best) r.pruned [] (seen_lower v r.pruned best s.seen b) (λ q h. absurd (has_none q h))) drawn_few drawn_top
        (λ _. one_more v.drawn (length r.visits) (length (r.visits ++ visit_of l n ∷ [])) (drawn_at v best number).late s.drawn (length_push r.visits (visit_of l n)) late) s.raised (late, met, refl)

-- ---- calls of the board

-- the seat looked at the best word, and drew a number
pub record Drew (board : BoardFacts) (old : SeatFacts) (best number : ℕ) (new : SeatFacts) : Type 0 where
  pub on_board : IsSeatOf board new
  pub view : new.view ≡ drawn_at old.view best number
  pub least : IsBestFor old.view best
  pub count : IsCountFor (after_look old.view best) number

pub drew : (board : BoardFacts) (old looked new : SeatFacts) (best number : ℕ) → looked.view ≡ after_look old.view best → IsBestFor old.view best → IsSeatOf board new → new.view ≡ after_draw looked.view number → IsCountFor looked.view number → Drew board old best number new
drew board old looked new best number look least on view count =
    record { on_board = on; view = view ∙ ap (λ (v : View). after_draw v number) look; least = least; count = subst (λ (v : View). IsCountFor v number) look count }

-- the seat raised the halt of a cause, and the shard has ended by it
pub record Halts (board : BoardFacts) (old : SeatFacts) (cause : HaltCause) (end : Ended) (new : SeatFacts) : Type 0 where
  pub ended : end ≡ ends.Halted cause
  pub on_board : IsSeatOf board new
  pub view : new.view ≡ after_halt old.view (halt_number cause)
