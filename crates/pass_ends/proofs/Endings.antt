-- What the answer of a pass says.
use Rattle.std.proofs.Common.{◌≡◌, ℕ, ◌+◌, ◌-◌, ◌≤◌, ◌<◌, ◌^◌, ◌⊎◌, inl, inr, Bool, true, false, zero, List, [], ◌∷◌, ◌++◌, length, take, drop, Option, None, refl, sym, subst, ◌∙◌, arith}
use Rattle.std.specs.Prelude.{ℤ, IsTrue, ◌↔◌}
use Rattle.std.proofs.lemmas.Bool.{cases_lt}
use Rattle.std.proofs.lemmas.List.{take-append-drop, length-take-le}
use Rattle.dp_model.specs.declared.answers.Keep.{Keep}
use Rattle.board_words.specs.Steps.{best_known}
use Rattle.board_words.specs.declared.seat.View.{View}
use Rattle.dp_claims.specs.Enough.{Has, Different, ArePairs, IsAtMostReached}
use Rattle.dp_model.specs.declared.answers.Cause.{Cause}
use Rattle.dp_model.specs.declared.answers.Cause.TheVariants as causes
use Rattle.dp_model.specs.declared.answers.Found.{Found}
use Rattle.dp_model.specs.declared.parts.PlainState.{PlainState}
use Rattle.dp_model.specs.declared.whole.Model.{Model}
use Rattle.pass_ledger.specs.Counts.{kept_pairs, visits_of, IsCounted, DropsOne}
use Rattle.pass_ledger.specs.Passes.{Pass}
use Rattle.pass_ledger.specs.declared.records.ShardRecord.{ShardRecord}
use Rattle.pass_ledger.proofs.Done.{records_law}
use Rattle.pass_ledger.proofs.Lists.{has_left}
use Rattle.pass_ledger.proofs.Pairs.{enough}
use Rattle.state_layout.specs.declared.node.Node.{Node}
use Rattle.shard_core.specs.declared.shard.ShardEnd.{ShardEnd}
use Rattle.pass_ends.specs.Ends.{HasDrawn, HasLeft, IsBestOf, IsCause, IsLowered, IsClosed, IsPassEnd, IsLegal, dropped_of}
use Rattle.pass_ends.specs.Left.{AreDropped, AreEnds, AreLeft}
use Rattle.pass_ends.specs.declared.answers.PassEnd.{PassEnd}
use Rattle.pass_ends.specs.declared.answers.PassEnd.TheVariants as ends
use Rattle.pass_ends.specs.declared.tally.Tally.{Tally}
use Rattle.pass_ends.proofs.Drops.{dropped_by}

-- ---- a front of different elements

different_front : {A : Type 0} (xs ys : List A) → Different (xs ++ ys) → Different xs
different_front [] ys h = tt
different_front (x ∷ xs) ys h = (λ there. h.0 (has_left xs ys x there), different_front xs ys h.1)

-- the first so many pairs are as many
few_reached : (m : Model) (keep : Keep) (pairs : List (ℕ × PlainState)) → ArePairs m keep pairs → (n : ℕ) → n ≤ length pairs → IsAtMostReached m keep n
few_reached m keep pairs are n le =
    let e = take-append-drop n pairs in (
      take n pairs,
      record {
        different = different_front (take n pairs) (drop n pairs) (subst Different (sym e) are.different);
        each = λ q h. are.each q (subst (λ (xs : List (ℕ × PlainState)). Has xs q) e (has_left (take n pairs) (drop n pairs) q h));
      },
      length-take-le n pairs le,
    )

-- a list that is not empty has an element
some_there : (xs : List Node) → 0 < length xs → (n : Node) × Has xs n
some_there [] lt = absurd (omega (arith, lt))
some_there (x ∷ xs) lt = (x, (zero, refl))

below_or_not : (n s : ℕ) → (b : Bool) → ((0 < n) × (2 ^ 56 ≤ s) → b ≡ true) → b ≡ false → 0 < n → (s < 2 ^ 56) ⊎ (2 ^ 56 ≤ s) → s < 2 ^ 56
below_or_not n s b says is some (inl less) = less
below_or_not n s b says is some (inr more) = let clash : true ≡ false = sym (says (some, more)) ∙ is in absurd (cc)

-- a share that memory can hold, where a node was dropped
pub share_below : (b : Bool) (n s : ℕ) → IsTrue b ↔ ((0 < n) × (2 ^ 56 ≤ s)) → b ≡ false → 0 < n → s < 2 ^ 56
share_below b n s says is some = below_or_not n s b says.1 is some (cases_lt s (2 ^ 56))

module _ (p : Pass) (records : List ShardRecord) (before after : View) (tally : Tally) (cause : ℕ) (left : AreLeft p records before after tally cause) where
  counted : IsCounted p records
  counted = enough p records left.inner left.together

  pub drew : HasDrawn p.model p.keep before after tally.visited
  drew =
      record {
        gained = left.gained;
        drawn = left.drawn;
        reached = few_reached p.model p.keep (kept_pairs records p.shards) counted.kept left.gained left.few_drawn;
        late = left.late;
        visits = left.visits;
      }

  drops_one : 0 < length (dropped_of records p.shards) → DropsOne p records
  drops_one some =
      let n = some_there (dropped_of records p.shards) some in
      let x = dropped_by records p.shards n.0 n.1 in
      (x.0, x.1, n.0, x.2, x.3)

  visits_are : (visited a b gained visits : ℕ) → visited + a ≡ gained + b → a ≡ b → gained ≡ visits → visited ≡ visits
  visits_are visited a b gained visits sum same is = omega arith

  pub closes : cause ≡ 0 → (dropped : ℕ) (floor : Option ℤ) → AreDropped p records dropped floor → (best : Option Found) → IsLowered p (best_known before) best (best_known after) → IsBestOf p records best → (0 < dropped → tally.share < 2 ^ 56)
      → IsClosed p before after tally.visited dropped floor best
  closes none dropped floor drops best lowered held small =
      let done = left.all_done none in
      let ledger = (records_law p records left.inner left.long left.together).1 (best_known before) (best_known after) left.best_is left.prunes done.0 in
      record {
        records = records;
        ledger = ledger.0;
        closed = ledger.1;
        visits = visits_are tally.visited (after.drawn - after.limit) (before.drawn - after.limit) left.gained (visits_of records p.shards) left.visits done.2 done.1;
        drops = drops.count_is;
        floor_is = drops.floor_is;
        best_is = lowered;
        held_is = held;
        no_halt = sym left.cause_is ∙ none;
        on_time = done.2;
        wider = λ some. counted.dropped (drops_one (subst (λ (n : ℕ). 0 < n) drops.count_is some));
        small_share = λ some. subst (λ (n : ℕ). n < 2 ^ 56) left.share (small some);
      }

  -- where memory ran out nothing is told but the numbers
  pub without_memory : (dropped : ℕ) (end : PassEnd) → end ≡ ends.Halted causes.Memory tally.visited dropped None → IsPassEnd p before after end
  without_memory dropped end is =
      let h : IsPassEnd p before after (ends.Halted causes.Memory tally.visited dropped None) = (drew, tt, record { cause_is = tt; best_is = λ other. absurd (other refl) }, λ other. absurd (other refl)) in
      subst (λ (e : PassEnd). IsPassEnd p before after e) (sym is) h

  -- the halt word of a spent budget
  word_is : (why : Cause) → IsCause p before after why → why ≡ causes.Budget → cause ≡ 1
  word_is causes.Budget h is = left.cause_is ∙ h.0
  word_is (causes.Fault fault) h is = let clash : causes.Fault fault ≡ causes.Budget = is in absurd (cc)
  word_is causes.Memory h is = let clash : causes.Memory ≡ causes.Budget = is in absurd (cc)

  what_is_left : (why : Cause) → IsCause p before after why → (dropped : ℕ) (floor : Option ℤ) → AreDropped p records dropped floor → (best : Option Found) → IsBestOf p records best → HasLeft p before after why tally.visited dropped best
  what_is_left why cause_is dropped floor drops best held =
      record {
        records = records;
        long = left.long;
        together = left.together;
        visits = λ is. left.spent_visits (word_is why cause_is is);
        drops = drops.count_is;
        held_is = held;
        best_is = left.best_is;
      }

  pub halts : (dropped : ℕ) (floor : Option ℤ) → AreDropped p records dropped floor → (why : Cause) → IsCause p before after why → (best : Option Found) → IsLegal p.model best → IsLowered p (best_known before) best (best_known after)
      → IsBestOf p records best → (end : PassEnd) → end ≡ ends.Halted why tally.visited dropped best → IsPassEnd p before after end
  halts dropped floor drops why cause_is best legal lowered held end is =
      let h : IsPassEnd p before after (ends.Halted why tally.visited dropped best) = (drew, legal, record { cause_is = cause_is; best_is = λ other. lowered }, λ other. what_is_left why cause_is dropped floor drops best held) in
      subst (λ (e : PassEnd). IsPassEnd p before after e) (sym is) h

  pub ends_left : (xs : List ShardEnd) → xs ≡ tally.ends.items → AreEnds p records xs tally.logs.items
  ends_left xs e = subst (λ (es : List ShardEnd). AreEnds p records es tally.logs.items) (sym e) left.ends
