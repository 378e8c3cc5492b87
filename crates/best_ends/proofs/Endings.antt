-- What the answer of a search says.
use Rattle.std.proofs.Common.{◌≡◌, ℕ, ◌+◌, ◌-◌, Option, None, refl, sym, subst, ◌∙◌, arith}
use Rattle.board_words.specs.Steps.{best_known}
use Rattle.board_words.specs.declared.seat.View.{View}
use Rattle.dp_model.specs.declared.answers.Cause.{Cause}
use Rattle.dp_model.specs.declared.answers.Cause.TheVariants as causes
use Rattle.dp_model.specs.declared.answers.Found.{Found}
use Rattle.std.specs.Prelude.{List}
use Rattle.best_ledger.specs.Laws.{visits_of, IsCounted}
use Rattle.best_ledger.specs.Searches.{BestSearch, pass_of}
use Rattle.best_ledger.specs.declared.records.BestRecord.{BestRecord}
use Rattle.best_ledger.proofs.Closing.{records_law}
use Rattle.best_ledger.proofs.Pairs.{counted_law}
use Rattle.pass_ends.specs.Ends.{IsCause, IsLegal, IsLowered}
use Rattle.best_ends.specs.Ends.{HasDrawn, IsBestEnd, IsBestOf}
use Rattle.best_ends.specs.Left.{AreLeft}
use Rattle.best_ends.specs.declared.answers.BestEnd.{BestEnd}
use Rattle.best_ends.specs.declared.answers.BestEnd.TheVariants as ends
use Rattle.best_ends.specs.declared.tally.BestTally.{BestTally}

visits_are : (visited a b gained visits : ℕ) → visited + a ≡ gained + b → a ≡ b → gained ≡ visits → visited ≡ visits
visits_are visited a b gained visits sum same is = omega arith

module _ (b : BestSearch) (records : List BestRecord) (before after : View) (tally : BestTally) (cause : ℕ) (left : AreLeft b records before after tally cause) where
  counted : IsCounted b records
  counted = counted_law.together b records left.inner left.together

  drew : HasDrawn b.model before after tally.visited
  drew = record { gained = left.gained; drawn = left.drawn; reached = counted.some left.gained left.few_drawn; late = left.late; visits = left.visits }

  pub closes : cause ≡ 0 → (best : Option Found) → IsLegal b.model best → IsLowered (pass_of b) (best_known before) best (best_known after) → IsBestOf b records best → IsBestEnd b before after (ends.Closed tally.visited best)
  closes none best legal lowered held =
      let done = left.all_done none in
      let ledger = (records_law b records left.long left.together).1 (best_known before) (best_known after) left.best_is left.prunes done.0 done.1 in (
        drew,
        legal,
        record {
          records = records;
          ledger = ledger.0;
          closed = ledger.1;
          visits = visits_are tally.visited (after.drawn - after.limit) (before.drawn - after.limit) left.gained (visits_of records b.shards) left.visits done.3 done.2;
          best_is = lowered;
          held_is = held;
          no_halt = sym left.cause_is ∙ none;
          on_time = done.3;
        },
      )

  -- where memory ran out nothing is told but the number
  pub without_memory : (end : BestEnd) → end ≡ ends.Halted causes.Memory tally.visited None → IsBestEnd b before after end
  without_memory end is =
      let h : IsBestEnd b before after (ends.Halted causes.Memory tally.visited None) = (drew, tt, record { cause_is = tt; best_is = λ other. absurd (other refl) }, λ other. absurd (other refl)) in
      subst (λ (e : BestEnd). IsBestEnd b before after e) (sym is) h

  pub halts : (why : Cause) → IsCause (pass_of b) before after why → (best : Option Found) → IsLegal b.model best → IsLowered (pass_of b) (best_known before) best (best_known after) → IsBestOf b records best → IsBestEnd b before after (ends.Halted why tally.visited best)
  halts why cause_is best legal lowered held = (
    drew,
    legal,
    record { cause_is = cause_is; best_is = λ other. lowered },
    λ other. record { records = records; long = left.long; together = left.together; held_is = held; best_is = left.best_is },
  )
