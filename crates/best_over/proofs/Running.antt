-- A search before it begins, and one for which memory ran out then.
use Rattle.std.proofs.Common.{◌≡◌, ℕ, ◌-◌, ◌≤◌, min, [], None, refl, sym, subst, ◌∙◌, arith}
use Rattle.best_ends.specs.Ends.{IsBestEnd}
use Rattle.best_ends.specs.declared.answers.BestEnd.{BestEnd}
use Rattle.best_ends.specs.declared.answers.BestEnd.TheVariants as ends
use Rattle.best_ledger.specs.Enough.{ArePriced}
use Rattle.best_ledger.specs.Searches.{BestSearch}
use Rattle.best_over.specs.Lefts.{IsBefore}
use Rattle.board_words.specs.Rules.{no_word, IsWhole}
use Rattle.board_words.specs.Seats.{BoardFacts, SeatFacts, IsSeatOf}
use Rattle.board_words.specs.Steps.{best_known}
use Rattle.board_words.specs.declared.seat.View.{View}
use Rattle.dp_model.specs.declared.answers.Cause.TheVariants as causes
use Rattle.dp_model.specs.declared.whole.Model.{Model}
use Rattle.pass_ledger.specs.Passes.{Pass}
use Rattle.pass_ledger.proofs.Lists.{has_none}

-- ---- memory ran out

nothing_drawn : (m : Model) → ArePriced m []
nothing_drawn m = record { different = tt; each = λ pair h. absurd (has_none pair h) }

halted_at_once : (b : BestSearch) (v : View) → v.late ≡ v.drawn - v.limit → IsBestEnd b v v (ends.Halted causes.Memory 0 None)
halted_at_once b v late = (
  record { gained = 0; drawn = omega arith; reached = ([], nothing_drawn b.model, refl); late = late; visits = refl },
  tt,
  record { cause_is = tt; best_is = λ other. absurd (other refl) },
  λ other. absurd (other refl),
)

pub no_memory : (b : BestSearch) (before after : View) (end : BestEnd) → end ≡ ends.Halted causes.Memory 0 None → after ≡ before → before.late ≡ before.drawn - before.limit → IsBestEnd b before after end
no_memory b before after end is same late = subst (IsBestEnd b before after) (sym is) (subst (λ (v : View). IsBestEnd b before v (ends.Halted causes.Memory 0 None)) (sym same) (halted_at_once b before late))

-- ---- the search begins

pub is_before : (p : Pass) (board : BoardFacts) (budget visits : ℕ) (s : SeatFacts) → IsSeatOf board s → board.limit ≡ budget → IsWhole s.view → p.shards ≤ 64 → s.view.raised ≡ 0
    → (IsWhole s.view → visits ≡ min s.view.drawn budget) → (IsWhole s.view → s.view.late ≡ s.view.drawn - s.view.limit) → (IsWhole s.view → best_known s.view ≤ no_word) → IsBefore p budget visits s.view
is_before p board budget visits s on limit whole few no_halt counted late best = record {
  whole = whole;
  few_shards = few;
  no_halt = no_halt;
  limit = on.2 ∙ limit;
  visits_are = counted whole;
  late = late whole;
  best_fits = best whole;
}
