-- A pass before it begins, and one for which memory ran out then.
use Rattle.std.proofs.Common.{◌≡◌, ℕ, ◌-◌, ◌≤◌, min, [], None, refl, sym, subst, ◌∙◌, arith}
use Rattle.board_words.specs.Rules.{no_word, IsWhole}
use Rattle.board_words.specs.Seats.{BoardFacts, SeatFacts, IsSeatOf}
use Rattle.board_words.specs.Steps.{best_known}
use Rattle.board_words.specs.declared.seat.View.{View}
use Rattle.dp_claims.specs.Enough.{ArePairs}
use Rattle.dp_model.specs.declared.answers.Cause.TheVariants as causes
use Rattle.dp_model.specs.declared.answers.Keep.{Keep}
use Rattle.dp_model.specs.declared.whole.Model.{Model}
use Rattle.pass_ends.specs.Ends.{IsPassEnd}
use Rattle.pass_ends.specs.declared.answers.PassEnd.{PassEnd}
use Rattle.pass_ends.specs.declared.answers.PassEnd.TheVariants as ends
use Rattle.pass_ledger.specs.Passes.{Pass}
use Rattle.pass_ledger.proofs.Lists.{has_none}
use Rattle.pass_over.specs.Lefts.{IsBefore}

-- ---- memory ran out before it begins

nothing_drawn : (m : Model) (keep : Keep) → ArePairs m keep []
nothing_drawn m keep = record { different = tt; each = λ pair h. absurd (has_none pair h) }

halted_at_once : (p : Pass) (v : View) → v.late ≡ v.drawn - v.limit → IsPassEnd p v v (ends.Halted causes.Memory 0 0 None)
halted_at_once p v late = (
  record { gained = 0; drawn = omega arith; reached = ([], nothing_drawn p.model p.keep, refl); late = late; visits = refl },
  tt,
  record { cause_is = tt; best_is = λ other. absurd (other refl) },
  λ other. absurd (other refl),
)

pub no_memory : (p : Pass) (before after : View) (end : PassEnd) → end ≡ ends.Halted causes.Memory 0 0 None → after ≡ before → before.late ≡ before.drawn - before.limit → IsPassEnd p before after end
no_memory p before after end is same late = subst (IsPassEnd p before after) (sym is) (subst (λ (v : View). IsPassEnd p before v (ends.Halted causes.Memory 0 0 None)) (sym same) (halted_at_once p before late))

-- ---- it begins

pub is_before : (p : Pass) (board : BoardFacts) (budget visits : ℕ) (s : SeatFacts) → IsSeatOf board s → board.limit ≡ budget → IsWhole s.view → p.shards ≤ 64 → s.view.raised ≡ 0
    → (IsWhole s.view → visits ≡ min s.view.drawn budget) → (IsWhole s.view → s.view.late ≡ s.view.drawn - s.view.limit) → (IsWhole s.view → best_known s.view ≤ no_word) → IsBefore p budget visits s.view
is_before p board budget visits s on limit whole few no_halt counted late best = record {
  whole = whole;
  few_shards = few;
  no_halt = no_halt;
  limit = on.2 ∙ limit;
  visits_are = counted whole;
  late = late whole;
  best_fits = best whole;
}
