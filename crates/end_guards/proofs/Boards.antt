-- Seats, shards that end and letters that are left, written out.
use Rattle.std.proofs.Common.{◌≡◌, ℕ, ◌≤◌, ◌<◌, zero, suc, List, [], ◌∷◌, ◌++◌, refl, subst, arith}
use Rattle.std.proofs.Math.Nat.{zero-lt-suc}
use Rattle.board_words.specs.Rules.{IsWhole}
use Rattle.board_words.specs.Steps.{IsBestFor, best_known}
use Rattle.pass_ledger.specs.Worked.{word_11, word_3}
use Rattle.pass_ledger.specs.declared.records.PrunedAt.{PrunedAt}
use Rattle.pass_ledger.proofs.Worked.{has_one, none_is, some_is}
use Rattle.shard_mail.specs.Ends.{PosterFacts, IsSettled}
use Rattle.shard_mail.specs.Mails.{letters_of}
use Rattle.shard_seats.specs.Seats.{HasSeen}
use Rattle.end_guards.specs.Boards.{seat, pruned_by, poster, sender, LawWorkedBoard, LawWorkedSeats, LawWorkedMail}

one_part : (seen best : ℕ) → IsWhole (seat seen) → best ≡ best_known (seat seen)
one_part seen best whole = absurd (omega (arith, whole))

best_for : (seen best : ℕ) → best ≤ seen → best ≤ 18446744073709551615 → IsBestFor (seat seen) best
best_for seen best le small = record { opening = small; seen = le; offered = small; exact = one_part seen best }

pub worked_board : LawWorkedBoard
worked_board =
    record {
      in_time = refl;
      at_limit = refl;
      above_limit = refl;
      seen_again = best_for word_11 word_11 (omega arith) (omega arith);
      lower = best_for word_11 word_3 (omega arith) (omega arith);
      higher = λ h. rises h.seen;
    }
  where
    rises : word_11 ≤ word_3 → ⊥
    rises le = absurd (omega (arith, le))

has_seen : (seen best : ℕ) → seen ≤ best → HasSeen (seat seen) (pruned_by best ∷ [])
has_seen seen best le q h = subst (λ (x : PrunedAt). seen ≤ x.best) (has_one (pruned_by best) q h) le

pub worked_seats : LawWorkedSeats
worked_seats =
    record {
      met = (refl, refl, zero-lt-suc 0);
      none_met = λ h. never h.2;
      own_halt = λ h. one_zero h.0;
      pruned_by_seen = has_seen word_3 word_3 (omega arith);
      pruned_before = has_seen word_3 word_11 (omega arith);
      pruned_below = λ h. rises (h (pruned_by word_3) (0, refl));
    }
  where
    never : 0 < 0 → ⊥
    never h = absurd (omega (arith, h))

    one_zero : ◌≡◌ {A = ℕ} 1 0 → ⊥
    one_zero e = absurd (omega (arith, e))

    rises : word_11 ≤ word_3 → ⊥
    rises le = absurd (omega (arith, le))

abbrev Given : PosterFacts ℕ → Type 0
Given p = letters_of sender p.number (1 ∷ []) ++ letters_of sender p.number (2 ∷ []) ≡ p.posted

one_left : IsSettled sender (poster ∷ []) (1 ∷ []) (2 ∷ [])
one_left zero p e = subst Given (some_is poster p e) refl
one_left (suc i) p e = absurd (none_is p e)

pub worked_mail : LawWorkedMail
worked_mail =
    record {
      one_left = one_left;
      other_order = λ h. turned (h 0 poster refl);
      one_lost = λ h. shorter (h 0 poster refl);
      one_twice = λ h. longer (h 0 poster refl);
    }
  where
    turned : ◌≡◌ {A = List ℕ} (2 ∷ 1 ∷ []) (1 ∷ 2 ∷ []) → ⊥
    turned e = cc

    shorter : ◌≡◌ {A = List ℕ} (1 ∷ []) (1 ∷ 2 ∷ []) → ⊥
    shorter e = cc

    longer : ◌≡◌ {A = List ℕ} (1 ∷ 2 ∷ 2 ∷ []) (1 ∷ 2 ∷ []) → ⊥
    longer e = cc
