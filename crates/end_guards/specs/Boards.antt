-- Seats of a board, shards that end, and letters that are left.
use Rattle.std.specs.Prelude.{◌≡◌, ℕ, [], ◌∷◌}
use Rattle.board_words.specs.Rules.{new_view}
use Rattle.board_words.specs.Steps.{IsBestFor, after_draw}
use Rattle.board_words.specs.declared.seat.View.{View}
use Rattle.pass_ledger.specs.Worked.{alone, n0, second_pass, word_11, word_3, no_word}
use Rattle.pass_ledger.specs.declared.records.PrunedAt.{PrunedAt}
use Rattle.shard_mail.specs.Ends.{PosterFacts, IsSettled}
use Rattle.shard_seats.specs.Seats.{HasEnded, HasSeen}
use Rattle.shard_seats.specs.declared.ended.Ended.TheVariants as ends

-- a new seat with one part of a board, with a limit of 4 visits, that has seen this word
abbrev pub seat : (seen : ℕ) → View
seat seen = new_view 1 no_word 4 seen

pub record LawWorkedBoard : Type 0 where
  -- the numbers 0 to 3 are drawn in time
  pub in_time : (after_draw (seat no_word) 3).late ≡ 0
  pub at_limit : (after_draw (seat no_word) 4).late ≡ 1
  pub above_limit : (after_draw (seat no_word) 5).late ≡ 1
  -- the best word never rises
  pub seen_again : IsBestFor (seat word_11) word_11
  pub lower : IsBestFor (seat word_11) word_3
  pub higher : IsBestFor (seat word_3) word_11 → ⊥

-- a node that was pruned by this word
abbrev pub pruned_by : ℕ → PrunedAt
pruned_by best = record { node = n0; best = best }

pub record LawWorkedSeats : Type 0 where
  pub met : HasEnded (alone 2) 0 (record (seat no_word) { met = 1 }) second_pass ends.Met
  pub none_met : HasEnded (alone 2) 0 (seat no_word) second_pass ends.Met → ⊥
  pub own_halt : HasEnded (alone 2) 0 (record (seat no_word) { raised = 1; met = 1 }) second_pass ends.Met → ⊥
  pub pruned_by_seen : HasSeen (seat word_3) (pruned_by word_3 ∷ [])
  pub pruned_before : HasSeen (seat word_3) (pruned_by word_11 ∷ [])
  pub pruned_below : HasSeen (seat word_11) (pruned_by word_3 ∷ []) → ⊥

-- a poster that has posted 1 and 2
abbrev pub poster : PosterFacts ℕ
poster = record { mailbox = record { id = (0, 0); senders = 1 }; terms = []; number = 0; posted = 1 ∷ 2 ∷ [] }

-- who sent it: there is one sender
abbrev pub sender : ℕ → ℕ
sender x = 0

pub record LawWorkedMail : Type 0 where
  pub one_left : IsSettled sender (poster ∷ []) (1 ∷ []) (2 ∷ [])
  pub other_order : IsSettled sender (poster ∷ []) (2 ∷ []) (1 ∷ []) → ⊥
  pub one_lost : IsSettled sender (poster ∷ []) (1 ∷ []) [] → ⊥
  pub one_twice : IsSettled sender (poster ∷ []) (1 ∷ 2 ∷ []) (2 ∷ []) → ⊥
