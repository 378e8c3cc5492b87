-- Shards that the calling thread turns alone: turns of those that could go on, and how they are looked through.
use Rattle.std.proofs.Common.{◌≡◌, ℕ, ◌+◌, ◌<◌, ◌≤◌, inl, inr, List, length, slice_get, get_or, Option, Some, None, refl, subst, sym, ◌∙◌, arith}
use Rattle.std.proofs.lemmas.Bool.{cases_eq, cases_lt}
use Rattle.std.proofs.lemmas.Option.{slice_get_read, slice_get_within}
use Rattle.best_first.specs.Alone.{CanGoOn}
use Rattle.best_turns.specs.Turners.{Acts, KeepsAs}
use Rattle.best_seats.specs.declared.ended.BestEnded.{BestEnded}
use Rattle.best_seats.specs.declared.ended.BestEnded.TheVariants as ends
use Rattle.best_turns.specs.declared.turner.BestTurner.{BestTurner}
use Rattle.board_words.specs.Seats.{BoardFacts, SeatFacts}
use Rattle.pass_ledger.specs.Passes.{Pass}
use Rattle.shard_mail.specs.Ends.{MailboxFacts}

-- ---- a shard that was idle goes on

module _ {A B : Type 0} (p : Pass) (board : BoardFacts) (boxes : List MailboxFacts) (t : BestTurner A B) (seat : SeatFacts) where
  acts_again : Acts p board boxes t seat → Acts p board boxes (record t { ended = None }) seat
  acts_again a =
      record { shard_record = a.shard_record; shared = a.shared; stands = a.stands; on_board = a.on_board; sits = a.sits; taker = a.taker; posters = a.posters; mail = a.mail }

  goes_as : (o : Option BestEnded) → CanGoOn o → KeepsAs p board boxes o t seat → Acts p board boxes (record t { ended = None }) seat
  goes_as None on a = acts_again a
  goes_as (Some ends.Idle) on a = acts_again a
  goes_as (Some ends.Met) on left = absurd on
  goes_as (Some (ends.Halted cause)) on left = absurd on

  pub goes_again : CanGoOn t.ended → KeepsAs p board boxes t.ended t seat → Acts p board boxes (record t { ended = None }) seat
  goes_again on keeps = goes_as t.ended on keeps

-- ---- elements of a list, one after another

-- the element that was read at a place
pub read_at : {X : Type 0} (xs : List X) (n : ℕ) (x : X) → n < length xs → x ≡ get_or xs n x → slice_get xs n ≡ Some x
read_at xs n x inside read = slice_get_read xs (length xs) n x refl inside read

-- it holds of the first so many
abbrev pub EachBelow : {X : Type 0} → (X → Type 0) → ℕ → List X → Type 0
EachBelow {X} P n xs = (i : ℕ) (x : X) → i < n → slice_get xs i ≡ Some x → P x

pub below_next : {X : Type 0} (P : X → Type 0) (n : ℕ) (xs : List X) (x : X) → EachBelow P n xs → n < length xs → x ≡ get_or xs n x → P x → EachBelow P (n + 1) xs
below_next {X} P n xs x below inside read new i y lt at =
    elim (cases_eq i n) [
      | inl e ↦ (
          let here : slice_get xs n ≡ Some y = subst (λ (k : ℕ). slice_get xs k ≡ Some y) e at in
          let there = read_at xs n x inside read in
          let same : x ≡ y = (let both : Some x ≡ Some y = sym there ∙ here in cc) in
          subst P same new)
      | inr ne ↦ (let less : i < n = elim (cases_lt i n) [ inl l ↦ l | inr ge ↦ absurd (ne (omega (arith, ge, lt))) ] in below i y less at)
    ]

pub below_all : {X : Type 0} (P : X → Type 0) (n : ℕ) (xs : List X) → length xs ≤ n → EachBelow P n xs → (i : ℕ) (x : X) → slice_get xs i ≡ Some x → P x
below_all P n xs long below i x at = below i x (let lt = slice_get_within xs i x at in omega (arith, lt, long)) at
