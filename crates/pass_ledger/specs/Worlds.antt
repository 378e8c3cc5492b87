-- The shards of a pass together: their records, their mailboxes and the shared words, and what may happen next.
use Rattle.std.specs.Prelude.{◌≡◌, ℕ, ◌+◌, ◌≤◌, ◌<◌, Bool, true, false, List, [], ◌∷◌, map, length, slice_set, get_or, replicate, Option, Some, None, min, max, nat_lt, nat_eq, if◌then◌else◌, ◌⊎◌, pos}
use Rattle.std.specs.List.{range_with_len}
use Rattle.dp_claims.specs.Enough.{Has}
use Rattle.pass_ledger.specs.Letters.{of}
use Rattle.pass_ledger.specs.Passes.{Pass, word_of, StartsInner, IsStart, Prunes}
use Rattle.pass_ledger.specs.Records.{record_of, Together, IsMet}
use Rattle.pass_ledger.specs.Events.{fresh, append_at, take, close, CanClose, prune, visit, CanVisit, post, CanPost}
use Rattle.pass_ledger.specs.Ledgers.{Ledger, Closed, AllDone, PrunesAbove}
use Rattle.state_layout.specs.declared.node.Node.{Node}
use Rattle.pass_ledger.specs.declared.mail.Letter.{Letter}
use Rattle.pass_ledger.specs.declared.records.PrunedAt.{PrunedAt}
use Rattle.pass_ledger.specs.declared.records.LedgerRow.{LedgerRow}
use Rattle.pass_ledger.specs.declared.records.Unsent.{Unsent}
use Rattle.pass_ledger.specs.declared.records.Held.{Held}
use Rattle.pass_ledger.specs.declared.records.FaultHere.{FaultHere}
use Rattle.pass_ledger.specs.declared.records.ShardRecord.{ShardRecord}

-- where a shard is in its turn: it looked at the best word, which does not prune its first waiting node, or it then drew
-- this number
pub data Turn : Type 0 where
  Idle : Turn
  Looked : Turn
  Drew : (number : ℕ) → Turn

-- what a shard did with the shared words: the best word that it looked at last, its turn, the word that it offered last, and
-- how many of its draws gave a number not below the budget
pub record Seat : Type 0 where
  pub looked : ℕ
  pub turn : Turn
  pub offered : Option ℕ
  pub late : ℕ

-- A world: the records and the seats of the shards, the letters in the mailbox of each, the budget, the least word that was
-- offered, how many numbers were drawn, and why the pass was halted (0 where it was not).
pub record World : Type 0 where
  pub records : List ShardRecord
  pub seats : List Seat
  pub mail : List (List Letter)
  pub budget : ℕ
  pub best : ℕ
  pub drawn : ℕ
  pub cause : ℕ

-- An event of shard i. A take names the letter and the mail behind it; a look the first waiting node, those behind it, and
-- whether the node is pruned; a visit also the letters that it made, what it pruned, and what is held and met afterwards; a
-- post the letter, its receiver, and what is still to be posted.
pub data Event : Type 0 where
  Take : (i : ℕ) (x : Letter) (rest : List Letter) → Event
  Close : (i : ℕ) (new : LedgerRow) → Event
  Look : (i : ℕ) (n : Node) (rest : List Node) (pruned : Bool) → Event
  Draw : (i : ℕ) → Event
  Visit : (i l : ℕ) (n : Node) (rest : List Node) (made : List Unsent) (prunes : List PrunedAt) (held : Option Held) (fault : Option FaultHere) → Event
  Offer : (i word : ℕ) → Event
  Post : (i to : ℕ) (x : Letter) (rest : List Unsent) → Event
  Halt : (i cause : ℕ) → Event
  Seen : (i : ℕ) → Event

abbrev pub seat : World → ℕ → Seat
seat w i = get_or w.seats i (record { looked = 0; turn = Turn.Idle; offered = None; late = 0 })

abbrev pub with_record : World → ℕ → ShardRecord → World
with_record w i r = record w { records = slice_set w.records i r }

abbrev pub with_seat : World → ℕ → Seat → World
with_seat w i s = record w { seats = slice_set w.seats i s }

abbrev pub happens : World → Event → World
happens w (Event.Take i x rest) = record w { records = slice_set w.records i (take (record_of w.records i) x); mail = slice_set w.mail i rest }
happens w (Event.Close i new) = with_record w i (close (record_of w.records i) new)
happens w (Event.Look i n rest true) =
    record w { records = slice_set w.records i (prune (record_of w.records i) n rest w.best); seats = slice_set w.seats i (record (seat w i) { looked = w.best; turn = Turn.Idle }) }
happens w (Event.Look i n rest false) = with_seat w i (record (seat w i) { looked = w.best; turn = Turn.Looked })
happens w (Event.Draw i) =
    record w { drawn = w.drawn + 1; seats = slice_set w.seats i (record (seat w i) { turn = Turn.Drew w.drawn; late = (seat w i).late + (if nat_lt w.drawn w.budget then 0 else 1) }) }
happens w (Event.Visit i l n rest made prunes held fault) =
    record w { records = slice_set w.records i (visit (record_of w.records i) l n rest made prunes held fault); seats = slice_set w.seats i (record (seat w i) { turn = Turn.Idle }) }
happens w (Event.Offer i word) = record w { best = min w.best word; seats = slice_set w.seats i (record (seat w i) { offered = Some word }) }
happens w (Event.Post i to x rest) = record w { records = slice_set w.records i (post (record_of w.records i) to x rest); mail = append_at w.mail to x }
happens w (Event.Halt i cause) = record w { cause = max w.cause cause }
happens w (Event.Seen i) = w

-- what a shard offered last is the word of what it holds
abbrev pub IsOffered : Pass → Option ℕ → Option Held → Type 0
IsOffered p None None = Unit {0}
IsOffered p None (Some held) = ⊥
IsOffered p (Some word) None = ⊥
IsOffered p (Some word) (Some held) = pos word ≡ word_of p held.cost

-- where a visit betters what its shard holds, the shard offers that word before it does anything else
abbrev pub IsFree : Pass → World → ℕ → Type 0
IsFree p w i = IsOffered p (seat w i).offered (record_of w.records i).held

-- why a shard halts: 1 where one of its draws gave a number not below the budget, 3 after a fault, and 2 where memory ran
-- out, which may be at any time
abbrev pub Raises : World → ℕ → ℕ → Type 0
Raises w i cause = ((cause ≡ 1) × (0 < (seat w i).late)) ⊎ ((cause ≡ 2) ⊎ ((cause ≡ 3) × (f : FaultHere) × ((record_of w.records i).fault ≡ Some f)))

-- the best word prunes the node, or it does not
abbrev pub IsLook : Pass → ℕ → Node → Bool → Type 0
IsLook p best n true = Prunes p best n
IsLook p best n false = Prunes p best n → ⊥

-- When an event may happen.
abbrev pub Allowed : Pass → World → Event → Type 0
Allowed p w (Event.Take i x rest) = (i < p.shards) × IsFree p w i × (of w.mail i ≡ x ∷ rest)
Allowed p w (Event.Close i new) = (i < p.shards) × IsFree p w i × CanClose p (record_of w.records i) new
Allowed p w (Event.Look i n rest pruned) = (i < p.shards) × IsFree p w i × ((record_of w.records i).fault ≡ None) × ((record_of w.records i).waiting ≡ n ∷ rest) × IsLook p w.best n pruned
Allowed p w (Event.Draw i) = (i < p.shards) × IsFree p w i × ((seat w i).turn ≡ Turn.Looked)
Allowed p w (Event.Visit i l n rest made prunes held fault) =
    (i < p.shards) × IsFree p w i × ((number : ℕ) × ((seat w i).turn ≡ Turn.Drew number) × (number < w.budget))
    × CanVisit p i (record_of w.records i) l n rest made prunes held fault × ((q : PrunedAt) → Has prunes q → q.best ≡ (seat w i).looked)
Allowed p w (Event.Offer i word) = (i < p.shards) × ((h : Held) × ((record_of w.records i).held ≡ Some h) × (pos word ≡ word_of p h.cost))
Allowed p w (Event.Post i to x rest) = (i < p.shards) × IsFree p w i × CanPost p i (record_of w.records i) to x rest
Allowed p w (Event.Halt i cause) = (i < p.shards) × Raises w i cause
Allowed p w (Event.Seen i) = i < p.shards

-- A run is any list of events, each allowed where it stands. Nothing says whose turn it is.
abbrev pub Runs : Pass → World → List Event → Type 0
Runs p w [] = Unit {0}
Runs p w (e ∷ events) = Allowed p w e × Runs p (happens w e) events

abbrev pub after : World → List Event → World
after w [] = w
after w (e ∷ events) = after (happens w e) events

-- ---- the beginning of a pass

abbrev pub start_of : Pass → Node → ℕ → Option Node
start_of p start i = if nat_eq (p.owner p.model.target) i then Some start else None

-- no letter was taken and no node visited; only the target's owner has a node, the target's
abbrev pub opened : Pass → (start : Node) → (budget opening drawn : ℕ) → World
opened p start budget opening drawn =
    record {
      records = map (λ i. fresh p.shards (start_of p start i)) (range_with_len 0 p.shards);
      seats = replicate p.shards (record { looked = opening; turn = Turn.Idle; offered = None; late = 0 });
      mail = replicate p.shards [];
      budget = budget;
      best = opening;
      drawn = drawn;
      cause = 0;
    }

-- ---- what holds after every run

-- the least of a word and the words that are offered, and how many draws there are
abbrev pub offers : Event → ℕ → ℕ
offers (Event.Offer i word) best = min best word
offers (Event.Take i x rest) best = best
offers (Event.Close i new) best = best
offers (Event.Look i n rest pruned) best = best
offers (Event.Draw i) best = best
offers (Event.Visit i l n rest made prunes held fault) best = best
offers (Event.Post i to x rest) best = best
offers (Event.Halt i cause) best = best
offers (Event.Seen i) best = best

abbrev pub least_offer : ℕ → List Event → ℕ
least_offer best [] = best
least_offer best (e ∷ events) = least_offer (offers e best) events

abbrev pub is_draw : Event → ℕ
is_draw (Event.Draw i) = 1
is_draw (Event.Offer i word) = 0
is_draw (Event.Take i x rest) = 0
is_draw (Event.Close i new) = 0
is_draw (Event.Look i n rest pruned) = 0
is_draw (Event.Visit i l n rest made prunes held fault) = 0
is_draw (Event.Post i to x rest) = 0
is_draw (Event.Halt i cause) = 0
is_draw (Event.Seen i) = 0

abbrev pub draws : List Event → ℕ
draws [] = 0
draws (e ∷ events) = is_draw e + draws events

-- Some shard raised the cause: 1 after a draw of a number not below the budget, 2 where memory ran out, 3 where its node's
-- list meets the fault.
abbrev pub IsRaised : Pass → World → Type 0
IsRaised p w =
    (i : ℕ) × (i < p.shards)
    × (((w.cause ≡ 1) × (0 < (seat w i).late) × (w.budget < w.drawn)) ⊎ ((w.cause ≡ 2) ⊎ ((w.cause ≡ 3) × (f : FaultHere) × ((record_of w.records i).fault ≡ Some f) × IsMet p w.records f)))

-- What holds after a run: the records are together, so each received list is a prefix of the posted one; no shard looked at a
-- value less than the best word, or pruned by one; the best word is the least of the opening word and the offers; the numbers
-- drawn are those before and one for each draw; a halt was raised by a shard that has the cause; and where all shards are
-- done, the ledger is closed.
pub record Holds (p : Pass) (opening drawn : ℕ) (events : List Event) (w : World) : Type 0 where
  pub sizes : length w.records ≡ p.shards
  pub together : Together p w.records
  pub looks : (i : ℕ) → i < p.shards → w.best ≤ (seat w i).looked
  pub prunes : PrunesAbove p w.records w.best
  pub best_is : w.best ≡ least_offer opening events
  pub drawn_is : w.drawn ≡ drawn + draws events
  pub cause_is : (w.cause ≡ 0) ⊎ IsRaised p w
  pub closed : AllDone p w.records → Ledger p w.records × Closed p w.records opening w.best

abbrev pub LawRuns : Type 0
LawRuns =
    (p : Pass) (start : Node) (budget opening drawn : ℕ) (events : List Event) → StartsInner p → IsStart p start
    → Runs p (opened p start budget opening drawn) events → Holds p opening drawn events (after (opened p start budget opening drawn) events)
