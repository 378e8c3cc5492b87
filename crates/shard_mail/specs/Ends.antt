-- What contracts see of a mailbox, its posters and its taker, and which of them belong together.
use Rattle.std.specs.Prelude.{◌≡◌, ℕ, ◌<◌, List, [], ◌∷◌, ◌++◌, length, map, slice_get, Some}
use Rattle.std.specs.Coded.{Coded}
use mathlib.Core.List.{IsPrefix}
use Rattle.shard_mail.specs.Mails.{letters_of, Ended, IsRest}
use Rattle.shard_mail.specs.Steps.{IsNext}
use Rattle.shard_mail.specs.declared.view.View.{View}

-- the number by which a queue is told from all others
abbrev pub QueueId : Type 0
QueueId = ℕ × ℕ

-- which mailbox it is, and how many senders it has
pub record MailboxFacts : Type 0 where
  pub id : QueueId
  pub senders : ℕ

-- the mailbox that a poster is of, the name of its terms, the poster's number, and what it posted
pub record PosterFacts (T : Type 0) : Type 0 where
  pub mailbox : MailboxFacts
  pub terms : List ℕ
  pub number : ℕ
  pub posted : List T

-- the mailbox that a taker is of, the name of its terms, what it took, and for each poster that ended its number and what it had posted
pub record TakerFacts (T : Type 0) : Type 0 where
  pub mailbox : MailboxFacts
  pub terms : List ℕ
  pub taken : List T
  pub ended : Ended T

abbrev pub mailbox_facts : {T : Type 0} → QueueId → View T → MailboxFacts
mailbox_facts id v = record { id = id; senders = v.senders }

abbrev pub poster_facts : {T : Type 0} → QueueId → View T → PosterFacts T
poster_facts id v = record { mailbox = mailbox_facts id v; terms = v.terms; number = v.number; posted = v.posted }

abbrev pub taker_facts : {T : Type 0} → QueueId → View T → TakerFacts T
taker_facts id v = record { mailbox = mailbox_facts id v; terms = v.terms; taken = v.taken; ended = v.ended }

-- the poster is of this mailbox, and its number is one of the mailbox's senders
abbrev pub IsPosterOf : {T : Type 0} → MailboxFacts → PosterFacts T → Type 0
IsPosterOf mailbox poster = (poster.mailbox ≡ mailbox) × (poster.number < mailbox.senders)

-- the taker is of this mailbox
abbrev pub IsTakerOf : {T : Type 0} → MailboxFacts → TakerFacts T → Type 0
IsTakerOf mailbox taker = taker.mailbox ≡ mailbox

-- a letter was posted
abbrev pub posted_by : {T : Type 0} → PosterFacts T → T → PosterFacts T
posted_by p x = record p { posted = p.posted ++ x ∷ [] }

-- a letter was taken
abbrev pub taken_by : {T : Type 0} → TakerFacts T → T → TakerFacts T
taken_by t x = record t { taken = t.taken ++ x ∷ [] }

-- of each sender that ended, all was taken
abbrev pub HasTakenAll : {T : Type 0} → (T → ℕ) → TakerFacts T → Type 0
HasTakenAll sender t = IsRest sender t.taken t.ended []

-- the letter is the next one of its sender, which is one of the mailbox's, and what was taken of that sender, this letter last, is lawful under the mailbox's terms
abbrev pub IsNextFor : {T M : Type 0} → Coded M → (M → List T → Type 0) → (T → ℕ) → TakerFacts T → T → Type 0
IsNextFor coded lawful sender t x = IsNext coded lawful sender t.mailbox.senders t.terms t.taken t.ended x

-- the number and the list of each poster
abbrev pub lists_of : {T : Type 0} → List (PosterFacts T) → Ended T
lists_of posters = map (λ p. (p.number, p.posted)) posters

-- a poster that has posted nothing
abbrev pub new_poster : {T : Type 0} → MailboxFacts → List ℕ → ℕ → PosterFacts T
new_poster mailbox terms number = record { mailbox = mailbox; terms = terms; number = number; posted = [] }

-- a taker that has taken nothing
abbrev pub new_taker : {T : Type 0} → MailboxFacts → List ℕ → TakerFacts T
new_taker mailbox terms = record { mailbox = mailbox; terms = terms; taken = []; ended = [] }

-- these are the posters with the numbers below the count, in order, and none has posted
pub record AreFirstPosters {T : Type 0} (mailbox : MailboxFacts) (terms : List ℕ) (count : ℕ) (posters : List (PosterFacts T)) : Type 0 where
  pub all : length posters ≡ count
  pub each : (i : ℕ) (p : PosterFacts T) → slice_get posters i ≡ Some p → p ≡ new_poster mailbox terms i

-- these are the posters of all senders of the mailbox
abbrev pub AreNewPosters : {T : Type 0} → MailboxFacts → List ℕ → List (PosterFacts T) → Type 0
AreNewPosters mailbox terms posters = AreFirstPosters mailbox terms mailbox.senders posters

-- each of the posters is of this mailbox
abbrev pub ArePostersOf : {T : Type 0} → MailboxFacts → List (PosterFacts T) → Type 0
ArePostersOf {T} mailbox posters = (i : ℕ) (p : PosterFacts T) → slice_get posters i ≡ Some p → IsPosterOf mailbox p

module _ {T : Type 0} (sender : T → ℕ) where
  -- for each poster, what was taken of its letters and what is left of them is what it posted
  abbrev pub IsSettled : List (PosterFacts T) → List T → List T → Type 0
  IsSettled posters taken left = (i : ℕ) (p : PosterFacts T) → slice_get posters i ≡ Some p → letters_of sender p.number taken ++ letters_of sender p.number left ≡ p.posted

  -- for each poster, what was taken of its letters begins what it posted
  abbrev pub IsBegunOf : List (PosterFacts T) → List T → Type 0
  IsBegunOf posters taken = (i : ℕ) (p : PosterFacts T) → slice_get posters i ≡ Some p → IsPrefix (letters_of sender p.number taken) p.posted
