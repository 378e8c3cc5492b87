-- Lists of letters that are counted from a first number on.
use Rattle.std.specs.Prelude.{◌≡◌, ℕ, ◌+◌, List, length, slice_get, Some}
use Rattle.std.specs.Coded.{coded_ℕ}
use Rattle.shard_mail.specs.Ends.{MailboxFacts, PosterFacts, IsPosterOf}
use Rattle.shard_mail.specs.Names.{name_of}
use Rattle.threads_tested.specs.declared.letters.Letter.{Letter}

-- the letters have the numbers from the first one on
abbrev pub IsCounted : ℕ → List Letter → Type 0
IsCounted first letters = (k : ℕ) (x : Letter) → slice_get letters k ≡ Some x → x.number ≡ first + k

-- the poster is of this mailbox, has this number, and has posted so many letters, counted from the mailbox's first number on
pub record HasPosted (mailbox : MailboxFacts) (first from count : ℕ) (poster : PosterFacts Letter) : Type 0 where
  pub of : IsPosterOf mailbox poster
  pub terms : poster.terms ≡ name_of coded_ℕ first
  pub number : poster.number ≡ from
  pub count_is : length poster.posted ≡ count
  pub counted : IsCounted first poster.posted
