-- What holds of a mailbox between any two steps: how the queue stands to what its ends know.
use Rattle.std.specs.Prelude.{◌≡◌, ℕ, ◌<◌, ◌≤◌, List, [], ◌++◌, filter, nat_eq, slice_get, Option, Some, None}
use Rattle.std.specs.Coded.{Coded}
use mathlib.Core.List.{IsPrefix}
use mathlib.Core.Option.{some}
use lib.ListN.{get_elem?}
use Rattle.shard_mail.specs.Names.{name_of}
use Rattle.shard_mail.specs.declared.view.View.{View}
use Rattle.shard_mail.specs.declared.view.Role.{Role}
use Rattle.shard_mail.specs.declared.view.Role.TheVariants.{Spent, Posts, Takes}

-- a view that has no right, and no list
abbrev pub spent_view : {T : Type 0} → View T
spent_view = record { role = Spent; number = 0; senders = 0; terms = []; posted = []; taken = []; made = 0; ended = [] }

-- the view of a poster that has posted nothing
abbrev pub poster_view : {T : Type 0} → ℕ → ℕ → List ℕ → View T
poster_view number senders terms = record { role = Posts; number = number; senders = senders; terms = terms; posted = []; taken = []; made = 0; ended = [] }

-- the view of a taker that has made no poster and taken nothing
abbrev pub taker_view : {T : Type 0} → ℕ → List ℕ → View T
taker_view senders terms = record { role = Takes; number = 0; senders = senders; terms = terms; posted = []; taken = []; made = 0; ended = [] }

-- the letters of one sender, in order
abbrev pub letters_of : {T : Type 0} → (T → ℕ) → ℕ → List T → List T
letters_of sender number letters = filter (λ x. nat_eq (sender x) number) letters

-- the list is lawful under the terms of that name
abbrev pub LawfulUnder : {T M : Type 0} → Coded M → (M → List T → Type 0) → List ℕ → List T → Type 0
LawfulUnder {M = M} coded lawful name letters = (terms : M) → name_of coded terms ≡ name → lawful terms letters

-- What those posters had posted that ended: the number of each, and its list
abbrev pub Ended : Type 0 → Type 0
Ended T = List (ℕ × List T)

module _ {T : Type 0} (sender : T → ℕ) where
  -- of each sender that ended, what was taken and these letters are what it had posted
  abbrev pub IsRest : List T → Ended T → List T → Type 0
  IsRest taken ended items = (k : ℕ) (e : ℕ × List T) → slice_get ended k ≡ Some e → letters_of sender e.0 (taken ++ items) ≡ e.1

  -- of each sender that ended, what was taken begins what it had posted
  abbrev pub IsBegun : List T → Ended T → Type 0
  IsBegun taken ended = (k : ℕ) (e : ℕ × List T) → slice_get ended k ≡ Some e → IsPrefix (letters_of sender e.0 taken) e.1

-- Whose pass takes, whose pass posts under each number, what was posted under each number, the mailbox's number of senders and its terms, and what was taken
pub record Account (T : Type 0) : Type 0 where
  pub reader : ℕ
  pub writer : ℕ → Option ℕ
  pub sent : ℕ → List T
  pub senders : ℕ
  pub terms : List ℕ
  pub taken : List T

module _ {T : Type 0} (a : Account T) (pass : ℕ) where
  -- a poster is the only one with its number, and knows what was posted under it
  pub record FitsPoster (v : View T) : Type 0 where
    pub alone : a.writer v.number ≡ Some pass
    pub below : v.number < a.senders
    pub posted : v.posted ≡ a.sent v.number
    pub senders_are : v.senders ≡ a.senders
    pub terms_are : v.terms ≡ a.terms

  -- the one taker knows what was taken, that posters which were not made have posted nothing, and what those that ended had posted
  pub record FitsTaker (v : View T) : Type 0 where
    pub alone : pass ≡ a.reader
    pub taken : v.taken ≡ a.taken
    pub senders_are : v.senders ≡ a.senders
    pub terms_are : v.terms ≡ a.terms
    pub few : v.made ≤ v.senders
    pub unmade : (p : ℕ) → v.made ≤ p → (a.writer p ≡ None) × (a.sent p ≡ [])
    pub ended : (k : ℕ) (e : ℕ × List T) → slice_get v.ended k ≡ Some e → (e.0 < v.made) × (a.writer e.0 ≡ None) × (e.1 ≡ a.sent e.0)

  -- how a view stands to the account, by its role
  abbrev pub Fits : Role → View T → Type 0
  Fits Spent v = v ≡ spent_view
  Fits Posts v = FitsPoster v
  Fits Takes v = FitsTaker v

module _ {T M : Type 0} (coded : Coded M) (lawful : M → List T → Type 0) (sender : T → ℕ) where
  -- For each sender, what was taken and what the queue holds is what it posted, in order, whole and once, and lawful
  pub record Mail (items : List T) (views : List (View T)) : Type 0 where
    pub account : Account T
    pub delivered : (p : ℕ) → letters_of sender p (account.taken ++ items) ≡ account.sent p
    pub allowed : (p : ℕ) → LawfulUnder coded lawful account.terms (account.sent p)
    pub each : (pass : ℕ) (v : View T) → get_elem? views pass ≡ some v → Fits account pass v.role v
    pub taker_there : (v : View T) × (get_elem? views account.reader ≡ some v) × (v.role ≡ Takes)
