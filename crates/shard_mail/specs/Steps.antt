-- How each step changes its end's view, and what it tells.
use Rattle.std.specs.Prelude.{◌≡◌, ℕ, ◌+◌, ◌<◌, List, [], ◌∷◌, ◌++◌}
use Rattle.std.specs.Coded.{Coded}
use Rattle.shard_mail.specs.Mails.{poster_view, letters_of, LawfulUnder, Ended, IsRest, IsBegun}
use Rattle.shard_mail.specs.declared.view.View.{View}

-- the next poster was made
abbrev pub after_make : {T : Type 0} → View T → View T
after_make v = record v { made = v.made + 1 }

-- the view of the poster that a taker makes next
abbrev pub made_view : {T : Type 0} → View T → View T
made_view v = poster_view v.made v.senders v.terms

-- a letter was posted
abbrev pub after_post : {T : Type 0} → View T → T → View T
after_post v x = record v { posted = v.posted ++ x ∷ [] }

abbrev pub Posts : {T : Type 0} → View T → T → View T → Type 0
Posts v x w = w ≡ after_post v x

-- a letter was taken
abbrev pub after_take : {T : Type 0} → View T → T → View T
after_take v x = record v { taken = v.taken ++ x ∷ [] }

-- a poster ended, and its list is kept
abbrev pub after_end : {T : Type 0} → View T → View T → View T
after_end v w = record v { ended = v.ended ++ (w.number, w.posted) ∷ [] }

-- what an end that finds no letter learns
abbrev pub Waits : {T : Type 0} → (T → ℕ) → View T → List T → Type 0
Waits sender v items = IsRest sender v.taken v.ended items

module _ {T M : Type 0} (coded : Coded M) (lawful : M → List T → Type 0) (sender : T → ℕ) where
  -- A letter that is taken is of one of the senders. What was taken of that sender, this letter last, is lawful, and what was taken of each sender that ended begins what it had posted
  pub record IsNext (senders : ℕ) (terms : List ℕ) (taken : List T) (ended : Ended T) (x : T) : Type 0 where
    pub known : sender x < senders
    pub allowed : LawfulUnder coded lawful terms (letters_of sender (sender x) (taken ++ x ∷ []))
    pub begun : IsBegun sender (taken ++ x ∷ []) ended

  abbrev pub Takes : View T → T → View T → Type 0
  Takes v x w = (w ≡ after_take v x) × IsNext v.senders v.terms v.taken v.ended x
