-- What is known of each poster when a mailbox is settled, and of the taker's view while it is drained.
use Rattle.std.proofs.Common.{◌≡◌, ℕ, zero, suc, ◌<◌, List, [], ◌∷◌, ◌++◌, length, slice_get, Some, Result, Ok, Err, IfErr, refl, sym, ap, ◌∙◌, subst, ⊎_elim, append_assoc, arith}
use Rattle.std.proofs.lemmas.Option.{none-some}
use Rattle.shard_mail.specs.declared.view.View.{View}
use Rattle.shard_mail.specs.Mails.{letters_of, Ended, IsRest, IsBegun}
use Rattle.shard_mail.specs.Steps.{after_take}
use Rattle.shard_mail.specs.Ends.{MailboxFacts, PosterFacts, lists_of, IsSettled, IsBegunOf, IsPosterOf, AreNewPosters, ArePostersOf}
use Rattle.std.proofs.lemmas.Option.{slice_get_within}
use Rattle.shard_mail.proofs.Letters.{last_or, of_append, begun_before}

-- the list of a poster stands at its place behind those that had ended before
list_there : {T : Type 0} (posters : List (PosterFacts T)) (i : ℕ) (p : PosterFacts T) → slice_get posters i ≡ Some p → slice_get (lists_of posters) i ≡ Some (p.number, p.posted)
list_there [] i p e = absurd (none-some p e)
list_there (q ∷ qs) zero p e = ap (λ k. Some (k.number, k.posted)) (some_one q p e)
  where
    some_one : {A : Type 0} (a b : A) → Some a ≡ Some b → a ≡ b
    some_one a b e = cc
list_there (q ∷ qs) (suc i) p e = list_there qs i p e

list_behind : {T : Type 0} (old : Ended T) (posters : List (PosterFacts T)) (i : ℕ) (p : PosterFacts T) → slice_get posters i ≡ Some p → (k : ℕ) × (slice_get (old ++ lists_of posters) k ≡ Some (p.number, p.posted))
list_behind [] posters i p e = (i, list_there posters i p e)
list_behind (x ∷ xs) posters i p e = let r = list_behind xs posters i p e in (suc r.0, r.1)

module _ {T : Type 0} (sender : T → ℕ) (posters : List (PosterFacts T)) (taken before : List T) (old ended : Ended T) (same : before ≡ taken) (all : ended ≡ old ++ lists_of posters) where
  ended_at : (i : ℕ) (p : PosterFacts T) → slice_get posters i ≡ Some p → (k : ℕ) × (slice_get ended k ≡ Some (p.number, p.posted))
  ended_at i p at = let r = list_behind old posters i p at in (r.0, ap (λ es. slice_get es r.0) all ∙ r.1)

  pub begun : IsBegun sender before ended → IsBegunOf sender posters taken
  begun h i p at = let r = ended_at i p at in subst (λ xs. IsBegun sender xs ended) same h r.0 (p.number, p.posted) r.1

  pub settled : (items left : List T) → left ≡ items → IsRest sender before ended items → IsSettled sender posters taken left
  settled items left is h i p at =
      let r = ended_at i p at in
      ap (λ xs. letters_of sender p.number taken ++ letters_of sender p.number xs) is
      ∙ (sym (of_append sender p.number taken items) ∙ (ap (λ xs. letters_of sender p.number (xs ++ items)) (sym same) ∙ h r.0 (p.number, p.posted) r.1))

-- where a list goes on with x, x stands in it at that place
pub next_there : {A : Type 0} (before rest all after : List A) (x : A) → before ++ rest ≡ all → rest ≡ x ∷ after → slice_get all (length before) ≡ Some x
next_there before rest all after x whole next = ap (λ xs. slice_get xs (length before)) (sym whole ∙ ap (λ xs. before ++ xs) next) ∙ seam before after x
  where
    seam : {A : Type 0} (xs ys : List A) (x : A) → slice_get (xs ++ x ∷ ys) (length xs) ≡ Some x
    seam [] ys x = refl
    seam (y ∷ xs) ys x = seam xs ys x

-- an error tells what holds anyway
pub at_error : {A E : Type 0} (P : Type 0) (r : Result A E) → P → IfErr r (λ _. P)
at_error P (Ok x) h = tt
at_error P (Err e) h = h

-- one more letter was taken
pub taken_more : {T : Type 0} (old now then : View T) (left more : List T) (x : T) → now ≡ record old { taken = old.taken ++ left } → then ≡ after_take now x → more ≡ left ++ x ∷ []
    → then ≡ record old { taken = old.taken ++ more }
taken_more old now then left more x was is pushed =
    is ∙ (ap (λ v. after_take v x) was ∙ ap (λ xs. record old { taken = xs }) (append_assoc old.taken left (x ∷ []) ∙ ap (λ xs. old.taken ++ xs) (sym pushed)))

pub known_more : {T : Type 0} (sender : T → ℕ) (n : ℕ) (left more : List T) (x : T) → more ≡ left ++ x ∷ [] → sender x < n
    → ((k : ℕ) (y : T) → slice_get left k ≡ Some y → sender y < n) → (k : ℕ) (y : T) → slice_get more k ≡ Some y → sender y < n
known_more sender n left more x pushed low each k y at = ⊎_elim (each k y) (λ last. subst (λ z. sender z < n) last.1 low) (last_or left x y k (ap (λ xs. slice_get xs k) (sym pushed) ∙ at))

-- what was taken when a mailbox began to be drained begins what was posted
pub begun_start : {T : Type 0} (sender : T → ℕ) (old now : View T) (left : List T) (x : T) → now ≡ record old { taken = old.taken ++ left } → IsBegun sender (now.taken ++ x ∷ []) now.ended
    → IsBegun sender old.taken old.ended
begun_start sender old now left x was h =
    begun_before sender old.taken old.ended (left ++ x ∷ []) (subst (λ xs. IsBegun sender xs old.ended) (append_assoc old.taken left (x ∷ [])) (subst (λ (v : View _). IsBegun sender (v.taken ++ x ∷ []) v.ended) was h))

-- the posters that a mailbox is made with are its own
pub new_are_of : {T : Type 0} (mailbox : MailboxFacts) (terms : List ℕ) (posters : List (PosterFacts T)) → AreNewPosters mailbox terms posters → ArePostersOf mailbox posters
new_are_of mailbox terms posters h i p at =
    let within = slice_get_within posters i p at in
    subst (IsPosterOf mailbox) (sym (h.each i p at)) (refl, omega (arith, within, h.all))
