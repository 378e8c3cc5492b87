-- Letters that a shard takes and posts.
use Rattle.std.proofs.Common.{◌≡◌, ◌≢◌, ℕ, ◌<◌, ◌⊎◌, inl, inr, zero, suc, Bool, true, false, if◌then◌else◌, nat_eq, List, [], ◌∷◌, ◌++◌, length, map, slice_get, slice_set, Some, refl, sym, ap, subst, ◌∙◌}
use Rattle.std.proofs.lemmas.List.{append-nil, length-set, map-append, get_or-set_other}
use Rattle.std.proofs.lemmas.Option.{none-some, same_Some}
use Rattle.dp_claims.specs.Enough.{Has}
use Rattle.dp_model.specs.contracts.whole.Model as models
use Rattle.state_layout.specs.declared.node.Node.{Node}
use Rattle.pass_ledger.specs.Passes.{Pass}
use Rattle.pass_ledger.proofs.Lists.{has_last}
use Rattle.best_ledger.specs.Events.{take_letter, append_at, post}
use Rattle.best_ledger.specs.Histories.{to, AreInOrder, came_from}
use Rattle.best_ledger.specs.Records.{to_post}
use Rattle.best_ledger.specs.declared.letters.BestLetter.{BestLetter}
use Rattle.best_ledger.specs.declared.records.BestRecord.{BestRecord}
use Rattle.best_ledger.specs.declared.records.Moment.TheVariants.{Came}
use Rattle.best_ledger.specs.declared.records.ToPost.{ToPost}
use Rattle.best_seats.proofs.Letters.{came_append, append_same}
use Rattle.best_shard.specs.Calls.{MayCome}
use Rattle.shard_mail.specs.Ends.{MailboxFacts, PosterFacts, TakerFacts, IsPosterOf, IsNextFor, posted_by}
use Rattle.shard_mail.specs.Mails.{letters_of, LawfulUnder}
use Rattle.shard_mail.proofs.Letters.{lawful_under, of_append, of_own}
use Rattle.best_turns.specs.Envelopes.{sender_of, letters_in, taken_from, are_lawful, terms_of}
use Rattle.best_turns.specs.Turners.{ArePostersFor, HasAllMail, HasSomeMail}
use Rattle.best_turns.specs.declared.envelope.BestEnvelope.{BestEnvelope}

-- ---- letters in envelopes

abbrev pub enclosed : BestLetter → BestEnvelope
enclosed x = record { letter = x }

letters_append : (xs ys : List BestEnvelope) → letters_in (xs ++ ys) ≡ letters_in xs ++ letters_in ys
letters_append xs ys = map-append (λ (e : BestEnvelope). e.letter) xs ys

from_append : (j : ℕ) (taken more : List BestEnvelope) → taken_from j (taken ++ more) ≡ taken_from j taken ++ taken_from j more
from_append j taken more = ap letters_in (of_append sender_of j taken more) ∙ letters_append (letters_of sender_of j taken) (letters_of sender_of j more)

-- one more letter is its sender's, and no other's
from_sender : (taken : List BestEnvelope) (x : BestEnvelope) → taken_from (sender_of x) (taken ++ x ∷ []) ≡ taken_from (sender_of x) taken ++ x.letter ∷ []
from_sender taken x = from_append (sender_of x) taken (x ∷ []) ∙ ap (λ (e : List BestEnvelope). taken_from (sender_of x) taken ++ letters_in e) (of_own sender_of (sender_of x) x refl)

-- the same letters of a sender, in envelopes and in a history
one_came : (j : ℕ) (x : BestEnvelope) → came_from j (Came x.letter ∷ []) ≡ taken_from j (x ∷ [])
one_came j x = by (nat_eq x.letter.from j)
  where
    by : (t : Bool) → (if t then x.letter ∷ [] else []) ≡ letters_in (if t then x ∷ [] else [])
    by true = refl
    by false = refl

-- ---- what is received

module _ (p : Pass) (taken : List BestEnvelope) (posters : List (PosterFacts BestEnvelope)) (r : BestRecord) (mail : HasAllMail p taken posters r) where
  -- the next letter of its sender is one that may come
  pub may_come : (taker : TakerFacts BestEnvelope) (x : BestEnvelope) → taker.mailbox.senders ≡ p.shards → taker.terms ≡ terms_of p.model → IsNextFor models.the_row.coded are_lawful sender_of taker x → MayCome p x.letter
  may_come taker x senders terms next =
      record {
        from = subst (λ (n : ℕ). x.letter.from < n) senders next.known;
        lawful = subst (AreInOrder p.model) (from_sender taker.taken x) (next.allowed p.model (sym terms)) x.letter (has_last (taken_from (sender_of x) taker.taken) x.letter);
      }

  pub takes_mail : (x : BestEnvelope) (rest : List Node) → HasAllMail p (taken ++ x ∷ []) posters (take_letter r x.letter rest)
  takes_mail x rest =
      record {
        received = λ j lt. came_append j r.history (Came x.letter ∷ []) ∙ (ap (λ (xs : List BestLetter). xs ++ came_from j (Came x.letter ∷ [])) (mail.received j lt) ∙ (ap (λ (xs : List BestLetter). taken_from j taken ++ xs) (one_came j x) ∙ sym (from_append j taken (x ∷ []))));
        posted = mail.posted;
      }

  pub some_mail : HasSomeMail p taken posters r
  some_mail =
      record {
        received = λ j lt. ([], append-nil (came_from j r.history) ∙ mail.received j lt);
        posted = λ k q at. ([], append-nil (letters_in q.posted) ∙ mail.posted k q at);
      }

  -- a letter was taken in vain
  pub vain_mail : (x : BestEnvelope) → HasSomeMail p (taken ++ x ∷ []) posters r
  vain_mail x =
      record {
        received = λ j lt. (taken_from j (x ∷ []), ap (λ (xs : List BestLetter). xs ++ taken_from j (x ∷ [])) (mail.received j lt) ∙ sym (from_append j taken (x ∷ [])));
        posted = λ k q at. ([], append-nil (letters_in q.posted) ∙ mail.posted k q at);
      }

-- ---- an element that is exchanged

set_cases : {A : Type 0} (xs : List A) (i : ℕ) (y : A) (k : ℕ) (z : A) → slice_get (slice_set xs i y) k ≡ Some z → ((k ≡ i) × (y ≡ z)) ⊎ ((k ≢ i) × (slice_get xs k ≡ Some z))
set_cases [] i y k z e = absurd (none-some z e)
set_cases (x ∷ xs) zero y zero z e = inl (refl, same_Some y z e)
set_cases (x ∷ xs) zero y (suc k) z e = inr ((λ s. apart k s), e)
  where
    apart : (k : ℕ) → suc k ≡ 0 → ⊥
    apart k s = cc
set_cases (x ∷ xs) (suc i) y zero z e = inr ((λ s. apart i s), e)
  where
    apart : (i : ℕ) → 0 ≡ suc i → ⊥
    apart i s = cc
set_cases (x ∷ xs) (suc i) y (suc k) z e = elim (set_cases xs i y k z e) [ inl a ↦ inl (ap suc a.0, a.1) | inr b ↦ inr ((λ s. b.0 (less k i s)), b.1) ]
  where
    less : (k i : ℕ) → suc k ≡ suc i → k ≡ i
    less k i s = cc

-- ---- what is posted

append_other : (posted : List (List BestLetter)) (j : ℕ) (x : BestLetter) (k : ℕ) → k ≢ j → to (append_at posted j x) k ≡ to posted k
append_other posted j x k ne = get_or-set_other posted j k (to posted j ++ x ∷ []) [] ne

pub posted_this : (posted : List (List BestLetter)) (j : ℕ) (x : BestLetter) → j < length posted → Has (to (append_at posted j x) j) x
posted_this posted j x lt = subst (λ (xs : List BestLetter). Has xs x) (sym (append_same posted j x lt)) (has_last (to posted j) x)

posted_more : (q : PosterFacts BestEnvelope) (x : BestLetter) → letters_in (q.posted ++ enclosed x ∷ []) ≡ letters_in q.posted ++ x ∷ []
posted_more q x = letters_append q.posted (enclosed x ∷ [])

module _ (p : Pass) (posters : List (PosterFacts BestEnvelope)) (receiver : ℕ) (q : PosterFacts BestEnvelope) (at : slice_get posters receiver ≡ Some q) where
  -- the posters, one of which posted
  pub posters_with : (boxes : List MailboxFacts) (i : ℕ) → ArePostersFor p boxes i posters → (q' : PosterFacts BestEnvelope) → q'.mailbox ≡ q.mailbox → q'.number ≡ q.number → q'.terms ≡ q.terms → ArePostersFor p boxes i (slice_set posters receiver q')
  posters_with boxes i are q' mailbox number terms =
      record {
        long = length-set posters receiver q' ∙ are.long;
        of_box = λ k b z box e. elim (set_cases posters receiver q' k z e) [
          | inl here ↦ subst (λ (y : PosterFacts BestEnvelope). IsPosterOf b y) here.1
              (let was = are.of_box receiver b q (subst (λ (m : ℕ). slice_get boxes m ≡ Some b) here.0 box) at in (mailbox ∙ was.0, subst (λ (m : ℕ). m < b.senders) (sym number) was.1))
          | inr there ↦ are.of_box k b z box there.1
        ];
        number = λ k z e. elim (set_cases posters receiver q' k z e) [ inl here ↦ ap (λ (y : PosterFacts BestEnvelope). y.number) (sym here.1) ∙ (number ∙ are.number receiver q at) | inr there ↦ are.number k z there.1 ];
        terms = λ k z e. elim (set_cases posters receiver q' k z e) [ inl here ↦ ap (λ (y : PosterFacts BestEnvelope). y.terms) (sym here.1) ∙ (terms ∙ are.terms receiver q at) | inr there ↦ are.terms k z there.1 ];
      }

  module _ (taken : List BestEnvelope) (r : BestRecord) (x : BestLetter) (mail : HasAllMail p taken posters r) (lt : receiver < length r.posted) where
    now_posted : letters_in (q.posted ++ enclosed x ∷ []) ≡ to (append_at r.posted receiver x) receiver
    now_posted =
        posted_more q x ∙ (ap (λ (xs : List BestLetter). xs ++ x ∷ []) (mail.posted receiver q at) ∙ sym (append_same r.posted receiver x lt))

    -- what the poster posts is lawful, since what the record posts is
    pub may_post : q.terms ≡ terms_of p.model → AreInOrder p.model (to (append_at r.posted receiver x) receiver) → LawfulUnder models.the_row.coded are_lawful q.terms (q.posted ++ enclosed x ∷ [])
    may_post terms lawful = lawful_under models.the_row.coded are_lawful q.terms p.model (q.posted ++ enclosed x ∷ []) (sym terms) (subst (AreInOrder p.model) (sym now_posted) lawful)

    pub posts_mail : (rest : List ToPost) (q' : PosterFacts BestEnvelope) → q' ≡ posted_by q (enclosed x) → HasAllMail p taken (slice_set posters receiver q') (post r (to_post receiver x) rest)
    posts_mail rest q' is = record {
      received = mail.received;
      posted = λ k z e. elim (set_cases posters receiver q' k z e) [
        | inl here ↦ subst (λ (y : PosterFacts BestEnvelope). letters_in y.posted ≡ to (append_at r.posted receiver x) k) (sym is ∙ here.1)
            (subst (λ (m : ℕ). letters_in (q.posted ++ enclosed x ∷ []) ≡ to (append_at r.posted receiver x) m) (sym here.0) now_posted)
        | inr there ↦ mail.posted k z there.1 ∙ sym (append_other r.posted receiver x k there.0)
      ];
    }

    -- a letter was handed out in vain
    pub kept_mail : (rest : List ToPost) (q' : PosterFacts BestEnvelope) → q' ≡ q → HasSomeMail p taken (slice_set posters receiver q') (post r (to_post receiver x) rest)
    kept_mail rest q' is = record {
      received = λ j below. ([], append-nil (came_from j r.history) ∙ mail.received j below);
      posted = λ k z e. elim (set_cases posters receiver q' k z e) [
        | inl here ↦ (
          x ∷ [],
          subst (λ (y : PosterFacts BestEnvelope). letters_in y.posted ++ x ∷ [] ≡ to (append_at r.posted receiver x) k) (sym is ∙ here.1)
              (subst (λ (m : ℕ). letters_in q.posted ++ x ∷ [] ≡ to (append_at r.posted receiver x) m) (sym here.0) (sym (posted_more q x) ∙ now_posted)),
        )
        | inr there ↦ ([], append-nil (letters_in z.posted) ∙ (mail.posted k z there.1 ∙ sym (append_other r.posted receiver x k there.0)))
      ];
    }
