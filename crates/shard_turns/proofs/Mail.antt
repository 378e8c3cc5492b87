-- Letters that a shard takes and posts.
use Rattle.std.proofs.Common.{◌≡◌, ◌≢◌, ℕ, ◌<◌, ◌⊎◌, inl, inr, zero, suc, List, [], ◌∷◌, ◌++◌, length, slice_get, slice_set, Some, refl, sym, ap, subst, ◌∙◌}
use Rattle.std.proofs.lemmas.Bool.{cases_eq}
use Rattle.std.proofs.lemmas.List.{append-nil, length-set, map-append}
use Rattle.std.proofs.lemmas.Option.{none-some, same_Some}
use Rattle.dp_model.specs.contracts.whole.Model as models
use Rattle.pass_ledger.specs.Events.{append_at, take, CanTake, post}
use Rattle.pass_ledger.specs.Letters.{of, sender, Posted}
use Rattle.pass_ledger.specs.Passes.{Pass}
use Rattle.pass_ledger.specs.declared.mail.Letter.{Letter}
use Rattle.pass_ledger.specs.declared.records.ShardRecord.{ShardRecord}
use Rattle.pass_ledger.specs.declared.records.Unsent.{Unsent}
use Rattle.pass_ledger.proofs.Appends.{append_same, append_other}
use Rattle.shard_mail.specs.Ends.{MailboxFacts, PosterFacts, TakerFacts, IsPosterOf, IsNextFor, posted_by}
use Rattle.shard_mail.specs.Mails.{letters_of, LawfulUnder}
use Rattle.shard_mail.proofs.Letters.{lawful_under, of_append, of_own, of_other}
use Rattle.shard_turns.specs.Envelopes.{sender_of, letters_in, taken_from, are_lawful, terms_of}
use Rattle.shard_turns.specs.Turners.{ArePostersFor, HasAllMail, HasSomeMail}
use Rattle.shard_turns.specs.declared.envelope.Envelope.{Envelope}

-- ---- letters in envelopes

abbrev pub enclosed : Letter → Envelope
enclosed x = record { letter = x }

letters_append : (xs ys : List Envelope) → letters_in (xs ++ ys) ≡ letters_in xs ++ letters_in ys
letters_append xs ys = map-append (λ (e : Envelope). e.letter) xs ys

from_append : (j : ℕ) (taken more : List Envelope) → taken_from j (taken ++ more) ≡ taken_from j taken ++ taken_from j more
from_append j taken more = ap letters_in (of_append sender_of j taken more) ∙ letters_append (letters_of sender_of j taken) (letters_of sender_of j more)

-- one more letter is its sender's, and no other's
from_sender : (taken : List Envelope) (x : Envelope) → taken_from (sender_of x) (taken ++ x ∷ []) ≡ taken_from (sender_of x) taken ++ x.letter ∷ []
from_sender taken x = from_append (sender_of x) taken (x ∷ []) ∙ ap (λ (e : List Envelope). taken_from (sender_of x) taken ++ letters_in e) (of_own sender_of (sender_of x) x refl)

from_other : (j : ℕ) (taken : List Envelope) (x : Envelope) → sender_of x ≢ j → taken_from j (taken ++ x ∷ []) ≡ taken_from j taken
from_other j taken x ne = from_append j taken (x ∷ []) ∙ (ap (λ (e : List Envelope). taken_from j taken ++ letters_in e) (of_other sender_of j x ne) ∙ append-nil (taken_from j taken))

-- ---- what is received

module _ (p : Pass) (taken : List Envelope) (posters : List (PosterFacts Envelope)) (r : ShardRecord) (mail : HasAllMail p taken posters r) where
  -- the next letter of its sender may follow what the record received
  pub can_take : (taker : TakerFacts Envelope) (x : Envelope) → taker.taken ≡ taken → taker.mailbox.senders ≡ p.shards → taker.terms ≡ terms_of p.model → IsNextFor models.the_row.coded are_lawful sender_of taker x → CanTake p r x.letter
  can_take taker x is senders terms next =
      record {
        from = from;
        lawful = subst (λ (xs : List Letter). Posted p.model (xs ++ x.letter ∷ [])) (ap (taken_from (sender_of x)) is ∙ sym (mail.received (sender_of x) from)) (subst (Posted p.model) (from_sender taker.taken x) (next.allowed p.model (sym terms)));
      }
    where
      from : sender x.letter < p.shards
      from = subst (λ (n : ℕ). sender x.letter < n) senders next.known

  pub takes_mail : (x : Envelope) → length r.received ≡ p.shards → sender x.letter < p.shards → HasAllMail p (taken ++ x ∷ []) posters (take r x.letter)
  takes_mail x long lt = record { received = received; posted = mail.posted }
    where
      here : of (append_at r.received (sender x.letter) x.letter) (sender x.letter) ≡ taken_from (sender_of x) (taken ++ x ∷ [])
      here =
          append_same r.received (sender x.letter) x.letter (subst (λ (n : ℕ). sender x.letter < n) (sym long) lt)
          ∙ (ap (λ (xs : List Letter). xs ++ x.letter ∷ []) (mail.received (sender x.letter) lt) ∙ sym (from_sender taken x))

      received : (j : ℕ) → j < p.shards → of (append_at r.received (sender x.letter) x.letter) j ≡ taken_from j (taken ++ x ∷ [])
      received j below =
          elim (cases_eq j (sender x.letter)) [
            | inl e ↦ subst (λ (k : ℕ). of (append_at r.received (sender x.letter) x.letter) k ≡ taken_from k (taken ++ x ∷ [])) (sym e) here
            | inr ne ↦ append_other r.received (sender x.letter) x.letter j ne ∙ (mail.received j below ∙ sym (from_other j taken x (λ e. ne (sym e))))
          ]

  pub some_mail : HasSomeMail p taken posters r
  some_mail =
      record {
        received = λ j lt. ([], append-nil (of r.received j) ∙ mail.received j lt);
        posted = λ k q at. ([], append-nil (letters_in q.posted) ∙ mail.posted k q at);
      }

  -- a letter was taken in vain
  pub vain_mail : (x : Envelope) → HasSomeMail p (taken ++ x ∷ []) posters r
  vain_mail x =
      record {
        received = λ j lt. (taken_from j (x ∷ []), ap (λ (xs : List Letter). xs ++ taken_from j (x ∷ [])) (mail.received j lt) ∙ sym (from_append j taken (x ∷ [])));
        posted = λ k q at. ([], append-nil (letters_in q.posted) ∙ mail.posted k q at);
      }

-- ---- an element that is exchanged

set_cases : {A : Type 0} (xs : List A) (i : ℕ) (y : A) (k : ℕ) (z : A) → slice_get (slice_set xs i y) k ≡ Some z → ((k ≡ i) × (y ≡ z)) ⊎ ((k ≢ i) × (slice_get xs k ≡ Some z))
set_cases [] i y k z e = absurd (none-some z e)
set_cases (x ∷ xs) zero y zero z e = inl (refl, same_Some y z e)
set_cases (x ∷ xs) zero y (suc k) z e = inr ((λ s. apart k s), e)
  where
    apart : (k : ℕ) → suc k ≡ 0 → ⊥
    apart k s = cc
set_cases (x ∷ xs) (suc i) y zero z e = inr ((λ s. apart i s), e)
  where
    apart : (i : ℕ) → 0 ≡ suc i → ⊥
    apart i s = cc
set_cases (x ∷ xs) (suc i) y (suc k) z e = elim (set_cases xs i y k z e) [ inl a ↦ inl (ap suc a.0, a.1) | inr b ↦ inr ((λ s. b.0 (less k i s)), b.1) ]
  where
    less : (k i : ℕ) → suc k ≡ suc i → k ≡ i
    less k i s = cc

-- ---- what is posted

posted_more : (q : PosterFacts Envelope) (x : Letter) → letters_in (q.posted ++ enclosed x ∷ []) ≡ letters_in q.posted ++ x ∷ []
posted_more q x = letters_append q.posted (enclosed x ∷ [])

module _ (p : Pass) (posters : List (PosterFacts Envelope)) (to : ℕ) (q : PosterFacts Envelope) (at : slice_get posters to ≡ Some q) where
  -- the posters, one of which posted
  pub posters_with : (boxes : List MailboxFacts) (i : ℕ) → ArePostersFor p boxes i posters → (q' : PosterFacts Envelope) → q'.mailbox ≡ q.mailbox → q'.number ≡ q.number → q'.terms ≡ q.terms → ArePostersFor p boxes i (slice_set posters to q')
  posters_with boxes i are q' mailbox number terms =
      record {
        long = length-set posters to q' ∙ are.long;
        of_box = λ k b z box e. elim (set_cases posters to q' k z e) [
          | inl here ↦ subst (λ (y : PosterFacts Envelope). IsPosterOf b y) here.1
              (let was = are.of_box to b q (subst (λ (m : ℕ). slice_get boxes m ≡ Some b) here.0 box) at in (mailbox ∙ was.0, subst (λ (m : ℕ). m < b.senders) (sym number) was.1))
          | inr there ↦ are.of_box k b z box there.1
        ];
        number = λ k z e. elim (set_cases posters to q' k z e) [ inl here ↦ ap (λ (y : PosterFacts Envelope). y.number) (sym here.1) ∙ (number ∙ are.number to q at) | inr there ↦ are.number k z there.1 ];
        terms = λ k z e. elim (set_cases posters to q' k z e) [ inl here ↦ ap (λ (y : PosterFacts Envelope). y.terms) (sym here.1) ∙ (terms ∙ are.terms to q at) | inr there ↦ are.terms k z there.1 ];
      }

  module _ (taken : List Envelope) (r : ShardRecord) (x : Letter) (mail : HasAllMail p taken posters r) (lt : to < length r.posted) where
    now_posted : letters_in (q.posted ++ enclosed x ∷ []) ≡ of (append_at r.posted to x) to
    now_posted = posted_more q x ∙ (ap (λ (xs : List Letter). xs ++ x ∷ []) (mail.posted to q at) ∙ sym (append_same r.posted to x lt))

    -- what the poster posts is lawful, since what the record posts is
    pub may_post : q.terms ≡ terms_of p.model → Posted p.model (of (append_at r.posted to x) to) → LawfulUnder models.the_row.coded are_lawful q.terms (q.posted ++ enclosed x ∷ [])
    may_post terms lawful = lawful_under models.the_row.coded are_lawful q.terms p.model (q.posted ++ enclosed x ∷ []) (sym terms) (subst (Posted p.model) (sym now_posted) lawful)

    pub posts_mail : (rest : List Unsent) (q' : PosterFacts Envelope) → q' ≡ posted_by q (enclosed x) → HasAllMail p taken (slice_set posters to q') (post r to x rest)
    posts_mail rest q' is = record {
      received = mail.received;
      posted = λ k z e. elim (set_cases posters to q' k z e) [
        | inl here ↦ subst (λ (y : PosterFacts Envelope). letters_in y.posted ≡ of (append_at r.posted to x) k) (sym is ∙ here.1)
            (subst (λ (m : ℕ). letters_in (q.posted ++ enclosed x ∷ []) ≡ of (append_at r.posted to x) m) (sym here.0) now_posted)
        | inr there ↦ mail.posted k z there.1 ∙ sym (append_other r.posted to x k there.0)
      ];
    }

    -- a letter was handed out in vain
    pub kept_mail : (rest : List Unsent) (q' : PosterFacts Envelope) → q' ≡ q → HasSomeMail p taken (slice_set posters to q') (post r to x rest)
    kept_mail rest q' is = record {
      received = λ j below. ([], append-nil (of r.received j) ∙ mail.received j below);
      posted = λ k z e. elim (set_cases posters to q' k z e) [
        | inl here ↦ (
          x ∷ [],
          subst (λ (y : PosterFacts Envelope). letters_in y.posted ++ x ∷ [] ≡ of (append_at r.posted to x) k) (sym is ∙ here.1)
              (subst (λ (m : ℕ). letters_in q.posted ++ x ∷ [] ≡ of (append_at r.posted to x) m) (sym here.0) (sym (posted_more q x) ∙ now_posted)),
        )
        | inr there ↦ ([], append-nil (letters_in z.posted) ∙ (mail.posted k z there.1 ∙ sym (append_other r.posted to x k there.0)))
      ];
    }
