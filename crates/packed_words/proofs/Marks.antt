-- What an operation on words means for sets of one object type.
use Rattle.std.proofs.Common.{◌≡◌, ℕ, ◌≤◌, ◌<◌, Bool, true, false, not, ◌&&◌, ◌||◌, eqb, List, length, refl, sym, ap, ◌∙◌, arith}
use Rattle.std.specs.Prelude.{◌↔◌, IsTrue}
use Rattle.std.specs.Str.{bytes_eq}
use Rattle.std.proofs.lemmas.Bool.{ne_eqb, and_right, false≢true}
use Rattle.std.proofs.lemmas.Slice.Eq.{bytes_eq-Decides}
use Rattle.bit_sets.specs.Sets.{bound_of, has, members_of, members_where}
use Rattle.bit_sets.proofs.Meanings.{has_is_bit, no_bit}
use Rattle.bit_sets.proofs.Ranges.{any_outside}
use Rattle.state_layout.proofs.Decoding.{where_same}
use Rattle.packed_words.specs.Sets.{IsClean}

-- a list of members of an object type has no others
pub clean_of : (count : ℕ) (c : List ℕ) (test : ℕ → Bool) → members_of c ≡ members_where count test → IsClean count c
clean_of count c test e = record { above = λ k h. sym (has_is_bit c k) ∙ ap (λ (xs : List ℕ). has xs k) e ∙ any_outside test k 0 count (λ j l u f. omega arith) }

kept : (count n : ℕ) (c : List ℕ) (test : ℕ → Bool) → c ≡ members_where n test → ((k : ℕ) → n ≤ k → test k ≡ false) → ((k : ℕ) → count ≤ k → test k ≡ false) → c ≡ members_where count test
kept count n c test e p q = e ∙ where_same test test n count (λ k. refl) p q

past_words : (a : List ℕ) (k : ℕ) → bound_of a ≤ k → has (members_of a) k ≡ false
past_words a k h = has_is_bit a k ∙ no_bit a k h

past_count : (count : ℕ) (a : List ℕ) → IsClean count a → (k : ℕ) → count ≤ k → has (members_of a) k ≡ false
past_count count a clean k h = has_is_bit a k ∙ clean.above k h

module _ (count : ℕ) (a b c : List ℕ) (left : IsClean count a) where
  pub united_members : length a ≡ length b → IsClean count b → c ≡ members_where (bound_of a) (λ k. has (members_of a) k || has (members_of b) k) → c ≡ members_where count (λ k. has (members_of a) k || has (members_of b) k)
  united_members len right e = kept count (bound_of a) c (λ k. has (members_of a) k || has (members_of b) k) e
      (λ k h. rw (past_words a k h, past_words b k (omega (arith, len))) refl)
      (λ k h. rw (past_count count a left k h, past_count count b right k h) refl)

  pub shared_members : c ≡ members_where (bound_of a) (λ k. has (members_of a) k && has (members_of b) k) → c ≡ members_where count (λ k. has (members_of a) k && has (members_of b) k)
  shared_members e = kept count (bound_of a) c (λ k. has (members_of a) k && has (members_of b) k) e
      (λ k h. rw (past_words a k h) refl)
      (λ k h. rw (past_count count a left k h) refl)

  pub lessened_members : c ≡ members_where (bound_of a) (λ k. has (members_of a) k && not (has (members_of b) k)) → c ≡ members_where count (λ k. has (members_of a) k && not (has (members_of b) k))
  lessened_members e = kept count (bound_of a) c (λ k. has (members_of a) k && not (has (members_of b) k)) e
      (λ k h. rw (past_words a k h) refl)
      (λ k h. rw (past_count count a left k h) refl)

module _ (count : ℕ) (a c : List ℕ) (m : ℕ) (left : IsClean count a) where
  pub with_members : count ≤ bound_of a → m < count → c ≡ members_where (bound_of a) (λ k. eqb k m || has (members_of a) k) → c ≡ members_where count (λ k. eqb k m || has (members_of a) k)
  with_members long below e = kept count (bound_of a) c (λ k. eqb k m || has (members_of a) k) e
      (λ k h. rw (ne_eqb k m (λ g. omega arith), past_words a k h) refl)
      (λ k h. rw (ne_eqb k m (λ g. omega arith), past_count count a left k h) refl)

  pub without_members : c ≡ members_where (bound_of a) (λ k. not (eqb k m) && has (members_of a) k) → c ≡ members_where count (λ k. not (eqb k m) && has (members_of a) k)
  without_members e = kept count (bound_of a) c (λ k. not (eqb k m) && has (members_of a) k) e
      (λ k h. and_right (not (eqb k m)) (has (members_of a) k) (past_words a k h))
      (λ k h. and_right (not (eqb k m)) (has (members_of a) k) (past_count count a left k h))

-- a test that decides whether two lists are the same is that test of them
pub decided : (xs ys : List ℕ) (r : Bool) → IsTrue r ↔ (xs ≡ ys) → r ≡ bytes_eq xs ys
decided xs ys true h = sym ((bytes_eq-Decides xs ys).1 (h.0 refl))
decided xs ys false h = sym (by (bytes_eq xs ys) refl)
  where
    by : (b : Bool) → bytes_eq xs ys ≡ b → bytes_eq xs ys ≡ false
    by true e = absurd (false≢true (h.1 ((bytes_eq-Decides xs ys).0 e)))
    by false e = e
