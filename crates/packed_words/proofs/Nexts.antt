-- The next member of a set, and the list of the members from it on.
use Rattle.std.proofs.Common.{◌≡◌, ℕ, zero, suc, ◌+◌, ◌*◌, ◌/◌, ◌%◌, ◌^◌, ◌<◌, ◌≤◌, Bool, true, false, cond, List, [], ◌∷◌, length, get_or, refl, sym, ap, subst, ◌∙◌, inl, inr, arith}
use Rattle.std.specs.Prelude.{Option, Some, None, slice_get, nat_le}
use Rattle.std.specs.Int.{trailing_zeros, w64}
use Rattle.std.specs.List.{filter, range_with_len}
use Rattle.std.proofs.lemmas.Bool.{cases_lt, leb-true, leb-false, le-leb, lt-leb}
use Rattle.std.proofs.lemmas.List.{get_or_past}
use Rattle.bit_sets.specs.Sets.{bound_of, has_bit, members_of, members_where}
use Rattle.std.specs.Prelude.{IfSome}
use Rattle.bit_sets.proofs.Ranges.{filter_none, first_where}
use Rattle.bit_sets.proofs.Meanings.{found_past, found_nowhere, found_in_word, found_in_rest, found_after}
use Rattle.dp_model.specs.Evaluation.{set_in}
use Rattle.state_layout.specs.declared.layout.Slot.{Slot}
use Rattle.state_layout.specs.Signatures.{word_count}
use Rattle.state_layout.specs.Packing.{word_in, state_in, is_set}
use Rattle.state_layout.specs.Forms.{HoldsSlot}
use Rattle.state_layout.proofs.Decoding.{word_small}
use Rattle.packed_words.specs.Sets.{one_word, members_from, IsNext}
use Rattle.packed_words.proofs.OneWord.{one_length}
use Rattle.packed_words.proofs.Shown.{words_held, held_length, held_word, held_members}

module _ (words : List ℕ) (slot : Slot) (place : ℕ) (held : HoldsSlot slot words place) (kind : is_set slot.kind ≡ true) (small : (k : ℕ) → get_or words k 0 < 2 ^ 64) where
  whole : List ℕ
  whole = words_held words slot place held kind

  long : length (words_held words slot place held kind) ≡ word_count slot.count
  long = held_length words slot place held kind

  whole_small : (j : ℕ) → get_or (words_held words slot place held kind) j 0 < 2 ^ 64
  whole_small j = elim (cases_lt j (word_count slot.count)) [
    | inl h ↦ rw (held_word words slot place held kind j h) (word_small words place j small)
    | inr h ↦ rw (get_or_past (words_held words slot place held kind) j 0 (omega (arith, long))) (omega arith)
  ]

  of_set : (from : ℕ) (o : Option ℕ) → slice_get (filter (nat_le from) (members_of (words_held words slot place held kind))) 0 ≡ o → o ≡ slice_get (members_from from (set_in (state_in words) place)) 0
  of_set from o e = sym e ∙ ap (λ (xs : List ℕ). slice_get (filter (nat_le from) xs) 0) (held_members words slot place held kind)

  pub first_found : (number k w : ℕ) → number ≤ k → k < word_count slot.count → w ≡ word_in words place k → 0 < w → ((j : ℕ) → number ≤ j → j < k → word_in words place j ≡ 0) → Some (64 * k + trailing_zeros w64 w) ≡ slice_get (members_from (64 * number) (set_in (state_in words) place)) 0
  first_found number k w l u e some none =
      let same : get_or (words_held words slot place held kind) k 0 ≡ w = held_word words slot place held kind k u ∙ sym e in
      of_set (64 * number) (Some (64 * k + trailing_zeros w64 w)) (found_in_word (words_held words slot place held kind) number k whole_small l (omega (arith, same, some)) (λ j p q. held_word words slot place held kind j (omega arith) ∙ none j p q) ∙ ap (λ (x : ℕ). Some (64 * k + trailing_zeros w64 x)) same)

  pub first_nowhere : (number : ℕ) → ((j : ℕ) → number ≤ j → j < word_count slot.count → word_in words place j ≡ 0) → None ≡ slice_get (members_from (64 * number) (set_in (state_in words) place)) 0
  first_nowhere number none = of_set (64 * number) None (found_nowhere (words_held words slot place held kind) number (λ j l u. held_word words slot place held kind j (omega (arith, long)) ∙ none j l (omega (arith, long))))

  pub next_past : (from : ℕ) → word_count slot.count ≤ from / 64 → None ≡ slice_get (members_from from (set_in (state_in words) place)) 0
  next_past from h = of_set from None (found_past (words_held words slot place held kind) from (omega (arith, long)))

  pub next_here : (from w : ℕ) → from / 64 < word_count slot.count → w ≡ word_in words place (from / 64) → 0 < w / 2 ^ (from % 64) → Some (from + trailing_zeros w64 (w / 2 ^ (from % 64))) ≡ slice_get (members_from from (set_in (state_in words) place)) 0
  next_here from w h e some =
      let same : get_or (words_held words slot place held kind) (from / 64) 0 ≡ w = held_word words slot place held kind (from / 64) h ∙ sym e in
      of_set from (Some (from + trailing_zeros w64 (w / 2 ^ (from % 64)))) (found_in_rest (words_held words slot place held kind) from whole_small (rw same some) ∙ ap (λ (x : ℕ). Some (from + trailing_zeros w64 (x / 2 ^ (from % 64)))) same)

  pub next_after : (from w : ℕ) (o : Option ℕ) → from / 64 < word_count slot.count → w ≡ word_in words place (from / 64) → w / 2 ^ (from % 64) ≡ 0 → o ≡ slice_get (members_from (64 * (from / 64 + 1)) (set_in (state_in words) place)) 0 → o ≡ slice_get (members_from from (set_in (state_in words) place)) 0
  next_after from w o h e none r =
      let same : get_or (words_held words slot place held kind) (from / 64) 0 ≡ w = held_word words slot place held kind (from / 64) h ∙ sym e in
      let back : o ≡ slice_get (filter (nat_le (64 * (from / 64 + 1))) (members_of (words_held words slot place held kind))) 0 = r ∙ ap (λ (xs : List ℕ). slice_get (filter (nat_le (64 * (from / 64 + 1))) xs) 0) (sym (held_members words slot place held kind)) in
      of_set from o (found_after (words_held words slot place held kind) from (rw same none) ∙ sym back)

-- ---- the list from the next member on

pub filtered : (f : ℕ → Bool) (x : ℕ) (xs : List ℕ) (b : Bool) → f x ≡ b → filter f (x ∷ xs) ≡ cond b (x ∷ filter f xs) (filter f xs)
filtered f x xs b e = rw e refl

head_holds_at : (p : ℕ → Bool) (x : ℕ) (xs : List ℕ) (k : ℕ) → (slice_get (filter p xs) 0 ≡ Some k → p k ≡ true) → (b : Bool) → p x ≡ b → slice_get (filter p (x ∷ xs)) 0 ≡ Some k → p k ≡ true
head_holds_at p x xs k h true q r = let same : x ≡ k = (let s = rw (filtered p x xs true q) at r in cc) in rw (← same) q
head_holds_at p x xs k h false q r = h (rw (filtered p x xs false q) at r)

head_holds : (p : ℕ → Bool) (xs : List ℕ) (k : ℕ) → slice_get (filter p xs) 0 ≡ Some k → p k ≡ true
head_holds p [] k e = absurd (cc)
head_holds p (x ∷ xs) k e = head_holds_at p x xs k (head_holds p xs k) (p x) refl e

all_kept_at : (f : ℕ → Bool) (b c n : ℕ) → b ≤ c → filter (nat_le b) (filter f (range_with_len (c + 1) n)) ≡ filter f (range_with_len (c + 1) n) → (t : Bool) → f c ≡ t → filter (nat_le b) (filter f (range_with_len c (suc n))) ≡ filter f (range_with_len c (suc n))
all_kept_at f b c n h r true q = rw (filtered f c (range_with_len (c + 1) n) true q, filtered (nat_le b) c (filter f (range_with_len (c + 1) n)) true (le-leb b c h), r) refl
all_kept_at f b c n h r false q = rw (filtered f c (range_with_len (c + 1) n) false q) r

all_kept : (f : ℕ → Bool) (b c n : ℕ) → b ≤ c → filter (nat_le b) (filter f (range_with_len c n)) ≡ filter f (range_with_len c n)
all_kept f b c zero h = refl
all_kept f b c (suc n) h = all_kept_at f b c n h (all_kept f b (c + 1) n (omega arith)) (f c) refl

module _ (f : ℕ → Bool) (from k a n : ℕ) (back : slice_get (filter (nat_le from) (filter f (range_with_len (a + 1) n))) 0 ≡ Some k → filter (nat_le from) (filter f (range_with_len (a + 1) n)) ≡ k ∷ filter (nat_le (suc k)) (filter f (range_with_len (a + 1) n))) where
  split_member : (t : Bool) → nat_le from a ≡ t → slice_get (filter (nat_le from) (a ∷ filter f (range_with_len (a + 1) n))) 0 ≡ Some k → filter (nat_le from) (a ∷ filter f (range_with_len (a + 1) n)) ≡ k ∷ filter (nat_le (suc k)) (a ∷ filter f (range_with_len (a + 1) n))
  split_member true q r =
      let same : a ≡ k = (let s = rw (filtered (nat_le from) a (filter f (range_with_len (a + 1) n)) true q) at r in cc) in
      let low : from ≤ a = leb-true from a q in
      let here : filter (nat_le from) (a ∷ filter f (range_with_len (a + 1) n)) ≡ a ∷ filter f (range_with_len (a + 1) n) = filtered (nat_le from) a (filter f (range_with_len (a + 1) n)) true q ∙ ap (λ (xs : List ℕ). a ∷ xs) (all_kept f from (a + 1) n (omega arith)) in
      let after : filter (nat_le (suc a)) (a ∷ filter f (range_with_len (a + 1) n)) ≡ filter f (range_with_len (a + 1) n) = filtered (nat_le (suc a)) a (filter f (range_with_len (a + 1) n)) false (lt-leb (suc a) a (omega arith)) ∙ all_kept f (suc a) (a + 1) n (omega arith) in
      subst (λ (j : ℕ). filter (nat_le from) (a ∷ filter f (range_with_len (a + 1) n)) ≡ j ∷ filter (nat_le (suc j)) (a ∷ filter f (range_with_len (a + 1) n))) same (here ∙ ap (λ (xs : List ℕ). a ∷ xs) (sym after))
  split_member false q r =
      let s = rw (filtered (nat_le from) a (filter f (range_with_len (a + 1) n)) false q) at r in
      let high : from ≤ k = leb-true from k (head_holds (nat_le from) (filter f (range_with_len (a + 1) n)) k s) in
      let low : a < from = leb-false from a q in
      rw (filtered (nat_le from) a (filter f (range_with_len (a + 1) n)) false q, filtered (nat_le (suc k)) a (filter f (range_with_len (a + 1) n)) false (lt-leb (suc k) a (omega arith))) (back s)

  split_at : (t : Bool) → f a ≡ t → slice_get (filter (nat_le from) (filter f (range_with_len a (suc n)))) 0 ≡ Some k → filter (nat_le from) (filter f (range_with_len a (suc n))) ≡ k ∷ filter (nat_le (suc k)) (filter f (range_with_len a (suc n)))
  split_at true q r = let s = rw (filtered f a (range_with_len (a + 1) n) true q) at r in rw (filtered f a (range_with_len (a + 1) n) true q) (split_member (nat_le from a) refl s)
  split_at false q r = let s = rw (filtered f a (range_with_len (a + 1) n) false q) at r in rw (filtered f a (range_with_len (a + 1) n) false q) (back s)

split : (f : ℕ → Bool) (from k a n : ℕ) → slice_get (filter (nat_le from) (filter f (range_with_len a n))) 0 ≡ Some k → filter (nat_le from) (filter f (range_with_len a n)) ≡ k ∷ filter (nat_le (suc k)) (filter f (range_with_len a n))
split f from k a zero e = absurd (cc)
split f from k a (suc n) e = split_at f from k a n (split f from k (a + 1) n) (f a) refl e

none_left : (xs : List ℕ) → slice_get xs 0 ≡ None → xs ≡ []
none_left [] e = refl
none_left (x ∷ xs) e = absurd (cc)

-- what is found is the next member
pub is_next : (f : ℕ → Bool) (n from : ℕ) (xs : List ℕ) (o : Option ℕ) → xs ≡ members_where n f → o ≡ slice_get (members_from from xs) 0 → IsNext o from xs
is_next f n from xs (Some k) e h = let there : slice_get (members_from from (members_where n f)) 0 ≡ Some k = rw (← e) (sym h) in rw e (split f from k 0 n there)
is_next f n from xs None e h = none_left (members_from from xs) (sym h)

-- and it is in range

module _ (p f : ℕ → Bool) (a n k : ℕ) (back : slice_get (filter p (filter f (range_with_len (a + 1) n))) 0 ≡ Some k → k < a + 1 + n) where
  below_member : (t : Bool) → p a ≡ t → slice_get (filter p (a ∷ filter f (range_with_len (a + 1) n))) 0 ≡ Some k → k < a + suc n
  below_member true q r = let same : a ≡ k = (let s = rw (filtered p a (filter f (range_with_len (a + 1) n)) true q) at r in cc) in omega arith
  below_member false q r = let h = back (rw (filtered p a (filter f (range_with_len (a + 1) n)) false q) at r) in omega (arith, h)

  below_at : (t : Bool) → f a ≡ t → slice_get (filter p (filter f (range_with_len a (suc n)))) 0 ≡ Some k → k < a + suc n
  below_at true q r = below_member (p a) refl (rw (filtered f a (range_with_len (a + 1) n) true q) at r)
  below_at false q r = let h = back (rw (filtered f a (range_with_len (a + 1) n) false q) at r) in omega (arith, h)

head_below : (p f : ℕ → Bool) (a n k : ℕ) → slice_get (filter p (filter f (range_with_len a n))) 0 ≡ Some k → k < a + n
head_below p f a zero k e = absurd (cc)
head_below p f a (suc n) k e = below_at p f a n k (head_below p f (a + 1) n k) (f a) refl e

pub found_within : (f : ℕ → Bool) (n from k : ℕ) (xs : List ℕ) → xs ≡ members_where n f → Some k ≡ slice_get (members_from from xs) 0 → (from ≤ k) × (k < n)
found_within f n from k xs e h =
    let there : slice_get (members_from from (members_where n f)) 0 ≡ Some k = rw (← e) (sym h) in
    (leb-true from k (head_holds (nat_le from) xs k (sym h)), (let r = head_below (nat_le from) f 0 n k there in omega (arith, r)))

-- ---- one word

first_shift : (w from : ℕ) → from < 64 → get_or (one_word w) (from / 64) 0 / 2 ^ (from % 64) ≡ w / 2 ^ from
unfolding one_word
first_shift w from h =
    let at : from / 64 ≡ 0 = omega arith in
    let bit : from % 64 ≡ from = omega arith in
    rw (at, bit) refl

word_small_at : (w : ℕ) → w < 2 ^ 64 → (j : ℕ) → get_or (one_word w) j 0 < 2 ^ 64
unfolding one_word
word_small_at w h zero = h
word_small_at w h (suc j) = omega arith

pub bit_past : (w from : ℕ) → 64 ≤ from → None ≡ slice_get (members_from from (members_of (one_word w))) 0
bit_past w from h = sym (found_past (one_word w) from (omega (arith, one_length w)))

pub bit_here : (w from : ℕ) → w < 2 ^ 64 → from < 64 → 0 < w / 2 ^ from → Some (from + trailing_zeros w64 (w / 2 ^ from)) ≡ slice_get (members_from from (members_of (one_word w))) 0
bit_here w from small h some =
    let e : get_or (one_word w) (from / 64) 0 / 2 ^ (from % 64) ≡ w / 2 ^ from = first_shift w from h in
    let found : slice_get (filter (nat_le from) (members_of (one_word w))) 0 ≡ Some (from + trailing_zeros w64 (get_or (one_word w) (from / 64) 0 / 2 ^ (from % 64))) = found_in_rest (one_word w) from (word_small_at w small) (omega (arith, e, some)) in
    sym (found ∙ ap (λ (x : ℕ). Some (from + trailing_zeros w64 x)) e)

pub bit_nowhere : (w from : ℕ) → from < 64 → w / 2 ^ from ≡ 0 → None ≡ slice_get (members_from from (members_of (one_word w))) 0
bit_nowhere w from h none =
    let e : get_or (one_word w) (from / 64) 0 / 2 ^ (from % 64) ≡ 0 = first_shift w from h ∙ none in
    sym (found_after (one_word w) from e ∙ found_past (one_word w) (64 * (from / 64 + 1)) (omega (arith, one_length w)))

-- ---- a whole object type

keep_all : (xs : List ℕ) → xs ≡ filter (λ k. true) xs
keep_all [] = refl
keep_all (x ∷ xs) = ap (λ (ys : List ℕ). x ∷ ys) (keep_all xs)

whole_found : (count from : ℕ) → from < count → Some from ≡ slice_get (members_from from (range_with_len 0 count)) 0
whole_found count from h = sym (first_where (nat_le from) 0 count from (omega arith) (omega arith) (le-leb from from (omega arith)) (λ k l u. lt-leb from k u))

whole_none : (count from : ℕ) → count ≤ from → None ≡ slice_get (members_from from (range_with_len 0 count)) 0
whole_none count from h = ap (λ (xs : List ℕ). slice_get xs 0) (sym (filter_none (nat_le from) 0 count (λ k l u. lt-leb from k (omega arith))))

pub whole_next : (count from : ℕ) → from < count → IsNext (Some from) from (range_with_len 0 count)
whole_next count from h = is_next (λ k. true) count from (range_with_len 0 count) (Some from) (keep_all (range_with_len 0 count)) (whole_found count from h)

pub whole_end : (count from : ℕ) → count ≤ from → IsNext None from (range_with_len 0 count)
whole_end count from h = is_next (λ k. true) count from (range_with_len 0 count) None (keep_all (range_with_len 0 count)) (whole_none count from h)

-- ---- a set in words

pub within : (n from : ℕ) (f : ℕ → Bool) (xs : List ℕ) (o : Option ℕ) → xs ≡ members_where n f → n ≤ 8192 → o ≡ slice_get (members_from from xs) 0 → IfSome o (λ k. (from ≤ k) × (k < 8192))
within n from f xs (Some k) e few h = let w = found_within f n from k xs e h in (w.0, omega (arith, w.1))
within n from f xs None e few h = tt

module _ (ws : List ℕ) (from : ℕ) (o : Option ℕ) (h : o ≡ slice_get (members_from from (members_of ws)) 0) where
  pub next_in_words : IsNext o from (members_of ws)
  next_in_words = is_next (has_bit ws) (bound_of ws) from (members_of ws) o refl h

  pub within_words : bound_of ws ≤ 8192 → IfSome o (λ k. (from ≤ k) × (k < 8192))
  within_words few = within (bound_of ws) from (has_bit ws) (members_of ws) o refl few h

module _ (words : List ℕ) (slot : Slot) (place : ℕ) (held : HoldsSlot slot words place) (kind : is_set slot.kind ≡ true) (from : ℕ) (o : Option ℕ) (h : o ≡ slice_get (members_from from (set_in (state_in words) place)) 0) where
  pub next_in_set : IsNext o from (set_in (state_in words) place)
  next_in_set = is_next (has_bit (words_held words slot place held kind)) (bound_of (words_held words slot place held kind)) from (set_in (state_in words) place) o (sym (held_members words slot place held kind)) h

  pub within_set : slot.count ≤ 4096 → IfSome o (λ k. (from ≤ k) × (k < 8192))
  within_set few = within (bound_of (words_held words slot place held kind)) from (has_bit (words_held words slot place held kind)) (set_in (state_in words) place) o (sym (held_members words slot place held kind)) (omega (arith, few, held_length words slot place held kind)) h
