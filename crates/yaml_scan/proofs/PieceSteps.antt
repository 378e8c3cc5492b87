-- The first line of some bytes, and a line without its end.
use Rattle.std.proofs.Common.{◌≡◌, ℕ, suc, ◌+◌, ◌-◌, ◌<◌, ◌≤◌, Bool, true, false, List, [], ◌∷◌, ◌++◌, length, take, drop, nat_eq, cond, refl, sym, ap, ◌∙◌, arith, ⊎_elim, Some, None, length-append, add-one}
use Rattle.std.specs.List.{prefix_len, position_or_len, position}
use Rattle.std.specs.Cmp.Lexicographic.{pointwise, same_text, other_text}
use Rattle.std.proofs.lemmas.Bool.{cases_Bool, cases_lt, lt-ltb, le-ltb, ne_eqb}
use Rattle.std.proofs.lemmas.Bool.Decides.{nat_tests}
use Rattle.std.proofs.lemmas.List.{take_all, drop_all, take-append-drop, append_assoc}
use Rattle.std.proofs.lemmas.List.Prefix.{end_rest}
use Rattle.yaml_scan.specs.Bytes.{is_space, cut, before_first, without_end}

-- how many bytes stand before the first line feed
abbrev pub line_len : List ℕ → ℕ
line_len bytes = position_or_len (λ byte. nat_eq byte 10) bytes

pub cut-nil : cut [] ≡ []
unfolding cut
cut-nil = refl

cut-cons_feed : (byte : ℕ) (bytes : List ℕ) → nat_eq byte 10 ≡ true → cut (byte ∷ bytes) ≡ (byte ∷ []) ∷ cut bytes
unfolding cut
cut-cons_feed byte bytes p = ap (λ (b : Bool). cond b ((byte ∷ []) ∷ cut bytes) (before_first byte (cut bytes))) p

cut-cons_other : (byte : ℕ) (bytes : List ℕ) → nat_eq byte 10 ≡ false → cut (byte ∷ bytes) ≡ before_first byte (cut bytes)
unfolding cut
cut-cons_other byte bytes p = ap (λ (b : Bool). cond b ((byte ∷ []) ∷ cut bytes) (before_first byte (cut bytes))) p

cut-feed : (bytes : List ℕ) (n : ℕ) → line_len bytes ≡ n → n < length bytes → cut bytes ≡ take (suc n) bytes ∷ cut (drop (suc n) bytes)
cut-feed [] n e h = absurd (omega arith)
cut-feed (byte ∷ bytes) n e h = ⊎_elim
    (λ p. let z : n ≡ 0 = sym e ∙ rw p refl in rw z (cut-cons_feed byte bytes p))
    (λ p.
    let z : n ≡ suc (line_len bytes) = sym e ∙ rw p (omega arith) in
    let later : line_len bytes < length bytes = omega arith in
    rw z (cut-cons_other byte bytes p ∙ ap (before_first byte) (cut-feed bytes (line_len bytes) refl later)))
    (cases_Bool (nat_eq byte 10))

cut-no_feed : (bytes : List ℕ) → length bytes ≤ line_len bytes → 0 < length bytes → cut bytes ≡ bytes ∷ []
cut-no_feed [] e h = absurd (omega arith)
cut-no_feed (byte ∷ []) e h = ⊎_elim
    (λ p. absurd (omega (arith, rw p at e)))
    (λ p. cut-cons_other byte [] p ∙ ap (before_first byte) cut-nil)
    (cases_Bool (nat_eq byte 10))
cut-no_feed (byte ∷ b ∷ bytes) e h = ⊎_elim
    (λ p. absurd (omega (arith, rw p at e)))
    (λ p. cut-cons_other byte (b ∷ bytes) p ∙ ap (before_first byte) (cut-no_feed (b ∷ bytes) (omega (arith, rw p at e)) (omega arith)))
    (cases_Bool (nat_eq byte 10))

-- the first line, by the place of the first line feed
pub cut-at_feed : (bytes : List ℕ) (n : ℕ) → position (λ byte. nat_eq byte 10) bytes ≡ Some n → cut bytes ≡ take (n + 1) bytes ∷ cut (drop (n + 1) bytes)
cut-at_feed bytes n e = ⊎_elim
    (λ h. let same : line_len bytes ≡ n = let k = rw (lt-ltb (line_len bytes) (length bytes) h) at e in cc in rw (add-one n) (cut-feed bytes n same (omega arith)))
    (λ h. let k = rw (le-ltb (line_len bytes) (length bytes) h) at e in absurd cc)
    (cases_lt (line_len bytes) (length bytes))

pub cut-at_end : (bytes : List ℕ) → position (λ byte. nat_eq byte 10) bytes ≡ None → 0 < length bytes → cut bytes ≡ take (length bytes) bytes ∷ cut (drop (length bytes) bytes)
cut-at_end bytes e filled = ⊎_elim
    (λ h. let k = rw (lt-ltb (line_len bytes) (length bytes) h) at e in absurd cc)
    (λ h. rw (take_all (length bytes) bytes (omega arith), drop_all (length bytes) bytes (omega arith), cut-nil) (cut-no_feed bytes h filled))
    (cases_lt (line_len bytes) (length bytes))

without_end-cons : (a b : ℕ) (bytes : List ℕ) → 0 < length bytes → without_end (a ∷ b ∷ bytes) ≡ a ∷ without_end (b ∷ bytes)
without_end-cons a b [] h = absurd (omega arith)
without_end-cons a b (c ∷ bytes) h = refl

without_end-return_feed : (text : List ℕ) → without_end (text ++ 13 ∷ 10 ∷ []) ≡ text
without_end-return_feed [] = refl
without_end-return_feed (a ∷ []) = refl
without_end-return_feed (a ∷ b ∷ text) =
    without_end-cons a b (text ++ 13 ∷ 10 ∷ []) (omega (arith, length-append text (13 ∷ 10 ∷ []))) ∙ ap (λ (t : List ℕ). a ∷ t) (without_end-return_feed (b ∷ text))

without_end-feed : (text : List ℕ) → ((front : List ℕ) → text ≡ front ++ 13 ∷ [] → ⊥) → without_end (text ++ 10 ∷ []) ≡ text
without_end-feed [] h = refl
without_end-feed (a ∷ []) h = rw (ne_eqb a 13 (λ e. h [] (ap (λ (x : ℕ). x ∷ []) e))) refl
without_end-feed (a ∷ b ∷ text) h =
    without_end-cons a b (text ++ 10 ∷ []) (omega (arith, length-append text (10 ∷ [])))
    ∙ ap (λ (t : List ℕ). a ∷ t) (without_end-feed (b ∷ text) (λ front e. h (a ∷ front) (ap (λ (t : List ℕ). a ∷ t) e)))

without_end-none : (line : List ℕ) → ((front : List ℕ) → line ≡ front ++ 10 ∷ [] → ⊥) → without_end line ≡ line
without_end-none [] h = refl
without_end-none (a ∷ []) h = rw (ne_eqb a 10 (λ e. h [] (ap (λ (x : ℕ). x ∷ []) e))) refl
without_end-none (a ∷ b ∷ []) h = let other = ne_eqb b 10 (λ e. h (a ∷ []) (ap (λ (x : ℕ). a ∷ x ∷ []) e)) in grind arith
without_end-none (a ∷ b ∷ c ∷ line) h =
    ap (λ (t : List ℕ). a ∷ t) (without_end-none (b ∷ c ∷ line) (λ front e. h (a ∷ front) (ap (λ (t : List ℕ). a ∷ t) e)))

-- a line without its end, by the bytes that end it
pub end_is_return_feed : (line : List ℕ) → true ≡ pointwise nat_eq (13 ∷ 10 ∷ []) (drop (length line - 2) line) → take (length line - 2) line ≡ without_end line
end_is_return_feed line h =
    let n = length line - 2 in
    let e : line ≡ take n line ++ 13 ∷ 10 ∷ [] = sym (take-append-drop n line) ∙ ap (λ (t : List ℕ). take n line ++ t) (sym (same_text _ _ h)) in
    sym (ap without_end e ∙ without_end-return_feed (take n line))

pub end_is_feed : (line : List ℕ) → false ≡ pointwise nat_eq (13 ∷ 10 ∷ []) (drop (length line - 2) line) → true ≡ pointwise nat_eq (10 ∷ []) (drop (length line - 1) line) → take (length line - 1) line ≡ without_end line
end_is_feed line other h =
    let n = length line - 1 in
    let e : line ≡ take n line ++ 10 ∷ [] = sym (take-append-drop n line) ∙ ap (λ (t : List ℕ). take n line ++ t) (sym (same_text _ _ h)) in
    let apart : (front : List ℕ) → take n line ≡ front ++ 13 ∷ [] → ⊥ = λ front f.
    let whole : line ≡ front ++ 13 ∷ 10 ∷ [] = e ∙ ap (λ (t : List ℕ). t ++ 10 ∷ []) f ∙ append_assoc front (13 ∷ []) (10 ∷ []) in
    other_text _ _ other (sym (end_rest line (13 ∷ 10 ∷ []) front whole)) in
    sym (ap without_end e ∙ without_end-feed (take n line) apart)

pub end_is_none : (line : List ℕ) → false ≡ pointwise nat_eq (10 ∷ []) (drop (length line - 1) line) → line ≡ without_end line
end_is_none line other =
    sym (without_end-none line (λ front e. other_text _ _ other (sym (end_rest line (10 ∷ []) front e))))

-- no space ends a line
pub spaces-without_end : (line : List ℕ) → prefix_len is_space (without_end line) ≡ prefix_len is_space line
spaces-without_end [] = refl
spaces-without_end (a ∷ []) = grind (arith, nat_tests)
spaces-without_end (a ∷ b ∷ []) = grind (arith, nat_tests)
spaces-without_end (a ∷ b ∷ c ∷ line) = ap (λ (n : ℕ). cond (is_space a) (1 + n) 0) (spaces-without_end (b ∷ c ∷ line))
