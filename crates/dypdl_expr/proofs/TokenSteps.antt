-- The tokens of a text, one byte or one word on.
use Rattle.std.proofs.Common.{◌≡◌, ℕ, ◌+◌, ◌-◌, ◌≤◌, ◌<◌, Bool, true, false, not, ◌||◌, List, [], ◌∷◌, length, get_or, drop, take, nat_eq, cond, refl, sym, ap, ◌∙◌, arith}
use Rattle.std.specs.List.{prefix_len, take_while}
use Rattle.std.proofs.lemmas.Bool.Decides.{nat_tests}
use Rattle.std.proofs.lemmas.List.{drop_more, drop_all}
use Rattle.dypdl_expr.specs.Tokens.{Token, Open, Close, Bar, Word, is_white, is_inner, tokens_from}

-- white space begins no token
pub white_step : (inside : Bool) (at byte : ℕ) (bytes : List ℕ) → is_white byte ≡ true → tokens_from inside at (byte ∷ bytes) ≡ tokens_from false (at + 1) bytes
unfolding tokens_from
white_step inside at byte bytes white = rw white refl

-- what a byte of a word is not
pub no_white : (byte : ℕ) → is_inner byte ≡ true → is_white byte ≡ false
no_white byte inner = grind arith

pub no_mark : (byte : ℕ) → is_inner byte ≡ true → (nat_eq byte 40 ≡ false) × (nat_eq byte 41 ≡ false) × (nat_eq byte 124 ≡ false)
no_mark byte inner = (grind arith, grind arith, grind arith)

-- a byte of a word goes on with it
pub inner_step : (at byte : ℕ) (bytes : List ℕ) → is_inner byte ≡ true → tokens_from true at (byte ∷ bytes) ≡ tokens_from true (at + 1) bytes
unfolding tokens_from
inner_step at byte bytes inner = let m = no_mark byte inner in rw (no_white byte inner, m.0, m.1, m.2) refl

-- a word begins
pub word_begins : (at byte : ℕ) (bytes : List ℕ) → is_inner byte ≡ true → tokens_from false at (byte ∷ bytes) ≡ Word at (take_while is_inner (byte ∷ bytes)) ∷ tokens_from true (at + 1) bytes
unfolding tokens_from
word_begins at byte bytes inner = let m = no_mark byte inner in rw (no_white byte inner, m.0, m.1, m.2) refl

-- two choices that differ only where no test before passes
same_choice : {A : Type 0} (w a b c : Bool) (u v x y z z' : A) → not (w || (a || b || c)) ≡ false → cond w u (cond a v (cond b x (cond c y z))) ≡ cond w u (cond a v (cond b x (cond c y z')))
same_choice true a b c u v x y z z' h = refl
same_choice false true b c u v x y z z' h = refl
same_choice false false true c u v x y z z' h = refl
same_choice false false false true u v x y z z' h = refl
same_choice false false false false u v x y z z' h = absurd cc

-- no word goes on at a byte that is not one of a word
pub word_ends : (at byte : ℕ) (bytes : List ℕ) → is_inner byte ≡ false → tokens_from true at (byte ∷ bytes) ≡ tokens_from false at (byte ∷ bytes)
unfolding tokens_from
word_ends at byte bytes outer = same_choice (is_white byte) (nat_eq byte 40) (nat_eq byte 41) (nat_eq byte 124) _ _ _ _ _ _ outer

pub no_tokens : (inside : Bool) (at : ℕ) → tokens_from inside at [] ≡ []
unfolding tokens_from
no_tokens inside at = refl

pub white_below : (byte : ℕ) → is_white byte ≡ true → byte < 128
white_below byte white = grind (arith, nat_tests)

pub outer_below : (byte : ℕ) → is_inner byte ≡ false → byte < 128
outer_below byte outer = grind (arith, nat_tests)

pub last_mark : (byte : ℕ) → is_inner byte ≡ false → is_white byte ≡ false → (byte ≡ 40 → ⊥) → (byte ≡ 41 → ⊥) → byte ≡ 124
last_mark byte outer black a b = grind (arith, nat_tests)

-- ---- at a place of the text

pub white_more : (text : List ℕ) (i : ℕ) → i < length text → is_white (get_or text i 0) ≡ true → tokens_from false i (drop i text) ≡ tokens_from false (i + 1) (drop (i + 1) text)
white_more text i lt white = ap (tokens_from false i) (drop_more text i 0 lt) ∙ white_step false i (get_or text i 0) (drop (i + 1) text) white

pub inner_more : (text : List ℕ) (i : ℕ) → i < length text → is_inner (get_or text i 0) ≡ true → tokens_from true i (drop i text) ≡ tokens_from true (i + 1) (drop (i + 1) text)
inner_more text i lt inner = ap (tokens_from true i) (drop_more text i 0 lt) ∙ inner_step i (get_or text i 0) (drop (i + 1) text) inner

pub run_more : (text : List ℕ) (i : ℕ) → i < length text → is_inner (get_or text i 0) ≡ true → prefix_len is_inner (drop i text) ≡ 1 + prefix_len is_inner (drop (i + 1) text)
run_more text i lt inner = ap (prefix_len is_inner) (drop_more text i 0 lt) ∙ rw inner refl

pub run_stops : (text : List ℕ) (i : ℕ) → i < length text → is_inner (get_or text i 0) ≡ false → prefix_len is_inner (drop i text) ≡ 0
run_stops text i lt outer = ap (prefix_len is_inner) (drop_more text i 0 lt) ∙ rw outer refl

pub run_ends : (text : List ℕ) (i : ℕ) → length text ≤ i → prefix_len is_inner (drop i text) ≡ 0
run_ends text i le = ap (prefix_len is_inner) (drop_all i text le)

pub word_stops : (text : List ℕ) (i : ℕ) → i < length text → is_inner (get_or text i 0) ≡ false → tokens_from true i (drop i text) ≡ tokens_from false i (drop i text)
word_stops text i lt outer =
    ap (tokens_from true i) (drop_more text i 0 lt) ∙ word_ends i (get_or text i 0) (drop (i + 1) text) outer ∙ sym (ap (tokens_from false i) (drop_more text i 0 lt))

pub all_passed : (inside : Bool) (text : List ℕ) (i : ℕ) → length text ≤ i → tokens_from inside i (drop i text) ≡ []
all_passed inside text i le = ap (tokens_from inside i) (drop_all i text le) ∙ no_tokens inside i

pub at_word : (text : List ℕ) (i end : ℕ) → i < length text → is_inner (get_or text i 0) ≡ true → end ≡ i + prefix_len is_inner (drop i text) → tokens_from true i (drop i text) ≡ tokens_from false end (drop end text)
    → tokens_from false i (drop i text) ≡ Word i (take (end - i) (drop i text)) ∷ tokens_from false end (drop end text)
at_word text i end lt inner run same =
    let more : drop i text ≡ get_or text i 0 ∷ drop (i + 1) text = drop_more text i 0 lt in
    let len : end - i ≡ prefix_len is_inner (drop i text) = omega arith in
    let begins = word_begins i (get_or text i 0) (drop (i + 1) text) inner in
    let after : tokens_from true (i + 1) (drop (i + 1) text) ≡ tokens_from false end (drop end text) = sym (inner_more text i lt inner) ∙ same in
    let word : take_while is_inner (get_or text i 0 ∷ drop (i + 1) text) ≡ take (end - i) (drop i text) = ap (take_while is_inner) (sym more) ∙ ap (λ (n : ℕ). take n (drop i text)) (sym len) in
    ap (tokens_from false i) more ∙ begins ∙ ap (λ (w : List ℕ). Word i w ∷ tokens_from true (i + 1) (drop (i + 1) text)) word ∙ ap (λ (ts : List Token). Word i (take (end - i) (drop i text)) ∷ ts) after

mark_step : (mark : ℕ → Token) (code : ℕ) → ((at : ℕ) (bytes : List ℕ) → tokens_from false at (code ∷ bytes) ≡ mark at ∷ tokens_from false (at + 1) bytes) → (text : List ℕ) (i : ℕ) → i < length text → get_or text i 0 ≡ code
    → tokens_from false i (drop i text) ≡ mark i ∷ tokens_from false (i + 1) (drop (i + 1) text)
mark_step mark code step text i lt is = ap (tokens_from false i) (drop_more text i 0 lt ∙ ap (λ (b : ℕ). b ∷ drop (i + 1) text) is) ∙ step i (drop (i + 1) text)

pub at_open : (text : List ℕ) (i : ℕ) → i < length text → get_or text i 0 ≡ 40 → tokens_from false i (drop i text) ≡ Open i ∷ tokens_from false (i + 1) (drop (i + 1) text)
unfolding tokens_from
at_open text i lt is = mark_step (λ n. Open n) 40 (λ at bytes. refl) text i lt is

pub at_close : (text : List ℕ) (i : ℕ) → i < length text → get_or text i 0 ≡ 41 → tokens_from false i (drop i text) ≡ Close i ∷ tokens_from false (i + 1) (drop (i + 1) text)
unfolding tokens_from
at_close text i lt is = mark_step (λ n. Close n) 41 (λ at bytes. refl) text i lt is

pub at_bar : (text : List ℕ) (i : ℕ) → i < length text → get_or text i 0 ≡ 124 → tokens_from false i (drop i text) ≡ Bar i ∷ tokens_from false (i + 1) (drop (i + 1) text)
unfolding tokens_from
at_bar text i lt is = mark_step (λ n. Bar n) 124 (λ at bytes. refl) text i lt is
