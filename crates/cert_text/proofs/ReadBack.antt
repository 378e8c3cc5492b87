-- A certificate is read back from its lines.
use Rattle.std.proofs.Common.{rules, ◌≡◌, ◌≢◌, ℕ, ◌+◌, ◌-◌, ◌<◌, ◌≤◌, ◌^◌, suc, zero, ◌&&◌, ◌||◌, ◌==◌, codes, decimal, Bool, true, false, not, List, [], ◌∷◌, ◌++◌, length, get_or, map, take, drop, Option, Some, None, Ok, refl, sym, ap, ◌∙◌, subst, arith, append_assoc, length-append}
use Rattle.std.specs.Prelude.{if◌then◌else◌, ℤ, pos, negsuc, nat_lt, nat_le, option_map, option_and_then, slice_index}
use Rattle.std.specs.Fmt.{signed_decimal}
use Rattle.std.specs.List.{All, list_all, slice_split, sum_by, position_or_len}
use Rattle.std.specs.Option.{option_or}
use Rattle.std.specs.Str.{bytes_eq}
use Rattle.std.specs.Str.Lines.{lines, lines_of_parts, strip_carriage_return}
use Rattle.std.proofs.lemmas.Bool.Decides.{Decides-eqb, nat_tests}
use Rattle.std.proofs.lemmas.Fmt.{decimal_digit, decimal_nonempty, digits_decimal, digits_value-decimal, first_decimal}
use Rattle.std.proofs.lemmas.List.{append-nil}
use Rattle.std.proofs.lemmas.List.Elements.{All-cons}
use Rattle.std.proofs.lemmas.List.Folds.{list_all-append}
use Rattle.std.proofs.lemmas.List.Sums.{sum_by-cons}
use Rattle.std.proofs.lemmas.List.Splits.{slice_split_at, length-slice_split}
use Rattle.std.proofs.lemmas.Str.Parse.{IsDigitsTest, IsNumeralModel, numerals_by_fold}
use Rattle.dp_base.specs.Bytes.{is_digit}
use Rattle.dp_model.specs.StepTexts.{step_text}
use Rattle.dp_model.specs.declared.answers.Claim.{Claim}
use Rattle.dp_model.specs.declared.answers.Claim.TheVariants as claims
use Rattle.dp_model.specs.declared.answers.Keep.{Keep}
use Rattle.dp_model.specs.declared.answers.Keep.TheVariants as keeps
use Rattle.dp_model.specs.declared.whole.Model.{Model}
use Rattle.step_names.specs.Lines.{is_blank_line}
use Rattle.step_names.specs.StepNames.{step_named}
use Rattle.cert_types.specs.Lines.{line_of_end, lines_of_layer}
use Rattle.cert_types.specs.Parents.{is_start}
use Rattle.cert_types.specs.Parts.{Parts}
use Rattle.cert_text.specs.Named.{claims_steps, names_step}
use Rattle.cert_text.specs.ReadBack.{HasStepTexts, IsCertificate, LawReadBack, has_cost, hides_none, is_cost, is_keep, is_line}
use Rattle.cert_text.specs.Said.{begun, claimed, counted, flagged, is_mark, keep_said, last_width, layer_begun, layered, listed, listing, looked, made_from, next, no_layer, node_behind, node_said, or_bad, parted, placed, pruned, read_from, target_said, unless_bad, unless_none, width_of, width_said, with_node}
use Rattle.cert_text.specs.Texts.{cert_lines, claim_lines, end_line, flag_word, keep_line, layer_line, layer_lines, layers_lines, made_line, node_line, prune_line, text_of_lines}
use Rattle.cert_text.specs.Words.{above, behind, below, cost_of, cost_said, few, is_number, is_plain, is_space, number_behind, number_said, read_on, word}
use Rattle.cert_types.specs.declared.nodes.CertNode.{CertNode}
use Rattle.cert_types.specs.declared.nodes.CertStep.{CertStep}
use Rattle.cert_text.specs.declared.said.Body.{Body}
use Rattle.cert_text.specs.declared.said.Said.{Said}
use Rattle.cert_text.specs.declared.said.Said.TheVariants as states
use Rattle.cert_text.specs.declared.said.Start.{Start}
use Rattle.cert_text.proofs.Fronts.{behind_front}
use Rattle.cert_text.proofs.Keeps.{last_is, last_more, last_of}
use Rattle.cert_text.proofs.Links.{and_left, and_right, are_linked, claim_size, fits, is_layer, is_made_in, last_is_end, last_line, made_linked}

both : (x y : Bool) → x ≡ true → y ≡ true → (x && y) ≡ true
both x y hx hy = rw hx hy

less : (a b : ℕ) → nat_lt a b ≡ true → a < b
less a b h = grind (arith, nat_tests)

most : (a b : ℕ) → nat_le a b ≡ true → a ≤ b
most a b h = grind (arith, nat_tests)

not_same : (a b : ℕ) → (a ≢ b) → (a == b) ≡ false
not_same a b h = grind (arith, nat_tests)

-- ---- numbers

digit_range : (c : ℕ) → is_digit c ≡ true → (48 ≤ c) × (c ≤ 57)
digit_range c h = (most 48 c (and_left (nat_le 48 c) (nat_le c 57) h), most c 57 (and_right (nat_le 48 c) (nat_le c 57) h))

range_digit : (c : ℕ) → (48 ≤ c) × (c ≤ 57) → is_digit c ≡ true
range_digit c h = both (nat_le 48 c) (nat_le c 57) (let e : 48 ≤ c = h.0 in grind (arith, nat_tests)) (let e : c ≤ 57 = h.1 in grind (arith, nat_tests))

digits_test : IsDigitsTest (λ ds. list_all is_digit ds ≡ true)
digits_test = record {
  empty = refl;
  parts = λ c cs h. (digit_range c (and_left (is_digit c) (list_all is_digit cs) h), and_right (is_digit c) (list_all is_digit cs) h);
  more = λ c cs range h. both (is_digit c) (list_all is_digit cs) (range_digit c range) h;
}

pub own : IsNumeralModel (λ ds. list_all is_digit ds ≡ true) (read_on 0)
own = numerals_by_fold _ digits_test read_on (search rules)

decimal_digits : (n : ℕ) → n < 2 ^ 64 → list_all is_digit (decimal n) ≡ true
decimal_digits n h = digits_decimal own n h

plain : (n : ℕ) → n < 2 ^ 64 → is_plain (decimal n) ≡ true
plain n h = by (nat_lt n 10) refl
  where
    by : (test : Bool) → test ≡ nat_lt n 10 → is_plain (decimal n) ≡ true
    by true is = let one : decimal n ≡ (48 + n) ∷ [] = decimal_digit n (less n 10 (sym is)) in rw one refl
    by false is =
        let some : 0 < n = grind (arith, nat_tests) in
        let first : 48 < slice_index (decimal n) 0 = first_decimal n some h in
        let other : (slice_index (decimal n) 0 == 48) ≡ false = not_same (slice_index (decimal n) 0) 48 (omega arith) in
        rw other (or_true (length (decimal n) == 1))
      where
        or_true : (x : Bool) → (x || true) ≡ true
        or_true true = refl
        or_true false = refl

number_back : (n : ℕ) → n < 4294967296 → number_said (decimal n) ≡ Some n
number_back n h =
    let small : n < 2 ^ 64 = omega arith in
    let long : nat_lt 0 (length (decimal n)) ≡ true = (let some : 0 < length (decimal n) = decimal_nonempty n small in grind (arith, nat_tests)) in
    let is : is_number (decimal n) ≡ true = both (nat_lt 0 (length (decimal n))) (is_plain (decimal n) && list_all is_digit (decimal n)) long (both (is_plain (decimal n)) (list_all is_digit (decimal n)) (plain n small) (decimal_digits n small)) in
    let value : read_on 0 (decimal n) ≡ n = digits_value-decimal own n small in
    let fits : few n ≡ n = omega arith in
    rw is (ap (λ k. Some (few k)) value ∙ ap Some fits)

number_wide : (n : ℕ) → n < 2 ^ 64 → number_said (decimal n) ≡ Some n
number_wide n small =
    let long : nat_lt 0 (length (decimal n)) ≡ true = (let some : 0 < length (decimal n) = decimal_nonempty n small in grind (arith, nat_tests)) in
    let is : is_number (decimal n) ≡ true = both (nat_lt 0 (length (decimal n))) (is_plain (decimal n) && list_all is_digit (decimal n)) long (both (is_plain (decimal n)) (list_all is_digit (decimal n)) (plain n small) (decimal_digits n small)) in
    let value : read_on 0 (decimal n) ≡ n = digits_value-decimal own n small in
    let fits : few n ≡ n = omega arith in
    rw is (ap (λ k. Some (few k)) value ∙ ap Some fits)

front_back : (front : List ℕ) (n : ℕ) → n < 4294967296 → number_behind front (front ++ decimal n) ≡ Some n
front_back front n h = ap (option_and_then number_said) (behind_front front (decimal n)) ∙ number_back n h

no_minus : (ds : List ℕ) → list_all is_digit ds ≡ true → behind (codes "-") ds ≡ None
no_minus [] h = refl
no_minus (d ∷ ds) h =
    let range = digit_range d (and_left (is_digit d) (list_all is_digit ds) h) in
    let other : (d == 45) ≡ false = not_same d 45 (omega (arith, range.0)) in
    ap (λ (test : Bool). if test then Some ds else None) other

cost_back : (c : ℤ) → is_cost c ≡ true → cost_said (signed_decimal c) ≡ Some c
cost_back (pos n) h =
    let fits : n ≤ 4611686018427387903 = most n 4611686018427387903 h in
    let small : n < 2 ^ 64 = omega arith in
    ap (λ o. cost_of o (decimal n)) (no_minus (decimal n) (decimal_digits n small))
    ∙ ap (option_and_then above) (number_wide n small)
    ∙ rw h refl
cost_back (negsuc n) h =
    let fits : n < 4611686018427387903 = less n 4611686018427387903 h in
    let small : suc n < 2 ^ 64 = omega arith in
    let some : (nat_lt 0 (suc n) && nat_le (suc n) 4611686018427387903) ≡ true = both (nat_lt 0 (suc n)) (nat_le (suc n) 4611686018427387903) (grind (arith, nat_tests)) (grind (arith, nat_tests)) in
    let back : suc n - 1 ≡ n = omega arith in
    ap (option_and_then below) (number_wide (suc n) small) ∙ rw (some, back) refl

-- ---- lines

line_parts : (l : List ℕ) (parts : List (List ℕ)) → 0 < length parts → lines_of_parts (l ∷ parts) ≡ strip_carriage_return l ∷ lines_of_parts parts
line_parts l [] h = absurd (omega arith)
line_parts l (y ∷ more) h = refl

-- each byte of a line, and what is told past its end
byte_at : (l : List ℕ) (i : ℕ) → is_line l ≡ true → (get_or l i 0 == 13) ≡ false
byte_at [] i h = refl
byte_at (b ∷ l) zero h = by (b == 10) (b == 13) (and_left (not (b == 10 || b == 13)) (is_line l) h)
  where
    by : (x y : Bool) → not (x || y) ≡ true → y ≡ false
    by true y is = absurd (cc)
    by false true is = absurd (cc)
    by false false is = refl
byte_at (b ∷ l) (suc i) h = byte_at l i (and_right (not (b == 10 || b == 13)) (is_line l) h)

strip_back : (l : List ℕ) → is_line l ≡ true → strip_carriage_return l ≡ l
strip_back l h = rw (byte_at l (length l - 1) h) refl

no_feed : (l : List ℕ) → is_line l ≡ true → All (λ x. (x == 10) ≡ false) l
no_feed l h = all_from l h
  where
    by : (x y : Bool) → not (x || y) ≡ true → x ≡ false
    by true y is = absurd (cc)
    by false y is = refl

    all_from : (l : List ℕ) → is_line l ≡ true → All (λ x. (x == 10) ≡ false) l
    all_from [] h = λ k d none. absurd (omega (arith, none))
    all_from (b ∷ l) h =
        All-cons (λ x. (x == 10) ≡ false) b l (by (b == 10) (b == 13) (and_left (not (b == 10 || b == 13)) (is_line l) h)) (all_from l (and_right (not (b == 10 || b == 13)) (is_line l) h))

pub lines_back : (ls : List (List ℕ)) → list_all is_line ls ≡ true → lines (text_of_lines ls) ≡ ls
lines_back [] h = refl
lines_back (l ∷ ls) h =
    let here = and_left (is_line l) (list_all is_line ls) h in
    let rest = text_of_lines ls in
    ap lines (append_assoc l (10 ∷ []) rest)
    ∙ ap lines_of_parts (slice_split_at (λ b. b == 10) l 10 rest (no_feed l here) refl)
    ∙ line_parts l (slice_split (λ b. b == 10) rest) (omega (arith, length-slice_split (λ b. b == 10) rest))
    ∙ ap (λ x. x ∷ lines rest) (strip_back l here)
    ∙ ap (λ xs. l ∷ xs) (lines_back ls (and_right (is_line l) (list_all is_line ls) h))

-- ---- one line

pub begun_back : (n : ℕ) (keep : Keep) → looked true (n + 1) (keep_line keep) ≡ states.Kept n keep
begun_back n keeps.Layer = ap (λ k. states.Kept k keeps.Layer) (let e : n + 1 - 1 ≡ n = omega arith in e)
begun_back n keeps.All = ap (λ k. states.Kept k keeps.All) (let e : n + 1 - 1 ≡ n = omega arith in e)

pub mark_back : (marked : Bool) (n : ℕ) → looked marked n (codes "certificate 1") ≡ states.Nothing true
mark_back true n = refl
mark_back false n = refl

pruned_back : (first : ℕ) (keep : Keep) (prune : Bool) → pruned first keep (prune_line prune) ≡ Some (states.Pruned (record { first = first; keep = keep; prune = prune }))
pruned_back first keep true = refl
pruned_back first keep false = refl

claimed_back : (start : Start) (cost : ℤ) → is_cost cost ≡ true → claimed start (codes "claim optimal " ++ signed_decimal cost) ≡ Some (states.Claimed start cost)
claimed_back start cost h = ap (option_map (λ (c : ℤ). states.Claimed start c)) (ap (option_and_then cost_said) (behind_front (codes "claim optimal ") (signed_decimal cost)) ∙ cost_back cost h)

counted_back : (start : Start) (cost : ℤ) (n : ℕ) → n < 4294967296 → counted start cost (codes "steps " ++ decimal n) ≡ Some (listing start (record { cost = cost; steps = []; due = n }))
counted_back start cost n h = ap (option_map (λ (due : ℕ). listing start (record { cost = cost; steps = []; due = due }))) (front_back (codes "steps ") n h)

-- a step that is due
listing_due : (start : Start) (cost : ℤ) (steps : List ℕ) (n : ℕ) → listing start (record { cost = cost; steps = steps; due = n + 1 }) ≡ states.Steps start (record { cost = cost; steps = steps; due = n + 1 })
listing_due start cost steps n =
    let other : (n + 1 == 0) ≡ false = not_same (n + 1) 0 (omega arith) in
    ap (λ (test : Bool). if test then states.Layers start (claims.Optimal (record { cost = cost; steps = steps })) no_layer else states.Steps start (record { cost = cost; steps = steps; due = n + 1 })) other

listed_back : (m : Model) (start : Start) (cost : ℤ) (steps : List ℕ) (n g : ℕ) → step_named m (step_text m g) ≡ Some g → listed m start (record { cost = cost; steps = steps; due = n + 1 }) (step_text m g) ≡ Some (listing start (record { cost = cost; steps = steps ++ g ∷ []; due = n }))
listed_back m start cost steps n g h =
    ap (option_map (λ (g : ℕ). listing start (record { cost = cost; steps = steps ++ g ∷ []; due = n + 1 - 1 }))) h
    ∙ ap (λ (due : ℕ). Some (listing start (record { cost = cost; steps = steps ++ g ∷ []; due = due }))) (let e : n + 1 - 1 ≡ n = omega arith in e)

-- ---- several lines: what is read behind them

-- a line that may follow
pub reads : (m : Model) (n : ℕ) (said later : Said) (l : List ℕ) (ls : List (List ℕ)) → next m n said l ≡ Some later → read_from m n said (l ∷ ls) ≡ read_from m (n + 1) later ls
reads m n said later l ls h = ap (λ o. or_bad n o (λ (later : Said). read_from m (n + 1) later ls)) h

steps_back : (m : Model) (n : ℕ) (start : Start) (cost : ℤ) (gs done : List ℕ) (ls : List (List ℕ)) → HasStepTexts m → list_all (λ g. nat_lt g (length m.dp_ground)) gs ≡ true
    → read_from m n (listing start (record { cost = cost; steps = done; due = length gs })) (map (step_text m) gs ++ ls)
    ≡ read_from m (n + length gs) (states.Layers start (claims.Optimal (record { cost = cost; steps = done ++ gs })) no_layer) ls
steps_back m n start cost [] done ls has named =
    ap (λ (steps : List ℕ). read_from m n (states.Layers start (claims.Optimal (record { cost = cost; steps = steps })) no_layer) ls) (sym (append-nil done))
    ∙ ap (λ k. read_from m k (states.Layers start (claims.Optimal (record { cost = cost; steps = done ++ [] })) no_layer) ls) (let e : n ≡ n + 0 = omega arith in e)
steps_back m n start cost (g ∷ gs) done ls has named =
    let within = less g (length m.dp_ground) (and_left (nat_lt g (length m.dp_ground)) (list_all (λ g. nat_lt g (length m.dp_ground)) gs) named) in
    let others = and_right (nat_lt g (length m.dp_ground)) (list_all (λ g. nat_lt g (length m.dp_ground)) gs) named in
    let rest = map (step_text m) gs ++ ls in
    let more : length (g ∷ gs) ≡ length gs + 1 = omega arith in
    ap (λ due. read_from m n (listing start (record { cost = cost; steps = done; due = due })) (step_text m g ∷ rest)) more
    ∙ ap (λ (said : Said). read_from m n said (step_text m g ∷ rest)) (listing_due start cost done (length gs))
    ∙ reads m n (states.Steps start (record { cost = cost; steps = done; due = length gs + 1 })) (listing start (record { cost = cost; steps = done ++ g ∷ []; due = length gs })) (step_text m g) rest (listed_back m start cost done (length gs) g (has g within).0)
    ∙ steps_back m (n + 1) start cost gs (done ++ g ∷ []) ls has others
    ∙ ap (λ (steps : List ℕ). read_from m (n + 1 + length gs) (states.Layers start (claims.Optimal (record { cost = cost; steps = steps })) no_layer) ls) (append_assoc done (g ∷ []) gs)
    ∙ ap (λ k. read_from m k (states.Layers start (claims.Optimal (record { cost = cost; steps = done ++ g ∷ gs })) no_layer) ls) (let e : n + 1 + length gs ≡ n + length (g ∷ gs) = omega arith in e)

claim_back : (m : Model) (n : ℕ) (start : Start) (claim : Claim) (ls : List (List ℕ)) → HasStepTexts m → has_cost claim ≡ true → claims_steps (length m.dp_ground) claim ≡ true → claim_size claim < 4294967296
    → read_from m n (states.Pruned start) (claim_lines m claim ++ ls) ≡ read_from m (n + claim_size claim) (states.Layers start claim no_layer) ls
claim_back m n start claims.Infeasible ls has cost named small = refl
claim_back m n start (claims.Optimal found) ls has cost named small =
    let steps = map (step_text m) found.steps ++ ls in
    let few : length found.steps < 4294967296 = omega (arith, small) in
    reads m n (states.Pruned start) (states.Claimed start found.cost) (codes "claim optimal " ++ signed_decimal found.cost) ((codes "steps " ++ decimal (length found.steps)) ∷ steps) (claimed_back start found.cost cost)
    ∙ reads m (n + 1) (states.Claimed start found.cost) (listing start (record { cost = found.cost; steps = []; due = length found.steps })) (codes "steps " ++ decimal (length found.steps)) steps (counted_back start found.cost (length found.steps) few)
    ∙ steps_back m (n + 1 + 1) start found.cost found.steps [] ls has named
    ∙ ap (λ k. read_from m k (states.Layers start (claims.Optimal found) no_layer) ls) (let e : n + 1 + 1 + length found.steps ≡ n + claim_size (claims.Optimal found) = omega arith in e)

-- ---- nodes

target_back : (m : Model) (made : Option CertStep) (cut : Bool) → is_start (record { made = made; cut = cut }) ≡ true → target_said (made_line m made cut) ≡ Some (record { made = made; cut = cut })
target_back m None true h = refl
target_back m None false h = refl
target_back m (Some step) cut h = absurd (cc)

flagged_back : (m : Model) (cut : Bool) (g : ℕ) → step_named m (step_text m g) ≡ Some g → flagged m (flag_word cut ++ (codes " " ++ step_text m g)) ≡ Some (cut, g)
flagged_back m false g h = ap (λ o. option_or (option_map (λ (g : ℕ). (false, g)) o) (option_map (λ (g : ℕ). (true, g)) (option_and_then (step_named m) (behind (codes "cut ") (codes "open " ++ step_text m g))))) h
flagged_back m true g h = ap (option_map (λ (g : ℕ). (true, g))) h

space_at : (ds text : List ℕ) → list_all is_digit ds ≡ true → position_or_len is_space (ds ++ 32 ∷ text) ≡ length ds
space_at [] text h = refl
space_at (d ∷ ds) text h =
    let range = digit_range d (and_left (is_digit d) (list_all is_digit ds) h) in
    let other : (d == 32) ≡ false = not_same d 32 (omega (arith, range.0)) in
    let more : position_or_len is_space (ds ++ 32 ∷ text) ≡ length ds = space_at ds text (and_right (is_digit d) (list_all is_digit ds) h) in
    rw other (omega (arith, more))

take_front : (ds text : List ℕ) → take (length ds) (ds ++ text) ≡ ds
take_front [] text = refl
take_front (d ∷ ds) text = ap (λ xs. d ∷ xs) (take_front ds text)

drop_front : (ds text : List ℕ) (x : ℕ) → drop (length ds + 1) (ds ++ x ∷ text) ≡ text
drop_front [] text x = refl
drop_front (d ∷ ds) text x = ap (λ k. drop k (d ∷ (ds ++ x ∷ text))) (let e : length (d ∷ ds) + 1 ≡ suc (length ds + 1) = omega arith in e) ∙ drop_front ds text x

word_back : (ds text : List ℕ) → list_all is_digit ds ≡ true → word (ds ++ 32 ∷ text) ≡ Some (ds, text)
word_back ds text h =
    let at : position_or_len is_space (ds ++ 32 ∷ text) ≡ length ds = space_at ds text h in
    let longer : length (ds ++ 32 ∷ text) ≡ length ds + length (32 ∷ text) = length-append ds (32 ∷ text) in
    let some : 0 < length (32 ∷ text) = omega arith in
    let within : nat_lt (position_or_len is_space (ds ++ 32 ∷ text)) (length (ds ++ 32 ∷ text)) ≡ true = (let less : position_or_len is_space (ds ++ 32 ∷ text) < length (ds ++ 32 ∷ text) = omega (arith, at, longer, some) in grind (arith, nat_tests)) in
    rw within
    (ap (λ k. Some (take k (ds ++ 32 ∷ text), drop (k + 1) (ds ++ 32 ∷ text))) at
    ∙ ap (λ xs. Some (xs, drop (length ds + 1) (ds ++ 32 ∷ text))) (take_front ds (32 ∷ text))
    ∙ ap (λ xs. Some (ds, xs)) (drop_front ds text 32))

made_back : (m : Model) (width : ℕ) (made : Option CertStep) (cut : Bool) → HasStepTexts m → width < 4294967296 → is_made_in width (record { made = made; cut = cut }) ≡ true → names_step (length m.dp_ground) (record { made = made; cut = cut }) ≡ true → node_said m width (made_line m made cut) ≡ Some (record { made = made; cut = cut })
made_back m width None cut has small within named = absurd (cc)
made_back m width (Some step) cut has small within named =
    let text = flag_word cut ++ (codes " " ++ step_text m step.dp_ground) in
    let place : step.parent < width = less step.parent width within in
    let fits : step.parent < 4294967296 = omega arith in
    let wide : step.parent < 2 ^ 64 = omega arith in
    let known = (has step.dp_ground (less step.dp_ground (length m.dp_ground) named)).0 in
    ap (λ o. option_and_then (parted m width) (option_and_then word o)) (behind_front (codes "node ") (decimal step.parent ++ 32 ∷ text))
    ∙ ap (option_and_then (parted m width)) (word_back (decimal step.parent) text (decimal_digits step.parent wide))
    ∙ ap (option_and_then (λ (parent : ℕ). made_from m width parent text)) (number_back step.parent fits)
    ∙ ap (λ (test : Bool). if test then option_map (λ (f : Bool × ℕ). record { made = Some (record { parent = step.parent; dp_ground = f.1 }); cut = f.0 }) (flagged m text) else None) within
    ∙ ap (option_map (λ (f : Bool × ℕ). record { made = Some (record { parent = step.parent; dp_ground = f.1 }); cut = f.0 })) (flagged_back m cut step.dp_ground known)

-- the last width of layers that are there
width_at : (m : Model) (x : List CertNode) (layers : List (List CertNode)) → last_width (x ∷ layers) ≡ width_of (last_of None (x ∷ layers))
width_at m x layers = ap width_of (last_is x layers)

fits_width : (before : Option (List CertNode)) (x : List CertNode) (layers : List (List CertNode)) (node : CertNode) → fits (last_of (Some x) layers) node ≡ true → is_made_in (width_of (last_of (Some x) layers)) node ≡ true
fits_width before x [] node h = h
fits_width before x (y ∷ layers) node h = fits_width before y layers node h

node_back : (m : Model) (layers : List (List CertNode)) (node : CertNode) → HasStepTexts m → width_of (last_of None layers) < 4294967296 → fits (last_of None layers) node ≡ true → names_step (length m.dp_ground) node ≡ true → node_behind m layers (node_line m node) ≡ Some node
node_back m [] node has small fit named = target_back m node.made node.cut fit
node_back m (x ∷ layers) node has small fit named =
    let width = width_at m x layers in
    let within : is_made_in (last_width (x ∷ layers)) node ≡ true = subst (λ w. is_made_in w node ≡ true) (sym width) (fits_width None x layers node fit) in
    let fewer : last_width (x ∷ layers) < 4294967296 = omega (arith, width, small) in
    let some : (length (x ∷ layers) == 0) ≡ false = not_same (length (x ∷ layers)) 0 (omega arith) in
    ap (λ (test : Bool). if test then target_said (node_line m node) else node_said m (last_width (x ∷ layers)) (node_line m node)) some
    ∙ made_back m (last_width (x ∷ layers)) node.made node.cut has fewer within named

-- ---- layers

layered_back : (m : Model) (start : Start) (claim : Claim) (layers : List (List CertNode)) (nodes : List CertNode) (n : ℕ) (node : CertNode) → node_behind m layers (node_line m node) ≡ Some node
    → layered m start claim (record { layers = layers; nodes = nodes; due = n + 1 }) (node_line m node) ≡ Some (states.Layers start claim (with_node (record { layers = layers; nodes = nodes; due = n + 1 }) node))
layered_back m start claim layers nodes n node h =
    let other : (n + 1 == 0) ≡ false = not_same (n + 1) 0 (omega arith) in
    ap (λ (test : Bool). if test then layer_begun start claim layers (node_line m node) else option_map (λ (node : CertNode). states.Layers start claim (with_node (record { layers = layers; nodes = nodes; due = n + 1 }) node)) (node_behind m layers (node_line m node))) other
    ∙ ap (option_map (λ (node : CertNode). states.Layers start claim (with_node (record { layers = layers; nodes = nodes; due = n + 1 }) node))) h

abbrev body_of : List (List CertNode) → List CertNode → ℕ → Body
body_of layers nodes due = record { layers = layers; nodes = nodes; due = due }

with_more : (layers : List (List CertNode)) (nodes : List CertNode) (n : ℕ) (node : CertNode) → with_node (record { layers = layers; nodes = nodes; due = n + 1 + 1 }) node ≡ record { layers = layers; nodes = nodes ++ node ∷ []; due = n + 1 }
with_more layers nodes n node =
    let other : (n + 1 + 1 == 1) ≡ false = not_same (n + 1 + 1) 1 (omega arith) in
    let fewer : n + 1 + 1 - 1 ≡ n + 1 = omega arith in
    ap (λ (test : Bool). if test then body_of (layers ++ (nodes ++ node ∷ []) ∷ []) [] 0 else body_of layers (nodes ++ node ∷ []) (n + 1 + 1 - 1)) other
    ∙ ap (λ (due : ℕ). body_of layers (nodes ++ node ∷ []) due) fewer

nodes_back : (m : Model) (n : ℕ) (start : Start) (claim : Claim) (layers : List (List CertNode)) (done : List CertNode) (node : CertNode) (nodes : List CertNode) (ls : List (List ℕ)) → HasStepTexts m → width_of (last_of None layers) < 4294967296 → is_layer (last_of None layers) (node ∷ nodes) ≡ true → list_all (names_step (length m.dp_ground)) (node ∷ nodes) ≡ true
    → read_from m n (states.Layers start claim (record { layers = layers; nodes = done; due = length nodes + 1 })) (node_line m node ∷ (map (node_line m) nodes ++ ls))
    ≡ read_from m (n + 1 + length nodes) (states.Layers start claim (record { layers = layers ++ (done ++ node ∷ nodes) ∷ []; nodes = []; due = 0 })) ls
nodes_back m n start claim layers done node [] ls has small fit named =
    let here = node_back m layers node has small (and_left (fits (last_of None layers) node) true fit) (and_left (names_step (length m.dp_ground) node) true named) in
    reads m n (states.Layers start claim (record { layers = layers; nodes = done; due = 0 + 1 })) (states.Layers start claim (with_node (record { layers = layers; nodes = done; due = 0 + 1 }) node)) (node_line m node) ls (layered_back m start claim layers done 0 node here)
    ∙ ap (λ k. read_from m k (states.Layers start claim (record { layers = layers ++ (done ++ node ∷ []) ∷ []; nodes = []; due = 0 })) ls) (let e : n + 1 ≡ n + 1 + 0 = omega arith in e)
nodes_back m n start claim layers done node (x ∷ nodes) ls has small fit named =
    let rest = node_line m x ∷ (map (node_line m) nodes ++ ls) in
    let here = node_back m layers node has small (and_left (fits (last_of None layers) node) (is_layer (last_of None layers) (x ∷ nodes)) fit) (and_left (names_step (length m.dp_ground) node) (list_all (names_step (length m.dp_ground)) (x ∷ nodes)) named) in
    let fit_more = and_right (fits (last_of None layers) node) (is_layer (last_of None layers) (x ∷ nodes)) fit in
    let named_more = and_right (names_step (length m.dp_ground) node) (list_all (names_step (length m.dp_ground)) (x ∷ nodes)) named in
    let more : length (x ∷ nodes) + 1 ≡ length nodes + 1 + 1 = omega arith in
    ap (λ due. read_from m n (states.Layers start claim (record { layers = layers; nodes = done; due = due })) (node_line m node ∷ rest)) more
    ∙ reads m n (states.Layers start claim (record { layers = layers; nodes = done; due = length nodes + 1 + 1 })) (states.Layers start claim (with_node (record { layers = layers; nodes = done; due = length nodes + 1 + 1 }) node)) (node_line m node) rest (layered_back m start claim layers done (length nodes + 1) node here)
    ∙ ap (λ (b : Body). read_from m (n + 1) (states.Layers start claim b) rest) (with_more layers done (length nodes) node)
    ∙ nodes_back m (n + 1) start claim layers (done ++ node ∷ []) x nodes ls has small fit_more named_more
    ∙ ap (λ (all : List CertNode). read_from m (n + 1 + 1 + length nodes) (states.Layers start claim (record { layers = layers ++ all ∷ []; nodes = []; due = 0 })) ls) (append_assoc done (node ∷ []) (x ∷ nodes))
    ∙ ap (λ k. read_from m k (states.Layers start claim (record { layers = layers ++ (done ++ node ∷ x ∷ nodes) ∷ []; nodes = []; due = 0 })) ls) (let e : n + 1 + 1 + length nodes ≡ n + 1 + length (x ∷ nodes) = omega arith in e)

layer_back : (start : Start) (claim : Claim) (layers : List (List CertNode)) (nodes : List CertNode) → 0 < length nodes → length nodes < 4294967296 → layer_begun start claim layers (layer_line (length layers) nodes) ≡ Some (states.Layers start claim (record { layers = layers; nodes = []; due = length nodes }))
layer_back start claim layers nodes some few =
    let front = codes "layer " ++ decimal (length layers) ++ codes " " in
    let text : layer_line (length layers) nodes ≡ front ++ decimal (length nodes) = ap (λ x. codes "layer " ++ x) (sym (append_assoc (decimal (length layers)) (codes " ") (decimal (length nodes)))) in
    let said : number_behind front (layer_line (length layers) nodes) ≡ Some (length nodes) = ap (number_behind front) text ∙ front_back front (length nodes) few in
    let other : (length nodes == 0) ≡ false = not_same (length nodes) 0 (omega arith) in
    let wide : width_said (length layers) (layer_line (length layers) nodes) ≡ Some (length nodes) = ap (option_and_then unless_none) said ∙ ap (λ (test : Bool). if test then None else Some (length nodes)) other in
    ap (option_map (λ (due : ℕ). states.Layers start claim (record { layers = layers; nodes = []; due = due }))) wide

layers_back : (m : Model) (n : ℕ) (start : Start) (claim : Claim) (done more : List (List CertNode)) (ls : List (List ℕ)) → HasStepTexts m → width_of (last_of None done) + sum_by lines_of_layer more < 4294967296 → are_linked (last_of None done) more ≡ true → list_all (list_all (names_step (length m.dp_ground))) more ≡ true → list_all (λ (nodes : List CertNode). nat_lt 0 (length nodes)) more ≡ true
    → read_from m n (states.Layers start claim (record { layers = done; nodes = []; due = 0 })) (layers_lines m (length done) more ++ ls)
    ≡ read_from m (n + sum_by lines_of_layer more) (states.Layers start claim (record { layers = done ++ more; nodes = []; due = 0 })) ls
layers_back m n start claim done [] ls has small linked named some =
    ap (λ (layers : List (List CertNode)). read_from m n (states.Layers start claim (record { layers = layers; nodes = []; due = 0 })) ls) (sym (append-nil done))
    ∙ ap (λ k. read_from m k (states.Layers start claim (record { layers = done ++ []; nodes = []; due = 0 })) ls) (let e : n ≡ n + 0 = omega arith in e)
layers_back m n start claim done ([] ∷ more) ls has small linked named some = absurd (cc)
layers_back m n start claim done ((x ∷ nodes) ∷ more) ls has small linked named some =
    let layer = x ∷ nodes in
    let later = layers_lines m (length done + 1) more ++ ls in
    let rest = node_line m x ∷ (map (node_line m) nodes ++ later) in
    let longer : length (done ++ layer ∷ []) ≡ length done + 1 = length-append done (layer ∷ []) in
    let last : last_of None (done ++ layer ∷ []) ≡ Some layer = last_more None done layer in
    let width : width_of (last_of None (done ++ layer ∷ [])) ≡ length layer = ap width_of last in
    let fit = and_left (is_layer (last_of None done) layer) (are_linked (Some layer) more) linked in
    let linked_later = and_right (is_layer (last_of None done) layer) (are_linked (Some layer) more) linked in
    let named_here = and_left (list_all (names_step (length m.dp_ground)) layer) (list_all (list_all (names_step (length m.dp_ground))) more) named in
    let named_later = and_right (list_all (names_step (length m.dp_ground)) layer) (list_all (list_all (names_step (length m.dp_ground))) more) named in
    let some_later = and_right (nat_lt 0 (length layer)) (list_all (λ (nodes : List CertNode). nat_lt 0 (length nodes)) more) some in
    let sum : sum_by lines_of_layer (layer ∷ more) ≡ lines_of_layer layer + sum_by lines_of_layer more = sum_by-cons lines_of_layer layer more in
    let thin : width_of (last_of None done) < 4294967296 = omega (arith, small) in
    let few : length layer < 4294967296 = omega (arith, small, sum) in
    let smaller : width_of (last_of None (done ++ layer ∷ [])) + sum_by lines_of_layer more < 4294967296 = omega (arith, small, width, sum) in
    ap (λ (xs : List (List ℕ)). read_from m n (states.Layers start claim (record { layers = done; nodes = []; due = 0 })) (layer_line (length done) layer ∷ (node_line m x ∷ xs))) (append_assoc (map (node_line m) nodes) (layers_lines m (length done + 1) more) ls)
    ∙ reads m n (states.Layers start claim (record { layers = done; nodes = []; due = 0 })) (states.Layers start claim (record { layers = done; nodes = []; due = length layer })) (layer_line (length done) layer) rest (layer_back start claim done layer (omega arith) few)
    ∙ ap (λ due. read_from m (n + 1) (states.Layers start claim (record { layers = done; nodes = []; due = due })) rest) (let e : length layer ≡ length nodes + 1 = omega arith in e)
    ∙ nodes_back m (n + 1) start claim done [] x nodes later has thin fit named_here
    ∙ ap (λ at. read_from m (n + 1 + 1 + length nodes) (states.Layers start claim (record { layers = done ++ layer ∷ []; nodes = []; due = 0 })) (layers_lines m at more ++ ls)) (sym longer)
    ∙ layers_back m (n + 1 + 1 + length nodes) start claim (done ++ layer ∷ []) more ls has smaller (subst (λ (b : Option (List CertNode)). are_linked b more ≡ true) (sym last) linked_later) named_later some_later
    ∙ ap (λ (layers : List (List CertNode)). read_from m (n + 1 + 1 + length nodes + sum_by lines_of_layer more) (states.Layers start claim (record { layers = layers; nodes = []; due = 0 })) ls) (append_assoc done (layer ∷ []) more)
    ∙ ap (λ k. read_from m k (states.Layers start claim (record { layers = done ++ layer ∷ more; nodes = []; due = 0 })) ls) (let e : n + 1 + 1 + length nodes + sum_by lines_of_layer more ≡ n + sum_by lines_of_layer (layer ∷ more) = omega (arith, sum) in e)

-- ---- the end, and lines in front and behind

pub same_bytes : (xs : List ℕ) → bytes_eq xs xs ≡ true
same_bytes [] = refl
same_bytes (x ∷ xs) = both (x == x) (bytes_eq xs xs) ((Decides-eqb x x).1 refl) (same_bytes xs)

end_back : (start : Start) (claim : Claim) (layers : List (List CertNode)) → layer_begun start claim layers (end_line (length layers)) ≡ Some (states.Ended start claim layers)
end_back start claim layers = rw (same_bytes (end_line (length layers))) refl

blank_back : (m : Model) (n : ℕ) (start : Start) (claim : Claim) (layers : List (List CertNode)) (back : List (List ℕ)) → list_all is_blank_line back ≡ true → read_from m n (states.Ended start claim layers) back ≡ Ok (record { first = start.first; keep = start.keep; prune = start.prune; claim = claim; layers = layers })
blank_back m n start claim layers [] h = refl
blank_back m n start claim layers (l ∷ back) h =
    reads m n (states.Ended start claim layers) (states.Ended start claim layers) l back (let blank = and_left (is_blank_line l) (list_all is_blank_line back) h in rw blank refl)
    ∙ blank_back m (n + 1) start claim layers back (and_right (is_blank_line l) (list_all is_blank_line back) h)

looked_back : (marked : Bool) (n : ℕ) (l : List ℕ) → not (marked && is_keep (keep_said l)) ≡ true → looked marked n l ≡ states.Nothing (is_mark l)
looked_back false n l h = refl
looked_back true n l h = by (keep_said l) h
  where
    by : (o : Option Keep) → not (true && is_keep o) ≡ true → begun n l o ≡ states.Nothing (is_mark l)
    by None is = refl
    by (Some keep) is = absurd (cc)

pub front_skipped : (m : Model) (n : ℕ) (marked : Bool) (front ls : List (List ℕ)) → hides_none marked front ≡ true → (last : Bool) × (read_from m n (states.Nothing marked) (front ++ ls) ≡ read_from m (n + length front) (states.Nothing last) ls)
front_skipped m n marked [] ls h = (marked, ap (λ k. read_from m k (states.Nothing marked) ls) (let e : n ≡ n + 0 = omega arith in e))
front_skipped m n marked (l ∷ front) ls h =
    let here = and_left (not (marked && is_keep (keep_said l))) (hides_none (is_mark l) front) h in
    let later = front_skipped m (n + 1) (is_mark l) front ls (and_right (not (marked && is_keep (keep_said l))) (hides_none (is_mark l) front) h) in (
      later.0,
      reads m n (states.Nothing marked) (states.Nothing (is_mark l)) l (front ++ ls) (ap Some (looked_back marked n l here))
          ∙ later.1
          ∙ ap (λ k. read_from m k (states.Nothing later.0) ls) (let e : n + 1 + length front ≡ n + length (l ∷ front) = omega arith in e),
    )

-- the lines of a certificate, and blank ones
pub whole_back : (m : Model) (n : ℕ) (marked : Bool) (p : Parts) (back : List (List ℕ)) → HasStepTexts m → IsCertificate m p → p.first ≡ n → list_all is_blank_line back ≡ true → read_from m n (states.Nothing marked) (cert_lines m p ++ back) ≡ Ok p
whole_back m n marked p back has good first blank =
    let start : Start = record { first = n; keep = p.keep; prune = p.prune } in
    let grounds = length m.dp_ground in
    let named_claim = and_left (claims_steps grounds p.claim) (list_all (list_all (names_step grounds)) p.layers) good.named in
    let named_layers = and_right (claims_steps grounds p.claim) (list_all (list_all (names_step grounds)) p.layers) good.named in
    let is : last_line p.first p.claim p.layers ≡ line_of_end p.first p.claim p.layers = last_is_end p.first p.claim p.layers in
    let small : last_line p.first p.claim p.layers < 4294967296 = omega (arith, is, good.few_lines) in
    let linked : are_linked None p.layers ≡ true = made_linked p.layers good.made good.parents in
    let few : claim_size p.claim < 4294967296 = omega (arith, small) in
    let fewer : 0 + sum_by lines_of_layer p.layers < 4294967296 = omega (arith, small) in
    let body = layers_lines m 0 p.layers in
    let last = end_line (length p.layers) ∷ back in
    let rest = body ++ last in
    let layers_state : List (List CertNode) → Said = λ (layers : List (List CertNode)). states.Layers start p.claim (record { layers = layers; nodes = []; due = 0 }) in
    let joined : (claim_lines m p.claim ++ (body ++ end_line (length p.layers) ∷ [])) ++ back ≡ claim_lines m p.claim ++ rest =
    append_assoc (claim_lines m p.claim) (body ++ end_line (length p.layers) ∷ []) back ∙ ap (λ xs. claim_lines m p.claim ++ xs) (append_assoc body (end_line (length p.layers) ∷ []) back) in
    ap (λ xs. read_from m n (states.Nothing marked) (codes "certificate 1" ∷ keep_line p.keep ∷ prune_line p.prune ∷ xs)) joined
    ∙ reads m n (states.Nothing marked) (states.Nothing true) (codes "certificate 1") (keep_line p.keep ∷ prune_line p.prune ∷ (claim_lines m p.claim ++ rest)) (ap Some (mark_back marked n))
    ∙ reads m (n + 1) (states.Nothing true) (states.Kept n p.keep) (keep_line p.keep) (prune_line p.prune ∷ (claim_lines m p.claim ++ rest)) (ap Some (begun_back n p.keep))
    ∙ reads m (n + 1 + 1) (states.Kept n p.keep) (states.Pruned start) (prune_line p.prune) (claim_lines m p.claim ++ rest) (pruned_back n p.keep p.prune)
    ∙ claim_back m (n + 1 + 1 + 1) start p.claim rest has good.cost named_claim few
    ∙ layers_back m (n + 1 + 1 + 1 + claim_size p.claim) start p.claim [] p.layers last has fewer linked named_layers good.nodes
    ∙ reads m (n + 1 + 1 + 1 + claim_size p.claim + sum_by lines_of_layer p.layers) (layers_state p.layers) (states.Ended start p.claim p.layers) (end_line (length p.layers)) back (end_back start p.claim p.layers)
    ∙ blank_back m (n + 1 + 1 + 1 + claim_size p.claim + sum_by lines_of_layer p.layers + 1) start p.claim p.layers back blank
    ∙ ap (λ k. Ok (record { first = k; keep = p.keep; prune = p.prune; claim = p.claim; layers = p.layers })) (sym first)

-- ---- the lines of a certificate are made of words, numbers and step texts

pub all_two : {A : Type 0} (p : A → Bool) (xs ys : List A) → list_all p xs ≡ true → list_all p ys ≡ true → list_all p (xs ++ ys) ≡ true
all_two p xs ys hx hy = list_all-append p xs ys ∙ both (list_all p xs) (list_all p ys) hx hy

-- a byte of ASCII from the space on that is no control character
abbrev pub is_print : ℕ → Bool
is_print byte = nat_le 32 byte && nat_le byte 126

pub digits_print : (ds : List ℕ) → list_all is_digit ds ≡ true → list_all is_print ds ≡ true
digits_print [] h = refl
digits_print (d ∷ ds) h =
    let range = digit_range d (and_left (is_digit d) (list_all is_digit ds) h) in
    let low : 32 ≤ d = omega (arith, range.0) in
    let high : d ≤ 126 = omega (arith, range.1) in
    both (is_print d) (list_all is_print ds) (both (nat_le 32 d) (nat_le d 126) (grind (arith, nat_tests)) (grind (arith, nat_tests))) (digits_print ds (and_right (is_digit d) (list_all is_digit ds) h))

-- there are fewer layers than lines
layers_few : (layers : List (List CertNode)) → length layers ≤ sum_by lines_of_layer layers
layers_few [] = omega arith
layers_few (nodes ∷ layers) =
    let more : length layers ≤ sum_by lines_of_layer layers = layers_few layers in
    let sum : sum_by lines_of_layer (nodes ∷ layers) ≡ lines_of_layer nodes + sum_by lines_of_layer layers = sum_by-cons lines_of_layer nodes layers in
    omega arith

abbrev is_fit : Option CertStep → Bool
is_fit None = true
is_fit (Some step) = nat_lt step.parent 4294967296

-- a node's parent is a number of 32 bits
fit_parent : (before : Option (List CertNode)) (made : Option CertStep) (cut : Bool) → width_of before < 4294967296 → fits before (record { made = made; cut = cut }) ≡ true → is_fit made ≡ true
fit_parent before None cut small fit = refl
fit_parent None (Some step) cut small fit = absurd (cc)
fit_parent (Some nodes) (Some step) cut small fit =
    let within : step.parent < length nodes = less step.parent (length nodes) fit in
    let fewer : step.parent < 4294967296 = omega (arith, small) in
    grind (arith, nat_tests)

-- A test that passes texts in ASCII, step texts, and a text behind another one if it passes both, passes each line.
module _ (test : List ℕ → Bool) (two : (a b : List ℕ) → test a ≡ true → test b ≡ true → test (a ++ b) ≡ true) (ascii : (text : List ℕ) → list_all is_print text ≡ true → test text ≡ true)
    (m : Model) (steps : (g : ℕ) → g < length m.dp_ground → test (step_text m g) ≡ true) where
  number_passes : (n : ℕ) → n < 2 ^ 64 → test (decimal n) ≡ true
  number_passes n h = ascii (decimal n) (digits_print (decimal n) (decimal_digits n h))

  cost_passes : (c : ℤ) → is_cost c ≡ true → test (signed_decimal c) ≡ true
  cost_passes (pos n) h = let fits : n ≤ 4611686018427387903 = most n 4611686018427387903 h in number_passes n (omega arith)
  cost_passes (negsuc n) h =
      let fits : n < 4611686018427387903 = less n 4611686018427387903 h in
      two (codes "-") (decimal (suc n)) (ascii (codes "-") refl) (number_passes (suc n) (omega arith))

  flag_passes : (cut : Bool) → test (flag_word cut) ≡ true
  flag_passes true = ascii (codes "cut") refl
  flag_passes false = ascii (codes "open") refl

  keep_passes : (keep : Keep) → test (keep_line keep) ≡ true
  keep_passes keeps.Layer = ascii (codes "keep layer") refl
  keep_passes keeps.All = ascii (codes "keep all") refl

  prune_passes : (prune : Bool) → test (prune_line prune) ≡ true
  prune_passes true = ascii (codes "prune on") refl
  prune_passes false = ascii (codes "prune off") refl

  steps_pass : (gs : List ℕ) → list_all (λ g. nat_lt g (length m.dp_ground)) gs ≡ true → list_all test (map (step_text m) gs) ≡ true
  steps_pass [] named = refl
  steps_pass (g ∷ gs) named =
      both (test (step_text m g)) (list_all test (map (step_text m) gs))
      (steps g (less g (length m.dp_ground) (and_left (nat_lt g (length m.dp_ground)) (list_all (λ g. nat_lt g (length m.dp_ground)) gs) named)))
      (steps_pass gs (and_right (nat_lt g (length m.dp_ground)) (list_all (λ g. nat_lt g (length m.dp_ground)) gs) named))

  claim_passes : (claim : Claim) → has_cost claim ≡ true → claims_steps (length m.dp_ground) claim ≡ true → claim_size claim < 4294967296 → list_all test (claim_lines m claim) ≡ true
  claim_passes claims.Infeasible cost named small = both (test (codes "claim infeasible")) true (ascii (codes "claim infeasible") refl) refl
  claim_passes (claims.Optimal found) cost named small =
      let wide : length found.steps < 2 ^ 64 = omega (arith, small) in
      both (test (codes "claim optimal " ++ signed_decimal found.cost)) (test (codes "steps " ++ decimal (length found.steps)) && list_all test (map (step_text m) found.steps))
      (two (codes "claim optimal ") (signed_decimal found.cost) (ascii (codes "claim optimal ") refl) (cost_passes found.cost cost))
      (both (test (codes "steps " ++ decimal (length found.steps))) (list_all test (map (step_text m) found.steps))
      (two (codes "steps ") (decimal (length found.steps)) (ascii (codes "steps ") refl) (number_passes (length found.steps) wide)) (steps_pass found.steps named))

  node_passes : (made : Option CertStep) (cut : Bool) → names_step (length m.dp_ground) (record { made = made; cut = cut }) ≡ true → (parents : is_fit made ≡ true) → test (made_line m made cut) ≡ true
  node_passes None cut named parents = two (codes "node - ") (flag_word cut) (ascii (codes "node - ") refl) (flag_passes cut)
  node_passes (Some step) cut named parents =
      let place : step.parent < 4294967296 = less step.parent 4294967296 parents in
      let wide : step.parent < 2 ^ 64 = omega arith in
      let text = step_text m step.dp_ground in
      let space = ascii (codes " ") refl in
      two (codes "node ") (decimal step.parent ++ (codes " " ++ (flag_word cut ++ (codes " " ++ text)))) (ascii (codes "node ") refl)
      (two (decimal step.parent) (codes " " ++ (flag_word cut ++ (codes " " ++ text))) (number_passes step.parent wide)
      (two (codes " ") (flag_word cut ++ (codes " " ++ text)) space
      (two (flag_word cut) (codes " " ++ text) (flag_passes cut) (two (codes " ") text space (steps step.dp_ground (less step.dp_ground (length m.dp_ground) named))))))

  nodes_pass : (before : Option (List CertNode)) (nodes : List CertNode) → width_of before < 4294967296 → is_layer before nodes ≡ true → list_all (names_step (length m.dp_ground)) nodes ≡ true → list_all test (map (node_line m) nodes) ≡ true
  nodes_pass before [] small fit named = refl
  nodes_pass before (node ∷ nodes) small fit named =
      both (test (node_line m node)) (list_all test (map (node_line m) nodes))
      (node_passes node.made node.cut (and_left (names_step (length m.dp_ground) node) (list_all (names_step (length m.dp_ground)) nodes) named) (fit_parent before node.made node.cut small (and_left (fits before node) (is_layer before nodes) fit)))
      (nodes_pass before nodes small (and_right (fits before node) (is_layer before nodes) fit) (and_right (names_step (length m.dp_ground) node) (list_all (names_step (length m.dp_ground)) nodes) named))

  layers_pass : (before : Option (List CertNode)) (at : ℕ) (layers : List (List CertNode)) → at + width_of before + sum_by lines_of_layer layers < 4294967296 → are_linked before layers ≡ true → list_all (list_all (names_step (length m.dp_ground))) layers ≡ true → list_all test (layers_lines m at layers) ≡ true
  layers_pass before at [] small linked named = refl
  layers_pass before at (nodes ∷ more) small linked named =
      let sum : sum_by lines_of_layer (nodes ∷ more) ≡ lines_of_layer nodes + sum_by lines_of_layer more = sum_by-cons lines_of_layer nodes more in
      let few : width_of before < 4294967296 = omega (arith, small) in
      let place : at < 2 ^ 64 = omega (arith, small) in
      let wide : length nodes < 2 ^ 64 = omega (arith, small, sum) in
      let later : at + 1 + length nodes + sum_by lines_of_layer more < 4294967296 = omega (arith, small, sum) in
      all_two test (layer_lines m at nodes) (layers_lines m (at + 1) more)
      (both (test (layer_line at nodes)) (list_all test (map (node_line m) nodes))
      (two (codes "layer ") (decimal at ++ (codes " " ++ decimal (length nodes))) (ascii (codes "layer ") refl) (two (decimal at) (codes " " ++ decimal (length nodes)) (number_passes at place) (two (codes " ") (decimal (length nodes)) (ascii (codes " ") refl) (number_passes (length nodes) wide))))
      (nodes_pass before nodes few (and_left (is_layer before nodes) (are_linked (Some nodes) more) linked) (and_left (list_all (names_step (length m.dp_ground)) nodes) (list_all (list_all (names_step (length m.dp_ground))) more) named)))
      (layers_pass (Some nodes) (at + 1) more later (and_right (is_layer before nodes) (are_linked (Some nodes) more) linked) (and_right (list_all (names_step (length m.dp_ground)) nodes) (list_all (list_all (names_step (length m.dp_ground))) more) named))

  head_passes : (keep : Keep) (prune : Bool) → list_all test (codes "certificate 1" ∷ keep_line keep ∷ prune_line prune ∷ []) ≡ true
  head_passes keep prune =
      both (test (codes "certificate 1")) (test (keep_line keep) && (test (prune_line prune) && true)) (ascii (codes "certificate 1") refl)
      (both (test (keep_line keep)) (test (prune_line prune) && true) (keep_passes keep) (both (test (prune_line prune)) true (prune_passes prune) refl))

  pub cert_passes : (p : Parts) → IsCertificate m p → list_all test (cert_lines m p) ≡ true
  cert_passes p good =
      let grounds = length m.dp_ground in
      let is : last_line p.first p.claim p.layers ≡ line_of_end p.first p.claim p.layers = last_is_end p.first p.claim p.layers in
      let small : last_line p.first p.claim p.layers < 4294967296 = omega (arith, is, good.few_lines) in
      let linked : are_linked None p.layers ≡ true = made_linked p.layers good.made good.parents in
      let few : claim_size p.claim < 4294967296 = omega (arith, small) in
      let fewer : 0 + 0 + sum_by lines_of_layer p.layers < 4294967296 = omega (arith, small) in
      let count : length p.layers < 2 ^ 64 = omega (arith, small, layers_few p.layers) in
      let named_claim = and_left (claims_steps grounds p.claim) (list_all (list_all (names_step grounds)) p.layers) good.named in
      let named_layers = and_right (claims_steps grounds p.claim) (list_all (list_all (names_step grounds)) p.layers) good.named in
      let ends : list_all test (end_line (length p.layers) ∷ []) ≡ true = both (test (end_line (length p.layers))) true (two (codes "end ") (decimal (length p.layers)) (ascii (codes "end ") refl) (number_passes (length p.layers) count)) refl in
      let body = all_two test (layers_lines m 0 p.layers) (end_line (length p.layers) ∷ []) (layers_pass None 0 p.layers fewer linked named_layers) ends in
      all_two test (codes "certificate 1" ∷ keep_line p.keep ∷ prune_line p.prune ∷ []) (claim_lines m p.claim ++ (layers_lines m 0 p.layers ++ end_line (length p.layers) ∷ [])) (head_passes p.keep p.prune)
      (all_two test (claim_lines m p.claim) (layers_lines m 0 p.layers ++ end_line (length p.layers) ∷ []) (claim_passes p.claim good.cost named_claim few) body)

-- ---- they are lines

pub line_append : (a b : List ℕ) → is_line a ≡ true → is_line b ≡ true → is_line (a ++ b) ≡ true
line_append a b ha hb = list_all-append (λ byte. not (byte == 10 || byte == 13)) a b ∙ both (is_line a) (is_line b) ha hb

pub ascii_line : (text : List ℕ) → list_all is_print text ≡ true → is_line text ≡ true
ascii_line [] h = refl
ascii_line (x ∷ text) h =
    let low : 32 ≤ x = most 32 x (and_left (nat_le 32 x) (nat_le x 126) (and_left (is_print x) (list_all is_print text) h)) in
    let ten : (x == 10) ≡ false = not_same x 10 (omega (arith, low)) in
    let thirteen : (x == 13) ≡ false = not_same x 13 (omega (arith, low)) in
    both (not (x == 10 || x == 13)) (is_line text) (rw (ten, thirteen) refl) (ascii_line text (and_right (is_print x) (list_all is_print text) h))

pub cert_are_lines : (m : Model) (p : Parts) → HasStepTexts m → IsCertificate m p → list_all is_line (cert_lines m p) ≡ true
cert_are_lines m p has good = cert_passes is_line line_append ascii_line m (λ g less. (has g less).1) p good

pub read_back : LawReadBack
read_back m p front back has good in_front are_behind first utf8 =
    let ls = front ++ (cert_lines m p ++ back) in
    let all : list_all is_line ls ≡ true = all_two is_line front (cert_lines m p ++ back) in_front.0 (all_two is_line (cert_lines m p) back (cert_are_lines m p has good) are_behind.0) in
    let skipped = front_skipped m 1 false front (cert_lines m p ++ back) in_front.1 in
    let begins : p.first ≡ 1 + length front = omega (arith, first) in
    ap (unless_bad m (text_of_lines ls)) utf8
    ∙ ap (λ (xs : List (List ℕ)). placed (read_from m 1 (states.Nothing false) xs)) (lines_back ls all)
    ∙ ap placed (skipped.1 ∙ whole_back m (1 + length front) skipped.0 p back has good begins are_behind.1)
