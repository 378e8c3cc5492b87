-- Plain scalars.
use Rattle.std.proofs.Common.{◌≡◌, ℕ, zero, suc, ◌+◌, ◌-◌, ◌<◌, Bool, true, false, not, ◌&&◌, ◌||◌, ◌==◌, List, [], ◌∷◌, ◌++◌, length, take, drop, get_or, Result, Ok, ◌⊎◌, inl, inr, refl, sym, ap, ◌∙◌, subst, append-nil, arith}
use Rattle.std.specs.Prelude.{codes}
use Rattle.std.specs.List.{list_all, suffix_len}
use Rattle.std.specs.Str.{bytes_eq}
use Rattle.std.proofs.lemmas.Bool.{cond-true, cond-false, and_parts, false≢true, ne_eqb, eqb-true}
use Rattle.std.proofs.lemmas.List.{length-append, get_or_append_left, get_or-append_right, get_or-replicate, length-replicate, take_all, take_more}
use Rattle.std.proofs.lemmas.List.Sums.{suffix_len_is, suffix_len-take_yes}
use Rattle.std.proofs.Math.Seq.{take-append_seam, drop-append_seam}
use Rattle.std.proofs.Math.Bool.{and-false}
use Rattle.dp_base.specs.Bytes.{is_blank, is_digit}
use Rattle.yaml_tree.specs.Rest.{Rest, place, on}
use Rattle.yaml_tree.specs.Characters.{ends_word, is_flow_mark, is_indicator, ends_scalar, begins_plain, is_item}
use Rattle.yaml_tree.specs.Lines.{is_empty}
use Rattle.yaml_tree.specs.Openings.{opening_of, opening}
use Rattle.yaml_tree.specs.Scalars.{ends_before, run_of, part_of, with_text, added, scalar_at, plain}
use Rattle.yaml_tree.specs.Flow.{Outcome, Reading, plain_scalar, FormOf}
use Rattle.yaml_tree.specs.declared.tree.Tree.TheVariants as made
use Rattle.yaml_tree.specs.declared.tree.YamlEnd.{YamlEnd}
use Rattle.content_laws.specs.Writing.{is_plain_first, begins_digit, begins_plainly, is_plain_byte, may_be_plain, spaces}
use Rattle.content_laws.proofs.WrittenBlanks.{IsSolid}

-- ---- bytes that pass a test

-- a byte that passes a test is none that fails it
pub other : (p : ℕ → Bool) (byte k : ℕ) → p byte ≡ true → p k ≡ false → (byte == k) ≡ false
other p byte k passes fails = ne_eqb byte k (λ e. false≢true (sym fails ∙ ap p (sym e) ∙ passes))

-- ---- the first byte

module _ (byte : ℕ) (first : is_plain_first byte ≡ true) (more : List ℕ) where
  is_other : (k : ℕ) → is_plain_first k ≡ false → (byte == k) ≡ false
  is_other k fails = other is_plain_first byte k first fails

  not_blank : is_blank byte ≡ false
  not_blank = (λ i. is_other 32 refl i || is_other 9 refl i)

  not_mark : is_flow_mark byte ≡ false
  not_mark = (λ i. is_other 44 refl i || is_other 91 refl i || is_other 93 refl i || is_other 123 refl i || is_other 125 refl i)

  not_indicator : is_indicator byte ≡ false
  not_indicator =
      (λ i. not_mark i || is_other 35 refl i || is_other 38 refl i || is_other 42 refl i || is_other 33 refl i || is_other 124 refl i || is_other 62 refl i || is_other 39 refl i || is_other 34 refl i || is_other 37 refl i || is_other 64 refl i
      || is_other 96 refl i)

  begins_word : (flow : Bool) → begins_plain flow (byte ∷ more) ≡ true
  begins_word flow =
      cond-false (byte == 45 || byte == 63) _ _ (λ i. is_other 45 refl i || is_other 63 refl i)
      ∙ cond-false (byte == 58) _ _ (is_other 58 refl)
      ∙ ap not (λ i. not_blank i || not_indicator i)

  opens_plain : (flow maps ragged : Bool) → opening_of flow maps ragged (byte ∷ more) ≡ opening_of true true false (97 ∷ [])
  opens_plain flow maps ragged =
      cond-false (byte == 34 || byte == 39) _ _ (λ i. is_other 34 refl i || is_other 39 refl i)
      ∙ cond-false (byte == 91) _ _ (is_other 91 refl)
      ∙ cond-false (byte == 123) _ _ (is_other 123 refl)
      ∙ cond-false (byte == 38) _ _ (is_other 38 refl)
      ∙ cond-false (byte == 42) _ _ (is_other 42 refl)
      ∙ cond-false (byte == 33) _ _ (is_other 33 refl)
      ∙ cond-false (byte == 124 || byte == 62) _ _ (λ i. is_other 124 refl i || is_other 62 refl i)
      ∙ cond-true (begins_plain flow (byte ∷ more)) _ _ (begins_word flow)

digit_opens : (flow maps ragged : Bool) (digit : ℕ) (more : List ℕ) → is_blank digit ≡ false → opening_of flow maps ragged (45 ∷ digit ∷ more) ≡ opening_of true true false (97 ∷ [])
digit_opens flow maps ragged digit more no_blank = cond-true (begins_plain flow (45 ∷ digit ∷ more)) _ _ (ap not no_blank)

-- what is known of the text of a plain scalar
pub record PlainText (text : List ℕ) : Type 0 where
  pub byte : ℕ
  pub more : List ℕ
  pub is : text ≡ byte ∷ more
  pub opens : (flow maps ragged : Bool) (behind : List ℕ) → opening_of flow maps ragged (text ++ behind) ≡ opening_of true true false (97 ∷ [])
  pub solid : IsSolid byte
  pub no_comma : (byte == 44) ≡ false
  pub no_list_end : (byte == 93) ≡ false
  pub no_map_end : (byte == 125) ≡ false
  pub no_directive : (byte == 37) ≡ false
  pub no_dot : (byte == 46) ≡ false
  pub no_space : (byte == 32) ≡ false
  pub no_mark : (byte == 239) ≡ false
  pub no_item : (behind : List ℕ) → is_item (text ++ behind) ≡ false
  pub no_start : (behind : List ℕ) → bytes_eq (text ++ behind) (codes "---") ≡ false
  pub inside : list_all is_plain_byte text ≡ true
  pub no_trail : suffix_len is_blank text ≡ 0

word_text : (byte : ℕ) (more : List ℕ) → is_plain_first byte ≡ true → list_all is_plain_byte (byte ∷ more) ≡ true → suffix_len is_blank (byte ∷ more) ≡ 0 → PlainText (byte ∷ more)
word_text byte more first inside no_trail = record {
  byte = byte;
  more = more;
  is = refl;
  opens = λ flow maps ragged behind. opens_plain byte first (more ++ behind) flow maps ragged;
  solid = record { no_blank = not_blank byte first more; no_comment = not_this 35 refl };
  no_comma = not_this 44 refl;
  no_list_end = not_this 93 refl;
  no_map_end = not_this 125 refl;
  no_directive = not_this 37 refl;
  no_dot = not_this 46 refl;
  no_space = not_this 32 refl;
  no_mark = not_this 239 refl;
  no_item = λ behind. ap (λ (b : Bool). b && ends_word (more ++ behind)) (not_this 45 refl);
  no_start = λ behind. ap (λ (b : Bool). b && bytes_eq (more ++ behind) (45 ∷ 45 ∷ [])) (not_this 45 refl);
  inside = inside;
  no_trail = no_trail;
} where
  not_this : (k : ℕ) → is_plain_first k ≡ false → (byte == k) ≡ false
  not_this k fails = other is_plain_first byte k first fails

number_text : (digit : ℕ) (more : List ℕ) → is_digit digit ≡ true → list_all is_plain_byte (45 ∷ digit ∷ more) ≡ true → suffix_len is_blank (45 ∷ digit ∷ more) ≡ 0 → PlainText (45 ∷ digit ∷ more)
number_text digit more is inside no_trail = record {
  byte = 45;
  more = digit ∷ more;
  is = refl;
  opens = λ flow maps ragged behind. digit_opens flow maps ragged digit (more ++ behind) no_blank;
  solid = record { no_blank = refl; no_comment = refl };
  no_comma = refl;
  no_list_end = refl;
  no_map_end = refl;
  no_directive = refl;
  no_dot = refl;
  no_space = refl;
  no_mark = refl;
  no_item = λ behind. no_blank;
  no_start = λ behind. ap (λ (b : Bool). true && (b && bytes_eq (more ++ behind) (45 ∷ []))) (other is_digit digit 45 is refl);
  inside = inside;
  no_trail = no_trail;
} where
  no_blank : is_blank digit ≡ false
  no_blank = (λ i. other is_digit digit 32 is refl i || other is_digit digit 9 is refl i)

or_parts : (a b : Bool) → (a || b) ≡ true → (a ≡ true) ⊎ (b ≡ true)
or_parts true b e = inl refl
or_parts false b e = inr e

by_first : (byte : ℕ) (more : List ℕ) → (is_plain_first byte ≡ true) ⊎ ((byte == 45 && begins_digit more) ≡ true) → list_all is_plain_byte (byte ∷ more) ≡ true → suffix_len is_blank (byte ∷ more) ≡ 0 → PlainText (byte ∷ more)
by_first byte more (inl first) inside no_trail = word_text byte more first inside no_trail
by_first byte [] (inr minus) inside no_trail = absurd (false≢true (and_parts (byte == 45) false minus).1)
by_first byte (digit ∷ more) (inr minus) inside no_trail =
    let parts = and_parts (byte == 45) (is_digit digit) minus in
    let same : byte ≡ 45 = eqb-true byte 45 parts.0 in
    subst (λ (b : ℕ). PlainText (b ∷ digit ∷ more)) (sym same)
    (number_text digit more parts.1 (ap (λ (b : ℕ). list_all is_plain_byte (b ∷ digit ∷ more)) (sym same) ∙ inside) (ap (λ (b : ℕ). suffix_len is_blank (b ∷ digit ∷ more)) (sym same) ∙ no_trail))

pub plain_text : (text : List ℕ) → may_be_plain text ≡ true → PlainText text
plain_text [] may = absurd (false≢true may)
plain_text (byte ∷ more) may =
    let all = and_parts (begins_plainly (byte ∷ more)) _ may in
    let rest = and_parts (list_all is_plain_byte (byte ∷ more)) _ all.1 in
    by_first byte more (or_parts (is_plain_first byte) _ all.0) rest.0 (eqb-true (suffix_len is_blank (byte ∷ more)) 0 rest.1)

-- ---- where it ends

-- what stands behind a plain scalar: spaces, and then what ends it
pub record Stop (flow : Bool) (behind : List ℕ) : Type 0 where
  pub gap : ℕ
  pub rest : List ℕ
  pub is : behind ≡ spaces gap ++ rest
  pub ends : (blank : Bool) → run_of flow blank rest ≡ []
  pub some : flow ≡ true → is_empty behind ≡ false

goes_on_byte : (flow blank : Bool) (byte : ℕ) (bytes : List ℕ) → is_plain_byte byte ≡ true → ends_before flow blank byte bytes ≡ false
goes_on_byte flow blank byte bytes plain =
    let no_mark : is_flow_mark byte ≡ false = (λ i. is_not 44 refl i || is_not 91 refl i || is_not 93 refl i || is_not 123 refl i || is_not 125 refl i) in
    (λ i. (is_not 35 refl i && blank) || (is_not 58 refl i && ends_scalar flow bytes) || (flow && no_mark i)) ∙ and-false flow where
      is_not : (k : ℕ) → is_plain_byte k ≡ false → (byte == k) ≡ false
      is_not k fails = other is_plain_byte byte k plain fails

run_inside : (flow blank : Bool) (text stop blanks : List ℕ) → list_all is_plain_byte text ≡ true → ((b : Bool) → run_of flow b stop ≡ blanks) → run_of flow blank (text ++ stop) ≡ text ++ blanks
unfolding run_of
run_inside flow blank [] stop blanks inside ends = ends blank
run_inside flow blank (x ∷ xs) stop blanks inside ends =
    let parts = and_parts (is_plain_byte x) (list_all is_plain_byte xs) inside in
    cond-false (ends_before flow blank x (xs ++ stop)) _ _ (goes_on_byte flow blank x (xs ++ stop) parts.0) ∙ ap (λ (l : List ℕ). x ∷ l) (run_inside flow (is_blank x) xs stop blanks parts.1 ends)

run_spaces : (flow : Bool) (k : ℕ) (rest : List ℕ) → ((b : Bool) → run_of flow b rest ≡ []) → (blank : Bool) → run_of flow blank (spaces k ++ rest) ≡ spaces k
unfolding run_of
run_spaces flow zero rest ends blank = ends blank
run_spaces flow (suc k) rest ends blank = cond-false (ends_before flow blank 32 (spaces k ++ rest)) _ _ (and-false flow) ∙ ap (λ (l : List ℕ). 32 ∷ l) (run_spaces flow k rest ends true)

-- the last byte is no blank
last_no_blank : (text : List ℕ) (b : Bool) → 0 < length text → suffix_len is_blank text ≡ 0 → is_blank (get_or text (length text - 1) 0) ≡ b → b ≡ false
last_no_blank text false some none is = refl
last_no_blank text true some none is =
    let all : take (length text) text ≡ text = take_all (length text) text (omega arith) in
    let more : suffix_len is_blank (take (length text) text) ≡ 1 + suffix_len is_blank (take (length text - 1) text) = suffix_len-take_yes is_blank text (length text) 0 some (omega arith) is in
    let zero_is : suffix_len is_blank (take (length text) text) ≡ 0 = ap (suffix_len is_blank) all ∙ none in
    absurd (omega arith)

trail_spaces : (text : List ℕ) (k : ℕ) → suffix_len is_blank text ≡ 0 → suffix_len is_blank (text ++ spaces k) ≡ k
trail_spaces text k none =
    let long : length (spaces k) ≡ k = length-replicate k 32 in
    let whole = length-append text (spaces k) in
    suffix_len_is is_blank (text ++ spaces k) (length text) 0 (omega (arith, whole))
    (λ i low high.
    let at : get_or (text ++ spaces k) i 0 ≡ get_or (spaces k) (i - length text) 0 = get_or-append_right text (spaces k) (length text) i 0 refl low in
    let space : get_or (spaces k) (i - length text) 0 ≡ 32 = get_or-replicate k (i - length text) 32 0 (omega (arith, whole, long)) in
    ap is_blank (at ∙ space))
    (λ some.
    let at : get_or (text ++ spaces k) (length text - 1) 0 ≡ get_or text (length text - 1) 0 = get_or_append_left text (spaces k) 0 (length text - 1) (omega arith) in
    ap is_blank at ∙ last_no_blank text _ some none refl)
    ∙ (omega (arith, whole, long))

part_is : (flow : Bool) (text behind : List ℕ) → list_all is_plain_byte text ≡ true → suffix_len is_blank text ≡ 0 → Stop flow behind → part_of flow (text ++ behind) ≡ text
part_is flow text behind inside none stop =
    let run : run_of flow false (text ++ behind) ≡ text ++ spaces stop.gap =
    run_inside flow false text behind (spaces stop.gap) inside (λ b. ap (run_of flow b) stop.is ∙ run_spaces flow stop.gap stop.rest stop.ends b) in
    let trail : suffix_len is_blank (text ++ spaces stop.gap) ≡ stop.gap = trail_spaces text stop.gap none in
    let long : length (spaces stop.gap) ≡ stop.gap = length-replicate stop.gap 32 in
    let whole = length-append text (spaces stop.gap) in
    let wide : length (text ++ spaces stop.gap) - suffix_len is_blank (text ++ spaces stop.gap) ≡ length text = omega (arith, trail, long, whole) in
    ap (λ (r : List ℕ). take (length r - suffix_len is_blank r) r) run ∙ ap (λ (k : ℕ). take k (text ++ spaces stop.gap)) wide ∙ take-append_seam text (spaces stop.gap)

or_last : (a b : Bool) → (a || b || true) ≡ true
or_last true true = refl
or_last true false = refl
or_last false true = refl
or_last false false = refl

not_empty : (xs : List ℕ) → 0 < length xs → is_empty xs ≡ false
not_empty xs some = ne_eqb (length xs) 0 (λ e. omega arith)

pub stop_mark : (k byte : ℕ) (more : List ℕ) → is_flow_mark byte ≡ true → Stop true (spaces k ++ byte ∷ more)
unfolding run_of
stop_mark k byte more mark = record {
  gap = k;
  rest = byte ∷ more;
  is = refl;
  ends = λ blank. mark_ends blank;
  some = λ e. not_empty (spaces k ++ byte ∷ more) (omega (arith, length-append (spaces k) (byte ∷ more)));
} where
  mark_ends : (blank : Bool) → run_of true blank (byte ∷ more) ≡ []
  mark_ends blank =
      cond-true (ends_before true blank byte more) _ _
      ((λ i. (byte == 35 && blank) || (byte == 58 && ends_scalar true more) || (true && mark i)) ∙ or_last (byte == 35 && blank) (byte == 58 && ends_scalar true more))

pub stop_colon : (flow : Bool) (rest : List ℕ) → ends_scalar flow rest ≡ true → Stop flow (58 ∷ rest)
unfolding run_of
stop_colon flow rest follows = record { gap = 0; rest = 58 ∷ rest; is = refl; ends = λ blank. colon_ends blank; some = λ e. not_empty (58 ∷ rest) (omega arith) } where
  colon_ends : (blank : Bool) → run_of flow blank (58 ∷ rest) ≡ []
  colon_ends blank = cond-true (ends_before flow blank 58 rest) _ _ (λ i. false || follows i || (flow && false))

pub stop_end : Stop false []
unfolding run_of
stop_end = record { gap = 0; rest = []; is = refl; ends = λ blank. refl; some = λ e. absurd (false≢true e) }

-- ---- the scalar at a point

module _ (from : Rest) (text behind : List ℕ) (p : PlainText text) (here : from.here ≡ text ++ behind) where
  abbrev outcome : Outcome
  outcome = Ok (made.Scalar (place from) text, on (length text) from)

  pub behind_plain : drop (length text) from.here ≡ behind
  behind_plain = ap (drop (length text)) here ∙ drop-append_seam text behind

  part_here : (flow : Bool) → Stop flow behind → part_of flow from.here ≡ text
  part_here flow stop = ap (part_of flow) here ∙ part_is flow text behind p.inside p.no_trail stop

  -- where nothing is added to it
  pub nothing_added : (flow : Bool) (least : ℕ) → Stop flow behind → added flow least (on (length text) from) ≡ Ok ([], on (length text) from) → plain flow least from ≡ outcome
  nothing_added flow least stop none =
      ap (λ (part : List ℕ). scalar_at from (with_text part (added flow least (on (length part) from)))) (part_here flow stop)
      ∙ ap (λ (r : Result (List ℕ × Rest) YamlEnd). scalar_at from (with_text text r)) none
      ∙ ap (λ (t : List ℕ). Ok (made.Scalar (place from) t, on (length text) from)) (append-nil text)

  plain_by : (flow : Bool) → Stop flow behind → plain_scalar flow from ≡ outcome
  plain_by true stop = nothing_added true 0 stop (cond-false (is_empty (drop (length text) from.here)) _ _ (ap is_empty behind_plain ∙ stop.some refl))
  plain_by false stop = ap (λ (part : List ℕ). Ok (made.Scalar (place from) part, on (length part) from)) (part_here false stop)

  pub form_plain : (flow maps : Bool) (Node Key : Reading) → Stop flow behind → FormOf flow Node Key (opening flow maps from) from outcome
  form_plain flow maps Node Key stop =
      subst (λ (h : List ℕ). FormOf flow Node Key (opening_of flow maps from.ragged h) from outcome) (sym here)
      (subst (λ o. FormOf flow Node Key o from outcome) (sym (p.opens flow maps from.ragged behind)) (sym (plain_by flow stop)))

-- ---- its last byte

pub record PlainEnd (text : List ℕ) : Type 0 where
  pub front : List ℕ
  pub last : ℕ
  pub is : text ≡ front ++ last ∷ []
  pub no_blank : is_blank last ≡ false
  pub no_return : (last == 13) ≡ false

each_passes : (p : ℕ → Bool) (xs : List ℕ) (i : ℕ) → list_all p xs ≡ true → i < length xs → p (get_or xs i 0) ≡ true
each_passes p [] i all below = absurd (omega arith)
each_passes p (x ∷ xs) zero all below = (and_parts (p x) (list_all p xs) all).0
each_passes p (x ∷ xs) (suc i) all below = each_passes p xs i (and_parts (p x) (list_all p xs) all).1 (omega arith)

pub plain_end : (text : List ℕ) → PlainText text → PlainEnd text
plain_end text p =
    let some : 0 < length text = omega (arith, ap length p.is) in
    let n : ℕ = length text - 1 in
    let last : ℕ = get_or text n 0 in
    let more : take (n + 1) text ≡ take n text ++ last ∷ [] = take_more text n 0 (omega arith) in
    let all : take (n + 1) text ≡ text = take_all (n + 1) text (omega arith) in
    record {
      front = take n text;
      last = last;
      is = sym all ∙ more;
      no_blank = last_no_blank text _ some p.no_trail refl;
      no_return = other is_plain_byte last 13 (each_passes is_plain_byte text n p.inside (omega arith)) refl;
    }
