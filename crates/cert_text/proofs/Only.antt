-- A text that is read as a certificate has the lines of this certificate, and nothing else.
use Rattle.std.proofs.Common.{◌≡◌, ◌⊎◌, inl, inr, ℕ, suc, ◌+◌, ◌-◌, ◌<◌, ◌≤◌, ◌^◌, ◌&&◌, ◌||◌, ◌==◌, codes, decimal, Bool, true, false, not, List, [], ◌∷◌, ◌++◌, length, get_or, map, take, drop, Option, Some, None, Result, Ok, Err, refl, sym, ap, ◌∙◌, subst, arith, append_assoc, length-append}
use Rattle.std.specs.Prelude.{if◌then◌else◌, cond, ℤ, pos, negsuc, nat_lt, nat_le, option_map, option_and_then, slice_index}
use Rattle.std.specs.Bool.{Decides}
use Rattle.std.specs.Fmt.{signed_decimal}
use Rattle.std.specs.List.{list_all, position_or_len, before_first, after_first}
use Rattle.std.specs.Option.{option_or}
use Rattle.std.specs.Str.{bytes_eq}
use Rattle.std.specs.Str.Lines.{lines}
use Rattle.std.proofs.lemmas.Bool.Decides.{Decides-eqb, nat_tests, not_from_Decides}
use Rattle.std.proofs.lemmas.Fmt.{decimal-digits_value}
use Rattle.std.proofs.lemmas.List.{append-nil}
use Rattle.std.proofs.lemmas.List.Folds.{list_all-append}
use Rattle.dp_base.specs.Bytes.{is_digit}
use Rattle.dp_model.specs.StepTexts.{step_text}
use Rattle.dp_model.specs.declared.answers.Claim.{Claim}
use Rattle.dp_model.specs.declared.answers.Claim.TheVariants as claims
use Rattle.dp_model.specs.declared.answers.Keep.{Keep}
use Rattle.dp_model.specs.declared.answers.Keep.TheVariants as keeps
use Rattle.dp_model.specs.declared.parts.Ground.{Ground}
use Rattle.dp_model.specs.declared.whole.Model.{Model}
use Rattle.step_names.specs.Lines.{bad_byte, is_blank_line}
use Rattle.step_names.specs.StepNames.{named_from, step_named}
use Rattle.cert_types.specs.Parts.{Parts}
use Rattle.cert_text.specs.ReadBack.{LawNothingElse, hides_none, is_keep}
use Rattle.cert_text.specs.Said.{begun, claimed, counted, ended, flagged, is_end, is_mark, keep_said, last_width, layer_begun, layered, listed, listing, made_from, next, no_layer, node_behind, node_said, or_bad, parted, placed, prune_said, pruned, read_from, target_said, unless_bad, unless_none, width_said, with_node, whole}
use Rattle.cert_text.specs.Texts.{cert_lines, claim_lines, end_line, flag_word, keep_line, layer_line, layer_lines, layers_lines, node_line, prune_line}
use Rattle.cert_text.specs.Words.{above, behind, below, cost_of, cost_said, few, is_number, is_plain, is_space, number_behind, number_said, read_on, word}
use Rattle.cert_types.specs.declared.nodes.CertNode.{CertNode}
use Rattle.cert_text.specs.declared.said.Body.{Body}
use Rattle.cert_text.specs.declared.said.Listing.{Listing}
use Rattle.cert_text.specs.declared.said.Said.{Said}
use Rattle.cert_text.specs.declared.said.Said.TheVariants as states
use Rattle.cert_text.specs.declared.said.Start.{Start}
use Rattle.cert_text.proofs.Fronts.{behind_only}
use Rattle.cert_text.proofs.Keeps.{Keeps, KeepsLayers, few_from_keeps, followed_by, mapped, next_keeps}
use Rattle.cert_text.proofs.Links.{and_left, and_right}
use Rattle.cert_text.proofs.ReadBack.{own}

-- ---- words

same_text : (xs ys : List ℕ) → bytes_eq xs ys ≡ true → xs ≡ ys
same_text [] [] h = refl
same_text [] (y ∷ ys) h = absurd (cc)
same_text (x ∷ xs) [] h = absurd (cc)
same_text (x ∷ xs) (y ∷ ys) h =
    let first : x ≡ y = (Decides-eqb x y).0 (and_left (x == y) (bytes_eq xs ys) h) in
    let rest : xs ≡ ys = same_text xs ys (and_right (x == y) (bytes_eq xs ys) h) in
    cc

less : (a b : ℕ) → nat_lt a b ≡ true → a < b
less a b h = grind (arith, nat_tests)

most : (a b : ℕ) → nat_le a b ≡ true → a ≤ b
most a b h = grind (arith, nat_tests)

plain_only : (text : List ℕ) → is_plain text ≡ true → get_or text 0 0 ≡ 48 → length text ≡ 1
plain_only text h first = by (length text == 1) (Decides-eqb (length text) 1) h
  where
    by : (test : Bool) → Decides test (length text ≡ 1) → (test || not (slice_index text 0 == 48)) ≡ true → length text ≡ 1
    by true decides is = decides.0 refl
    by false decides is = absurd (let same : (slice_index text 0 == 48) ≡ true = (Decides-eqb (slice_index text 0) 48).1 first in let other : not (slice_index text 0 == 48) ≡ true = is in (let turned : not true ≡ true = subst (λ (b : Bool). not b ≡ true) same other in cc))

number_only : (text : List ℕ) (n : ℕ) → number_said text ≡ Some n → n < 18446744073709551615 → text ≡ decimal n
number_only text n h small = by (is_number text) refl h
  where
    by : (test : Bool) → test ≡ is_number text → (if test then Some (few (read_on 0 text)) else None) ≡ Some n → text ≡ decimal n
    by false tests is = absurd (cc)
    by true tests is =
        let capped : few (read_on 0 text) ≡ n = cc in
        let value : read_on 0 text ≡ n = omega arith in
        let long = and_left (nat_lt 0 (length text)) (is_plain text && list_all is_digit text) (sym tests) in
        let rest = and_right (nat_lt 0 (length text)) (is_plain text && list_all is_digit text) (sym tests) in
        let fits : read_on 0 text < 2 ^ 64 = omega arith in
        sym (decimal-digits_value own text (and_right (is_plain text) (list_all is_digit text) rest) (less 0 (length text) long) (plain_only text (and_left (is_plain text) (list_all is_digit text) rest)) fits) ∙ ap decimal value

above_only : (n : ℕ) (c : ℤ) → above n ≡ Some c → (n ≤ 4611686018427387903) × (c ≡ pos n)
above_only n c h = by (nat_le n 4611686018427387903) refl h
  where
    by : (test : Bool) → test ≡ nat_le n 4611686018427387903 → (if test then Some (pos n) else None) ≡ Some c → (n ≤ 4611686018427387903) × (c ≡ pos n)
    by false tests is = absurd (cc)
    by true tests is = (most n 4611686018427387903 (sym tests), (cc))

below_only : (n : ℕ) (c : ℤ) → below n ≡ Some c → (0 < n) × (n ≤ 4611686018427387903) × (c ≡ negsuc (n - 1))
below_only n c h = by (nat_lt 0 n && nat_le n 4611686018427387903) refl h
  where
    by : (test : Bool) → test ≡ (nat_lt 0 n && nat_le n 4611686018427387903) → (if test then Some (negsuc (n - 1)) else None) ≡ Some c → (0 < n) × (n ≤ 4611686018427387903) × (c ≡ negsuc (n - 1))
    by false tests is = absurd (cc)
    by true tests is = (less 0 n (and_left (nat_lt 0 n) (nat_le n 4611686018427387903) (sym tests)), most n 4611686018427387903 (and_right (nat_lt 0 n) (nat_le n 4611686018427387903) (sym tests)), (cc))

cost_only : (text : List ℕ) (c : ℤ) → cost_said text ≡ Some c → text ≡ signed_decimal c
cost_only text c h = by (behind (codes "-") text) refl h
  where
    by : (o : Option (List ℕ)) → o ≡ behind (codes "-") text → cost_of o text ≡ Some c → text ≡ signed_decimal c
    by None told is =
        let number = followed_by above (number_said text) c is in
        let in_range = above_only number.0 c number.2 in
        number_only text number.0 number.1 (omega (arith, in_range.0)) ∙ ap signed_decimal (sym in_range.1)
    by (Some digits) told is =
        let number = followed_by below (number_said digits) c is in
        let in_range = below_only number.0 c number.2 in
        let front : text ≡ codes "-" ++ digits = behind_only (codes "-") text digits (sym told) in
        let one : number.0 ≡ suc (number.0 - 1) = omega (arith, in_range.0) in
        front
        ∙ ap (λ ds. codes "-" ++ ds) (number_only digits number.0 number.1 (omega (arith, in_range.1)) ∙ ap decimal one)
        ∙ ap signed_decimal (sym in_range.2)

named_one : (m : Model) (line : List ℕ) (at g : ℕ) (rest : Option ℕ) (test : Bool) → test ≡ bytes_eq (step_text m at) line → (rest ≡ Some g → step_text m g ≡ line) → option_or (if test then Some at else None) rest ≡ Some g → step_text m g ≡ line
named_one m line at g rest true tests later is = let same : at ≡ g = cc in subst (λ k. step_text m k ≡ line) same (same_text (step_text m at) line (sym tests))
named_one m line at g rest false tests later is = later is

named_only : (m : Model) (line : List ℕ) (gs : List Ground) (at g : ℕ) → named_from m at gs line ≡ Some g → step_text m g ≡ line
named_only m line [] at g h = absurd (cc)
named_only m line (x ∷ gs) at g h = named_one m line at g (named_from m (at + 1) gs line) (bytes_eq (step_text m at) line) refl (named_only m line gs (at + 1) g) h

step_only : (m : Model) (line : List ℕ) (g : ℕ) → step_named m line ≡ Some g → step_text m g ≡ line
step_only m line g h = named_only m line m.dp_ground 0 g h

-- ---- lines of the head

keep_only : (l : List ℕ) (keep : Keep) → keep_said l ≡ Some keep → l ≡ keep_line keep
keep_only l keep h = by (bytes_eq l (codes "keep layer")) (bytes_eq l (codes "keep all")) refl refl h
  where
    by : (a b : Bool) → a ≡ bytes_eq l (codes "keep layer") → b ≡ bytes_eq l (codes "keep all") → (if a then Some keeps.Layer else (if b then Some keeps.All else None)) ≡ Some keep → l ≡ keep_line keep
    by true b ea eb is = let same : keeps.Layer ≡ keep = cc in subst (λ (k : Keep). l ≡ keep_line k) same (same_text l (codes "keep layer") (sym ea))
    by false true ea eb is = let same : keeps.All ≡ keep = cc in subst (λ (k : Keep). l ≡ keep_line k) same (same_text l (codes "keep all") (sym eb))
    by false false ea eb is = absurd (cc)

prune_only : (l : List ℕ) (prune : Bool) → prune_said l ≡ Some prune → l ≡ prune_line prune
prune_only l prune h = by (bytes_eq l (codes "prune on")) (bytes_eq l (codes "prune off")) refl refl h
  where
    by : (a b : Bool) → a ≡ bytes_eq l (codes "prune on") → b ≡ bytes_eq l (codes "prune off") → (if a then Some true else (if b then Some false else None)) ≡ Some prune → l ≡ prune_line prune
    by true b ea eb is = let same : true ≡ prune = cc in subst (λ (k : Bool). l ≡ prune_line k) same (same_text l (codes "prune on") (sym ea))
    by false true ea eb is = let same : false ≡ prune = cc in subst (λ (k : Bool). l ≡ prune_line k) same (same_text l (codes "prune off") (sym eb))
    by false false ea eb is = absurd (cc)

-- ---- lines of nodes

target_only : (m : Model) (l : List ℕ) (node : CertNode) → target_said l ≡ Some node → node_line m node ≡ l
target_only m l node h = by (bytes_eq l (codes "node - open")) (bytes_eq l (codes "node - cut")) refl refl h
  where
    by : (a b : Bool) → a ≡ bytes_eq l (codes "node - open") → b ≡ bytes_eq l (codes "node - cut") → (if a then Some (record { made = None; cut = false }) else (if b then Some (record { made = None; cut = true }) else None)) ≡ Some node → node_line m node ≡ l
    by true b ea eb is =
        let same : record { made = None; cut = false } ≡ node = cc in
        subst (λ (n : CertNode). node_line m n ≡ l) same (sym (same_text l (codes "node - open") (sym ea)))
    by false true ea eb is =
        let same : record { made = None; cut = true } ≡ node = cc in
        subst (λ (n : CertNode). node_line m n ≡ l) same (sym (same_text l (codes "node - cut") (sym eb)))
    by false false ea eb is = absurd (cc)

flag_only : (m : Model) (text : List ℕ) (cut : Bool) (f : Bool × ℕ) → option_map (λ (g : ℕ). (cut, g)) (option_and_then (step_named m) (behind (flag_word cut ++ codes " ") text)) ≡ Some f → flag_word f.0 ++ (codes " " ++ step_text m f.1) ≡ text
flag_only m text cut f h =
    let named = mapped (λ (g : ℕ). (cut, g)) (option_and_then (step_named m) (behind (flag_word cut ++ codes " ") text)) f h in
    let rest = followed_by (step_named m) (behind (flag_word cut ++ codes " ") text) named.0 named.1 in
    let front : text ≡ (flag_word cut ++ codes " ") ++ rest.0 = behind_only (flag_word cut ++ codes " ") text rest.0 rest.1 in
    let step : step_text m named.0 ≡ rest.0 = step_only m rest.0 named.0 rest.2 in
    ap (λ (x : Bool × ℕ). flag_word x.0 ++ (codes " " ++ step_text m x.1)) named.2
    ∙ ap (λ t. flag_word cut ++ (codes " " ++ t)) step
    ∙ sym (append_assoc (flag_word cut) (codes " ") rest.0)
    ∙ sym front

flagged_either : (o p : Option (Bool × ℕ)) (f : Bool × ℕ) (P : Type 0) → (o ≡ Some f → P) → (p ≡ Some f → P) → option_or o p ≡ Some f → P
flagged_either None p f P first second h = second h
flagged_either (Some x) p f P first second h = first h

flagged_only : (m : Model) (text : List ℕ) (f : Bool × ℕ) → flagged m text ≡ Some f → flag_word f.0 ++ (codes " " ++ step_text m f.1) ≡ text
flagged_only m text f h =
    flagged_either (option_map (λ (g : ℕ). (false, g)) (option_and_then (step_named m) (behind (codes "open ") text))) (option_map (λ (g : ℕ). (true, g)) (option_and_then (step_named m) (behind (codes "cut ") text))) f (flag_word f.0 ++ (codes " " ++ step_text m f.1) ≡ text)
    (flag_only m text false f) (flag_only m text true f) h

-- a word, a space and the rest
cut_at : (x p : ℕ) (t : List ℕ) → take (1 + p) (x ∷ t) ++ 32 ∷ drop (1 + p + 1) (x ∷ t) ≡ x ∷ (take p t ++ 32 ∷ drop (p + 1) t)
cut_at x p t =
    let first : 1 + p ≡ suc p = omega arith in
    let second : 1 + p + 1 ≡ suc (p + 1) = omega arith in
    ap (λ k. take k (x ∷ t) ++ 32 ∷ drop (1 + p + 1) (x ∷ t)) first ∙ ap (λ k. take (suc p) (x ∷ t) ++ 32 ∷ drop k (x ∷ t)) second

space_step : (x : ℕ) (t : List ℕ) (test : Bool) → Decides test (x ≡ 32) → (position_or_len is_space t < length t → t ≡ before_first is_space t ++ 32 ∷ after_first is_space t) → cond (not test) (1 + position_or_len is_space t) 0 < length (x ∷ t)
    → x ∷ t ≡ take (cond (not test) (1 + position_or_len is_space t) 0) (x ∷ t) ++ 32 ∷ drop (cond (not test) (1 + position_or_len is_space t) 0 + 1) (x ∷ t)
space_step x t true decides later within = let same : x ≡ 32 = decides.0 refl in ap (λ b. b ∷ t) same
space_step x t false decides later within =
    let rest : t ≡ before_first is_space t ++ 32 ∷ after_first is_space t = later (omega (arith, within)) in
    ap (λ xs. x ∷ xs) rest ∙ sym (cut_at x (position_or_len is_space t) t)

space_only : (t : List ℕ) → position_or_len is_space t < length t → t ≡ before_first is_space t ++ 32 ∷ after_first is_space t
space_only [] within = absurd (omega (arith, within))
space_only (x ∷ t) within = space_step x t (x == 32) (Decides-eqb x 32) (space_only t) within

word_only : (t : List ℕ) (w : List ℕ × List ℕ) → word t ≡ Some w → t ≡ w.0 ++ 32 ∷ w.1
word_only t w h = by (nat_lt (position_or_len is_space t) (length t)) refl h
  where
    by : (test : Bool) → test ≡ nat_lt (position_or_len is_space t) (length t) → (if test then Some (before_first is_space t, after_first is_space t) else None) ≡ Some w → t ≡ w.0 ++ 32 ∷ w.1
    by false tests is = absurd (cc)
    by true tests is =
        let same : (before_first is_space t, after_first is_space t) ≡ w = cc in
        subst (λ (x : List ℕ × List ℕ). t ≡ x.0 ++ 32 ∷ x.1) same (space_only t (less (position_or_len is_space t) (length t) (sym tests)))

made_only : (m : Model) (width parent : ℕ) (text : List ℕ) (node : CertNode) → made_from m width parent text ≡ Some node → (parent < width) × (node_line m node ≡ codes "node " ++ (decimal parent ++ 32 ∷ text))
made_only m width parent text node h = by (nat_lt parent width) refl h
  where
    by : (test : Bool) → test ≡ nat_lt parent width → (if test then option_map (λ (f : Bool × ℕ). record { made = Some (record { parent = parent; dp_ground = f.1 }); cut = f.0 }) (flagged m text) else None) ≡ Some node → (parent < width) × (node_line m node ≡ codes "node " ++ (decimal parent ++ 32 ∷ text))
    by false tests is = absurd (cc)
    by true tests is =
        let made = mapped (λ (f : Bool × ℕ). record { made = Some (record { parent = parent; dp_ground = f.1 }); cut = f.0 }) (flagged m text) node is in
        (less parent width (sym tests), ap (node_line m) made.2 ∙ ap (λ t. codes "node " ++ (decimal parent ++ 32 ∷ t)) (flagged_only m text made.0 made.1))

node_only : (m : Model) (width : ℕ) (l : List ℕ) (node : CertNode) → width < 4294967296 → node_said m width l ≡ Some node → node_line m node ≡ l
node_only m width l node small h =
    let words = followed_by (parted m width) (option_and_then word (behind (codes "node ") l)) node h in
    let text = followed_by word (behind (codes "node ") l) words.0 words.1 in
    let parent = followed_by (λ (parent : ℕ). made_from m width parent words.0.1) (number_said words.0.0) node words.2 in
    let made = made_only m width parent.0 words.0.1 node parent.2 in
    let number : words.0.0 ≡ decimal parent.0 = number_only words.0.0 parent.0 parent.1 (omega (arith, made.0, small)) in
    made.1
    ∙ ap (λ ds. codes "node " ++ (ds ++ 32 ∷ words.0.1)) (sym number)
    ∙ ap (λ t. codes "node " ++ t) (sym (word_only text.0 words.0 text.2))
    ∙ sym (behind_only (codes "node ") l text.0 text.1)

behind_node_only : (m : Model) (layers : List (List CertNode)) (l : List ℕ) (node : CertNode) → last_width layers < 4294967296 → node_behind m layers l ≡ Some node → node_line m node ≡ l
behind_node_only m layers l node small h = by (length layers == 0) h
  where
    by : (test : Bool) → (if test then target_said l else node_said m (last_width layers) l) ≡ Some node → node_line m node ≡ l
    by true is = target_only m l node is
    by false is = node_only m (last_width layers) l node small is

-- ---- the lines from the first one of a certificate on

abbrev head_of : Start → List (List ℕ)
head_of s = codes "certificate 1" ∷ keep_line s.keep ∷ prune_line s.prune ∷ []

abbrev claim_line : ℤ → List ℕ
claim_line c = codes "claim optimal " ++ signed_decimal c

abbrev open_line : (at : ℕ) → (text : List ℕ) → List ℕ
open_line at text = (codes "layer " ++ decimal at ++ codes " ") ++ text

-- the lines of the whole layers, and of the one that is not whole, whose number of nodes was read from this text
record SpellsLayers (m : Model) (s : Start) (c : Claim) (b : Body) (so : List (List ℕ)) : Type 0 where
  closed : b.due ≡ 0 → (b.nodes ≡ []) × (so ≡ head_of s ++ (claim_lines m c ++ layers_lines m 0 b.layers))
  opened : 0 < b.due → (text : List ℕ) × (number_said text ≡ Some (length b.nodes + b.due)) × (so ≡ head_of s ++ (claim_lines m c ++ (layers_lines m 0 b.layers ++ open_line (length b.layers) text ∷ map (node_line m) b.nodes)))

-- what was said was said by these lines
abbrev Spells : Model → Said → (so : List (List ℕ)) → Type 0
Spells m (states.Nothing marked) so = ⊥
Spells m (states.Kept first keep) so = so ≡ codes "certificate 1" ∷ keep_line keep ∷ []
Spells m (states.Pruned s) so = so ≡ head_of s
Spells m (states.Claimed s c) so = so ≡ head_of s ++ claim_line c ∷ []
Spells m (states.Steps s l) so = (text : List ℕ) × (0 < l.due) × (number_said text ≡ Some (length l.steps + l.due)) × (so ≡ head_of s ++ (claim_line l.cost ∷ (codes "steps " ++ text) ∷ map (step_text m) l.steps))
Spells m (states.Layers s c b) so = SpellsLayers m s c b so
Spells m (states.Ended s c layers) so = (back : List (List ℕ)) × (list_all is_blank_line back ≡ true) × (so ≡ (head_of s ++ (claim_lines m c ++ (layers_lines m 0 layers ++ end_line (length layers) ∷ []))) ++ back)

map_more : {A B : Type 0} (f : A → B) (xs : List A) (x : A) → map f (xs ++ x ∷ []) ≡ map f xs ++ f x ∷ []
map_more f [] x = refl
map_more f (y ∷ xs) x = ap (λ ys. f y ∷ ys) (map_more f xs x)

layers_more : (m : Model) (at : ℕ) (layers : List (List CertNode)) (nodes : List CertNode) → layers_lines m at (layers ++ nodes ∷ []) ≡ layers_lines m at layers ++ layer_lines m (at + length layers) nodes
layers_more m at [] nodes = append-nil (layer_lines m at nodes) ∙ ap (λ k. layer_lines m k nodes) (let e : at ≡ at + 0 = omega arith in e)
layers_more m at (x ∷ layers) nodes =
    ap (λ xs. layer_lines m at x ++ xs) (layers_more m (at + 1) layers nodes)
    ∙ sym (append_assoc (layer_lines m at x) (layers_lines m (at + 1) layers) (layer_lines m (at + 1 + length layers) nodes))
    ∙ ap (λ k. (layer_lines m at x ++ layers_lines m (at + 1) layers) ++ layer_lines m k nodes) (let e : at + 1 + length layers ≡ at + length (x ∷ layers) = omega arith in e)

moved : (m : Model) (later said : Said) (so : List (List ℕ)) → later ≡ said → Spells m said so → Spells m later so
moved m later said so is h = subst (λ (x : Said). Spells m x so) (sym is) h

-- ---- one more line

listing_spells : (m : Model) (s : Start) (cost : ℤ) (steps : List ℕ) (due : ℕ) (text : List ℕ) (so : List (List ℕ)) → length steps < 4294967296 → number_said text ≡ Some (length steps + due) → so ≡ head_of s ++ (claim_line cost ∷ (codes "steps " ++ text) ∷ map (step_text m) steps) → Spells m (listing s (record { cost = cost; steps = steps; due = due })) so
listing_spells m s cost steps due text so small number is = by (due == 0) (Decides-eqb due 0)
  where
    by : (test : Bool) → Decides test (due ≡ 0) → Spells m (if test then states.Layers s (claims.Optimal (record { cost = cost; steps = steps })) no_layer else states.Steps s (record { cost = cost; steps = steps; due = due })) so
    by false decides = (text, (let other : due ≡ 0 → ⊥ = not_from_Decides false decides refl in omega (arith, other)), number, is)
    by true decides =
        let none : due ≡ 0 = decides.0 refl in
        let count : length steps + due ≡ length steps = omega arith in
        let written : text ≡ decimal (length steps) = number_only text (length steps) (number ∙ ap Some count) (omega (arith, small)) in
        record {
          closed = λ _. (refl, is ∙ ap (λ t. head_of s ++ (claim_line cost ∷ (codes "steps " ++ t) ∷ map (step_text m) steps)) written ∙ ap (λ xs. head_of s ++ xs) (sym (append-nil (claim_line cost ∷ (codes "steps " ++ decimal (length steps)) ∷ map (step_text m) steps))));
          opened = λ some. absurd (omega (arith, some));
        }

pruned_spells : (m : Model) (first : ℕ) (keep : Keep) (l : List ℕ) (later : Said) (so : List (List ℕ)) → so ≡ codes "certificate 1" ∷ keep_line keep ∷ [] → pruned first keep l ≡ Some later → Spells m later (so ++ l ∷ [])
pruned_spells m first keep l later so is h =
    let one = mapped (λ (prune : Bool). states.Pruned (record { first = first; keep = keep; prune = prune })) (prune_said l) later h in
    moved m later (states.Pruned (record { first = first; keep = keep; prune = one.0 })) (so ++ l ∷ []) one.2
    (ap (λ xs. xs ++ l ∷ []) is ∙ ap (λ x. codes "certificate 1" ∷ keep_line keep ∷ x ∷ []) (prune_only l one.0 one.1))

claimed_spells : (m : Model) (s : Start) (l : List ℕ) (later : Said) (so : List (List ℕ)) → so ≡ head_of s → claimed s l ≡ Some later → Spells m later (so ++ l ∷ [])
claimed_spells m s l later so is h = by (bytes_eq l (codes "claim infeasible")) refl h
  where
    by : (test : Bool) → test ≡ bytes_eq l (codes "claim infeasible") → (if test then Some (states.Layers s claims.Infeasible no_layer) else option_map (λ (cost : ℤ). states.Claimed s cost) (option_and_then cost_said (behind (codes "claim optimal ") l))) ≡ Some later → Spells m later (so ++ l ∷ [])
    by true tests told =
        let same : states.Layers s claims.Infeasible no_layer ≡ later = cc in
        let line : l ≡ codes "claim infeasible" = same_text l (codes "claim infeasible") (sym tests) in
        subst (λ (x : Said). Spells m x (so ++ l ∷ [])) same
        (record {
          closed = λ _. (refl, ap (λ xs. xs ++ l ∷ []) is ∙ ap (λ x. head_of s ++ x ∷ []) line);
          opened = λ some. absurd (omega (arith, some));
        })
    by false tests told =
        let one = mapped (λ (cost : ℤ). states.Claimed s cost) (option_and_then cost_said (behind (codes "claim optimal ") l)) later told in
        let text = followed_by cost_said (behind (codes "claim optimal ") l) one.0 one.1 in
        let line : l ≡ claim_line one.0 = behind_only (codes "claim optimal ") l text.0 text.1 ∙ ap (λ t. codes "claim optimal " ++ t) (cost_only text.0 one.0 text.2) in
        moved m later (states.Claimed s one.0) (so ++ l ∷ []) one.2 (ap (λ xs. xs ++ l ∷ []) is ∙ ap (λ x. head_of s ++ x ∷ []) line)

counted_spells : (m : Model) (s : Start) (cost : ℤ) (l : List ℕ) (later : Said) (so : List (List ℕ)) → so ≡ head_of s ++ claim_line cost ∷ [] → counted s cost l ≡ Some later → Spells m later (so ++ l ∷ [])
counted_spells m s cost l later so is h =
    let one = mapped (λ (due : ℕ). listing s (record { cost = cost; steps = []; due = due })) (number_behind (codes "steps ") l) later h in
    let text = followed_by number_said (behind (codes "steps ") l) one.0 one.1 in
    let line : l ≡ codes "steps " ++ text.0 = behind_only (codes "steps ") l text.0 text.1 in
    let count : one.0 ≡ 0 + one.0 = omega arith in
    moved m later (listing s (record { cost = cost; steps = []; due = one.0 })) (so ++ l ∷ []) one.2
    (listing_spells m s cost [] one.0 text.0 (so ++ l ∷ []) (omega arith) (text.2 ∙ ap Some count) (ap (λ xs. xs ++ l ∷ []) is ∙ ap (λ x. head_of s ++ (claim_line cost ∷ x ∷ [])) line))

listed_spells : (m : Model) (s : Start) (cost : ℤ) (steps : List ℕ) (due : ℕ) (l : List ℕ) (later : Said) (so : List (List ℕ)) (text : List ℕ) → 0 < due → length steps + 1 < 4294967296 → number_said text ≡ Some (length steps + due) → so ≡ head_of s ++ (claim_line cost ∷ (codes "steps " ++ text) ∷ map (step_text m) steps) → listed m s (record { cost = cost; steps = steps; due = due }) l ≡ Some later → Spells m later (so ++ l ∷ [])
listed_spells m s cost steps due l later so text some small number is h =
    let one = mapped (λ (g : ℕ). listing s (record { cost = cost; steps = steps ++ g ∷ []; due = due - 1 })) (step_named m l) later h in
    let line : step_text m one.0 ≡ l = step_only m l one.0 one.1 in
    let longer : length (steps ++ one.0 ∷ []) ≡ length steps + 1 = length-append steps (one.0 ∷ []) in
    let count : length steps + due ≡ length (steps ++ one.0 ∷ []) + (due - 1) = omega (arith, longer) in
    let few : length (steps ++ one.0 ∷ []) < 4294967296 = omega (arith, longer) in
    moved m later (listing s (record { cost = cost; steps = steps ++ one.0 ∷ []; due = due - 1 })) (so ++ l ∷ []) one.2
    (listing_spells m s cost (steps ++ one.0 ∷ []) (due - 1) text (so ++ l ∷ []) few (number ∙ ap Some count)
    (ap (λ xs. xs ++ l ∷ []) is
    ∙ ap (λ x. head_of s ++ (claim_line cost ∷ (codes "steps " ++ text) ∷ (map (step_text m) steps ++ x ∷ []))) (sym line)
    ∙ ap (λ xs. head_of s ++ (claim_line cost ∷ (codes "steps " ++ text) ∷ xs)) (sym (map_more (step_text m) steps one.0))))

-- lines behind those of the claim and of the whole layers
joined : (s : Start) (claim layers : List (List ℕ)) (xs ys : List (List ℕ)) → (head_of s ++ (claim ++ (layers ++ xs))) ++ ys ≡ head_of s ++ (claim ++ (layers ++ (xs ++ ys)))
joined s claim layers xs ys = ap (λ zs. head_of s ++ zs) (append_assoc claim (layers ++ xs) ys ∙ ap (λ zs. claim ++ zs) (append_assoc layers xs ys))

unless_only : (o : Option ℕ) (due : ℕ) → option_and_then unless_none o ≡ Some due → (o ≡ Some due) × (0 < due)
unless_only None due h = absurd (cc)
unless_only (Some x) due h = by (x == 0) (Decides-eqb x 0) h
  where
    by : (test : Bool) → Decides test (x ≡ 0) → (if test then None else Some x) ≡ Some due → (Some x ≡ Some due) × (0 < due)
    by true decides is = absurd (cc)
    by false decides is = (is, (let same : x ≡ due = cc in let other : x ≡ 0 → ⊥ = not_from_Decides false decides refl in omega (arith, other)))

begun_spells : (m : Model) (s : Start) (c : Claim) (layers : List (List CertNode)) (l : List ℕ) (later : Said) (so : List (List ℕ)) → so ≡ head_of s ++ (claim_lines m c ++ layers_lines m 0 layers) → layer_begun s c layers l ≡ Some later → Spells m later (so ++ l ∷ [])
begun_spells m s c layers l later so is h = by (is_end (length layers) l) refl h
  where
    shown : (x : List ℕ) → l ≡ x → so ++ l ∷ [] ≡ head_of s ++ (claim_lines m c ++ (layers_lines m 0 layers ++ x ∷ []))
    shown x line =
        ap (λ xs. xs ++ l ∷ []) is
        ∙ ap (λ zs. head_of s ++ zs) (append_assoc (claim_lines m c) (layers_lines m 0 layers) (l ∷ []))
        ∙ ap (λ y. head_of s ++ (claim_lines m c ++ (layers_lines m 0 layers ++ y ∷ []))) line

    by : (test : Bool) → test ≡ is_end (length layers) l → (if test then Some (states.Ended s c layers) else option_map (λ (due : ℕ). states.Layers s c (record { layers = layers; nodes = []; due = due })) (width_said (length layers) l)) ≡ Some later → Spells m later (so ++ l ∷ [])
    by true tests told =
        let same : states.Ended s c layers ≡ later = cc in
        let line : l ≡ end_line (length layers) = same_text l (end_line (length layers)) (sym tests) in
        subst (λ (x : Said). Spells m x (so ++ l ∷ [])) same ([], refl, shown (end_line (length layers)) line ∙ sym (append-nil (head_of s ++ (claim_lines m c ++ (layers_lines m 0 layers ++ end_line (length layers) ∷ [])))))
    by false tests told =
        let front = codes "layer " ++ decimal (length layers) ++ codes " " in
        let one = mapped (λ (due : ℕ). states.Layers s c (record { layers = layers; nodes = []; due = due })) (width_said (length layers) l) later told in
        let width = unless_only (number_behind front l) one.0 one.1 in
        let text = followed_by number_said (behind front l) one.0 width.0 in
        let line : l ≡ open_line (length layers) text.0 = behind_only front l text.0 text.1 in
        let count : one.0 ≡ 0 + one.0 = omega arith in
        moved m later (states.Layers s c (record { layers = layers; nodes = []; due = one.0 })) (so ++ l ∷ []) one.2
        (record {
          closed = λ none. absurd (omega (arith, none, width.1));
          opened = λ _. (text.0, text.2 ∙ ap Some count, shown (open_line (length layers) text.0) line);
        })

node_spells : (m : Model) (s : Start) (c : Claim) (layers : List (List CertNode)) (nodes : List CertNode) (due : ℕ) (node : CertNode) (l : List ℕ) (so : List (List ℕ)) (text : List ℕ) → 0 < due → length nodes + 1 < 4294967296 → node_line m node ≡ l → number_said text ≡ Some (length nodes + due)
    → so ≡ head_of s ++ (claim_lines m c ++ (layers_lines m 0 layers ++ open_line (length layers) text ∷ map (node_line m) nodes))
    → SpellsLayers m s c (with_node (record { layers = layers; nodes = nodes; due = due }) node) (so ++ l ∷ [])
node_spells m s c layers nodes due node l so text some small line number is = by (due == 1) (Decides-eqb due 1)
  where
    all : List CertNode
    all = nodes ++ node ∷ []

    longer : length all ≡ length nodes + 1
    longer = length-append nodes (node ∷ [])

    shown : so ++ l ∷ [] ≡ head_of s ++ (claim_lines m c ++ (layers_lines m 0 layers ++ open_line (length layers) text ∷ map (node_line m) all))
    shown =
        ap (λ xs. xs ++ l ∷ []) is
        ∙ joined s (claim_lines m c) (layers_lines m 0 layers) (open_line (length layers) text ∷ map (node_line m) nodes) (l ∷ [])
        ∙ ap (λ x. head_of s ++ (claim_lines m c ++ (layers_lines m 0 layers ++ open_line (length layers) text ∷ (map (node_line m) nodes ++ x ∷ [])))) (sym line)
        ∙ ap (λ xs. head_of s ++ (claim_lines m c ++ (layers_lines m 0 layers ++ open_line (length layers) text ∷ xs))) (sym (map_more (node_line m) nodes node))

    by : (test : Bool) → Decides test (due ≡ 1) → SpellsLayers m s c (if test then record { layers = layers ++ all ∷ []; nodes = []; due = 0 } else record { layers = layers; nodes = all; due = due - 1 }) (so ++ l ∷ [])
    by true decides =
        let one : due ≡ 1 = decides.0 refl in
        let count : length nodes + due ≡ length all = omega (arith, longer, one) in
        let written : text ≡ decimal (length all) = number_only text (length all) (number ∙ ap Some count) (omega (arith, longer, small)) in
        let spelled : open_line (length layers) text ≡ layer_line (length layers) all = ap (open_line (length layers)) written ∙ ap (λ x. codes "layer " ++ x) (append_assoc (decimal (length layers)) (codes " ") (decimal (length all))) in
        record {
          closed = λ _. (
            refl,
            shown
                ∙ ap (λ x. head_of s ++ (claim_lines m c ++ (layers_lines m 0 layers ++ x ∷ map (node_line m) all))) spelled
                ∙ ap (λ k. head_of s ++ (claim_lines m c ++ (layers_lines m 0 layers ++ layer_lines m k all))) (let e : length layers ≡ 0 + length layers = omega arith in e)
                ∙ ap (λ xs. head_of s ++ (claim_lines m c ++ xs)) (sym (layers_more m 0 layers all)),
          );
          opened = λ more. absurd (omega (arith, more));
        }
    by false decides =
        let other : due ≡ 1 → ⊥ = not_from_Decides false decides refl in
        let count : length nodes + due ≡ length all + (due - 1) = omega (arith, longer, some) in
        record {
          closed = λ none. absurd (omega (arith, none, some, other));
          opened = λ _. (text, number ∙ ap Some count, shown);
        }

layered_spells : (m : Model) (n : ℕ) (s : Start) (c : Claim) (b : Body) (l : List ℕ) (later : Said) (so : List (List ℕ)) → KeepsLayers m n s c b → n + 1 < 4294967296 → SpellsLayers m s c b so → layered m s c b l ≡ Some later → Spells m later (so ++ l ∷ [])
layered_spells m n s c b l later so keeps small spelled h = by (b.due == 0) (Decides-eqb b.due 0) h
  where
    by : (test : Bool) → Decides test (b.due ≡ 0) → (if test then layer_begun s c b.layers l else option_map (λ (node : CertNode). states.Layers s c (with_node b node)) (node_behind m b.layers l)) ≡ Some later → Spells m later (so ++ l ∷ [])
    by true decides told = begun_spells m s c b.layers l later so (spelled.closed (decides.0 refl)).1 told
    by false decides told =
        let other : b.due ≡ 0 → ⊥ = not_from_Decides false decides refl in
        let some : 0 < b.due = omega (arith, other) in
        let one = mapped (λ (node : CertNode). states.Layers s c (with_node b node)) (node_behind m b.layers l) later told in
        let under_way = spelled.opened some in
        let lines_read = keeps.opened some in
        let narrow : last_width b.layers < 4294967296 = few_from_keeps m n (states.Layers s c b) (omega (arith, small)) keeps in
        let line : node_line m one.0 ≡ l = behind_node_only m b.layers l one.0 narrow one.1 in
        moved m later (states.Layers s c (with_node b one.0)) (so ++ l ∷ []) one.2
        (node_spells m s c b.layers b.nodes b.due one.0 l so under_way.0 some (omega (arith, small, lines_read)) line under_way.1 under_way.2)

ended_spells : (m : Model) (s : Start) (c : Claim) (layers : List (List CertNode)) (l : List ℕ) (later : Said) (so : List (List ℕ)) → Spells m (states.Ended s c layers) so → ended s c layers l ≡ Some later → Spells m later (so ++ l ∷ [])
ended_spells m s c layers l later so spelled h = by (is_blank_line l) refl h
  where
    text : List (List ℕ)
    text = head_of s ++ (claim_lines m c ++ (layers_lines m 0 layers ++ end_line (length layers) ∷ []))

    by : (test : Bool) → test ≡ is_blank_line l → (if test then Some (states.Ended s c layers) else None) ≡ Some later → Spells m later (so ++ l ∷ [])
    by false tests told = absurd (cc)
    by true tests told =
        let same : states.Ended s c layers ≡ later = cc in
        let back = spelled.0 ++ l ∷ [] in
        let one : list_all is_blank_line (l ∷ []) ≡ true = rw (sym tests) refl in
        let blank : list_all is_blank_line back ≡ true = list_all-append is_blank_line spelled.0 (l ∷ []) ∙ ap (λ (b : Bool). b && list_all is_blank_line (l ∷ [])) spelled.1 ∙ one in
        subst (λ (x : Said). Spells m x (so ++ l ∷ [])) same (back, blank, ap (λ xs. xs ++ l ∷ []) spelled.2 ∙ append_assoc text spelled.0 (l ∷ []))

next_spells : (m : Model) (n : ℕ) (said : Said) (l : List ℕ) (later : Said) (so : List (List ℕ)) → Keeps m n said → n + 1 < 4294967296 → Spells m said so → next m (n + 1) said l ≡ Some later → Spells m later (so ++ l ∷ [])
next_spells m n (states.Nothing marked) l later so keeps small spelled h = absurd spelled
next_spells m n (states.Kept first keep) l later so keeps small spelled h = pruned_spells m first keep l later so spelled h
next_spells m n (states.Pruned s) l later so keeps small spelled h = claimed_spells m s l later so spelled h
next_spells m n (states.Claimed s c) l later so keeps small spelled h = counted_spells m s c l later so spelled h
next_spells m n (states.Steps s list) l later so keeps small spelled h = listed_spells m s list.cost list.steps list.due l later so spelled.0 spelled.1 (omega (arith, small, keeps.0)) spelled.2 spelled.3 h
next_spells m n (states.Layers s c b) l later so keeps small spelled h = layered_spells m n s c b l later so keeps small spelled h
next_spells m n (states.Ended s c layers) l later so keeps small spelled h = ended_spells m s c layers l later so spelled h

-- ---- the whole

or_bad_some : {A : Type 0} (n : ℕ) (o : Option Said) (f : Said → Result A ℕ) (x : A) → or_bad n o f ≡ Ok x → (later : Said) × (o ≡ Some later) × (f later ≡ Ok x)
or_bad_some n None f x h = absurd (cc)
or_bad_some n (Some later) f x h = (later, refl, h)

whole_only : (m : Model) (n number : ℕ) (said : Said) (p : Parts) (so : List (List ℕ)) → Spells m said so → whole number said ≡ Ok p → (back : List (List ℕ)) × (list_all is_blank_line back ≡ true) × (so ≡ cert_lines m p ++ back)
whole_only m n number (states.Nothing marked) p so spelled h = absurd spelled
whole_only m n number (states.Kept first keep) p so spelled h = absurd (cc)
whole_only m n number (states.Pruned s) p so spelled h = absurd (cc)
whole_only m n number (states.Claimed s c) p so spelled h = absurd (cc)
whole_only m n number (states.Steps s l) p so spelled h = absurd (cc)
whole_only m n number (states.Layers s c b) p so spelled h = absurd (cc)
whole_only m n number (states.Ended s c layers) p so spelled h =
    let parts : Parts = record { first = s.first; keep = s.keep; prune = s.prune; claim = c; layers = layers } in
    let same : parts ≡ p = cc in
    (spelled.0, spelled.1, subst (λ (q : Parts). so ≡ cert_lines m q ++ spelled.0) same spelled.2)

rest_only : (m : Model) (n : ℕ) (said : Said) (so ls : List (List ℕ)) (p : Parts) → Keeps m n said → n + length ls < 4294967296 → Spells m said so → read_from m (n + 1) said ls ≡ Ok p → (back : List (List ℕ)) × (list_all is_blank_line back ≡ true) × (so ++ ls ≡ cert_lines m p ++ back)
rest_only m n said so [] p keeps small spelled h =
    let told = whole_only m n (n + 1) said p so spelled h in
    (told.0, told.1, append-nil so ∙ told.2)
rest_only m n said so (l ∷ ls) p keeps small spelled h =
    let one = or_bad_some (n + 1) (next m (n + 1) said l) (λ (later : Said). read_from m (n + 1 + 1) later ls) p h in
    let fits : n + 1 < 4294967296 = omega (arith, small) in
    let fewer : n + 1 + length ls < 4294967296 = omega (arith, small) in
    let told = rest_only m (n + 1) one.0 (so ++ l ∷ []) ls p (next_keeps m n said l one.0 keeps one.1) fewer (next_spells m n said l one.0 so keeps fits spelled one.1) one.2 in
    (told.0, told.1, sym (append_assoc so (l ∷ []) ls) ∙ told.2)

-- ---- the line in which it begins

abbrev first_of : Said → ℕ
first_of (states.Nothing marked) = 0
first_of (states.Kept first keep) = first
first_of (states.Pruned s) = s.first
first_of (states.Claimed s c) = s.first
first_of (states.Steps s l) = s.first
first_of (states.Layers s c b) = s.first
first_of (states.Ended s c layers) = s.first

listing_first : (s : Start) (l : Listing) → first_of (listing s l) ≡ s.first
listing_first s l = by (l.due == 0)
  where
    by : (test : Bool) → first_of (if test then states.Layers s (claims.Optimal (record { cost = l.cost; steps = l.steps })) no_layer else states.Steps s l) ≡ s.first
    by true = refl
    by false = refl

claimed_first : (s : Start) (l : List ℕ) (later : Said) → claimed s l ≡ Some later → first_of later ≡ s.first
claimed_first s l later h = by (bytes_eq l (codes "claim infeasible")) h
  where
    by : (test : Bool) → (if test then Some (states.Layers s claims.Infeasible no_layer) else option_map (λ (cost : ℤ). states.Claimed s cost) (option_and_then cost_said (behind (codes "claim optimal ") l))) ≡ Some later → first_of later ≡ s.first
    by true told = let same : states.Layers s claims.Infeasible no_layer ≡ later = cc in ap first_of (sym same)
    by false told = ap first_of (mapped (λ (cost : ℤ). states.Claimed s cost) (option_and_then cost_said (behind (codes "claim optimal ") l)) later told).2

begun_first : (s : Start) (c : Claim) (layers : List (List CertNode)) (l : List ℕ) (later : Said) → layer_begun s c layers l ≡ Some later → first_of later ≡ s.first
begun_first s c layers l later h = by (is_end (length layers) l) h
  where
    by : (test : Bool) → (if test then Some (states.Ended s c layers) else option_map (λ (due : ℕ). states.Layers s c (record { layers = layers; nodes = []; due = due })) (width_said (length layers) l)) ≡ Some later → first_of later ≡ s.first
    by true told = let same : states.Ended s c layers ≡ later = cc in ap first_of (sym same)
    by false told = ap first_of (mapped (λ (due : ℕ). states.Layers s c (record { layers = layers; nodes = []; due = due })) (width_said (length layers) l) later told).2

layered_first : (m : Model) (s : Start) (c : Claim) (b : Body) (l : List ℕ) (later : Said) → layered m s c b l ≡ Some later → first_of later ≡ s.first
layered_first m s c b l later h = by (b.due == 0) h
  where
    by : (test : Bool) → (if test then layer_begun s c b.layers l else option_map (λ (node : CertNode). states.Layers s c (with_node b node)) (node_behind m b.layers l)) ≡ Some later → first_of later ≡ s.first
    by true told = begun_first s c b.layers l later told
    by false told = ap first_of (mapped (λ (node : CertNode). states.Layers s c (with_node b node)) (node_behind m b.layers l) later told).2

ended_first : (s : Start) (c : Claim) (layers : List (List CertNode)) (l : List ℕ) (later : Said) → ended s c layers l ≡ Some later → first_of later ≡ s.first
ended_first s c layers l later h = by (is_blank_line l) h
  where
    by : (test : Bool) → (if test then Some (states.Ended s c layers) else None) ≡ Some later → first_of later ≡ s.first
    by true told = let same : states.Ended s c layers ≡ later = cc in ap first_of (sym same)
    by false told = absurd (cc)

next_first : (m : Model) (n : ℕ) (said : Said) (l : List ℕ) (later : Said) (so : List (List ℕ)) → Spells m said so → next m n said l ≡ Some later → first_of later ≡ first_of said
next_first m n (states.Nothing marked) l later so spelled h = absurd spelled
next_first m n (states.Kept first keep) l later so spelled h = ap first_of (mapped (λ (prune : Bool). states.Pruned (record { first = first; keep = keep; prune = prune })) (prune_said l) later h).2
next_first m n (states.Pruned s) l later so spelled h = claimed_first s l later h
next_first m n (states.Claimed s c) l later so spelled h =
    let one = mapped (λ (due : ℕ). listing s (record { cost = c; steps = []; due = due })) (number_behind (codes "steps ") l) later h in
    ap first_of one.2 ∙ listing_first s (record { cost = c; steps = []; due = one.0 })
next_first m n (states.Steps s list) l later so spelled h =
    let one = mapped (λ (g : ℕ). listing s (record { cost = list.cost; steps = list.steps ++ g ∷ []; due = list.due - 1 })) (step_named m l) later h in
    ap first_of one.2 ∙ listing_first s (record { cost = list.cost; steps = list.steps ++ one.0 ∷ []; due = list.due - 1 })
next_first m n (states.Layers s c b) l later so spelled h = layered_first m s c b l later h
next_first m n (states.Ended s c layers) l later so spelled h = ended_first s c layers l later h

whole_first : (m : Model) (number : ℕ) (said : Said) (p : Parts) → whole number said ≡ Ok p → p.first ≡ first_of said
whole_first m number (states.Nothing marked) p h = absurd (cc)
whole_first m number (states.Kept first keep) p h = absurd (cc)
whole_first m number (states.Pruned s) p h = absurd (cc)
whole_first m number (states.Claimed s c) p h = absurd (cc)
whole_first m number (states.Steps s l) p h = absurd (cc)
whole_first m number (states.Layers s c b) p h = absurd (cc)
whole_first m number (states.Ended s c layers) p h =
    let parts : Parts = record { first = s.first; keep = s.keep; prune = s.prune; claim = c; layers = layers } in
    let same : parts ≡ p = cc in
    ap (λ (q : Parts). q.first) (sym same)

rest_first : (m : Model) (n : ℕ) (said : Said) (so ls : List (List ℕ)) (p : Parts) → Keeps m n said → n + length ls < 4294967296 → Spells m said so → read_from m (n + 1) said ls ≡ Ok p → p.first ≡ first_of said
rest_first m n said so [] p keeps small spelled h = whole_first m (n + 1) said p h
rest_first m n said so (l ∷ ls) p keeps small spelled h =
    let one = or_bad_some (n + 1) (next m (n + 1) said l) (λ (later : Said). read_from m (n + 1 + 1) later ls) p h in
    let fits : n + 1 < 4294967296 = omega (arith, small) in
    let fewer : n + 1 + length ls < 4294967296 = omega (arith, small) in
    rest_first m (n + 1) one.0 (so ++ l ∷ []) ls p (next_keeps m n said l one.0 keeps one.1) fewer (next_spells m n said l one.0 so keeps fits spelled one.1) one.2
    ∙ next_first m (n + 1) said l one.0 so spelled one.1

-- ---- lines in front

-- the certificate begins behind these lines
record Found (m : Model) (n : ℕ) (marked : Bool) (ls : List (List ℕ)) (p : Parts) : Type 0 where
  front : List (List ℕ)
  back : List (List ℕ)
  lines_are : ls ≡ front ++ (cert_lines m p ++ back)
  hides : hides_none marked front ≡ true
  blank : list_all is_blank_line back ≡ true
  first : p.first ≡ n + length front + 1

-- it begins in the line before
record Before (m : Model) (n : ℕ) (marked : Bool) (ls : List (List ℕ)) (p : Parts) : Type 0 where
  is_marked : marked ≡ true
  back : List (List ℕ)
  lines_are : codes "certificate 1" ∷ ls ≡ cert_lines m p ++ back
  blank : list_all is_blank_line back ≡ true
  first : p.first ≡ n

-- one more line in front
one_more : (m : Model) (n : ℕ) (marked : Bool) (l : List ℕ) (ls : List (List ℕ)) (p : Parts) → not (marked && is_keep (keep_said l)) ≡ true → Found m (n + 1) (is_mark l) ls p ⊎ Before m (n + 1) (is_mark l) ls p → Found m n marked (l ∷ ls) p ⊎ Before m n marked (l ∷ ls) p
one_more m n marked l ls p hides (inl found) =
    inl (record {
      front = l ∷ found.front;
      back = found.back;
      lines_are = ap (λ xs. l ∷ xs) found.lines_are;
      hides = ap (λ (b : Bool). b && hides_none (is_mark l) found.front) hides ∙ found.hides;
      blank = found.blank;
      first = found.first ∙ (let e : n + 1 + length found.front + 1 ≡ n + length (l ∷ found.front) + 1 = omega arith in e);
    })
one_more m n marked l ls p hides (inr before) =
    let line : l ≡ codes "certificate 1" = same_text l (codes "certificate 1") before.is_marked in
    inl (record {
      front = [];
      back = before.back;
      lines_are = ap (λ x. x ∷ ls) line ∙ before.lines_are;
      hides = refl;
      blank = before.blank;
      first = before.first ∙ (let e : n + 1 ≡ n + 0 + 1 = omega arith in e);
    })

front_only : (m : Model) (n : ℕ) (marked : Bool) (ls : List (List ℕ)) (p : Parts) → n + length ls < 4294967296 → read_from m (n + 1) (states.Nothing marked) ls ≡ Ok p → Found m n marked ls p ⊎ Before m n marked ls p
front_only m n marked [] p small h = absurd (cc)
front_only m n false (l ∷ ls) p small h =
    let fewer : n + 1 + length ls < 4294967296 = omega (arith, small) in
    one_more m n false l ls p refl (front_only m (n + 1) (is_mark l) ls p fewer h)
front_only m n true (l ∷ ls) p small h = by (keep_said l) refl (front_only m (n + 1) (is_mark l) ls p fewer) h
  where
    fewer : n + 1 + length ls < 4294967296
    fewer = omega (arith, small)

    by : (o : Option Keep) → o ≡ keep_said l → (read_from m (n + 1 + 1) (states.Nothing (is_mark l)) ls ≡ Ok p → Found m (n + 1) (is_mark l) ls p ⊎ Before m (n + 1) (is_mark l) ls p) → read_from m (n + 1 + 1) (begun (n + 1) l o) ls ≡ Ok p → Found m n true (l ∷ ls) p ⊎ Before m n true (l ∷ ls) p
    by None told later read = one_more m n true l ls p (ap (λ (o : Option Keep). not (true && is_keep o)) (sym told)) (later read)
    by (Some keep) told later read =
        let so = codes "certificate 1" ∷ keep_line keep ∷ [] in
        let said = states.Kept (n + 1 - 1) keep in
        let keeps : n + 1 - 1 + 1 ≡ n + 1 = omega arith in
        let rest = rest_only m (n + 1) said so ls p keeps fewer refl read in
        let line : l ≡ keep_line keep = keep_only l keep (sym told) in
        inr (record {
          is_marked = refl;
          back = rest.0;
          lines_are = ap (λ x. codes "certificate 1" ∷ x ∷ ls) line ∙ rest.2;
          blank = rest.1;
          first = rest_first m (n + 1) said so ls p keeps fewer refl read ∙ (let e : n + 1 - 1 ≡ n = omega arith in e);
        })

placed_only : (r : Result Parts ℕ) (p : Parts) → placed r ≡ Ok p → r ≡ Ok p
placed_only (Ok q) p h = cc
placed_only (Err number) p h = absurd (cc)

found_only : (m : Model) (ls : List (List ℕ)) (p : Parts) → Found m 0 false ls p ⊎ Before m 0 false ls p → (front : List (List ℕ)) × (back : List (List ℕ)) × (ls ≡ front ++ (cert_lines m p ++ back)) × (hides_none false front ≡ true) × (list_all is_blank_line back ≡ true) × (p.first ≡ length front + 1)
found_only m ls p (inl found) = (found.front, found.back, found.lines_are, found.hides, found.blank, found.first ∙ (let e : 0 + length found.front + 1 ≡ length found.front + 1 = omega arith in e))
found_only m ls p (inr before) = absurd (let wrong : false ≡ true = before.is_marked in cc)

pub nothing_else : LawNothingElse
nothing_else m p bytes small h = by (bad_byte bytes) h
  where
    by : (bad : Option ℕ) → unless_bad m bytes bad ≡ Ok p → (front : List (List ℕ)) × (back : List (List ℕ)) × (lines bytes ≡ front ++ (cert_lines m p ++ back)) × (hides_none false front ≡ true) × (list_all is_blank_line back ≡ true) × (p.first ≡ length front + 1)
    by (Some at) told = absurd (cc)
    by None told =
        let read : read_from m 1 (states.Nothing false) (lines bytes) ≡ Ok p = placed_only (read_from m 1 (states.Nothing false) (lines bytes)) p told in
        let fits : 0 + length (lines bytes) < 4294967296 = omega (arith, small) in
        found_only m (lines bytes) p (front_only m 0 false (lines bytes) p fits read)
