-- Parts between brackets, read in turns.
use Rattle.std.proofs.Common.{◌≡◌, ℕ, true, List, [], ◌∷◌, ◌++◌, drop, map, Result, Ok, refl, sym, ap, ◌∙◌, subst, append_assoc}
use Rattle.std.proofs.lemmas.List.{append-nil}
use Rattle.yaml_tree.specs.Rest.{Rest, on, skip_blanks}
use Rattle.yaml_tree.specs.Characters.{is_flow_mark}
use Rattle.yaml_tree.specs.Lines.{flow_point}
use Rattle.yaml_tree.specs.Repeats.{Turn, Last, InTurn, Repeats}
use Rattle.yaml_tree.specs.Flow.{next_turn, FromNext}
use Rattle.yaml_tree.specs.declared.tree.YamlEnd.{YamlEnd}
use Rattle.content_laws.specs.Writing.{spaces, with_commas, in_brackets}
use Rattle.content_laws.proofs.WrittenBlanks.{IsSolid, past_blanks, past_spaces, past_solid, spaces_then, point_past}

-- a text that begins with a byte where something stands
pub record Starts (text : List ℕ) : Type 0 where
  pub byte : ℕ
  pub more : List ℕ
  pub is : text ≡ byte ∷ more
  pub solid : IsSolid byte

pub starts_with : (text behind : List ℕ) → Starts text → Starts (text ++ behind)
starts_with text behind s = record { byte = s.byte; more = s.more ++ behind; is = ap (λ (t : List ℕ). t ++ behind) s.is; solid = s.solid }

-- ---- the next point, where a text begins behind spaces

pub record NextPoint (r : Rest) (here : List ℕ) : Type 0 where
  pub next : Rest
  pub is : flow_point r ≡ Ok next
  pub here_is : next.here ≡ here
  pub line : next.line ≡ r.line
  pub below : next.below ≡ r.below

pub next_point : (r : Rest) (n : ℕ) (here : List ℕ) → Starts here → r.here ≡ spaces n ++ here → NextPoint r here
next_point r n here s is =
    let past : past_blanks r.here ≡ s.byte ∷ s.more = ap past_blanks is ∙ past_spaces n here ∙ ap past_blanks s.is ∙ past_solid s.byte s.more s.solid in
    record { next = skip_blanks r; is = point_past r s.byte s.more s.solid past; here_is = past ∙ sym s.is; line = refl; below = refl }

pub map-push : {A C : Type 0} (f : A → C) (xs : List A) (x : A) → map f (xs ++ x ∷ []) ≡ map f xs ++ f x ∷ []
map-push f [] x = refl
map-push f (y ∷ ys) x = ap (λ (l : List _). f y ∷ l) (map-push f ys x)

-- each part fits behind those before it
abbrev pub AllFit : {A : Type 0} → (Fits : List A → A → Type 0) → (earlier xs : List A) → Type 0
AllFit Fits earlier [] = Unit {0}
AllFit Fits earlier (x ∷ xs) = Fits earlier x × AllFit Fits (earlier ++ x ∷ []) xs

module _ {A C : Type 0} (code : A → C) (text : A → List ℕ) (Fits : List A → A → Type 0) (OneTurn : List A → Rest → Turn A Rest → Type 0) (n close : ℕ) where
  -- a part was read, and this byte stands at the next point
  pub record Step (before : List A) (x : A) (from : Rest) (byte : ℕ) (more : List ℕ) : Type 0 where
    pub read : A
    pub next : Rest
    pub here : next.here ≡ byte ∷ more
    pub line : next.line ≡ from.line
    pub below : next.below ≡ from.below
    pub same : code x ≡ code read
    pub on_comma : byte ≡ 44 → OneTurn before from (next_turn read (flow_point (on 1 next)))
    pub on_close : byte ≡ close → OneTurn before from (Last (read ∷ []) (on 1 next))

  abbrev pub Steps : Type 0
  Steps = (earlier before : List A) (x : A) (from : Rest) (k byte : ℕ) (more : List ℕ)
      → map code before ≡ map code earlier → Fits earlier x → IsSolid byte → is_flow_mark byte ≡ true → from.here ≡ text x ++ (spaces k ++ byte ∷ more) → Step before x from byte more

  -- parts were read up to the bracket that closes
  pub record Turns (before : List A) (xs : List A) (from : Rest) (behind : List ℕ) : Type 0 where
    pub read : List A
    pub at : Rest
    pub last : A
    pub left : Rest
    pub in_turn : InTurn OneTurn before from read at
    pub ends : OneTurn (before ++ read) at (Last (last ∷ []) left)
    pub here : left.here ≡ behind
    pub line : left.line ≡ from.line
    pub below : left.below ≡ from.below
    pub same : map code xs ≡ map code (read ++ last ∷ [])

  module _ (starts : (x : A) → Starts (text x)) (solid : IsSolid close) (mark : is_flow_mark close ≡ true) (step : Steps) where
    first_part : (x : A) (xs : List A) → (others : List ℕ) × (with_commas n (map text (x ∷ xs)) ≡ text x ++ others)
    first_part x [] = ([], sym (append-nil (text x)))
    first_part x (y ∷ ys) = (44 ∷ (spaces n ++ with_commas n (map text (y ∷ ys))), refl)

    starts_parts : (x : A) (xs : List A) → Starts (with_commas n (map text (x ∷ xs)))
    starts_parts x xs = let first = first_part x xs in subst Starts (sym first.1) (starts_with (text x) first.0 (starts x))

    comma_solid : IsSolid 44
    comma_solid = record { no_blank = refl; no_comment = refl }

    turn_last : (before : List A) (x : A) (from : Rest) (behind : List ℕ) → Step before x from close behind → Turns before (x ∷ []) from behind
    turn_last before x from behind one = record {
      read = [];
      at = from;
      last = one.read;
      left = on 1 one.next;
      in_turn = refl;
      ends = subst (λ (l : List A). OneTurn l from (Last (one.read ∷ []) (on 1 one.next))) (sym (append-nil before)) (one.on_close refl);
      here = ap (drop 1) one.here;
      line = one.line;
      below = one.below;
      same = ap (λ (c : C). c ∷ []) one.same;
    }

    -- behind a comma the others
    turn_more : (before : List A) (x : A) (xs : List A) (from : Rest) (more here behind : List ℕ) (one : Step before x from 44 more) (point : NextPoint (on 1 one.next) here)
        → Turns (before ++ one.read ∷ []) xs point.next behind → Turns before (x ∷ xs) from behind
    turn_more before x xs from more here behind one point later = record {
      read = one.read ∷ later.read;
      at = later.at;
      last = later.last;
      left = later.left;
      in_turn = (point.next, subst (OneTurn before from) (ap (next_turn one.read) point.is) (one.on_comma refl), later.in_turn);
      ends = subst (λ (l : List A). OneTurn l later.at (Last (later.last ∷ []) later.left)) (append_assoc before (one.read ∷ []) later.read) later.ends;
      here = later.here;
      line = later.line ∙ point.line ∙ one.line;
      below = later.below ∙ point.below ∙ one.below;
      same = λ i. one.same i ∷ later.same i;
    }

    known_more : (before earlier : List A) (read x : A) → map code before ≡ map code earlier → code x ≡ code read → map code (before ++ read ∷ []) ≡ map code (earlier ++ x ∷ [])
    known_more before earlier read x known same = map-push code before read ∙ (λ i. known i ++ sym same i ∷ []) ∙ sym (map-push code earlier x)

    turns : (x : A) (xs earlier before : List A) (from : Rest) (behind : List ℕ) → map code before ≡ map code earlier → AllFit Fits earlier (x ∷ xs)
        → from.here ≡ with_commas n (map text (x ∷ xs)) ++ (spaces n ++ close ∷ behind) → Turns before (x ∷ xs) from behind
    turns x [] earlier before from behind known fit is = turn_last before x from behind (step earlier before x from n close behind known fit.0 solid mark is)
    turns x (y ∷ ys) earlier before from behind known fit is =
        let others : List ℕ = with_commas n (map text (y ∷ ys)) in
        let tail : List ℕ = spaces n ++ close ∷ behind in
        let split : from.here ≡ text x ++ (44 ∷ (spaces n ++ (others ++ tail))) =
        is ∙ append_assoc (text x) (44 ∷ (spaces n ++ others)) tail ∙ ap (λ (l : List ℕ). text x ++ (44 ∷ l)) (append_assoc (spaces n) others tail) in
        let one = step earlier before x from 0 44 (spaces n ++ (others ++ tail)) known fit.0 comma_solid refl split in
        let point = next_point (on 1 one.next) n (others ++ tail) (starts_with others tail (starts_parts y ys)) (ap (drop 1) one.here) in
        turn_more before x (y ∷ ys) from (spaces n ++ (others ++ tail)) (others ++ tail) behind one point
        (turns y ys (earlier ++ x ∷ []) (before ++ one.read ∷ []) point.next behind (known_more before earlier one.read x known one.same) fit.1 point.here_is)

    -- ---- from bracket to bracket

    pub record Enclosed (xs : List A) (from : Rest) (behind : List ℕ) : Type 0 where
      pub read : List A
      pub left : Rest
      pub form : FromNext OneTurn (flow_point (on 1 from)) (Ok (read, left))
      pub here : left.here ≡ behind
      pub line : left.line ≡ from.line
      pub below : left.below ≡ from.below
      pub same : map code xs ≡ map code read

    close_starts : (behind : List ℕ) → Starts (close ∷ behind)
    close_starts behind = record { byte = close; more = behind; is = refl; solid = solid }

    module _ (none : (from : Rest) (behind : List ℕ) → from.here ≡ close ∷ behind → OneTurn [] from (Last [] (on 1 from))) (first : ℕ) where
      from_point : (from : Rest) (read : Result (List A × Rest) YamlEnd) (next : Rest) → flow_point (on 1 from) ≡ Ok next → Repeats OneTurn next read → FromNext OneTurn (flow_point (on 1 from)) read
      from_point from read next is repeats = subst (λ (p : Result Rest YamlEnd). FromNext OneTurn p read) (sym is) repeats

      behind_first : (text behind : List ℕ) → in_brackets n first close text ++ behind ≡ first ∷ (spaces n ++ (text ++ (spaces n ++ close ∷ behind)))
      behind_first text behind = ap (λ (l : List ℕ). first ∷ l) (simp append_assoc)

      pub enclosed : (xs : List A) (from : Rest) (behind : List ℕ) → AllFit Fits [] xs → from.here ≡ in_brackets n first close (with_commas n (map text xs)) ++ behind → Enclosed xs from behind
      enclosed [] from behind fit is =
          let inside : drop 1 from.here ≡ spaces n ++ (spaces n ++ close ∷ behind) = ap (drop 1) (is ∙ behind_first [] behind) in
          let past : past_blanks (drop 1 from.here) ≡ close ∷ behind = ap past_blanks inside ∙ past_spaces n (spaces n ++ close ∷ behind) ∙ spaces_then n close behind solid in
          let next : Rest = skip_blanks (on 1 from) in
          record {
            read = [];
            left = on 1 next;
            form = from_point from (Ok ([], on 1 next)) next (point_past (on 1 from) close behind solid past)
                (record { read = []; at = next; end = Last [] (on 1 next); in_turn = refl; last = none next behind past; ends = refl });
            here = ap (drop 1) past;
            line = refl;
            below = refl;
            same = refl;
          }
      enclosed (x ∷ xs) from behind fit is =
          let parts : List ℕ = with_commas n (map text (x ∷ xs)) in
          let tail : List ℕ = spaces n ++ close ∷ behind in
          let point = next_point (on 1 from) n (parts ++ tail) (starts_with parts tail (starts_parts x xs)) (ap (drop 1) (is ∙ behind_first parts behind)) in
          let all = turns x xs [] [] point.next behind refl fit point.here_is in
          record {
            read = all.read ++ all.last ∷ [];
            left = all.left;
            form = from_point from (Ok (all.read ++ all.last ∷ [], all.left)) point.next point.is
                (record { read = all.read; at = all.at; end = Last (all.last ∷ []) all.left; in_turn = all.in_turn; last = all.ends; ends = refl });
            here = all.here;
            line = all.line ∙ point.line;
            below = all.below ∙ point.below;
            same = all.same;
          }
