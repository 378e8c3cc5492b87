-- The first bad line stays the first, whatever stands behind it.
use Rattle.std.proofs.Common.{◌≡◌, ℕ, ◌+◌, ◌<◌, ◌≤◌, ◌⊎◌, inl, inr, false, List, [], ◌∷◌, ◌++◌, length, Option, Some, None, Result, Ok, Err, sym, ap, ◌∙◌, arith}
use Rattle.std.specs.Str.Lines.{lines}
use Rattle.dp_base.specs.declared.place.Place.{Place}
use Rattle.dp_model.specs.declared.whole.Model.{Model}
use Rattle.step_names.specs.Lines.{line_place}
use Rattle.cert_types.specs.Parts.{Parts}
use Rattle.cert_text.specs.ReadBack.{LawFirstBad}
use Rattle.cert_text.specs.Said.{next, or_bad, placed, read_from, unless_bad, whole}
use Rattle.cert_text.specs.declared.ends.CertTextEnd.TheVariants.{Bad}
use Rattle.cert_text.specs.declared.said.Said.{Said}
use Rattle.cert_text.specs.declared.said.Said.TheVariants as states

-- where no line is left, the line behind the last one is refused, or the first one
whole_late : (number k : ℕ) (said : Said) → whole number said ≡ Err k → (number ≤ k) ⊎ (k ≡ 1)
whole_late number k (states.Nothing marked) h = inr (cc)
whole_late number k (states.Kept first keep) h = inl (let same : number ≡ k = cc in omega arith)
whole_late number k (states.Pruned s) h = inl (let same : number ≡ k = cc in omega arith)
whole_late number k (states.Claimed s c) h = inl (let same : number ≡ k = cc in omega arith)
whole_late number k (states.Steps s l) h = inl (let same : number ≡ k = cc in omega arith)
whole_late number k (states.Layers s c b) h = inl (let same : number ≡ k = cc in omega arith)
whole_late number k (states.Ended s c layers) h = absurd (cc)

late_step : (n k : ℕ) → (n + 1 ≤ k) ⊎ (k ≡ 1) → (n ≤ k) ⊎ (k ≡ 1)
late_step n k (inl later) = inl (omega (arith, later))
late_step n k (inr one) = inr one

late_one : (n k : ℕ) (o : Option Said) (rest : Said → Result Parts ℕ) → ((later : Said) → rest later ≡ Err k → (n + 1 ≤ k) ⊎ (k ≡ 1)) → or_bad n o rest ≡ Err k → (n ≤ k) ⊎ (k ≡ 1)
late_one n k None rest later h = inl (let same : n ≡ k = cc in omega arith)
late_one n k (Some x) rest later h = late_step n k (later x h)

late : (m : Model) (n k : ℕ) (said : Said) (ls : List (List ℕ)) → read_from m n said ls ≡ Err k → (n ≤ k) ⊎ (k ≡ 1)
late m n k said [] h = whole_late n k said h
late m n k said (l ∷ ls) h = late_one n k (next m n said l) (λ (later : Said). read_from m (n + 1) later ls) (λ later. late m (n + 1) k later ls) h

not_late : (n k : ℕ) → k ≡ n → 1 < k → (n + 1 ≤ k) ⊎ (k ≡ 1) → ⊥
not_late n k is more (inl later) = omega (arith, is, later)
not_late n k is more (inr one) = omega (arith, one, more)

shared_one : (n k : ℕ) (o : Option Said) (rest more : Said → Result Parts ℕ) → ((later : Said) → rest later ≡ Err k → more later ≡ Err k) → or_bad n o rest ≡ Err k → or_bad n o more ≡ Err k
shared_one n k None rest more later h = h
shared_one n k (Some x) rest more later h = later x h

shared_bad : (m : Model) (n k : ℕ) (said : Said) (shared rest more : List (List ℕ)) → 1 < k → k + 1 ≡ n + length shared → 0 < length shared → read_from m n said (shared ++ rest) ≡ Err k → read_from m n said (shared ++ more) ≡ Err k
shared_bad m n k said [] rest more big place some h = absurd (omega (arith, some))
shared_bad m n k said (l ∷ []) rest more big place some h =
    let last : k ≡ n = omega (arith, place) in
    shared_one n k (next m n said l) (λ (later : Said). read_from m (n + 1) later rest) (λ (later : Said). read_from m (n + 1) later more)
    (λ later read. absurd (not_late n k last big (late m (n + 1) k later rest read))) h
shared_bad m n k said (l ∷ x ∷ shared) rest more big place some h =
    let later_place : k + 1 ≡ n + 1 + length (x ∷ shared) = omega (arith, place) in
    let later_some : 0 < length (x ∷ shared) = omega arith in
    shared_one n k (next m n said l) (λ (later : Said). read_from m (n + 1) later ((x ∷ shared) ++ rest)) (λ (later : Said). read_from m (n + 1) later ((x ∷ shared) ++ more))
    (λ later read. shared_bad m (n + 1) k later (x ∷ shared) rest more big later_place later_some read) h

placed_bad : (r : Result Parts ℕ) (k : ℕ) → placed r ≡ Err (Bad (line_place k)) → r ≡ Err k
placed_bad (Ok p) k h = absurd (cc)
placed_bad (Err number) k h =
    let same : line_place number ≡ line_place k = cc in
    ap Err (ap (λ (p : Place). p.line) same)

pub first_bad : LawFirstBad
first_bad m text other shared rest more one two good well big h =
    let start = states.Nothing false in
    let k = length shared in
    let told : placed (read_from m 1 start (lines text)) ≡ Err (Bad (line_place k)) = sym (ap (unless_bad m text) good) ∙ h in
    let read : read_from m 1 start (shared ++ rest) ≡ Err k = ap (read_from m 1 start) (sym one) ∙ placed_bad (read_from m 1 start (lines text)) k told in
    let again : read_from m 1 start (shared ++ more) ≡ Err k = shared_bad m 1 k start shared rest more big (omega arith) (omega (arith, big)) read in
    ap (unless_bad m other) well ∙ ap (λ (ls : List (List ℕ)). placed (read_from m 1 start ls)) two ∙ ap placed again
