-- Posters that are handed out one after another, the last one first.
use Rattle.std.proofs.Common.{◌≡◌, ℕ, ◌+◌, ◌<◌, ◌≤◌, inl, inr, List, [], ◌∷◌, ◌++◌, length, slice_get, slice_set, get_or, Some, refl, sym, ap, subst, ◌∙◌, arith}
use Rattle.std.proofs.lemmas.Bool.{cases_lt, cases_eq}
use Rattle.std.proofs.lemmas.List.{length-set}
use Rattle.std.proofs.lemmas.Option.{slice_get_read, slice_get_within}
use Rattle.shard_mail.specs.Ends.{PosterFacts}
use Rattle.best_turns.specs.declared.envelope.BestEnvelope.{BestEnvelope}
use Rattle.best_first.specs.Mails.{Posters, IsWith, AreHandedOut, HaveRoom}
use Rattle.best_first.proofs.Places.{Begins, begins_less, begins_last, long_more, same_at, set_same, set_off}
use Rattle.best_over.proofs.Places.{there}

-- the first ones are left, and the others were handed out
pub record IsHanded (posters left : List (PosterFacts BestEnvelope)) (old new : List Posters) : Type 0 where
  pub begins : Begins left posters
  pub long : length new ≡ length old
  pub few : length left ≤ length new
  pub same : (i : ℕ) (v : Posters) → i < length left → slice_get old i ≡ Some v → slice_get new i ≡ Some v
  pub each : (i : ℕ) (v : Posters) (q : PosterFacts BestEnvelope) → length left ≤ i → slice_get old i ≡ Some v → slice_get posters i ≡ Some q → (w : Posters) × (slice_get new i ≡ Some w) × IsWith v q w

pub handed_more : (posters left less : List (PosterFacts BestEnvelope)) (old new : List Posters) (q : PosterFacts BestEnvelope) (v w : Posters) → IsHanded posters left old new → left ≡ less ++ q ∷ [] → length left ≡ length less + 1
    → slice_get old (length less) ≡ Some v → IsWith v q w → IsHanded posters less old (slice_set new (length less) w)
handed_more posters left less old new q v w h split long at with = record {
  begins = begins_less left less posters q split h.begins;
  long = length-set new (length less) w ∙ h.long;
  few = (let a = length-set new (length less) w in let b = h.few in omega (arith, a, b, long));
  same = λ i x lt e. set_off new (length less) i w (λ z. omega (arith, z, lt)) ∙ h.same i x (omega (arith, long, lt)) e;
  each = λ i x p le e f. elim (cases_eq i (length less)) [
    | inl z ↦ (let here : slice_get (slice_set new (length less) w) i ≡ Some w = subst (λ (n : ℕ). slice_get (slice_set new (length less) w) n ≡ Some w) (sym z) (set_same new (length less) w (let b = h.few in omega (arith, b, long))) in
        let one : v ≡ x = same_at old i v x (subst (λ (n : ℕ). slice_get old n ≡ Some v) (sym z) at) e in
        let two : q ≡ p = same_at posters i q p (subst (λ (n : ℕ). slice_get posters n ≡ Some q) (sym z) (begins_last left less posters q split h.begins)) f in
        (w, here, subst (λ (y : Posters). IsWith y p w) one (subst (λ (y : PosterFacts BestEnvelope). IsWith v y w) two with)))
    | inr ne ↦ (let r = h.each i x p (other i le ne) e f in (r.0, set_off new (length less) i w ne ∙ r.1, r.2))
  ];
}
  where
    other : (i : ℕ) → length less ≤ i → (i ≡ length less → ⊥) → length left ≤ i
    other i le ne = elim (cases_lt (length less) i) [ inl lt ↦ omega (arith, long, lt) | inr ge ↦ absurd (ne (omega (arith, le, ge))) ]

-- one more step, by the place that the code reads
pub handed_at : (posters left less : List (PosterFacts BestEnvelope)) (old new : List Posters) (q : PosterFacts BestEnvelope) (n : ℕ) (v w : Posters) → IsHanded posters left old new → left ≡ less ++ q ∷ [] → n ≡ length less
    → v ≡ get_or new n v → IsWith v q w → IsHanded posters less old (slice_set new n w)
handed_at posters left less old new q n v w h split place read with =
    let more = long_more less left q (length less) split refl in
    let few = h.few in
    let within : n < length new = omega (arith, more, few, place) in
    let now : slice_get new n ≡ Some v = slice_get_read new (length new) n v refl within read in
    let same = h.long in
    let was = there old (length less) (omega (arith, more, few, same)) in
    let is : was.0 ≡ v = same_at new (length less) was.0 v (h.same (length less) was.0 (omega (arith, more)) was.1) (subst (λ (k : ℕ). slice_get new k ≡ Some v) place now) in
    subst (λ (k : ℕ). IsHanded posters less old (slice_set new k w)) (sym place)
    (handed_more posters left less old new q v w h split more (was.1 ∙ ap Some is) with)

pub handed_all : (posters left : List (PosterFacts BestEnvelope)) (old new : List Posters) → length left ≡ 0 → IsHanded posters left old new → AreHandedOut posters old new
handed_all posters left old new none h = record { long = h.long; each = λ i v q at here. h.each i v q (omega (arith, none)) at here }

-- ---- a list to which posters were handed out

-- each list is one of before with a poster
pub handed_list : (posters : List (PosterFacts BestEnvelope)) (old new : List Posters) → AreHandedOut posters old new → length posters ≡ length old → (i : ℕ) (w : Posters) → slice_get new i ≡ Some w
    → (v : Posters) × (q : PosterFacts BestEnvelope) × (slice_get old i ≡ Some v) × (slice_get posters i ≡ Some q) × IsWith v q w
handed_list posters old new h long i w at =
    let within = slice_get_within new i w at in
    let same = h.long in
    let v = there old i (omega (arith, within, same)) in
    let q = there posters i (omega (arith, within, same, long)) in
    let r = h.each i v.0 q.0 v.1 q.1 in
    (v.0, q.0, v.1, q.1, subst (IsWith v.0 q.0) (same_at new i r.0 w r.1 at) r.2)

pub room_more : (most held : ℕ) (posters : List (PosterFacts BestEnvelope)) (old new : List Posters) → HaveRoom most held old → length posters ≡ length old → AreHandedOut posters old new → HaveRoom most (held + 1) new
room_more most held posters old new room long handed = record {
  held_are = λ i w at. let r = handed_list posters old new handed long i w at in long_more r.0.items w.items r.1 held r.4.0 (room.held_are i r.0 r.2);
  room = λ i w at. let r = handed_list posters old new handed long i w at in let a = room.room i r.0 r.2 in let b = r.4.1 in omega (arith, a, b);
}
