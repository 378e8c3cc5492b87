-- One more step of a loop that writes, and of one that reads.
use Rattle.std.proofs.Common.{◌≡◌, ℕ, ◌+◌, ◌-◌, ◌<◌, ◌≤◌, List, ◌++◌, length, take, drop, Option, Some, None, sym, ap, ◌∙◌, subst, arith, append_assoc, length-append, IfSome}
use Rattle.std.proofs.Math.Seq.{take-add}
use Rattle.std.proofs.lemmas.Grind.{common_steps}
use Rattle.dp_outside.specs.Outside.{ReadsAt, Takes}

-- two pieces one after another are one piece
pub Takes-more : (first second third : Option (List ℕ)) (front back : List ℕ) → Takes first second front → Takes second third back → Takes first third (front ++ back)
Takes-more first second None front back before after = tt
Takes-more first None (Some bytes) front back before after = absurd (let e : None ≡ Some after.0 = after.1 in cc)
Takes-more first (Some middle) (Some bytes) front back before after =
    (before.0, before.1, (let e : Some middle ≡ Some after.0 = after.1 in let same : middle ≡ after.0 = cc in let ends : bytes ≡ after.0 ++ back = after.2 in let begins : middle ≡ before.0 ++ front = before.2 in ends ∙ ap (λ (m : List ℕ). m ++ back) (sym same ∙ begins) ∙ append_assoc before.0 front back))

-- a front of the piece, and then more of it
pub Takes-step : (first second third : Option (List ℕ)) (piece : List ℕ) (done count : ℕ) → Takes first second (take done piece) → Takes second third (take count (take (length piece - done) (drop done piece))) → Takes first third (take (done + count) piece)
Takes-step first second third piece done count before after =
    let rest : take (length piece - done) (drop done piece) ≡ drop done piece = grind (arith, common_steps) in
    let joined : take done piece ++ take count (take (length piece - done) (drop done piece)) ≡ take (done + count) piece = ap (λ (xs : List ℕ). take done piece ++ take count xs) rest ∙ sym (take-add done count piece) in
    subst (λ (front : List ℕ). Takes first third front) joined (Takes-more first second third _ _ before after)

-- what was read is a front of the bytes
pub record IsFront (read bytes : List ℕ) : Type 0 where
  pub within : length read ≤ length bytes
  pub same : read ≡ take (length read) bytes

front_more : (bytes read room : List ℕ) (count : ℕ) → IsFront read bytes → 0 < count → length read + count ≤ length bytes → take count room ≡ take count (drop (length read) bytes) → IsFront (read ++ take count room) bytes
front_more bytes read room count front some within same =
    let len : length (take count room) ≡ count = ap length same ∙ (grind (arith, common_steps)) in
    let more : length (read ++ take count room) ≡ length read + count = omega (arith, length-append read (take count room)) in
    let joined : take (length read + count) bytes ≡ read ++ take count room = take-add (length read) count bytes ∙ ap (λ (xs : List ℕ). xs ++ take count (drop (length read) bytes)) (sym front.same) ∙ ap (λ (xs : List ℕ). read ++ xs) (sym same) in
    record { within = omega arith; same = sym (rw more joined) }

-- what the next read gave makes the front longer
pub IsFront-more : (told now : Option (List ℕ)) (read room after : List ℕ) (place count : ℕ) → now ≡ told → place ≡ length read → 0 < count → after ≡ read ++ take count room → IfSome told (λ bytes. IsFront read bytes) → IfSome now (λ bytes. ReadsAt bytes place count room) → IfSome told (λ bytes. IsFront after bytes)
IsFront-more None now read room after place count same here some longer front reads = tt
IsFront-more (Some bytes) None read room after place count same here some longer front reads = cc
IsFront-more (Some bytes) (Some found) read room after place count same here some longer front reads =
    let equal : found ≡ bytes = cc in
    let end : length read + count ≤ length bytes = omega (arith, (reads.1 some).0, ap length equal) in
    let from : take count room ≡ take count (drop (length read) bytes) = (reads.1 some).1 ∙ ap (λ (xs : List ℕ). take count (drop place xs)) equal ∙ ap (λ (k : ℕ). take count (drop k bytes)) here in
    subst (λ (xs : List ℕ). IsFront xs bytes) (sym longer) (front_more bytes read room count front some end from)
