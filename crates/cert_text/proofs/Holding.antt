-- Lines that are held: a line that was added to them, and one that had no room.
use Rattle.std.proofs.Common.{◌≡◌, ℕ, List, [], ◌∷◌, ◌++◌, length, take, Option, Some, Result, Ok, Err, IsErr, refl, sym, ap, ◌∙◌, subst, arith}
use Rattle.dp_outside.specs.Outside.{TakesFront}
use Rattle.dp_outside.specs.declared.failing.Failed.{Failed}
use Rattle.solve_report.specs.Adding.{Adds}
use Rattle.solve_report.specs.Puts.{Puts}
use Rattle.solve_report.proofs.Written.{Adds-held, Puts-rest, Puts-same}

-- nothing was held, a text was added, and what was held then was written
pub Puts-added : {first second third : Option (List ℕ)} {faults_first faults_second faults_third : ℕ} {held_first held_second text : List ℕ} {done : Unit {0}} {result : Result (Unit {0}) Failed} → held_first ≡ [] → Adds first second faults_first faults_second held_first held_second text (Ok done) → Puts second third faults_second faults_third held_second result → Puts first third faults_first faults_third text result
Puts-added {text} is_empty before after = Puts-same (ap (λ h. h ++ text) is_empty) (Puts-rest before after)

-- a write failed where a text was added
pub Puts-added_stop : {first second : Option (List ℕ)} {faults_first faults_second : ℕ} {held_first held_second text : List ℕ} {failed : Failed} {result : Result (Unit {0}) Failed} → held_first ≡ [] → Adds first second faults_first faults_second held_first held_second text (Err failed) → IsErr result → Puts first second faults_first faults_second text result
Puts-added_stop {result = Ok end} is_empty before err = absurd (grind (arith, err))
Puts-added_stop {first} {second} {text} {result = Err end} is_empty before err =
    record { ok = tt; err = subst (λ (t : List ℕ). TakesFront first second t) (ap (λ h. h ++ text) is_empty) before.err; failed = before.failed; count = before.count }

-- a text that was written to what is held stands behind it
pub now_held : {first : Option (List ℕ)} {faults_first faults_before faults_after : ℕ} {before after text : List ℕ} {done end : Unit {0}} → Puts (Some before) (Some after) faults_before faults_after text (Ok done) → Adds first first faults_first faults_first before after text (Ok end)
now_held {before} {after} {text} put =
    let same : before ≡ put.ok.0 = cc in
    Adds-held (put.ok.2 ∙ ap (λ h. h ++ text) (sym same))

-- what was held in front of it
pub held_before : {faults_before faults_after : ℕ} {before after text : List ℕ} {failed : Failed} → Puts (Some before) (Some after) faults_before faults_after text (Err failed) → take (length before) after ≡ before
held_before {before} {after} {text} put =
    let front = put.err.2 in
    let same : before ≡ front.0 = cc in
    let is : after ≡ before ++ take put.err.0 text = front.2 ∙ ap (λ h. h ++ take put.err.0 text) (sym same) in
    rw is (take_front before (take put.err.0 text))
  where
    take_front : (a b : List ℕ) → take (length a) (a ++ b) ≡ a
    take_front [] b = refl
    take_front (x ∷ a) b = ap (λ (xs : List ℕ). x ∷ xs) (take_front a b)

-- the same text is added to what is held, by another name
pub Adds-from : {first second : Option (List ℕ)} {faults_first faults_second : ℕ} {held_first held_other held_second text : List ℕ} {result : Result (Unit {0}) Failed} → held_other ≡ held_first → Adds first second faults_first faults_second held_other held_second text result → Adds first second faults_first faults_second held_first held_second text result
Adds-from {first} {second} {faults_first} {faults_second} {held_first} {held_other} {held_second} {text} {result} same added =
    subst (λ (h : List ℕ). Adds first second faults_first faults_second h held_second text result) same added
