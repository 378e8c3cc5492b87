-- The steps of a turn together: a turn with work does some.
use Rattle.std.proofs.Common.{◌≡◌, ℕ, ◌≤◌, ◌<◌, inl, inr, List, [], length, sym, ap, subst, ◌∙◌, arith}
use Rattle.std.specs.Prelude.{Result, Ok, Err, OnOk}
use Rattle.best_ledger.specs.declared.records.BestRecord.{BestRecord}
use Rattle.best_ledger.specs.declared.records.Moment.{Moment}
use Rattle.best_turns.specs.Works.{HasWorked, HasTaken, HasHandled, HasPosted}

-- letters that were taken before some more
pub taken_more : (a b c : BestRecord) → HasTaken a b → HasTaken b c → HasTaken a c
taken_more a b c (inl e) h = subst (λ (r : BestRecord). HasTaken r c) e h
taken_more a b c (inr lt) (inl e) = inr (subst (λ (r : BestRecord). length a.history < length r.history) (sym e) lt)
taken_more a b c (inr lt) (inr more) = inr (further (length a.history) (length b.history) (length c.history) lt more)
  where
    further : (x y z : ℕ) → x < y → y < z → x < z
    further x y z h k = omega arith

-- letters that were posted before some more
pub posted_more : (a b c : BestRecord) → HasPosted a b → HasPosted b c → HasPosted a c
posted_more a b c h k = k ∙ h

pub worked : (a b c d e : BestRecord) → b ≡ a → HasTaken b c → HasHandled c d → HasPosted d e → e.unsent ≡ [] → HasWorked a e
worked a b c d e same taken handled posted all = record { moved = λ some. by taken some; posted = all }
  where
    longer : (x y z w : ℕ) → y ≡ x → y < z → z ≤ w → x < w
    longer x y z w h k l = omega arith

    at : (x y z w : ℕ) → y ≡ x → z ≡ y → z < w → x < w
    at x y z w h k l = omega arith

    long : BestRecord → ℕ
    long r = length r.history

    by : HasTaken b c → 0 < length a.waiting → long a < long e
    by (inl still) some =
        subst (λ (h : List Moment). long a < length h) (sym posted)
        (at (long a) (long b) (long c) (long d) (ap long same) (ap long still) (handled.moved (subst (λ (r : BestRecord). 0 < length r.waiting) (sym (still ∙ same)) some)))
    by (inr lt) some = subst (λ (h : List Moment). long a < length h) (sym posted) (longer (long a) (long b) (long c) (long d) (ap long same) lt handled.later)

-- what holds in any case holds of each good answer
pub on_each : {T E Y : Type 0} (result : Result T E) → Y → OnOk result Y
on_each (Ok x) y = y
on_each (Err e) y = tt
