-- A list of letters and the next one.
use Rattle.std.specs.Prelude.{if◌then◌else◌}
use Rattle.std.proofs.lemmas.Bool.{cases_eq, ne_eqb}
use Rattle.std.proofs.lemmas.List.Sums.{sum_by-cons}
use Rattle.std.proofs.Common.{◌≤◌, ◌<◌, suc, Bool, true, false, nat_eq, eq-eqb, Some, ap, ◌∙◌, arith, ◌≡◌, ℕ, ◌+◌, List, [], ◌∷◌, ◌++◌, inl, inr, refl, sym, subst}
use Rattle.dp_claims.specs.Enough.{Has}
use Rattle.dp_model.specs.declared.whole.Model.{Model}
use Rattle.pass_ledger.specs.Letters.{layer_of, InGroups, InOrder, is_at, states_at}
use Rattle.pass_ledger.specs.Groups.{grown, unfinished, Suits, IsLawful, LawEmpty, LawPrefix, LawNext, LawGrown, LawMarks, LawStates}
use Rattle.state_layout.specs.declared.node.Node.{Node}
use Rattle.pass_ledger.specs.declared.mail.Letter.{Letter}
use Rattle.pass_ledger.specs.declared.mail.Letter.TheVariants.{State, Mark}
use Rattle.pass_ledger.proofs.Lists.{has_none, has_cases, has_head, has_last}
use Rattle.pass_ledger.proofs.Worlds.{posted_front}

on : (l n : ℕ) (xs : List Letter) (x : Letter) → InGroups l n xs → Suits (unfinished (l, n) xs) x → InGroups l n (xs ++ x ∷ [])
on l n [] (State f m node) h s = (s, tt)
on l n [] (Mark f m y t) h s = (s.0, s.1, tt)
on l n (State f m node ∷ xs) x h s = (h.0, on l (n + 1) xs x h.1 s)
on l n (Mark f m y t ∷ xs) x h s = (h.0, h.1, on (l + 1) 0 xs x h.2 s)

back : (l n : ℕ) (xs : List Letter) (x : Letter) → InGroups l n (xs ++ x ∷ []) → Suits (unfinished (l, n) xs) x
back l n [] (State f m node) h = h.0
back l n [] (Mark f m y t) h = (h.0, h.1)
back l n (State f m node ∷ xs) x h = back l (n + 1) xs x h.1
back l n (Mark f m y t ∷ xs) x h = back (l + 1) 0 xs x h.2

lawful_node : (m : Model) (x : Letter) (f l : ℕ) (n : Node) → x ≡ State f l n → IsLawful m x → InOrder m n
lawful_node m x f l n e h = subst (IsLawful m) e h

is_lawful : (m : Model) (x : Letter) → ((f l : ℕ) (n : Node) → x ≡ State f l n → InOrder m n) → IsLawful m x
is_lawful m (State f l n) h = h f l n refl
is_lawful m (Mark f l y t) h = tt

pub empty : LawEmpty
empty m = record { groups = tt; nodes = λ f l n h. absurd (has_none (State f l n) h) }

pub prefix : LawPrefix
prefix m xs ys h = posted_front m xs ys h

pub next : LawNext
next m xs x = (
  λ h suits lawful.
      record {
        groups = on 1 0 xs x h.groups suits;
        nodes = λ f l n k. elim (has_cases xs (x ∷ []) (State f l n) k) [
          | inl a ↦ h.nodes f l n a
          | inr b ↦ elim (has_head x [] (State f l n) b) [ inl e ↦ lawful_node m x f l n e lawful | inr none ↦ absurd (has_none (State f l n) none) ]
        ];
      },
  λ h. (posted_front m xs (x ∷ []) h, back 1 0 xs x h.groups, is_lawful m x (λ f l n e. h.nodes f l n (subst (λ (y : Letter). Has (xs ++ x ∷ []) y) e (has_last xs x)))),
)

-- ---- marks and states

pub grows : LawGrown
grows group [] x = refl
grows group (y ∷ xs) x = grows (grown group y) xs x

from : (group : ℕ × ℕ) (xs : List Letter) → group.0 ≤ (unfinished group xs).0
from group [] = omega arith
from group (State f l n ∷ xs) = from (group.0, group.1 + 1) xs
from group (Mark f l y t ∷ xs) = let a = from (group.0 + 1, 0) xs in omega arith

mark_there : (a n : ℕ) (xs : List Letter) (m : ℕ) → InGroups a n xs → a ≤ m → m < (unfinished (a, n) xs).0 → (f : ℕ) × (y : ℕ) × (t : ℕ) × Has xs (Mark f m y t)
mark_there a n [] m h le lt = absurd (omega arith)
mark_there a n (State f l node ∷ xs) m h le lt = let r = mark_there a (n + 1) xs m h.1 le lt in (r.0, r.1, r.2, (suc r.3.0, r.3.1))
mark_there a n (Mark f l y t ∷ xs) m h le lt =
    elim (cases_eq a m) [
      | inl e ↦ (f, y, t, (0, ap (λ (k : ℕ). Some (Mark f k y t)) (h.0 ∙ e)))
      | inr ne ↦ (let r = mark_there (a + 1) 0 xs m h.2 (omega arith) lt in (r.0, r.1, r.2, (suc r.3.0, r.3.1)))
    ]

mark_before : (a n : ℕ) (xs : List Letter) (f m y t : ℕ) → InGroups a n xs → Has xs (Mark f m y t) → m < (unfinished (a, n) xs).0
mark_before a n [] f m y t h k = absurd (has_none (Mark f m y t) k)
mark_before a n (State f' l node ∷ xs) f m y t h k =
    elim (has_head (State f' l node) xs (Mark f m y t) k) [
      | inl e ↦ absurd (let clash : State f' l node ≡ Mark f m y t = e in cc)
      | inr b ↦ mark_before a (n + 1) xs f m y t h.1 b
    ]
mark_before a n (Mark f' l y' t' ∷ xs) f m y t h k =
    elim (has_head (Mark f' l y' t') xs (Mark f m y t) k) [
      | inl e ↦ (let same = ap layer_of e in let up = from (a + 1, 0) xs in omega (arith, same, h.0))
      | inr b ↦ mark_before (a + 1) 0 xs f m y t h.2 b
    ]

pub marks : LawMarks
marks xs h = (λ l le lt. mark_there 1 0 xs l h le lt, λ f l y t k. mark_before 1 0 xs f l y t h k)

is_zero : (b : Bool) → b ≡ false → ◌≡◌ {A = ℕ} (if b then 1 else 0) 0
is_zero true e = absurd (cc)
is_zero false e = refl

is_one : (b : Bool) → b ≡ true → ◌≡◌ {A = ℕ} (if b then 1 else 0) 1
is_one true e = refl
is_one false e = absurd (cc)

states_here : (l n : ℕ) (xs : List Letter) → InGroups l n xs → (unfinished (l, n) xs).0 ≡ l → n + states_at l xs ≡ (unfinished (l, n) xs).1
states_here l n [] h e = omega arith
states_here l n (State f m node ∷ xs) h e =
    let a = states_here l (n + 1) xs h.1 e in
    let b = sum_by-cons (is_at l) (State f m node) xs in
    let c = is_one (nat_eq m l) (eq-eqb m l h.0) in
    omega (arith, a, b, c)
states_here l n (Mark f m y t ∷ xs) h e = let a = from (l + 1, 0) xs in absurd (omega arith)

states_later : (a n l : ℕ) (xs : List Letter) → a < l → InGroups a n xs → (unfinished (a, n) xs).0 ≡ l → states_at l xs ≡ (unfinished (a, n) xs).1
states_later a n l [] lt h e = absurd (omega arith)
states_later a n l (State f m node ∷ xs) lt h e =
    let r = states_later a (n + 1) l xs lt h.1 e in
    let b = sum_by-cons (is_at l) (State f m node) xs in
    let same = h.0 in
    let c = is_zero (nat_eq m l) (ne_eqb m l (λ e'. omega arith)) in
    omega (arith, r, b, c)
states_later a n l (Mark f m y t ∷ xs) lt h e =
    let b = sum_by-cons (is_at l) (Mark f m y t) xs in
    elim (cases_eq (a + 1) l) [
      | inl same ↦ (let r = states_here (a + 1) 0 xs h.2 (e ∙ sym same) in
          let at_l = ap (λ (d : ℕ). states_at d xs) same in
          omega (arith, r, b, at_l))
      | inr ne ↦ (let r = states_later (a + 1) 0 l xs (omega arith) h.2 e in omega (arith, r, b))
    ]

pub states : LawStates
states xs h =
    elim (cases_eq 1 (unfinished (1, 0) xs).0) [
      | inl same ↦ (let r = states_here 1 0 xs h (sym same) in
          let at_l = ap (λ (d : ℕ). states_at d xs) same in
          omega (arith, r, at_l))
      | inr ne ↦ (let a = from (1, 0) xs in states_later 1 0 (unfinished (1, 0) xs).0 xs (omega arith) h refl)
    ]
