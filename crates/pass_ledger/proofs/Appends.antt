-- Lists of letters and rows with one more at an end.
use Rattle.std.proofs.Common.{◌≡◌, ◌≢◌, ℕ, ◌+◌, ◌≤◌, ◌<◌, ◌⊎◌, inl, inr, zero, suc, Bool, true, false, nat_eq, if◌then◌else◌, List, [], ◌∷◌, ◌++◌, length, slice_get, Some, None, refl, sym, subst, ◌∙◌, ap, arith, eq-eqb}
use Rattle.std.proofs.lemmas.Bool.{cases_eq, cases_lt, ne_eqb}
use Rattle.std.proofs.lemmas.List.{get_or-set_same, get_or-set_other, set_past, get_or_append_left, get_or_push, get_or_past, length_push}
use Rattle.std.proofs.lemmas.List.Sums.{sum_by-set, sum_by_push}
use Rattle.dp_claims.specs.Enough.{Has}
use Rattle.pass_ledger.specs.Letters.{of, is_at, states_at, all_states_at}
use Rattle.pass_ledger.specs.Rows.{row}
use Rattle.state_layout.specs.declared.node.Node.{Node}
use Rattle.pass_ledger.specs.declared.mail.Letter.{Letter}
use Rattle.pass_ledger.specs.declared.mail.Letter.TheVariants.{State}
use Rattle.pass_ledger.specs.declared.records.LedgerRow.{LedgerRow}
use Rattle.pass_ledger.specs.Events.{append_at}
use Rattle.pass_ledger.proofs.Lists.{has_left, has_cases, has_head, has_none}

pub append_same : (letters : List (List Letter)) (j : ℕ) (x : Letter) → j < length letters → of (append_at letters j x) j ≡ of letters j ++ x ∷ []
append_same letters j x lt = get_or-set_same letters j (of letters j ++ x ∷ []) [] lt

pub append_other : (letters : List (List Letter)) (j : ℕ) (x : Letter) (k : ℕ) → k ≢ j → of (append_at letters j x) k ≡ of letters k
append_other letters j x k ne = get_or-set_other letters j k (of letters j ++ x ∷ []) [] ne

append_past : (letters : List (List Letter)) (j : ℕ) (x : Letter) → length letters ≤ j → append_at letters j x ≡ letters
append_past letters j x le = set_past letters j (of letters j ++ x ∷ []) le

pub append_cases : (letters : List (List Letter)) (j : ℕ) (x : Letter) (k : ℕ) (y : Letter) → Has (of (append_at letters j x) k) y → Has (of letters k) y ⊎ ((k ≡ j) × (x ≡ y))
append_cases letters j x k y h =
    elim (cases_eq k j) [
      | inr ne ↦ inl (subst (λ (l : List Letter). Has l y) (append_other letters j x k ne) h)
      | inl e ↦ elim (cases_lt j (length letters)) [
        | inl lt ↦ elim (has_cases (of letters j) (x ∷ []) y (subst (λ (l : List Letter). Has l y) (ap (of (append_at letters j x)) e ∙ append_same letters j x lt) h)) [
          | inl a ↦ inl (subst (λ (m : ℕ). Has (of letters m) y) (sym e) a)
          | inr b ↦ inr (e, elim (has_head x [] y b) [ inl s ↦ s | inr n ↦ absurd (has_none y n) ])
        ]
        | inr ge ↦ inl (subst (λ (ls : List (List Letter)). Has (of ls k) y) (append_past letters j x ge) h)
      ]
    ]

pub append_old : (letters : List (List Letter)) (j : ℕ) (x : Letter) (k : ℕ) (y : Letter) → Has (of letters k) y → Has (of (append_at letters j x) k) y
append_old letters j x k y h =
    elim (cases_eq k j) [
      | inr ne ↦ subst (λ (l : List Letter). Has l y) (sym (append_other letters j x k ne)) h
      | inl e ↦ elim (cases_lt j (length letters)) [
        | inl lt ↦ subst (λ (l : List Letter). Has l y) (sym (ap (of (append_at letters j x)) e ∙ append_same letters j x lt))
            (has_left (of letters j) (x ∷ []) y (subst (λ (m : ℕ). Has (of letters m) y) e h))
        | inr ge ↦ subst (λ (ls : List (List Letter)). Has (of ls k) y) (sym (append_past letters j x ge)) h
      ]
    ]

pub count_more : (letters : List (List Letter)) (j : ℕ) (x : Letter) (l : ℕ) → j < length letters → all_states_at l (append_at letters j x) ≡ all_states_at l letters + is_at l x
count_more letters j x l lt =
    let a = sum_by-set (states_at l) letters j (of letters j ++ x ∷ []) [] lt in
    let b : states_at l (of letters j ++ x ∷ []) ≡ states_at l (of letters j) + is_at l x = sum_by_push (is_at l) (of letters j) x in
    omega (arith, a, b)

zero_if : (b : Bool) → b ≡ false → ◌≡◌ {A = ℕ} (if b then 1 else 0) 0
zero_if true e = absurd (cc)
zero_if false e = refl

pub not_at : (l m f : ℕ) (n : Node) → m ≢ l → is_at l (State f m n) ≡ 0
not_at l m f n ne = zero_if (nat_eq m l) (ne_eqb m l ne)

one_if : (b : Bool) → b ≡ true → ◌≡◌ {A = ℕ} (if b then 1 else 0) 1
one_if true e = refl
one_if false e = absurd (cc)

pub at_one : (l m f : ℕ) (n : Node) → m ≡ l → is_at l (State f m n) ≡ 1
at_one l m f n e = one_if (nat_eq m l) (eq-eqb m l e)

-- what holds of each row, and of a new one behind them, holds of all
pub row_each : (P : ℕ → LedgerRow → Type 0) (rows : List LedgerRow) (new : LedgerRow) → ((l : ℕ) → l < length rows → P l (row rows l)) → P (length rows) new → ((l : ℕ) → length rows < l → P l (record { kept = []; dropped = [] })) → (l : ℕ) → P l (row (rows ++ new ∷ []) l)
row_each P rows new old here past l =
    elim (cases_lt l (length rows)) [
      | inl lt ↦ subst (P l) (sym (get_or_append_left rows (new ∷ []) (record { kept = []; dropped = [] }) l lt)) (old l lt)
      | inr ge ↦ elim (cases_eq (length rows) l) [
        | inl e ↦ subst (λ (m : ℕ). P m (row (rows ++ new ∷ []) m)) e (subst (P (length rows)) (sym (get_or_push rows new (record { kept = []; dropped = [] }) (length rows) refl)) here)
        | inr ne ↦ let lt : length rows < l = omega arith in
            let long : length (rows ++ new ∷ []) ≤ l = omega (arith, length_push rows new) in
            subst (P l) (sym (get_or_past (rows ++ new ∷ []) l (record { kept = []; dropped = [] }) long)) (past l lt)
      ]
    ]

pub row_old : (rows : List LedgerRow) (new : LedgerRow) (l : ℕ) → l < length rows → row (rows ++ new ∷ []) l ≡ row rows l
row_old rows new l lt = get_or_append_left rows (new ∷ []) (record { kept = []; dropped = [] }) l lt

pub get_push : {A : Type 0} (xs : List A) (x : A) (k : ℕ) (y : A) → slice_get (xs ++ x ∷ []) k ≡ Some y → (slice_get xs k ≡ Some y) ⊎ ((k ≡ length xs) × (x ≡ y))
get_push [] x zero y e = inr (refl, cc)
get_push [] x (suc k) y e = let no : None ≡ Some y = e in absurd (cc)
get_push (z ∷ xs) x zero y e = inl e
get_push (z ∷ xs) x (suc k) y e = elim (get_push xs x k y e) [ inl a ↦ inl a | inr b ↦ inr (ap suc b.0, b.1) ]

pub get_last : {A : Type 0} (xs : List A) (x : A) → slice_get (xs ++ x ∷ []) (length xs) ≡ Some x
get_last [] x = refl
get_last (y ∷ xs) x = get_last xs x
