-- Tables that grow, and tests as bits.
use Rattle.std.proofs.Common.{◌≡◌, ℕ, zero, suc, ◌+◌, ◌<◌, ◌≤◌, ℤ, pos, ◌*ℤ◌, ◌-ℤ◌, Bool, true, false, ◌&&◌, List, [], ◌∷◌, ◌++◌, length, drop, get_or, Option, Some, None, Result, Ok, Err, IfOk, IfSome, slice_get, refl, sym, ap, ◌∙◌, add-one, drop-cons, ◌⊎◌, inl, inr}
use Rattle.std.specs.List.{list_all}
use Rattle.std.proofs.lemmas.List.{drop_all}
use Rattle.dp_model.specs.declared.trees.Over.{Over}
use Rattle.dp_model.specs.declared.parts.PlainState.{PlainState}
use Rattle.dp_steps.specs.States.{are_members}
use Rattle.spot_eval.specs.Moves.{is_member}
use Rattle.spot_eval.proofs.Members.{members_step, members_past}
use Rattle.poly_terms.specs.declared.table.Atom.{Atom}
use Rattle.poly_terms.specs.Worth.{as_bit}
use Rattle.poly_terms.specs.Fits.{Fits}
use Rattle.poly_eval.specs.Shows.{Extends}
use Rattle.poly_eval.specs.declared.symbols.Symbol.{Symbol}
use Rattle.ring_laws.proofs.Ring.{times_assoc, times_one}
use Rattle.honest_states.specs.Modes.{in_mode}
use Rattle.honest_states.specs.Symbols.{CanShow, IsClosed}
use Rattle.honest_states.specs.declared.mode.Mode.{Mode}
use Rattle.honest_steps.specs.Views.{Begins}

pub extends_self : (table : List Atom) → Extends table table
extends_self table k atom at = at

pub extends_on : (a b c : List Atom) → Extends a b → Extends b c → Extends a c
extends_on a b c p q k atom at = q k atom (p k atom at)

pub fits_before : (old new : List Atom) (v : ℕ → ℤ) → Extends old new → Fits new v → Fits old v
fits_before old new v grows fits k atom at = fits k atom (grows k atom at)

pub begins_on : (mode : Mode) (old new : List Atom) (free : ℕ) (symbols : List Symbol) → Extends old new → Begins mode old free symbols → Begins mode new free symbols
begins_on mode old new free symbols grows b =
    record { front = b.front; long = b.long; extends = extends_on b.front old new b.extends grows; shows = b.shows }

-- a state of the mode is shown over the whole table
pub shown : (mode : Mode) (table : List Atom) (free : ℕ) (symbols : List Symbol) (s : PlainState) → Begins mode table free symbols → IsClosed table free symbols → in_mode mode s ≡ true → CanShow table symbols s
shown mode table free symbols s b closed inside =
    let front = b.shows s inside in
    let whole = closed b.front front.0 s b.long b.extends front.1 front.2 in
    (whole.0, whole.1, whole.2)

-- ---- bits

pub bit_and : (a b : Bool) → as_bit (a && b) ≡ as_bit a *ℤ as_bit b
bit_and true true = refl
bit_and true false = refl
bit_and false true = refl
bit_and false false = refl

pub bit_false : (b : Bool) → b ≡ false → pos 1 -ℤ as_bit b ≡ pos 1
bit_false b e = ap (λ (x : Bool). pos 1 -ℤ as_bit x) e

-- one more bit is multiplied in
pub bit_more : (done one both whole : ℤ) (a b : Bool) → one ≡ as_bit a → both ≡ done *ℤ one → done *ℤ as_bit (a && b) ≡ whole → both *ℤ as_bit b ≡ whole
bit_more done one both whole a b p q h =
    ap (λ (z : ℤ). z *ℤ as_bit b) (q ∙ ap (λ (z : ℤ). done *ℤ z) p)
    ∙ times_assoc done (as_bit a) (as_bit b)
    ∙ ap (λ (z : ℤ). done *ℤ z) (sym (bit_and a b))
    ∙ h

-- ---- answers

pub ok_some : {A E : Type 0} (r : Result (Option A) E) (P Q : A → Type 0) → IfOk r (λ o. IfSome o P) → ((x : A) → P x → Q x) → IfOk r (λ o. IfSome o Q)
ok_some (Ok (Some x)) P Q h f = f x h
ok_some (Ok None) P Q h f = tt
ok_some (Err e) P Q h f = tt

pub ok_one : {A E : Type 0} (r : Result A E) (P Q : A → Type 0) → IfOk r P → ((x : A) → P x → Q x) → IfOk r Q
ok_one (Ok x) P Q h f = f x h
ok_one (Err e) P Q h f = tt

-- ---- loops over lists of tests

-- what holds of each item and of one more
pub each_more : (P : ℕ → Bool) (xs : List ℕ) (x : ℕ) → ((k y : ℕ) → slice_get xs k ≡ Some y → P y ≡ true) → P x ≡ true → (k y : ℕ) → slice_get (xs ++ x ∷ []) k ≡ Some y → P y ≡ true
each_more P [] x h p zero y e = let same : x ≡ y = cc in rw (← same) p
each_more P [] x h p (suc k) y e = absurd (cc)
each_more P (z ∷ zs) x h p zero y e = h zero y e
each_more P (z ∷ zs) x h p (suc k) y e = each_more P zs x (λ i u at. h (suc i) u at) p k y e

-- the items that are left begin with the one that is looked at
pub parts_at : {A : Type 0} (xs : List A) (i : ℕ) (x : A) → i < length xs → x ≡ get_or xs i x → drop i xs ≡ x ∷ drop (i + 1) xs
parts_at xs i x lt is = rw (add-one, drop-cons xs i x lt) (ap (λ z. z ∷ drop (suc i) xs) (sym is))

-- one more test is looked at
pub all_more : {A : Type 0} (test : A → Bool) (xs : List A) (i : ℕ) (x : A) (done one both whole : ℤ) → i < length xs → x ≡ get_or xs i x → as_bit (test x) ≡ one → both ≡ done *ℤ one
    → done *ℤ as_bit (list_all test (drop i xs)) ≡ whole → both *ℤ as_bit (list_all test (drop (i + 1) xs)) ≡ whole
all_more test xs i x done one both whole lt is p q h =
    let parts = parts_at xs i x lt is in
    bit_more done one both whole (test x) (list_all test (drop (i + 1) xs)) (sym p) q (ap (λ zs. done *ℤ as_bit (list_all test zs)) (sym parts) ∙ h)

-- none is left
pub all_done : {A : Type 0} (test : A → Bool) (xs : List A) (i : ℕ) (done whole : ℤ) → length xs ≤ i → done *ℤ as_bit (list_all test (drop i xs)) ≡ whole → whole ≡ done
all_done test xs i done whole past h =
    sym h ∙ ap (λ zs. done *ℤ as_bit (list_all test zs)) (drop_all i xs past) ∙ times_one done

-- ---- the same for memberships

-- one more membership is looked at
pub members_more : (s : PlainState) (params : List Over) (given : List ℕ) (i : ℕ) (d : Over) (done one both whole : ℤ) → i < length params → i < length given → as_bit (is_member s (get_or params i d) (get_or given i 0)) ≡ one → both ≡ done *ℤ one
    → done *ℤ as_bit (are_members s (drop i params) (drop i given)) ≡ whole → both *ℤ as_bit (are_members s (drop (i + 1) params) (drop (i + 1) given)) ≡ whole
members_more s params given i d done one both whole lt more p q h =
    bit_more done one both whole (is_member s (get_or params i d) (get_or given i 0)) (are_members s (drop (i + 1) params) (drop (i + 1) given)) (sym p) q
    (ap (λ (b : Bool). done *ℤ as_bit b) (sym (members_step s params given i d lt more)) ∙ h)

-- none is left
pub members_past_all : (s : PlainState) (params : List Over) (given : List ℕ) (i : ℕ) (done whole : ℤ) → (length params ≤ i) ⊎ (length given ≤ i) → done *ℤ as_bit (are_members s (drop i params) (drop i given)) ≡ whole → whole ≡ done
members_past_all s params given i done whole (inl past) h =
    sym h ∙ ap (λ (overs : List Over). done *ℤ as_bit (are_members s overs (drop i given))) (drop_all i params past) ∙ times_one done
members_past_all s params given i done whole (inr past) h =
    sym h ∙ ap (λ (b : Bool). done *ℤ as_bit b) (members_past s params given i past) ∙ times_one done
