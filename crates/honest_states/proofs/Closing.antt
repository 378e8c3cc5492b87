-- Tables that begin with free atoms and go on with atoms that are defined by earlier ones.
use Rattle.std.proofs.Common.{◌≡◌, ℕ, zero, suc, ◌<◌, true, List, [], ◌∷◌, ◌++◌, length, slice_get, Option, Some, refl, sym, ap, ◌∙◌, subst}
use Rattle.std.proofs.lemmas.Option.{slice_get_within}
use Rattle.dp_model.specs.declared.parts.PlainState.{PlainState}
use Rattle.poly_terms.specs.declared.table.Atom.{Atom}
use Rattle.poly_terms.specs.declared.table.Atom.TheVariants.{Bit, Number, Most, Least, Over, AtMostZero}
use Rattle.poly_terms.specs.Fits.{Fits}
use Rattle.poly_eval.specs.declared.symbols.Symbol.{Symbol}
use Rattle.poly_eval.specs.declared.symbols.Symbol.TheVariants as shown
use Rattle.poly_terms.specs.declared.terms.Term.{Term}
use Rattle.dp_model.specs.declared.parts.PlainValue.{PlainValue}
use Rattle.poly_eval.specs.Shows.{Extends, Shows, ShowsValue}
use Rattle.poly_met.specs.Met.{sum_below, is_founded, IsFounded, IsDefinedFrom}
use Rattle.poly_met.proofs.Tables.{worth_same, all_met_law}
use Rattle.honest_states.specs.Symbols.{is_free_kind, AgreeBelow, RestsOn, IsClosed}

founded_free : (k : ℕ) (a : Atom) → is_free_kind a ≡ true → is_founded k a ≡ true
founded_free k Bit h = refl
founded_free k (Number low high) h = refl
founded_free k (Most p q) h = absurd (cc)
founded_free k (Least p q) h = absurd (cc)
founded_free k (Over p d) h = absurd (cc)
founded_free k (AtMostZero p) h = absurd (cc)

same_some : (x y : Atom) → Some x ≡ Some y → x ≡ y
same_some x y e = cc

-- a table that has each atom of another one at its place begins with that one
extends_split : (front table : List Atom) → Extends front table → (more : List Atom) × (table ≡ front ++ more)
extends_split [] table extends = (table, refl)
extends_split (a ∷ front) [] extends = absurd (none (extends zero a refl))
  where
    none : {x : Atom} → slice_get [] 0 ≡ Some x → ⊥
    none {x} e = cc
extends_split (a ∷ front) (b ∷ table) extends =
    let rest = extends_split front table (λ k x e. extends (suc k) x e) in
    (rest.0, ap (λ (x : Atom). x ∷ table) (same_some b a (extends zero a refl)) ∙ ap (λ (xs : List Atom). a ∷ xs) rest.1)

pub closed_is : (table : List Atom) (free : ℕ) (symbols : List Symbol) → ((k : ℕ) (a : Atom) → k < free → slice_get table k ≡ Some a → is_free_kind a ≡ true) → IsDefinedFrom free table
    → ((s : PlainState) → RestsOn free (λ v. Shows v symbols s)) → IsClosed table free symbols
closed_is table free symbols all defined rests front v s len extends fits shows =
    let split = extends_split front table extends in
    let founded : IsFounded front = λ k a e. founded_free k a (all k a (subst (λ (n : ℕ). k < n) len (slice_get_within front k a e)) (extends k a e)) in
    let later : IsDefinedFrom (length front) (front ++ split.0) = subst (λ (ts : List Atom). IsDefinedFrom (length front) ts) split.1 (subst (λ (n : ℕ). IsDefinedFrom n table) (sym len) defined) in
    let met = all_met_law front split.0 v founded later fits in
    let agree : AgreeBelow free v met.0 = λ k lt. met.2 k (subst (λ (n : ℕ). k < n) (sym len) lt) in
    (met.0, subst (λ (ts : List Atom). Fits ts met.0) (sym split.1) met.1, rests s v met.0 agree shows, agree)

-- a symbol that is a sum, or bits, rests on the atoms that these name
pub number_rests : (n : ℕ) (x : Symbol) (p : List Term) → x ≡ shown.Number p → sum_below n p ≡ true → (held : Option PlainValue) → RestsOn n (λ v. ShowsValue v x held)
number_rests n x p is h = subst (λ (y : Symbol). (held : Option PlainValue) → RestsOn n (λ v. ShowsValue v y held)) (sym is) (λ held v w agree e. e ∙ sym (worth_same n v w agree p h))

pub bits_rest : (n : ℕ) (x : Symbol) (bits : List (List Term)) → x ≡ shown.Members bits → ((held : Option PlainValue) → RestsOn n (λ v. ShowsValue v (shown.Members bits) held)) → (held : Option PlainValue) → RestsOn n (λ v. ShowsValue v x held)
bits_rest n x bits is h = subst (λ (y : Symbol). (held : Option PlainValue) → RestsOn n (λ v. ShowsValue v y held)) (sym is) h
