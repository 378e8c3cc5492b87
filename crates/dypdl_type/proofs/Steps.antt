-- One more expression of those that are typed in turn.
use Rattle.std.proofs.Common.{◌≡◌, ◌∙◌, ℕ, zero, suc, ◌+◌, ◌<◌, List, [], ◌∷◌, ◌++◌, length, drop, get_or, Result, Ok, Err, refl, sym, ap, add-one, append_assoc, arith}
use Rattle.std.proofs.Math.Seq.{drop-cons}
use Rattle.dp_model.specs.declared.trees.Arg.{Arg}
use Rattle.dypdl_expr.specs.declared.expr.Expr.{Expr}
use Rattle.dypdl_words.specs.Scopes.{Names}
use Rattle.dypdl_words.specs.declared.ends.TypeEnd.{TypeEnd}
use Rattle.dp_base.specs.Results.{◌>>=◌, in_turn}
use Rattle.dypdl_type.specs.Forms.{typings}
use Rattle.dypdl_type.specs.Typing.{Typing, typing, term, terms}

-- what comes after one more tree
joined : {B : Type 0} (rest : Result (List B) TypeEnd) (y : B) (before : List B) → ((rest >>= λ ys. Ok (y ∷ ys)) >>= λ more. Ok (before ++ more)) ≡ (rest >>= λ more. Ok ((before ++ y ∷ []) ++ more))
joined (Ok ys) y before = ap Ok (sym (append_assoc before (y ∷ []) ys))
joined (Err e) y before = refl

-- trees that were read before, the next one, and the rest
grown : {B : Type 0} (left : Result (List B) TypeEnd) (first : Result B TypeEnd) (rest all : Result (List B) TypeEnd) (y : B) (before after : List B) → left ≡ (first >>= λ z. rest >>= λ zs. Ok (z ∷ zs)) → first ≡ Ok y → after ≡ before ++ y ∷ [] → (left >>= λ more. Ok (before ++ more)) ≡ all → (rest >>= λ more. Ok (after ++ more)) ≡ all
grown {B} left first rest all y before after step typed pushed given =
    ap (λ (items : List B). rest >>= λ more. Ok (items ++ more)) pushed
    ∙ sym (joined rest y before)
    ∙ ap (λ (r : Result B TypeEnd). (r >>= λ z. rest >>= λ zs. Ok (z ∷ zs)) >>= λ more. Ok (before ++ more)) (sym typed)
    ∙ ap (λ (r : Result (List B) TypeEnd). r >>= λ more. Ok (before ++ more)) (sym step)
    ∙ given

pub one_more : {B : Type 0} (g : Typing → Result B TypeEnd) (names : Names) (es : List Expr) (i : ℕ) (e : Expr) (y : B) (before after : List B) (all : Result (List B) TypeEnd) → i < length es → e ≡ get_or es i e → g (typing names e) ≡ Ok y → after ≡ before ++ y ∷ [] → (in_turn g (typings names (drop i es)) >>= λ more. Ok (before ++ more)) ≡ all → (in_turn g (typings names (drop (i + 1) es)) >>= λ more. Ok (after ++ more)) ≡ all
one_more g names es i e y before after all inside is typed pushed given =
    let step : in_turn g (typings names (drop i es)) ≡ (g (typing names e) >>= λ z. in_turn g (typings names (drop (i + 1) es)) >>= λ zs. Ok (z ∷ zs)) = rw (add-one, drop-cons es i e, ← is) refl in
    grown (in_turn g (typings names (drop i es))) (g (typing names e)) (in_turn g (typings names (drop (i + 1) es))) all y before after step typed pushed given

pub one_more_term : (names : Names) (objects : List ℕ) (es : List Expr) (i object : ℕ) (e : Expr) (y : Arg) (before after : List Arg) (all : Result (List Arg) TypeEnd) → i < length objects → i < length es → object ≡ get_or objects i object → e ≡ get_or es i e → term object (typing names e) ≡ Ok y → after ≡ before ++ y ∷ [] → (terms (drop i objects) (typings names (drop i es)) >>= λ more. Ok (before ++ more)) ≡ all → (terms (drop (i + 1) objects) (typings names (drop (i + 1) es)) >>= λ more. Ok (after ++ more)) ≡ all
one_more_term names objects es i object e y before after all h k is_object is typed pushed given =
    let step : terms (drop i objects) (typings names (drop i es)) ≡ (term object (typing names e) >>= λ z. terms (drop (i + 1) objects) (typings names (drop (i + 1) es)) >>= λ zs. Ok (z ∷ zs)) = rw (add-one, drop-cons objects i object, drop-cons es i e, ← is_object, ← is) refl in
    grown (terms (drop i objects) (typings names (drop i es))) (term object (typing names e)) (terms (drop (i + 1) objects) (typings names (drop (i + 1) es))) all y before after step typed pushed given

-- an item that is there, whatever stands for a missing one
pub same_item : (xs : List ℕ) (i d e : ℕ) → i < length xs → get_or xs i d ≡ get_or xs i e
same_item [] i d e h = absurd (omega arith)
same_item (x ∷ xs) zero d e h = refl
same_item (x ∷ xs) (suc i) d e h = same_item xs i d e (omega arith)
