-- What holds of what steps give.
use Rattle.std.proofs.Common.{ℕ, ◌-◌, List, [], ◌∷◌, length, Option, Result, Ok, Err, IfOk, refl}
use Rattle.dp_base.specs.Results.{◌>>=◌, each, Answers}
use Rattle.dp_base.specs.declared.place.Place.{Place}
use Rattle.yaml_tree.specs.declared.tree.Tree.{Tree}
use Rattle.dypdl_expr.specs.declared.expr.Expr.{Expr}
use Rattle.dypdl_words.specs.Ends.{told}
use Rattle.dypdl_words.specs.declared.ends.TypeEnd.{TypeEnd}
use Rattle.dypdl_words.specs.declared.ends.TypeEnd.TheVariants as types
use Rattle.dypdl_nodes.specs.Reads.{Reads}
use Rattle.dypdl_nodes.specs.Shapes.{items_or_none}
use Rattle.dypdl_rules.specs.Expressions.{Reading, expression_of, type_placed, typed_by}
use Rattle.dypdl_rules.specs.Moves.{in_both}

pub and_then : {A B E : Type 0} (P : A → Type 0) (Q : B → Type 0) (r : Result A E) (f : A → Result B E) → IfOk r P → ((x : A) → P x → IfOk (f x) Q) → IfOk (r >>= f) Q
and_then P Q (Ok x) f h more = more x h
and_then P Q (Err e) f h more = tt

-- whatever comes before
pub after : {A B E : Type 0} (Q : B → Type 0) (r : Result A E) (f : A → Result B E) → ((x : A) → IfOk (f x) Q) → IfOk (r >>= f) Q
after Q (Ok x) f more = more x
after Q (Err e) f more = tt

-- what holds of a state in the beginning and is kept by each step
pub each_keeps : {S A E : Type 0} (P : S → Type 0) (step : S → A → Result S E) → ((s : S) (x : A) → P s → IfOk (step s x) P) → (s : S) (xs : List A) → P s → IfOk (each step s xs) P
each_keeps P step keeps s [] h = h
each_keeps P step keeps s (x ∷ xs) h = and_then P P (step s x) (λ t. each step t xs) (keeps s x h) (λ t k. each_keeps P step keeps t xs k)

pub both_keep : {A : Type 0} (P : List A → Type 0) (most : ℕ) (step : List A → Tree → Reads (List A)) (domain problem : Option Tree) → ((s : List A) (x : Tree) → P s → IfOk (step s x) P) → P [] → IfOk (in_both most step domain problem) P
both_keep P most step domain problem keeps h =
    after P (items_or_none most domain) _ (λ first.
    and_then P P (each step [] first) _ (each_keeps P step keeps [] first h) (λ done k.
    after P (items_or_none (most - length first) problem) _ (λ second. each_keeps P step keeps done second k)))

-- ---- expressions

placed : {A : Type 0} (P : A → Type 0) (at : Place) (r : Result A TypeEnd) → IfOk r P → IfOk (type_placed at r) P
placed P at (Ok x) h = h
placed P at (Err (types.UnknownName offset)) h = tt
placed P at (Err (types.WrongKind offset)) h = tt
placed P at (Err (types.WrongCount offset)) h = tt
placed P at (Err (types.CostPlace offset)) h = tt
placed P at (Err (types.Continuous offset)) h = tt
placed P at (Err (types.BadNumber offset)) h = tt
placed P at (Err (types.CostForm offset)) h = tt
placed P at (Err types.Memory) h = tt

pub typed_gives : {A : Type 0} (P : A → Type 0) (read : Reading) (typed : Expr → Result A TypeEnd) (tree : Tree) → ((e : Expr) → IfOk (typed e) P) → IfOk (typed_by read typed tree) P
typed_gives P read typed tree h = after P (expression_of read tree) _ (λ e. placed P _ (typed e) (h e))

-- a typing tells itself
pub itself : {A : Type 0} (r : Result A TypeEnd) → Answers told r r
itself (Ok x) = refl
itself (Err (types.UnknownName offset)) = refl
itself (Err (types.WrongKind offset)) = refl
itself (Err (types.WrongCount offset)) = refl
itself (Err (types.CostPlace offset)) = refl
itself (Err (types.Continuous offset)) = refl
itself (Err (types.BadNumber offset)) = refl
itself (Err (types.CostForm offset)) = refl
itself (Err types.Memory) = tt
