-- Steps that may fail, one after another, and what a call answers of them: want of memory is the one answer that says
-- nothing.
use Rattle.std.specs.Prelude.{◌≡◌, Bool, true, false, List, [], ◌∷◌, Option, Some, None, Result, Ok, Err, ⊤}

-- what comes after a step that may fail
infixl 10 ◌>>=◌
abbrev pub ◌>>=◌ : {A B E : Type 0} → Result A E → (A → Result B E) → Result B E
(Ok x) >>= f = f x
(Err e) >>= f = Err e

-- the values of steps, in order, up to the first that fails
abbrev pub in_turn : {A B E : Type 0} → (A → Result B E) → List A → Result (List B) E
in_turn f [] = Ok []
in_turn f (x ∷ xs) = f x >>= λ y. in_turn f xs >>= λ ys. Ok (y ∷ ys)

-- a state that each step changes, in order, up to the first that fails
abbrev pub each : {S A E : Type 0} → (S → A → Result S E) → S → List A → Result S E
each step s [] = Ok s
each step s (x ∷ xs) = step s x >>= λ t. each step t xs

-- P, unless a test holds
abbrev pub unless : Bool → Type 0 → Type 0
unless true P = ⊤
unless false P = P

-- memory ran out, or P says what was refused
abbrev pub MemoryOr : {E : Type 0} → (is_memory : E → Bool) → (E → Type 0) → E → Type 0
MemoryOr is_memory P e = unless (is_memory e) (P e)

-- a value is refused so, where something was refused
abbrev pub Refuses : {B R : Type 0} → Option R → Result B R → Type 0
Refuses None value = ⊤
Refuses (Some r) value = value ≡ Err r

-- An error is told as what was refused, and want of memory as nothing. The answer stands for this value, or is this
-- refusal, or memory ran out.
abbrev pub AnswersBy : {A B E R : Type 0} → (told : E → Option R) → (A → B) → Result A E → Result B R → Type 0
AnswersBy told view (Ok x) value = value ≡ Ok (view x)
AnswersBy told view (Err e) value = Refuses (told e) value

-- the answer is this value, or this refusal, or memory ran out
abbrev pub Answers : {A E R : Type 0} → (told : E → Option R) → Result A E → Result A R → Type 0
Answers told (Ok x) value = value ≡ Ok x
Answers told (Err e) value = Refuses (told e) value
