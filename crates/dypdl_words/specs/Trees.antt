-- Trees of operands that are typed, or the first refusal of one.
use Rattle.std.specs.Prelude.{ℕ, List, Result, Ok}
use Rattle.dp_base.specs.Results.{◌>>=◌}
use Rattle.dp_model.specs.declared.trees.Compare.{Compare}
use Rattle.dp_model.specs.declared.trees.NumOp.{NumOp}
use Rattle.dp_model.specs.declared.trees.SetOp.{SetOp}
use Rattle.dp_model.specs.declared.trees.Arg.{Arg}
use Rattle.dp_model.specs.declared.trees.Num.{Num}
use Rattle.dp_model.specs.declared.trees.Num.TheVariants as num
use Rattle.dp_model.specs.declared.trees.SetEx.{SetEx}
use Rattle.dp_model.specs.declared.trees.SetEx.TheVariants as set
use Rattle.dp_model.specs.declared.trees.Cond.{Cond}
use Rattle.dp_model.specs.declared.trees.Cond.TheVariants as cond
use Rattle.dypdl_words.specs.declared.ends.TypeEnd.{TypeEnd}
use Rattle.dypdl_words.specs.declared.words.Change.{Change}
use Rattle.dypdl_words.specs.declared.words.Connective.{Connective}
use Rattle.dypdl_words.specs.declared.folding.SetRelation.{SetRelation}
use Rattle.dypdl_words.specs.Folding.{folded_numbers, folded_sets, changed_set, connected, related}

abbrev pub Numbered : Type 0
Numbered = Result Num TypeEnd

-- a set with its object type
abbrev pub Membered : Type 0
Membered = Result (ℕ × SetEx) TypeEnd

abbrev pub Held : Type 0
Held = Result Cond TypeEnd

-- both, of which the first is refused first
abbrev pub both : {A B : Type 0} → Result A TypeEnd → Result B TypeEnd → Result (A × B) TypeEnd
both x y = x >>= λ a. y >>= λ b. Ok (a, b)

abbrev pub size : Membered → Numbered
size x = x >>= λ s. Ok (num.Size s.1)

abbrev pub operation : NumOp → Numbered → Result (List Num) TypeEnd → Numbered
operation op x xs = both x xs >>= λ p. Ok (folded_numbers op p.0 p.1)

abbrev pub number_choice : Held → (a b : Numbered) → Numbered
number_choice c a b = both c (both a b) >>= λ p. Ok (num.If p.0 p.1.0 p.1.1)

abbrev pub number_cell : (t : ℕ) → Result (List Num) TypeEnd → Numbered
number_cell t xs = xs >>= λ ns. Ok (num.Cell t ns)

abbrev pub sum : (t : ℕ) → Result (List Arg) TypeEnd → Numbered
sum t xs = xs >>= λ ys. Ok (num.Sum t ys)

abbrev pub complement : Membered → Membered
complement x = x >>= λ s. Ok (s.0, set.Not s.1)

abbrev pub change_of : Change → Numbered → Membered → Membered
change_of change n x = both n x >>= λ p. Ok (p.1.0, changed_set change p.0 p.1.1)

-- the sets after the first
abbrev pub set_operation : (object : ℕ) → SetOp → SetEx → Result (List (ℕ × SetEx)) TypeEnd → Membered
set_operation object op s xs = xs >>= λ ss. Ok (object, folded_sets op s ss)

-- the second set
abbrev pub set_pair : (object : ℕ) → SetEx → Membered → Result (ℕ × (SetEx × SetEx)) TypeEnd
set_pair object a x = x >>= λ s. Ok (object, (a, s.1))

abbrev pub set_choice : Held → Result (ℕ × (SetEx × SetEx)) TypeEnd → Membered
set_choice c x = both c x >>= λ p. Ok (p.1.0, set.If p.0 p.1.1.0 p.1.1.1)

abbrev pub set_cell : (object t : ℕ) → Result (List Num) TypeEnd → Membered
set_cell object t xs = xs >>= λ ns. Ok (object, set.Cell t ns)

abbrev pub comparison : Compare → (a b : Numbered) → Held
comparison op a b = both a b >>= λ p. Ok (cond.Numbers op p.0 p.1)

abbrev pub set_relation : SetRelation → Result (ℕ × (SetEx × SetEx)) TypeEnd → Held
set_relation relation x = x >>= λ p. Ok (related relation p.1.0 p.1.1)

abbrev pub membership : Numbered → Membered → Held
membership n x = both n x >>= λ p. Ok (cond.IsIn p.0 p.1.1)

abbrev pub emptiness : Membered → Held
emptiness x = x >>= λ s. Ok (cond.Empty s.1)

abbrev pub negation : Held → Held
negation x = x >>= λ c. Ok (cond.Not c)

abbrev pub connection : Connective → Held → Result (List Cond) TypeEnd → Held
connection op x xs = both x xs >>= λ p. Ok (connected op p.0 p.1)

abbrev pub condition_choice : (c a b : Held) → Held
condition_choice c a b = both c (both a b) >>= λ p. Ok (cond.If p.0 p.1.0 p.1.1)

abbrev pub condition_cell : (t : ℕ) → Result (List Num) TypeEnd → Held
condition_cell t xs = xs >>= λ ns. Ok (cond.Cell t ns)
