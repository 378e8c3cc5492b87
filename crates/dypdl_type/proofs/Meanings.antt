-- What a word means fits the lists of its names.
use Rattle.std.proofs.Common.{◌≡◌, ℕ, suc, ◌+◌, ◌<◌, Bool, true, false, not, if◌then◌else◌, nat_lt, List, [], ◌∷◌, length, Option, Some, None, IfSome, IsTrue, option_and_then, unwrap_or, slice_get, bytes_eq, codes, refl, sym, ap, ◌∙◌, subst, ℤ, arith}
use Rattle.std.specs.Option.{option_or}
use Rattle.std.specs.Str.{all_ascii_digits}
use Rattle.std.specs.Str.Parse.{without_leading_sign, signed_digits_value}
use Rattle.std.proofs.lemmas.Bool.{lt-ltb}
use Rattle.dp_model.specs.Typing.{kind_at, cells_at, args_at, are_numbers, are_truths, are_sets, sets_object, is_in_range}
use Rattle.dp_model.specs.declared.parts.Variable.{Variable}
use Rattle.dp_model.specs.declared.parts.Cells.{Cells}
use Rattle.dp_model.specs.declared.parts.Cells.TheVariants as cells
use Rattle.dp_model.specs.declared.parts.TableData.{TableData}
use Rattle.dypdl_words.specs.declared.scope.CellKind.{CellKind}
use Rattle.dypdl_words.specs.declared.scope.CellKind.TheVariants as kinds
use Rattle.dypdl_words.specs.declared.scope.Named.{Named}
use Rattle.dypdl_words.specs.declared.scope.Named.TheVariants as named
use Rattle.dypdl_words.specs.declared.scope.Param.{Param}
use Rattle.dypdl_words.specs.declared.words.Operator.{Operator}
use Rattle.dypdl_words.specs.Scopes.{Names, cell_kind, shape_of, variable_named, table_named, name_in, innermost, param_in}
use Rattle.dypdl_words.specs.Words.{Meaning, Head, begins_number, number_in_range, number_meaning, is_cost, name_meaning, meaning, operator_named, is_left_out, table_head, head_by, head_of}
use Rattle.dypdl_words.specs.Words as words

-- ---- choices

pub either_way : {A : Type 0} (P : A → Type 0) (b : Bool) (x y : A) → P x → P y → P (if b then x else y)
either_way P true x y h k = h
either_way P false x y h k = k

either_of : {A : Type 0} (P : A → Type 0) (o p : Option A) → IfSome o P → IfSome p P → IfSome (option_or o p) P
either_of P None p h k = k
either_of P (Some x) p h k = h

some_weaker : {A : Type 0} (P Q : A → Type 0) (o : Option A) → ((x : A) → P x → Q x) → IfSome o P → IfSome o Q
some_weaker P Q None more h = tt
some_weaker P Q (Some x) more h = more x h

-- ---- names of variables and tables

-- a table's cells are of this kind
abbrev pub AreCells : CellKind → Option Cells → Type 0
AreCells kinds.Integer xs = IsTrue (are_numbers xs)
AreCells kinds.Element xs = IsTrue (are_numbers xs)
AreCells kinds.Truth xs = IsTrue (are_truths xs)
AreCells (kinds.Set object) xs = (sets_object xs ≡ object) × IsTrue (are_sets xs)

-- a table of whole numbers holds numbers that are no members of an object type
abbrev pub IsPlain : CellKind → Option TableData → Type 0
IsPlain kinds.Integer (Some t) = IsTrue (not t.element) × IsTrue (are_numbers (Some t.cells))
IsPlain kinds.Integer None = ⊥
IsPlain other t = Unit {0}

-- the lists hold what a name stands for, under its number
abbrev pub Stands : List Variable → List TableData → Named → Type 0
Stands vs ts (named.Variable v kind) = kind_at vs v ≡ Some kind
Stands vs ts (named.Table t shape) = (args_at ts t ≡ shape.args) × AreCells shape.cells (cells_at ts t) × IsPlain shape.cells (slice_get ts t)

are_cells : (element : Bool) (xs : Cells) → AreCells (cell_kind element xs) (Some xs)
are_cells true (cells.Numbers xs) = refl
are_cells false (cells.Numbers xs) = refl
are_cells element (cells.Truths xs) = refl
are_cells element (cells.Sets object xs) = (refl, refl)

plain_cells : (t : TableData) (element : Bool) (xs : Cells) → t.element ≡ element → t.cells ≡ xs → IsPlain (cell_kind element xs) (Some t)
plain_cells t false (cells.Numbers xs) e is = (ap not e, ap (λ (cs : Cells). are_numbers (Some cs)) is)
plain_cells t true (cells.Numbers xs) e is = tt
plain_cells t element (cells.Truths xs) e is = tt
plain_cells t element (cells.Sets object xs) e is = tt

-- what is left of a list from `at` on
abbrev LeftFrom : {A : Type 0} → ℕ → (all left : List A) → Type 0
LeftFrom at all left = (k : ℕ) → slice_get all (at + k) ≡ slice_get left k

left_first : {A : Type 0} (at : ℕ) (all : List A) (x : A) (xs : List A) → LeftFrom at all (x ∷ xs) → slice_get all at ≡ Some x
left_first at all x xs left = let e : at ≡ at + 0 = omega arith in ap (slice_get all) e ∙ left 0

left_more : {A : Type 0} (at : ℕ) (all : List A) (x : A) (xs : List A) → LeftFrom at all (x ∷ xs) → LeftFrom (suc at) all xs
left_more at all x xs left k = let e : suc at + k ≡ at + suc k = omega arith in ap (slice_get all) e ∙ left (suc k)

variable_stands : (all : List Variable) (ts : List TableData) (at : ℕ) (vs : List Variable) (word : List ℕ) → LeftFrom at all vs → IfSome (variable_named at vs word) (Stands all ts)
variable_stands all ts at [] word left = tt
variable_stands all ts at (v ∷ vs) word left =
    either_way (λ (o : Option Named). IfSome o (Stands all ts)) (bytes_eq v.name word) (Some (named.Variable at v.kind)) (variable_named (suc at) vs word)
    (ap (λ (o : Option Variable). option_and_then (λ (x : Variable). Some x.kind) o) (left_first at all v vs left))
    (variable_stands all ts (suc at) vs word (left_more at all v vs left))

table_stands : (vs : List Variable) (all : List TableData) (at : ℕ) (ts : List TableData) (word : List ℕ) → LeftFrom at all ts → IfSome (table_named at ts word) (Stands vs all)
table_stands vs all at [] word left = tt
table_stands vs all at (t ∷ ts) word left =
    let first = left_first at all t ts left in
    either_way (λ (o : Option Named). IfSome o (Stands vs all)) (bytes_eq t.name word) (Some (named.Table at (shape_of t))) (table_named (suc at) ts word) (
      ap (λ (o : Option TableData). unwrap_or (option_and_then (λ (x : TableData). Some x.args) o) []) first,
      subst (λ (o : Option TableData). AreCells (cell_kind t.element t.cells) (option_and_then (λ (x : TableData). Some x.cells) o)) (sym first) (are_cells t.element t.cells),
      subst (λ (o : Option TableData). IsPlain (cell_kind t.element t.cells) o) (sym first) (plain_cells t t.element t.cells refl refl),
    )
    (table_stands vs all (suc at) ts word (left_more at all t ts left))

left_all : {A : Type 0} (all : List A) → LeftFrom 0 all all
left_all all k = let e : 0 + k ≡ k = omega arith in ap (slice_get all) e

pub name_stands : (names : Names) (word : List ℕ) → IfSome (name_in names word) (Stands names.variables names.tables)
name_stands names word =
    let vs = names.variables in
    let ts = names.tables in
    either_of (Stands vs ts) (variable_named 0 vs word) (table_named 0 ts word) (variable_stands vs ts 0 vs word (left_all vs)) (table_stands vs ts 0 ts word (left_all ts))

-- ---- parameters

innermost_below : (at : ℕ) (ps : List Param) (word : List ℕ) → IfSome (innermost at ps word) (λ p. p < at + length ps)
innermost_below at [] word = tt
innermost_below at (p ∷ ps) word =
    either_of (λ (k : ℕ). k < at + suc (length ps)) (innermost (suc at) ps word) (if bytes_eq p.name word then Some at else None)
    (some_weaker (λ (k : ℕ). k < suc at + length ps) (λ (k : ℕ). k < at + suc (length ps)) (innermost (suc at) ps word) (λ k below. omega arith) (innermost_below (suc at) ps word))
    (either_way (λ (o : Option ℕ). IfSome o (λ k. k < at + suc (length ps))) (bytes_eq p.name word) (Some at) None (omega arith) tt)

param_below : (names : Names) (word : List ℕ) → IfSome (param_in names word) (λ p. IsTrue (nat_lt p (length names.params)))
param_below names word =
    some_weaker (λ (p : ℕ). p < 0 + length names.params) (λ (p : ℕ). IsTrue (nat_lt p (length names.params))) (param_in names word)
    (λ p below. let h : p < length names.params = omega arith in lt-ltb p (length names.params) h)
    (innermost_below 0 names.params word)

-- ---- words

-- a number is in range, a parameter in force, and the lists hold what a name stands for
abbrev pub MeaningFits : List Variable → List TableData → (given : ℕ) → Meaning → Type 0
MeaningFits vs ts given (words.Whole n) = IfSome n (λ z. IsTrue (is_in_range z))
MeaningFits vs ts given words.Continuous = Unit {0}
MeaningFits vs ts given words.Cost = Unit {0}
MeaningFits vs ts given (words.Truth b) = Unit {0}
MeaningFits vs ts given (words.Param p) = IsTrue (nat_lt p given)
MeaningFits vs ts given (words.Name name) = Stands vs ts name
MeaningFits vs ts given words.Unknown = Unit {0}

in_range : (n : ℤ) → IfSome (number_in_range n) (λ z. IsTrue (is_in_range z))
in_range n = step (is_in_range n) refl where
  step : (b : Bool) → is_in_range n ≡ b → IfSome (if b then Some n else None) (λ z. IsTrue (is_in_range z))
  step true is = is
  step false is = tt

number_fits : (vs : List Variable) (ts : List TableData) (given : ℕ) (word : List ℕ) → MeaningFits vs ts given (number_meaning word)
unfolding number_meaning
number_fits vs ts given word =
    either_way (MeaningFits vs ts given) (all_ascii_digits (without_leading_sign word)) (words.Whole (number_in_range (signed_digits_value 10 word))) words.Continuous
    (in_range (signed_digits_value 10 word)) tt

name_fits : (vs : List Variable) (ts : List TableData) (given : ℕ) (p : Option ℕ) (name : Option Named) → IfSome p (λ p. IsTrue (nat_lt p given)) → IfSome name (Stands vs ts) → MeaningFits vs ts given (name_meaning p name)
name_fits vs ts given (Some p) name h k = h
name_fits vs ts given None (Some name) h k = k
name_fits vs ts given None None h k = tt

by_tests : (P : Meaning → Type 0) (a b c d : Bool) (number name : Meaning) → P number → P words.Cost → ((truth : Bool) → P (words.Truth truth)) → P name
    → P (if a then number else (if b then words.Cost else (if c then words.Truth true else (if d then words.Truth false else name))))
by_tests P true b c d number name h k t n = h
by_tests P false true c d number name h k t n = k
by_tests P false false true d number name h k t n = t true
by_tests P false false false true number name h k t n = t false
by_tests P false false false false number name h k t n = n

pub meaning_fits : (names : Names) (word : List ℕ) → MeaningFits names.variables names.tables (length names.params) (meaning names word)
unfolding meaning
meaning_fits names word =
    let vs = names.variables in
    let ts = names.tables in
    let given = length names.params in
    by_tests (MeaningFits vs ts given) (begins_number word) (is_cost word) (bytes_eq word (codes "true")) (bytes_eq word (codes "false"))
    (number_meaning word) (name_meaning (param_in names word) (name_in names word))
    (number_fits vs ts given word) tt (λ truth. tt)
    (name_fits vs ts given (param_in names word) (name_in names word) (param_below names word) (name_stands names word))

-- ---- heads

-- the lists hold the table, under its number
abbrev pub HeadFits : List Variable → List TableData → Head → Type 0
HeadFits vs ts (words.Operation o) = Unit {0}
HeadFits vs ts (words.Table t shape) = Stands vs ts (named.Table t shape)
HeadFits vs ts words.CostHead = Unit {0}
HeadFits vs ts words.LeftOut = Unit {0}
HeadFits vs ts words.UnknownHead = Unit {0}

table_head_fits : (vs : List Variable) (ts : List TableData) (name : Option Named) → IfSome name (Stands vs ts) → HeadFits vs ts (table_head name)
table_head_fits vs ts (Some (named.Table t shape)) h = h
table_head_fits vs ts (Some (named.Variable v kind)) h = tt
table_head_fits vs ts None h = tt

head_by_fits : (vs : List Variable) (ts : List TableData) (o : Option Operator) (word : List ℕ) (name : Option Named) → IfSome name (Stands vs ts) → HeadFits vs ts (head_by o word name)
head_by_fits vs ts (Some o) word name h = tt
head_by_fits vs ts None word name h =
    either_way (HeadFits vs ts) (is_cost word) words.CostHead (if is_left_out word then words.LeftOut else table_head name) tt
    (either_way (HeadFits vs ts) (is_left_out word) words.LeftOut (table_head name) tt (table_head_fits vs ts name h))

pub head_fits : (names : Names) (word : List ℕ) → HeadFits names.variables names.tables (head_of names word)
unfolding head_of
head_fits names word = head_by_fits names.variables names.tables (operator_named word) word (name_in names word) (name_stands names word)
