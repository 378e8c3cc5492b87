-- When what typing gives is well typed, and that it is so of words.
use Rattle.std.proofs.Common.{◌≡◌, ℕ, suc, Bool, true, false, ◌==◌, if◌then◌else◌, List, [], ◌∷◌, length, Option, Some, Result, Ok, Err, IfOk, IsTrue, refl, sym, ap, ◌∙◌}
use Rattle.std.proofs.lemmas.Bool.{eqb-true}
use Rattle.std.proofs.lemmas.Result.{IfOk-weaker}
use Rattle.dp_model.specs.Typing.{is_number_kind, is_set_kind, kind_object, cells_at, args_at, are_numbers, are_truths}
use Rattle.dp_model.specs.declared.parts.ObjectType.{ObjectType}
use Rattle.dp_model.specs.declared.parts.Variable.{Variable}
use Rattle.dp_model.specs.declared.parts.VarKind.TheVariants as kinds
use Rattle.dp_model.specs.declared.parts.Cells.{Cells}
use Rattle.dp_model.specs.declared.parts.TableData.{TableData}
use Rattle.dp_model.specs.declared.trees.Num.{Num}
use Rattle.dp_model.specs.declared.trees.Num.TheVariants as num
use Rattle.dp_model.specs.declared.trees.SetEx.{SetEx}
use Rattle.dp_model.specs.declared.trees.SetEx.TheVariants as set
use Rattle.dp_model.specs.declared.trees.Cond.{Cond}
use Rattle.dp_model.specs.declared.trees.Cond.TheVariants as cond
use Rattle.dypdl_words.specs.declared.ends.TypeEnd.{TypeEnd}
use Rattle.dypdl_words.specs.declared.scope.CellKind.{CellKind}
use Rattle.dypdl_words.specs.declared.scope.CellKind.TheVariants as cells
use Rattle.dypdl_words.specs.declared.scope.Shape.{Shape}
use Rattle.dypdl_words.specs.declared.scope.Named.{Named}
use Rattle.dypdl_words.specs.declared.scope.Named.TheVariants as named
use Rattle.dp_base.specs.Results.{◌>>=◌, in_turn}
use Rattle.dypdl_words.specs.Words.{Meaning}
use Rattle.dypdl_words.specs.Words as words
use Rattle.dypdl_words.specs.Leaves.{fits, are_whole, are_truths as hold_truths, named_alone, number_named, number_word, members_cells, members_named, members_word, condition_named, condition_word}
use Rattle.dypdl_words.specs.Trees.{both}
use Rattle.dypdl_type.specs.Typing.{Typing, arguments}
use Rattle.dypdl_type.proofs.Trees.{Each, each_weaker, IsNum, IsSetOf, IsCond, num_fixed, num_var, num_param, num_cell, set_var, set_cell, cond_fixed, cond_cell}
use Rattle.dypdl_type.proofs.Meanings.{AreCells, Stands, MeaningFits}

-- ---- steps that may be refused

pub and_then : {A B : Type 0} (P : A → Type 0) (Q : B → Type 0) (r : Result A TypeEnd) (f : A → Result B TypeEnd) → IfOk r P → ((x : A) → P x → IfOk (f x) Q) → IfOk (r >>= f) Q
and_then P Q (Ok x) f h more = more x h
and_then P Q (Err e) f h more = tt

pub both_fit : {A B : Type 0} (P : A → Type 0) (Q : B → Type 0) (x : Result A TypeEnd) (y : Result B TypeEnd) → IfOk x P → IfOk y Q → IfOk (both x y) (λ p. P p.0 × Q p.1)
both_fit P Q (Ok a) (Ok b) h k = (h, k)
both_fit P Q (Ok a) (Err e) h k = tt
both_fit P Q (Err e) y h k = tt

-- what is refused unless a test holds
pub if_allowed : {A : Type 0} (P : A → Type 0) (b : Bool) (r : Result A TypeEnd) (e : TypeEnd) → (b ≡ true → IfOk r P) → IfOk (if b then r else Err e) P
if_allowed P true r e h = h refl
if_allowed P false r e h = tt

-- what is refused where a test holds
pub unless_refused : {A : Type 0} (P : A → Type 0) (b : Bool) (r : Result A TypeEnd) (e : TypeEnd) → (b ≡ false → IfOk r P) → IfOk (if b then Err e else r) P
unless_refused P true r e h = tt
unless_refused P false r e h = h refl

pub in_turn_each : {A B : Type 0} (P : B → Type 0) (f : A → Result B TypeEnd) (xs : List A) → Each (λ x. IfOk (f x) P) xs → IfOk (in_turn f xs) (λ ys. (length ys ≡ length xs) × Each P ys)
in_turn_each P f [] h = (refl, tt)
in_turn_each P f (x ∷ xs) h =
    and_then P (λ ys. (length ys ≡ suc (length xs)) × Each P ys) (f x) (λ y. in_turn f xs >>= λ ys. Ok (y ∷ ys)) h.0
    (λ y p. and_then (λ ys. (length ys ≡ length xs) × Each P ys) (λ ys. (length ys ≡ suc (length xs)) × Each P ys) (in_turn f xs) (λ ys. Ok (y ∷ ys)) (in_turn_each P f xs h.1)
    (λ ys q. (ap (λ (n : ℕ). suc n) q.0, (p, q.1))))

-- ---- kinds of cells

pub whole_cells : (kind : CellKind) (xs : Option Cells) → IsTrue (are_whole kind) → AreCells kind xs → IsTrue (are_numbers xs)
whole_cells cells.Integer xs is h = h
whole_cells cells.Element xs is h = h
whole_cells cells.Truth xs is h = absurd (cc is)
whole_cells (cells.Set object) xs is h = absurd (cc is)

pub truth_cells : (kind : CellKind) (xs : Option Cells) → IsTrue (hold_truths kind) → AreCells kind xs → IsTrue (are_truths xs)
truth_cells cells.Truth xs is h = h
truth_cells cells.Integer xs is h = absurd (cc is)
truth_cells cells.Element xs is h = absurd (cc is)
truth_cells (cells.Set object) xs is h = absurd (cc is)

module _ (os : List ObjectType) (vs : List Variable) (ts : List TableData) (given : ℕ) where
  -- ---- in each place

  abbrev pub NumFits : Num → Type 0
  NumFits n = IsNum os vs ts given n

  -- a set of the object type that comes with it, which is the wanted one
  abbrev pub SetFits : Option ℕ → ℕ × SetEx → Type 0
  SetFits wanted s = IsSetOf os vs ts given s.0 s.1 × IsTrue (fits wanted s.0)

  abbrev pub CondFits : Cond → Type 0
  CondFits c = IsCond os vs ts given c

  pub record Sound (x : Typing) : Type 0 where
    pub number : IfOk x.number NumFits
    pub members : (wanted : Option ℕ) → IfOk (x.members wanted) (SetFits wanted)
    pub condition : IfOk x.condition CondFits

  pub wanted_set : (object : ℕ) (s : ℕ × SetEx) → SetFits (Some object) s → IsSetOf os vs ts given object s.1
  wanted_set object s h = (h.0.0 ∙ sym (eqb-true object s.0 h.1), h.0.1)

  -- ---- several

  pub numbers_fit : (xs : List Typing) → Each Sound xs → Each (λ (e : Typing). IfOk e.number NumFits) xs
  numbers_fit xs h = each_weaker Sound (λ (e : Typing). IfOk e.number NumFits) (λ x s. s.number) xs h

  pub sets_fit : (wanted : Option ℕ) (xs : List Typing) → Each Sound xs → Each (λ (e : Typing). IfOk (e.members wanted) (SetFits wanted)) xs
  sets_fit wanted xs h = each_weaker Sound (λ (e : Typing). IfOk (e.members wanted) (SetFits wanted)) (λ x s. s.members wanted) xs h

  pub conditions_fit : (xs : List Typing) → Each Sound xs → Each (λ (e : Typing). IfOk e.condition CondFits) xs
  conditions_fit xs h = each_weaker Sound (λ (e : Typing). IfOk e.condition CondFits) (λ x s. s.condition) xs h

  -- as many numbers as the table has arguments
  abbrev pub AreArguments : ℕ → List Num → Type 0
  AreArguments t ns = (length ns ≡ length (args_at ts t)) × Each NumFits ns

  pub arguments_fit : (at t : ℕ) (shape : Shape) (xs : List Typing) → args_at ts t ≡ shape.args → Each Sound xs → IfOk (arguments at shape xs) (AreArguments t)
  arguments_fit at t shape xs is h =
      if_allowed (AreArguments t) (length xs == length shape.args) (in_turn (λ (e : Typing). e.number) xs) _
      (λ same. IfOk-weaker (in_turn (λ (e : Typing). e.number) xs) (λ ns. (length ns ≡ length xs) × Each NumFits ns) (AreArguments t)
      (λ ns p. (p.0 ∙ eqb-true (length xs) (length shape.args) same ∙ ap length (sym is), p.1))
      (in_turn_each NumFits (λ (e : Typing). e.number) xs (numbers_fit xs h)))

  alone : {A : Type 0} (P : A → Type 0) (at t : ℕ) (shape : Shape) (x : A) → args_at ts t ≡ shape.args → (0 ≡ length (args_at ts t) → P x) → IfOk (named_alone at shape x) P
  alone P at t shape x is h =
      if_allowed P (length shape.args == 0) (Ok x) _ (λ none. h (sym (eqb-true (length shape.args) 0 none) ∙ ap length (sym is)))

  -- ---- words

  number_named_fits : (at : ℕ) (name : Named) → Stands vs ts name → IfOk (number_named at name) NumFits
  number_named_fits at (named.Variable v kinds.Integer) h = num_var os vs ts given v (ap is_number_kind h)
  number_named_fits at (named.Variable v (kinds.Element object)) h = num_var os vs ts given v (ap is_number_kind h)
  number_named_fits at (named.Variable v (kinds.Set object)) h = tt
  number_named_fits at (named.Table t shape) h =
      if_allowed NumFits (are_whole shape.cells) (named_alone at shape (num.Cell t [])) _
      (λ whole. alone NumFits at t shape (num.Cell t []) h.0
      (λ none. num_cell os vs ts given t [] (whole_cells shape.cells (cells_at ts t) whole h.1) none tt))

  pub number_word_fits : (at : ℕ) (m : Meaning) → MeaningFits vs ts given m → IfOk (number_word at m) NumFits
  unfolding number_word
  number_word_fits at (words.Whole (Some n)) h = num_fixed os vs ts given n h
  number_word_fits at (words.Param p) h = num_param os vs ts given p h
  number_word_fits at (words.Name name) h = number_named_fits at name h
  number_word_fits at other h = tt

  members_cells_fit : (at : ℕ) (wanted : Option ℕ) (t : ℕ) (shape : Shape) (kind : CellKind) → args_at ts t ≡ shape.args → AreCells kind (cells_at ts t) → IfOk (members_cells at wanted t shape kind) (SetFits wanted)
  members_cells_fit at wanted t shape (cells.Set object) is h =
      if_allowed (SetFits wanted) (fits wanted object) (named_alone at shape (object, set.Cell t [])) _
      (λ same. alone (SetFits wanted) at t shape (object, set.Cell t []) is
      (λ none. (set_cell os vs ts given t [] object h.0 h.1 none tt, same)))
  members_cells_fit at wanted t shape other is h = tt

  members_named_fits : (at : ℕ) (wanted : Option ℕ) (name : Named) → Stands vs ts name → IfOk (members_named at wanted name) (SetFits wanted)
  members_named_fits at wanted (named.Variable v (kinds.Set object)) h =
      if_allowed (SetFits wanted) (fits wanted object) (Ok (object, set.Var v)) _
      (λ same. (set_var os vs ts given v object (ap kind_object h) (ap is_set_kind h), same))
  members_named_fits at wanted (named.Variable v (kinds.Element object)) h = tt
  members_named_fits at wanted (named.Variable v kinds.Integer) h = tt
  members_named_fits at wanted (named.Table t shape) h = members_cells_fit at wanted t shape shape.cells h.0 h.1

  pub members_word_fits : (at : ℕ) (wanted : Option ℕ) (m : Meaning) → MeaningFits vs ts given m → IfOk (members_word at wanted m) (SetFits wanted)
  unfolding members_word
  members_word_fits at wanted (words.Name name) h = members_named_fits at wanted name h
  members_word_fits at wanted other h = tt

  condition_named_fits : (at : ℕ) (name : Named) → Stands vs ts name → IfOk (condition_named at name) CondFits
  condition_named_fits at (named.Variable v kind) h = tt
  condition_named_fits at (named.Table t shape) h =
      if_allowed CondFits (hold_truths shape.cells) (named_alone at shape (cond.Cell t [])) _
      (λ truths. alone CondFits at t shape (cond.Cell t []) h.0
      (λ none. cond_cell os vs ts given t [] (truth_cells shape.cells (cells_at ts t) truths h.1) none tt))

  pub condition_word_fits : (at : ℕ) (m : Meaning) → MeaningFits vs ts given m → IfOk (condition_word at m) CondFits
  unfolding condition_word
  condition_word_fits at (words.Truth b) h = cond_fixed os vs ts given b
  condition_word_fits at (words.Name name) h = condition_named_fits at name h
  condition_word_fits at other h = tt
