-- What holds over a table of atoms holds over a longer one.
use Rattle.std.proofs.Common.{ℕ, Bool, List, ℤ}
use Rattle.dp_model.specs.declared.trees.Arg.{Arg}
use Rattle.dp_model.specs.declared.trees.Num.{Num}
use Rattle.dp_model.specs.declared.trees.Cond.{Cond}
use Rattle.dp_model.specs.declared.trees.SetEx.{SetEx}
use Rattle.dp_model.specs.declared.whole.Model.{Model}
use Rattle.poly_terms.specs.declared.table.Atom.{Atom}
use Rattle.poly_terms.specs.declared.terms.Term.{Term}
use Rattle.poly_eval.specs.declared.symbols.Symbol.{Symbol}
use Rattle.poly_eval.specs.Shows.{Extends, IsSet, IsTruth, IsValue}
use Rattle.poly_eval.specs.Parts.{AreFailures, AreNumbers, AreRows, IsChoice, IsFailure, IsTruthUnless, IsValueUnless}
use Rattle.poly_eval.proofs.Steps.{fits_before}

module _ (m : Model) (old new : List Atom) (symbols : List Symbol) (given : List ℕ) (more : Extends old new) where
  pub value_later : (e : Num) (p : List Term) → IsValue m old symbols given e p → IsValue m new symbols given e p
  value_later e p h s v state fits shows = h s v state (fits_before old new v more fits) shows

  pub value_unless_later : (skipped : Bool) (e : Num) (p : List Term) → IsValueUnless skipped m old symbols given e p → IsValueUnless skipped m new symbols given e p
  value_unless_later skipped e p h s v state fits shows = h s v state (fits_before old new v more fits) shows

  pub truth_later : (e : Cond) (p : List Term) → IsTruth m old symbols given e p → IsTruth m new symbols given e p
  truth_later e p h s v state fits shows = h s v state (fits_before old new v more fits) shows

  pub truth_unless_later : (skipped : Bool) (e : Cond) (p : List Term) → IsTruthUnless skipped m old symbols given e p → IsTruthUnless skipped m new symbols given e p
  truth_unless_later skipped e p h s v state fits shows = h s v state (fits_before old new v more fits) shows

  pub set_later : (e : SetEx) (row : List (List Term)) → IsSet m old symbols given e row → IsSet m new symbols given e row
  set_later e row h s v state fits shows = h s v state (fits_before old new v more fits) shows

  pub numbers_later : (ns : List Num) (values : List ℤ) → AreNumbers m old symbols given ns values → AreNumbers m new symbols given ns values
  numbers_later ns values h s v state fits shows = h s v state (fits_before old new v more fits) shows

  pub failure_later : (c : Cond) (guard p : List Term) → IsFailure m old symbols given c guard p → IsFailure m new symbols given c guard p
  failure_later c guard p h s v g state fits shows = h s v g state (fits_before old new v more fits) shows

  pub failures_later : (c : Cond) (guards row : List (List Term)) → AreFailures m old symbols given c guards row → AreFailures m new symbols given c guards row
  failures_later c guards row h s v f state fits shows = h s v f state (fits_before old new v more fits) shows

  pub choice_later : (e : Arg) (row : List (List Term)) → IsChoice m old symbols given e row → IsChoice m new symbols given e row
  choice_later e row h s v state fits shows = h s v state (fits_before old new v more fits) shows

  pub rows_later : (es : List Arg) (rows : List (List (List Term))) → AreRows m old symbols given es rows → AreRows m new symbols given es rows
  rows_later es rows h i e row is there = choice_later e row (h i e row is there)
