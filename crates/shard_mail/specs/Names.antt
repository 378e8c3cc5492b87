-- A name of any value, as a list of numbers. Two values of one type have one name only where they are one.
use Rattle.std.specs.Prelude.{ℕ, List, [], ◌∷◌}
use Rattle.std.specs.Coded.{Coded}
use base.Stored.{Gv, gnil, gnum, gcons}

abbrev pub spelled : Gv → List ℕ → List ℕ
spelled gnil rest = 0 ∷ rest
spelled (gnum n) rest = 1 ∷ n ∷ rest
spelled (gcons a b) rest = 2 ∷ spelled a (spelled b rest)

abbrev pub name_of : {M : Type 0} → Coded M → M → List ℕ
name_of coded terms = spelled (coded.code terms) []
