-- What a run comes to where there is no model to search.
use Rattle.std.specs.Prelude.{ℕ, List, Option, None, Some, ⊤}
use Rattle.yaml_tree.specs.declared.tree.YamlEnd.{YamlEnd}
use Rattle.dypdl_nodes.specs.Reads.{Refusal}
use Rattle.solve_top.specs.Files.{IsReached, IsFirstLong, OfTexts}
use Rattle.solve_top.specs.Texts.{AreRefused, Third, tree_refusal}
use Rattle.solve_top.specs.Outcomes.{Outcome, ReadFault, TooLong, Refused, NoMemory}
use Rattle.solve_top.specs.declared.causes.NoModel.{NoModel}
use Rattle.solve_top.specs.declared.causes.NoModel.TheVariants as causes

abbrev pub outcome_of : NoModel → Outcome
outcome_of (causes.ReadFault file) = ReadFault file
outcome_of (causes.TooLong file) = TooLong file
outcome_of (causes.Refused number place offset) = Refused (record { number = number; place = place; offset = offset })
outcome_of causes.Memory = NoMemory

-- a refusal, or else want of memory
abbrev pub cause_of : Option Refusal → NoModel
cause_of (Some r) = causes.Refused r.number r.place r.offset
cause_of None = causes.Memory

-- why a text has no tree
abbrev pub unread_as : YamlEnd → NoModel
unread_as end = cause_of (tree_refusal end)

-- memory ran out, or P says what was refused; no file is read here
abbrev pub RefusedBy : (Refusal → Type 0) → NoModel → Type 0
RefusedBy P (causes.Refused number place offset) = P (record { number = number; place = place; offset = offset })
RefusedBy P causes.Memory = ⊤
RefusedBy P (causes.ReadFault file) = ⊥
RefusedBy P (causes.TooLong file) = ⊥

-- why the files of these names were not all read: no text is looked at here
abbrev pub IsUnread : (List ℕ → Option (List ℕ)) → (names : List (List ℕ)) → NoModel → Type 0
IsUnread files names (causes.ReadFault file) = IsReached files names file
IsUnread files names (causes.TooLong file) = IsFirstLong files names file
IsUnread files names (causes.Refused number place offset) = ⊥
IsUnread files names causes.Memory = ⊤

-- why the files of these names give nothing to work on
abbrev pub GiveNothing : Third → (List ℕ → Option (List ℕ)) → (names : List (List ℕ)) → NoModel → Type 0
GiveNothing third files names (causes.ReadFault file) = IsReached files names file
GiveNothing third files names (causes.TooLong file) = IsFirstLong files names file
GiveNothing third files names (causes.Refused number place offset) = OfTexts files names (λ texts. AreRefused third texts (record { number = number; place = place; offset = offset }))
GiveNothing third files names causes.Memory = ⊤
