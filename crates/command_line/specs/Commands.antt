-- The five commands, as their words are read: words that stand for themselves and options with a value, without help and
-- version flags. The name of the command is the first word.
use Rattle.std.specs.Prelude.{true, List, Option, Some, codes}
use Rattle.clap.specs.Words.{App, Kinds, Rule, Text, new_app, new_rule, with_rule, matches_of, fault_of, first_of}
use Rattle.clap.specs.Simple.{on_top}

-- a word that must stand
abbrev pub word : Text → Rule
word id = record (new_rule id) { required = true }

-- an option, as `--workers 2` or `--workers=2`
abbrev pub option : Text → Rule
option id = record (new_rule id) { long = Some id }

-- a command without help and version flags
abbrev pub plain : Text → App
plain name = on_top (λ s. record s { disable_version_flag = true }) (on_top (λ s. record s { disable_help_flag = true }) (new_app name))

unfoldable pub solve : App
solve =
    with_rule (with_rule (with_rule (with_rule (with_rule (with_rule (with_rule (with_rule (with_rule (with_rule (plain (codes "solve"))
    (word (codes "domain"))) (word (codes "problem"))) (option (codes "workers"))) (option (codes "budget"))) (option (codes "prune"))) (option (codes "keep")))
    (option (codes "gap"))) (option (codes "certificate"))) (option (codes "engine"))) (option (codes "announce"))

unfoldable pub replay : App
replay = with_rule (with_rule (with_rule (plain (codes "replay")) (word (codes "domain"))) (word (codes "problem"))) (word (codes "list"))

unfoldable pub check : App
check =
    with_rule (with_rule (with_rule (with_rule (with_rule (plain (codes "check"))
    (word (codes "domain"))) (word (codes "problem"))) (word (codes "cert"))) (option (codes "prune"))) (option (codes "part"))

unfoldable pub show : App
show = with_rule (with_rule (plain (codes "show")) (word (codes "domain"))) (word (codes "problem"))

unfoldable pub generate : App
generate =
    with_rule (with_rule (with_rule (with_rule (plain (codes "gen"))
    (word (codes "kind"))) (word (codes "size"))) (word (codes "seed"))) (option (codes "workers"))

-- the value of a word or an option, if it is given
unfoldable pub value_in : App → List Text → Text → Option Text
value_in app words id = first_of id (matches_of app words)

-- what is wrong with the words as those of the command
unfoldable pub faults_in : App → List Text → Kinds
faults_in app words = fault_of app words
