-- The five commands are simple ones, of which `clap` says exactly what it finds in words.
use Rattle.std.proofs.Common.{◌≡◌, ◌∙◌, ap, true, refl}
use Rattle.clap.specs.Words.{App, is_simple, is_simple_and_free}
use Rattle.clap.proofs.OnLiterals.{clap_on_literals}
use Rattle.command_line.specs.Commands.{solve, replay, check, show, generate}

solve_is_free : is_simple_and_free solve ≡ true
unfolding clap_on_literals solve
solve_is_free = refl

solve_is_simple : is_simple solve ≡ true
unfolding clap_on_literals solve
solve_is_simple = refl

replay_is_free : is_simple_and_free replay ≡ true
unfolding clap_on_literals replay
replay_is_free = refl

replay_is_simple : is_simple replay ≡ true
unfolding clap_on_literals replay
replay_is_simple = refl

check_is_free : is_simple_and_free check ≡ true
unfolding clap_on_literals check
check_is_free = refl

check_is_simple : is_simple check ≡ true
unfolding clap_on_literals check
check_is_simple = refl

show_is_free : is_simple_and_free show ≡ true
unfolding clap_on_literals show
show_is_free = refl

show_is_simple : is_simple show ≡ true
unfolding clap_on_literals show
show_is_simple = refl

generate_is_free : is_simple_and_free generate ≡ true
unfolding clap_on_literals generate
generate_is_free = refl

generate_is_simple : is_simple generate ≡ true
unfolding clap_on_literals generate
generate_is_simple = refl

pub solve_free : (a : App) → a ≡ solve → is_simple_and_free a ≡ true
solve_free a is = ap is_simple_and_free is ∙ solve_is_free

pub solve_simple : (a : App) → a ≡ solve → is_simple a ≡ true
solve_simple a is = ap is_simple is ∙ solve_is_simple

pub replay_free : (a : App) → a ≡ replay → is_simple_and_free a ≡ true
replay_free a is = ap is_simple_and_free is ∙ replay_is_free

pub replay_simple : (a : App) → a ≡ replay → is_simple a ≡ true
replay_simple a is = ap is_simple is ∙ replay_is_simple

pub check_free : (a : App) → a ≡ check → is_simple_and_free a ≡ true
check_free a is = ap is_simple_and_free is ∙ check_is_free

pub check_simple : (a : App) → a ≡ check → is_simple a ≡ true
check_simple a is = ap is_simple is ∙ check_is_simple

pub show_free : (a : App) → a ≡ show → is_simple_and_free a ≡ true
show_free a is = ap is_simple_and_free is ∙ show_is_free

pub show_simple : (a : App) → a ≡ show → is_simple a ≡ true
show_simple a is = ap is_simple is ∙ show_is_simple

pub generate_free : (a : App) → a ≡ generate → is_simple_and_free a ≡ true
generate_free a is = ap is_simple_and_free is ∙ generate_is_free

pub generate_simple : (a : App) → a ≡ generate → is_simple a ≡ true
generate_simple a is = ap is_simple is ∙ generate_is_simple
