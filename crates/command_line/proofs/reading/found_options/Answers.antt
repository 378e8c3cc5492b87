use Rattle.std.proofs.Common.{◌≡◌, Bool, ℕ, List, Option, ap, ◌∙◌}
use Rattle.command_line.specs.Jobs.{options_of}
use Rattle.command_line.proofs.reading.found_options.Goals as goal

same_options : (prune : Bool) (a b c a' b' c' : Option (List ℕ)) → a ≡ a' → b ≡ b' → c ≡ c' → options_of a b prune c ≡ options_of a' b' prune c'
same_options prune a b c a' b' c' e f g =
    ap (λ (x : Option (List ℕ)). options_of x b prune c) e
    ∙ (ap (λ (x : Option (List ℕ)). options_of a' x prune c) f
    ∙ ap (λ (x : Option (List ℕ)). options_of a' b' prune x) g)

pub returns : goal.returns
returns c = c.options_of.ensures ∙ same_options c.args.prune _ _ _ _ _ _ c.get_str-workers.ensures c.get_str-budget.ensures c.get_str.ensures
