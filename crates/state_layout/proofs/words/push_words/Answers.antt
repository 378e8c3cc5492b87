use Rattle.std.proofs.Common.{◌≡◌, ◌∙◌, ◌++◌, ◌∷◌, [], ap, sym, rules, ℕ, List, append-nil}
use Rattle.state_layout.proofs.Stepping.{set_value_words, number_value_words, no_value_words}
use Rattle.state_layout.proofs.words.push_words.Goals as goal

pub returns-in_ok-push_set : goal.returns-in_ok-push_set
returns-in_ok-push_set c = c.in_ok-push_set.ensures ∙ ap (λ (xs : List ℕ). c.args.signature.now.items ++ xs) (set_value_words c.args.words.now c.args.place c.args.slot (c.requires.held.kind ∙ search rules))

pub returns-in_ok-push : goal.returns-in_ok-push
returns-in_ok-push c =
    let pushed : c.push.new.self.items ≡ c.args.signature.now.items ++ c.first_word.result ∷ [] = search rules in
    pushed ∙ ap (λ (w : ℕ). c.args.signature.now.items ++ w ∷ []) c.first_word.ensures ∙ ap (λ (xs : List ℕ). c.args.signature.now.items ++ xs) (number_value_words c.args.words.now c.args.place c.args.slot (c.requires.held.kind ∙ search rules) (search rules) (λ k. (c.type_inv.words k).fits))

pub returns-else-is_without : goal.returns-else-is_without
returns-else-is_without c = sym (append-nil c.args.signature.now.items) ∙ ap (λ (xs : List ℕ). c.args.signature.now.items ++ xs) (no_value_words c.args.words.now c.args.place c.args.slot (c.requires.held.kind ∙ search rules) (search rules))
