use Rattle.std.proofs.Common.{◌≡◌, Some, rules}
use Rattle.dp_model.specs.StepTexts.{ground_of}
use Rattle.successors.proofs.Skips.{values_are}
use Rattle.successors.proofs.visits.Visitor.push_tested.Goals as goal

pub words_given-requires-clause-words : goal.words_given-requires-clause-words
words_given-requires-clause-words g c =
    let there : ground_of c.args.self.now.model c.args.candidate.now.number ≡ Some (c.in-Some.transition.now, c.deref.result.now) = search rules in
    values_are c.args.self.now.model c.args.candidate.now c.in-Some.transition.now c.deref.result.now c.requires.candidate there

pub is_enabled_past_first-requires-clause-first : goal.is_enabled_past_first-requires-clause-first
is_enabled_past_first-requires-clause-first g c =
    let there : ground_of c.args.self.now.model c.args.candidate.now.number ≡ Some (c.in-Some.transition.now, c.words_given.result.now) = search rules in
    rw c.requires.state (c.requires.first (c.in-Some.transition.now, c.words_given.result.now) there)
