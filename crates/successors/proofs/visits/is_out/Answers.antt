use Rattle.std.proofs.Common.{◌≡◌, Some, sym, ap, ◌∙◌}
use Rattle.dp_model.specs.StepTexts.{ground_of}
use Rattle.successors.specs.Candidates.{first_asked}
use Rattle.successors.specs.declared.candidates.Candidate.{Candidate}
use Rattle.successors.proofs.Skips.{set_in_asked}
use Rattle.successors.proofs.visits.is_out.Goals as goal

pub has_in-requires : goal.has_in-requires
has_in-requires c =
    let asked : first_asked (ground_of c.args.at.now.model.now c.args.candidate.number) ≡ Some c.in-Some.first = sym (ap (λ (x : Candidate). x.first) c.requires) ∙ c.in-Some.is in
    set_in_asked c.args.at.now.model.now c.args.candidate.number c.in-Some.first asked
