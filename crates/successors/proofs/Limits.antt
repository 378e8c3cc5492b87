-- How many transitions are not forced at most.
use Rattle.std.proofs.Common.{◌≡◌, ℕ, ◌≤◌, not, List, length, map, arith, refl}
use Rattle.std.specs.List.{range_with_len}
use Rattle.std.proofs.lemmas.List.{length-map}
use Rattle.std.proofs.lemmas.List.Filters.{length-filter_both}
use Rattle.std.proofs.lemmas.List.FromFn.{length-range_with_len}
use Rattle.dp_model.specs.declared.whole.Model.{Model}
use Rattle.spot_eval.specs.Moves.{is_forced, others_of}
use Rattle.spot_eval.proofs.Limits.{few_grounds}
use Rattle.successors.specs.Candidates.{candidate_of}
use Rattle.successors.specs.declared.candidates.Candidate.{Candidate}
use Rattle.successors.proofs.Skips.{numbers_of, numbers_are}

few_others : (m : Model) (numbers : List ℕ) → numbers ≡ others_of m → length numbers ≤ 65536
few_others m numbers same =
    let few = few_grounds m in
    let numbered = length-range_with_len 0 (length m.dp_ground) in
    let both = length-filter_both (is_forced m) (λ g. not (is_forced m g)) (λ g. refl) (range_with_len 0 (length m.dp_ground)) in
    rw same (omega arith)

pub few_candidates : (m : Model) (candidates : List Candidate) → candidates ≡ map (candidate_of m) (others_of m) → length candidates ≤ 65536
few_candidates m candidates same = omega (arith, few_others m (numbers_of candidates) (numbers_are m candidates same), length-map candidates (λ (c : Candidate). c.number))
