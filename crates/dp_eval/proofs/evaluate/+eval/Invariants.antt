use Rattle.std.proofs.Common.{◌≡◌, ℕ, ◌∷◌, ◌++◌, [], map, drop, Ok}
use Rattle.dp_base.specs.Results.{◌>>=◌}
use Rattle.dp_model.specs.Evaluation.{each_holds, cond_value}
use Rattle.dp_eval.specs.Terms.{num_values, term_value, term_values}
use Rattle.dp_eval.proofs.evaluate.+eval.Given as goal

abbrev pub invariant-all_hold-loop-member : goal.invariant-all_hold-loop-member
invariant-all_hold-loop-member l = record {
  left : each_holds (λ k. cond_value l.at.model.now l.at.s.now l.c (l.at.args.now ++ k ∷ [])) (drop l.member-index l.members)
      ≡ each_holds (λ k. cond_value l.at.model.now l.at.s.now l.c (l.at.args.now ++ k ∷ [])) l.members;
  one_more : (k : ℕ) × (l.more ≡ l.at.args.now ++ k ∷ []);
}

abbrev pub invariant-numbers-loop-n : goal.invariant-numbers-loop-n
invariant-numbers-loop-n l = (num_values l.at.model.now l.at.s.now (drop l.n-index l.n-items) l.at.args.now >>= λ more. Ok (l.values.items ++ more)) ≡ num_values l.at.model.now l.at.s.now l.n-items l.at.args.now

abbrev pub invariant-terms-loop-e : goal.invariant-terms-loop-e
invariant-terms-loop-e l =
    (term_values l.at.model.now l.at.s.now (drop l.e-index l.e-items) l.at.args.now >>= λ more. Ok (map term_value l.values.items ++ more))
    ≡ term_values l.at.model.now l.at.s.now l.e-items l.at.args.now
