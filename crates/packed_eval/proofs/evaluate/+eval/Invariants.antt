use Rattle.std.proofs.Common.{◌≡◌, ℕ, ◌-◌, ◌≤◌, ◌∷◌, ◌++◌, [], length, take, drop, true}
use Rattle.dp_model.specs.Evaluation.{table_counts, each_holds, cond_value}
use Rattle.state_layout.specs.Packing.{state_in}
use Rattle.eval_room.specs.Fits.{terms_fit}
use Rattle.packed_words.specs.Operands.{num_values}
use Rattle.packed_words.specs.Totals.{sum_value}
use Rattle.packed_eval.specs.Sums.{words_of, sets_in, sum_after}
use Rattle.packed_eval.proofs.Terms.{arg_values}
use Rattle.packed_words.specs.Places.{placed_from, placed_at}
use Rattle.packed_words.specs.Ranges.{range_members}
use Rattle.packed_words.specs.Sets.{members_from}
use Rattle.packed_eval.proofs.evaluate.+eval.Given as goal

abbrev pub invariant-place_of_all-loop-n : goal.invariant-place_of_all-loop-n
invariant-place_of_all-loop-n l =
    placed_from l.left (num_values l.at.model.now (state_in l.at.words.now) (drop l.n-index l.n-items) l.at.args.now) l.led
    ≡ placed_at (table_counts l.at.model.now l.t) (num_values l.at.model.now (state_in l.at.words.now) l.n-items l.at.args.now)

abbrev pub invariant-all_in_turn-loop-member : goal.invariant-all_in_turn-loop-member
invariant-all_in_turn-loop-member l = record {
  left : each_holds (λ k. cond_value l.at.model.now (state_in l.at.words.now) l.c (l.at.args.now ++ k ∷ [])) (members_from l.from (range_members (state_in l.at.words.now) l.range))
      ≡ each_holds (λ k. cond_value l.at.model.now (state_in l.at.words.now) l.c (l.at.args.now ++ k ∷ [])) (range_members (state_in l.at.words.now) l.range);
  one_more : (k : ℕ) × (l.mine ≡ l.at.args.now ++ k ∷ []);
  within : l.from ≤ 8192;
}

abbrev pub decreases-all_in_turn-loop-member : goal.decreases-all_in_turn-loop-member
decreases-all_in_turn-loop-member l = 8192 - l.from

-- the sets so far lie one behind another, and give the sum with what is left
abbrev pub invariant-sum_all-loop-e : goal.invariant-sum_all-loop-e
invariant-sum_all-loop-e l = record {
  left : l.left ≡ drop l.e-index (table_counts l.at.model.now l.t);
  used : l.used ≡ words_of (take l.e-index (table_counts l.at.model.now l.t));
  within : l.used ≤ length l.stack;
  fits : terms_fit l.at.model.now l.left (drop l.e-index l.e-items) (length l.at.args.now) (length l.stack - l.used) ≡ true;
  value : sum_after l.at.model.now l.t (sets_in (take l.e-index (table_counts l.at.model.now l.t)) (take l.used l.stack)) l.waits l.left (arg_values l.at.model.now (state_in l.at.words.now) (drop l.e-index l.e-items) l.at.args.now)
      ≡ sum_value l.at.model.now (state_in l.at.words.now) l.t l.e-items l.at.args.now;
}
