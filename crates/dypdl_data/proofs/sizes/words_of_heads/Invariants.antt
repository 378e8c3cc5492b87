use Rattle.std.proofs.Common.{◌≡◌, ◌+◌, drop}
use Rattle.std.specs.List.{sum_by}
use Rattle.dypdl_data.specs.Tables.{words_of_head}
use Rattle.dypdl_data.specs.Sizes.{capped}
use Rattle.dypdl_data.proofs.sizes.words_of_heads.Given as goal

abbrev pub invariant-loop-head : goal.invariant-loop-head
invariant-loop-head l = record {
  so_far : capped (l.words + sum_by (words_of_head l.objects) (drop l.head-index l.heads)) ≡ capped (sum_by (words_of_head l.objects) l.heads);
  small : l.words ≡ capped l.words;
}
