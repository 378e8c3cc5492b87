use Rattle.std.proofs.Common.{◌≡◌, ◌-◌, ◌+◌, length, drop, replicate, string_bytes, string_len}
use Rattle.std.specs.List.{prefix_len}
use Rattle.yaml_tree.proofs.ScalarLines.{blank_line}
use Rattle.yaml_tree.proofs.plain.line_feeds.Given as goal

abbrev pub invariant-loop-row : goal.invariant-loop-row
invariant-loop-row l = record {
  feeds : string_bytes l.feeds ≡ replicate (string_len l.feeds) 10;
  blank : string_len l.feeds + prefix_len blank_line (drop (string_len l.feeds) l.reader.below) ≡ prefix_len blank_line l.reader.below;
}

abbrev pub decreases-loop-row : goal.decreases-loop-row
decreases-loop-row l = length l.reader.below - string_len l.feeds
