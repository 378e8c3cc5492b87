use Rattle.std.proofs.Common.{◌≡◌, drop}
use Rattle.dp_outside.specs.Files.{file_under}
use Rattle.dp_outside.proofs.files.bytes_of.Given as goal

abbrev pub invariant-loop-file : goal.invariant-loop-file
invariant-loop-file l = file_under (drop l.file-index l.files) l.name ≡ file_under l.files l.name
