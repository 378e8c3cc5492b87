use Rattle.content_laws.proofs.WrittenTrees.{written_law, alone_law}
use Rattle.content_laws.proofs.WrittenSample.{sample_law}
use Rattle.content_laws.proofs.written.written_tree_reads_back.Goals as goal

pub returns : goal.returns
returns c = record { read = written_law; alone = alone_law; sample = sample_law }
