use Rattle.content_laws.proofs.WrittenBlockTrees.{block_law, block_alone_law}
use Rattle.content_laws.proofs.WrittenRoute.{route_law}
use Rattle.content_laws.proofs.written.written_block_reads_back.Goals as goal

pub returns : goal.returns
returns c = record { read = block_law; alone = block_alone_law; sample = route_law }
