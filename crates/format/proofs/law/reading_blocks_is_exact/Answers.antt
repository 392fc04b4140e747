use Rattle.format.proofs.Blocks.{blocks_exact, block_rows_unique}
use Rattle.format.proofs.law.reading_blocks_is_exact.Goals as goal

pub returns : goal.returns
returns c = record { exact = blocks_exact; unique = block_rows_unique }
