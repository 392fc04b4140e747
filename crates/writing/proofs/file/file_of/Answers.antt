use Rattle.std.proofs.Common.{rules}
use Rattle.writing.specs.Files.{file_text}
use Rattle.writing.proofs.file.file_of.Goals as goal

pub returns-in_err-cells-clause-text : goal.returns-in_err-cells-clause-text
unfolding file_text
returns-in_err-cells-clause-text c = search rules
