use Rattle.std.proofs.Common.{rules}
use Rattle.commands.specs.Kinds.{kind_of}
use Rattle.commands.proofs.kind.KindTryFromRefSliceU8.try_from.Goals as goal

pub returns : goal.returns
unfolding kind_of
returns c = search rules
