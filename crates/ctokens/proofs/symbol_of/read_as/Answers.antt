-- A short word is spelled as it is read.
use Rattle.std.proofs.Common.{sym}
use Rattle.ctokens.proofs.WordLengths.{as_spelled}
use Rattle.ctokens.proofs.symbol_of.read_as.Goals as goal

pub returns-then-bytes-lt8 : goal.returns-then-bytes-lt8
returns-then-bytes-lt8 c = sym (as_spelled c.args.bytes.now c.if-bytes-lt8.true)
