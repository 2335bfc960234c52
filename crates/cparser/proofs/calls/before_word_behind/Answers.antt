use Rattle.std.proofs.Common.{arith, ap}
use Rattle.std.specs.List.{prefix_len}
use Rattle.std.proofs.lemmas.List.Sums.{prefix_len-le-length}
use Rattle.cparser.specs.OperandSteps.{is_no_word}
use Rattle.cparser.proofs.Passed.{passed_rest}
use Rattle.cparser.proofs.calls.before_word_behind.Goals as goal

pub returns-then-front-passed-clause-count : goal.returns-then-front-passed-clause-count
returns-then-front-passed-clause-count c = omega (arith, prefix_len-le-length is_no_word c.args.front.now)

pub returns-clause-count : goal.returns-clause-count
returns-clause-count c =
    let behind = passed_rest is_no_word c.args.passed c.args.front.now (omega arith) in
    let same = ap (prefix_len is_no_word) c.behind.ensures in
    omega (arith, behind, same)
