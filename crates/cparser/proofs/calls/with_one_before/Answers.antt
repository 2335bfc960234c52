use Rattle.std.proofs.Common.{◌+◌, drop, arith, length-drop}
use Rattle.std.proofs.lemmas.List.Sums.{prefix_len-le-length}
use Rattle.cparser.specs.OperandSteps.{is_no_word}
use Rattle.cparser.proofs.calls.with_one_before.Goals as goal

pub overflow_add-result : goal.overflow_add-result
overflow_add-result c =
    let most = prefix_len-le-length is_no_word (drop (c.args.at + 1) c.args.row.now) in
    omega (arith, most, length-drop (c.args.at + 1) c.args.row.now)
