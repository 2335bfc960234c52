use Rattle.std.proofs.Common.{◌≡◌, ◌≤◌, IfOk, List, drop, sym, subst}
use Rattle.std.specs.List.{prefix_len}
use Rattle.cgrammar.specs.Terminals.{Terminal}
use Rattle.cparser.specs.OperandSteps.{is_no_word}
use Rattle.cparser.proofs.KeptByReaders.{bracket_kept}
use Rattle.cparser.proofs.grammar.Grammar.closed.Goals as goal

pub postfixes_passing-requires-clause-known : goal.postfixes_passing-requires-clause-known
postfixes_passing-requires-clause-known g c =
    let kept : c.mark.new.self.row ≡ c.args.reader.now.row =
    bracket_kept c.args.self.now.depth _ _ _ _ _ _ c.whole.ensures c.in_ok-expression_from.ensures c.whole-2.ensures c.mark.ensures in
    let P : List Terminal → Type 0 = λ row. c.args.known ≤ prefix_len is_no_word (drop c.args.first row) in
    subst P (sym kept) c.requires.known

pub returns-clause-passed : goal.returns-clause-passed
returns-clause-passed g c =
    let kept : c.mark.new.self.row ≡ c.args.reader.now.row =
    bracket_kept c.args.self.now.depth _ _ _ _ _ _ c.whole.ensures c.in_ok-expression_from.ensures c.whole-2.ensures c.mark.ensures in
    let P : List Terminal → Type 0 = λ row. IfOk c.postfixes_passing.result (λ passed. passed ≤ prefix_len is_no_word (drop c.args.first row)) in
    subst P kept c.postfixes_passing.ensures.passed
