use Rattle.std.proofs.Common.{◌≡◌, ◌≤◌, ◌∙◌, List, drop, refl, sym, subst, arith, rules}
use Rattle.std.specs.List.{prefix_len}
use Rattle.cgrammar.specs.Terminals.{Terminal}
use Rattle.cparser.specs.OperandSteps.{postfixes, all_postfixes, postfix_turn, is_no_word}
use Rattle.cparser.specs.ReadingSteps.{inner_at}
use Rattle.cparser.proofs.KeptByReaders.{turn_kept}
use Rattle.cparser.proofs.Turns.{ends, last, goes_on}
use Rattle.cparser.proofs.grammar.Grammar.postfixes.Goals as goal

pub returns-then-not-branch-clause-is : goal.returns-then-not-branch-clause-is
unfolding postfixes
returns-then-not-branch-clause-is g c =
    ends (postfixes (inner_at c.args.self.now.depth) c.args.first) (postfix_turn (inner_at c.args.self.now.depth) c.args.first) (λ n s. refl) c.turns.left c.turns.reader c.postfix.new.reader (all_postfixes (inner_at c.args.self.now.depth) c.args.first c.args.reader.now) c.in_ok-postfix.field-0 c.in_ok-postfix.ensures (search rules) c.turns.invariant.0

pub returns-then-not-branch-clause-passed : goal.returns-then-not-branch-clause-passed
returns-then-not-branch-clause-passed g c =
    let P : List Terminal → Type 0 = λ row. c.passed_on-passed.result ≤ prefix_len is_no_word (drop c.args.first row) in
    subst P c.turns.invariant.2 c.passed_on-passed.ensures

pub returns-then-left-eq0-clause-is : goal.returns-then-left-eq0-clause-is
unfolding postfixes
returns-then-left-eq0-clause-is g c =
    last (postfixes (inner_at c.args.self.now.depth) c.args.first) (postfix_turn (inner_at c.args.self.now.depth) c.args.first) (λ n s. refl) c.turns.left c.turns.reader c.postfix.new.reader (all_postfixes (inner_at c.args.self.now.depth) c.args.first c.args.reader.now) c.in_ok-postfix.field-0 c.in_ok-postfix.ensures (search rules) c.if-left-eq0.true c.turns.invariant.0

pub returns-then-left-eq0-clause-passed : goal.returns-then-left-eq0-clause-passed
returns-then-left-eq0-clause-passed g c =
    let P : List Terminal → Type 0 = λ row. c.passed_on-passed.result ≤ prefix_len is_no_word (drop c.args.first row) in
    subst P c.turns.invariant.2 c.passed_on-passed.ensures

pub turns-preserved : goal.turns-preserved
unfolding postfixes
turns-preserved g c =
    let kept : c.postfix.new.reader.row ≡ c.turns.reader.row =
    turn_kept c.args.self.now.depth c.args.first c.turns.reader c.postfix.new.reader c.in_ok-postfix.field-0 c.in_ok-postfix.ensures in
    let P : List Terminal → Type 0 = λ row. c.passed_on-passed.result ≤ prefix_len is_no_word (drop c.args.first row) in (
      goes_on (postfixes (inner_at c.args.self.now.depth) c.args.first) (postfix_turn (inner_at c.args.self.now.depth) c.args.first) (λ n s. refl) c.turns.left c.turns.reader c.postfix.new.reader (all_postfixes (inner_at c.args.self.now.depth) c.args.first c.args.reader.now) c.in_ok-postfix.field-0 c.in_ok-postfix.ensures (search rules) (omega arith) c.turns.invariant.0,
      subst P (sym kept) c.passed_on-passed.ensures,
      kept ∙ c.turns.invariant.2,
    )
