use Rattle.std.proofs.Common.{refl, arith, rules}
use Rattle.cparser.specs.OperatorSteps.{operations, operation_turn}
use Rattle.cparser.specs.ReadingSteps.{inner_at}
use Rattle.cparser.proofs.Turns.{ends, last, goes_on}
use Rattle.cparser.proofs.grammar.Grammar.operations.Goals as goal

pub returns-then-not-branch : goal.returns-then-not-branch
unfolding operations
returns-then-not-branch g c =
    ends (operations (inner_at c.args.self.now.depth) c.args.loosest) (operation_turn (inner_at c.args.self.now.depth) c.args.loosest) (λ n s. refl) c.turns.left c.turns.reader c.operation.new.reader _ c.in_ok-operation.field-0 c.in_ok-operation.ensures (search rules) c.turns.invariant

pub returns-then-left-eq0 : goal.returns-then-left-eq0
unfolding operations
returns-then-left-eq0 g c =
    last (operations (inner_at c.args.self.now.depth) c.args.loosest) (operation_turn (inner_at c.args.self.now.depth) c.args.loosest) (λ n s. refl) c.turns.left c.turns.reader c.operation.new.reader _ c.in_ok-operation.field-0 c.in_ok-operation.ensures (search rules) c.if-left-eq0.true c.turns.invariant

pub turns-preserved : goal.turns-preserved
unfolding operations
turns-preserved g c =
    goes_on (operations (inner_at c.args.self.now.depth) c.args.loosest) (operation_turn (inner_at c.args.self.now.depth) c.args.loosest) (λ n s. refl) c.turns.left c.turns.reader c.operation.new.reader _ c.in_ok-operation.field-0 c.in_ok-operation.ensures (search rules) (omega arith) c.turns.invariant
