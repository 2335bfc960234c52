use Rattle.std.proofs.Common.{refl, ◌∙◌, arith, rules}
use Rattle.cparser.specs.OperandSteps.{path, path_turn}
use Rattle.cparser.specs.ReadingSteps.{inner_at}
use Rattle.cparser.proofs.Turns.{ends, last, goes_on}
use Rattle.cparser.proofs.grammar.Grammar.path.Goals as goal

pub returns-then-not-branch : goal.returns-then-not-branch
unfolding path
returns-then-not-branch g c =
    ends (path (inner_at c.args.self.now.depth)) (path_turn (inner_at c.args.self.now.depth)) (λ n s. refl) c.turns.left c.turns.reader c.path_turn.new.reader _ c.in_ok-path_turn.field-0 c.in_ok-path_turn.ensures (search rules) c.turns.invariant

pub returns-then-left-eq0 : goal.returns-then-left-eq0
unfolding path
returns-then-left-eq0 g c =
    c.lose.ensures ∙ last (path (inner_at c.args.self.now.depth)) (path_turn (inner_at c.args.self.now.depth)) (λ n s. refl) c.turns.left c.turns.reader c.path_turn.new.reader _ c.in_ok-path_turn.field-0 c.in_ok-path_turn.ensures (search rules) c.if-left-eq0.true c.turns.invariant

pub turns-preserved : goal.turns-preserved
unfolding path
turns-preserved g c =
    goes_on (path (inner_at c.args.self.now.depth)) (path_turn (inner_at c.args.self.now.depth)) (λ n s. refl) c.turns.left c.turns.reader c.path_turn.new.reader _ c.in_ok-path_turn.field-0 c.in_ok-path_turn.ensures (search rules) (omega arith) c.turns.invariant
