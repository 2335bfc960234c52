use Rattle.std.proofs.Common.{refl, arith, rules}
use Rattle.cparser.specs.OperatorSteps.{commas, comma_turn}
use Rattle.cparser.specs.ReadingSteps.{inner_at}
use Rattle.cparser.proofs.Turns.{ends, last, goes_on}
use Rattle.cparser.proofs.grammar.Grammar.commas.Goals as goal

pub returns-then-not-branch : goal.returns-then-not-branch
unfolding commas
returns-then-not-branch g c =
    ends (commas (inner_at c.args.self.now.depth)) (comma_turn (inner_at c.args.self.now.depth)) (λ n s. refl) c.turns.left c.turns.reader c.comma.new.reader _ c.in_ok-comma.field-0 c.in_ok-comma.ensures (search rules) c.turns.invariant

pub returns-then-left-eq0 : goal.returns-then-left-eq0
unfolding commas
returns-then-left-eq0 g c =
    last (commas (inner_at c.args.self.now.depth)) (comma_turn (inner_at c.args.self.now.depth)) (λ n s. refl) c.turns.left c.turns.reader c.comma.new.reader _ c.in_ok-comma.field-0 c.in_ok-comma.ensures (search rules) c.if-left-eq0.true c.turns.invariant

pub turns-preserved : goal.turns-preserved
unfolding commas
turns-preserved g c =
    goes_on (commas (inner_at c.args.self.now.depth)) (comma_turn (inner_at c.args.self.now.depth)) (λ n s. refl) c.turns.left c.turns.reader c.comma.new.reader _ c.in_ok-comma.field-0 c.in_ok-comma.ensures (search rules) (omega arith) c.turns.invariant
