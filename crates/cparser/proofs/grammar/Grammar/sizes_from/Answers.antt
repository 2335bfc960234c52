use Rattle.std.proofs.Common.{◌∙◌, refl, arith, rules}
use Rattle.cparser.specs.TypeSteps.{sizes, size_turn}
use Rattle.cparser.specs.ReadingSteps.{inner_at}
use Rattle.cparser.proofs.Turns.{ends, last, goes_on}
use Rattle.cparser.proofs.grammar.Grammar.sizes_from.Goals as goal

pub returns-then-not-branch : goal.returns-then-not-branch
unfolding sizes
returns-then-not-branch g c =
    ends (sizes (inner_at c.args.self.now.depth) c.args.optional) (size_turn (inner_at c.args.self.now.depth) c.args.optional) (λ n s. refl) c.turns.left c.turns.reader c.size_turn.new.reader _ c.in_ok-size_turn.field-0 c.in_ok-size_turn.ensures (search rules) c.turns.invariant

pub returns-then-left-eq0 : goal.returns-then-left-eq0
unfolding sizes
returns-then-left-eq0 g c =
    c.lose.ensures ∙ last (sizes (inner_at c.args.self.now.depth) c.args.optional) (size_turn (inner_at c.args.self.now.depth) c.args.optional) (λ n s. refl) c.turns.left c.turns.reader c.size_turn.new.reader _ c.in_ok-size_turn.field-0 c.in_ok-size_turn.ensures (search rules) c.if-left-eq0.true c.turns.invariant

pub turns-preserved : goal.turns-preserved
unfolding sizes
turns-preserved g c =
    goes_on (sizes (inner_at c.args.self.now.depth) c.args.optional) (size_turn (inner_at c.args.self.now.depth) c.args.optional) (λ n s. refl) c.turns.left c.turns.reader c.size_turn.new.reader _ c.in_ok-size_turn.field-0 c.in_ok-size_turn.ensures (search rules) (omega arith) c.turns.invariant
