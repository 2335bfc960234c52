use Rattle.std.proofs.Common.{◌∙◌, refl, arith, rules}
use Rattle.cgrammar.specs.ReadTypes.{never}
use Rattle.cparser.specs.DeclarationSteps.{declarator, declarators, declarator_turn}
use Rattle.cparser.specs.Steps.{parts}
use Rattle.cparser.specs.ReadingSteps.{inner_at}
use Rattle.cparser.proofs.Turns.{ends, last, goes_on}
use Rattle.cparser.proofs.grammar.Grammar.declarators.Goals as goal

pub returns-then-not-branch : goal.returns-then-not-branch
unfolding parts declarators
returns-then-not-branch g c =
    ends (parts never (declarator (inner_at c.args.self.now.depth) c.args.typedef)) (declarator_turn (inner_at c.args.self.now.depth) c.args.typedef) (λ n s. refl) c.turns.left c.turns.reader c.declarator_turn.new.reader _ c.in_ok-declarator_turn.field-0 c.in_ok-declarator_turn.ensures (search rules) c.turns.invariant

pub returns-then-left-eq0 : goal.returns-then-left-eq0
unfolding parts declarators
returns-then-left-eq0 g c =
    c.lose.ensures ∙ last (parts never (declarator (inner_at c.args.self.now.depth) c.args.typedef)) (declarator_turn (inner_at c.args.self.now.depth) c.args.typedef) (λ n s. refl) c.turns.left c.turns.reader c.declarator_turn.new.reader _ c.in_ok-declarator_turn.field-0 c.in_ok-declarator_turn.ensures (search rules) c.if-left-eq0.true c.turns.invariant

pub turns-preserved : goal.turns-preserved
unfolding parts declarators
turns-preserved g c =
    goes_on (parts never (declarator (inner_at c.args.self.now.depth) c.args.typedef)) (declarator_turn (inner_at c.args.self.now.depth) c.args.typedef) (λ n s. refl) c.turns.left c.turns.reader c.declarator_turn.new.reader _ c.in_ok-declarator_turn.field-0 c.in_ok-declarator_turn.ensures (search rules) (omega arith) c.turns.invariant
