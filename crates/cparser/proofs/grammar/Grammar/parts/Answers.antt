use Rattle.std.proofs.Common.{refl, ◌∙◌, arith, rules}
use Rattle.cparser.specs.ListSteps.{part_of, closes_of, part_turn}
use Rattle.cparser.specs.Steps.{parts}
use Rattle.cparser.specs.ReadingSteps.{inner_at}
use Rattle.cparser.proofs.Turns.{ends, last, goes_on}
use Rattle.cparser.proofs.grammar.Grammar.parts.Goals as goal

pub returns-then-not-branch : goal.returns-then-not-branch
unfolding parts
returns-then-not-branch g c =
    ends (parts (closes_of c.args.listed) (part_of (inner_at c.args.self.now.depth) c.args.listed)) (part_turn (inner_at c.args.self.now.depth) c.args.listed) (λ n s. refl) c.turns.left c.turns.reader c.part_turn.new.reader _ c.in_ok-part_turn.field-0 c.in_ok-part_turn.ensures (search rules) c.turns.invariant

pub returns-then-left-eq0 : goal.returns-then-left-eq0
unfolding parts
returns-then-left-eq0 g c =
    c.lose.ensures ∙ last (parts (closes_of c.args.listed) (part_of (inner_at c.args.self.now.depth) c.args.listed)) (part_turn (inner_at c.args.self.now.depth) c.args.listed) (λ n s. refl) c.turns.left c.turns.reader c.part_turn.new.reader _ c.in_ok-part_turn.field-0 c.in_ok-part_turn.ensures (search rules) c.if-left-eq0.true c.turns.invariant

pub turns-preserved : goal.turns-preserved
unfolding parts
turns-preserved g c =
    goes_on (parts (closes_of c.args.listed) (part_of (inner_at c.args.self.now.depth) c.args.listed)) (part_turn (inner_at c.args.self.now.depth) c.args.listed) (λ n s. refl) c.turns.left c.turns.reader c.part_turn.new.reader _ c.in_ok-part_turn.field-0 c.in_ok-part_turn.ensures (search rules) (omega arith) c.turns.invariant
