use Rattle.std.proofs.Common.{◌∙◌, refl, arith, rules}
use Rattle.cparser.specs.BraceSteps.{member_of, brace_turn}
use Rattle.cparser.specs.Steps.{parts_until_brace}
use Rattle.cparser.specs.ReadingSteps.{inner_at}
use Rattle.cparser.proofs.Turns.{ends, last, goes_on}
use Rattle.cparser.proofs.grammar.Grammar.until_brace.Goals as goal

pub returns-then-not-branch : goal.returns-then-not-branch
unfolding parts_until_brace
returns-then-not-branch g c =
    ends (parts_until_brace (member_of (inner_at c.args.self.now.depth) c.args.braced)) (brace_turn (inner_at c.args.self.now.depth) c.args.braced) (λ n s. refl) c.turns.left c.turns.reader c.brace_turn.new.reader _ c.in_ok-brace_turn.field-0 c.in_ok-brace_turn.ensures (search rules) c.turns.invariant

pub returns-then-left-eq0 : goal.returns-then-left-eq0
unfolding parts_until_brace
returns-then-left-eq0 g c =
    c.lose.ensures ∙ last (parts_until_brace (member_of (inner_at c.args.self.now.depth) c.args.braced)) (brace_turn (inner_at c.args.self.now.depth) c.args.braced) (λ n s. refl) c.turns.left c.turns.reader c.brace_turn.new.reader _ c.in_ok-brace_turn.field-0 c.in_ok-brace_turn.ensures (search rules) c.if-left-eq0.true c.turns.invariant

pub turns-preserved : goal.turns-preserved
unfolding parts_until_brace
turns-preserved g c =
    goes_on (parts_until_brace (member_of (inner_at c.args.self.now.depth) c.args.braced)) (brace_turn (inner_at c.args.self.now.depth) c.args.braced) (λ n s. refl) c.turns.left c.turns.reader c.brace_turn.new.reader _ c.in_ok-brace_turn.field-0 c.in_ok-brace_turn.ensures (search rules) (omega arith) c.turns.invariant
