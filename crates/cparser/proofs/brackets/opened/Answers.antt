use Rattle.std.proofs.Common.{◌≡◌, ◌∙◌, ap, sym, true, false, [], drop, arith, rules}
use Rattle.std.proofs.lemmas.List.{drop_all}
use Rattle.cparser.specs.OperandSteps.{opened, opens_row}
use Rattle.cparser.proofs.Opening.{opened_one, opened_none}
use Rattle.cparser.proofs.brackets.opened.Goals as goal

pub returns-then-not-opens-clause-count : goal.returns-then-not-opens-clause-count
returns-then-not-opens-clause-count c =
    let shut : c.opens.result ≡ false = search rules in
    let none : opens_row c.args.scope.now (drop c.tokens.count c.args.row.now) ≡ false =
    ap (opens_row c.args.scope.now) (sym c.behind.ensures) ∙ (sym c.opens.ensures ∙ shut) in
    omega (arith, opened_none c.args.scope.now (drop c.tokens.count c.args.row.now) none, c.tokens.invariant.0)

pub tokens-preserved : goal.tokens-preserved
tokens-preserved c =
    let stands : c.opens.result ≡ true = search rules in
    let here : opens_row c.args.scope.now (drop c.tokens.count c.args.row.now) ≡ true =
    ap (opens_row c.args.scope.now) (sym c.behind.ensures) ∙ (sym c.opens.ensures ∙ stands) in
    (sym (opened_one c.args.scope.now c.args.row.now c.tokens.count here) ∙ c.tokens.invariant.0, omega arith)

pub returns-clause-count : goal.returns-clause-count
unfolding opened
returns-clause-count c =
    let nothing : drop c.tokens.count c.args.row.now ≡ [] = drop_all c.tokens.count c.args.row.now (omega arith) in
    omega (arith, ap (opened c.args.scope.now) nothing, c.tokens.invariant.0)
