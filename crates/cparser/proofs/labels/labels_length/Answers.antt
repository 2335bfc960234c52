use Rattle.std.proofs.Common.{◌≡◌, true, false, ◌∙◌, sym, ap, List, drop, arith}
use Rattle.std.proofs.lemmas.List.{take_rest}
use Rattle.cgrammar.specs.FrontReadings.{begins_with_label}
use Rattle.cgrammar.specs.Terminals.{Terminal}
use Rattle.cparser.proofs.LabelRows.{labels_behind, labels_there, labels_none}
use Rattle.cparser.proofs.labels.labels_length.Goals as goal

pub labels-preserved : goal.labels-preserved
labels-preserved c =
    let same = ap (λ (row : List Terminal). begins_with_label c.args.scope.now row) (sym (take_rest c.args.row.now c.labels.count)) in
    let there : begins_with_label c.args.scope.now (drop c.labels.count c.args.row.now) ≡ true = same ∙ (sym c.begins_with_label.ensures.is ∙ c.labels-test.true) in
    let more = labels_behind c.args.scope.now c.args.row.now c.labels.count there in
    (omega (arith, more, c.labels.invariant.0), labels_there c.args.scope.now c.args.row.now c.labels.count there c.labels.invariant.1)

pub returns-clause-count : goal.returns-clause-count
returns-clause-count c =
    let same = ap (λ (row : List Terminal). begins_with_label c.args.scope.now row) (sym (take_rest c.args.row.now c.labels.count)) in
    let away : begins_with_label c.args.scope.now (drop c.labels.count c.args.row.now) ≡ false = same ∙ (sym c.begins_with_label.ensures.is ∙ c.labels-test.false) in
    let none = labels_none c.args.scope.now (drop c.labels.count c.args.row.now) away in
    omega (arith, none, c.labels.invariant.0)
