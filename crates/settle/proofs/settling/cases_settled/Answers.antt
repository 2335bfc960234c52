use Rattle.std.proofs.Common.{List, ◌++◌, reverse, sym, ◌∙◌, ap, subst}
use Rattle.std.specs.List.{list_any}
use Rattle.std.proofs.lemmas.List.{reverse-reverse}
use Rattle.graph.specs.declared.parts.Parts.{Parts}
use Rattle.settle.specs.Parted.{AreParted}
use Rattle.settle.specs.Settled.{is_too_large}
use Rattle.settle.proofs.Turns.{any_reverse}
use Rattle.settle.proofs.settling.cases_settled.Goals as goal

pub returns-in-Ok-settle_all-clause-within : goal.returns-in-Ok-settle_all-clause-within
returns-in-Ok-settle_all-clause-within c =
    let left = c.in-Ok.ensures ∙ ap (λ (xs : List Parts). xs ++ reverse c.args.cases) c.new-left.ensures.items in
    sym (ap (list_any (is_too_large c.args.registers.now)) left ∙ any_reverse (is_too_large c.args.registers.now) c.args.cases) ∙ c.in-Ok-settle_all.ensures.within

pub returns-in-Ok-settle_all-clause-parted : goal.returns-in-Ok-settle_all-clause-parted
returns-in-Ok-settle_all-clause-parted c = λ parts at_first.
    let left = c.in-Ok.ensures ∙ ap (λ (xs : List Parts). xs ++ reverse c.args.cases) c.new-left.ensures.items in
    c.in-Ok-settle_all.ensures.parted parts (subst (AreParted parts) (sym (ap reverse left ∙ reverse-reverse c.args.cases)) at_first)

pub returns-clause-large : goal.returns-clause-large
returns-clause-large c = λ is.
    let left = c.in-Ok.ensures ∙ ap (λ (xs : List Parts). xs ++ reverse c.args.cases) c.new-left.ensures.items in
    sym (ap (list_any (is_too_large c.args.registers.now)) left ∙ any_reverse (is_too_large c.args.registers.now) c.args.cases) ∙ c.in-Err-settle_all.ensures.large is
