use Rattle.std.proofs.Common.{List, subst, sym, ◌∙◌, ap}
use Rattle.graph.specs.declared.parts.Held.{Held}
use Rattle.graph.specs.Maps.{held_by}
use Rattle.reinterpret.specs.Open.{IsOpen}
use Rattle.reinterpret.proofs.Opened.{compared_at, compared_open}
use Rattle.reinterpret.proofs.equality.test_by.Goals as goal

pub test_known-requires-clause-open : goal.test_known-requires-clause-open
test_known-requires-clause-open c =
    subst (IsOpen c.args.graph.now) (sym c.compared.ensures)
    (compared_open c.args.graph.now c.in-Some.one c.in-Some-held_by.other
    (compared_at c.args.graph.now c.args.left c.args.right c.in-Some.one c.in-Some-held_by.other c.requires.values
    (ap (λ (registers : List Held). held_by registers c.args.left) (sym c.requires.registers) ∙ sym c.in-Some.ensures)
    (ap (λ (registers : List Held). held_by registers c.args.right) (sym c.requires.registers) ∙ sym c.in-Some-held_by.ensures)))
