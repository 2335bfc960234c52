-- What the product of both arguments makes stands behind them.
use Rattle.std.proofs.Common.{◌≡◌, ◌∙◌, ◌*◌, List, ℕ, true, ap, subst}
use Rattle.std.specs.Prelude.{IfOk}
use Rattle.bytes_core.specs.declared.block.Block.{Block}
use Rattle.bytes_core.specs.Value.{address_number}
use Rattle.c_machine.specs.Choosing.{allocated}
use Rattle.c_machine.specs.State.{Outcome}
use Rattle.c_steps.specs.ComesTo.{comes_to}
use Rattle.c_steps.proofs.Popping.{of_two}
use Rattle.c_steps.proofs.built_ins.calloc.Goals as goal

pub returns-clause-ok : goal.returns-clause-ok
returns-clause-ok g c =
    let Comes : Outcome g.row.E.Denot g.row.S.Denot g.row.I.Denot → Type 0 =
    λ comes. IfOk c.allocate.result (λ outcome. comes_to outcome c.allocate.new.state c.allocate.new.choices ≡ comes) in
    of_two Comes c.in-Some.size c.in-Some-pop.count c.args.state.now c.pop.new.self c.pop-2.new.self
    (λ memory size count after. allocated (address_number memory count * address_number memory size) true after c.args.choices.now)
    c.in-Some.ensures.some c.in-Some-pop.ensures.some
    (subst (λ (bytes : ℕ). Comes (allocated bytes true c.pop-2.new.self c.args.choices.now))
    (c.product.ensures ∙ (ap (λ (n : ℕ). n * c.address-size.result)
    (c.address-count.ensures ∙ ap (λ (blocks : List Block). address_number blocks c.in-Some-pop.count) c.memory-2.ensures)
    ∙ ap (λ (n : ℕ). address_number c.pop-2.new.self.memory c.in-Some-pop.count * n)
    (c.address-size.ensures ∙ ap (λ (blocks : List Block). address_number blocks c.in-Some.size) c.memory.ensures)))
    c.allocate.ensures.ok)
