-- What is tested makes a choice.
use Rattle.std.proofs.Common.{◌∙◌, ◌+◌, true, List, length, All, sym, ap, subst, arith}
use Rattle.bytes_core.specs.declared.byte.Byte.{Byte}
use Rattle.bytes_core.specs.Placement.{can_be_placed}
use Rattle.bytes_core.specs.Valid.{NamesBelow}
use Rattle.c_steps.proofs.Contents.{choice_made, names_of_numbers}
use Rattle.c_steps.proofs.new_block.new_block.Goals as goal

pub returns-clause-some : goal.returns-clause-some
returns-clause-some c =
    choice_made c.args.memory.now c.args.kind c.args.size c.args.zeroed c.args.base c.args.contents.now c.if-contents-size.false
    (λ i. omega (arith, c.type_inv.contents i))
    (ap (λ (bytes : List Byte). can_be_placed c.args.memory.now (record { base = c.args.base; kind = c.args.kind; live = true; bytes = bytes })) (sym c.in_ok-bytes_of.ensures)
    ∙ (sym c.can_place.ensures ∙ c.if-not-can_place.false))
    (sym c.are_asked.ensures ∙ c.if-not-are_asked.false)

pub returns-clause-names : goal.returns-clause-names
returns-clause-names c =
    subst (All (NamesBelow (length c.args.memory.now + 1))) (sym c.in_ok-bytes_of.ensures) (names_of_numbers (length c.args.memory.now + 1) c.args.contents.now)
