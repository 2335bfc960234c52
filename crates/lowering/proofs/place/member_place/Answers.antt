-- By `.`, and by `->`.
use Rattle.std.proofs.Common.{Bool, sym, subst}
use Rattle.c_machine.specs.Text.{Member}
use Rattle.lowering.specs.Reading.{IsPlaceLine}
use Rattle.lowering.proofs.Onward.{on_ok}
use Rattle.lowering.proofs.PlaceLines.{place_member, place_pointed}
use Rattle.lowering.proofs.place.member_place.Goals as goal

pub returns-then-not-through : goal.returns-then-not-through
returns-then-not-through c = on_ok c.member_line.result
    (λ is. subst (λ (through : Bool). IsPlaceLine c.args.source.now.context c.args.found c.args.expr.now c.args.spare c.args.into (Member c.args.base.now c.args.offset through)
    c.args.registers.now c.member_line.new.registers c.args.line.now c.member_line.new.line) (sym c.if-not-through.true) (place_member _ _ _ _ _ _ _ _ _ _ _ is))
    c.member_line.ensures

pub returns : goal.returns
returns c = on_ok c.pointed_line.result
    (λ is. subst (λ (through : Bool). IsPlaceLine c.args.source.now.context c.args.found c.args.expr.now c.args.spare c.args.into (Member c.args.base.now c.args.offset through)
    c.args.registers.now c.pointed_line.new.registers c.args.line.now c.pointed_line.new.line) (sym c.if-not-through.false) (place_pointed _ _ _ _ _ _ _ _ _ _ _ _ c.in_ok-kind.ensures is))
    c.pointed_line.ensures
