use Rattle.std.proofs.Common.{sym}
use Rattle.typing.specs.ctypes.Table.{types_of}
use Rattle.typing.proofs.ctypes.InOrder.{member_found}
use Rattle.typing.proofs.ctypes.types.Types.member_at.Goals as goal

pub returns-in-Some-clause-none : goal.returns-in-Some-clause-none
returns-in-Some-clause-none c = rw (sym c.self.view_is)
    (member_found (types_of c.self.inside.shapes.keys) c.self.inside.structs.items c.self.invariant.laid c.args.of c.in-Some.kept.now (rw (sym c.deref.ensures.value) (sym c.in-Some.ensures))
    c.args.index c.place_at.result (rw c.deref-in-Some.ensures.value at c.place_at.ensures)).none

pub returns-in-Some-clause-index : goal.returns-in-Some-clause-index
returns-in-Some-clause-index c =
    (member_found (types_of c.self.inside.shapes.keys) c.self.inside.structs.items c.self.invariant.laid c.args.of c.in-Some.kept.now (rw (sym c.deref.ensures.value) (sym c.in-Some.ensures))
    c.args.index c.place_at.result (rw c.deref-in-Some.ensures.value at c.place_at.ensures)).same

pub returns-in-Some-clause-offset : goal.returns-in-Some-clause-offset
returns-in-Some-clause-offset c = rw (sym c.self.view_is)
    (member_found (types_of c.self.inside.shapes.keys) c.self.inside.structs.items c.self.invariant.laid c.args.of c.in-Some.kept.now (rw (sym c.deref.ensures.value) (sym c.in-Some.ensures))
    c.args.index c.place_at.result (rw c.deref-in-Some.ensures.value at c.place_at.ensures)).offset

pub returns-in-Some-clause-ctype : goal.returns-in-Some-clause-ctype
returns-in-Some-clause-ctype c = rw (sym c.self.view_is)
    (member_found (types_of c.self.inside.shapes.keys) c.self.inside.structs.items c.self.invariant.laid c.args.of c.in-Some.kept.now (rw (sym c.deref.ensures.value) (sym c.in-Some.ensures))
    c.args.index c.place_at.result (rw c.deref-in-Some.ensures.value at c.place_at.ensures)).ctype

pub returns-in-Some-clause-inside : goal.returns-in-Some-clause-inside
returns-in-Some-clause-inside c = rw (sym c.self.view_is)
    (member_found (types_of c.self.inside.shapes.keys) c.self.inside.structs.items c.self.invariant.laid c.args.of c.in-Some.kept.now (rw (sym c.deref.ensures.value) (sym c.in-Some.ensures))
    c.args.index c.place_at.result (rw c.deref-in-Some.ensures.value at c.place_at.ensures)).inside
