use Rattle.std.proofs.Common.{sym, ◌∙◌}
use Rattle.typing.specs.ctypes.Table.{types_of}
use Rattle.typing.proofs.ctypes.Placing.{field_found}
use Rattle.typing.proofs.ctypes.types.Types.field.Goals as goal

pub returns-in-Some-clause-index : goal.returns-in-Some-clause-index
returns-in-Some-clause-index c = rw (sym c.self.view_is)
    (field_found (types_of c.self.inside.shapes.keys) c.self.inside.structs.items c.self.invariant.laid c.args.of c.in-Some.kept.now (rw (sym c.deref.ensures.value) (sym c.in-Some.ensures))
    c.args.name.now c.copied.result (c.copied.ensures ∙ c.get.ensures.value)).index

pub returns-in-Some-clause-offset : goal.returns-in-Some-clause-offset
returns-in-Some-clause-offset c = rw (sym c.self.view_is)
    (field_found (types_of c.self.inside.shapes.keys) c.self.inside.structs.items c.self.invariant.laid c.args.of c.in-Some.kept.now (rw (sym c.deref.ensures.value) (sym c.in-Some.ensures))
    c.args.name.now c.copied.result (c.copied.ensures ∙ c.get.ensures.value)).offset

pub returns-in-Some-clause-ctype : goal.returns-in-Some-clause-ctype
returns-in-Some-clause-ctype c = rw (sym c.self.view_is)
    (field_found (types_of c.self.inside.shapes.keys) c.self.inside.structs.items c.self.invariant.laid c.args.of c.in-Some.kept.now (rw (sym c.deref.ensures.value) (sym c.in-Some.ensures))
    c.args.name.now c.copied.result (c.copied.ensures ∙ c.get.ensures.value)).ctype

pub returns-in-Some-clause-inside : goal.returns-in-Some-clause-inside
returns-in-Some-clause-inside c = rw (sym c.self.view_is)
    (field_found (types_of c.self.inside.shapes.keys) c.self.inside.structs.items c.self.invariant.laid c.args.of c.in-Some.kept.now (rw (sym c.deref.ensures.value) (sym c.in-Some.ensures))
    c.args.name.now c.copied.result (c.copied.ensures ∙ c.get.ensures.value)).inside
