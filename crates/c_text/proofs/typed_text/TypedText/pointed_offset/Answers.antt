-- The offset of a member is that in the type that the row of the expression has.
use Rattle.std.proofs.Common.{List, sym, ap, ◌∙◌, subst}
use Rattle.cbase.specs.declared.ctype.CType.{CType}
use Rattle.cbase.specs.declared.structs.StructDef.{StructDef}
use Rattle.typing.specs.ctypes.Kinds.{Kind, kind_of}
use Rattle.typing.proofs.ctypes.ShapeKinds.{are_kinds}
use Rattle.typing.specs.Nodes.{pointed_offset}
use Rattle.expressions.specs.Context.{Context}
use Rattle.c_machine.specs.Trees.{offset}
use Rattle.c_text.specs.Stands.{StandsFor}
use Rattle.c_text.proofs.RowsFound.{ctype_is, no_type}
use Rattle.c_text.proofs.typed_text.TypedText.pointed_offset.Goals as goal

pub returns-in-None : goal.returns-in-None
returns-in-None c = λ n p expr stands same.
    ap (λ (kind : Kind). offset (pointed_offset p.abi p.structs kind c.args.name.now)) (sym (are_kinds p.structs).void)
    ∙ ap (λ (t : CType). offset (pointed_offset p.abi p.structs (kind_of p.structs t) c.args.name.now))
    (no_type n c.args.self.now p expr c.args.number stands same (sym c.row.ensures.found ∙ c.in-None.is))

pub returns-in-Some : goal.returns-in-Some
returns-in-Some c = λ n p expr stands same.
    let inside = subst (λ (context : Context). StandsFor n context p) (sym c.self.view_is) stands in
    c.offset_of.ensures
    ∙ ap offset (c.pointed_offset.ensures n p.abi inside.agrees)
    ∙ ap (λ (structs : List StructDef). offset (pointed_offset p.abi structs (kind_of structs (n.ctype c.in-Some.row.ctype)) c.args.name.now)) (sym inside.structs)
    ∙ ap (λ (t : CType). offset (pointed_offset p.abi p.structs (kind_of p.structs t) c.args.name.now))
    (ctype_is n c.args.self.now p expr c.args.number c.in-Some.row stands same (sym c.row.ensures.found ∙ c.in-Some.is))
