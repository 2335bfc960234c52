-- The kind of the type is that of its shape, and what the table has of a member is what the struct has.
use Rattle.std.proofs.Common.{◌≡◌, false, true, refl, sym, ap, ◌∙◌}
use Rattle.typing.specs.declared.ctypes.shape.Shape.TheVariants.{Struct as StructShape}
use Rattle.typing.specs.ctypes.Table.{type_at}
use Rattle.typing.specs.declared.ctypes.found.Broken.TheVariants.{Rule}
use Rattle.typing.specs.ctypes.Broken.{Typed, Breaks}
use Rattle.typing.specs.ctypes.Kinds.{Struct, has_size}
use Rattle.typing.specs.ctypes.Members.{named, member_in}
use Rattle.expressions.proofs.Meanings.{type_meant, kind_meant, below_now}
use Rattle.expressions.proofs.Measuring.{member_as, member_is, no_member}
use Rattle.expressions.proofs.OtherShapes.{no_struct}
use Rattle.expressions.proofs.context.Context.member_outcome.Goals as goal

pub returns-then-not-has_size-clause-is : goal.returns-then-not-has_size-clause-is
returns-then-not-has_size-clause-is c = λ n agrees.
    sym (member_as c.args.self.now.structs (n.ctype c.args.number) c.args.name.now false (Struct c.in-Struct.of)
    (sym (c.if-not-has_size.ensures n agrees))
    (kind_meant c.self.view_is c.args.number (StructShape c.in-Struct.of) c.requires c.in-Struct.ensures.is n agrees))

pub returns-in-Some-clause-is : goal.returns-in-Some-clause-is
returns-in-Some-clause-is c = λ n agrees.
    let at = c.in-Some.at in
    ap Typed (type_meant c.self.view_is at.ctype (below_now c.self.view_is at.ctype c.in-Some.ensures.inside) n agrees)
    ∙ (sym (ap named (member_is c.self.view_is c.in-Struct.of c.args.name.now at.index (type_at c.self.inside.types.types at.ctype) c.in-Some.ensures.index c.in-Some.ensures.ctype))
    ∙ sym (member_as c.args.self.now.structs (n.ctype c.args.number) c.args.name.now true (Struct c.in-Struct.of)
    (sym (c.if-not-has_size.ensures n agrees))
    (kind_meant c.self.view_is c.args.number (StructShape c.in-Struct.of) c.requires c.in-Struct.ensures.is n agrees)))

pub returns-in-None-clause-is : goal.returns-in-None-clause-is
returns-in-None-clause-is c = λ n agrees.
    sym (ap named (no_member c.self.view_is c.in-Struct.of c.args.name.now c.in-None.ensures.index))
    ∙ sym (member_as c.args.self.now.structs (n.ctype c.args.number) c.args.name.now true (Struct c.in-Struct.of)
    (sym (c.if-not-has_size.ensures n agrees))
    (kind_meant c.self.view_is c.args.number (StructShape c.in-Struct.of) c.requires c.in-Struct.ensures.is n agrees))

pub returns-in_default : goal.returns-in_default
returns-in_default c =
    let table = c.self.inside.types in
    record {
      is = λ n agrees.
          let structs = c.args.self.now.structs in
          let sized = has_size structs (n.ctype c.args.number) in
          sym (ap (λ kind. member_in structs sized kind c.args.name.now) (kind_meant c.self.view_is c.args.number c.shape.result c.requires c.shape.ensures.is n agrees)
          ∙ no_struct (λ kind. member_in structs sized kind c.args.name.now ≡ Breaks (Rule 4)) table.structs table.types
          (λ t. refl) (λ item target. refl) (λ item target. refl) refl c.shape.result c.in_default.not-Struct);
      below = tt;
    }
