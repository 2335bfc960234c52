-- What stands in each kind of words.
use Rattle.std.proofs.Common.{◌++◌, ◌∷◌, refl}
use Rattle.cbase.specs.declared.tree.expr.ExprForm.TheViews.{outs-Basic, outs-Named, outs-Struct, outs-Enum, outs-OfExpr, outs-OfType}
use Rattle.c_machine.specs.Statics.{AnExpr, in_type_name}
use Rattle.c_text.proofs.statics.ByForm.{words_in_front, struct_in_front, enum_in_front}
use Rattle.c_text.proofs.statics.Walking.{on_ok}
use Rattle.c_text.proofs.statics.parts.spec.push_in_words.Goals as goal

pub returns-in-Basic : goal.returns-in-Basic
returns-in-Basic c = words_in_front c.args.spec.now _ _ _ c.args.nodes.now _ c.in-Basic.is (outs-Basic c.in-Basic.field-0) refl refl

pub returns-in-Named : goal.returns-in-Named
returns-in-Named c = words_in_front c.args.spec.now _ _ _ c.args.nodes.now _ c.in-Named.is (outs-Named c.in-Named.field-0) refl refl

pub returns-in-Struct : goal.returns-in-Struct
returns-in-Struct c = on_ok _ _ c.push_in_fields.result
    (λ done made. words_in_front c.args.spec.now _ _ _ c.args.nodes.now c.push_in_fields.new.nodes c.in-Struct.is (outs-Struct c.in-Struct.name c.in-Struct.fields)
    (struct_in_front c.in-Struct.name c.in-Struct.fields c.args.nodes.now) made)
    c.push_in_fields.ensures

pub returns-in-Enum : goal.returns-in-Enum
returns-in-Enum c = on_ok _ _ c.push_in_values.result
    (λ done made. words_in_front c.args.spec.now _ _ _ c.args.nodes.now c.push_in_values.new.nodes c.in-Enum.is (outs-Enum c.in-Enum.name c.in-Enum.values)
    (enum_in_front c.in-Enum.name c.in-Enum.values c.args.nodes.now) made)
    c.push_in_values.ensures

pub returns-in-OfExpr : goal.returns-in-OfExpr
returns-in-OfExpr c = on_ok _ _ c.push_expr.result
    (λ done made. words_in_front c.args.spec.now _ _ _ c.args.nodes.now c.push_expr.new.nodes c.in-OfExpr.is (outs-OfExpr c.in-OfExpr.expr)
    (λ i. AnExpr (c.get.ensures i) ∷ c.args.nodes.now) made)
    c.push_expr.ensures

pub returns-in-OfType : goal.returns-in-OfType
returns-in-OfType c = on_ok _ _ c.push_in_type_name.result
    (λ done made. words_in_front c.args.spec.now _ _ _ c.args.nodes.now c.push_in_type_name.new.nodes c.in-OfType.is (outs-OfType c.in-OfType.name)
    (λ i. in_type_name (c.get-in-OfType.ensures i) ++ c.args.nodes.now) made)
    c.push_in_type_name.ensures
