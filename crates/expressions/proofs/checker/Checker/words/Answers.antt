-- The words of a type, by what they are.
use Rattle.cbase.specs.declared.tree.expr.ExprForm.TheOpen.{Basic, Named, Struct, Enum, OfExpr}
use Rattle.cbase.specs.declared.tree.spec.FieldDecl.{FieldDecl}
use Rattle.cbase.specs.declared.tree.spec.Enumerator.{Enumerator}
use Rattle.cbase.specs.declared.tree.spec.TypeSpec.{TypeSpec}
use Rattle.cbase.specs.declared.tree.spec.TypeSpec.TheVariants.{Struct as StructSpec, Enum as EnumSpec}
use Rattle.ctrees.specs.Levels.{spec_levels}
use Rattle.std.proofs.Common.{◌≤◌, ◌∙◌, List, Option, Some, None, ap, subst}
use Rattle.expressions.proofs.checker.Checker.words.Goals as goal
use Rattle.expressions.proofs.PartLevels.{typeof_within, typeof_type_within}
use Rattle.expressions.proofs.TypeParts.{typeof_told}
use Rattle.expressions.proofs.TypeWords.{layered, typeof_type, struct_layer, enum_layer, struct_alone_layer, enum_alone_layer, basic_layer, named_layer, typeof_expr_layer, typeof_layer}

pub returns-in-Some : goal.returns-in-Some
returns-in-Some g c = layered c.args.self.now.abi c.args.context.now c.ask_type.new.context c.args.spec.now (Struct c.in-Struct.name (Some c.in-Some.fields)) c.ask_type.result
    (struct_layer c.args.spec.now c.in-Struct.name c.in-Struct.fields c.in-Some.fields c.in-Struct.is c.in-Some.is) c.ask_type.ensures

pub returns-in-Some-values : goal.returns-in-Some-values
returns-in-Some-values g c = layered c.args.self.now.abi c.args.context.now c.ask_type-in-Some-values.new.context c.args.spec.now (Enum c.in-Enum.name (Some c.in-Some-values.values)) c.ask_type-in-Some-values.result
    (enum_layer c.args.spec.now c.in-Enum.name c.in-Enum.values c.in-Some-values.values c.in-Enum.is c.in-Some-values.is) c.ask_type-in-Some-values.ensures

pub returns-in-OfType : goal.returns-in-OfType
returns-in-OfType g c = typeof_type c.args.self.now.abi c.args.context.now c.ask_type-in-OfType.new.context c.args.spec.now c.in-OfType.to c.ask_type-in-OfType.result
    (typeof_layer c.args.spec.now c.in-OfType.to c.in-OfType.is) (rw c.get-in-OfType.ensures at c.ask_type-in-OfType.ensures)

pub returns-in-Basic : goal.returns-in-Basic
returns-in-Basic g c = layered c.args.self.now.abi c.args.context.now c.basic.new.context c.args.spec.now (Basic c.in-Basic.basic_type) c.basic.result
    (basic_layer c.args.spec.now c.in-Basic.basic_type c.in-Basic.is) (c.basic.ensures)

pub returns-in-Named : goal.returns-in-Named
returns-in-Named g c = layered c.args.self.now.abi c.args.context.now c.typedef.new.context c.args.spec.now (Named c.as_slice.result.now) c.typedef.result
    (named_layer c.args.spec.now c.in-Named.name c.as_slice.result.now c.in-Named.is c.as_slice.ensures) (c.typedef.ensures c.args.self.now.abi)

pub returns-in-Some-name : goal.returns-in-Some-name
returns-in-Some-name g c = layered c.args.self.now.abi c.args.context.now c.structure.new.context c.args.spec.now (Struct (Some c.in-Some-name.tag) None) c.structure.result
    (struct_alone_layer c.args.spec.now c.in-Struct.name _ c.in-Struct.fields c.in-Struct.is c.in-None.is c.in-Some-name.is) (c.structure.ensures c.args.self.now.abi)

pub returns-in-None-name : goal.returns-in-None-name
returns-in-None-name g c = layered c.args.self.now.abi c.args.context.now c.nothing.new.context c.args.spec.now (Struct None None) c.nothing.result
    (struct_alone_layer c.args.spec.now c.in-Struct.name _ c.in-Struct.fields c.in-Struct.is c.in-None.is c.in-None-name.is) (c.nothing.ensures.of_struct c.args.self.now.abi)

pub returns-in-Some-name-2 : goal.returns-in-Some-name-2
returns-in-Some-name-2 g c = layered c.args.self.now.abi c.args.context.now c.enumeration.new.context c.args.spec.now (Enum (Some c.in-Some-name-2.tag) None) c.enumeration.result
    (enum_alone_layer c.args.spec.now c.in-Enum.name _ c.in-Enum.values c.in-Enum.is c.in-None-values.is c.in-Some-name-2.is) (c.enumeration.ensures c.args.self.now.abi)

pub returns-in-None-name-2 : goal.returns-in-None-name-2
returns-in-None-name-2 g c = layered c.args.self.now.abi c.args.context.now c.nothing-in-None-name-2.new.context c.args.spec.now (Enum None None) c.nothing-in-None-name-2.result
    (enum_alone_layer c.args.spec.now c.in-Enum.name _ c.in-Enum.values c.in-Enum.is c.in-None-values.is c.in-None-name-2.is) (c.nothing-in-None-name-2.ensures.of_enum c.args.self.now.abi)

pub returns-in-OfExpr : goal.returns-in-OfExpr
returns-in-OfExpr g c = layered c.args.self.now.abi c.args.context.now c.ask_expression.new.context c.args.spec.now (OfExpr c.get.result.now) c.typeof_expression.result
    (typeof_expr_layer c.args.spec.now c.in-OfExpr.expr c.get.result.now c.in-OfExpr.is c.get.ensures) (typeof_told c.args.self.now.abi c.args.context.now c.ask_expression.new.context c.get.result.now c.ask_expression.result c.typeof_expression.result c.typeof_expression.ensures c.ask_expression.ensures)

pub ask_type-requires-clause-nests : goal.ask_type-requires-clause-nests
ask_type-requires-clause-nests g c = c.requires.nests

pub ask_type-requires-clause-of_type : goal.ask_type-requires-clause-of_type
ask_type-requires-clause-of_type g c = tt

pub ask_type-requires-in-Some-values-clause-nests : goal.ask_type-requires-in-Some-values-clause-nests
ask_type-requires-in-Some-values-clause-nests g c = c.requires.nests

pub ask_type-requires-in-Some-values-clause-of_type : goal.ask_type-requires-in-Some-values-clause-of_type
ask_type-requires-in-Some-values-clause-of_type g c = tt

pub ask_type-requires-in-OfType-clause-nests : goal.ask_type-requires-in-OfType-clause-nests
ask_type-requires-in-OfType-clause-nests g c = c.requires.nests

pub ask_type-requires-in-OfType-clause-of_type : goal.ask_type-requires-in-OfType-clause-of_type
ask_type-requires-in-OfType-clause-of_type g c = tt

pub ask_expression-requires-clause-nests : goal.ask_expression-requires-clause-nests
ask_expression-requires-clause-nests g c = c.requires.nests

pub ask_type-requires-clause-deep : goal.ask_type-requires-clause-deep
ask_type-requires-clause-deep g c = subst (λ (spec : TypeSpec). spec_levels spec ≤ c.args.self.now.depth)
    (c.in-Struct.is ∙ ap (λ (fields : Option (List FieldDecl)). StructSpec c.in-Struct.name fields) c.in-Some.is) c.requires.deep

pub ask_type-requires-in-Some-values-clause-deep : goal.ask_type-requires-in-Some-values-clause-deep
ask_type-requires-in-Some-values-clause-deep g c = subst (λ (spec : TypeSpec). spec_levels spec ≤ c.args.self.now.depth)
    (c.in-Enum.is ∙ ap (λ (values : Option (List Enumerator)). EnumSpec c.in-Enum.name values) c.in-Some-values.is) c.requires.deep

pub ask_expression-requires-clause-deep : goal.ask_expression-requires-clause-deep
ask_expression-requires-clause-deep g c = typeof_within c.args.spec.now c.in-OfExpr.expr c.get.result.now c.args.self.now.depth c.in-OfExpr.is c.get.ensures c.requires.deep

pub ask_type-requires-in-OfType-clause-deep : goal.ask_type-requires-in-OfType-clause-deep
ask_type-requires-in-OfType-clause-deep g c = typeof_type_within c.args.spec.now c.in-OfType.to c.get-in-OfType.result.now c.args.self.now.depth c.in-OfType.is c.get-in-OfType.ensures c.requires.deep
