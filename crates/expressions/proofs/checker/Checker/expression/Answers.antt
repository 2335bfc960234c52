-- An expression by its form: its parts are no deeper than it, and what is found of it is found of one layer of it, and nothing else.
use Rattle.std.proofs.Common.{refl, ap, sym, ◌∙◌, Ok}
use Rattle.cbase.specs.declared.tree.expr.ExprForm.TheOpen.{Name, Constant, Unary, Binary, Assign, ExprForm::Member, Count, Choose, Cast, SizeOf, SizeOfType, OffsetOf, Index, Call, Inner, AssertFail}
use Rattle.cbase.specs.declared.tree.expr.ExprForm.TheViews.{out-ExprForm, outs-Name, outs-Constant, outs-Unary, outs-Binary, outs-Assign, outs-ExprForm::Member, outs-Count, outs-Choose, outs-Cast, outs-SizeOf, outs-SizeOfType, outs-OffsetOf, outs-Index, outs-Call, outs-Inner, outs-AssertFail}
use Rattle.cbase.specs.declared.tree.identifier.Identifier.{Identifier}
use Rattle.ctrees.specs.Levels.{expr_levels, type_name_levels}
use Rattle.typing.specs.Pieces.{OfType}
use Rattle.typing.specs.Rules.{SizeOfTypeName}
use Rattle.expressions.specs.declared.found.Found.TheVariants.{Refused}
use Rattle.expressions.specs.Found.{one_type}
use Rattle.expressions.proofs.Levels.{one_within, first_within, second_within, middle_within, third_within, unary_levels, binary_levels, assign_levels, count_levels, choose_levels, cast_levels, size_levels, type_size_levels, offset_levels, index_levels, member_levels, call_levels, path_within, arguments_within, body_within}
use Rattle.expressions.proofs.ByRule.{name_form, constant_form}
use Rattle.expressions.proofs.Parts.{a_type_told, type_found}
use Rattle.expressions.proofs.NothingElse.{nothing_else_result}
use Rattle.expressions.proofs.PartLevels.{form_within}
use Rattle.expressions.proofs.Several.{one_result}
use Rattle.expressions.proofs.Walking.{form_alike, settled_result, passed_of, refused_form}
use Rattle.expressions.proofs.WholeExpressions.{expression_result}
use Rattle.expressions.proofs.checker.Checker.expression.Goals as goal

pub returns-in-Name : goal.returns-in-Name
returns-in-Name g c =
    let walked =
    form_alike c.args.self.now.abi c.args.expr.now.number c.args.expr.now.place (Name c.as_slice.result.now) (out-ExprForm c.args.expr.now.form) c.args.context.now _ c.name_node.result
    (ap Name c.as_slice.ensures ∙ sym (ap out-ExprForm c.in-Name.is ∙ outs-Name c.in-Name.name)) (name_form c.args.self.now.abi c.args.expr.now.number c.args.expr.now.place c.as_slice.result.now c.args.context.now _ c.name_node.result c.name_node.ensures)
    in
    let found = expression_result c.args.self.now.abi c.args.expr.now c.args.context.now _ c.name_node.result walked in
    record { found = found; nothing_else = nothing_else_result c.args.self.now.abi c.args.expr.now c.args.context.now _ c.name_node.result found }

pub returns-in-Constant : goal.returns-in-Constant
returns-in-Constant g c =
    let walked =
    form_alike c.args.self.now.abi c.args.expr.now.number c.args.expr.now.place (Constant c.as_slice-in-Constant.result.now) (out-ExprForm c.args.expr.now.form) c.args.context.now _ c.constant_node.result
    (ap Constant c.as_slice-in-Constant.ensures ∙ sym (ap out-ExprForm c.in-Constant.is ∙ outs-Constant c.in-Constant.spelling)) (constant_form c.args.self.now.abi c.args.expr.now.number c.args.expr.now.place c.as_slice-in-Constant.result.now c.args.context.now _ c.constant_node.result c.constant_node.ensures)
    in
    let found = expression_result c.args.self.now.abi c.args.expr.now c.args.context.now _ c.constant_node.result walked in
    record { found = found; nothing_else = nothing_else_result c.args.self.now.abi c.args.expr.now c.args.context.now _ c.constant_node.result found }

pub single-requires-clause-nests : goal.single-requires-clause-nests
single-requires-clause-nests g c = c.requires.nests

pub single-requires-clause-arg : goal.single-requires-clause-arg
single-requires-clause-arg g c = one_within c.args.expr.now.form _ _ _ c.args.self.now.depth c.in-Unary.is (unary_levels c.in-Unary.op c.in-Unary.arg) refl (form_within c.args.expr.now c.args.self.now.depth c.requires.deep)

pub returns-in-Unary : goal.returns-in-Unary
returns-in-Unary g c =
    let walked =
    form_alike c.args.self.now.abi c.args.expr.now.number c.args.expr.now.place (Unary c.in-Unary.op c.in-Unary.arg) (out-ExprForm c.args.expr.now.form) c.args.context.now _ c.single.result
    (sym (ap out-ExprForm c.in-Unary.is ∙ outs-Unary c.in-Unary.op c.in-Unary.arg)) c.single.ensures
    in
    let found = expression_result c.args.self.now.abi c.args.expr.now c.args.context.now _ c.single.result walked in
    record { found = found; nothing_else = nothing_else_result c.args.self.now.abi c.args.expr.now c.args.context.now _ c.single.result found }

pub pair-requires-clause-nests : goal.pair-requires-clause-nests
pair-requires-clause-nests g c = c.requires.nests

pub pair-requires-clause-left : goal.pair-requires-clause-left
pair-requires-clause-left g c = first_within c.args.expr.now.form _ _ _ _ c.args.self.now.depth c.in-Binary.is (binary_levels c.in-Binary.op c.in-Binary.left c.in-Binary.right) refl (form_within c.args.expr.now c.args.self.now.depth c.requires.deep)

pub pair-requires-clause-right : goal.pair-requires-clause-right
pair-requires-clause-right g c = second_within c.args.expr.now.form _ _ _ _ c.args.self.now.depth c.in-Binary.is (binary_levels c.in-Binary.op c.in-Binary.left c.in-Binary.right) refl (form_within c.args.expr.now c.args.self.now.depth c.requires.deep)

pub returns-in-Binary : goal.returns-in-Binary
returns-in-Binary g c =
    let walked =
    form_alike c.args.self.now.abi c.args.expr.now.number c.args.expr.now.place (Binary c.in-Binary.op c.in-Binary.left c.in-Binary.right) (out-ExprForm c.args.expr.now.form) c.args.context.now _ c.pair.result
    (sym (ap out-ExprForm c.in-Binary.is ∙ outs-Binary c.in-Binary.op c.in-Binary.left c.in-Binary.right)) c.pair.ensures
    in
    let found = expression_result c.args.self.now.abi c.args.expr.now c.args.context.now _ c.pair.result walked in
    record { found = found; nothing_else = nothing_else_result c.args.self.now.abi c.args.expr.now c.args.context.now _ c.pair.result found }

pub pair-requires-in-Assign-clause-nests : goal.pair-requires-in-Assign-clause-nests
pair-requires-in-Assign-clause-nests g c = c.requires.nests

pub pair-requires-in-Assign-clause-left : goal.pair-requires-in-Assign-clause-left
pair-requires-in-Assign-clause-left g c = first_within c.args.expr.now.form _ _ _ _ c.args.self.now.depth c.in-Assign.is (assign_levels c.in-Assign.op c.in-Assign.left c.in-Assign.right) refl (form_within c.args.expr.now c.args.self.now.depth c.requires.deep)

pub pair-requires-in-Assign-clause-right : goal.pair-requires-in-Assign-clause-right
pair-requires-in-Assign-clause-right g c = second_within c.args.expr.now.form _ _ _ _ c.args.self.now.depth c.in-Assign.is (assign_levels c.in-Assign.op c.in-Assign.left c.in-Assign.right) refl (form_within c.args.expr.now c.args.self.now.depth c.requires.deep)

pub returns-in-Assign : goal.returns-in-Assign
returns-in-Assign g c =
    let walked =
    form_alike c.args.self.now.abi c.args.expr.now.number c.args.expr.now.place (Assign c.in-Assign.op c.in-Assign.left c.in-Assign.right) (out-ExprForm c.args.expr.now.form) c.args.context.now _ c.pair-in-Assign.result
    (sym (ap out-ExprForm c.in-Assign.is ∙ outs-Assign c.in-Assign.op c.in-Assign.left c.in-Assign.right)) c.pair-in-Assign.ensures
    in
    let found = expression_result c.args.self.now.abi c.args.expr.now c.args.context.now _ c.pair-in-Assign.result walked in
    record { found = found; nothing_else = nothing_else_result c.args.self.now.abi c.args.expr.now c.args.context.now _ c.pair-in-Assign.result found }

pub single-requires-in-Count-clause-nests : goal.single-requires-in-Count-clause-nests
single-requires-in-Count-clause-nests g c = c.requires.nests

pub single-requires-in-Count-clause-arg : goal.single-requires-in-Count-clause-arg
single-requires-in-Count-clause-arg g c = one_within c.args.expr.now.form _ _ _ c.args.self.now.depth c.in-Count.is (count_levels c.in-Count.up c.in-Count.after c.in-Count.arg) refl (form_within c.args.expr.now c.args.self.now.depth c.requires.deep)

pub returns-in-Count : goal.returns-in-Count
returns-in-Count g c =
    let walked =
    form_alike c.args.self.now.abi c.args.expr.now.number c.args.expr.now.place (Count c.in-Count.up c.in-Count.after c.in-Count.arg) (out-ExprForm c.args.expr.now.form) c.args.context.now _ c.single-in-Count.result
    (sym (ap out-ExprForm c.in-Count.is ∙ outs-Count c.in-Count.up c.in-Count.after c.in-Count.arg)) c.single-in-Count.ensures
    in
    let found = expression_result c.args.self.now.abi c.args.expr.now c.args.context.now _ c.single-in-Count.result walked in
    record { found = found; nothing_else = nothing_else_result c.args.self.now.abi c.args.expr.now c.args.context.now _ c.single-in-Count.result found }

pub single-requires-in-SizeOf-clause-nests : goal.single-requires-in-SizeOf-clause-nests
single-requires-in-SizeOf-clause-nests g c = c.requires.nests

pub single-requires-in-SizeOf-clause-arg : goal.single-requires-in-SizeOf-clause-arg
single-requires-in-SizeOf-clause-arg g c = one_within c.args.expr.now.form _ _ _ c.args.self.now.depth c.in-SizeOf.is (size_levels c.in-SizeOf.arg) refl (form_within c.args.expr.now c.args.self.now.depth c.requires.deep)

pub returns-in-SizeOf : goal.returns-in-SizeOf
returns-in-SizeOf g c =
    let walked =
    form_alike c.args.self.now.abi c.args.expr.now.number c.args.expr.now.place (SizeOf c.in-SizeOf.arg) (out-ExprForm c.args.expr.now.form) c.args.context.now _ c.single-in-SizeOf.result
    (sym (ap out-ExprForm c.in-SizeOf.is ∙ outs-SizeOf c.in-SizeOf.arg)) c.single-in-SizeOf.ensures
    in
    let found = expression_result c.args.self.now.abi c.args.expr.now c.args.context.now _ c.single-in-SizeOf.result walked in
    record { found = found; nothing_else = nothing_else_result c.args.self.now.abi c.args.expr.now c.args.context.now _ c.single-in-SizeOf.result found }

pub pair-requires-in-Index-clause-nests : goal.pair-requires-in-Index-clause-nests
pair-requires-in-Index-clause-nests g c = c.requires.nests

pub pair-requires-in-Index-clause-left : goal.pair-requires-in-Index-clause-left
pair-requires-in-Index-clause-left g c = first_within c.args.expr.now.form _ _ _ _ c.args.self.now.depth c.in-Index.is (index_levels c.in-Index.base c.in-Index.index) refl (form_within c.args.expr.now c.args.self.now.depth c.requires.deep)

pub pair-requires-in-Index-clause-right : goal.pair-requires-in-Index-clause-right
pair-requires-in-Index-clause-right g c = second_within c.args.expr.now.form _ _ _ _ c.args.self.now.depth c.in-Index.is (index_levels c.in-Index.base c.in-Index.index) refl (form_within c.args.expr.now c.args.self.now.depth c.requires.deep)

pub returns-in-Index : goal.returns-in-Index
returns-in-Index g c =
    let walked =
    form_alike c.args.self.now.abi c.args.expr.now.number c.args.expr.now.place (Index c.in-Index.base c.in-Index.index) (out-ExprForm c.args.expr.now.form) c.args.context.now _ c.pair-in-Index.result
    (sym (ap out-ExprForm c.in-Index.is ∙ outs-Index c.in-Index.base c.in-Index.index)) c.pair-in-Index.ensures
    in
    let found = expression_result c.args.self.now.abi c.args.expr.now c.args.context.now _ c.pair-in-Index.result walked in
    record { found = found; nothing_else = nothing_else_result c.args.self.now.abi c.args.expr.now c.args.context.now _ c.pair-in-Index.result found }

pub single-requires-in-Member-clause-nests : goal.single-requires-in-Member-clause-nests
single-requires-in-Member-clause-nests g c = c.requires.nests

pub single-requires-in-Member-clause-arg : goal.single-requires-in-Member-clause-arg
single-requires-in-Member-clause-arg g c = one_within c.args.expr.now.form _ _ _ c.args.self.now.depth c.in-Member.is (member_levels c.in-Member.base c.in-Member.name c.in-Member.through) refl (form_within c.args.expr.now c.args.self.now.depth c.requires.deep)

pub returns-in-Member : goal.returns-in-Member
returns-in-Member g c =
    let walked =
    form_alike c.args.self.now.abi c.args.expr.now.number c.args.expr.now.place (ExprForm::Member c.in-Member.base c.get-in-Member.result.now c.in-Member.through) (out-ExprForm c.args.expr.now.form) c.args.context.now _ c.single-in-Member.result
    (ap (λ (name : Identifier). ExprForm::Member c.in-Member.base name c.in-Member.through) c.get-in-Member.ensures ∙ sym (ap out-ExprForm c.in-Member.is ∙ outs-ExprForm::Member c.in-Member.base c.in-Member.name c.in-Member.through)) c.single-in-Member.ensures
    in
    let found = expression_result c.args.self.now.abi c.args.expr.now c.args.context.now _ c.single-in-Member.result walked in
    record { found = found; nothing_else = nothing_else_result c.args.self.now.abi c.args.expr.now c.args.context.now _ c.single-in-Member.result found }

pub choice-requires-clause-nests : goal.choice-requires-clause-nests
choice-requires-clause-nests g c = c.requires.nests

pub choice-requires-clause-test : goal.choice-requires-clause-test
choice-requires-clause-test g c = first_within c.args.expr.now.form _ _ _ _ c.args.self.now.depth c.in-Choose.is (choose_levels c.in-Choose.test c.in-Choose.yes c.in-Choose.no) (ap expr_levels c.get.ensures) (form_within c.args.expr.now c.args.self.now.depth c.requires.deep)

pub choice-requires-clause-one : goal.choice-requires-clause-one
choice-requires-clause-one g c = middle_within c.args.expr.now.form _ _ _ _ _ c.args.self.now.depth c.in-Choose.is (choose_levels c.in-Choose.test c.in-Choose.yes c.in-Choose.no) (ap expr_levels c.get-in-Choose.ensures) (form_within c.args.expr.now c.args.self.now.depth c.requires.deep)

pub choice-requires-clause-other : goal.choice-requires-clause-other
choice-requires-clause-other g c = third_within c.args.expr.now.form _ _ _ _ _ c.args.self.now.depth c.in-Choose.is (choose_levels c.in-Choose.test c.in-Choose.yes c.in-Choose.no) (ap expr_levels c.get-in-Choose-2.ensures) (form_within c.args.expr.now c.args.self.now.depth c.requires.deep)

pub returns-in-Choose : goal.returns-in-Choose
returns-in-Choose g c =
    let walked =
    form_alike c.args.self.now.abi c.args.expr.now.number c.args.expr.now.place (Choose c.get.result.now c.get-in-Choose.result.now c.get-in-Choose-2.result.now) (out-ExprForm c.args.expr.now.form) c.args.context.now _ c.choice.result
    ((λ i. Choose (c.get.ensures i) (c.get-in-Choose.ensures i) (c.get-in-Choose-2.ensures i)) ∙ sym (ap out-ExprForm c.in-Choose.is ∙ outs-Choose c.in-Choose.test c.in-Choose.yes c.in-Choose.no)) c.choice.ensures
    in
    let found = expression_result c.args.self.now.abi c.args.expr.now c.args.context.now _ c.choice.result walked in
    record { found = found; nothing_else = nothing_else_result c.args.self.now.abi c.args.expr.now c.args.context.now _ c.choice.result found }

pub cast-requires-clause-nests : goal.cast-requires-clause-nests
cast-requires-clause-nests g c = c.requires.nests

pub cast-requires-clause-to : goal.cast-requires-clause-to
cast-requires-clause-to g c = first_within c.args.expr.now.form _ _ _ _ c.args.self.now.depth c.in-Cast.is (cast_levels c.in-Cast.to c.in-Cast.arg) (ap type_name_levels c.get-in-Cast.ensures) (form_within c.args.expr.now c.args.self.now.depth c.requires.deep)

pub cast-requires-clause-arg : goal.cast-requires-clause-arg
cast-requires-clause-arg g c = second_within c.args.expr.now.form _ _ _ _ c.args.self.now.depth c.in-Cast.is (cast_levels c.in-Cast.to c.in-Cast.arg) (ap expr_levels c.get-in-Cast-2.ensures) (form_within c.args.expr.now c.args.self.now.depth c.requires.deep)

pub returns-in-Cast : goal.returns-in-Cast
returns-in-Cast g c =
    let walked =
    form_alike c.args.self.now.abi c.args.expr.now.number c.args.expr.now.place (Cast c.get-in-Cast.result.now c.get-in-Cast-2.result.now) (out-ExprForm c.args.expr.now.form) c.args.context.now _ c.cast.result
    ((λ i. Cast (c.get-in-Cast.ensures i) (c.get-in-Cast-2.ensures i)) ∙ sym (ap out-ExprForm c.in-Cast.is ∙ outs-Cast c.in-Cast.to c.in-Cast.arg)) c.cast.ensures
    in
    let found = expression_result c.args.self.now.abi c.args.expr.now c.args.context.now _ c.cast.result walked in
    record { found = found; nothing_else = nothing_else_result c.args.self.now.abi c.args.expr.now c.args.context.now _ c.cast.result found }

pub type_name-requires-clause-nests : goal.type_name-requires-clause-nests
type_name-requires-clause-nests g c = c.requires.nests

pub type_name-requires-clause-deep : goal.type_name-requires-clause-deep
type_name-requires-clause-deep g c = one_within c.args.expr.now.form _ _ _ c.args.self.now.depth c.in-SizeOfType.is (type_size_levels c.in-SizeOfType.to) (ap type_name_levels c.get-in-SizeOfType.ensures) (form_within c.args.expr.now c.args.self.now.depth c.requires.deep)

pub size_node-requires : goal.size_node-requires
size_node-requires g c = (passed_of _ _ _ _ _ _ c.in-Ok-Passes.field-0-is c.in-Ok-Passes.ensures).below

pub returns-in-Ok-Passes : goal.returns-in-Ok-Passes
returns-in-Ok-Passes g c =
    let walked =
    form_alike c.args.self.now.abi c.args.expr.now.number c.args.expr.now.place (SizeOfType c.get-in-SizeOfType.result.now) (out-ExprForm c.args.expr.now.form) c.args.context.now _ c.size_node.result
    (ap SizeOfType c.get-in-SizeOfType.ensures ∙ sym (ap out-ExprForm c.in-SizeOfType.is ∙ outs-SizeOfType c.in-SizeOfType.to))
    (settled_result c.args.self.now.abi c.args.expr.now.number c.args.expr.now.place (SizeOfType c.get-in-SizeOfType.result.now) one_type c.args.context.now c.type_name.new.context _ c.in-Ok-Passes.named _ _ c.size_node.result (c.size_node.ensures c.args.self.now.abi)
    (passed_of _ _ _ _ _ c.in-Ok-Passes.field-0 c.in-Ok-Passes.field-0-is (one_result c.args.self.now.abi (OfType c.get-in-SizeOfType.result.now) a_type_told one_type _ _ (Ok c.in-Ok-Passes.field-0) (λ n one. refl) (λ count one below. below) (type_found c.args.self.now.abi c.get-in-SizeOfType.result.now c.args.context.now c.type_name.new.context c.in-Ok-Passes.field-0 c.in-Ok-Passes.ensures))) (λ n handed outcome agrees settled. SizeOfTypeName refl settled))
    in
    let found = expression_result c.args.self.now.abi c.args.expr.now c.args.context.now _ c.size_node.result walked in
    record { found = found; nothing_else = nothing_else_result c.args.self.now.abi c.args.expr.now c.args.context.now _ c.size_node.result found }

pub returns-in-Ok-Refused : goal.returns-in-Ok-Refused
returns-in-Ok-Refused g c =
    let walked =
    form_alike c.args.self.now.abi c.args.expr.now.number c.args.expr.now.place (SizeOfType c.get-in-SizeOfType.result.now) (out-ExprForm c.args.expr.now.form) c.args.context.now _ (Ok (Refused c.in-Ok-Refused.fault))
    (ap SizeOfType c.get-in-SizeOfType.ensures ∙ sym (ap out-ExprForm c.in-SizeOfType.is ∙ outs-SizeOfType c.in-SizeOfType.to))
    (refused_form c.args.self.now.abi c.args.expr.now.number c.args.expr.now.place (SizeOfType c.get-in-SizeOfType.result.now) one_type c.args.context.now c.type_name.new.context c.in-Ok-Refused.fault c.in-Ok-Refused.field-0 c.in-Ok-Refused.field-0-is (one_result c.args.self.now.abi (OfType c.get-in-SizeOfType.result.now) a_type_told one_type _ _ (Ok c.in-Ok-Refused.field-0) (λ n one. refl) (λ count one below. below) (type_found c.args.self.now.abi c.get-in-SizeOfType.result.now c.args.context.now c.type_name.new.context c.in-Ok-Refused.field-0 c.in-Ok-Refused.ensures)))
    in
    let found = expression_result c.args.self.now.abi c.args.expr.now c.args.context.now _ (Ok (Refused c.in-Ok-Refused.fault)) walked in
    record { found = found; nothing_else = nothing_else_result c.args.self.now.abi c.args.expr.now c.args.context.now _ (Ok (Refused c.in-Ok-Refused.fault)) found }

pub offset-requires-clause-nests : goal.offset-requires-clause-nests
offset-requires-clause-nests g c = c.requires.nests

pub offset-requires-clause-to : goal.offset-requires-clause-to
offset-requires-clause-to g c = first_within c.args.expr.now.form _ _ _ _ c.args.self.now.depth c.in-OffsetOf.is (offset_levels c.in-OffsetOf.to c.in-OffsetOf.path) (ap type_name_levels c.get-in-OffsetOf.ensures) (form_within c.args.expr.now c.args.self.now.depth c.requires.deep)

pub offset-requires-clause-path : goal.offset-requires-clause-path
offset-requires-clause-path g c = path_within c.args.expr.now.form c.in-OffsetOf.to c.in-OffsetOf.path c.as_slice-in-OffsetOf.result.now c.args.self.now.depth c.in-OffsetOf.is c.as_slice-in-OffsetOf.ensures (form_within c.args.expr.now c.args.self.now.depth c.requires.deep)

pub returns-in-OffsetOf : goal.returns-in-OffsetOf
returns-in-OffsetOf g c =
    let walked =
    form_alike c.args.self.now.abi c.args.expr.now.number c.args.expr.now.place (OffsetOf c.get-in-OffsetOf.result.now c.as_slice-in-OffsetOf.result.now) (out-ExprForm c.args.expr.now.form) c.args.context.now _ c.offset.result
    ((λ i. OffsetOf (c.get-in-OffsetOf.ensures i) (c.as_slice-in-OffsetOf.ensures i)) ∙ sym (ap out-ExprForm c.in-OffsetOf.is ∙ outs-OffsetOf c.in-OffsetOf.to c.in-OffsetOf.path)) c.offset.ensures
    in
    let found = expression_result c.args.self.now.abi c.args.expr.now c.args.context.now _ c.offset.result walked in
    record { found = found; nothing_else = nothing_else_result c.args.self.now.abi c.args.expr.now c.args.context.now _ c.offset.result found }

pub call-requires-clause-nests : goal.call-requires-clause-nests
call-requires-clause-nests g c = c.requires.nests

pub call-requires-clause-callee : goal.call-requires-clause-callee
call-requires-clause-callee g c = first_within c.args.expr.now.form _ _ _ _ c.args.self.now.depth c.in-Call.is (call_levels c.in-Call.callee c.in-Call.args) (ap expr_levels c.get-in-Call.ensures) (form_within c.args.expr.now c.args.self.now.depth c.requires.deep)

pub call-requires-clause-args : goal.call-requires-clause-args
call-requires-clause-args g c = arguments_within c.args.expr.now.form c.in-Call.callee c.in-Call.args c.as_slice-in-Call.result.now c.args.self.now.depth c.in-Call.is c.as_slice-in-Call.ensures (form_within c.args.expr.now c.args.self.now.depth c.requires.deep)

pub returns-in-Call : goal.returns-in-Call
returns-in-Call g c =
    let walked =
    form_alike c.args.self.now.abi c.args.expr.now.number c.args.expr.now.place (Call c.get-in-Call.result.now c.as_slice-in-Call.result.now) (out-ExprForm c.args.expr.now.form) c.args.context.now _ c.call.result
    ((λ i. Call (c.get-in-Call.ensures i) (c.as_slice-in-Call.ensures i)) ∙ sym (ap out-ExprForm c.in-Call.is ∙ outs-Call c.in-Call.callee c.in-Call.args)) c.call.ensures
    in
    let found = expression_result c.args.self.now.abi c.args.expr.now c.args.context.now _ c.call.result walked in
    record { found = found; nothing_else = nothing_else_result c.args.self.now.abi c.args.expr.now c.args.context.now _ c.call.result found }

pub statement_expression-requires-clause-nests : goal.statement_expression-requires-clause-nests
statement_expression-requires-clause-nests g c = c.requires.nests

pub statement_expression-requires-clause-deep : goal.statement_expression-requires-clause-deep
statement_expression-requires-clause-deep g c = body_within c.args.expr.now.form c.in-Inner.body c.as_slice-in-Inner.result.now c.in-Inner.close c.args.self.now.depth c.in-Inner.is c.as_slice-in-Inner.ensures (form_within c.args.expr.now c.args.self.now.depth c.requires.deep)

pub returns-in-Inner : goal.returns-in-Inner
returns-in-Inner g c =
    let walked = form_alike c.args.self.now.abi c.args.expr.now.number c.args.expr.now.place (Inner c.as_slice-in-Inner.result.now c.in-Inner.close) (out-ExprForm c.args.expr.now.form) c.args.context.now _ c.statement_expression.result
    (ap (λ body. Inner body c.in-Inner.close) c.as_slice-in-Inner.ensures ∙ sym (ap out-ExprForm c.in-Inner.is ∙ outs-Inner c.in-Inner.body c.in-Inner.close)) (c.statement_expression.ensures c.in-Inner.close)
    in
    let found = expression_result c.args.self.now.abi c.args.expr.now c.args.context.now _ c.statement_expression.result walked in
    record { found = found; nothing_else = nothing_else_result c.args.self.now.abi c.args.expr.now c.args.context.now _ c.statement_expression.result found }

pub returns-in-AssertFail : goal.returns-in-AssertFail
returns-in-AssertFail g c =
    let walked =
    form_alike c.args.self.now.abi c.args.expr.now.number c.args.expr.now.place (AssertFail) (out-ExprForm c.args.expr.now.form) c.args.context.now _ c.failed_assertion.result
    (sym (ap out-ExprForm c.in-AssertFail.is ∙ outs-AssertFail)) (c.failed_assertion.ensures c.args.self.now.abi)
    in
    let found = expression_result c.args.self.now.abi c.args.expr.now c.args.context.now _ c.failed_assertion.result walked in
    record { found = found; nothing_else = nothing_else_result c.args.self.now.abi c.args.expr.now c.args.context.now _ c.failed_assertion.result found }
