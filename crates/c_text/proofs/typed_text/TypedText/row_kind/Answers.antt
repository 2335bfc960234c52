-- The parameter at an index is the row behind so many others.
use Rattle.std.proofs.Common.{List, None, Some, sym, ap, ◌∙◌, subst, arith}
use Rattle.std.specs.Prelude.{option_and_then}
use Rattle.cbase.specs.declared.ctype.CType.{CType}
use Rattle.typing.specs.ctypes.Table.{type_at}
use Rattle.expressions.specs.Context.{Context}
use Rattle.expressions.proofs.Growth.{agrees_at}
use Rattle.c_machine.specs.Trees.{kind_in}
use Rattle.c_text.specs.Kept.{kept}
use Rattle.c_text.specs.Stands.{StandsFor}
use Rattle.c_text.proofs.ParametersFound.{index_inside, none_behind, type_is}
use Rattle.c_text.proofs.typed_text.TypedText.row_kind.Goals as goal

pub returns-then-index-count : goal.returns-then-index-count
returns-then-index-count c = λ n p stands.
    ap (option_and_then (λ (t : CType). kept (kind_in p t)))
    (none_behind n c.args.self.now p c.args.start c.args.index c.args.count stands c.requires c.if-index-count.true)

-- there is such a row, so its place fits
pub overflow_add-start : goal.overflow_add-start
overflow_add-start c = let inside = index_inside c.args.self.now.handed c.args.start c.args.index c.args.count c.requires (omega (arith, c.if-index-count.false)) in grind (arith, inside)

pub handed_row-requires : goal.handed_row-requires
handed_row-requires c = index_inside c.args.self.now.handed c.args.start c.args.index c.args.count c.requires (omega (arith, c.if-index-count.false))

pub returns-in-None : goal.returns-in-None
returns-in-None c = λ n p stands.
    ap (option_and_then (λ (t : CType). kept (kind_in p t)))
    (type_is n c.args.self.now p c.args.start c.args.index c.args.count c.handed_row.result _ None stands c.requires (omega (arith, c.if-index-count.false))
    c.handed_row.ensures.is (sym c.in-None.is ∙ c.parameter_type.ensures.is))

pub returns-in-Some : goal.returns-in-Some
returns-in-Some c = λ n p stands.
    let inside = subst (λ (context : Context). StandsFor n context p) (sym c.self.view_is) stands in
    c.type_kind.ensures p (inside.structs ∙ sym c.types.ensures.structs)
    ∙ ap (λ (types : List CType). kept (kind_in p (type_at types c.in-Some.ctype))) (c.types.ensures.types ∙ ap (λ (context : Context). context.types) c.self.view_is)
    ∙ ap (λ (t : CType). kept (kind_in p t)) (sym (agrees_at n c.args.self.now c.in-Some.ctype stands.agrees (c.in-Some.ensures.typed _ _ c.handed_row.ensures.known)))
    ∙ ap (option_and_then (λ (t : CType). kept (kind_in p t)))
    (type_is n c.args.self.now p c.args.start c.args.index c.args.count c.handed_row.result _ (Some c.in-Some.ctype) stands c.requires (omega (arith, c.if-index-count.false))
    c.handed_row.ensures.is (sym c.in-Some.is ∙ c.parameter_type.ensures.is))
