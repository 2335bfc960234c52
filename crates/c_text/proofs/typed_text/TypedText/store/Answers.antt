-- The row of a store says what is set.
use Rattle.std.proofs.Common.{ℕ, List, None, Some, Option, option_map, sym, ap, ◌∙◌}
use Rattle.cbase.specs.declared.ctype.CType.{CType}
use Rattle.typing.specs.ctypes.Table.{type_at}
use Rattle.expressions.specs.Context.{Context}
use Rattle.expressions.proofs.Growth.{agrees_at}
use Rattle.typing.specs.Outcomes.{Store as Row}
use Rattle.c_machine.specs.declared.kind.Kind.{Kind}
use Rattle.c_machine.specs.Trees.{kind_in, store_of}
use Rattle.c_text.specs.declared.store.Store.{Store}
use Rattle.c_text.specs.Kept.{kept, kept_store}
use Rattle.c_text.proofs.StoresFound.{store_is}
use Rattle.c_text.proofs.typed_text.TypedText.store.Goals as goal

pub returns-in-None : goal.returns-in-None
returns-in-None c = λ n p stands.
    ap (λ (found : Option Row). kept_store (option_map (store_of p) found))
    (store_is n c.args.self.now p c.args.token c.args.number None stands (sym c.store_row.ensures.is ∙ c.in-None.is))

pub returns-in-None-type_kind : goal.returns-in-None-type_kind
returns-in-None-type_kind c = λ n p stands.
    let at : Kind → Option Store = λ kind. Some (record { offset = c.in-Some.row.offset; kind = kind }) in
    ap (option_map at)
    (sym c.in-None-type_kind.is
    ∙ c.type_kind.ensures p (stands.structs ∙ ap (λ (context : Context). context.structs) (sym c.self.view_is) ∙ sym c.types.ensures.structs)
    ∙ ap (λ (types : List CType). kept (kind_in p (type_at types c.in-Some.row.ctype))) (c.types.ensures.types ∙ ap (λ (context : Context). context.types) c.self.view_is)
    ∙ ap (λ (t : CType). kept (kind_in p t)) (sym (agrees_at n c.args.self.now c.in-Some.row.ctype stands.agrees c.in-Some.ensures.typed)))
    ∙ ap (λ (found : Option Row). kept_store (option_map (store_of p) found))
    (store_is n c.args.self.now p c.args.token c.args.number (Some c.in-Some.row) stands (sym c.store_row.ensures.is ∙ c.in-Some.is))

pub returns-in-Some-type_kind : goal.returns-in-Some-type_kind
returns-in-Some-type_kind c = λ n p stands.
    let at : Kind → Option Store = λ kind. Some (record { offset = c.in-Some.row.offset; kind = kind }) in
    ap (λ (offset : ℕ). Some (Some (record { offset = offset; kind = c.in-Some-type_kind.kind }))) c.from.ensures
    ∙ ap (option_map at)
    (sym c.in-Some-type_kind.is
    ∙ c.type_kind.ensures p (stands.structs ∙ ap (λ (context : Context). context.structs) (sym c.self.view_is) ∙ sym c.types.ensures.structs)
    ∙ ap (λ (types : List CType). kept (kind_in p (type_at types c.in-Some.row.ctype))) (c.types.ensures.types ∙ ap (λ (context : Context). context.types) c.self.view_is)
    ∙ ap (λ (t : CType). kept (kind_in p t)) (sym (agrees_at n c.args.self.now c.in-Some.row.ctype stands.agrees c.in-Some.ensures.typed)))
    ∙ ap (λ (found : Option Row). kept_store (option_map (store_of p) found))
    (store_is n c.args.self.now p c.args.token c.args.number (Some c.in-Some.row) stands (sym c.store_row.ensures.is ∙ c.in-Some.is))
