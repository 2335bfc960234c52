-- A function is declared unless the text gives it a body.
use Rattle.std.proofs.Common.{List, ℕ, [], ◌∷◌, OnOk, sym, subst, ◌∙◌}
use Rattle.items.specs.Begun.{HasMore, type_of_function}
use Rattle.items.proofs.BuiltIns.{none_with_body, one_result}
use Rattle.items.proofs.built_ins.declare_unless.Goals as goal

pub returns-then-is_among : goal.returns-then-is_among
returns-then-is_among c = subst (λ (name : List ℕ). HasMore c.args.bodied.now ((name, type_of_function c.args.abi c.args.function.now) ∷ []) c.args.context.now c.args.context.now) c.as_bytes-name.ensures.value
    (none_with_body c.args.bodied.now c.as_bytes-name.result.now (type_of_function c.args.abi c.args.function.now) c.args.context.now (sym c.is_among.ensures ∙ c.if-is_among.true))

pub returns : goal.returns
returns c = subst (λ (name : List ℕ). OnOk c.declare_built_in.result (HasMore c.args.bodied.now ((name, type_of_function c.args.abi c.args.function.now) ∷ []) c.args.context.now c.declare_built_in.new.context)) c.as_bytes-name.ensures.value
    (one_result c.args.bodied.now c.as_bytes-name.result.now (type_of_function c.args.abi c.args.function.now) c.args.context.now c.declare_built_in.new.context
    c.declare_built_in.result (sym c.is_among.ensures ∙ c.if-is_among.false) c.declare_built_in.ensures)
