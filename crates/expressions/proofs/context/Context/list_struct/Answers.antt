-- A tag of a struct whose members follow.
use Rattle.std.proofs.Common.{◌≡◌, List, length, true, ap, ◌∙◌}
use Rattle.cbase.specs.declared.ctype.CType.{CType}
use Rattle.cbase.specs.declared.structs.StructDef.{StructDef}
use Rattle.typing.specs.declared.environment.entity.Tag.TheVariants.{Struct}
use Rattle.typing.specs.declared.environment.environment.Environment.{Environment}
use Rattle.typing.specs.environment.Environment.{tag_declared}
use Rattle.expressions.specs.declared.handed_row.HandedRow.{HandedRow}
use Rattle.expressions.specs.Context.{Context}
use Rattle.expressions.proofs.Tagging.{where_ok, where_err, tagged_below_behind}
use Rattle.expressions.proofs.context.Context.list_struct.Goals as goal

abbrev the_context : List CType → List StructDef → Environment → List HandedRow → Context
the_context types structs environment handed = record { types = types; structs = structs; environment = environment; handed = handed }

pub invariant_of-self : goal.invariant_of-self
invariant_of-self c = tagged_below_behind (length c.self.inside.types.types) c.args.name.now (Struct c.args.number true) c.self.inside.environment c.declare_tag.new.self c.declare_tag.result
    c.declare_tag.ensures.ok c.declare_tag.ensures.err c.self.invariant

pub returns-clause-ok : goal.returns-clause-ok
returns-clause-ok c = where_ok c.declare_tag.result
    (λ done (is : c.declare_tag.new.self ≡ tag_declared c.args.name.now (Struct c.args.number true) c.self.inside.environment).
    ap (λ (environment : Environment). the_context c.self.inside.types.types c.self.inside.types.structs environment c.self.inside.handed) is
    ∙ ap (λ (context : Context). record context { environment = tag_declared c.args.name.now (Struct c.args.number true) context.environment }) c.self.view_is) c.declare_tag.ensures.ok

pub returns-clause-err : goal.returns-clause-err
returns-clause-err c = where_err c.declare_tag.result
    (λ (is : c.declare_tag.new.self ≡ c.self.inside.environment). ap (λ (environment : Environment). the_context c.self.inside.types.types c.self.inside.types.structs environment c.self.inside.handed) is ∙ c.self.view_is) c.declare_tag.ensures.err
