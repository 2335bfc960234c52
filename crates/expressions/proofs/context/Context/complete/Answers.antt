-- A struct behind its members.
use Rattle.std.proofs.Common.{◌≡◌, ◌<◌, Bool, length, ap, sym, subst, ◌∙◌, IfOk}
use Rattle.std.specs.Prelude.{All, if◌then◌else◌}
use Rattle.cbase.specs.Completing.{may_complete, completed}
use Rattle.typing.specs.ctypes.Structs.{fields_of}
use Rattle.typing.specs.declared.ctypes.structs.Member.{Member}
use Rattle.expressions.specs.Context.{Context}
use Rattle.expressions.proofs.Tagging.{where_ok, where_err}
use Rattle.expressions.proofs.context.Context.complete.Goals as goal

pub complete-requires : goal.complete-requires
complete-requires c = subst (λ (context : Context). All (λ (member : Member). member.ctype < length context.types) c.args.members) (sym c.self.view_is) c.requires

pub invariant_of-self : goal.invariant_of-self
invariant_of-self c = rw c.complete.ensures.types c.self.invariant

pub returns-clause-answer : goal.returns-clause-answer
returns-clause-answer c =
    subst (λ (context : Context). IfOk c.complete.result (λ done. done ≡ may_complete context.structs c.args.number (fields_of context.types c.args.members))) c.self.view_is c.complete.ensures.answer

pub returns-clause-after : goal.returns-clause-after
returns-clause-after c = where_ok c.complete.result
    (λ (done : Bool) (is : c.complete.new.self.structs ≡ (if done then completed c.self.inside.types.structs c.args.number (fields_of c.self.inside.types.types c.args.members) else c.self.inside.types.structs)).
    (λ i. record { types = c.complete.ensures.types i; structs = is i; environment = c.self.inside.environment; handed = c.self.inside.handed })
    ∙ ap (λ (context : Context). record context { structs = (if done then completed context.structs c.args.number (fields_of context.types c.args.members) else context.structs) }) c.self.view_is) c.complete.ensures.after

pub returns-clause-err : goal.returns-clause-err
returns-clause-err c = where_err c.complete.result
    (λ (is : c.complete.new.self.structs ≡ c.self.inside.types.structs).
    (λ i. record { types = c.complete.ensures.types i; structs = is i; environment = c.self.inside.environment; handed = c.self.inside.handed }) ∙ c.self.view_is) c.complete.ensures.err
