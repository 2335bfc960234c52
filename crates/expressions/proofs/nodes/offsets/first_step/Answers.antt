use Rattle.std.proofs.Common.{ℕ, List, ◌∷◌, sym, ap, ◌∙◌, subst}
use Rattle.typing.specs.ctypes.Members.{member_of}
use Rattle.typing.specs.Idiom.{member_offset}
use Rattle.typing.specs.Paths.{LeadsFrom, Stops, ToFirst, FirstTooFar, NoFirst}
use Rattle.typing.specs.declared.fault.Fault.{Fault}
use Rattle.cbase.specs.declared.tree.expr.ExprForm.TheOpen.{Part::Member as NamedStep}
use Rattle.expressions.proofs.nodes.offsets.first_step.Goals as goal

pub returns-in-Some-clause-is : goal.returns-in-Some-clause-is
returns-in-Some-clause-is c abi n path indices agrees way onward =
    let structs = c.args.context.now.structs in
    ToFirst
    (sym (c.in-Typed.ensures.is n agrees ∙ ap (λ (name : List ℕ). member_of structs (n.ctype c.args.ctype) name) c.as_slice.ensures))
    (sym (c.in-Some.ensures n abi agrees ∙ ap (λ (name : List ℕ). member_offset abi structs (n.ctype c.args.ctype) name) c.as_slice-in-Typed.ensures))
    onward

pub returns-in-None-clause-is : goal.returns-in-None-clause-is
returns-in-None-clause-is c abi n path indices agrees =
    let structs = c.args.context.now.structs in
    subst (λ (stop : Fault). LeadsFrom abi structs c.args.word (n.ctype c.args.ctype) (NamedStep c.args.name.now ∷ path) indices (Stops stop)) (sym c.too_large.ensures)
    (FirstTooFar
    (sym (c.in-Typed.ensures.is n agrees ∙ ap (λ (name : List ℕ). member_of structs (n.ctype c.args.ctype) name) c.as_slice.ensures))
    (sym (c.in-None.ensures n abi agrees ∙ ap (λ (name : List ℕ). member_offset abi structs (n.ctype c.args.ctype) name) c.as_slice-in-Typed.ensures)))

pub returns-in-Broken-clause-is : goal.returns-in-Broken-clause-is
returns-in-Broken-clause-is c abi n path indices agrees =
    let structs = c.args.context.now.structs in
    subst (λ (stop : Fault). LeadsFrom abi structs c.args.word (n.ctype c.args.ctype) (NamedStep c.args.name.now ∷ path) indices (Stops stop)) (sym c.first_fault.ensures)
    (NoFirst
    (sym (c.in-Broken.ensures.is n agrees ∙ ap (λ (name : List ℕ). member_of structs (n.ctype c.args.ctype) name) c.as_slice.ensures)))
