use Rattle.std.proofs.Common.{◌≡◌, ◌∙◌, ap, [], ◌∷◌, reverse}
use Rattle.typing.specs.environment.Kept.{scopes_of}
use Rattle.typing.specs.environment.Scopes.{entered}
use Rattle.typing.proofs.environment.Stacks.{pushed}
use Rattle.typing.proofs.environment.KeptRight.{visible_entered}
use Rattle.typing.proofs.environment.scopes.Scopes.open.Goals as goal

pub invariant_of-self : goal.invariant_of-self
invariant_of-self g c = rw c.in_err-push.ensures.items c.self.invariant

pub invariant_of-self-2 : goal.invariant_of-self-2
invariant_of-self-2 g c =
    let above : reverse c.push.new.self.items ≡ [] ∷ reverse c.self.inside.levels.items =
    ap reverse c.in_ok-push.ensures.items ∙ (pushed c.self.inside.levels.items c.new.result ∙ ap (λ level. level ∷ reverse c.self.inside.levels.items) c.new.ensures) in
    rw above (visible_entered c.self.inside.visible (reverse c.self.inside.levels.items) c.self.invariant)

pub returns-clause-ok : goal.returns-clause-ok
returns-clause-ok g c =
    ap (λ levels. scopes_of (reverse levels)) c.in_ok-push.ensures.items
    ∙ (ap scopes_of (pushed c.self.inside.levels.items c.new.result ∙ ap (λ level. level ∷ reverse c.self.inside.levels.items) c.new.ensures) ∙ ap entered c.self.view_is)
