-- The roots are those of the state.
use Rattle.std.proofs.Common.{◌≡◌, List, ℕ, IfOk, ◌∙◌, subst}
use Rattle.bytes_core.specs.Loss.{is_lost}
use Rattle.c_steps.proofs.state.State.is_lost.Goals as goal

pub returns : goal.returns
returns g c =
    let of_roots : (found : List ℕ) → Type 0 = λ found. IfOk c.lost.result (λ lost. lost ≡ is_lost c.self.inside.memory found) in
    rw (← c.self.view_is) (rw (← c.as_slice.ensures) (subst of_roots (c.as_slice-2.ensures.value ∙ c.in_ok-add_roots.ensures {u = tt}) c.lost.ensures))
