-- Jobs of `&&` and of `||` lead to where both conditions lead.
use Rattle.std.proofs.Common.{◌≡◌, ℕ, suc, ◌+◌, List, [], ◌∷◌, length, add-one, refl, ap, ◌∙◌}
use Rattle.cbase.specs.declared.tree.expr.Expr.{Expr}
use Rattle.cbase.specs.declared.tree.init.Init.{Init}
use Rattle.cbase.specs.declared.tree.stmt.Stmt.{Stmt}
use Rattle.c_machine.specs.Program.{Program}
use Rattle.c_machine.specs.Trees.{text_of}
use Rattle.flow.specs.declared.flow_graph.Standing.{Standing}
use Rattle.lower.specs.declared.jobs.Job.TheVariants.{Follow, Go}
use Rattle.lower.specs.Jobs.{JobOf, LeadsTo}
use Rattle.lowering.specs.declared.moves.Move.{Move as MoveOf}
use Rattle.lowering.specs.Placing.{Made, Around, go, two_tests, with_point}

module _ (p : Program) (around : Around) (levels from end between : ℕ) (jobs one two new : List JobOf) (first : ℕ → ℕ → MoveOf Expr Stmt Init) (second : MoveOf Expr Stmt Init)
    (standing : Standing) (before after : Made) where
  pub one_point : (filled : List (MoveOf Expr Stmt Init)) → length filled ≡ 0 → between ≡ before.points → after ≡ with_point standing before →
      one ≡ Go levels between second end ∷ jobs → new ≡ Go levels from (first end between) end ∷ one →
      LeadsTo p around jobs (two_tests (text_of p) around (go levels (text_of p) around) before from first second standing filled end) new after
  one_point [] none is_between is_after is_one is_new = record { of = rw (is_new, is_one, is_after, is_between) refl }
  one_point (pad ∷ filled) none is_between is_after is_one is_new = absurd cc

  pub two_points : (filled : List (MoveOf Expr Stmt Init)) (early : ℕ) → (length filled ≡ 0 → ⊥) → between ≡ before.points → early ≡ between + 1 →
      after ≡ with_point standing (with_point standing before) → one ≡ Go levels between second end ∷ jobs → two ≡ Follow levels early filled end ∷ one →
      new ≡ Go levels from (first early between) end ∷ two →
      LeadsTo p around jobs (two_tests (text_of p) around (go levels (text_of p) around) before from first second standing filled end) new after
  two_points [] early some is_between is_early is_after is_one is_two is_new = absurd (some refl)
  two_points (pad ∷ filled) early some is_between is_early is_after is_one is_two is_new =
      let next : early ≡ suc before.points = is_early ∙ ap (λ (n : ℕ). n + 1) is_between ∙ add-one before.points in
      record { of = rw (is_new, is_two, is_one, is_after, next, is_between) refl }
