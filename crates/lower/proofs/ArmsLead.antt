-- The arms of `?:` are placed as the definition says.
use Rattle.std.proofs.Common.{◌≡◌, ℕ, max, List, [], ◌++◌, append-nil, refl, ap, ◌∙◌}
use Rattle.cbase.specs.declared.tree.expr.Expr.{Expr}
use Rattle.cbase.specs.declared.tree.init.Init.{Init}
use Rattle.cbase.specs.declared.tree.stmt.Stmt.{Stmt}
use Rattle.c_machine.specs.declared.kind.Kind.{Kind}
use Rattle.c_machine.specs.declared.kind.Kind.TheVariants.{Void}
use Rattle.c_machine.specs.Program.{Program}
use Rattle.c_machine.specs.Trees.{text_of}
use Rattle.flow.specs.declared.flow_graph.Standing.{Standing}
use Rattle.lower.specs.Jobs.{JobOf, LeadsTo}
use Rattle.lower.proofs.PiecesPlaced.{leads_as}
use Rattle.lowering.specs.declared.moves.Move.{Move as MoveOf}
use Rattle.lowering.specs.Placing.{Made, Around, arm_moves, go, place_arms, place_choice, stands_at, with_spares}
use Rattle.lowering.specs.Told.{trees}

pub nothing_behind : (moves none all : List (MoveOf Expr Stmt Init)) → none ≡ [] → all ≡ moves ++ none → all ≡ moves
nothing_behind moves none all empty is = is ∙ ap (λ (none : List (MoveOf Expr Stmt Init)). moves ++ none) empty ∙ append-nil moves

pub choice_leads : (p : Program) (around : Around) (levels from : ℕ) (expr test one other : Expr) (kind : Kind) (spare into tested left_one left_other to : ℕ) (jobs new : List JobOf)
    (before after : Made) (standing : Standing) (have_one have_other want : ℕ) (none none' first second : List (MoveOf Expr Stmt Init)) →
    standing ≡ with_spares spare tested (stands_at before from) → have_one ≡ max tested left_one → have_other ≡ max tested left_other → want ≡ max tested (max left_one left_other) →
    none ≡ [] → none' ≡ [] → first ≡ arm_moves (trees Void) kind spare into have_one want expr.place one ++ none →
    second ≡ arm_moves (trees Void) kind spare into have_other want expr.place other ++ none' →
    LeadsTo p around jobs (place_arms (text_of p) around (go levels (text_of p) around) before from test spare standing first second to) new after →
    LeadsTo p around jobs
    (place_choice (text_of p) around (go levels (text_of p) around) before from expr test one other kind spare into tested left_one left_other to) new after
choice_leads p around levels from expr test one other kind spare into tested left_one left_other to jobs new before after standing have_one have_other want none none' first second
    is_standing is_one is_other is_want empty empty' is_first is_second leads =
    let first_is : first ≡ arm_moves (text_of p) kind spare into have_one want expr.place one = nothing_behind _ none first empty is_first in
    let second_is : second ≡ arm_moves (text_of p) kind spare into have_other want expr.place other = nothing_behind _ none' second empty' is_second in
    let same : place_arms (text_of p) around (go levels (text_of p) around) before from test spare standing first second to
    ≡ place_choice (text_of p) around (go levels (text_of p) around) before from expr test one other kind spare into tested left_one left_other to =
    rw (first_is, second_is, is_standing, is_one, is_other, is_want) refl in
    leads_as p around jobs new _ _ after same leads
