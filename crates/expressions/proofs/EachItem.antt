-- What lies in each item of a list has no more levels than is said of all.
use Rattle.std.proofs.Common.{◌≡◌, ◌≤◌, ◌<◌, ℕ, List, length, get_or, map, sym, subst, arith}
use Rattle.std.specs.Prelude.{All, max}
use Rattle.cbase.specs.declared.tree.decl.TypeName.{TypeName}
use Rattle.cbase.specs.declared.tree.expr.ExprForm.TheViews.{out-TypeName}
use Rattle.ctrees.specs.Levels.{depth, maybe_levels, spec_levels, type_name_levels}
use Rattle.ctrees.specs.Weight.{joined}
use Rattle.ctrees.proofs.Sizes.{type_name_levels_parts}

pub each_item : {A : Type 0} (levels : A → ℕ) (bound : ℕ) (items : List A) (index : ℕ) (item : A) → All (λ one. levels one ≤ bound) items → index < length items
    → item ≡ get_or items index item → levels item ≤ bound
each_item {A} levels bound items index item all within is = subst (λ (one : A). levels one ≤ bound) (sym is) (all index item within)

-- and the words of a type name no more than it
pub spec_within : (to : TypeName) (bound : ℕ) → type_name_levels to ≤ bound → spec_levels (out-TypeName to).spec ≤ bound
spec_within to bound deep =
    let parts : type_name_levels to ≡ max (spec_levels (out-TypeName to).spec) (joined depth (map maybe_levels (out-TypeName to).sizes)) = type_name_levels_parts to in
    omega (arith, parts, deep)
