-- What lies in an item has no more levels than the item.
use Rattle.std.proofs.Common.{◌≡◌, ◌≤◌, ℕ, arith, ap, map, List}
use Rattle.std.specs.Prelude.{All, max}
use Rattle.cbase.specs.declared.place.Place.{Place}
use Rattle.cbase.specs.declared.tree.decl.Decl.{Decl}
use Rattle.cbase.specs.declared.tree.decl.Declared.{Declared}
use Rattle.cbase.specs.declared.tree.decl.Storage.{Storage}
use Rattle.cbase.specs.declared.tree.item.Item.{Item}
use Rattle.cbase.specs.declared.tree.item.Item.TheVariants.{Declare, Function}
use Rattle.cbase.specs.declared.tree.spec.TypeSpec.{TypeSpec}
use Rattle.cbase.specs.declared.tree.stmt.Stmt.{Stmt}
use Rattle.ctrees.specs.Levels.{depth, decl_levels, declared_levels, item_levels, spec_levels, stmt_levels}
use Rattle.ctrees.specs.Weight.{joined}
use Rattle.expressions.proofs.Levels.{each_within}

pub declare_within : (item : Item) (decl : Decl) (bound : ℕ) → item ≡ Declare decl → item_levels item ≤ bound → decl_levels decl ≤ bound
declare_within item decl bound is deep =
    let levels : item_levels item ≡ decl_levels decl = ap item_levels is in
    omega (arith, levels, deep)

module _ (item : Item) (spec : TypeSpec) (storage : Storage) (head : Declared) (body : List Stmt) (close : Place) (bound : ℕ) (is : item ≡ Function spec storage head body close) (deep : item_levels item ≤ bound) where
  levels : item_levels item ≡ max (spec_levels spec) (max (declared_levels head) (joined depth (map stmt_levels body)))
  levels = ap item_levels is

  pub words_within : spec_levels spec ≤ bound
  words_within = omega (arith, levels, deep)

  pub head_within : declared_levels head ≤ bound
  head_within = omega (arith, levels, deep)

  pub body_within : All (λ stmt. stmt_levels stmt ≤ bound) body
  body_within = each_within stmt_levels bound body (omega (arith, levels, deep))
