-- The first value in parts.
use Rattle.std.proofs.Common.{◌≡◌, ◌<◌, ◌≤◌, ◌∙◌, ℕ, Bool, true, false, nat_eq, List, Option, None, Some, map, length, get_or, arith, ap, sym}
use Rattle.std.specs.Prelude.{IfNone, IfSome}
use Rattle.std.proofs.lemmas.Bool.Decides.{nat_tests}
use Rattle.cbase.specs.declared.place.Place.{Place}
use Rattle.cbase.specs.declared.tree.expr.Expr.{Expr}
use Rattle.cbase.specs.declared.tree.expr.ExprForm.TheOpen as layer
use Rattle.cbase.specs.declared.tree.expr.ExprForm.TheViews.{out-Init, out-InitPart, outs-Value, outs-Braces}
use Rattle.cbase.specs.declared.tree.init.Init.{Init}
use Rattle.cbase.specs.declared.tree.init.Init.TheVariants.{Value, Braces}
use Rattle.cbase.specs.declared.tree.init.InitPart.{InitPart}
use Rattle.ctrees.specs.Levels.{depth, expr_levels, init_levels, init_part_levels}
use Rattle.ctrees.specs.Weight.{joined}
use Rattle.items.specs.initialisers.Surplus.{HasNone, Leads}
use Rattle.items.proofs.initialisers.InitLevels.{braces_levels, init_within, value_within}
use Rattle.items.proofs.initialisers.Unplaced.{begin_with_value, begin_with_braces, begin_with_nothing, no_parts}
use Rattle.items.proofs.initialisers.surplus.+first_value.Goals as goal

abbrev levels_in : List InitPart → ℕ
levels_in parts = joined depth (map init_part_levels parts)

-- what stands in the braces of a part has fewer levels than the parts
inner_smaller : (parts inner items : List InitPart) (part : InitPart) → 0 < length parts → part ≡ get_or parts 0 part → (out-InitPart part).init ≡ Braces inner → items ≡ inner
    → levels_in items < levels_in parts
inner_smaller parts inner items part some is form same =
    omega (arith, ap init_levels form, braces_levels inner, init_within parts 0 part (levels_in parts) some is (omega arith), ap levels_in same)

value_smaller : (parts : List InitPart) (part : InitPart) (value : Expr) (after : Place) → 0 < length parts → part ≡ get_or parts 0 part → (out-InitPart part).init ≡ Value value after
    → expr_levels value ≤ levels_in parts
value_smaller parts part value after some is form =
    let there : init_levels (out-InitPart part).init ≤ levels_in parts = init_within parts 0 part (levels_in parts) some is (omega arith) in
    value_within (out-InitPart part).init value after (levels_in parts) form (omega (arith, there))

module _ (parts inner : List InitPart) (part : InitPart) (some : 0 < length parts) (is : part ≡ get_or parts 0 part) (form : out-Init (out-InitPart part).init ≡ layer.Braces inner) where
  leads_inside : {A : Type 0} (r : Option A) (now : A → Expr) → IfSome r (λ expr. Leads inner (now expr)) → IfSome r (λ expr. Leads parts (now expr))
  leads_inside None now leads = tt
  leads_inside (Some expr) now leads = begin_with_braces parts inner part (now expr) some is form leads

  none_inside : {A : Type 0} (r : Option A) → IfNone r (HasNone inner) → IfNone r (HasNone parts)
  none_inside None none = begin_with_nothing parts inner part some is form none
  none_inside (Some expr) none = tt

within_inside : {A : Type 0} (r : Option A) (now : A → Expr) (inner bound : ℕ) → inner < bound → IfSome r (λ expr. expr_levels (now expr) ≤ inner) → IfSome r (λ expr. expr_levels (now expr) ≤ bound)
within_inside None now inner bound less within = tt
within_inside (Some expr) now inner bound less within = omega (arith, less, within)

-- the initialiser of the first part
at_front : (parts : List InitPart) (part : InitPart) (init : Init) → part ≡ get_or parts 0 part → (out-InitPart (get_or parts 0 part)).init ≡ init → (out-InitPart part).init ≡ init
at_front parts part init is form = ap (λ (p : InitPart). (out-InitPart p).init) is ∙ form

-- whether there are parts
none_there : (count : ℕ) (test : Bool) → test ≡ nat_eq count 0 → test ≡ true → count ≡ 0
none_there count test said is = grind (arith, nat_tests, said, is)

some_there : (count : ℕ) (test : Bool) → test ≡ nat_eq count 0 → test ≡ false → 0 < count
some_there count test said is = grind (arith, nat_tests, said, is)

pub returns-then-is_empty-clause-none : goal.returns-then-is_empty-clause-none
returns-then-is_empty-clause-none t c = no_parts c.args.parts.now (none_there (length c.args.parts.now) c.is_empty.result c.is_empty.ensures c.if-is_empty.true)

pub returns-in-Value-clause-leads : goal.returns-in-Value-clause-leads
returns-in-Value-clause-leads t c = begin_with_value c.args.parts.now c.index-parts-0.result c.in-Value.value c.in-Value.after (some_there (length c.args.parts.now) c.is_empty.result c.is_empty.ensures c.if-is_empty.false) c.index-parts-0.is
    (ap out-Init (at_front c.args.parts.now c.index-parts-0.result (Value c.in-Value.value c.in-Value.after) c.index-parts-0.is c.in-Value.is) ∙ outs-Value c.in-Value.value c.in-Value.after)

pub returns-in-Value-clause-within : goal.returns-in-Value-clause-within
returns-in-Value-clause-within t c = value_smaller c.args.parts.now c.index-parts-0.result c.in-Value.value c.in-Value.after (some_there (length c.args.parts.now) c.is_empty.result c.is_empty.ensures c.if-is_empty.false) c.index-parts-0.is (at_front c.args.parts.now c.index-parts-0.result (Value c.in-Value.value c.in-Value.after) c.index-parts-0.is c.in-Value.is)

pub returns-in-Braces-clause-leads : goal.returns-in-Braces-clause-leads
returns-in-Braces-clause-leads t c = leads_inside c.args.parts.now c.as_slice.result.now c.index-parts-0.result (some_there (length c.args.parts.now) c.is_empty.result c.is_empty.ensures c.if-is_empty.false) c.index-parts-0.is
    (ap out-Init (at_front c.args.parts.now c.index-parts-0.result (Braces c.in-Braces.inner) c.index-parts-0.is c.in-Braces.is) ∙ (outs-Braces c.in-Braces.inner ∙ ap layer.Braces (sym c.as_slice.ensures)))
    c.first_value.result (λ expr. expr.now) c.first_value.ensures.leads

pub returns-in-Braces-clause-none : goal.returns-in-Braces-clause-none
returns-in-Braces-clause-none t c = none_inside c.args.parts.now c.as_slice.result.now c.index-parts-0.result (some_there (length c.args.parts.now) c.is_empty.result c.is_empty.ensures c.if-is_empty.false) c.index-parts-0.is
    (ap out-Init (at_front c.args.parts.now c.index-parts-0.result (Braces c.in-Braces.inner) c.index-parts-0.is c.in-Braces.is) ∙ (outs-Braces c.in-Braces.inner ∙ ap layer.Braces (sym c.as_slice.ensures)))
    c.first_value.result c.first_value.ensures.none

pub returns-in-Braces-clause-within : goal.returns-in-Braces-clause-within
returns-in-Braces-clause-within t c = within_inside c.first_value.result (λ expr. expr.now) (levels_in c.as_slice.result.now) (levels_in c.args.parts.now)
    (inner_smaller c.args.parts.now c.in-Braces.inner c.as_slice.result.now c.index-parts-0.result (some_there (length c.args.parts.now) c.is_empty.result c.is_empty.ensures c.if-is_empty.false) c.index-parts-0.is (at_front c.args.parts.now c.index-parts-0.result (Braces c.in-Braces.inner) c.index-parts-0.is c.in-Braces.is) c.as_slice.ensures)
    c.first_value.ensures.within
