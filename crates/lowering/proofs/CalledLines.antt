-- What a call calls, and its line, for each program that the context stands for.
use Rattle.std.proofs.Common.{◌≡◌, ℕ, Bool, false, List, map, Option, None, Some, refl, sym, ap, subst, ◌∙◌}
use Rattle.std.specs.Prelude.{is_some, slice_get}
use Rattle.cbase.specs.declared.tree.expr.Expr.{Expr}
use Rattle.cbase.specs.declared.tree.expr.ExprForm.TheViews.{out-ExprForm}
use Rattle.cbase.specs.declared.tree.stmt.Stmt.{Stmt}
use Rattle.expressions.specs.Context.{Context}
use Rattle.typing.specs.Forms.{name_in}
use Rattle.c_machine.specs.declared.built_in.BuiltIn.{BuiltIn}
use Rattle.c_machine.specs.declared.kind.Kind.{Kind}
use Rattle.c_machine.specs.Program.{Program, FunctionItem, number_in}
use Rattle.c_machine.specs.Text.{Standing, ObjectStands, ConstantStands, BuiltInStands, BodyStands, NothingStands, Function}
use Rattle.c_machine.specs.Trees.{body_stands, text_of}
use Rattle.c_text.specs.declared.standing.Standing.{Standing as Told}
use Rattle.c_text.specs.Standing.{body_by, standing_by}
use Rattle.lowering.specs.declared.called.Called.{Called}
use Rattle.lowering.specs.declared.called.Called.TheVariants.{BuiltIn as OfBuiltIn, Body, Nothing}
use Rattle.lowering.specs.Calls.{Calls, IsBodyCalled, IsCalled, IsLineOfCalled, called_line, is_callable, fills_called, Fills}
use Rattle.lowering.specs.LetGo.{fills, fills_by}
use Rattle.lowering.specs.Reading.{IsCalledLine}
use Rattle.lowering.specs.Source.{Source, IsSource}
use Rattle.lowering.specs.Table.{are_sized, body_line, call_line}
use Rattle.lowering.proofs.Onward.{Moves, line_as}
use Rattle.lowering.proofs.Sources.{Tells, stands_as}

-- what is told of a name is what it stands for
pub called_as : (source : Source) (own : Context) (callee : Expr) (told : Told) (name : Option (List ℕ)) (called : Called) → own ≡ source.context →
    name_in (out-ExprForm callee.form) ≡ name → Tells own callee told → ((p : Program) (is : IsSource source p) → Calls p called (standing_by is.reads.0 p name told)) →
    IsCalled source callee called
called_as source own callee told name called same names tells is = record {
  of = λ p source.
      subst (Calls p called)
      (ap (λ (name : Option (List ℕ)). standing_by source.reads.0 p name told) (sym names) ∙ stands_as _ own callee told p source.reads same tells)
      (is p source);
}

-- a function that has a body
pub found_body : (source : Source) (name : List ℕ) (called : Called) → IsBodyCalled source name called → (p : Program) (is : IsSource source p) →
    Calls p called (body_by p (Some name))
found_body source name called body p is =
    subst (λ (functions : List FunctionItem). Calls p called (body_stands (number_in functions name))) is.functions (body.of p is)

-- the line of a call
no_call : (p : Program) (callee : Expr) (args : List Expr) (spare : ℕ) (kept : Option ℕ) (into r : ℕ) (standing : Standing) → is_callable (text_of p) standing ≡ false →
    called_line (text_of p) Nothing args spare kept into r callee.place ≡ call_line (text_of p) callee args spare kept into r standing
no_call p callee args spare kept into r (ObjectStands token) none = refl
no_call p callee args spare kept into r (ConstantStands bits) none = refl
no_call p callee args spare kept into r (BuiltInStands name params made) none = absurd cc
no_call p callee args spare kept into r (BodyStands number) none = by_function (slice_get (text_of p).functions number) none
  where
    by_function : (found : Option (Function Stmt)) → is_some found ≡ false →
        called_line (text_of p) Nothing args spare kept into r callee.place ≡ body_line (text_of p) args number spare into r callee.place found
    by_function None none = refl
    by_function (Some function) none = absurd cc
no_call p callee args spare kept into r NothingStands none = refl

call_as : (p : Program) (callee : Expr) (args : List Expr) (spare : ℕ) (kept : Option ℕ) (into r : ℕ) (called : Called) (standing : Standing) → Calls p called standing →
    called_line (text_of p) called args spare kept into r callee.place ≡ call_line (text_of p) callee args spare kept into r standing
call_as p callee args spare kept into r (OfBuiltIn what params made) standing is =
    ap (λ (what : BuiltIn). called_line (text_of p) (OfBuiltIn what params made) args spare kept into r callee.place) (sym is.2)
    ∙ ap (call_line (text_of p) callee args spare kept into r) (sym is.1)
call_as p callee args spare kept into r (Body number params sized made) standing is =
    ap (λ (params : List Kind). called_line (text_of p) (Body number params sized made) args spare kept into r callee.place) is.3
    ∙ ap (λ (sized : Bool). called_line (text_of p) (Body number (map (λ param. param.kind) is.0.params) sized made) args spare kept into r callee.place) is.4
    ∙ ap (λ (made : Kind). called_line (text_of p) (Body number (map (λ param. param.kind) is.0.params) (are_sized is.0.params) made) args spare kept into r callee.place) is.5
    ∙ ap (body_line (text_of p) args number spare into r callee.place) (sym is.2)
    ∙ ap (call_line (text_of p) callee args spare kept into r) (sym is.1)
call_as p callee args spare kept into r Nothing standing is = no_call p callee args spare kept into r standing is

pub call_is : (source : Source) (callee : Expr) (args : List Expr) (spare : ℕ) (kept : Option ℕ) (into taken taken' : ℕ) (before after : Moves) (called : Called) →
    IsCalled source callee called → IsLineOfCalled source called args spare kept into callee.place taken taken' before after →
    IsCalledLine source callee args spare kept into taken taken' before after
call_is source callee args spare kept into taken taken' before after called calls is = record {
  of = λ p source.
      line_as _ _ taken taken' before after
      (call_as p callee args spare kept into taken called ((text_of p).stands callee) (calls.of p source)) (is.of p source);
}

-- whether a call leaves a value where it is not used
fills_as : (p : Program) (called : Called) (standing : Standing) → Calls p called standing → fills_called called ≡ fills_by standing
fills_as p (OfBuiltIn what params made) standing is = ap fills (sym is.2) ∙ ap fills_by (sym is.1)
fills_as p (Body number params sized made) standing is = ap fills_by (sym is.1)
fills_as p Nothing (ObjectStands token) none = refl
fills_as p Nothing (ConstantStands bits) none = refl
fills_as p Nothing (BuiltInStands name params made) none = absurd cc
fills_as p Nothing (BodyStands number) none = refl
fills_as p Nothing NothingStands none = refl

pub fills_is : (source : Source) (callee : Expr) (called : Called) → IsCalled source callee called → Fills source callee (fills_called called)
fills_is source callee called calls = record { of = λ p source. fills_as p called ((text_of p).stands callee) (calls.of p source) }
