-- What forms make, and what is known of an expression without a memory, for each program that the context stands for.
use Rattle.std.proofs.Common.{◌≡◌, false, Option, None, Some, refl, sym, ap, ◌∙◌}
use Rattle.std.specs.Prelude.{is_some, slice_get}
use Rattle.cbase.specs.declared.tree.expr.Expr.{Expr}
use Rattle.c_machine.specs.declared.kind.Kind.{Kind}
use Rattle.c_machine.specs.declared.kind.Kind.TheVariants.{Void}
use Rattle.c_machine.specs.Program.{Program}
use Rattle.c_machine.specs.Text.{Standing, ObjectStands, ConstantStands, BuiltInStands, BodyStands, NothingStands}
use Rattle.c_machine.specs.Trees.{text_of}
use Rattle.lowering.specs.declared.called.Called.{Called}
use Rattle.lowering.specs.declared.called.Called.TheVariants.{BuiltIn as OfBuiltIn, Body, Nothing}
use Rattle.lowering.specs.Calls.{Calls, IsCalled}
use Rattle.lowering.specs.Made.{IsResult, kind_of_called}
use Rattle.lowering.specs.Source.{Source}
use Rattle.lowering.specs.Table.{result_of}

-- the kind of the result of a call
result_as : (p : Program) (called : Called) (standing : Standing) → Calls p called standing → kind_of_called called ≡ result_of (text_of p) standing
result_as p (OfBuiltIn what params made) standing is = ap (result_of (text_of p)) (sym is.1)
result_as p (Body number params sized made) standing is = rw is.1 (rw is.2 is.5)
result_as p Nothing (ObjectStands token) none = refl
result_as p Nothing (ConstantStands bits) none = refl
result_as p Nothing (BuiltInStands name params made) none = absurd cc
result_as p Nothing (BodyStands number) none = no_function (slice_get (text_of p).functions number) refl none
  where
    no_function : (found : Option _) → slice_get (text_of p).functions number ≡ found → is_some found ≡ false → Void ≡ result_of (text_of p) (BodyStands number)
    no_function None same none = rw same refl
    no_function (Some function) same none = absurd cc
result_as p Nothing NothingStands none = refl

pub result_is : (source : Source) (callee : Expr) (called : Called) (kind : Kind) → kind ≡ kind_of_called called → IsCalled source callee called → IsResult source callee kind
result_is source callee called kind same calls = record { of = λ p source. same ∙ result_as p called ((text_of p).stands callee) (calls.of p source) }
