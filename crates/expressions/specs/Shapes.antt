-- The forms of one operand and of two, by what is kept of them beside their operands.
use Rattle.std.specs.Prelude.{ℕ, Bool, true, false, List}
use Rattle.cbase.specs.declared.abi.Abi.{Abi}
use Rattle.cbase.specs.declared.place.Place.{Place}
use Rattle.cbase.specs.declared.tree.expr.Expr.{Expr}
use Rattle.cbase.specs.declared.tree.expr.ExprForm.TheOpen.{Unary, Binary, Assign, Count, SizeOf, Index, ExprForm::Member}
use Rattle.cbase.specs.declared.tree.operators.UnaryOp.{UnaryOp}
use Rattle.cbase.specs.declared.tree.operators.UnaryOp.TheVariants.{Address, Follow, Plus, Minus, Flip, Not}
use Rattle.typing.specs.Forms.{Form}
use Rattle.typing.specs.Pieces.{pieces_in}
use Rattle.typing.specs.Told.{Told}
use Rattle.typing.specs.Typing.{PiecesAre}
use Rattle.expressions.specs.declared.found.Found.{Found}
use Rattle.expressions.specs.declared.known.Known.{Known}
use Rattle.expressions.specs.declared.nodes.shapes.Single.{Single}
use Rattle.expressions.specs.declared.nodes.shapes.Single.TheVariants as single
use Rattle.expressions.specs.declared.nodes.shapes.Pair.{Pair}
use Rattle.expressions.specs.declared.nodes.shapes.Pair.TheVariants as pair
use Rattle.expressions.specs.Context.{Context}
use Rattle.expressions.specs.Found.{Reading, an_expression}
use Rattle.expressions.specs.Walked.{Passed, Walked, Says, SaysForm}

abbrev pub single_form : Single → Expr → Form
single_form (single.Unary op) arg = Unary op arg
single_form (single.Count up after) arg = Count up after arg
single_form single.Size arg = SizeOf arg
single_form (single.Member name through) arg = ExprForm::Member arg name.now through

-- whether the value of the operand is taken
abbrev pub takes_value : UnaryOp → Bool
takes_value Address = false
takes_value Follow = true
takes_value Plus = true
takes_value Minus = true
takes_value Flip = true
takes_value Not = true

abbrev pub is_loaded : Single → Bool
is_loaded (single.Unary op) = takes_value op
is_loaded (single.Count up after) = true
is_loaded single.Size = false
is_loaded (single.Member name through) = through

abbrev pub pair_form : Pair → Expr → Expr → Form
pair_form (pair.Binary op) left right = Binary op left right
pair_form (pair.Assign op) left right = Assign op left right
pair_form pair.Index left right = Index left right

-- what is found at a form behind its parts, whichever walk told them and wherever it began
abbrev pub FoundBehind : {B : Type 0} → Abi → ℕ → Place → Form → Reading B (List Told) → B → Context → Context → Found Known → Type 0
FoundBehind abi number place form reading parts mid new found =
    (old : Context) → Passed (Says abi (λ o. PiecesAre (pieces_in form) o)) reading old mid parts → Walked (SaysForm abi number place form) an_expression old new found
