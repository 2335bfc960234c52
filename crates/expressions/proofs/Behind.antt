-- What is found at a form is what is found of it behind its parts.
use Rattle.std.proofs.Common.{◌≡◌, ℕ, Bool, true, List, [], ◌∷◌, refl, ap, subst, ◌∙◌, Result, Ok, Err, IfOk}
use Rattle.cbase.specs.declared.abi.Abi.{Abi}
use Rattle.cbase.specs.declared.ctype.CType.{CType}
use Rattle.cbase.specs.declared.no_memory.NoMemory.{NoMemory}
use Rattle.cbase.specs.declared.place.Place.{Place}
use Rattle.cbase.specs.declared.tree.expr.Expr.{Expr}
use Rattle.typing.specs.declared.ctypes.found.Broken.{Broken}
use Rattle.typing.specs.ctypes.Broken.{Judgement}
use Rattle.typing.specs.declared.fault.Fault.{Fault}
use Rattle.typing.specs.Forms.{Form}
use Rattle.typing.specs.Known.{Known, behind, found_at}
use Rattle.typing.specs.Outcomes.{Outcome, Handed, IsSettled}
use Rattle.typing.specs.Nodes.{is_arithmetic}
use Rattle.typing.specs.Pieces.{Piece, Loaded, pieces_in, base_of, operand_of}
use Rattle.typing.specs.Rules.{AtNode}
use Rattle.typing.specs.Told.{Told}
use Rattle.typing.specs.Typing.{PieceIs, PiecesAre}
use Rattle.expressions.specs.declared.found.Found.{Found}
use Rattle.expressions.specs.declared.known.Known.{Known as KnownByNumber}
use Rattle.expressions.specs.declared.nodes.shapes.Pair.{Pair}
use Rattle.expressions.specs.declared.nodes.shapes.Pair.TheVariants as pair
use Rattle.expressions.specs.declared.nodes.shapes.Single.{Single}
use Rattle.expressions.specs.declared.nodes.shapes.Single.TheVariants as single
use Rattle.cbase.specs.declared.tree.operators.UnaryOp.{UnaryOp}
use Rattle.cbase.specs.declared.tree.operators.UnaryOp.TheVariants.{Address, Follow, Plus, Minus, Flip, Not}
use Rattle.expressions.specs.Context.{Context, declared, Agrees}
use Rattle.expressions.specs.Found.{Reading, an_expression, an_operand, one_operand, two_operands}
use Rattle.expressions.specs.Language.{language}
use Rattle.expressions.specs.Numbers.{Numbering}
use Rattle.expressions.specs.Settled.{Judged, Settled}
use Rattle.expressions.specs.Shapes.{FoundBehind, single_form, pair_form, is_loaded, takes_value}
use Rattle.expressions.specs.Walked.{Passed, Walked, Says, SaysForm}
use Rattle.expressions.proofs.Several.{one_result}
use Rattle.expressions.proofs.Walking.{judged_form, settled_form}

module _ (abi : Abi) (number : ℕ) (place : Place) (form : Form) {B : Type 0} (reading : Reading B (List Told)) (mid new : Context) (parts : B) where
  pub judged_behind : (at : Broken → Place) (judge : Numbering → Judgement) (knows : Numbering → CType → Known) (r : Result (Found KnownByNumber) NoMemory)
      → IfOk r (λ found. Judged judge at knows number mid new found)
      → ((n : Numbering) (handed : List Handed) → AtNode (language abi n) (declared mid) number place handed form (reading.means n parts) (found_at at (judge n) (knows n) handed number))
      → IfOk r (λ found. FoundBehind abi number place form reading parts mid new found)
  judged_behind at judge knows (Ok found) judged rule = λ old passed. judged_form abi number place form reading old mid new parts at judge knows found passed rule judged
  judged_behind at judge knows (Err error) judged rule = tt

  pub settled_behind : (faults : Numbering → List Fault) (knows : Numbering → Known) (r : Result (Found KnownByNumber) NoMemory)
      → IfOk r (λ found. Settled faults knows number mid new found)
      → ((n : Numbering) (handed : List Handed) (outcome : Outcome Known) → Agrees n new → IsSettled (faults n) (knows n) (behind handed number (knows n)) outcome
      → AtNode (language abi n) (declared mid) number place handed form (reading.means n parts) outcome)
      → IfOk r (λ found. FoundBehind abi number place form reading parts mid new found)
  settled_behind faults knows (Ok found) settled rule = λ old passed. settled_form abi number place form reading old mid new parts faults knows found passed rule settled
  settled_behind faults knows (Err error) settled rule = tt

-- behind a walk over the parts
pub found_behind : (abi : Abi) (number : ℕ) (place : Place) (form : Form) {B : Type 0} (reading : Reading B (List Told)) (old mid new : Context) (parts : B) (r : Result (Found KnownByNumber) NoMemory)
    → IfOk r (λ found. FoundBehind abi number place form reading parts mid new found) → Passed (Says abi (λ o. PiecesAre (pieces_in form) o)) reading old mid parts
    → IfOk r (λ found. Walked (SaysForm abi number place form) an_expression old new found)
found_behind abi number place form reading old mid new parts (Ok found) behind_it passed = behind_it old passed
found_behind abi number place form reading old mid new parts (Err error) behind_it passed = tt

-- the operand of a form of one, as code asks for it
operand_as : (op : UnaryOp) (arg : Expr) → base_of (takes_value op) arg ≡ operand_of op arg
operand_as Address arg = refl
operand_as Follow arg = refl
operand_as Plus arg = refl
operand_as Minus arg = refl
operand_as Flip arg = refl
operand_as Not arg = refl

single_piece : (s : Single) (arg : Expr) → base_of (is_loaded s) arg ∷ [] ≡ pieces_in (single_form s arg)
single_piece (single.Unary op) arg = ap (λ (piece : Piece). piece ∷ []) (operand_as op arg)
single_piece (single.Count up after) arg = refl
single_piece single.Size arg = refl
single_piece (single.Member name through) arg = refl

pub single_walked : (abi : Abi) (s : Single) (arg : Expr) (loads : Bool) (old new : Context) (found : Found KnownByNumber) → loads ≡ is_loaded s
    → Walked (Says abi (λ o. PieceIs (base_of loads arg) o)) an_operand old new found
    → Walked (Says abi (λ o. PiecesAre (pieces_in (single_form s arg)) o)) one_operand old new found
single_walked abi s arg loads old new found is walked =
    subst (λ (pieces : List Piece). Walked (Says abi (λ o. PiecesAre pieces o)) one_operand old new found)
    (ap (λ (l : Bool). base_of l arg ∷ []) is ∙ single_piece s arg)
    (one_result abi (base_of loads arg) an_operand one_operand old new (Ok found) (λ n one. refl) (λ count one below. below) walked)

pair_pieces : (p : Pair) (left right : Expr) → Loaded left ∷ Loaded right ∷ [] ≡ pieces_in (pair_form p left right)
pair_pieces (pair.Binary op) left right = refl
pair_pieces (pair.Assign op) left right = refl
pair_pieces pair.Index left right = refl

pub pair_walked : (abi : Abi) (p : Pair) (left right : Expr) (old new : Context) (found : Found (KnownByNumber × KnownByNumber))
    → Walked (Says abi (λ o. PiecesAre (Loaded left ∷ Loaded right ∷ []) o)) two_operands old new found
    → Walked (Says abi (λ o. PiecesAre (pieces_in (pair_form p left right)) o)) two_operands old new found
pair_walked abi p left right old new found walked =
    subst (λ (pieces : List Piece). Walked (Says abi (λ o. PiecesAre pieces o)) two_operands old new found) (pair_pieces p left right) walked

-- an operator whose operand is a value
pub arithmetic : (op : UnaryOp) → (op ≡ Address → ⊥) → (op ≡ Follow → ⊥) → is_arithmetic op ≡ true
arithmetic Address no_address no_follow = absurd (no_address refl)
arithmetic Follow no_address no_follow = absurd (no_follow refl)
arithmetic Plus no_address no_follow = refl
arithmetic Minus no_address no_follow = refl
arithmetic Flip no_address no_follow = refl
arithmetic Not no_address no_follow = refl
