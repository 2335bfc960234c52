-- Lines of calls, for each program that the context stands for.
use Rattle.std.proofs.Common.{◌≡◌, ℕ, ◌+◌, Bool, true, List, [], ◌∷◌, ◌++◌, length, Option, append_assoc, sym, ap, ◌∙◌}
use Rattle.cbase.specs.declared.place.Place.{Place}
use Rattle.cbase.specs.declared.tree.expr.Expr.{Expr}
use Rattle.c_machine.specs.declared.kind.Kind.{Kind}
use Rattle.c_machine.specs.declared.kind.Kind.TheVariants.{Void}
use Rattle.c_machine.specs.Trees.{text_of}
use Rattle.flow.specs.declared.instruction.Instr.TheVariants.{Call}
use Rattle.lowering.specs.declared.called.Called.TheVariants.{Body}
use Rattle.lowering.specs.Calls.{IsLineOfCalled, called_line}
use Rattle.lowering.specs.Moves.{Emits, run_of, taking}
use Rattle.lowering.specs.Source.{Source}
use Rattle.lowering.specs.Table.{argument_moves, registers_from, result_into}
use Rattle.lowering.specs.Told.{IsLine, trees}
use Rattle.lowering.proofs.Onward.{Moves, line_as}
use Rattle.lowering.proofs.SameLines.{same_arguments}
use Rattle.lowering.proofs.Turns.{run_as}

-- the line of a call of a function that the program defines
pub body_is : (args : List Expr) (params : List Kind) (spare first r taken' count : ℕ) (registers : List ℕ) (number : ℕ) (made : Kind) (into : ℕ) (result : Option ℕ) (place : Place)
    (before between after : Moves) → first ≡ r → taken' ≡ r + length args → registers ≡ run_of first count → count ≡ length args → result ≡ result_into made into →
    between ≡ Emits (Call number registers result) place ∷ before → after ≡ argument_moves (trees Void) args params spare first ++ between →
    IsLine (taking (length args) (argument_moves (trees Void) args params spare r ++ Emits (Call number (registers_from r args) (result_into made into)) place ∷ [])) r taken' before after
body_is args params spare first r taken' count registers number made into result place before between after first_is taken_is are many result_is emits is = (
  taken_is,
  is ∙ ap (λ (moves : Moves). argument_moves (trees Void) args params spare first ++ moves) emits
      ∙ (λ i. argument_moves (trees Void) args params spare first ++ Emits (Call number ((are ∙ ap (run_of first) many ∙ run_as args first) i) (result_is i)) place ∷ before)
      ∙ (λ i. argument_moves (trees Void) args params spare (first_is i) ++ Emits (Call number (registers_from (first_is i) args) (result_into made into)) place ∷ before)
      ∙ sym (append_assoc (argument_moves (trees Void) args params spare r) (Emits (Call number (registers_from r args) (result_into made into)) place ∷ []) before),
)

-- what is called
pub calls_body : (source : Source) (number : ℕ) (params : List Kind) (sized : Bool) (made : Kind) (args : List Expr) (spare : ℕ) (kept : Option ℕ) (into : ℕ) (place : Place)
    (taken taken' : ℕ) (before after : Moves) (slice : List Kind) → slice ≡ params → sized ≡ true →
    IsLine (taking (length args) (argument_moves (trees Void) args slice spare taken ++ Emits (Call number (registers_from taken args) (result_into made into)) place ∷ []))
    taken taken' before after →
    IsLineOfCalled source (Body number params sized made) args spare kept into place taken taken' before after
calls_body source number params sized made args spare kept into place taken taken' before after slice same fits is = record {
  of = λ p source.
      line_as _ _ taken taken' before after
      (ap (λ (params : List Kind). taking (length args) (argument_moves (trees Void) args params spare taken
      ++ Emits (Call number (registers_from taken args) (result_into made into)) place ∷ [])) same
      ∙ ap (λ (moves : Moves). taking (length args) (moves ++ Emits (Call number (registers_from taken args) (result_into made into)) place ∷ [])) (same_arguments p args params spare taken)
      ∙ ap (λ (sized : Bool). called_line (text_of p) (Body number params sized made) args spare kept into taken place) (sym fits)) is;
}
