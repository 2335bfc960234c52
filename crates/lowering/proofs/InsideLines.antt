-- The block of a statement expression and declarations, for each program that the context stands for.
use Rattle.std.proofs.Common.{◌≡◌, ℕ, suc, ◌+◌, Bool, true, false, List, [], ◌∷◌, ◌++◌, map, drop, take, Option, None, Some, append_assoc, refl, sym, ap, subst, ◌∙◌, if◌then◌else◌}
use Rattle.std.specs.Prelude.{option_map}
use Rattle.cbase.specs.declared.place.Place.{Place}
use Rattle.cbase.specs.declared.tree.decl.Declared.{Declared}
use Rattle.cbase.specs.declared.tree.expr.Expr.{Expr}
use Rattle.cbase.specs.declared.tree.init.Init.{Init}
use Rattle.cbase.specs.declared.tree.stmt.Stmt.{Stmt}
use Rattle.c_machine.specs.declared.kind.Kind.TheVariants.{Void}
use Rattle.c_machine.specs.declared.object.Object.{Object}
use Rattle.c_machine.specs.Program.{Program, automatic}
use Rattle.c_machine.specs.Text.{Initialiser, Value, Braces}
use Rattle.c_machine.specs.Trees.{name_of, object_of, text_of}
use Rattle.c_text.specs.Kept.{is_sized, kept_object}
use Rattle.c_text.specs.Stands.{StandsFor}
use Rattle.expressions.specs.Context.{Context}
use Rattle.expressions.specs.Numbers.{Numbering}
use Rattle.lowering.specs.Inner.{AreLastMoves, AreValuedMoves, IsDeclared, until_last}
use Rattle.lowering.specs.Moves.{Does, Initialises}
use Rattle.lowering.specs.Placing.{declared_by, last_moves, zeroed}
use Rattle.lowering.specs.Source.{Source}
use Rattle.lowering.specs.Told.{trees}
use Rattle.lowering.proofs.Inside.{same_until, valued_at, valued_none}
use Rattle.lowering.proofs.Onward.{Moves}

-- the statements of a block
pub valued_nothing : (source : Source) (spare count into : ℕ) (body : List Stmt) (moves : Moves) → until_last (trees Void) body ≡ 0 →
    AreValuedMoves source spare count into body moves moves
valued_nothing source spare count into body moves none = record {
  of = λ p source.
      ap (λ (front : Moves). front ++ moves) (sym (valued_none (text_of p) spare count into body (sym (same_until p body) ∙ none)));
}

pub valued_last : (source : Source) (spare count into : ℕ) (body : List Stmt) (at : ℕ) (stmt : Stmt) (rest : List Stmt) (before between after : Moves) →
    until_last (trees Void) body ≡ suc at → drop at body ≡ stmt ∷ rest → AreLastMoves source spare count into stmt before between →
    after ≡ map Does (take at body) ++ between → AreValuedMoves source spare count into body before after
valued_last source spare count into body at stmt rest before between after many is last does = record {
  of = λ p source.
      does ∙ ap (λ (moves : Moves). map Does (take at body) ++ moves) (last.of p source)
      ∙ sym (append_assoc (map Does (take at body)) (last_moves (text_of p) spare count into stmt ((text_of p).clause stmt)) before)
      ∙ ap (λ (front : Moves). front ++ before) (sym (valued_at (text_of p) spare count into body at stmt rest (sym (same_until p body) ∙ many) is));
}

-- whether a name declares an automatic object
object_none : (found : Option Object) → Some None ≡ kept_object found → found ≡ None
object_none None is = refl
object_none (Some object) is = by_sized (is_sized object) is
  where
    by_sized : (fits : Bool) → Some None ≡ option_map Some (if fits then Some object else None) → Some object ≡ None
    by_sized true is = absurd cc
    by_sized false is = absurd cc

object_some : (found : Option Object) (own : Object) → Some (Some own) ≡ kept_object found → found ≡ Some own
object_some None own is = absurd cc
object_some (Some object) own is = by_sized (is_sized object) is
  where
    by_sized : (fits : Bool) → Some (Some own) ≡ option_map Some (if fits then Some object else None) → Some object ≡ Some own
    by_sized true is = cc
    by_sized false is = absurd cc

abbrev pub Declares : Context → Declared → Option Object → Type 0
Declares own name object =
    (n : Numbering) (p : Program) → StandsFor n own p → Some object ≡ kept_object (option_map (object_of p) (automatic p (name_of name).place.at))

pub declared_nothing : (source : Source) (own : Context) (name : Declared) (moves : Moves) → own ≡ source.context → Declares own name None → IsDeclared source name moves moves
declared_nothing source own name moves same is = record {
  of = λ p source.
      ap (λ (found : Option Object). declared_by (text_of p) (name_of name).place found (name_of name).init ++ moves)
      (sym (object_none _ (is source.reads.0 p (subst (λ (context : Context). StandsFor source.reads.0 context p) (sym same) source.reads.1))));
}

same_zeroed : (p : Program) (place : Place) (object : Object) (initialiser : Initialiser Expr Init) → zeroed (trees Void) place object initialiser ≡ zeroed (text_of p) place object initialiser
same_zeroed p place object (Value value end) = refl
same_zeroed p place object (Braces parts) = refl

pub declared_object : (source : Source) (own : Context) (name : Declared) (object : Object) (init : Init) (before after : Moves) → own ≡ source.context →
    Declares own name (Some object) → (name_of name).init ≡ Some init → after ≡ declared_by (trees Void) (name_of name).place (Some object) (Some init) ++ before →
    IsDeclared source name before after
declared_object source own name object init before after same is has made = record {
  of = λ p source.
      made
      ∙ ap (λ (front : Moves). (front ++ Initialises (name_of name).place init ∷ []) ++ before) (same_zeroed p (name_of name).place object ((text_of p).initialiser init))
      ∙ ap (λ (init : Option Init). declared_by (text_of p) (name_of name).place (Some object) init ++ before) (sym has)
      ∙ ap (λ (found : Option Object). declared_by (text_of p) (name_of name).place found (name_of name).init ++ before)
      (sym (object_some _ object (is source.reads.0 p (subst (λ (context : Context). StandsFor source.reads.0 context p) (sym same) source.reads.1))));
}
