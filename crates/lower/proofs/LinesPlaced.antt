-- Lines of moves that stand next are placed: those of addresses, conversions, declarations and initialisers.
use Rattle.std.proofs.Common.{◌≡◌, ◌<◌, ◌≤◌, ℕ, ◌+◌, ◌-◌, drop, length, get_or, arith, Bool, true, false, List, [], ◌∷◌, ◌++◌, map, Option, None, Some, option_map, if◌then◌else◌, append-nil, refl, sym, ap, subst, ◌∙◌}
use Rattle.cbase.specs.declared.place.Place.{Place}
use Rattle.cbase.specs.declared.tree.expr.Expr.{Expr}
use Rattle.cbase.specs.declared.tree.init.Init.{Init}
use Rattle.cbase.specs.declared.tree.stmt.Stmt.{Stmt}
use Rattle.c_machine.specs.declared.kind.Kind.{Kind}
use Rattle.c_machine.specs.declared.kind.Kind.TheVariants.{Integer, Pointer, Array, Struct, Void}
use Rattle.c_machine.specs.Program.{Program}
use Rattle.c_machine.specs.Text.{Form, Initialiser, Store}
use Rattle.c_machine.specs.Trees.{text_of}
use Rattle.c_machine.specs.Words.{scalar_bytes}
use Rattle.lower.specs.declared.jobs.Job.TheVariants.{Follow}
use Rattle.lower.specs.Jobs.{JobOf, LeadsTo}
use Rattle.lowering.specs.declared.conversion.Conversion.{Conversion}
use Rattle.lowering.specs.declared.conversion.Conversion.TheVariants.{Nothing, Resized, Tested, Dropped, Unknown}
use Rattle.lowering.specs.declared.moves.Move.{Move as MoveOf}
use Rattle.lowering.specs.declared.moves.Move.TheVariants.{Emits}
use Rattle.lowering.specs.Moves.{LineOf, run_of, taking}
use Rattle.flow.specs.declared.instruction.Instr.TheVariants as i
use Rattle.lowering.specs.Placing.{Made, Around, along, along_line, go, set_by, set_moves, with_registers, writes}
use Rattle.lowering.specs.Table.{converted_line, object_moves, shifted_in, shifts}
use Rattle.lowering.specs.Told.{IsLine, trees}
use Rattle.expressions.proofs.Loops.{next_item}

abbrev pub Moves : Type 0
Moves = List (MoveOf Expr Stmt Init)

-- moves that stand next
module _ (p : Program) (around : Around) (levels from to : ℕ) (jobs new : List JobOf) where
  pub follow_leads : (made : Made) (moves empty line : Moves) → empty ≡ [] → line ≡ moves ++ empty → new ≡ Follow levels from line to ∷ jobs →
      LeadsTo p around jobs (along (text_of p) around (go levels (text_of p) around) made from moves to) new made
  follow_leads made moves empty line none is is_new = record { of = rw (is_new, is, none, append-nil moves) refl }

  pub taken_leads : (before : Made) (line : LineOf Expr Stmt Init) (taken : ℕ) (empty moves : Moves) → empty ≡ [] → IsLine line before.registers taken empty moves →
      new ≡ Follow levels from moves to ∷ jobs →
      LeadsTo p around jobs (along_line (text_of p) around (go levels (text_of p) around) before from line to) new (record before { registers = taken })
  taken_leads before line taken empty moves none is is_new = record { of = rw (is_new, is.1, none, append-nil line.moves, is.0) refl }

-- lines that ask nothing of a text
pub same_converted : (p : Program) (expr : Expr) (spare into r : ℕ) (change : Conversion) →
    converted_line (trees Void) expr spare into r change ≡ converted_line (text_of p) expr spare into r change
same_converted p expr spare into r Nothing = refl
same_converted p expr spare into r (Resized bytes signed) = refl
same_converted p expr spare into r Tested = refl
same_converted p expr spare into r Dropped = refl
same_converted p expr spare into r Unknown = refl

same_writes : (p : Program) (value : Expr) (kind : Kind) (spare at from : ℕ) (place : Place) (bytes : Option ℕ) →
    writes (trees Void) value kind spare at from place bytes ≡ writes (text_of p) value kind spare at from place bytes
same_writes p value kind spare at from place None = refl
same_writes p value kind spare at from place (Some bytes) = refl

same_set_by : (p : Program) (value : Expr) (spare at from : ℕ) (place : Place) (kind : Kind) →
    set_by (trees Void) value spare at from place kind ≡ set_by (text_of p) value spare at from place kind
same_set_by p value spare at from place (Integer of) = same_writes p value (Integer of) spare at from place (scalar_bytes (Integer of))
same_set_by p value spare at from place (Pointer bytes) = same_writes p value (Pointer bytes) spare at from place (scalar_bytes (Pointer bytes))
same_set_by p value spare at from place (Array bytes) = same_writes p value (Array bytes) spare at from place (scalar_bytes (Array bytes))
same_set_by p value spare at from place (Struct bytes) = refl
same_set_by p value spare at from place Void = same_writes p value Void spare at from place (scalar_bytes Void)

pub same_set : (p : Program) (variable : Option ℕ) (place : Place) (value : Expr) (end : Place) (stored : Store) (spare count : ℕ) →
    set_moves (trees Void) variable place value end stored spare count ≡ set_moves (text_of p) variable place value end stored spare count
same_set p variable place value end stored spare count =
    ap (λ (moves : Moves). object_moves variable place (shifted_in stored.offset (spare + count) (spare + count + 1))
    ++ (shifts (spare + count) (spare + count + 1) stored.offset place ++ (moves ++ Emits (i.Finish (run_of spare count)) end ∷ [])))
    (same_set_by p value spare (spare + count + 1) (spare + count + 2) place stored.kind)

-- two maps are one
pub mapped : {A B C : Type 0} (f : B → C) (g : A → B) (items : List A) → map (λ (item : A). f (g item)) items ≡ map f (map g items)
mapped f g [] = refl
mapped f g (item ∷ items) = ap (λ rest. f (g item) ∷ rest) (mapped f g items)

-- one item more stands in front of those behind it
pub part_more : {A B : Type 0} (f : A → B) (items : List A) (left : ℕ) (item : A) (between after before : List B) → 0 < left → left ≤ length items →
    item ≡ get_or items (left - 1) item → after ≡ f item ∷ between → between ≡ map f (drop left items) ++ before → after ≡ map f (drop (left - 1) items) ++ before
part_more {A} {B} f items left item between after before some within is pushed so_far =
    let inside : left - 1 < length items = omega arith in
    let behind : left - 1 + 1 ≡ left = omega arith in
    pushed ∙ ap (λ (line : List B). f item ∷ line) so_far
    ∙ ap (λ (place : ℕ). f item ∷ (map f (drop place items) ++ before)) (sym behind)
    ∙ ap (λ (items : List A). map f items ++ before) (sym (next_item items (left - 1) item inside is))
