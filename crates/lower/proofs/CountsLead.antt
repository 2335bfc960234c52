-- Kinds of values, and how many values are let go of, are those of the definition.
use Rattle.std.proofs.Common.{◌≡◌, ℕ, suc, Bool, List, [], ◌∷◌, nat_eq, if◌then◌else◌}
use Rattle.cbase.specs.declared.place.Place.{Place}
use Rattle.cbase.specs.declared.tree.expr.Expr.{Expr}
use Rattle.cbase.specs.declared.tree.init.Init.{Init}
use Rattle.cbase.specs.declared.tree.operators.BinaryOp.{BinaryOp}
use Rattle.cbase.specs.declared.tree.stmt.Stmt.{Stmt}
use Rattle.c_machine.specs.declared.kind.Kind.{Kind}
use Rattle.c_machine.specs.Expressions.{value_kind}
use Rattle.c_machine.specs.Program.{Program}
use Rattle.c_machine.specs.Trees.{text_of}
use Rattle.flow.specs.declared.instruction.Instr.TheVariants.{IfDifferent, IfSame, Number}
use Rattle.lower.specs.Jobs.{JobOf, LeadsTo}
use Rattle.lower.specs.TwoTests.{first_test}
use Rattle.lower.proofs.PiecesPlaced.{leads_by}
use Rattle.lowering.specs.declared.moves.Move.{Move as MoveOf}
use Rattle.lowering.specs.declared.moves.Move.TheVariants.{Asks, Emits, Evaluates, Parts}
use Rattle.lowering.specs.declared.wanted.Wanted.TheVariants.{AsTest, AsWork}
use Rattle.lowering.specs.Kinds.{sides, width}
use Rattle.lowering.specs.LetGo.{left_as, left_of}
use Rattle.lowering.specs.Moves.{pads, taking}
use Rattle.lowering.specs.Placing.{Made, Around, along, along_line, both_tests, branch, equality, equality_moves, full_moves, go, place_answer, place_branch, place_choice, place_choose, place_full, stands_at, two_tests, with_registers, with_spares, zero_test}

module _ (p : Program) (around : Around) (levels from : ℕ) (jobs new : List JobOf) (before after : Made) where
  -- a condition with what follows on each side, and a full expression
  pub branch_by : (turning : Around) (test : Expr) (close : Place) (one other : List (MoveOf Expr Stmt Init)) (one_to other_to count : ℕ) → count ≡ left_of (text_of p) AsTest test →
      LeadsTo p around jobs (place_branch (text_of p) (go levels (text_of p)) around turning before from test count close one one_to other other_to) new after →
      LeadsTo p around jobs (branch (text_of p) (go levels (text_of p)) around turning before from test close one one_to other other_to) new after
  branch_by turning test close one other one_to other_to count is leads =
      leads_by p around jobs new after (λ (count : ℕ). place_branch (text_of p) (go levels (text_of p)) around turning before from test count close one one_to other other_to) count _ is leads

  pub full_by : (expr : Expr) (end : Place) (to count : ℕ) → count ≡ left_of (text_of p) AsWork expr →
      LeadsTo p around jobs (along (text_of p) around (go levels (text_of p) around) (with_registers count before) from (full_moves (text_of p) expr before.registers count end) to) new after →
      LeadsTo p around jobs (place_full (text_of p) (go levels (text_of p)) around before from expr end to) new after
  full_by expr end to count is leads =
      leads_by p around jobs new after
      (λ (count : ℕ). along (text_of p) around (go levels (text_of p) around) (with_registers count before) from (full_moves (text_of p) expr before.registers count end) to) count _ is leads

  -- conditions
  pub zero_by : (expr : Expr) (spare off on : ℕ) (kind : Kind) → kind ≡ value_kind (text_of p) expr →
      LeadsTo p around jobs (along_line (text_of p) around (go levels (text_of p) around) before from
      (taking 2 (Evaluates expr spare before.registers ∷ Emits (Number (suc before.registers) 0 (width kind)) expr.place
      ∷ Parts (IfSame before.registers (suc before.registers)) off (IfDifferent before.registers (suc before.registers)) on expr.place ∷ [])) off) new after →
      LeadsTo p around jobs (zero_test (text_of p) around (go levels (text_of p) around) before from expr spare off on) new after
  zero_by expr spare off on kind is leads =
      leads_by p around jobs new after (λ (kind : Kind). along_line (text_of p) around (go levels (text_of p) around) before from
      (taking 2 (Evaluates expr spare before.registers ∷ Emits (Number (suc before.registers) 0 (width kind)) expr.place
      ∷ Parts (IfSame before.registers (suc before.registers)) off (IfDifferent before.registers (suc before.registers)) on expr.place ∷ [])) off) kind _ is leads

  pub equality_by : (what : BinaryOp) (expr left right : Expr) (spare same differs : ℕ) (left_kind right_kind : Kind) → left_kind ≡ value_kind (text_of p) left →
      right_kind ≡ value_kind (text_of p) right →
      LeadsTo p around jobs (along_line (text_of p) around (go levels (text_of p) around) before from
      (taking 4 (equality_moves (text_of p) (sides what left_kind right_kind) expr left right spare before.registers same differs)) same) new after →
      LeadsTo p around jobs (equality (text_of p) around (go levels (text_of p) around) before from what expr left right spare same differs) new after
  equality_by what expr left right spare same differs left_kind right_kind is_left is_right leads =
      let f : Kind → Kind → Made = λ (left_kind right_kind : Kind). along_line (text_of p) around (go levels (text_of p) around) before from
      (taking 4 (equality_moves (text_of p) (sides what left_kind right_kind) expr left right spare before.registers same differs)) same in
      leads_by p around jobs new after (f (value_kind (text_of p) left)) right_kind _ is_right
      (leads_by p around jobs new after (λ (left_kind : Kind). f left_kind right_kind) left_kind _ is_left leads)

  pub both_by : (expr left right : Expr) (spare tested other off on : ℕ) (both : Bool) → tested ≡ left_of (text_of p) AsTest left → other ≡ left_of (text_of p) AsTest right →
      LeadsTo p around jobs (two_tests (text_of p) around (go levels (text_of p) around) before from (first_test both left spare) (Asks right spare off on)
      (with_spares spare tested (stands_at before from)) (pads spare tested other expr.place) (if both then off else on)) new after →
      LeadsTo p around jobs (both_tests (text_of p) around (go levels (text_of p) around) before from expr left right spare (first_test both left spare) (Asks right spare off on)
      (if both then off else on)) new after
  both_by expr left right spare tested other off on both is_tested is_other leads =
      let f : ℕ → ℕ → Made = λ (tested other : ℕ). two_tests (text_of p) around (go levels (text_of p) around) before from (first_test both left spare) (Asks right spare off on)
      (with_spares spare tested (stands_at before from)) (pads spare tested other expr.place) (if both then off else on) in
      leads_by p around jobs new after (f (left_of (text_of p) AsTest left)) other _ is_other
      (leads_by p around jobs new after (λ (tested : ℕ). f tested other) tested _ is_tested leads)

  pub answer_by : (expr : Expr) (spare into size to count : ℕ) → count ≡ left_of (text_of p) AsTest expr →
      LeadsTo p around jobs (place_answer (text_of p) (go levels (text_of p) around) before from expr spare into size (with_spares spare count (stands_at before from)) to) new after →
      LeadsTo p around jobs (place_answer (text_of p) (go levels (text_of p) around) before from expr spare into size
      (with_spares spare (left_of (text_of p) AsTest expr) (stands_at before from)) to) new after
  answer_by expr spare into size to count is leads =
      leads_by p around jobs new after
      (λ (count : ℕ). place_answer (text_of p) (go levels (text_of p) around) before from expr spare into size (with_spares spare count (stands_at before from)) to) count _ is leads

  -- `?:`
  pub choose_by : (expr test one other : Expr) (spare into to : ℕ) (kind : Kind) (in_spare : Bool) (tested left_one left_other : ℕ) → kind ≡ value_kind (text_of p) expr →
      in_spare ≡ nat_eq into spare → tested ≡ left_of (text_of p) AsTest test → left_one ≡ left_as (text_of p) (left_of (text_of p)) one in_spare kind →
      left_other ≡ left_as (text_of p) (left_of (text_of p)) other in_spare kind →
      LeadsTo p around jobs (place_choice (text_of p) around (go levels (text_of p) around) before from expr test one other kind spare into tested left_one left_other to) new after →
      LeadsTo p around jobs (place_choose (text_of p) around (go levels (text_of p) around) before from expr test one other spare into to) new after
  choose_by expr test one other spare into to kind in_spare tested left_one left_other is_kind is_spare is_tested is_one is_other leads =
      let f : Kind → ℕ → ℕ → ℕ → Made = λ (kind : Kind) (tested left_one left_other : ℕ).
      place_choice (text_of p) around (go levels (text_of p) around) before from expr test one other kind spare into tested left_one left_other to in
      let g : Kind → Bool → Made = λ (kind : Kind) (in_spare : Bool).
      f kind (left_of (text_of p) AsTest test) (left_as (text_of p) (left_of (text_of p)) one in_spare kind) (left_as (text_of p) (left_of (text_of p)) other in_spare kind) in
      leads_by p around jobs new after (λ (in_spare : Bool). g (value_kind (text_of p) expr) in_spare) in_spare _ is_spare
      (leads_by p around jobs new after (λ (kind : Kind). g kind in_spare) kind _ is_kind
      (leads_by p around jobs new after (λ (left : ℕ). f kind (left_of (text_of p) AsTest test) (left_as (text_of p) (left_of (text_of p)) one in_spare kind) left) left_other _ is_other
      (leads_by p around jobs new after (λ (left : ℕ). f kind (left_of (text_of p) AsTest test) left left_other) left_one _ is_one
      (leads_by p around jobs new after (λ (tested : ℕ). f kind tested left_one left_other) tested _ is_tested leads))))
