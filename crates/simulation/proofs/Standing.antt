-- Where a run of the graph is at a point, the registers of its operands and the variables of its blocks stand there.
use Rattle.std.proofs.Common.{◌≡◌, ◌≢◌, ℕ, List, [], ◌∷◌, ◌++◌, map, Bool, true, false, ◌&&◌, ◌||◌, refl, sym, subst, nat_eq, Some, if◌then◌else◌}
use Rattle.std.specs.List.{list_any}
use Rattle.std.proofs.lemmas.Bool.{false≢true, and_from, eq-eqb, eqb-true}
use Rattle.std.proofs.lemmas.Option.{none-some}
use Rattle.bytes_core.specs.declared.block.Block.{Block}
use Rattle.bytes_core.specs.declared.word.Word.{Word}
use Rattle.c_machine.specs.State.{TaskIn, Scope, Frame, Went}
use Rattle.c_machine.specs.Text.{Text}
use Rattle.flow.specs.declared.flow_graph.Flow.{Flow}
use Rattle.flow.specs.declared.flow_graph.Width.{Width}
use Rattle.flow.specs.Holding.{Held, Owned, width, held_by, block_of}
use Rattle.flow.specs.Keeping.{variables_of}
use Rattle.flow.specs.Valid.{IsFlow}
use Rattle.simulation.specs.Names.{Name, names_of}
use Rattle.simulation.specs.Running.{Setting, Running}
use Rattle.simulation.specs.Slots.{Slot, InRegister, KnownAs, Truth, Gone, are_in, Stands}
use Rattle.simulation.specs.Standing.{registers_in, are_named, HasStanding}
use Rattle.simulation.specs.Worlds.{AreNames, AreScopes, source, state}
use Rattle.simulation.proofs.Meeting.{Good, knowing}

or_first : (one other : Bool) → one ≡ true → (one || other) ≡ true
or_first true other is = refl
or_first false other is = absurd (false≢true is)

or_second : (one other : Bool) → other ≡ true → (one || other) ≡ true
or_second true other is = refl
or_second false other is = is

-- a register that holds something is one of those that stand
held_stands : (registers : List Held) (register : ℕ) (held : Held) → held_by registers register ≡ Some held → list_any (nat_eq register) (registers_in (map width registers)) ≡ true
held_stands [] register held is = absurd (none-some held is)
held_stands (first ∷ rest) register held is = by_test (nat_eq first.register register) refl is (held_stands rest register held)
  where
    by_test : (here : Bool) → nat_eq first.register register ≡ here → (if here then Some first else held_by rest register) ≡ Some held →
        (held_by rest register ≡ Some held → list_any (nat_eq register) (registers_in (map width rest)) ≡ true) →
        (nat_eq register first.register || list_any (nat_eq register) (registers_in (map width rest))) ≡ true
    by_test true same is' more =
        or_first (nat_eq register first.register) (list_any (nat_eq register) (registers_in (map width rest))) (eq-eqb register first.register (sym (eqb-true first.register register same)))
    by_test false same is' more = or_second (nat_eq register first.register) (list_any (nat_eq register) (registers_in (map width rest))) (more is')

slots_stand : (memory : List Block) (registers : List Held) (slots : List Slot) (words : List Word) → Stands memory registers slots words → are_in (registers_in (map width registers)) slots ≡ true
slots_stand memory registers [] words stands = refl
slots_stand memory registers (slot ∷ slots) [] stands = absurd stands
slots_stand memory registers (InRegister register size plain ∷ slots) (word ∷ words) stands =
    and_from (list_any (nat_eq register) (registers_in (map width registers))) (are_in (registers_in (map width registers)) slots)
    (held_stands registers register (record { register = register; size = size; word = word }) stands.0) (slots_stand memory registers slots words stands.2)
slots_stand memory registers (KnownAs number ∷ slots) (word ∷ words) stands = slots_stand memory registers slots words stands.1
slots_stand memory registers (Truth holds ∷ slots) (word ∷ words) stands = slots_stand memory registers slots words stands.1
slots_stand memory registers (Gone ∷ slots) (word ∷ words) stands = slots_stand memory registers slots words stands

-- and so is a variable that has a block
block_stands : (owned : List Owned) (variable block : ℕ) → block_of owned variable ≡ Some block → list_any (nat_eq variable) (variables_of owned) ≡ true
block_stands [] variable block is = absurd (none-some block is)
block_stands (first ∷ rest) variable block is = by_test (nat_eq first.variable variable) refl is (block_stands rest variable block)
  where
    by_test : (here : Bool) → nat_eq first.variable variable ≡ here → (if here then Some first.block else block_of rest variable) ≡ Some block →
        (block_of rest variable ≡ Some block → list_any (nat_eq variable) (variables_of rest) ≡ true) →
        (nat_eq variable first.variable || list_any (nat_eq variable) (variables_of rest)) ≡ true
    by_test true same is' more =
        or_first (nat_eq variable first.variable) (list_any (nat_eq variable) (variables_of rest)) (eq-eqb variable first.variable (sym (eqb-true first.variable variable same)))
    by_test false same is' more = or_second (nat_eq variable first.variable) (list_any (nat_eq variable) (variables_of rest)) (more is')

named_more : (variables : List ℕ) (one other : List Name) → are_named variables one ≡ true → are_named variables other ≡ true → are_named variables (one ++ other) ≡ true
named_more variables [] other are are' = are'
named_more variables (name ∷ one) other are are' = by_test (list_any (nat_eq name.variable) variables) are (λ more. named_more variables one other more are')
  where
    by_test : (here : Bool) → (here && are_named variables one) ≡ true → (are_named variables one ≡ true → are_named variables (one ++ other) ≡ true) → (here && are_named variables (one ++ other)) ≡ true
    by_test true is more = more is
    by_test false is more = is

names_stand : (owned : List Owned) (names : List Name) (scope : Scope) → AreNames owned names scope → are_named (variables_of owned) names ≡ true
names_stand owned [] scope are = refl
names_stand owned (name ∷ names) [] are = absurd are
names_stand owned (name ∷ names) (object ∷ scope) are =
    and_from (list_any (nat_eq name.variable) (variables_of owned)) (are_named (variables_of owned) names) (block_stands owned name.variable object.block are.1) (names_stand owned names scope are.2)

scopes_stand : (owned : List Owned) (scopes : List (List Name)) (frame : Frame) → AreScopes owned scopes frame → are_named (variables_of owned) (names_of scopes) ≡ true
scopes_stand owned [] frame are = refl
scopes_stand owned (names ∷ scopes) [] are = absurd are
scopes_stand owned (names ∷ scopes) (scope ∷ frame) are =
    named_more (variables_of owned) names (names_of scopes) (names_stand owned names scope are.0) (scopes_stand owned scopes frame are.1)

module _ (t : Text) (flow : Flow) (setting : Setting) (valid : IsFlow flow) where
  abbrev Rest : ℕ → Running → List (List Name) → List (TaskIn t) → List Slot → ℕ → Type 0
  Rest n running scopes tasks slots point = Good t flow setting valid n running scopes tasks slots point

  pub where_stands : (n : ℕ) (running : Running) (scopes : List (List Name)) (tasks : List (TaskIn t)) (slots : List Slot) (point : ℕ) →
      (HasStanding flow scopes slots point → Rest n running scopes tasks slots point) → Rest n running scopes tasks slots point
  where_stands n running scopes tasks slots point each operands registers w v memory choices holds alike goes =
      knowing t flow setting valid n (Went (source t tasks operands w memory) choices) (state point registers v memory) choices
      (λ is. each
      (record {
        registers = subst (λ (widths : List Width). are_in (registers_in widths) slots ≡ true) is.stands.frame.registers (slots_stand memory registers slots operands holds.stands);
        variables = subst (λ (variables : List ℕ). are_named variables (names_of scopes) ≡ true) is.stands.frame.variables (scopes_stand v.variables scopes w.frame alike.frame);
      }) operands registers w v memory choices holds alike goes)
