-- A graph behind a step fits where what stands there is what stood before, but for what the step empties, fills, lets begin or ends.
use Rattle.std.proofs.Common.{◌≡◌, ◌≢◌, ℕ, zero, suc, Bool, true, false, not, ◌&&◌, ◌||◌, List, [], ◌∷◌, map, length, nat_eq, Option, None, Some, ◌⊎◌, inl, inr, refl, sym, ◌∙◌, ap, eqb-true, eq-eqb}
use Rattle.std.specs.Prelude.{IsSome, is_some, option_map, slice_get, Contains, if◌then◌else◌}
use Rattle.std.specs.List.{list_all, list_any}
use Rattle.std.specs.Option.{option_map_or}
use Rattle.std.proofs.lemmas.Bool.{false≢true}
use Rattle.graph.specs.declared.parts.KeyedValue.{KeyedValue}
use Rattle.graph.specs.declared.parts.Named.{Named}
use Rattle.graph.specs.declared.parts.Parts.{Parts}
use Rattle.graph.specs.declared.value.Value.{Value}
use Rattle.graph.specs.declared.value.Value.TheVariants.{Const}
use Rattle.graph.specs.Maps.{value_at, storage_of, held_by}
use Rattle.graph.specs.Sizes.{value_size}
use Rattle.graph.specs.Whole.{IsGraph}
use Rattle.graph.proofs.Tests.{and_left, and_right}
use Rattle.changes.specs.Following.{WriteTail}
use Rattle.changes.specs.Parts.{emptied, put, is_among, with_value, with_register, without_registers}
use Rattle.changes.proofs.Appended.{found_before}
use Rattle.changes.proofs.Objects.{eqb-miss}
use Rattle.changes.proofs.Reached.{only_one, none_in}
use Rattle.changes.proofs.RegistersChanged.{held_with, held_without}
use Rattle.changes.proofs.ValueForm.{value_new, value_next}
use Rattle.flow.specs.declared.flow_graph.Flow.{Flow}
use Rattle.flow.specs.declared.flow_graph.Standing.{Standing}
use Rattle.flow.specs.declared.flow_graph.Variable.{Variable}
use Rattle.flow.specs.Holding.{put_width, emptied_widths, left_variables}
use Rattle.flow.specs.Machine.{size_in}
use Rattle.flow.specs.Standing.{with_variables}
use Rattle.flow.specs.Valid.{is_fixed, is_local}
use Rattle.heap_steps.specs.Leaving.{LeaveTail}
use Rattle.heap_steps.specs.Looking.{loses_some, looked_by, looked}
use Rattle.heap_steps.specs.Unreached.{may_lead_anywhere}
use Rattle.reinterpret.specs.Means.{ReadTail}
use Rattle.reinterpret.specs.Sameness.{EqualTail}
use Rattle.block_steps.specs.Allocating.{AllocateTail}
use Rattle.block_steps.specs.Entering.{EnterTail}
use Rattle.block_steps.specs.Releasing.{IsNullNow, ReleaseTail}
use Rattle.register_steps.specs.Gaining.{GainTail}
use Rattle.transfer.specs.Fitting.{FitsWith}
use Rattle.transfer.proofs.HeldSizes.{size_at, mapped_fit, emptied_fit, filled_fit}
use Rattle.transfer.proofs.Widths.{among_any, any_with, any_left}

-- a place in a list of numbers
among_at : (numbers : List ℕ) (number : ℕ) → is_among numbers number ≡ true → (place : ℕ) × (slice_get numbers place ≡ Some number)
among_at [] number among = absurd (false≢true among)
among_at (first ∷ rest) number among = by_first (nat_eq first number) refl among (λ later. among_at rest number later)
  where
    by_first : (b : Bool) → nat_eq first number ≡ b → (b || is_among rest number) ≡ true → (is_among rest number ≡ true → (place : ℕ) × (slice_get rest place ≡ Some number)) → (place : ℕ) × (slice_get (first ∷ rest) place ≡ Some number)
    by_first true is among later = (0, ap Some (eqb-true _ _ is))
    by_first false is among later = let found = later among in (suc found.0, found.1)

mapped_at : (f : ℕ → ℕ) (numbers : List ℕ) (place number : ℕ) → slice_get numbers place ≡ Some number → slice_get (map f numbers) place ≡ Some (f number)
mapped_at f [] place number stands = absurd cc
mapped_at f (first ∷ rest) zero number stands = ap (option_map f) stands
mapped_at f (first ∷ rest) (suc place) number stands = mapped_at f rest place number stands

or_true : (b : Bool) → (b || true) ≡ true
or_true true = refl
or_true false = refl

or_false : (b : Bool) → (b || false) ≡ b
or_false true = refl
or_false false = refl

-- all that stand are no static ones
not_fixed : (flow : Flow) (variables : List ℕ) (variable : ℕ) → list_all (is_local flow) variables ≡ true → list_any (nat_eq variable) variables ≡ true → is_fixed flow variable ≡ false
not_fixed flow [] variable locals stands = absurd (false≢true stands)
not_fixed flow (first ∷ rest) variable locals stands =
    by_first (nat_eq variable first) refl stands (λ later. not_fixed flow rest variable (and_right (is_local flow first) (list_all (is_local flow) rest) locals) later)
  where
    by_found : (found : Option Variable) → option_map_or (λ (v : Variable). not v.fixed) found false ≡ true → option_map_or (λ (v : Variable). v.fixed) found false ≡ false
    by_found None local = absurd (false≢true local)
    by_found (Some found) local = by_fixed found.fixed local
      where
        by_fixed : (b : Bool) → not b ≡ true → b ≡ false
        by_fixed true local = absurd (false≢true local)
        by_fixed false local = refl

    by_first : (b : Bool) → nat_eq variable first ≡ b → (b || list_any (nat_eq variable) rest) ≡ true → (list_any (nat_eq variable) rest ≡ true → is_fixed flow variable ≡ false) → is_fixed flow variable ≡ false
    by_first true is stands later = ap (is_fixed flow) (eqb-true _ _ is) ∙ by_found (slice_get flow.variables first) (and_left (is_local flow first) (list_all (is_local flow) rest) locals)
    by_first false is stands later = later stands

pub looked_is : (middle after : Parts) → Contains (looked middle).graphs after → middle ≡ after
looked_is middle after among = by_tests (loses_some middle) (may_lead_anywhere middle) among
  where
    by_tests : (a b : Bool) → Contains (looked_by middle a b).graphs after → middle ≡ after
    by_tests false b among = only_one middle after among
    by_tests true false among = none_in after among
    by_tests true true among = only_one middle after among

module _ (flow : Flow) (standing : Standing) (parts after : Parts) (graph : IsGraph parts) (fits : FitsWith flow standing parts) where
  named : after.variables ≡ parts.variables → (variable : ℕ) → is_some (storage_of after.variables variable) ≡ (is_fixed flow variable || list_any (nat_eq variable) standing.variables)
  named same variable = ap (λ (vs : List Named). is_some (storage_of vs variable)) same ∙ fits.variables variable

  emptied_fits : (gone : List ℕ) → after.variables ≡ parts.variables → after.ports ≡ parts.ports → ((key : ℕ) → IsSome (value_at parts.values key) → value_at after.values key ≡ value_at parts.values key) →
      ((register : ℕ) → held_by after.registers register ≡ emptied gone (held_by parts.registers) register) → FitsWith flow (record { variables = standing.variables; registers = emptied_widths gone standing.registers }) after
  emptied_fits gone variables ports values registers = record {
    variables = named variables;
    registers = emptied_fit parts after graph gone standing.registers fits.registers values registers;
    ports = ports ∙ fits.ports;
  }

  filled_fits : (gone : List ℕ) (into size key : ℕ) (value : Value) → after.variables ≡ parts.variables → after.ports ≡ parts.ports →
      ((key : ℕ) → IsSome (value_at parts.values key) → value_at after.values key ≡ value_at parts.values key) →
      ((register : ℕ) → register ≢ into → held_by after.registers register ≡ emptied gone (held_by parts.registers) register) →
      held_by after.registers into ≡ Some key → value_at after.values key ≡ Some value → value_size value ≡ size →
      FitsWith flow (record { variables = standing.variables; registers = put_width (record { register = into; size = size }) (emptied_widths gone standing.registers) }) after
  filled_fits gone into size key value variables ports values registers held is size_is = record {
    variables = named variables;
    registers = filled_fit parts after graph gone standing.registers fits.registers into size key value values registers held is size_is;
    ports = ports ∙ fits.ports;
  }

  pub write_fits : (gone : List ℕ) → WriteTail parts gone after → FitsWith flow (record { variables = standing.variables; registers = emptied_widths gone standing.registers }) after
  write_fits gone tail = emptied_fits gone tail.keeps.variables tail.keeps.ports tail.keeps.values tail.registers

  pub gain_fits : (gone : List ℕ) (into size : ℕ) → GainTail parts gone into size after →
      FitsWith flow (record { variables = standing.variables; registers = put_width (record { register = into; size = size }) (emptied_widths gone standing.registers) }) after
  gain_fits gone into size tail = filled_fits gone into size tail.key tail.value tail.keeps.variables tail.keeps.ports tail.keeps.values tail.registers tail.held tail.is tail.size_is

  pub read_fits : (gone : List ℕ) (into size : ℕ) → ReadTail parts gone into size after →
      FitsWith flow (record { variables = standing.variables; registers = put_width (record { register = into; size = size }) (emptied_widths gone standing.registers) }) after
  read_fits gone into size tail = filled_fits gone into size tail.key tail.value tail.keeps.variables tail.keeps.ports tail.keeps.values tail.registers tail.held tail.is tail.size_is

  -- the next key is none of those that are there
  before_next : (key : ℕ) → IsSome (value_at parts.values key) → key ≢ length parts.values
  before_next key some same = false≢true (sym (ap (λ (o : Option Value). is_some o) (ap (value_at parts.values) same ∙ value_next (Const 0 8) parts graph)) ∙ some)

  put_other : (into register key : ℕ) → register ≢ into → put into key (held_by parts.registers) register ≡ emptied [] (held_by parts.registers) register
  put_other into register key differ = ap (λ (b : Bool). if b then Some key else held_by parts.registers register) (eqb-miss register into differ)

  put_here : (into key : ℕ) → put into key (held_by parts.registers) into ≡ Some key
  put_here into key = ap (λ (b : Bool). if b then Some key else held_by parts.registers into) (eq-eqb into into refl)

  pub allocate_fits : (into size : ℕ) (zeroed : Bool) → AllocateTail parts size zeroed into after →
      FitsWith flow (record { variables = standing.variables; registers = put_width (record { register = into; size = 8 }) (emptied_widths [] standing.registers) }) after
  allocate_fits into size zeroed tail =
      filled_fits [] into 8 (length parts.values) _ tail.variables tail.ports (λ key some. tail.values key (before_next key some)) (λ register differ. tail.registers register ∙ put_other into register (length parts.values) differ)
      (tail.registers into ∙ put_here into (length parts.values)) tail.value refl

  pub refuse_fits : (into : ℕ) → with_register into (length parts.values) (with_value (Const 0 8) parts) ≡ after →
      FitsWith flow (record { variables = standing.variables; registers = put_width (record { register = into; size = 8 }) (emptied_widths [] standing.registers) }) after
  refuse_fits into same =
      filled_fits [] into 8 (length parts.values) (Const 0 8) (ap (λ (p : Parts). p.variables) (sym same)) (ap (λ (p : Parts). p.ports) (sym same))
      (λ key some. ap (λ (p : Parts). value_at p.values key) (sym same)
      ∙ found_before (λ (entry : KeyedValue). entry.key) (λ entry. entry.value) parts.values (record { key = length parts.values; value = Const 0 8 }) key some)
      (λ register differ. ap (λ (p : Parts). held_by p.registers register) (sym same) ∙ held_with into (length parts.values) (with_value (Const 0 8) parts) register ∙ put_other into register (length parts.values) differ)
      (ap (λ (p : Parts). held_by p.registers into) (sym same) ∙ held_with into (length parts.values) (with_value (Const 0 8) parts) into ∙ put_here into (length parts.values))
      (ap (λ (p : Parts). value_at p.values (length parts.values)) (sym same) ∙ value_new (Const 0 8) parts graph) refl

  -- registers that hold other values of the same sizes
  mapped_fits : (gone : List ℕ) (key_of : ℕ → ℕ) → after.variables ≡ parts.variables → after.ports ≡ map key_of parts.ports → ((key : ℕ) → IsSome (value_at parts.values key) → size_at after (key_of key) ≡ size_at parts key) →
      ((register : ℕ) → held_by after.registers register ≡ option_map key_of (emptied gone (held_by parts.registers) register)) →
      FitsWith flow (record { variables = standing.variables; registers = emptied_widths gone standing.registers }) after
  mapped_fits gone key_of variables ports sizes registers = record {
    variables = named variables;
    registers = mapped_fit parts after graph gone standing.registers fits.registers key_of sizes registers;
    ports = ports ∙ ap (map key_of) fits.ports;
  }

  pub equal_fits : (gone : List ℕ) → EqualTail parts gone after → FitsWith flow (record { variables = standing.variables; registers = emptied_widths gone standing.registers }) after
  equal_fits gone tail =
      mapped_fits gone tail.key_of tail.variables tail.ports (λ key some. ap (λ (vs : List KeyedValue). option_map value_size (value_at vs (tail.key_of key))) tail.values ∙ tail.sizes key) tail.registers

  pub release_fits : (gone : List ℕ) → ReleaseTail parts gone after → FitsWith flow (record { variables = standing.variables; registers = emptied_widths gone standing.registers }) after
  release_fits gone tail = mapped_fits gone tail.key_of tail.variables tail.ports (λ key some. by_key key some (tail.keys key)) tail.registers
    where
      by_key : (key : ℕ) → IsSome (value_at parts.values key) → (tail.key_of key ≡ key) ⊎ IsNullNow parts after key (tail.key_of key) → size_at after (tail.key_of key) ≡ size_at parts key
      by_key key some (inl same) = ap (size_at after) same ∙ ap (option_map value_size) (tail.values key some)
      by_key key some (inr null) = ap (option_map value_size) null.now ∙ sym (ap (option_map value_size) null.was)

  -- registers as before
  held_as_before : after.registers ≡ parts.registers → after.values ≡ parts.values → (register : ℕ) → held_by after.registers register ≡ emptied [] (held_by parts.registers) register
  held_as_before registers values register = ap (λ (rs : List _). held_by rs register) registers

  kept_values : after.values ≡ parts.values → (key : ℕ) → IsSome (value_at parts.values key) → value_at after.values key ≡ value_at parts.values key
  kept_values same key some = ap (λ (vs : List KeyedValue). value_at vs key) same

  pub enter_fits : (which : List ℕ) → EnterTail parts which (map (size_in flow) which) after →
      FitsWith flow (record { variables = with_variables which standing.variables; registers = emptied_widths [] standing.registers }) after
  enter_fits which tail = record {
    variables = λ variable. by_test variable (is_among which variable) refl ∙ ap (λ (b : Bool). is_fixed flow variable || b) (sym (any_with which standing.variables variable));
    registers = emptied_fit parts after graph [] standing.registers fits.registers (kept_values tail.values) (held_as_before tail.registers tail.values);
    ports = tail.ports ∙ fits.ports;
  }
    where
      by_test : (variable : ℕ) (b : Bool) → is_among which variable ≡ b → is_some (storage_of after.variables variable) ≡ (is_fixed flow variable || (list_any (nat_eq variable) which || list_any (nat_eq variable) standing.variables))
      by_test variable true among =
          let found = among_at which variable among in
          let stored = tail.entered found.0 variable (size_in flow variable) found.1 (mapped_at (size_in flow) which found.0 variable found.1) in
          ap (λ (o : Option ℕ). is_some o) stored.stored
          ∙ sym (ap (λ (b : Bool). is_fixed flow variable || (b || list_any (nat_eq variable) standing.variables)) (sym (among_any which variable) ∙ among) ∙ or_true (is_fixed flow variable))
      by_test variable false among =
          ap (λ (o : Option ℕ). is_some o) (tail.others variable among) ∙ fits.variables variable
          ∙ sym (ap (λ (b : Bool). is_fixed flow variable || (b || list_any (nat_eq variable) standing.variables)) (sym (among_any which variable) ∙ among))

  pub leave_fits : (which : List ℕ) → list_all (is_local flow) standing.variables ≡ true → list_all (λ variable. list_any (nat_eq variable) standing.variables) which ≡ true → LeaveTail parts which after →
      FitsWith flow (record { variables = left_variables which standing.variables; registers = emptied_widths [] standing.registers }) after
  leave_fits which locals stand tail = record {
    variables = λ variable. ap (λ (o : Option ℕ). is_some o) (tail.variables variable) ∙ by_test variable (is_among which variable) refl
        ∙ ap (λ (b : Bool). is_fixed flow variable || b) (sym (any_left which standing.variables variable));
    registers = emptied_fit parts after graph [] standing.registers fits.registers (kept_values tail.values) (held_as_before tail.registers tail.values);
    ports = tail.ports ∙ fits.ports;
  }
    where
      stood : (numbers : List ℕ) (variable : ℕ) → list_all (λ variable. list_any (nat_eq variable) standing.variables) numbers ≡ true → is_among numbers variable ≡ true → list_any (nat_eq variable) standing.variables ≡ true
      stood [] variable all among = absurd (false≢true among)
      stood (first ∷ rest) variable all among =
          by_first (nat_eq first variable) refl among (λ later. stood rest variable (and_right (list_any (nat_eq first) standing.variables) (list_all (λ variable. list_any (nat_eq variable) standing.variables) rest) all) later)
        where
          by_first : (b : Bool) → nat_eq first variable ≡ b → (b || is_among rest variable) ≡ true → (is_among rest variable ≡ true → list_any (nat_eq variable) standing.variables ≡ true) → list_any (nat_eq variable) standing.variables ≡ true
          by_first true is among later =
              ap (λ (n : ℕ). list_any (nat_eq n) standing.variables) (sym (eqb-true _ _ is)) ∙ and_left (list_any (nat_eq first) standing.variables) (list_all (λ variable. list_any (nat_eq variable) standing.variables) rest) all
          by_first false is among later = later among

      by_test : (variable : ℕ) (b : Bool) → is_among which variable ≡ b →
          is_some (emptied which (storage_of parts.variables) variable) ≡ (is_fixed flow variable || (not (is_among which variable) && list_any (nat_eq variable) standing.variables))
      by_test variable true among =
          ap (λ (b : Bool). is_some (if b then None else storage_of parts.variables variable)) among
          ∙ sym (ap (λ (b : Bool). is_fixed flow variable || (not b && list_any (nat_eq variable) standing.variables)) among ∙ or_false (is_fixed flow variable)
          ∙ not_fixed flow standing.variables variable locals (stood which variable stand among))
      by_test variable false among =
          ap (λ (b : Bool). is_some (if b then None else storage_of parts.variables variable)) among ∙ fits.variables variable
          ∙ sym (ap (λ (b : Bool). is_fixed flow variable || (not b && list_any (nat_eq variable) standing.variables)) among)

  pub finish_fits : (gone : List ℕ) → without_registers gone parts ≡ after → FitsWith flow (record { variables = standing.variables; registers = emptied_widths gone standing.registers }) after
  finish_fits gone same =
      emptied_fits gone (ap (λ (p : Parts). p.variables) (sym same)) (ap (λ (p : Parts). p.ports) (sym same)) (λ key some. ap (λ (p : Parts). value_at p.values key) (sym same))
      (λ register. ap (λ (p : Parts). held_by p.registers register) (sym same) ∙ held_without gone parts register)

  pub close_fits : after ≡ parts → FitsWith flow (record { variables = standing.variables; registers = emptied_widths [] standing.registers }) after
  close_fits same =
      emptied_fits [] (ap (λ (p : Parts). p.variables) same) (ap (λ (p : Parts). p.ports) same) (λ key some. ap (λ (p : Parts). value_at p.values key) same) (λ register. ap (λ (p : Parts). held_by p.registers register) same)
