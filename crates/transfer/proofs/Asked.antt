-- What each instruction that asks for something has.
use Rattle.std.proofs.Common.{◌≡◌, ℕ, Bool, true, List, [], ◌∷◌, map, sym, subst}
use Rattle.std.specs.List.{list_all}
use Rattle.std.specs.Option.{option_map_or}
use Rattle.graph.specs.declared.parts.Parts.{Parts}
use Rattle.graph.specs.Whole.{IsGraph}
use Rattle.graph.proofs.Tests.{and_left, and_right}
use Rattle.changes.specs.Following.{holds_size}
use Rattle.changes.specs.Reaching.{is_address_held, names_no_segment}
use Rattle.flow.specs.declared.flow_graph.Flow.{Flow}
use Rattle.flow.specs.declared.instruction.Instr.{Instr}
use Rattle.flow.specs.declared.instruction.Instr.TheVariants.{Read, Write, IfSame, IfDifferent, Release, Fill, Copy, Enter, Leave}
use Rattle.flow.specs.Machine.{size_in}
use Rattle.flow.specs.Standing.{Asked, any, sized, stands_as_asked, asked_by, stands_at}
use Rattle.flow.specs.Valid.{has_scope, tests_one_size}
use Rattle.reinterpret.specs.Sameness.{may_compare}
use Rattle.block_steps.specs.Entering.{MayEnter}
use Rattle.heap_steps.specs.Leaving.{MayLeave}
use Rattle.settle.specs.Settled.{value_held, name_no_segment}
use Rattle.transfer.specs.Fitting.{MayFollow}
use Rattle.transfer.specs.Through.{goes_through}
use Rattle.transfer.proofs.Ready.{address_ready, size_ready, compare_ready, enter_ready, leave_ready}

module _ (flow : Flow) (point : ℕ) (instr : Instr) (parts : Parts) (may : MayFollow flow point instr parts) (graph : IsGraph parts) where
  abbrev stands : Asked → Bool
  stands = stands_as_asked (stands_at flow point).registers

  asked_as : (kind : Instr) → instr ≡ kind → list_all stands (asked_by flow kind) ≡ true
  asked_as kind is = subst (λ (i : Instr). list_all (stands_as_asked (stands_at flow point).registers) (asked_by flow i) ≡ true) is may.reads

  first_asked : (one : Asked) (rest : List Asked) → list_all stands (one ∷ rest) ≡ true → stands one ≡ true
  first_asked one rest all = and_left (stands one) (list_all stands rest) all

  second_asked : (one other : Asked) (rest : List Asked) → list_all stands (one ∷ other ∷ rest) ≡ true → stands other ≡ true
  second_asked one other rest all = first_asked other rest (and_right (stands one) (list_all stands (other ∷ rest)) all)

  named_as : (kind : Instr) → instr ≡ kind → name_no_segment (goes_through kind) parts ≡ true
  named_as kind is = subst (λ (i : Instr). name_no_segment (goes_through i) parts ≡ true) is may.through

  first_named : (one : ℕ) (rest : List ℕ) → name_no_segment (one ∷ rest) parts ≡ true → option_map_or names_no_segment (value_held parts one) true ≡ true
  first_named one rest all = and_left (option_map_or names_no_segment (value_held parts one) true) (name_no_segment rest parts) all

  second_named : (one other : ℕ) (rest : List ℕ) → name_no_segment (one ∷ other ∷ rest) parts ≡ true → option_map_or names_no_segment (value_held parts other) true ≡ true
  second_named one other rest all = first_named other rest (and_right (option_map_or names_no_segment (value_held parts one) true) (name_no_segment (other ∷ rest) parts) all)

  pub read_ready : (into from size : ℕ) (pointer : Bool) → instr ≡ Read into from size pointer → is_address_held parts from ≡ true
  read_ready into from size pointer is = address_ready flow point parts may.fits graph from (first_named from [] (named_as (Read into from size pointer) is)) (first_asked (sized 8 from) [] (asked_as (Read into from size pointer) is))

  pub write_ready : (address from size : ℕ) → instr ≡ Write address from size → is_address_held parts address ≡ true
  write_ready address from size is = address_ready flow point parts may.fits graph address (first_named address [] (named_as (Write address from size) is)) (first_asked (sized 8 address) (sized size from ∷ []) (asked_as (Write address from size) is))

  pub written_ready : (address from size : ℕ) → instr ≡ Write address from size → holds_size parts from size ≡ true
  written_ready address from size is = size_ready flow point parts may.fits graph from size (second_asked (sized 8 address) (sized size from) [] (asked_as (Write address from size) is))

  pub same_ready : (one other : ℕ) → instr ≡ IfSame one other → may_compare parts one other ≡ true
  same_ready one other is = compare_ready flow point parts may.fits graph one other (first_named one (other ∷ []) (named_as (IfSame one other) is)) (second_named one other [] (named_as (IfSame one other) is))
      (subst (λ (i : Instr). tests_one_size (stands_at flow point) i ≡ true) is may.tests)

  pub different_ready : (one other : ℕ) → instr ≡ IfDifferent one other → may_compare parts one other ≡ true
  different_ready one other is = compare_ready flow point parts may.fits graph one other (first_named one (other ∷ []) (named_as (IfDifferent one other) is)) (second_named one other [] (named_as (IfDifferent one other) is))
      (subst (λ (i : Instr). tests_one_size (stands_at flow point) i ≡ true) is may.tests)

  pub release_ready : (address : ℕ) → instr ≡ Release address → is_address_held parts address ≡ true
  release_ready address is = address_ready flow point parts may.fits graph address (first_named address [] (named_as (Release address) is)) (first_asked (sized 8 address) [] (asked_as (Release address) is))

  pub fill_ready : (address from length : ℕ) → instr ≡ Fill address from length → is_address_held parts address ≡ true
  fill_ready address from length is = address_ready flow point parts may.fits graph address (first_named address [] (named_as (Fill address from length) is)) (first_asked (sized 8 address) (any from ∷ []) (asked_as (Fill address from length) is))

  pub target_ready : (target from length : ℕ) (disjoint : Bool) → instr ≡ Copy target from length disjoint → is_address_held parts target ≡ true
  target_ready target from length disjoint is = address_ready flow point parts may.fits graph target (first_named target (from ∷ []) (named_as (Copy target from length disjoint) is))
      (first_asked (sized 8 target) (sized 8 from ∷ []) (asked_as (Copy target from length disjoint) is))

  pub source_ready : (target from length : ℕ) (disjoint : Bool) → instr ≡ Copy target from length disjoint → is_address_held parts from ≡ true
  source_ready target from length disjoint is = address_ready flow point parts may.fits graph from (second_named target from [] (named_as (Copy target from length disjoint) is))
      (second_asked (sized 8 target) (sized 8 from) [] (asked_as (Copy target from length disjoint) is))

  pub entered_ready : (variables given : List ℕ) → given ≡ variables → instr ≡ Enter variables → MayEnter parts given (map (size_in flow) given)
  entered_ready variables given same is =
      subst (λ (vs : List ℕ). MayEnter parts vs (map (size_in flow) vs)) (sym same)
      (enter_ready flow point parts may.fits graph may.variables variables (subst (λ (i : Instr). has_scope flow (stands_at flow point) i ≡ true) is may.scope))

  pub left_ready : (variables given : List ℕ) → given ≡ variables → instr ≡ Leave variables → MayLeave parts given
  left_ready variables given same is =
      subst (MayLeave parts) (sym same) (leave_ready flow point parts may.fits graph variables (subst (λ (i : Instr). has_scope flow (stands_at flow point) i ≡ true) is may.scope))
