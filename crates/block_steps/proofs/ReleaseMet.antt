-- Each fault that a release lists is met by some state, if those through any word are.
use Rattle.std.proofs.Common.{◌≡◌, ◌≢◌, ℕ, Bool, true, false, ◌&&◌, List, [], ◌∷◌, ℤ, pos, nat_eq, None, Some, refl, ◌∙◌, ap, subst}
use Rattle.std.specs.Prelude.{Contains, option_map, if◌then◌else◌}
use Rattle.std.specs.Ordering.{int_eq}
use Rattle.bytes_core.specs.Fault.{double_free, invalid_free}
use Rattle.bytes_core.specs.Release.{is_heap, free_fault}
use Rattle.graph.specs.declared.parts.Parts.{Parts}
use Rattle.graph.specs.declared.value.Target.{Target}
use Rattle.graph.specs.declared.value.Target.TheVariants.{Region}
use Rattle.graph.specs.declared.value.Value.{Value}
use Rattle.graph.specs.declared.value.Value.TheVariants.{Const, Number, Any, Address}
use Rattle.graph.specs.Maps.{value_at}
use Rattle.graph.specs.Sizes.{value_size}
use Rattle.graph.specs.State.{State, IsState}
use Rattle.graph.specs.Whole.{IsGraph}
use Rattle.graph.specs.Meaning.{maps_of, Assignment, Meets}
use Rattle.graph.proofs.Witness.{some_state}
use Rattle.changes.specs.Dying.{died}
use Rattle.changes.specs.Following.{SomeFaults}
use Rattle.changes.specs.Parts.{with_object, without_registers}
use Rattle.changes.specs.Posted.{Posted}
use Rattle.changes.specs.Reaching.{is_address_held, names_no_segment}
use Rattle.changes.proofs.Held.{IsAddress}
use Rattle.changes.proofs.Meeting.{region_target}
use Rattle.changes.proofs.Reached.{only_one, none_in}
use Rattle.changes.proofs.Shown.{large_shown}
use Rattle.block_steps.specs.Releasing.{FaultsReleasing, only_graph, value_released, release_post, IsRegionFound}
use Rattle.block_steps.proofs.ReleaseFault.{object_fault, region_of, constant_fault, address_fault}
use Rattle.block_steps.proofs.ReleaseNumber.{large_freed}
use Rattle.block_steps.proofs.ReleaseSound.{release_held, address_released}
use Rattle.block_steps.proofs.ReleaseExact.{target, target_value}

module _ (parts : Parts) (graph : IsGraph parts) (at : ℕ) (address : is_address_held parts at ≡ true) where
  abbrev gone : List ℕ
  gone = at ∷ []

  abbrev pub key : ℕ
  key = (target parts graph at address).0

  -- a state that the graph stands for, in which the release meets a fault
  pub shown : (kind : ℕ) (state : State) (given : Assignment) → IsState state → Meets (maps_of parts) state given → free_fault state.memory (given.word key) ≡ Some kind → SomeFaults parts (FaultsReleasing at kind)
  shown kind state given is meets fault = record {
    state = state;
    is = is;
    stands = record { given = given; meets = meets };
    faults = record { to = given.word key; address = meets.registers at ∙ ap (option_map given.word) (target parts graph at address).1; fault = fault };
  }

  -- so it is in any, where the register holds a constant or an address
  in_some : (kind : ℕ) → ((state : State) (given : Assignment) → IsState state → Meets (maps_of parts) state given → state.registers at ≡ Some (given.word key) → free_fault state.memory (given.word key) ≡ Some kind) →
      SomeFaults parts (FaultsReleasing at kind)
  in_some kind faults =
      let found = some_state parts graph.ascending graph.well_formed graph.within_limits in
      let meets = found.2.meets in
      shown kind found.0 found.2.given found.1 meets (faults found.0 found.2.given found.1 meets (meets.registers at ∙ ap (option_map found.2.given.word) (target parts graph at address).1))

  -- each kind that is listed is met, if those through any word are
  pub met_if : (kind : ℕ) → (value_at parts.values key ≡ Some Any → Contains (double_free ∷ invalid_free ∷ []) kind → SomeFaults parts (FaultsReleasing at kind)) → Contains (release_post parts at).kinds kind →
      SomeFaults parts (FaultsReleasing at kind)
  met_if kind through_any listed = by_value aimed.value aimed.is aimed.names aimed.size
    where
      aimed : IsAddress parts key
      aimed = target_value parts graph at address

      in_post : (value : Value) → value_at parts.values key ≡ Some value → Contains (value_released parts gone key (Some value)).kinds kind
      in_post value stands = subst (λ (p : Posted). Contains p.kinds kind) (release_held parts at key value (target parts graph at address).1 stands) listed

      constant : (number size : ℕ) → value_at parts.values key ≡ Some (Const number size) → (b : Bool) → nat_eq number 0 ≡ b →
          Contains (if b then only_graph (without_registers gone parts) else record { graphs = []; kinds = invalid_free ∷ []; loss = None }).kinds kind → SomeFaults parts (FaultsReleasing at kind)
      constant number size stands true same there = none_in kind there
      constant number size stands false differ there =
          in_some kind (λ state given is meets register.
          constant_fault parts graph.well_formed state given is meets at key register number size stands
          ∙ ap (λ (b : Bool). if b then None else Some invalid_free) differ ∙ ap Some (only_one invalid_free kind there))

      object : (at_key : ℕ) (offset : ℤ) → value_at parts.values key ≡ Some (Address at_key offset Region) → SomeFaults parts (FaultsReleasing at kind)
      object at_key offset stands =
          by_tests (is_heap region.found.kind && int_eq offset (pos 0)) refl region.found.live refl
          (subst (λ (p : Posted). Contains p.kinds kind) (address_released parts gone key at_key offset region.found region.is) (in_post (Address at_key offset Region) stands))
        where
          region : IsRegionFound parts at_key
          region = region_of parts key at_key offset graph.well_formed stands

          meet : object_fault region.found offset ≡ Some kind → SomeFaults parts (FaultsReleasing at kind)
          meet fault = in_some kind (λ state given is meets register. address_fault parts graph.well_formed state given is meets at key register at_key offset region.found stands region.is region.region ∙ fault)

          by_tests : (b : Bool) → (is_heap region.found.kind && int_eq offset (pos 0)) ≡ b → (c : Bool) → region.found.live ≡ c →
              Contains (if b then (if c then only_graph (without_registers gone (with_object at_key (died region.found) parts)) else record { graphs = []; kinds = double_free ∷ []; loss = None }) else record { graphs = []; kinds = invalid_free ∷ []; loss = None }).kinds kind →
              SomeFaults parts (FaultsReleasing at kind)
          by_tests true here true live there = none_in kind there
          by_tests true here false dies there =
              meet (ap (λ (b : Bool). if b then (if region.found.live then None else Some double_free) else Some invalid_free) here
              ∙ ap (λ (b : Bool). if b then None else Some double_free) dies ∙ ap Some (only_one double_free kind there))
          by_tests false elsewhere c live there =
              meet (ap (λ (b : Bool). if b then (if region.found.live then None else Some double_free) else Some invalid_free) elsewhere ∙ ap Some (only_one invalid_free kind there))

      number : value_at parts.values key ≡ Some (Number 8) → SomeFaults parts (FaultsReleasing at kind)
      number stands =
          let large = large_shown parts graph key 1 stands in
          shown kind large.state large.given large.is large.meets (large_freed parts graph key stands large ∙ ap Some (only_one invalid_free kind (in_post (Number 8) stands)))

      by_value : (value : Value) → value_at parts.values key ≡ Some value → names_no_segment value ≡ true → value_size value ≡ 8 → SomeFaults parts (FaultsReleasing at kind)
      by_value (Const number size) stands names sized = constant number size stands (nat_eq number 0) refl (in_post (Const number size) stands)
      by_value (Number size) stands names sized = number (stands ∙ ap (λ (n : ℕ). Some (Number n)) sized)
      by_value Any stands names sized = through_any stands (in_post Any stands)
      by_value (Address at_key offset t) stands names sized = object at_key offset (stands ∙ ap (λ (t : Target). Some (Address at_key offset t)) (region_target at_key offset t names))

  -- so it is but through any word
  pub release_met : (kind : ℕ) → (release_post parts at).loss ≢ Some 4 → Contains (release_post parts at).kinds kind → SomeFaults parts (FaultsReleasing at kind)
  release_met kind precise listed = met_if kind (λ any two. absurd (precise (ap (λ (p : Posted). p.loss) (release_held parts at key Any (target parts graph at address).1 any)))) listed
