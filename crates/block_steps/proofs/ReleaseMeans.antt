-- What the post of a release says, together.
use Rattle.std.proofs.Common.{◌≡◌, ℕ, Bool, true, false, ◌&&◌, List, [], ◌∷◌, ℤ, pos, nat_eq, Option, None, Some, refl, sym, ◌∙◌, ap, subst, eqb-true, eq-eqb, ◌⊎◌, inl, inr, arith}
use Rattle.std.specs.Prelude.{IsSome, Contains, option_map, if◌then◌else◌}
use Rattle.std.specs.Ordering.{int_eq}
use Rattle.std.proofs.lemmas.Bool.{false≢true}
use Rattle.std.proofs.lemmas.List.{map-id}
use Rattle.bytes_core.specs.Fault.{double_free, invalid_free}
use Rattle.bytes_core.specs.Release.{is_heap}
use Rattle.graph.specs.declared.object.Object.{Object}
use Rattle.graph.specs.declared.parts.Parts.{Parts}
use Rattle.graph.specs.declared.post.Post.{Post}
use Rattle.graph.specs.declared.value.Target.{Target}
use Rattle.graph.specs.declared.value.Target.TheVariants.{Region}
use Rattle.graph.specs.declared.value.Value.{Value}
use Rattle.graph.specs.declared.value.Value.TheVariants.{Const, Number, Any, Address}
use Rattle.graph.specs.Maps.{object_at, value_at, held_by}
use Rattle.graph.specs.Numbers.{HasRoom}
use Rattle.graph.specs.Sizes.{value_size}
use Rattle.graph.specs.WellFormed.{are_ascending}
use Rattle.graph.specs.Whole.{IsGraph}
use Rattle.graph.proofs.Tests.{and_left}
use Rattle.changes.specs.Dying.{died}
use Rattle.changes.specs.Following.{life}
use Rattle.changes.specs.FollowingAlike.{StepMeansAlike}
use Rattle.changes.specs.Parts.{emptied, with_object, without_registers}
use Rattle.changes.specs.Posted.{Posted, IsPost, SomeStandsFor}
use Rattle.changes.specs.Reaching.{is_excluded, is_address_held, names_no_segment}
use Rattle.changes.proofs.Died.{graph_died}
use Rattle.changes.proofs.Held.{IsAddress}
use Rattle.changes.proofs.Meeting.{region_target}
use Rattle.changes.proofs.Objects.{replaced-here, replaced-other}
use Rattle.changes.proofs.Reached.{only_one, none_in}
use Rattle.changes.proofs.RegisterForm.{graph_without}
use Rattle.changes.proofs.RegistersChanged.{held_without}
use Rattle.block_steps.specs.Releasing.{Releases, FaultsReleasing, with_null, only_graph, value_released, release_post, IsRegionFound, IsFreeable, IsDeadNow, ReleaseTail}
use Rattle.block_steps.proofs.ReleaseExact.{target, target_value, release_exact}
use Rattle.block_steps.proofs.ReleaseFault.{region_of}
use Rattle.block_steps.proofs.ReleaseMet.{release_met}
use Rattle.block_steps.proofs.ReleaseNumber.{null_tail}
use Rattle.block_steps.proofs.ReleaseSound.{release_held, address_released, release_sound, release_kinds}

option_same : {A : Type 0} (found : Option A) → found ≡ option_map (λ (x : A). x) found
option_same None = refl
option_same (Some item) = refl

module _ (parts : Parts) (graph : IsGraph parts) (at : ℕ) (address : is_address_held parts at ≡ true) where
  abbrev gone : List ℕ
  gone = at ∷ []

  abbrev key : ℕ
  key = (target parts graph at address).0

  -- nothing but the register changes
  null_left : ReleaseTail parts gone (without_registers gone parts)
  null_left = record {
    graph = graph_without gone parts graph;
    variables = refl;
    lives = λ k. inl refl;
    values = λ k some. refl;
    key_of = λ k. k;
    keys = λ k. inl refl;
    ports = sym (map-id parts.ports);
    registers = λ register. held_without gone parts register ∙ option_same (emptied gone (held_by parts.registers) register);
    pairs = omega arith;
  }

  -- an object died
  died_left : (at_key : ℕ) (may : IsFreeable parts at_key) → ReleaseTail parts gone (without_registers gone (with_object at_key (died may.object) parts))
  died_left at_key may = record {
    graph = graph_without gone (with_object at_key (died may.object) parts) (graph_died parts at_key may.object graph may.is may.region may.live may.heap);
    variables = refl;
    lives = λ k. by_key k (nat_eq k at_key) refl;
    values = λ k some. refl;
    key_of = λ k. k;
    keys = λ k. inl refl;
    ports = sym (map-id parts.ports);
    registers = λ register. held_without gone (with_object at_key (died may.object) parts) register ∙ option_same (emptied gone (held_by parts.registers) register);
    pairs = omega arith;
  }
    where
      here : object_at (with_object at_key (died may.object) parts).objects at_key ≡ Some (died may.object)
      here = replaced-here at_key (died may.object) parts.objects (subst (λ (o : Option Object). IsSome o) (sym may.is) refl)

      by_key : (k : ℕ) (b : Bool) → nat_eq k at_key ≡ b →
          (option_map life (object_at (with_object at_key (died may.object) parts).objects k) ≡ option_map life (object_at parts.objects k)) ⊎ IsDeadNow parts (without_registers gone (with_object at_key (died may.object) parts)) k
      by_key k true is = inr (subst (λ (n : ℕ). IsDeadNow parts (without_registers gone (with_object at_key (died may.object) parts)) n) (sym (eqb-true _ _ is)) (record { was = may; now = here }))
      by_key k false differ = inl (ap (option_map life) (replaced-other at_key (died may.object) parts.objects k (λ same. false≢true (sym differ ∙ eq-eqb k at_key same))))

  in_post : (value : Value) → value_at parts.values key ≡ Some value → release_post parts at ≡ value_released parts gone key (Some value)
  in_post value stands = release_held parts at key value (target parts graph at address).1 stands

  release_tail : (after : Parts) → Contains (release_post parts at).graphs after → ReleaseTail parts gone after
  release_tail after among = by_value aimed.value aimed.is aimed.names aimed.size
    where
      aimed : IsAddress parts key
      aimed = target_value parts graph at address

      there : (value : Value) → value_at parts.values key ≡ Some value → Contains (value_released parts gone key (Some value)).graphs after
      there value stands = subst (λ (p : Posted). Contains p.graphs after) (in_post value stands) among

      constant : (b : Bool) → Contains (if b then only_graph (without_registers gone parts) else record { graphs = []; kinds = invalid_free ∷ []; loss = None }).graphs after → ReleaseTail parts gone after
      constant true among = subst (ReleaseTail parts gone) (only_one (without_registers gone parts) after among) null_left
      constant false among = none_in after among

      number : value_at parts.values key ≡ Some (Number 8) → (b : Bool) → Contains (if b then [] else without_registers gone (with_null key parts) ∷ []) after → ReleaseTail parts gone after
      number stands true among = none_in after among
      number stands false among = subst (ReleaseTail parts gone) (only_one (without_registers gone (with_null key parts)) after among) (null_tail parts graph key stands at)

      object : (at_key : ℕ) (offset : ℤ) → value_at parts.values key ≡ Some (Address at_key offset Region) → ReleaseTail parts gone after
      object at_key offset stands =
          by_tests (is_heap region.found.kind && int_eq offset (pos 0)) refl region.found.live refl
          (subst (λ (p : Posted). Contains p.graphs after) (address_released parts gone key at_key offset region.found region.is) (there (Address at_key offset Region) stands))
        where
          region : IsRegionFound parts at_key
          region = region_of parts key at_key offset graph.well_formed stands

          by_tests : (b : Bool) → (is_heap region.found.kind && int_eq offset (pos 0)) ≡ b → (c : Bool) → region.found.live ≡ c →
              Contains (if b then (if c then only_graph (without_registers gone (with_object at_key (died region.found) parts)) else record { graphs = []; kinds = double_free ∷ []; loss = None }) else record { graphs = []; kinds = invalid_free ∷ []; loss = None }).graphs after →
              ReleaseTail parts gone after
          by_tests true here true live among =
              subst (ReleaseTail parts gone) (only_one (without_registers gone (with_object at_key (died region.found) parts)) after among)
              (died_left at_key (record { object = region.found; is = region.is; region = region.region; live = live; heap = and_left (is_heap region.found.kind) (int_eq offset (pos 0)) here }))
          by_tests true here false dies among = none_in after among
          by_tests false elsewhere c live among = none_in after among

      by_value : (value : Value) → value_at parts.values key ≡ Some value → names_no_segment value ≡ true → value_size value ≡ 8 → ReleaseTail parts gone after
      by_value (Const n size) stands names sized = constant (nat_eq n 0) (there (Const n size) stands)
      by_value (Number size) stands names sized =
          let eight : value_at parts.values key ≡ Some (Number 8) = stands ∙ ap (λ (n : ℕ). Some (Number n)) sized in number eight (is_excluded parts key 0) (there (Number 8) eight)
      by_value Any stands names sized = none_in after (there Any stands)
      by_value (Address at_key offset t) stands names sized = object at_key offset (stands ∙ ap (λ (t : Target). Some (Address at_key offset t)) (region_target at_key offset t names))

  release_ascending : are_ascending (release_post parts at).kinds ≡ true
  release_ascending = by_value aimed.value aimed.is aimed.names
    where
      aimed : IsAddress parts key
      aimed = target_value parts graph at address

      constant : (b : Bool) → are_ascending (if b then only_graph (without_registers gone parts) else record { graphs = []; kinds = invalid_free ∷ []; loss = None }).kinds ≡ true
      constant true = refl
      constant false = refl

      object : (at_key : ℕ) (offset : ℤ) → value_at parts.values key ≡ Some (Address at_key offset Region) → are_ascending (release_post parts at).kinds ≡ true
      object at_key offset stands =
          let region = region_of parts key at_key offset graph.well_formed stands in
          ap (λ (p : Posted). are_ascending p.kinds) (in_post (Address at_key offset Region) stands ∙ address_released parts gone key at_key offset region.found region.is)
          ∙ by_tests region.found (is_heap region.found.kind && int_eq offset (pos 0)) region.found.live
        where
          by_tests : (found : Object) (b c : Bool) → are_ascending (if b then (if c then only_graph (without_registers gone (with_object at_key (died found) parts)) else record { graphs = []; kinds = double_free ∷ []; loss = None }) else record { graphs = []; kinds = invalid_free ∷ []; loss = None }).kinds ≡ true
          by_tests found true true = refl
          by_tests found true false = refl
          by_tests found false c = refl

      by_value : (value : Value) → value_at parts.values key ≡ Some value → names_no_segment value ≡ true → are_ascending (release_post parts at).kinds ≡ true
      by_value (Const n size) stands names = ap (λ (p : Posted). are_ascending p.kinds) (in_post (Const n size) stands) ∙ constant (nat_eq n 0)
      by_value (Number size) stands names = ap (λ (p : Posted). are_ascending p.kinds) (in_post (Number size) stands)
      by_value Any stands names = ap (λ (p : Posted). are_ascending p.kinds) (in_post Any stands)
      by_value (Address at_key offset t) stands names = object at_key offset (stands ∙ ap (λ (t : Target). Some (Address at_key offset t)) (region_target at_key offset t names))

pub release_means : (parts : Parts) (at : ℕ) (given : Post) → IsGraph parts → is_address_held parts at ≡ true → IsPost (release_post parts at) given →
    StepMeansAlike parts (Releases at) (λ kind. FaultsReleasing at kind) (ReleaseTail parts (at ∷ [])) (λ memory. HasRoom memory) given
release_means parts at given graph address is = record {
  sound = λ state next is_state stands steps precise.
      subst (λ (graphs : List Parts). SomeStandsFor graphs next) (sym is.graphs) (release_sound parts graph at address state next is_state stands steps (λ any. precise (is.loss ∙ any)));
  exact = λ after next none among is_state stands room.
      release_exact parts graph at address after next (sym is.loss ∙ none) (subst (λ (graphs : List Parts). Contains graphs after) is.graphs among) is_state stands (λ key object there region live heap dead_stands. record { base = room.base; place = room.place });
  kinds = λ state kind is_state stands faults. subst (λ (kinds : List ℕ). Contains kinds kind) (sym is.kinds) (release_kinds parts graph at address state kind is_state stands faults);
  met = λ kind precise listed. release_met parts graph at address kind (λ any. precise (is.loss ∙ any)) (subst (λ (kinds : List ℕ). Contains kinds kind) is.kinds listed);
  ascending = ap are_ascending is.kinds ∙ release_ascending parts graph at address;
  tail = λ after among. release_tail parts graph at address after (subst (λ (graphs : List Parts). Contains graphs after) is.graphs among);
}
