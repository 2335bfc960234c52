-- What an access through a value of a graph meets in a state that the graph stands for.
use Rattle.std.proofs.Common.{◌≡◌, ◌≢◌, ℕ, zero, suc, ◌+◌, ◌^◌, ◌<◌, ◌≤◌, Bool, true, false, not, ◌||◌, ◌&&◌, List, [], ◌∷◌, length, ℤ, pos, negsuc, nat_eq, nat_lt, Option, None, Some, refl, sym, ◌∙◌, ap, subst, eqb-true, eq-eqb, leb-true, le-leb, ltb-true, arith}
use Rattle.std.specs.Prelude.{slice_get, Contains, if◌then◌else◌}
use Rattle.std.specs.List.{list_any}
use Rattle.std.specs.Option.{option_map_or}
use Rattle.std.proofs.lemmas.Bool.{false≢true}
use Rattle.std.proofs.lemmas.Option.{same_Some, none-some}
use Rattle.bytes_core.specs.declared.block.Block.{Block}
use Rattle.bytes_core.specs.declared.word.Word.{Word}
use Rattle.bytes_core.specs.declared.word.Word.TheVariants.{Plain, To}
use Rattle.bytes_core.specs.Fault.{null_pointer_dereference, access_outside_object, access_to_dead_object, access_through_invalid_address}
use Rattle.bytes_core.specs.Access.{is_within, block_fault, access_fault}
use Rattle.graph.specs.declared.object.Object.{Object}
use Rattle.graph.specs.declared.object.Shape.{Shape}
use Rattle.graph.specs.declared.object.Shape.TheVariants.{Region as RegionShape, Segment}
use Rattle.graph.specs.declared.parts.KeyedObject.{KeyedObject}
use Rattle.graph.specs.declared.parts.KeyedValue.{KeyedValue}
use Rattle.graph.specs.declared.parts.Pair.{Pair}
use Rattle.graph.specs.declared.parts.Parts.{Parts}
use Rattle.graph.specs.declared.value.Target.{Target}
use Rattle.graph.specs.declared.value.Target.TheVariants.{Region, First, Last, Each}
use Rattle.graph.specs.declared.value.Value.{Value}
use Rattle.graph.specs.declared.value.Value.TheVariants.{Const, Number, Any, Address}
use Rattle.graph.specs.Maps.{object_at, value_at}
use Rattle.graph.specs.Nodes.{own_node}
use Rattle.graph.specs.State.{State}
use Rattle.graph.specs.WellFormed.{IsWellFormed, target_fits, leads_to_object}
use Rattle.graph.specs.Meaning.{IsNode, StandsAt, IsGone, HasShape, HasBlocksAs, block_word, first_of, own_offset, maps_of, Assignment, Meets}
use Rattle.graph.proofs.Found.{Holds-some, found-all}
use Rattle.graph.proofs.Sent.{passes-some}
use Rattle.graph.proofs.Tests.{and_left, and_right}
use Rattle.changes.specs.declared.reach.Reach.{Reach}
use Rattle.changes.specs.declared.reach.Reach.TheVariants as to
use Rattle.changes.specs.Posted.{Posted, on_reach}
use Rattle.changes.specs.Reaching.{number_kind, is_constant_of, is_number_at, tells_apart, is_excluded, are_excluded, has_live_object, object_reach, value_reach, reach_of, names_no_segment}

-- bytes of a live region's block, to which a value leads
pub record IsMet (parts : Parts) (state : State) (given : Assignment) (at count : ℕ) : Type 0 where
  pub key : ℕ
  pub from : ℕ
  pub object : Object
  pub reach : reach_of parts at count ≡ to.Room key from
  pub stands : object_at parts.objects key ≡ Some object
  pub live : object.live ≡ true
  pub region : object.shape ≡ RegionShape
  pub room : from + count ≤ object.size
  pub number : ℕ
  pub blocks : given.blocks key ≡ number ∷ []
  pub block : Block
  pub there : slice_get state.memory number ≡ Some block
  pub node : IsNode object.size object.kind (own_node object) given.word block
  pub word : given.word at ≡ To number (pos from)

-- an access that meets no fault leads through any word or to such bytes
pub data Led (parts : Parts) (state : State) (given : Assignment) (at count : ℕ) : Type 0 where
  Anywhere : value_at parts.values at ≡ Some Any → Led parts state given at count
  Within : IsMet parts state given at count → Led parts state given at count

-- what is in one of these places
pub contains_first : (x : ℕ) (xs : List ℕ) → Contains (x ∷ xs) x
contains_first x xs = (0, omega arith, refl)

pub contains_later : (x y : ℕ) (xs : List ℕ) → Contains xs y → Contains (x ∷ xs) y
contains_later x y xs (place, below, is) = (suc place, omega arith, is)

pub region_only : (target : Target) (shape : Shape) → target ≡ Region → target_fits target shape ≡ true → shape ≡ RegionShape
region_only target RegionShape is fits = refl
region_only target (Segment twofold head next prev back least next_value prev_value node) is fits =
    absurd (false≢true (ap (λ (t : Target). target_fits t (Segment twofold head next prev back least next_value prev_value node)) (sym is) ∙ fits))

pub region_target : (object : ℕ) (offset : ℤ) (target : Target) → names_no_segment (Address object offset target) ≡ true → target ≡ Region
region_target object offset Region names = refl
region_target object offset First names = absurd (false≢true names)
region_target object offset Last names = absurd (false≢true names)
region_target object offset Each names = absurd (false≢true names)

module _ (parts : Parts) (state : State) (given : Assignment) (form : IsWellFormed parts) (meets : Meets (maps_of parts) state given) (at count : ℕ) where
  -- the region of an address
  pub record IsRegionAt (object : ℕ) : Type 0 where
    pub found : Object
    pub is : object_at parts.objects object ≡ Some found
    pub region : found.shape ≡ RegionShape

  pub region_at : (object : ℕ) (offset : ℤ) → value_at parts.values at ≡ Some (Address object offset Region) → IsRegionAt object
  region_at object offset stands =
      let leads = found-all (λ (entry : KeyedValue). entry.key) (λ entry. entry.value) (leads_to_object parts) parts.values at (Address object offset Region) form.addresses_lead_to_objects stands in
      let held = Holds-some (object_at parts.objects object) (passes-some (λ found. target_fits Region found.shape) (object_at parts.objects object) leads) in
      record {
        found = held.item;
        is = held.is;
        region = region_only Region held.item.shape refl (subst (λ (o : Option Object). option_map_or (λ found. target_fits Region found.shape) o false ≡ true) held.is leads);
      }

  -- the block of a live region
  pub record HasBlock (key : ℕ) (object : Object) : Type 0 where
    pub number : ℕ
    pub blocks : given.blocks key ≡ number ∷ []
    pub at_number : StandsAt state.memory object given.word number

  pub has_block : (key : ℕ) (object : Object) → object_at parts.objects key ≡ Some object → object.live ≡ true → object.shape ≡ RegionShape → HasBlock key object
  has_block key object stands live region =
      let has = subst (λ (b : Bool). HasBlocksAs b state.memory object given.word (λ value. own_offset (value_at parts.values value)) (given.blocks key)) live (meets.objects key object stands) in
      let is = subst (λ (shape : Shape). HasShape shape state.memory object given.word (λ value. own_offset (value_at parts.values value)) (given.blocks key)) region has in
      record { number = is.0; blocks = is.1; at_number = is.2 }

  -- the word of an address of a region
  pub word_of : (object number : ℕ) (offset : ℤ) → value_at parts.values at ≡ Some (Address object offset Region) → given.blocks object ≡ number ∷ [] → given.word at ≡ To number offset
  word_of object number offset stands blocks = meets.values at (Address object offset Region) stands ∙ ap (λ (ns : List ℕ). block_word (first_of ns) offset) blocks

  reach_by : (value : Value) → value_at parts.values at ≡ Some value → reach_of parts at count ≡ value_reach parts at (Some value) count
  reach_by value stands = ap (λ (o : Option Value). value_reach parts at o count) stands

  pub met_in : (key from : ℕ) (object : Object) → value_at parts.values at ≡ Some (Address key (pos from) Region) → object_at parts.objects key ≡ Some object → object.live ≡ true → object.shape ≡ RegionShape →
      from + count ≤ object.size → IsMet parts state given at count
  met_in key from object stands found live region room =
      let has = has_block key object found live region in
      record {
        key = key;
        from = from;
        object = object;
        reach = reach_by (Address key (pos from) Region) stands ∙ ap (λ (o : Option Object). object_reach o key (pos from) count) found
            ∙ ap (λ (b : Bool). if b then (if is_within object.size (pos from) count then to.Room key from else to.Fault access_outside_object) else to.Fault access_to_dead_object) live
            ∙ ap (λ (b : Bool). if b then to.Room key from else to.Fault access_outside_object) (le-leb _ _ room);
        stands = found;
        live = live;
        region = region;
        room = room;
        number = has.number;
        blocks = has.blocks;
        block = has.at_number.block;
        there = has.at_number.there;
        node = has.at_number.node;
        word = word_of key has.number (pos from) stands has.blocks;
      }

  -- the fault of an access to a live region
  live_fault : (key : ℕ) (object : Object) (offset : ℤ) → value_at parts.values at ≡ Some (Address key offset Region) → object_at parts.objects key ≡ Some object → object.live ≡ true → object.shape ≡ RegionShape →
      access_fault state.memory (given.word at) count ≡ (if is_within object.size offset count then None else Some access_outside_object)
  live_fault key object offset stands found live region =
      let has = has_block key object found live region in
      ap (λ (w : Word). access_fault state.memory w count) (word_of key has.number offset stands has.blocks)
      ∙ ap (λ (o : Option Block). block_fault o offset count) has.at_number.there
      ∙ ap (λ (b : Bool). if b then (if is_within (length has.at_number.block.bytes) offset count then None else Some access_outside_object) else Some access_to_dead_object) has.at_number.node.live
      ∙ ap (λ (n : ℕ). if is_within n offset count then None else Some access_outside_object) has.at_number.node.size

  -- and of one to a dead one
  dead_fault : (key : ℕ) (object : Object) (offset : ℤ) → value_at parts.values at ≡ Some (Address key offset Region) → object_at parts.objects key ≡ Some object → object.live ≡ false →
      access_fault state.memory (given.word at) count ≡ Some access_to_dead_object
  dead_fault key object offset stands found dead =
      let has = subst (λ (b : Bool). HasBlocksAs b state.memory object given.word (λ value. own_offset (value_at parts.values value)) (given.blocks key)) dead (meets.objects key object found) in
      ap (λ (w : Word). access_fault state.memory w count) (word_of key has.0 offset stands has.1) ∙ gone (slice_get state.memory has.0) has.2
    where
      gone : (block : Option Block) → IsGone object.kind block → block_fault block offset count ≡ Some access_to_dead_object
      gone None is = refl
      gone (Some block) (dead, kind) = ap (λ (b : Bool). if b then (if is_within (length block.bytes) offset count then None else Some access_outside_object) else Some access_to_dead_object) dead

  -- a value that is an address or a constant leads where the graph says
  abbrev Says : Reach → Option ℕ → Type 0
  Says to.Nothing fault = ⊥
  Says (to.Fault kind) fault = fault ≡ Some kind
  Says (to.Number small) fault = ⊥
  Says (to.Anything live) fault = ⊥
  Says (to.Room key from) fault = (fault ≡ None) × IsMet parts state given at count

  address_says : (key : ℕ) (offset : ℤ) → value_at parts.values at ≡ Some (Address key offset Region) → Says (reach_of parts at count) (access_fault state.memory (given.word at) count)
  address_says key offset stands =
      subst (λ (r : Reach). Says r (access_fault state.memory (given.word at) count)) (sym (reach_by (Address key offset Region) stands ∙ ap (λ (o : Option Object). object_reach o key offset count) region.is)) (by_life region.found.live refl)
    where
      region : IsRegionAt key
      region = region_at key offset stands

      at_offset : (z : ℤ) → offset ≡ z → (b : Bool) → region.found.live ≡ b → Says (object_reach (Some region.found) key z count) (access_fault state.memory (given.word at) count)
      at_offset (pos from) is true live =
          subst (λ (b : Bool). Says (if b then (if is_within region.found.size (pos from) count then to.Room key from else to.Fault access_outside_object) else to.Fault access_to_dead_object) (access_fault state.memory (given.word at) count)) (sym live)
          (by_room (is_within region.found.size (pos from) count) refl)
        where
          here : value_at parts.values at ≡ Some (Address key (pos from) Region)
          here = stands ∙ ap (λ (z : ℤ). Some (Address key z Region)) is

          by_room : (b : Bool) → is_within region.found.size (pos from) count ≡ b → Says (if b then to.Room key from else to.Fault access_outside_object) (access_fault state.memory (given.word at) count)
          by_room true within = (
            live_fault key region.found (pos from) here region.is live region.region ∙ ap (λ (b : Bool). if b then None else Some access_outside_object) within,
            met_in key from region.found here region.is live region.region (leb-true _ _ within),
          )
          by_room false outside = live_fault key region.found (pos from) here region.is live region.region ∙ ap (λ (b : Bool). if b then None else Some access_outside_object) outside
      at_offset (pos from) is false dead =
          subst (λ (b : Bool). Says (if b then (if is_within region.found.size (pos from) count then to.Room key from else to.Fault access_outside_object) else to.Fault access_to_dead_object) (access_fault state.memory (given.word at) count)) (sym dead)
          (dead_fault key region.found offset stands region.is dead)
      at_offset (negsuc before) is true live =
          subst (λ (b : Bool). Says (if b then to.Fault access_outside_object else to.Fault access_to_dead_object) (access_fault state.memory (given.word at) count)) (sym live)
          (live_fault key region.found (negsuc before) (stands ∙ ap (λ (z : ℤ). Some (Address key z Region)) is) region.is live region.region)
      at_offset (negsuc before) is false dead =
          subst (λ (b : Bool). Says (if b then to.Fault access_outside_object else to.Fault access_to_dead_object) (access_fault state.memory (given.word at) count)) (sym dead)
          (dead_fault key region.found offset stands region.is dead)

      by_life : (b : Bool) → region.found.live ≡ b → Says (object_reach (Some region.found) key offset count) (access_fault state.memory (given.word at) count)
      by_life b live = at_offset offset refl b live

  plain_fault : (number : ℕ) → given.word at ≡ Plain number → access_fault state.memory (given.word at) count ≡ Some (number_kind number)
  plain_fault number is = ap (λ (w : Word). access_fault state.memory w count) is ∙ by_size (nat_lt number 4096)
    where
      by_size : (b : Bool) → (if b then Some null_pointer_dereference else Some access_through_invalid_address) ≡ Some (if b then null_pointer_dereference else access_through_invalid_address)
      by_size true = refl
      by_size false = refl

  -- an access without a fault
  pub led : (value : Value) → value_at parts.values at ≡ Some value → names_no_segment value ≡ true → access_fault state.memory (given.word at) count ≡ None → Led parts state given at count
  led (Const number size) stands names none = absurd (none-some _ (sym none ∙ plain_fault number (meets.values at (Const number size) stands)))
  led (Number size) stands names none = let has = meets.values at (Number size) stands in absurd (none-some _ (sym none ∙ plain_fault has.0 has.1))
  led Any stands names none = Anywhere stands
  led (Address key offset First) stands names none = absurd (false≢true names)
  led (Address key offset Last) stands names none = absurd (false≢true names)
  led (Address key offset Each) stands names none = absurd (false≢true names)
  led (Address key offset Region) stands names none = by_reach (reach_of parts at count) (address_says key offset stands)
    where
      by_reach : (reach : Reach) → Says reach (access_fault state.memory (given.word at) count) → Led parts state given at count
      by_reach to.Nothing says = absurd says
      by_reach (to.Fault kind) says = absurd (none-some _ (sym none ∙ says))
      by_reach (to.Number small) says = absurd says
      by_reach (to.Anything live) says = absurd says
      by_reach (to.Room key from) says = Within says.1

  -- Kinds: each that the state meets is listed.

  pub any_excluded : (number : ℕ) (pairs : List Pair) → list_any (tells_apart parts at number) pairs ≡ true → ((place : ℕ) (pair : Pair) → slice_get pairs place ≡ Some pair → given.word pair.left ≢ given.word pair.right) → given.word at ≢ Plain number
  any_excluded number [] any apart same = false≢true any
  any_excluded number (pair ∷ rest) any apart same = by_pair (nat_eq pair.left at) refl (is_number_at parts number pair.right) refl (nat_eq pair.right at) refl (is_number_at parts number pair.left) refl any
      (λ later. any_excluded number rest later (λ place found there. apart (suc place) found there) same)
    where
      word_is : (key : ℕ) → is_number_at parts number key ≡ true → given.word key ≡ Plain number
      word_is key is = by_value (value_at parts.values key) refl is
        where
          by_value : (found : Option Value) → value_at parts.values key ≡ found → option_map_or (is_constant_of number) found false ≡ true → given.word key ≡ Plain number
          by_value None stands is = absurd (false≢true is)
          by_value (Some (Const other size)) stands is = meets.values key (Const other size) stands ∙ ap Plain (eqb-true _ _ is)
          by_value (Some (Number size)) stands is = absurd (false≢true is)
          by_value (Some Any) stands is = absurd (false≢true is)
          by_value (Some (Address object offset target)) stands is = absurd (false≢true is)

      by_pair : (a : Bool) → nat_eq pair.left at ≡ a → (b : Bool) → is_number_at parts number pair.right ≡ b → (c : Bool) → nat_eq pair.right at ≡ c → (d : Bool) → is_number_at parts number pair.left ≡ d →
          (((a && b) || (c && d)) || list_any (tells_apart parts at number) rest) ≡ true → (list_any (tells_apart parts at number) rest ≡ true → ⊥) → ⊥
      by_pair true left true right c c_is d d_is any later = apart 0 pair refl (ap given.word (eqb-true _ _ left) ∙ same ∙ sym (word_is pair.right right))
      by_pair true left false b_is true right true other any later = apart 0 pair refl (word_is pair.left other ∙ sym same ∙ ap given.word (sym (eqb-true _ _ right)))
      by_pair true left false b_is true right false d_is any later = later any
      by_pair true left false b_is false c_is d d_is any later = later any
      by_pair false a_is b b_is true right true other any later = apart 0 pair refl (word_is pair.left other ∙ sym same ∙ ap given.word (sym (eqb-true _ _ right)))
      by_pair false a_is b b_is true right false d_is any later = later any
      by_pair false a_is b b_is false c_is d d_is any later = later any

  -- a number that is excluded is not the word
  pub excluded_not : (number bound : ℕ) → are_excluded parts at bound ≡ true → number < bound → given.word at ≢ Plain number
  unfolding are_excluded
  excluded_not number zero all below = absurd (omega arith)
  excluded_not number (suc bound) all below = by_last (nat_eq number bound) refl (λ lower. excluded_not number bound (and_right (is_excluded parts at bound) (are_excluded parts at bound) all) lower)
    where
      by_last : (b : Bool) → nat_eq number bound ≡ b → (number < bound → given.word at ≢ Plain number) → given.word at ≢ Plain number
      by_last true is later = subst (λ (n : ℕ). given.word at ≢ Plain n) (sym (eqb-true _ _ is)) (any_excluded bound parts.unequal (and_left (is_excluded parts at bound) (are_excluded parts at bound) all) meets.unequal)
      by_last false differ later = later (let apart : number ≢ bound = λ same. false≢true (sym differ ∙ eq-eqb number bound same) in omega arith)

  -- where a live block is, there is a live object
  live_there : (number : ℕ) (block : Block) → slice_get state.memory number ≡ Some block → block.live ≡ true → has_live_object parts ≡ true
  live_there number block stands live =
      let owned = meets.used number block stands live in
      let held = Holds-some (object_at parts.objects (given.owner number)) owned.object in
      any_live parts.objects (given.owner number) held.item held.is (by_life held.item held.is held.item.live refl owned.block)
    where
      by_life : (object : Object) → object_at parts.objects (given.owner number) ≡ Some object → (b : Bool) → object.live ≡ b → slice_get (given.blocks (given.owner number)) (given.place number) ≡ Some number → object.live ≡ true
      by_life object is true live_is among = live_is
      by_life object is false dead among =
          let has = subst (λ (b : Bool). HasBlocksAs b state.memory object given.word (λ value. own_offset (value_at parts.values value)) (given.blocks (given.owner number))) dead (meets.objects (given.owner number) object is) in
          let same : has.0 ≡ number = one_place (given.place number) has.0 (sym (ap (λ (ns : List ℕ). slice_get ns (given.place number)) has.1) ∙ among) in
          absurd (gone (slice_get state.memory number) stands (subst (λ (n : ℕ). IsGone object.kind (slice_get state.memory n)) same has.2))
        where
          one_place : (place one : ℕ) → slice_get (one ∷ []) place ≡ Some number → one ≡ number
          one_place zero one found = same_Some _ _ found
          one_place (suc place) one found = absurd (none-some number found)

          gone : (found : Option Block) → found ≡ Some block → IsGone object.kind found → ⊥
          gone None is none = none-some block is
          gone (Some other) is dead = false≢true (sym dead.0 ∙ ap (λ (b : Block). b.live) (same_Some _ _ is) ∙ live)

      any_live : (entries : List KeyedObject) (key : ℕ) (object : Object) → object_at entries key ≡ Some object → object.live ≡ true → list_any (λ (entry : KeyedObject). entry.object.live) entries ≡ true
      any_live [] key object is live = absurd (none-some object is)
      any_live (first ∷ rest) key object is live = by_key (nat_eq first.key key) is (λ later. any_live rest key object later live)
        where
          either : (a b : Bool) → b ≡ true → (a || b) ≡ true
          either true b is = refl
          either false b is = is

          by_key : (b : Bool) → (if b then Some first.object else object_at rest key) ≡ Some object → (object_at rest key ≡ Some object → list_any (λ (entry : KeyedObject). entry.object.live) rest ≡ true) →
              (first.object.live || list_any (λ (entry : KeyedObject). entry.object.live) rest) ≡ true
          by_key true same later = ap (λ (b : Bool). b || list_any (λ (entry : KeyedObject). entry.object.live) rest) (ap (λ (o : Object). o.live) (same_Some _ _ same) ∙ live)
          by_key false same later = either first.object.live _ (later same)

  abbrev kinds_here : (ℕ → Object → ℕ → Posted) → List ℕ
  kinds_here onward = (on_reach parts (reach_of parts at count) onward).kinds

  pub kinds_listed : (value : Value) → value_at parts.values at ≡ Some value → names_no_segment value ≡ true → (kind : ℕ) → access_fault state.memory (given.word at) count ≡ Some kind → (onward : ℕ → Object → ℕ → Posted) → Contains (kinds_here onward) kind
  kinds_listed (Const number size) stands names kind fault onward =
      subst (λ (r : Reach). Contains (on_reach parts r onward).kinds kind) (sym (reach_by (Const number size) stands))
      (subst (λ (k : ℕ). Contains (number_kind number ∷ []) k) (same_Some _ _ (sym (plain_fault number (meets.values at (Const number size) stands)) ∙ fault)) (contains_first (number_kind number) []))
  kinds_listed (Number size) stands names kind fault onward =
      subst (λ (r : Reach). Contains (on_reach parts r onward).kinds kind) (sym (reach_by (Number size) stands))
      (subst (λ (k : ℕ). Contains (on_reach parts (to.Number (not (are_excluded parts at 4096))) onward).kinds k) (same_Some _ _ (sym (plain_fault has.0 has.1) ∙ fault)) (by_size (nat_lt has.0 4096) refl (are_excluded parts at 4096) refl))
    where
      has : (number : ℕ) × (given.word at ≡ Plain number) × (number < 256 ^ size)
      has = meets.values at (Number size) stands

      by_size : (b : Bool) → nat_lt has.0 4096 ≡ b → (c : Bool) → are_excluded parts at 4096 ≡ c →
          Contains (on_reach parts (to.Number (not c)) onward).kinds (if b then null_pointer_dereference else access_through_invalid_address)
      by_size true small true all = absurd (excluded_not has.0 4096 all (ltb-true _ _ small) has.1)
      by_size true small false some = contains_first 1 (4 ∷ [])
      by_size false large true all = contains_first 4 []
      by_size false large false some = contains_later 1 4 (4 ∷ []) (contains_first 4 [])
  kinds_listed Any stands names kind fault onward =
      subst (λ (r : Reach). Contains (on_reach parts r onward).kinds kind) (sym (reach_by Any stands)) (by_word (given.word at) refl (has_live_object parts) refl)
    where
      listed : (live : Bool) → List ℕ
      listed live = (on_reach parts (to.Anything live) onward).kinds

      small_kind : (live b : Bool) → Contains (on_reach parts (to.Anything live) onward).kinds (if b then null_pointer_dereference else access_through_invalid_address)
      small_kind true true = contains_first 1 (2 ∷ 3 ∷ 4 ∷ [])
      small_kind true false = contains_later 1 4 (2 ∷ 3 ∷ 4 ∷ []) (contains_later 2 4 (3 ∷ 4 ∷ []) (contains_later 3 4 (4 ∷ []) (contains_first 4 [])))
      small_kind false true = contains_first 1 (3 ∷ 4 ∷ [])
      small_kind false false = contains_later 1 4 (3 ∷ 4 ∷ []) (contains_later 3 4 (4 ∷ []) (contains_first 4 []))

      third : (live : Bool) → Contains (on_reach parts (to.Anything live) onward).kinds access_to_dead_object
      third true = contains_later 1 3 (2 ∷ 3 ∷ 4 ∷ []) (contains_later 2 3 (3 ∷ 4 ∷ []) (contains_first 3 (4 ∷ [])))
      third false = contains_later 1 3 (3 ∷ 4 ∷ []) (contains_first 3 (4 ∷ []))

      by_block : (number : ℕ) (offset : ℤ) (found : Option Block) → slice_get state.memory number ≡ found → block_fault found offset count ≡ Some kind → (live : Bool) → has_live_object parts ≡ live → Contains (on_reach parts (to.Anything live) onward).kinds kind
      by_block number offset None stands' is live live_is = subst (λ (k : ℕ). Contains (on_reach parts (to.Anything live) onward).kinds k) (same_Some _ _ is) (third live)
      by_block number offset (Some block) stands' is live live_is = by_tests block.live refl (is_within (length block.bytes) offset count) is
        where
          outside : (live : Bool) → has_live_object parts ≡ live → block.live ≡ true → Contains (on_reach parts (to.Anything live) onward).kinds access_outside_object
          outside true is block_live = contains_later 1 2 (2 ∷ 3 ∷ 4 ∷ []) (contains_first 2 (3 ∷ 4 ∷ []))
          outside false is block_live = absurd (false≢true (sym is ∙ live_there number block stands' block_live))

          by_tests : (b : Bool) → block.live ≡ b → (c : Bool) → (if b then (if c then None else Some access_outside_object) else Some access_to_dead_object) ≡ Some kind → Contains (on_reach parts (to.Anything live) onward).kinds kind
          by_tests false dead c is = subst (λ (k : ℕ). Contains (on_reach parts (to.Anything live) onward).kinds k) (same_Some _ _ is) (third live)
          by_tests true block_live true is = absurd (none-some kind is)
          by_tests true block_live false is = subst (λ (k : ℕ). Contains (on_reach parts (to.Anything live) onward).kinds k) (same_Some _ _ is) (outside live live_is block_live)

      by_word : (word : Word) → given.word at ≡ word → (live : Bool) → has_live_object parts ≡ live → Contains (on_reach parts (to.Anything live) onward).kinds kind
      by_word (Plain number) is live live_is = subst (λ (k : ℕ). Contains (on_reach parts (to.Anything live) onward).kinds k) (same_Some _ _ (sym (plain_fault number is) ∙ fault)) (small_kind live (nat_lt number 4096))
      by_word (To number offset) is live live_is = by_block number offset (slice_get state.memory number) refl (ap (λ (w : Word). access_fault state.memory w count) (sym is) ∙ fault) live live_is
  kinds_listed (Address key offset First) stands names kind fault onward = absurd (false≢true names)
  kinds_listed (Address key offset Last) stands names kind fault onward = absurd (false≢true names)
  kinds_listed (Address key offset Each) stands names kind fault onward = absurd (false≢true names)
  kinds_listed (Address key offset Region) stands names kind fault onward = by_reach (reach_of parts at count) (address_says key offset stands)
    where
      by_reach : (reach : Reach) → Says reach (access_fault state.memory (given.word at) count) → Contains (on_reach parts reach onward).kinds kind
      by_reach to.Nothing says = absurd says
      by_reach (to.Fault other) says = subst (λ (k : ℕ). Contains (other ∷ []) k) (same_Some _ _ (sym says ∙ fault)) (contains_first other [])
      by_reach (to.Number small) says = absurd says
      by_reach (to.Anything live) says = absurd says
      by_reach (to.Room key from) says = absurd (none-some kind (sym says.0 ∙ fault))

  -- and where the value is an address or a constant, the state meets the one that is listed
  pub known_fault : (value : Value) → value_at parts.values at ≡ Some value → names_no_segment value ≡ true → (kind : ℕ) → reach_of parts at count ≡ to.Fault kind → access_fault state.memory (given.word at) count ≡ Some kind
  known_fault (Const number size) stands names kind is = plain_fault number (meets.values at (Const number size) stands) ∙ ap Some (fault_is (number_kind number) kind (sym (reach_by (Const number size) stands) ∙ is))
    where
      kind_in : Reach → ℕ
      kind_in to.Nothing = 0
      kind_in (to.Fault kind) = kind
      kind_in (to.Number small) = 0
      kind_in (to.Anything live) = 0
      kind_in (to.Room key from) = 0

      fault_is : (one other : ℕ) → to.Fault one ≡ to.Fault other → one ≡ other
      fault_is one other same = ap kind_in same
  known_fault (Number size) stands names kind is = absurd (differ (sym (reach_by (Number size) stands) ∙ is))
    where
      is_fault : Reach → Bool
      is_fault to.Nothing = false
      is_fault (to.Fault kind) = true
      is_fault (to.Number small) = false
      is_fault (to.Anything live) = false
      is_fault (to.Room key from) = false

      differ : to.Number (not (are_excluded parts at 4096)) ≡ to.Fault kind → ⊥
      differ same = false≢true (ap is_fault same)
  known_fault Any stands names kind is = absurd (differ (sym (reach_by Any stands) ∙ is))
    where
      is_fault : Reach → Bool
      is_fault to.Nothing = false
      is_fault (to.Fault kind) = true
      is_fault (to.Number small) = false
      is_fault (to.Anything live) = false
      is_fault (to.Room key from) = false

      differ : to.Anything (has_live_object parts) ≡ to.Fault kind → ⊥
      differ same = false≢true (ap is_fault same)
  known_fault (Address key offset First) stands names kind is = absurd (false≢true names)
  known_fault (Address key offset Last) stands names kind is = absurd (false≢true names)
  known_fault (Address key offset Each) stands names kind is = absurd (false≢true names)
  known_fault (Address key offset Region) stands names kind is = by_reach (reach_of parts at count) is (address_says key offset stands)
    where
      by_reach : (reach : Reach) → reach ≡ to.Fault kind → Says reach (access_fault state.memory (given.word at) count) → access_fault state.memory (given.word at) count ≡ Some kind
      by_reach reach same says = subst (λ (r : Reach). Says r (access_fault state.memory (given.word at) count)) same says
