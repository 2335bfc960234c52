-- What a graph stands for, the folded one stands for.
use Rattle.std.proofs.Common.{◌≡◌, ℕ, zero, suc, ◌+◌, ◌-◌, ◌^◌, ◌<◌, ◌≤◌, Bool, true, false, ◌&&◌, not, List, [], ◌∷◌, ◌++◌, length, nat_eq, nat_le, nat_lt, ℤ, pos, Option, None, Some, refl, sym, ◌∙◌, ap, subst, eq-eqb, eqb-true, leb-true, ltb-true, arith, ◌⊎◌, inl, inr}
use Rattle.std.specs.Prelude.{slice_get, IsSome, option_map, ◌-ℤ◌, FitsSigned, if◌then◌else◌}
use Rattle.std.specs.Int.{w64}
use Rattle.std.specs.List.{list_all}
use Rattle.std.specs.Option.{option_map_or, option_and_then}
use Rattle.std.proofs.lemmas.Bool.{false≢true, ltb-false}
use Rattle.std.proofs.lemmas.Option.{same_Some, none-some}
use Rattle.bytes_core.specs.declared.block.Block.{Block}
use Rattle.bytes_core.specs.declared.word.Word.{Word}
use Rattle.bytes_core.specs.declared.word.Word.TheVariants.{To}
use Rattle.bytes_core.specs.Release.{is_heap}
use Rattle.bytes_core.specs.Value.{moved}
use Rattle.fold.specs.declared.fold.Fold.{Fold}
use Rattle.graph.specs.declared.edges.HasValue.{HasValue}
use Rattle.graph.specs.declared.object.Object.{Object}
use Rattle.graph.specs.declared.object.Shape.TheVariants.{Region as RegionShape}
use Rattle.graph.specs.declared.value.Target.{Target}
use Rattle.graph.specs.declared.value.Target.TheVariants.{Region, First, Last, Each}
use Rattle.graph.specs.declared.value.Value.{Value}
use Rattle.graph.specs.declared.value.Value.TheVariants.{Const, Number, Any, Address}
use Rattle.graph.specs.declared.parts.KeyedObject.{KeyedObject}
use Rattle.graph.specs.declared.parts.KeyedValue.{KeyedValue}
use Rattle.graph.specs.declared.parts.Named.{Named}
use Rattle.graph.specs.declared.parts.Parts.{Parts}
use Rattle.graph.specs.Maps.{object_at, value_at, storage_of, held_by}
use Rattle.graph.specs.Nodes.{node_of, links_in, link_edges, own_node, back_edges}
use Rattle.graph.specs.Sizes.{is_sized}
use Rattle.graph.specs.State.{State}
use Rattle.graph.specs.WellFormed.{IsWellFormed, passes_at, is_outward, is_null, is_storage, back_fits}
use Rattle.graph.specs.Whole.{IsGraph}
use Rattle.graph.specs.Meaning.{first_of, end_word, AreNodes, HasBlocks, HasBlocksAs, IsRooted, IsRootedWord, maps_of, Assignment, IsOwned, Meets}
use Rattle.graph.proofs.Found.{Holds, Holds-some, IsSome-holds, found-all}
use Rattle.graph.proofs.Frames.{OnNamed-weaker, HasBlocks-agree}
use Rattle.graph.proofs.Sent.{passes-some}
use Rattle.graph.proofs.Tests.{and_left, and_right}
use Rattle.changes.proofs.Value.{map_same}
use Rattle.materialise.specs.WithOne.{HasOffset, HaveOffsets}
use Rattle.materialise.proofs.FirstWords.{still, to_still}
use Rattle.materialise.proofs.SplitRegion.{each_at}
use Rattle.materialise.proofs.SplitRows.{get_left, get_right, get_either}
use Rattle.fold.specs.Folded.{folded_value, of_first, of_second, least_of, stands_in}
use Rattle.fold.specs.Standing.{others as other_edges}
use Rattle.fold.specs.Linked.{backward_in}
use Rattle.fold.proofs.Case.{IsCase}
use Rattle.fold.proofs.Ends.{apart, later}
use Rattle.fold.proofs.Given.{IsSegmentOf, offset_in, behind, count, front, rest, given', blocks_first, blocks_other, word_there, word_past, own, own_there, value_is, closed, ends', still_there, becomes, Has', link_on, link_back, on_word, back_word, on_found, back_found, one_block, its_nodes, shape}
use Rattle.fold.proofs.Nodes.{joint, template, links, self', Row, row, first_node, second_node}
use Rattle.fold.proofs.Rooms.{one_live, other_live, one_heap, one_places, other_places, head_inside}
use Rattle.fold.proofs.Rows.{next_or, last_word, row_nodes, row_append, next_is, last_is}
use Rattle.fold.proofs.Stands.{owns_are}
use Rattle.fold.proofs.There.{object_first, object_second, value_old, value_more}

either_offset : (b : Bool) (key : ℕ) (offset : ℤ) (value : Value) → (if b then Some (Address key offset Last) else None) ≡ Some value → FitsSigned w64 offset → HasOffset value
either_offset true key offset value is fits = subst (λ (v : Value). HasOffset v) (same_Some _ _ is) fits
either_offset false key offset value is fits = absurd (none-some value is)

-- what a value becomes has an offset of 64 bits
offset_folded : (fold : Fold) (old value : Value) → folded_value fold old ≡ Some value → HasOffset old → HasOffset value
offset_folded fold (Const number size) value is fits = subst (λ (v : Value). HasOffset v) (same_Some _ _ is) tt
offset_folded fold (Number size) value is fits = subst (λ (v : Value). HasOffset v) (same_Some _ _ is) tt
offset_folded fold Any value is fits = subst (λ (v : Value). HasOffset v) (same_Some _ _ is) tt
offset_folded fold (Address object offset target) value is fits = by_first (nat_eq object fold.first) is
  where
    of_one : (target : Target) → of_first fold offset target ≡ Some value → HasOffset value
    of_one Region same = subst (λ (v : Value). HasOffset v) (same_Some _ _ same) fits
    of_one First same = subst (λ (v : Value). HasOffset v) (same_Some _ _ same) fits
    of_one Last same = absurd (none-some value same)
    of_one Each same = subst (λ (v : Value). HasOffset v) (same_Some _ _ same) fits

    of_other : (target : Target) → of_second fold offset target ≡ Some value → HasOffset value
    of_other Region same = either_offset fold.twofold fold.first offset value same fits
    of_other First same = absurd (none-some value same)
    of_other Last same = either_offset fold.twofold fold.first offset value same fits
    of_other Each same = subst (λ (v : Value). HasOffset v) (same_Some _ _ same) fits

    by_second : (b : Bool) → (if b then of_second fold offset target else Some (Address object offset target)) ≡ Some value → HasOffset value
    by_second true same = of_other target same
    by_second false same = subst (λ (v : Value). HasOffset v) (same_Some _ _ same) fits

    by_first : (b : Bool) → (if b then of_first fold offset target else if nat_eq object fold.second then of_second fold offset target else Some (Address object offset target)) ≡ Some value → HasOffset value
    by_first true same = of_one target same
    by_first false same = by_second (nat_eq object fold.second) same

either_rooted : (roots : List ℕ) (b : Bool) (key : ℕ) (offset : ℤ) (word : Word) → IsRootedWord roots word → IsRooted roots (if b then Some (Address key offset Last) else None) word
either_rooted roots true key offset word rooted = rooted
either_rooted roots false key offset word rooted = tt

-- what it leads to is held as before
rooted_folded : (roots : List ℕ) (fold : Fold) (value : Value) (word : Word) → IsRooted roots (Some value) word → IsRooted roots (folded_value fold value) word
rooted_folded roots fold (Const number size) word rooted = tt
rooted_folded roots fold (Number size) word rooted = tt
rooted_folded roots fold Any word rooted = tt
rooted_folded roots fold (Address object offset target) word rooted = by_first (nat_eq object fold.first)
  where
    of_one : (target : Target) → IsRooted roots (of_first fold offset target) word
    of_one Region = rooted
    of_one First = rooted
    of_one Last = tt
    of_one Each = rooted

    of_other : (target : Target) → IsRooted roots (of_second fold offset target) word
    of_other Region = either_rooted roots fold.twofold fold.first offset word rooted
    of_other First = tt
    of_other Last = either_rooted roots fold.twofold fold.first offset word rooted
    of_other Each = rooted

    by_second : (b : Bool) → IsRooted roots (if b then of_second fold offset target else Some (Address object offset target)) word
    by_second true = of_other target
    by_second false = rooted

    by_first : (b : Bool) → IsRooted roots (if b then of_first fold offset target else if nat_eq object fold.second then of_second fold offset target else Some (Address object offset target)) word
    by_first true = of_one target
    by_first false = by_second (nat_eq object fold.second)

-- the last of a row is a node
last_to : (back number : ℕ) (numbers : List ℕ) → (last : ℕ) × (last_word back (To number (pos back)) numbers ≡ To last (pos back))
last_to back number [] = (number, refl)
last_to back number (next ∷ numbers) = last_to back next numbers

long_append : (one other : List ℕ) → length (one ++ other) ≡ length one + length other
long_append [] other = omega arith
long_append (x ∷ one) other = let e = long_append one other in omega arith

module _ (parts : Parts) (graph : IsGraph parts) (fold : Fold) (case : IsCase parts fold) (offsets : HaveOffsets parts.values) (state : State) (given : Assignment) (meets : Meets (maps_of parts) state given)
    (form : IsWellFormed (later parts graph fold case)) where
  abbrev after : Parts
  after = behind parts graph fold case offsets state given meets

  abbrev many : ℕ
  many = count parts graph fold case offsets state given meets

  abbrev pub now : Assignment
  now = given' parts graph fold case offsets state given meets

  abbrev Has : Value → Word → Type 0
  Has value word = Has' parts graph fold case offsets state given meets value word

  there : (key : ℕ) → IsSome (value_at parts.values key) → now.word key ≡ given.word key
  there = word_there parts graph fold case offsets state given meets

  abbrev ahead : List ℕ
  ahead = front parts graph fold case offsets state given meets

  abbrev others : List ℕ
  others = rest parts graph fold case offsets state given meets

  -- Values.

  -- what stands at a key: what a value becomes, or one more
  by_key : (Q : ℕ → Value → Type 0) → ((key : ℕ) (old value : Value) → value_at parts.values key ≡ Some old → folded_value fold old ≡ Some value → Q key value) →
      ((key : ℕ) → many ≤ key → Q key (Const 0 8)) → ((key : ℕ) (offset : ℤ) → many ≤ key → Q key (Address fold.first offset Each)) → (key : ℕ) (value : Value) → value_at after.values key ≡ Some value → Q key value
  by_key Q kept null more key value is = by_test (nat_lt key many) refl
    where
      by_old : (found : Option Value) → value_at parts.values key ≡ found → option_and_then (folded_value fold) found ≡ Some value → Q key value
      by_old None stands same = absurd (none-some value same)
      by_old (Some old) stands same = kept key old value stands same

      by_place : (place : ℕ) → many + place ≡ key → value_at after.values (many + place) ≡ Some value → Q key value
      by_place zero same stands =
          subst (λ (v : Value). Q key v)
          (same_Some _ _ (sym (value_more parts graph fold case.one case.other case.first (apart parts graph fold case) case.next_value case.prev_value 0) ∙ stands)) (null key (omega arith))
      by_place (suc place) same stands =
          let owned = owns_are fold.first (stands_in parts fold case.other) (other_edges fold (node_of case.one).edges) place value (sym (value_more parts graph fold case.one case.other case.first (apart parts graph fold case) case.next_value case.prev_value (suc place)) ∙ stands) in
          subst (λ (v : Value). Q key v) (sym owned.1) (more key owned.0 (omega arith))

      by_test : (b : Bool) → nat_lt key many ≡ b → Q key value
      by_test true low =
          by_old (value_at parts.values key) refl
          (sym (value_old parts graph fold case.one case.other case.first (apart parts graph fold case) case.next_value case.prev_value key (ltb-true _ _ low)) ∙ is)
      by_test false high =
          let far = ltb-false key many high in
          let place : many + (key - many) ≡ key = omega arith in
          by_place (key - many) place (ap (value_at after.values) place ∙ is)

  values_now : (key : ℕ) (value : Value) → value_at after.values key ≡ Some value → Has value (now.word key)
  values_now =
      by_key (λ key value. Has value (now.word key))
      (λ key old value stands same. subst (λ (w : Word). Has value w) (sym (there key (IsSome-holds _ _ stands))) (becomes parts graph fold case offsets state given meets key old stands value same))
      (λ key far. word_past parts graph fold case offsets state given meets key far) (λ key offset far. word_past parts graph fold case offsets state given meets key far)

  offset_now : (key : ℕ) (value : Value) → value_at after.values key ≡ Some value → is_outward value ≡ true → HasOffset value
  offset_now =
      by_key (λ key value. is_outward value ≡ true → HasOffset value) (λ key old value stands same outward. offset_folded fold old value same (offset_in parts.values key old offsets stands)) (λ key far outward. tt)
      (λ key offset far outward. absurd (false≢true outward))

  -- what lies beyond the ends is the same where it is moved by nothing
  outward_still : (key place : ℕ) → passes_at after is_outward key ≡ true → moved (now.word key) (pos place -ℤ pos place) ≡ now.word key
  outward_still key place passes =
      let outward = sym (ap (λ (o : Option Value). option_map_or is_outward o false) held.is) ∙ passes in
      still place (length state.memory) now.blocks (ends' parts graph fold case offsets state given meets) held.item (now.word key) outward
      (found-all (λ (entry : KeyedValue). entry.key) (λ entry. entry.value) is_sized after.values key held.item form.values_are_sized held.is) (offset_now key held.item held.is outward) (values_now key held.item held.is)
    where
      held : Holds (value_at after.values key)
      held = Holds-some (value_at after.values key) (passes-some is_outward (value_at after.values key) passes)

  joint_there : object_at after.objects fold.first ≡ Some (joint parts graph fold case offsets state given meets)
  joint_there = object_first parts graph fold case.one case.other case.first (apart parts graph fold case) case.next_value case.prev_value

  links_outward : (passes_at after is_outward case.next_value && list_all (λ (link : HasValue). passes_at after is_outward link.value) (back_edges fold.twofold fold.prev case.prev_value)) ≡ true
  links_outward = each_at (λ key object. list_all (λ (link : HasValue). passes_at after is_outward link.value) (link_edges object.shape)) fold.first (joint parts graph fold case offsets state given meets) after.objects form.links_lead_on joint_there

  still_next : (place : ℕ) → moved (now.word case.next_value) (pos place -ℤ pos place) ≡ now.word case.next_value
  still_next place = outward_still case.next_value place (and_left (passes_at after is_outward case.next_value) _ links_outward)

  still_prev : (place : ℕ) → moved (now.word case.prev_value) (pos place -ℤ pos place) ≡ now.word case.prev_value
  still_prev place = by_way fold.twofold refl (and_right (passes_at after is_outward case.next_value) (list_all (λ (link : HasValue). passes_at after is_outward link.value) (back_edges fold.twofold fold.prev case.prev_value)) links_outward)
    where
      by_way : (b : Bool) → fold.twofold ≡ b → list_all (λ (link : HasValue). passes_at after is_outward link.value) (back_edges b fold.prev case.prev_value) ≡ true → moved (now.word case.prev_value) (pos place -ℤ pos place) ≡ now.word case.prev_value
      by_way true twofold all = outward_still case.prev_value place (and_left (passes_at after is_outward case.prev_value) true all)
      by_way false single all =
          let is : case.prev_value ≡ many = same_Some _ _ (sym case.backward_is ∙ ap (λ (b : Bool). if b then backward_in many fold.prev case.one.shape case.one.edges case.one.plane else Some many) single) in
          still place (length state.memory) now.blocks (ends' parts graph fold case offsets state given meets) (Const 0 8) (now.word case.prev_value) refl refl tt
          (word_past parts graph fold case offsets state given meets case.prev_value (let e = is in omega arith))

  small : case.one.size ≤ 65536
  small = leb-true _ _ (found-all (λ (entry : KeyedObject). entry.key) (λ entry. entry.object) (λ (object : Object). nat_le object.size 65536) parts.objects fold.first case.one graph.well_formed.objects_are_small case.first)

  head_fits : FitsSigned w64 (pos fold.head)
  head_fits = let inside = head_inside parts fold case.one case.other case.are in let room = small in let low : fold.head < 2 ^ 63 = omega arith in record { sfits = low }

  back_fits' : fold.twofold ≡ true → FitsSigned w64 (pos fold.back)
  back_fits' twofold =
      let fits = each_at (λ key object. back_fits after object.size (links_in object.shape)) fold.first (joint parts graph fold case offsets state given meets) after.objects form.links_back_fit joint_there in
      let inside = ltb-true _ _ (sym (ap (λ (b : Bool). if b then nat_lt fold.back case.one.size else (nat_eq fold.prev 0 && (nat_eq fold.back 0 && passes_at after is_null case.prev_value))) twofold) ∙ fits) in
      let room = small in
      let low : fold.back < 2 ^ 63 = omega arith in
      record { sfits = low }

  -- the links between the two
  on_is : now.word (link_on parts graph fold case offsets state given meets) ≡ next_or fold.head (now.word case.next_value) (first_of others)
  on_is = on_word parts graph fold case offsets state given meets ∙ next_is fold.head (now.word case.next_value) others (still_next fold.head)

  back_is : fold.twofold ≡ true → now.word (link_back parts graph fold case offsets state given meets) ≡ last_word fold.back (now.word case.prev_value) ahead
  back_is twofold = back_word parts graph fold case offsets state given meets twofold ∙ last_is fold.back (now.word case.prev_value) ahead (still_prev fold.back)

  still_on : moved (now.word (link_on parts graph fold case offsets state given meets)) (pos fold.head -ℤ pos fold.head) ≡ now.word (link_on parts graph fold case offsets state given meets)
  still_on = ap (λ (w : Word). moved w (pos fold.head -ℤ pos fold.head)) on_is ∙ by_blocks others ∙ sym on_is
    where
      by_blocks : (numbers : List ℕ) → moved (next_or fold.head (now.word case.next_value) (first_of numbers)) (pos fold.head -ℤ pos fold.head) ≡ next_or fold.head (now.word case.next_value) (first_of numbers)
      by_blocks [] = still_next fold.head
      by_blocks (number ∷ numbers) = to_still fold.head number (pos fold.head) head_fits

  still_back : fold.twofold ≡ true → moved (now.word (link_back parts graph fold case offsets state given meets)) (pos fold.back -ℤ pos fold.back) ≡ now.word (link_back parts graph fold case offsets state given meets)
  still_back twofold = ap (λ (w : Word). moved w (pos fold.back -ℤ pos fold.back)) (back_is twofold) ∙ by_blocks ahead ∙ sym (back_is twofold)
    where
      by_blocks : (numbers : List ℕ) → moved (last_word fold.back (now.word case.prev_value) numbers) (pos fold.back -ℤ pos fold.back) ≡ last_word fold.back (now.word case.prev_value) numbers
      by_blocks [] = still_prev fold.back
      by_blocks (number ∷ numbers) =
          let last = last_to fold.back number numbers in
          ap (λ (w : Word). moved w (pos fold.back -ℤ pos fold.back)) last.1 ∙ to_still fold.back last.0 (pos fold.back) (back_fits' twofold) ∙ sym last.1

  -- The whole.

  abbrev IsRow : Word → Word → List ℕ → Type 0
  IsRow onward backward numbers = Row parts graph fold case offsets state given meets onward backward numbers

  first_row : IsRow (now.word (link_on parts graph fold case offsets state given meets)) (now.word case.prev_value) ahead
  first_row =
      row parts graph fold case offsets state given meets fold.first case.one case.first (one_live parts fold case.one case.other case.are) (one_places parts fold case.one case.other case.are)
      (link_on parts graph fold case offsets state given meets) case.prev_value (on_found parts graph fold case offsets state given meets) (λ _. case.backward_is) (first_node parts graph fold case offsets state given meets) still_on
      (λ _. still_prev fold.back) (now.word case.prev_value) (λ _. refl)

  second_row : IsRow (now.word case.next_value) (last_word fold.back (now.word case.prev_value) ahead) others
  second_row =
      row parts graph fold case offsets state given meets fold.second case.other case.second (other_live parts fold case.one case.other case.are) (other_places parts fold case.one case.other case.are) case.next_value
      (link_back parts graph fold case offsets state given meets) case.onward_is (back_found parts graph fold case offsets state given meets) (second_node parts graph fold case offsets state given meets) (still_next fold.head)
      still_back (last_word fold.back (now.word case.prev_value) ahead) back_is

  nodes : AreNodes state.memory (joint parts graph fold case offsets state given meets) (links parts graph fold case offsets state given meets) (template parts graph fold case offsets state given meets) now.word
      (self' parts graph fold case offsets state given meets) (now.word case.next_value) (end_word None (now.word case.prev_value) fold.back (pos fold.back)) (ahead ++ others)
  nodes =
      row_nodes state.memory (joint parts graph fold case offsets state given meets) (links parts graph fold case offsets state given meets) (template parts graph fold case offsets state given meets) now.word
      (self' parts graph fold case offsets state given meets) (now.word case.next_value) (end_word None (now.word case.prev_value) fold.back (pos fold.back)) (ahead ++ others)
      (subst (λ (w : Word). IsRow w (end_word None (now.word case.prev_value) fold.back (pos fold.back)) (ahead ++ others)) (sym (still_next fold.head))
      (subst (λ (w : Word). IsRow (now.word case.next_value) w (ahead ++ others)) (sym (still_prev fold.back))
      (row_append state.memory (joint parts graph fold case offsets state given meets) (links parts graph fold case offsets state given meets) (template parts graph fold case offsets state given meets) now.word
      (self' parts graph fold case offsets state given meets) (now.word case.next_value) (now.word case.prev_value) ahead others (subst (λ (w : Word). IsRow w (now.word case.prev_value) ahead) on_is first_row) second_row)))

  enough_first : least_of case.one.shape ≤ length ahead
  enough_first =
      by_shape
      (shape parts graph fold case offsets state given meets fold.first case.one case.first (one_live parts fold case.one case.other case.are) (one_places parts fold case.one case.other case.are)
      (link_on parts graph fold case offsets state given meets) case.prev_value (on_found parts graph fold case offsets state given meets) (λ _. case.backward_is))
    where
      by_shape : (case.one.shape ≡ RegionShape) ⊎ IsSegmentOf fold case.one.shape → least_of case.one.shape ≤ length ahead
      by_shape (inl region) =
          let one = one_block parts graph fold case offsets state given meets fold.first case.one case.first (one_live parts fold case.one case.other case.are) (one_places parts fold case.one case.other case.are)
          (link_on parts graph fold case offsets state given meets) case.prev_value (on_found parts graph fold case offsets state given meets) (λ _. case.backward_is) region in
          let least = ap least_of region in
          let long = ap (λ (bs : List ℕ). length bs) one.1 in omega arith
      by_shape (inr segment) =
          let are = its_nodes parts graph fold case offsets state given meets fold.first case.one case.first (one_live parts fold case.one case.other case.are) (one_places parts fold case.one case.other case.are)
          (link_on parts graph fold case offsets state given meets) case.prev_value (on_found parts graph fold case offsets state given meets) (λ _. case.backward_is) segment in
          let least = ap least_of segment.is in
          let long : segment.least ≤ length ahead = are.0 in omega arith

  enough_second : least_of case.other.shape ≤ length others
  enough_second =
      by_shape
      (shape parts graph fold case offsets state given meets fold.second case.other case.second (other_live parts fold case.one case.other case.are) (other_places parts fold case.one case.other case.are) case.next_value
      (link_back parts graph fold case offsets state given meets) case.onward_is (back_found parts graph fold case offsets state given meets))
    where
      by_shape : (case.other.shape ≡ RegionShape) ⊎ IsSegmentOf fold case.other.shape → least_of case.other.shape ≤ length others
      by_shape (inl region) =
          let one = one_block parts graph fold case offsets state given meets fold.second case.other case.second (other_live parts fold case.one case.other case.are) (other_places parts fold case.one case.other case.are) case.next_value
          (link_back parts graph fold case offsets state given meets) case.onward_is (back_found parts graph fold case offsets state given meets) region in
          let least = ap least_of region in
          let long = ap (λ (bs : List ℕ). length bs) one.1 in omega arith
      by_shape (inr segment) =
          let are = its_nodes parts graph fold case offsets state given meets fold.second case.other case.second (other_live parts fold case.one case.other case.are) (other_places parts fold case.one case.other case.are) case.next_value
          (link_back parts graph fold case offsets state given meets) case.onward_is (back_found parts graph fold case offsets state given meets) segment in
          let least = ap least_of segment.is in
          let long : segment.least ≤ length others = are.0 in omega arith

  joint_has : HasBlocks state.memory (joint parts graph fold case offsets state given meets) now.word (self' parts graph fold case offsets state given meets) (ahead ++ others)
  joint_has =
      subst (λ (b : Bool). HasBlocksAs b state.memory (joint parts graph fold case offsets state given meets) now.word (self' parts graph fold case offsets state given meets) (ahead ++ others)) (sym (one_live parts fold case.one case.other case.are))
      (let long = long_append ahead others in let a = enough_first in let b = enough_second in let least : least_of case.one.shape + least_of case.other.shape ≤ length (ahead ++ others) = omega arith in least, nodes)

  -- Objects.

  -- an object that is none of the two stays
  was_there : (key : ℕ) (object : Object) → object_at after.objects key ≡ Some object → nat_eq key fold.first ≡ false → (nat_eq key fold.second ≡ false) × (object_at parts.objects key ≡ Some object)
  was_there key object stands other = by_second (nat_eq key fold.second) refl
    where
      by_second : (b : Bool) → nat_eq key fold.second ≡ b → (nat_eq key fold.second ≡ false) × (object_at parts.objects key ≡ Some object)
      by_second true same =
          absurd (none-some object (sym (object_second parts graph fold case.one case.other case.first (apart parts graph fold case) case.next_value case.prev_value) ∙ ap (object_at after.objects) (sym (eqb-true _ _ same)) ∙ stands))
      by_second false other' = (other', sym (still_there parts graph fold case offsets state given meets key other other') ∙ stands)

  objects_now : (key : ℕ) (object : Object) → object_at after.objects key ≡ Some object → HasBlocks state.memory object now.word (self' parts graph fold case offsets state given meets) (now.blocks key)
  objects_now key object stands = by_first (nat_eq key fold.first) refl
    where
      by_first : (b : Bool) → nat_eq key fold.first ≡ b → HasBlocks state.memory object now.word (self' parts graph fold case offsets state given meets) (now.blocks key)
      by_first true same =
          let key_is = eqb-true _ _ same in
          subst (λ (o : Object). HasBlocks state.memory o now.word (self' parts graph fold case offsets state given meets) (now.blocks key)) (same_Some _ _ (sym joint_there ∙ ap (object_at after.objects) (sym key_is) ∙ stands))
          (subst (λ (bs : List ℕ). HasBlocks state.memory (joint parts graph fold case offsets state given meets) now.word (self' parts graph fold case offsets state given meets) bs)
          (sym (ap now.blocks key_is ∙ blocks_first parts graph fold case offsets state given meets)) joint_has)
      by_first false other =
          let was = was_there key object stands other in
          subst (λ (bs : List ℕ). HasBlocks state.memory object now.word (self' parts graph fold case offsets state given meets) bs) (sym (blocks_other parts graph fold case offsets state given meets key other))
          (HasBlocks-agree given.word now.word (own parts graph fold case offsets state given meets) (self' parts graph fold case offsets state given meets) object.live state.memory object (given.blocks key)
          (OnNamed-weaker (λ value. IsSome (value_at parts.values value))
          (λ value. (given.word value ≡ now.word value) × (own parts graph fold case offsets state given meets value ≡ self' parts graph fold case offsets state given meets value))
          (λ value some. (sym (there value some), own_there parts graph fold case offsets state given meets value some)) object.shape (own_node object) ((closed parts graph fold case offsets state given meets).objects key object was.1))
          (meets.objects key object was.1))

  -- Owners.

  first_some : IsSome (object_at parts.objects fold.first)
  first_some = IsSome-holds _ _ case.first

  second_some : IsSome (object_at parts.objects fold.second)
  second_some = IsSome-holds _ _ case.second

  owner_second : (number : ℕ) → given.owner number ≡ fold.second → (now.owner number ≡ fold.first) × (now.place number ≡ length ahead + given.place number)
  owner_second number is =
      let same = eq-eqb (given.owner number) fold.second is in
      (ap (λ (b : Bool). if b then fold.first else given.owner number) same, ap (λ (b : Bool). if b then length ahead + given.place number else given.place number) same)

  owner_other : (number key : ℕ) → given.owner number ≡ key → nat_eq key fold.second ≡ false → (now.owner number ≡ key) × (now.place number ≡ given.place number)
  owner_other number key is other =
      let apart = ap (λ (k : ℕ). nat_eq k fold.second) is ∙ other in
      (ap (λ (b : Bool). if b then fold.first else given.owner number) apart ∙ is, ap (λ (b : Bool). if b then length ahead + given.place number else given.place number) apart)

  owned : (key place number : ℕ) → IsSome (object_at after.objects key) → slice_get (now.blocks key) place ≡ Some number → (now.owner number ≡ key) × (now.place number ≡ place)
  owned key place number some stands = by_first (nat_eq key fold.first) refl
    where
      in_front : (place number : ℕ) → slice_get ahead place ≡ Some number → (now.owner number ≡ fold.first) × (now.place number ≡ 0 + place)
      in_front place number is =
          let was = owner_other number fold.first (meets.owners fold.first place number first_some is) (apart parts graph fold case) in
          (was.0, was.1 ∙ meets.places fold.first place number first_some is ∙ (let e : place ≡ 0 + place = omega arith in e))

      in_rest : (place number : ℕ) → slice_get others place ≡ Some number → (now.owner number ≡ fold.first) × (now.place number ≡ 0 + length ahead + place)
      in_rest place number is =
          let was = owner_second number (meets.owners fold.second place number second_some is) in
          let place_is = meets.places fold.second place number second_some is in
          (was.0, was.1 ∙ (let e : length ahead + given.place number ≡ 0 + length ahead + place = omega arith in e))

      by_first : (b : Bool) → nat_eq key fold.first ≡ b → (now.owner number ≡ key) × (now.place number ≡ place)
      by_first true same =
          let key_is = eqb-true _ _ same in
          let found = get_either (λ place number. (now.owner number ≡ fold.first) × (now.place number ≡ place)) ahead others 0 in_front in_rest place number
          (ap (λ (bs : List ℕ). slice_get bs place) (sym (ap now.blocks key_is ∙ blocks_first parts graph fold case offsets state given meets)) ∙ stands) in
          (found.0 ∙ sym key_is, found.1 ∙ (let e : 0 + place ≡ place = omega arith in e))
      by_first false other =
          let held = Holds-some (object_at after.objects key) some in
          let was = was_there key held.item held.is other in
          let there' = ap (λ (bs : List ℕ). slice_get bs place) (sym (blocks_other parts graph fold case offsets state given meets key other)) ∙ stands in
          let owner = owner_other number key (meets.owners key place number (IsSome-holds _ _ was.1) there') was.0 in
          (owner.0, owner.1 ∙ meets.places key place number (IsSome-holds _ _ was.1) there')

  used_now : (number : ℕ) (block : Block) → slice_get state.memory number ≡ Some block → block.live ≡ true → IsOwned (maps_of after) now number
  used_now number block stands live = by_second (nat_eq (given.owner number) fold.second) refl (nat_eq (given.owner number) fold.first) refl
    where
      was : IsOwned (maps_of parts) given number
      was = meets.used number block stands live

      owner_is : (key place : ℕ) → now.owner number ≡ key → now.place number ≡ place → IsSome (object_at after.objects key) → slice_get (now.blocks key) place ≡ Some number → IsOwned (maps_of after) now number
      owner_is key place owner at some is = record {
        object = subst (λ (k : ℕ). IsSome (object_at after.objects k)) (sym owner) some;
        block = ap (λ (k : ℕ). slice_get (now.blocks k) (now.place number)) owner ∙ ap (slice_get (now.blocks key)) at ∙ is;
      }

      by_second : (a : Bool) → nat_eq (given.owner number) fold.second ≡ a → (b : Bool) → nat_eq (given.owner number) fold.first ≡ b → IsOwned (maps_of after) now number
      by_second true same b b_is =
          let key_is = eqb-true _ _ same in
          let owner = owner_second number key_is in
          owner_is fold.first (length ahead + given.place number) owner.0 owner.1 (IsSome-holds _ _ joint_there)
          (ap (λ (bs : List ℕ). slice_get bs (length ahead + given.place number)) (blocks_first parts graph fold case offsets state given meets) ∙ get_right ahead others (given.place number)
          ∙ ap (λ (k : ℕ). slice_get (given.blocks k) (given.place number)) (sym key_is) ∙ was.block)
      by_second false other true same =
          let key_is = eqb-true _ _ same in
          let owner = owner_other number fold.first key_is (apart parts graph fold case) in
          owner_is fold.first (given.place number) owner.0 owner.1 (IsSome-holds _ _ joint_there)
          (ap (λ (bs : List ℕ). slice_get bs (given.place number)) (blocks_first parts graph fold case offsets state given meets)
          ∙ get_left ahead others (given.place number) number (ap (λ (k : ℕ). slice_get (given.blocks k) (given.place number)) (sym key_is) ∙ was.block))
      by_second false other false other' =
          let owner = owner_other number (given.owner number) refl other in
          owner_is (given.owner number) (given.place number) owner.0 owner.1
          (subst (λ (o : Option Object). IsSome o) (sym (still_there parts graph fold case offsets state given meets (given.owner number) other' other)) was.object)
          (ap (λ (bs : List ℕ). slice_get bs (given.place number)) (blocks_other parts graph fold case offsets state given meets (given.owner number) other') ∙ was.block)

  -- Variables, registers and ports.

  -- no variable's storage is allocated
  storage_apart : (variable key : ℕ) → storage_of parts.variables variable ≡ Some key → nat_eq key fold.first ≡ false
  storage_apart variable key is = by_first (nat_eq key fold.first) refl
    where
      stored : option_map_or is_storage (object_at parts.objects key) false ≡ true
      stored = found-all (λ (named : Named). named.variable) (λ named. named.object) (λ key. option_map_or is_storage (object_at parts.objects key) false) parts.variables variable key graph.well_formed.variables_have_storage is

      by_first : (b : Bool) → nat_eq key fold.first ≡ b → nat_eq key fold.first ≡ false
      by_first false other = other
      by_first true same =
          let heap = one_heap parts fold case.one case.other case.are in
          let storage = sym (ap (λ (o : Option Object). option_map_or is_storage o false) (ap (object_at parts.objects) (eqb-true _ _ same) ∙ case.first)) ∙ stored in
          absurd (false≢true (sym (ap not heap) ∙ and_right case.one.live (not (is_heap case.one.kind)) storage))

  by_storage : (variable : ℕ) (found : Option ℕ) → storage_of parts.variables variable ≡ found → option_map given.blocks found ≡ option_map now.blocks found
  by_storage variable None is = refl
  by_storage variable (Some key) is = ap Some (sym (blocks_other parts graph fold case offsets state given meets key (storage_apart variable key is)))

  by_register : (register : ℕ) (found : Option ℕ) → held_by parts.registers register ≡ found → option_map given.word found ≡ option_map now.word found
  by_register register None is = refl
  by_register register (Some key) is = ap Some (sym (there key ((closed parts graph fold case offsets state given meets).registers register key is)))

  pub meets_folded : Meets (maps_of after) state now
  meets_folded = record {
    values = values_now;
    objects = objects_now;
    owners = λ key place number some stands. (owned key place number some stands).0;
    places = λ key place number some stands. (owned key place number some stands).1;
    used = used_now;
    variables = λ variable. meets.variables variable ∙ by_storage variable (storage_of parts.variables variable) refl;
    registers = λ register. meets.registers register ∙ by_register register (held_by parts.registers register) refl;
    ports = meets.ports ∙ sym (map_same now.word given.word parts.ports (λ place port stands. there port ((closed parts graph fold case offsets state given meets).ports place port stands)));
    rooted = λ place port stands.
        let some = (closed parts graph fold case offsets state given meets).ports place port stands in
        let held = Holds-some (value_at parts.values port) some in
        subst (λ (w : Word). IsRooted state.roots (value_at after.values port) w) (sym (there port some))
        (subst (λ (o : Option Value). IsRooted state.roots o (given.word port)) (sym (value_is parts graph fold case offsets state given meets port held.item held.is))
        (rooted_folded state.roots fold held.item (given.word port) (subst (λ (o : Option Value). IsRooted state.roots o (given.word port)) held.is (meets.rooted place port stands))));
    unequal = λ place pair stands equal.
        let some = (closed parts graph fold case offsets state given meets).unequal place pair stands in
        meets.unequal place pair stands (sym (there pair.left some.0) ∙ equal ∙ there pair.right some.1);
  }
