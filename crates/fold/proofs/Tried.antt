-- The folds that the links of a graph name, tried one after another; and each foldable one is among them.
use Rattle.std.proofs.Common.{◌≡◌, ℕ, suc, ◌+◌, ◌<◌, ◌≤◌, Bool, true, false, ◌&&◌, List, [], ◌∷◌, ◌++◌, length, nat_eq, nat_le, nat_lt, pos, Option, None, Some, refl, sym, ◌∙◌, ap, subst, eq-eqb, eqb-true, leb-true, ltb-true, lt-ltb, arith, ◌⊎◌, inl, inr}
use Rattle.std.specs.Prelude.{slice_get, if◌then◌else◌}
use Rattle.std.specs.Option.{option_map_or}
use Rattle.std.specs.Ordering.{int_eq}
use Rattle.std.proofs.lemmas.Bool.{false≢true, ltb-false}
use Rattle.std.proofs.lemmas.Option.{same_Some, none-some}
use Rattle.fold.specs.declared.fold.Fold.{Fold}
use Rattle.graph.specs.declared.edges.HasValue.{HasValue}
use Rattle.graph.specs.declared.object.Object.{Object}
use Rattle.graph.specs.declared.object.Shape.{Shape}
use Rattle.graph.specs.declared.object.Shape.TheVariants.{Region as RegionShape}
use Rattle.graph.specs.declared.value.Value.{Value}
use Rattle.graph.specs.declared.parts.KeyedObject.{KeyedObject}
use Rattle.graph.specs.declared.parts.Parts.{Parts}
use Rattle.graph.specs.Maps.{object_at, value_at}
use Rattle.graph.specs.Nodes.{links_in, link_edges, back_edges}
use Rattle.graph.specs.WellFormed.{IsWellFormed, passes_at, are_in_order, back_fits, is_null}
use Rattle.graph.specs.Whole.{IsGraph}
use Rattle.graph.proofs.Found.{found-all}
use Rattle.graph.proofs.Tests.{and_left, and_right}
use Rattle.materialise.proofs.SplitRegion.{each_at}
use Rattle.fold.specs.Candidates.{place_of, place_in, place_at, fold_back, twofold_at, twofold_folds, folds_behind, folds_of, folds_with, folds_to, folds_from, folds_at, folds_along, folds_by, folds_in, candidates}
use Rattle.fold.specs.Foldable.{link_passes, IsFoldable, IsUnfoldable, IsFirstFold}
use Rattle.fold.specs.Linked.{key_in, are_zeros, or_null, link_in, onward_in, backward_in, is_first, is_last, leads_on, leads_back}
use Rattle.fold.proofs.Case.{IsCase, case_of, folded_is}
use Rattle.fold.proofs.Ends.{apart, later, first_at, back_at}
use Rattle.fold.proofs.Given.{IsSegmentOf, shape_of, same_offset}
use Rattle.fold.proofs.Rooms.{sizes, head_inside, one_places, other_places}
use Rattle.fold.proofs.There.{whole, object_first}
use Rattle.materialise.proofs.SplitRows.{found_past}
use Rattle.graph.specs.declared.parts.KeyedValue.{KeyedValue}

-- none of so many folds is foldable
abbrev pub AreTried : Parts → List Fold → ℕ → Type 0
AreTried parts all at = (earlier : ℕ) (other : Fold) → earlier < at → slice_get all earlier ≡ Some other → IsUnfoldable parts other

pub record IsTried (parts : Parts) (all : List Fold) (at : ℕ) : Type 0 where
  pub none : AreTried parts all at

pub tried_first : (parts : Parts) (all : List Fold) → IsTried parts all 0
tried_first parts all = record { none = λ earlier other less is. absurd (omega arith) }

pub tried_next : (parts : Parts) (all : List Fold) (at : ℕ) (fold : Fold) → IsTried parts all at → slice_get all at ≡ Some fold → IsUnfoldable parts fold → IsTried parts all (at + 1)
tried_next parts all at fold tried here not_this = record { none = λ earlier other less is. by_place earlier other less is (nat_eq earlier at) refl }
  where
    by_place : (earlier : ℕ) (other : Fold) → earlier < at + 1 → slice_get all earlier ≡ Some other → (b : Bool) → nat_eq earlier at ≡ b → IsUnfoldable parts other
    by_place earlier other less is true same = subst (IsUnfoldable parts) (same_Some _ _ (sym here ∙ ap (slice_get all) (sym (eqb-true _ _ same)) ∙ is)) not_this
    by_place earlier other less is false differ = tried.none earlier other (below (λ same. false≢true (sym differ ∙ eq-eqb _ _ same))) is
      where
        below : (earlier ≡ at → ⊥) → earlier < at
        below apart = by_less (nat_lt earlier at) refl
          where
            by_less : (b : Bool) → nat_lt earlier at ≡ b → earlier < at
            by_less true is = ltb-true _ _ is
            by_less false is = let far = ltb-false earlier at is in absurd (apart (omega arith))

pub tried_found : (parts : Parts) (all : List Fold) (at : ℕ) (fold : Fold) → all ≡ candidates parts → IsTried parts all at → slice_get all at ≡ Some fold → IsFoldable parts fold → IsFirstFold parts (Some fold)
tried_found parts all at fold same tried here foldable = (
  foldable,
  record { place = at; among = ap (λ (folds : List Fold). slice_get folds at) (sym same) ∙ here; none = λ earlier other less is. tried.none earlier other less (ap (λ (folds : List Fold). slice_get folds earlier) same ∙ is) },
)

-- Each foldable one is named.

abbrev pub Among : Fold → List Fold → Type 0
Among fold [] = ⊥
Among fold (first ∷ rest) = (first ≡ fold) ⊎ Among fold rest

among_left : (fold : Fold) (one other : List Fold) → Among fold one → Among fold (one ++ other)
among_left fold [] other among = absurd among
among_left fold (first ∷ rest) other (inl same) = inl same
among_left fold (first ∷ rest) other (inr later) = inr (among_left fold rest other later)

among_right : (fold : Fold) (one other : List Fold) → Among fold other → Among fold (one ++ other)
among_right fold [] other among = among
among_right fold (first ∷ rest) other among = inr (among_right fold rest other among)

among_place : (fold : Fold) (folds : List Fold) → Among fold folds → (place : ℕ) × (place < length folds) × (slice_get folds place ≡ Some fold)
among_place fold [] among = absurd among
among_place fold (first ∷ rest) (inl same) = (0, omega arith, ap Some same)
among_place fold (first ∷ rest) (inr later) = let found = among_place fold rest later in (suc found.0, (let below = found.1 in omega arith), found.2)

among_in : (parts : Parts) (fold : Fold) (object : Object) (entries : List KeyedObject) → object_at entries fold.first ≡ Some object → Among fold (folds_by parts fold.first object object.shape) → Among fold (folds_in parts entries)
among_in parts fold object [] is among = absurd (none-some object is)
among_in parts fold object (entry ∷ rest) is among = by_key (nat_eq entry.key fold.first) refl is (λ found. among_in parts fold object rest found among)
  where
    by_key : (b : Bool) → nat_eq entry.key fold.first ≡ b → (if b then Some entry.object else object_at rest fold.first) ≡ Some object → (object_at rest fold.first ≡ Some object → Among fold (folds_in parts rest)) →
        Among fold (folds_by parts entry.key entry.object entry.object.shape ++ folds_in parts rest)
    by_key true same found other =
        among_left fold (folds_by parts entry.key entry.object entry.object.shape) (folds_in parts rest)
        (subst (λ (k : ℕ). Among fold (folds_by parts k entry.object entry.object.shape)) (sym (eqb-true _ _ same)) (subst (λ (o : Object). Among fold (folds_by parts fold.first o o.shape)) (sym (same_Some _ _ found)) among))
    by_key false differ found other = among_right fold (folds_by parts entry.key entry.object entry.object.shape) (folds_in parts rest) (other found)

among_along : (parts : Parts) (fold : Fold) (object : Object) (edges : List HasValue) (key : ℕ) → key_in fold.next 8 edges ≡ Some key → Among fold (folds_at parts fold.first object fold.next key) → Among fold (folds_along parts fold.first object edges)
among_along parts fold object [] key is among = absurd (none-some key is)
among_along parts fold object (edge ∷ rest) key is among = by_test (nat_eq edge.at fold.next && nat_eq edge.size 8) refl is (λ found. among_along parts fold object rest key found among)
  where
    by_test : (b : Bool) → (nat_eq edge.at fold.next && nat_eq edge.size 8) ≡ b → (if b then Some edge.value else key_in fold.next 8 rest) ≡ Some key →
        (key_in fold.next 8 rest ≡ Some key → Among fold (folds_along parts fold.first object rest)) →
        Among fold ((if nat_eq edge.size 8 then folds_at parts fold.first object edge.at edge.value else []) ++ folds_along parts fold.first object rest)
    by_test true same found other =
        let at = eqb-true _ _ (and_left (nat_eq edge.at fold.next) (nat_eq edge.size 8) same) in
        among_left fold (if nat_eq edge.size 8 then folds_at parts fold.first object edge.at edge.value else []) (folds_along parts fold.first object rest)
        (subst (λ (b : Bool). Among fold (if b then folds_at parts fold.first object edge.at edge.value else [])) (sym (and_right (nat_eq edge.at fold.next) (nat_eq edge.size 8) same))
        (subst (λ (n : ℕ). Among fold (folds_at parts fold.first object n edge.value)) (sym at) (subst (λ (k : ℕ). Among fold (folds_at parts fold.first object fold.next k)) (sym (same_Some _ _ found)) among)))
    by_test false differ found other = among_right fold (if nat_eq edge.size 8 then folds_at parts fold.first object edge.at edge.value else []) (folds_along parts fold.first object rest) (other found)

among_twofold : (parts : Parts) (fold : Fold) (edges : List HasValue) (key : ℕ) → fold.twofold ≡ true → nat_lt fold.next fold.prev ≡ true → place_at parts fold.first key ≡ Some fold.back → key_in fold.prev 8 edges ≡ Some key →
    Among fold (twofold_folds parts fold.first fold.second fold.head fold.next edges)
among_twofold parts fold [] key twofold order back is = absurd (none-some key is)
among_twofold parts fold (edge ∷ rest) key twofold order back is =
    by_test (nat_eq edge.at fold.prev && nat_eq edge.size 8) refl is (λ found. among_twofold parts fold rest key twofold order back found)
  where
    made : Among fold (record { first = fold.first; second = fold.second; twofold = true; head = fold.head; next = fold.next; prev = fold.prev; back = fold.back } ∷ [])
    made = inl (ap (λ (b : Bool). (let f : Fold = record { first = fold.first; second = fold.second; twofold = b; head = fold.head; next = fold.next; prev = fold.prev; back = fold.back } in f)) (sym twofold))

    by_test : (b : Bool) → (nat_eq edge.at fold.prev && nat_eq edge.size 8) ≡ b → (if b then Some edge.value else key_in fold.prev 8 rest) ≡ Some key →
        (key_in fold.prev 8 rest ≡ Some key → Among fold (twofold_folds parts fold.first fold.second fold.head fold.next rest)) →
        Among fold (twofold_at parts fold.first fold.second fold.head fold.next edge ++ twofold_folds parts fold.first fold.second fold.head fold.next rest)
    by_test true same found other =
        let at = eqb-true _ _ (and_left (nat_eq edge.at fold.prev) (nat_eq edge.size 8) same) in
        let long = and_right (nat_eq edge.at fold.prev) (nat_eq edge.size 8) same in
        among_left fold (twofold_at parts fold.first fold.second fold.head fold.next edge) (twofold_folds parts fold.first fold.second fold.head fold.next rest)
        (subst (λ (n : ℕ). Among fold (if nat_lt fold.next n && nat_eq edge.size 8 then fold_back fold.first fold.second fold.head fold.next n (place_at parts fold.first edge.value) else [])) (sym at)
        (subst (λ (b : Bool). Among fold (if b && nat_eq edge.size 8 then fold_back fold.first fold.second fold.head fold.next fold.prev (place_at parts fold.first edge.value) else [])) (sym order)
        (subst (λ (b : Bool). Among fold (if b then fold_back fold.first fold.second fold.head fold.next fold.prev (place_at parts fold.first edge.value) else [])) (sym long)
        (subst (λ (o : Option ℕ). Among fold (fold_back fold.first fold.second fold.head fold.next fold.prev o)) (sym (ap (place_at parts fold.first) (same_Some _ _ found) ∙ back)) made))))
    by_test false differ found other = among_right fold (twofold_at parts fold.first fold.second fold.head fold.next edge) (twofold_folds parts fold.first fold.second fold.head fold.next rest) (other found)

place_small : (place : ℕ) → place ≤ 65536 → place_of (pos place) ≡ Some place
place_small place small = ap (λ (b : Bool). if b then Some place else None) (lt-ltb place 4294967296 (omega arith))

none_past' : (parts : Parts) → IsGraph parts → value_at parts.values (length parts.values) ≡ None
none_past' parts graph = found_past (λ (entry : KeyedValue). entry.key) (λ entry. entry.value) parts.values (λ place entry stands. graph.keys.values place entry stands) (length parts.values) (omega arith)

-- what a region holds as a link to a value that is there, an edge holds
linked_key : (parts : Parts) → IsGraph parts → (test : Value → Bool) (at : ℕ) (edges : List HasValue) (plane : List ℕ) → link_passes parts test (link_in (length parts.values) at edges plane) ≡ true →
    (key : ℕ) × (key_in at 8 edges ≡ Some key) × (passes_at parts test key ≡ true)
linked_key parts graph test at edges plane passes = by_key (key_in at 8 edges) refl passes
  where
    by_zeros : (b : Bool) → link_passes parts test (if b then Some (length parts.values) else None) ≡ true → ⊥
    by_zeros false passes = false≢true passes
    by_zeros true passes = false≢true (sym (ap (λ (o : Option Value). option_map_or test o false) (none_past' parts graph)) ∙ passes)

    by_key : (found : Option ℕ) → key_in at 8 edges ≡ found → link_passes parts test (or_null (length parts.values) (are_zeros at plane) found) ≡ true → (key : ℕ) × (key_in at 8 edges ≡ Some key) × (passes_at parts test key ≡ true)
    by_key None is passes = absurd (by_zeros (are_zeros at plane) passes)
    by_key (Some key) is passes = (key, is, passes)

module _ (parts : Parts) (graph : IsGraph parts) (fold : Fold) (foldable : IsFoldable parts fold) where
  case : IsCase parts fold
  case = case_of parts fold foldable.neighbours

  form : IsWellFormed (later parts graph fold case)
  form = subst (λ (p : Parts). IsWellFormed p) (folded_is parts fold case) foldable.well_formed

  joint_there : object_at (later parts graph fold case).objects fold.first ≡ Some (whole parts graph fold case.one case.other case.first (apart parts graph fold case) case.next_value case.prev_value)
  joint_there = object_first parts graph fold case.one case.other case.first (apart parts graph fold case) case.next_value case.prev_value

  small : case.one.size ≤ 65536
  small = leb-true _ _ (found-all (λ (entry : KeyedObject). entry.key) (λ entry. entry.object) (λ (object : Object). nat_le object.size 65536) parts.objects fold.first case.one graph.well_formed.objects_are_small case.first)

  head_place : place_of (pos fold.head) ≡ Some fold.head
  head_place = let inside = head_inside parts fold case.one case.other case.are in let room = small in place_small fold.head (omega arith)

  abbrev back_test : Bool → Bool
  back_test b = if b then nat_lt fold.back case.one.size else (nat_eq fold.prev 0 && (nat_eq fold.back 0 && passes_at (later parts graph fold case) is_null case.prev_value))

  back_fit : back_test fold.twofold ≡ true
  back_fit =
      each_at (λ key object. back_fits (later parts graph fold case) object.size (links_in object.shape)) fold.first (whole parts graph fold case.one case.other case.first (apart parts graph fold case) case.next_value case.prev_value)
      (later parts graph fold case).objects form.links_back_fit joint_there

  back_place : fold.twofold ≡ true → place_of (pos fold.back) ≡ Some fold.back
  back_place twofold = let inside = ltb-true _ _ (sym (ap back_test twofold) ∙ back_fit) in let room = small in place_small fold.back (omega arith)

  order : fold.twofold ≡ true → nat_lt fold.next fold.prev ≡ true
  order twofold =
      let ordered = each_at (λ key object. are_in_order (link_edges object.shape)) fold.first (whole parts graph fold case.one case.other case.first (apart parts graph fold case) case.next_value case.prev_value)
      (later parts graph fold case).objects form.links_are_in_order joint_there in
      let both = sym (ap (λ (b : Bool). are_in_order (record { at = fold.next; size = 8; value = case.next_value } ∷ back_edges b fold.prev case.prev_value)) twofold) ∙ ordered in
      let apart' = leb-true (fold.next + 8) fold.prev (and_left (nat_le (fold.next + 8) fold.prev) true (and_left (nat_le (fold.next + 8) fold.prev && true) true both)) in
      lt-ltb fold.next fold.prev (omega arith)

  abbrev others : List Fold
  others = twofold_folds parts fold.first fold.second fold.head fold.next case.other.edges

  -- behind a region stands a region
  regions : case.other.shape ≡ RegionShape → Among fold (folds_behind parts fold.first fold.second fold.head fold.next RegionShape case.other.edges)
  regions region = by_way fold.twofold refl
    where
      by_way : (b : Bool) → fold.twofold ≡ b →
          Among fold (others ++ record { first = fold.first; second = fold.second; twofold = false; head = fold.head; next = fold.next; prev = 0; back = 0 } ∷ [])
      by_way false one_way =
          let fit = sym (ap back_test one_way) ∙ back_fit in
          let prev = eqb-true _ _ (and_left (nat_eq fold.prev 0) (nat_eq fold.back 0 && passes_at (later parts graph fold case) is_null case.prev_value) fit) in
          let back = eqb-true _ _ (and_left (nat_eq fold.back 0) (passes_at (later parts graph fold case) is_null case.prev_value) (and_right (nat_eq fold.prev 0) (nat_eq fold.back 0 && passes_at (later parts graph fold case) is_null case.prev_value) fit)) in
          among_right fold others (record { first = fold.first; second = fold.second; twofold = false; head = fold.head; next = fold.next; prev = 0; back = 0 } ∷ [])
          (inl
          (ap (λ (b : Bool). (let f : Fold = record { first = fold.first; second = fold.second; twofold = b; head = fold.head; next = fold.next; prev = 0; back = 0 } in f)) (sym one_way)
          ∙ ap (λ (n : ℕ). (let f : Fold = record { first = fold.first; second = fold.second; twofold = fold.twofold; head = fold.head; next = fold.next; prev = n; back = 0 } in f)) (sym prev)
          ∙ ap (λ (n : ℕ). (let f : Fold = record { first = fold.first; second = fold.second; twofold = fold.twofold; head = fold.head; next = fold.next; prev = fold.prev; back = n } in f)) (sym back)))
      by_way true twofold =
          let link = linked_key parts graph (leads_back fold.first fold.back) fold.prev case.other.edges case.other.plane
          (sym (ap (link_passes parts (leads_back fold.first fold.back))
          (ap (λ (b : Bool). if b then backward_in (length parts.values) fold.prev case.other.shape case.other.edges case.other.plane else Some (length parts.values)) twofold
          ∙ ap (λ (s : Shape). backward_in (length parts.values) fold.prev s case.other.edges case.other.plane) region)) ∙ case.back twofold) in
          let address = back_at parts fold.first fold.back link.0 link.2 in
          let offset = same_offset address.0 (pos fold.back) (and_left (int_eq address.0 (pos fold.back)) (is_last address.1) (and_right (nat_eq fold.first fold.first) (int_eq address.0 (pos fold.back) && is_last address.1) address.3)) in
          let place : place_at parts fold.first link.0 ≡ Some fold.back =
          ap (λ (o : Option Value). option_map_or (place_in fold.first) o None) address.2 ∙ ap (λ (b : Bool). if b then place_of address.0 else None) (eq-eqb fold.first fold.first refl) ∙ ap place_of offset ∙ back_place twofold in
          among_left fold others (record { first = fold.first; second = fold.second; twofold = false; head = fold.head; next = fold.next; prev = 0; back = 0 } ∷ []) (among_twofold parts fold case.other.edges link.0 twofold (order twofold) place link.1)

  among_of : Among fold (folds_of parts fold.first fold.second fold.head fold.next case.one.shape case.other.shape case.other.edges)
  among_of = by_one (shape_of fold case.one.shape (one_places parts fold case.one case.other case.are))
    where
      by_other : (case.other.shape ≡ RegionShape) ⊎ IsSegmentOf fold case.other.shape → Among fold (folds_behind parts fold.first fold.second fold.head fold.next case.other.shape case.other.edges)
      by_other (inl region) = subst (λ (s : Shape). Among fold (folds_behind parts fold.first fold.second fold.head fold.next s case.other.edges)) (sym region) (regions region)
      by_other (inr segment) = subst (λ (s : Shape). Among fold (folds_behind parts fold.first fold.second fold.head fold.next s case.other.edges)) (sym segment.is) (inl refl)

      by_one : (case.one.shape ≡ RegionShape) ⊎ IsSegmentOf fold case.one.shape → Among fold (folds_of parts fold.first fold.second fold.head fold.next case.one.shape case.other.shape case.other.edges)
      by_one (inl region) =
          subst (λ (s : Shape). Among fold (folds_of parts fold.first fold.second fold.head fold.next s case.other.shape case.other.edges)) (sym region) (by_other (shape_of fold case.other.shape (other_places parts fold case.one case.other case.are)))
      by_one (inr segment) = subst (λ (s : Shape). Among fold (folds_of parts fold.first fold.second fold.head fold.next s case.other.shape case.other.edges)) (sym segment.is) (inl refl)

  among_at : (key : ℕ) → passes_at parts (leads_on fold.second fold.head) key ≡ true → Among fold (folds_at parts fold.first case.one fold.next key)
  among_at key passes =
      let address = first_at parts fold.second fold.head key passes in
      let offset = same_offset address.0 (pos fold.head) (and_left (int_eq address.0 (pos fold.head)) (is_first address.1) (and_right (nat_eq fold.second fold.second) (int_eq address.0 (pos fold.head) && is_first address.1) address.3)) in
      subst (λ (o : Option Value). Among fold (folds_from parts fold.first fold.next case.one o)) (sym address.2)
      (subst (λ (o : Option ℕ). Among fold (folds_to parts fold.first fold.next case.one fold.second o)) (sym (ap place_of offset ∙ head_place))
      (subst (λ (o : Option Object). Among fold (folds_with parts fold.first fold.second fold.head fold.next case.one o)) (sym case.second)
      (subst (λ (b : Bool). Among fold (if b then folds_of parts fold.first fold.second fold.head fold.next case.one.shape case.other.shape case.other.edges else []))
      (sym (eq-eqb case.other.size case.one.size (sym (sizes parts fold case.one case.other case.are)))) among_of)))

  pub named : Among fold (candidates parts)
  named = among_in parts fold case.one parts.objects case.first (by_one (shape_of fold case.one.shape (one_places parts fold case.one case.other case.are)))
    where
      by_one : (case.one.shape ≡ RegionShape) ⊎ IsSegmentOf fold case.one.shape → Among fold (folds_by parts fold.first case.one case.one.shape)
      by_one (inl region) =
          let link = linked_key parts graph (leads_on fold.second fold.head) fold.next case.one.edges case.one.plane
          (sym (ap (link_passes parts (leads_on fold.second fold.head)) (ap (λ (s : Shape). onward_in (length parts.values) fold.next s case.one.edges case.one.plane) region)) ∙ case.on) in
          subst (λ (s : Shape). Among fold (folds_by parts fold.first case.one s)) (sym region) (among_along parts fold case.one case.one.edges link.0 link.1 (among_at link.0 link.2))
      by_one (inr segment) =
          subst (λ (s : Shape). Among fold (folds_by parts fold.first case.one s)) (sym segment.is)
          (among_at segment.next_value
          (sym (ap (link_passes parts (leads_on fold.second fold.head)) (ap (λ (s : Shape). onward_in (length parts.values) fold.next s case.one.edges case.one.plane) segment.is)) ∙ case.on))

pub none_left : (parts : Parts) → IsGraph parts → (all : List Fold) (at : ℕ) → all ≡ candidates parts → IsTried parts all at → length all ≤ at → IsFirstFold parts None
none_left parts graph all at same tried over fold foldable =
    let found = among_place fold all (subst (λ (folds : List Fold). Among fold folds) (sym same) (named parts graph fold foldable)) in
    tried.none found.0 fold (let below = found.1 in omega arith) found.2 foldable
