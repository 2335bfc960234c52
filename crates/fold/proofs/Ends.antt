-- A walk through ends of segments that may be empty comes to an end in a folded graph.
use Rattle.std.proofs.Common.{◌≡◌, ℕ, zero, suc, ◌+◌, ◌<◌, ◌≤◌, Bool, true, false, length, nat_eq, ℤ, pos, Option, None, Some, refl, sym, ◌∙◌, ap, subst, eq-eqb, eqb-true, arith}
use Rattle.std.specs.Prelude.{IsSome, if◌then◌else◌}
use Rattle.std.specs.Option.{option_map_or, option_and_then}
use Rattle.std.specs.Ordering.{int_eq}
use Rattle.std.proofs.lemmas.Bool.{false≢true}
use Rattle.std.proofs.lemmas.Option.{same_Some, none-some}
use Rattle.fold.specs.declared.fold.Fold.{Fold}
use Rattle.graph.specs.declared.object.Links.{Links}
use Rattle.graph.specs.declared.object.Object.{Object}
use Rattle.graph.specs.declared.object.Shape.{Shape}
use Rattle.graph.specs.declared.object.Shape.TheVariants.{Region as RegionShape, Segment}
use Rattle.graph.specs.declared.value.Target.{Target}
use Rattle.graph.specs.declared.value.Target.TheVariants.{Region, First, Last, Each}
use Rattle.graph.specs.declared.value.Value.{Value}
use Rattle.graph.specs.declared.value.Value.TheVariants.{Const, Number, Any, Address}
use Rattle.graph.specs.declared.parts.KeyedValue.{KeyedValue}
use Rattle.graph.specs.declared.parts.Parts.{Parts}
use Rattle.graph.specs.Closed.{OnNamed, IsClosed}
use Rattle.graph.specs.Maps.{object_at, value_at}
use Rattle.graph.specs.Meaning.{maps_of}
use Rattle.graph.specs.Nodes.{links_in, own_node}
use Rattle.graph.specs.WellFormed.{Ranks, Falls, ComesToAnEnd, passes_at, target_fits, leads_to_object}
use Rattle.graph.specs.Whole.{IsGraph}
use Rattle.graph.proofs.Closed.{closed_of}
use Rattle.graph.proofs.Found.{Holds, Holds-some, found-all}
use Rattle.graph.proofs.Sent.{passes-some}
use Rattle.graph.proofs.Tests.{and_left, and_right}
use Rattle.fold.specs.Foldable.{link_passes, has_neighbours}
use Rattle.fold.specs.Folded.{least_of, folded_value, of_first, of_second, folded}
use Rattle.fold.specs.Linked.{onward, onward_in, backward, backward_in, leads_on, leads_back}
use Rattle.fold.proofs.Case.{IsCase, case_of, folded_is}
use Rattle.fold.proofs.Rooms.{differ}
use Rattle.fold.proofs.There.{after, object_first, object_second, object_other, value_kept, value_null}

weaker : (ranks : Ranks) (low high : ℕ) (found : Option Value) → low ≤ high → Falls ranks low found → Falls ranks high found
weaker ranks low high None less falls = tt
weaker ranks low high (Some (Const number size)) less falls = tt
weaker ranks low high (Some (Number size)) less falls = tt
weaker ranks low high (Some Any) less falls = tt
weaker ranks low high (Some (Address object offset Region)) less falls = tt
weaker ranks low high (Some (Address object offset First)) less falls = let below : ranks.first object < low = falls in omega arith
weaker ranks low high (Some (Address object offset Last)) less falls = let below : ranks.last object < low = falls in omega arith
weaker ranks low high (Some (Address object offset Each)) less falls = tt

-- an object of a shape leads there with an address of the target that it asks for
pub fits_at : (parts : Parts) → IsGraph parts → (key object : ℕ) (offset : ℤ) (target : Target) (found : Object) → value_at parts.values key ≡ Some (Address object offset target) → object_at parts.objects object ≡ Some found →
    target_fits target found.shape ≡ true
fits_at parts graph key object offset target found is stands =
    sym (ap (λ (o : Option Object). option_map_or (λ found. target_fits target found.shape) o false) stands)
    ∙ found-all (λ (entry : KeyedValue). entry.key) (λ entry. entry.value) (leads_to_object parts) parts.values key (Address object offset target) graph.well_formed.addresses_lead_to_objects is

-- the first node of a segment at a place: what a value that leads on is
pub first_at : (parts : Parts) (key place at : ℕ) → passes_at parts (leads_on key place) at ≡ true → (offset : ℤ) × (target : Target) × (value_at parts.values at ≡ Some (Address key offset target)) × (leads_on key place (Address key offset target) ≡ true)
first_at parts key place at passes = by_value held.item held.is (sym (ap (λ (o : Option Value). option_map_or (leads_on key place) o false) held.is) ∙ passes)
  where
    held : Holds (value_at parts.values at)
    held = Holds-some (value_at parts.values at) (passes-some (leads_on key place) (value_at parts.values at) passes)

    by_value : (value : Value) → value_at parts.values at ≡ Some value → leads_on key place value ≡ true → (offset : ℤ) × (target : Target) × (value_at parts.values at ≡ Some (Address key offset target)) × (leads_on key place (Address key offset target) ≡ true)
    by_value (Const number size) is leads = absurd (false≢true leads)
    by_value (Number size) is leads = absurd (false≢true leads)
    by_value Any is leads = absurd (false≢true leads)
    by_value (Address object offset target) is leads =
        let same = eqb-true _ _ (and_left (nat_eq object key) _ leads) in
        (offset, target, is ∙ ap (λ (k : ℕ). Some (Address k offset target)) same, subst (λ (k : ℕ). leads_on key place (Address k offset target) ≡ true) same leads)

region_least : (shape : Shape) → target_fits Region shape ≡ true → least_of shape ≡ 1
region_least RegionShape fits = refl
region_least (Segment twofold head next prev back least next_value prev_value node) fits = absurd (false≢true fits)

-- a shape that may stand for no node is a segment
empty_links : (shape : Shape) → least_of shape ≡ 0 → (links : Links) × (links_in shape ≡ Some links) × (links.least ≡ 0)
empty_links RegionShape none = absurd (omega arith)
empty_links (Segment twofold head next prev back least next_value prev_value node) none = (_, refl, none)

pub onward_segment : (null : ℕ) (fold : Fold) (object : Object) (links : Links) → links_in object.shape ≡ Some links → onward null fold object ≡ Some links.next_value
onward_segment null fold object links linked = by_shape object.shape linked
  where
    by_shape : (shape : Shape) → links_in shape ≡ Some links → onward_in null fold.next shape object.edges object.plane ≡ Some links.next_value
    by_shape RegionShape is = absurd (none-some links is)
    by_shape (Segment twofold head next prev back least next_value prev_value node) is = ap (λ (l : Links). Some l.next_value) (same_Some _ _ is)

pub backward_segment : (null : ℕ) (fold : Fold) (object : Object) (links : Links) → fold.twofold ≡ true → links_in object.shape ≡ Some links → backward null fold object ≡ Some links.prev_value
backward_segment null fold object links twofold linked =
    ap (λ (b : Bool). if b then backward_in null fold.prev object.shape object.edges object.plane else Some null) twofold ∙ by_shape object.shape linked
  where
    by_shape : (shape : Shape) → links_in shape ≡ Some links → backward_in null fold.prev shape object.edges object.plane ≡ Some links.prev_value
    by_shape RegionShape is = absurd (none-some links is)
    by_shape (Segment twofold head next prev back least next_value prev_value node) is = ap (λ (l : Links). Some l.prev_value) (same_Some _ _ is)

pub back_at : (parts : Parts) (key place at : ℕ) → passes_at parts (leads_back key place) at ≡ true → (offset : ℤ) × (target : Target) × (value_at parts.values at ≡ Some (Address key offset target)) × (leads_back key place (Address key offset target) ≡ true)
back_at parts key place at passes = by_value held.item held.is (sym (ap (λ (o : Option Value). option_map_or (leads_back key place) o false) held.is) ∙ passes)
  where
    held : Holds (value_at parts.values at)
    held = Holds-some (value_at parts.values at) (passes-some (leads_back key place) (value_at parts.values at) passes)

    by_value : (value : Value) → value_at parts.values at ≡ Some value → leads_back key place value ≡ true → (offset : ℤ) × (target : Target) × (value_at parts.values at ≡ Some (Address key offset target)) × (leads_back key place (Address key offset target) ≡ true)
    by_value (Const number size) is leads = absurd (false≢true leads)
    by_value (Number size) is leads = absurd (false≢true leads)
    by_value Any is leads = absurd (false≢true leads)
    by_value (Address object offset target) is leads =
        let same = eqb-true _ _ (and_left (nat_eq object key) _ leads) in
        (offset, target, is ∙ ap (λ (k : ℕ). Some (Address k offset target)) same, subst (λ (k : ℕ). leads_back key place (Address k offset target) ≡ true) same leads)

module _ (parts : Parts) (graph : IsGraph parts) (fold : Fold) (case : IsCase parts fold) where
  pub apart : nat_eq fold.first fold.second ≡ false
  apart = differ parts fold case.one case.other case.are

  abbrev pub later : Parts
  later = after parts graph fold case.one case.other case.first apart case.next_value case.prev_value

  abbrev ranks : Ranks
  ranks = graph.well_formed.comes_to_an_end.ranks

  closed : IsClosed (maps_of parts)
  closed = closed_of parts graph.well_formed

  abbrev least : ℕ
  least = least_of case.one.shape + least_of case.other.shape

  -- a segment that has a node leads nowhere else
  abbrev low : ℕ → ℕ → ℕ
  low rank zero = suc rank
  low rank (suc n) = 0

  abbrev now : Ranks
  now = record {
    first = λ key. if nat_eq key fold.first then low (ranks.first fold.first) least else suc (ranks.first key);
    last = λ key. if nat_eq key fold.first then low (ranks.last fold.second) least else suc (ranks.last key);
  }

  first_is : now.first fold.first ≡ low (ranks.first fold.first) least
  first_is = ap (λ (b : Bool). if b then low (ranks.first fold.first) least else suc (ranks.first fold.first)) (eq-eqb fold.first fold.first refl)

  last_is : now.last fold.first ≡ low (ranks.last fold.second) least
  last_is = ap (λ (b : Bool). if b then low (ranks.last fold.second) least else suc (ranks.last fold.first)) (eq-eqb fold.first fold.first refl)

  first_else : (key : ℕ) → nat_eq key fold.first ≡ false → now.first key ≡ suc (ranks.first key)
  first_else key other = ap (λ (b : Bool). if b then low (ranks.first fold.first) least else suc (ranks.first key)) other

  last_else : (key : ℕ) → nat_eq key fold.first ≡ false → now.last key ≡ suc (ranks.last key)
  last_else key other = ap (λ (b : Bool). if b then low (ranks.last fold.second) least else suc (ranks.last key)) other

  low_some : (rank bound n : ℕ) → 1 ≤ n → low rank n < suc bound
  low_some rank bound zero some = absurd (omega arith)
  low_some rank bound (suc n) some = omega arith

  low_less : (rank bound n : ℕ) → rank < bound → low rank n < suc bound
  low_less rank bound zero less = omega arith
  low_less rank bound (suc n) less = omega arith

  low_none : (rank n : ℕ) → n ≡ 0 → low rank n ≡ suc rank
  low_none rank zero none = refl
  low_none rank (suc n) none = absurd (omega arith)

  -- addresses of the two

  first_falls : (rank : ℕ) (offset : ℤ) (target : Target) → target_fits target case.one.shape ≡ true → Falls ranks rank (Some (Address fold.first offset target)) → Falls now (suc rank) (of_first fold offset target)
  first_falls rank offset Region fits falls =
      let one = region_least case.one.shape fits in
      subst (λ (n : ℕ). n < suc rank) (sym first_is) (low_some (ranks.first fold.first) rank least (omega arith))
  first_falls rank offset First fits falls = subst (λ (n : ℕ). n < suc rank) (sym first_is) (low_less (ranks.first fold.first) rank least falls)
  first_falls rank offset Last fits falls = tt
  first_falls rank offset Each fits falls = tt

  last_falls : (rank : ℕ) (offset : ℤ) (b : Bool) → now.last fold.first < suc rank → Falls now (suc rank) (if b then Some (Address fold.first offset Last) else None)
  last_falls rank offset true less = less
  last_falls rank offset false less = tt

  second_falls : (rank : ℕ) (offset : ℤ) (target : Target) → target_fits target case.other.shape ≡ true → Falls ranks rank (Some (Address fold.second offset target)) → Falls now (suc rank) (of_second fold offset target)
  second_falls rank offset Region fits falls =
      let one = region_least case.other.shape fits in
      last_falls rank offset fold.twofold (subst (λ (n : ℕ). n < suc rank) (sym last_is) (low_some (ranks.last fold.second) rank least (omega arith)))
  second_falls rank offset First fits falls = tt
  second_falls rank offset Last fits falls = last_falls rank offset fold.twofold (subst (λ (n : ℕ). n < suc rank) (sym last_is) (low_less (ranks.last fold.second) rank least falls))
  second_falls rank offset Each fits falls = tt

  other_falls : (rank object : ℕ) (offset : ℤ) (target : Target) → nat_eq object fold.first ≡ false → Falls ranks rank (Some (Address object offset target)) → Falls now (suc rank) (Some (Address object offset target))
  other_falls rank object offset Region other falls = tt
  other_falls rank object offset First other falls = subst (λ (n : ℕ). n < suc rank) (sym (first_else object other)) (let less : ranks.first object < rank = falls in omega arith)
  other_falls rank object offset Last other falls = subst (λ (n : ℕ). n < suc rank) (sym (last_else object other)) (let less : ranks.last object < rank = falls in omega arith)
  other_falls rank object offset Each other falls = tt

  value_falls : (rank at : ℕ) (value : Value) → value_at parts.values at ≡ Some value → Falls ranks rank (Some value) → Falls now (suc rank) (folded_value fold value)
  value_falls rank at (Const number size) is falls = tt
  value_falls rank at (Number size) is falls = tt
  value_falls rank at Any is falls = tt
  value_falls rank at (Address object offset target) is falls = by_first (nat_eq object fold.first) refl
    where
      by_second : (b : Bool) → nat_eq object fold.second ≡ b → nat_eq object fold.first ≡ false → Falls now (suc rank) (if b then of_second fold offset target else Some (Address object offset target))
      by_second true same other =
          let key = eqb-true _ _ same in
          second_falls rank offset target (fits_at parts graph at object offset target case.other is (ap (object_at parts.objects) key ∙ case.second)) (subst (λ (k : ℕ). Falls ranks rank (Some (Address k offset target))) key falls)
      by_second false other' other = other_falls rank object offset target other falls

      by_first : (b : Bool) → nat_eq object fold.first ≡ b → Falls now (suc rank) (if b then of_first fold offset target else if nat_eq object fold.second then of_second fold offset target else Some (Address object offset target))
      by_first true same =
          let key = eqb-true _ _ same in
          first_falls rank offset target (fits_at parts graph at object offset target case.one is (ap (object_at parts.objects) key ∙ case.first)) (subst (λ (k : ℕ). Falls ranks rank (Some (Address k offset target))) key falls)
      by_first false other = by_second (nat_eq object fold.second) refl other

  found_falls : (rank at : ℕ) → IsSome (value_at parts.values at) → Falls ranks rank (value_at parts.values at) → Falls now (suc rank) (value_at later.values at)
  found_falls rank at some falls =
      let held = Holds-some (value_at parts.values at) some in
      subst (λ (o : Option Value). Falls now (suc rank) o)
      (sym (value_kept parts graph fold case.one case.other case.first apart case.next_value case.prev_value at some ∙ ap (option_and_then (folded_value fold)) held.is))
      (value_falls rank at held.item held.is (subst (λ (o : Option Value). Falls ranks rank o) held.is falls))

  -- the segment, where it may have no nodes

  ends_there : (key : ℕ) (object : Object) (links : Links) → object_at parts.objects key ≡ Some object → links_in object.shape ≡ Some links → IsSome (value_at parts.values links.next_value) × IsSome (value_at parts.values links.prev_value)
  ends_there key object links stands linked = by_shape object.shape (closed.objects key object stands) linked
    where
      by_shape : (shape : Shape) → OnNamed (λ value. IsSome (value_at parts.values value)) shape (own_node object) → links_in shape ≡ Some links → IsSome (value_at parts.values links.next_value) × IsSome (value_at parts.values links.prev_value)
      by_shape RegionShape named is = absurd (none-some links is)
      by_shape (Segment twofold head next prev back _ next_value prev_value node) named is =
          subst (λ (l : Links). IsSome (value_at parts.values l.next_value) × IsSome (value_at parts.values l.prev_value)) (same_Some _ _ is) named.1

  module _ (none : least ≡ 0) where
    one_links : (links : Links) × (links_in case.one.shape ≡ Some links) × (links.least ≡ 0)
    one_links = empty_links case.one.shape (omega arith)

    other_links : (links : Links) × (links_in case.other.shape ≡ Some links) × (links.least ≡ 0)
    other_links = empty_links case.other.shape (omega arith)

    next_is : case.next_value ≡ other_links.0.next_value
    next_is = same_Some _ _ (sym case.onward_is ∙ onward_segment (length parts.values) fold case.other other_links.0 other_links.1)

    -- the first one's rank is above the second one's
    first_above : ranks.first fold.second < ranks.first fold.first
    first_above =
        let link = first_at parts fold.second fold.head one_links.0.next_value (sym (ap (link_passes parts (leads_on fold.second fold.head)) (onward_segment (length parts.values) fold case.one one_links.0 one_links.1)) ∙ case.on) in
        by_target link.0 link.1 (fits_at parts graph one_links.0.next_value fold.second link.0 link.1 case.other link.2 case.second) link.3
        (subst (λ (o : Option Value). Falls ranks (ranks.first fold.first) o) link.2 (graph.well_formed.comes_to_an_end.next fold.first case.one one_links.0 case.first one_links.1 one_links.2))
      where
        by_target : (offset : ℤ) (target : Target) → target_fits target case.other.shape ≡ true → leads_on fold.second fold.head (Address fold.second offset target) ≡ true → Falls ranks (ranks.first fold.first) (Some (Address fold.second offset target)) →
            ranks.first fold.second < ranks.first fold.first
        by_target offset Region fits leads falls = absurd (let one = region_least case.other.shape fits in omega arith)
        by_target offset First fits leads falls = falls
        by_target offset Last fits leads falls = absurd (false≢true (and_right (int_eq offset (pos fold.head)) false (and_right (nat_eq fold.second fold.second) _ leads)))
        by_target offset Each fits leads falls = absurd (false≢true (and_right (int_eq offset (pos fold.head)) false (and_right (nat_eq fold.second fold.second) _ leads)))

    next_falls : Falls now (now.first fold.first) (value_at later.values case.next_value)
    next_falls =
        subst (λ (n : ℕ). Falls now n (value_at later.values case.next_value)) (sym (first_is ∙ low_none (ranks.first fold.first) least none))
        (weaker now (suc (ranks.first fold.second)) (suc (ranks.first fold.first)) (value_at later.values case.next_value) (let above = first_above in omega arith)
        (subst (λ (at : ℕ). Falls now (suc (ranks.first fold.second)) (value_at later.values at)) (sym next_is)
        (found_falls (ranks.first fold.second) other_links.0.next_value (ends_there fold.second case.other other_links.0 case.second other_links.1).0
        (graph.well_formed.comes_to_an_end.next fold.second case.other other_links.0 case.second other_links.1 other_links.2))))

    last_above : fold.twofold ≡ true → ranks.last fold.first < ranks.last fold.second
    last_above twofold =
        let link = back_at parts fold.first fold.back other_links.0.prev_value (sym (ap (link_passes parts (leads_back fold.first fold.back)) (backward_segment (length parts.values) fold case.other other_links.0 twofold other_links.1)) ∙ case.back twofold) in
        by_target link.0 link.1 (fits_at parts graph other_links.0.prev_value fold.first link.0 link.1 case.one link.2 case.first) link.3
        (subst (λ (o : Option Value). Falls ranks (ranks.last fold.second) o) link.2 (graph.well_formed.comes_to_an_end.prev fold.second case.other other_links.0 case.second other_links.1 other_links.2))
      where
        by_target : (offset : ℤ) (target : Target) → target_fits target case.one.shape ≡ true → leads_back fold.first fold.back (Address fold.first offset target) ≡ true → Falls ranks (ranks.last fold.second) (Some (Address fold.first offset target)) →
            ranks.last fold.first < ranks.last fold.second
        by_target offset Region fits leads falls = absurd (let one = region_least case.one.shape fits in omega arith)
        by_target offset Last fits leads falls = falls
        by_target offset First fits leads falls = absurd (false≢true (and_right (int_eq offset (pos fold.back)) false (and_right (nat_eq fold.first fold.first) _ leads)))
        by_target offset Each fits leads falls = absurd (false≢true (and_right (int_eq offset (pos fold.back)) false (and_right (nat_eq fold.first fold.first) _ leads)))

    prev_falls : Falls now (now.last fold.first) (value_at later.values case.prev_value)
    prev_falls = by_way fold.twofold refl
      where
        by_way : (b : Bool) → fold.twofold ≡ b → Falls now (now.last fold.first) (value_at later.values case.prev_value)
        by_way false single =
            let prev_is : case.prev_value ≡ length parts.values =
            same_Some _ _ (sym case.backward_is ∙ ap (λ (b : Bool). if b then backward_in (length parts.values) fold.prev case.one.shape case.one.edges case.one.plane else Some (length parts.values)) single) in
            subst (λ (o : Option Value). Falls now (now.last fold.first) o) (sym (ap (value_at later.values) prev_is ∙ value_null parts graph fold case.one case.other case.first apart case.next_value case.prev_value)) tt
        by_way true twofold =
            let prev_is : case.prev_value ≡ one_links.0.prev_value = same_Some _ _ (sym case.backward_is ∙ backward_segment (length parts.values) fold case.one one_links.0 twofold one_links.1) in
            subst (λ (n : ℕ). Falls now n (value_at later.values case.prev_value)) (sym (last_is ∙ low_none (ranks.last fold.second) least none))
            (weaker now (suc (ranks.last fold.first)) (suc (ranks.last fold.second)) (value_at later.values case.prev_value) (let above = last_above twofold in omega arith)
            (subst (λ (at : ℕ). Falls now (suc (ranks.last fold.first)) (value_at later.values at)) (sym prev_is)
            (found_falls (ranks.last fold.first) one_links.0.prev_value (ends_there fold.first case.one one_links.0 case.first one_links.1).1
            (graph.well_formed.comes_to_an_end.prev fold.first case.one one_links.0 case.first one_links.1 one_links.2))))

  -- the whole

  abbrev IsEnd : ℕ → Links → Type 0
  IsEnd key links = Falls now (now.first key) (value_at later.values links.next_value) × Falls now (now.last key) (value_at later.values links.prev_value)

  ends_at : (key : ℕ) (object : Object) (links : Links) → object_at later.objects key ≡ Some object → links_in object.shape ≡ Some links → links.least ≡ 0 → IsEnd key links
  ends_at key object links stands linked empty = by_first (nat_eq key fold.first) refl
    where
      by_second : (b : Bool) → nat_eq key fold.second ≡ b → nat_eq key fold.first ≡ false → IsEnd key links
      by_second true same other = absurd (none-some object (sym (object_second parts graph fold case.one case.other case.first apart case.next_value case.prev_value) ∙ ap (object_at later.objects) (sym (eqb-true _ _ same)) ∙ stands))
      by_second false other' other =
          let was = sym (object_other parts graph fold case.one case.other case.first apart case.next_value case.prev_value key other other') ∙ stands in
          let there = ends_there key object links was linked in (
            subst (λ (n : ℕ). Falls now n (value_at later.values links.next_value)) (sym (first_else key other)) (found_falls (ranks.first key) links.next_value there.0 (graph.well_formed.comes_to_an_end.next key object links was linked empty)),
            subst (λ (n : ℕ). Falls now n (value_at later.values links.prev_value)) (sym (last_else key other)) (found_falls (ranks.last key) links.prev_value there.1 (graph.well_formed.comes_to_an_end.prev key object links was linked empty)),
          )

      by_first : (b : Bool) → nat_eq key fold.first ≡ b → IsEnd key links
      by_first true same =
          let key_is = eqb-true _ _ same in
          let is = same_Some _ _ (sym (object_first parts graph fold case.one case.other case.first apart case.next_value case.prev_value) ∙ ap (object_at later.objects) (sym key_is) ∙ stands) in
          let links_are = same_Some _ _ (ap (λ (o : Object). links_in o.shape) is ∙ linked) in
          let none : least ≡ 0 = ap (λ (l : Links). l.least) links_are ∙ empty in
          subst (λ (k : ℕ). IsEnd k links) (sym key_is) (subst (λ (l : Links). IsEnd fold.first l) links_are (next_falls none, prev_falls none))
      by_first false other = by_second (nat_eq key fold.second) refl other

  pub comes : ComesToAnEnd later
  comes = record {
    ranks = now;
    next = λ key object links stands linked empty. (ends_at key object links stands linked empty).0;
    prev = λ key object links stands linked empty. (ends_at key object links stands linked empty).1;
  }

pub folded_ends : (parts : Parts) → IsGraph parts → (fold : Fold) → has_neighbours parts fold ≡ true → ComesToAnEnd (folded fold parts)
folded_ends parts graph fold has = let case = case_of parts fold has in subst (λ (p : Parts). ComesToAnEnd p) (sym (folded_is parts fold case)) (comes parts graph fold case)
