-- What is kept of the members that a struct has so far: it stays while a context grows, and what one more member makes of it.
use Rattle.std.proofs.Common.{◌≡◌, ℕ, zero, suc, ◌<◌, List, [], ◌∷◌, ◌++◌, length, map, append-nil, Option, None, Some, inl, inr, refl, sym, ap, subst, ◌∙◌, arith}
use Rattle.std.specs.Prelude.{Bool as BoolValue, true, false, not, ◌&&◌, ◌||◌, All, is_some, option_map, nat_le, nat_lt, if◌then◌else◌}
use Rattle.std.specs.Str.{bytes_eq}
use Rattle.std.proofs.lemmas.Bool.{cases_lt}
use Rattle.std.proofs.lemmas.Bool.Decides.{nat_tests}
use Rattle.std.proofs.lemmas.List.{append_assoc, map-append, map_push}
use Rattle.std.proofs.lemmas.List.Elements.{All-append}
use Rattle.std.proofs.lemmas.Option.{slice_get-get_or, get_or_from_slice_get}
use Rattle.cbase.specs.declared.abi.Abi.{Abi}
use Rattle.cbase.specs.declared.abi.Abi.TheVariants.{Lp64}
use Rattle.cbase.specs.declared.ctype.CType.{CType}
use Rattle.cbase.specs.declared.ctype.CType.TheVariants.{Void}
use Rattle.cbase.specs.declared.layout.Layout.{Layout}
use Rattle.cbase.specs.declared.structs.Field.{Field}
use Rattle.cbase.specs.declared.structs.StructDef.{StructDef}
use Rattle.cbase.specs.Completing.{are_complete}
use Rattle.cbase.specs.Kept.{capped, IsSmall}
use Rattle.cbase.specs.declared.place.Place.{Place}
use Rattle.cbase.specs.declared.measure.Extent.{Extent}
use Rattle.cbase.specs.declared.measure.Extent.TheVariants.{Bytes, Incomplete, TooLarge}
use Rattle.cbase.specs.Layout.{layout_of, fields_layout, no_fields, with_field, padded, struct_at, extent_of}
use Rattle.cbase.proofs.Alike.{layout_alike, fields_alike}
use Rattle.cbase.proofs.Capped.{extent_of_kept}
use Rattle.cbase.proofs.Fields.{capped-with_field, capped-again, capped-fields_layout}
use Rattle.cbase.proofs.Deeper.{GivesMore, type_more}
use Rattle.cbase.proofs.Growing.{grown}
use Rattle.typing.specs.declared.ctypes.structs.Member.{Member}
use Rattle.typing.specs.ctypes.Structs.{field_of, fields_of}
use Rattle.typing.specs.ctypes.Table.{type_at}
use Rattle.typing.specs.environment.Names.{Entries, value_in, with_value}
use Rattle.typing.proofs.environment.Tables.{value-put}
use Rattle.typing.specs.declared.ctypes.found.Broken.{Broken}
use Rattle.typing.specs.declared.ctypes.found.Broken.TheVariants.{Construct, Rule}
use Rattle.typing.specs.declared.fault.Fault.{Fault}
use Rattle.typing.specs.Braces.{has_member, member, is_large_struct, member_faults, faults_of_member}
use Rattle.typing.specs.Faults.{unless, all_at, IsFirst}
use Rattle.typing.specs.Forms.{MemberParts}
use Rattle.typing.specs.NamedTypes.{is_over}
use Rattle.expressions.specs.Context.{Context, Agrees, Grows}
use Rattle.expressions.specs.Members.{AreMembers, layouts_of}
use Rattle.expressions.specs.declared.named_type.NamedType.{NamedType as NamedByNumber}
use Rattle.expressions.specs.Numbers.{Numbering, named_at, fields_at}
use Rattle.expressions.proofs.Growth.{Keeps, agrees_at, below_grows}

-- members as fields, where the types of their numbers are the same
abbrev pub fields_by : (ℕ → CType) → List Member → List Field
fields_by ctype members = map (λ member. record { name = member.name; ctype = ctype member.ctype }) members

fields_same : (first second : ℕ → CType) (members : List Member) → All (λ member. first member.ctype ≡ second member.ctype) members → fields_by first members ≡ fields_by second members
fields_same first second [] same = refl
fields_same first second (member ∷ members) same =
    let here : first member.ctype ≡ second member.ctype = same 0 member (omega arith) in
    let rest : All (λ m. first m.ctype ≡ second m.ctype) members = λ k d h. same (suc k) d (omega arith) in
    ap (λ (t : CType). let f : Field = record { name = member.name; ctype = t } in f ∷ fields_by first members) here
    ∙ ap (λ (fs : List Field). let f : Field = record { name = member.name; ctype = second member.ctype } in f ∷ fs) (fields_same first second members rest)

pub fields_at_are : (n : Numbering) (context : Context) (members : List Member) → Agrees n context → All (λ member. member.ctype < length context.types) members → fields_at n members ≡ fields_of context.types members
fields_at_are n context members agrees below =
    fields_same n.ctype (type_at context.types) members (λ k d h. agrees_at n context _ agrees (below k d h))

type_keeps : (old new : List CType) → Keeps old new → (number : ℕ) → number < length old → type_at new number ≡ type_at old number
type_keeps old new keeps number below = get_or_from_slice_get new number (type_at old number) Void (keeps number (type_at old number) (slice_get-get_or old number Void below))

fields_keep : (old new : List CType) → Keeps old new → (members : List Member) → All (λ member. member.ctype < length old) members → fields_of new members ≡ fields_of old members
fields_keep old new keeps members below = fields_same (type_at new) (type_at old) members (λ k d h. type_keeps old new keeps _ (below k d h))

one_more : (some more : Option Layout) → ((l : Layout) → some ≡ Some l → more ≡ Some l) → is_some some ≡ true → more ≡ some
one_more None more h is = cc
one_more (Some l) more h is = h l refl

pub both_true : (a b : BoolValue) → (a && b) ≡ true → (a ≡ true) × (b ≡ true)
both_true true b is = (refl, is)
both_true false b is = cc

-- fields that have layouts keep them
layouts_keep : (some more : List StructDef) → GivesMore (layout_of Lp64 some) (layout_of Lp64 more) → (fields : List Field) → are_complete some fields ≡ true
    → layouts_of more fields ≡ layouts_of some fields
layouts_keep some more h [] is = refl
layouts_keep some more h (field ∷ fields) is =
    let both = both_true (is_some (layout_of Lp64 some field.ctype)) (are_complete some fields) is in
    ap (λ (l : Option Layout). l ∷ layouts_of more fields) (one_more (layout_of Lp64 some field.ctype) (layout_of Lp64 more field.ctype) (h field.ctype) both.0)
    ∙ ap (λ (ls : List (Option Layout)). layout_of Lp64 some field.ctype ∷ ls) (layouts_keep some more h fields both.1)

complete_keeps : (some more : List StructDef) → GivesMore (layout_of Lp64 some) (layout_of Lp64 more) → (fields : List Field) → are_complete some fields ≡ true
    → are_complete more fields ≡ are_complete some fields
complete_keeps some more h [] is = refl
complete_keeps some more h (field ∷ fields) is =
    let both = both_true (is_some (layout_of Lp64 some field.ctype)) (are_complete some fields) is in
    ap (λ (l : Option Layout). is_some l && are_complete more fields) (one_more (layout_of Lp64 some field.ctype) (layout_of Lp64 more field.ctype) (h field.ctype) both.0)
    ∙ ap (λ (b : BoolValue). is_some (layout_of Lp64 some field.ctype) && b) (complete_keeps some more h fields both.1)

module _ (old new : Context) (grows : Grows old new) where
  layout_grows : GivesMore (layout_of Lp64 old.structs) (layout_of Lp64 new.structs)
  layout_grows = type_more Lp64 (struct_at Lp64 (length old.structs) old.structs) (struct_at Lp64 (length new.structs) new.structs)
      (grown Lp64 old.structs new.structs grows.structs (length old.structs) (length new.structs) grows.longer)

  pub are_members_grow : (members : List Member) (names : Entries (Unit {0})) (layout : Layout) → AreMembers old members names layout → AreMembers new members names layout
  are_members_grow members names layout are =
      let fields : fields_of new.types members ≡ fields_of old.types members = fields_keep old.types new.types grows.types members are.below in
      let layouts : layouts_of new.structs (fields_of old.types members) ≡ layouts_of old.structs (fields_of old.types members) = layouts_keep old.structs new.structs layout_grows (fields_of old.types members) are.complete in
      record {
        below = λ k d h. below_grows old new grows _ (are.below k d h);
        named = λ name. are.named name ∙ ap (has_member (Some name)) (sym fields);
        complete = ap (are_complete new.structs) fields ∙ (complete_keeps old.structs new.structs layout_grows (fields_of old.types members) are.complete ∙ are.complete);
        laid = λ rest.
            ap (λ (fs : List Field). option_map capped (fields_layout no_fields (layouts_of new.structs fs ++ rest))) fields
            ∙ (ap (λ (ls : List (Option Layout)). option_map capped (fields_layout no_fields (ls ++ rest))) layouts ∙ are.laid rest);
        small = are.small;
      }

-- a field behind others, with sizes as they are kept
capped_field : (before next : Layout) (field : Option Layout) (rest : List (Option Layout)) → Some next ≡ option_map capped field
    → option_map capped (fields_layout before (field ∷ rest)) ≡ option_map capped (fields_layout (capped (with_field before next)) rest)
capped_field before next None rest e = cc
capped_field before next (Some field) rest e =
    let same : next ≡ capped field = cc in
    capped-fields_layout (with_field before field) (capped (with_field before next)) rest
    (capped-with_field before before field next refl (sym (ap capped same ∙ capped-again field)) ∙ sym (capped-again (with_field before next)))

small_with : (before field : Layout) → IsSmall before → IsSmall field → IsSmall (capped (with_field before field))
small_with before field small also = (omega arith, omega (arith, small, also), omega (arith, small, also))

-- whether a struct has a member of a name, with one member more
has_pushed : (name : List ℕ) (fields : List Field) (field : Field) → has_member (Some name) (fields ++ field ∷ []) ≡ (if bytes_eq name field.name then true else has_member (Some name) fields)
has_pushed name [] field = step (bytes_eq name field.name)
  where
    step : (test : BoolValue) → (test || false) ≡ (if test then true else false)
    step true = refl
    step false = refl
has_pushed name (first ∷ fields) field =
    ap (λ (b : BoolValue). bytes_eq name first.name || b) (has_pushed name fields field) ∙ step (bytes_eq name first.name) (bytes_eq name field.name)
  where
    step : (here test : BoolValue) → (here || (if test then true else has_member (Some name) fields)) ≡ (if test then true else (here || has_member (Some name) fields))
    step true true = refl
    step true false = refl
    step false test = refl

named_pushed : (asked name : List ℕ) (names : Entries (Unit {0})) (fields : List Field) (field : Field) → field.name ≡ name → is_some (value_in asked names) ≡ has_member (Some asked) fields
    → is_some (value_in asked (with_value name tt names)) ≡ has_member (Some asked) (fields ++ field ∷ [])
named_pushed asked name names fields field called are =
    ap (λ (o : Option (Unit {0})). is_some o) (value-put asked name tt names)
    ∙ (step (bytes_eq asked name) ∙ (ap (λ (n : List ℕ). if bytes_eq asked n then true else has_member (Some asked) fields) (sym called) ∙ sym (has_pushed asked fields field)))
  where
    step : (test : BoolValue) → is_some (if test then Some tt else value_in asked names) ≡ (if test then true else has_member (Some asked) fields)
    step true = refl
    step false = are

complete_pushed : (structs : List StructDef) (fields : List Field) (field : Field) → are_complete structs fields ≡ true → is_some (layout_of Lp64 structs field.ctype) ≡ true
    → are_complete structs (fields ++ field ∷ []) ≡ true
complete_pushed structs [] field are is = ap (λ (b : BoolValue). b && true) is
complete_pushed structs (first ∷ fields) field are is =
    let both = both_true (is_some (layout_of Lp64 structs first.ctype)) (are_complete structs fields) are in
    ap (λ (b : BoolValue). b && are_complete structs (fields ++ field ∷ [])) both.0 ∙ complete_pushed structs fields field both.1 is

is_laid : (next : Layout) (laid : Option Layout) → Some next ≡ option_map capped laid → is_some laid ≡ true
is_laid next None is = cc
is_laid next (Some laid) is = refl

-- what is the contrary of another thing has that as its own
pub contrary : (one other : BoolValue) → one ≡ not other → other ≡ not one
contrary one true is = ap not (sym is)
contrary one false is = ap not (sym is)

-- whether a layout has more than 65,536 bytes is told of what is kept of it
abbrev over_of : Extent → BoolValue
over_of (Bytes size) = false
over_of Incomplete = false
over_of TooLarge = true

over_extent : (laid : Option Layout) → is_over laid ≡ over_of (extent_of laid)
over_extent None = refl
over_extent (Some laid) = step (nat_le laid.size 65536)
  where
    step : (test : BoolValue) → (if test then false else true) ≡ over_of (if test then Bytes laid.size else TooLarge)
    step true = refl
    step false = refl

over_kept : (first second : Option Layout) → option_map capped first ≡ option_map capped second → is_over first ≡ is_over second
over_kept first second same =
    over_extent first ∙ (ap over_of (sym (extent_of_kept first) ∙ (ap extent_of same ∙ extent_of_kept second)) ∙ sym (over_extent second))

lt_is : (most size : ℕ) → nat_lt most size ≡ (if nat_le size most then false else true)
lt_is most size = elim (cases_lt most size) [
  | inl large ↦ let above : nat_lt most size ≡ true = grind (arith, nat_tests) in
      let below : nat_le size most ≡ false = grind (arith, nat_tests) in
      rw (above, below) refl
  | inr small ↦ let above : nat_lt most size ≡ false = grind (arith, nat_tests) in
      let below : nat_le size most ≡ true = grind (arith, nat_tests) in
      rw (above, below) refl
]

over_none : (before : Layout) (laid : Option Layout) → None ≡ option_map capped laid → is_over (fields_layout before (laid ∷ [])) ≡ false
over_none before None is = refl
over_none before (Some laid) is = cc

module _ (context : Context) (members : List Member) (names : Entries (Unit {0})) (layout : Layout) (are : AreMembers context members names layout) where
  -- the struct with one more field
  laid_pushed : (field : Field) (rest : List (Option Layout)) → option_map capped (fields_layout no_fields (layouts_of context.structs (fields_of context.types members ++ field ∷ []) ++ rest))
      ≡ option_map capped (fields_layout layout (layout_of Lp64 context.structs field.ctype ∷ rest))
  laid_pushed field rest =
      ap (λ (ls : List (Option Layout)). option_map capped (fields_layout no_fields (ls ++ rest))) (map-append (λ (f : Field). layout_of Lp64 context.structs f.ctype) (fields_of context.types members) (field ∷ []))
      ∙ (ap (λ (ls : List (Option Layout)). option_map capped (fields_layout no_fields ls)) (append_assoc (layouts_of context.structs (fields_of context.types members)) (layout_of Lp64 context.structs field.ctype ∷ []) rest)
      ∙ are.laid (layout_of Lp64 context.structs field.ctype ∷ rest))

  large_as : (abi : Abi) (name : Option (List ℕ)) (t : CType) → is_large_struct abi context.structs (fields_of context.types members ++ member name t ∷ [])
      ≡ is_over (fields_layout layout (layout_of Lp64 context.structs t ∷ []))
  large_as abi name t =
      let all : List Field = fields_of context.types members ++ member name t ∷ [] in
      ap (λ (ls : List (Option Layout)). is_over (fields_layout no_fields ls)) (fields_alike (layout_of abi context.structs) (layout_of Lp64 context.structs) (layout_alike abi context.structs) all)
      ∙ over_kept (fields_layout no_fields (layouts_of context.structs all)) (fields_layout layout (layout_of Lp64 context.structs t ∷ []))
      (sym (ap (λ (ls : List (Option Layout)). option_map capped (fields_layout no_fields ls)) (append-nil (layouts_of context.structs all))) ∙ laid_pushed (member name t) [])

  -- a member without a size leaves none to the struct
  pub large_without : (abi : Abi) (name : Option (List ℕ)) (t : CType) → None ≡ option_map capped (layout_of Lp64 context.structs t)
      → false ≡ is_large_struct abi context.structs (fields_of context.types members ++ member name t ∷ [])
  large_without abi name t unsized = sym (large_as abi name t ∙ over_none layout (layout_of Lp64 context.structs t) unsized)

  pub large_with : (abi : Abi) (name : Option (List ℕ)) (t : CType) (next behind whole : Layout) → Some next ≡ option_map capped (layout_of Lp64 context.structs t)
      → behind ≡ capped (with_field layout next) → whole ≡ capped (padded behind)
      → nat_lt 65536 whole.size ≡ is_large_struct abi context.structs (fields_of context.types members ++ member name t ∷ [])
  large_with abi name t next behind whole known is ends =
      let kept : option_map capped (fields_layout layout (layout_of Lp64 context.structs t ∷ [])) ≡ option_map capped (Some whole) =
      capped_field layout next (layout_of Lp64 context.structs t) [] known
      ∙ (ap (λ (l : Layout). Some (capped (padded l))) (sym is) ∙ (ap Some (sym (capped-again (padded behind))) ∙ ap (λ (l : Layout). Some (capped l)) (sym ends))) in
      lt_is 65536 whole.size ∙ sym (large_as abi name t ∙ over_kept (fields_layout layout (layout_of Lp64 context.structs t ∷ [])) (Some whole) kept)

  -- one member more
  pub are_pushed : (pushed : Member) (next behind : Layout) (name : List ℕ) (list : List Member) (called : Entries (Unit {0})) → pushed.name ≡ name → IsSmall next
      → list ≡ members ++ pushed ∷ [] → called ≡ with_value name tt names → behind ≡ capped (with_field layout next)
      → pushed.ctype < length context.types → Some next ≡ option_map capped (layout_of Lp64 context.structs (type_at context.types pushed.ctype)) → AreMembers context list called behind
  are_pushed pushed next behind name list called is small listed entered lies below known =
      let fields : fields_of context.types list ≡ fields_of context.types members ++ field_of context.types pushed ∷ [] = ap (fields_of context.types) listed ∙ map_push (field_of context.types) members pushed in
      record {
        below = subst (λ (ms : List Member). All (λ (m : Member). m.ctype < length context.types) ms) (sym listed) (All-append (λ (m : Member). m.ctype < length context.types) members (pushed ∷ []) are.below below_one);
        named = λ asked. ap (λ (es : Entries (Unit {0})). is_some (value_in asked es)) entered
            ∙ (named_pushed asked name names (fields_of context.types members) (field_of context.types pushed) is (are.named asked) ∙ ap (has_member (Some asked)) (sym fields));
        complete = ap (are_complete context.structs) fields
            ∙ complete_pushed context.structs (fields_of context.types members) (field_of context.types pushed) are.complete (is_laid next (layout_of Lp64 context.structs (type_at context.types pushed.ctype)) known);
        laid = λ rest.
            ap (λ (fs : List Field). option_map capped (fields_layout no_fields (layouts_of context.structs fs ++ rest))) fields
            ∙ (laid_pushed (field_of context.types pushed) rest
            ∙ (capped_field layout next (layout_of Lp64 context.structs (type_at context.types pushed.ctype)) rest known
            ∙ ap (λ (l : Layout). option_map capped (fields_layout l rest)) (sym lies)));
        small = subst IsSmall (sym lies) (small_with layout next are.small small);
      }
    where
      below_one : All (λ (m : Member). m.ctype < length context.types) (pushed ∷ [])
      below_one zero d h = below
      below_one (suc k) d h = absurd (omega (arith, h))

behind_nothing : (front back : List Fault) → front ++ back ≡ [] → back ≡ []
behind_nothing [] back is = is
behind_nothing (one ∷ front) back is = cc

holds_unless : (holds : BoolValue) (place : Place) (broken : Broken) → unless holds place broken ≡ [] → holds ≡ true
holds_unless true place broken is = refl
holds_unless false place broken is = cc

sized_unbroken : (place : Place) (found : Option Broken) (of_bits large twice sized : BoolValue) → member_faults place found of_bits large twice sized ≡ [] → sized ≡ true
sized_unbroken place found of_bits large twice sized nothing =
    holds_unless sized place (Rule 3) (behind_nothing (unless (not twice) place (Rule 2)) (unless sized place (Rule 3))
    (behind_nothing (unless (not large) place (Construct 19)) _ (behind_nothing (unless (not of_bits) place (Construct 21)) _ (behind_nothing (all_at place found) _ nothing))))

no_layout : (layout : Option Layout) → None ≡ option_map capped layout → is_some layout ≡ true → ⊥
no_layout None none some = absurd (cc some)
no_layout (Some layout) none some = absurd (cc none)

-- a member at which nothing is broken has a size
pub taken_sized : (context : Context) (abi : Abi) (members : List Member) (parts : MemberParts) (named : NamedByNumber) (first : Fault) → named.ctype < length context.types
    → ((n : Numbering) → Agrees n context → faults_of_member abi context.structs (fields_at n members) parts (named_at n named) ≡ [])
    → None ≡ option_map capped (layout_of Lp64 context.structs (type_at context.types named.ctype))
    → (n : Numbering) → Agrees n context → IsFirst (faults_of_member abi context.structs (fields_at n members) parts (named_at n named)) first
taken_sized context abi members parts named first below nothing none n agrees =
    let sized : is_some (layout_of Lp64 context.structs (n.ctype named.ctype)) ≡ true =
    sized_unbroken parts.place named.found (is_some parts.bits) (is_large_struct abi context.structs (fields_at n members ++ member parts.name (n.ctype named.ctype) ∷ []))
    (has_member parts.name (fields_at n members)) (is_some (layout_of Lp64 context.structs (n.ctype named.ctype))) (nothing n agrees) in
    absurd (no_layout (layout_of Lp64 context.structs (type_at context.types named.ctype)) none
    (subst (λ (t : CType). is_some (layout_of Lp64 context.structs t) ≡ true) (agrees_at n context named.ctype agrees below) sized))
