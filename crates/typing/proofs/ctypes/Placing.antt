-- Members by their names, while a struct is laid, and afterwards.
use Rattle.std.proofs.Common.{◌≡◌, ℕ, zero, suc, ◌+◌, ◌<◌, ◌≤◌, min, length, get_or, map, drop, List, [], ◌∷◌, Option, Some, None, cond, refl, sym, ap, subst, ◌∙◌, arith}
use Rattle.std.specs.Prelude.{Bool as BoolValue, true, false, is_some, nat_eq, All, IfSome, option_map, slice_get, if◌then◌else◌}
use Rattle.std.specs.Global.{Vec}
use Rattle.std.specs.Int.{next_multiple_of}
use Rattle.std.specs.List.{position_from}
use Rattle.std.specs.Str.{bytes_eq}
use Rattle.std.specs.Cmp.Lexicographic.{pointwise}
use Rattle.std.specs.Option.{option_map_or}
use Rattle.std.proofs.lemmas.Option.{slice_get-map, slice_get_within, get_or_from_slice_get}
use Rattle.std.proofs.lemmas.Slice.Eq.{bytes_eq-Decides}
use Rattle.indexmap.specs.IndexMap.{insert_entry}
use Rattle.cbase.specs.declared.abi.Abi.{Abi}
use Rattle.cbase.specs.declared.abi.Abi.TheVariants.{Lp64}
use Rattle.cbase.specs.declared.ctype.CType.{CType}
use Rattle.cbase.specs.declared.structs.Field.{Field}
use Rattle.cbase.specs.declared.structs.StructDef.{StructDef}
use Rattle.cbase.specs.declared.layout.Layout.{Layout}
use Rattle.cbase.specs.Layout.{layout_of, struct_at, with_field, no_fields}
use Rattle.cbase.specs.Kept.{capped}
use Rattle.cbase.specs.Offset.{index_of, offset_behind, offset_of, fields_of as struct_fields}
use Rattle.cbase.proofs.Alike.{fields_alike, layout_alike}
use Rattle.cbase.proofs.Deeper.{GivesMore, type_more}
use Rattle.cbase.proofs.Fields.{padded_size, capped-with_field, capped-again, drop-field}
use Rattle.cbase.proofs.Growing.{GrowsTo, grown}
use Rattle.cbase.proofs.Offsets.{position_further}
use Rattle.typing.specs.declared.ctypes.structs.Member.{Member}
use Rattle.typing.specs.declared.ctypes.structs.MemberAt.{MemberAt}
use Rattle.typing.specs.declared.ctypes.structs.Entry.{Entry}
use Rattle.typing.specs.ctypes.Table.{type_at}
use Rattle.typing.specs.ctypes.Structs.{field_of, fields_of, struct_of, read_off}
use Rattle.typing.specs.ctypes.Kept.{AreLaid}
use Rattle.typing.specs.ctypes.Places.{find_in, first_of, IsPlace, ArePlaces, IsPlaceBefore}

true_false : true ≡ false → ⊥
true_false e = cc

same_name : (a b : List ℕ) → bytes_eq a b ≡ bytes_eq b a
same_name a b = by (bytes_eq a b) refl (bytes_eq b a) refl
  where
    by : (x : BoolValue) → bytes_eq a b ≡ x → (y : BoolValue) → bytes_eq b a ≡ y → x ≡ y
    by true e true f = refl
    by false e false f = refl
    by true e false f = absurd (true_false (sym ((bytes_eq-Decides b a).1 (sym ((bytes_eq-Decides a b).0 e))) ∙ f))
    by false e true f = absurd (true_false (sym ((bytes_eq-Decides a b).1 (sym ((bytes_eq-Decides b a).0 f))) ∙ e))

-- a name that is there stays as it is
first_some : (found second : Option MemberAt) → is_some found ≡ true → found ≡ first_of found second
first_some None second e = cc
first_some (Some at) second e = refl

first_none : (found : Option MemberAt) → found ≡ first_of found None
first_none None = refl
first_none (Some at) = refl

pub stays_first : (entries : List (Vec ℕ × MemberAt)) (name : List ℕ) (at : MemberAt) → is_some (find_in entries name) ≡ true
    → (other : List ℕ) → find_in entries other ≡ first_of (find_in entries other) (if bytes_eq other name then Some at else None)
stays_first entries name at there other = by (bytes_eq other name) refl
  where
    by : (same : BoolValue) → bytes_eq other name ≡ same → find_in entries other ≡ first_of (find_in entries other) (if same then Some at else None)
    by true e = first_some (find_in entries other) (Some at) (ap (λ (n : List ℕ). is_some (find_in entries n)) ((bytes_eq-Decides other name).0 e) ∙ there)
    by false e = first_none (find_in entries other)

absent_here : (here : BoolValue) (at : MemberAt) (rest : Option MemberAt) → cond here (Some at) rest ≡ None → (here ≡ false) × (rest ≡ None)
absent_here true at rest e = cc
absent_here false at rest e = (refl, e)

first_cond : (here : BoolValue) (at : MemberAt) (found found_after second : Option MemberAt) → found_after ≡ first_of found second → cond here (Some at) found_after ≡ first_of (cond here (Some at) found) second
first_cond true at found found_after second e = refl
first_cond false at found found_after second e = e

-- a name that is new is found from then on
pub put_new : (copy : Vec ℕ) (at : MemberAt) (entries : List (Vec ℕ × MemberAt)) → find_in entries copy.items ≡ None
    → (other : List ℕ) → find_in (insert_entry (λ x y. bytes_eq x.items y.items) entries copy at) other ≡ first_of (find_in entries other) (if bytes_eq other copy.items then Some at else None)
put_new copy at [] absent other = refl
put_new copy at (entry ∷ entries) absent other =
    let split : (bytes_eq copy.items entry.0.items ≡ false) × (find_in entries copy.items ≡ None) = absent_here (bytes_eq copy.items entry.0.items) entry.1 (find_in entries copy.items) absent in
    ap (λ (b : BoolValue). find_in (if b then (entry.0, at) ∷ entries else entry ∷ insert_entry (λ x y. bytes_eq x.items y.items) entries copy at) other) split.0
    ∙ first_cond (bytes_eq other entry.0.items) entry.1 (find_in entries other) (find_in (insert_entry (λ x y. bytes_eq x.items y.items) entries copy at) other) (if bytes_eq other copy.items then Some at else None)
    (put_new copy at entries split.1 other)

-- offsets behind what is kept alike
offset_alike : (a b : Layout) (rest : List (Option Layout)) (index : ℕ) → capped a ≡ capped b
    → option_map (λ offset. min offset 65537) (offset_behind a rest index) ≡ option_map (λ offset. min offset 65537) (offset_behind b rest index)
offset_alike a b [] index e = refl
offset_alike a b (None ∷ rest) index e = refl
offset_alike a b (Some field ∷ rest) zero e = ap Some (padded_size 65537 a.size b.size field.alignment field.alignment (ap (λ (l : Layout). l.size) e) refl)
offset_alike a b (Some field ∷ rest) (suc index) e = offset_alike (with_field a field) (with_field b field) rest index (capped-with_field a b field field e refl)

-- where a field lies, and where those behind it do
pub record Behind (of_type : CType → Option Layout) (before next : Layout) (fields : List Field) (index : ℕ) : Type 0 where
  pub here : option_map (λ offset. min offset 65537) (offset_behind before (map (λ f. of_type f.ctype) (drop index fields)) 0) ≡ Some (min (next_multiple_of before.size next.alignment) 65537)
  pub later : (k : ℕ) → option_map (λ offset. min offset 65537) (offset_behind before (map (λ f. of_type f.ctype) (drop index fields)) (suc k))
      ≡ option_map (λ offset. min offset 65537) (offset_behind (capped (with_field before next)) (map (λ f. of_type f.ctype) (drop (index + 1) fields)) k)

behind_first : (before next : Layout) (first : Option Layout) (rest : List (Option Layout)) → Some next ≡ option_map capped first
    → (option_map (λ offset. min offset 65537) (offset_behind before (first ∷ rest) 0) ≡ Some (min (next_multiple_of before.size next.alignment) 65537))
    × ((k : ℕ) → option_map (λ offset. min offset 65537) (offset_behind before (first ∷ rest) (suc k)) ≡ option_map (λ offset. min offset 65537) (offset_behind (capped (with_field before next)) rest k))
behind_first before next None rest e = cc
behind_first before next (Some field) rest e =
    let known : next ≡ capped field = cc in
    let alignment : next.alignment ≡ field.alignment = ap (λ (l : Layout). l.alignment) known in (
      ap (λ (n : ℕ). Some (min (next_multiple_of before.size n) 65537)) (sym alignment),
      λ k. offset_alike (with_field before field) (capped (with_field before next)) rest k
          (capped-with_field before before field next refl (sym (ap capped known ∙ capped-again field)) ∙ sym (capped-again (with_field before next))),
    )

pub field_placed : (of_type : CType → Option Layout) (before next : Layout) (fields : List Field) (index : ℕ) (field : Field) → index < length fields → field ≡ get_or fields index field
    → Some next ≡ option_map capped (of_type field.ctype) → Behind of_type before next fields index
field_placed of_type before next fields index field within is e =
    let front : drop index fields ≡ field ∷ drop (index + 1) fields = drop-field fields index field within is in
    let both = behind_first before next (of_type field.ctype) (map (λ f. of_type f.ctype) (drop (index + 1) fields)) e in
    record {
      here = rw front both.0;
      later = λ k. rw front (both.1 k);
    }

first_found : (found found_after : Option MemberAt) (at : MemberAt) (second : Option MemberAt) → found ≡ Some at → found_after ≡ first_of found second → found_after ≡ Some at
first_found found found_after at second e after = after ∙ ap (λ (o : Option MemberAt). first_of o second) e

-- one member more
pub place_step : (structs : List StructDef) (fields : List Field) (members : List Member) (index : ℕ) (field : Field) (at : MemberAt) → index < length fields → field ≡ get_or fields index field
    → at.index ≡ index → option_map (λ offset. min offset 65537) (offset_of Lp64 structs fields index) ≡ Some at.offset → option_map (λ member. member.ctype) (slice_get members index) ≡ Some at.ctype
    → (name : List ℕ) (found after : Option MemberAt) → after ≡ first_of found (if bytes_eq name field.name then Some at else None)
    → IsPlaceBefore index structs fields members name found → IsPlaceBefore (index + 1) structs fields members name after
place_step structs fields members index field at within is is_index offset ctype name (Some old) after e before =
    subst (λ (o : Option MemberAt). IsPlaceBefore (index + 1) structs fields members name o) (sym e) before
place_step structs fields members index field at within is is_index offset ctype name None after e before = by (bytes_eq name field.name) refl e
  where
    front : drop index fields ≡ field ∷ drop (index + 1) fields
    front = drop-field fields index field within is

    by : (same : BoolValue) → bytes_eq name field.name ≡ same → after ≡ (if same then Some at else None) → IsPlaceBefore (index + 1) structs fields members name after
    by true same after_is = subst (λ (o : Option MemberAt). IsPlaceBefore (index + 1) structs fields members name o) (sym after_is) (record {
      index = before ∙ (ap (λ (fs : List Field). position_from (λ f. pointwise nat_eq f.name name) index fs) front
          ∙ (ap (λ (b : BoolValue). cond b (Some index) (position_from (λ f. pointwise nat_eq f.name name) (index + 1) (drop (index + 1) fields))) (same_name field.name name ∙ same) ∙ ap Some (sym is_index)));
      offset = ap (λ (n : ℕ). option_map (λ offset. min offset 65537) (offset_of Lp64 structs fields n)) is_index ∙ offset;
      ctype = ap (λ (n : ℕ). option_map (λ member. member.ctype) (slice_get members n)) is_index ∙ ctype;
    })
    by false same after_is = subst (λ (o : Option MemberAt). IsPlaceBefore (index + 1) structs fields members name o) (sym after_is)
        (before ∙ position_further (λ f. pointwise nat_eq f.name name) fields index field within is (same_name field.name name ∙ same))

drop_past : (fields : List Field) (index : ℕ) → length fields ≤ index → drop index fields ≡ []
drop_past [] zero h = refl
drop_past [] (suc index) h = refl
drop_past (field ∷ fields) zero h = absurd (omega arith)
drop_past (field ∷ fields) (suc index) h = drop_past fields index (omega arith)

-- behind the last member
pub place_end : (structs : List StructDef) (fields : List Field) (members : List Member) (index : ℕ) → length fields ≤ index → (name : List ℕ) (found : Option MemberAt)
    → IsPlaceBefore index structs fields members name found → IsPlace structs fields members name found
place_end structs fields members index past name None before = before ∙ ap (λ (fs : List Field). position_from (λ f. pointwise nat_eq f.name name) index fs) (drop_past fields index past)
place_end structs fields members index past name (Some at) before = before

-- more structs
offset_first : (some more : CType → Option Layout) (before : Layout) (first second : Option Layout) (fields : List Field) (index offset : ℕ) → ((l : Layout) → first ≡ Some l → second ≡ Some l)
    → ((after : Layout) (k : ℕ) → option_map (λ o. min o 65537) (offset_behind after (map (λ f. some f.ctype) fields) k) ≡ Some offset → option_map (λ o. min o 65537) (offset_behind after (map (λ f. more f.ctype) fields) k) ≡ Some offset)
    → option_map (λ o. min o 65537) (offset_behind before (first ∷ map (λ f. some f.ctype) fields) index) ≡ Some offset → option_map (λ o. min o 65537) (offset_behind before (second ∷ map (λ f. more f.ctype) fields) index) ≡ Some offset
offset_first some more before None second fields index offset h rest e = cc
offset_first some more before (Some l) second fields zero offset h rest e = rw (h l refl) e
offset_first some more before (Some l) second fields (suc index) offset h rest e = rw (h l refl) (rest (with_field before l) index e)

pub offset_more : (some more : CType → Option Layout) → GivesMore some more → (offset : ℕ) (fields : List Field) (before : Layout) (index : ℕ)
    → option_map (λ o. min o 65537) (offset_behind before (map (λ f. some f.ctype) fields) index) ≡ Some offset → option_map (λ o. min o 65537) (offset_behind before (map (λ f. more f.ctype) fields) index) ≡ Some offset
offset_more some more h offset [] before index e = e
offset_more some more h offset (field ∷ fields) before index e =
    offset_first some more before (some field.ctype) (more field.ctype) fields index offset (h field.ctype) (λ after k d. offset_more some more h offset fields after k d) e

place_more : (structs more : List StructDef) → GivesMore (layout_of Lp64 structs) (layout_of Lp64 more) → (fields : List Field) (members : List Member) (name : List ℕ) (found : Option MemberAt)
    → IsPlace structs fields members name found → IsPlace more fields members name found
place_more structs more h fields members name None is = is
place_more structs more h fields members name (Some at) is = record {
  index = is.index;
  offset = offset_more (layout_of Lp64 structs) (layout_of Lp64 more) h at.offset fields no_fields at.index is.offset;
  ctype = is.ctype;
}

pub places_more : (structs more : List StructDef) → GrowsTo structs more → length structs ≤ length more → (fields : List Field) (members : List Member) (find : List ℕ → Option MemberAt)
    → ArePlaces structs fields members find → ArePlaces more fields members find
places_more structs more grows h fields members find are name =
    place_more structs more (type_more Lp64 (struct_at Lp64 (length structs) structs) (struct_at Lp64 (length more) more) (grown Lp64 structs more grows (length structs) (length more) h)) fields members name (find name) (are name)

-- offsets are the same by each data layout
pub offset_by : (abi : Abi) (structs : List StructDef) (fields : List Field) (index : ℕ) → offset_of abi structs fields index ≡ offset_of Lp64 structs fields index
offset_by abi structs fields index =
    ap (λ (ls : List (Option Layout)). offset_behind no_fields ls index) (fields_alike (layout_of abi structs) (layout_of Lp64 structs) (layout_alike abi structs) fields)

-- what is found by a name in the table of a struct
pub fields_read : (types : List CType) (entries : List Entry) (number : ℕ) (entry : Entry) → slice_get entries number ≡ Some entry → struct_fields (read_off types entries) number ≡ fields_of types entry.members
fields_read types entries number entry at =
    ap (λ (o : Option StructDef). option_map_or (λ d. d.fields) o []) (slice_get-map (struct_of types) entries number ∙ ap (option_map (struct_of types)) at)

place_index : (structs : List StructDef) (fields : List Field) (members : List Member) (name : List ℕ) (found : Option MemberAt) → IsPlace structs fields members name found → option_map (λ at. at.index) found ≡ index_of name fields
place_index structs fields members name None is = sym is
place_index structs fields members name (Some at) is = sym is.index

place_offset : (abi : Abi) (structs : List StructDef) (fields : List Field) (members : List Member) (name : List ℕ) (found : Option MemberAt) → IsPlace structs fields members name found
    → IfSome found (λ at. option_map (λ offset. min offset 65537) (offset_of abi structs fields at.index) ≡ Some at.offset)
place_offset abi structs fields members name None is = tt
place_offset abi structs fields members name (Some at) is = ap (option_map (λ offset. min offset 65537)) (offset_by abi structs fields at.index) ∙ is.offset

pub field_type : (types : List CType) (found : Option Member) → option_map (λ (f : Field). f.ctype) (option_map (field_of types) found) ≡ option_map (type_at types) (option_map (λ (m : Member). m.ctype) found)
field_type types None = refl
field_type types (Some member) = refl

place_type : (types : List CType) (structs : List StructDef) (members : List Member) (name : List ℕ) (found : Option MemberAt) → IsPlace structs (fields_of types members) members name found
    → IfSome found (λ at. option_map (λ (f : Field). f.ctype) (slice_get (fields_of types members) at.index) ≡ Some (type_at types at.ctype))
place_type types structs members name None is = tt
place_type types structs members name (Some at) is =
    ap (option_map (λ (f : Field). f.ctype)) (slice_get-map (field_of types) members at.index) ∙ (field_type types (slice_get members at.index) ∙ ap (option_map (type_at types)) is.ctype)

pub member_inside : (count : ℕ) (members : List Member) (index ctype : ℕ) (found : Option Member) → slice_get members index ≡ found → All (λ member. member.ctype < count) members
    → option_map (λ (m : Member). m.ctype) found ≡ Some ctype → ctype < count
member_inside count members index ctype None at named e = cc
member_inside count members index ctype (Some member) at named e =
    let there : get_or members index member ≡ member = get_or_from_slice_get members index member member at in
    let below : (get_or members index member).ctype < count = named index member (slice_get_within members index member at) in
    let is : member.ctype ≡ ctype = cc in
    subst (λ (n : ℕ). n < count) (ap (λ (m : Member). m.ctype) there ∙ is) below

place_inside : (count : ℕ) (structs : List StructDef) (fields : List Field) (members : List Member) (name : List ℕ) (found : Option MemberAt) → All (λ member. member.ctype < count) members → IsPlace structs fields members name found
    → IfSome found (λ at. at.ctype < count)
place_inside count structs fields members name None named is = tt
place_inside count structs fields members name (Some at) named is = member_inside count members at.index at.ctype (slice_get members at.index) refl named is.ctype

-- the answer of a look-up by name, where `found` is what the table has
pub record IsField (types : List CType) (structs : List StructDef) (of : ℕ) (name : List ℕ) (found : Option MemberAt) : Type 0 where
  pub index : option_map (λ at. at.index) found ≡ index_of name (struct_fields structs of)
  pub offset : (abi : Abi) → IfSome found (λ at. option_map (λ offset. min offset 65537) (offset_of abi structs (struct_fields structs of) at.index) ≡ Some at.offset)
  pub ctype : IfSome found (λ at. option_map (λ (f : Field). f.ctype) (slice_get (struct_fields structs of) at.index) ≡ Some (type_at types at.ctype))
  pub inside : IfSome found (λ at. at.ctype < length types)

pub field_found : (types : List CType) (entries : List Entry) → AreLaid types entries → (of : ℕ) (entry : Entry) → slice_get entries of ≡ Some entry → (name : List ℕ) (found : Option MemberAt) → found ≡ find_in entry.places.entries name
    → IsField types (read_off types entries) of name found
field_found types entries laid of entry at name found is =
    let structs : List StructDef = read_off types entries in
    let same : struct_fields structs of ≡ fields_of types entry.members = fields_read types entries of entry at in
    let place : IsPlace structs (fields_of types entry.members) entry.members name found =
    subst (λ (o : Option MemberAt). IsPlace structs (fields_of types entry.members) entry.members name o) (sym is) (laid.found of entry at name) in
    record {
      index = place_index structs (fields_of types entry.members) entry.members name found place ∙ ap (index_of name) (sym same);
      offset = λ abi. subst (λ (fs : List Field). IfSome found (λ at. option_map (λ offset. min offset 65537) (offset_of abi structs fs at.index) ≡ Some at.offset)) (sym same)
          (place_offset abi structs (fields_of types entry.members) entry.members name found place);
      ctype = subst (λ (fs : List Field). IfSome found (λ at. option_map (λ (f : Field). f.ctype) (slice_get fs at.index) ≡ Some (type_at types at.ctype))) (sym same)
          (place_type types structs entry.members name found place);
      inside = place_inside (length types) structs (fields_of types entry.members) entry.members name found (laid.named of entry at) place;
    }
