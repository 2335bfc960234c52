-- Members by their indices, while a struct is laid, and afterwards.
use Rattle.std.proofs.Common.{◌≡◌, inl, inr, ℕ, ◌+◌, ◌<◌, ◌≤◌, ◌++◌, ◌∷◌, [], min, length, List, Option, Some, None, refl, sym, ap, subst, ◌∙◌, arith}
use Rattle.std.specs.Prelude.{IfNone, IfSome, option_map, slice_get}
use Rattle.std.proofs.lemmas.Bool.{cases_lt}
use Rattle.std.proofs.lemmas.List.{length-append, length-map}
use Rattle.std.proofs.lemmas.Option.{none-some, slice_get-map, slice_get_past, slice_get-get_or}
use Rattle.cbase.specs.declared.abi.Abi.{Abi}
use Rattle.cbase.specs.declared.abi.Abi.TheVariants.{Lp64}
use Rattle.cbase.specs.declared.ctype.CType.{CType}
use Rattle.cbase.specs.declared.structs.Field.{Field}
use Rattle.cbase.specs.declared.structs.StructDef.{StructDef}
use Rattle.cbase.specs.Layout.{layout_of, struct_at, no_fields}
use Rattle.cbase.specs.Offset.{offset_of, fields_of as struct_fields}
use Rattle.cbase.proofs.Deeper.{type_more}
use Rattle.cbase.proofs.Growing.{GrowsTo, grown}
use Rattle.typing.specs.declared.ctypes.structs.Member.{Member}
use Rattle.typing.specs.declared.ctypes.structs.MemberAt.{MemberAt}
use Rattle.typing.specs.declared.ctypes.structs.Entry.{Entry}
use Rattle.typing.specs.ctypes.Table.{type_at}
use Rattle.typing.specs.ctypes.Structs.{field_of, fields_of, read_off}
use Rattle.typing.specs.ctypes.Places.{IsMember, AreInOrder}
use Rattle.typing.specs.ctypes.Kept.{AreLaid}
use Rattle.typing.proofs.ctypes.Placing.{offset_by, offset_more, fields_read, field_type, member_inside}
use Rattle.typing.proofs.ctypes.Tables.{get_pushed}

-- one member more
pub in_order_step : (structs : List StructDef) (fields : List Field) (members : List Member) (count : ℕ) (places : List MemberAt) (at : MemberAt)
    → AreInOrder count structs fields members places → IsMember structs fields members count at → AreInOrder (count + 1) structs fields members (places ++ at ∷ [])
in_order_step structs fields members count places at are is = record {
  size = length-append places (at ∷ []) ∙ ap (λ (n : ℕ). n + 1) are.size;
  right = λ index found there. elim (get_pushed places at index found there) as (λ _. IsMember structs fields members index found) [
    | inl old ↦ are.right index found old
    | inr new ↦ subst (λ (m : MemberAt). IsMember structs fields members index m) (sym new.1) (subst (λ (n : ℕ). IsMember structs fields members n at) (sym (new.0 ∙ are.size)) is)
  ];
}

-- no members
pub none_in_order : (structs : List StructDef) (fields : List Field) (members : List Member) (places : List MemberAt) → members ≡ [] → places ≡ [] → AreInOrder (length members) structs fields members places
none_in_order structs fields members places no_members none = record {
  size = ap length none ∙ ap length (sym no_members);
  right = λ index at there. absurd (none-some at (ap (λ (ps : List MemberAt). slice_get ps index) (sym none) ∙ there));
}

-- more structs
pub in_order_more : (structs more : List StructDef) → GrowsTo structs more → length structs ≤ length more → (fields : List Field) (members : List Member) (count : ℕ) (places : List MemberAt)
    → AreInOrder count structs fields members places → AreInOrder count more fields members places
in_order_more structs more grows h fields members count places are = record {
  size = are.size;
  right = λ index at there. let is : IsMember structs fields members index at = are.right index at there in record {
    same = is.same;
    offset = offset_more (layout_of Lp64 structs) (layout_of Lp64 more)
        (type_more Lp64 (struct_at Lp64 (length structs) structs) (struct_at Lp64 (length more) more) (grown Lp64 structs more grows (length structs) (length more) h)) at.offset fields no_fields index is.offset;
    ctype = is.ctype;
  };
}

-- the answer of a look-up by index, where `found` is what the list has
pub record IsMemberOf (types : List CType) (structs : List StructDef) (of index : ℕ) (found : Option MemberAt) : Type 0 where
  pub none : IfNone found (slice_get (struct_fields structs of) index ≡ None)
  pub same : IfSome found (λ at. at.index ≡ index)
  pub offset : (abi : Abi) → IfSome found (λ at. option_map (λ offset. min offset 65537) (offset_of abi structs (struct_fields structs of) index) ≡ Some at.offset)
  pub ctype : IfSome found (λ at. option_map (λ (f : Field). f.ctype) (slice_get (struct_fields structs of) index) ≡ Some (type_at types at.ctype))
  pub inside : IfSome found (λ at. at.ctype < length types)

past_end : (places : List MemberAt) (index : ℕ) → slice_get places index ≡ None → length places ≤ index
past_end places index none = elim (cases_lt index (length places)) as (λ _. length places ≤ index) [
  | inl less ↦ absurd (at_less places less none)
  | inr more ↦ omega arith
]
  where
    at_less : (ps : List MemberAt) → index < length ps → slice_get ps index ≡ None → ⊥
    at_less [] less e = omega arith
    at_less (p ∷ ps) less e = none-some _ (sym e ∙ slice_get-get_or (p ∷ ps) index p less)

by_index : (types : List CType) (structs : List StructDef) (of : ℕ) (members : List Member) (places : List MemberAt) → struct_fields structs of ≡ fields_of types members
    → AreInOrder (length members) structs (fields_of types members) members places → ((index ctype : ℕ) → option_map (λ (m : Member). m.ctype) (slice_get members index) ≡ Some ctype → ctype < length types)
    → (index : ℕ) (found : Option MemberAt) → found ≡ slice_get places index → IsMemberOf types structs of index found
by_index types structs of members places fields are named index None e =
    let past : length places ≤ index = past_end places index (sym e) in
    let size : length places ≡ length members = are.size in
    let long : length (fields_of types members) ≡ length members = length-map members (field_of types) in
    record {
      none = ap (λ (fs : List Field). slice_get fs index) fields ∙ slice_get_past (fields_of types members) index (omega arith);
      same = tt;
      offset = λ abi. tt;
      ctype = tt;
      inside = tt;
    }
by_index types structs of members places fields are named index (Some at) e =
    let is : IsMember structs (fields_of types members) members index at = are.right index at (sym e) in
    record {
      none = tt;
      same = is.same;
      offset = λ abi. ap (λ (fs : List Field). option_map (λ offset. min offset 65537) (offset_of abi structs fs index)) fields
          ∙ (ap (option_map (λ offset. min offset 65537)) (offset_by abi structs (fields_of types members) index) ∙ is.offset);
      ctype = ap (λ (fs : List Field). option_map (λ (f : Field). f.ctype) (slice_get fs index)) fields
          ∙ (ap (option_map (λ (f : Field). f.ctype)) (slice_get-map (field_of types) members index) ∙ (field_type types (slice_get members index) ∙ ap (option_map (type_at types)) is.ctype));
      inside = named index at.ctype is.ctype;
    }

pub member_found : (types : List CType) (entries : List Entry) → AreLaid types entries → (of : ℕ) (entry : Entry) → slice_get entries of ≡ Some entry → (index : ℕ) (found : Option MemberAt) → found ≡ slice_get entry.in_order.items index
    → IsMemberOf types (read_off types entries) of index found
member_found types entries laid of entry at index found is =
    by_index types (read_off types entries) of entry.members entry.in_order.items (fields_read types entries of entry at) (laid.listed of entry at)
    (λ place ctype there. member_inside (length types) entry.members place ctype (slice_get entry.members place) refl (laid.named of entry at) there) index found is
