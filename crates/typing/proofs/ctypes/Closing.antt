-- What is kept of structs stays right while structs are declared and completed.
use Rattle.std.proofs.Common.{◌≡◌, inl, inr, ℕ, ◌+◌, ◌<◌, ◌++◌, ◌∷◌, [], List, Option, Some, None, length, get_or, map, drop, refl, sym, ap, subst, ◌∙◌, arith}
use Rattle.std.specs.Prelude.{Bool as BoolValue, true, false, not, All, option_map, slice_get, slice_set}
use Rattle.std.proofs.lemmas.List.{length-append, length-map, length-set, map_push, map-set}
use Rattle.std.proofs.lemmas.Option.{slice_get-map, slice_get_within}
use Rattle.std.proofs.Math.ListN.{get_or-map}
use Rattle.cbase.specs.declared.abi.Abi.TheVariants.{Lp64}
use Rattle.cbase.specs.declared.ctype.CType.{CType}
use Rattle.cbase.specs.declared.structs.Field.{Field}
use Rattle.cbase.specs.declared.structs.StructDef.{StructDef}
use Rattle.cbase.specs.KeptStructs.{Entry as KeptEntry}
use Rattle.cbase.specs.declared.layout.Layout.{Layout}
use Rattle.cbase.specs.Layout.{layout_of, fields_layout, with_field}
use Rattle.cbase.specs.Kept.{capped}
use Rattle.cbase.specs.KeptStructs.{AreKept, IsLaid}
use Rattle.cbase.specs.Offset.{index_of}
use Rattle.std.specs.Global.{Vec}
use Rattle.cbase.specs.Completing.{is_open, completed}
use Rattle.cbase.proofs.Fields.{drop-field, fields_layout_step}
use Rattle.cbase.proofs.Growing.{GrowsTo}
use Rattle.cbase.proofs.KeptStructs.{declared_kept, completed_kept, front_found, set_found, set_other, other_complete}
use Rattle.typing.specs.declared.ctypes.structs.Member.{Member}
use Rattle.typing.specs.declared.ctypes.structs.MemberAt.{MemberAt}
use Rattle.typing.specs.declared.ctypes.structs.Laid.{Laid}
use Rattle.typing.specs.declared.ctypes.structs.Entry.{Entry}
use Rattle.typing.specs.ctypes.Places.{find_in, IsPlace, ArePlaces, AreInOrder}
use Rattle.typing.proofs.ctypes.Placing.{places_more}
use Rattle.typing.proofs.ctypes.InOrder.{none_in_order, in_order_more}
use Rattle.typing.specs.ctypes.Table.{type_at}
use Rattle.typing.specs.ctypes.Structs.{field_of, fields_of, struct_of, read_off}
use Rattle.typing.specs.ctypes.Kept.{kept_of, closed, AreLaid}
use Rattle.typing.proofs.ctypes.Tables.{get_pushed}
use Rattle.typing.proofs.ctypes.Laid.{kept_structs, kept_found}

-- a struct without members has no member of any name
no_places : (structs : List StructDef) (types : List CType) (members : List Member) (places : List (Vec ℕ × MemberAt)) → members ≡ [] → places ≡ [] → ArePlaces structs (fields_of types members) members (find_in places)
no_places structs types members places no_members none name =
    subst (λ (es : List (Vec ℕ × MemberAt)). IsPlace structs (fields_of types members) members name (find_in es name)) (sym none) (ap (λ (ms : List Member). index_of name (fields_of types ms)) no_members)

-- one more struct, without members
pub declared_laid : (types : List CType) (entries : List Entry) (entry : Entry) → entry.complete ≡ false → entry.layout ≡ None → entry.members ≡ [] → entry.places.entries ≡ [] → entry.in_order.items ≡ [] → AreLaid types entries → AreLaid types (entries ++ entry ∷ [])
declared_laid types entries entry incomplete no_layout no_members none none_listed laid =
    let structs : List StructDef = read_off types entries in
    let longer : length (structs ++ struct_of types entry ∷ []) ≡ length structs + 1 = length-append structs (struct_of types entry ∷ []) in
    record {
      named = λ number e found. elim (get_pushed entries entry number e found) as (λ _. All (λ member. member.ctype < length types) e.members) [
        | inl old ↦ laid.named number e old
        | inr new ↦ subst (λ (u : Entry). All (λ member. member.ctype < length types) u.members) (sym new.1) (subst (λ (ms : List Member). All (λ member. member.ctype < length types) ms) (sym no_members) (λ k d h. absurd (omega arith)))
      ];
      kept = subst (λ (ks : List KeptEntry). AreKept ks) (sym (map_push (kept_of types) entries entry))
          (declared_kept (map (kept_of types) entries) (kept_of types entry) laid.kept incomplete no_layout);
      found = λ number e at. elim (get_pushed entries entry number e at) as (λ _. ArePlaces (read_off types (entries ++ entry ∷ [])) (fields_of types e.members) e.members (find_in e.places.entries)) [
        | inl old ↦ subst (λ (ss : List StructDef). ArePlaces ss (fields_of types e.members) e.members (find_in e.places.entries)) (sym (map_push (struct_of types) entries entry))
            (places_more structs (structs ++ struct_of types entry ∷ []) (λ n d there complete. front_found structs _ n d there) (omega arith) (fields_of types e.members) e.members (find_in e.places.entries) (laid.found number e old))
        | inr new ↦ subst (λ (u : Entry). ArePlaces (read_off types (entries ++ entry ∷ [])) (fields_of types u.members) u.members (find_in u.places.entries)) (sym new.1)
            (no_places (read_off types (entries ++ entry ∷ [])) types entry.members entry.places.entries no_members none)
      ];
      listed = λ number e at. elim (get_pushed entries entry number e at) as (λ _. AreInOrder (length e.members) (read_off types (entries ++ entry ∷ [])) (fields_of types e.members) e.members e.in_order.items) [
        | inl old ↦ subst (λ (ss : List StructDef). AreInOrder (length e.members) ss (fields_of types e.members) e.members e.in_order.items) (sym (map_push (struct_of types) entries entry))
            (in_order_more structs (structs ++ struct_of types entry ∷ []) (λ n d there complete. front_found structs _ n d there) (omega arith) (fields_of types e.members) e.members (length e.members) e.in_order.items (laid.listed number e old))
        | inr new ↦ subst (λ (u : Entry). AreInOrder (length u.members) (read_off types (entries ++ entry ∷ [])) (fields_of types u.members) u.members u.in_order.items) (sym new.1)
            (none_in_order (read_off types (entries ++ entry ∷ [])) (fields_of types entry.members) entry.members entry.in_order.items no_members none_listed)
      ];
    }

-- a struct with its members
pub completed_laid : (types : List CType) (entries : List Entry) (number : ℕ) (entry : Entry) (members : List Member) (how : Laid) → AreLaid types entries → slice_get entries number ≡ Some entry → entry.complete ≡ false
    → All (λ member. member.ctype < length types) members → IsLaid (read_off types entries) (fields_of types members) how.layout
    → ArePlaces (read_off types entries) (fields_of types members) members (find_in how.places.entries)
    → AreInOrder (length members) (read_off types entries) (fields_of types members) members how.in_order.items → AreLaid types (slice_set entries number (closed entry members how))
completed_laid types entries number entry members how laid here incomplete named is placed in_order =
    let after : Entry = closed entry members how in
    let structs : List StructDef = read_off types entries in
    let more : List StructDef = slice_set structs number (struct_of types after) in
    let is_kept : IsLaid _ (fields_of types members) how.layout = subst (λ (ss : List StructDef). IsLaid ss (fields_of types members) how.layout) (sym (kept_structs types entries)) is in
    let stood : slice_get structs number ≡ Some (struct_of types entry) = slice_get-map (struct_of types) entries number ∙ ap (option_map (struct_of types)) here in
    let grows : GrowsTo structs more = λ n d d_at complete. set_other structs number n (struct_of types after) d (other_complete structs number n (struct_of types entry) d stood incomplete d_at complete) d_at in
    let long : length more ≡ length structs = length-set structs number (struct_of types after) in
    let further : (fields : List Field) (ms : List Member) (find : List ℕ → Option MemberAt) → ArePlaces structs fields ms find → ArePlaces (read_off types (slice_set entries number after)) fields ms find =
    λ fields ms find are. subst (λ (ss : List StructDef). ArePlaces ss fields ms find) (sym (map-set (struct_of types) entries number after)) (places_more structs more grows (omega arith) fields ms find are) in
    let longer : (fields : List Field) (ms : List Member) (places : List MemberAt) → AreInOrder (length ms) structs fields ms places → AreInOrder (length ms) (read_off types (slice_set entries number after)) fields ms places =
    λ fields ms places are. subst (λ (ss : List StructDef). AreInOrder (length ms) ss fields ms places) (sym (map-set (struct_of types) entries number after)) (in_order_more structs more grows (omega arith) fields ms (length ms) places are) in
    record {
      named = λ place found at. elim (set_found entries number place after found at) as (λ _. All (λ member. member.ctype < length types) found.members) [
        | inl new ↦ subst (λ (e : Entry). All (λ member. member.ctype < length types) e.members) new.1 named
        | inr old ↦ laid.named place found old
      ];
      kept = subst (λ (ks : List KeptEntry). AreKept ks) (sym (map-set (kept_of types) entries number after))
          (completed_kept (map (kept_of types) entries) number (kept_of types entry) (kept_of types after) (fields_of types members) how.layout laid.kept (kept_found types entries number entry here) incomplete is_kept refl refl);
      found = λ place e at. elim (set_found entries number place after e at) as (λ _. ArePlaces (read_off types (slice_set entries number after)) (fields_of types e.members) e.members (find_in e.places.entries)) [
        | inl new ↦ subst (λ (u : Entry). ArePlaces (read_off types (slice_set entries number after)) (fields_of types u.members) u.members (find_in u.places.entries)) new.1
            (further (fields_of types members) members (find_in how.places.entries) placed)
        | inr old ↦ further (fields_of types e.members) e.members (find_in e.places.entries) (laid.found place e old)
      ];
      listed = λ place e at. elim (set_found entries number place after e at) as (λ _. AreInOrder (length e.members) (read_off types (slice_set entries number after)) (fields_of types e.members) e.members e.in_order.items) [
        | inl new ↦ subst (λ (u : Entry). AreInOrder (length u.members) (read_off types (slice_set entries number after)) (fields_of types u.members) u.members u.in_order.items) new.1
            (longer (fields_of types members) members how.in_order.items in_order)
        | inr old ↦ longer (fields_of types e.members) e.members e.in_order.items (laid.listed place e old)
      ];
    }

pub completed_structs : (types : List CType) (entries : List Entry) (number : ℕ) (entry : Entry) (members : List Member) (how : Laid) → slice_get entries number ≡ Some entry
    → read_off types (slice_set entries number (closed entry members how)) ≡ completed (read_off types entries) number (fields_of types members)
completed_structs types entries number entry members how here =
    let found : slice_get (read_off types entries) number ≡ Some (struct_of types entry) = slice_get-map (struct_of types) entries number ∙ ap (option_map (struct_of types)) here in
    rw found (map-set (struct_of types) entries number (closed entry members how))

-- one member more is laid
pub member_laid : (types : List CType) (structs : List StructDef) (before next : Layout) (members : List Member) (index : ℕ) (member : Member) → index < length members → member ≡ get_or members index member
    → Some next ≡ option_map capped (layout_of Lp64 structs (type_at types member.ctype))
    → option_map capped (fields_layout (capped (with_field before next)) (map (λ field. layout_of Lp64 structs field.ctype) (drop (index + 1) (fields_of types members))))
    ≡ option_map capped (fields_layout before (map (λ field. layout_of Lp64 structs field.ctype) (drop index (fields_of types members))))
member_laid types structs before next members index member within is known =
    fields_layout_step (λ t. layout_of Lp64 structs t) before next (fields_of types members) index (field_of types member)
    (subst (λ (n : ℕ). index < n) (sym (length-map members (field_of types))) within)
    (ap (field_of types) is ∙ sym (get_or-map (field_of types) members index member)) known

refused : (before : Layout) (first : Option Layout) (rest : List (Option Layout)) → None ≡ option_map capped first → option_map capped (fields_layout before (first ∷ rest)) ≡ None
refused before None rest e = refl
refused before (Some l) rest e = cc

-- a member of an incomplete type leaves no layout
pub member_refused : (types : List CType) (structs : List StructDef) (before : Layout) (members : List Member) (index : ℕ) (member : Member) → index < length members → member ≡ get_or members index member
    → None ≡ option_map capped (layout_of Lp64 structs (type_at types member.ctype))
    → option_map capped (fields_layout before (map (λ field. layout_of Lp64 structs field.ctype) (drop index (fields_of types members)))) ≡ None
member_refused types structs before members index member within is unknown =
    rw (drop-field (fields_of types members) index (field_of types member)
    (subst (λ (n : ℕ). index < n) (sym (length-map members (field_of types))) within)
    (ap (field_of types) is ∙ sym (get_or-map (field_of types) members index member)))
    (refused before (layout_of Lp64 structs (type_at types member.ctype)) (map (λ field. layout_of Lp64 structs field.ctype) (drop (index + 1) (fields_of types members))) unknown)

not_true : (complete : BoolValue) → not complete ≡ true → complete ≡ false
not_true true e = cc
not_true false e = refl

entry_open : (types : List CType) (entries : List Entry) (number : ℕ) (found : Option Entry) → slice_get entries number ≡ found → is_open (option_map (struct_of types) found) ≡ true
    → (entry : Entry) × (slice_get entries number ≡ Some entry) × (entry.complete ≡ false)
entry_open types entries number None found is = cc
entry_open types entries number (Some entry) found is = (entry, found, not_true entry.complete is)

-- a struct whose members are to be given yet stands among the others
pub open_found : (types : List CType) (entries : List Entry) (number : ℕ) → is_open (slice_get (read_off types entries) number) ≡ true
    → (entry : Entry) × (slice_get entries number ≡ Some entry) × (entry.complete ≡ false)
open_found types entries number is = entry_open types entries number (slice_get entries number) refl (ap is_open (sym (slice_get-map (struct_of types) entries number)) ∙ is)

pub open_within : (types : List CType) (entries : List Entry) (number : ℕ) → is_open (slice_get (read_off types entries) number) ≡ true → number < length entries
open_within types entries number is = let from = open_found types entries number is in slice_get_within entries number from.0 from.1
