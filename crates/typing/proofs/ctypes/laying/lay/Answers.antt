use Rattle.std.proofs.Common.{◌≡◌, ℕ, suc, ◌+◌, ◌<◌, ◌≤◌, min, map, nat_eq, List, Option, None, Some, length, get_or, add-zero, refl, sym, ap, subst, ◌∙◌, arith, rules}
use Rattle.std.specs.Prelude.{option_map, slice_get, if◌then◌else◌}
use Rattle.std.specs.Str.{bytes_eq}
use Rattle.std.specs.List.{position_from}
use Rattle.std.specs.Cmp.Lexicographic.{pointwise}
use Rattle.std.proofs.lemmas.List.{length-map, drop_all}
use Rattle.std.proofs.lemmas.Option.{slice_get-get_or}
use Rattle.std.proofs.Math.ListN.{get_or-map}
use Rattle.cbase.specs.declared.abi.Abi.TheVariants.{Lp64}
use Rattle.cbase.specs.declared.structs.Field.{Field}
use Rattle.cbase.specs.declared.structs.StructDef.{StructDef}
use Rattle.cbase.specs.declared.ctype.CType.{CType}
use Rattle.cbase.specs.Layout.{layout_of, fields_layout}
use Rattle.cbase.specs.Kept.{capped}
use Rattle.cbase.specs.Offset.{offset_of}
use Rattle.typing.specs.declared.ctypes.structs.Member.{Member}
use Rattle.typing.specs.declared.ctypes.structs.MemberAt.{MemberAt}
use Rattle.typing.specs.ctypes.Table.{type_at}
use Rattle.typing.specs.ctypes.Structs.{field_of, fields_of}
use Rattle.typing.specs.ctypes.Places.{find_in, first_of, IsPlace, IsPlaceBefore, AreInOrder}
use Rattle.typing.proofs.ctypes.Closing.{member_laid, member_refused}
use Rattle.typing.proofs.ctypes.InOrder.{in_order_step}
use Rattle.typing.proofs.ctypes.Placing.{Behind, field_placed, place_step}
use Rattle.typing.proofs.ctypes.laying.lay.Goals as goal

pub returns-in_default-clause-layout : goal.returns-in_default-clause-layout
returns-in_default-clause-layout c =
    sym (member_refused c.args.types.now.types c.args.types.now.structs c.loop-index.before c.args.members.now c.loop-index.index c.index-members-index.result c.loop-index-test.true c.index-members-index.is
    (sym c.in_default.is ∙ c.layout.ensures.value)) ∙ c.loop-index.invariant.value

shift : (index k : ℕ) → (index + 1) + k ≡ index + suc k
shift index k = omega arith

pub loop-index-preserved : goal.loop-index-preserved
loop-index-preserved c =
    let types : List CType = c.args.types.now.types in
    let structs : List StructDef = c.args.types.now.structs in
    let members : List Member = c.args.members.now in
    let fields : List Field = fields_of types members in
    let member : Member = c.index-members-index.result in
    let known : Some c.in-Some.next ≡ option_map capped (layout_of Lp64 structs (type_at types member.ctype)) = sym c.in-Some.is ∙ c.layout.ensures.value in
    let within : c.loop-index.index < length fields = subst (λ (n : ℕ). c.loop-index.index < n) (sym (length-map members (field_of types))) c.loop-index-test.true in
    let is : field_of types member ≡ get_or fields c.loop-index.index (field_of types member) = ap (field_of types) c.index-members-index.is ∙ sym (get_or-map (field_of types) members c.loop-index.index member) in
    let behind : Behind (λ t. layout_of Lp64 structs t) c.loop-index.before c.in-Some.next fields c.loop-index.index =
    field_placed (λ t. layout_of Lp64 structs t) c.loop-index.before c.in-Some.next fields c.loop-index.index (field_of types member) within is known in
    let offset : option_map (λ offset. min offset 65537) (offset_of Lp64 structs fields c.loop-index.index) ≡ Some c.place_behind-at.result.offset =
    rw add-zero at (c.loop-index.invariant.offset 0) ∙ (behind.here ∙ ap Some (sym c.place_behind-at.ensures.offset)) in
    let ctype : option_map (λ (m : Member). m.ctype) (slice_get members c.loop-index.index) ≡ Some c.place_behind-at.result.ctype =
    ap (option_map (λ (m : Member). m.ctype)) (slice_get-get_or members c.loop-index.index member c.loop-index-test.true ∙ ap Some (sym c.index-members-index.is)) ∙ ap Some (sym c.place_behind-at.ensures.ctype) in
    record {
      value = rw c.with_field-before.ensures
          (member_laid types structs c.loop-index.before c.in-Some.next members c.loop-index.index member c.loop-index-test.true c.index-members-index.is known ∙ c.loop-index.invariant.value);
      offset = λ k. rw c.with_field-before.ensures (ap (λ (n : ℕ). option_map (λ offset. min offset 65537) (offset_of Lp64 structs fields n)) (shift c.loop-index.index k) ∙ (c.loop-index.invariant.offset (suc k) ∙ behind.later k));
      place = λ name. place_step structs fields members c.loop-index.index (field_of types member) c.place_behind-at.result within is c.place_behind-at.ensures.index offset ctype name _ _
          (c.in_ok-put_member.ensures.places name ∙ ap (λ (n : List ℕ). first_of (find_in c.loop-index.places.entries name) (if bytes_eq name n then Some c.place_behind-at.result else None)) c.as_slice.ensures)
          (c.loop-index.invariant.place name);
      small = search rules;
      inside = omega arith;
      in_order = rw c.in_ok-put_member.ensures.in_order (in_order_step structs fields members c.loop-index.index c.loop-index.in_order.items c.place_behind-at.result c.loop-index.invariant.in_order (record {
        same = c.place_behind-at.ensures.index;
        offset = offset;
        ctype = ctype;
      }));
    }

pub loop-index-init : goal.loop-index-init
loop-index-init c = record {
  value = rw c.empty-before.ensures refl;
  offset = λ k. let none : 0 + k ≡ k = omega arith in
      rw c.empty-before.ensures (ap (λ (n : ℕ). option_map (λ offset. min offset 65537) (offset_of Lp64 c.args.types.now.structs (fields_of c.args.types.now.types c.args.members.now) n)) none);
  place = λ name. rw c.new-places.ensures.empty refl;
  small = rw c.empty-before.ensures (search rules);
  inside = omega arith;
  in_order = rw c.new-in_order.ensures.items record {
    size = refl;
    right = λ index at has. absurd (cc has);
  };
}

-- behind the last member nothing is left
ended : (index : ℕ) (types : List CType) (members : List Member) → length members ≤ index → length (fields_of types members) ≤ index
ended index types members over = let same : length (fields_of types members) ≡ length members = length-map members (field_of types) in omega (arith, same, over)

whole : (index : ℕ) (structs : List StructDef) (fields : List Field) (members : List Member) (name : List ℕ) (found : Option MemberAt) → length fields ≤ index
    → IsPlaceBefore index structs fields members name found → IsPlace structs fields members name found
whole index structs fields members name None over is = is ∙ ap (position_from (λ field. pointwise nat_eq field.name name) index) (drop_all index fields over)
whole index structs fields members name (Some at) over is = is

pub returns-clause-layout : goal.returns-clause-layout
returns-clause-layout c =
    let fields : List Field = fields_of c.args.types.now.types c.args.members.now in
    ap Some c.padded.ensures
    ∙ (ap (λ rest. option_map capped (fields_layout c.loop-index.before (map (λ field. layout_of Lp64 c.args.types.now.structs field.ctype) rest)))
    (sym (drop_all c.loop-index.index fields (ended c.loop-index.index c.args.types.now.types c.args.members.now c.loop-index-test.false)))
    ∙ c.loop-index.invariant.value)

pub returns-clause-in_order : goal.returns-clause-in_order
returns-clause-in_order c =
    let last : c.loop-index.index ≡ length c.args.members.now = omega (arith, c.loop-index.invariant.inside, c.loop-index-test.false) in
    subst (λ (count : ℕ). AreInOrder count c.args.types.now.structs (fields_of c.args.types.now.types c.args.members.now) c.args.members.now c.loop-index.in_order.items) last c.loop-index.invariant.in_order

pub returns-clause-places : goal.returns-clause-places
returns-clause-places c = λ name.
    whole c.loop-index.index c.args.types.now.structs (fields_of c.args.types.now.types c.args.members.now) c.args.members.now name (find_in c.loop-index.places.entries name)
    (ended c.loop-index.index c.args.types.now.types c.args.members.now c.loop-index-test.false) (c.loop-index.invariant.place name)
