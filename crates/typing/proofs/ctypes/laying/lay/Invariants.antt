use Rattle.std.proofs.Common.{◌≡◌, ℕ, ◌+◌, ◌≤◌, List, map, drop, length, min}
use Rattle.std.specs.Prelude.{option_map}
use Rattle.cbase.specs.declared.abi.Abi.TheVariants.{Lp64}
use Rattle.cbase.specs.Layout.{layout_of, fields_layout, no_fields}
use Rattle.cbase.specs.Kept.{capped, IsSmall}
use Rattle.cbase.specs.Offset.{offset_of, offset_behind}
use Rattle.typing.specs.ctypes.Structs.{fields_of}
use Rattle.typing.specs.ctypes.Places.{find_in, IsPlaceBefore, AreInOrder}
use Rattle.typing.proofs.ctypes.laying.lay.Given as goal

abbrev pub invariant-loop-index : goal.invariant-loop-index
invariant-loop-index l = record {
  value : option_map capped (fields_layout l.before (map (λ field. layout_of Lp64 l.types.structs field.ctype) (drop l.index (fields_of l.types.types l.members))))
      ≡ option_map capped (fields_layout no_fields (map (λ field. layout_of Lp64 l.types.structs field.ctype) (fields_of l.types.types l.members)));
  offset : (k : ℕ) → option_map (λ offset. min offset 65537) (offset_of Lp64 l.types.structs (fields_of l.types.types l.members) (l.index + k))
      ≡ option_map (λ offset. min offset 65537) (offset_behind l.before (map (λ field. layout_of Lp64 l.types.structs field.ctype) (drop l.index (fields_of l.types.types l.members))) k);
  place : (name : List ℕ) → IsPlaceBefore l.index l.types.structs (fields_of l.types.types l.members) l.members name (find_in l.places.entries name);
  small : IsSmall l.before;
  inside : l.index ≤ length l.members;
  in_order : AreInOrder l.index l.types.structs (fields_of l.types.types l.members) l.members l.in_order.items;
}
