-- Whether a type has a size, and whether it is large, by what is told of its size.
use Rattle.std.proofs.Common.{◌≡◌, ℕ, Bool, true, false, Option, None, Some, refl}
use Rattle.std.specs.Prelude.{is_some, nat_le, if◌then◌else◌}
use Rattle.cbase.specs.declared.layout.Layout.{Layout}
use Rattle.cbase.specs.declared.measure.Extent.{Extent}
use Rattle.cbase.specs.declared.measure.Extent.TheVariants.{Incomplete, Bytes, TooLarge}
use Rattle.cbase.specs.Layout.{extent_of}
use Rattle.typing.specs.NamedTypes.{is_over}

abbrev extent_by : ℕ → Bool → Extent
extent_by size small = if small then Bytes size else TooLarge

pub sized : (layout : Option Layout) (size : Extent) → size ≡ extent_of layout → (size ≡ Incomplete → ⊥) → is_some layout ≡ true
sized None size is complete = absurd (complete is)
sized (Some layout) size is complete = refl

small_by : (size : ℕ) (small : Bool) → Incomplete ≡ extent_by size small → ⊥
small_by size true is = cc is
small_by size false is = cc is

pub unsized : (layout : Option Layout) → Incomplete ≡ extent_of layout → is_some layout ≡ false
unsized None is = refl
unsized (Some layout) is = absurd (small_by layout.size (nat_le layout.size 65536) is)

large_by : (size : ℕ) (small : Bool) → TooLarge ≡ extent_by size small → (if small then false else true) ≡ true
large_by size true is = cc is
large_by size false is = refl

pub large : (layout : Option Layout) → TooLarge ≡ extent_of layout → is_over layout ≡ true
large None is = cc is
large (Some layout) is = large_by layout.size (nat_le layout.size 65536) is

not_large_by : (size : ℕ) (small : Bool) (told : Extent) → told ≡ extent_by size small → (told ≡ TooLarge → ⊥) → (if small then false else true) ≡ false
not_large_by size true told is not = refl
not_large_by size false told is not = absurd (not is)

pub not_large : (layout : Option Layout) (told : Extent) → told ≡ extent_of layout → (told ≡ TooLarge → ⊥) → is_over layout ≡ false
not_large None told is not = refl
not_large (Some layout) told is not = not_large_by layout.size (nat_le layout.size 65536) told is not
