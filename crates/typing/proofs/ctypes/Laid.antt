-- The layout of a type, from its row and the layouts that are kept.
use Rattle.std.proofs.Common.{◌≡◌, ℕ, ◌<◌, ◌≤◌, min, arith, List, Option, Some, None, length, map, sym, ap, ◌∙◌}
use Rattle.std.specs.Prelude.{IfSome, option_map, slice_get, slice_index_or}
use Rattle.std.proofs.lemmas.Option.{slice_get-map, slice_get-get_or}
use Rattle.std.proofs.lemmas.Simd.{map-map}
use Rattle.cbase.specs.declared.abi.Abi.TheVariants.{Lp64}
use Rattle.cbase.specs.declared.ctype.CType.{CType}
use Rattle.cbase.specs.declared.structs.StructDef.{StructDef}
use Rattle.cbase.specs.KeptStructs.{Entry as KeptEntry}
use Rattle.cbase.specs.declared.layout.Layout.{Layout}
use Rattle.cbase.specs.declared.abi.Abi.{Abi}
use Rattle.cbase.specs.declared.row.Row.{Row}
use Rattle.cbase.specs.Layout.{layout_of, struct_at, scalar, repeated, extent_of, alignment_of}
use Rattle.cbase.proofs.Alike.{layout_alike}
use Rattle.cbase.proofs.Capped.{capped-repeated_size, extent_of_kept, alignment_of_kept}
use Rattle.cbase.specs.Kept.{capped, IsSmall}
use Rattle.cbase.specs.KeptStructs.{structs_of}
use Rattle.cbase.proofs.KeptStructs.{entry_layout, entry_small}
use Rattle.typing.specs.declared.ctypes.structs.Entry.{Entry}
use Rattle.typing.specs.ctypes.Table.{type_at}
use Rattle.typing.specs.ctypes.Structs.{read_off}
use Rattle.typing.specs.ctypes.Kept.{IsRow, AreRows, kept_of, AreLaid}

-- the structs of what is kept are those that are read off
pub kept_structs : (types : List CType) (entries : List Entry) → structs_of (map (kept_of types) entries) ≡ read_off types entries
kept_structs types entries = map-map (λ (k : KeptEntry). k.definition) (kept_of types) entries

pub kept_found : (types : List CType) (entries : List Entry) (number : ℕ) (entry : Entry) → slice_get entries number ≡ Some entry → slice_get (map (kept_of types) entries) number ≡ Some (kept_of types entry)
kept_found types entries number entry found = slice_get-map (kept_of types) entries number ∙ ap (option_map (kept_of types)) found

pub entry_laid : (types : List CType) (entries : List Entry) → AreLaid types entries → (number : ℕ) (entry : Entry) → slice_get entries number ≡ Some entry
    → entry.layout ≡ option_map capped (struct_at Lp64 (length (read_off types entries)) (read_off types entries) number)
entry_laid types entries laid number entry found =
    entry_layout Lp64 (map (kept_of types) entries) laid.kept number (kept_of types entry) (kept_found types entries number entry found)
    ∙ ap (λ (structs : List StructDef). option_map capped (struct_at Lp64 (length structs) structs number)) (kept_structs types entries)

pub entry_laid_small : (types : List CType) (entries : List Entry) → AreLaid types entries → (number : ℕ) (entry : Entry) → slice_get entries number ≡ Some entry → IfSome entry.layout IsSmall
entry_laid_small types entries laid number entry found = entry_small (map (kept_of types) entries) laid.kept number (kept_of types entry) (kept_found types entries number entry found)

-- what is told of a layout that is kept holds by each data layout
pub extent_alike : (abi : Abi) (structs : List StructDef) (t : CType) (found : Option Layout) → found ≡ option_map capped (layout_of Lp64 structs t) → extent_of found ≡ extent_of (layout_of abi structs t)
extent_alike abi structs t found is = ap extent_of is ∙ (extent_of_kept (layout_of Lp64 structs t) ∙ ap extent_of (sym (layout_alike abi structs t)))

pub alignment_alike : (abi : Abi) (structs : List StructDef) (t : CType) (found : Option Layout) → found ≡ option_map capped (layout_of Lp64 structs t) → alignment_of found ≡ alignment_of (layout_of abi structs t)
alignment_alike abi structs t found is = ap alignment_of is ∙ (alignment_of_kept (layout_of Lp64 structs t) ∙ ap alignment_of (sym (layout_alike abi structs t)))

pub row_right : (types : List CType) (rows : List Row) → AreRows types rows → (number : ℕ) (none : Row) → number < length rows → IsRow (type_at types number) (slice_index_or rows number none)
row_right types rows are number none within = are.right number (slice_index_or rows number none) (slice_get-get_or rows number none within)

pub scalar_small : (bytes : ℕ) → bytes ≤ 8 → scalar bytes ≡ capped (scalar bytes)
scalar_small bytes h = let e : bytes ≡ min bytes 65537 = omega arith in ap (λ (size : ℕ). let l : Layout = record { size = size; alignment = bytes } in l) e

-- a type is laid as so many parts, where the part is laid as it is kept
pub row_laid : (laid found : Option Layout) (count : ℕ) (part : Layout) → option_map capped laid ≡ option_map (λ l. capped (repeated count l)) found → Some part ≡ option_map capped found
    → Some (capped (repeated count part)) ≡ option_map capped laid
row_laid laid None count part e is = cc
row_laid laid (Some l) count part e is =
    let same : part ≡ capped l = cc in
    ap Some (ap (λ (k : Layout). capped (repeated count k)) same ∙ capped-repeated_size count l) ∙ sym e

pub row_missing : (laid found : Option Layout) (count : ℕ) → option_map capped laid ≡ option_map (λ l. capped (repeated count l)) found → None ≡ option_map capped found → None ≡ option_map capped laid
row_missing laid None count e is = sym e
row_missing laid (Some l) count e is = cc
