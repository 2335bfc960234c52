-- Types put behind the others: what is known of the types before them, and of structs that name these, stays.
use Rattle.std.proofs.Common.{◌≡◌, inl, inr, ℕ, suc, ◌+◌, ◌<◌, ◌++◌, ◌∷◌, [], List, Some, length, get_or, map, take, refl, sym, ap, subst, ◌∙◌, arith}
use Rattle.std.specs.Prelude.{All, slice_get}
use Rattle.std.proofs.lemmas.List.{get_or_append_left, length-append}
use Rattle.std.proofs.lemmas.Option.{slice_get_within}
use Rattle.std.proofs.Math.Seq.{take-length, take-append_seam}
use Rattle.cbase.specs.declared.ctype.CType.{CType}
use Rattle.cbase.specs.declared.ctype.CType.TheVariants.{Void as VoidType}
use Rattle.cbase.specs.declared.row.Row.{Row}
use Rattle.cbase.specs.declared.structs.Field.{Field}
use Rattle.cbase.specs.declared.structs.StructDef.{StructDef}
use Rattle.cbase.specs.KeptStructs.{Entry as KeptEntry}
use Rattle.cbase.specs.KeptStructs.{AreKept}
use Rattle.typing.specs.declared.ctypes.structs.Member.{Member}
use Rattle.typing.specs.declared.ctypes.structs.Entry.{Entry}
use Rattle.typing.specs.ctypes.Table.{type_at, Grows}
use Rattle.typing.specs.ctypes.Places.{find_in, ArePlaces, AreInOrder}
use Rattle.typing.specs.ctypes.Structs.{field_of, fields_of, struct_of, read_off}
use Rattle.typing.specs.ctypes.Kept.{IsRow, AreRows, AreNamed, kept_of, AreLaid}
use Rattle.typing.proofs.ctypes.Tables.{get_pushed, type_pushed}

type_stays : (types : List CType) (t : CType) (number : ℕ) → number < length types → type_at (types ++ t ∷ []) number ≡ type_at types number
type_stays types t number h = get_or_append_left types (t ∷ []) VoidType number h

rows_push : (types : List CType) (t : CType) (rows : List Row) (row : Row) → AreRows types rows → IsRow t row → AreRows (types ++ t ∷ []) (rows ++ row ∷ [])
rows_push types t rows row are is =
    let size : length rows ≡ length types = are.size in
    record {
      size = length-append rows (row ∷ []) ∙ (ap (λ n. n + 1) size ∙ sym (length-append types (t ∷ [])));
      right = λ number found at. elim (get_pushed rows row number found at) as (λ _. IsRow (type_at (types ++ t ∷ []) number) found) [
        | inl old ↦ let within : number < length rows = slice_get_within rows number found old in
            subst (λ u. IsRow u found) (sym (type_stays types t number (omega arith))) (are.right number found old)
        | inr new ↦ subst (λ u. IsRow u found) (sym (ap (type_at (types ++ t ∷ [])) (new.0 ∙ size) ∙ type_pushed types t)) (subst (λ r. IsRow t r) (sym new.1) is)
      ];
    }

-- a row is pushed, and taken back where its type was there
pub rows_grown : (types after : List CType) (t : CType) (rows : List Row) (row : Row) (count : ℕ) → Grows types t after → count ≡ length after → AreRows types rows → IsRow t row
    → AreRows after (take count (rows ++ row ∷ []))
rows_grown types after t rows row count (inl same) long are is =
    let size : length rows ≡ length types = are.size in
    let all : count ≡ length rows = long ∙ (ap length same ∙ sym size) in
    subst (λ ts. AreRows ts (take count (rows ++ row ∷ []))) (sym same) (subst (λ rs. AreRows types rs) (sym (ap (λ n. take n (rows ++ row ∷ [])) all ∙ take-append_seam rows (row ∷ []))) are)
rows_grown types after t rows row count (inr more) long are is =
    let pushed : AreRows (types ++ t ∷ []) (rows ++ row ∷ []) = rows_push types t rows row are is in
    let size : length (rows ++ row ∷ []) ≡ length (types ++ t ∷ []) = pushed.size in
    let all : count ≡ length (rows ++ row ∷ []) = long ∙ (ap length more ∙ sym size) in
    subst (λ ts. AreRows ts (take count (rows ++ row ∷ []))) (sym more) (subst (λ rs. AreRows (types ++ t ∷ []) rs) (sym (ap (λ n. take n (rows ++ row ∷ [])) all ∙ take-length (rows ++ row ∷ []))) pushed)

pub fields_stay : (types : List CType) (t : CType) (members : List Member) → All (λ member. member.ctype < length types) members → fields_of (types ++ t ∷ []) members ≡ fields_of types members
fields_stay types t [] named = refl
fields_stay types t (member ∷ members) named =
    let here : member.ctype < length types = named 0 member (omega arith) in
    let rest : All (λ m. m.ctype < length types) members = λ k d h. named (suc k) d (omega arith) in
    ap (λ (u : CType). let f : Field = record { name = member.name; ctype = u } in f ∷ fields_of (types ++ t ∷ []) members) (type_stays types t member.ctype here)
    ∙ ap (λ (fs : List Field). field_of types member ∷ fs) (fields_stay types t members rest)

entry_stays : (types : List CType) (t : CType) (entry : Entry) → All (λ member. member.ctype < length types) entry.members → struct_of (types ++ t ∷ []) entry ≡ struct_of types entry
entry_stays types t entry named =
    ap (λ (fs : List Field). let d : StructDef = record { name = entry.name; complete = entry.complete; fields = fs } in d) (fields_stay types t entry.members named)

map_same : {X Y : Type 0} (f g : X → Y) (xs : List X) → ((number : ℕ) (x : X) → slice_get xs number ≡ Some x → f x ≡ g x) → map f xs ≡ map g xs
map_same f g [] same = refl
map_same {X} {Y} f g (x ∷ xs) same = ap (λ (y : Y). y ∷ map f xs) (same 0 x refl) ∙ ap (λ (ys : List Y). g x ∷ ys) (map_same f g xs (λ number y at. same (suc number) y at))

structs_stay : (types : List CType) (t : CType) (entries : List Entry) → AreNamed (length types) entries → read_off (types ++ t ∷ []) entries ≡ read_off types entries
structs_stay types t entries named = map_same (struct_of (types ++ t ∷ [])) (struct_of types) entries (λ number entry at. entry_stays types t entry (named number entry at))

kept_stay : (types : List CType) (t : CType) (entries : List Entry) → AreNamed (length types) entries → map (kept_of (types ++ t ∷ [])) entries ≡ map (kept_of types) entries
kept_stay types t entries named = map_same (kept_of (types ++ t ∷ [])) (kept_of types) entries
    (λ number entry at. ap (λ (d : StructDef). let k : KeptEntry = record { definition = d; layout = entry.layout } in k) (entry_stays types t entry (named number entry at)))

laid_push : (types : List CType) (t : CType) (entries : List Entry) → AreLaid types entries → AreLaid (types ++ t ∷ []) entries
laid_push types t entries laid = record {
  named = λ number entry at k d h. let old : (get_or entry.members k d).ctype < length types = laid.named number entry at k d h in
      let longer : length (types ++ t ∷ []) ≡ length types + 1 = length-append types (t ∷ []) in omega arith;
  kept = subst (λ ks. AreKept ks) (sym (kept_stay types t entries laid.named)) laid.kept;
  found = λ number entry at.
      subst (λ (ss : List StructDef). ArePlaces ss (fields_of (types ++ t ∷ []) entry.members) entry.members (find_in entry.places.entries)) (sym (structs_stay types t entries laid.named))
      (subst (λ (fs : List Field). ArePlaces (read_off types entries) fs entry.members (find_in entry.places.entries)) (sym (fields_stay types t entry.members (laid.named number entry at))) (laid.found number entry at));
  listed = λ number entry at.
      subst (λ (ss : List StructDef). AreInOrder (length entry.members) ss (fields_of (types ++ t ∷ []) entry.members) entry.members entry.in_order.items) (sym (structs_stay types t entries laid.named))
      (subst (λ (fs : List Field). AreInOrder (length entry.members) (read_off types entries) fs entry.members entry.in_order.items) (sym (fields_stay types t entry.members (laid.named number entry at))) (laid.listed number entry at));
}

pub laid_grown : (types after : List CType) (t : CType) (entries : List Entry) → Grows types t after → AreLaid types entries → AreLaid after entries
laid_grown types after t entries (inl same) laid = subst (λ ts. AreLaid ts entries) (sym same) laid
laid_grown types after t entries (inr more) laid = subst (λ ts. AreLaid ts entries) (sym more) (laid_push types t entries laid)

pub structs_grown : (types after : List CType) (t : CType) (entries : List Entry) → Grows types t after → AreLaid types entries → read_off after entries ≡ read_off types entries
structs_grown types after t entries (inl same) laid = ap (λ ts. read_off ts entries) same
structs_grown types after t entries (inr more) laid = ap (λ ts. read_off ts entries) more ∙ structs_stay types t entries laid.named
