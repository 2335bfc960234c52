-- What is kept beside structs is their layout, and stays so while structs are declared and completed.
use Rattle.std.proofs.Common.{◌≡◌, ◌⊎◌, inl, inr, ℕ, zero, suc, ◌≤◌, map, length, List, [], ◌∷◌, ◌++◌, Option, Some, None, refl, sym, ap, subst, ◌∙◌, arith}
use Rattle.std.specs.Prelude.{Bool as BoolValue, true, false, ◌&&◌, is_some, IfSome, option_map, slice_get, slice_set}
use Rattle.std.proofs.lemmas.List.{length-map, map_push, map-set}
use Rattle.std.proofs.lemmas.Option.{slice_get-map}
use Rattle.cbase.specs.declared.abi.Abi.{Abi}
use Rattle.cbase.specs.declared.abi.Abi.TheVariants.{Lp64}
use Rattle.cbase.specs.declared.structs.Field.{Field}
use Rattle.cbase.specs.declared.structs.StructDef.{StructDef}
use Rattle.cbase.specs.declared.layout.Layout.{Layout}
use Rattle.cbase.specs.Layout.{type_layout, layout_of, struct_at, fields_layout, no_fields, with_field}
use Rattle.cbase.specs.Kept.{capped, IsSmall}
use Rattle.cbase.specs.KeptStructs.{Entry, structs_of, one_more, laid_count, IsKept, AreKept, IsLaid}
use Rattle.cbase.specs.Completing.{is_open, are_complete, may_complete, with_fields}
use Rattle.cbase.proofs.Alike.{struct_alike}
use Rattle.cbase.proofs.Deeper.{GivesMore, type_more, fields_more}
use Rattle.cbase.proofs.Growing.{GrowsTo, grown, kept_more, incomplete_none, missing_none}

one_more_most : (layout : Option Layout) (count most : ℕ) → count ≤ most → one_more layout count ≤ suc most
one_more_most None count most h = omega arith
one_more_most (Some layout) count most h = omega arith

laid_count_most : (entries : List Entry) → laid_count entries ≤ length entries
laid_count_most [] = omega arith
laid_count_most (entry ∷ entries) = one_more_most entry.layout (laid_count entries) (length entries) (laid_count_most entries)

-- the structs themselves do not change
same : (structs : List StructDef) → GrowsTo structs structs
same structs = λ number definition found complete. found

struct_found : (entries : List Entry) (number : ℕ) (entry : Entry) → slice_get entries number ≡ Some entry → slice_get (structs_of entries) number ≡ Some entry.definition
struct_found entries number entry found = slice_get-map (λ (e : Entry). e.definition) entries number ∙ ap (option_map (λ (e : Entry). e.definition)) found

laid_most : (entries : List Entry) → laid_count entries ≤ length (structs_of entries)
laid_most entries = rw (length-map entries (λ (e : Entry). e.definition)) (laid_count_most entries)

layout_kept : (entries : List Entry) (number : ℕ) (definition : StructDef) (layout : Option Layout) → slice_get (structs_of entries) number ≡ Some definition
    → IsKept (laid_count entries) (structs_of entries) number definition layout → layout ≡ option_map capped (struct_at Lp64 (length (structs_of entries)) (structs_of entries) number)
layout_kept entries number definition None found incomplete = sym (ap (option_map capped) (incomplete_none Lp64 (length (structs_of entries)) (structs_of entries) number definition found incomplete))
layout_kept entries number definition (Some layout) found kept =
    sym (kept_more _ _ layout (grown Lp64 (structs_of entries) (structs_of entries) (same (structs_of entries)) (laid_count entries) (length (structs_of entries)) (laid_most entries) number) kept.0)

-- the layout beside a struct is its layout
pub entry_layout : (abi : Abi) (entries : List Entry) → AreKept entries → (number : ℕ) (entry : Entry) → slice_get entries number ≡ Some entry
    → entry.layout ≡ option_map capped (struct_at abi (length (structs_of entries)) (structs_of entries) number)
entry_layout abi entries kept number entry found =
    layout_kept entries number entry.definition entry.layout (struct_found entries number entry found) (kept number entry found)
    ∙ sym (ap (option_map capped) (struct_alike abi (length (structs_of entries)) (structs_of entries) number))

small_kept : (depth : ℕ) (structs : List StructDef) (number : ℕ) (definition : StructDef) (layout : Option Layout) → IsKept depth structs number definition layout → IfSome layout IsSmall
small_kept depth structs number definition None incomplete = tt
small_kept depth structs number definition (Some layout) kept = kept.1

pub entry_small : (entries : List Entry) → AreKept entries → (number : ℕ) (entry : Entry) → slice_get entries number ≡ Some entry → IfSome entry.layout IsSmall
entry_small entries kept number entry found = small_kept _ _ number entry.definition entry.layout (kept number entry found)

-- what is kept stays so
stays_kept : (structs more : List StructDef) → GrowsTo structs more → (depth deeper : ℕ) → depth ≤ deeper → (number : ℕ) (definition : StructDef) (layout : Option Layout)
    → IsKept depth structs number definition layout → IsKept deeper more number definition layout
stays_kept structs more grows depth deeper h number definition None incomplete = incomplete
stays_kept structs more grows depth deeper h number definition (Some layout) kept = (kept_more _ _ layout (grown Lp64 structs more grows depth deeper h number) kept.0, kept.1)

-- one more struct
pub front_found : {X : Type 0} (xs ys : List X) (number : ℕ) (x : X) → slice_get xs number ≡ Some x → slice_get (xs ++ ys) number ≡ Some x
front_found [] ys number x found = cc
front_found (y ∷ xs) ys zero x found = found
front_found (y ∷ xs) ys (suc number) x found = front_found xs ys number x found

pushed_found : {X : Type 0} (xs : List X) (y : X) (number : ℕ) (x : X) → slice_get (xs ++ y ∷ []) number ≡ Some x → (slice_get xs number ≡ Some x) ⊎ (y ≡ x)
pushed_found [] y zero x found = inr cc
pushed_found [] y (suc number) x found = cc
pushed_found (z ∷ xs) y zero x found = inl found
pushed_found (z ∷ xs) y (suc number) x found = pushed_found xs y number x found

pushed_count : (entries : List Entry) (entry : Entry) → entry.layout ≡ None → laid_count (entries ++ entry ∷ []) ≡ laid_count entries
pushed_count [] entry none = rw none refl
pushed_count (first ∷ entries) entry none = ap (one_more first.layout) (pushed_count entries entry none)

no_layout_kept : (depth : ℕ) (structs : List StructDef) (number : ℕ) (definition : StructDef) (layout : Option Layout) → layout ≡ None → definition.complete ≡ false → IsKept depth structs number definition layout
no_layout_kept depth structs number definition layout none incomplete = rw none incomplete

pub declared_kept : (entries : List Entry) (entry : Entry) → AreKept entries → entry.definition.complete ≡ false → entry.layout ≡ None → AreKept (entries ++ entry ∷ [])
declared_kept entries entry kept incomplete none number found is =
    rw (map_push (λ (e : Entry). e.definition) entries entry, pushed_count entries entry none) (elim (pushed_found entries entry number found is) [
      | inl before ↦ stays_kept (structs_of entries) (structs_of entries ++ entry.definition ∷ []) (λ n d at complete. front_found (structs_of entries) _ n d at)
          (laid_count entries) (laid_count entries) (omega arith) number found.definition found.layout (kept number found before)
      | inr last ↦ subst (λ (e : Entry). IsKept (laid_count entries) (structs_of entries ++ entry.definition ∷ []) number e.definition e.layout) last
          (no_layout_kept (laid_count entries) (structs_of entries ++ entry.definition ∷ []) number entry.definition entry.layout none incomplete)
    ])

-- one more struct that is complete
pub set_found : {X : Type 0} (xs : List X) (place number : ℕ) (y x : X) → slice_get (slice_set xs place y) number ≡ Some x → ((place ≡ number) × (y ≡ x)) ⊎ (slice_get xs number ≡ Some x)
set_found [] place number y x found = cc
set_found (z ∷ xs) zero zero y x found = inl (refl, cc)
set_found (z ∷ xs) zero (suc number) y x found = inr found
set_found (z ∷ xs) (suc place) zero y x found = inr found
set_found (z ∷ xs) (suc place) (suc number) y x found = elim (set_found xs place number y x found) [
  | inl here ↦ inl (ap suc here.0, here.1)
  | inr other ↦ inr other
]

set_here : {X : Type 0} (xs : List X) (place : ℕ) (y x : X) → slice_get xs place ≡ Some x → slice_get (slice_set xs place y) place ≡ Some y
set_here [] place y x found = cc
set_here (z ∷ xs) zero y x found = refl
set_here (z ∷ xs) (suc place) y x found = set_here xs place y x found

pub set_other : {X : Type 0} (xs : List X) (place number : ℕ) (y x : X) → (place ≡ number → ⊥) → slice_get xs number ≡ Some x → slice_get (slice_set xs place y) number ≡ Some x
set_other [] place number y x other found = found
set_other (z ∷ xs) zero zero y x other found = absurd (other refl)
set_other (z ∷ xs) zero (suc number) y x other found = found
set_other (z ∷ xs) (suc place) zero y x other found = found
set_other (z ∷ xs) (suc place) (suc number) y x other found = set_other xs place number y x (λ e. other (ap suc e)) found

more_later : (layout : Option Layout) (count : ℕ) → one_more layout (suc count) ≡ suc (one_more layout count)
more_later None count = refl
more_later (Some layout) count = refl

set_count : (entries : List Entry) (place : ℕ) (before after : Entry) (layout : Layout) → slice_get entries place ≡ Some before → before.layout ≡ None → after.layout ≡ Some layout
    → laid_count (slice_set entries place after) ≡ suc (laid_count entries)
set_count [] place before after layout found none laid = cc
set_count (entry ∷ entries) zero before after layout found none laid =
    let is : entry ≡ before = cc in
    rw (laid, is, none) refl
set_count (entry ∷ entries) (suc place) before after layout found none laid = ap (one_more entry.layout) (set_count entries place before after layout found none laid) ∙ more_later entry.layout (laid_count entries)

none_some : (layout : Layout) → None ≡ Some layout → ⊥
none_some layout e = cc

-- a struct without fields has no layout beside it
incomplete_kept : (structs : List StructDef) (depth number : ℕ) (definition : StructDef) (layout : Option Layout) → slice_get structs number ≡ Some definition → definition.complete ≡ false
    → IsKept depth structs number definition layout → layout ≡ None
incomplete_kept structs depth number definition None found incomplete kept = refl
incomplete_kept structs depth number definition (Some layout) found incomplete kept =
    let none : struct_at Lp64 depth structs number ≡ None = incomplete_none Lp64 depth structs number definition found incomplete in
    absurd (none_some layout (rw none at kept.0))

-- no more structs lie one inside the other than have a layout
some_kept : (first second : Option Layout) (kept l : Layout) → ((k : Layout) → first ≡ Some k → second ≡ Some k) → option_map capped first ≡ Some kept → second ≡ Some l → first ≡ Some l
some_kept None second kept l h e laid = cc
some_kept (Some k) second kept l h e laid = sym (h k refl) ∙ laid

shallow_kept : (entries : List Entry) (number : ℕ) (definition : StructDef) (layout : Option Layout) → slice_get (structs_of entries) number ≡ Some definition
    → IsKept (laid_count entries) (structs_of entries) number definition layout
    → (l : Layout) → struct_at Lp64 (length (structs_of entries)) (structs_of entries) number ≡ Some l → struct_at Lp64 (laid_count entries) (structs_of entries) number ≡ Some l
shallow_kept entries number definition None found incomplete l laid =
    let none : struct_at Lp64 (length (structs_of entries)) (structs_of entries) number ≡ None = incomplete_none Lp64 (length (structs_of entries)) (structs_of entries) number definition found incomplete in cc
shallow_kept entries number definition (Some layout) found kept l laid =
    some_kept _ _ layout l (grown Lp64 (structs_of entries) (structs_of entries) (same (structs_of entries)) (laid_count entries) (length (structs_of entries)) (laid_most entries) number) kept.0 laid

option_found : {X Y : Type 0} (f : X → Y) (found : Option X) (y : Y) → option_map f found ≡ Some y → (x : X) × (found ≡ Some x) × (f x ≡ y)
option_found f None y e = cc
option_found f (Some x) y e = (x, refl, cc)

-- where as many structs may lie one inside the other as there are, no layout is new
shallow : (entries : List Entry) → AreKept entries → (found : Option StructDef) (number : ℕ) → slice_get (structs_of entries) number ≡ found
    → (l : Layout) → struct_at Lp64 (length (structs_of entries)) (structs_of entries) number ≡ Some l → struct_at Lp64 (laid_count entries) (structs_of entries) number ≡ Some l
shallow entries kept None number is l laid = absurd (none_some l (sym (missing_none Lp64 (length (structs_of entries)) (structs_of entries) number is) ∙ laid))
shallow entries kept (Some definition) number is l laid =
    let from : (e : Entry) × (slice_get entries number ≡ Some e) × (e.definition ≡ definition) = option_found (λ (e : Entry). e.definition) (slice_get entries number) definition (sym (slice_get-map (λ (e : Entry). e.definition) entries number) ∙ is) in
    shallow_kept entries number from.0.definition from.0.layout (struct_found entries number from.0 from.1) (kept number from.0 from.1) l laid

-- a struct that is given fields is laid as they are
fields_kept : (entries : List Entry) (more : List StructDef) → AreKept entries → GrowsTo (structs_of entries) more → (place : ℕ) (definition : StructDef) (fields : List Field) (layout : Layout)
    → slice_get more place ≡ Some (with_fields fields definition) → IsLaid (structs_of entries) fields layout → option_map capped (struct_at Lp64 (suc (laid_count entries)) more place) ≡ Some layout
fields_kept entries more kept grows place definition fields layout found laid =
    let structs : List StructDef = structs_of entries in
    let deep : GivesMore (struct_at Lp64 (length structs) structs) (struct_at Lp64 (laid_count entries) more) =
    λ number l e. grown Lp64 structs more grows (laid_count entries) (laid_count entries) (omega arith) number l (shallow entries kept (slice_get structs number) number refl l e) in
    rw found (kept_more (fields_layout no_fields (map (λ field. layout_of Lp64 structs field.ctype) fields)) _ layout
    (λ l e. fields_more (type_layout Lp64 (struct_at Lp64 (length structs) structs)) (type_layout Lp64 (struct_at Lp64 (laid_count entries) more)) (type_more Lp64 _ _ deep) no_fields fields l e) laid.0)

pub other_complete : (structs : List StructDef) (place number : ℕ) (first second : StructDef) → slice_get structs place ≡ Some first → first.complete ≡ false → slice_get structs number ≡ Some second → second.complete ≡ true → place ≡ number → ⊥
other_complete structs place number first second found incomplete other complete same_place =
    let both : Some first ≡ Some second = sym found ∙ ap (slice_get structs) same_place ∙ other in
    let is : first ≡ second = cc in
    let wrong : false ≡ true = sym incomplete ∙ ap (λ (d : StructDef). d.complete) is ∙ complete in cc

pub completed_kept : (entries : List Entry) (place : ℕ) (before after : Entry) (fields : List Field) (layout : Layout) → AreKept entries → slice_get entries place ≡ Some before → before.definition.complete ≡ false
    → IsLaid (structs_of entries) fields layout → after.definition ≡ with_fields fields before.definition → after.layout ≡ Some layout → AreKept (slice_set entries place after)
completed_kept entries place before after fields layout kept here incomplete laid is is_layout number found at =
    let structs : List StructDef = structs_of entries in
    let more : List StructDef = slice_set structs place after.definition in
    let stood : slice_get structs place ≡ Some before.definition = struct_found entries place before here in
    let count : laid_count (slice_set entries place after) ≡ suc (laid_count entries) =
    set_count entries place before after layout here (incomplete_kept structs (laid_count entries) place before.definition before.layout stood incomplete (kept place before here)) is_layout in
    let grows : GrowsTo structs more = λ n d d_at complete. set_other structs place n after.definition d (other_complete structs place n before.definition d stood incomplete d_at complete) d_at in
    let stands : slice_get more place ≡ Some (with_fields fields before.definition) = set_here structs place after.definition before.definition stood ∙ ap Some is in
    let new_layout : option_map capped (struct_at Lp64 (suc (laid_count entries)) more place) ≡ Some layout = fields_kept entries more kept grows place before.definition fields layout stands laid in
    rw (map-set (λ (e : Entry). e.definition) entries place after, count) (elim (set_found entries place number after found at) [
      | inl new ↦ subst (λ (e : Entry). IsKept (suc (laid_count entries)) more number e.definition e.layout) new.1
          (rw is_layout (subst (λ (n : ℕ). option_map capped (struct_at Lp64 (suc (laid_count entries)) more n) ≡ Some layout) new.0 new_layout, laid.1))
      | inr old ↦ stays_kept structs more grows (laid_count entries) (suc (laid_count entries)) (omega arith) number found.definition found.layout (kept number found old)
    ])

-- a struct has a layout exactly where the types of its fields have
laid_field : (first : Option Layout) (before : Layout) (rest : List (Option Layout)) (others : BoolValue) → ((after : Layout) → is_some (fields_layout after rest) ≡ others) → is_some (fields_layout before (first ∷ rest)) ≡ (is_some first && others)
laid_field None before rest others h = refl
laid_field (Some field) before rest others h = h (with_field before field)

pub are_laid : (structs : List StructDef) (before : Layout) (fields : List Field) → is_some (fields_layout before (map (λ field. layout_of Lp64 structs field.ctype) fields)) ≡ are_complete structs fields
are_laid structs before [] = refl
are_laid structs before (field ∷ fields) = laid_field (layout_of Lp64 structs field.ctype) before (map (λ f. layout_of Lp64 structs f.ctype) fields) (are_complete structs fields) (λ after. are_laid structs after fields)

-- fields are refused where the struct that they make has no layout
kept_some : (laid : Option Layout) → is_some (option_map capped laid) ≡ is_some laid
kept_some None = refl
kept_some (Some layout) = refl

fields_complete : (structs : List StructDef) (fields : List Field) (found : Option Layout) → found ≡ option_map capped (fields_layout no_fields (map (λ field. layout_of Lp64 structs field.ctype) fields)) → is_some found ≡ are_complete structs fields
fields_complete structs fields found is = ap is_some is ∙ kept_some (fields_layout no_fields (map (λ field. layout_of Lp64 structs field.ctype) fields)) ∙ are_laid structs no_fields fields

and_false : (first second : BoolValue) → second ≡ false → false ≡ (first && second)
and_false true second e = sym e
and_false false second e = refl

pub fields_refused : (structs : List StructDef) (number : ℕ) (fields : List Field) (found : Option Layout) → found ≡ option_map capped (fields_layout no_fields (map (λ field. layout_of Lp64 structs field.ctype) fields)) → found ≡ None
    → false ≡ may_complete structs number fields
fields_refused structs number fields found is none = and_false _ _ (sym (fields_complete structs fields found is) ∙ ap is_some none)

pub fields_taken : (structs : List StructDef) (number : ℕ) (fields : List Field) (layout : Layout) (found : Option Layout) → is_open (slice_get structs number) ≡ true
    → found ≡ option_map capped (fields_layout no_fields (map (λ field. layout_of Lp64 structs field.ctype) fields)) → found ≡ Some layout → true ≡ may_complete structs number fields
fields_taken structs number fields layout found open_struct is some = rw (open_struct, sym (fields_complete structs fields found is), some) refl
