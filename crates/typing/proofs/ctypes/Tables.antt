-- A shape put into a table of shapes.
use Rattle.std.proofs.Common.{◌≡◌, ◌⊎◌, ℕ, ◌<◌, ◌+◌, ◌++◌, ◌∷◌, [], Bool, true, false, cond, List, Some, length, get_or, inl, inr, refl, sym, ap, subst, ◌∙◌, arith}
use Rattle.std.proofs.lemmas.Bool.{cases_lt, true≢false}
use Rattle.std.proofs.lemmas.List.Folds.{list_any_at}
use Rattle.std.proofs.lemmas.List.{get_or_append_left, length-append}
use Rattle.std.proofs.lemmas.List.Sums.{fold-append}
use Rattle.std.proofs.Math.Seq.{get_or-append_seam}
use Rattle.std.proofs.lemmas.Option.{slice_get_within, get_or_from_slice_get, slice_get-get_or}
use Rattle.std.specs.List.{slice_get, list_any}
use Rattle.indexmap.specs.IndexSet.{insert_key}
use Rattle.cbase.specs.declared.ctype.CType.{CType}
use Rattle.cbase.specs.declared.ctype.CType.TheVariants.{Void as VoidType}
use Rattle.typing.specs.declared.ctypes.shape.Shape.{Shape}
use Rattle.typing.specs.ctypes.Table.{type_at, type_of, types_of, NamesBelow, AreApart, StandsFor, IsTable, Interns}
use Rattle.typing.proofs.ctypes.Shapes.{same_shape, type_of-grown, names_below-more}

types_of-push : (shapes : List Shape) (shape : Shape) → types_of (shapes ++ shape ∷ []) ≡ types_of shapes ++ type_of (types_of shapes) shape ∷ []
types_of-push shapes shape = fold-append (λ types s. types ++ type_of types s ∷ []) [] shapes (shape ∷ [])

-- what stands at a place of a list with one more behind it
pub get_pushed : {A : Type 0} (xs : List A) (x : A) (k : ℕ) (y : A) → slice_get (xs ++ x ∷ []) k ≡ Some y → (slice_get xs k ≡ Some y) ⊎ ((k ≡ length xs) × (y ≡ x))
get_pushed xs x k y e =
    let within : k < length (xs ++ x ∷ []) = slice_get_within (xs ++ x ∷ []) k y e in
    let longer : length (xs ++ x ∷ []) ≡ length xs + 1 = length-append xs (x ∷ []) in
    let read : get_or (xs ++ x ∷ []) k x ≡ y = get_or_from_slice_get (xs ++ x ∷ []) k y x e in
    elim (cases_lt k (length xs)) as (λ _. (slice_get xs k ≡ Some y) ⊎ ((k ≡ length xs) × (y ≡ x))) [
      | inl less ↦ inl (slice_get-get_or xs k x less ∙ ap Some (sym (get_or_append_left xs (x ∷ []) x k less) ∙ read))
      | inr more ↦ let last : k ≡ length xs = omega arith in
          inr (last, sym read ∙ (ap (λ n. get_or (xs ++ x ∷ []) n x) last ∙ get_or-append_seam xs x [] x))
    ]

pub type_pushed : (types : List CType) (t : CType) → type_at (types ++ t ∷ []) (length types) ≡ t
type_pushed types t = get_or-append_seam types t [] VoidType

apart-push : (types : List CType) (t : CType) → AreApart types → ((i : ℕ) → i < length types → type_at types i ≡ t → ⊥) → AreApart (types ++ t ∷ [])
apart-push types t apart fresh i j hi hj e =
    let longer : length (types ++ t ∷ []) ≡ length types + 1 = length-append types (t ∷ []) in
    let old : (k : ℕ) → k < length types → type_at (types ++ t ∷ []) k ≡ type_at types k = λ k h. get_or_append_left types (t ∷ []) VoidType k h in
    let last : (k : ℕ) → k ≡ length types → type_at (types ++ t ∷ []) k ≡ t = λ k h. ap (type_at (types ++ t ∷ [])) h ∙ type_pushed types t in
    elim (cases_lt i (length types)) as (λ _. i ≡ j) [
      | inl i_less ↦ elim (cases_lt j (length types)) as (λ _. i ≡ j) [
        | inl j_less ↦ apart i j i_less j_less (sym (old i i_less) ∙ (e ∙ old j j_less))
        | inr j_more ↦ let j_last : j ≡ length types = omega arith in absurd (fresh i i_less (sym (old i i_less) ∙ (e ∙ last j j_last)))
      ]
      | inr i_more ↦ let i_last : i ≡ length types = omega arith in elim (cases_lt j (length types)) as (λ _. i ≡ j) [
        | inl j_less ↦ absurd (fresh j j_less (sym (old j j_less) ∙ (sym e ∙ last i i_last)))
        | inr j_more ↦ omega arith
      ]
    ]

stands-push : (types : List CType) (shapes : List Shape) (shape : Shape) → StandsFor types shapes → NamesBelow (length shapes) shape
    → ((k : ℕ) (s : Shape) → slice_get shapes k ≡ Some s → s ≡ shape → ⊥) → StandsFor (types ++ type_of types shape ∷ []) (shapes ++ shape ∷ [])
stands-push types shapes shape stands names absent =
    let t : CType = type_of types shape in
    let size : length types ≡ length shapes = stands.size in
    let names_types : NamesBelow (length types) shape = subst (λ n. NamesBelow n shape) (sym size) names in
    let inside : (k : ℕ) (s : Shape) → slice_get shapes k ≡ Some s → k < length types = λ k s e. let w : k < length shapes = slice_get_within shapes k s e in omega arith in
    let names_in : (k : ℕ) (s : Shape) → slice_get shapes k ≡ Some s → NamesBelow (length types) s =
    λ k s e. names_below-more k (length types) s (let w : k < length types = inside k s e in omega arith) (stands.below k s e) in
    let fresh : (i : ℕ) → i < length types → type_at types i ≡ t → ⊥ = λ i h e.
    let s : Shape = get_or shapes i shape in
    let found : slice_get shapes i ≡ Some s = slice_get-get_or shapes i shape (omega arith) in
    absent i s found (same_shape types stands.apart s shape (names_in i s found) names_types (sym (stands.reads i s found) ∙ e)) in
    record {
      size = length-append types (t ∷ []) ∙ (ap (λ n. n + 1) size ∙ sym (length-append shapes (shape ∷ [])));
      below = λ k s e. elim (get_pushed shapes shape k s e) as (λ _. NamesBelow k s) [
        | inl old ↦ stands.below k s old
        | inr new ↦ subst (λ r. NamesBelow k r) (sym new.1) (subst (λ n. NamesBelow n shape) (sym new.0) names)
      ];
      reads = λ k s e. elim (get_pushed shapes shape k s e) as (λ _. type_at (types ++ t ∷ []) k ≡ type_of (types ++ t ∷ []) s) [
        | inl old ↦ get_or_append_left types (t ∷ []) VoidType k (inside k s old) ∙ (stands.reads k s old ∙ sym (type_of-grown types (t ∷ []) s (names_in k s old)))
        | inr new ↦ ap (type_at (types ++ t ∷ [])) (new.0 ∙ sym size) ∙ (type_pushed types t ∙ (sym (type_of-grown types (t ∷ []) shape names_types) ∙ ap (type_of (types ++ t ∷ [])) (sym new.1)))
      ];
      apart = apart-push types t stands.apart fresh;
    }

found_type : (shapes : List Shape) (shape : Shape) (number : ℕ) → IsTable shapes → slice_get shapes number ≡ Some shape
    → slice_get (types_of shapes) number ≡ Some (type_of (types_of shapes) shape)
found_type shapes shape number table e =
    let size : length (types_of shapes) ≡ length shapes = table.size in
    let within : number < length shapes = slice_get_within shapes number shape e in
    slice_get-get_or (types_of shapes) number VoidType (omega arith) ∙ ap Some (table.reads number shape e)

-- what is known of a table into which a shape was put
abbrev pub Put : List Shape → Shape → List Shape → ℕ → Type 0
Put shapes shape after number = IsTable after × Interns (types_of shapes) (type_of (types_of shapes) shape) (types_of after) number

put_old : (shapes after : List Shape) (shape : Shape) (number : ℕ) → IsTable shapes → after ≡ shapes → slice_get after number ≡ Some shape → Put shapes shape after number
put_old shapes after shape number table e found =
    subst (λ a. slice_get a number ≡ Some shape → Put shapes shape a number) (sym e) (λ f. (table, (found_type shapes shape number table f, inl refl, table.apart))) found

put_new : (shapes after : List Shape) (shape : Shape) (number : ℕ) → IsTable shapes → NamesBelow (length shapes) shape
    → ((k : ℕ) (s : Shape) → slice_get shapes k ≡ Some s → s ≡ shape → ⊥) → after ≡ shapes ++ shape ∷ [] → slice_get after number ≡ Some shape → Put shapes shape after number
put_new shapes after shape number table names absent e found =
    let types : List CType = types_of shapes in
    let pushed : types_of after ≡ types ++ type_of types shape ∷ [] = ap types_of e ∙ types_of-push shapes shape in
    let next : IsTable after = subst (λ ts. StandsFor ts after) (sym pushed) (subst (λ a. StandsFor (types ++ type_of types shape ∷ []) a) (sym e) (stands-push types shapes shape table names absent)) in
    let size : length types ≡ length shapes = table.size in
    let names_types : NamesBelow (length types) shape = subst (λ n. NamesBelow n shape) (sym size) names in
    let same : type_of (types_of after) shape ≡ type_of types shape = ap (λ ts. type_of ts shape) pushed ∙ type_of-grown types (type_of types shape ∷ []) shape names_types in
    (next, (found_type after shape number next found ∙ ap Some same, inr pushed, next.apart))

absent_of : (eq : Shape → Shape → Bool) → ((x y : Shape) → x ≡ y → eq x y ≡ true) → (shapes : List Shape) (shape : Shape) → list_any (eq shape) shapes ≡ false
    → (k : ℕ) (s : Shape) → slice_get shapes k ≡ Some s → s ≡ shape → ⊥
absent_of eq equal shapes shape none k s found same =
    true≢false (sym (list_any_at (eq shape) shapes k shape (slice_get_within shapes k s found) (equal shape (get_or shapes k shape) (sym (get_or_from_slice_get shapes k s shape found ∙ same)))) ∙ none)

-- what an insertion into a set of shapes leaves
pub interned : (eq : Shape → Shape → Bool) (shapes after : List Shape) (shape : Shape) (number : ℕ) → after ≡ insert_key eq shapes shape
    → (stored : Shape) × (slice_get after number ≡ Some stored) × (eq shape stored ≡ true)
    → ((x y : Shape) → eq x y ≡ true → x ≡ y) → ((x y : Shape) → x ≡ y → eq x y ≡ true)
    → IsTable shapes → NamesBelow (length (types_of shapes)) shape → Put shapes shape after number
interned eq shapes after shape number keys (stored, found, is_same) same equal table names =
    let here : slice_get after number ≡ Some shape = found ∙ ap Some (sym (same shape stored is_same)) in
    let names_here : NamesBelow (length shapes) shape = subst (λ n. NamesBelow n shape) table.size names in
    by (list_any (eq shape) shapes) refl here names_here
  where
    by : (b : Bool) → list_any (eq shape) shapes ≡ b → slice_get after number ≡ Some shape → NamesBelow (length shapes) shape → Put shapes shape after number
    by true e here names_here = put_old shapes after shape number table (keys ∙ ap (λ c. cond c shapes (shapes ++ shape ∷ [])) e) here
    by false e here names_here = put_new shapes after shape number table names_here (absent_of eq equal shapes shape e) (keys ∙ ap (λ c. cond c shapes (shapes ++ shape ∷ [])) e) here

-- the shape of a number
pub shape_found : (shapes : List Shape) (number : ℕ) (shape : Shape) → IsTable shapes → slice_get shapes number ≡ Some shape
    → (type_at (types_of shapes) number ≡ type_of (types_of shapes) shape) × NamesBelow number shape
shape_found shapes number shape table found = (table.reads number shape found, table.below number shape found)

pub shape_stands : (shapes : List Shape) (number : ℕ) → IsTable shapes → number < length (types_of shapes) → number < length shapes
shape_stands shapes number table inside = let size : length (types_of shapes) ≡ length shapes = table.size in omega arith
