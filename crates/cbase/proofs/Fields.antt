-- Fields laid one after the other, with sizes as they are kept.
use Rattle.std.proofs.Common.{◌≡◌, ◌⊎◌, inl, inr, ℕ, suc, ◌+◌, ◌<◌, ◌≤◌, min, max, length, get_or, map, drop, List, [], ◌∷◌, Option, Some, None, refl, sym, ap, ◌∙◌, arith, add-one, drop-cons}
use Rattle.std.proofs.lemmas.Bool.{cases_lt}
use Rattle.std.specs.Prelude.{option_map}
use Rattle.std.specs.Int.{next_multiple_of}
use Rattle.cbase.specs.declared.ctype.CType.{CType}
use Rattle.cbase.specs.declared.structs.Field.{Field}
use Rattle.cbase.specs.declared.layout.Layout.{Layout}
use Rattle.cbase.specs.Layout.{with_field, padded, fields_layout}
use Rattle.cbase.specs.Kept.{capped}

-- two sizes that are kept alike are equal, or both large
same_or_large : (most a b : ℕ) → min a most ≡ min b most → (a ≡ b) ⊎ ((most ≤ a) × (most ≤ b))
same_or_large most a b e = elim (cases_lt a most) [
  | inl small ↦ inl (omega arith)
  | inr large ↦ inr (omega arith, omega arith)
]

large_sum : (most a b x y : ℕ) → most ≤ a → most ≤ b → min (a + x) most ≡ min (b + y) most
large_sum most a b x y above_a above_b = omega arith

sum_size : (most a b f g : ℕ) → min a most ≡ min b most → min f most ≡ min g most → min (a + f) most ≡ min (b + g) most
sum_size most a b f g e h = omega arith

padded_alike : (most a b alignment : ℕ) → min a most ≡ min b most → min (next_multiple_of a alignment) most ≡ min (next_multiple_of b alignment) most
padded_alike most a b alignment e = elim (same_or_large most a b e) [
  | inl same ↦ ap (λ (n : ℕ). min (next_multiple_of n alignment) most) same
  | inr large ↦ large_sum most a b _ _ large.0 large.1
]

pub padded_size : (most a b k l : ℕ) → min a most ≡ min b most → k ≡ l → min (next_multiple_of a k) most ≡ min (next_multiple_of b l) most
padded_size most a b k l e h = ap (λ (n : ℕ). min (next_multiple_of a n) most) h ∙ padded_alike most a b l e

made : ℕ → ℕ → Layout
made size alignment = record { size = size; alignment = alignment }

capped-same : (a b : Layout) → min a.size 65537 ≡ min b.size 65537 → a.alignment ≡ b.alignment → capped a ≡ capped b
unfolding made
capped-same a b size alignment = ap (λ (n : ℕ). made n a.alignment) size ∙ ap (λ (n : ℕ). made (min b.size 65537) n) alignment

capped-padded : (a b : Layout) → capped a ≡ capped b → capped (padded a) ≡ capped (padded b)
capped-padded a b e =
    let size : min a.size 65537 ≡ min b.size 65537 = ap (λ l. l.size) e in
    let alignment : a.alignment ≡ b.alignment = ap (λ l. l.alignment) e in
    capped-same (padded a) (padded b) (padded_size 65537 a.size b.size a.alignment b.alignment size alignment) alignment

pub capped-with_field : (a b f g : Layout) → capped a ≡ capped b → capped f ≡ capped g → capped (with_field a f) ≡ capped (with_field b g)
capped-with_field a b f g e h =
    let size : min a.size 65537 ≡ min b.size 65537 = ap (λ l. l.size) e in
    let alignment : a.alignment ≡ b.alignment = ap (λ l. l.alignment) e in
    let more : min f.size 65537 ≡ min g.size 65537 = ap (λ l. l.size) h in
    let step : f.alignment ≡ g.alignment = ap (λ l. l.alignment) h in
    capped-same (with_field a f) (with_field b g)
    (sum_size 65537 _ _ f.size g.size (padded_size 65537 a.size b.size f.alignment g.alignment size step) more)
    (ap (λ (n : ℕ). max n f.alignment) alignment ∙ ap (λ (n : ℕ). max b.alignment n) step)

pub capped-fields_layout : (a b : Layout) (fields : List (Option Layout)) → capped a ≡ capped b → option_map capped (fields_layout a fields) ≡ option_map capped (fields_layout b fields)
capped-fields_layout a b [] e = ap Some (capped-padded a b e)
capped-fields_layout a b (None ∷ rest) e = refl
capped-fields_layout a b (Some field ∷ rest) e = capped-fields_layout (with_field a field) (with_field b field) rest (capped-with_field a b field field e refl)

pub capped-again : (l : Layout) → capped (capped l) ≡ capped l
capped-again l = capped-same (capped l) l (omega arith) refl

capped-field : (before next : Layout) (field : Option Layout) (rest : List (Option Layout)) → Some next ≡ option_map capped field → option_map capped (fields_layout before (field ∷ rest)) ≡ option_map capped (fields_layout (capped (with_field before next)) rest)
capped-field before next None rest e = cc
capped-field before next (Some field) rest e =
    let same : next ≡ capped field = cc in
    capped-fields_layout (with_field before field) (capped (with_field before next)) rest
    (capped-with_field before before field next refl (sym (ap capped same ∙ capped-again field)) ∙ sym (capped-again (with_field before next)))

-- the fields from an index on
pub drop-field : (fields : List Field) (index : ℕ) (field : Field) → index < length fields → field ≡ get_or fields index field → drop index fields ≡ field ∷ drop (index + 1) fields
drop-field fields index field within is = rw add-one (drop-cons fields index field within ∙ ap (λ (f : Field). f ∷ drop (suc index) fields) (sym is))

pub fields_layout_step : (of_type : CType → Option Layout) (before next : Layout) (fields : List Field) (index : ℕ) (field : Field) → index < length fields → field ≡ get_or fields index field → Some next ≡ option_map capped (of_type field.ctype)
    → option_map capped (fields_layout (capped (with_field before next)) (map (λ f. of_type f.ctype) (drop (index + 1) fields))) ≡ option_map capped (fields_layout before (map (λ f. of_type f.ctype) (drop index fields)))
fields_layout_step of_type before next fields index field within is known =
    rw (drop-field fields index field within is) (sym (capped-field before next (of_type field.ctype) (map (λ f. of_type f.ctype) (drop (index + 1) fields)) known))
