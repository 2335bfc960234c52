-- The parameters of a definition are the rows in front of all others.
use Rattle.std.proofs.Common.{◌≡◌, ℕ, zero, suc, ◌+◌, ◌<◌, ◌≤◌, Bool, true, false, List, [], ◌∷◌, map, drop, length, Option, None, Some, is_some, slice_get, option_map, if◌then◌else◌, refl, sym, ap, ◌∙◌, arith, subst}
use Rattle.std.proofs.lemmas.List.{drop-map, length-map}
use Rattle.cbase.specs.declared.ctype.CType.{CType}
use Rattle.typing.specs.Outcomes.{Handed, ParameterRow}
use Rattle.expressions.specs.declared.handed_row.HandedRow.{HandedRow}
use Rattle.expressions.specs.declared.handed_row.HandedRow.TheVariants.{Expression, Store, Object, Link, Function, Parameter}
use Rattle.expressions.specs.Context.{Context}
use Rattle.expressions.specs.Numbers.{Numbering, handed_at}
use Rattle.c_machine.specs.Program.{Program, leading_parameters, parameters_in}
use Rattle.c_text.specs.declared.parameters.Parameters.TheVariants.{OfSignature}
use Rattle.c_text.specs.Functions.{behind_in}
use Rattle.c_text.specs.Parameters.{leading, parameter_type, types_by}
use Rattle.c_text.specs.Stands.{StandsFor}
use Rattle.c_text.proofs.FunctionsFound.{no_parameters, parameters_are}

abbrev ctype_of : ParameterRow → CType
ctype_of row = row.ctype

abbrev ctypes : Numbering → List HandedRow → List CType
ctypes n rows = map ctype_of (leading_parameters (map (handed_at n) rows))

-- how many these are
count_mapped : (n : Numbering) (rows : List HandedRow) → leading rows ≡ length (ctypes n rows)
count_mapped n [] = refl
count_mapped n (Expression own ctype stands value ∷ rest) = refl
count_mapped n (Store object offset ctype own ∷ rest) = refl
count_mapped n (Object own ctype fixed zeroed ∷ rest) = refl
count_mapped n (Link own first ∷ rest) = refl
count_mapped n (Function own result ∷ rest) = refl
count_mapped n (Parameter own ctype ∷ rest) = ap suc (count_mapped n rest)

pub count_is : (n : Numbering) (context : Context) (p : Program) (start count : ℕ) → StandsFor n context p → count ≡ leading (drop start context.handed) →
    count ≡ length (map ctype_of (leading_parameters (drop start p.handed)))
count_is n context p start count stands is =
    is ∙ count_mapped n (drop start context.handed)
    ∙ ap (λ (rows : List Handed). length (map ctype_of (leading_parameters rows))) (sym (drop-map (handed_at n) start context.handed) ∙ ap (drop start) (sym stands.handed))

pub signature_count : (n : Numbering) (p : Program) (signature : ℕ) → length (n.signature signature).parameters ≡ length (types_by n p (OfSignature signature))
signature_count n p signature = sym (length-map (n.signature signature).parameters n.ctype)

pub leading_inside : (rows : List HandedRow) → leading rows ≤ length rows
leading_inside [] = omega arith
leading_inside (row ∷ rest) = at (is_some (parameter_type row)) (leading_inside rest)
  where
    at : (is : Bool) → leading rest ≤ length rest → (if is then suc (leading rest) else 0) ≤ suc (length rest)
    at true inside = omega (arith, inside)
    at false inside = omega arith

-- one of them
type_mapped : (n : Numbering) (rows rest : List HandedRow) (index : ℕ) (row : HandedRow) → index < leading rows → drop index rows ≡ row ∷ rest →
    option_map n.ctype (parameter_type row) ≡ slice_get (ctypes n rows) index
type_mapped n [] rest index row few is = absurd (omega (arith, few))
type_mapped n (Expression own ctype stands value ∷ others) rest index row few is = absurd (omega (arith, few))
type_mapped n (Store object offset ctype own ∷ others) rest index row few is = absurd (omega (arith, few))
type_mapped n (Object own ctype fixed zeroed ∷ others) rest index row few is = absurd (omega (arith, few))
type_mapped n (Link own first ∷ others) rest index row few is = absurd (omega (arith, few))
type_mapped n (Function own result ∷ others) rest index row few is = absurd (omega (arith, few))
type_mapped n (Parameter own ctype ∷ others) rest zero row few is =
    let same : Parameter own ctype ≡ row = cc in ap (λ (r : HandedRow). option_map n.ctype (parameter_type r)) (sym same)
type_mapped n (Parameter own ctype ∷ others) rest (suc index) row few is = type_mapped n others rest index row (omega (arith, few)) is

abbrev no_rows : List HandedRow
no_rows = []

drop_none : (k : ℕ) → drop k no_rows ≡ no_rows
drop_none zero = refl
drop_none (suc k) = refl

drop_behind : (start index : ℕ) (rows : List HandedRow) → drop index (drop start rows) ≡ drop (start + index) rows
drop_behind zero index rows =
    let same : index ≡ 0 + index = omega arith in ap (λ (k : ℕ). drop k rows) same
drop_behind (suc start) index [] = drop_none index ∙ sym (drop_none (suc start + index))
drop_behind (suc start) index (row ∷ rows) =
    let same : suc (start + index) ≡ suc start + index = omega arith in
    drop_behind start index rows ∙ ap (λ (k : ℕ). drop k (row ∷ rows)) same

pub type_is : (n : Numbering) (context : Context) (p : Program) (start index count : ℕ) (row : HandedRow) (rest : List HandedRow) (found : Option ℕ) →
    StandsFor n context p → count ≡ leading (drop start context.handed) → index < count → drop (start + index) context.handed ≡ row ∷ rest →
    found ≡ parameter_type row → option_map n.ctype found ≡ slice_get (map ctype_of (leading_parameters (drop start p.handed))) index
type_is n context p start index count row rest found stands counted few is told =
    ap (option_map n.ctype) told
    ∙ type_mapped n (drop start context.handed) rest index row (subst (λ (k : ℕ). index < k) counted few) (drop_behind start index context.handed ∙ is)
    ∙ ap (λ (rows : List Handed). slice_get (map ctype_of (leading_parameters rows)) index)
    (sym (drop-map (handed_at n) start context.handed) ∙ ap (drop start) (sym stands.handed))

pub index_inside : (rows : List HandedRow) (start index count : ℕ) → count ≡ leading (drop start rows) → index < count → start + index < length rows
index_inside rows start index count is few =
    inside rows start (omega (arith, is, few, leading_inside (drop start rows)))
  where
    inside : (rows : List HandedRow) (start : ℕ) → index < length (drop start rows) → start + index < length rows
    inside rows zero few = omega (arith, few)
    inside [] (suc start) few = absurd (omega (arith, few))
    inside (row ∷ rows) (suc start) few = omega (arith, inside rows start few)

-- a row in front
pub leads : (rows rest : List HandedRow) (row : HandedRow) (found : Option ℕ) (is : Bool) → rows ≡ row ∷ rest → found ≡ parameter_type row → is ≡ is_some found →
    leading rows ≡ (if is then suc (leading rest) else 0)
leads rows rest row found is front told asked =
    ap leading front ∙ ap (λ (b : Bool). if b then suc (leading rest) else 0) (ap is_some (sym told) ∙ sym asked)

pub leads_past : (rows : List HandedRow) (at : ℕ) → length rows ≤ at → leading (drop at rows) ≡ 0
leads_past [] zero past = refl
leads_past [] (suc at) past = refl
leads_past (row ∷ rows) zero past = absurd (omega (arith, past))
leads_past (row ∷ rows) (suc at) past = leads_past rows at (omega (arith, past))

-- there is none behind them
pub none_behind : (n : Numbering) (context : Context) (p : Program) (start index count : ℕ) → StandsFor n context p → count ≡ leading (drop start context.handed) →
    count ≤ index → None ≡ slice_get (map ctype_of (leading_parameters (drop start p.handed))) index
none_behind n context p start index count stands is many =
    past (map ctype_of (leading_parameters (drop start p.handed))) index (subst (λ (k : ℕ). k ≤ index) (count_is n context p start count stands is) many)
  where
    past : (items : List CType) (index : ℕ) → length items ≤ index → None ≡ slice_get items index
    past [] zero many = refl
    past [] (suc index) many = refl
    past (item ∷ items) zero many = absurd (omega (arith, many))
    past (item ∷ items) (suc index) many = past items index (omega (arith, many))

-- the rows of a definition
pub types_are : (n : Numbering) (context : Context) (p : Program) (token behind : ℕ) → StandsFor n context p →
    behind_in token context.handed ≡ Some (drop behind context.handed) →
    map ctype_of (leading_parameters (drop behind p.handed)) ≡ map ctype_of (parameters_in p.handed token)
types_are n context p token behind stands is = ap (map ctype_of) (sym (parameters_are n context p token behind stands is))

past_all : (rows : List HandedRow) → drop (length rows) rows ≡ []
past_all [] = refl
past_all (row ∷ rows) = past_all rows

pub no_types : (n : Numbering) (context : Context) (p : Program) (token start : ℕ) → StandsFor n context p → start ≡ length context.handed →
    behind_in token context.handed ≡ None → map ctype_of (leading_parameters (drop start p.handed)) ≡ map ctype_of (parameters_in p.handed token)
no_types n context p token start stands end none =
    ap (λ (rows : List Handed). map ctype_of (leading_parameters rows))
    (ap (drop start) stands.handed ∙ drop-map (handed_at n) start context.handed ∙ ap (map (handed_at n)) (ap (λ (k : ℕ). drop k context.handed) end ∙ past_all context.handed))
    ∙ sym (ap (map ctype_of) (no_parameters n context p token stands none))

pub none_leading : (context : Context) (start : ℕ) → start ≡ length context.handed → 0 ≡ leading (drop start context.handed)
none_leading context start end = sym (ap leading (ap (λ (k : ℕ). drop k context.handed) end ∙ past_all context.handed))
