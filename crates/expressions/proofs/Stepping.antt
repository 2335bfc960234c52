-- Steps on a way to a member, one behind the other.
use Rattle.std.proofs.Common.{◌≡◌, ℕ, ◌+◌, ◌-◌, ◌<◌, ◌≤◌, List, [], ◌∷◌, take, drop, get_or, map, length, length-append, Result, Ok, Err, sym, ap, ◌∙◌, subst, arith}
use Rattle.std.specs.Prelude.{IfOk}
use Rattle.std.proofs.lemmas.List.{drop_more, drop_all, take_all}
use Rattle.cbase.specs.declared.abi.Abi.{Abi}
use Rattle.cbase.specs.declared.place.Place.{Place}
use Rattle.cbase.specs.declared.structs.StructDef.{StructDef}
use Rattle.cbase.specs.declared.ctype.CType.{CType}
use Rattle.cbase.specs.declared.tree.expr.ExprForm.TheViews.{out-Part}
use Rattle.cbase.specs.declared.tree.expr.Part.{Part}
use Rattle.typing.specs.declared.fault.Fault.{Fault}
use Rattle.typing.specs.Paths.{Way, Offset, Stops, Arrives, LeadsFrom, NoSteps}
use Rattle.typing.specs.Pieces.{index_in, indices_in}
use Rattle.expressions.specs.declared.nodes.offsets.Reached.{Reached}
use Rattle.expressions.specs.Numbers.{Numbering}
use Rattle.expressions.specs.Ways.{IsStep, LeadsOn}

-- a step of which the rest and the whole are said otherwise
pub step_alike : (Onward Further : Reached → Way → Type 0) (Leading Whole : Way → Type 0) (result : Result Reached Fault)
    → IfOk result (λ reached. (way : Way) → Further reached way → Onward reached way) → ((way : Way) → Leading way → Whole way)
    → IsStep Onward Leading result → IsStep Further Whole result
step_alike Onward Further Leading Whole (Ok reached) further whole is = λ way leads. whole way (is way (further way leads))
step_alike Onward Further Leading Whole (Err stop) further whole is = whole (Stops stop) is

-- how many indices are left, with the next part and behind the last one
pub counted_next : (path : List Part) (at : ℕ) (part : Part) (passed count : ℕ) → at < length path → part ≡ get_or path at part
    → passed + length (indices_in (drop at path)) ≡ count
    → (passed + length (index_in (out-Part part))) + length (indices_in (drop (at + 1) path)) ≡ count
counted_next path at part passed count below is counted =
    let rest : drop at path ≡ part ∷ drop (at + 1) path = drop_more path at part below ∙ ap (λ (p : Part). p ∷ drop (at + 1) path) (sym is) in
    let parts : length (indices_in (drop at path)) ≡ length (index_in (out-Part part)) + length (indices_in (drop (at + 1) path)) =
    ap (λ (ps : List Part). length (indices_in ps)) rest ∙ length-append (index_in (out-Part part)) (indices_in (drop (at + 1) path))
    in
    omega (arith, parts, counted)

-- the rest of a way with the next part
pub rest_with : (path : List Part) (at : ℕ) (part : Part) → at < length path → part ≡ get_or path at part
    → out-Part part ∷ map out-Part (drop (at + 1) path) ≡ map out-Part (drop at path)
rest_with path at part below is =
    ap (map out-Part) (sym (drop_more path at part below ∙ ap (λ (p : Part). p ∷ drop (at + 1) path) (sym is)))

-- where a way ends
pub arrived : (abi : Abi) (structs : List StructDef) (word : Place) (n : Numbering) (path : List Part) (at : ℕ) (indices : List ℕ) (reached : Reached)
    → length path ≤ at → reached.indices + length (indices_in (drop at path)) ≡ length indices
    → LeadsOn abi structs word n (map out-Part (drop at path)) (drop reached.indices indices) reached (Offset reached.offset)
arrived abi structs word n path at indices reached end counted =
    let none : drop at path ≡ [] = drop_all at path end in
    let no_more : length (indices_in (drop at path)) ≡ 0 = ap (λ (ps : List Part). length (indices_in ps)) none in
    let past : drop reached.indices indices ≡ [] = drop_all reached.indices indices (omega (arith, no_more, counted)) in
    subst (λ (ps : List Part). LeadsOn abi structs word n (map out-Part ps) (drop reached.indices indices) reached (Offset reached.offset)) (sym none)
    (subst (λ (rest : List ℕ). LeadsOn abi structs word n [] rest reached (Offset reached.offset)) (sym past) Arrives)

-- a way without parts
pub no_parts : (abi : Abi) (structs : List StructDef) (word : Place) (t : CType) (path : List Part) (indices : List ℕ)
    → length path < 1 → length indices ≡ length (indices_in path) → LeadsFrom abi structs word t (map out-Part path) indices (Offset 0)
no_parts abi structs word t [] [] none count = NoSteps
no_parts abi structs word t [] (index ∷ indices) none count = absurd (omega (arith, count))
no_parts abi structs word t (part ∷ path) indices none count = absurd (omega (arith, none))

-- the first part and the rest
pub first_and_rest : (path : List Part) (first : Part) → 1 ≤ length path → first ≡ get_or path 0 first
    → out-Part first ∷ map out-Part (take (length path - 1) (drop 1 path)) ≡ map out-Part path
first_and_rest [] first some is = absurd (omega (arith, some))
first_and_rest (part ∷ path) first some is =
    λ i. out-Part (is i) ∷ map out-Part (take_all (length (part ∷ path) - 1) path (omega arith) i)

-- the indices behind a first part that has none
pub rest_counted : (path : List Part) (first : Part) (count : ℕ) → 1 ≤ length path → first ≡ get_or path 0 first → length (index_in (out-Part first)) ≡ 0
    → count ≡ length (indices_in path) → count ≡ length (indices_in (take (length path - 1) (drop 1 path)))
rest_counted [] first count some is none counted = absurd (omega (arith, some))
rest_counted (part ∷ path) first count some is none counted =
    let behind : take (length (part ∷ path) - 1) path ≡ path = take_all (length (part ∷ path) - 1) path (omega arith) in
    let parts : length (indices_in (part ∷ path)) ≡ length (index_in (out-Part part)) + length (indices_in path) = length-append (index_in (out-Part part)) (indices_in path) in
    let here : length (index_in (out-Part part)) ≡ 0 = ap (λ (p : Part). length (index_in (out-Part p))) (sym is) ∙ none in
    let left : count ≡ length (indices_in path) = omega (arith, counted, parts, here) in
    left ∙ ap (λ (ps : List Part). length (indices_in ps)) (sym behind)
