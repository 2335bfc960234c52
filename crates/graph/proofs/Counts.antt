-- How many nodes objects count for, added one after another.
use Rattle.std.proofs.Common.{◌≡◌, ℕ, ◌+◌, ◌≤◌, false, List, [], ◌∷◌, length, nat_lt, sym, ap, arith}
use Rattle.std.specs.Prelude.{slice_index_or}
use Rattle.std.specs.List.{fold}
use Rattle.std.proofs.lemmas.Bool.{le-ltb}
use Rattle.graph.specs.declared.parts.KeyedObject.{KeyedObject}
use Rattle.graph.specs.WellFormed.{nodes_of}

-- the sum is not below what it begins with
fold_above : (entries : List KeyedObject) (before : ℕ) → before ≤ fold (λ count (entry : KeyedObject). count + nodes_of entry.object.shape) before entries
fold_above [] before = omega arith
fold_above (entry ∷ rest) before = let later = fold_above rest (before + nodes_of entry.object.shape) in omega arith

-- with the first entry there are too many
pub too_many : (entries : List KeyedObject) (count total bound : ℕ) (first none : KeyedObject) → 1 ≤ length entries → first ≡ slice_index_or entries 0 none → bound ≤ count + nodes_of first.object.shape →
    total ≡ fold (λ count (entry : KeyedObject). count + nodes_of entry.object.shape) count entries → false ≡ nat_lt total bound
too_many [] count total bound first none some is enough sum = absurd (omega arith)
too_many (entry ∷ rest) count total bound first none some is enough sum =
    let later = fold_above rest (count + nodes_of entry.object.shape) in
    let same : nodes_of first.object.shape ≡ nodes_of entry.object.shape = ap (λ (e : KeyedObject). nodes_of e.object.shape) is in
    sym (le-ltb total bound (omega arith))
