-- The integer promotions and the usual arithmetic conversions in the words of the standard, which go by ranks, and by which
-- data layout the types have how many bytes (C11 6.3.1.1, 6.3.1.8).
use Rattle.std.specs.Prelude.{ℕ, Bool, true, false, ◌&&◌, not, nat_eq, nat_lt, nat_le, List, [], ◌∷◌, if◌then◌else◌}
use Rattle.std.specs.List.{list_all}
use Rattle.cbase.specs.declared.abi.Abi.{Abi}
use Rattle.cbase.specs.declared.abi.Abi.TheVariants.{Lp64, Llp64}
use Rattle.cbase.specs.declared.tree.spec.Rank.{Rank}
use Rattle.cbase.specs.declared.tree.spec.Rank.TheVariants.{Char, Short, Int, Long, LongLong}
use Rattle.cbase.specs.IntegerSizes.{bytes_of_rank}
use Rattle.typing.specs.declared.ctypes.kind.IntegerType.{IntegerType}
use Rattle.typing.specs.ctypes.Integers.{integer, promoted, common}

-- an integer type by its words
pub record Ranked : Type 0 where
  pub rank : Rank
  pub signed : Bool

-- the order of ranks (6.3.1.1p1)
abbrev pub order_of : Rank → ℕ
order_of Char = 0
order_of Short = 1
order_of Int = 2
order_of Long = 3
order_of LongLong = 4

abbrev pub same_sign : Ranked → Ranked → Bool
same_sign left right = if left.signed then right.signed else not right.signed

abbrev pub bytes_of : Abi → Ranked → ℕ
bytes_of abi t = bytes_of_rank abi t.rank

-- whether a type can represent all values of another one (6.2.6.2)
abbrev pub represents : Abi → Ranked → Ranked → Bool
represents abi t other =
    if same_sign t other then nat_le (bytes_of abi other) (bytes_of abi t)
    else (t.signed && nat_lt (bytes_of abi other) (bytes_of abi t))

abbrev pub ranked : Rank → Bool → Ranked
ranked rank signed = record { rank = rank; signed = signed }

-- a type whose rank is that of `int` or less: if an `int` can represent all its values, `int`, else `unsigned int`; all others
-- are unchanged (6.3.1.1p2)
abbrev pub promoted_rank : Abi → Ranked → Ranked
promoted_rank abi t =
    if nat_le (order_of t.rank) (order_of Int) then (if represents abi (ranked Int true) t then ranked Int true else ranked Int false)
    else t

-- the one of greater rank
abbrev pub greater : Ranked → Ranked → Ranked
greater left right = if nat_le (order_of right.rank) (order_of left.rank) then left else right

-- a type without sign and one with it: the first where its rank is no less; else the second where it can represent all values of
-- the first; else the one without sign that corresponds to the second
abbrev pub of_both_signs : Abi → Ranked → Ranked → Ranked
of_both_signs abi unsigned signed =
    if nat_le (order_of signed.rank) (order_of unsigned.rank) then unsigned
    else (if represents abi signed unsigned then signed else ranked signed.rank false)

-- the common type of two promoted types (6.3.1.8p1)
abbrev pub common_rank : Abi → Ranked → Ranked → Ranked
common_rank abi left right =
    if same_sign left right then greater left right
    else (if left.signed then of_both_signs abi right left else of_both_signs abi left right)

-- a type by its bytes
abbrev pub by_bytes : Abi → Ranked → IntegerType
by_bytes abi t = integer (bytes_of abi t) t.signed

abbrev pub same_type : IntegerType → IntegerType → Bool
same_type left right = nat_eq left.bytes right.bytes && (if left.signed then right.signed else not right.signed)

-- every rank, with a sign and without
abbrev pub all_ranked : List Ranked
all_ranked =
    ranked Char true ∷ ranked Char false ∷ ranked Short true ∷ ranked Short false ∷ ranked Int true ∷ ranked Int false
    ∷ ranked Long true ∷ ranked Long false ∷ ranked LongLong true ∷ ranked LongLong false ∷ []

-- whether bytes say of each type what ranks say, by both data layouts
abbrev pub promotions_agree : Bool
promotions_agree =
    list_all (λ abi. list_all (λ t. same_type (by_bytes abi (promoted_rank abi t)) (promoted (by_bytes abi t))) all_ranked)
    (Lp64 ∷ Llp64 ∷ [])

-- and of each pair of types
abbrev pub conversions_agree : Bool
conversions_agree =
    list_all (λ abi. list_all (λ left. list_all (λ right.
    same_type (by_bytes abi (common_rank abi (promoted_rank abi left) (promoted_rank abi right)))
    (common (by_bytes abi left) (by_bytes abi right))) all_ranked) all_ranked)
    (Lp64 ∷ Llp64 ∷ [])
