-- Laws of promotions and conversions of integers.
use Rattle.std.proofs.Common.{◌≡◌, ◌<◌, ◌≤◌, Bool, true, false, ◌&&◌, refl, ap, ◌∙◌, arith, if◌then◌else◌}
use Rattle.std.proofs.lemmas.Bool.{ltb-true, ltb-false, le-ltb}
use Rattle.std.specs.Prelude.{nat_lt}
use Rattle.cbase.specs.declared.ctype.CType.TheVariants.{Int as IntType}
use Rattle.typing.specs.declared.ctypes.kind.IntegerType.{IntegerType}
use Rattle.typing.specs.ctypes.Broken.{Typed}
use Rattle.typing.specs.ctypes.Choosing.{joined}
use Rattle.typing.specs.ctypes.Integers.{integer, int, promoted, wider, common, type_of_integer}
use Rattle.typing.specs.ctypes.Kinds.{Integer}
use Rattle.typing.specs.ctypes.Ranks.{promotions_agree, conversions_agree}

-- a type of the size of `int` or more is kept
promoted_large : (t : IntegerType) → 4 ≤ t.bytes → promoted t ≡ t
promoted_large t large = ap (λ small. if small then int else t) (le-ltb t.bytes 4 large)

bytes-promoted : (t : IntegerType) → 4 ≤ (promoted t).bytes
bytes-promoted t = by (nat_lt t.bytes 4) refl
  where
    by : (small : Bool) → nat_lt t.bytes 4 ≡ small → 4 ≤ (if small then int else t).bytes
    by true e = omega arith
    by false e = ltb-false t.bytes 4 e

pub promoted_promoted : (t : IntegerType) → promoted (promoted t) ≡ promoted t
promoted_promoted t = promoted_large (promoted t) (bytes-promoted t)

-- the wider one, where it is known which has more bytes
abbrev wider_by : Bool → Bool → IntegerType → IntegerType → IntegerType
wider_by less more left right = if less then right else (if more then left else integer left.bytes (left.signed && right.signed))

bytes-wider : (left right : IntegerType) → 4 ≤ left.bytes → 4 ≤ right.bytes → 4 ≤ (wider left right).bytes
bytes-wider left right h k = by (nat_lt left.bytes right.bytes) (nat_lt right.bytes left.bytes)
  where
    by : (less more : Bool) → 4 ≤ (wider_by less more left right).bytes
    by true more = k
    by false true = h
    by false false = h

pub promoted_common : (left right : IntegerType) → type_of_integer (promoted (common left right)) ≡ type_of_integer (common left right)
promoted_common left right =
    ap type_of_integer (promoted_large (common left right) (bytes-wider (promoted left) (promoted right) (bytes-promoted left) (bytes-promoted right)))

and_commutes : (a b : Bool) → (a && b) ≡ (b && a)
and_commutes true true = refl
and_commutes true false = refl
and_commutes false true = refl
and_commutes false false = refl

and_self : (a : Bool) → (a && a) ≡ a
and_self true = refl
and_self false = refl

both_less : (a b : IntegerType) → nat_lt a.bytes b.bytes ≡ true → nat_lt b.bytes a.bytes ≡ true → ⊥
both_less a b e f = let p : a.bytes < b.bytes = ltb-true a.bytes b.bytes e in let q : b.bytes < a.bytes = ltb-true b.bytes a.bytes f in omega arith

wider_commutes : (less more : Bool) (a b : IntegerType) → nat_lt a.bytes b.bytes ≡ less → nat_lt b.bytes a.bytes ≡ more
    → type_of_integer (wider_by less more a b) ≡ type_of_integer (wider_by more less b a)
wider_commutes true true a b e f = absurd (both_less a b e f)
wider_commutes true false a b e f = refl
wider_commutes false true a b e f = refl
wider_commutes false false a b e f =
    let p : b.bytes ≤ a.bytes = ltb-false a.bytes b.bytes e in let q : a.bytes ≤ b.bytes = ltb-false b.bytes a.bytes f in
    let same : a.bytes ≡ b.bytes = omega arith in
    ap (λ bytes. IntType bytes (a.signed && b.signed)) same ∙ ap (IntType b.bytes) (and_commutes a.signed b.signed)

pub common_commutes : (left right : IntegerType) → type_of_integer (common left right) ≡ type_of_integer (common right left)
common_commutes left right =
    wider_commutes (nat_lt (promoted left).bytes (promoted right).bytes) (nat_lt (promoted right).bytes (promoted left).bytes) (promoted left) (promoted right) refl refl

wider_self : (less more : Bool) (t : IntegerType) → nat_lt t.bytes t.bytes ≡ less → nat_lt t.bytes t.bytes ≡ more
    → type_of_integer (wider_by less more t t) ≡ type_of_integer t
wider_self true more t e f = refl
wider_self false true t e f = refl
wider_self false false t e f = ap (IntType t.bytes) (and_self t.signed)

pub common_self : (t : IntegerType) → type_of_integer (common t t) ≡ type_of_integer (promoted t)
common_self t = wider_self (nat_lt (promoted t).bytes (promoted t).bytes) (nat_lt (promoted t).bytes (promoted t).bytes) (promoted t) refl refl

pub promotions : promotions_agree ≡ true
promotions = refl

pub conversions : conversions_agree ≡ true
conversions = refl

pub joined_self : (t : IntegerType) (first second : Bool) → joined (Integer t) first (Integer t) second ≡ Typed (type_of_integer (promoted t))
joined_self t first second = ap Typed (common_self t)
