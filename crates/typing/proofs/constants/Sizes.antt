-- Every constant has 4 bytes or 8, and bits that fit these.
use Rattle.std.proofs.Common.{◌≡◌, ℕ, ◌<◌, Bool, true, false, List, refl, sym, subst, arith, inl, inr, Option, Some, None}
use Rattle.std.specs.Prelude.{ℤ, pos, negsuc, if◌then◌else◌, option_map}
use Rattle.std.specs.List.{find}
use Rattle.cbase.specs.declared.abi.Abi.{Abi}
use Rattle.cbase.specs.declared.abi.Abi.TheVariants.{Lp64, Llp64}
use Rattle.arithmetic.specs.Value.{modulus, residue, bits, value, is_in_range}
use Rattle.typing.specs.declared.constants.meaning.Constant.{Constant}
use Rattle.typing.specs.declared.constants.integer_type.IntegerType.{IntegerType}
use Rattle.typing.specs.declared.constants.integer_type.IntegerType.TheVariants.{Int, UnsignedInt, Long, UnsignedLong, LongLong, UnsignedLongLong}
use Rattle.typing.specs.constants.Types.{types, has_value}
use Rattle.typing.specs.constants.Meanings.{Reading, Integer, Letter, constant}
use Rattle.typing.specs.constants.Deciding.{reading_of, fits, told, meaning_of}
use Rattle.typing.specs.constants.Sizes.{IsSized, IsSizedIfKnown}

residue-small : (count : ℕ) → 0 < count → (number : ℤ) → residue count number < count
residue-small count some (pos number) = omega (arith, some)
residue-small count some (negsuc before) = omega (arith, some)

four : (known : Constant) → known.bytes ≡ 4 → (number : ℤ) → known.bits ≡ bits 4 number → IsSized known
four known e number is = record {
  bytes = inl e;
  bits = let P : ℕ → Type 0 = λ n. known.bits < modulus n in
      subst P (sym e) (let small : bits 4 number < modulus 4 = residue-small (modulus 4) (omega arith) number in omega (arith, small, is));
}

eight : (known : Constant) → known.bytes ≡ 8 → (number : ℤ) → known.bits ≡ bits 8 number → IsSized known
eight known e number is = record {
  bytes = inr e;
  bits = let P : ℕ → Type 0 = λ n. known.bits < modulus n in
      subst P (sym e) (let small : bits 8 number < modulus 8 = residue-small (modulus 8) (omega arith) number in omega (arith, small, is));
}

constant-sized : (abi : Abi) (number : ℤ) (ctype : IntegerType) → IsSized (constant abi number ctype)
constant-sized Lp64 number Int = four (constant Lp64 number Int) refl number refl
constant-sized Lp64 number UnsignedInt = four (constant Lp64 number UnsignedInt) refl number refl
constant-sized Lp64 number Long = eight (constant Lp64 number Long) refl number refl
constant-sized Lp64 number UnsignedLong = eight (constant Lp64 number UnsignedLong) refl number refl
constant-sized Lp64 number LongLong = eight (constant Lp64 number LongLong) refl number refl
constant-sized Lp64 number UnsignedLongLong = eight (constant Lp64 number UnsignedLongLong) refl number refl
constant-sized Llp64 number Int = four (constant Llp64 number Int) refl number refl
constant-sized Llp64 number UnsignedInt = four (constant Llp64 number UnsignedInt) refl number refl
constant-sized Llp64 number Long = four (constant Llp64 number Long) refl number refl
constant-sized Llp64 number UnsignedLong = four (constant Llp64 number UnsignedLong) refl number refl
constant-sized Llp64 number LongLong = eight (constant Llp64 number LongLong) refl number refl
constant-sized Llp64 number UnsignedLongLong = eight (constant Llp64 number UnsignedLongLong) refl number refl

found-sized : (abi : Abi) (number : ℤ) (o : Option IntegerType) → IsSizedIfKnown (fits (option_map (constant abi number) o))
found-sized abi number None = tt
found-sized abi number (Some ctype) = constant-sized abi number ctype

letter-sized : (abi : Abi) (number : ℤ) (test : Bool) → IsSizedIfKnown (fits (if test then Some (constant abi number Int) else None))
letter-sized abi number true = constant-sized abi number Int
letter-sized abi number false = tt

read-sized : (abi : Abi) (o : Option Reading) → IsSizedIfKnown (told abi o)
read-sized abi None = tt
read-sized abi (Some (Integer base suffix number)) = found-sized abi (pos number) (find (has_value abi (pos number)) (types base suffix))
read-sized abi (Some (Letter code)) = letter-sized abi (value 1 true code) (is_in_range 1 false (pos code))

pub meaning_sized : (abi : Abi) (spelling : List ℕ) → IsSizedIfKnown (meaning_of abi spelling)
meaning_sized abi spelling = read-sized abi (reading_of spelling)
