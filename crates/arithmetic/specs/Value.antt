-- What the bits of an integer stand for, and which bits stand for a whole number (C11 6.2.6.2, 6.3.1.3).
--
-- An integer type is a size, in bytes of eight bits, and whether it has a sign. The bits of an integer are given
-- as the number that they are without sign; of a number that has more bytes the lowest ones are the integer.
use Rattle.std.specs.Prelude.{ℕ, suc, ◌+◌, ◌-◌, ◌/◌, ◌%◌, ◌^◌, Bool, true, false, ◌&&◌, nat_lt, if◌then◌else◌, ℤ, pos, negsuc, neg_ℤ, ◌-ℤ◌, int_le}

-- how many integers there are of a size
abbrev pub modulus : ℕ → ℕ
modulus size = 256 ^ size

-- a whole number modulo `count`: the number from 0 on and below `count` that differs from it by a multiple
abbrev pub residue : ℕ → ℤ → ℕ
residue count (pos number) = number % count
residue count (negsuc before) = count - suc (before % count)

-- the bits of a whole number at a size: the number modulo 2^n, where the size has n bits (C11 6.3.1.3p2)
abbrev pub bits : ℕ → ℤ → ℕ
bits size number = residue (modulus size) number

-- what a number below `count` = 2^n stands for as n bits in two's complement: where its highest bit is set, the
-- number less 2^n (C11 6.2.6.2p2)
abbrev pub twos_complement : ℕ → ℕ → ℤ
twos_complement count number = if nat_lt (number + number) count then pos number else pos number -ℤ pos count

-- the value of an integer of a size, without sign or with it
abbrev pub value : ℕ → Bool → ℕ → ℤ
value size false number = pos (number % modulus size)
value size true number = twos_complement (modulus size) (number % modulus size)

-- the least and the greatest value of a type (C11 5.2.4.2.1)
abbrev pub least : ℕ → Bool → ℤ
least size false = pos 0
least size true = neg_ℤ (pos (modulus size / 2))

abbrev pub greatest : ℕ → Bool → ℤ
greatest size false = pos (modulus size) -ℤ pos 1
greatest size true = pos (modulus size / 2) -ℤ pos 1

-- whether a type has a value for a whole number
abbrev pub is_in_range : ℕ → Bool → ℤ → Bool
is_in_range size signed number = int_le (least size signed) number && int_le number (greatest size signed)
