-- Bitwise operators on whole numbers of any size, in two's complement: the number -(n + 1) has the
-- opposites of the bits of n.
use Rattle.std.specs.Prelude.{ℕ, ℤ, pos, negsuc, ◌-◌, bit_and, bit_or, bit_xor}
use Rattle.std.specs.Int.{bit_at}

-- the bit at a place, from 0 for the lowest
abbrev pub bit : ℤ → ℕ → ℕ
bit (pos n) place = bit_at n place
bit (negsuc n) place = 1 - bit_at n place

-- the opposite of each bit
abbrev pub flip : ℤ → ℤ
flip (pos n) = negsuc n
flip (negsuc n) = pos n

-- `bit_xor m (bit_and m n)` has the bits that m has and n lacks
abbrev pub both : ℤ → ℤ → ℤ
both (pos m) (pos n) = pos (bit_and m n)
both (pos m) (negsuc n) = pos (bit_xor m (bit_and m n))
both (negsuc m) (pos n) = pos (bit_xor n (bit_and m n))
both (negsuc m) (negsuc n) = negsuc (bit_or m n)

abbrev pub either : ℤ → ℤ → ℤ
either x y = flip (both (flip x) (flip y))

abbrev pub one_of : ℤ → ℤ → ℤ
one_of (pos m) (pos n) = pos (bit_xor m n)
one_of (pos m) (negsuc n) = negsuc (bit_xor m n)
one_of (negsuc m) (pos n) = negsuc (bit_xor m n)
one_of (negsuc m) (negsuc n) = pos (bit_xor m n)
