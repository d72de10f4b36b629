-- Numbers as bytes, the lowest byte first; signed ones in two's complement.
use Rattle.std.specs.Prelude.{ℕ, List, ℤ}
use Rattle.std.specs.Int.{w16, w32, w128, cast_unsigned}
use Rattle.byteorder.specs.Endian.{little_bytes}

unfoldable pub u8_bytes : ℕ → List ℕ
u8_bytes n = little_bytes 1 n

unfoldable pub u16_bytes : ℕ → List ℕ
u16_bytes n = little_bytes 2 n

unfoldable pub u32_bytes : ℕ → List ℕ
u32_bytes n = little_bytes 4 n

unfoldable pub i16_bytes : ℤ → List ℕ
i16_bytes z = little_bytes 2 (cast_unsigned w16 z)

unfoldable pub i32_bytes : ℤ → List ℕ
i32_bytes z = little_bytes 4 (cast_unsigned w32 z)

unfoldable pub i128_bytes : ℤ → List ℕ
i128_bytes z = little_bytes 16 (cast_unsigned w128 z)
