-- Little-endian numbers in bytes.
use Rattle.std.specs.Prelude.{ℕ, zero, suc, ◌+◌, ◌*◌, List, [], ◌∷◌, get_or, drop}

-- The little-endian numbers of two and of four bytes at i.
abbrev pub u16_at : List ℕ → ℕ → ℕ
u16_at s i = get_or s i 0 + get_or s (i + 1) 0 * 256

abbrev pub u32_at : List ℕ → ℕ → ℕ
u32_at s i = get_or s i 0 + get_or s (i + 1) 0 * 256 + get_or s (i + 2) 0 * 65536 + get_or s (i + 3) 0 * 16777216

-- The first j numbers of four bytes of a body.
unfoldable pub u32s : ℕ → List ℕ → List ℕ
u32s zero b = []
u32s (suc j) b = u32_at b 0 ∷ u32s j (drop 4 b)
