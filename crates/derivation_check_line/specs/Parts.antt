-- What (3.2) and (3.4), and what (3.5), ask of the lines that they are used on. The middle kind q is the head of the line named first.
use Rattle.std.specs.Prelude.{ℕ, Bool, ◌&&◌, List, ltb, get_or}
use Rattle.theory.specs.Words.{Sign, is, isnt}
use Rattle.derivation_lines.specs.Lines.{Line, blank}
use Rattle.derivation_lines.specs.Tests.{is_kind, is_above}

-- Line i says x → q, and line j q → y, or q ↛ y.
unfoldable pub chained : ℕ → ℕ → List Line → ℕ → ℕ → ℕ → Sign → ℕ → ℕ → Bool
chained o k ls n x y s i j =
    let q = (get_or ls i blank).head in
    is_kind o k q && (is_kind o k y && (is_above ls n i x q is && is_above ls n j q y s))

-- Line i says y → q, and line j x ↛ q, where x is an object.
unfoldable pub lowered : ℕ → ℕ → List Line → ℕ → ℕ → ℕ → ℕ → ℕ → Bool
lowered o k ls n x y i j =
    let q = (get_or ls i blank).head in
    is_kind o k y && (is_kind o k q && (ltb x o && (is_above ls n i y q is && is_above ls n j x q isnt)))
