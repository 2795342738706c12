-- Valuations (section 6 of the report): over any domain, and when a statement holds in one; over the nodes, and as a table of bytes.
use Rattle.std.specs.Prelude.{ℕ, zero, suc, ◌+◌, ◌-◌, ◌*◌, ◌≤◌, ◌<◌, ◌≡◌, Bool, true, cond, not, ◌&&◌, ◌||◌, List, ltb, length, get_or}
use Rattle.std.proofs.Common.{arith}
use Rattle.theory.specs.Words.{Sign, is, isnt}
use Rattle.theory.specs.Nets.{Statements}
use Rattle.theory.specs.Support.{Supported}
use Rattle.theory.specs.Marks.{T, F, has}

-- ── over any domain ──

-- A valuation over the domain D: an element for each object, and for each element and kind a value, which is a set of T and F.
-- `value d p is` says that T is in the value of p at d, `value d p isnt` that F is: both may be, or neither.
pub record Valuation (o : ℕ) (D : Type 0) : Type 1 where
  pub element : (a : ℕ) → a < o → D
  pub value : D → ℕ → Sign → Type 0

-- What (6.3) and (6.4) ask at one element d: of p → q, and of p ↛ q.
abbrev pub Agrees : {o : ℕ} {D : Type 0} → Valuation o D → D → ℕ → ℕ → Sign → Type 0
Agrees v d p q is = (v.value d p is → v.value d q is) × (v.value d q isnt → v.value d p isnt)
Agrees v d p q isnt = (v.value d p is → v.value d q isnt) × (v.value d q is → v.value d p isnt)

-- A statement holds in a valuation: T is in its value there.
pub data HoldsIn {o : ℕ} {D : Type 0} (v : Valuation o D) (x y : ℕ) (s : Sign) : Type 0 where
  -- (6.1) and (6.2): of an object, by the value of y at its element
  object : (h : x < o) → v.value (v.element x h) y s → HoldsIn v x y s
  -- (6.3) and (6.4): of a kind, by the values at every element
  kinds : o ≤ x → ((d : D) → Agrees v d x y s) → HoldsIn v x y s

-- All statements of L hold.
abbrev pub Model : {o : ℕ} {D : Type 0} → Statements → Valuation o D → Type 0
Model L v = (x y : ℕ) (s : Sign) → L x y s → HoldsIn v x y s

-- L implies a statement: it holds in every valuation, over any domain, in which all of L holds (Definition 4).
abbrev pub Implies : ℕ → Statements → ℕ → ℕ → Sign → Type 1
Implies o L x y s = (D : Type 0) (v : Valuation o D) → Model L v → HoldsIn v x y s

-- ── over the nodes ──

-- An element for every node: an object stands for itself, a kind has a witness.
pub record Element (n : ℕ) : Type 0 where
  pub at : ℕ
  pub low : at < n

abbrev pub Domain : ℕ → ℕ → Type 0
Domain o k = Element (o + k)

-- The valuation with P for its values.
abbrev pub over_nodes : (o k : ℕ) → Statements → Valuation o (Domain o k)
over_nodes o k P = record { element = λ a h. record { at = a; low = omega arith }; value = λ d. P d.at }

-- The net's own: at each element what is supported of that node (Lemma 14).
abbrev pub own : (o k : ℕ) → Statements → Valuation o (Domain o k)
own o k L = over_nodes o k (Supported o k L)

-- ── as a table ──

-- A table for n elements and k kinds: there is a byte for each element and kind, and each of these bytes is a value, 0 to 3.
pub record Valued (n k : ℕ) (t : List ℕ) : Type 0 where
  pub long : n * k ≤ length t
  pub low : (i : ℕ) → i < n * k → get_or t i 0 ≤ 3

-- The byte of element d and kind p.
abbrev pub byte_at : ℕ → ℕ → List ℕ → ℕ → ℕ → ℕ
byte_at o k t d p = get_or t (d * k + (p - o)) 0

-- What of a value a sign asks for: T, which is 1 in a byte, or F, which is 2.
abbrev pub truth_of : Sign → ℕ
truth_of is = T
truth_of isnt = F

-- The valuation that a table stands for.
abbrev pub table_valuation : (o k : ℕ) → List ℕ → Valuation o (Domain o k)
table_valuation o k t = over_nodes o k (λ d p s. has (truth_of s) (byte_at o k t d p) ≡ true)

-- (6.3) and (6.4) at one element, by its bytes b of p and c of q.
abbrev pub agrees : Sign → ℕ → ℕ → Bool
agrees is b c = (not (has T b) || has T c) && (not (has F c) || has F b)
agrees isnt b c = (not (has T b) || has F c) && (not (has T c) || has F b)

-- The same at j elements from d on.
unfoldable pub everywhere : ℕ → ℕ → List ℕ → ℕ → ℕ → Sign → ℕ → ℕ → Bool
everywhere o k t p q s d zero = true
everywhere o k t p q s d (suc j) = agrees s (byte_at o k t d p) (byte_at o k t d q) && everywhere o k t p q s (suc d) j

-- The test whether a statement holds: of an object by one byte, of a kind at every element.
abbrev pub satisfies : ℕ → ℕ → List ℕ → ℕ → ℕ → Sign → Bool
satisfies o k t x y s = cond (ltb x o) (has (truth_of s) (byte_at o k t x y)) (everywhere o k t x y s 0 (o + k))
