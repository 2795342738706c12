-- Link words: a statement's tail, head and sign in one number.
use Rattle.std.specs.Prelude.{ℕ, zero, suc, ◌+◌, ◌*◌, ◌/◌, ◌%◌}

-- The two signs: "is" (→), written 0, and "is not" (↛), written 1.
pub data Sign : Type 0 where
  is isnt : Sign

-- How a sign is written.
abbrev pub sign_number : Sign → ℕ
sign_number is = 0
sign_number isnt = 1

-- The word of the statement x → y, or x ↛ y.
abbrev pub word : ℕ → ℕ → Sign → ℕ
word x y s = x * 2048 + y * 2 + sign_number s

-- A plain word's tail: it is not reduced, so a plain word too large has a tail that is no node.
abbrev pub tail_of : ℕ → ℕ
tail_of w = w / 2048

-- A word's head.
abbrev pub head_of : ℕ → ℕ
head_of w = w / 2 % 1024

-- A word's sign, as it is written.
abbrev pub parity : ℕ → ℕ
parity w = w % 2

-- The sign that is written so.
abbrev pub sign_at : ℕ → Sign
sign_at zero = is
sign_at (suc n) = isnt

-- A word's sign.
abbrev pub sign_of : ℕ → Sign
sign_of w = sign_at (parity w)

-- The largest number of nodes (number 1).
abbrev pub node_limit : ℕ
node_limit = 1024

-- The largest number of words, repeats counted (number 2): as many as there are statements over the largest net.
abbrev pub word_limit : ℕ
word_limit = 2097152
