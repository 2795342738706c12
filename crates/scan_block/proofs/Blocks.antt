-- Words without a sign, as loops come to them.
use Prim.Native.Nat.{ℕ, ◌+◌, ◌-◌, ◌%◌, ◌≤◌, ◌<◌, min, max}
use mathlib.Core.Path.{◌≡◌}
use mathlib.Core.List.{List, [], ◌∷◌, ◌++◌}
use native.Mathlib.Omega.{arith}
use native.Mathlib.Decide.{dec_lt}
use native.Mathlib.Nat.{max-le, le-max_left, le-max_right, min-le_left, min-le_right}
use lib.Bits.{bit_and, bit_or, and_step, or_step}
use lib.ListN.{length, get_or}
use Rattle.std.specs.List.{between, AllWithin}
use Rattle.std.proofs.lemmas.List.Elements.{AllWithin-push}
use Rattle.std.proofs.lemmas.List.Edits.{length-between, get_or-between}
use Rattle.theory.specs.Words.{parity}
use Rattle.scan_block.specs.Signs.{None, NoIsnt}

-- A disjunction is even only where both numbers are.
or_even : (a b : ℕ) → parity (bit_or a b) ≡ 0 → (parity a ≡ 0) × (parity b ≡ 0)
or_even a b e =
    let l : max (a % 2) (b % 2) ≤ 1 = max-le (omega arith) (omega arith) in
    let z : max (a % 2) (b % 2) ≡ 0 = omega (arith, or_step a b, l, e) in
    (omega (arith, z, le-max_left (a % 2) (b % 2)), omega (arith, z, le-max_right (a % 2) (b % 2)))

-- A conjunction is odd only where both numbers are.
and_odd : (a b : ℕ) → parity (bit_and a b) ≡ 1 → (parity a ≡ 1) × (parity b ≡ 1)
and_odd a b e =
    let l : min (a % 2) (b % 2) ≤ a % 2 = min-le_left (a % 2) (b % 2) in
    let r : min (a % 2) (b % 2) ≤ b % 2 = min-le_right (a % 2) (b % 2) in
    let o : min (a % 2) (b % 2) ≡ 1 = omega (arith, and_step a b, l, e) in
    (omega (arith, o, l), omega (arith, o, r))

-- None of the words has the sign.
abbrev pub Without : ℕ → List ℕ → Type 0
Without sign xs = AllWithin (λ x. parity x ≡ sign → ⊥) xs 0 (length xs)

-- Where the disjunction of all words so far is even, none of them is odd.
abbrev pub Joined : List ℕ → ℕ → Type 0
Joined xs any = parity any ≡ 0 → Without 1 xs

pub joined_more : (xs : List ℕ) (any x : ℕ) → Joined xs any → Joined (xs ++ x ∷ []) (bit_or any x)
joined_more xs any x h e =
    let b = or_even any x e in
    AllWithin-push (λ y. parity y ≡ 1 → ⊥) xs x (h b.0) (λ q. omega (arith, q, b.1))

-- Where the conjunction of all words so far is odd, none of them is even.
abbrev pub Met : List ℕ → ℕ → Type 0
Met xs all = parity all ≡ 1 → Without 0 xs

pub met_more : (xs : List ℕ) (all x : ℕ) → Met xs all → Met (xs ++ x ∷ []) (bit_and all x)
met_more xs all x h e =
    let b = and_odd all x e in
    AllWithin-push (λ y. parity y ≡ 0 → ⊥) xs x (h b.0) (λ q. omega (arith, q, b.1))

-- The words of a block, as a list.
pub none_in_block : (sign : ℕ) (ws : List ℕ) (i : ℕ) → i + 8 ≤ length ws → Without sign (between i (i + 8) ws) → None sign ws i 8
none_in_block sign ws i r f j l =
    rw (get_or-between ws i (i + 8) j 0 (omega arith)) at (f j 0 (omega arith) (omega (arith, length-between ws i (i + 8))))

-- A loop that has come to word i found no "is not" so far: nor is there one up to the end of a block, if none is in it.
pub no_isnt_block : (ws : List ℕ) (i k : ℕ) → NoIsnt i ws → None 1 ws i k → NoIsnt (i + k) ws
no_isnt_block ws i k h f j l = at (dec_lt j i)
  where
    at : Dec (j < i) → parity (get_or ws j 0) ≡ 1 → ⊥
    at (yes d) = h j d
    at (no d) = let e : i + (j - i) ≡ j = omega arith in rw e at (f (j - i) (omega arith))

-- Nor is there one in all words, if none is from word i on.
pub no_isnt_rest : (ws : List ℕ) (i : ℕ) → Without 1 (between i (length ws) ws) → NoIsnt i ws
    → NoIsnt (length ws) ws
no_isnt_rest ws i f h j l = at (dec_lt j i)
  where
    at : Dec (j < i) → parity (get_or ws j 0) ≡ 1 → ⊥
    at (yes d) = h j d
    at (no d) =
        let e : i + (j - i) ≡ j = omega arith in
        let r = f (j - i) 0 (omega arith) (omega (arith, length-between ws i (length ws))) in
        rw (get_or-between ws i (length ws) (j - i) 0 (omega arith), e) at r
