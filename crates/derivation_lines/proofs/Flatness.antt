-- Lines are read back as they were written.
use Prim.Native.Nat.{ℕ, zero, suc, ◌+◌, ◌-◌, ◌*◌, ◌/◌, ◌<◌, ◌≤◌}
use mathlib.Core.Path.{◌≡◌, refl}
use mathlib.Core.List.{List, [], ◌∷◌, ◌++◌}
use native.Mathlib.Omega.{arith}
use lib.ListN.{length, get_or}
use lib.Seq.{take-append_seam, drop-append_seam}
use Rattle.theory.specs.Words.{sign_number, word, sign_at}
use Rattle.theory.specs.Reasons.{written}
use Rattle.theory.proofs.completion.Ascending.{tail_word, head_word, sign_word}
use Rattle.derivation_lines.specs.Lines.{Line, blank, Ground, link, r1, r2, r3, r4, r5, none}
use Rattle.derivation_lines.specs.Deriving.{derive}
use Rattle.derivation_lines.specs.Flat.{rule_of, one_of, two_of, flat, ground_at, line_at, lines_of, derive_list}

-- Zero or one, as a sign and back.
pub sign_number_lem : (n : ℕ) → n ≤ 1 → sign_number (sign_at n) ≡ n
sign_number_lem zero h = refl
sign_number_lem (suc n) h = omega arith

pub flat_length : (ls : List Line) → length (flat ls) ≡ 4 * length ls
unfolding flat
flat_length [] = refl
flat_length (l ∷ ls) = omega (arith, flat_length ls)

pub flat_append : (ls ms : List Line) → flat (ls ++ ms) ≡ flat ls ++ flat ms
unfolding flat
flat_append [] ms = refl
flat_append (l ∷ ls) ms = rw (flat_append ls ms)

ground_back : (g : Ground) → ground_at (rule_of g) (one_of g) (two_of g) ≡ g
ground_back (link i) = refl
ground_back r1 = refl
ground_back (r2 i j) = refl
ground_back (r3 i) = refl
ground_back (r4 i j) = refl
ground_back (r5 i j) = refl
ground_back none = refl

-- A line whose head is a node of some net is read back.
line_back : (l : Line) → l.head < 1024 → line_at (word l.tail l.head l.sign) (rule_of l.ground) (one_of l.ground) (two_of l.ground) ≡ l
line_back l h = rw (tail_word l.tail l.head l.sign h, head_word l.tail l.head l.sign h, sign_word l.tail l.head l.sign, ground_back l.ground)

pub lines_back : (ls : List Line) → ((n : ℕ) → n < length ls → (get_or ls n blank).head < 1024) → lines_of (flat ls) ≡ ls
unfolding flat lines_of
lines_back [] h = refl
lines_back (l ∷ ls) h = rw (line_back l (h 0 (omega arith)), lines_back ls (λ n i. h (suc n) (omega arith)))

-- A list of numbers makes a line for every four.
pub lines_length : (l : List ℕ) → length (lines_of l) ≡ length l / 4
unfolding lines_of
lines_length [] = omega arith
lines_length (a ∷ []) = omega arith
lines_length (a ∷ b ∷ []) = omega arith
lines_length (a ∷ b ∷ c ∷ []) = omega arith
lines_length (a ∷ b ∷ c ∷ d ∷ l) = omega (arith, lines_length l)

-- Line n is made of the four numbers from 4n on.
pub line_read : (l : List ℕ) (n : ℕ) → 4 * n + 4 ≤ length l → get_or (lines_of l) n blank ≡ line_at (get_or l (4 * n) 0) (get_or l (4 * n + 1) 0) (get_or l (4 * n + 2) 0) (get_or l (4 * n + 3) 0)
unfolding lines_of
line_read [] n h = absurd (omega arith)
line_read (a ∷ []) n h = absurd (omega arith)
line_read (a ∷ b ∷ []) n h = absurd (omega arith)
line_read (a ∷ b ∷ c ∷ []) n h = absurd (omega arith)
line_read (a ∷ b ∷ c ∷ d ∷ l) zero h = refl
line_read (a ∷ b ∷ c ∷ d ∷ l) (suc n) h =
    let e0 : 4 * suc n ≡ suc (suc (suc (suc (4 * n)))) = omega arith in
    let e1 : 4 * suc n + 1 ≡ suc (suc (suc (suc (4 * n + 1)))) = omega arith in
    let e2 : 4 * suc n + 2 ≡ suc (suc (suc (suc (4 * n + 2)))) = omega arith in
    let e3 : 4 * suc n + 3 ≡ suc (suc (suc (suc (4 * n + 3)))) = omega arith in
    rw (e1, e2, e3, e0) (line_read l n (omega arith))

-- A reason as it is written has its path's derivation.
pub derive_written : (o : ℕ) (set : ℕ) (ws : List ℕ) (x : ℕ) (xs ys : List ℕ) → derive_list o set ws (written x xs ys) ≡ derive o set ws x xs ys
derive_written o set ws x xs ys =
    let e : suc (length xs) - 1 ≡ length xs = omega arith in
    rw (e, take-append_seam xs ys, drop-append_seam xs ys)
