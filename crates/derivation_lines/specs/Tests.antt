-- The check of a derivation from anybody, computed.
use Rattle.std.specs.Prelude.{ℕ, suc, ◌+◌, ◌-◌, Bool, true, false, ◌&&◌, List, [], ◌∷◌, eqb, ltb, leb, length, get_or}
use Rattle.theory.specs.Words.{Sign, is, isnt, sign_number, tail_of, head_of, parity}
use Rattle.theory.specs.Origins.{plain_of, chooses}
use Rattle.derivation_lines.specs.Lines.{Line, blank, Ground, link, r1, r2, r3, r4, r5, none}

-- p is a kind.
abbrev pub is_kind : ℕ → ℕ → ℕ → Bool
is_kind o k p = leb o p && ltb p (o + k)

-- The word w is chosen and says x → y (p = 0), or x ↛ y (p = 1).
abbrev pub says : ℕ → ℕ → ℕ → ℕ → ℕ → Bool
says set x y p w = chooses set w && (eqb (tail_of (plain_of w)) x && (eqb (head_of (plain_of w)) y && eqb (parity (plain_of w)) p))

-- Word i of the whole list does.
abbrev pub word_says : ℕ → List ℕ → ℕ → ℕ → ℕ → Sign → Bool
word_says set ws i x y s = ltb i (length ws) && says set x y (sign_number s) (get_or ws i 0)

-- Line j stands above line n and says x → y, or x ↛ y.
abbrev pub is_above : List Line → ℕ → ℕ → ℕ → ℕ → Sign → Bool
is_above ls n j x y s =
    ltb j n && (eqb (get_or ls j blank).tail x && (eqb (get_or ls j blank).head y && eqb (sign_number (get_or ls j blank).sign) (sign_number s)))

-- Line n, x → y or x ↛ y, follows by this ground. Where a rule has a middle kind q, it is the head of the line named first.
unfoldable pub grounds : ℕ → ℕ → ℕ → List ℕ → List Line → ℕ → ℕ → ℕ → Sign → Ground → Bool
grounds o k set ws ls n x y s (link i) = word_says set ws i x y s
grounds o k set ws ls n x y s r1 = eqb (sign_number s) 0 && (eqb x y && is_kind o k x)
grounds o k set ws ls n x y s (r2 i j) =
    let q = (get_or ls i blank).head in
    eqb (sign_number s) 0 && (is_kind o k q && (is_kind o k y && (is_above ls n i x q is && is_above ls n j q y is)))
grounds o k set ws ls n x y s (r3 i) = eqb (sign_number s) 1 && (is_kind o k y && (is_kind o k x && is_above ls n i y x isnt))
grounds o k set ws ls n x y s (r4 i j) =
    let q = (get_or ls i blank).head in
    eqb (sign_number s) 1 && (is_kind o k q && (is_kind o k y && (is_above ls n i x q is && is_above ls n j q y isnt)))
grounds o k set ws ls n x y s (r5 i j) =
    let q = (get_or ls i blank).head in
    eqb (sign_number s) 1 && (is_kind o k y && (is_kind o k q && (ltb x o && (is_above ls n i y q is && is_above ls n j x q isnt))))
grounds o k set ws ls n x y s none = false

-- Line n, which is l, follows.
abbrev pub follows : ℕ → ℕ → ℕ → List ℕ → List Line → ℕ → Line → Bool
follows o k set ws ls n l = grounds o k set ws ls n l.tail l.head l.sign l.ground

-- So do these lines, the first of which is line n.
unfoldable pub all_follow : ℕ → ℕ → ℕ → List ℕ → List Line → ℕ → List Line → Bool
all_follow o k set ws ls n [] = true
all_follow o k set ws ls n (l ∷ rest) = follows o k set ws ls n l && all_follow o k set ws ls (suc n) rest

-- All lines follow.
abbrev pub checks : ℕ → ℕ → ℕ → List ℕ → List Line → Bool
checks o k set ws ls = all_follow o k set ws ls 0 ls

-- All lines follow, and the last says x → y, or x ↛ y.
abbrev pub derives : ℕ → ℕ → ℕ → List ℕ → List Line → ℕ → ℕ → Sign → Bool
derives o k set ws ls x y s = is_above ls (length ls) (length ls - 1) x y s && checks o k set ws ls
