-- Laws of ascending lists, and of the words that statements are written as.
use Prim.Native.Nat.{ℕ, zero, suc, ◌%◌, ◌≤◌, ◌<◌}
use mathlib.Core.Path.{◌≡◌, refl, sym, ◌∙◌, ap}
use mathlib.Core.List.Memᴰ
use mathlib.Core.List.{List, [], ◌∷◌, ◌++◌, Memᴰ}
use mathlib.Core.Logic.{◌⊎◌, inl, inr}
use native.Mathlib.Omega.{arith}
use Rattle.theory.specs.Words.{Sign, is, isnt, sign_number, word, tail_of, head_of, parity, sign_at, sign_of}
use Rattle.theory.specs.Completion.{Ascending}

-- ── a word and its parts ──
pub tail_word : (x y : ℕ) (s : Sign) → y < 1024 → tail_of (word x y s) ≡ x
tail_word x y is h = omega arith
tail_word x y isnt h = omega arith

pub head_word : (x y : ℕ) (s : Sign) → y < 1024 → head_of (word x y s) ≡ y
head_word x y is h = omega arith
head_word x y isnt h = omega arith

pub parity_word : (x y : ℕ) (s : Sign) → parity (word x y s) ≡ sign_number s
parity_word x y is = omega arith
parity_word x y isnt = omega arith

pub sign_at_number : (s : Sign) → sign_at (sign_number s) ≡ s
sign_at_number is = refl
sign_at_number isnt = refl

pub sign_word : (x y : ℕ) (s : Sign) → sign_of (word x y s) ≡ s
sign_word x y s = ap sign_at (parity_word x y s) ∙ sign_at_number s

number_sign_at : (n : ℕ) → n < 2 → sign_number (sign_at n) ≡ n
number_sign_at zero h = refl
number_sign_at (suc n) h = omega arith

pub word_of_parts : (w : ℕ) → word (tail_of w) (head_of w) (sign_of w) ≡ w
word_of_parts w = let e = number_sign_at (w % 2) (omega arith) in omega arith

-- ── ascending lists ──
pub ascending_from : (lo hi : ℕ) (l : List ℕ) → lo ≤ hi → Ascending hi l → Ascending lo l
ascending_from lo hi [] h a = tt
ascending_from lo hi (w ∷ l) h a = (omega arith, a.1)

pub ascending_low : (lo : ℕ) (l : List ℕ) → Ascending lo l → (w : ℕ) → Memᴰ w l → lo ≤ w
ascending_low lo l a w m = at lo l a m
  where
    at : (lo : ℕ) (l : List ℕ) → Ascending lo l → Memᴰ w l → lo ≤ w
    at lo l a (Memᴰ.head {x = x} e) = let h = a.0 in omega arith
    at lo l a (Memᴰ.tail {x = x} {xs = xs} m) = let h = a.0 in let i = at (suc x) xs a.1 m in omega arith

pub ascending_append : (lo hi : ℕ) (a b : List ℕ) → Ascending lo a → ((w : ℕ) → Memᴰ w a → w < hi) → Ascending hi b → lo ≤ hi → Ascending lo (a ++ b)
ascending_append lo hi [] b p q r h = ascending_from lo hi b h r
ascending_append lo hi (w ∷ a) b p q r h =
    (p.0, ascending_append (suc w) hi a b p.1 (λ v m. q v (Memᴰ.tail m)) r (q w (Memᴰ.head refl)))

still_in : (x : ℕ) (l : List ℕ) → Ascending (suc x) l → (w : ℕ) → Memᴰ w l → (y : ℕ) (l' : List ℕ) → x ≡ y → (w ≡ y) ⊎ Memᴰ w l' → Memᴰ w l'
still_in x l a w m y l' e (inl f) = let i = ascending_low (suc x) l a w m in absurd (omega arith)
still_in x l a w m y l' e (inr g) = g

-- Two ascending lists with the same members are the same.
pub ascending_same : (lo : ℕ) (l l' : List ℕ) → Ascending lo l → Ascending lo l' → ((w : ℕ) → Memᴰ w l → Memᴰ w l') → ((w : ℕ) → Memᴰ w l' → Memᴰ w l) → l ≡ l'
ascending_same lo [] [] a b f g = refl
ascending_same lo [] (y ∷ l') a b f g = elim (g y (Memᴰ.head refl)) [ ]
ascending_same lo (x ∷ l) [] a b f g = elim (f x (Memᴰ.head refl)) [ ]
ascending_same lo (x ∷ l) (y ∷ l') a b f g =
    let e : x ≡ y = first (Memᴰ.cases_cons (f x (Memᴰ.head refl))) (Memᴰ.cases_cons (g y (Memᴰ.head refl))) in
    let t : l ≡ l' = ascending_same (suc x) l l' a.1 (rw e b.1)
    (λ w m. still_in x l a.1 w m y l' e (Memᴰ.cases_cons (f w (Memᴰ.tail m))))
    (λ w m. still_in y l' b.1 w m x l (sym e) (Memᴰ.cases_cons (g w (Memᴰ.tail m)))) in
    cc
  where
    first : (x ≡ y) ⊎ Memᴰ x l' → (y ≡ x) ⊎ Memᴰ y l → x ≡ y
    first (inl e) q = e
    first (inr m) (inl e) = sym e
    first (inr m) (inr n) = let i = ascending_low (suc y) l' b.1 x m in let j = ascending_low (suc x) l a.1 y n in absurd (omega arith)
