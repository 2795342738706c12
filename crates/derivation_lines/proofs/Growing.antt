-- A derivation grows by lines that follow from those above.
use Prim.Native.Nat.{ℕ, suc, ◌-◌, ◌≤◌, ◌<◌}
use mathlib.Core.Path.{◌≡◌, refl}
use mathlib.Core.List.{List, [], ◌∷◌, ◌++◌, append_assoc}
use native.Mathlib.Omega.{arith}
use native.Mathlib.Decide.{dec_lt}
use lib.ListN.{length, get_or, length-append, get_or-append}
use lib.Seq.{get_or-append_seam}
use Rattle.theory.specs.Words.{Sign}
use Rattle.derivation_lines.specs.Lines.{Line, blank, Above, Follows, by_link, by_1, by_2, by_3, by_4, by_5, Derivation, Derives}

pub snoc_length : (ls : List Line) (l : Line) → length (ls ++ (l ∷ [])) ≡ suc (length ls)
snoc_length ls l = omega (arith, length-append ls (l ∷ []))

-- What stands above stays there.
pub still_above : (ls ms : List Line) {n m j x y : ℕ} {s : Sign} → n ≤ length ls → n ≤ m → Above ls n j x y s → Above (ls ++ ms) m j x y s
still_above ls ms {n} {m} {j} h i a =
    let e = get_or-append ls ms blank j (omega (arith, a.above)) in
    record { above = omega (arith, a.above); tail = rw e a.tail; head = rw e a.head; sign = rw e a.sign }

-- A line stands above the next.
pub at_seam : (ls : List Line) (l : Line) → Above (ls ++ (l ∷ [])) (suc (length ls)) (length ls) l.tail l.head l.sign
at_seam ls l =
    let e = get_or-append_seam ls l [] blank in
    record { above = omega arith; tail = rw e refl; head = rw e refl; sign = rw e refl }

module _ (o k set : ℕ) (ws : List ℕ) where
  still_follows : (ls ms : List Line) {n : ℕ} {l : Line} → n ≤ length ls → Follows o k set ws ls n l → Follows o k set ws (ls ++ ms) n l
  still_follows ls ms {n} h f = go f
    where
      on : {j x y : ℕ} {s : Sign} → Above ls n j x y s → Above (ls ++ ms) n j x y s
      on a = still_above ls ms h (omega arith) a

      go : {l : Line} → Follows o k set ws ls n l → Follows o k set ws (ls ++ ms) n l
      go (by_link i e w) = by_link i e w
      go (by_1 p e c) = by_1 p e c
      go (by_2 x q r i j e c d a b) = by_2 x q r i j e c d (on a) (on b)
      go (by_3 p q i e c d a) = by_3 p q i e c d (on a)
      go (by_4 x q r i j e c d a b) = by_4 x q r i j e c d (on a) (on b)
      go (by_5 p q t i j e c d g a b) = by_5 p q t i j e c d g (on a) (on b)

  -- One line more.
  pub one_more : (ls : List Line) (l : Line) → Derivation o k set ws ls → Follows o k set ws ls (length ls) l → Derivation o k set ws (ls ++ (l ∷ []))
  one_more ls l d f n h = at (dec_lt n (length ls))
    where
      at : Dec (n < length ls) → Follows o k set ws (ls ++ (l ∷ [])) n (get_or (ls ++ (l ∷ [])) n blank)
      at (yes i) = rw (get_or-append ls (l ∷ []) blank n i) (still_follows ls (l ∷ []) (omega arith) (d n i))
      at (no i) =
          let e : n ≡ length ls = omega (arith, snoc_length ls l) in
          rw (e, get_or-append_seam ls l [] blank) (still_follows ls (l ∷ []) (omega arith) f)

  -- The lines `done` have grown to ls, whose last line says x → y, or x ↛ y.
  pub record Grown (done ls : List Line) (x y : ℕ) (s : Sign) : Type 0 where
    pub derives : Derives o k set ws ls x y s
    pub keeps : (j u v : ℕ) (t : Sign) → Above done (length done) j u v t → Above ls (length ls) j u v t

  pub grown_none : (done : List Line) {x y : ℕ} {s : Sign} → Derives o k set ws done x y s → Grown done done x y s
  grown_none done d = record { derives = d; keeps = λ j u v t a. a }

  pub grown_then : {a b c : List Line} {u v x y : ℕ} {t s : Sign} → Grown a b u v t → Grown b c x y s → Grown a c x y s
  grown_then f g = record { derives = g.derives; keeps = λ j u v t a. g.keeps j u v t (f.keeps j u v t a) }

  pub grown_one : (done : List Line) (l : Line) → Derivation o k set ws done → Follows o k set ws done (length done) l → Grown done (done ++ (l ∷ [])) l.tail l.head l.sign
  grown_one done l d f =
      let e = snoc_length done l in
      let last : length (done ++ (l ∷ [])) - 1 ≡ length done = omega arith in
      record {
        derives = record { lines = one_more done l d f; last = rw (last, e) (at_seam done l) };
        keeps = λ j u v t a. still_above done (l ∷ []) (omega arith) (omega arith) a;
      }

  -- Two lines more, the second after the first.
  pub grown_two : (done : List Line) (l m : Line) → Derivation o k set ws done → Follows o k set ws done (length done) l
      → Follows o k set ws (done ++ (l ∷ [])) (suc (length done)) m → Grown done (done ++ (l ∷ m ∷ [])) m.tail m.head m.sign
  grown_two done l m d f g =
      let a = grown_one done l d f in
      let b = grown_one (done ++ (l ∷ [])) m a.derives.lines (rw (snoc_length done l) g) in
      rw (← append_assoc done (l ∷ []) (m ∷ [])) (grown_then a b)
