-- Every line of a derivation is supported.
use Prim.Native.Nat.{ℕ, zero, suc, ◌-◌, ◌<◌}
use mathlib.Core.List.{List}
use native.Mathlib.Omega.{arith}
use lib.ListN.{length, get_or}
use Rattle.theory.specs.Words.{Sign, is, isnt}
use Rattle.theory.specs.Nets.{Links}
use Rattle.theory.specs.Origins.{chosen}
use Rattle.theory.specs.Support as support
use Rattle.theory.specs.Support.{Supported}
use Rattle.theory.proofs.Inside.{at_member}
use Rattle.theory.proofs.origins.Statements.{chosen_statements}
use Rattle.derivation_lines.specs.Lines.{Line, blank, WordSays, Above, Follows, by_link, by_1, by_2, by_3, by_4, by_5, Derivation, Derives}

-- A chosen word that says a statement is a link of the chosen words.
pub word_links : (set : ℕ) (ws : List ℕ) (i x y : ℕ) (s : Sign) → WordSays set ws i x y s → Links (chosen set ws) x y s
word_links set ws i x y s w =
    (chosen_statements set ws x y s).1
    (record { it = get_or ws i 0; listed = at_member ws i w.listed; picked = w.picked; tail = w.tail; head = w.head; sign = w.sign })

module _ (o k set : ℕ) (ws : List ℕ) where
  abbrev Holds : Line → Type 0
  Holds l = Supported o k (Links (chosen set ws)) l.tail l.head l.sign

  -- What a line above says is supported, if that line is.
  above_holds : (ls : List Line) (n j x y : ℕ) (s : Sign) → Holds (get_or ls j blank) → Above ls n j x y s → Supported o k (Links (chosen set ws)) x y s
  above_holds ls n j x y s h a = rw (a.tail, a.head, a.sign) at h

  -- A line that follows from lines that are supported is supported.
  pub follows_holds : (ls : List Line) (n : ℕ) (l : Line) → ((j : ℕ) → j < n → Holds (get_or ls j blank)) → Follows o k set ws ls n l → Holds l
  follows_holds ls n l h (by_link i e w) = support.linked (word_links set ws i l.tail l.head l.sign w)
  follows_holds ls n l h (by_1 p e c) = rw e (support.r1 c)
  follows_holds ls n l h (by_2 x q r i j e c d a b) =
      rw e (support.r2 c d (above_holds ls n i x q is (h i a.above) a) (above_holds ls n j q r is (h j b.above) b))
  follows_holds ls n l h (by_3 p q i e c d a) = rw e (support.r3 c d (above_holds ls n i p q isnt (h i a.above) a))
  follows_holds ls n l h (by_4 x q r i j e c d a b) =
      rw e (support.r4 c d (above_holds ls n i x q is (h i a.above) a) (above_holds ls n j q r isnt (h j b.above) b))
  follows_holds ls n l h (by_5 p q t i j e c d f a b) =
      rw e (support.r5 c d f (above_holds ls n i p q is (h i a.above) a) (above_holds ls n j t q isnt (h j b.above) b))

  below : (ls : List Line) → Derivation o k set ws ls → (m n : ℕ) → n < m → n < length ls → Holds (get_or ls n blank)
  below ls d zero n h i = absurd (omega arith)
  below ls d (suc m) n h i = follows_holds ls n (get_or ls n blank) (λ j g. below ls d m j (omega arith) (omega arith)) (d n i)

  -- Every line of a derivation is supported, whoever wrote it.
  pub every_line_supported : (ls : List Line) → Derivation o k set ws ls → (n : ℕ) → n < length ls → Holds (get_or ls n blank)
  every_line_supported ls d n h = below ls d (suc n) n (omega arith) h

  -- So is what a derivation derives.
  pub derives_supported : (ls : List Line) (x y : ℕ) (s : Sign) → Derives o k set ws ls x y s → Supported o k (Links (chosen set ws)) x y s
  derives_supported ls x y s d =
      above_holds ls (length ls) (length ls - 1) x y s (every_line_supported ls d.lines (length ls - 1) d.last.above) d.last
