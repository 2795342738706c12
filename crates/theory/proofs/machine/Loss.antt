-- What the report's downscan loses: on net M it leaves out both F, so it does not mark all that the rules support.
use Prim.Native.Nat.{ℕ, ◌+◌, ◌<◌}
use mathlib.Core.Path.{◌≡◌, refl}
use mathlib.Core.Bool.{true}
use mathlib.Core.List.Memᴰ
use mathlib.Core.List.{List, [], ◌∷◌}
use mathlib.Core.Logic.{⊎_elim}
use native.Mathlib.Omega.{arith}
use Rattle.theory_laws.proofs.Booleans.{contradiction}
use Rattle.theory.specs.Words.{isnt}
use Rattle.theory.specs.Nets.{Kind, Links, LegalWord, LegalWords, Net}
use Rattle.theory.specs.Support.{Supported, linked, r3, r4}
use Rattle.theory.specs.Marks.{F, mark, link, links, command, round, At}
use Rattle.theory.specs.Scans.{same, rounds}
use Rattle.theory.specs.Downscan.{downscan}
use Rattle.theory.specs.NetM.{M}

-- A word in front of legal words.
pub legal_cons : (o k w : ℕ) (ws : List ℕ) → LegalWord o k w → LegalWords o k ws → LegalWords o k (w ∷ ws)
legal_cons o k w ws l f v m = ⊎_elim (λ e. rw e l) (f v) (Memᴰ.cases_cons m)

-- Net M is a net.
pub M_net : Net 2 4 M
M_net = record {
  few = omega arith;
  short = omega arith;
  legal =
      legal_cons 2 4 4 _ (record { tail = omega arith; head = record { low = omega arith; high = omega arith } })
      (legal_cons 2 4 2058 _ (record { tail = omega arith; head = record { low = omega arith; high = omega arith } })
      (legal_cons 2 4 4103 _ (record { tail = omega arith; head = record { low = omega arith; high = omega arith } })
      (legal_cons 2 4 8198 _ (record { tail = omega arith; head = record { low = omega arith; high = omega arith } })
      (legal_cons 2 4 10248 [] (record { tail = omega arith; head = record { low = omega arith; high = omega arith } }) (λ w m. elim m [ ])))));
}

kind : (p : ℕ) → 1 < p → p < 6 → Kind 2 4 p
kind p l h = record { low = l; high = h }

-- 2 ↛ 4: by 2 ↛ 3 and 4 → 3.
pub two_is_not_four : Supported 2 4 (Links M) 2 4 isnt
two_is_not_four =
    let two = kind 2 (omega arith) (omega arith) in
    let three = kind 3 (omega arith) (omega arith) in
    let four = kind 4 (omega arith) (omega arith) in
    r3 four two
    (r4 three two (linked (record { it = 8198; listed = Memᴰ.tail (Memᴰ.tail (Memᴰ.tail (Memᴰ.head refl))); tail = refl; head = refl; sign = refl }))
    (r3 two three (linked (record { it = 4103; listed = Memᴰ.tail (Memᴰ.tail (Memᴰ.head refl)); tail = refl; head = refl; sign = refl }))))

-- 0 ↛ 4: by 0 → 2 and 2 ↛ 4.
pub nought_is_not_four : Supported 2 4 (Links M) 0 4 isnt
nought_is_not_four =
    r4 (kind 2 (omega arith) (omega arith)) (kind 4 (omega arith) (omega arith))
    (linked (record { it = 4; listed = Memᴰ.head refl; tail = refl; head = refl; sign = refl })) two_is_not_four

-- The downscan from 4 ends, with T at 1, 4 and 5, and F nowhere.
pub downscan_4 : downscan 6 M 4 17 ≡ record { done = true; count = 3; marks = 0 ∷ 1 ∷ 0 ∷ 0 ∷ 1 ∷ 1 ∷ [] }
unfolding rounds round command links link mark same
downscan_4 = refl

-- So it is not so that a downscan that ended has F wherever ↛ is supported.
pub downscan_incomplete : ((o k : ℕ) (ws : List ℕ) → Net o k ws → (y : ℕ) → Kind o k y → (budget : ℕ) → (downscan (o + k) ws y budget).done ≡ true
    → (x : ℕ) → Supported o k (Links ws) x y isnt → At (downscan (o + k) ws y budget).marks F x) → ⊥
downscan_incomplete f =
    contradiction (rw downscan_4 at (f 2 4 M M_net 4 (kind 4 (omega arith) (omega arith)) 17 (rw downscan_4 refl) 2 two_is_not_four))
