-- The test of one word means that it is legal; plain words are those of the origin 0.
use Prim.Native.Nat.{ℕ, ◌+◌, ◌≤◌}
use mathlib.Core.Path.{◌≡◌, refl}
use mathlib.Core.Bool.{Bool, true, false, ◌&&◌}
use mathlib.Core.Logic.{◌↔◌}
use native.Mathlib.Omega.{arith}
use borrow.Author.Tests.{leb-true, leb-false, le-ltb}
use lib.Dec.{ltb, leb}
use Rattle.theory_laws.proofs.Deciding.{decides_below, decides_most, decides_both, decides_same}
use Rattle.theory.specs.Words.{tail_of, head_of, node_limit}
use Rattle.theory.specs.Nets.{LegalWord}
use Rattle.theory.specs.Origins.{origin_of, plain_of, origin_limit, LegalFrom}
use Rattle.net_word.specs.Legal.{legal, legal_from}

-- The test is passed exactly by the legal plain words.
pub legal_means : (o k w : ℕ) → (legal o (o + k) w ≡ true) ↔ LegalWord o k w
legal_means o k w =
    decides_same (legal o (o + k) w)
    (decides_both (ltb (tail_of w) (o + k)) (leb o (head_of w) && ltb (head_of w) (o + k)) (decides_below (tail_of w) (o + k))
    (decides_both (leb o (head_of w)) (ltb (head_of w) (o + k)) (decides_most o (head_of w)) (decides_below (head_of w) (o + k))))
    (λ p. record { tail = p.0; head = record { low = p.1.0; high = p.1.1 } }) (λ l. (l.tail, (l.head.low, l.head.high)))

-- That of words with an origin exactly by the legal ones.
pub legal_from_means : (o k w : ℕ) → (legal_from origin_limit o (o + k) w ≡ true) ↔ LegalFrom o k w
legal_from_means o k w =
    decides_same (legal_from origin_limit o (o + k) w)
    (decides_both (leb (origin_of w) origin_limit) (legal o (o + k) (plain_of w)) (decides_most (origin_of w) origin_limit) (legal_means o k (plain_of w)))
    (λ p. record { origin = p.0; plain = p.1 }) (λ l. (l.origin, l.plain))

-- Among at most 1,024 nodes a word of 2,097,152 or more has a tail that is no node: as a plain word it is legal exactly if it is with 0 as the largest origin.
pub legal_plain : (o n w : ℕ) → n ≤ node_limit → legal_from 0 o n w ≡ legal o n w
legal_plain o n w few = at (leb (origin_of w) 0) refl
  where
    at : (q : Bool) → leb (origin_of w) 0 ≡ q → (q && legal o n (plain_of w)) ≡ legal o n w
    at true e =
        let h = leb-true (origin_of w) 0 e in
        let p : plain_of w ≡ w = omega arith in
        rw p refl
    at false e =
        let h = leb-false (origin_of w) 0 e in
        let t : n ≤ tail_of w = omega arith in
        rw (le-ltb (tail_of w) n t) refl
