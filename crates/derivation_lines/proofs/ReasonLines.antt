-- The derivation from the computed reason: there is one exactly if the statement is supported.
use Prim.Native.Nat.{ℕ, ◌+◌, ◌<◌, ◌≤◌, ◌*◌}
use mathlib.Core.Path.{◌≡◌, ap}
use mathlib.Core.List.{List}
use mathlib.Core.Logic.{◌↔◌}
use native.Mathlib.Omega.{arith}
use lib.ListN.{length, get_or, length-append}
use Rattle.theory.specs.Words.{Sign}
use Rattle.theory.specs.Nets.{Kind, Links, Net}
use Rattle.theory.specs.Origins.{chosen}
use Rattle.theory.specs.Support.{Supported}
use Rattle.theory.specs.Reasons.{never}
use Rattle.theory.specs.Searches.{distances, reason_states, reason_list}
use Rattle.theory.proofs.Legal.{legal_links}
use Rattle.theory.proofs.reason.Reason.{reason_shortest, reason_exactly, reason_length}
use Rattle.derivation_lines.specs.Lines.{Line, blank, Follows, by_link, by_1, by_2, by_3, by_4, by_5, Derivation, Derives}
use Rattle.derivation_lines.specs.Flat.{flat, lines_of, derive_list}
use Rattle.derivation_lines.proofs.Sound.{word_links, derives_supported}
use Rattle.derivation_lines.proofs.Derived.{derive_derives}
use Rattle.derivation_lines.proofs.Sizes.{derive_short}
use Rattle.derivation_lines.proofs.Flatness.{lines_back, derive_written}

module _ (o k set : ℕ) (ws : List ℕ) (net : Net o k (chosen set ws)) where
  -- The head of a line that follows is a kind.
  follows_kind : (ls : List Line) (n : ℕ) (l : Line) → Follows o k set ws ls n l → Kind o k l.head
  follows_kind ls n l (by_link i e w) = (legal_links o k (chosen set ws) net.legal).head l.tail l.head l.sign (word_links set ws i l.tail l.head l.sign w)
  follows_kind ls n l (by_1 p e c) = rw e c
  follows_kind ls n l (by_2 x q r i j e c d a b) = rw e d
  follows_kind ls n l (by_3 p q i e c d a) = rw e c
  follows_kind ls n l (by_4 x q r i j e c d a b) = rw e d
  follows_kind ls n l (by_5 p q t i j e c d f a b) = rw e c

  -- A derivation over a net is read back as it was written.
  pub derivation_back : (ls : List Line) → Derivation o k set ws ls → lines_of (flat ls) ≡ ls
  derivation_back ls d = lines_back ls (λ n h. let g = follows_kind ls n (get_or ls n blank) (d n h) in omega (arith, net.few, g.high))

  module _ (x : ℕ) (node : x < o + k) (y : ℕ) (kind : Kind o k y) (s : Sign) where
    -- The reason's list.
    abbrev list_of : List ℕ
    list_of = reason_list (o + k) x (reason_states (o + k) s (chosen set ws) x y)

    -- The lines from the shortest reason derive the statement.
    pub reason_derives : get_or (distances (o + k) s (chosen set ws) y) x never < never → Derives o k set ws (derive_list o set ws list_of) x y s
    reason_derives h =
        let r = reason_shortest o k (chosen set ws) net x node y kind s h in
        rw (r.list, derive_written o set ws x r.xs r.ys) (derive_derives o k set ws (legal_links o k (chosen set ws) net.legal) x y s r.xs r.ys node kind r.shortest.path)

    -- They are at most two for each link of the reason, and one more.
    pub reason_lines : get_or (distances (o + k) s (chosen set ws) y) x never < never → length (derive_list o set ws list_of) ≤ 2 * get_or (distances (o + k) s (chosen set ws) y) x never + 1
    reason_lines h =
        let r = reason_shortest o k (chosen set ws) net x node y kind s h in
        let links : length r.xs + length r.ys ≡ get_or (distances (o + k) s (chosen set ws) y) x never =
        omega (arith, ap length r.list, length-append r.xs r.ys, reason_length (o + k) s (chosen set ws) x y) in
        rw (r.list, derive_written o set ws x r.xs r.ys) (omega (arith, derive_short set ws o x r.xs r.ys))

    -- A statement has a derivation exactly if it is supported.
    pub derivation_exactly : Supported o k (Links (chosen set ws)) x y s ↔ ((ls : List Line) × Derives o k set ws ls x y s)
    derivation_exactly =
        (λ p. (derive_list o set ws list_of, reason_derives ((reason_exactly o k (chosen set ws) net x node y kind s).0 p)), λ d. derives_supported o k set ws d.0 x y s d.1)
