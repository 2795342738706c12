-- The calls one after another leave exact rows.
use Prim.Native.Nat.{ℕ, ◌+◌, ◌-◌, ◌*◌, ◌≤◌, ◌<◌}
use mathlib.Core.Path.{◌≡◌}
use mathlib.Core.Bool.{true}
use mathlib.Core.List.{List, ◌++◌}
use native.Mathlib.Omega.{arith}
use lib.ListN.{length, drop}
use Rattle.theory.specs.Words.{is, isnt}
use Rattle.theory.specs.Nets.{Net}
use Rattle.theory.specs.Origins.{chosen, NetFrom, InsideFrom}
use Rattle.theory.specs.Rows.{width, Wide, bit_at, Exact, supported_rows}
use Rattle.theory.proofs.origins.Statements.{chosen_net, inside_from}
use Rattle.theory.proofs.rows.Exactly.{head_kind, filled_exact}
use Rattle.rows_steps.specs.Steps.{kind_bits, is_links, middles, isnt_links, gather, back, blank_rows}
use Rattle.rows_steps.proofs.Exactly.{yes_rows_lem, yes_wide, no_rows_lem}

module _ (o k : ℕ) (ws : List ℕ) (set : ℕ) (net : NetFrom o k ws) (n w : ℕ) (size : (n ≡ o + k) × (w ≡ width (o + k))) where
  pub inside : InsideFrom n ws
  inside = rw size.0 (inside_from o k ws net)

  pub few_words : w ≤ 16
  few_words = omega (arith, size.1, net.few)

  pub wide_rows : n ≤ w * 64
  wide_rows = omega (arith, size.0, size.1)

  plain : Net o k (chosen set ws)
  plain = chosen_net set o k ws net

  module _ (l : List ℕ) (room : n * w ≤ length l) (wide : Wide l) where
    room_of : (o + k) * width (o + k) ≤ length l
    room_of = rw (size.0, size.1) at room

    -- The yes rows: cleared, with kinds, with links, closed.
    module _ {a b c d : List ℕ} (e : a ≡ blank_rows (n * w) l) (f : b ≡ kind_bits w o (n - o) a) (g : c ≡ is_links w (chosen set ws) b) (h : d ≡ middles w n o (n - o) c) where
      pub filled_yes : d ≡ supported_rows o k (chosen set ws) is ++ drop (n * w) l
      filled_yes =
          let z : n - o ≡ k = omega (arith, size.0) in
          rw (h, g, f, e, z, size.0, size.1) (yes_rows_lem o k (chosen set ws) plain l room_of wide)

      pub exact_yes : Exact o k (chosen set ws) is d
      exact_yes = rw filled_yes (filled_exact o k (chosen set ws) plain is (drop (n * w) l))

      pub wide_yes : Wide d
      wide_yes =
          let z : n - o ≡ k = omega (arith, size.0) in
          rw (h, g, f, e, z, size.0, size.1) (yes_wide o k (chosen set ws) plain l room_of wide)

      -- Their bits stand at nodes.
      pub nodes_only : (x q : ℕ) → x < n → q < w * 64 → bit_at d (x * w) q ≡ true → q < n
      nodes_only x q i j m =
          let hx : x < o + k = omega (arith, size.0) in
          let hq : q < width (o + k) * 64 = rw size.1 at j in
          let p : bit_at d (x * width (o + k)) q ≡ true = rw size.1 at m in
          omega (arith, size.0, (head_kind o k (chosen set ws) plain x q is ((exact_yes x q hx hq).0 p)).high)

    -- The no rows, by yes rows that are exact.
    pub filled_no : (yeses : List ℕ) → Exact o k (chosen set ws) is yeses → Wide yeses → {a b c d : List ℕ} → a ≡ blank_rows (n * w) l → b ≡ isnt_links o w (chosen set ws) a
        → c ≡ gather w 0 n yeses b → d ≡ back w o (n - o) 0 n yeses c → d ≡ supported_rows o k (chosen set ws) isnt ++ drop (n * w) l
    filled_no yeses exact words e f g h =
        let z : n - o ≡ k = omega (arith, size.0) in
        rw (h, g, f, e, z, size.0, size.1) (no_rows_lem o k (chosen set ws) plain l room_of wide yeses exact words)
