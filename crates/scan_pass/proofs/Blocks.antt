-- The words of a part, in blocks of eight.
use Prim.Native.Nat.{ℕ, zero, suc, ◌+◌, ◌*◌, ◌/◌, ◌≤◌, ◌<◌}
use mathlib.Core.Path.{◌≡◌, ◌∙◌}
use mathlib.Core.List.{List, []}
use native.Mathlib.Omega.{arith}
use lib.ListN.{length, get_or, take, drop}
use Rattle.std.specs.Simd.{first_chunks}
use Rattle.std.proofs.lemmas.List.{length-take-le, length-drop, get_or-take, get_or-drop}
use Rattle.theory.specs.Origins.{chosen, EndsFrom, InsideFrom}
use Rattle.theory.proofs.origins.Statements.{inside_from_at}
use Rattle.scan_lanes.specs.Lanes.{lane_pass, lane_from}
use Rattle.scan_pass.proofs.Links.{lane_more}

-- Word j of block k.
chunk_word : (c k j : ℕ) (xs : List ℕ) → k < c → j < 8 → get_or (get_or (first_chunks 8 c xs) k []) j 0 ≡ get_or xs (8 * k + j) 0
chunk_word zero k j xs l h = elim l [ ]
chunk_word (suc c) zero j xs l h = let e : 8 * 0 + j ≡ j = omega arith in rw e (get_or-take 8 xs j 0 h)
chunk_word (suc c) (suc k) j xs l h =
    let e : 8 * suc k + j ≡ 8 + (8 * k + j) = omega arith in
    rw e (chunk_word c k j (drop 8 xs) (omega (arith, l)) h ∙ get_or-drop 8 xs (8 * k + j) 0)

-- The blocks of the part of n words from place from on.
module _ (ws : List ℕ) (from n : ℕ) (room : from + n ≤ length ws) {blocks : List (List ℕ)}
    (front : blocks ≡ first_chunks 8 (length (take n (drop from ws)) / 8) (take n (drop from ws))) (many : length blocks ≡ length (take n (drop from ws)) / 8) where
  pub blocks_count : length blocks ≡ n / 8
  blocks_count = let e = length-take-le n (drop from ws) (omega (arith, length-drop from ws, room)) in omega (arith, many, e)

  -- Word j of block k is a word of the whole.
  module _ (k : ℕ) (l : k < length blocks) (j : ℕ) (h : j < 8) where
    abbrev word : ℕ
    word = get_or (get_or blocks k []) j 0

    place : 8 * k + j < n
    place = omega (arith, l, h, blocks_count)

    word_block : word ≡ get_or ws (from + 8 * k + j) 0
    word_block =
        let e : from + (8 * k + j) ≡ from + 8 * k + j = omega arith in
        rw front (chunk_word (length (take n (drop from ws)) / 8) k j (take n (drop from ws)) (omega (arith, l, many)) h)
        ∙ get_or-take n (drop from ws) (8 * k + j) 0 place
        ∙ rw e at (get_or-drop from ws (8 * k + j) 0)

    pub block_ends : {b : ℕ} → InsideFrom b ws → EndsFrom b word
    block_ends inside = rw word_block (inside_from_at ws inside (from + 8 * k + j) (omega (arith, place, room)))

    pub block_more : (set sign : ℕ) (m : List ℕ) {all : List ℕ} → all ≡ lane_pass sign (chosen set (drop (from + 8 * k + j) ws)) m → {a : List ℕ} → a ≡ lane_from set sign word m
        → all ≡ lane_pass sign (chosen set (drop (from + 8 * k + (j + 1)) ws)) a
    block_more set sign m e f =
        lane_more set sign ws (from + 8 * k + j) m e (omega (arith, place, room)) (rw word_block at f) {j = from + 8 * k + (j + 1)} (omega arith)
