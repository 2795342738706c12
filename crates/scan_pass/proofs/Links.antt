-- The pass over the chosen links, word by word.
use Prim.Native.Nat.{ℕ, ◌+◌, ◌≤◌, ◌<◌}
use mathlib.Core.Path.{◌≡◌, refl, sym, ap, ◌∙◌}
use mathlib.Core.List.{List, [], ◌∷◌}
use native.Mathlib.Omega.{arith}
use lib.ListN.{length, get_or, take, drop}
use Rattle.std.proofs.lemmas.List.{length-take-le, length-drop, get_or-take, get_or-drop}
use Rattle.theory.specs.Origins.{chosen, EndsFrom, InsideFrom}
use Rattle.theory.proofs.origins.Statements.{inside_from_at}
use Rattle.theory.proofs.origins.Folds.{run, fold_go, fold_end}
use Rattle.scan_lanes.specs.Lanes.{lane_link, lane_pass, lane_from}

-- The pass is a run of what one link does.
pub lane_run : (sign : ℕ) (ws m : List ℕ) → lane_pass sign ws m ≡ run (lane_link sign) ws m
unfolding lane_pass run
lane_run sign [] m = refl
lane_run sign (w ∷ ws) m = lane_run sign ws (lane_link sign w m)

-- A loop over the words with their origins that has come to word i: it goes on, it has come to the end.
module _ (set sign : ℕ) (ws : List ℕ) (i : ℕ) (m : List ℕ) where
  pub lane_go : i < length ws → lane_pass sign (chosen set (drop i ws)) m ≡ lane_pass sign (chosen set (drop (i + 1) ws)) (lane_from set sign (get_or ws i 0) m)
  lane_go = fold_go set (lane_link sign) (lane_pass sign) (lane_run sign) ws i m

  pub lane_end : length ws ≤ i → lane_pass sign (chosen set (drop i ws)) m ≡ m
  lane_end = fold_end set (lane_link sign) (lane_pass sign) (lane_run sign) ws i m

  -- Where what is left gave all, it does after word i was followed.
  pub lane_more : {all : List ℕ} → all ≡ lane_pass sign (chosen set (drop i ws)) m → i < length ws → {a : List ℕ} → a ≡ lane_from set sign (get_or ws i 0) m
      → {j : ℕ} → j ≡ i + 1 → all ≡ lane_pass sign (chosen set (drop j ws)) a
  lane_more e l f z = rw z (e ∙ lane_go l ∙ ap (lane_pass sign (chosen set (drop (i + 1) ws))) (sym f))

-- The word at place k of a part of n words from place from on, which is a word of the whole.
module _ (ws : List ℕ) (from n k : ℕ) (room : from + n ≤ length ws) (l : k < length (take n (drop from ws))) where
  abbrev word : ℕ
  word = get_or (take n (drop from ws)) k 0

  inside_part : k < n
  inside_part = let e = length-take-le n (drop from ws) (omega (arith, length-drop from ws, room)) in omega (arith, l, e)

  word_part : word ≡ get_or ws (from + k) 0
  word_part = get_or-take n (drop from ws) k 0 inside_part ∙ get_or-drop from ws k 0

  pub part_ends : {b : ℕ} → InsideFrom b ws → EndsFrom b word
  part_ends inside = rw word_part (inside_from_at ws inside (from + k) (omega (arith, inside_part, room)))

  pub part_more : (set sign : ℕ) (m : List ℕ) {all : List ℕ} → all ≡ lane_pass sign (chosen set (drop (from + k) ws)) m → {a : List ℕ} → a ≡ lane_from set sign word m
      → all ≡ lane_pass sign (chosen set (drop (from + (k + 1)) ws)) a
  part_more set sign m e f =
      lane_more set sign ws (from + k) m e (omega (arith, inside_part, room)) (rw word_part at f) {j = from + (k + 1)} (omega arith)

-- A part that the loop has come to the end of.
pub part_end : (ws : List ℕ) (from n k : ℕ) → from + n ≤ length ws → k ≤ length (take n (drop from ws)) → length (take n (drop from ws)) ≤ k → k ≡ n
part_end ws from n k room p q = let e = length-take-le n (drop from ws) (omega (arith, length-drop from ws, room)) in omega (arith, e, p, q)
