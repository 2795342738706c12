-- The walk as its loop runs it: what is written and counted so far, with the rest of the way, is the whole.
use Prim.Native.Nat.{ℕ, suc, ◌+◌, ◌≤◌, ◌<◌}
use mathlib.Core.Path.{◌≡◌, refl, sym, ap, ◌∙◌}
use mathlib.Core.List.{List, [], ◌∷◌, ◌++◌, map, append_assoc}
use native.Mathlib.Omega.{arith}
use native.Mathlib.Numerals.{add-one}
use lib.ListN.{length, get_or, set, take, drop, length-set, take-append-drop}
use lib.Seq.{take-suc-set, drop-set-lt}
use Rattle.theory.specs.Words.{Sign}
use Rattle.theory.specs.Reasons.{never}
use Rattle.theory.specs.Searches.{arcs, next, descend, firsts, node_of}
use Rattle.theory.proofs.reason.Searching.{descend_go, descend_end}
use Rattle.reason_walk.specs.Walk.{Leads, states_from, first_part}
use Rattle.reason_walk.proofs.Nearer.{part_small}

-- One more place written: it moves from what is to come to what stands.
one_written : (l q : List ℕ) (at v k : ℕ) → at < length l → take at l ++ ((v ∷ q) ++ drop (at + (k + 1)) l) ≡ take (at + 1) (set l at v) ++ (q ++ drop (at + 1 + k) (set l at v))
one_written l q at v k h =
    let e : at + (k + 1) ≡ suc at + k = omega arith in
    let f : drop (suc at + k) (set l at v) ≡ drop (suc at + k) l = drop-set-lt (suc at + k) l at v (omega arith) in
    rw (add-one at, e, f, take-suc-set l at v h) (sym (append_assoc (take at l) (v ∷ []) (q ++ drop (suc at + k) l)))

firsts_go : (n v : ℕ) (p : List ℕ) → firsts n (v ∷ p) ≡ first_part n v + firsts n p
unfolding firsts
firsts_go n v p = refl

firsts_end : (n : ℕ) → firsts n [] ≡ 0
unfolding firsts
firsts_end n = refl

-- The walk from x has come to `state`, which is `left` links from the end.
pub record Walking (n : ℕ) (s : Sign) (ws d : List ℕ) (x : ℕ) (l₀ l : List ℕ) (state left count at : ℕ) : Type 0 where
  pub inside : state < n + n
  pub distance : get_or d state never ≡ left
  pub small : left < never
  pub same : length l ≡ length l₀
  pub room : at + left ≤ length l₀
  pub counted : count ≤ at
  pub parts : firsts n (states_from n s ws x d) ≡ count + firsts n (descend (arcs n s ws) d (n + n) state left)
  pub nodes : map (node_of n) (states_from n s ws x d) ++ drop (get_or d x never) l₀ ≡ take at l ++ (map (node_of n) (descend (arcs n s ws) d (n + n) state left) ++ drop (at + left) l)

module _ (n : ℕ) (s : Sign) (ws d : List ℕ) (x : ℕ) (l₀ : List ℕ) where
  -- At the beginning nothing is written.
  pub walking_begin : {left : ℕ} → x < n + n → get_or d x never ≡ left → left < never → left ≤ length l₀ → Walking n s ws d x l₀ l₀ x left 0 0
  walking_begin {left} h e g r =
      record {
        inside = h;
        distance = e;
        small = g;
        same = refl;
        room = omega arith;
        counted = omega arith;
        parts = rw (← e) (omega arith);
        nodes = let z : 0 + left ≡ left = omega arith in rw (z, e) refl;
      }

  module _ (leads : Leads n s ws d) {l : List ℕ} {state left count at : ℕ} (w : Walking n s ws d x l₀ l state left count at) where
    -- At the end all is.
    pub walking_end : left ≤ 0 → (count ≡ firsts n (states_from n s ws x d)) × (l ≡ map (node_of n) (states_from n s ws x d) ++ drop (get_or d x never) l₀)
    walking_end h =
        let e : left ≡ 0 = omega arith in
        let f : descend (arcs n s ws) d (n + n) state left ≡ [] = rw e (descend_end (arcs n s ws) d (n + n) state) in
        let z : at + left ≡ at = omega arith in
        (omega (arith, w.parts, ap (firsts n) f, firsts_end n), sym (rw (f, z, take-append-drop at l) at w.nodes))

    -- The next state is written after those before it.
    module _ {k u : ℕ} (one : k + 1 ≡ left) (found : u ≡ next (arcs n s ws) d state k (n + n)) where
      pub found_nearer : (u < n + n) × (get_or d u never ≡ k)
      found_nearer = rw found (leads state k w.inside (w.distance ∙ omega arith) (omega (arith, w.small)))

      pub walking_go : {v f : ℕ} → f ≡ first_part n u → v ≡ node_of n u → Walking n s ws d x l₀ (set l at v) u k (count + f) (at + 1)
      walking_go {v} {f} c e =
          let g : descend (arcs n s ws) d (n + n) state left ≡ u ∷ descend (arcs n s ws) d (n + n) u k = rw (← one, found) (descend_go (arcs n s ws) d (n + n) state k) in
          record {
            inside = found_nearer.0;
            distance = found_nearer.1;
            small = omega (arith, w.small);
            same = length-set l at v ∙ w.same;
            room = omega (arith, w.room);
            counted = omega (arith, w.counted, part_small n u);
            parts = omega (arith, w.parts, ap (firsts n) g, firsts_go n u (descend (arcs n s ws) d (n + n) u k));
            nodes = rw (g, ← one, ← e) at w.nodes ∙ one_written l (map (node_of n) (descend (arcs n s ws) d (n + n) u k)) at v k (omega (arith, w.room, w.same));
          }
