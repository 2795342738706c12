-- A command, node by node and marker by marker.
use Prim.Native.Nat.{ℕ, ◌^◌, ◌<◌, ◌≤◌}
use mathlib.Core.Path.{◌≡◌, refl, sym, ap, ◌∙◌}
use mathlib.Core.Bool.{Bool, true, false, cond, ◌&&◌, ◌||◌}
use mathlib.Core.List.{List, [], ◌∷◌, Memᴰ}
use native.Mathlib.Omega.{arith}
use borrow.Author.Tests.{eqb-true, eqb-false}
use lib.Dec.{eqb}
use lib.ListN.{length, get_or, length-set}
use lib.Seq.{get_or-set_same, get_or-set_other}
use Rattle.theory_laws.proofs.Booleans.{or_assoc, or_false}
use Rattle.theory_laws.proofs.Bits.{bit_or_lem, bit_power}
use Rattle.theory.specs.Marks.{has, with, mark, far, fires, link, links, command}
use Rattle.theory.specs.Inside.{Inside}
use Rattle.theory.specs.declared.Command.{Command}
use Rattle.theory.proofs.Inside.{far_in, inside_first, inside_rest}

-- The markers of a byte that got one.
pub has_with : (j k b : ℕ) → has j (with k b) ≡ (has j b || eqb j k)
has_with j k b = bit_or_lem j b (2 ^ k) ∙ ap (λ (q : Bool). has j b || q) (bit_power j k)

pub mark_length : (k t : ℕ) (m : List ℕ) → length (mark k t m) ≡ length m
unfolding mark
mark_length k t m = length-set m t (with k (get_or m t 0))

module _ (j k t v : ℕ) (m : List ℕ) (l : t < length m) where
  marked : (q : Bool) → eqb t v ≡ q → has j (get_or (mark k t m) v 0) ≡ (has j (get_or m v 0) || (q && eqb j k))
  unfolding mark
  marked true e =
      let i : t ≡ v = eqb-true t v e in
      rw (← i) (ap (has j) (get_or-set_same m t (with k (get_or m t 0)) 0 l) ∙ has_with j k (get_or m t 0))
  marked false e =
      ap (has j) (get_or-set_other m t v (with k (get_or m t 0)) 0 (λ (i : v ≡ t). eqb-false t v e (sym i))) ∙ sym (or_false (has j (get_or m v 0)))

  -- Node v has marker j after marker k was put at t, if it had it, or if it is the one put.
  pub mark_at : has j (get_or (mark k t m) v 0) ≡ (has j (get_or m v 0) || (eqb t v && eqb j k))
  mark_at = marked (eqb t v) refl

-- The link puts marker j at node v.
abbrev pub hits : Command → List ℕ → ℕ → ℕ → ℕ → Bool
hits c old j v w = fires c old w && (eqb (far c.at_head w) v && eqb j c.put)

-- Some word passes a test.
unfoldable pub any : (ℕ → Bool) → List ℕ → Bool
any p [] = false
any p (w ∷ ws) = p w || any p ws

-- Two tests that agree on the words pass some word or none alike.
pub any_same : (p q : ℕ → Bool) (ws : List ℕ) → ((w : ℕ) → Memᴰ w ws → p w ≡ q w) → any p ws ≡ any q ws
unfolding any
any_same p q [] h = refl
any_same p q (w ∷ ws) h = rw (h w (Memᴰ.head refl), any_same p q ws (λ v m. h v (Memᴰ.tail m)))

pub any_none : (p : ℕ → Bool) (ws : List ℕ) → ((w : ℕ) → Memᴰ w ws → p w ≡ false) → any p ws ≡ false
unfolding any
any_none p [] h = refl
any_none p (w ∷ ws) h = rw (h w (Memᴰ.head refl)) (any_none p ws (λ v m. h v (Memᴰ.tail m)))

module _ (c : Command) where
  pub link_at : (old : List ℕ) (w : ℕ) (m : List ℕ) (j v : ℕ) → far c.at_head w < length m
      → has j (get_or (link c old w m) v 0) ≡ (has j (get_or m v 0) || hits c old j v w)
  unfolding link
  link_at old w m j v l = at (fires c old w)
    where
      t : ℕ
      t = far c.at_head w

      at : (p : Bool) → has j (get_or (cond p (mark c.put t m) m) v 0) ≡ (has j (get_or m v 0) || (p && (eqb t v && eqb j c.put)))
      at false = sym (or_false (has j (get_or m v 0)))
      at true = mark_at j c.put t v m l

  pub link_length : (old : List ℕ) (w : ℕ) (m : List ℕ) → length (link c old w m) ≡ length m
  unfolding link
  link_length old w m = at (fires c old w)
    where
      at : (p : Bool) → length (cond p (mark c.put (far c.at_head w) m) m) ≡ length m
      at true = mark_length c.put (far c.at_head w) m
      at false = refl

  pub links_at : (old ws m : List ℕ) (n j v : ℕ) → Inside n ws → n ≤ length m
      → has j (get_or (links c old ws m) v 0) ≡ (has j (get_or m v 0) || any (hits c old j v) ws)
  unfolding links any
  links_at old [] m n j v e l = sym (or_false (has j (get_or m v 0)))
  links_at old (w ∷ ws) m n j v e l =
      let t : far c.at_head w < n = far_in c.at_head (inside_first e) in
      links_at old ws (link c old w m) n j v (inside_rest e) (omega (arith, link_length old w m))
      ∙ ap (λ (q : Bool). q || any (hits c old j v) ws) (link_at old w m j v (omega arith))
      ∙ or_assoc (has j (get_or m v 0)) (hits c old j v w) (any (hits c old j v) ws)

  -- The pointwise law: a node has a marker after a command if it had it before, or if a link that had the tested marker before puts it there.
  pub command_at_lem : (ws m : List ℕ) (n j v : ℕ) → Inside n ws → n ≤ length m
      → has j (get_or (command c ws m) v 0) ≡ (has j (get_or m v 0) || any (hits c m j v) ws)
  unfolding command
  command_at_lem ws m n j v e l = links_at m ws m n j v e l
