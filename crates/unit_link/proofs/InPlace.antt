-- Where the marker tested and the marker put differ, nothing that a command puts is tested: in place it does what it does against the marks at its beginning.
use Prim.Native.Nat.{ℕ, ◌+◌, ◌≤◌, ◌<◌}
use mathlib.Core.Path.{◌≡◌, refl, sym, ap, ◌∙◌}
use mathlib.Core.Bool.{Bool, true, false, cond, ◌&&◌, ◌||◌}
use mathlib.Core.List.{List, [], ◌∷◌}
use native.Mathlib.Omega.{arith}
use borrow.Author.Tests.{ne_eqb}
use lib.Dec.{eqb}
use lib.ListN.{length, get_or, drop}
use Rattle.theory_laws.proofs.Booleans.{or_false}
use Rattle.theory.specs.Words.{parity}
use Rattle.theory.specs.Marks.{has, mark, near, far, fires, link, links, command}
use Rattle.theory.specs.Inside.{Inside}
use Rattle.theory.specs.Growth.{Set, kept}
use Rattle.theory.specs.Origins.{plain_of, chooses, chosen}
use Rattle.theory.specs.declared.Command.{Command}
use Rattle.theory.proofs.Inside.{far_in, inside_first, inside_rest}
use Rattle.theory.proofs.machine.Commands.{hits, link_at, link_length}
use Rattle.theory.proofs.origins.Folds.{run, picking, fold_go, fold_end}
use Rattle.unit_gather.specs.Aside.{fires_on}
use Rattle.unit_gather.proofs.Gathering.{picked}
use Rattle.unit_link.specs.InPlace.{link_here, in_place}

-- ── the law ──
module _ (c : Command) (apart : c.test ≡ c.put → ⊥) where
  -- Two lists of marks have the tested marker at the same nodes.
  abbrev Alike : List ℕ → List ℕ → Type 0
  Alike old m = (v : ℕ) → has c.test (get_or m v 0) ≡ has c.test (get_or old v 0)

  never_hits : (old : List ℕ) (v w : ℕ) → hits c old c.test v w ≡ false
  never_hits old v w = rw (ne_eqb c.test c.put apart) (at (fires c old w) (eqb (far c.at_head w) v))
    where
      at : (p q : Bool) → (p && (q && false)) ≡ false
      at true true = refl
      at true false = refl
      at false q = refl

  alike_link : (old m : List ℕ) (w : ℕ) → far c.at_head w < length m → Alike old m → Alike old (link c m w m)
  alike_link old m w l a v =
      link_at c m w m c.test v l
      ∙ ap (λ (q : Bool). has c.test (get_or m v 0) || q) (never_hits m v w)
      ∙ or_false (has c.test (get_or m v 0))
      ∙ a v

  same_link : (old m : List ℕ) (w : ℕ) → Alike old m → link c old w m ≡ link c m w m
  unfolding link
  same_link old m w a = ap (λ (q : Bool). cond (eqb (parity w) c.sign && q) (mark c.put (far c.at_head w) m) m) (sym (a (near c.at_head w)))

  alike_links : (n : ℕ) (old ws m : List ℕ) → Inside n ws → n ≤ length m → Alike old m → in_place c ws m ≡ links c old ws m
  unfolding in_place links
  alike_links n old [] m e l a = refl
  alike_links n old (w ∷ ws) m e l a =
      let t : far c.at_head w < n = far_in c.at_head (inside_first e) in
      alike_links n old ws (link c m w m) (inside_rest e) (omega (arith, link_length c m w m)) (alike_link old m w (omega arith) a)
      ∙ ap (links c old ws) (sym (same_link old m w a))

  pub in_place_command : (n : ℕ) (ws m : List ℕ) → Inside n ws → n ≤ length m → in_place c ws m ≡ command c ws m
  unfolding command
  in_place_command n ws m e l = alike_links n m ws m e l (λ v. refl)

  -- The marks that the code left.
  pub in_place_ran : (n : ℕ) (ws m : List ℕ) → Inside n ws → n ≤ length m → {m' : List ℕ} → m' ≡ in_place c ws m → m' ≡ command c ws m
  in_place_ran n ws m e l f = f ∙ in_place_command n ws m e l

-- ── in the terms of the code: one word, of which it found whether it fires ──
module _ (origins : ℕ) (c : Command) (w : ℕ) (m : List ℕ) where
  module _ {r : Bool} (h : r ≡ fires_on origins c m w) where
    fired : picking origins (link_here c) w m ≡ cond r (mark c.put (far c.at_head (plain_of w)) m) m
    unfolding link
    fired =
        picked (chooses origins w) (fires c m (plain_of w)) (mark c.put (far c.at_head (plain_of w)) m) m
        ∙ ap (λ (q : Bool). cond q (mark c.put (far c.at_head (plain_of w)) m) m) (sym h)

    pub here_not : r ≡ false → (m ≡ picking origins (link_here c) w m) × Set false m m
    here_not f = (sym (fired ∙ rw f), kept)

    pub here_put : r ≡ true → {p to : ℕ} → p ≡ plain_of w → to ≡ far c.at_head p → {m' : List ℕ} → m' ≡ mark c.put to m → m' ≡ picking origins (link_here c) w m
    here_put f i l e = e ∙ ap (λ (v : ℕ). mark c.put v m) (l ∙ ap (far c.at_head) i) ∙ sym (fired ∙ rw f)

-- ── a loop that has come to word i ──
in_place_run : (c : Command) (ws m : List ℕ) → in_place c ws m ≡ run (link_here c) ws m
unfolding in_place run
in_place_run c [] m = refl
in_place_run c (w ∷ ws) m = in_place_run c ws (link_here c w m)

module _ (origins : ℕ) (c : Command) (ws : List ℕ) (i : ℕ) (m : List ℕ) where
  pub in_place_go : i < length ws → {b : List ℕ} → b ≡ picking origins (link_here c) (get_or ws i 0) m → in_place c (chosen origins (drop i ws)) m ≡ in_place c (chosen origins (drop (i + 1) ws)) b
  in_place_go h e = fold_go origins (link_here c) (in_place c) (in_place_run c) ws i m h ∙ ap (in_place c (chosen origins (drop (i + 1) ws))) (sym e)

  pub in_place_end : length ws ≤ i → in_place c (chosen origins (drop i ws)) m ≡ m
  in_place_end = fold_end origins (link_here c) (in_place c) (in_place_run c) ws i m
