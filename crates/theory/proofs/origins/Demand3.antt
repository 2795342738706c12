-- Demands 2 and 3 over chosen lists: origins are removed before anything is completed or joined, and a completed list, with what is joined to it,
-- is read with a set that has 0. Each law is that of plain lists; it is proved once, over the set.
use Prim.Native.Nat.{ℕ, ◌+◌, ◌<◌}
use mathlib.Core.Path.{◌≡◌, sym, ap, ◌∙◌}
use mathlib.Core.Bool.{true}
use mathlib.Core.List.{List, ◌++◌, Memᴰ}
use mathlib.Core.Logic.{◌↔◌}
use Rattle.theory.specs.Words.{Sign, tail_of}
use Rattle.theory.specs.Nets.{Kind, Links, Net}
use Rattle.theory.specs.Support.{Supported}
use Rattle.theory.specs.Marks.{At, marker_of}
use Rattle.theory.specs.Origins.{plain_of, among, chooses, chosen, NetFrom}
use Rattle.theory.specs.Completion.{full_marks, complete}
use Rattle.theory.proofs.completion.Completing.{full_exact}
use Rattle.theory.proofs.completion.Demand3.{SameAnswer, Alike, complete_net, complete_again, complete_part, alike, joining_keeps, others_keep}
use Rattle.theory.proofs.origins.Choosing.{chosen_join, chosen_plain, chosen_joined, chosen_picked}
use Rattle.theory.proofs.origins.Statements.{chosen_net, net_plain}

module _ (set o k : ℕ) where
  -- Demand 2: the full marks over the chosen list say exactly what the chosen list supports.
  pub chosen_exact : (ws : List ℕ) → NetFrom o k ws → (x y : ℕ) (s : Sign) → x < o + k → Kind o k y
      → At (full_marks o k (chosen set ws) x) (marker_of s) y ↔ Supported o k (Links (chosen set ws)) x y s
  chosen_exact ws n = full_exact o k (chosen set ws) (chosen_net set o k ws n)

  -- The joined list of two nets with origins, when it is chosen.
  joined_net : (ws vs : List ℕ) → NetFrom o k (ws ++ vs) → Net o k (chosen set ws ++ chosen set vs)
  joined_net ws vs n = rw (chosen_join set ws vs) at (chosen_net set o k (ws ++ vs) n)

  -- A completed list is an acceptable net of plain words.
  pub completed_net : (ws : List ℕ) → NetFrom o k ws → Net o k (complete o k (chosen set ws))
  completed_net ws n = complete_net o k (chosen set ws) (chosen_net set o k ws n)

  -- Read with a set that has 0, a completed list is itself,
  pub completed_chosen : (set' : ℕ) → among set' 0 ≡ true → (ws : List ℕ) → NetFrom o k ws → chosen set' (complete o k (chosen set ws)) ≡ complete o k (chosen set ws)
  completed_chosen set' z ws n = chosen_plain set' z (complete o k (chosen set ws)) (net_plain o k _ (completed_net ws n))

  -- and completing it changes nothing.
  pub chosen_complete_again : (set' : ℕ) → among set' 0 ≡ true → (ws : List ℕ) → NetFrom o k ws
      → complete o k (chosen set' (complete o k (chosen set ws))) ≡ complete o k (chosen set ws)
  chosen_complete_again set' z ws n = ap (complete o k) (completed_chosen set' z ws n) ∙ complete_again o k (chosen set ws) (chosen_net set o k ws n)

  -- Completing a part of a joined net beforehand changes nothing: what is joined to the completed part has lost its origins too,
  pub chosen_complete_part : (set' : ℕ) → among set' 0 ≡ true → (ws vs : List ℕ) → NetFrom o k ws → NetFrom o k (ws ++ vs) → Net o k (complete o k (chosen set ws) ++ chosen set vs)
      → complete o k (chosen set' (complete o k (chosen set ws) ++ chosen set vs)) ≡ complete o k (chosen set (ws ++ vs))
  chosen_complete_part set' z ws vs n j d =
      ap (complete o k) (chosen_plain set' z (complete o k (chosen set ws) ++ chosen set vs) (net_plain o k _ d))
      ∙ complete_part o k (chosen set ws) (chosen set vs) (chosen_net set o k ws n) (joined_net ws vs j) d
      ∙ ap (complete o k) (sym (chosen_join set ws vs))

  -- or keeps them, where the set itself has 0.
  pub chosen_complete_beside : among set 0 ≡ true → (ws vs : List ℕ) → NetFrom o k ws → NetFrom o k (ws ++ vs) → NetFrom o k (complete o k (chosen set ws) ++ vs)
      → complete o k (chosen set (complete o k (chosen set ws) ++ vs)) ≡ complete o k (chosen set (ws ++ vs))
  chosen_complete_beside z ws vs n j d =
      let e = chosen_joined set z (complete o k (chosen set ws)) vs (net_plain o k _ (completed_net ws n)) in
      ap (complete o k) e
      ∙ complete_part o k (chosen set ws) (chosen set vs) (chosen_net set o k ws n) (joined_net ws vs j)
      (rw e at (chosen_net set o k (complete o k (chosen set ws) ++ vs) d))
      ∙ ap (complete o k) (sym (chosen_join set ws vs))

  -- Two chosen lists have the same completed list exactly if no third net, joined after their origins are removed, makes any answer differ.
  pub chosen_alike : (set' : ℕ) (ws vs : List ℕ) → NetFrom o k ws → NetFrom o k vs
      → (complete o k (chosen set ws) ≡ complete o k (chosen set' vs)) ↔ Alike o k (chosen set ws) (chosen set' vs)
  chosen_alike set' ws vs a b = alike o k (chosen set ws) (chosen set' vs) (chosen_net set o k ws a) (chosen_net set' o k vs b)

  -- Joining removes no yes and no no.
  pub chosen_joining_keeps : (ws vs : List ℕ) → NetFrom o k ws → NetFrom o k (ws ++ vs) → (x y : ℕ) (s : Sign) → x < o + k → Kind o k y
      → At (full_marks o k (chosen set ws) x) (marker_of s) y → At (full_marks o k (chosen set (ws ++ vs)) x) (marker_of s) y
  chosen_joining_keeps ws vs a b x y s h hy p =
      rw (chosen_join set ws vs) (joining_keeps o k (chosen set ws) (chosen set vs) (chosen_net set o k ws a) (joined_net ws vs b) x y s h hy p)

  -- Links from one object change no answer to a question about another node: only the chosen words count.
  pub chosen_others_keep : (ws vs : List ℕ) → NetFrom o k ws → NetFrom o k (ws ++ vs) → (a : ℕ) → a < o
      → ((w : ℕ) → Memᴰ w vs → chooses set w ≡ true → tail_of (plain_of w) ≡ a) → (x y : ℕ) → x < o + k → Kind o k y → (x ≡ a → ⊥)
      → SameAnswer o k (chosen set (ws ++ vs)) (chosen set ws) x y
  chosen_others_keep ws vs n j a ha only x y h hy q =
      rw (chosen_join set ws vs)
      (others_keep o k (chosen set ws) (chosen set vs) (chosen_net set o k ws n) (joined_net ws vs j) a ha
      (λ v m. let p = chosen_picked set vs v m in ap tail_of (sym p.plain) ∙ only p.it p.listed p.picked) x y h hy q)
