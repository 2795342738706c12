-- A fold over the chosen list runs over the list itself, with the test at each word: one law for folds that go down the list and one for
-- folds that build up from its end, and each fold of the theory by it.
use Prim.Native.Nat.{ℕ, ◌+◌, ◌≤◌, ◌<◌}
use mathlib.Core.Path.{◌≡◌, refl, sym, ap, ◌∙◌}
use mathlib.Core.Bool.{Bool, true, false, cond}
use mathlib.Core.List.{List, [], ◌∷◌}
use native.Mathlib.Omega.{arith}
use native.Mathlib.Numerals.{add-one}
use lib.ListN.{length, get_or, drop, drop_of_length-le}
use lib.Seq.{drop-cons}
use Rattle.theory.specs.Words.{Sign, tail_of, head_of, parity}
use Rattle.theory.specs.Marks.{link, links}
use Rattle.theory.specs.Searches.{Arc, arcs_of, arcs, level, next}
use Rattle.theory.specs.Origins.{plain_of, chooses, chosen, link_from}
use Rattle.theory.specs.declared.Command.{Command}
use Rattle.theory.proofs.reason.Searching.{level_go, level_end, next_go, next_end}

-- Down the list: each word changes the state.
unfoldable pub run : {S : Type 0} → (ℕ → S → S) → List ℕ → S → S
run g [] s = s
run g (w ∷ ws) s = run g ws (g w s)

-- Up from its end: each word adds to what the words after it gave.
unfoldable pub gather : {S : Type 0} → (ℕ → S → S) → S → List ℕ → S
gather g z [] = z
gather g z (w ∷ ws) = g w (gather g z ws)

-- The same at a chosen word, its origin removed; nothing at any other.
abbrev pub picking : {S : Type 0} → ℕ → (ℕ → S → S) → ℕ → S → S
picking set g w s = cond (chooses set w) (g (plain_of w) s) s

module _ {S : Type 0} (set : ℕ) (g : ℕ → S → S) where
  pub chosen_run : (ws : List ℕ) (s : S) → run g (chosen set ws) s ≡ run (picking set g) ws s
  unfolding chosen run
  chosen_run [] s = refl
  chosen_run (w ∷ ws) s = at (chooses set w) (λ t. chosen_run ws t)
    where
      at : (q : Bool) → ((t : S) → run g (chosen set ws) t ≡ run (picking set g) ws t)
          → run g (cond q (plain_of w ∷ chosen set ws) (chosen set ws)) s ≡ run (picking set g) ws (cond q (g (plain_of w) s) s)
      at true f = f (g (plain_of w) s)
      at false f = f s

  pub chosen_gather : (z : S) (ws : List ℕ) → gather g z (chosen set ws) ≡ gather (picking set g) z ws
  unfolding chosen gather
  chosen_gather z [] = refl
  chosen_gather z (w ∷ ws) = at (chooses set w) (chosen_gather z ws)
    where
      at : (q : Bool) → gather g z (chosen set ws) ≡ gather (picking set g) z ws
          → gather g z (cond q (plain_of w ∷ chosen set ws) (chosen set ws)) ≡ cond q (g (plain_of w) (gather (picking set g) z ws)) (gather (picking set g) z ws)
      at true e = ap (g (plain_of w)) e
      at false e = e

-- Both in the terms of a loop that has come to word i: it goes on, it has come to the end.
module _ {S : Type 0} (g : ℕ → S → S) (ws : List ℕ) (i : ℕ) (s : S) where
  pub run_go : i < length ws → run g (drop i ws) s ≡ run g (drop (i + 1) ws) (g (get_or ws i 0) s)
  unfolding run
  run_go h = rw (add-one i, drop-cons ws i 0)

  pub run_end : length ws ≤ i → run g (drop i ws) s ≡ s
  unfolding run
  run_end h = rw (drop_of_length-le ws h)

  pub gather_go : i < length ws → gather g s (drop i ws) ≡ g (get_or ws i 0) (gather g s (drop (i + 1) ws))
  unfolding gather
  gather_go h = rw (add-one i, drop-cons ws i 0)

  pub gather_end : length ws ≤ i → gather g s (drop i ws) ≡ s
  unfolding gather
  gather_end h = rw (drop_of_length-le ws h)

-- A fold f over lists that is such a run, word by word through a list with origins.
module _ {S : Type 0} (set : ℕ) (g : ℕ → S → S) (f : List ℕ → S → S) (is_run : (ws : List ℕ) (s : S) → f ws s ≡ run g ws s) where
  pub fold_chosen : (ws : List ℕ) (s : S) → f (chosen set ws) s ≡ run (picking set g) ws s
  fold_chosen ws s = is_run (chosen set ws) s ∙ chosen_run set g ws s

  module _ (ws : List ℕ) (i : ℕ) (s : S) where
    pub fold_go : i < length ws → f (chosen set (drop i ws)) s ≡ f (chosen set (drop (i + 1) ws)) (picking set g (get_or ws i 0) s)
    fold_go h = fold_chosen (drop i ws) s ∙ run_go (picking set g) ws i s h ∙ sym (fold_chosen (drop (i + 1) ws) (picking set g (get_or ws i 0) s))

    pub fold_end : length ws ≤ i → f (chosen set (drop i ws)) s ≡ s
    fold_end h = fold_chosen (drop i ws) s ∙ run_end (picking set g) ws i s h

-- One that is such a gathering.
module _ {S : Type 0} (set : ℕ) (g : ℕ → S → S) (z : S) (f : List ℕ → S) (is-gathering : (ws : List ℕ) → f ws ≡ gather g z ws) where
  pub gathering_chosen : (ws : List ℕ) → f (chosen set ws) ≡ gather (picking set g) z ws
  gathering_chosen ws = is-gathering (chosen set ws) ∙ chosen_gather set g z ws

  module _ (ws : List ℕ) (i : ℕ) where
    pub gathering_go : i < length ws → f (chosen set (drop i ws)) ≡ picking set g (get_or ws i 0) (f (chosen set (drop (i + 1) ws)))
    gathering_go h =
        gathering_chosen (drop i ws)
        ∙ gather_go (picking set g) ws i z h
        ∙ ap (picking set g (get_or ws i 0)) (sym (gathering_chosen (drop (i + 1) ws)))

    pub gathering_end : length ws ≤ i → f (chosen set (drop i ws)) ≡ z
    gathering_end h = gathering_chosen (drop i ws) ∙ gather_end (picking set g) ws i z h

-- ── the marker machine ──
pub links_run : (c : Command) (old ws m : List ℕ) → links c old ws m ≡ run (link c old) ws m
unfolding links run
links_run c old [] m = refl
links_run c old (w ∷ ws) m = links_run c old ws (link c old w m)

pub chosen_links : (set : ℕ) (c : Command) (old ws m : List ℕ) → links c old (chosen set ws) m ≡ run (link_from set c old) ws m
chosen_links set c old = fold_chosen set (link c old) (links c old) (links_run c old)

module _ (set : ℕ) (c : Command) (old ws : List ℕ) (i : ℕ) (m : List ℕ) where
  pub chosen_links_go : i < length ws → links c old (chosen set (drop i ws)) m ≡ links c old (chosen set (drop (i + 1) ws)) (link_from set c old (get_or ws i 0) m)
  chosen_links_go = fold_go set (link c old) (links c old) (links_run c old) ws i m

  pub chosen_links_end : length ws ≤ i → links c old (chosen set (drop i ws)) m ≡ m
  chosen_links_end = fold_end set (link c old) (links c old) (links_run c old) ws i m

-- ── the search ──
-- The moves of one word.
abbrev pub arcs_word : ℕ → Sign → ℕ → List Arc → List Arc
arcs_word n s w l = arcs_of n s (tail_of w) (head_of w) (parity w) l

pub arcs_gather : (n : ℕ) (s : Sign) (ws : List ℕ) → arcs n s ws ≡ gather (arcs_word n s) [] ws
unfolding arcs gather
arcs_gather n s [] = refl
arcs_gather n s (w ∷ ws) = ap (arcs_word n s w) (arcs_gather n s ws)

pub chosen_arcs : (set n : ℕ) (s : Sign) (ws : List ℕ) → arcs n s (chosen set ws) ≡ gather (picking set (arcs_word n s)) [] ws
chosen_arcs set n s = gathering_chosen set (arcs_word n s) [] (arcs n s) (arcs_gather n s)

-- One level, and the search for a next state, word by word.
abbrev pub level_word : ℕ → Sign → ℕ → ℕ → List ℕ → List ℕ
level_word n s i w d = level i (arcs_word n s w []) d

abbrev pub next_word : ℕ → Sign → List ℕ → ℕ → ℕ → ℕ → ℕ → ℕ
next_word n s d u i w z = next (arcs_word n s w []) d u i z

module _ (n : ℕ) (s : Sign) where
  pub level_run : (i : ℕ) (ws d : List ℕ) → level i (arcs n s ws) d ≡ run (level_word n s i) ws d
  unfolding run
  level_run i [] d = level_end n s [] i 0 d (omega arith)
  level_run i (w ∷ ws) d = level_go n s (w ∷ ws) i 0 d (omega arith) ∙ level_run i ws (level_word n s i w d)

  pub next_run : (d : List ℕ) (u i : ℕ) (ws : List ℕ) (z : ℕ) → next (arcs n s ws) d u i z ≡ run (next_word n s d u i) ws z
  unfolding run
  next_run d u i [] z = next_end n s [] 0 d u i z (omega arith)
  next_run d u i (w ∷ ws) z = next_go n s (w ∷ ws) 0 d u i z (omega arith) ∙ next_run d u i ws (next_word n s d u i w z)

-- The loops of search and walk, over the words with their origins.
module _ (set n : ℕ) (s : Sign) (i : ℕ) where
  pub chosen_level : (ws d : List ℕ) → level i (arcs n s (chosen set ws)) d ≡ run (picking set (level_word n s i)) ws d
  chosen_level = fold_chosen set (level_word n s i) (λ ws. level i (arcs n s ws)) (level_run n s i)

  module _ (ws : List ℕ) (j : ℕ) (d : List ℕ) where
    pub chosen_level_go : j < length ws
        → level i (arcs n s (chosen set (drop j ws))) d ≡ level i (arcs n s (chosen set (drop (j + 1) ws))) (picking set (level_word n s i) (get_or ws j 0) d)
    chosen_level_go = fold_go set (level_word n s i) (λ ws. level i (arcs n s ws)) (level_run n s i) ws j d

    pub chosen_level_end : length ws ≤ j → level i (arcs n s (chosen set (drop j ws))) d ≡ d
    chosen_level_end = fold_end set (level_word n s i) (λ ws. level i (arcs n s ws)) (level_run n s i) ws j d

module _ (set n : ℕ) (s : Sign) (d : List ℕ) (u i : ℕ) where
  pub chosen_next : (ws : List ℕ) (z : ℕ) → next (arcs n s (chosen set ws)) d u i z ≡ run (picking set (next_word n s d u i)) ws z
  chosen_next = fold_chosen set (next_word n s d u i) (λ ws. next (arcs n s ws) d u i) (next_run n s d u i)

  module _ (ws : List ℕ) (j z : ℕ) where
    pub chosen_next_go : j < length ws
        → next (arcs n s (chosen set (drop j ws))) d u i z ≡ next (arcs n s (chosen set (drop (j + 1) ws))) d u i (picking set (next_word n s d u i) (get_or ws j 0) z)
    chosen_next_go = fold_go set (next_word n s d u i) (λ ws. next (arcs n s ws) d u i) (next_run n s d u i) ws j z

    pub chosen_next_end : length ws ≤ j → next (arcs n s (chosen set (drop j ws))) d u i z ≡ z
    chosen_next_end = fold_end set (next_word n s d u i) (λ ws. next (arcs n s ws) d u i) (next_run n s d u i) ws j z
