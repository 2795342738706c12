-- Bytes past the nodes play no part: a scan of marks with more behind them is the scan of the marks, with the same behind them.
use Prim.Native.Nat.{ℕ, zero, suc, ◌<◌}
use mathlib.Core.Path.{◌≡◌, refl, sym, ap, ◌∙◌}
use mathlib.Core.Bool.{Bool, true, false, cond, ◌&&◌}
use mathlib.Core.List.{List, [], ◌∷◌, ◌++◌}
use native.Mathlib.Omega.{arith}
use lib.Dec.{eqb}
use lib.ListN.{length, get_or, get_or-append}
use lib.Seq.{set-append_left}
use Rattle.theory.specs.Marks.{with, mark, near, far, fires, link, links, command, round}
use Rattle.theory.specs.Scans.{same, Scan, rounds}
use Rattle.theory.specs.Inside.{Ends, Inside}
use Rattle.theory.specs.declared.Command.{Command}
use Rattle.theory.proofs.Inside.{near_in, far_in, inside_first, inside_rest}
use Rattle.theory.proofs.machine.Commands.{link_length}
use Rattle.theory.proofs.machine.Growth.{Puts, command_step, round_step}
use Rattle.theory.proofs.machine.Rounds.{same_refl, rounds_none, rounds_last, rounds_more}

module _ (past : List ℕ) where
  pub mark_frame : (j v : ℕ) (m : List ℕ) → v < length m → mark j v (m ++ past) ≡ mark j v m ++ past
  unfolding mark
  mark_frame j v m l = rw (get_or-append m past 0 v l) (set-append_left m past v (with j (get_or m v 0)) l)

  module _ (c : Command) (old : List ℕ) where
    link_frame : (w : ℕ) (m : List ℕ) → Ends (length old) w → Ends (length m) w → link c (old ++ past) w (m ++ past) ≡ link c old w m ++ past
    unfolding link
    link_frame w m d e = rw (get_or-append old past 0 (near c.at_head w) (near_in c.at_head d)) (at (fires c old w))
      where
        at : (p : Bool) → cond p (mark c.put (far c.at_head w) (m ++ past)) (m ++ past) ≡ cond p (mark c.put (far c.at_head w) m) m ++ past
        at true = mark_frame c.put (far c.at_head w) m (far_in c.at_head e)
        at false = refl

    links_frame : (ws m : List ℕ) → Inside (length old) ws → length m ≡ length old → links c (old ++ past) ws (m ++ past) ≡ links c old ws m ++ past
    unfolding links
    links_frame [] m e l = refl
    links_frame (w ∷ ws) m e l =
        rw (link_frame w m (inside_first e) (rw l (inside_first e)))
        (links_frame ws (link c old w m) (inside_rest e) (link_length c old w m ∙ l))

  pub command_frame : (c : Command) (ws m : List ℕ) → Inside (length m) ws → command c ws (m ++ past) ≡ command c ws m ++ past
  unfolding command
  command_frame c ws m e = links_frame c m ws m e refl

  pub round_frame : (cs : List Command) → Puts 8 cs → (ws m : List ℕ) → Inside (length m) ws → round cs ws (m ++ past) ≡ round cs ws m ++ past
  unfolding round
  round_frame [] p ws m e = refl
  round_frame (c ∷ cs) p ws m e =
      let s = command_step (length m) 8 c p.0 ws m e (omega arith) in
      rw (command_frame c ws m e) (round_frame cs p.1 ws (command c ws m) (rw s.long e))

  same_frame : (a b : List ℕ) → length a ≡ length b → same (a ++ past) (b ++ past) ≡ same a b
  unfolding same
  same_frame [] [] l = same_refl past
  same_frame [] (y ∷ b) l = absurd (omega arith)
  same_frame (x ∷ a) [] l = absurd (omega arith)
  same_frame (x ∷ a) (y ∷ b) l = ap (λ (q : Bool). eqb x y && q) (same_frame a b (omega arith))

-- A scan with more bytes behind its marks.
abbrev pub beside : Scan → List ℕ → Scan
beside s past = record { done = s.done; count = s.count; marks = s.marks ++ past }

module _ (past : List ℕ) (cs : List Command) (p : Puts 8 cs) (ws : List ℕ) where
  pub rounds_frame : (b k : ℕ) (m : List ℕ) → Inside (length m) ws → rounds cs ws k b (m ++ past) ≡ beside (rounds cs ws k b m) past
  rounds_frame zero k m e = rw (rounds_none cs ws k 0 m, rounds_none cs ws k 0 (m ++ past))
  rounds_frame (suc b) k m e = at (same m m') refl (λ k' e'. rounds_frame b k' m' e')
    where
      m' : List ℕ
      m' = round cs ws m

      long : length m' ≡ length m
      long = (round_step (length m) 8 cs p ws m e (omega arith)).long

      goes : round cs ws (m ++ past) ≡ m' ++ past
      goes = round_frame past cs p ws m e

      tests : same (m ++ past) (round cs ws (m ++ past)) ≡ same m m'
      tests = ap (same (m ++ past)) goes ∙ same_frame past m m' (sym long)

      at : (q : Bool) → same m m' ≡ q → ((k' : ℕ) → Inside (length m') ws → rounds cs ws k' b (m' ++ past) ≡ beside (rounds cs ws k' b m') past)
          → rounds cs ws k (suc b) (m ++ past) ≡ beside (rounds cs ws k (suc b) m) past
      at true t f = rounds_last cs ws k b (m ++ past) (tests ∙ t) ∙ rw (goes, rounds_last cs ws k b m t)
      at false t f = rounds_more cs ws k b (m ++ past) (tests ∙ t) ∙ rw (goes, rounds_more cs ws k b m t) (f (suc k) (rw long e))
