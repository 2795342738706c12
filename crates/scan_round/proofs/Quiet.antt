-- When commands are quiet, and which leave others so.
use Prim.{tt}
use Prim.Native.Nat.{ℕ, suc, ◌+◌, ◌≤◌, ◌<◌, suc-le-suc}
use mathlib.Core.Path.{◌≡◌, refl, sym, ap, ◌∙◌}
use mathlib.Core.Bool.{Bool, true, false}
use mathlib.Core.List.{List, [], ◌∷◌}
use native.Mathlib.Omega.{arith}
use borrow.Author.Tests.{ne_eqb}
use lib.ListN.{length, get_or}
use lib.Seq.{ext_get_or}
use Rattle.theory_laws.proofs.Booleans.{same_test, cond_same}
use Rattle.theory_laws.proofs.Bits.{bits_same}
use Rattle.theory.specs.Words.{Sign, parity}
use Rattle.theory.specs.Nets.{Links}
use Rattle.theory.specs.Marks.{F, U, At, has, link, command, round, to_head, to_tail}
use Rattle.theory.specs.Inside.{Inside}
use Rattle.theory.specs.Origins.{plain_of, chooses, chosen, link_from}
use Rattle.theory.specs.declared.Command.{Command}
use Rattle.theory.proofs.machine.Growth.{Puts, command_step, round_step}
use Rattle.theory.proofs.machine.Soundness.{Within, Over, Follows, Every, command_within, command_keeps, fire, round_keeps, quiet_closed}
use Rattle.theory.proofs.origins.Folds.{run, chosen_links}
use Rattle.scan_lanes.specs.Passes.{is_commands, isnt_commands}
use Rattle.scan_lanes.proofs.Machine.{puts_is, command_room, other_same}
use Rattle.scan_block.specs.Signs.{NoIsnt}
use Rattle.scan_round.specs.Quiet.{Quiet}

-- One command adds nothing to the marks.
abbrev Still : Command → List ℕ → List ℕ → Type 0
Still c ws m = command c ws m ≡ m

module _ (n : ℕ) (ws : List ℕ) (inside : Inside n ws) where
  module _ (m : List ℕ) (room : n ≤ length m) where
    -- A command is still exactly if the marks follow it.
    still_follows : (c : Command) → Still c ws m → Follows (Links ws) (At m) c
    still_follows c q x y s e l t = rw q at (fire n ws inside m room c x y s e l t)

    follows_still : (c : Command) → Follows (Links ws) (At m) c → Still c ws m
    follows_still c f =
        let a = command c ws m in
        ext_get_or 0 a m (command_step n (suc c.put) c (omega arith) ws m inside room).long
        (λ v l. bits_same (get_or a v 0 + get_or m v 0) (get_or a v 0) (get_or m v 0) (omega arith) (omega arith)
        (λ j. same_test (has j (get_or a v 0)) (has j (get_or m v 0)) (command_within n ws inside m room c (At m) f (λ i u h. h) j v)
        (command_keeps n ws inside m room c j v)))

    -- Commands are quiet if the marks follow each of them.
    follows_quiet : (cs : List Command) → Every (Follows (Links ws) (At m)) cs → Quiet cs ws m
    unfolding round
    follows_quiet [] f = refl
    follows_quiet (c ∷ cs) f = ap (round cs ws) (follows_still c f.0) ∙ follows_quiet cs f.1

  module _ (m : List ℕ) (room : n ≤ length m) where
    -- A command stays still under one that does not put the marker that it tests for.
    still_other : (c d : Command) → (c.test ≡ d.put → ⊥) → Still c ws m → Still c ws (command d ws m)
    still_other c d h q =
        follows_still (command d ws m) (command_room n ws inside m room d) c
        (λ x y s e l t. command_keeps n ws inside m room d c.put y (still_follows m room c q x y s e l (sym (other_same n ws inside m room d c.test x h) ∙ t)))

    -- A command that does not put the marker that it tests for is still once it has run.
    still_ran : (c : Command) → (c.test ≡ c.put → ⊥) → Still c ws (command c ws m)
    still_ran c h =
        follows_still (command c ws m) (command_room n ws inside m room c) c (λ x y s e l t. fire n ws inside m room c x y s e l (sym (other_same n ws inside m room c c.test x h) ∙ t))

  -- The tested end of a link is a node.
  tested_in : (s : Sign) (up : Bool) (x y : ℕ) → Over (Links ws) s up x y → x < n
  tested_in s true x y l = rw l.head at (inside l.it l.listed).head_in
  tested_in s false x y l = rw l.tail at (inside l.it l.listed).tail_in

  -- Marks that follow a command do so still when there are more, but none of the marker that it tests for.
  follows_kept : (m a : List ℕ) → Within (At a) m → (c : Command) → ((v : ℕ) → v < n → has c.test (get_or a v 0) ≡ has c.test (get_or m v 0))
      → Follows (Links ws) (At m) c → Follows (Links ws) (At a) c
  follows_kept m a keeps c same f x y s e l t = keeps c.put y (f x y s e l (sym (same x (tested_in s c.at_head x y l)) ∙ t))

  module _ (m : List ℕ) (room : n ≤ length m) where
    pub round_room : (cs : List Command) → Puts 3 cs → n ≤ length (round cs ws m)
    round_room cs p = omega (arith, (round_step n 3 cs p ws m inside room).long)

    -- The commands of "is not" are quiet once they have run: they test for U and put F.
    pub isnt_ran : Quiet isnt_commands ws (round isnt_commands ws m)
    unfolding round
    isnt_ran =
        let d = to_head 1 U F in
        let e = to_tail 1 U F in
        let a = command d ws m in
        let b = command e ws a in
        let r = command_room n ws inside m room d in
        let first : command d ws b ≡ b = still_other a r d e (λ h. omega arith) (still_ran m room d (λ h. omega arith)) in
        ap (command e ws) first ∙ still_ran a r e (λ h. omega arith)

    -- They stay quiet under those of "is" where no U has come.
    pub isnt_kept : Quiet isnt_commands ws m → ((v : ℕ) → v < n → has U (get_or (round is_commands ws m) v 0) ≡ has U (get_or m v 0))
        → Quiet isnt_commands ws (round is_commands ws m)
    isnt_kept q same =
        let a = round is_commands ws m in
        let keeps = round_keeps n ws inside is_commands (omega arith, (omega arith, (omega arith, tt))) m room in
        let f = quiet_closed n ws inside isnt_commands (omega arith, (omega arith, tt)) m room q in
        follows_quiet a (round_room is_commands puts_is) isnt_commands
        (follows_kept m a keeps (to_head 1 U F) same f.0, (follows_kept m a keeps (to_tail 1 U F) same f.1.0, tt))

-- ── no word says "is not" ──
module _ (set : ℕ) (c : Command) (old : List ℕ) where
  -- A word of the other sign does nothing.
  other_sign : (w : ℕ) (m : List ℕ) → (parity w ≡ c.sign → ⊥) → link_from set c old w m ≡ m
  unfolding link
  other_sign w m f =
      let q : parity (plain_of w) ≡ parity w = omega arith in
      rw (q, ne_eqb (parity w) c.sign f) (cond_same (chooses set w) m)

  words_passed : (ws m : List ℕ) → ((j : ℕ) → j < length ws → parity (get_or ws j 0) ≡ c.sign → ⊥) → run (link_from set c old) ws m ≡ m
  unfolding run
  words_passed [] m f = refl
  words_passed (w ∷ ws) m f = ap (run (link_from set c old) ws) (other_sign w m (f 0 (omega arith))) ∙ words_passed ws m (λ j l. f (suc j) (suc-le-suc l))

-- A command is still where no word has its sign.
none_still : (set : ℕ) (c : Command) (ws m : List ℕ) → ((j : ℕ) → j < length ws → parity (get_or ws j 0) ≡ c.sign → ⊥) → Still c (chosen set ws) m
unfolding command
none_still set c ws m f = chosen_links set c m ws m ∙ words_passed set c m ws m f

-- The commands of "is not" are quiet where no word says it.
pub no_isnt : (set : ℕ) (ws m : List ℕ) → NoIsnt (length ws) ws → Quiet isnt_commands (chosen set ws) m
unfolding round
no_isnt set ws m h = ap (command (to_tail 1 U F) (chosen set ws)) (none_still set (to_head 1 U F) ws m h) ∙ none_still set (to_tail 1 U F) ws m h
