-- A round in two passes: whether it set a mark, and where the second may be passed over.
use Prim.Native.Nat.{ℕ, ◌≤◌, ◌<◌}
use mathlib.Core.Path.{◌≡◌, refl, ap, ◌∙◌}
use mathlib.Core.Bool.{Bool, true, false, not, ◌&&◌, ◌||◌}
use mathlib.Core.List.{List}
use native.Mathlib.Omega.{arith}
use lib.ListN.{length, get_or}
use Rattle.theory_laws.specs.Deciding.{Decides}
use Rattle.theory_laws.proofs.Booleans.{contradiction, not_not}
use Rattle.theory.specs.Marks.{U, has, commands, round}
use Rattle.theory.specs.Inside.{Inside}
use Rattle.theory.specs.Origins.{chosen, InsideFrom}
use Rattle.theory.specs.Growth.{size, Set, kept, more}
use Rattle.theory.specs.declared.Command.{Command}
use Rattle.theory.proofs.machine.Growth.{Puts, round_step, set_then}
use Rattle.theory.proofs.origins.Statements.{chosen_inside}
use Rattle.scan_start.specs.Starts.{Low}
use Rattle.scan_lanes.specs.Codes.{on_nodes, is_code, any_new, marks_of, Written}
use Rattle.scan_lanes.specs.Passes.{is_commands, isnt_commands}
use Rattle.scan_lanes.proofs.Machine.{puts_is, puts_isnt}
use Rattle.scan_block.specs.Signs.{NoIsnt}
use Rattle.scan_round.specs.Quiet.{Quiet}
use Rattle.scan_round.proofs.Quiet.{round_room, isnt_ran, isnt_kept, no_isnt}
use Rattle.scan_round.proofs.Written.{marks_low, marks_room, written_long, written_back, written_so}

-- What decides whether marks are as they were is, turned round, their flag.
set_of_lem : {f : Bool} {m m' : List ℕ} → Set f m m' → (q : Bool) → Decides q (m' ≡ m) → Set (not q) m m'
set_of_lem kept true d = kept
set_of_lem kept false d = contradiction (d.1 refl)
set_of_lem (more l) true d = let e = ap size (d.0 refl) in absurd (omega arith)
set_of_lem (more l) false d = more l

-- The two passes are the round.
pub round_split : (ws m : List ℕ) → round commands ws m ≡ round isnt_commands ws (round is_commands ws m)
unfolding round
round_split ws m = refl

module _ (n : ℕ) (ws : List ℕ) (inside : Inside n ws) (m : List ℕ) (room : n ≤ length m) where
  -- A test that decides whether commands are quiet says whether they set a mark.
  set_round : (cs : List Command) → Puts 3 cs → (q : Bool) → Decides q (Quiet cs ws m) → Set (not q) m (round cs ws m)
  set_round cs p q d = set_of_lem (round_step n 3 cs p ws m inside room).grew q d

  -- What decides whether nothing was set is the flag, turned round.
  set_new : (cs : List Command) → Puts 3 cs → (q : Bool) → Decides (not q) (Quiet cs ws m) → Set q m (round cs ws m)
  set_new cs p q d = rw (not_not q) at (set_round cs p (not q) d)

  -- Bytes below 8 stay so.
  low_round : (cs : List Command) → Puts 3 cs → Low n m → Low n (round cs ws m)
  low_round cs p h = (round_step n 3 cs p ws m inside room).low h

-- Commands run on the marks of bytes e.
module _ (n os : ℕ) (words e : List ℕ) (inside : InsideFrom n words) (room : n ≤ length e) where
  abbrev ws : List ℕ
  ws = chosen os words

  abbrev m : List ℕ
  m = marks_of n e

  in_ws : Inside n ws
  in_ws = chosen_inside os words inside

  in_m_lem : n ≤ length m
  in_m_lem = marks_room n e room

  -- Bytes a that their marks are written as.
  module _ (cs : List Command) (p : Puts 3 cs) (a : List ℕ) (w : a ≡ on_nodes is_code n (round cs ws m)) where
    ran_low : Low n (round cs ws m)
    ran_low = low_round n ws in_ws m in_m_lem cs p (marks_low n e room)

    pub ran_room : n ≤ length a
    ran_room = omega (arith, written_long n a (round cs ws m) w, round_room n ws in_ws m in_m_lem cs p)

    pub ran_marks : marks_of n a ≡ round cs ws m
    ran_marks = written_back n a (round cs ws m) w ran_low

    pub ran_written : Written n a
    ran_written = written_so n a (round cs ws m) w ran_low

  -- A round in which the pass over "is" came to the bytes a and said new.
  module _ (a : List ℕ) (w : a ≡ on_nodes is_code n (round is_commands ws m)) (new : ℕ) (d : Decides (not (any_new new)) (Quiet is_commands ws m)) where
    -- The pass over "is not" may be left out where no U has come since its commands ran, and where no word says "is not".
    still_quiet : (first isnts : Bool) → (isnts ≡ false → NoIsnt (length words) words) → (first ≡ false → Quiet isnt_commands ws m)
        → (has 6 new ≡ false → (v : ℕ) → v < n → has U (get_or (round is_commands ws m) v 0) ≡ has U (get_or m v 0))
        → not ((first || has 6 new) && isnts) ≡ true → Quiet isnt_commands ws (round is_commands ws m)
    still_quiet first false none quiet came h = no_isnt os words (round is_commands ws m) (none refl)
    still_quiet true true none quiet came h = contradiction h
    still_quiet false true none quiet came h = at (has 6 new) refl h
      where
        at : (q : Bool) → has 6 new ≡ q → not (q && true) ≡ true → Quiet isnt_commands ws (round is_commands ws m)
        at true e k = contradiction k
        at false e k = isnt_kept n ws in_ws m in_m_lem (quiet refl) (came e)

    -- The round is in the bytes b, f says whether it set a mark, and the commands of "is not" are quiet after it.
    abbrev Done : Bool → List ℕ → Type 0
    Done f b = (b ≡ on_nodes is_code n (round commands ws m)) × (Set f m (round commands ws m) × Quiet isnt_commands ws (round commands ws m))

    -- Where the pass over "is not" is left out, that over "is" is the round.
    pub round_passed : (first isnts : Bool) → (isnts ≡ false → NoIsnt (length words) words) → (first ≡ false → Quiet isnt_commands ws m)
        → (has 6 new ≡ false → (v : ℕ) → v < n → has U (get_or (round is_commands ws m) v 0) ≡ has U (get_or m v 0))
        → not ((first || has 6 new) && isnts) ≡ true → Done (any_new new) a
    round_passed first isnts none quiet came h =
        let q = still_quiet first isnts none quiet came h in
        let s : round commands ws m ≡ round is_commands ws m = round_split ws m ∙ q in
        rw s (w, (set_new n ws in_ws m in_m_lem is_commands puts_is (any_new new) d, q))

    -- Where it is run, from the bytes a to the bytes b, both are.
    pub round_run : (b : List ℕ) (crossed : ℕ) → b ≡ on_nodes is_code n (round isnt_commands ws (marks_of n a)) → Decides (not (has 1 crossed)) (Quiet isnt_commands ws (marks_of n a))
        → Done (any_new new || has 1 crossed) b
    round_run b crossed v f =
        let a' = round is_commands ws m in
        let k = ran_marks is_commands puts_is a w in
        let r = round_room n ws in_ws m in_m_lem is_commands puts_is in
        rw (round_split ws m) (
          rw k at v,
          (
            set_then (set_new n ws in_ws m in_m_lem is_commands puts_is (any_new new) d)
                (set_new n ws in_ws a' r isnt_commands puts_isnt (has 1 crossed) (rw k at f)),
            isnt_ran n ws in_ws a' r,
          ),
        )
