-- The order of the words and their repeats play no part: two lists with the same words give the same scan, round by round.
use Prim.Native.Nat.{ℕ, zero, suc, ◌+◌, ◌≤◌, ◌<◌}
use mathlib.Core.Path.{◌≡◌, refl, sym, ◌∙◌, ap}
use mathlib.Core.Bool.{Bool, true, false, ◌||◌}
use mathlib.Core.List.{List, [], ◌∷◌}
use native.Mathlib.Omega.{arith}
use lib.ListN.{length, get_or}
use lib.Seq.{ext_get_or}
use Rattle.theory_laws.proofs.Booleans.{same_test}
use Rattle.theory_laws.proofs.Bits.{bits_same}
use Rattle.theory.specs.Nets.{AllIn}
use Rattle.theory.specs.Marks.{has, command, round}
use Rattle.theory.specs.Scans.{same, rounds}
use Rattle.theory.specs.Inside.{Inside}
use Rattle.theory.specs.declared.Command.{Command}
use Rattle.theory.proofs.machine.Growth.{ScanStep, Puts, command_step, round_step}
use Rattle.theory.proofs.machine.Commands.{any, hits, command_at_lem}
use Rattle.theory.proofs.machine.Soundness.{any_some, any_of}
use Rattle.theory.proofs.machine.Rounds.{rounds_none, rounds_last, rounds_more}

module _ (n : ℕ) (ws vs : List ℕ) (e : Inside n ws) (d : Inside n vs) (to : AllIn ws vs) (from : AllIn vs ws) where
  any_same : (p : ℕ → Bool) → any p ws ≡ any p vs
  any_same p = same_test (any p ws) (any p vs)
      (λ h. let (w, m, t) = any_some p ws h in any_of p vs w (to w m) t)
      (λ h. let (w, m, t) = any_some p vs h in any_of p ws w (from w m) t)

  command_order : (c : Command) → c.put < 8 → (m : List ℕ) → n ≤ length m → command c ws m ≡ command c vs m
  command_order c l m r =
      let s = command_step n 8 c l ws m e r in
      let t = command_step n 8 c l vs m d r in
      ext_get_or 0 (command c ws m) (command c vs m) (s.long ∙ sym t.long)
      (λ v h. bits_same (get_or (command c ws m) v 0 + get_or (command c vs m) v 0) (get_or (command c ws m) v 0) (get_or (command c vs m) v 0) (omega arith) (omega arith)
      (λ j. command_at_lem c ws m n j v e r ∙ ap (λ (q : Bool). has j (get_or m v 0) || q) (any_same (hits c m j v)) ∙ sym (command_at_lem c vs m n j v d r)))

  round_order : (cs : List Command) → Puts 8 cs → (m : List ℕ) → n ≤ length m → round cs ws m ≡ round cs vs m
  unfolding round
  round_order [] p m r = refl
  round_order (c ∷ cs) p m r =
      let s = command_step n 8 c p.0 ws m e r in
      round_order cs p.1 (command c ws m) (omega (arith, s.long)) ∙ ap (round cs vs) (command_order c p.0 m r)

  -- So marks, count and whether the scan ended are the same.
  pub rounds_order : (cs : List Command) → Puts 8 cs → (b k : ℕ) (m : List ℕ) → n ≤ length m → rounds cs ws k b m ≡ rounds cs vs k b m
  rounds_order cs p zero k m r = rw (rounds_none cs ws k 0 m, rounds_none cs vs k 0 m)
  rounds_order cs p (suc b) k m r = at (same m (round cs ws m)) refl (λ l. rounds_order cs p b (suc k) (round cs ws m) l)
    where
      s : ScanStep n 8 m (round cs ws m)
      s = round_step n 8 cs p ws m e r

      goes : round cs vs m ≡ round cs ws m
      goes = sym (round_order cs p m r)

      at : (q : Bool) → same m (round cs ws m) ≡ q
          → (n ≤ length (round cs ws m) → rounds cs ws (suc k) b (round cs ws m) ≡ rounds cs vs (suc k) b (round cs ws m))
          → rounds cs ws k (suc b) m ≡ rounds cs vs k (suc b) m
      at true t f = rw (rounds_last cs ws k b m t, rounds_last cs vs k b m (rw goes t), goes)
      at false t f = rw (rounds_more cs ws k b m t, rounds_more cs vs k b m (rw goes t), goes) (f (omega (arith, s.long)))
