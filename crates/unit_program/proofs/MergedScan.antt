-- The written program for the merged scan leaves the scan's marks, and runs 3 commands and 5 for each of its rounds.
use Prim.Native.Nat.{ℕ, zero, suc, ◌+◌, ◌-◌, ◌*◌, ◌/◌, ◌%◌, ◌≤◌, ◌<◌}
use mathlib.Core.Path.{◌≡◌, refl, sym, ap, subst, ◌∙◌}
use mathlib.Core.Bool.{Bool, true, false, cond, not, ◌&&◌, ◌||◌}
use mathlib.Core.List.{List, [], ◌∷◌, map}
use native.Mathlib.Omega.{arith}
use native.Mathlib.Decide.{dec_lt}
use borrow.Author.Tests.{lt-ltb}
use lib.Bits.{bit_and, and_zero_r}
use lib.ListN.{length, length-map}
use Rattle.theory_laws.proofs.Booleans.{contradiction, not_not, not_so, or_false, or_assoc}
use Rattle.theory.specs.Nets.{LegalWords}
use Rattle.theory.specs.Marks.{T, U, mark, command, round, commands, blank, scan_start}
use Rattle.theory.specs.Scans.{same, Scan, rounds, scan, full_budget, full_scan}
use Rattle.theory.specs.declared.Command.{Command}
use Rattle.theory.specs.Inside.{Inside}
use Rattle.theory.proofs.Inside.{legal_inside}
use Rattle.theory.proofs.machine.Growth.{set_then, Puts, command_step, round_step}
use Rattle.theory.specs.Growth.{Set, kept}
use Rattle.theory.proofs.machine.Rounds.{set_same, rounds_none, rounds_last, rounds_more}
use Rattle.theory.proofs.machine.Starts.{commands_put_8, start_long}
use Rattle.theory.proofs.machine.Bounds.{full_done}
use Rattle.theory.proofs.machine.Budgets.{count_unique, ends_within, Last, last_round}
use Rattle.unit_program.specs.declared.Instruction.{Instruction}
use Rattle.unit_program.specs.declared.Instruction.TheVariants as instruction
use Rattle.unit_program.specs.Programs.{op_of, rest_of, decode, Item, one, loop, parts, items}
use Rattle.unit_program.specs.Runs.{does, Stand, stand, pass, passes, onward, run_items, run}
use Rattle.unit_program.specs.Faults.{ends, sound_prefix}
use Rattle.unit_program.specs.Merged.{merged}
use Rattle.unit_program.proofs.Looping.{pass_none, pass_spent, passes_last, passes_again}

-- ── how the program is read ──
module _ (n x : ℕ) (h : x < n) (few : n ≤ 1024) where
  set_T : decode n (16777216 + x) ≡ instruction.Set T x
  unfolding decode
  set_T =
      let a : op_of (16777216 + x) ≡ 1 = omega arith in
      let b : rest_of (16777216 + x) ≡ x = omega arith in
      let c : x / 65536 ≡ 0 = omega arith in
      let d : x % 65536 ≡ x = omega arith in
      rw (a, b, c, d, lt-ltb x n h)

  set_U : decode n (16908288 + x) ≡ instruction.Set U x
  unfolding decode
  set_U =
      let a : op_of (16908288 + x) ≡ 1 = omega arith in
      let b : rest_of (16908288 + x) ≡ 131072 + x = omega arith in
      let c : (131072 + x) / 65536 ≡ 2 = omega arith in
      let d : (131072 + x) % 65536 ≡ x = omega arith in
      rw (a, b, c, d, lt-ltb x n h)

  pub merged_items : items n (merged x) ≡ one (instruction.Clear 255) ∷ one (instruction.Set T x) ∷ one (instruction.Set U x) ∷ loop (map instruction.Link commands) ∷ []
  unfolding parts decode
  merged_items = rw (set_T, set_U)

  -- No command of it is at fault.
  pub merged_sound : sound_prefix n false (merged x) ≡ length (merged x)
  unfolding sound_prefix ends decode
  merged_sound = rw (set_T, set_U)

-- ── passes and rounds ──
-- A pass over link commands is a round, and says whether the round set anything.
record Passed (ws : List ℕ) (cs : List Command) (left : ℕ) (f : Bool) (m : List ℕ) : Type 0 where
  flag : Bool
  is : pass ws (map instruction.Link cs) left f m ≡ stand true (left - length cs) (f || flag) (round cs ws m)
  grew : Set flag m (round cs ws m)

same_stand : {l l' : ℕ} {f f' : Bool} {m : List ℕ} → l ≡ l' → f ≡ f' → stand true l f m ≡ stand true l' f' m
same_stand {m = m} a b = λ i. record { runs = true; left = a i; fresh = b i; marks = m }

passed : (n : ℕ) (ws : List ℕ) → Inside n ws → (cs : List Command) → Puts 8 cs → (left : ℕ) (f : Bool) (m : List ℕ) → n ≤ length m → length cs ≤ left → Passed ws cs left f m
unfolding pass round
passed n ws e [] p left f m r h = record { flag = false; is = same_stand (omega arith) (sym (or_false f)); grew = kept }
passed n ws e (c ∷ cs) p zero f m r h = absurd (omega arith)
passed n ws e (c ∷ cs) p (suc left) f m r h =
    let s = command_step n 8 c p.0 ws m e r in
    let new : not (same m (command c ws m)) ≡ s.flag = ap not (set_same s.grew) ∙ not_not s.flag in
    let t = passed n ws e cs p.1 left (f || not (same m (command c ws m))) (command c ws m) (omega (arith, s.long)) (omega arith) in
    record {
      flag = s.flag || t.flag;
      is =
          t.is
          ∙ same_stand {m = round cs ws (command c ws m)} (omega arith)
          (ap (λ (q : Bool). (f || q) || t.flag) new ∙ or_assoc f s.flag t.flag);
      grew = set_then s.grew t.grew;
    }

-- Once it has ended, a scan has run a round more.
counted : (cs : List Command) (ws : List ℕ) (b k : ℕ) (m : List ℕ) → (rounds cs ws k b m).done ≡ true → k < (rounds cs ws k b m).count
counted cs ws zero k m d = contradiction (rw (rounds_none cs ws k zero m) at d)
counted cs ws (suc b) k m d = at (same m (round cs ws m)) refl (λ e. counted cs ws b (suc k) (round cs ws m) e)
  where
    at : (q : Bool) → same m (round cs ws m) ≡ q → ((rounds cs ws (suc k) b (round cs ws m)).done ≡ true → suc k < (rounds cs ws (suc k) b (round cs ws m)).count)
        → k < (rounds cs ws k (suc b) m).count
    at true e go = rw (rounds_last cs ws k b m e) (omega arith)
    at false e go = rw (rounds_more cs ws k b m e) (let t = go (ap (λ (s : Scan). s.done) (sym (rounds_more cs ws k b m e)) ∙ d) in omega arith)

-- The loop over five link commands, beside the scan that ends after so many rounds.
module _ (n : ℕ) (ws : List ℕ) (e : Inside n ws) (cs : List Command) (p : Puts 8 cs) (five : length cs ≡ 5) where
  abbrev is : List Instruction
  is = map instruction.Link cs

  long : length is ≡ 5
  long = length-map cs instruction.Link ∙ five

  -- What the loop leaves, by the number of rounds to come and the marks after them.
  record Looped (most left : ℕ) (m : List ℕ) (count : ℕ) (out : List ℕ) : Type 0 where
    ends : 5 * count ≤ left → passes ws is most left m ≡ stand true (left - 5 * count) false out
    stops : left < 5 * count → ((passes ws is most left m).runs ≡ false) × ((passes ws is most left m).left ≡ 0)

  -- A budget that does not last for one pass.
  stopped : (most left : ℕ) (m : List ℕ) → left < 5 → ((passes ws is (suc most) left m).runs ≡ false) × ((passes ws is (suc most) left m).left ≡ 0)
  stopped most left m h =
      let t = pass_spent ws is left false m (omega (arith, long)) in
      rw (passes_last ws is most left m (ap (λ (q : Bool). q && (pass ws is left false m).fresh) t.0)) t

  module _ (most left : ℕ) (m : List ℕ) (r : n ≤ length m) (h : 5 ≤ left) where
    turn : Passed ws cs left false m
    turn = passed n ws e cs p left false m r (omega (arith, five))

    flag_is : turn.flag ≡ not (same m (round cs ws m))
    flag_is = sym (ap not (set_same turn.grew) ∙ not_not turn.flag)

    -- A pass that is the last round.
    pass_last : same m (round cs ws m) ≡ true → passes ws is (suc most) left m ≡ stand true (left - 5) false (round cs ws m)
    pass_last q =
        let off : turn.flag ≡ false = flag_is ∙ ap not q in
        passes_last ws is most left m (ap (λ (s : Stand). s.runs && s.fresh) turn.is ∙ off)
        ∙ turn.is
        ∙ same_stand {m = round cs ws m} (omega (arith, five)) off

    -- A pass after which the loop goes on.
    pass_more : same m (round cs ws m) ≡ false → passes ws is (suc most) left m ≡ passes ws is most (left - 5) (round cs ws m)
    pass_more q =
        let on : turn.flag ≡ true = flag_is ∙ ap not q in
        let l : left - length cs ≡ left - 5 = omega (arith, five) in
        passes_again ws is most left m (ap (λ (s : Stand). s.runs && s.fresh) turn.is ∙ on)
        ∙ ap (λ (s : Stand). passes ws is most s.left s.marks) turn.is
        ∙ ap (λ (i : ℕ). passes ws is most i (round cs ws m)) l

  longer : (m : List ℕ) → n ≤ length m → n ≤ length (round cs ws m)
  longer m r = omega (arith, (round_step n 8 cs p ws m e r).long)

  looped : (b k most left : ℕ) (m : List ℕ) → n ≤ length m → left < most → (rounds cs ws k b m).done ≡ true
      → Looped most left m ((rounds cs ws k b m).count - k) (rounds cs ws k b m).marks
  looped zero k most left m r l d = contradiction (rw (rounds_none cs ws k zero m) at d)
  looped (suc b) k zero left m r l d = absurd (omega arith)
  looped (suc b) k (suc most) left m r l d = at (same m (round cs ws m)) refl (λ g d'. looped b (suc k) most (left - 5) (round cs ws m) (longer m r) g d')
    where
      at : (q : Bool) → same m (round cs ws m) ≡ q
          → (left - 5 < most → (rounds cs ws (suc k) b (round cs ws m)).done ≡ true
          → Looped most (left - 5) (round cs ws m) ((rounds cs ws (suc k) b (round cs ws m)).count - suc k) (rounds cs ws (suc k) b (round cs ws m)).marks)
          → Looped (suc most) left m ((rounds cs ws k (suc b) m).count - k) (rounds cs ws k (suc b) m).marks
      at true q go =
          let c : suc k - k ≡ 1 = omega arith in
          rw (rounds_last cs ws k b m q, c)
          (record { ends = λ h. pass_last most left m r (omega arith) q; stops = λ h. stopped most left m (omega arith) })
      at false q go =
          let d' : (rounds cs ws (suc k) b (round cs ws m)).done ≡ true = ap (λ (s : Scan). s.done) (sym (rounds_more cs ws k b m q)) ∙ d in
          let n' = (rounds cs ws (suc k) b (round cs ws m)).count in
          let c : suc k < n' = counted cs ws b (suc k) (round cs ws m) d' in
          rw (rounds_more cs ws k b m q)
          (record {
            ends = λ h.
                let i : 5 ≤ left = omega arith in
                pass_more most left m r i q ∙ (go (omega arith) d').ends (omega arith) ∙ same_stand {m = (rounds cs ws (suc k) b (round cs ws m)).marks} (omega arith) refl;
            stops = λ h. pick (dec_lt left 5) (λ i. rw (pass_more most left m r i q) ((go (omega arith) d').stops (omega arith)));
          })
        where
          pick : Dec (left < 5) → (5 ≤ left → ((passes ws is (suc most) left m).runs ≡ false) × ((passes ws is (suc most) left m).left ≡ 0))
              → ((passes ws is (suc most) left m).runs ≡ false) × ((passes ws is (suc most) left m).left ≡ 0)
          pick (yes i) f = stopped most left m i
          pick (no i) f = f (omega arith)

  -- Five commands for each round that a scan may run: the loop ends if the scan does, and leaves its marks.
  record Beside (s : Stand) (r : Scan) : Type 0 where
    ends : s.runs ≡ r.done
    marks : s.marks ≡ r.marks

  beside : (b k most : ℕ) (m : List ℕ) → n ≤ length m → 5 * b < most → Beside (passes ws is most (5 * b) m) (rounds cs ws k b m)
  beside b k zero m r l = absurd (omega arith)
  beside zero k (suc most) m r l =
      let t = pass_none ws is m (omega (arith, long)) in
      rw (rounds_none cs ws k zero m, passes_last ws is most (5 * 0) m (ap (λ (s : Stand). s.runs && s.fresh) t), t) (record { ends = refl; marks = refl })
  beside (suc b) k (suc most) m r l = at (same m (round cs ws m)) refl (λ g. beside b (suc k) most (round cs ws m) (longer m r) g)
    where
      at : (q : Bool) → same m (round cs ws m) ≡ q → (5 * b < most → Beside (passes ws is most (5 * b) (round cs ws m)) (rounds cs ws (suc k) b (round cs ws m)))
          → Beside (passes ws is (suc most) (5 * suc b) m) (rounds cs ws k (suc b) m)
      at true q go = rw (rounds_last cs ws k b m q, pass_last most (5 * suc b) m r (omega arith) q) (record { ends = refl; marks = refl })
      at false q go =
          let five-less : 5 * suc b - 5 ≡ 5 * b = omega arith in
          rw (rounds_more cs ws k b m q, pass_more most (5 * suc b) m r (omega arith) q, five-less) (go (omega arith))

-- ── the program ──
-- Clearing all eight markers leaves none.
cleared_all : (m : List ℕ) → map (λ (b : ℕ). bit_and b 0) m ≡ blank (length m)
cleared_all [] = refl
cleared_all (b ∷ m) = rw (and_zero_r b, cleared_all m)

module _ (ws : List ℕ) (x : ℕ) (m : List ℕ) where
  abbrev body : List Instruction
  body = map instruction.Link commands

  abbrev program : List Item
  program = one (instruction.Clear 255) ∷ one (instruction.Set T x) ∷ one (instruction.Set U x) ∷ loop body ∷ []

  started : does ws (instruction.Set U x) (does ws (instruction.Set T x) (does ws (instruction.Clear 255) m)) ≡ scan_start (length m) x
  started = ap (λ (q : List ℕ). mark U x (mark T x q)) (cleared_all m)

  -- The three commands before the loop.
  pub before_loop : (b : ℕ) → run_items ws program (suc (suc (suc b))) m ≡ onward (passes ws body (suc b) b (scan_start (length m) x)) (λ l q. stand true l false q)
  unfolding run_items pass
  before_loop b = ap (λ (q : List ℕ). onward (passes ws body (suc b) b q) (λ l k. stand true l false k)) started

  pub within_three : (b : ℕ) → b < 3 → ((run_items ws program b m).runs ≡ false) × ((run_items ws program b m).left ≡ 0)
  unfolding run_items pass
  within_three zero h = (refl, refl)
  within_three (suc zero) h = (refl, refl)
  within_three (suc (suc zero)) h = (refl, refl)
  within_three (suc (suc (suc b))) h = absurd (omega arith)

module _ (o k : ℕ) (ws : List ℕ) (legal : LegalWords o k ws) (few : o + k ≤ 1024) (x : ℕ) (hx : x < o + k) (m : List ℕ) (long : length m ≡ o + k) where
  -- The scan with a budget that is never spent, its count and its marks.
  abbrev whole : Scan
  whole = full_scan (o + k) ws x

  in_loop : (b : ℕ) → Looped (o + k) ws (legal_inside o k ws legal) commands commands_put_8 refl (suc b) b (scan_start (o + k) x) (whole.count - 0) whole.marks
  in_loop b =
      looped (o + k) ws (legal_inside o k ws legal) commands commands_put_8 refl (full_budget (o + k)) 0 (suc b) b (scan_start (o + k) x)
      (omega (arith, start_long (o + k) x hx)) (omega arith) (full_done o k ws legal x hx (full_budget (o + k)) (omega arith))

  goes : (b : ℕ) → run_items ws (items (o + k) (merged x)) (3 + b) m ≡ onward (passes ws (body ws x m) (suc b) b (scan_start (o + k) x)) (λ l q. stand true l false q)
  goes b =
      let three : 3 + b ≡ suc (suc (suc b)) = omega arith in
      ap (λ (t : List Item). run_items ws t (3 + b) m) (merged_items (o + k) x hx few)
      ∙ ap (λ (i : ℕ). run_items ws (program ws x m) i m) three
      ∙ before_loop ws x m b
      ∙ ap (λ (i : ℕ). onward (passes ws (body ws x m) (suc b) b (scan_start i x)) (λ l q. stand true l false q)) long

  -- With a budget of 3 + 5 × the scan's count or more the program ends: it has run so many commands, and leaves the scan's marks.
  pub merged_done : (budget : ℕ) → 3 + 5 * whole.count ≤ budget → run (o + k) ws (merged x) budget m ≡ record { done = true; count = 3 + 5 * whole.count; marks = whole.marks }
  merged_done budget h =
      let b : ℕ = budget - 3 in
      let e : budget ≡ 3 + b = omega arith in
      let t : run_items ws (items (o + k) (merged x)) budget m ≡ stand true (b - 5 * (whole.count - 0)) false whole.marks =
      ap (λ (i : ℕ). run_items ws (items (o + k) (merged x)) i m) e ∙ goes b ∙ ap (λ (s : Stand). onward s (λ l q. stand true l false q)) ((in_loop b).ends (omega arith)) in
      let c : budget - (b - 5 * (whole.count - 0)) ≡ 3 + 5 * whole.count = omega arith in
      ap (λ (s : Stand). ended s) t ∙ ap (λ (i : ℕ). record { done = true; count = i; marks = whole.marks }) c
    where
      ended : Stand → Scan
      ended s = record { done = s.runs; count = budget - s.left; marks = s.marks }

  -- With a smaller one it is spent: it has run just as many commands as the budget has.
  pub merged_spent : (budget : ℕ) → budget < 3 + 5 * whole.count → ((run (o + k) ws (merged x) budget m).done ≡ false) × ((run (o + k) ws (merged x) budget m).count ≡ budget)
  merged_spent budget h = pick (dec_lt budget 3)
    where
      Stops : Stand → Type 0
      Stops s = (s.runs ≡ false) × (s.left ≡ 0)

      told : Stops (run_items ws (items (o + k) (merged x)) budget m) → ((run (o + k) ws (merged x) budget m).done ≡ false) × ((run (o + k) ws (merged x) budget m).count ≡ budget)
      told t = (t.0, omega (arith, t.1))

      halts : (s : Stand) → Stops s → Stops (onward s (λ l q. stand true l false q))
      halts s t = subst Stops (sym (ap (λ (q : Bool). cond q (stand true s.left false s.marks) s) t.0)) t

      pick : Dec (budget < 3) → ((run (o + k) ws (merged x) budget m).done ≡ false) × ((run (o + k) ws (merged x) budget m).count ≡ budget)
      pick (yes i) = told (rw (merged_items (o + k) x hx few) (within_three ws x m budget i))
      pick (no i) =
          let b : ℕ = budget - 3 in
          let e : budget ≡ 3 + b = omega arith in
          told (subst Stops (sym (ap (λ (i : ℕ). run_items ws (items (o + k) (merged x)) i m) e ∙ goes b))
          (halts (passes ws (body ws x m) (suc b) b (scan_start (o + k) x)) ((in_loop b).stops (omega arith))))

  -- It is spent exactly if the scan is that has a round for every five commands after the first three.
  pub merged_matches : (budget : ℕ) → (run (o + k) ws (merged x) budget m).done ≡ (scan (o + k) ws x ((budget - 3) / 5)).done
  merged_matches budget = pick (dec_lt budget (3 + 5 * whole.count))
    where
      end : Last commands ws (scan_start (o + k) x) (full_budget (o + k))
      end = last_round commands ws (scan_start (o + k) x) (full_budget (o + k)) (full_done o k ws legal x hx (full_budget (o + k)) (omega arith))

      fewer : budget < 3 + 5 * whole.count → (scan (o + k) ws x ((budget - 3) / 5)).done ≡ true → ⊥
      fewer h d =
          let l = last_round commands ws (scan_start (o + k) x) ((budget - 3) / 5) d in
          let c = count_unique commands ws (scan_start (o + k) x) (suc end.at) (suc l.at) end.counted l.counted in
          omega (arith, end.count, l.within)

      pick : Dec (budget < 3 + 5 * whole.count) → (run (o + k) ws (merged x) budget m).done ≡ (scan (o + k) ws x ((budget - 3) / 5)).done
      pick (yes h) = (merged_spent budget h).0 ∙ sym (not_so (scan (o + k) ws x ((budget - 3) / 5)).done (fewer h))
      pick (no h) =
          ap (λ (s : Scan). s.done) (merged_done budget (omega arith))
          ∙ sym (ends_within commands ws (scan_start (o + k) x) (suc end.at) ((budget - 3) / 5) end.counted (omega (arith, end.count)))

  -- With a budget of 3 commands and 5 for each of b rounds it leaves the marks of the scan with b rounds, and ends if that scan does.
  pub merged_rounds : (b : ℕ) → ((run (o + k) ws (merged x) (3 + 5 * b) m).done ≡ (scan (o + k) ws x b).done) × ((run (o + k) ws (merged x) (3 + 5 * b) m).marks ≡ (scan (o + k) ws x b).marks)
  merged_rounds b =
      let t = beside (o + k) ws (legal_inside o k ws legal) commands commands_put_8 refl b 0 (suc (5 * b)) (scan_start (o + k) x) (omega (arith, start_long (o + k) x hx)) (omega arith) in
      let p : Stand = passes ws (body ws x m) (suc (5 * b)) (5 * b) (scan_start (o + k) x) in
      let e : run_items ws (items (o + k) (merged x)) (3 + 5 * b) m ≡ onward p (λ l q. stand true l false q) = goes (5 * b) in
      let over = ended p in
      (ap (λ (s : Stand). s.runs) e ∙ over.0 ∙ t.ends, ap (λ (s : Stand). s.marks) e ∙ over.1 ∙ t.marks)
    where
      -- Nothing comes after the loop.
      ended : (s : Stand) → ((onward s (λ l q. stand true l false q)).runs ≡ s.runs) × ((onward s (λ l q. stand true l false q)).marks ≡ s.marks)
      ended s = at s.runs refl
        where
          at : (q : Bool) → s.runs ≡ q → ((cond q (stand true s.left false s.marks) s).runs ≡ s.runs) × ((cond q (stand true s.left false s.marks) s).marks ≡ s.marks)
          at true e = (sym e, refl)
          at false e = (refl, refl)
