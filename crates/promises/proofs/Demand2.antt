-- Demand 2, kept by our engine; and what follows for any engine that keeps it.
use Prim.Native.Nat.{ℕ, ◌+◌, ◌*◌, ◌≤◌, ◌<◌}
use mathlib.Core.Path.{◌≡◌, refl, sym, subst, ◌∙◌}
use mathlib.Core.Bool.{Bool, true, false, cond}
use mathlib.Core.List.{List}
use mathlib.Core.Logic.{◌↔◌}
use native.Mathlib.Omega.{arith}
use native.Mathlib.Decide.{dec_lt}
use lib.ListN.{get_or}
use Rattle.std.specs.Prelude.{Ok}
use Rattle.theory_laws.proofs.Booleans.{contradiction}
use Rattle.theory.specs.Words.{Sign, is, isnt}
use Rattle.theory.specs.Nets.{Statements, Kind, Links, LegalWords}
use Rattle.theory.specs.Support.{Supported}
use Rattle.theory.specs.Marks.{T, F, has, says_yes, says_no, commands, scan_start, marker_of, marker_to, At}
use Rattle.theory.specs.Scans.{rounds, Count, Runs, ended, spent, scan, full_budget, full_scan}
use Rattle.theory.specs.Forward.{forward_scan}
use Rattle.theory.specs.Origins.{chosen}
use Rattle.theory.specs.declared.Command.{Command}
use Rattle.theory.proofs.machine.Budgets.{last_round, count_unique, rounds_run}
use Rattle.theory.proofs.machine.Bounds.{counted, full_done}
use Rattle.theory.proofs.machine.Sides.{scan_exact, scan_spent_lem, scan_exact_to, scan_spent_to_lem}
use Rattle.theory.proofs.machine.Forward.{same_word}
use Rattle.theory.proofs.completion.Completing.{full_exact}
use Rattle.question.specs.Table.{questioned, answer_at}
use Rattle.question.specs.declared.Answer.{Answer}
use Rattle.question.specs.declared.Answer.TheVariants.{None, Yes, No, Both}
use Rattle.promises.specs.Engines.{Engine, ours}
use Rattle.promises.specs.Demand2.{Smallest, says, SpentRounds, Demand2}
use Rattle.promises.specs.Forward.{forward_word}
use Rattle.promises.proofs.SmallestSet.{smallest_is_supported}
use Rattle.promises.proofs.Answered.{scan_ended, scan_was_spent, question_answered}

-- A byte's answer says what its marks are.
pub answer_says : (b : ℕ) (s : Sign) → says (answer_at b) s ≡ has (marker_of s) b
answer_says b s = at (says_yes b) (says_no b) refl refl s
  where
    at : (u f : Bool) → says_yes b ≡ u → says_no b ≡ f → (s : Sign) → says (cond u (cond f Both Yes) (cond f No None)) s ≡ has (marker_of s) b
    at true true p q is = sym p
    at true true p q isnt = sym q
    at true false p q is = sym p
    at true false p q isnt = sym q
    at false true p q is = sym p
    at false true p q isnt = sym q
    at false false p q is = sym p
    at false false p q isnt = sym q

-- A scan of a net that ended within its budget: its count is that of the machine.
ended_count : (cs : List Command) (ws m : List ℕ) (budget : ℕ) → (rounds cs ws 0 budget m).done ≡ true → Count cs ws m (rounds cs ws 0 budget m).count
ended_count cs ws m budget d = let t = last_round cs ws m budget d in rw t.count t.counted

-- A scan whose budget was spent has run all of its rounds, and each of them set something.
spent_rounds : (cs : List Command) (ws m : List ℕ) (budget : ℕ) → (rounds cs ws 0 budget m).done ≡ false → SpentRounds cs ws m budget (rounds cs ws 0 budget m).count
spent_rounds cs ws m budget d = go (rounds_run cs ws m budget)
  where
    go : Runs cs ws m budget (rounds cs ws 0 budget m) → SpentRounds cs ws m budget (rounds cs ws 0 budget m).count
    go (ended a k l e) = contradiction (sym d ∙ a)
    go (spent a b n e) = record { all = n; busy = b }

-- What a marker of one byte means it means of the same byte elsewhere.
byte_exact : (j : ℕ) {b c : ℕ} {P : Type 0} → b ≡ c → (has j c ≡ true) ↔ P → (has j b ≡ true) ↔ P
byte_exact j e h = ((λ p. h.0 (rw e at p)), λ p. rw e (h.1 p))

module _ (o k : ℕ) (ws : List ℕ) where
  -- The rounds of a scan of a net that ended.
  rounds_of : LegalWords o k ws → (x : ℕ) → x < o + k → (budget count : ℕ) → (scan (o + k) ws x budget).done ≡ true → (scan (o + k) ws x budget).count ≡ count
      → Count commands ws (scan_start (o + k) x) count × (count ≤ full_budget (o + k))
  rounds_of legal x h budget count d e =
      let (c, n, l) = counted o k ws legal x h in
      let t : Count commands ws (scan_start (o + k) x) count = subst (Count commands ws (scan_start (o + k) x)) e (ended_count commands ws (scan_start (o + k) x) budget d) in
      (t, omega (arith, count_unique commands ws (scan_start (o + k) x) count c t n))

module _ (o k : ℕ) (ws : List ℕ) (set : ℕ) where
  question_exact : (x y : ℕ) (m : List ℕ) (a : Answer) (count : ℕ) → (questioned o k ws set x y m).answer ≡ Ok (a, count)
      → (s : Sign) → (says a s ≡ true) ↔ Supported o k (Links (chosen set ws)) x y s
  question_exact x y m a count e s =
      let h = question_answered o k ws set x y m a count e in
      let b = answer_says (get_or (full_scan (o + k) (chosen set ws) x).marks y 0) s in
      let g = full_exact o k (chosen set ws) h.net x y s h.node h.kind in
      ((λ p. g.0 (sym b ∙ (rw h.word p))), λ p. rw h.word at (b ∙ g.1 p))

  question_rounds_lem : (x y : ℕ) (m : List ℕ) (a : Answer) (count : ℕ) → (questioned o k ws set x y m).answer ≡ Ok (a, count)
      → Count commands (chosen set ws) (scan_start (o + k) x) count × (count ≤ full_budget (o + k))
  question_rounds_lem x y m a count e =
      let h = question_answered o k ws set x y m a count e in
      rounds_of o k (chosen set ws) h.net.legal x h.node (full_budget (o + k)) count (full_done o k (chosen set ws) h.net.legal x h.node (full_budget (o + k)) (omega arith)) h.counted

-- Our engine keeps demand 2.
pub demand_2 : Demand2 ours
demand_2 = record {
  question = question_exact;
  question_rounds = question_rounds_lem;
  scan = λ o k ws set x budget m count e y h s.
      let r = scan_ended o k ws set x budget m count e in
      byte_exact (marker_of s) (r.left y h.high) (scan_exact o k (chosen set ws) r.net.legal x r.node budget r.ended y h s);
  scan_to = λ o k ws set x budget m count e h z l s.
      let r = scan_ended o k ws set x budget m count e in
      byte_exact (marker_to s) (r.left z l) (scan_exact_to o k (chosen set ws) r.net.legal x r.node budget h r.ended z s);
  scan_rounds = λ o k ws set x budget m count e.
      let r = scan_ended o k ws set x budget m count e in
      rounds_of o k (chosen set ws) r.net.legal x r.node budget count r.ended r.counted;
  scan_spent = λ o k ws set x budget m count e y h s p.
      let r = scan_was_spent o k ws set x budget m count e in
      scan_spent_lem o k (chosen set ws) r.net.legal x r.node budget r.ended y h s (rw (r.left y h.high) at p);
  scan_spent_to = λ o k ws set x budget m count e h z l s p.
      let r = scan_was_spent o k ws set x budget m count e in
      scan_spent_to_lem o k (chosen set ws) r.net.legal x r.node budget h r.ended z s (rw (r.left z l) at p);
  scan_spent_rounds = λ o k ws set x budget m count e.
      let r = scan_was_spent o k ws set x budget m count e in
      subst (SpentRounds commands (chosen set ws) (scan_start (o + k) x) budget) r.counted (spent_rounds commands (chosen set ws) (scan_start (o + k) x) budget r.ended);
}

-- A budget that was spent lies below the count of the machine.
pub spent_below : (cs : List Command) (ws m : List ℕ) (budget count c : ℕ) → SpentRounds cs ws m budget count → Count cs ws m c → budget < c
spent_below cs ws m budget count c r n = pick (dec_lt budget c)
  where
    pick : Dec (budget < c) → budget < c
    pick (yes h) = h
    pick (no h) = absurd (r.busy n.last (omega (arith, n.number)) n.quiet)

-- In the words of the demand, of any engine that keeps it: the answer says s exactly if the statement is in the smallest set.
pub in_smallest : (e : Engine) → Demand2 e → (o k : ℕ) (ws : List ℕ) (set x y : ℕ) (m : List ℕ) (a : Answer) (count : ℕ) → (e.question o k ws set x y m).answer ≡ Ok (a, count)
    → (P : Statements) → Smallest o k (Links (chosen set ws)) P → (s : Sign) → (says a s ≡ true) ↔ P x y s
in_smallest e d o k ws set x y m a count h P p s =
    let f = d.question o k ws set x y m a count h s in
    let g = smallest_is_supported o k (Links (chosen set ws)) P p x y s in
    ((λ u. g.1 (f.0 u)), λ u. f.1 (g.0 u))

-- The two ends agree, of any engine that keeps demand 2: y's mark after the scan from the subject x is x's mark after the scan from the kind y.
pub ends_agree : (e : Engine) → Demand2 e → (o k : ℕ) (ws : List ℕ) (set x y b c : ℕ) (m l : List ℕ) (i j : ℕ) → (e.scan o k ws set x b m).answer ≡ Ok i
    → (e.scan o k ws set y c l).answer ≡ Ok j → x < o + k → Kind o k y → (s : Sign)
    → At (e.scan o k ws set x b m).marks (marker_of s) y ↔ At (e.scan o k ws set y c l).marks (marker_to s) x
ends_agree e d o k ws set x y b c m l i j p q h g s =
    let f = d.scan o k ws set x b m i p y g s in
    let t = d.scan_to o k ws set y c l j q g x h s in
    ((λ u. t.1 (f.0 u)), λ u. f.1 (t.0 u))

-- The word that a question gives is the word of document 01, by its forward scan.
pub word_of_document_01 : (o k : ℕ) (ws : List ℕ) (set x y : ℕ) (m : List ℕ) (a : Answer) (count : ℕ) → (questioned o k ws set x y m).answer ≡ Ok (a, count)
    → forward_word o k (chosen set ws) x y ≡ a
word_of_document_01 o k ws set x y m a count e =
    let h = question_answered o k ws set x y m a count e in
    let t = same_word o k (chosen set ws) h.net.legal x y h.node h.kind in
    let yes-same : says_yes (get_or (full_scan (o + k) (chosen set ws) x).marks y 0) ≡ has T (get_or (forward_scan (o + k) (chosen set ws) x (2 * (o + k))).marks y 0) = t is in
    let no_same : says_no (get_or (full_scan (o + k) (chosen set ws) x).marks y 0) ≡ has F (get_or (forward_scan (o + k) (chosen set ws) x (2 * (o + k))).marks y 0) = t isnt in
    rw (← yes-same, ← no_same) h.word
