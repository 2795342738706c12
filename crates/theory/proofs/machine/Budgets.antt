-- A scan with a budget: the computed one is the one that the relation describes, and there is no other.
use Prim.Native.Nat.{ℕ, zero, suc, ◌+◌, ◌≤◌, ◌<◌}
use mathlib.Core.Path.{◌≡◌, refl, subst, sym, ◌∙◌, ap}
use mathlib.Core.Bool.{Bool, true, false}
use mathlib.Core.List.{List}
use native.Mathlib.Omega.{arith}
use native.Mathlib.Decide.{dec_lt}
use Rattle.theory_laws.proofs.Booleans.{contradiction}
use Rattle.theory.specs.Marks.{round}
use Rattle.theory.specs.Scans.{after, same, Scan, rounds, Count, Runs, ended, spent}
use Rattle.theory.specs.declared.Command.{Command}
use Rattle.theory.proofs.machine.Rounds.{same_refl, same_eq, rounds_none, rounds_last, rounds_more}

module _ (cs : List Command) (ws m : List ℕ) where
  -- None of the first n rounds is the last.
  abbrev pub Busy : ℕ → Type 0
  Busy n = (j : ℕ) → j < n → after cs ws (suc j) m ≡ after cs ws j m → ⊥

  busy_more : (n : ℕ) → Busy n → (after cs ws (suc n) m ≡ after cs ws n m → ⊥) → Busy (suc n)
  busy_more n b h j l e = pick (dec_lt j n)
    where
      pick : Dec (j < n) → ⊥
      pick (yes i) = b j i e
      pick (no i) = let q : j ≡ n = omega arith in h (rw q at e)

  next : (n : ℕ) → after cs ws (suc n) m ≡ round cs ws (after cs ws n m)
  unfolding after
  next n = refl

  runs : (f n budget : ℕ) → n + f ≡ budget → Busy n → Runs cs ws m budget (rounds cs ws n f (after cs ws n m))
  runs zero n budget e b =
      let q : n ≡ budget = omega arith in
      rw (rounds_none cs ws n 0 (after cs ws n m)) (spent refl (rw q at b) q (ap (λ (i : ℕ). after cs ws i m) q))
  runs (suc f) n budget e b = go (same (after cs ws n m) (round cs ws (after cs ws n m))) refl (λ b'. runs f (suc n) budget (omega arith) b')
    where
      go : (t : Bool) → same (after cs ws n m) (round cs ws (after cs ws n m)) ≡ t
          → (Busy (suc n) → Runs cs ws m budget (rounds cs ws (suc n) f (after cs ws (suc n) m)))
          → Runs cs ws m budget (rounds cs ws n (suc f) (after cs ws n m))
      go true q k =
          rw (rounds_last cs ws n f (after cs ws n m) q)
          (ended refl (record { last = n; number = refl; quiet = next n ∙ sym (same_eq _ _ q); first = b }) (omega arith) (sym (next n)))
      go false q k =
          rw (rounds_more cs ws n f (after cs ws n m) q, ← next n)
          (k (busy_more n b (λ h. contradiction (sym q ∙ (rw (sym (next n) ∙ h) (same_refl (after cs ws n m)))))))

  first_marks : after cs ws 0 m ≡ m
  unfolding after
  first_marks = refl

  -- The computed scan is one of the relation.
  pub rounds_run : (budget : ℕ) → Runs cs ws m budget (rounds cs ws 0 budget m)
  rounds_run budget = rw first_marks at (runs budget 0 budget (omega arith) (λ j h. absurd (omega arith)))

  pub count_unique : (c d : ℕ) → Count cs ws m c → Count cs ws m d → c ≡ d
  count_unique c d p q = pick (dec_lt p.last q.last) (dec_lt q.last p.last)
    where
      pick : Dec (p.last < q.last) → Dec (q.last < p.last) → c ≡ d
      pick (yes h) e = absurd (q.first p.last h p.quiet)
      pick (no h) (yes g) = absurd (p.first q.last g q.quiet)
      pick (no h) (no g) = omega (arith, p.number, q.number)

  count_spent : {A : Type 0} (c budget : ℕ) → Count cs ws m c → c ≤ budget → Busy budget → A
  count_spent c budget k l b = absurd (b k.last (omega (arith, k.number)) k.quiet)

  scan_same : (r q : Scan) → r.marks ≡ q.marks → r.count ≡ q.count → r.done ≡ q.done → r ≡ q
  scan_same r q a b d = λ i. record { done = d i; count = b i; marks = a i }

  -- The relation has one outcome.
  pub runs_unique : (budget : ℕ) (r q : Scan) → Runs cs ws m budget r → Runs cs ws m budget q → r ≡ q
  runs_unique budget r q (ended a k l e) (ended a' k' l' e') =
      let c = count_unique r.count q.count k k' in scan_same r q (e ∙ ap (λ (i : ℕ). after cs ws i m) c ∙ sym e') c (a ∙ sym a')
  runs_unique budget r q (ended a k l e) (spent a' b' n' e') = count_spent r.count budget k l b'
  runs_unique budget r q (spent a b n e) (ended a' k' l' e') = count_spent q.count budget k' l' b
  runs_unique budget r q (spent a b n e) (spent a' b' n' e') = scan_same r q (e ∙ sym e') (n ∙ sym n') (a ∙ sym a')

  -- A scan ends exactly if its count is within the budget.
  pub ends_within : (c budget : ℕ) → Count cs ws m c → c ≤ budget → (rounds cs ws 0 budget m).done ≡ true
  ends_within c budget k l = go (rounds_run budget)
    where
      go : Runs cs ws m budget (rounds cs ws 0 budget m) → (rounds cs ws 0 budget m).done ≡ true
      go (ended a _ _ _) = a
      go (spent _ b _ _) = count_spent c budget k l b

  -- A scan that ended has marks that one more round leaves as they are.
  pub record Last (budget : ℕ) : Type 0 where
    pub at : ℕ
    pub count : (rounds cs ws 0 budget m).count ≡ suc at
    pub within : suc at ≤ budget
    pub marks : (rounds cs ws 0 budget m).marks ≡ after cs ws at m
    pub quiet : round cs ws (after cs ws at m) ≡ after cs ws at m
    pub counted : Count cs ws m (suc at)

  pub last_round : (budget : ℕ) → (rounds cs ws 0 budget m).done ≡ true → Last budget
  last_round budget d = go (rounds_run budget)
    where
      go : Runs cs ws m budget (rounds cs ws 0 budget m) → Last budget
      go (ended a k l e) =
          record {
            at = k.last;
            count = k.number;
            within = omega (arith, k.number);
            marks = e ∙ ap (λ (i : ℕ). after cs ws i m) k.number ∙ k.quiet;
            quiet = sym (next k.last) ∙ k.quiet;
            counted = subst (Count cs ws m) k.number k;
          }
      go (spent a b n e) = contradiction (sym a ∙ d)

  -- A scan whose budget was spent has the marks after that many rounds.
  pub spent_marks : (budget : ℕ) → (rounds cs ws 0 budget m).done ≡ false → ((rounds cs ws 0 budget m).count ≡ budget) × ((rounds cs ws 0 budget m).marks ≡ after cs ws budget m)
  spent_marks budget d = go (rounds_run budget)
    where
      go : Runs cs ws m budget (rounds cs ws 0 budget m) → ((rounds cs ws 0 budget m).count ≡ budget) × ((rounds cs ws 0 budget m).marks ≡ after cs ws budget m)
      go (ended a k l e) = contradiction (sym d ∙ a)
      go (spent a b n e) = (n, e)
