-- Each round but the last sets a mark, so the count is at most 3N − 1.
use Prim.Native.Nat.{ℕ, zero, suc, ◌+◌, ◌*◌, ◌^◌, ◌≤◌, ◌<◌}
use mathlib.Core.Path.{◌≡◌, refl, sym, ◌∙◌, ap}
use mathlib.Core.Bool.{Bool, true, false}
use mathlib.Core.List.{List}
use native.Mathlib.Omega.{arith}
use lib.ListN.{length, get_or, drop, drop_of_length-le, length-replicate}
use borrow.Author.Tests.{eq-eqb}
use Rattle.theory_laws.proofs.Booleans.{contradiction, not_so}
use Rattle.theory.specs.Nets.{LegalWords}
use Rattle.theory.specs.Marks.{T, U, has, mark, blank, round, commands, scan_start}
use Rattle.theory.specs.Scans.{same, rounds, Count, scan, full_budget}
use Rattle.theory.specs.Inside.{Inside}
use Rattle.theory.specs.Growth.{size, Set, kept, more}
use Rattle.theory.specs.declared.Command.{Command}
use Rattle.theory.proofs.Inside.{legal_inside}
use Rattle.theory.proofs.machine.Growth.{ScanStep, Puts, mark_more, mark_step, round_step, size_low}
use Rattle.theory.proofs.machine.Commands.{mark_at}
use Rattle.theory.proofs.machine.Soundness.{after_step}
use Rattle.theory.proofs.machine.Rounds.{same_refl, rounds_none, rounds_last, rounds_more}
use Rattle.theory.proofs.machine.Starts.{blank_none, blank_byte, T_long, start_long, commands_put, commands_put_8}
use Rattle.theory.proofs.machine.Budgets.{last_round, spent_marks, ends_within}

grew_more : {f : Bool} {m m' : List ℕ} → Set f m m' → same m m' ≡ false → size m < size m'
grew_more {m = m} kept h = contradiction (sym h ∙ same_refl m)
grew_more (more l) h = l

-- All bytes of n nodes are below 2 ^ h.
abbrev pub BytesBelow : ℕ → ℕ → List ℕ → Type 0
BytesBelow n h m = (v : ℕ) → v < n → get_or m v 0 < 2 ^ h

module _ (n h : ℕ) (ws : List ℕ) (e : Inside n ws) (cs : List Command) (p : Puts h cs) where
  -- Counting marks: with so many at the start, the rounds are at most as many as there are places left, and one.
  pub rounds_few : (b k : ℕ) (m : List ℕ) → n ≤ length m → BytesBelow n h m → (rounds cs ws k b m).count + size m ≤ k + 1 + n * h + size (drop n m)
  rounds_few zero k m r f = rw (rounds_none cs ws k zero m) (omega (arith, size_low n h m r f))
  rounds_few (suc b) k m r f = at (same m m') refl (λ l low. rounds_few b (suc k) m' l low)
    where
      m' : List ℕ
      m' = round cs ws m

      s : ScanStep n h m m'
      s = round_step n h cs p ws m e r

      at : (q : Bool) → same m m' ≡ q
          → (n ≤ length m' → BytesBelow n h m' → (rounds cs ws (suc k) b m').count + size m' ≤ suc k + 1 + n * h + size (drop n m'))
          → (rounds cs ws k (suc b) m).count + size m ≤ k + 1 + n * h + size (drop n m)
      at true t go = rw (rounds_last cs ws k b m t) (omega (arith, size_low n h m r f))
      at false t go =
          rw (rounds_more cs ws k b m t)
          (omega (arith, grew_more s.grew t, ap size s.past, go (omega (arith, s.long)) (s.low f)))

  none_past : (m : List ℕ) → length m ≡ n → size (drop n m) ≡ 0
  unfolding size
  none_past m l = let h : length m ≤ n = omega (arith, l) in rw (drop_of_length-le m h)

  -- So a scan of marks on just n nodes ends within any budget that leaves no place.
  module _ (m : List ℕ) (l : length m ≡ n) (f : BytesBelow n h m) where
    pub count_bound : (b : ℕ) → (rounds cs ws 0 b m).count + size m ≤ 1 + n * h
    count_bound b = omega (arith, rounds_few b 0 m (omega (arith, l)) f, none_past m l)

    ends_one_more : (b : ℕ) → 1 + n * h < suc b + size m → (rounds cs ws 0 (suc b) m).done ≡ true
    ends_one_more b g = at (rounds cs ws 0 (suc b) m).done refl
      where
        at : (q : Bool) → (rounds cs ws 0 (suc b) m).done ≡ q → (rounds cs ws 0 (suc b) m).done ≡ true
        at true t = t
        at false t = absurd (omega (arith, (spent_marks cs ws m (suc b) t).0, count_bound (suc b)))

    -- There is a count, at most this large.
    pub bounded : (b : ℕ) → 1 + n * h ≤ b + size m → (c : ℕ) × Count cs ws m c × (c ≤ b)
    bounded b g =
        let t = last_round cs ws m (suc b) (ends_one_more b (omega arith)) in
        (suc t.at, t.counted, omega (arith, count_bound (suc b), t.count))

-- A scan leaves as many marks as it found.
pub rounds_long : (n : ℕ) (ws : List ℕ) → Inside n ws → (cs : List Command) → Puts 8 cs → (b : ℕ) (m : List ℕ) → n ≤ length m → length (rounds cs ws 0 b m).marks ≡ length m
rounds_long n ws e cs p b m r = at (rounds cs ws 0 b m).done refl
  where
    at : (q : Bool) → (rounds cs ws 0 b m).done ≡ q → length (rounds cs ws 0 b m).marks ≡ length m
    at true d = let t = last_round cs ws m b d in ap length t.marks ∙ (after_step n ws e cs p 8 p t.at m r).long
    at false d = ap length (spent_marks cs ws m b d).1 ∙ (after_step n ws e cs p 8 p b m r).long

blank_below : (n h : ℕ) → BytesBelow n h (blank n)
blank_below n h v l = rw (blank_byte n v) (positive h)
  where
    positive : (h : ℕ) → 0 < 2 ^ h
    positive zero = omega arith
    positive (suc h) = omega (arith, positive h)

module _ (n x : ℕ) (hx : x < n) where
  start_step : (h j : ℕ) → j < h → (m : List ℕ) → length m ≡ n → ScanStep n h m (mark j x m)
  start_step h j l m e = mark_step n h j l m x (has j (get_or m x 0)) refl hx (omega (arith, e))

  -- The marks with T on x alone, as a scan's start is built.
  abbrev with_t : List ℕ
  with_t = mark T x (blank n)

  pub T_below : (h : ℕ) → 0 < h → BytesBelow n h with_t
  T_below h l = (start_step h T l (blank n) (length-replicate {A = ℕ} n 0)).low (blank_below n h)

  pub start_below : (h : ℕ) → 2 < h → BytesBelow n h (scan_start n x)
  start_below h l = (start_step h U l with_t (T_long n x hx)).low (T_below h (omega arith))

  pub T_size : 1 ≤ size with_t
  T_size = at (mark_more T x (blank n) (omega (arith, length-replicate {A = ℕ} n 0)) (not_so (has T (get_or (blank n) x 0)) (blank_none n T x)))
    where
      at : Set true (blank n) with_t → 1 ≤ size with_t
      at (more l) = omega arith

  no_U : has U (get_or with_t x 0) ≡ false
  no_U =
      mark_at U T x x (blank n) (omega (arith, length-replicate {A = ℕ} n 0))
      ∙ rw (not_so (has U (get_or (blank n) x 0)) (blank_none n U x), eq-eqb x x refl)

  start_size : 2 ≤ size (scan_start n x)
  start_size = at (mark_more U x with_t (omega (arith, T_long n x hx)) no_U)
    where
      at : Set true with_t (scan_start n x) → 2 ≤ size (scan_start n x)
      at (more l) = omega (arith, T_size)

module _ (o k : ℕ) (ws : List ℕ) (legal : LegalWords o k ws) (x : ℕ) (hx : x < o + k) where
  -- The count is at most 3N − 1, from an object or a kind.
  pub counted : (c : ℕ) × Count commands ws (scan_start (o + k) x) c × (c ≤ full_budget (o + k))
  counted =
      bounded (o + k) 3 ws (legal_inside o k ws legal) commands commands_put (scan_start (o + k) x) (start_long (o + k) x hx) (start_below (o + k) x hx 3 (omega arith))
      (full_budget (o + k)) (omega (arith, start_size (o + k) x hx))

  -- So a budget of 3N − 1 is never spent.
  pub full_done : (budget : ℕ) → full_budget (o + k) ≤ budget → (scan (o + k) ws x budget).done ≡ true
  full_done budget h =
      let (c, d, l) = counted in
      ends_within commands ws (scan_start (o + k) x) c budget d (omega arith)

  -- A scan leaves one byte a node.
  pub scan_long : (b : ℕ) → length (scan (o + k) ws x b).marks ≡ o + k
  scan_long b =
      rounds_long (o + k) ws (legal_inside o k ws legal) commands commands_put_8 b (scan_start (o + k) x) (omega (arith, start_long (o + k) x hx)) ∙ start_long (o + k) x hx
