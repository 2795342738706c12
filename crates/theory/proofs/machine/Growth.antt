-- Marks only grow: how one mark changes their number, and what a step of a scan keeps.
use Prim.Native.Nat.{ℕ, zero, suc, ◌+◌, ◌*◌, ◌^◌, ◌<◌, ◌≤◌, zero-le, suc-le-suc}
use mathlib.Core.Path.{◌≡◌, refl, sym, ◌∙◌}
use mathlib.Core.Bool.{Bool, true, false, cond, ◌||◌}
use mathlib.Core.List.{List, [], ◌∷◌}
use native.Mathlib.Omega.{arith}
use native.Mathlib.Nat.{le_of_suc-le-suc, not-suc-le-zero, lt_trans, suc-mul}
use borrow.Author.Tests.{eqb-true, eqb-false}
use lib.Dec.{eqb}
use lib.ListN.{length, get_or, set, drop, length-set}
use lib.Seq.{set-get_or, drop-set-lt, get_or-set_same, get_or-set_other}
use lib.Bits.{or_lt}
use lib.Count.{ones, ones-le}
use lib.Pow.{pow-lt}
use Rattle.theory_laws.proofs.Bits.{or_had, ones_new}
use Rattle.theory.specs.Marks.{has, with, mark, far, fires, link, links, command, round}
use Rattle.theory.specs.Inside.{Ends, Inside}
use Rattle.theory.specs.Growth.{size, Set, kept, more}
use Rattle.theory.specs.declared.Command.{Command}
use Rattle.theory.proofs.Inside.{far_in, inside_first, inside_rest}

pub set_then : {f g : Bool} {a b c : List ℕ} → Set f a b → Set g b c → Set (f || g) a c
set_then kept kept = kept
set_then kept (more l) = more l
set_then (more l) kept = more l
set_then (more k) (more l) = more (lt_trans k l)

pub size_set : (m : List ℕ) (i x : ℕ) → i < length m → size (set m i x) + ones (get_or m i 0) ≡ size m + ones x
unfolding size
size_set [] i x l = absurd (not-suc-le-zero l)
size_set (b ∷ m) zero x l = omega arith
size_set (b ∷ m) (suc i) x l = omega (arith, size_set m i x (le_of_suc-le-suc l))

-- A marker that a node has is no new mark; one that it has not is.
pub mark_had : (j v : ℕ) (m : List ℕ) → has j (get_or m v 0) ≡ true → mark j v m ≡ m
unfolding mark
mark_had j v m h = rw (or_had j (get_or m v 0) h) (set-get_or m v 0)

pub mark_more : (j v : ℕ) (m : List ℕ) → v < length m → has j (get_or m v 0) ≡ false → Set true m (mark j v m)
unfolding mark
mark_more j v m l h =
    let grows : size m < size (set m v (with j (get_or m v 0))) = omega (arith, size_set m v (with j (get_or m v 0)) l, ones_new j (get_or m v 0) h) in
    more grows

-- What every step of a scan over n nodes keeps: the length, the bytes past the nodes, and bytes below 2 ^ h; and marks only grow.
pub record ScanStep (n h : ℕ) (m m' : List ℕ) : Type 0 where
  pub long : length m' ≡ length m
  pub past : drop n m' ≡ drop n m
  pub low : ((v : ℕ) → v < n → get_or m v 0 < 2 ^ h) → (v : ℕ) → v < n → get_or m' v 0 < 2 ^ h
  pub flag : Bool
  pub grew : Set flag m m'

pub step_none : (n h : ℕ) (m : List ℕ) → ScanStep n h m m
step_none n h m = record { long = refl; past = refl; low = λ f. f; flag = false; grew = kept }

pub step_then : {n h : ℕ} {a b c : List ℕ} → ScanStep n h a b → ScanStep n h b c → ScanStep n h a c
step_then p q =
    record { long = q.long ∙ p.long; past = q.past ∙ p.past; low = λ f. q.low (p.low f); flag = p.flag || q.flag; grew = set_then p.grew q.grew }

module _ (n h j : ℕ) (k : j < h) where
  mark_low : (m : List ℕ) (t : ℕ) → t < n → n ≤ length m → ((v : ℕ) → v < n → get_or m v 0 < 2 ^ h)
      → (v : ℕ) → v < n → (q : Bool) → eqb t v ≡ q → get_or (mark j t m) v 0 < 2 ^ h
  unfolding mark
  mark_low m t l r f v i true e =
      let s : t ≡ v = eqb-true t v e in
      rw (← s, get_or-set_same m t (with j (get_or m t 0)) 0 (omega arith)) (or_lt h (get_or m t 0) (2 ^ j) (f t l) (pow-lt k))
  mark_low m t l r f v i false e = rw (get_or-set_other m t v (with j (get_or m t 0)) 0 (λ (s : v ≡ t). eqb-false t v e (sym s))) (f v i)

  new_step : (m : List ℕ) (t : ℕ) → has j (get_or m t 0) ≡ false → t < n → n ≤ length m → ScanStep n h m (mark j t m)
  unfolding mark
  new_step m t e l r =
      record {
        long = length-set m t (with j (get_or m t 0));
        past = drop-set-lt n m t (with j (get_or m t 0)) l;
        low = λ f v i. mark_low m t l r f v i (eqb t v) refl;
        flag = true;
        grew = mark_more j t m (omega arith) e;
      }

  pub mark_step : (m : List ℕ) (t : ℕ) (q : Bool) → has j (get_or m t 0) ≡ q → t < n → n ≤ length m → ScanStep n h m (mark j t m)
  mark_step m t true e l r = rw (mark_had j t m e) (step_none n h m)
  mark_step m t false e l r = new_step m t e l r

module _ (n h : ℕ) (c : Command) (k : c.put < h) where
  pub link_step : (old : List ℕ) (w : ℕ) (m : List ℕ) → Ends n w → n ≤ length m → ScanStep n h m (link c old w m)
  unfolding link
  link_step old w m e r = at (fires c old w)
    where
      t : ℕ
      t = far c.at_head w

      at : (p : Bool) → ScanStep n h m (cond p (mark c.put t m) m)
      at true = mark_step n h c.put k m t (has c.put (get_or m t 0)) refl (far_in c.at_head e) r
      at false = step_none n h m

  pub links_step : (old ws m : List ℕ) → Inside n ws → n ≤ length m → ScanStep n h m (links c old ws m)
  unfolding links
  links_step old [] m e r = step_none n h m
  links_step old (w ∷ ws) m e r =
      let s = link_step old w m (inside_first e) r in
      step_then s (links_step old ws (link c old w m) (inside_rest e) (omega (arith, s.long)))

-- Every command of a list puts a marker below h.
abbrev pub Puts : ℕ → List Command → Type 0
Puts h [] = Unit {0}
Puts h (c ∷ cs) = (c.put < h) × Puts h cs

pub command_step : (n h : ℕ) (c : Command) → c.put < h → (ws m : List ℕ) → Inside n ws → n ≤ length m → ScanStep n h m (command c ws m)
unfolding command
command_step n h c k ws m e r = links_step n h c k m ws m e r

pub round_step : (n h : ℕ) (cs : List Command) → Puts h cs → (ws m : List ℕ) → Inside n ws → n ≤ length m → ScanStep n h m (round cs ws m)
unfolding round
round_step n h [] p ws m e r = step_none n h m
round_step n h (c ∷ cs) p ws m e r =
    let s = command_step n h c p.0 ws m e r in
    step_then s (round_step n h cs p.1 ws (command c ws m) e (omega (arith, s.long)))

-- The marks of n nodes below 2 ^ h are at most n * h, besides those of the bytes past them.
pub size_low : (n h : ℕ) (m : List ℕ) → n ≤ length m → ((v : ℕ) → v < n → get_or m v 0 < 2 ^ h) → size m ≤ n * h + size (drop n m)
unfolding size
size_low zero h m r f = omega arith
size_low (suc n) h [] r f = absurd (not-suc-le-zero r)
size_low (suc n) h (b ∷ m) r f =
    let o : ones b ≤ h = ones-le h b (f 0 (suc-le-suc zero-le)) in
    omega (arith, size_low n h m (le_of_suc-le-suc r) (λ v l. f (suc v) (suc-le-suc l)), suc-mul n h)
