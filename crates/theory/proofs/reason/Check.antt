-- The reason check: it says yes exactly to written paths that show the statement, and to every reason.
use Prim.Native.Nat.{ℕ, suc, ◌+◌, ◌-◌, ◌<◌}
use mathlib.Core.Path.{◌≡◌, refl, sym, ◌∙◌}
use mathlib.Core.Bool.{Bool, true, false≢true}
use mathlib.Core.List.{List, [], ◌∷◌, ◌++◌}
use mathlib.Core.Logic.{◌↔◌}
use native.Mathlib.Omega.{arith}
use lib.Dec.{eqb, ltb}
use lib.ListN.{length, get_or, take, drop, length-append, length-drop, take-append-drop}
use lib.Seq.{length-take-le}
use borrow.Author.Tests.{eqb-true, ltb-true, lt-ltb}
use Rattle.theory.specs.Words.{Sign, is, isnt}
use Rattle.theory.specs.Nets.{Kind, Links, LegalWords, Net}
use Rattle.theory.specs.Support.{Supported}
use Rattle.theory.specs.Paths.{last_of, Shows}
use Rattle.theory.specs.Reasons.{written, never}
use Rattle.theory.specs.Searches.{distances, reason_states, reason_list}
use Rattle.theory.specs.Checks.{Passes, all_steps, goes_with, passes}
use Rattle.theory.proofs.Legal.{legal_links}
use Rattle.theory_laws.specs.Deciding.{Decides}
use Rattle.theory_laws.proofs.Deciding.{decides_equal, decides_below, decides_both, decides_same}
use Rattle.theory.proofs.reason.Steps.{all_steps_exactly}
use Rattle.theory.proofs.reason.Repeats.{strict_shows}
use Rattle.theory.proofs.reason.Reason.{reason_shortest}
use Rattle.theory.proofs.support.Lemma1.{lemma1}

last_first : (x : ℕ) (xs : List ℕ) → last_of x (xs ++ []) ≡ last_of x xs
last_first x [] = refl
last_first x (y ∷ xs) = last_first y xs

last_second : (x : ℕ) (xs : List ℕ) (z : ℕ) (zs : List ℕ) → last_of x (xs ++ (z ∷ zs)) ≡ last_of z zs
last_second x [] z zs = refl
last_second x (y ∷ xs) z zs = last_second y xs z zs

-- What the test asks of a list that has sizes a and b, a first node u and further nodes p.
pub record Tested (o k : ℕ) (ws : List ℕ) (x y : ℕ) (s : Sign) (a b u : ℕ) (p : List ℕ) : Type 0 where
  pub some : 0 < a
  pub sizes : a + b ≡ suc (length p)
  pub sign : goes_with s b ≡ true
  pub start : u ≡ x
  pub end : last_of u p ≡ y
  pub steps : all_steps o k ws a 0 u p ≡ true

itself : (b : Bool) → Decides b (b ≡ true)
itself b = (λ e. e, λ e. e)

-- The test passes exactly if all that it asks holds.
pub passes_tested : (o k : ℕ) (ws : List ℕ) (x y : ℕ) (s : Sign) (a b u : ℕ) (p : List ℕ) → Decides (passes o k ws x y s (a ∷ b ∷ u ∷ p)) (Tested o k ws x y s a b u p)
unfolding passes
passes_tested o k ws x y s a b u p =
    decides_same _
    (decides_both (ltb 0 a) _ (decides_below 0 a) (decides_both (eqb (a + b) (suc (length p))) _ (decides_equal (a + b) (suc (length p)))
    (decides_both (goes_with s b) _ (itself (goes_with s b)) (decides_both (eqb u x) _ (decides_equal u x)
    (decides_both (eqb (last_of u p) y) _ (decides_equal (last_of u p) y) (itself (all_steps o k ws a 0 u p)))))))
    (λ q. let (c, (d, (e, (f, (g, h))))) = q in record { some = c; sizes = d; sign = e; start = f; end = g; steps = h })
    (λ q. (q.some, (q.sizes, (q.sign, (q.start, (q.end, q.steps))))))

module _ (o k : ℕ) (ws : List ℕ) (x y : ℕ) where
  -- the nodes of a list whose sizes fit, cut at the end of the first part
  cut : (s : Sign) (a b u : ℕ) (p : List ℕ) → Tested o k ws x y s a b u p → (xs : List ℕ) × (ys : List ℕ) × (◌≡◌ {A = List ℕ} (a ∷ b ∷ u ∷ p) (written x xs ys))
  cut s a b u p q =
      let v = q.start in
      let m : length (drop (a - 1) p) ≡ b = omega (arith, length-drop (a - 1) p, q.sizes, q.some) in
      let c : a ≡ suc (length (take (a - 1) p)) = omega (arith, length-take-le (a - 1) p (omega (arith, q.sizes, q.some)), q.some) in
      let d : p ≡ take (a - 1) p ++ drop (a - 1) p = sym (take-append-drop (a - 1) p) in
      (take (a - 1) p, drop (a - 1) p, cc)

  -- A list passes only if it is a path as it is written.
  pub passes_form : (s : Sign) (l : List ℕ) → passes o k ws x y s l ≡ true → (xs : List ℕ) × (ys : List ℕ) × (l ≡ written x xs ys)
  unfolding passes
  passes_form s [] e = absurd (false≢true e)
  passes_form s (a ∷ []) e = absurd (false≢true e)
  passes_form s (a ∷ b ∷ []) e = absurd (false≢true e)
  passes_form s (a ∷ b ∷ u ∷ p) e = cut s a b u p ((passes_tested o k ws x y s a b u p).0 e)

  tested_shows : (s : Sign) (xs ys : List ℕ) → Kind o k y → Tested o k ws x y s (suc (length xs)) (length ys) x (xs ++ ys) → Shows o k (Links ws) x xs ys y s
  tested_shows is xs [] h q = (((all_steps_exactly o k ws (suc (length xs)) 0 x xs [] (omega arith)).0 q.steps).0, sym (last_first x xs) ∙ q.end, h)
  tested_shows is xs (z ∷ zs) h q = let e : suc (length zs) ≡ 0 = eqb-true (suc (length zs)) 0 q.sign in absurd (omega arith)
  tested_shows isnt xs [] h q = let e : 0 < 0 = ltb-true 0 0 q.sign in absurd (omega arith)
  tested_shows isnt xs (z ∷ zs) h q =
      let (f, (c, g)) = (all_steps_exactly o k ws (suc (length xs)) 0 x xs (z ∷ zs) (omega arith)).0 q.steps in
      (f, c, g, sym (last_second x xs z zs) ∙ q.end, h)

  shows_tested : (s : Sign) (xs ys : List ℕ) → Shows o k (Links ws) x xs ys y s → Tested o k ws x y s (suc (length xs)) (length ys) x (xs ++ ys)
  shows_tested is xs [] p = record {
    some = omega arith;
    sizes = omega (arith, length-append xs []);
    sign = refl;
    start = refl;
    end = last_first x xs ∙ p.1;
    steps = (all_steps_exactly o k ws (suc (length xs)) 0 x xs [] (omega arith)).1 (p.0, tt);
  }
  shows_tested is xs (z ∷ zs) p = absurd p
  shows_tested isnt xs [] p = absurd p
  shows_tested isnt xs (z ∷ zs) p = record {
    some = omega arith;
    sizes = omega (arith, length-append xs (z ∷ zs));
    sign = lt-ltb 0 (suc (length zs)) (omega arith);
    start = refl;
    end = last_second x xs z zs ∙ p.3;
    steps = (all_steps_exactly o k ws (suc (length xs)) 0 x xs (z ∷ zs) (omega arith)).1 (p.0, (p.1, p.2));
  }

  -- A written path passes exactly if it shows the statement.
  pub passes_written : (s : Sign) (xs ys : List ℕ) → Kind o k y → Decides (passes o k ws x y s (written x xs ys)) (Shows o k (Links ws) x xs ys y s)
  passes_written s xs ys h = decides_same _ (passes_tested o k ws x y s (suc (length xs)) (length ys) x (xs ++ ys)) (tested_shows s xs ys h) (shows_tested s xs ys)

  -- The check says yes exactly if the list is a path that shows the statement.
  pub passes_exactly : (s : Sign) (l : List ℕ) → Kind o k y → (passes o k ws x y s l ≡ true) ↔ Passes o k ws x y s l
  passes_exactly s l h = (there, back)
    where
      there : passes o k ws x y s l ≡ true → Passes o k ws x y s l
      there e = let (xs, ys, f) = passes_form s l e in record { first = xs; second = ys; form = f; shows = (passes_written s xs ys h).0 (rw f at e) }

      back : Passes o k ws x y s l → passes o k ws x y s l ≡ true
      back p = rw p.form ((passes_written s p.first p.second h).1 p.shows)

  -- What passes is supported.
  pub passes_supported : (s : Sign) (l : List ℕ) → LegalWords o k ws → Passes o k ws x y s l → Supported o k (Links ws) x y s
  passes_supported s l h p = (lemma1 o k (Links ws) (legal_links o k ws h) x y s).1 (p.first, p.second, p.shows)

-- A reason passes.
pub reason_passes : (o k : ℕ) (ws : List ℕ) → Net o k ws → (x : ℕ) → x < o + k → (y : ℕ) → Kind o k y → (s : Sign) → get_or (distances (o + k) s ws y) x never < never
    → passes o k ws x y s (reason_list (o + k) x (reason_states (o + k) s ws x y)) ≡ true
reason_passes o k ws net x node y kind s h =
    let r = reason_shortest o k ws net x node y kind s h in
    rw r.list ((passes_written o k ws x y s r.xs r.ys kind).1 (strict_shows o k (Links ws) x y s r.xs r.ys kind r.shortest.path))
