-- The levels end: after as many levels as there are states each place is the distance to the end, or says that there is no way.
use Prim.Native.Nat.{ℕ, zero, suc, ◌+◌, ◌≤◌, ◌<◌}
use mathlib.Core.Path.{◌≡◌, refl, sym, ◌∙◌, ap}
use mathlib.Core.Bool.{Bool, true, false, cond}
use mathlib.Core.List.{List, [], ◌∷◌, Memᴰ}
use mathlib.Core.Logic.{◌⊎◌, inl, inr}
use native.Mathlib.Omega.{arith}
use native.Mathlib.Decide.{dec_lt, dec_le, ℕ_discrete}
use native.Mathlib.Nat.{not-suc-le-zero, le_of_suc-le-suc}
use lib.Dec.{eqb}
use lib.ListN.{length, get_or, set, length-set, replicate, length-replicate, get_or-replicate}
use lib.Seq.{get_or-set_same, get_or-set_other}
use borrow.Author.Tests.{eq-eqb, ne_eqb}
use Rattle.theory.specs.Reasons.{Route, Distance, reached, lost, never}
use Rattle.theory.specs.Searches.{Arc, arc, opens, level, levels}
use Rattle.theory.proofs.reason.Levels.{Among, PlaceAfter, known, unknown, PlacesAfter, stepped, opens_to, opens_from, step_length, level_length, level_places}

pub levels_length : (l : List Arc) (m t i : ℕ) → length (levels l m t i) ≡ m
unfolding levels
levels_length l m t zero = length-set (replicate m never) t 0 ∙ length-replicate m never
levels_length l m t (suc i) = level_length i l (levels l m t i) ∙ levels_length l m t i

-- How many places have a distance.
abbrev counted : ℕ → ℕ
counted v = cond (eqb v never) 0 1

abbrev count : List ℕ → ℕ
count [] = 0
count (v ∷ d) = counted v + count d

count_length : (d : List ℕ) → count d ≤ length d
count_length [] = omega arith
count_length (v ∷ d) = omega (arith, count_length d, at_most_one (eqb v never))
  where
    at_most_one : (x : Bool) → cond {A = ℕ} x 0 1 ≤ 1
    at_most_one true = omega arith
    at_most_one false = omega arith

count_set : (d : List ℕ) (a v : ℕ) → a < length d → get_or d a never ≡ never → (v ≡ never → ⊥) → count d < count (set d a v)
count_set [] a v h e n = absurd (not-suc-le-zero h)
count_set (x ∷ d) zero v h e n =
    let p : counted x ≡ 0 = rw (eq-eqb x never e) in
    let q : counted v ≡ 1 = rw (ne_eqb v never n) in omega arith
count_set (x ∷ d) (suc a) v h e n = omega (arith, count_set d a v (le_of_suc-le-suc h) e n)

-- The same places, or more of them with a distance.
abbrev Grow : List ℕ → List ℕ → Type 0
Grow c d = (c ≡ d) ⊎ (count c < count d)

grow_trans : {a b c : List ℕ} → Grow a b → Grow b c → Grow a c
grow_trans (inl e) (inl f) = inl (e ∙ f)
grow_trans (inl e) (inr g) = inr (rw e g)
grow_trans (inr e) (inl f) = inr (rw f at e)
grow_trans (inr e) (inr f) = inr (omega arith)

set_grow : (x : Bool) (d : List ℕ) (a v : ℕ) → a < length d → (v ≡ never → ⊥) → (x ≡ true → get_or d a never ≡ never) → Grow d (cond x (set d a v) d)
set_grow true d a v h n e = inr (count_set d a v h (e refl) n)
set_grow false d a v h n e = inl refl

cond_false : (x : Bool) (c d : List ℕ) → (x ≡ true → ⊥) → cond x c d ≡ d
cond_false true c d h = absurd (h refl)
cond_false false c d h = refl

module _ (l : List Arc) (m t : ℕ) (ht : t < m) (inside : (e : Arc) → Memᴰ e l → (e.from < m) × (e.to < m)) where
  abbrev Part : List Arc → Type 0
  Part k = (e : Arc) → Memᴰ e k → Memᴰ e l

  level_grow : (i : ℕ) → suc i < never → (k : List Arc) (d : List ℕ) → length d ≡ m → Part k → Grow d (level i k d)
  unfolding level
  level_grow i hi [] d le s = inl refl
  level_grow i hi (e ∷ k) d le s =
      grow_trans (set_grow (opens i e d) d e.from (suc i) (omega (arith, (inside e (s e (Memᴰ.head refl))).0)) (λ h. omega arith) (opens_from i e d))
      (level_grow i hi k (stepped i e d) (step_length i e d ∙ le) (λ f z. s f (Memᴰ.tail z)))

  start_places : PlacesAfter (Among l) t m 0 (levels l m t 0)
  unfolding levels
  start_places s h = pick (ℕ_discrete s t)
    where
      pick : Dec (s ≡ t) → PlaceAfter (Among l) t 0 s (get_or (set (replicate m never) t 0) s never)
      pick (yes e) =
          rw e (rw (get_or-set_same (replicate m never) t 0 never (omega (arith, length-replicate m never)))
          (known (omega arith) (record { way = ([], refl, refl); least = λ q r. omega arith })))
      pick (no e) = unknown (get_or-set_other (replicate m never) t s 0 never e ∙ get_or-replicate m s never never h) more
        where
          more : (q : List ℕ) → Route (Among l) t s q → 0 < length q
          more [] r = absurd (e r)
          more (b ∷ q) r = omega arith

  levels_places : (i : ℕ) → suc i < never → PlacesAfter (Among l) t m i (levels l m t i)
  unfolding levels
  levels_places zero h = start_places
  levels_places (suc i) h =
      level_places (Among l) t m i (omega arith) l (levels l m t i) (levels_length l m t i) (λ e z. (z, (inside e z).0, (inside e z).1)) (λ a b z. z) (levels_places i (omega arith))

  -- A level below j that adds nothing.
  record Quiet (j : ℕ) : Type 0 where
    at : ℕ
    below : at < j
    quiet : levels l m t (suc at) ≡ levels l m t at

  quiet_or_full : (j : ℕ) → suc j < never → Quiet j ⊎ (suc j ≤ count (levels l m t j))
  unfolding levels
  quiet_or_full zero h = inr (omega (arith, count_set (replicate m never) t 0 (omega (arith, length-replicate m never)) (get_or-replicate m t never never ht) (λ q. omega arith)))
  quiet_or_full (suc j) h = go (quiet_or_full j (omega arith)) (level_grow j (omega arith) l (levels l m t j) (levels_length l m t j) (λ e z. z))
    where
      go : Quiet j ⊎ (suc j ≤ count (levels l m t j)) → Grow (levels l m t j) (levels l m t (suc j)) → Quiet (suc j) ⊎ (suc (suc j) ≤ count (levels l m t (suc j)))
      go (inl q) g = inl (record { at = q.at; below = omega arith; quiet = q.quiet })
      go (inr f) (inl e) = inl (record { at = j; below = omega arith; quiet = sym e })
      go (inr f) (inr e) = inr (omega arith)

  some_quiet : suc m < never → Quiet m
  some_quiet room = go (quiet_or_full m room)
    where
      go : Quiet m ⊎ (suc m ≤ count (levels l m t m)) → Quiet m
      go (inl q) = q
      go (inr f) = absurd (omega (arith, count_length (levels l m t m), levels_length l m t m))

  -- once nothing new is found, what is open has no way
  module _ (i : ℕ) (hi : suc (suc i) < never) (d : List ℕ) (a : PlacesAfter (Among l) t m i d) (b : PlacesAfter (Among l) t m (suc i) d) where
    too_far : (s v : ℕ) → v ≡ never → PlaceAfter (Among l) t (suc i) s v → (q : List ℕ) → Route (Among l) t s q → suc i < length q
    too_far s v e (known h w) = absurd (omega arith)
    too_far s v e (unknown h f) = f

    no_way : (q : List ℕ) (s : ℕ) → s < m → Route (Among l) t s q → get_or d s never ≡ never → ⊥
    no_way [] s h r e = omega (arith, too_far s _ e (b s h) [] r)
    no_way (c ∷ q) s h r e = step (get_or d c never) (λ f. no_way q c (inside (arc s c) r.0).1 r.1 f) (a c (inside (arc s c) r.0).1)
      where
        step : (v : ℕ) → (v ≡ never → ⊥) → PlaceAfter (Among l) t i c v → ⊥
        step v k (known u w) = omega (arith, too_far s _ e (b s h) (c ∷ w.way.0) (r.0, w.way.1), w.way.2)
        step v k (unknown u w) = k u

    quiet_right : (s : ℕ) → s < m → Distance (Among l) t s (get_or d s never) × ((get_or d s never ≤ i) ⊎ (get_or d s never ≡ never))
    quiet_right s h = go (get_or d s never) refl (a s h)
      where
        go : (v : ℕ) → get_or d s never ≡ v → PlaceAfter (Among l) t i s v → Distance (Among l) t s v × ((v ≤ i) ⊎ (v ≡ never))
        go v e (known u w) = (reached (omega arith) w.way.0 w.way.1 w.way.2 w.least, inl u)
        go v e (unknown u w) = (lost u (λ q r. no_way q s h r (e ∙ u)), inr u)

  -- a level that no state is at adds nothing
  idle : (i : ℕ) (k : List Arc) (d : List ℕ) → Part k → ((b : ℕ) → b < m → get_or d b never ≡ i → ⊥) → level i k d ≡ d
  unfolding level
  idle i [] d s h = refl
  idle i (e ∷ k) d s h =
      let q : stepped i e d ≡ d = cond_false (opens i e d) _ _ (λ x. h e.to (inside e (s e (Memᴰ.head refl))).1 (opens_to i e d x)) in
      ap (level i k) q ∙ idle i k d (λ f x. s f (Memᴰ.tail x)) h

  none_at : (i j : ℕ) → i < j → j < never → (d : List ℕ) → PlacesAfter (Among l) t m i d → (b : ℕ) → b < m → get_or d b never ≡ j → ⊥
  none_at i j hj hn d a b hb = go (get_or d b never) (a b hb)
    where
      go : (v : ℕ) → PlaceAfter (Among l) t i b v → v ≡ j → ⊥
      go v (known u w) e = omega arith
      go v (unknown u w) e = omega arith

  -- After a level that adds nothing no later one adds anything.
  pub quiet_stays : (i : ℕ) → levels l m t (suc i) ≡ levels l m t i → (j : ℕ) → i ≤ j → suc j < never → levels l m t j ≡ levels l m t i
  unfolding levels
  quiet_stays i q zero h hj = let e : i ≡ 0 = omega arith in rw e refl
  quiet_stays i q (suc j) h hj = pick (dec_lt i j) (dec_le i j) (λ g. quiet_stays i q j g (omega arith))
    where
      pick : Dec (i < j) → Dec (i ≤ j) → (i ≤ j → levels l m t j ≡ levels l m t i) → levels l m t (suc j) ≡ levels l m t i
      pick (yes g) d f = ap (level j l) (f (omega arith)) ∙ idle j l (levels l m t i) (λ e x. x) (none_at i j g (omega arith) (levels l m t i) (levels_places i (omega arith)))
      pick (no g) (yes k) f = let e : j ≡ i = omega arith in rw e q
      pick (no g) (no k) f = let e : suc j ≡ i = omega arith in ap (levels l m t) e

  -- After m levels the places of the m states are right, and each is below m or is `never`.
  pub levels_right : suc (suc m) < never → (s : ℕ) → s < m
      → Distance (Among l) t s (get_or (levels l m t m) s never) × ((get_or (levels l m t m) s never < m) ⊎ (get_or (levels l m t m) s never ≡ never))
  levels_right room s h = go (some_quiet (omega arith))
    where
      small : (v i : ℕ) → i < m → (v ≤ i) ⊎ (v ≡ never) → (v < m) ⊎ (v ≡ never)
      small v i hi (inl a) = inl (omega arith)
      small v i hi (inr a) = inr a

      go : Quiet m → Distance (Among l) t s (get_or (levels l m t m) s never) × ((get_or (levels l m t m) s never < m) ⊎ (get_or (levels l m t m) s never ≡ never))
      go q =
          let r = quiet_right q.at (omega arith) (levels l m t q.at) (levels_places q.at (omega arith)) (rw q.quiet at (levels_places (suc q.at) (omega arith))) s h in
          rw (quiet_stays q.at q.quiet m (omega arith) (omega arith)) (r.0, small _ q.at q.below r.1)
