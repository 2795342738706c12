-- The pairs that are counted, as an ascending list: so a count is the number of pairs that the test holds at.
use Prim.Native.Nat.{ℕ, zero, suc, ◌+◌, ◌*◌, ◌/◌, ◌%◌, ◌≤◌, ◌<◌}
use mathlib.Core.Path.{◌≡◌, refl, sym, ap, ◌∙◌}
use mathlib.Core.Bool.{Bool, true, false, cond}
use mathlib.Core.List.Memᴰ
use mathlib.Core.List.{List, [], ◌∷◌, ◌++◌, Memᴰ}
use mathlib.Core.Logic.{⊎_elim}
use native.Mathlib.Omega.{arith}
use native.Mathlib.Decide.{ℕ_discrete}
use lib.ListN.{length, length-append}
use Rattle.theory.specs.Completion.{Ascending}
use Rattle.theory.proofs.completion.Ascending.{ascending_append, ascending_same}
use Rattle.figures_counts.specs.Meaning.{Counted}
use Rattle.figures_counts.specs.Counting.{count, count_rows}

-- The pairs of x with j places from b on.
unfoldable pairs_of : ℕ → (ℕ → Bool) → ℕ → ℕ → List ℕ
pairs_of x f b zero = []
pairs_of x f b (suc j) = cond (f b) ((x * 1024 + b) ∷ []) [] ++ pairs_of x f (suc b) j

unfoldable pair_rows : (ℕ → ℕ → Bool) → ℕ → ℕ → ℕ → ℕ → List ℕ
pair_rows f o k x zero = []
pair_rows f o k x (suc j) = pairs_of x (f x) o k ++ pair_rows f o k (suc x) j

one_size : (p : Bool) (v : ℕ) (r : List ℕ) → length (cond p (v ∷ []) [] ++ r) ≡ cond p 1 0 + length r
one_size true v r = omega arith
one_size false v r = omega arith

row_size : (x : ℕ) (f : ℕ → Bool) (b j : ℕ) → length (pairs_of x f b j) ≡ count f b j
unfolding pairs_of count
row_size x f b zero = refl
row_size x f b (suc j) = one_size (f b) (x * 1024 + b) (pairs_of x f (suc b) j) ∙ ap (λ (i : ℕ). cond (f b) 1 0 + i) (row_size x f (suc b) j)

rows_size_lem : (f : ℕ → ℕ → Bool) (o k x j : ℕ) → length (pair_rows f o k x j) ≡ count_rows f o k x j
unfolding pair_rows count_rows
rows_size_lem f o k x zero = refl
rows_size_lem f o k x (suc j) =
    let a = row_size x (f x) o k in
    let b = rows_size_lem f o k (suc x) j in
    length-append (pairs_of x (f x) o k) (pair_rows f o k (suc x) j) ∙ omega (arith, a, b)

-- ── one row ──
record InRow (x : ℕ) (f : ℕ → Bool) (b j v : ℕ) : Type 0 where
  node : v / 1024 ≡ x
  low : b ≤ v % 1024
  high : v % 1024 < b + j
  has : f (v % 1024) ≡ true

one_of : (x b v : ℕ) (p : Bool) → Memᴰ v (cond p ((x * 1024 + b) ∷ []) []) → (v ≡ x * 1024 + b) × (p ≡ true)
one_of x b v true m = (⊎_elim (λ e. e) (λ n. elim n [ ]) (Memᴰ.cases_cons m), refl)
one_of x b v false m = elim m [ ]

in_row : (x : ℕ) (f : ℕ → Bool) (b j v : ℕ) → b + j ≤ 1024 → Memᴰ v (pairs_of x f b j) → InRow x f b j v
unfolding pairs_of
in_row x f b zero v h m = elim m [ ]
in_row x f b (suc j) v h m = ⊎_elim
    (λ a.
    let r = one_of x b v (f b) a in
    let e : v % 1024 ≡ b = omega (arith, r.0) in
    record { node = omega (arith, r.0); low = omega (arith, e); high = omega (arith, e); has = ap f e ∙ r.1 })
    (λ a. let r = in_row x f (suc b) j v (omega arith) a in record { node = r.node; low = omega (arith, r.low); high = omega (arith, r.high); has = r.has })
    (Memᴰ.append_cases (cond (f b) ((x * 1024 + b) ∷ []) []) m)

on_row : (x : ℕ) (f : ℕ → Bool) (b j v : ℕ) → InRow x f b j v → Memᴰ v (pairs_of x f b j)
unfolding pairs_of
on_row x f b zero v r = absurd (omega (arith, r.low, r.high))
on_row x f b (suc j) v r = pick (ℕ_discrete (v % 1024) b) (λ n. on_row x f (suc b) j v (record { node = r.node; low = omega (arith, r.low); high = omega (arith, r.high); has = r.has }))
  where
    pick : Dec (v % 1024 ≡ b) → ((v % 1024 ≡ b → ⊥) → Memᴰ v (pairs_of x f (suc b) j)) → Memᴰ v (cond (f b) ((x * 1024 + b) ∷ []) [] ++ pairs_of x f (suc b) j)
    pick (yes e) g =
        let p : f b ≡ true = ap f (sym e) ∙ r.has in
        let q : v ≡ x * 1024 + b = omega (arith, e, r.node) in
        Memᴰ.append_left {s = cond (f b) ((x * 1024 + b) ∷ []) []} (pairs_of x f (suc b) j) (rw p (Memᴰ.head q))
    pick (no n) g = Memᴰ.append_right (cond (f b) ((x * 1024 + b) ∷ []) []) (g n)

one_ascending : (p : Bool) (v : ℕ) → Ascending v (cond p (v ∷ []) [])
one_ascending true v = (omega arith, tt)
one_ascending false v = tt

row_ascending : (x : ℕ) (f : ℕ → Bool) (b j : ℕ) → Ascending (x * 1024 + b) (pairs_of x f b j)
unfolding pairs_of
row_ascending x f b zero = tt
row_ascending x f b (suc j) =
    ascending_append (x * 1024 + b) (x * 1024 + suc b) (cond (f b) ((x * 1024 + b) ∷ []) []) (pairs_of x f (suc b) j) (one_ascending (f b) (x * 1024 + b))
    (λ v m. omega (arith, (one_of x b v (f b) m).0)) (row_ascending x f (suc b) j) (omega arith)

-- ── all rows ──
module _ (f : ℕ → ℕ → Bool) (o k : ℕ) (small : o + k ≤ 1024) where
  record InRows (x j v : ℕ) : Type 0 where
    first : x ≤ v / 1024
    last : v / 1024 < x + j
    row : InRow (v / 1024) (f (v / 1024)) o k v

  in_rows : (x j v : ℕ) → Memᴰ v (pair_rows f o k x j) → InRows x j v
  unfolding pair_rows
  in_rows x zero v m = elim m [ ]
  in_rows x (suc j) v m = ⊎_elim
      (λ a.
      let r = in_row x (f x) o k v small a in
      let e = r.node in
      record { first = omega (arith, e); last = omega (arith, e); row = record { node = refl; low = r.low; high = r.high; has = ap (λ (u : ℕ). f u (v % 1024)) e ∙ r.has } })
      (λ a. let r = in_rows (suc x) j v a in record { first = omega (arith, r.first); last = omega (arith, r.last); row = r.row })
      (Memᴰ.append_cases (pairs_of x (f x) o k) m)

  on_rows : (x j v : ℕ) → InRows x j v → Memᴰ v (pair_rows f o k x j)
  unfolding pair_rows
  on_rows x zero v r = absurd (omega (arith, r.first, r.last))
  on_rows x (suc j) v r = pick (ℕ_discrete (v / 1024) x) (λ n. on_rows (suc x) j v (record { first = omega (arith, r.first); last = omega (arith, r.last); row = r.row }))
    where
      pick : Dec (v / 1024 ≡ x) → ((v / 1024 ≡ x → ⊥) → Memᴰ v (pair_rows f o k (suc x) j)) → Memᴰ v (pairs_of x (f x) o k ++ pair_rows f o k (suc x) j)
      pick (yes e) g =
          Memᴰ.append_left (pair_rows f o k (suc x) j)
          (on_row x (f x) o k v (record { node = e; low = r.row.low; high = r.row.high; has = ap (λ (u : ℕ). f u (v % 1024)) (sym e) ∙ r.row.has }))
      pick (no n) g = Memᴰ.append_right (pairs_of x (f x) o k) (g n)

  rows_ascending : (x j : ℕ) → Ascending (x * 1024) (pair_rows f o k x j)
  unfolding pair_rows
  rows_ascending x zero = tt
  rows_ascending x (suc j) =
      ascending_append (x * 1024) (suc x * 1024) (pairs_of x (f x) o k) (pair_rows f o k (suc x) j)
      (from (row_ascending x (f x) o k))
      (λ v m. let r = in_row x (f x) o k v small m in omega (arith, r.node)) (rows_ascending (suc x) j) (omega arith)
    where
      from : Ascending (x * 1024 + o) (pairs_of x (f x) o k) → Ascending (x * 1024) (pairs_of x (f x) o k)
      from a = ascending_append (x * 1024) (x * 1024 + o) [] (pairs_of x (f x) o k) tt (λ v m. elim m [ ]) a (omega arith)

  -- Where the test at the pairs of these rows decides P, and P holds at no others, the count is the number of pairs that have P.
  pub rows_counted : (P : ℕ → ℕ → Type 0) (x j : ℕ)
      → ((u v : ℕ) → x ≤ u → u < x + j → o ≤ v → v < o + k → f u v ≡ true → P u v)
      → ((u v : ℕ) → P u v → (x ≤ u) × (u < x + j) × (o ≤ v) × (v < o + k) × (f u v ≡ true))
      → Counted P (count_rows f o k x j)
  rows_counted P x j to from = record {
    pairs = pair_rows f o k x j;
    ascending = ascending_append 0 (x * 1024) [] (pair_rows f o k x j) tt (λ v m. elim m [ ]) (rows_ascending x j) (omega arith);
    exact = λ v. (
      (λ m. let r = in_rows x j v m in to (v / 1024) (v % 1024) r.first r.last r.row.low r.row.high r.row.has),
      λ p. let r = from (v / 1024) (v % 1024) p in on_rows x j v (record { first = r.0; last = r.1; row = record { node = refl; low = r.2; high = r.3; has = r.4 } }),
    );
    size = sym (rows_size_lem f o k x j);
  }

-- No second number of pairs.
pub counted_unique : (P : ℕ → ℕ → Type 0) (n m : ℕ) → Counted P n → Counted P m → n ≡ m
counted_unique P n m a b =
    a.size ∙ ap length (ascending_same 0 a.pairs b.pairs a.ascending b.ascending (λ v i. (b.exact v).1 ((a.exact v).0 i)) (λ v i. (a.exact v).1 ((b.exact v).0 i)))
    ∙ sym b.size

-- The same of a property that holds at the same pairs.
pub counted_as : (P Q : ℕ → ℕ → Type 0) (n : ℕ) → ((x y : ℕ) → P x y → Q x y) → ((x y : ℕ) → Q x y → P x y) → Counted P n → Counted Q n
counted_as P Q n f g c = record {
  pairs = c.pairs;
  ascending = c.ascending;
  exact = λ v. ((λ m. f (v / 1024) (v % 1024) ((c.exact v).0 m)), λ q. (c.exact v).1 (g (v / 1024) (v % 1024) q));
  size = c.size;
}
