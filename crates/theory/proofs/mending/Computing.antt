-- The computed mending is the one that the relation describes, and there is no other.
use Prim.Native.Nat.{ℕ, ◌+◌, ◌≤◌, ◌<◌}
use mathlib.Core.Path.{◌≡◌, refl, sym, ◌∙◌}
use mathlib.Core.Bool.{Bool, true, false, cond}
use mathlib.Core.List.Memᴰ
use mathlib.Core.List.{List, [], ◌∷◌, ◌++◌}
use mathlib.Core.Logic.{inl, inr, ⊎_elim}
use native.Mathlib.Omega.{arith}
use native.Mathlib.Decide.{dec_lt}
use borrow.Author.Tests.{ltb-true, ltb-false}
use Rattle.theory.specs.Nets.{Kind, LegalWords}
use Rattle.theory.specs.Marks.{T, F, U, scan_start}
use Rattle.theory.specs.Clashes.{ClashAt, SmallestClash, ClashFree}
use Rattle.theory.specs.Mending.{DroppedWord, dropped_at, Mended, link_start, settled_marks, clashing_node, clashing_kind, rejects, rejected, kept_from, dropped_from}
use Rattle.theory.proofs.mending.Testing.{link_clashes, kind_clashes}
use Rattle.theory.proofs.mending.Searching.{FirstFound, first_found}

-- Legal words with one more.
pub legal_more : (o k : ℕ) (ws vs : List ℕ) (w : ℕ) → LegalWords o k ws → LegalWords o k (w ∷ vs) → LegalWords o k (ws ++ w ∷ [])
legal_more o k ws vs w l h v m = ⊎_elim (l v)
    (λ n. ⊎_elim (λ e. h v (Memᴰ.head e)) (λ z. elim z [ ]) (Memᴰ.cases_cons n))
    (Memᴰ.append_cases ws m)

module _ (o k : ℕ) (ws : List ℕ) (w : ℕ) (legal : LegalWords o k (ws ++ w ∷ [])) (free : ClashFree o k ws) where
  abbrev vs : List ℕ
  vs = ws ++ w ∷ []

  abbrev x : ℕ
  x = clashing_node (o + k) vs w

  nodes : FirstFound T F (settled_marks (o + k) vs (link_start (o + k) w)) 0 (o + k) x
  nodes = first_found T F (settled_marks (o + k) vs (link_start (o + k) w)) 0 (o + k)

  -- No node found means no clash.
  pub none_found : o + k ≤ x → ClashFree o k vs
  none_found h u v c =
      let b = (link_clashes o k ws w legal free u).1 (v, c) in
      nodes.before u (omega arith) (omega (arith, c.node)) b.0 b.1

  -- A node found, with the first kind found there, is the smallest clash.
  module _ (h : x < o + k) where
    abbrev K : List ℕ
    K = settled_marks (o + k) vs (scan_start (o + k) x)

    abbrev y : ℕ
    y = clashing_kind o k vs x

    kinds : FirstFound U F K o k y
    kinds = first_found U F K o k

    some : (v : ℕ) × ClashAt o k vs x v
    some = (link_clashes o k ws w legal free x).0 (nodes.here (omega arith))

    -- No clash of x stands before y.
    least : (v : ℕ) → ClashAt o k vs x v → y ≤ v
    least v c = at (dec_lt v y)
      where
        at : Dec (v < y) → y ≤ v
        at (yes l) = let b = (kind_clashes o k vs legal x h v c.kind).1 c in absurd (kinds.before v c.kind.low l b.0 b.1)
        at (no l) = omega arith

    is_kind_lem : Kind o k y
    is_kind_lem = let (v, c) = some in record { low = kinds.low; high = omega (arith, least v c, c.kind.high) }

    pub some_found : SmallestClash o k vs x y
    some_found = record {
      clash = (kind_clashes o k vs legal x h y is_kind_lem).0 (kinds.here is_kind_lem.high);
      node = λ u v c. first u v c (dec_lt u x);
      kind = least;
    }
      where
        first : (u v : ℕ) → ClashAt o k vs u v → Dec (u < x) → x ≤ u
        first u v c (yes l) = let b = (link_clashes o k ws w legal free u).1 (v, c) in absurd (nodes.before u (omega arith) l b.0 b.1)
        first u v c (no l) = omega arith

module _ (o k : ℕ) where
  pub mending_computed : (kept ws : List ℕ) → LegalWords o k kept → LegalWords o k ws → ClashFree o k kept → Mended o k kept ws (kept_from o k kept ws) (dropped_from o k kept ws)
  unfolding kept_from dropped_from
  mending_computed kept [] l h f = (refl, refl)
  mending_computed kept (w ∷ ws) l h f =
      at (rejects o k kept w) refl (λ g. mending_computed (kept ++ w ∷ []) ws more rest g) (mending_computed kept ws l rest f)
    where
      more : LegalWords o k (kept ++ w ∷ [])
      more = legal_more o k kept ws w l h

      rest : LegalWords o k ws
      rest v m = h v (Memᴰ.tail m)

      at : (q : Bool) → rejects o k kept w ≡ q
          → (ClashFree o k (kept ++ w ∷ []) → Mended o k (kept ++ w ∷ []) ws (kept_from o k (kept ++ w ∷ []) ws) (dropped_from o k (kept ++ w ∷ []) ws))
          → Mended o k kept ws (kept_from o k kept ws) (dropped_from o k kept ws)
          → Mended o k kept (w ∷ ws) (cond q (kept_from o k kept ws) (kept_from o k (kept ++ w ∷ []) ws)) (cond q (rejected o k kept w ∷ dropped_from o k kept ws) (dropped_from o k (kept ++ w ∷ []) ws))
      at false e g r = let free = none_found o k kept w more f (ltb-false (clashing_node (o + k) (kept ++ w ∷ []) w) (o + k) e) in inl (free, g free)
      at true e g r = inr (
        clashing_node (o + k) (kept ++ w ∷ []) w,
        clashing_kind o k (kept ++ w ∷ []) (clashing_node (o + k) (kept ++ w ∷ []) w),
        dropped_from o k kept ws,
        some_found o k kept w more f (ltb-true (clashing_node (o + k) (kept ++ w ∷ []) w) (o + k) e),
        refl,
        r,
      )

  -- There is one smallest clash at most.
  pub smallest_unique : (ws : List ℕ) (x y u v : ℕ) → SmallestClash o k ws x y → SmallestClash o k ws u v → (x ≡ u) × (y ≡ v)
  smallest_unique ws x y u v a b =
      let e : x ≡ u = omega (arith, a.node u v b.clash, b.node x y a.clash) in
      let i : y ≤ v = a.kind v (rw e b.clash) in
      let j : v ≤ y = b.kind y (rw e at a.clash) in
      (e, omega arith)

  -- The relation has one outcome.
  pub mended_unique : (kept ws out out' : List ℕ) (ds ds' : List DroppedWord) → Mended o k kept ws out ds → Mended o k kept ws out' ds' → (out ≡ out') × (ds ≡ ds')
  mended_unique kept [] out out' ds ds' a b = (a.0 ∙ sym b.0, a.1 ∙ sym b.1)
  mended_unique kept (w ∷ ws) out out' ds ds' (inl a) (inl b) = mended_unique (kept ++ w ∷ []) ws out out' ds ds' a.1 b.1
  mended_unique kept (w ∷ ws) out out' ds ds' (inl a) (inr (x, y, r, s, e, m)) = absurd (a.0 x y s.clash)
  mended_unique kept (w ∷ ws) out out' ds ds' (inr (x, y, r, s, e, m)) (inl b) = absurd (b.0 x y s.clash)
  mended_unique kept (w ∷ ws) out out' ds ds' (inr (x, y, r, s, e, m)) (inr (x', y', r', s', e', m')) =
      let t = mended_unique kept ws out out' r r' m m' in
      let z = smallest_unique (kept ++ w ∷ []) x y x' y' s s' in
      let first : dropped_at w x y ≡ dropped_at w x' y' = λ i. dropped_at w (z.0 i) (z.1 i) in
      (t.0, e ∙ (λ i. first i ∷ t.1 i) ∙ sym e')
