-- What is true of a mended net: it has no clash, a dropped word put back makes one, and a net without clashes is kept as it is.
use Prim.Native.Nat.{ℕ, ◌+◌, ◌*◌}
use mathlib.Core.Path.{◌≡◌, refl, subst, sym, ◌∙◌, ap}
use mathlib.Core.List.Memᴰ
use mathlib.Core.List.{List, [], ◌∷◌, ◌++◌, append_assoc, append-nil, Memᴰ}
use mathlib.Core.Logic.{inl, inr, ⊎_elim}
use native.Mathlib.Omega.{arith}
use lib.ListN.{length, get_or, drop, length-append}
use Rattle.theory.specs.Nets.{Links, AllIn, LegalWords}
use Rattle.theory.specs.Paths.{Crossing}
use Rattle.theory.specs.Clashes.{ClashAt, ClashFree}
use Rattle.theory.specs.Mending.{DroppedWord, dropped_at, threes, Mended, PartOf, no_words, takes, skips, Rejected, kept_from, dropped_from}
use Rattle.theory.proofs.support.Joining.{monotone}
use Rattle.theory.proofs.origins.Statements.{among_links}
use Rattle.theory.proofs.mending.Torn.{clash_torn}
use Rattle.theory.proofs.mending.Computing.{mending_computed}

-- A part of a list has its words.
pub part_among : (out ws : List ℕ) → PartOf out ws → AllIn out ws
part_among out ws no_words v m = m
part_among out ws (takes {w = w} {out = rest} {ws = vs} p) v m = ⊎_elim (λ e. Memᴰ.head e) (λ n. Memᴰ.tail (part_among rest vs p v n)) (Memᴰ.cases_cons m)
part_among out ws (skips {w = w} {out = rest} {ws = vs} p) v m = Memᴰ.tail (part_among rest vs p v m)

pub length_threes : (ds : List DroppedWord) → length (threes ds) ≡ 3 * length ds
unfolding threes
length_threes [] = refl
length_threes (d ∷ ds) = omega (arith, length_threes ds)

-- The dropped words as they are written tell which they are.
pub threes_one_to_one : (ds es : List DroppedWord) → threes ds ≡ threes es → ds ≡ es
unfolding threes
threes_one_to_one [] [] h = refl
threes_one_to_one [] (e ∷ es) h = let n = ap length h in absurd (omega arith)
threes_one_to_one (d ∷ ds) [] h = let n = ap length h in absurd (omega arith)
threes_one_to_one (d ∷ ds) (e ∷ es) h =
    let word = ap (λ (l : List ℕ). get_or l 0 0) h in
    let node = ap (λ (l : List ℕ). get_or l 1 0) h in
    let kind = ap (λ (l : List ℕ). get_or l 2 0) h in
    let rest = threes_one_to_one ds es (ap (drop 3) h) in
    λ i. dropped_at (word i) (node i) (kind i) ∷ rest i

module _ (o k : ℕ) where
  -- A clash stays where words are added.
  pub clash_more : (ws vs : List ℕ) → AllIn ws vs → (x y : ℕ) → ClashAt o k ws x y → ClashAt o k vs x y
  clash_more ws vs f x y c =
      let up = monotone o k (Links ws) (Links vs) (among_links ws vs f) in
      record { node = c.node; kind = c.kind; is_yes = up _ _ _ c.is_yes; is_no = up _ _ _ c.is_no }

  pub free_fewer : (ws vs : List ℕ) → AllIn ws vs → ClashFree o k vs → ClashFree o k ws
  free_fewer ws vs f h x y c = h x y (clash_more ws vs f x y c)

  -- A net without links has no clash.
  pub free_none : ClashFree o k []
  free_none x y c = no_crossing (clash_torn o k [] (λ w m. elim m [ ]) x y c).cross
    where
      no_crossing : {u v : ℕ} → Crossing (Links []) u v → ⊥
      no_crossing (inl l) = elim l.listed [ ]
      no_crossing (inr l) = elim l.listed [ ]

  among_append : (kept ws vs : List ℕ) → AllIn kept vs → AllIn ws vs → AllIn (kept ++ ws) vs
  among_append kept ws vs f g w m = ⊎_elim (f w) (g w) (Memᴰ.append_cases kept m)

  module _ (out : List ℕ) where
    -- Behind what is kept so far stands a part of the words to come, in their order.
    pub record Behind (kept ws : List ℕ) : Type 0 where
      pub rest : List ℕ
      pub whole : out ≡ kept ++ rest
      pub part : PartOf rest ws

    pub kept_behind : (kept ws : List ℕ) (ds : List DroppedWord) → Mended o k kept ws out ds → Behind kept ws
    kept_behind kept [] ds m = record { rest = []; whole = m.0 ∙ sym (append-nil kept); part = no_words }
    kept_behind kept (w ∷ ws) ds (inl m) =
        let b = kept_behind (kept ++ w ∷ []) ws ds m.1 in
        record { rest = w ∷ b.rest; whole = b.whole ∙ append_assoc kept (w ∷ []) b.rest; part = takes b.part }
    kept_behind kept (w ∷ ws) ds (inr (x, y, r, s, e, m)) =
        let b = kept_behind kept ws r m in
        record { rest = b.rest; whole = b.whole; part = skips b.part }

    -- The kept net has no clash.
    pub kept_free : (kept ws : List ℕ) (ds : List DroppedWord) → ClashFree o k kept → Mended o k kept ws out ds → ClashFree o k out
    kept_free kept [] ds f m = subst (ClashFree o k) (sym m.0) f
    kept_free kept (w ∷ ws) ds f (inl m) = kept_free (kept ++ w ∷ []) ws ds m.0 m.1
    kept_free kept (w ∷ ws) ds f (inr (x, y, r, s, e, m)) = kept_free kept ws r f m

    -- A dropped word has the smallest clash that it makes with the words kept before it.
    pub dropped_rejected : (kept ws : List ℕ) (ds : List DroppedWord) → Mended o k kept ws out ds → (d : DroppedWord) → Memᴰ d ds → Rejected o k out d
    dropped_rejected kept [] ds m d h = elim (subst (Memᴰ d) m.1 h) [ ]
    dropped_rejected kept (w ∷ ws) ds (inl m) d h = dropped_rejected (kept ++ w ∷ []) ws ds m.1 d h
    dropped_rejected kept (w ∷ ws) ds (inr (x, y, r, s, e, m)) d h = ⊎_elim
        (λ i. let b = kept_behind kept ws r m in subst (Rejected o k out) (sym i) (record { before = kept; rest = b.rest; whole = b.whole; clash = s }))
        (dropped_rejected kept ws r m d)
        (Memᴰ.cases_cons (subst (Memᴰ d) e h))

    -- So it makes a clash there with all words kept.
    pub rejected_clash : (d : DroppedWord) → Rejected o k out d → ClashAt o k (out ++ d.word ∷ []) d.node d.kind
    rejected_clash d r =
        clash_more (r.before ++ d.word ∷ []) (out ++ d.word ∷ [])
        (among_append r.before (d.word ∷ []) (out ++ d.word ∷ [])
        (λ v m. Memᴰ.append_left (d.word ∷ []) (subst (Memᴰ v) (sym r.whole) (Memᴰ.append_left r.rest m)))
        (λ v m. Memᴰ.append_right out m))
        d.node d.kind r.clash.clash

    -- Where the words have no clash nothing is dropped.
    pub free_unchanged : (kept ws : List ℕ) (ds : List DroppedWord) → ClashFree o k (kept ++ ws) → Mended o k kept ws out ds → (out ≡ kept ++ ws) × (ds ≡ [])
    free_unchanged kept [] ds f m = (m.0 ∙ sym (append-nil kept), m.1)
    free_unchanged kept (w ∷ ws) ds f (inl m) =
        let e : (kept ++ w ∷ []) ++ ws ≡ kept ++ w ∷ ws = append_assoc kept (w ∷ []) ws in
        let r = free_unchanged (kept ++ w ∷ []) ws ds (rw e f) m.1 in
        (r.0 ∙ e, r.1)
    free_unchanged kept (w ∷ ws) ds f (inr (x, y, r, s, e, m)) =
        absurd (free_fewer (kept ++ w ∷ []) (kept ++ w ∷ ws)
        (among_append kept (w ∷ []) (kept ++ w ∷ ws) (λ v h. Memᴰ.append_left (w ∷ ws) h)
        (λ v h. Memᴰ.append_right kept (⊎_elim (λ i. Memᴰ.head i) (λ z. elim z [ ]) (Memᴰ.cases_cons h))))
        f x y s.clash)

    -- Every word is kept or dropped.
    pub all_told : (kept ws : List ℕ) (ds : List DroppedWord) → Mended o k kept ws out ds → length out + length ds ≡ length kept + length ws
    all_told kept [] ds m = let a = ap length m.0 in let b = ap (λ (l : List DroppedWord). length l) m.1 in omega arith
    all_told kept (w ∷ ws) ds (inl m) = omega (arith, all_told (kept ++ w ∷ []) ws ds m.1, length-append kept (w ∷ []))
    all_told kept (w ∷ ws) ds (inr (x, y, r, s, e, m)) = let b = ap (λ (l : List DroppedWord). length l) e in omega (arith, all_told kept ws r m)

  -- The computed mending of legal words.
  pub mending_mended : (ws : List ℕ) → LegalWords o k ws → Mended o k [] ws (kept_from o k [] ws) (dropped_from o k [] ws)
  mending_mended ws legal = mending_computed o k [] ws (λ w m. elim m [ ]) legal free_none
