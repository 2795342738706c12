-- What is true of a compacted list: it supports what the words did, it needs each of its words, and compacting it again changes nothing.
use Prim.Native.Nat.{ℕ, zero, suc, ◌≤◌, ◌<◌}
use mathlib.Core.Path.{◌≡◌, refl, subst, sym, ap, ◌∙◌}
use mathlib.Core.List.{List, [], ◌∷◌, Memᴰ}
use mathlib.Core.Logic.{inl, inr}
use native.Mathlib.Omega.{arith}
use native.Mathlib.Decide.{ℕ_discrete}
use lib.ListN.{length, get_or}
use Rattle.theory.specs.Words.{Sign, sign_of, sign_at}
use Rattle.theory.specs.Nets.{Links, AllIn, Net}
use Rattle.theory.specs.Support.{Supported, linked}
use Rattle.theory.specs.Completion.{Ascending, complete}
use Rattle.theory.specs.Sorting.{tidied}
use Rattle.theory.specs.Compaction.{without, Supports, Thinned, Compacted, Needed, compacted}
use Rattle.theory.proofs.support.Joining.{Sub, into, monotone}
use Rattle.theory.proofs.completion.Ascending.{sign_at_number, ascending_from}
use Rattle.theory.proofs.completion.Completing.{lists_unique, complete_lists}
use Rattle.theory.proofs.completion.Demand3.{lists_as}
use Rattle.theory.proofs.origins.Statements.{among_links}
use Rattle.theory.proofs.compaction.Repeats.{tidied_length}
use Rattle.theory.proofs.compaction.Places.{member_at, without_long, without_above, still_there, without_among, without_both}
use Rattle.theory.proofs.compaction.Thinning.{thin_thinned, compacted_unique, tidied_legal, compacted_compacted}

module _ (o k : ℕ) where
  among_supported : (ws vs : List ℕ) → AllIn ws vs → Sub (Supported o k (Links ws)) (Supported o k (Links vs))
  among_supported ws vs f = monotone o k (Links ws) (Links vs) (among_links ws vs f)

  -- ── what is supported stays so ──
  -- A word that the others support may go.
  may_go : (i : ℕ) (l : List ℕ) → i < length l → Supports o k (without i l) (get_or l i 0) → Sub (Supported o k (Links l)) (Supported o k (Links (without i l)))
  may_go i l h f = into o k (Links l) (Links (without i l)) (λ x y s p. at x y s p (member_at p.it l p.listed))
    where
      at : (x y : ℕ) (s : Sign) (p : Links l x y s) → (u : ℕ) × (u < length l) × (get_or l u 0 ≡ p.it) → Supported o k (Links (without i l)) x y s
      at x y s p (u, g, e) = pick (ℕ_discrete u i)
        where
          pick : Dec (u ≡ i) → Supported o k (Links (without i l)) x y s
          pick (yes z) =
              let q : get_or l i 0 ≡ p.it = rw z at e in
              let t : sign_of p.it ≡ s = ap sign_at p.sign ∙ sign_at_number s in
              rw (p.tail, p.head, t) at (rw q at f)
          pick (no z) = linked (record { it = p.it; listed = subst (λ (v : ℕ). Memᴰ v (without i l)) e (still_there i l h u g z); tail = p.tail; head = p.head; sign = p.sign })

  thinned_among : (i : ℕ) (l out : List ℕ) → i ≤ length l → Thinned o k i l out → AllIn out l
  thinned_among zero l out h t w m = subst (Memᴰ w) t m
  thinned_among (suc i) l out h (inl t) w m = without_among i l h w (thinned_among i (without i l) out (omega (arith, without_long i l h)) t.1 w m)
  thinned_among (suc i) l out h (inr t) w m = thinned_among i l out (omega arith) t.1 w m

  thinned_supports : (i : ℕ) (l out : List ℕ) → i ≤ length l → Thinned o k i l out → Sub (Supported o k (Links l)) (Supported o k (Links out))
  thinned_supports zero l out h t = subst (λ (q : List ℕ). Sub (Supported o k (Links l)) (Supported o k (Links q))) (sym t) (λ x y s p. p)
  thinned_supports (suc i) l out h (inl t) = λ x y s p. thinned_supports i (without i l) out (omega (arith, without_long i l h)) t.1 x y s (may_go i l h t.0 x y s p)
  thinned_supports (suc i) l out h (inr t) = thinned_supports i l out (omega arith) t.1

  thinned_length : (i : ℕ) (l out : List ℕ) → i ≤ length l → Thinned o k i l out → length out ≤ length l
  thinned_length zero l out h t = let e = ap length t in omega arith
  thinned_length (suc i) l out h (inl t) = omega (arith, without_long i l h, thinned_length i (without i l) out (omega (arith, without_long i l h)) t.1)
  thinned_length (suc i) l out h (inr t) = thinned_length i l out (omega arith) t.1

  -- ── what is kept ascends ──
  without_ascending : (lo i : ℕ) (l : List ℕ) → Ascending lo l → Ascending lo (without i l)
  without_ascending lo zero [] a = tt
  without_ascending lo zero (w ∷ l) a = ascending_from lo (suc w) l (omega (arith, a.0)) a.1
  without_ascending lo (suc i) [] a = tt
  without_ascending lo (suc i) (w ∷ l) a = (a.0, without_ascending (suc w) i l a.1)

  thinned_ascending : (i : ℕ) (l out : List ℕ) → Ascending 0 l → Thinned o k i l out → Ascending 0 out
  thinned_ascending zero l out a t = subst (Ascending 0) (sym t) a
  thinned_ascending (suc i) l out a (inl t) = thinned_ascending i (without i l) out (without_ascending 0 i l a) t.1
  thinned_ascending (suc i) l out a (inr t) = thinned_ascending i l out a t.1

  -- ── what is kept is needed ──
  -- From place i on, no word is supported by the others.
  abbrev NeededFrom : ℕ → List ℕ → Type 0
  NeededFrom i l = (j : ℕ) → i ≤ j → j < length l → Supports o k (without j l) (get_or l j 0) → ⊥

  needed_without : (i : ℕ) (l : List ℕ) → i < length l → NeededFrom (suc i) l → NeededFrom i (without i l)
  needed_without i l h n j p q f =
      let a = without_long i l h in
      let g : suc j < length l = omega arith in
      n (suc j) (omega arith) g
      (rw (without_above i l h j p) at (among_supported (without j (without i l)) (without (suc j) l) (without_both i j l p g) _ _ _ f))

  needed_here : (i : ℕ) (l : List ℕ) → (Supports o k (without i l) (get_or l i 0) → ⊥) → NeededFrom (suc i) l → NeededFrom i l
  needed_here i l n r j p q f = pick (ℕ_discrete j i)
    where
      pick : Dec (j ≡ i) → ⊥
      pick (yes e) = n (rw e at f)
      pick (no e) = r j (omega arith) q f

  thinned_needed : (i : ℕ) (l out : List ℕ) → i ≤ length l → NeededFrom i l → Thinned o k i l out → NeededFrom 0 out
  thinned_needed zero l out h n t = subst (NeededFrom 0) (sym t) n
  thinned_needed (suc i) l out h n (inl t) = thinned_needed i (without i l) out (omega (arith, without_long i l h)) (needed_without i l h n) t.1
  thinned_needed (suc i) l out h n (inr t) = thinned_needed i l out (omega arith) (needed_here i l t.0 n) t.1

  -- A list that needs each of its words stays as it is.
  needed_stays : (i : ℕ) (l : List ℕ) → i ≤ length l → Needed o k l → Thinned o k i l l
  needed_stays zero l h n = refl
  needed_stays (suc i) l h n = inr (n i h, needed_stays i l (omega arith) n)

  pub needed_compacted : (l : List ℕ) → Ascending 0 l → Needed o k l → Compacted o k l l
  needed_compacted l a n = record { list = l; ascending = a; same = λ w. ((λ m. m), λ m. m); thinned = needed_stays (length l) l (omega arith) n }

  -- ── a compacted list ──
  module _ (ws out : List ℕ) (c : Compacted o k ws out) where
    pub compacted_among : AllIn out ws
    compacted_among w m = (c.same w).0 (thinned_among (length c.list) c.list out (omega arith) c.thinned w m)

    pub compacted_ascending : Ascending 0 out
    compacted_ascending = thinned_ascending (length c.list) c.list out c.ascending c.thinned

    -- No word of it is supported by the others.
    pub compacted_needed : Needed o k out
    compacted_needed j h = thinned_needed (length c.list) c.list out (omega arith) (λ j p q f. absurd (omega arith)) c.thinned j (omega arith) h

    -- It supports what the words did, no less and no more.
    pub compacted_supports : Sub (Supported o k (Links ws)) (Supported o k (Links out))
    compacted_supports x y s p =
        thinned_supports (length c.list) c.list out (omega arith) c.thinned x y s (among_supported ws c.list (λ w m. (c.same w).1 m) x y s p)

    pub compacted_supported : Sub (Supported o k (Links out)) (Supported o k (Links ws))
    compacted_supported = among_supported out ws compacted_among

    -- It is what the same words in any order, repeated or not, are compacted to,
    pub compacted_order : (vs : List ℕ) → AllIn ws vs → AllIn vs ws → Compacted o k vs out
    compacted_order vs f g = record { list = c.list; ascending = c.ascending; same = λ w. ((λ m. f w ((c.same w).0 m)), λ m. (c.same w).1 (g w m)); thinned = c.thinned }

    -- and what it is compacted to itself.
    pub compacted_itself : Compacted o k out out
    compacted_itself = needed_compacted out compacted_ascending compacted_needed

  -- ── the computed list of a net ──
  module _ (ws : List ℕ) (net : Net o k ws) where
    abbrev out : List ℕ
    out = compacted o k ws

    is_compacted : Compacted o k ws out
    is_compacted = compacted_compacted o k ws net.legal

    pub compact_length : length out ≤ length ws
    compact_length =
        let t = thin_thinned o k (length (tidied ws)) (tidied ws) (omega arith) (tidied_legal o k ws net.legal) in
        omega (arith, thinned_length (length (tidied ws)) (tidied ws) out (omega arith) t, tidied_length ws)

    -- It is a net,
    pub compact_net : Net o k out
    compact_net = record { few = net.few; short = omega (arith, net.short, compact_length); legal = λ w m. net.legal w (compacted_among ws out is_compacted w m) }

    -- whose completed list is the one before,
    pub compact_complete : complete o k out ≡ complete o k ws
    compact_complete =
        lists_unique o k ws (complete o k out) (complete o k ws)
        (lists_as o k out ws (complete o k out) (compacted_supported ws out is_compacted) (compacted_supports ws out is_compacted) (complete_lists o k out compact_net))
        (complete_lists o k ws net)

    -- and which is compacted to itself.
    pub compact_again : compacted o k out ≡ out
    compact_again = compacted_unique o k out (compacted o k out) out (compacted_compacted o k out compact_net.legal) (compacted_itself ws out is_compacted)

    -- Order and repeats play no part.
    pub compact_order : (vs : List ℕ) → Net o k vs → AllIn ws vs → AllIn vs ws → compacted o k ws ≡ compacted o k vs
    compact_order vs other f g =
        compacted_unique o k vs out (compacted o k vs) (compacted_order ws out is_compacted vs f g) (compacted_compacted o k vs other.legal)
