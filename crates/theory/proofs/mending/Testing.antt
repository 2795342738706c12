-- The test of one link more: where there was no clash before, the nodes that clash with it are those that end with T and F.
use Prim.Native.Nat.{ℕ, zero, suc, ◌+◌, ◌*◌, ◌<◌}
use mathlib.Core.Path.{◌≡◌, refl, subst, sym, ◌∙◌, ap}
use mathlib.Core.List.Memᴰ
use mathlib.Core.List.{List, [], ◌∷◌, ◌++◌, Memᴰ}
use mathlib.Core.Logic.{inl, inr, ◌↔◌, ⊎_elim}
use native.Mathlib.Omega.{arith}
use native.Mathlib.Decide.{ℕ_discrete}
use Rattle.theory.specs.Words.{Sign, is, isnt, sign_number, tail_of, head_of, parity}
use Rattle.theory.specs.Nets.{Kind, Links, LegalWords}
use Rattle.theory.specs.Support.{Supported}
use Rattle.theory.specs.Marks.{T, F, U, At, marker_of, scan_start}
use Rattle.theory.specs.Scans.{scan}
use Rattle.theory.proofs.support.Reach.{Up, Apart}
use Rattle.theory.specs.Inside.{Ends}
use Rattle.theory.proofs.Inside.{legal_inside}
use Rattle.theory.proofs.machine.Soundness.{Within}
use Rattle.theory.proofs.machine.Bounds.{full_done}
use Rattle.theory.proofs.machine.Sides.{scan_exact}
use Rattle.theory.specs.Clashes.{ClashAt, ClashFree}
use Rattle.theory.specs.Mending.{link_start, settled_marks}
use Rattle.theory.proofs.mending.Torn.{Torn, clash_torn, torn_clash}
use Rattle.theory.proofs.mending.Adding.{Adds, torn_is, is_torn, torn_isnt, isnt_torn}
use Rattle.theory.proofs.mending.Spreading.{Spread, spread_exact}
use Rattle.theory.proofs.mending.Starting.{marker_is, marker_isnt, link_long, link_low, link_within, link_has_T, link_has_head}

module _ (ws : List ℕ) (w : ℕ) where
  abbrev pub more : List ℕ
  more = ws ++ w ∷ []

  last_one : Memᴰ w more
  last_one = Memᴰ.append_right ws (Memᴰ.head refl)

  adds : (s : Sign) → parity w ≡ sign_number s → Adds (Links ws) (Links more) (tail_of w) (head_of w) s
  adds s e = record {
    new = record { it = w; listed = last_one; tail = refl; head = refl; sign = e };
    old = λ x y t l. ⊎_elim
        (λ m. inl (record { it = l.it; listed = m; tail = l.tail; head = l.head; sign = l.sign }))
        (λ m. ⊎_elim
        (λ i. inr (sym l.tail ∙ ap tail_of i, sym l.head ∙ ap head_of i, sym l.sign ∙ ap parity i ∙ e))
        (λ n. elim n [ ])
        (Memᴰ.cases_cons m))
        (Memᴰ.append_cases ws l.listed);
  }

module _ (o k : ℕ) (ws : List ℕ) (w : ℕ) (legal : LegalWords o k (ws ++ w ∷ [])) (free : ClashFree o k ws) where
  abbrev vs : List ℕ
  vs = ws ++ w ∷ []

  abbrev n : ℕ
  n = o + k

  ends_w : Ends n w
  ends_w = legal_inside o k vs legal w (last_one ws w)

  abbrev S : List ℕ
  S = link_start n w

  exact : (j v : ℕ) → At (settled_marks n vs S) j v ↔ Spread (Links vs) S j v
  exact = spread_exact n vs (legal_inside o k vs legal) S (link_long n w ends_w) (link_low n w ends_w)

  -- Nothing was torn before.
  whole : (x : ℕ) → Torn (Links ws) x → ⊥
  whole x t = let c = torn_clash o k ws (λ v m. legal v (Memᴰ.append_left (w ∷ []) m)) x t in free x c.0 c.1

  -- x ends with T and F.
  abbrev pub Both : ℕ → Type 0
  Both x = At (settled_marks n vs S) T x × At (settled_marks n vs S) F x

  -- ── the link says →: T from its tail, U from its head ──
  module _ (e : parity w ≡ sign_number is) where
    abbrev IsStart : ℕ → ℕ → Type 0
    IsStart zero v = v ≡ tail_of w
    IsStart (suc zero) v = ⊥
    IsStart (suc (suc zero)) v = v ≡ head_of w
    IsStart (suc (suc (suc j))) v = ⊥

    is_start : Within IsStart S
    is_start = link_within n w ends_w IsStart refl (subst (λ (j : ℕ). IsStart j (head_of w)) (sym (marker_is w e)) refl)

    below_tail : (x : ℕ) → Spread (Links vs) S T x → Up (Links vs) (tail_of w) x
    below_tail x t = subst (λ (v : ℕ). Up (Links vs) v x) (is_start T t.0 t.1) t.2

    off_head : (x : ℕ) → Spread (Links vs) S F x → Apart (Links vs) (head_of w) x
    off_head x (inl t) = absurd (is_start F t.0 t.1)
    off_head x (inr t) = subst (λ (v : ℕ). Apart (Links vs) v x) (is_start U t.0 t.1) t.2

    is_exact : (x : ℕ) → Both x ↔ Torn (Links vs) x
    is_exact x = (
      (λ b. is_torn (Links ws) (Links vs) (tail_of w) (head_of w) (adds ws w is e) x (below_tail x ((exact T x).0 b.0)) (off_head x ((exact F x).0 b.1))),
      λ t. ⊎_elim (λ old. absurd (whole x old))
          (λ r. (
            (exact T x).1 (tail_of w, link_has_T n w ends_w, r.0),
            (exact F x).1 (inr (head_of w, subst (λ (j : ℕ). At S j (head_of w)) (marker_is w e) (link_has_head n w ends_w), r.1)),
          ))
          (torn_is (Links ws) (Links vs) (tail_of w) (head_of w) (adds ws w is e) x t),
    )

  -- ── the link says ↛: T from its tail, F from its head ──
  module _ (e : parity w ≡ sign_number isnt) where
    abbrev IsntStart : ℕ → ℕ → Type 0
    IsntStart zero v = v ≡ tail_of w
    IsntStart (suc zero) v = v ≡ head_of w
    IsntStart (suc (suc j)) v = ⊥

    isnt_start : Within IsntStart S
    isnt_start = link_within n w ends_w IsntStart refl (subst (λ (j : ℕ). IsntStart j (head_of w)) (sym (marker_isnt w e)) refl)

    below_head : (x : ℕ) → Spread (Links vs) S F x → Up (Links vs) (head_of w) x
    below_head x (inl t) = subst (λ (v : ℕ). Up (Links vs) v x) (isnt_start F t.0 t.1) t.2
    below_head x (inr t) = absurd (isnt_start U t.0 t.1)

    isnt_exact : (x : ℕ) → Both x ↔ Torn (Links vs) x
    isnt_exact x = (
      (λ b.
          let t = (exact T x).0 b.0 in
          isnt_torn (Links ws) (Links vs) (tail_of w) (head_of w) (adds ws w isnt e) x
          (subst (λ (v : ℕ). Up (Links vs) v x) (isnt_start T t.0 t.1) t.2) (below_head x ((exact F x).0 b.1))),
      λ t. ⊎_elim (λ old. absurd (whole x old))
          (λ r. (
            (exact T x).1 (tail_of w, link_has_T n w ends_w, r.0),
            (exact F x).1 (inl (head_of w, subst (λ (j : ℕ). At S j (head_of w)) (marker_isnt w e) (link_has_head n w ends_w), r.1)),
          ))
          (torn_isnt (Links ws) (Links vs) (tail_of w) (head_of w) (adds ws w isnt e) x t),
    )

  both_torn : (x : ℕ) → Both x ↔ Torn (Links vs) x
  both_torn x = at (ℕ_discrete (parity w) 0)
    where
      at : Dec (parity w ≡ 0) → Both x ↔ Torn (Links vs) x
      at (yes e) = is_exact e x
      at (no e) = isnt_exact (omega arith) x

  -- The nodes that clash are those that end with both T and F.
  pub link_clashes : (x : ℕ) → Both x ↔ ((y : ℕ) × ClashAt o k vs x y)
  link_clashes x = ((λ b. torn_clash o k vs legal x ((both_torn x).0 b)), λ c. (both_torn x).1 (clash_torn o k vs legal x c.0 c.1))

-- ── the kinds at which one node clashes ──
module _ (o k : ℕ) (ws : List ℕ) (legal : LegalWords o k ws) (x : ℕ) (hx : x < o + k) where
  abbrev budget : ℕ
  budget = 3 * (o + k) + 1

  -- So many rounds from x are never all needed, so the marks say what is supported.
  said : (y : ℕ) → Kind o k y → (s : Sign) → At (scan (o + k) ws x budget).marks (marker_of s) y ↔ Supported o k (Links ws) x y s
  said = scan_exact o k ws legal x hx budget (full_done o k ws legal x hx budget (omega arith))

  -- A kind ends with both U and F exactly if x clashes there.
  pub kind_clashes : (y : ℕ) → Kind o k y
      → (At (settled_marks (o + k) ws (scan_start (o + k) x)) U y × At (settled_marks (o + k) ws (scan_start (o + k) x)) F y) ↔ ClashAt o k ws x y
  kind_clashes y h = (
    (λ b. record { node = hx; kind = h; is_yes = (said y h is).0 b.0; is_no = (said y h isnt).0 b.1 }),
    λ c. ((said y h is).1 c.is_yes, (said y h isnt).1 c.is_no),
  )
