-- One word tested against the others: the last word stands in its place meanwhile, and the words before the last are scanned.
use Prim.Native.Nat.{ℕ, suc, ◌+◌, ◌-◌, ◌≤◌, ◌<◌}
use mathlib.Core.Path.{◌≡◌, subst, sym, ap, ◌∙◌}
use mathlib.Core.Bool.{Bool, true, false, cond}
use mathlib.Core.List.{List, ◌++◌, Memᴰ}
use native.Mathlib.Omega.{arith}
use native.Mathlib.Decide.{ℕ_discrete, dec_lt}
use lib.ListN.{length, get_or, take, drop, set, length-set}
use lib.Seq.{length-take-le, get_or-take, get_or-set_same, get_or-set_other, set-set, set-get_or, take-set-lt, take-set-le, drop-set-lt, take_at}
use Rattle.theory.specs.Words.{tail_of, head_of, sign_of}
use Rattle.theory.specs.Nets.{AllIn, LegalWord, LegalWords, Net}
use Rattle.theory.specs.Marks.{marker_of, has, commands, scan_start}
use Rattle.theory.specs.Scans.{Scan, full_budget}
use Rattle.theory.proofs.Inside.{at_member, legal_inside}
use Rattle.theory.proofs.machine.Order.{rounds_order}
use Rattle.theory.proofs.machine.Starts.{start_long, commands_put_8}
use Rattle.theory.specs.Compaction.{without, supports}
use Rattle.theory.proofs.compaction.Places.{member_at, without_long, still_there, stands_elsewhere, without_among}

-- The test does not depend on the order of the words or on repeats.
pub supports_order : (o k : ℕ) (ws vs : List ℕ) (w : ℕ) → LegalWords o k ws → LegalWords o k vs → LegalWord o k w → AllIn ws vs → AllIn vs ws → supports o k ws w ≡ supports o k vs w
supports_order o k ws vs w p q h f g =
    ap (λ (s : Scan). has (marker_of (sign_of w)) (get_or s.marks (head_of w) 0))
    (rounds_order (o + k) ws vs (legal_inside o k ws p) (legal_inside o k vs q) f g commands commands_put_8 (full_budget (o + k)) 0 (scan_start (o + k) (tail_of w))
    (omega (arith, start_long (o + k) (tail_of w) h.tail)))

module _ (i end : ℕ) (l : List ℕ) (h : i < end) (fits : end ≤ length l) where
  abbrev P : List ℕ
  P = take end l

  -- The last word stands at place i.
  abbrev pub over_it : List ℕ
  over_it = set l i (get_or l (end - 1) 0)

  abbrev S : List ℕ
  S = take (end - 1) over_it

  P_long : length P ≡ end
  P_long = length-take-le end l fits

  pub over_long : length over_it ≡ length l
  over_long = length-set l i (get_or l (end - 1) 0)

  pub S_long : length S ≡ end - 1
  S_long = length-take-le (end - 1) over_it (omega (arith, over_long))

  P_at : (u : ℕ) → u < end → get_or P u 0 ≡ get_or l u 0
  P_at u g = get_or-take end l u 0 g

  S_here : i < end - 1 → get_or S i 0 ≡ get_or l (end - 1) 0
  S_here g = get_or-take (end - 1) over_it i 0 g ∙ get_or-set_same l i (get_or l (end - 1) 0) 0 (omega arith)

  S_else : (u : ℕ) → u < end - 1 → (u ≡ i → ⊥) → get_or S u 0 ≡ get_or l u 0
  S_else u g n = get_or-take (end - 1) over_it u 0 g ∙ get_or-set_other l i u (get_or l (end - 1) 0) 0 n

  still_P : (u : ℕ) → u < end → (u ≡ i → ⊥) → Memᴰ (get_or l u 0) (without i P)
  still_P u g n = subst (λ (v : ℕ). Memᴰ v (without i P)) (P_at u g) (still_there i P (omega (arith, P_long)) u (omega (arith, P_long)) n)

  -- The words that are scanned are those without the word at place i.
  scanned_others : AllIn S (without i P)
  scanned_others w m = let (u, g, e) = member_at w S m in pick u (omega (arith, S_long)) e (ℕ_discrete u i)
    where
      pick : (u : ℕ) → u < end - 1 → get_or S u 0 ≡ w → Dec (u ≡ i) → Memᴰ w (without i P)
      pick u g e (yes z) =
          let a : get_or S i 0 ≡ w = rw z at e in
          subst (λ (v : ℕ). Memᴰ v (without i P)) (sym (S_here (omega arith)) ∙ a) (still_P (end - 1) (omega arith) (λ (y : end - 1 ≡ i). omega arith))
      pick u g e (no z) = subst (λ (v : ℕ). Memᴰ v (without i P)) (sym (S_else u g z) ∙ e) (still_P u (omega arith) z)

  others_scanned : AllIn (without i P) S
  others_scanned w m = let (u, g, n, e) = stands_elsewhere i P (omega (arith, P_long)) w m in pick u (omega (arith, P_long)) n e (dec_lt u (end - 1))
    where
      pick : (u : ℕ) → u < end → (u ≡ i → ⊥) → get_or P u 0 ≡ w → Dec (u < end - 1) → Memᴰ w S
      pick u g n e (yes z) = subst (λ (v : ℕ). Memᴰ v S) (S_else u z n ∙ sym (P_at u g) ∙ e) (at_member S u (omega (arith, S_long)))
      pick u g n e (no z) =
          let y : u ≡ end - 1 = omega arith in
          let a : get_or P (end - 1) 0 ≡ w = rw y at e in
          subst (λ (v : ℕ). Memᴰ v S) (S_here (omega arith) ∙ sym (P_at (end - 1) (omega arith)) ∙ a) (at_member S i (omega (arith, S_long)))

  module _ (o k : ℕ) (net : Net o k P) where
    legal_others : LegalWords o k (without i P)
    legal_others w m = net.legal w (without_among i P (omega (arith, P_long)) w m)

    legal_scanned : LegalWords o k S
    legal_scanned w m = legal_others w (scanned_others w m)

    pub scanned_net : Net o k S
    scanned_net = record { few = net.few; short = omega (arith, net.short, S_long, P_long); legal = legal_scanned }

    pub word_legal : LegalWord o k (get_or l i 0)
    word_legal = subst (LegalWord o k) (P_at i h) (net.legal (get_or P i 0) (at_member P i (omega (arith, P_long))))

    pub others_net : Net o k (without i P)
    others_net = record { few = net.few; short = omega (arith, net.short, without_long i P (omega (arith, P_long)), P_long); legal = legal_others }

    pub tested : {r : Bool} → r ≡ supports o k S (get_or l i 0) → r ≡ supports o k (without i P) (get_or l i 0)
    tested e = e ∙ supports_order o k S (without i P) (get_or l i 0) legal_scanned legal_others word_legal scanned_others others_scanned

  -- The word goes.
  pub gone : {l' : List ℕ} {r : Bool} → r ≡ true → l' ≡ without i (take end over_it) ++ drop (end - 1) over_it → take (cond r (end - 1) end) l' ≡ cond r (without i P) P
  gone t e =
      let a : take end over_it ≡ set P i (get_or l (end - 1) 0) = take-set-lt end l i (get_or l (end - 1) 0) h in
      let b : take i (set P i (get_or l (end - 1) 0)) ≡ take i P = take-set-le i P i (get_or l (end - 1) 0) (omega arith) in
      let c : drop (suc i) (set P i (get_or l (end - 1) 0)) ≡ drop (suc i) P = drop-set-lt (suc i) P i (get_or l (end - 1) 0) (omega arith) in
      let d : without i (take end over_it) ≡ without i P = ap (without i) a ∙ rw (b, c) in
      let n : length (without i P) ≡ end - 1 = without_long i P (omega (arith, P_long)) ∙ ap (λ (v : ℕ). v - 1) P_long in
      rw (t, e, d) (take_at (without i P) (drop (end - 1) over_it) (end - 1) n)

  -- The word stays.
  pub stays : {l' : List ℕ} {r : Bool} → r ≡ false → l' ≡ set over_it i (get_or l i 0) → take (cond r (end - 1) end) l' ≡ cond r (without i P) P
  stays t e = rw (t, e) (ap (take end) (set-set l i (get_or l (end - 1) 0) (get_or l i 0) ∙ set-get_or l i 0))
