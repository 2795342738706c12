-- Gathering the nodes to mark and marking them afterwards is the command.
use Prim.Native.Nat.{ℕ, zero, suc, ◌+◌, ◌/◌, ◌%◌, ◌≤◌, ◌<◌}
use mathlib.Core.Path.{◌≡◌, refl, sym, ap, ◌∙◌}
use mathlib.Core.Bool.{Bool, true, false, cond, ◌&&◌, ◌||◌}
use mathlib.Core.List.{List, [], ◌∷◌}
use native.Mathlib.Omega.{arith}
use borrow.Author.Tests.{eqb-true, eqb-false, eq-eqb}
use lib.Dec.{eqb}
use lib.ListN.{length, get_or, length-replicate}
use lib.Seq.{ext_get_or}
use Rattle.theory_laws.proofs.Booleans.{and_left, and_right, and_both, and_assoc, or_false, or_assoc, same_test, not_so}
use Rattle.theory_laws.proofs.Bits.{bits_same}
use Rattle.theory.specs.Marks.{has, mark, blank, far, fires, command}
use Rattle.theory.specs.declared.Command.{Command}
use Rattle.theory.specs.Inside.{Inside}
use Rattle.theory.proofs.Inside.{far_in, inside_first, inside_rest}
use Rattle.theory.proofs.machine.Growth.{command_step}
use Rattle.theory.proofs.machine.Commands.{mark_at, mark_length, hits, any, any_same, command_at_lem}
use Rattle.theory.proofs.machine.Starts.{blank_none}
use Rattle.unit_gather.specs.Aside.{holds, put, gather, spread}

-- Two nodes have the same bit exactly if they are the same.
same_bit : (t v : ℕ) → (eqb (t / 8) (v / 8) && eqb (v % 8) (t % 8)) ≡ eqb t v
same_bit t v =
    same_test (eqb (t / 8) (v / 8) && eqb (v % 8) (t % 8)) (eqb t v)
    (λ e.
    let a = eqb-true (t / 8) (v / 8) (and_left (eqb (t / 8) (v / 8)) (eqb (v % 8) (t % 8)) e) in
    let b = eqb-true (v % 8) (t % 8) (and_right (eqb (t / 8) (v / 8)) (eqb (v % 8) (t % 8)) e) in
    eq-eqb t v (omega arith))
    (λ e.
    let a = eqb-true t v e in
    and_both (eqb (t / 8) (v / 8)) (eqb (v % 8) (t % 8)) (eq-eqb (t / 8) (v / 8) (ap (λ (i : ℕ). i / 8) a)) (eq-eqb (v % 8) (t % 8) (ap (λ (i : ℕ). i % 8) (sym a))))

put_at : (t v : ℕ) (a : List ℕ) → t / 8 < length a → holds (put t a) v ≡ (holds a v || eqb t v)
put_at t v a h = mark_at (v % 8) (t % 8) (t / 8) (v / 8) a h ∙ ap (λ (q : Bool). holds a v || q) (same_bit t v)

-- The link leads to v.
abbrev leads : Command → List ℕ → ℕ → ℕ → Bool
leads c m v w = fires c m w && eqb (far c.at_head w) v

gather_at : (c : Command) (m ws a : List ℕ) (v : ℕ) → Inside 1024 ws → length a ≡ 128 → holds (gather c m ws a) v ≡ (holds a v || any (leads c m v) ws)
unfolding gather any
gather_at c m [] a v e l = sym (or_false (holds a v))
gather_at c m (w ∷ ws) a v e l = at (fires c m w) refl (λ b k. gather_at c m ws b v (inside_rest e) k)
  where
    t : ℕ
    t = far c.at_head w

    small : t / 8 < length a
    small = let h : far c.at_head w < 1024 = far_in c.at_head (inside_first e) in omega arith

    at : (q : Bool) → fires c m w ≡ q → ((b : List ℕ) → length b ≡ 128 → holds (gather c m ws b) v ≡ (holds b v || any (leads c m v) ws))
        → holds (gather c m ws (cond (fires c m w) (put (far c.at_head w) a) a)) v ≡ (holds a v || ((fires c m w && eqb (far c.at_head w) v) || any (leads c m v) ws))
    at true q go =
        rw q
        (go (put t a) (mark_length (t % 8) (t / 8) a ∙ l)
        ∙ ap (λ (p : Bool). p || any (leads c m v) ws) (put_at t v a small)
        ∙ or_assoc (holds a v) (eqb t v) (any (leads c m v) ws))
    at false q go = rw q (go a l)

-- ── marking them ──
abbrev among : ℕ → ℕ → ℕ → Bool
among v zero u = false
among v (suc i) u = eqb v u || among (suc v) i u

join : (x a b p s : Bool) → ((x || (a && (true && b))) || (p && (a && b))) ≡ (x || (true && (a && b)))
join true a b p s = refl
join false true true p s = refl
join false true false true s = refl
join false true false false s = refl
join false false b true s = refl
join false false b false s = refl

apart : (x a b p r : Bool) → ((x || (a && (false && b))) || (p && r)) ≡ (x || (p && r))
apart true a b p r = refl
apart false true b p r = refl
apart false false b p r = refl

spread_at : (k : ℕ) (a : List ℕ) (j u v i : ℕ) (m : List ℕ) → v + i ≤ length m → has j (get_or (spread k a v i m) u 0) ≡ (has j (get_or m u 0) || (among v i u && (holds a u && eqb j k)))
unfolding spread
spread_at k a j u v zero m h = sym (or_false (has j (get_or m u 0)))
spread_at k a j u v (suc i) m h =
    let m' : List ℕ = cond (holds a v) (mark k v m) m in
    spread_at k a j u (suc v) i m' (let l = long (holds a v) in omega arith) ∙ ap (λ (q : Bool). q || (among (suc v) i u && (holds a u && eqb j k))) (one (holds a v)) ∙ last (eqb v u) refl
  where
    long : (q : Bool) → length (cond q (mark k v m) m) ≡ length m
    long true = mark_length k v m
    long false = refl

    one : (q : Bool) → has j (get_or (cond q (mark k v m) m) u 0) ≡ (has j (get_or m u 0) || (q && (eqb v u && eqb j k)))
    one true = mark_at j k v u m (omega arith)
    one false = sym (or_false (has j (get_or m u 0)))

    last : (q : Bool) → eqb v u ≡ q
        → ((has j (get_or m u 0) || (holds a v && (eqb v u && eqb j k))) || (among (suc v) i u && (holds a u && eqb j k)))
        ≡ (has j (get_or m u 0) || ((eqb v u || among (suc v) i u) && (holds a u && eqb j k)))
    last true e = let s : v ≡ u = eqb-true v u e in rw (e, s) (join (has j (get_or m u 0)) (holds a u) (eqb j k) (among (suc u) i u) true)
    last false e = rw e (apart (has j (get_or m u 0)) (holds a v) (eqb j k) (among (suc v) i u) (holds a u && eqb j k))

-- ── the command ──
any_and : (p : ℕ → Bool) (b : Bool) (ws : List ℕ) → any (λ w. p w && b) ws ≡ (any p ws && b)
unfolding any
any_and p b [] = refl
any_and p b (w ∷ ws) = ap (λ (q : Bool). (p w && b) || q) (any_and p b ws) ∙ at (p w) b (any p ws)
  where
    at : (x b y : Bool) → ((x && b) || (y && b)) ≡ ((x || y) && b)
    at true true y = refl
    at true false true = refl
    at true false false = refl
    at false b y = refl

among_all : (v i u : ℕ) → v ≤ u → u < v + i → among v i u ≡ true
among_all v zero u h l = absurd (omega arith)
among_all v (suc i) u h l = at (eqb v u) refl (λ g. among_all (suc v) i u g (omega arith))
  where
    at : (q : Bool) → eqb v u ≡ q → (suc v ≤ u → among (suc v) i u ≡ true) → (eqb v u || among (suc v) i u) ≡ true
    at true e go = rw e
    at false e go = rw e (go (let f = eqb-false v u e in omega arith))

none_held : (v : ℕ) → holds (blank 128) v ≡ false
none_held v = not_so (holds (blank 128) v) (blank_none 128 (v % 8) (v / 8))

wider : {n : ℕ} {ws : List ℕ} → n ≤ 1024 → Inside n ws → Inside 1024 ws
wider h e w l = let t = e w l in record { tail_in = (let a = t.tail_in in omega arith); head_in = (let a = t.head_in in omega arith) }

spread_long : (k : ℕ) (a : List ℕ) (v i : ℕ) (m : List ℕ) → length (spread k a v i m) ≡ length m
unfolding spread
spread_long k a v zero m = refl
spread_long k a v (suc i) m = spread_long k a (suc v) i (cond (holds a v) (mark k v m) m) ∙ at (holds a v)
  where
    at : (q : Bool) → length (cond q (mark k v m) m) ≡ length m
    at true = mark_length k v m
    at false = refl

module _ (n : ℕ) (few : n ≤ 1024) (c : Command) (small : c.put < 8) (ws : List ℕ) (e : Inside n ws) (m : List ℕ) (size : length m ≡ n) where
  abbrev set : List ℕ
  set = gather c m ws (blank 128)

  set_at : (v : ℕ) → holds set v ≡ any (leads c m v) ws
  set_at v = gather_at c m ws (blank 128) v (wider few e) (length-replicate {A = ℕ} 128 0) ∙ ap (λ (q : Bool). q || any (leads c m v) ws) (none_held v)

  -- The nodes gathered first, and marked afterwards: that is the command.
  pub aside_command : spread c.put set 0 n m ≡ command c ws m
  aside_command =
      let s = command_step n 8 c small ws m e (omega arith) in
      ext_get_or 0 (spread c.put set 0 n m) (command c ws m) (spread_long c.put set 0 n m ∙ sym s.long)
      (λ v h. bits_same (get_or (spread c.put set 0 n m) v 0 + get_or (command c ws m) v 0) (get_or (spread c.put set 0 n m) v 0) (get_or (command c ws m) v 0) (omega arith) (omega arith)
      (λ j. at j v (let l = spread_long c.put set 0 n m in omega arith)))
    where
      at : (j v : ℕ) → v < n → has j (get_or (spread c.put (gather c m ws (blank 128)) 0 n m) v 0) ≡ has j (get_or (command c ws m) v 0)
      at j v h =
          spread_at c.put set j v 0 n m (omega arith)
          ∙ ap (λ (q : Bool). has j (get_or m v 0) || (q && (holds set v && eqb j c.put))) (among_all 0 n v (omega arith) (omega arith))
          ∙ ap (λ (q : Bool). has j (get_or m v 0) || (q && eqb j c.put)) (set_at v)
          ∙ ap (λ (q : Bool). has j (get_or m v 0) || q) (sym (any_and (leads c m v) (eqb j c.put) ws) ∙ any_same (λ w. leads c m v w && eqb j c.put) (hits c m j v) ws (λ w h. and_assoc (fires c m w) (eqb (far c.at_head w) v) (eqb j c.put)))
          ∙ sym (command_at_lem c ws m n j v e (omega arith))
