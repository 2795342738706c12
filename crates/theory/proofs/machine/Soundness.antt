-- The marker machine: what any list of commands marks is sound and, once a round sets nothing, closed.
use Prim.Native.Nat.{ℕ, zero, suc, ◌%◌, ◌≤◌, ◌<◌}
use mathlib.Core.Path.{◌≡◌, refl, subst, sym, ◌∙◌, ap}
use mathlib.Core.Bool.{Bool, true, false, ◌&&◌, ◌||◌}
use mathlib.Core.List.{List, [], ◌∷◌, Memᴰ}
use native.Mathlib.Omega.{arith}
use lib.Dec.{eqb}
use lib.ListN.{length, get_or}
use borrow.Author.Tests.{eqb-true, eq-eqb}
use Rattle.theory_laws.proofs.Booleans.{contradiction, and_left, and_right, or_split, or_true}
use Rattle.theory.specs.Words.{Sign, sign_number, parity, sign_at}
use Rattle.theory.specs.Nets.{Statements, Links}
use Rattle.theory.specs.Marks.{At, has, near, far, fires, command, round}
use Rattle.theory.specs.Scans.{after}
use Rattle.theory.specs.Inside.{Inside}
use Rattle.theory.specs.declared.Command.{Command}
use Rattle.theory.proofs.machine.Growth.{ScanStep, Puts, step_none, step_then, command_step, round_step}
use Rattle.theory.proofs.machine.Commands.{any, hits, command_at_lem}

-- All the marks of m stand in P.
abbrev pub Within : (ℕ → ℕ → Type 0) → List ℕ → Type 0
Within P m = (j v : ℕ) → At m j v → P j v

-- A link of the sign leads from the tested end x to the other end y.
abbrev pub Over : Statements → Sign → Bool → ℕ → ℕ → Type 0
Over L s false x y = L x y s
Over L s true x y = L y x s

-- A set of marks that a command adds nothing to.
abbrev pub Follows : Statements → (ℕ → ℕ → Type 0) → Command → Type 0
Follows L P c = (x y : ℕ) (s : Sign) → sign_number s ≡ c.sign → Over L s c.at_head x y → P c.test x → P c.put y

abbrev pub Every : (Command → Type 0) → List Command → Type 0
Every Q [] = Unit {0}
Every Q (c ∷ cs) = Q c × Every Q cs

-- ── some word passes a test ──
pub any_some : (p : ℕ → Bool) (ws : List ℕ) → any p ws ≡ true → (w : ℕ) × Memᴰ w ws × (p w ≡ true)
unfolding any
any_some p [] h = contradiction h
any_some p (w ∷ ws) h = or_split (p w) (any p ws) h
    (λ a. (w, Memᴰ.head refl, a))
    (λ a. let (v, m, b) = any_some p ws a in (v, Memᴰ.tail m, b))

pub any_of : (p : ℕ → Bool) (ws : List ℕ) (w : ℕ) → Memᴰ w ws → p w ≡ true → any p ws ≡ true
unfolding any
any_of p ws w m h = at ws m
  where
    at : (ws : List ℕ) → Memᴰ w ws → any p ws ≡ true
    at ws (Memᴰ.head {x = x} {xs = xs} e) = ap (λ (q : Bool). q || any p xs) (rw e at h)
    at ws (Memᴰ.tail {x = x} {xs = xs} m) = ap (λ (q : Bool). p x || q) (at xs m) ∙ or_true (p x)

sign_of : (w : ℕ) → sign_number (sign_at (w % 2)) ≡ w % 2
sign_of w = at (w % 2) (omega arith)
  where
    at : (p : ℕ) → p < 2 → sign_number (sign_at p) ≡ p
    at zero h = refl
    at (suc p) h = omega arith

-- ── one command ──
module _ (n : ℕ) (ws : List ℕ) (e : Inside n ws) where
  -- The statement of a word, in the sense of a command.
  over : (w : ℕ) → Memᴰ w ws → (up : Bool) → Over (Links ws) (sign_at (w % 2)) up (near up w) (far up w)
  over w h true = record { it = w; listed = h; tail = refl; head = refl; sign = sym (sign_of w) }
  over w h false = record { it = w; listed = h; tail = refl; head = refl; sign = sym (sign_of w) }

  -- The word of a statement, in the sense of a command.
  seen : (s : Sign) (up : Bool) (x y : ℕ) → Over (Links ws) s up x y → (w : ℕ) × Memᴰ w ws × (parity w ≡ sign_number s) × (near up w ≡ x) × (far up w ≡ y)
  seen s true x y l = (l.it, l.listed, l.sign, l.head, l.tail)
  seen s false x y l = (l.it, l.listed, l.sign, l.tail, l.head)

  module _ (m : List ℕ) (r : n ≤ length m) (c : Command) where
    pub command_within : (P : ℕ → ℕ → Type 0) → Follows (Links ws) P c → Within P m → Within P (command c ws m)
    command_within P f i j v a =
        or_split (has j (get_or m v 0)) (any (hits c m j v) ws) (sym (command_at_lem c ws m n j v e r) ∙ a) (i j v)
        (λ b.
        let (w, h, d) = any_some (hits c m j v) ws b in
        let fire = and_left (fires c m w) (eqb (far c.at_head w) v && eqb j c.put) d in
        let ends = and_right (fires c m w) (eqb (far c.at_head w) v && eqb j c.put) d in
        let at : far c.at_head w ≡ v = eqb-true _ _ (and_left (eqb (far c.at_head w) v) (eqb j c.put) ends) in
        let put : j ≡ c.put = eqb-true _ _ (and_right (eqb (far c.at_head w) v) (eqb j c.put) ends) in
        let sg : parity w ≡ c.sign = eqb-true _ _ (and_left (eqb (parity w) c.sign) (has c.test (get_or m (near c.at_head w) 0)) fire) in
        let on = and_right (eqb (parity w) c.sign) (has c.test (get_or m (near c.at_head w) 0)) fire in
        subst (λ (i : ℕ). P i v) (sym put) (subst (λ (u : ℕ). P c.put u) at
        (f (near c.at_head w) (far c.at_head w) (sign_at (w % 2)) (sign_of w ∙ sg) (over w h c.at_head) (i c.test (near c.at_head w) on))))

    pub command_keeps : Within (At (command c ws m)) m
    command_keeps j v a = command_at_lem c ws m n j v e r ∙ ap (λ (q : Bool). q || any (hits c m j v) ws) a

    -- A link at whose tested end the marker stands puts its marker.
    pub fire : (x y : ℕ) (s : Sign) → sign_number s ≡ c.sign → Over (Links ws) s c.at_head x y → At m c.test x → At (command c ws m) c.put y
    fire x y s q l t =
        let (w, h, g, p, z) = seen s c.at_head x y l in
        let hit : hits c m c.put y w ≡ true = rw (z, p, t, eq-eqb (parity w) c.sign (g ∙ q), eq-eqb y y refl, eq-eqb c.put c.put refl) in
        command_at_lem c ws m n c.put y e r ∙ ap (λ (b : Bool). has c.put (get_or m y 0) || b) (any_of (hits c m c.put y) ws w h hit) ∙ or_true (has c.put (get_or m y 0))

  -- ── a list of commands ──
  round_within : (P : ℕ → ℕ → Type 0) (cs : List Command) → Puts 8 cs → (m : List ℕ) → n ≤ length m → Every (Follows (Links ws) P) cs → Within P m → Within P (round cs ws m)
  unfolding round
  round_within P [] p m r f i = i
  round_within P (c ∷ cs) p m r f i =
      let s = command_step n 8 c p.0 ws m e r in
      round_within P cs p.1 (command c ws m) (omega (arith, s.long)) f.1 (command_within m r c P f.0 i)

  -- Marks are kept.
  pub round_keeps : (cs : List Command) → Puts 8 cs → (m : List ℕ) → n ≤ length m → Within (At (round cs ws m)) m
  unfolding round
  round_keeps [] p m r j v a = a
  round_keeps (c ∷ cs) p m r j v a =
      let s = command_step n 8 c p.0 ws m e r in
      round_keeps cs p.1 (command c ws m) (omega (arith, s.long)) j v (command_keeps m r c j v a)

  -- Marks g below m that the rest of a round leaves as they are, are closed under the rest of its commands.
  closing : (g : List ℕ) (cs : List Command) → Puts 8 cs → (m : List ℕ) → n ≤ length m → Within (At m) g → Within (At g) (round cs ws m) → Every (Follows (Links ws) (At g)) cs
  unfolding round
  closing g [] p m r up down = tt
  closing g (c ∷ cs) p m r up down =
      let s = command_step n 8 c p.0 ws m e r in
      let l : n ≤ length (command c ws m) = omega (arith, s.long) in (
        (λ x y t q h a. down c.put y (round_keeps cs p.1 (command c ws m) l c.put y (fire m r c x y t q h (up c.test x a)))),
        closing g cs p.1 (command c ws m) l (λ j v a. command_keeps m r c j v (up j v a)) down,
      )

  module _ (cs : List Command) (p : Puts 8 cs) where
    -- A round that sets nothing means closed marks.
    pub quiet_closed : (m : List ℕ) → n ≤ length m → round cs ws m ≡ m → Every (Follows (Links ws) (At m)) cs
    quiet_closed m r q = closing m cs p m r (λ j v a. a) (λ j v a. rw q at a)

    pub after_step : (h : ℕ) → Puts h cs → (i : ℕ) (m : List ℕ) → n ≤ length m → ScanStep n h m (after cs ws i m)
    unfolding after
    after_step h u zero m r = step_none n h m
    after_step h u (suc i) m r =
        let s = after_step h u i m r in
        step_then s (round_step n h cs u ws (after cs ws i m) e (omega (arith, s.long)))

    pub after_long : (i : ℕ) (m : List ℕ) → n ≤ length m → n ≤ length (after cs ws i m)
    after_long i m r = omega (arith, (after_step 8 p i m r).long)

    pub after_keeps : (i : ℕ) (m : List ℕ) → n ≤ length m → Within (At (after cs ws i m)) m
    unfolding after
    after_keeps zero m r j v a = a
    after_keeps (suc i) m r j v a = round_keeps cs p (after cs ws i m) (after_long i m r) j v (after_keeps i m r j v a)

    -- Soundness after any number of rounds: what the commands respect, no number of rounds leaves.
    pub sound : (P : ℕ → ℕ → Type 0) → Every (Follows (Links ws) P) cs → (m : List ℕ) → n ≤ length m → Within P m → (i : ℕ) → Within P (after cs ws i m)
    unfolding after
    sound P f m r w zero = w
    sound P f m r w (suc i) = round_within P cs p (after cs ws i m) (after_long i m r) f (sound P f m r w i)
