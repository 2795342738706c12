-- What the marks of a scan mean: after any number of rounds they are supported, and once a round sets nothing they are all that is.
use Prim.Native.Nat.{ℕ, zero, suc, ◌+◌, ◌≤◌, ◌<◌}
use mathlib.Core.Path.{◌≡◌, refl, subst, sym}
use mathlib.Core.List.{List}
use mathlib.Core.Logic.{◌⊎◌, inl, inr, ◌↔◌, ⊎_elim}
use native.Mathlib.Omega.{arith}
use lib.ListN.{length}
use Rattle.theory.specs.Words.{Sign, is, isnt, sign_number}
use Rattle.theory.specs.Nets.{Statements, Kind, Links, LegalWords}
use Rattle.theory.specs.Support.{Supported}
use Rattle.theory.specs.Paths.{Crossing}
use Rattle.theory.specs.Marks.{T, F, U, commands, round, scan_start, At}
use Rattle.theory.specs.Scans.{after}
use Rattle.theory.specs.Inside.{Inside}
use Rattle.theory.proofs.support.Reach.{Up, here, step, Apart, trans, turn, ends_in, supported_is_reached}
use Rattle.theory.proofs.Inside.{legal_inside}
use Rattle.theory.proofs.Legal.{legal_links}
use Rattle.theory.proofs.machine.Soundness.{Within, Follows, Every, quiet_closed, after_long, after_keeps, sound}
use Rattle.theory.proofs.machine.Starts.{start_long, start_within, start_has_T, start_has_U, commands_put_8}

-- ── what is carried along a chain of links ──
pub carried_up : (L : Statements) (P : ℕ → Type 0) → ((u y : ℕ) → L u y is → P u → P y) → {y x : ℕ} → Up L y x → P x → P y
carried_up L P r (here e) p = subst P e p
carried_up L P r (step {x = x} {z = z} l u) p = carried_up L P r u (r x z l p)

pub carried_down : (L : Statements) (P : ℕ → Type 0) → ((u y : ℕ) → L y u is → P u → P y) → {y x : ℕ} → Up L y x → P y → P x
carried_down L P r (here e) p = subst P (sym e) p
carried_down L P r (step {x = x} {z = z} l u) p = r z x l (carried_down L P r u p)

pub crossed : (L : Statements) (P Q : ℕ → Type 0) → ((u y : ℕ) → L u y isnt → P u → Q y) → ((u y : ℕ) → L y u isnt → P u → Q y) → (u v : ℕ) → Crossing L u v → P u → Q v
crossed L P Q f g u v (inl l) p = f u v l p
crossed L P Q f g u v (inr l) p = g u v l p

-- Only the sign that is written so.
pub as_is : (A : Sign → Type 0) → A is → (s : Sign) → sign_number s ≡ 0 → A s
as_is A a is e = a
as_is A a isnt e = absurd (omega arith)

pub as_isnt : (A : Sign → Type 0) → A isnt → (s : Sign) → sign_number s ≡ 1 → A s
as_isnt A a is e = absurd (omega arith)
as_isnt A a isnt e = a

module _ (L : Statements) where
  pub longer_second : {x y z : ℕ} → L z y is → Apart L x y → Apart L x z
  longer_second l t = record { left = t.left; right = t.right; first = t.first; cross = t.cross; second = step l t.second }

  pub crossing_ends : {x u v : ℕ} → Up L u x → Crossing L u v → Apart L x v
  crossing_ends {u = u} {v = v} t c = record { left = u; right = v; first = t; cross = c; second = here refl }

-- ── from any node x: T at what reaches x, F at what is kept apart from it, U at what x reaches ──
abbrev pub Marked : Statements → ℕ → ℕ → ℕ → Type 0
Marked L x zero y = Up L x y
Marked L x (suc zero) y = Apart L x y
Marked L x (suc (suc zero)) y = Up L y x
Marked L x (suc (suc (suc j))) y = ⊥

scan_follows : (L : Statements) (x : ℕ) → Every (Follows L (Marked L x)) commands
scan_follows L x = (
  (λ u v. as_is (λ s. L v u s → Up L x u → Up L x v) (λ l t. step l t)),
  (
    (λ u v. as_is (λ s. L u v s → Up L u x → Up L v x) (λ l t. trans t (step l (here refl)))),
    (
      (λ u v. as_is (λ s. L v u s → Apart L x u → Apart L x v) (λ l t. longer_second L l t)),
      (
        (λ u v. as_isnt (λ s. L u v s → Up L u x → Apart L x v) (λ l t. crossing_ends L t (inl l))),
        (
          (λ u v. as_isnt (λ s. L v u s → Up L u x → Apart L x v) (λ l t. crossing_ends L t (inr l))),
          tt,
        ),
      ),
    ),
  ),
)

scan_least : (L : Statements) (x : ℕ) (M : ℕ → ℕ → Type 0) → Every (Follows L M) commands → M T x → M U x → (j y : ℕ) → Marked L x j y → M j y
scan_least L x M r s s' zero y u = carried_down L (M T) (λ u y l. r.0 u y is refl l) u s
scan_least L x M r s s' (suc zero) y n =
    carried_down L (M F) (λ u y l. r.1.1.0 u y is refl l) n.second
    (crossed L (M U) (M F) (λ u y l. r.1.1.1.0 u y isnt refl l) (λ u y l. r.1.1.1.1.0 u y isnt refl l) n.left n.right n.cross
    (carried_up L (M U) (λ u y l. r.1.0 u y is refl l) n.first s'))
scan_least L x M r s s' (suc (suc zero)) y u = carried_up L (M U) (λ u y l. r.1.0 u y is refl l) u s'
scan_least L x M r s s' (suc (suc (suc j))) y z = absurd z

module _ (o k : ℕ) (ws : List ℕ) (legal : LegalWords o k ws) where
  inside : Inside (o + k) ws
  inside = legal_inside o k ws legal

  -- A statement is supported exactly if it is reached, at a kind.
  pub exactly_is : (x y : ℕ) → Kind o k y → Up (Links ws) y x ↔ Supported o k (Links ws) x y is
  exactly_is x y h = (
    (λ u. (supported_is_reached o k (Links ws) (legal_links o k ws legal) x y is).1 (u, h)),
    λ s. ((supported_is_reached o k (Links ws) (legal_links o k ws legal) x y is).0 s).0,
  )

  pub exactly_isnt : (x y : ℕ) → Kind o k y → Apart (Links ws) x y ↔ Supported o k (Links ws) x y isnt
  exactly_isnt x y h = (
    (λ u. (supported_is_reached o k (Links ws) (legal_links o k ws legal) x y isnt).1 (u, h)),
    λ s. ((supported_is_reached o k (Links ws) (legal_links o k ws legal) x y isnt).0 s).0,
  )

  module _ (x : ℕ) (hx : x < o + k) where
    abbrev S : List ℕ
    S = scan_start (o + k) x

    room : o + k ≤ length S
    room = omega (arith, start_long (o + k) x hx)

    pub scan_sound : (i : ℕ) → Within (Marked (Links ws) x) (after commands ws i S)
    scan_sound = sound (o + k) ws inside commands commands_put_8 (Marked (Links ws) x) (scan_follows (Links ws) x) S room
        (start_within (o + k) x hx (Marked (Links ws) x) (here refl) (here refl))

    -- After any number of rounds, so also of a spent budget: U at a kind means →, F means ↛.
    pub scan_sound_yes : (i y : ℕ) → Kind o k y → At (after commands ws i S) U y → Supported o k (Links ws) x y is
    scan_sound_yes i y h a = (exactly_is x y h).0 (scan_sound i U y a)

    pub scan_sound_no : (i y : ℕ) → Kind o k y → At (after commands ws i S) F y → Supported o k (Links ws) x y isnt
    scan_sound_no i y h a = (exactly_isnt x y h).0 (scan_sound i F y a)

    -- U stands on x itself and on kinds.
    pub scan_sound_U : (i z : ℕ) → At (after commands ws i S) U z → (x ≡ z) ⊎ Kind o k z
    scan_sound_U i z a = ends_in o k (Links ws) (legal_links o k ws legal) (scan_sound i U z a)

    -- From an object T stands on it alone, since no link leads to it.
    pub scan_sound_T : x < o → (i z : ℕ) → At (after commands ws i S) T z → z ≡ x
    scan_sound_T h i z a = ⊎_elim (λ e. e) (λ (g : Kind o k x). absurd (omega (arith, g.low))) (ends_in o k (Links ws) (legal_links o k ws legal) (scan_sound i T z a))

    -- From a kind, against the arrows: T at any node z means z → x, F means z ↛ x.
    pub scan_sound_yes_to : Kind o k x → (i z : ℕ) → At (after commands ws i S) T z → Supported o k (Links ws) z x is
    scan_sound_yes_to h i z a = (exactly_is z x h).0 (scan_sound i T z a)

    pub scan_sound_no_to : Kind o k x → (i z : ℕ) → At (after commands ws i S) F z → Supported o k (Links ws) z x isnt
    scan_sound_no_to h i z a = (exactly_isnt z x h).0 (turn (scan_sound i F z a))

    module _ (i : ℕ) (quiet : round commands ws (after commands ws i S) ≡ after commands ws i S) where
      scan_all : (j y : ℕ) → Marked (Links ws) x j y → At (after commands ws i S) j y
      scan_all = scan_least (Links ws) x (At (after commands ws i S))
          (quiet_closed (o + k) ws inside commands commands_put_8 (after commands ws i S) (after_long (o + k) ws inside commands commands_put_8 i S room) quiet)
          (after_keeps (o + k) ws inside commands commands_put_8 i S room T x (start_has_T (o + k) x hx))
          (after_keeps (o + k) ws inside commands commands_put_8 i S room U x (start_has_U (o + k) x hx))

      -- At the last round: U at a kind y exactly if x → y is supported.
      pub scan_yes : (y : ℕ) → Kind o k y → At (after commands ws i S) U y ↔ Supported o k (Links ws) x y is
      scan_yes y h = (scan_sound_yes i y h, λ s. scan_all U y ((exactly_is x y h).1 s))

      -- At the last round: F at a kind y exactly if x ↛ y is supported.
      pub scan_no : (y : ℕ) → Kind o k y → At (after commands ws i S) F y ↔ Supported o k (Links ws) x y isnt
      scan_no y h = (scan_sound_no i y h, λ s. scan_all F y ((exactly_isnt x y h).1 s))

      -- At the last round from a kind: T at any node z exactly if z → x is supported.
      pub scan_yes_to : Kind o k x → (z : ℕ) → At (after commands ws i S) T z ↔ Supported o k (Links ws) z x is
      scan_yes_to h z = (scan_sound_yes_to h i z, λ s. scan_all T z ((exactly_is z x h).1 s))

      -- At the last round from a kind: F at any node z exactly if z ↛ x is supported.
      pub scan_no_to : Kind o k x → (z : ℕ) → At (after commands ws i S) F z ↔ Supported o k (Links ws) z x isnt
      scan_no_to h z = (scan_sound_no_to h i z, λ s. scan_all F z (turn ((exactly_isnt z x h).1 s)))

      -- At the last round from an object: T on it alone, and it is there.
      pub scan_T_object : x < o → (z : ℕ) → At (after commands ws i S) T z ↔ (z ≡ x)
      scan_T_object h z = (scan_sound_T h i z, λ e. scan_all T z (here e))

      -- At the last round: U at an object exactly if it is x, which states nothing.
      pub scan_U_objects : (z : ℕ) → z < o → At (after commands ws i S) U z ↔ (x ≡ z)
      scan_U_objects z h = (λ a. ⊎_elim (λ e. e) (λ (g : Kind o k z). absurd (omega (arith, g.low))) (scan_sound_U i z a), λ e. scan_all U z (here e))
