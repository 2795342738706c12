-- What the five commands make of any marks: T goes down over →, U up, F down and over a crossing from U.
use Prim.Native.Nat.{ℕ, zero, suc, ◌+◌, ◌*◌, ◌≤◌}
use mathlib.Core.Path.{◌≡◌, refl}
use mathlib.Core.List.{List}
use mathlib.Core.Logic.{◌⊎◌, inl, inr, ◌↔◌, ⊎_elim}
use native.Mathlib.Omega.{arith}
use lib.ListN.{length}
use Rattle.theory.specs.Words.{is, isnt}
use Rattle.theory.specs.Nets.{Statements, Links}
use Rattle.theory.specs.Marks.{T, F, U, commands, At}
use Rattle.theory.specs.Scans.{after}
use Rattle.theory.proofs.support.Reach.{Up, here, step, Apart, trans}
use Rattle.theory.specs.Inside.{Inside}
use Rattle.theory.proofs.machine.Meaning.{carried_up, carried_down, crossed, as_is, as_isnt, longer_second, crossing_ends}
use Rattle.theory.proofs.machine.Soundness.{Within, Follows, Every, quiet_closed, after_long, after_keeps, sound}
use Rattle.theory.proofs.machine.Starts.{commands_put, commands_put_8}
use Rattle.theory.proofs.machine.Bounds.{BytesBelow, bounded}
use Rattle.theory.proofs.machine.Budgets.{ends_within, last_round}
use Rattle.theory.specs.Mending.{settled_marks}

module _ (L : Statements) where
  module _ (m : List ℕ) where
    -- Where the marker j comes to from the marks m.
    abbrev pub Spread : ℕ → ℕ → Type 0
    Spread zero v = (t : ℕ) × At m T t × Up L t v
    Spread (suc zero) v = ((t : ℕ) × At m F t × Up L t v) ⊎ ((t : ℕ) × At m U t × Apart L t v)
    Spread (suc (suc zero)) v = (t : ℕ) × At m U t × Up L v t
    Spread (suc (suc (suc j))) v = At m (suc (suc (suc j))) v

    spread_start : Within Spread m
    spread_start zero v a = (v, a, here refl)
    spread_start (suc zero) v a = inl (v, a, here refl)
    spread_start (suc (suc zero)) v a = (v, a, here refl)
    spread_start (suc (suc (suc j))) v a = a

    spread_follows : Every (Follows L Spread) commands
    spread_follows = (
      (λ u v. as_is (λ s. L v u s → Spread T u → Spread T v) (λ l t. (t.0, t.1, step l t.2))),
      (
        (λ u v. as_is (λ s. L u v s → Spread U u → Spread U v) (λ l t. (t.0, t.1, trans t.2 (step l (here refl))))),
        (
          (λ u v. as_is (λ s. L v u s → Spread F u → Spread F v)
              (λ l. ⊎_elim (λ t. inl (t.0, t.1, step l t.2)) (λ t. inr (t.0, t.1, longer_second L l t.2)))),
          (
            (λ u v. as_isnt (λ s. L u v s → Spread U u → Spread F v) (λ l t. inr (t.0, t.1, crossing_ends L t.2 (inl l)))),
            (
              (λ u v. as_isnt (λ s. L v u s → Spread U u → Spread F v) (λ l t. inr (t.0, t.1, crossing_ends L t.2 (inr l)))),
              tt,
            ),
          ),
        ),
      ),
    )

    spread_least : (M : ℕ → ℕ → Type 0) → Every (Follows L M) commands → Within M m → (j v : ℕ) → Spread j v → M j v
    spread_least M r s zero v t = carried_down L (M T) (λ u y l. r.0 u y is refl l) t.2 (s T t.0 t.1)
    spread_least M r s (suc zero) v (inl t) = carried_down L (M F) (λ u y l. r.1.1.0 u y is refl l) t.2 (s F t.0 t.1)
    spread_least M r s (suc zero) v (inr t) =
        let a = t.2 in
        carried_down L (M F) (λ u y l. r.1.1.0 u y is refl l) a.second
        (crossed L (M U) (M F) (λ u y l. r.1.1.1.0 u y isnt refl l) (λ u y l. r.1.1.1.1.0 u y isnt refl l) a.left a.right a.cross
        (carried_up L (M U) (λ u y l. r.1.0 u y is refl l) a.first (s U t.0 t.1)))
    spread_least M r s (suc (suc zero)) v t = carried_up L (M U) (λ u y l. r.1.0 u y is refl l) t.2 (s U t.0 t.1)
    spread_least M r s (suc (suc (suc j))) v t = s (suc (suc (suc j))) v t

module _ (n : ℕ) (ws : List ℕ) (e : Inside n ws) (m : List ℕ) (long : length m ≡ n) (low : BytesBelow n 3 m) where
  room : n ≤ length m
  room = omega (arith, long)

  -- Every mark that is left is where the markers spread to, and the other way round.
  pub spread_exact : (j v : ℕ) → At (settled_marks n ws m) j v ↔ Spread (Links ws) m j v
  spread_exact j v =
      let (c, d, l) = bounded n 3 ws e commands commands_put m long low (3 * n + 1) (omega arith) in
      let done = ends_within commands ws m c (3 * n + 1) d l in
      let t = last_round commands ws m (3 * n + 1) done in
      let g = after commands ws t.at m in (
        (λ a. sound n ws e commands commands_put_8 (Spread (Links ws) m) (spread_follows (Links ws) m) m room (spread_start (Links ws) m) t.at j v (rw t.marks at a)),
        λ s. rw t.marks (spread_least (Links ws) m (At g)
            (quiet_closed n ws e commands commands_put_8 g (after_long n ws e commands commands_put_8 t.at m room) t.quiet)
            (after_keeps n ws e commands commands_put_8 t.at m room) j v s),
      )
