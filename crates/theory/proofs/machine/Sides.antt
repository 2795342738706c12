-- A scan that ended says exactly what is supported, read from the subject and read from the kind, and the two readings agree.
use Prim.Native.Nat.{ℕ, ◌+◌, ◌<◌}
use mathlib.Core.Path.{◌≡◌}
use mathlib.Core.Bool.{true, false}
use mathlib.Core.List.{List}
use mathlib.Core.Logic.{◌↔◌}
use lib.ListN.{get_or}
use Rattle.theory_laws.proofs.Booleans.{same_test}
use Rattle.theory.specs.Words.{Sign, is, isnt}
use Rattle.theory.specs.Nets.{Kind, Links, LegalWords}
use Rattle.theory.specs.Support.{Supported}
use Rattle.theory.specs.Marks.{has, marker_of, marker_to, commands, scan_start, At}
use Rattle.theory.specs.Scans.{scan}
use Rattle.theory.proofs.machine.Meaning.{scan_yes, scan_no, scan_sound_yes, scan_sound_no, scan_yes_to, scan_no_to, scan_sound_yes_to, scan_sound_no_to}
use Rattle.theory.proofs.machine.Budgets.{last_round, spent_marks}

module _ (o k : ℕ) (ws : List ℕ) (legal : LegalWords o k ws) where
  module _ (x : ℕ) (hx : x < o + k) where
    module _ (b : ℕ) where
      -- In a scan that ended: the marker at a kind exactly if the statement is supported.
      pub scan_exact : (scan (o + k) ws x b).done ≡ true → (y : ℕ) → Kind o k y → (s : Sign)
          → At (scan (o + k) ws x b).marks (marker_of s) y ↔ Supported o k (Links ws) x y s
      scan_exact d y h is =
          let t = last_round commands ws (scan_start (o + k) x) b d in
          rw t.marks (scan_yes o k ws legal x hx t.at t.quiet y h)
      scan_exact d y h isnt =
          let t = last_round commands ws (scan_start (o + k) x) b d in
          rw t.marks (scan_no o k ws legal x hx t.at t.quiet y h)

      -- In one whose budget was spent every marker at a kind is supported.
      pub scan_spent_lem : (scan (o + k) ws x b).done ≡ false → (y : ℕ) → Kind o k y → (s : Sign)
          → At (scan (o + k) ws x b).marks (marker_of s) y → Supported o k (Links ws) x y s
      scan_spent_lem d y h is a = scan_sound_yes o k ws legal x hx b y h (rw (spent_marks commands ws (scan_start (o + k) x) b d).1 at a)
      scan_spent_lem d y h isnt a = scan_sound_no o k ws legal x hx b y h (rw (spent_marks commands ws (scan_start (o + k) x) b d).1 at a)

      -- From a kind, against the arrows: the same at every node.
      module _ (hk : Kind o k x) where
        pub scan_exact_to : (scan (o + k) ws x b).done ≡ true → (z : ℕ) (s : Sign) → At (scan (o + k) ws x b).marks (marker_to s) z ↔ Supported o k (Links ws) z x s
        scan_exact_to d z is =
            let t = last_round commands ws (scan_start (o + k) x) b d in
            rw t.marks (scan_yes_to o k ws legal x hx t.at t.quiet hk z)
        scan_exact_to d z isnt =
            let t = last_round commands ws (scan_start (o + k) x) b d in
            rw t.marks (scan_no_to o k ws legal x hx t.at t.quiet hk z)

        pub scan_spent_to_lem : (scan (o + k) ws x b).done ≡ false → (z : ℕ) (s : Sign) → At (scan (o + k) ws x b).marks (marker_to s) z → Supported o k (Links ws) z x s
        scan_spent_to_lem d z is a = scan_sound_yes_to o k ws legal x hx hk b z (rw (spent_marks commands ws (scan_start (o + k) x) b d).1 at a)
        scan_spent_to_lem d z isnt a = scan_sound_no_to o k ws legal x hx hk b z (rw (spent_marks commands ws (scan_start (o + k) x) b d).1 at a)

  -- The two ends agree: y's byte after the scan from x, and x's after the scan from the kind y.
  pub ends_agree : (x y : ℕ) → x < o + k → Kind o k y → (b c : ℕ) → (scan (o + k) ws x b).done ≡ true → (scan (o + k) ws y c).done ≡ true → (s : Sign)
      → has (marker_of s) (get_or (scan (o + k) ws x b).marks y 0) ≡ has (marker_to s) (get_or (scan (o + k) ws y c).marks x 0)
  ends_agree x y hx hy b c d e s =
      same_test (has (marker_of s) (get_or (scan (o + k) ws x b).marks y 0)) (has (marker_to s) (get_or (scan (o + k) ws y c).marks x 0))
      (λ a. (scan_exact_to y hy.high c hy e x s).1 ((scan_exact x hx b d y hy s).0 a))
      (λ a. (scan_exact x hx b d y hy s).1 ((scan_exact_to y hy.high c hy e x s).0 a))
