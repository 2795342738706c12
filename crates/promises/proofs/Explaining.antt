-- Our engine keeps what is promised of the explanation and of the derivation check.
use Prim.Native.Nat.{ℕ, ◌+◌, ◌*◌, ◌%◌, ◌≤◌, ◌<◌}
use mathlib.Core.Path.{◌≡◌, refl, sym, ap, ◌∙◌}
use mathlib.Core.List.{List}
use native.Mathlib.Omega.{arith}
use lib.Dec.{ltb}
use lib.ListN.{length, take, drop}
use lib.Seq.{drop_at}
use borrow.Author.Tests.{ltb-true, ltb-false, le-ltb}
use Rattle.std.specs.Prelude.{Err, Ok}
use Rattle.theory_laws.specs.Over.{over}
use Rattle.theory_laws.proofs.Booleans.{or_none_right}
use Rattle.theory_laws.proofs.Over.{length_over}
use Rattle.theory.specs.Words.{sign_at}
use Rattle.theory.specs.Reasons.{written}
use Rattle.theory.specs.Origins.{chosen}
use Rattle.net.specs.Good.{GoodStatement}
use Rattle.net.proofs.Good.{good_statement, good_kind}
use Rattle.reason.specs.Table.{filled, reason_of, reasoned}
use Rattle.derivation_lines.specs.Lines.{Line}
use Rattle.derivation_lines.specs.Flat.{flat, lines_of}
use Rattle.derivation_lines.proofs.Flatness.{flat_length}
use Rattle.derivation_lines.proofs.Sizes.{derive_size, derive_short}
use Rattle.derivation_lines.proofs.Sound.{every_line_supported}
use Rattle.derivation_check.specs.Table.{DerivationOf}
use Rattle.derivation_check.proofs.Exactly.{holds_exactly, fails_exactly, holds_supported, holds_one_way}
use Rattle.explain.specs.Table.{ExplainOutcome, explaining as linesFor, explain_done, explained, explained_reply, Explained}
use Rattle.explain.proofs.Found.{explained_by_lem}
use Rattle.explain.proofs.Meaning.{done_explains}
use Rattle.explain.specs.declared.ExplainError.TheVariants as explainedAs
use Rattle.promises.specs.Engines.{Read, ours}
use Rattle.promises.specs.Numbers.{explanation_number}
use Rattle.promises.specs.Reasoning.{ReasonOf}
use Rattle.promises.specs.Explaining.{links_of, Explaining}
use Rattle.promises.proofs.Demand1.{explanation_obeys}
use Rattle.promises.proofs.Tests.{past_checks, chosen_of}
use Rattle.promises.proofs.Reasoning.{reason_of_lem}
use Rattle.promises.proofs.PlainAsked.{one_size}
use Rattle.promises.proofs.ExplainedParts.{the_reason, the_lines, kept}
use Rattle.promises.proofs.PlainExplained.{lines_of_lem, explanation_7, explanation_0}

module _ (o k : ℕ) (ws : List ℕ) (set x y sign : ℕ) (d m l : List ℕ) where
  abbrev picked : List ℕ
  picked = chosen set ws

  abbrev all : List ℕ
  all = reason_of picked x y sign (o + k)

  abbrev ls : List Line
  ls = linesFor o ws set x y sign (o + k)

  abbrev outcome : ExplainOutcome
  outcome = explained o k ws set x y sign d m l

  -- An explanation that was done.
  record Found : Type 0 where
    read : Read o k ws set
    good : GoodStatement o (o + k) x y sign
    path : (size : ℕ) → length all ≡ size → (r : ReasonOf o k picked x y sign size) × (all ≡ written x r.xs r.ys)
    fits : 4 * length ls ≤ length l
    leaves : outcome ≡ explain_done picked ls x y sign d m l (o + k)

  found : explanation_number outcome ≡ 0 → Found
  found e =
      let u = ((explanation_obeys o k ws set x y sign d m l).exactly 0).0 e in
      let read = (past_checks o k ws set).0 (u.0, u.1.0, u.1.1.0, u.1.1.1.0) in
      let good = (good_statement o (o + k) x y sign).0 u.1.1.1.1.0 in
      record {
        read = read;
        good = good;
        path = reason_of_lem o k picked x y sign (chosen_of o k ws set read) good.pair.node (good_kind good.pair) u.1.1.1.1.1.1.0;
        fits = ltb-false (length l) (4 * length ls) (or_none_right (ltb (length m) (length all)) (ltb (length l) (4 * length ls)) u.1.1.1.1.1.1.1.0);
        leaves = (explanation_obeys o k ws set x y sign d m l).leaves 0 u;
      }

  module _ (places size : ℕ) (e : outcome.answer ≡ Ok (places, size)) where
    done : Found
    done = found (ap (λ (r : Explained). (explained_reply r).number) e)

    same : ◌≡◌ {A = Explained} (Ok (4 * length ls, length all)) (Ok (places, size))
    same = sym (ap (λ (r : ExplainOutcome). r.answer) done.leaves) ∙ e

    places_is : 4 * length ls ≡ places
    places_is = ap (λ (r : Explained). (explained_reply r).first) same

    derives : DerivationOf o k set ws x y (sign_at sign) (take places outcome.lines)
    derives =
        let h = done_explains o k ws set x y sign d m l places size e in
        let whole : length (flat ls) % 4 ≡ 0 = omega (arith, flat_length ls) in
        record { whole = rw h.front whole; lines = h.lines }

    is_written : DerivationOf o k set ws x y (sign_at sign) (take places outcome.lines) × (drop places outcome.lines ≡ drop places l) × (length outcome.lines ≡ length l) × (places ≤ length l)
    is_written =
        let z : length (flat ls) ≡ places = flat_length ls ∙ places_is in
        let w : outcome.lines ≡ over (flat ls) l = ap (λ (r : ExplainOutcome). r.lines) done.leaves in
        let h = done.fits in (
          derives,
          ap (drop places) w ∙ drop_at (flat ls) (drop (length (flat ls)) l) places z ∙ ap (λ (i : ℕ). drop i l) z,
          ap length w ∙ length_over (flat ls) l (omega (arith, h, flat_length ls)),
          omega (arith, h, places_is),
        )

    is_few : (r : ReasonOf o k picked x y sign size) × (places ≤ 4 * (2 * links_of r + 1))
    is_few =
        let (r, w) = done.path size (ap (λ (q : Explained). (explained_reply q).second) same) in
        (r, omega (arith, places_is, lines_of_lem o k ws set x y sign d m l r.xs r.ys w, derive_size set ws o x r.xs r.ys, derive_short set ws o x r.xs r.ys))

  -- The reason's scratch and list.
  as_reason : (outcome.scratch ≡ (reasoned o k ws set x y sign d m).scratch) × (outcome.list ≡ (reasoned o k ws set x y sign d m).list)
  as_reason =
      let r = reasoned o k ws set x y sign d m in
      let e = explained_by_lem o k ws set x y sign d m l in
      let (a, b) = kept o set ws r.answer r.scratch r.list l in
      (sym (ap (λ (q : ExplainOutcome). q.scratch) e) ∙ a, sym (ap (λ (q : ExplainOutcome). q.list) e) ∙ b)

  abbrev past : List ℕ
  past = filled picked y sign d (o + k)

  -- The reason has no room,
  reason_short : (needed : ℕ) → outcome.answer ≡ Err (explainedAs.ShortReason needed) → ReasonOf o k picked x y sign needed × (length m < needed)
  reason_short needed e =
      let u = ((explanation_obeys o k ws set x y sign d m l).exactly 8).0 (ap (λ (r : Explained). (explained_reply r).number) e) in
      let q = (explanation_obeys o k ws set x y sign d m l).leaves 8 u in
      let (t, z) = the_reason (length all) (4 * length ls) past m (over all m) l (ltb (length m) (length all)) needed (sym (ap (λ (r : ExplainOutcome). r.answer) q) ∙ e) in
      let read = (past_checks o k ws set).0 (u.0, u.1.0, u.1.1.0, u.1.1.1.0) in
      let good = (good_statement o (o + k) x y sign).0 u.1.1.1.1.0 in
      let less : length m < length all = ltb-true (length m) (length all) t in
      ((reason_of_lem o k picked x y sign (chosen_of o k ws set read) good.pair.node (good_kind good.pair) u.1.1.1.1.1.1.0 needed z).0, omega (arith, less, z))

  -- or the lines have none; with more room they have.
  lines_short : (needed : ℕ) → outcome.answer ≡ Err (explainedAs.ShortLines needed)
      → (length l < needed) × (outcome.lines ≡ l) × ((l' : List ℕ) → needed ≤ length l' → (size : ℕ) × ((explained o k ws set x y sign d m l').answer ≡ Ok (needed, size)))
  lines_short needed e =
      let u = ((explanation_obeys o k ws set x y sign d m l).exactly 8).0 (ap (λ (r : Explained). (explained_reply r).number) e) in
      let q = (explanation_obeys o k ws set x y sign d m l).leaves 8 u in
      let (t, z, as_before) = the_lines (length all) (4 * length ls) past m (over all m) l (ltb (length m) (length all)) needed (sym (ap (λ (r : ExplainOutcome). r.answer) q) ∙ e) in
      let less : length l < 4 * length ls = ltb-true (length l) (4 * length ls) (rw t at u.1.1.1.1.1.1.1) in (
        omega (arith, less, z),
        ap (λ (r : ExplainOutcome). r.lines) q ∙ as_before,
        λ l' room. (
          length all,
          ap (λ (r : ExplainOutcome). r.answer)
              ((explanation_obeys o k ws set x y sign d m l').leaves 0
              (u.0, (u.1.0, (u.1.1.0, (u.1.1.1.0, (u.1.1.1.1.0, (u.1.1.1.1.1.0, (u.1.1.1.1.1.1.0, (rw (t, le-ltb (length l') (4 * length ls) (omega (arith, room, z))), refl)))))))))
              ∙ ap (λ (n : ℕ). Ok (n, length all)) z,
        ),
      )

  -- There is a reason, and room for it and for all lines that there can be.
  ends : (size : ℕ) → Read o k ws set → GoodStatement o (o + k) x y sign → 2 * (o + k) ≤ length d → (r : ReasonOf o k picked x y sign size) → size ≤ length m
      → 4 * (2 * links_of r + 1) ≤ length l → (places : ℕ) × (outcome.answer ≡ Ok (places, size))
  ends size read good wide r fits long =
      let f = found ((explanation_0 o k ws set x y sign d m l).1 (read, (good, (wide, (size, r, (fits, omega (arith, long, derive_size set ws o x r.xs r.ys, derive_short set ws o x r.xs r.ys))))))) in
      let same : length all ≡ size = one_size o k ws set x y sign d m (chosen_of o k ws set read) good (length all) size (f.path (length all) refl).0 r in
      (4 * length ls, ap (λ (q : ExplainOutcome). q.answer) f.leaves ∙ ap (λ (n : ℕ). Ok (4 * length ls, n)) same)

pub explaining : Explaining ours
explaining = record {
  written = is_written;
  accepted = λ o k ws set x y sign d m l places size e.
      let f = done o k ws set x y sign d m l places size e in
      (holds_exactly o k ws set x y sign (take places (explained o k ws set x y sign d m l).lines)).1 ((f.read.allowed, f.read.net), f.good, derives o k ws set x y sign d m l places size e);
  few = is_few;
  reason = as_reason;
  unsupported = λ o k ws set x y sign d m l e. ((explanation_7 o k ws set x y sign d m l).0 (ap (λ (r : Explained). (explained_reply r).number) e)).1.1.1;
  short_reason = reason_short;
  short_lines = lines_short;
  whenever = ends;
  every = λ o k ws set x y sign l e. every_line_supported o k set ws (lines_of l) ((holds_exactly o k ws set x y sign l).0 e).2.lines.lines;
  sound = holds_supported;
  holds = λ o k ws set x y sign l r g. ((λ e. ((holds_exactly o k ws set x y sign l).0 e).2), λ p. (holds_exactly o k ws set x y sign l).1 ((r.allowed, r.net), g, p));
  fails = λ o k ws set x y sign l r g. ((λ e. ((fails_exactly o k ws set x y sign l).0 e).2), λ p. (fails_exactly o k ws set x y sign l).1 ((r.allowed, r.net), g, p));
  one_way = holds_one_way;
}
