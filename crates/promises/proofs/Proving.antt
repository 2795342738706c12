-- Our engine keeps what is promised of the proof and of the proof check.
use Prim.Native.Nat.{ℕ, ◌+◌, ◌-◌, ◌*◌, ◌≤◌, ◌<◌}
use mathlib.Core.Path.{◌≡◌, refl, sym, ap, subst, ◌∙◌}
use mathlib.Core.Bool.{Bool, true, false, cond}
use mathlib.Core.List.{List}
use mathlib.Core.Logic.{inl, inr}
use native.Mathlib.Omega.{arith}
use lib.Dec.{eqb, ltb}
use lib.ListN.{length, take, drop}
use lib.Seq.{take_at, drop_at}
use borrow.Author.Tests.{ltb-true, ltb-false, lt-ltb, le-ltb}
use Rattle.std.specs.Prelude.{Err, Ok}
use Rattle.theory_laws.specs.Over.{over}
use Rattle.theory_laws.proofs.Over.{length_over}
use Rattle.theory.specs.Words.{sign_at}
use Rattle.theory.specs.Nets.{Links}
use Rattle.theory.specs.Support.{Supported}
use Rattle.theory.specs.Reasons.{written, never}
use Rattle.theory.specs.Origins.{chosen}
use Rattle.theory.specs.Sequents.{Proof}
use Rattle.theory.specs.ProofFiles.{proof_depth, proof_file, depth_limit, Proves}
use Rattle.net.specs.Table.{bad_statement}
use Rattle.net.specs.Good.{GoodStatement}
use Rattle.net.proofs.Good.{good_statement, good_kind}
use Rattle.reason.specs.Table.{filled, reason_of}
use Rattle.proof_form.specs.Ours.{our_file, our_depth}
use Rattle.proof_form.proofs.Building as building
use Rattle.proof.specs.Table.{ProofOutcome, links_of, proof_of, proved, proved_reply, Proved}
use Rattle.proof.proofs.Ours.{OurProof, our_proof}
use Rattle.proof.proofs.AfterReason.{done_proves, scratch_as_reason}
use Rattle.proof.specs.declared.ProofError.TheVariants as provedAs
use Rattle.proof_check.proofs.Exactly.{judged_exactly, faulty_exactly, no_step_exactly, judged_supported}
use Rattle.promises.specs.Engines.{Read, ours}
use Rattle.promises.specs.Numbers.{proof_number}
use Rattle.promises.specs.Reasoning.{ReasonOf}
use Rattle.promises.specs.Proving.{Proving}
use Rattle.promises.proofs.Demand1.{proof_obeys}
use Rattle.promises.proofs.Tests.{past_checks, chosen_of, away_exactly}
use Rattle.promises.proofs.Reasoning.{near, reason_of_lem}
use Rattle.promises.proofs.PlainAsked.{room, one_size}
use Rattle.promises.proofs.PlainProofs.{sized, proof_0}

module _ (o k : ℕ) (ws : List ℕ) (set x y sign : ℕ) (d l : List ℕ) where
  abbrev picked : List ℕ
  picked = chosen set ws

  abbrev all : List ℕ
  all = proof_of o picked x y sign (o + k)

  abbrev outcome : ProofOutcome
  outcome = proved o k ws set x y sign d l

  -- A proof that was done.
  record Found (size : ℕ) : Type 0 where
    read : Read o k ws set
    good : GoodStatement o (o + k) x y sign
    proves : Proves o k picked x y (sign_at sign) (take size outcome.list)
    behind : drop size outcome.list ≡ drop size l
    as_long : length outcome.list ≡ length l
    fits : size ≤ length l

  found : (size : ℕ) → outcome.answer ≡ Ok size → Found size
  found size e =
      let u = ((proof_obeys o k ws set x y sign d l).exactly 0).0 (ap (λ (r : Proved). (proved_reply r).number) e) in
      let q = (proof_obeys o k ws set x y sign d l).leaves 0 u in
      let z : length all ≡ size = ap (λ (r : Proved). (proved_reply r).first) (sym (ap (λ (r : ProofOutcome). r.answer) q) ∙ e) in
      let w : outcome.list ≡ over all l = ap (λ (r : ProofOutcome). r.list) q in
      let h : length all ≤ length l = ltb-false (length l) (length all) u.1.1.1.1.1.1.1.1.0 in
      record {
        read = (past_checks o k ws set).0 (u.0, u.1.0, u.1.1.0, u.1.1.1.0);
        good = (good_statement o (o + k) x y sign).0 u.1.1.1.1.0;
        proves = subst (Proves o k picked x y (sign_at sign)) (ap (λ (i : ℕ). take i (over all l)) z ∙ ap (take size) (sym w)) (done_proves o k ws set x y sign d l (length all) (filled picked y sign d (o + k)) (over all l) q);
        behind = ap (drop size) w ∙ drop_at all (drop (length all) l) size z ∙ ap (λ (i : ℕ). drop i l) z;
        as_long = ap length w ∙ length_over all l h;
        fits = omega (arith, h, z);
      }

  -- The reason's path, from which our proof is built, where there is a way.
  path_of : Read o k ws set → GoodStatement o (o + k) x y sign → eqb (links_of picked x y sign (o + k)) never ≡ false → OurProof o k picked x y sign
  path_of read good way =
      let net = chosen_of o k ws set read in
      our_proof o k picked x y sign net good (near o k picked x y sign net good.pair.node (good_kind good.pair) way)

  abbrev reason_by : (p : OurProof o k picked x y sign) → ReasonOf o k picked x y sign (length (written x p.xs p.ys))
  reason_by p = record { xs = p.xs; ys = p.ys; shortest = p.shortest; long = refl }

  -- What is written is our proof,
  is_ours : (size : ℕ) → outcome.answer ≡ Ok size
      → (places : ℕ) × (r : ReasonOf o k picked x y sign places) × (take size outcome.list ≡ our_file o (o + k) picked x y (sign_at sign) r.xs r.ys)
  is_ours size e =
      let f = found size e in
      let u = ((proof_obeys o k ws set x y sign d l).exactly 0).0 (ap (λ (r : Proved). (proved_reply r).number) e) in
      let q = (proof_obeys o k ws set x y sign d l).leaves 0 u in
      let z : length all ≡ size = ap (λ (r : Proved). (proved_reply r).first) (sym (ap (λ (r : ProofOutcome). r.answer) q) ∙ e) in
      let p = path_of f.read f.good u.1.1.1.1.1.1.0 in
      (length (written x p.xs p.ys), reason_by p, ap (λ (r : ProofOutcome). take size r.list) q ∙ (take_at all (drop (length all) l) size z ∙ p.list))

  -- and what is too deep is ours.
  too_deep : outcome.answer ≡ Err provedAs.TooDeep
      → (places : ℕ) × (r : ReasonOf o k picked x y sign places) × (p : Proof o k picked x y (sign_at sign))
      × (proof_file p ≡ our_file o (o + k) picked x y (sign_at sign) r.xs r.ys) × (depth_limit < proof_depth p)
  too_deep e =
      let u = ((proof_obeys o k ws set x y sign d l).exactly 11).0 (ap (λ (r : Proved). (proved_reply r).number) e) in
      let read : Read o k ws set = (past_checks o k ws set).0 (u.0, u.1.0, u.1.1.0, u.1.1.1.0) in
      let good : GoodStatement o (o + k) x y sign = (good_statement o (o + k) x y sign).0 u.1.1.1.1.0 in
      let p = path_of read good u.1.1.1.1.1.1.0 in
      let b = building.ours o k picked (chosen_of o k ws set read) x y (sign_at sign) p.xs p.ys good.pair.node (good_kind good.pair) p.shortest.path in
      let h : depth_limit < our_depth o x (links_of picked x y sign (o + k)) = ltb-true depth_limit (our_depth o x (links_of picked x y sign (o + k))) u.1.1.1.1.1.1.1 in
      let more : depth_limit < proof_depth b.proof = subst (λ (i : ℕ). depth_limit < i) (ap (our_depth o x) p.counted ∙ sym b.deep) h in
      (length (written x p.xs p.ys), reason_by p, b.proof, b.form, more)

  -- A good statement over a net, with room in the scratch and a reason.
  module _ (read : Read o k ws set) (good : GoodStatement o (o + k) x y sign) (wide : 2 * (o + k) ≤ length d) where
    -- A supported statement is done, too deep, or finds no room.
    ends : Supported o k (Links picked) x y (sign_at sign) → (outcome.answer ≡ Err provedAs.TooDeep → ⊥) → ((needed : ℕ) → outcome.answer ≡ Err (provedAs.Short needed) → ⊥)
        → (size : ℕ) × (outcome.answer ≡ Ok size)
    ends s deep short = at (ltb depth_limit (our_depth o x (links_of picked x y sign (o + k)))) refl (ltb (length l) (length all)) refl
      where
        way : eqb (links_of picked x y sign (o + k)) never ≡ false
        way = (away_exactly o k picked (chosen_of o k ws set read) x good.pair.node y (good_kind good.pair) (sign_at sign)).1 s

        bad : bad_statement o (o + k) x y sign ≡ false
        bad = (good_statement o (o + k) x y sign).1 good

        wide_enough : ltb (length d) ((o + k) + (o + k)) ≡ false
        wide_enough = (room o k ws set x y sign d l).1 wide

        at : (a : Bool) → ltb depth_limit (our_depth o x (links_of picked x y sign (o + k))) ≡ a → (b : Bool) → ltb (length l) (length all) ≡ b → (size : ℕ) × (outcome.answer ≡ Ok size)
        at true e b f =
            let t = (past_checks o k ws set).1 read in
            absurd (deep (ap (λ (r : ProofOutcome). r.answer) ((proof_obeys o k ws set x y sign d l).leaves 11 (t.0, (t.1, (t.2, (t.3, (bad, (wide_enough, (way, e))))))))))
        at false e true f =
            let t = (past_checks o k ws set).1 read in
            absurd (short (length all) (ap (λ (r : ProofOutcome). r.answer) ((proof_obeys o k ws set x y sign d l).leaves 8 (t.0, (t.1, (t.2, (t.3, (bad, (wide_enough, (way, (e, f)))))))))))
        at false e false f =
            let t = (past_checks o k ws set).1 read in
            (length all, ap (λ (r : ProofOutcome). r.answer) ((proof_obeys o k ws set x y sign d l).leaves 0 (t.0, (t.1, (t.2, (t.3, (bad, (wide_enough, (way, (e, (f, refl)))))))))))

    -- One that is done tells how many numbers are written, by the places of any shortest reason.
    done : (places : ℕ) → ReasonOf o k picked x y sign places → proof_number outcome ≡ 0 → outcome.answer ≡ Ok (cond (ltb x o) (8 * (places - 4) + 6) (8 * (places - 3) + 9))
    done places r e =
        let u = ((proof_obeys o k ws set x y sign d l).exactly 0).0 e in
        let net = chosen_of o k ws set read in
        let q = (reason_of_lem o k picked x y sign net good.pair.node (good_kind good.pair) u.1.1.1.1.1.1.0 (length (reason_of picked x y sign (o + k))) refl).0 in
        let same : length (reason_of picked x y sign (o + k)) ≡ places = one_size o k ws set x y sign d l net good (length (reason_of picked x y sign (o + k))) places q r in
        ap (λ (r : ProofOutcome). r.answer) ((proof_obeys o k ws set x y sign d l).leaves 0 u)
        ∙ ap Ok (sized o k ws set x y sign d l ∙ ap (λ (i : ℕ). cond (ltb x o) (8 * (i - 4) + 6) (8 * (i - 3) + 9)) same)

    of_object : (places : ℕ) → ReasonOf o k picked x y sign places → x < o → places ≤ 258 → 8 * (places - 4) + 6 ≤ length l → outcome.answer ≡ Ok (8 * (places - 4) + 6)
    of_object places r h small fits =
        done places r ((proof_0 o k ws set x y sign d l).1 (read, (good, (wide, (places, r, inl (h, (small, fits)))))))
        ∙ ap (λ (q : Bool). Ok (cond q (8 * (places - 4) + 6) (8 * (places - 3) + 9))) (lt-ltb x o h)

    of_kind : (places : ℕ) → ReasonOf o k picked x y sign places → o ≤ x → places ≤ 256 → 8 * (places - 3) + 9 ≤ length l → outcome.answer ≡ Ok (8 * (places - 3) + 9)
    of_kind places r h small fits =
        done places r ((proof_0 o k ws set x y sign d l).1 (read, (good, (wide, (places, r, inr (h, (small, fits)))))))
        ∙ ap (λ (q : Bool). Ok (cond q (8 * (places - 4) + 6) (8 * (places - 3) + 9))) (le-ltb x o h)

pub proving : Proving ours
proving = record {
  written = λ o k ws set x y sign d l size e. let f = found o k ws set x y sign d l size e in (f.proves, f.behind, f.as_long, f.fits);
  accepted = λ o k ws set x y sign d l size e.
      let f = found o k ws set x y sign d l size e in
      (judged_exactly o k ws set x y sign (take size (proved o k ws set x y sign d l).list)).1 ((f.read.allowed, f.read.net), f.good, f.proves);
  ours = is_ours;
  deep = too_deep;
  scratch = scratch_as_reason;
  whenever = ends;
  object = λ o k ws set x y sign d l places read good wide. of_object o k ws set x y sign d l read good wide places;
  kind = λ o k ws set x y sign d l places read good wide. of_kind o k ws set x y sign d l read good wide places;
  sound = judged_supported;
  exactly = λ o k ws set x y sign l r g. (
    (λ e. ((judged_exactly o k ws set x y sign l).0 e).2),
    λ p. (judged_exactly o k ws set x y sign l).1 ((r.allowed, r.net), g, p),
  );
  fault = λ o k ws set x y sign l r g i h. (
    (λ e. ((faulty_exactly o k ws set x y sign l i h).0 e).2),
    λ f. (faulty_exactly o k ws set x y sign l i h).1 ((r.allowed, r.net), g, f),
  );
  nowhere = λ o k ws set x y sign l r g. (
    (λ e. let n = (no_step_exactly o k ws set x y sign l).0 e in (n.2, n.3)),
    λ p. (no_step_exactly o k ws set x y sign l).1 ((r.allowed, r.net), g, p.0, p.1),
  );
}
