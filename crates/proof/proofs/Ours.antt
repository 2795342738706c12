-- What is written is our proof for the shortest reason; it proves the statement whenever it fits the depth.
use Prim.Native.Nat.{ℕ, zero, suc, ◌+◌, ◌≤◌, ◌<◌}
use mathlib.Core.Path.{◌≡◌, ap, ◌∙◌}
use mathlib.Core.Logic.{◌↔◌}
use mathlib.Core.List.{List, [], ◌∷◌, ◌++◌}
use native.Mathlib.Omega.{arith}
use lib.ListN.{length, length-append}
use Rattle.theory.specs.Words.{sign_at, word}
use Rattle.theory.specs.Nets.{Kind, Links, Net}
use Rattle.theory.specs.Reasons.{Strict, Shortest, written, never}
use Rattle.theory.specs.Support.{Supported}
use Rattle.theory.specs.ProofFiles.{depth_limit, Proves}
use Rattle.theory.proofs.reason.Reason.{reason_length, reason_shortest, reason_exactly}
use Rattle.proof_form.specs.Checker.{check_proof}
use Rattle.proof_form.specs.Ours.{our_file, our_depth}
use Rattle.proof_form.specs.FromReason.{from_reason}
use Rattle.proof_form.specs.declared.Found.TheVariants.{Right}
use Rattle.proof_form.proofs.FromReason.{from_reason_lem}
use Rattle.proof_form.proofs.Accepted.{proves_accepted}
use Rattle.proof_form.proofs.OursAccepted.{ours_proves}
use Rattle.net.specs.Good.{GoodStatement}
use Rattle.net.proofs.Good.{good_kind}
use Rattle.proof.specs.Table.{links_of, proof_of}

module _ (o k : ℕ) (ws : List ℕ) (x y sign : ℕ) where
  -- An object's reason has a link: its end is a kind.
  pub object_link : (xs ys : List ℕ) → x < o → Kind o k y → Strict (Links ws) x xs ys y (sign_at sign) → 0 < length xs + length ys
  object_link (v ∷ xs) ys h g s = omega arith
  object_link [] (v ∷ ys) h g s = omega arith
  object_link [] [] h g s = absurd (alone sign s)
    where
      alone : (sign : ℕ) → Strict (Links ws) x [] [] y (sign_at sign) → ⊥
      alone zero s = let e = s.1 in omega (arith, h, g.low, e)
      alone (suc m) s = s

  -- What is written: our list for the path that is the reason.
  pub record OurProof : Type 0 where
    pub xs : List ℕ
    pub ys : List ℕ
    pub shortest : Shortest o k (Links ws) x y (sign_at sign) xs ys
    pub counted : links_of ws x y sign (o + k) ≡ length xs + length ys
    pub list : proof_of o ws x y sign (o + k) ≡ our_file o (o + k) ws x y (sign_at sign) xs ys

  module _ (net : Net o k ws) (may : GoodStatement o (o + k) x y sign) where
    abbrev n : ℕ
    n = o + k

    abbrev links : ℕ
    links = links_of ws x y sign n

    -- There is a reason exactly if the statement is supported.
    pub links_exactly : Supported o k (Links ws) x y (sign_at sign) ↔ (links < never)
    links_exactly = reason_exactly o k ws net x may.pair.node y (good_kind may.pair) (sign_at sign)

    pub our_proof : links < never → OurProof
    our_proof h =
        let kind = good_kind may.pair in
        let r = reason_shortest o k ws net x may.pair.node y kind (sign_at sign) h in
        let long = reason_length n (sign_at sign) ws x y in
        let size = ap length r.list in
        let both = length-append r.xs r.ys in
        let m : links ≡ length (r.xs ++ r.ys) = omega (arith, long, size) in
        record {
          xs = r.xs;
          ys = r.ys;
          shortest = r.shortest;
          counted = m ∙ both;
          list = ap (λ p. from_reason o n ws x y (sign_at sign) p links) r.list
              ∙ (ap (from_reason o n ws x y (sign_at sign) (written x r.xs r.ys)) m
              ∙ from_reason_lem o n ws x y (sign_at sign) r.xs r.ys (λ g. object_link r.xs r.ys g kind r.shortest.path));
        }

    -- It proves the statement whenever it fits the depth, so it is accepted.
    pub written_proves : links < never → our_depth o x links ≤ depth_limit → Proves o k ws x y (sign_at sign) (proof_of o ws x y sign n)
    written_proves h d =
        let p = our_proof h in
        let d' : our_depth o x (length p.xs + length p.ys) ≤ depth_limit = rw p.counted at d in
        rw p.list (ours_proves o k ws net x y (sign_at sign) may.pair.node (good_kind may.pair) p.xs p.ys p.shortest.path d')

    pub written_accepted : links < never → our_depth o x links ≤ depth_limit → check_proof o n ws (word x y (sign_at sign)) (proof_of o ws x y sign n) ≡ Right
    written_accepted h d = proves_accepted o k ws net x y (sign_at sign) (good_kind may.pair) (proof_of o ws x y sign n) (written_proves h d)
