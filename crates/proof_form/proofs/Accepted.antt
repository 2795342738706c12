-- A list is accepted exactly if it is a proof of the statement within the limit; then the statement is supported.
use Prim.Native.Nat.{ℕ, suc, ◌+◌, ◌-◌, ◌*◌, ◌≤◌, ◌<◌}
use mathlib.Core.Path.{◌≡◌, refl, sym, subst, ap, ◌∙◌}
use mathlib.Core.Bool.{true, false, ◌&&◌, ◌||◌}
use mathlib.Core.List.{List, [], ◌∷◌, ◌++◌, append-nil}
use mathlib.Core.Logic.{◌↔◌}
use native.Mathlib.Omega.{arith}
use lib.Dec.{eqb, ltb}
use lib.ListN.{length, take, drop, take-append-drop, drop_of_length-le, length-append}
use lib.Seq.{length-take-le, drop-append_seam, take-append_seam}
use borrow.Author.Tests.{eqb-true, eqb-false, eq-eqb, ne_eqb, ltb-false, le-ltb}
use Rattle.theory_laws.proofs.Booleans.{and_left, and_right, or_none_left, or_none_right}
use Rattle.theory.specs.Words.{Sign, word}
use Rattle.theory.specs.Nets.{Kind, Links, Net}
use Rattle.theory.specs.Support.{Supported}
use Rattle.theory.specs.Sequents.{Proof}
use Rattle.theory.specs.ProofFiles.{Faulty, FaultAt, proof_size, proof_depth, left_steps, proof_steps, proof_branches, proof_file, depth_limit, list_limit, Proves}
use Rattle.proof_form.specs.Checker.{holds, fits, sequent, closing, check_proof}
use Rattle.proof_form.specs.declared.Walked.{Walked}
use Rattle.proof_form.specs.declared.Walked.TheVariants.{Upto, Fault, Cut}
use Rattle.proof_form.specs.declared.Found.{Found}
use Rattle.proof_form.specs.declared.Found.TheVariants.{Right, At, Nowhere}
use Rattle.proof_form.proofs.Tests.{by_test}
use Rattle.theory.proofs.sequent.Sound.{sound}
use Rattle.theory.proofs.sequent.Measures.{length_steps, length_branches}
use Rattle.proof_form.proofs.Reading.{entry, ReadProof, Listed, Reading, sequent_read}
use Rattle.proof_form.proofs.Accepting.{fitted, walks, faults}

module _ (o k : ℕ) (ws : List ℕ) (net : Net o k ws) (x y : ℕ) (s : Sign) (h : Kind o k y) where
  file_form : (p : Proof o k ws x y s) (n b e : ℕ) → n ≡ suc (left_steps p) → b ≡ suc (2 * n) → e ≡ proof_size p → n ∷ b ∷ e ∷ (proof_branches b 0 p ++ proof_steps p) ≡ proof_file p
  unfolding proof_file
  file_form p n b e en eb ee = rw (ee, eb, en)

  -- What a finding says of the list.
  abbrev Finding : List ℕ → Found → Type 0
  Finding l Right = Proves o k ws x y s l
  Finding l (At i) = FaultAt o k ws x y s l i
  Finding l Nowhere = Unit {0}

  -- The whole list: its contents, and then its steps.
  module _ (n : ℕ) (l : List ℕ) (some : 0 < n) (room : suc (2 * n) ≤ length (n ∷ l)) (short : length (n ∷ l) ≤ list_limit) where
    abbrev all : List ℕ
    all = n ∷ l

    abbrev start : ℕ
    start = suc (2 * n)

    whole : (e j : ℕ) (r : ReadProof o k ws net all start room depth_limit [] x y s 0 1 e j) → Listed o k ws net all start room 0 1 j r.proof → j ≡ n → start + 3 * e ≡ length all → fits all start 0 0 e ≡ true → Proves o k ws x y s all
    whole e j r rl ej ee f =
        let p = r.proof in
        let c = take start all in
        let n0 : start + 3 * 0 ≡ start = omega arith in
        let e0 : e - 0 ≡ e = omega arith in
        let lc : length c ≡ start = length-take-le start all room in
        let en : n ≡ suc (left_steps p) = let z = r.branched in omega (arith, z, ej) in
        let es : e ≡ proof_size p = let z = r.stepped in omega (arith, z) in
        let said : drop start all ≡ proof_steps p =
        ap (λ z. drop z all) (sym n0) ∙ (r.said ∙ (ap (λ z. proof_steps p ++ z) (drop_of_length-le all {i = start + 3 * e} (omega (arith, ee))) ∙ append-nil (proof_steps p))) in
        let f1 = and_left (holds all start (1 + 2 * 0) (start + 3 * 0)) (holds all start (2 + 2 * 0) (e - 0)) f in
        let f2 = and_right (holds all start (1 + 2 * 0) (start + 3 * 0)) (holds all start (2 + 2 * 0) (e - 0)) f in
        let behind : drop (1 + 2 * j) c ≡ [] = drop_of_length-le c {i = 1 + 2 * j} (omega (arith, lc, ej)) in
        let listed : drop (1 + 2 * 1) c ≡ proof_branches start 0 p = rl ∙ (ap (λ z. proof_branches start 0 p ++ z) behind ∙ append-nil (proof_branches start 0 p)) in
        let heads : drop 1 c ≡ start ∷ e ∷ proof_branches start 0 p = entry all start 0 (start + 3 * 0) (e - 0) room f1 f2 ∙ rw (n0, e0, listed) in
        record {
          proof = p;
          shallow = r.deep;
          short = short;
          form = sym (take-append-drop start all) ∙ (ap (λ z. (n ∷ z) ++ drop start all) heads ∙ (ap (λ z. n ∷ start ∷ e ∷ (proof_branches start 0 p ++ z)) said ∙ file_form p n start e en refl es));
        }

    closing_found : (z : Walked) → Reading o k ws net all start room depth_limit [] x y s 0 1 true z → Finding all (closing all n start z)
    unfolding closing
    closing_found (Upto e j t) r =
        by_test (Finding all) (t && (eqb j n && (eqb (start + 3 * e) (length all) && fits all start 0 0 e))) Right Nowhere
        (λ ok.
        let a = and_right t (eqb j n && (eqb (start + 3 * e) (length all) && fits all start 0 0 e)) ok in
        let b = and_right (eqb j n) (eqb (start + 3 * e) (length all) && fits all start 0 0 e) a in
        whole e j r.0 (r.1 (and_left t (eqb j n && (eqb (start + 3 * e) (length all) && fits all start 0 0 e)) ok)).1
        (eqb-true j n (and_left (eqb j n) (eqb (start + 3 * e) (length all) && fits all start 0 0 e) a))
        (eqb-true (start + 3 * e) (length all) (and_left (eqb (start + 3 * e) (length all)) (fits all start 0 0 e) b))
        (and_right (eqb (start + 3 * e) (length all)) (fits all start 0 0 e) b))
        (λ no. tt)
    closing_found (Fault i) r =
        let e : i ≡ r.later = (let z = r.place in omega arith) in
        let n0 : start + 3 * 0 ≡ start = omega arith in
        let f : Faulty o k depth_limit ws x y s (drop start all) r.later = rw n0 at r.fault in
        record { count = n; rest = l; form = refl; some = some; room = room; short = short; fault = rw e f }
    closing_found Cut r = tt

  positive : (n : ℕ) → (n ≡ 0 → ⊥) → 0 < n
  positive n h = omega (arith, h)

  found : (l : List ℕ) → Finding l (check_proof o (o + k) ws (word x y s) l)
  unfolding check_proof
  found [] = tt
  found (n ∷ l) = by_test (Finding (n ∷ l)) (ltb list_limit (length (n ∷ l))) Nowhere _ (λ f. tt)
      (λ f. by_test (Finding (n ∷ l)) (eqb n 0 || ltb (length (n ∷ l)) (suc (2 * n))) Nowhere _ (λ e. tt)
      (λ e.
      let room = ltb-false (length (n ∷ l)) (suc (2 * n)) (or_none_right (eqb n 0) (ltb (length (n ∷ l)) (suc (2 * n))) e) in
      closing_found n l (positive n (eqb-false n 0 (or_none_left (eqb n 0) (ltb (length (n ∷ l)) (suc (2 * n))) e))) room (ltb-false list_limit (length (n ∷ l)) f) (sequent o (o + k) ws (n ∷ l) (suc (2 * n)) depth_limit [] (word x y s) 0 1 true) (sequent_read o k ws net (n ∷ l) (suc (2 * n)) room depth_limit [] x y s 0 1 true h)))

  -- What is accepted is a proof.
  pub accepted_proves : (l : List ℕ) → check_proof o (o + k) ws (word x y s) l ≡ Right → Proves o k ws x y s l
  accepted_proves l e = subst (Finding l) e (found l)

  -- A proof within the limit is accepted.
  file_accepted : (p : Proof o k ws x y s) → proof_depth p ≤ depth_limit → length (proof_file p) ≤ list_limit → check_proof o (o + k) ws (word x y s) (proof_file p) ≡ Right
  unfolding check_proof proof_file closing
  file_accepted p hd hl =
      let n = suc (left_steps p) in
      let b = suc (2 * n) in
      let l = n ∷ b ∷ proof_size p ∷ (proof_branches b 0 p ++ proof_steps p) in
      let c = n ∷ b ∷ proof_size p ∷ proof_branches b 0 p in
      let lb : length (proof_branches b 0 p) ≡ 2 * left_steps p = length_branches b 0 p in
      let lc : length c ≡ b = omega arith in
      let ls = length_steps p in
      let la = length-append (proof_branches b 0 p) (proof_steps p) in
      let ll : length l ≡ b + 3 * proof_size p = omega arith in
      let room : b ≤ length l = omega arith in
      let tk : take b l ≡ c = ap (λ z. take z l) (sym lc) ∙ take-append_seam c (proof_steps p) in
      let n0 : b + 3 * 0 ≡ b = omega arith in
      let dk : drop (b + 3 * 0) l ≡ proof_steps p ++ [] = rw (n0, append-nil (proof_steps p)) (ap (λ z. drop z l) (sym lc) ∙ drop-append_seam c (proof_steps p)) in
      let db : drop (1 + 2 * 1) (take b l) ≡ proof_branches b 0 p ++ [] = ap (drop 3) tk ∙ sym (append-nil (proof_branches b 0 p)) in
      let run = walks o k ws net l b room p [] refl h depth_limit 0 1 true [] hd dk in
      let ok : run.fit ≡ true = run.kept [] db in
      let d0 : drop (1 + 2 * 0) (take b l) ≡ b ∷ proof_size p ∷ proof_branches b 0 p = ap (drop 1) tk in
      let fit : fits l b 0 0 (0 + proof_size p) ≡ true = fitted o k ws net l b room 0 b (proof_size p) 0 (0 + proof_size p) (proof_branches b 0 p) d0 (sym n0) refl in
      let e0 : ltb list_limit (length l) ≡ false = le-ltb list_limit (length l) hl in
      let e1 : eqb n 0 ≡ false = ne_eqb n 0 (λ z. omega (arith, z)) in
      let e2 : ltb (length l) b ≡ false = le-ltb (length l) b room in
      let e3 : eqb (1 + left_steps p) n ≡ true = eq-eqb (1 + left_steps p) n (omega arith) in
      let e4 : eqb (b + 3 * (0 + proof_size p)) (length l) ≡ true = eq-eqb (b + 3 * (0 + proof_size p)) (length l) (omega (arith, ll)) in
      rw (e0, e1, e2, run.walked, ok, e3, e4, fit)

  pub proves_accepted : (l : List ℕ) → Proves o k ws x y s l → check_proof o (o + k) ws (word x y s) l ≡ Right
  proves_accepted l p = rw p.form (file_accepted p.proof p.shallow (rw p.form at p.short))

  -- A list is accepted exactly if it is a proof of the statement within the limits.
  pub accepted_exactly : (l : List ℕ) → (check_proof o (o + k) ws (word x y s) l ≡ Right) ↔ Proves o k ws x y s l
  accepted_exactly l = (accepted_proves l, proves_accepted l)

  -- An accepted proof means a supported statement.
  pub accepted_supported : x < o + k → (l : List ℕ) → check_proof o (o + k) ws (word x y s) l ≡ Right → Supported o k (Links ws) x y s
  accepted_supported hx l e = sound o k ws net x y s hx h (accepted_proves l e).proof

  -- A step is found at fault exactly if it is the first at fault.
  found_fault : (l : List ℕ) (i : ℕ) → check_proof o (o + k) ws (word x y s) l ≡ At i → FaultAt o k ws x y s l i
  found_fault l i e = subst (Finding l) e (found l)

  list_fault : (n : ℕ) (l : List ℕ) (i : ℕ) → 0 < n → suc (2 * n) ≤ length (n ∷ l) → length (n ∷ l) ≤ list_limit → Faulty o k depth_limit ws x y s (drop (suc (2 * n)) (n ∷ l)) i
      → check_proof o (o + k) ws (word x y s) (n ∷ l) ≡ At i
  unfolding check_proof closing
  list_fault n l i some room short f =
      let b = suc (2 * n) in
      let n0 : b + 3 * 0 ≡ b = omega arith in
      let at : drop (b + 3 * 0) (n ∷ l) ≡ drop b (n ∷ l) = ap (λ z. drop z (n ∷ l)) n0 in
      let run = faults o k ws net (n ∷ l) b room f [] refl h 0 1 true at in
      let e0 : ltb list_limit (length (n ∷ l)) ≡ false = le-ltb list_limit (length (n ∷ l)) short in
      let e1 : eqb n 0 ≡ false = ne_eqb n 0 (λ z. omega (arith, some, z)) in
      let e2 : ltb (length (n ∷ l)) b ≡ false = le-ltb (length (n ∷ l)) b room in
      let e3 : 0 + i ≡ i = omega arith in
      rw (e0, e1, e2, run, e3)

  fault_found : (l : List ℕ) (i : ℕ) → FaultAt o k ws x y s l i → check_proof o (o + k) ws (word x y s) l ≡ At i
  fault_found l i f =
      let r : suc (2 * f.count) ≤ length (f.count ∷ f.rest) = rw f.form at f.room in
      let s : length (f.count ∷ f.rest) ≤ list_limit = rw f.form at f.short in
      rw f.form (list_fault f.count f.rest i f.some r s (rw f.form at f.fault))

  pub fault_exactly : (l : List ℕ) (i : ℕ) → (check_proof o (o + k) ws (word x y s) l ≡ At i) ↔ FaultAt o k ws x y s l i
  fault_exactly l i = (found_fault l i, fault_found l i)

  -- No one step is found exactly if the list is no proof and none of its steps is the first at fault.
  nowhere : (l : List ℕ) → (Proves o k ws x y s l → ⊥) → ((i : ℕ) → FaultAt o k ws x y s l i → ⊥) → (z : Found) → Finding l z → z ≡ Nowhere
  nowhere l n m Right f = absurd (n f)
  nowhere l n m (At i) f = absurd (m i f)
  nowhere l n m Nowhere f = refl

  -- The three findings are told apart by their numbers.
  numbered : Found → ℕ
  numbered Right = 0
  numbered (At i) = 1
  numbered Nowhere = 2

  pub nowhere_exactly : (l : List ℕ) → (check_proof o (o + k) ws (word x y s) l ≡ Nowhere) ↔ ((Proves o k ws x y s l → ⊥) × ((i : ℕ) → FaultAt o k ws x y s l i → ⊥))
  unfolding numbered
  nowhere_exactly l = (
    (λ e. (
      (λ p. let z = ap numbered (sym e ∙ proves_accepted l p) in omega (arith, z)),
      λ i f. let z = ap numbered (sym e ∙ fault_found l i f) in omega (arith, z),
    )),
    λ c. nowhere l c.0 c.1 (check_proof o (o + k) ws (word x y s) l) (found l),
  )
