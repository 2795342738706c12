-- What the reason gives decides the whole outcome: its refusals are passed on, no room for it means a proof that is too deep, and its path is turned
-- into our list.
use Rattle.proof.specs.declared.ProofError.TheVariants.{Refused, TooDeep, Unsupported}
use Rattle.reason.specs.declared.ReasonError.TheVariants as reason
use Rattle.std.specs.Prelude.{Err, Ok}
use Prim.Native.Nat.{ℕ, ◌+◌, ◌-◌, ◌≤◌, ◌<◌}
use mathlib.Core.Path.{◌≡◌, refl, sym, subst, ap, ◌∙◌}
use mathlib.Core.Bool.{Bool, true, false, cond}
use mathlib.Core.List.{List, [], ◌∷◌, ◌++◌}
use mathlib.Core.Logic.{◌⊎◌, inl, inr}
use native.Mathlib.Omega.{arith}
use lib.Dec.{eqb, ltb}
use lib.ListN.{length, take, drop, length-append, length-take}
use lib.Seq.{take_at}
use borrow.Author.Tests.{eqb-false, ltb-true, ltb-false, lt-ltb}
use Rattle.theory_laws.proofs.Booleans.{cond_same}
use Rattle.theory.specs.Words.{sign_at}
use Rattle.theory.specs.Reasons.{never}
use Rattle.theory.specs.Origins.{chosen, NetFrom}
use Rattle.theory.specs.ProofFiles.{depth_limit, Proves}
use Rattle.theory.proofs.origins.Statements.{chosen_net}
use Rattle.theory.proofs.reason.Distances.{distances_small}
use Rattle.theory.proofs.reason.Reason.{reason_length, reason_shortest}
use Rattle.net.specs.Clauses.{Clause, clause, call}
use Rattle.net.specs.Table.{net_clauses, check_net, bad_statement}
use Rattle.net.specs.Good.{GoodStatement}
use Rattle.net.specs.declared.Refusal.TheVariants.{BadQuestion, ShortBuffer}
use Rattle.net.specs.Table.{Checked}
use Rattle.net.proofs.NetCheck.{nodes_exactly}
use Rattle.net.proofs.OnNet.{passed_on, gone_on}
use Rattle.net.proofs.Good.{good_statement, good_kind}
use Rattle.reason.specs.Table.{ReasonOutcome, reason_outcome, filled, reason_of, reason_clauses, reason_done, reason_table, reasoned}
use Rattle.reason.specs.Table.{Reasoned}
use Rattle.proof_form.specs.Ours.{our_depth}
use Rattle.proof_given.specs.Held.{Entered}
use Rattle.proof_form.proofs.Tests.{by_test}
use Rattle.proof.specs.Table.{without_reason, ProofOutcome, proof_outcome, links_of, proof_of, room_clauses, room_done, proof_clauses, proof_done, proof_table, proved}
use Rattle.proof.specs.Listed.{listed}
use Rattle.proof.proofs.Ours.{object_link, written_proves}
use Rattle.proof.specs.Table.{Proved}

-- ── a call turned into another ──
-- The clauses with their outcomes turned.
abbrev turned : {A B : Type 0} → (A → B) → List (Clause A) → List (Clause B)
turned f [] = []
turned f (c ∷ cs) = clause c.number c.applies (f c.outcome) ∷ turned f cs

turned_call : {A B : Type 0} (f : A → B) (cs : List (Clause A)) (done : A) → f (call cs done) ≡ call (turned f cs) (f done)
turned_call f [] done = refl
turned_call f (c ∷ cs) done = at c.applies (turned_call f cs done)
  where
    at : (b : Bool) → f (call cs done) ≡ call (turned f cs) (f done) → f (cond b c.outcome (call cs done)) ≡ cond b (f c.outcome) (call (turned f cs) (f done))
    at true e = refl
    at false e = e

-- The same clauses in front of two calls that agree.
same_front : {A : Type 0} (cs ts us : List (Clause A)) (a b : A) → call ts a ≡ call us b → call (cs ++ ts) a ≡ call (cs ++ us) b
same_front [] ts us a b e = e
same_front (c ∷ cs) ts us a b e = ap (cond c.applies c.outcome) (same_front cs ts us a b e)

-- A distance that is not `never` is below it.
below : (o k : ℕ) (ws : List ℕ) (set x y sign : ℕ) → NetFrom o k ws → GoodStatement o (o + k) x y sign → (links_of (chosen set ws) x y sign (o + k) ≡ never → ⊥)
    → links_of (chosen set ws) x y sign (o + k) < never
below o k ws set x y sign net may h = pick (distances_small o k (chosen set ws) (chosen_net set o k ws net) y (good_kind may.pair) (sign_at sign) x)
  where
    pick : (links_of (chosen set ws) x y sign (o + k) < o + k + (o + k)) ⊎ (links_of (chosen set ws) x y sign (o + k) ≡ never) → links_of (chosen set ws) x y sign (o + k) < never
    pick (inl g) = let few = net.few in omega (arith, g, few)
    pick (inr e) = absurd (h e)

module _ (o k : ℕ) (ws : List ℕ) (set x y sign : ℕ) (d l p : List ℕ) (room : length p ≡ 258) where
  abbrev n : ℕ
  n = o + k

  abbrev vs : List ℕ
  vs = chosen set ws

  -- What the writer makes of the reason's answer, the scratch and the path that it leaves.
  abbrev pub afterwards : Reasoned → List ℕ → List ℕ → ProofOutcome
  afterwards (Ok size) past q = listed o n vs x y sign (take size q) past l
  afterwards (Err e) past q = proof_outcome (Err (without_reason e)) past l

  abbrev turn : ReasonOutcome → ProofOutcome
  turn z = afterwards z.answer z.scratch z.list

  abbrev all : List ℕ
  all = reason_of vs x y sign n

  abbrev links : ℕ
  links = links_of vs x y sign n

  long : length all ≡ 3 + links
  long = reason_length n (sign_at sign) vs x y

  -- A reason that finds no room is of a proof that is too deep.
  no_room : 258 < 3 + links → depth_limit < our_depth o x links
  unfolding our_depth
  no_room h = at (ltb x o)
    where
      at : (b : Bool) → depth_limit < cond b links (links + 2)
      at true = omega (arith, h)
      at false = omega (arith, h)

  room_same : (past : List ℕ) → cond (ltb (length p) (length all)) (proof_outcome (Err TooDeep) past l) (listed o n vs x y sign (take (length all) (all ++ drop (length all) p)) past l)
      ≡ call (room_clauses (our_depth o x links) (proof_of o vs x y sign n) past l) (room_done (proof_of o vs x y sign n) past l)
  room_same past =
      let e : take (length all) (all ++ drop (length all) p) ≡ all = take_at all (drop (length all) p) (length all) refl in
      let m : length all - 3 ≡ links = omega (arith, long) in
      rw (e, m) (at (ltb (length p) (length all)) refl)
    where
      at : (b : Bool) → ltb (length p) (length all) ≡ b
          → cond b (proof_outcome (Err TooDeep) past l) (call (room_clauses (our_depth o x links) (proof_of o vs x y sign n) past l) (room_done (proof_of o vs x y sign n) past l))
          ≡ call (room_clauses (our_depth o x links) (proof_of o vs x y sign n) past l) (room_done (proof_of o vs x y sign n) past l)
      at true e =
          let h = ltb-true (length p) (length all) e in
          rw (lt-ltb depth_limit (our_depth o x links) (no_room (omega (arith, h, room, long))))
      at false e = refl

  after_reason : turn (reasoned o k ws set x y sign d p) ≡ proved o k ws set x y sign d l
  after_reason =
      turned_call turn (reason_table o k ws set x y sign d p) (reason_done vs x y sign d p n)
      ∙ same_front
      (net_clauses (λ r. proof_outcome (Err (Refused r)) d l) o k ws set
      (clause 4 (bad_statement o n x y sign) (proof_outcome (Err (Refused BadQuestion)) d l)
      ∷ clause 5 (ltb (length d) (n + n)) (proof_outcome (Err (Refused ShortBuffer)) d l)
      ∷ clause 7 (eqb links never) (proof_outcome (Err Unsupported) (filled vs y sign d n) l)
      ∷ []))
      (clause 8 (ltb (length p) (length all)) (proof_outcome (Err TooDeep) (filled vs y sign d n) l) ∷ [])
      (room_clauses (our_depth o x links) (proof_of o vs x y sign n) (filled vs y sign d n) l)
      (listed o n vs x y sign (take (length all) (all ++ drop (length all) p)) (filled vs y sign d n) l)
      (room_done (proof_of o vs x y sign n) (filled vs y sign d n) l)
      (room_same (filled vs y sign d n))

  module _ (found : Reasoned) (past q : List ℕ) (e : reason_outcome found past q ≡ reasoned o k ws set x y sign d p) where
    -- The writer's outcome is what it makes of the reason's.
    pub answered : (z : Reasoned) → found ≡ z → {r : ProofOutcome} → r ≡ afterwards z past q → r ≡ proved o k ws set x y sign d l
    answered z f g = g ∙ (ap (λ w. afterwards w past q) (sym f) ∙ (ap turn e ∙ after_reason))

  -- ── what is known where a reason was written ──
  pub record Ready (size : ℕ) (q : List ℕ) : Type 0 where
    pub net : NetFrom o k ws
    pub may : GoodStatement o n x y sign
    pub reached : links < never
    pub sized : size ≡ length all
    pub fits : length all ≤ 258
    pub path : take size q ≡ all

  abbrev Known : Reasoned → List ℕ → Type 0
  Known (Ok size) q = Ready size q
  Known (Err e) q = Unit {0}

  abbrev known : ReasonOutcome → Type 0
  known z = Known z.answer z.list

  clauses_known : NetFrom o k ws → known (call (reason_clauses o vs x y sign d p n) (reason_done vs x y sign d p n))
  clauses_known net =
      by_test known (bad_statement o n x y sign) _ _ (λ e. tt) (λ good.
      by_test known (ltb (length d) (n + n)) _ _ (λ e. tt) (λ wide.
      by_test known (eqb links never) _ _ (λ e. tt) (λ way.
      by_test known (ltb (length p) (length all)) _ _ (λ e. tt) (λ fit.
      let may = (good_statement o n x y sign).0 good in
      record {
        net = net;
        may = may;
        reached = below o k ws set x y sign net may (eqb-false links never way);
        sized = refl;
        fits = let h = ltb-false (length p) (length all) fit in omega (arith, h, room);
        path = take_at all (drop (length all) p) (length all) refl;
      }))))

  reasoned_known : (c : Checked) → check_net o k ws set ≡ c → known (reasoned o k ws set x y sign d p)
  reasoned_known (Ok m) e =
      let g = (nodes_exactly o k ws set m).0 e in
      let e' : check_net o k ws set ≡ Ok n = e ∙ ap Ok g.0 in
      subst known (gone_on (λ r. reason_outcome (Err (reason.Refused r)) d p) o k ws set (reason_clauses o vs x y sign d p) (reason_done vs x y sign d p) e' refl) (clauses_known g.2)
  reasoned_known (Err r) e =
      subst known (passed_on (λ r. reason_outcome (Err (reason.Refused r)) d p) o k ws set (reason_clauses o vs x y sign d p) (reason_done vs x y sign d p) e) tt

  pub done_ready : (found : Reasoned) (past q : List ℕ) (size : ℕ) → reason_outcome found past q ≡ reasoned o k ws set x y sign d p → found ≡ Ok size → Ready size q
  done_ready found past q size e f = subst (λ z. Known z q) f (subst known (sym e) (reasoned_known (check_net o k ws set) refl))

  object_links : (size : ℕ) (q : List ℕ) → Ready size q → x < o → 3 < size
  object_links size q r h =
      let kind = good_kind r.may.pair in
      let w = reason_shortest o k vs (chosen_net set o k ws r.net) x r.may.pair.node y kind (sign_at sign) r.reached in
      let a = object_link o k vs x y sign w.xs w.ys h kind w.shortest.path in
      let b = ap length w.list in
      let c = length-append w.xs w.ys in
      let z = r.sized in omega (arith, a, b, c, z)

  -- The path that was written, lent once more.
  pub ready_length : (size : ℕ) (q : List ℕ) → Ready size q → length (take size q) ≡ size
  ready_length size q r = ap length r.path ∙ sym r.sized

  pub ready_room : (size : ℕ) (q : List ℕ) → Ready size q → size ≤ length q
  ready_room size q r = let a = ready_length size q r in let b = length-take size q in omega (arith, a, b)

  pub ready_put : (size : ℕ) (q : List ℕ) → Ready size q
      → Entered ws × ((3 ≤ length (take size q)) × (length (take size q) ≤ 258) × (n ≤ 1024) × (x ≤ 1024) × (y ≤ 1024) × (sign ≤ 1) × (x < o → 3 < length (take size q)))
  ready_put size q r =
      let e = ready_length size q r in
      let z = r.sized in
      let f = r.fits in
      let w = r.net.few in
      let hx = r.may.pair.node in
      let hy = r.may.pair.high in (
        (λ w m. (r.net.legal w m).origin),
        (omega (arith, e, z, long), omega (arith, e, z, f), omega (arith, w), omega (arith, w, hx), omega (arith, w, hy), r.may.signed, λ h. let g = object_links size q r h in omega (arith, e, g)),
      )

-- ── what is done ──
-- Where the writer is done, what stands in front of the list proves the statement from the chosen words.
module _ (o k : ℕ) (ws : List ℕ) (set x y sign : ℕ) (d l : List ℕ) where
  abbrev Proven : Proved → List ℕ → Type 0
  Proven (Ok m) q = Proves o k (chosen set ws) x y (sign_at sign) (take m q)
  Proven (Err e) q = Unit {0}

  abbrev proven : ProofOutcome → Type 0
  proven z = Proven z.answer z.list

  clauses_proven : NetFrom o k ws → proven (call (proof_clauses o (chosen set ws) x y sign d l (o + k)) (proof_done o (chosen set ws) x y sign d l (o + k)))
  clauses_proven net =
      let vs = chosen set ws in
      let links = links_of vs x y sign (o + k) in
      let all = proof_of o vs x y sign (o + k) in
      by_test proven (bad_statement o (o + k) x y sign) _ _ (λ e. tt) (λ good.
      by_test proven (ltb (length d) (o + k + (o + k))) _ _ (λ e. tt) (λ wide.
      by_test proven (eqb links never) _ _ (λ e. tt) (λ way.
      by_test proven (ltb depth_limit (our_depth o x links)) _ _ (λ e. tt) (λ deep.
      by_test proven (ltb (length l) (length all)) _ _ (λ e. tt) (λ fit.
      let may = (good_statement o (o + k) x y sign).0 good in
      let p = written_proves o k vs x y sign (chosen_net set o k ws net) may (below o k ws set x y sign net may (eqb-false links never way)) (ltb-false depth_limit (our_depth o x links) deep) in
      rw (take_at all (drop (length all) l) (length all) refl) p)))))

  outcome_proven : (c : Checked) → check_net o k ws set ≡ c → proven (proved o k ws set x y sign d l)
  outcome_proven (Ok m) e =
      let g = (nodes_exactly o k ws set m).0 e in
      let e' : check_net o k ws set ≡ Ok (o + k) = e ∙ ap Ok g.0 in
      subst proven (gone_on (λ r. proof_outcome (Err (Refused r)) d l) o k ws set (proof_clauses o (chosen set ws) x y sign d l) (proof_done o (chosen set ws) x y sign d l) e' refl) (clauses_proven g.2)
  outcome_proven (Err r) e =
      subst proven (passed_on (λ r. proof_outcome (Err (Refused r)) d l) o k ws set (proof_clauses o (chosen set ws) x y sign d l) (proof_done o (chosen set ws) x y sign d l) e) tt

  pub done_proves : (m : ℕ) (past q : List ℕ) → proved o k ws set x y sign d l ≡ proof_outcome (Ok m) past q → Proves o k (chosen set ws) x y (sign_at sign) (take m q)
  done_proves m past q e = subst proven e (outcome_proven (check_net o k ws set) refl)

-- ── the scratch ──
-- Clauses that all leave the same.
always : {A : Type 0} (a : A) (b c d : Bool) → cond b a (cond c a a) ≡ cond d a a
always a b c d = three b (cond_same c a) ∙ sym (cond_same d a)
  where
    three : (b : Bool) → cond c a a ≡ a → cond b a (cond c a a) ≡ a
    three true e = refl
    three false e = e

-- The writer leaves the scratch as the reason does, whatever list the reason gets.
pub scratch_as_reason : (o k : ℕ) (ws : List ℕ) (set x y sign : ℕ) (d l m : List ℕ) → (proved o k ws set x y sign d l).scratch ≡ (reasoned o k ws set x y sign d m).scratch
scratch_as_reason o k ws set x y sign d l m =
    let n = o + k in
    let vs = chosen set ws in
    let links = links_of vs x y sign n in
    let past = filled vs y sign d n in
    let deep = ltb depth_limit (our_depth o x links) in
    let short = ltb (length l) (length (proof_of o vs x y sign n)) in
    let shorter = ltb (length m) (length (reason_of vs x y sign n)) in
    turned_call (λ (z : ProofOutcome). z.scratch) (proof_table o k ws set x y sign d l) (proof_done o vs x y sign d l n)
    ∙ (same_front
    (net_clauses (λ r. d) o k ws set (clause 4 (bad_statement o n x y sign) d ∷ clause 5 (ltb (length d) (n + n)) d ∷ clause 7 (eqb links never) past ∷ []))
    (clause 11 deep past ∷ clause 8 short past ∷ [])
    (clause 8 shorter past ∷ [])
    past
    past
    (always past deep short shorter)
    ∙ sym (turned_call (λ (z : ReasonOutcome). z.scratch) (reason_table o k ws set x y sign d m) (reason_done vs x y sign d m n)))
