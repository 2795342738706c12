-- What a reason that is found leaves: a list of its shape, over a net that passed the check.
use Rattle.explain.specs.declared.ExplainError.TheVariants as explaining-answers
use Rattle.reason.specs.declared.ReasonError.{ReasonError}
use Rattle.reason.specs.declared.ReasonError.TheVariants.{Refused, Short, Unsupported}
use Rattle.std.specs.Prelude.{Err, Ok}
use Prim.Native.Nat.{ℕ, suc, ◌+◌, ◌*◌, ◌≤◌, ◌<◌}
use mathlib.Core.Path.{◌≡◌, refl, sym, ap, ◌∙◌}
use mathlib.Core.Bool.{Bool, true, false, cond, ◌||◌}
use mathlib.Core.List.{List, [], ◌∷◌, ◌++◌}
use native.Mathlib.Omega.{arith}
use borrow.Author.Tests.{eqb-false}
use lib.Dec.{eqb, ltb}
use lib.ListN.{length, get_or, take, drop, length-append, length-map}
use lib.Seq.{take-append_seam}
use Rattle.theory_laws.specs.Over.{over}
use Rattle.theory.specs.Words.{sign_at}
use Rattle.theory.specs.Origins.{set_limit, chosen, NetFrom}
use Rattle.theory.specs.Reasons.{never, Distance, reached, lost}
use Rattle.theory.specs.Searches.{distances, reason_states, firsts, node_of, reason_list}
use Rattle.theory.proofs.reason.Distances.{distances_right}
use Rattle.theory.proofs.reason.Reason.{reason_length}
use Rattle.theory.proofs.origins.Statements.{chosen_net}
use Rattle.net.specs.Clauses.{Clause, clause, call}
use Rattle.net.specs.Table.{net_clauses, check_net, bad_statement, Checked}
use Rattle.net.specs.Good.{GoodStatement}
use Rattle.net.specs.declared.Refusal.{Refusal}
use Rattle.net.specs.declared.Refusal.TheVariants.{BadQuestion, ShortBuffer}
use Rattle.net.proofs.NetCheck.{nodes_exactly}
use Rattle.net.proofs.OnNet.{passed_on, gone_on}
use Rattle.net.proofs.Good.{good_statement, good_kind}
use Rattle.reason.specs.Table.{ReasonOutcome, reason_outcome, filled, reason_of, reason_clauses, reason_done, reason_table, reasoned, Reasoned}
use Rattle.derivation_lines.specs.Flat.{flat, derive_list}
use Rattle.derivation_lines.proofs.Known.{net_known}
use Rattle.explain.specs.Shape.{Shaped}
use Rattle.explain.specs.Table.{ExplainOutcome, explain_outcome, explaining, no_room, roomless, support_clauses, explained, Explained}
use Rattle.explain.specs.Found.{write_lines, without_reason, explained_by}

firsts_most : (n : ℕ) (p : List ℕ) → firsts n p ≤ length p
unfolding firsts
firsts_most n [] = omega arith
firsts_most n (v ∷ p) = at (ltb v n) (firsts_most n p)
  where
    at : (b : Bool) → firsts n p ≤ length p → cond {A = ℕ} b 1 0 + firsts n p ≤ suc (length p)
    at true h = omega arith
    at false h = omega arith

-- A done reason came through all five tests of its table.
record Through (bad short away small : Bool) (size : ℕ) (all m m' : List ℕ) : Type 0 where
  pub asked : bad ≡ false
  pub far : away ≡ false
  pub size_is : size ≡ length all
  pub list_is : m' ≡ all ++ drop (length all) m

through : (bad short away small : Bool) (size : ℕ) (all d d₂ d' m m' : List ℕ)
    → reason_outcome (Ok size) d' m'
    ≡ cond bad (reason_outcome (Err (Refused BadQuestion)) d m)
    (cond short (reason_outcome (Err (Refused ShortBuffer)) d m)
    (cond away (reason_outcome (Err Unsupported) d₂ m)
    (cond small (reason_outcome (Err (Short (length all))) d₂ m)
    (reason_outcome (Ok (length all)) d₂ (all ++ drop (length all) m)))))
    → Through bad short away small size all m m'
through true short away small size all d d₂ d' m m' e = let f : Ok size ≡ Err (Refused BadQuestion) = ap (λ (r : ReasonOutcome). r.answer) e in let z : ◌≡◌ {A = ℕ} 0 1 = cc in absurd (omega arith)
through false true away small size all d d₂ d' m m' e = let f : Ok size ≡ Err (Refused ShortBuffer) = ap (λ (r : ReasonOutcome). r.answer) e in let z : ◌≡◌ {A = ℕ} 0 1 = cc in absurd (omega arith)
through false false true small size all d d₂ d' m m' e = let f : Ok size ≡ Err Unsupported = ap (λ (r : ReasonOutcome). r.answer) e in let z : ◌≡◌ {A = ℕ} 0 1 = cc in absurd (omega arith)
through false false false true size all d d₂ d' m m' e = let f : Ok size ≡ Err (Short (length all)) = ap (λ (r : ReasonOutcome). r.answer) e in let z : ◌≡◌ {A = ℕ} 0 1 = cc in absurd (omega arith)
through false false false false size all d d₂ d' m m' e =
    let f : Ok size ≡ Ok (length all) = ap (λ (r : ReasonOutcome). r.answer) e in
    record { asked = refl; far = refl; size_is = cc; list_is = ap (λ (r : ReasonOutcome). r.list) e }

near : (E : ℕ → ℕ → Type 0) (t s d : ℕ) → Distance E t s d → (d ≡ never → ⊥) → d < never
near E t s d (reached h p r e w) n = h
near E t s d (lost e w) n = absurd (n e)

shape_of : (n x : ℕ) (p : List ℕ) → (3 ≤ length (reason_list n x p)) × (1 ≤ get_or (reason_list n x p) 0 0) × (get_or (reason_list n x p) 0 0 + 2 ≤ length (reason_list n x p))
unfolding reason_list
shape_of n x p = (omega (arith, length-map p (node_of n)), omega arith, omega (arith, length-map p (node_of n), firsts_most n p))

-- A reason stands in the first `size` places of m.
pub record Found (o k : ℕ) (ws : List ℕ) (set x y sign size : ℕ) (m : List ℕ) : Type 0 where
  pub low : set ≤ set_limit
  pub net : NetFrom o k ws
  pub may : GoodStatement o (o + k) x y sign
  pub far : get_or (distances (o + k) (sign_at sign) (chosen set ws) y) x never < never
  pub inside : size ≤ length m
  pub front : take size m ≡ reason_of (chosen set ws) x y sign (o + k)
  pub long : size ≡ length (reason_of (chosen set ws) x y sign (o + k))

module _ (o k : ℕ) (ws : List ℕ) (set x y sign : ℕ) (d m : List ℕ) (size : ℕ) (d' m' : List ℕ) where
  abbrev refused : Refusal → ReasonOutcome
  refused r = reason_outcome (Err (Refused r)) d m

  on_net : set ≤ set_limit → NetFrom o k ws
      → reason_outcome (Ok size) d' m' ≡ call (reason_clauses o (chosen set ws) x y sign d m (o + k)) (reason_done (chosen set ws) x y sign d m (o + k))
      → Found o k ws set x y sign size m'
  on_net low net e =
      let n = o + k in
      let s = sign_at sign in
      let cs = chosen set ws in
      let all = reason_of cs x y sign n in
      let t =
      through (bad_statement o n x y sign) (ltb (length d) (n + n)) (eqb (get_or (distances n s cs y) x never) never) (ltb (length m) (length all)) size all d
      (filled cs y sign d n) d' m m' e in
      let may = (good_statement o n x y sign).0 t.asked in
      record {
        low = low;
        net = net;
        may = may;
        far = near _ _ x _ (distances_right o k cs (chosen_net set o k ws net) y (good_kind may.pair) s x (omega (arith, may.pair.node))) (eqb-false _ never t.far);
        inside = omega (arith, ap length t.list_is, length-append all (drop (length all) m), t.size_is);
        front = rw (t.list_is, t.size_is) (take-append_seam all (drop (length all) m));
        long = t.size_is;
      }

  -- A done reason is found.
  pub done_found : reason_outcome (Ok size) d' m' ≡ reasoned o k ws set x y sign d m → Found o k ws set x y sign size m'
  done_found e = at (check_net o k ws set) refl
    where
      at : (c : Checked) → check_net o k ws set ≡ c → Found o k ws set x y sign size m'
      at (Ok n) f =
          let g = (nodes_exactly o k ws set n).0 f in
          on_net g.1 g.2
          (e ∙ sym (gone_on refused o k ws set (reason_clauses o (chosen set ws) x y sign d m) (reason_done (chosen set ws) x y sign d m) ((nodes_exactly o k ws set (o + k)).1 (refl, g.1, g.2)) refl))
      at (Err q) f =
          let g : Ok size ≡ Err (Refused q) =
          ap (λ (r : ReasonOutcome). r.answer) (e ∙ sym (passed_on refused o k ws set (reason_clauses o (chosen set ws) x y sign d m) (reason_done (chosen set ws) x y sign d m) f)) in
          let z : ◌≡◌ {A = ℕ} 0 1 = cc in
          absurd (omega arith)

-- Then the list has the shape that the writer of lines asks for.
pub found_shape : (o k : ℕ) (ws : List ℕ) (set x y sign size : ℕ) (m : List ℕ) → Found o k ws set x y sign size m → Shaped ws size m
found_shape o k ws set x y sign size m f =
    let w = shape_of (o + k) x (reason_states (o + k) (sign_at sign) (chosen set ws) x y) in
    record {
      known = net_known ws f.net;
      inside = f.inside;
      long = rw f.front w.0;
      short = rw f.front (omega (arith, reason_length (o + k) (sign_at sign) (chosen set ws) x y, f.far));
      some = rw f.front w.1;
      fits = rw f.front w.2;
    }

-- A call whose outcome is worked on is the call of a table whose outcomes are.
abbrev worked : {A B : Type 0} → (A → B) → List (Clause A) → List (Clause B)
worked f [] = []
worked f (c ∷ cs) = clause c.number c.applies (f c.outcome) ∷ worked f cs

call_worked : {A B : Type 0} (f : A → B) (cs : List (Clause A)) (done : A) → f (call cs done) ≡ call (worked f cs) (f done)
call_worked f [] done = refl
call_worked f (c ∷ cs) done = at c.applies (call_worked f cs done)
  where
    at : (b : Bool) → f (call cs done) ≡ call (worked f cs) (f done) → f (cond b c.outcome (call cs done)) ≡ cond b (f c.outcome) (call (worked f cs) (f done))
    at true e = refl
    at false e = e

-- The last clauses: the reason's 8 and then that of the lines are one.
one_clause : (short-m short-l : Bool) (a b c : ExplainOutcome) → cond short-m a (cond short-l b c) ≡ cond (short-m || short-l) (cond short-m a b) c
one_clause true short-l a b c = refl
one_clause false true a b c = refl
one_clause false false a b c = refl

module _ (o k : ℕ) (ws : List ℕ) (set x y sign : ℕ) (d m l : List ℕ) where
  abbrev n : ℕ
  n = o + k

  abbrev all : List ℕ
  all = reason_of (chosen set ws) x y sign n

  abbrev past : List ℕ
  past = filled (chosen set ws) y sign d n

  abbrev by : ReasonOutcome → ExplainOutcome
  by r = explained_by o set ws r.answer r.scratch r.list l

  last_clauses : cond (ltb (length m) (length all)) (explain_outcome (Err (explaining-answers.ShortReason (length all))) past m l) (explained_by o set ws (Ok (length all)) past (over all m) l)
      ≡ cond (no_room all (explaining o ws set x y sign n) m l) (roomless all (explaining o ws set x y sign n) past m l)
      (explain_outcome (Ok (4 * length (explaining o ws set x y sign n), length all)) past (over all m) (over (flat (explaining o ws set x y sign n)) l))
  unfolding explained_by
  last_clauses =
      rw (take-append_seam all (drop (length all) m))
      (one_clause (ltb (length m) (length all)) (ltb (length l) (4 * length (explaining o ws set x y sign n))) _ _ _)

  -- The table is the reason's, worked on.
  pub explained_by_lem : by (reasoned o k ws set x y sign d m) ≡ explained o k ws set x y sign d m l
  unfolding explained_by
  explained_by_lem =
      call_worked by (reason_table o k ws set x y sign d m) (reason_done (chosen set ws) x y sign d m n)
      ∙ ap
      (λ (z : ExplainOutcome). call
      (net_clauses (λ r. explain_outcome (Err (explaining-answers.Refused r)) d m l) o k ws set (support_clauses o (chosen set ws) x y sign d m l n [])) z)
      last_clauses

-- The outcome by what the reason answered, in the terms of the code.
module _ (o k : ℕ) (ws : List ℕ) (set x y sign : ℕ) (d m l : List ℕ) {d' m' : List ℕ} where
  -- Whatever it answered.
  by_answer : {a : Reasoned} → reason_outcome a d' m' ≡ reasoned o k ws set x y sign d m → {e : ExplainOutcome} → e ≡ explained_by o set ws a d' m' l → e ≡ explained o k ws set x y sign d m l
  by_answer f g = g ∙ ap (λ (q : ReasonOutcome). explained_by o set ws q.answer q.scratch q.list l) f ∙ explained_by_lem o k ws set x y sign d m l

  -- It is done, and the lines are written or not; or it is not done.
  module _ {size : ℕ} (found : reason_outcome (Ok size) d' m' ≡ reasoned o k ws set x y sign d m) where
    pub found_shaped : Shaped ws size m'
    found_shaped = found_shape o k ws set x y sign size m' (done_found o k ws set x y sign d m size d' m' found)

    pub by_done : {e : Explained} {out : List ℕ} → ((p q : List ℕ) → explain_outcome e p q out ≡ write_lines (derive_list o set ws (take size m')) size p q l)
        → explain_outcome e d' m' out ≡ explained o k ws set x y sign d m l
    unfolding explained_by
    by_done g = by_answer found (g d' m')

  pub by_error : {e : ReasonError} → reason_outcome (Err e) d' m' ≡ reasoned o k ws set x y sign d m → explain_outcome (Err (without_reason e)) d' m' l ≡ explained o k ws set x y sign d m l
  unfolding explained_by
  by_error f = by_answer f refl
