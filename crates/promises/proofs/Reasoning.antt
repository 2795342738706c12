-- Our engine's reasons are the shortest, and its check accepts exactly the paths that show the statement.
use Prim.Native.Nat.{ℕ, ◌+◌, ◌≤◌, ◌<◌}
use mathlib.Core.Path.{◌≡◌, refl, sym, ap, ◌∙◌}
use mathlib.Core.Bool.{Bool, true, false}
use mathlib.Core.List.{List, ◌++◌}
use native.Mathlib.Omega.{arith}
use lib.Dec.{eqb}
use lib.ListN.{length, get_or, drop, get_or-append}
use borrow.Author.Tests.{ltb-true, ltb-false}
use Rattle.std.specs.Prelude.{Err, Ok}
use Rattle.theory_laws.proofs.Booleans.{contradiction}
use Rattle.theory.specs.Words.{Sign, sign_at}
use Rattle.theory.specs.Nets.{Kind, Links, Net}
use Rattle.theory.specs.Support.{Supported}
use Rattle.theory.specs.Reasons.{written, never, Moves, goal, Distance}
use Rattle.theory.specs.Searches.{distances}
use Rattle.theory.specs.Checks.{Passes, passes}
use Rattle.theory.specs.Origins.{chosen}
use Rattle.theory.proofs.reason.Distances.{distances_length, distances_right}
use Rattle.theory.proofs.reason.Reason.{reason_exactly, reason_shortest}
use Rattle.theory.proofs.reason.Check.{passes_exactly, passes_supported}
use Rattle.net.specs.Table.{bad_statement}
use Rattle.net.specs.declared.Refusal.{Refusal}
use Rattle.net.proofs.Good.{good_statement, good_kind}
use Rattle.reason.specs.Table.{ReasonOutcome, filled, reason_of, reasoned, reasoned_reply, Reasoned}
use Rattle.reason.specs.declared.ReasonError.TheVariants as reasonedAs
use Rattle.reason_check.specs.Table.{verdict, verdict_reply, Verdict}
use Rattle.promises.specs.Engines.{ours}
use Rattle.promises.specs.Reasoning.{ReasonOf, Reasoning}
use Rattle.promises.proofs.Demand1.{reason_obeys, check_obeys}
use Rattle.promises.proofs.Tests.{past_checks, chosen_of, away_exactly, clause_7_reason}

-- What a statement asked about is, where clause 4 does not apply.
module _ (o k x y sign : ℕ) (e : bad_statement o (o + k) x y sign ≡ false) where
  pub node_of : x < o + k
  node_of = ((good_statement o (o + k) x y sign).0 e).pair.node

  pub kind_of : Kind o k y
  kind_of = good_kind ((good_statement o (o + k) x y sign).0 e).pair

module _ (o k : ℕ) (ws : List ℕ) (x y sign : ℕ) where
  abbrev s : Sign
  s = sign_at sign

  -- A reason that is supported, as the theory has it.
  module _ (net : Net o k ws) (node : x < o + k) (kind : Kind o k y) (some : eqb (get_or (distances (o + k) s ws y) x never) never ≡ false) where
    pub near : get_or (distances (o + k) s ws y) x never < never
    near = (reason_exactly o k ws net x node y kind s).0 ((away_exactly o k ws net x node y kind s).0 some)

    pub reason_of_lem : (size : ℕ) → length (reason_of ws x y sign (o + k)) ≡ size → (r : ReasonOf o k ws x y sign size) × (reason_of ws x y sign (o + k) ≡ written x r.xs r.ys)
    reason_of_lem size e =
        let r = reason_shortest o k ws net x node y kind s near in
        (record { xs = r.xs; ys = r.ys; shortest = r.shortest; long = sym e ∙ ap (length {A = ℕ}) r.list }, r.list)

-- The reason over the chosen words.
module _ (o k : ℕ) (ws : List ℕ) (set x y sign : ℕ) where
  abbrev picked : List ℕ
  picked = chosen set ws

  module _ (d l : List ℕ) where
    -- A reason that was done.
    record Found (size : ℕ) : Type 0 where
      net : Net o k picked
      node : x < o + k
      kind : Kind o k y
      some : eqb (get_or (distances (o + k) (sign_at sign) picked y) x never) never ≡ false
      size_is : length (reason_of picked x y sign (o + k)) ≡ size

    found : (size : ℕ) → (reasoned o k ws set x y sign d l).answer ≡ Ok size
        → Found size × ((reasoned o k ws set x y sign d l).list ≡ reason_of picked x y sign (o + k) ++ drop size l) × (size ≤ length l)
        × ((reasoned o k ws set x y sign d l).scratch ≡ filled picked y sign d (o + k))
    found size e =
        let u = ((reason_obeys o k ws set x y sign d l).exactly 0).0 (ap (λ (r : Reasoned). (reasoned_reply r).number) e) in
        let q = (reason_obeys o k ws set x y sign d l).leaves 0 u in
        let z : length (reason_of picked x y sign (o + k)) ≡ size = ap (λ (r : Reasoned). (reasoned_reply r).first) (sym (ap (λ (r : ReasonOutcome). r.answer) q) ∙ e) in
        let room = ltb-false (length l) (length (reason_of picked x y sign (o + k))) u.1.1.1.1.1.1.1.0 in (
          record {
            net = chosen_of o k ws set ((past_checks o k ws set).0 (u.0, u.1.0, u.1.1.0, u.1.1.1.0));
            node = node_of o k x y sign u.1.1.1.1.0;
            kind = kind_of o k x y sign u.1.1.1.1.0;
            some = u.1.1.1.1.1.1.0;
            size_is = z;
          },
          ap (λ (r : ReasonOutcome). r.list) q ∙ ap (λ (n : ℕ). reason_of picked x y sign (o + k) ++ drop n l) z,
          omega arith,
          ap (λ (r : ReasonOutcome). r.scratch) q,
        )

    reason_done_lem : (size : ℕ) → (reasoned o k ws set x y sign d l).answer ≡ Ok size
        → (r : ReasonOf o k picked x y sign size) × ((reasoned o k ws set x y sign d l).list ≡ written x r.xs r.ys ++ drop size l) × (size ≤ length l)
    reason_done_lem size e =
        let (f, list, room, scratch) = found size e in
        let (r, w) = reason_of_lem o k picked x y sign f.net f.node f.kind f.some size f.size_is in
        (r, list ∙ ap (λ (all : List ℕ). all ++ drop size l) w, room)

    -- A reason that was not refused left the distances in the scratch.
    record Scratched : Type 0 where
      net : Net o k picked
      kind : Kind o k y
      filled_by_lem : (reasoned o k ws set x y sign d l).scratch ≡ filled picked y sign d (o + k)

    scratched : ((r : Refusal) → (reasoned o k ws set x y sign d l).answer ≡ Err (reasonedAs.Refused r) → ⊥) → Scratched
    scratched h = at (reasoned o k ws set x y sign d l).answer refl
      where
        at : (a : Reasoned) → (reasoned o k ws set x y sign d l).answer ≡ a → Scratched
        at (Ok size) e = let (f, list, room, scratch) = found size e in record { net = f.net; kind = f.kind; filled_by_lem = scratch }
        at (Err reasonedAs.Unsupported) e =
            let u = ((reason_obeys o k ws set x y sign d l).exactly 7).0 (ap (λ (r : Reasoned). (reasoned_reply r).number) e) in
            record {
              net = chosen_of o k ws set ((past_checks o k ws set).0 (u.0, u.1.0, u.1.1.0, u.1.1.1.0));
              kind = kind_of o k x y sign u.1.1.1.1.0;
              filled_by_lem = ap (λ (r : ReasonOutcome). r.scratch) ((reason_obeys o k ws set x y sign d l).leaves 7 u);
            }
        at (Err (reasonedAs.Short size)) e =
            let u = ((reason_obeys o k ws set x y sign d l).exactly 8).0 (ap (λ (r : Reasoned). (reasoned_reply r).number) e) in
            record {
              net = chosen_of o k ws set ((past_checks o k ws set).0 (u.0, u.1.0, u.1.1.0, u.1.1.1.0));
              kind = kind_of o k x y sign u.1.1.1.1.0;
              filled_by_lem = ap (λ (r : ReasonOutcome). r.scratch) ((reason_obeys o k ws set x y sign d l).leaves 8 u);
            }
        at (Err (reasonedAs.Refused r)) e = absurd (h r e)

    scratch_right : ((r : Refusal) → (reasoned o k ws set x y sign d l).answer ≡ Err (reasonedAs.Refused r) → ⊥) → (v : ℕ) → v < (o + k) + (o + k)
        → Distance (Moves (o + k) (Links picked) (sign_at sign)) (goal (o + k) (sign_at sign) y) v (get_or (reasoned o k ws set x y sign d l).scratch v never)
    scratch_right h v i =
        let t = scratched h in
        let b : get_or (reasoned o k ws set x y sign d l).scratch v never ≡ get_or (distances (o + k) (sign_at sign) picked y) v never =
        ap (λ (q : List ℕ). get_or q v never) t.filled_by_lem
        ∙ get_or-append (distances (o + k) (sign_at sign) picked y) (drop ((o + k) + (o + k)) d) never v (omega (arith, distances_length (o + k) (sign_at sign) picked y)) in
        rw b (distances_right o k picked t.net y t.kind (sign_at sign) v i)

    reason_unsupported : (reasoned o k ws set x y sign d l).answer ≡ Err reasonedAs.Unsupported → Supported o k (Links picked) x y (sign_at sign) → ⊥
    reason_unsupported e =
        let u = ((reason_obeys o k ws set x y sign d l).exactly 7).0 (ap (λ (r : Reasoned). (reasoned_reply r).number) e) in
        (clause_7_reason o k picked (chosen_of o k ws set ((past_checks o k ws set).0 (u.0, u.1.0, u.1.1.0, u.1.1.1.0))) x (node_of o k x y sign u.1.1.1.1.0) y (kind_of o k x y sign u.1.1.1.1.0) (sign_at sign)).0 u.1.1.1.1.1.1

    reason_short : (size : ℕ) → (reasoned o k ws set x y sign d l).answer ≡ Err (reasonedAs.Short size) → ReasonOf o k picked x y sign size × (length l < size)
    reason_short size e =
        let u = ((reason_obeys o k ws set x y sign d l).exactly 8).0 (ap (λ (r : Reasoned). (reasoned_reply r).number) e) in
        let q = (reason_obeys o k ws set x y sign d l).leaves 8 u in
        let z : length (reason_of picked x y sign (o + k)) ≡ size = ap (λ (r : Reasoned). (reasoned_reply r).first) (sym (ap (λ (r : ReasonOutcome). r.answer) q) ∙ e) in
        let net = chosen_of o k ws set ((past_checks o k ws set).0 (u.0, u.1.0, u.1.1.0, u.1.1.1.0)) in
        let less : length l < length (reason_of picked x y sign (o + k)) = ltb-true (length l) (length (reason_of picked x y sign (o + k))) u.1.1.1.1.1.1.1 in
        ((reason_of_lem o k picked x y sign net (node_of o k x y sign u.1.1.1.1.0) (kind_of o k x y sign u.1.1.1.1.0) u.1.1.1.1.1.1.0 size z).0, omega arith)

  module _ (l : List ℕ) where
    -- A check that was not refused: over a net, about a kind, and its verdict is the test's.
    checked : (verdict_reply (verdict o k ws set x y sign l)).number ≡ 0 → Net o k picked × Kind o k y × (verdict o k ws set x y sign l ≡ Ok (passes o k picked x y (sign_at sign) l))
    checked e =
        let u = ((check_obeys o k ws set x y sign l).exactly 0).0 e in
        (chosen_of o k ws set ((past_checks o k ws set).0 (u.0, u.1.0, u.1.1.0, u.1.1.1.0)), kind_of o k x y sign u.1.1.1.1.0, (check_obeys o k ws set x y sign l).leaves 0 u)

    -- Which verdict it was tells the test.
    was_true : (q : Bool) → ◌≡◌ {A = Verdict} (Ok true) (Ok q) → q ≡ true
    was_true true e = refl
    was_true false e = contradiction (ap (λ (r : Verdict). eqb (verdict_reply r).first 0) e)

    was_false : (q : Bool) → ◌≡◌ {A = Verdict} (Ok false) (Ok q) → q ≡ false
    was_false true e = contradiction (sym (ap (λ (r : Verdict). eqb (verdict_reply r).first 0) e))
    was_false false e = refl

    check_holds : verdict o k ws set x y sign l ≡ Ok true → Net o k picked × Passes o k picked x y (sign_at sign) l
    check_holds e =
        let (net, kind, v) = checked (ap (λ (r : Verdict). (verdict_reply r).number) e) in
        (net, (passes_exactly o k picked x y (sign_at sign) l kind).0 (was_true (passes o k picked x y (sign_at sign) l) (sym e ∙ v)))

    check_fails : verdict o k ws set x y sign l ≡ Ok false → Passes o k picked x y (sign_at sign) l → ⊥
    check_fails e p =
        let (net, kind, v) = checked (ap (λ (r : Verdict). (verdict_reply r).number) e) in
        contradiction (sym (was_false (passes o k picked x y (sign_at sign) l) (sym e ∙ v)) ∙ (passes_exactly o k picked x y (sign_at sign) l kind).1 p)

-- Our engine keeps what is promised of reasons.
pub reasoning : Reasoning ours
reasoning = record {
  done = reason_done_lem;
  unsupported = reason_unsupported;
  short = reason_short;
  scratch = scratch_right;
  holds = λ o k ws set x y sign l e. (check_holds o k ws set x y sign l e).1;
  fails = check_fails;
  sound = λ o k ws set x y sign l e. let (net, p) = check_holds o k ws set x y sign l e in passes_supported o k (chosen set ws) x y (sign_at sign) l net.legal p;
}
