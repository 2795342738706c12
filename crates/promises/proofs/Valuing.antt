-- Our engine keeps what is promised of valuations.
use Prim.Native.Nat.{ℕ, ◌+◌, ◌*◌, ◌≤◌, ◌<◌}
use mathlib.Core.Path.{◌≡◌, sym, ap, subst, ◌∙◌}
use mathlib.Core.List.{List, Memᴰ}
use mathlib.Core.Logic.{◌↔◌}
use native.Mathlib.Omega.{arith}
use lib.ListN.{length, drop}
use lib.Seq.{drop_at}
use borrow.Author.Tests.{ltb-false, le-ltb}
use Rattle.std.specs.Prelude.{Ok, false, true}
use Rattle.theory_laws.proofs.Booleans.{contradiction}
use Rattle.theory_laws.specs.Over.{over}
use Rattle.theory_laws.proofs.Over.{length_over}
use Rattle.theory.specs.Words.{Sign, is, isnt, sign_at, tail_of, head_of, parity}
use Rattle.theory.specs.Nets.{Kind, Links, Net}
use Rattle.theory.specs.Support.{Supported}
use Rattle.theory.specs.Origins.{chosen}
use Rattle.theory.specs.Valuations.{HoldsIn, Model, Valued, byte_at, table_valuation}
use Rattle.theory.proofs.Legal.{legal_links}
use Rattle.theory.proofs.completion.Ascending.{sign_at_number}
use Rattle.theory.proofs.valuation.Implied.{supported_implied, supported_exactly_implied}
use Rattle.net.specs.Good.{GoodStatement}
use Rattle.net.proofs.Good.{good_kind}
use Rattle.scan_start.specs.Starts.{cleared}
use Rattle.question.specs.Table.{answer_number, questioned}
use Rattle.question.specs.declared.Answer.{Answer}
use Rattle.question.specs.declared.Answer.TheVariants.{None}
use Rattle.valuation.specs.Values.{own_values}
use Rattle.valuation.specs.Table.{ValuationOutcome, filled_by, filled_reply, Filled}
use Rattle.valuation.proofs.Rows.{own_long}
use Rattle.valuation.proofs.Exact.{filled_byte, filled_valued, filled_exactly, filled_model}
use Rattle.satisfies.specs.Table.{tested_by}
use Rattle.satisfies.proofs.Exactly.{test_holds_exactly, test_fails_exactly}
use Rattle.promises.specs.Engines.{Read, ours}
use Rattle.promises.specs.Valuing.{Valuing}
use Rattle.promises.proofs.Demand1.{valuation_obeys}
use Rattle.promises.proofs.Demand2.{demand_2}
use Rattle.promises.proofs.Answered.{question_answered}
use Rattle.promises.proofs.Tests.{past_checks, chosen_of}

module _ (o k : ℕ) (ws : List ℕ) (set : ℕ) (t m : List ℕ) where
  abbrev picked : List ℕ
  picked = chosen set ws

  -- What a valuation that is filled was: over a net, and what it left.
  record WasFilled : Type 0 where
    net : Net o k picked
    few : o + k ≤ 1024
    long : (o + k) * k ≤ length t
    table_is : (filled_by o k ws set t m).table ≡ over (own_values o k picked) t
    marks_are : (filled_by o k ws set t m).marks ≡ cleared (o + k) m

  was_filled : (filled_by o k ws set t m).answer ≡ Ok tt → WasFilled
  was_filled e =
      let d = ((valuation_obeys o k ws set t m).exactly 0).0 (ap (λ (r : Filled). (filled_reply r).number) e) in
      let l = (valuation_obeys o k ws set t m).leaves 0 d in
      let read = (past_checks o k ws set).0 (d.0, d.1.0, d.1.1.0, d.1.1.1.0) in
      record {
        net = chosen_of o k ws set read;
        few = read.net.few;
        long = ltb-false (length t) ((o + k) * k) d.1.1.1.1.1.0;
        table_is = ap (λ (r : ValuationOutcome). r.table) l;
        marks_are = ap (λ (r : ValuationOutcome). r.marks) l;
      }

  given : Read o k ws set → (o + k) * k ≤ length t → o + k ≤ length m → (filled_by o k ws set t m).answer ≡ Ok tt
  given r h l =
      let p = (past_checks o k ws set).1 r in
      rw (p.0, p.1, p.2, p.3, le-ltb (length m) (o + k) l, le-ltb (length t) ((o + k) * k) h)

  module _ (e : (filled_by o k ws set t m).answer ≡ Ok tt) where
    abbrev table : List ℕ
    table = (filled_by o k ws set t m).table

    -- What is so of the table with the net's values in front is so of the table that is left.
    carried : (P : List ℕ → Type 0) → P (over (own_values o k picked) t) → P table
    carried P = subst P (sym (was_filled e).table_is)

    valued : Valued (o + k) k table
    valued = carried (Valued (o + k) k) (filled_valued o k picked t (was_filled e).long)

    past : (drop ((o + k) * k) table ≡ drop ((o + k) * k) t) × (length table ≡ length t) × ((filled_by o k ws set t m).marks ≡ cleared (o + k) m)
    past =
        let f = was_filled e in
        let size = own_long o k picked in
        let behind = ap (λ (i : ℕ). drop i t) size in (
          ap (drop ((o + k) * k)) f.table_is ∙ drop_at (own_values o k picked) (drop (length (own_values o k picked)) t) ((o + k) * k) size ∙ behind,
          ap length f.table_is ∙ length_over (own_values o k picked) t (omega (arith, f.long, size)),
          f.marks_are,
        )

    byte : (x y : ℕ) (l : List ℕ) (a : Answer) (count : ℕ) → (questioned o k ws set x y l).answer ≡ Ok (a, count) → byte_at o k table x y ≡ answer_number a
    byte x y l a count q =
        let h = question_answered o k ws set x y l a count q in
        carried (λ (v : List ℕ). byte_at o k v x y ≡ answer_number a) (filled_byte o k picked t (was_filled e).long x y h.node h.kind ∙ ap answer_number h.word)

    exact : (x y : ℕ) (s : Sign) → x < o + k → Kind o k y → HoldsIn (table_valuation o k table) x y s ↔ Supported o k (Links picked) x y s
    exact x y s hx hy =
        let f = was_filled e in
        carried (λ (v : List ℕ). HoldsIn (table_valuation o k v) x y s ↔ Supported o k (Links picked) x y s) (filled_exactly o k picked t f.long f.net x y s hx hy)

    model : Model (Links picked) (table_valuation o k table)
    model =
        let f = was_filled e in
        carried (λ (v : List ℕ). Model (Links picked) (table_valuation o k v)) (filled_model o k picked t f.long f.net)

    joined : (x y sign : ℕ) → GoodStatement o (o + k) x y sign → (tested_by o k table x y sign ≡ Ok true) ↔ Supported o k (Links picked) x y (sign_at sign)
    joined x y sign g =
        let x-means = exact x y (sign_at sign) g.pair.node (good_kind g.pair) in
        let tests = test_holds_exactly o k table x y sign in
        ((λ h. x-means.0 (tests.0 h).1), λ p. tests.1 (((was_filled e).few, g, valued), x-means.1 p))

    -- A statement that is not supported fails.
    denied : (x y sign : ℕ) → GoodStatement o (o + k) x y sign → (Supported o k (Links picked) x y (sign_at sign) → ⊥) → tested_by o k table x y sign ≡ Ok false
    denied x y sign g n =
        (test_fails_exactly o k table x y sign).1
        (((was_filled e).few, g, valued), λ h. n ((exact x y (sign_at sign) g.pair.node (good_kind g.pair)).0 h))

    none : (x y : ℕ) (l : List ℕ) (count : ℕ) → (questioned o k ws set x y l).answer ≡ Ok (None, count) → (tested_by o k table x y 0 ≡ Ok false) × (tested_by o k table x y 1 ≡ Ok false)
    none x y l count q =
        let h = question_answered o k ws set x y l None count q in
        let good : (sign : ℕ) → sign ≤ 1 → GoodStatement o (o + k) x y sign = λ sign i. record { pair = record { node = h.node; low = h.kind.low; high = h.kind.high }; signed = i } in
        let not-said : (s : Sign) → Supported o k (Links picked) x y s → ⊥ = λ s p. contradiction ((demand_2.question o k ws set x y l None count q s).1 p) in
        (denied x y 0 (good 0 (omega arith)) (not-said is), denied x y 1 (good 1 (omega arith)) (not-said isnt))

-- A table on which every word passes is one in which all links hold.
links_hold : (o k : ℕ) (ws t : List ℕ) → ((w : ℕ) → Memᴰ w ws → tested_by o k t (tail_of w) (head_of w) (parity w) ≡ Ok true) → Model (Links ws) (table_valuation o k t)
links_hold o k ws t f x y s l =
    let h = ((test_holds_exactly o k t (tail_of l.it) (head_of l.it) (parity l.it)).0 (f l.it l.listed)).1 in
    let signs : sign_at (parity l.it) ≡ s = ap sign_at l.sign ∙ sign_at_number s in
    rw (← l.tail, ← l.head, ← signs) h

pub valuing : Valuing ours
valuing = record {
  given = given;
  valued = valued;
  past = past;
  byte = byte;
  exact = exact;
  model = model;
  holds = λ o k t x y sign h. ((test_holds_exactly o k t x y sign).0 h).1;
  fails = λ o k t x y sign h. ((test_fails_exactly o k t x y sign).0 h).1;
  joined = joined;
  none = none;
  refutes = λ o k ws set t f x y sign h p.
      ((test_fails_exactly o k t x y sign).0 h).1 (supported_implied o k (Links (chosen set ws)) x y (sign_at sign) p _ (table_valuation o k t) (links_hold o k (chosen set ws) t f));
  implied = λ o k ws set x y m a count q s.
      let h = question_answered o k ws set x y m a count q in
      let says-exactly = demand_2.question o k ws set x y m a count q s in
      let both = supported_exactly_implied o k (Links (chosen set ws)) (legal_links o k (chosen set ws) h.net.legal) x y s h.node h.kind in
      ((λ p. both.0 (says-exactly.0 p)), λ i. says-exactly.1 (both.1 i));
}
