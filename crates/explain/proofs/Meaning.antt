-- What a done explanation leaves: lines that derive the statement, and no more of them than two a link and one.
use Rattle.explain.specs.declared.ExplainError.TheVariants.{ShortLines}
use Rattle.std.specs.Prelude.{Err, Ok}
use Prim.Native.Nat.{ℕ, ◌+◌, ◌*◌, ◌≤◌}
use mathlib.Core.Path.{◌≡◌, refl, sym, ap, ◌∙◌}
use mathlib.Core.Bool.{Bool, true, false, cond}
use mathlib.Core.List.{List}
use native.Mathlib.Omega.{arith}
use lib.Dec.{ltb}
use lib.ListN.{length, get_or, take, drop, length-append}
use lib.Seq.{take_at}
use Rattle.theory_laws.specs.Over.{over}
use Rattle.theory.specs.Words.{sign_at}
use Rattle.theory.specs.Reasons.{never}
use Rattle.theory.specs.Searches.{distances}
use Rattle.theory.specs.Origins.{set_limit, chosen, NetFrom}
use Rattle.theory.proofs.origins.Statements.{chosen_net}
use Rattle.net.specs.Good.{GoodStatement}
use Rattle.net.proofs.Good.{good_kind}
use Rattle.reason.specs.Table.{reason_outcome, reasoned, Reasoned}
use Rattle.derivation_lines.specs.Lines.{Line, Derives}
use Rattle.derivation_lines.specs.Flat.{flat, lines_of, derive_list}
use Rattle.derivation_lines.proofs.Flatness.{flat_length}
use Rattle.derivation_lines.proofs.ReasonLines.{derivation_back, reason_derives, reason_lines}
use Rattle.explain.specs.Table.{ExplainOutcome, explain_outcome, explaining, explained}
use Rattle.explain.specs.Found.{explained_by}
use Rattle.explain.proofs.Found.{done_found, explained_by_lem}

-- The first `places` numbers of l are lines that derive the statement, at most two for each link of the shortest reason and one more.
pub record Explains (o k : ℕ) (ws : List ℕ) (set x y sign places : ℕ) (l : List ℕ) : Type 0 where
  pub low : set ≤ set_limit
  pub net : NetFrom o k ws
  pub may : GoodStatement o (o + k) x y sign
  pub inside : places ≤ length l
  pub size : places ≡ 4 * length (explaining o ws set x y sign (o + k))
  pub front : take places l ≡ flat (explaining o ws set x y sign (o + k))
  pub lines : Derives o k set ws (lines_of (take places l)) x y (sign_at sign)
  pub few : length (explaining o ws set x y sign (o + k)) ≤ 2 * get_or (distances (o + k) (sign_at sign) (chosen set ws) y) x never + 1

-- Lines that were written: there was room for them.
wrote : (b : Bool) (ls : List Line) (size : ℕ) (d m l : List ℕ) (n s : ℕ)
    → (cond b (explain_outcome (Err (ShortLines (4 * length ls))) d m l) (explain_outcome (Ok (4 * length ls, size)) d m (over (flat ls) l))).answer ≡ Ok (n, s)
    → (n ≡ 4 * length ls) × ((cond b (explain_outcome (Err (ShortLines (4 * length ls))) d m l) (explain_outcome (Ok (4 * length ls, size)) d m (over (flat ls) l))).lines ≡ over (flat ls) l)
wrote true ls size d m l n s e = let z : ◌≡◌ {A = ℕ} 0 1 = cc in absurd (omega arith)
wrote false ls size d m l n s e = let q : ◌≡◌ {A = ℕ × ℕ} (4 * length ls, size) (n, s) = cc in (sym (ap (λ (r : ℕ × ℕ). r.0) q), refl)

module _ (o k : ℕ) (ws : List ℕ) (set x y sign : ℕ) (d m l : List ℕ) (n s : ℕ) where
  by_answer : (a : Reasoned) (d' m' : List ℕ) → reason_outcome a d' m' ≡ reasoned o k ws set x y sign d m → (explained_by o set ws a d' m' l).answer ≡ Ok (n, s)
      → Explains o k ws set x y sign n (explained_by o set ws a d' m' l).lines
  unfolding explained_by
  by_answer (Ok size) d' m' e f =
      let r = done_found o k ws set x y sign d m size d' m' e in
      let plain = chosen_net set o k ws r.net in
      let ls = derive_list o set ws (take size m') in
      let all = explaining o ws set x y sign (o + k) in
      let same : ls ≡ all = ap (derive_list o set ws) r.front in
      let (size_is, list_is) = wrote (ltb (length l) (4 * length ls)) ls size d' m' l n s f in
      let g : Derives o k set ws all x y (sign_at sign) = reason_derives o k set ws plain x r.may.pair.node y (good_kind r.may.pair) (sign_at sign) r.far in
      let long : length (flat ls) ≡ n = flat_length ls ∙ sym size_is in
      let front : take n (over (flat ls) l) ≡ flat all = take_at (flat ls) (drop (length (flat ls)) l) n long ∙ ap flat same in
      record {
        low = r.low;
        net = r.net;
        may = r.may;
        inside = rw list_is (omega (arith, length-append (flat ls) (drop (length (flat ls)) l), long));
        size = size_is ∙ ap (λ (q : List Line). 4 * length q) same;
        front = rw list_is front;
        lines = rw (list_is, front, derivation_back o k set ws plain all g.lines) g;
        few = reason_lines o k set ws plain x r.may.pair.node y (good_kind r.may.pair) (sign_at sign) r.far;
      }
  by_answer (Err q) d' m' e f = let z : ◌≡◌ {A = ℕ} 0 1 = cc in absurd (omega arith)

  -- A done explanation explains.
  pub done_explains : (explained o k ws set x y sign d m l).answer ≡ Ok (n, s) → Explains o k ws set x y sign n (explained o k ws set x y sign d m l).lines
  done_explains f =
      let r = reasoned o k ws set x y sign d m in
      let e = explained_by_lem o k ws set x y sign d m l in
      rw (← e) (by_answer r.answer r.scratch r.list refl (ap (λ (q : ExplainOutcome). q.answer) e ∙ f))
