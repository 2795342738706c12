-- Our engine keeps what is promised of the clash test.
use Prim.Native.Nat.{◌+◌}
use mathlib.Core.Path.{sym, ap, ◌∙◌}
use borrow.Author.Tests.{le-ltb}
use lib.ListN.{length}
use Rattle.theory.specs.Origins.{chosen}
use Rattle.clash.specs.Table.{ClashOutcome, clashed_reply, Clashed}
use Rattle.promises.specs.Engines.{ours}
use Rattle.promises.specs.Clashing.{Clashing}
use Rattle.promises.proofs.Clashes.{clash_exactly, no_clash_exactly}
use Rattle.promises.proofs.Demand1.{clash_obeys}
use Rattle.promises.proofs.Tests.{past_checks, chosen_of}

-- What is given is what the search over a net came to, by number 0, and by clause 7.
pub clashing : Clashing ours
clashing = record {
  at = λ o k ws set m x y e.
      let d = ((clash_obeys o k ws set m).exactly 0).0 (ap (λ (c : Clashed). (clashed_reply c).number) e) in
      let net = chosen_of o k ws set ((past_checks o k ws set).0 (d.0, d.1.0, d.1.1.0, d.1.1.1.0)) in
      (clash_exactly o k (chosen set ws) net x y).0 (sym (ap (λ (r : ClashOutcome). r.answer) ((clash_obeys o k ws set m).leaves 0 d)) ∙ e);
  nowhere = λ o k ws set m e.
      let d = ((clash_obeys o k ws set m).exactly 7).0 (ap (λ (c : Clashed). (clashed_reply c).number) e) in
      let net = chosen_of o k ws set ((past_checks o k ws set).0 (d.0, d.1.0, d.1.1.0, d.1.1.1.0)) in
      (no_clash_exactly o k (chosen set ws) net).0 d.1.1.1.1.1;
  given = λ o k ws set m r room x y s.
      let t = (past_checks o k ws set).1 r in
      let e = (clash_exactly o k (chosen set ws) (chosen_of o k ws set r) x y).1 s in
      rw (t.0, t.1, t.2, t.3, le-ltb (length m) (o + k) room, e);
  none = λ o k ws set m r room h.
      let t = (past_checks o k ws set).1 r in
      rw (t.0, t.1, t.2, t.3, le-ltb (length m) (o + k) room, (no_clash_exactly o k (chosen set ws) (chosen_of o k ws set r)).1 h);
}
