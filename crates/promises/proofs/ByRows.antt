-- Our engine keeps what is promised of the completion by rows.
use Prim.Native.Nat.{ℕ, ◌+◌, ◌≤◌}
use mathlib.Core.Path.{◌≡◌, sym, ap, subst, ◌∙◌}
use mathlib.Core.List.{List}
use native.Mathlib.Omega.{arith}
use lib.ListN.{length, drop}
use lib.Seq.{drop_at}
use Rattle.theory_laws.specs.Over.{over}
use Rattle.theory_laws.proofs.Over.{length_over}
use Rattle.theory.specs.Words.{Sign, is, isnt}
use Rattle.theory.specs.Origins.{chosen}
use Rattle.theory.specs.Rows.{rows_size, Exact, supported_rows}
use Rattle.theory.proofs.rows.Exactly.{supported_rows_length, filled_exact}
use Rattle.rows_completion.proofs.Alike.{engines_alike}
use Rattle.rows_answer.proofs.Alike.{without_count, left_yeses, left_noes, answers_alike}
use Rattle.promises.specs.Engines.{ours}
use Rattle.promises.specs.ByRows.{ByRows}
use Rattle.promises.proofs.Tests.{chosen_of}

-- Rows out of `rows` that are left with what plain words support in front of them.
module _ (o k : ℕ) (ws : List ℕ) (s : Sign) (rows out : List ℕ) (left : out ≡ over (supported_rows o k ws s) rows) where
  behind_rows : drop (rows_size (o + k)) out ≡ drop (rows_size (o + k)) rows
  behind_rows =
      let size = supported_rows_length o k ws s in
      ap (drop (rows_size (o + k))) left
      ∙ drop_at (supported_rows o k ws s) (drop (length (supported_rows o k ws s)) rows) (rows_size (o + k)) size
      ∙ ap (λ (i : ℕ). drop i rows) size

  as_long : rows_size (o + k) ≤ length rows → length out ≡ length rows
  as_long room = ap length left ∙ length_over (supported_rows o k ws s) rows (omega (arith, room, supported_rows_length o k ws s))

pub by_rows : ByRows ours
by_rows = record {
  filled = λ o k ws set yeses noes l r p q. (
    subst (Exact o k (chosen set ws) is) (sym (left_yeses o k ws set r.net r.allowed yeses noes l p q)) (filled_exact o k (chosen set ws) (chosen_of o k ws set r) is _),
    subst (Exact o k (chosen set ws) isnt) (sym (left_noes o k ws set r.net r.allowed yeses noes l p q)) (filled_exact o k (chosen set ws) (chosen_of o k ws set r) isnt _),
  );
  behind = λ o k ws set yeses noes l r p q.
      let ys = left_yeses o k ws set r.net r.allowed yeses noes l p q in
      let ns = left_noes o k ws set r.net r.allowed yeses noes l p q in (
        behind_rows o k (chosen set ws) is yeses _ ys,
        behind_rows o k (chosen set ws) isnt noes _ ns,
        as_long o k (chosen set ws) is yeses _ ys p,
        as_long o k (chosen set ws) isnt noes _ ns q,
      );
  same = λ o k ws set yeses noes l r p q m long.
      let alike = engines_alike o k ws set m yeses noes l long p q in
      (alike.answer, alike.list);
  answers = λ o k ws set yeses noes l r p q x y m long a count e.
      answers_alike o k ws set r.net r.allowed yeses noes l p q m long x y ∙ ap without_count e;
  refused = λ o k ws set yeses noes l r p q x y m long refusal e.
      answers_alike o k ws set r.net r.allowed yeses noes l p q m long x y ∙ ap without_count e;
}
