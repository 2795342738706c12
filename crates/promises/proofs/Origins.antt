-- What is promised of origins, kept by our engine.
use Prim.Native.Nat.{ℕ}
use mathlib.Core.List.Memᴰ
use mathlib.Core.List.{List, ◌∷◌}
use mathlib.Core.Logic.{⊎_elim}
use native.Mathlib.Omega.{arith}
use Rattle.theory.specs.Nets.{AllIn}
use Rattle.theory.specs.Origins.{from, chosen}
use Rattle.theory.proofs.origins.Choosing.{chosen_again}
use Rattle.theory.proofs.origins.Statements.{once_to, once_back, more_origins}
use Rattle.theory.proofs.completion.Completing.{full_exact}
use Rattle.promises.specs.Engines.{Read, ours}
use Rattle.promises.specs.Origins.{SameOperations, FromOrigins}
use Rattle.promises.proofs.Tests.{chosen_of}
use Rattle.promises.proofs.Orders.{scan_order, question_order, questions_order}
use Rattle.promises.proofs.Reordered.{completion_order, clash_order, reason_order, check_order}
use Rattle.promises.proofs.ReorderedValues.{valuation_order}
use Rattle.promises.proofs.ReorderedRows.{rows_order}
use Rattle.promises.proofs.ReorderedProofs.{proof_order, proof_check_order}
use Rattle.promises.proofs.ReorderedUnit.{unit_order}
use Rattle.promises.proofs.ReorderedLines.{explanation_order}
use Rattle.promises.proofs.NetAnswers.{keeps_said}
use Rattle.promises.proofs.Demand3.{plain_read}

-- The same words chosen, the same done.
same_operations : (o k : ℕ) (ws : List ℕ) (set : ℕ) (vs : List ℕ) (set' : ℕ) → Read o k ws set → Read o k vs set' → AllIn (chosen set ws) (chosen set' vs)
    → AllIn (chosen set' vs) (chosen set ws) → SameOperations ours o k ws set vs set'
same_operations o k ws set vs set' n p to back = record {
  scan = scan_order o k ws set vs set' n p to back;
  question = question_order o k ws set vs set' n p to back;
  clash_test = clash_order o k ws set vs set' n p to back;
  completion = completion_order o k ws set vs set' n p to back;
  reason = reason_order o k ws set vs set' n p to back;
  reason_check = check_order o k ws set vs set' n p to back;
  questions = questions_order o k ws set vs set' n p to back;
  valuation = valuation_order o k ws set vs set' n p to back;
  completion_by_rows = rows_order o k ws set vs set' n p to back;
  proof = proof_order o k ws set vs set' n p to back;
  proof_check = proof_check_order o k ws set vs set' n p to back;
  unit = unit_order o k ws set vs set' n p to back;
  explanation = explanation_order o k ws set vs set' n p to back;
}

-- A net without its second word is a net.
without_second : (o k : ℕ) (u v : ℕ) (ws : List ℕ) (set : ℕ) → Read o k (u ∷ v ∷ ws) set → Read o k (u ∷ ws) set
without_second o k u v ws set r = record {
  net = record {
    few = r.net.few;
    short = omega (arith, r.net.short);
    legal = λ w m. r.net.legal w (⊎_elim (λ e. Memᴰ.head e) (λ n. Memᴰ.tail (Memᴰ.tail n)) (Memᴰ.cases_cons m));
  };
  allowed = r.allowed;
}

pub from_origins : FromOrigins ours
from_origins = record {
  plain = λ o k ws set z r zero.
      let e = chosen_again set z zero.zero ws in
      same_operations o k ws set (chosen set ws) z r (plain_read o k (chosen set ws) z (chosen_of o k ws set r) zero) (rw e (λ w m. m)) (rw e (λ w m. m));
  order = same_operations;
  once = λ o k set i j w ws h p q r.
      same_operations o k (from i w ∷ from j w ∷ ws) set (from i w ∷ ws) set r (without_second o k (from i w) (from j w) ws set r) (once_to set i j w h p q ws) (once_back set i j w h p q ws);
  more = λ o k ws set set' f r q x y m s.
      keeps_said o k x y m ws set ws set' r q s
      (λ node kind e.
      (full_exact o k (chosen set' ws) (chosen_of o k ws set' q) x y s node kind).1
      (more_origins o k set set' f ws x y s ((full_exact o k (chosen set ws) (chosen_of o k ws set r) x y s node kind).0 e)));
}
