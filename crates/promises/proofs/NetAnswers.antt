-- What our engine answers to a question over a net: the word is that of one byte, so nets with the same bytes give the same words.
use Prim.Native.Nat.{ℕ, ◌+◌, ◌<◌}
use mathlib.Core.Path.{◌≡◌, refl, sym, ap, ◌∙◌}
use mathlib.Core.Bool.{Bool, true, false, cond}
use mathlib.Core.List.{List}
use native.Mathlib.Omega.{arith}
use lib.Dec.{ltb}
use lib.ListN.{length, get_or, drop, length-replicate}
use borrow.Author.Tests.{le-ltb}
use Rattle.std.specs.Prelude.{Err, Ok}
use Rattle.theory.specs.Words.{Sign, is, isnt}
use Rattle.theory.specs.Nets.{Kind}
use Rattle.theory.specs.Origins.{chosen}
use Rattle.theory.specs.Marks.{has, blank, marker_of}
use Rattle.theory.specs.Scans.{full_scan}
use Rattle.theory.specs.Completion.{full_marks}
use Rattle.theory.proofs.completion.Demand3.{SameAnswer}
use Rattle.net.specs.Table.{bad_pair}
use Rattle.net.specs.declared.Refusal.TheVariants.{BadQuestion, ShortBuffer}
use Rattle.net.proofs.NetCheck.{net_is_checked}
use Rattle.net.proofs.Good.{good_pair, good_kind}
use Rattle.question.specs.Table.{QuestionOutcome, question_outcome, question_clauses, question_done, questioned, answer_at, read_at, Asked}
use Rattle.net.proofs.OnNet.{gone_on}
use Rattle.question.specs.declared.Answer.{Answer}
use Rattle.promises.specs.Engines.{Read}
use Rattle.promises.specs.Demand2.{says}
use Rattle.promises.specs.Demand3.{word_of, said_by}
use Rattle.promises.proofs.Answered.{word_in}
use Rattle.promises.proofs.Demand2.{answer_says}

-- The byte that a question over a net reads.
abbrev byte : ℕ → ℕ → List ℕ → ℕ → ℕ → ℕ
byte o k ws x y = get_or (full_marks o k ws x) y 0

-- Bytes with the same two marks give the same answer, and the other way round.
same_answer : (b c : ℕ) → ((s : Sign) → has (marker_of s) b ≡ has (marker_of s) c) → answer_at b ≡ answer_at c
same_answer b c e = rw (e is, e isnt)

answer_same : (b c : ℕ) → answer_at b ≡ answer_at c → (s : Sign) → has (marker_of s) b ≡ has (marker_of s) c
answer_same b c e s = sym (answer_says b s) ∙ ap (λ (a : Answer). says a s) e ∙ answer_says c s

module _ (o k x y : ℕ) where
  -- A good question is about a node and a kind.
  good : bad_pair o (o + k) x y ≡ false → (x < o + k) × Kind o k y
  good e = let g = (good_pair o (o + k) x y).0 e in (g.node, good_kind g)

  module _ (m : List ℕ) where
    -- The answer over a net, by the two tests and the byte.
    abbrev answer : Bool → Bool → ℕ → ℕ → Asked
    answer bad short b count = cond bad (Err BadQuestion) (cond short (Err ShortBuffer) (Ok (answer_at b, count)))

    net_answer : (ws : List ℕ) (set : ℕ) → Read o k ws set
        → (questioned o k ws set x y m).answer ≡ answer (bad_pair o (o + k) x y) (ltb (length m) (o + k)) (byte o k (chosen set ws) x y) (full_scan (o + k) (chosen set ws) x).count
    net_answer ws set r =
        ap (λ (q : QuestionOutcome). q.answer)
        (sym (gone_on (λ r. question_outcome (Err r) m) o k ws set (question_clauses o x y m) (question_done (chosen set ws) x y m) (net_is_checked o k ws set r.allowed r.net) refl))
        ∙ at (bad_pair o (o + k) x y) (ltb (length m) (o + k))
      where
        at : (p q : Bool)
            → (cond p (question_outcome (Err BadQuestion) m)
            (cond q (question_outcome (Err ShortBuffer) m) (read_at y (full_scan (o + k) (chosen set ws) x) (drop (o + k) m)))).answer
            ≡ answer p q (byte o k (chosen set ws) x y) (full_scan (o + k) (chosen set ws) x).count
        at true q = refl
        at false true = refl
        at false false = refl

    module _ (ws : List ℕ) (set : ℕ) (vs : List ℕ) (set' : ℕ) (n : Read o k ws set) (r : Read o k vs set') where
      abbrev left : List ℕ
      left = chosen set ws

      abbrev right : List ℕ
      right = chosen set' vs

      -- Nets that answer alike give the same word.
      pub same_word : (x < o + k → Kind o k y → SameAnswer o k left right x y) → word_of (questioned o k ws set x y m).answer ≡ word_of (questioned o k vs set' x y m).answer
      same_word f = rw (net_answer ws set n, net_answer vs set' r) (at (bad_pair o (o + k) x y) (ltb (length m) (o + k)) refl)
        where
          at : (p q : Bool) → bad_pair o (o + k) x y ≡ p
              → word_of (answer p q (byte o k left x y) (full_scan (o + k) left x).count)
              ≡ word_of (answer p q (byte o k right x y) (full_scan (o + k) right x).count)
          at true q e = refl
          at false true e = refl
          at false false e = ap (λ (a : Answer). Ok (a, 0)) (same_answer (byte o k left x y) (byte o k right x y) (f (good e).0 (good e).1))

      -- A yes or a no that a byte gives and another keeps.
      pub keeps_said : (s : Sign) → (x < o + k → Kind o k y → has (marker_of s) (byte o k left x y) ≡ true → has (marker_of s) (byte o k right x y) ≡ true)
          → said_by (questioned o k ws set x y m).answer s ≡ true → said_by (questioned o k vs set' x y m).answer s ≡ true
      keeps_said s f = rw (net_answer ws set n, net_answer vs set' r) (at (bad_pair o (o + k) x y) (ltb (length m) (o + k)) refl)
        where
          at : (p q : Bool) → bad_pair o (o + k) x y ≡ p
              → said_by (answer p q (byte o k left x y) (full_scan (o + k) left x).count) s ≡ true
              → said_by (answer p q (byte o k right x y) (full_scan (o + k) right x).count) s ≡ true
          at true q e h = h
          at false true e h = h
          at false false e h = answer_says (byte o k right x y) s ∙ f (good e).0 (good e).1 (sym (answer_says (byte o k left x y) s) ∙ h)

  -- Nets that give the same word to a good question answer alike.
  pub word_same : (ws : List ℕ) (set : ℕ) (vs : List ℕ) (set' : ℕ) → Read o k ws set → Read o k vs set' → x < o + k → Kind o k y
      → word_of (questioned o k ws set x y (blank (o + k))).answer ≡ word_of (questioned o k vs set' x y (blank (o + k))).answer → SameAnswer o k (chosen set ws) (chosen set' vs) x y
  word_same ws set vs set' n r h g e =
      let room : length (blank (o + k)) ≡ o + k = length-replicate {A = ℕ} (o + k) 0 in
      let w : Ok (answer_at (byte o k (chosen set ws) x y), 0) ≡ Ok (answer_at (byte o k (chosen set' vs) x y), 0) =
      rw (net_answer (blank (o + k)) ws set n, net_answer (blank (o + k)) vs set' r, (good_pair o (o + k) x y).1 (record { node = h; low = g.low; high = g.high }), le-ltb (length (blank (o + k))) (o + k) (omega arith)) at e in
      answer_same (byte o k (chosen set ws) x y) (byte o k (chosen set' vs) x y) (ap (word_in (answer_at (byte o k (chosen set ws) x y))) w)
