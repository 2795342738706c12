-- Our engine keeps what is promised of a screenful of questions.
use Prim.Native.Nat.{ℕ, zero, suc, ◌+◌, ◌≤◌, ◌<◌}
use mathlib.Core.Path.{◌≡◌, refl, sym, ap, ◌∙◌}
use mathlib.Core.Bool.{Bool, true, false, cond}
use mathlib.Core.List.{List, ◌∷◌, ◌++◌}
use mathlib.Core.Logic.{◌↔◌}
use native.Mathlib.Omega.{arith}
use lib.ListN.{length, get_or, drop, length-append, get_or-append}
use lib.Seq.{drop_at}
use Rattle.std.specs.Prelude.{Err, Ok}
use Rattle.theory_laws.specs.Over.{over}
use Rattle.theory_laws.proofs.Over.{length_over}
use Rattle.theory_laws.proofs.Booleans.{contradiction}
use Rattle.theory_laws.proofs.Deciding.{decides_not}
use Rattle.theory.specs.Words.{Sign, is, isnt}
use Rattle.theory.specs.Scans.{full_budget, full_scan}
use Rattle.theory.specs.Origins.{chosen}
use Rattle.theory.proofs.machine.Bounds.{scan_long}
use Rattle.theory.proofs.completion.Completing.{full_exact}
use Rattle.net.specs.Table.{bad_pair}
use Rattle.net.proofs.Good.{good_pair, good_kind}
use Rattle.net.proofs.NetCheck.{net_is_checked}
use Rattle.net.proofs.OnNet.{gone_on}
use Rattle.question.specs.Table.{QuestionOutcome, question_outcome, question_clauses, question_done, questioned, answer_at, answer_number}
use Rattle.question.specs.declared.Answer.{Answer}
use Rattle.question.specs.declared.Answer.TheVariants.{None, Yes, No, Both}
use Rattle.question.proofs.Bytes.{answer_low}
use Rattle.questions.specs.Pairs.{pairs_in, subject_at, kind_at, GoodPairs}
use Rattle.questions.specs.Table.{QuestionsOutcome, asked_byte, answer_byte, marks_after, answers_from, marks_from, asked_all_reply, questions_done, questioned_all, AskedAll}
use Rattle.questions.proofs.Pairs.{single, answers_long}
use Rattle.questions.proofs.Last.{byte_at, marks_last, marks_none}
use Rattle.promises.specs.Numbers.{questions_number}
use Rattle.promises.specs.Engines.{Read, ours}
use Rattle.promises.specs.Demand2.{says}
use Rattle.promises.specs.AskingAll.{byte_says, bytes_in_turn, marks_in_turn, AskingAll}
use Rattle.promises.proofs.Demand1.{questions_obeys}
use Rattle.promises.proofs.Demand2.{answer_says}
use Rattle.promises.proofs.Tests.{chosen_of}
use Rattle.promises.proofs.PlainQuestions.{questions_0}

-- The byte of an answer says what the answer says.
byte_says_lem : (a : Answer) (s : Sign) → byte_says (answer_number a) s ≡ says a s
byte_says_lem None is = refl
byte_says_lem None isnt = refl
byte_says_lem Yes is = refl
byte_says_lem Yes isnt = refl
byte_says_lem No is = refl
byte_says_lem No isnt = refl
byte_says_lem Both is = refl
byte_says_lem Both isnt = refl

-- A test between 255 and an answer's number.
told : (bad : Bool) (a : Answer) → (cond bad 255 (answer_number a) ≡ 255) ↔ (bad ≡ true)
told true a = ((λ e. refl), λ e. refl)
told false a = ((λ e. absurd (omega (arith, e, answer_low a))), λ e. contradiction e)

module _ (o k : ℕ) (ws : List ℕ) (set : ℕ) where
  -- The number of nodes, and the plain words.
  abbrev n : ℕ
  n = o + k

  abbrev words : List ℕ
  words = chosen set ws

  module _ (r : Read o k ws set) where
    -- A scan from a node has a byte for each node.
    long : (x : ℕ) → x < n → length (full_scan n words x).marks ≡ n
    long x h = scan_long o k words (chosen_of o k ws set r).legal x h (full_budget n)

    module _ (x y : ℕ) (m : List ℕ) (room : n ≤ length m) where
      -- The byte of the single question, and the marks that it leaves.
      by_single : (asked_byte (questioned o k ws set x y m).answer ≡ answer_byte o n words x y) × ((questioned o k ws set x y m).marks ≡ marks_after o n words x y m)
      by_single =
          let e : questioned o k ws set x y m ≡ _ =
          sym (gone_on (λ r. question_outcome (Err r) m) o k ws set (question_clauses o x y m) (question_done words x y m) (net_is_checked o k ws set r.allowed r.net) refl) in
          let t = single o n words x y m room in
          (ap (λ (q : QuestionOutcome). asked_byte q.answer) e ∙ t.0, ap (λ (q : QuestionOutcome). q.marks) e ∙ t.1)

      -- After it there is still room.
      room_after : n ≤ length (marks_after o n words x y m)
      room_after = at (bad_pair o n x y) refl
        where
          at : (bad : Bool) → bad_pair o n x y ≡ bad → n ≤ length (cond bad m ((full_scan n words x).marks ++ drop n m))
          at true e = room
          at false e = simp length-append (omega (arith, long x ((good_pair o n x y).0 e).node))

    -- Asking in turn.
    bytes_in_turn_lem : (ps : List ℕ) (i j : ℕ) (m : List ℕ) → n ≤ length m → answers_from o n words ps i j ≡ bytes_in_turn ours o k ws set ps i j m
    unfolding answers_from bytes_in_turn
    bytes_in_turn_lem ps i zero m room = refl
    bytes_in_turn_lem ps i (suc j) m room =
        let t = by_single (subject_at ps i) (kind_at ps i) m room in
        rw (t.0, t.1) (ap (λ (l : List ℕ). answer_byte o n words (subject_at ps i) (kind_at ps i) ∷ l)
        (bytes_in_turn_lem ps (suc i) j (marks_after o n words (subject_at ps i) (kind_at ps i) m) (room_after (subject_at ps i) (kind_at ps i) m room)))

    marks_in_turn_lem : (ps : List ℕ) (i j : ℕ) (m : List ℕ) → n ≤ length m → marks_from o n words ps i j m ≡ marks_in_turn ours o k ws set ps i j m
    unfolding marks_from marks_in_turn
    marks_in_turn_lem ps i zero m room = refl
    marks_in_turn_lem ps i (suc j) m room =
        let t = by_single (subject_at ps i) (kind_at ps i) m room in
        rw t.1 (marks_in_turn_lem ps (suc i) j (marks_after o n words (subject_at ps i) (kind_at ps i) m) (room_after (subject_at ps i) (kind_at ps i) m room))

  module _ (ps bs m : List ℕ) (e : (questioned_all o k ws set ps bs m).answer ≡ Ok tt) where
    numbered : questions_number (questioned_all o k ws set ps bs m) ≡ 0
    numbered = ap (λ (a : AskedAll). (asked_all_reply a).number) e

    -- A screenful that is done was over a net, with good pairs and room for the marks, and left what is said for number 0.
    read : Read o k ws set
    read = ((questions_0 o k ws set ps bs m).0 numbered).0

    pairs : GoodPairs ps bs
    pairs = ((questions_0 o k ws set ps bs m).0 numbered).1.0

    roomy : n ≤ length m
    roomy = ((questions_0 o k ws set ps bs m).0 numbered).1.1

    left : questioned_all o k ws set ps bs m ≡ questions_done o words ps bs m n
    left = let t = questions_obeys o k ws set ps bs m in t.leaves 0 ((t.exactly 0).0 numbered)

    bytes : (questioned_all o k ws set ps bs m).answers ≡ over (answers_from o n words ps 0 (pairs_in ps)) bs
    bytes = ap (λ (q : QuestionsOutcome). q.answers) left

    marks : (questioned_all o k ws set ps bs m).marks ≡ marks_from o n words ps 0 (pairs_in ps) m
    marks = ap (λ (q : QuestionsOutcome). q.marks) left

    size : length (answers_from o n words ps 0 (pairs_in ps)) ≡ pairs_in ps
    size = answers_long o n words ps 0 (pairs_in ps)

    -- The byte of pair i.
    byte : (i : ℕ) → i < pairs_in ps → get_or (questioned_all o k ws set ps bs m).answers i 0 ≡ answer_byte o n words (subject_at ps i) (kind_at ps i)
    byte i h =
        let z : 0 + i ≡ i = omega arith in
        ap (λ (l : List ℕ). get_or l i 0) bytes
        ∙ get_or-append (answers_from o n words ps 0 (pairs_in ps)) (drop (length (answers_from o n words ps 0 (pairs_in ps))) bs) 0 i (omega (arith, size))
        ∙ byte_at o n words ps 0 (pairs_in ps) i h
        ∙ ap (λ (v : ℕ). answer_byte o n words (subject_at ps v) (kind_at ps v)) z

pub asking_all : AskingAll ours
asking_all = record {
  in_turn = λ o k ws set ps bs m e. (
    bytes o k ws set ps bs m e ∙ ap (λ (l : List ℕ). over l bs) (bytes_in_turn_lem o k ws set (read o k ws set ps bs m e) ps 0 (pairs_in ps) m (roomy o k ws set ps bs m e)),
    marks o k ws set ps bs m e ∙ marks_in_turn_lem o k ws set (read o k ws set ps bs m e) ps 0 (pairs_in ps) m (roomy o k ws set ps bs m e),
  );
  each = λ o k ws set ps bs m e i h l room. byte o k ws set ps bs m e i h ∙ sym (by_single o k ws set (read o k ws set ps bs m e) (subject_at ps i) (kind_at ps i) l room).0;
  bad = λ o k ws set ps bs m e i h.
      let x = subject_at ps i in
      let y = kind_at ps i in
      let t = told (bad_pair o (o + k) x y) (answer_at (get_or (full_scan (o + k) (chosen set ws) x).marks y 0)) in
      let d = decides_not (bad_pair o (o + k) x y) (good_pair o (o + k) x y) in
      ((λ f. d.0 (t.0 (sym (byte o k ws set ps bs m e i h) ∙ f))), λ g. byte o k ws set ps bs m e i h ∙ t.1 (d.1 g));
  supported = λ o k ws set ps bs m e i h g s.
      let x = subject_at ps i in
      let y = kind_at ps i in
      let b = get_or (full_scan (o + k) (chosen set ws) x).marks y 0 in
      let f = full_exact o k (chosen set ws) (chosen_of o k ws set (read o k ws set ps bs m e)) x y s g.node (good_kind g) in
      let a : answer_byte o (o + k) (chosen set ws) x y ≡ answer_number (answer_at b) = rw ((good_pair o (o + k) x y).1 g) in
      let q = ap (λ (v : ℕ). byte_says v s) (byte o k ws set ps bs m e i h ∙ a) ∙ byte_says_lem (answer_at b) s ∙ answer_says b s in
      ((λ p. f.0 (sym q ∙ p)), λ p. q ∙ f.1 p);
  behind = λ o k ws set ps bs m e.
      let l = answers_from o (o + k) (chosen set ws) ps 0 (pairs_in ps) in
      let z = size o k ws set ps bs m e in (
        ap length (bytes o k ws set ps bs m e) ∙ length_over l bs (omega (arith, z, (pairs o k ws set ps bs m e).room)),
        ap (drop (pairs_in ps)) (bytes o k ws set ps bs m e) ∙ drop_at l (drop (length l) bs) (pairs_in ps) z ∙ ap (λ (j : ℕ). drop j bs) z,
      );
  last = λ o k ws set ps bs m e i g.
      let r = read o k ws set ps bs m e in
      marks o k ws set ps bs m e
      ∙ marks_last o (o + k) (chosen set ws) ps (long o k ws set r) i m g
      ∙ sym ((by_single o k ws set r (subject_at ps i) (kind_at ps i) m (roomy o k ws set ps bs m e)).1 ∙ rw ((good_pair o (o + k) (subject_at ps i) (kind_at ps i)).1 g.good));
  none = λ o k ws set ps bs m e h. marks o k ws set ps bs m e ∙ marks_none o (o + k) (chosen set ws) ps m h;
}
