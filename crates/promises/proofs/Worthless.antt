-- Each of the four worthless engines, and the one that looks right, breaks a demand; the input at which it does stands in its proof.
use Prim.Native.Nat.{ℕ, ◌+◌, ◌≤◌}
use mathlib.Core.Path.{◌≡◌, refl, sym, ap, subst, ◌∙◌}
use mathlib.Core.Bool.{false}
use mathlib.Core.List.{List, [], ◌∷◌, ◌++◌, Memᴰ}
use mathlib.Core.Logic.{◌↔◌}
use native.Mathlib.Omega.{arith}
use lib.Dec.{eqb}
use lib.ListN.{length, get_or}
use borrow.Author.Tests.{le-ltb}
use Rattle.std.specs.Prelude.{Ok, Err}
use Rattle.theory.specs.NetM.{M}
use Rattle.theory_laws.proofs.Booleans.{contradiction}
use Rattle.theory.specs.Words.{isnt, word_limit}
use Rattle.theory.specs.Support.{r1}
use Rattle.theory.specs.Marks.{F, has, mark, link, links, command, round, commands, scan_start, blank}
use Rattle.theory.specs.Scans.{after, same, rounds, Count}
use Rattle.theory.proofs.machine.Budgets.{count_unique}
use Rattle.theory.proofs.machine.Loss.{nought_is_not_four}
use Rattle.theory.specs.Origins.{chosen}
use Rattle.theory.proofs.origins.Choosing.{chosen_again}
use Rattle.net.specs.Passing.{passing}
use Rattle.net.specs.Table.{check_net}
use Rattle.net.specs.declared.Refusal.{Refusal}
use Rattle.net.proofs.Replies.{refusal_not}
use Rattle.scan.specs.Table.{ScanOutcome, scan_outcome, scanned}
use Rattle.question.specs.Table.{asked_reply, Asked, question_table}
use Rattle.question.specs.declared.Answer.TheVariants.{None}
use Rattle.promises.specs.Tables.{Due}
use Rattle.promises.specs.Engines.{Engine, Read, HasZero}
use Rattle.promises.specs.Demand1.{Demand1}
use Rattle.promises.specs.Demand2.{Demand2}
use Rattle.promises.specs.Demand3.{CompletesTo, Joined, Demand3}
use Rattle.promises.specs.Worthless.{refuser, denier, copier, inventor, hasty_links, hasty_round, hasty_rounds, hasty}
use Rattle.promises.proofs.Tests.{past_checks, chosen_of}
use Rattle.promises.proofs.Demand2.{demand_2}
use Rattle.promises.proofs.Demand3.{completes_once, plain_read}

-- ── one that refuses all calls ──

-- One kind, no words, question (0, 0), one byte of marks: no clause applies.
nothing_wrong : Due 0 (question_table 0 1 [] 15 0 0 (blank 1))
unfolding chosen passing
nothing_wrong = (refl, (refl, (refl, (refl, (refl, (refl, refl))))))

-- An engine that refuses that question breaks demand 1.
pub refusing_breaks : (e : Engine) (r : Refusal) → (e.question 0 1 [] 15 0 0 (blank 1)).answer ≡ Err r → Demand1 e → ⊥
refusing_breaks e r h d =
    contradiction
    (sym (refusal_not r 0 refl)
    ∙ ap (λ (n : ℕ). eqb n 0) (sym (ap (λ (a : Asked). (asked_reply a).number) h) ∙ ((d.question 0 1 [] 15 0 0 (blank 1)).exactly 0).1 nothing_wrong))

-- So the engine that refuses all calls does, whatever refusal it gives.
pub refuser_breaks : (r : Refusal) → Demand1 (refuser r) → ⊥
refuser_breaks r = refusing_breaks (refuser r) r refl

-- ── one that answers none to everything ──

-- Net M, question (0, 4).
denies : (denier.question 2 4 M 15 0 4 (blank 6)).answer ≡ Ok (None, 5)
unfolding check_net chosen passing rounds same round command links link mark
denies = refl

-- But 0 ↛ 4 is supported: an engine that answers none to that question breaks demand 2.
pub denying_breaks : (e : Engine) (count : ℕ) → (e.question 2 4 M 15 0 4 (blank 6)).answer ≡ Ok (None, count) → Demand2 e → ⊥
unfolding chosen
denying_breaks e count h d = contradiction ((d.question 2 4 M 15 0 4 (blank 6) None count h isnt).1 nought_is_not_four)

-- So the engine that answers none to every question does.
pub denier_breaks : Demand2 denier → ⊥
denier_breaks = denying_breaks denier 5 denies

-- ── one that returns the net as its own completion ──

-- It completes every net to its chosen words, and to nothing else.
copies : (o k : ℕ) (ws : List ℕ) (set : ℕ) → Read o k ws set → CompletesTo copier o k ws set (chosen set ws)
copies o k ws set r m l h i = let t = (past_checks o k ws set).1 r in rw (t.0, t.1, t.2, t.3, le-ltb (length m) (o + k) h, le-ltb (length l) (length (chosen set ws)) i)

copies_only : (o k : ℕ) (ws : List ℕ) (set : ℕ) (out : List ℕ) → Read o k ws set → CompletesTo copier o k ws set out → chosen set ws ≡ out
copies_only o k ws set out r = completes_once copier o k ws set (chosen set ws) out (copies o k ws set r)

-- So it keeps three laws of demand 3 word for word: again, and part on either side.
pub copier_again : (o k : ℕ) (ws : List ℕ) (set z : ℕ) → Read o k ws set → HasZero z → (out : List ℕ) → CompletesTo copier o k ws set out → CompletesTo copier o k out z out
copier_again o k ws set z r zero out c =
    let e = copies_only o k ws set out r c in
    let plain = chosen_again set z zero.zero ws in
    subst (λ (l : List ℕ). CompletesTo copier o k l z l) e
    (subst (CompletesTo copier o k (chosen set ws) z) plain (copies o k (chosen set ws) z (plain_read o k (chosen set ws) z (chosen_of o k ws set r) zero)))

pub copier_part : (o k : ℕ) (ws : List ℕ) (set z : ℕ) → Read o k ws set → HasZero z → (vs out all : List ℕ) → Joined o k (chosen set ws) vs → CompletesTo copier o k ws set out
    → length (out ++ vs) ≤ word_limit → CompletesTo copier o k (chosen set ws ++ vs) z all ↔ CompletesTo copier o k (out ++ vs) z all
copier_part o k ws set z r zero vs out all j c h =
    let e = copies_only o k ws set out r c in
    (subst (λ (l : List ℕ). CompletesTo copier o k (l ++ vs) z all) e, subst (λ (l : List ℕ). CompletesTo copier o k (l ++ vs) z all) (sym e))

pub copier_part_right : (o k : ℕ) (ws : List ℕ) (set z : ℕ) → Read o k ws set → HasZero z → (vs out all : List ℕ) → Joined o k vs (chosen set ws) → CompletesTo copier o k ws set out
    → length (vs ++ out) ≤ word_limit → CompletesTo copier o k (vs ++ chosen set ws) z all ↔ CompletesTo copier o k (vs ++ out) z all
copier_part_right o k ws set z r zero vs out all j c h =
    let e = copies_only o k ws set out r c in
    (subst (λ (l : List ℕ). CompletesTo copier o k (vs ++ l) z all) e, subst (λ (l : List ℕ). CompletesTo copier o k (vs ++ l) z all) (sym e))

-- One kind and no words: 0 → 0 is supported, and its word is 0.
one_kind : Read 0 1 [] 15
one_kind = record { net = record { few = omega arith; short = omega arith; legal = λ w m. elim m [ ] }; allowed = omega arith }

-- But such an engine lists nothing: one that completes that net to itself breaks demand 3.
pub copying_breaks : (e : Engine) → CompletesTo e 0 1 [] 15 [] → Demand3 e → ⊥
unfolding chosen
copying_breaks e c d =
    let (out, t, all) = d.lists 0 1 [] 15 one_kind in
    elim (subst (Memᴰ 0) (completes_once e 0 1 [] 15 out [] t c) ((all.exact 0).1 (r1 (record { low = omega arith; high = omega arith })))) [ ]

-- So the engine that returns every net as its own completion does.
pub copier_breaks : Demand3 copier → ⊥
unfolding chosen
copier_breaks = copying_breaks copier (copies 0 1 [] 15 one_kind)

-- ── one that runs the first round and reports an invented count ──

-- Net M from 0: the first round leaves no F at 4.
no_F_yet : has F (get_or (round commands M (scan_start 6 0)) 4 0) ≡ false
unfolding round command links link mark
no_F_yet = refl

-- But 0 ↛ 4 is supported: an engine that leaves the marks of the first round there breaks demand 2, whatever count it reports.
pub one_round_breaks : (e : Engine) (count : ℕ) → e.scan 2 4 M 15 0 17 (blank 6) ≡ scan_outcome (Ok count) (round commands M (scan_start 6 0)) → Demand2 e → ⊥
unfolding chosen
one_round_breaks e count h d =
    contradiction
    (sym no_F_yet
    ∙ sym (ap (λ (r : ScanOutcome). has F (get_or r.marks 4 0)) h)
    ∙ (d.scan 2 4 M 15 0 17 (blank 6) count (ap (λ (r : ScanOutcome). r.answer) h) 4 (record { low = omega arith; high = omega arith }) isnt).1 nought_is_not_four)

-- The engine that invents counts leaves these marks.
stops_early : (invented : ℕ → ℕ → List ℕ → ℕ → ℕ → ℕ → List ℕ → ℕ)
    → (inventor invented).scan 2 4 M 15 0 17 (blank 6) ≡ scan_outcome (Ok (invented 2 4 M 15 0 17 (blank 6))) (round commands M (scan_start 6 0))
unfolding chosen passing rounds same round command links link mark
stops_early invented = refl

-- So the engine that does so in every scan breaks it, whatever it invents.
pub inventor_breaks : (invented : ℕ → ℕ → List ℕ → ℕ → ℕ → ℕ → List ℕ → ℕ) → Demand2 (inventor invented) → ⊥
inventor_breaks invented = one_round_breaks (inventor invented) (invented 2 4 M 15 0 17 (blank 6)) (stops_early invented)

-- An engine that reports another count than the machine's breaks demand 2 by the rounds alone, whatever its marks are.
pub miscounting_breaks : (e : Engine) (o k : ℕ) (ws : List ℕ) (set x budget : ℕ) (m : List ℕ) (count c : ℕ) → (e.scan o k ws set x budget m).answer ≡ Ok count
    → Count commands (chosen set ws) (scan_start (o + k) x) c → (count ≡ c → ⊥) → Demand2 e → ⊥
miscounting_breaks e o k ws set x budget m count c h n differ d =
    differ (count_unique commands (chosen set ws) (scan_start (o + k) x) count c (d.scan_rounds o k ws set x budget m count h).0 n)

-- One kind, from 0: without words the count is 1, and with word 1 it is 2; in both the first round sets all there is to set.
count_1 : (scanned 0 1 [] 15 0 2 (blank 1)).answer ≡ Ok 1
unfolding check_net chosen passing after rounds same round command links link mark
count_1 = refl

count_2 : (scanned 0 1 (1 ∷ []) 15 0 2 (blank 1)).answer ≡ Ok 2
unfolding check_net chosen passing after rounds same round command links link mark
count_2 = refl

-- One number is not both counts: an engine that reports the same number in both breaks demand 2.
pub one_number_breaks : (e : Engine) (c : ℕ) → (e.scan 0 1 [] 15 0 2 (blank 1)).answer ≡ Ok c → (e.scan 0 1 (1 ∷ []) 15 0 2 (blank 1)).answer ≡ Ok c
    → Demand2 e → ⊥
one_number_breaks e c h g d =
    miscounting_breaks e 0 1 [] 15 0 2 (blank 1) c 1 h (demand_2.scan_rounds 0 1 [] 15 0 2 (blank 1) 1 count_1).0
    (λ p. miscounting_breaks e 0 1 (1 ∷ []) 15 0 2 (blank 1) c 2 g (demand_2.scan_rounds 0 1 (1 ∷ []) 15 0 2 (blank 1) 2 count_2).0 (λ q. omega arith) d) d

-- What is invented there is what the engine reports.
reports_1 : (invented : ℕ → ℕ → List ℕ → ℕ → ℕ → ℕ → List ℕ → ℕ) → ((inventor invented).scan 0 1 [] 15 0 2 (blank 1)).answer ≡ Ok (invented 0 1 [] 15 0 2 (blank 1))
unfolding chosen passing rounds same round command links link mark
reports_1 invented = refl

reports_2 : (invented : ℕ → ℕ → List ℕ → ℕ → ℕ → ℕ → List ℕ → ℕ) → ((inventor invented).scan 0 1 (1 ∷ []) 15 0 2 (blank 1)).answer ≡ Ok (invented 0 1 (1 ∷ []) 15 0 2 (blank 1))
unfolding chosen passing rounds same round command links link mark
reports_2 invented = refl

-- So the rounds alone shut out the engine that invents one number for all.
pub invented_count_breaks : (c : ℕ) → Demand2 (inventor (λ o k ws set x budget m. c)) → ⊥
invented_count_breaks c = let one : ℕ → ℕ → List ℕ → ℕ → ℕ → ℕ → List ℕ → ℕ = λ o k ws set x budget m. c in one_number_breaks (inventor one) c (reports_1 one) (reports_2 one)

-- ── one that updates marks inside a command ──

-- Net M from 0: it counts 4 rounds, and the machine 5.
counts_4 : hasty.scan 2 4 M 15 0 17 (blank 6) ≡ scan_outcome (Ok 4) (5 ∷ 2 ∷ 4 ∷ 2 ∷ 2 ∷ 2 ∷ [])
unfolding chosen passing same hasty_rounds hasty_round hasty_links link mark
counts_4 = refl

counts_5 : scanned 2 4 M 15 0 17 (blank 6) ≡ scan_outcome (Ok 5) (5 ∷ 2 ∷ 4 ∷ 2 ∷ 2 ∷ 2 ∷ [])
unfolding chosen passing rounds same round command links link mark
counts_5 = refl

-- The marks at the end are those of our engine.
pub hasty_same_marks : (hasty.scan 2 4 M 15 0 17 (blank 6)).marks ≡ (scanned 2 4 M 15 0 17 (blank 6)).marks
hasty_same_marks = ap (λ (r : ScanOutcome). r.marks) counts_4 ∙ sym (ap (λ (r : ScanOutcome). r.marks) counts_5)

-- So it breaks demand 2 by its rounds.
pub hasty_breaks : Demand2 hasty → ⊥
hasty_breaks =
    miscounting_breaks hasty 2 4 M 15 0 17 (blank 6) 4 5 (ap (λ (r : ScanOutcome). r.answer) counts_4)
    (demand_2.scan_rounds 2 4 M 15 0 17 (blank 6) 5 (ap (λ (r : ScanOutcome). r.answer) counts_5)).0 (λ q. omega arith)
