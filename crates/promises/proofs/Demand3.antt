-- Demand 3, kept by our engine.
use Prim.Native.Nat.{ℕ, ◌+◌, ◌≤◌, ◌<◌}
use mathlib.Core.Path.{◌≡◌, sym, ap, subst, ◌∙◌}
use mathlib.Core.List.Memᴰ
use mathlib.Core.List.{List, ◌++◌}
use mathlib.Core.Logic.{◌↔◌, ⊎_elim}
use native.Mathlib.Omega.{arith}
use lib.ListN.{length, take, drop, length-append, length-replicate}
use lib.Seq.{take-append_seam}
use borrow.Author.Tests.{ltb-true, le-ltb}
use Rattle.std.specs.Prelude.{Err}
use Rattle.theory.specs.Words.{word_limit}
use Rattle.theory.specs.Nets.{Kind, Net, AllIn}
use Rattle.theory.specs.Origins.{chosen}
use Rattle.theory.proofs.origins.Choosing.{chosen_plain}
use Rattle.theory.proofs.origins.Statements.{net_from, net_plain}
use Rattle.theory.specs.Marks.{blank}
use Rattle.theory.specs.Completion.{complete, Lists}
use Rattle.theory.proofs.completion.Completing.{complete_lists, lists_unique}
use Rattle.theory.proofs.completion.Demand3.{complete_net, complete_again, complete_part, alike as complete-alike, joining_keeps, others_keep, SameAnswer, Alike}
use Rattle.question.specs.Table.{questioned}
use Rattle.completion.specs.Table.{CompletionOutcome, completed_by, completed_reply, Completed}
use Rattle.completion.specs.declared.CompletionError.TheVariants as completed
use Rattle.promises.specs.Engines.{Engine, Read, HasZero, ours}
use Rattle.promises.specs.Demand3.{word_of, CompletesTo, Joined, SameWord, Demand3}
use Rattle.promises.proofs.Demand1.{completion_obeys}
use Rattle.promises.proofs.Tests.{past_checks, chosen_of}
use Rattle.promises.proofs.Reordered.{completion_order}
use Rattle.promises.proofs.NetAnswers.{same_word, keeps_said, word_same}

-- Two nets joined inside the limit are a net.
pub joined_net : (o k : ℕ) (ws vs : List ℕ) → Joined o k ws vs → Net o k (ws ++ vs)
joined_net o k ws vs j = record { few = j.left.few; short = j.short; legal = λ w m. ⊎_elim (j.left.legal w) (j.right.legal w) (Memᴰ.append_cases ws m) }

-- Joined the other way round they may be joined as well, and have the same words.
turned : (o k : ℕ) (ws vs : List ℕ) → Joined o k ws vs → Joined o k vs ws
turned o k ws vs j = record { left = j.right; right = j.left; short = omega (arith, j.short, length-append ws vs, length-append vs ws) }

among_turned : (ws vs : List ℕ) → AllIn (ws ++ vs) (vs ++ ws)
among_turned ws vs w m = ⊎_elim (Memᴰ.append_right vs) (Memᴰ.append_left ws) (Memᴰ.append_cases ws m)

-- Plain words, read with a set that has 0, are a net with origins, and they are chosen as they are.
pub plain_read : (o k : ℕ) (ws : List ℕ) (z : ℕ) → Net o k ws → HasZero z → Read o k ws z
plain_read o k ws z n h = record { net = net_from o k ws n; allowed = h.allowed }

pub plain_chosen : (o k : ℕ) (ws : List ℕ) (z : ℕ) → Net o k ws → HasZero z → chosen z ws ≡ ws
plain_chosen o k ws z n h = chosen_plain z h.zero ws (net_plain o k ws n)

-- No engine completes a net to two lists: lent a list that has room for both, it gives the size of each and writes each.
pub completes_once : (e : Engine) (o k : ℕ) (ws : List ℕ) (set : ℕ) (a b : List ℕ) → CompletesTo e o k ws set a → CompletesTo e o k ws set b → a ≡ b
completes_once e o k ws set a b c d =
    let room : length (blank (o + k)) ≡ o + k = length-replicate {A = ℕ} (o + k) 0 in
    let long : length (a ++ b) ≡ length a + length b = length-append a b in
    let p = sym (c (blank (o + k)) (a ++ b) (omega arith) (omega arith)) ∙ d (blank (o + k)) (a ++ b) (omega arith) (omega arith) in
    let size : length a ≡ length b = ap (λ (r : CompletionOutcome). (completed_reply r.answer).first) p in
    sym (take-append_seam a (drop (length a) (a ++ b)))
    ∙ ap (λ (r : CompletionOutcome). take (length a) r.list) p
    ∙ ap (λ (i : ℕ). take i (b ++ drop (length b) (a ++ b))) size
    ∙ take-append_seam b (drop (length b) (a ++ b))

module _ (o k : ℕ) where
  -- Our engine completes a net to the completed list of its chosen words.
  completes_to : (ws : List ℕ) (set : ℕ) → Read o k ws set → CompletesTo ours o k ws set (complete o k (chosen set ws))
  completes_to ws set r m l h i =
      let t = (past_checks o k ws set).1 r in
      rw (t.0, t.1, t.2, t.3, le-ltb (length m) (o + k) h, le-ltb (length l) (length (complete o k (chosen set ws))) i)

  -- And to no other.
  completes_only : (ws : List ℕ) (set : ℕ) (out : List ℕ) → Read o k ws set → CompletesTo ours o k ws set out → complete o k (chosen set ws) ≡ out
  completes_only ws set out r = completes_once ours o k ws set (complete o k (chosen set ws)) out (completes_to ws set r)

  -- Plain words to their own completed list.
  module _ (z : ℕ) (zero : HasZero z) where
    pub plain_to : (ws : List ℕ) → Net o k ws → CompletesTo ours o k ws z (complete o k ws)
    plain_to ws n =
        subst (λ (l : List ℕ). CompletesTo ours o k ws z (complete o k l)) (plain_chosen o k ws z n zero) (completes_to ws z (plain_read o k ws z n zero))

    pub plain_only : (ws out : List ℕ) → Net o k ws → CompletesTo ours o k ws z out → complete o k ws ≡ out
    plain_only ws out n = completes_once ours o k ws z (complete o k ws) out (plain_to ws n)

module _ (o k : ℕ) where
  module _ (ws : List ℕ) (set z : ℕ) (r : Read o k ws set) (zero : HasZero z) where
    -- The chosen words, which are a net.
    abbrev picked : List ℕ
    picked = chosen set ws

    net : Net o k picked
    net = chosen_of o k ws set r

    part_first : (vs out all : List ℕ) → Joined o k picked vs → CompletesTo ours o k ws set out → length (out ++ vs) ≤ word_limit
        → CompletesTo ours o k (picked ++ vs) z all ↔ CompletesTo ours o k (out ++ vs) z all
    part_first vs out all j c h = (
      (λ d. subst (CompletesTo ours o k (out ++ vs) z) (p ∙ plain_only o k z zero (picked ++ vs) all whole d) (plain_to o k z zero (out ++ vs) n)),
      λ d. subst (CompletesTo ours o k (picked ++ vs) z) (sym p ∙ plain_only o k z zero (out ++ vs) all n d) (plain_to o k z zero (picked ++ vs) whole),
    )
      where
        a : complete o k picked ≡ out
        a = completes_only o k ws set out r c

        whole : Net o k (picked ++ vs)
        whole = joined_net o k picked vs j

        n : Net o k (out ++ vs)
        n = joined_net o k out vs (record { left = subst (Net o k) a (complete_net o k picked net); right = j.right; short = h })

        p : complete o k (out ++ vs) ≡ complete o k (picked ++ vs)
        p = subst (λ (l : List ℕ). complete o k (l ++ vs) ≡ complete o k (picked ++ vs)) a
            (complete_part o k picked vs net whole (subst (λ (l : List ℕ). Net o k (l ++ vs)) (sym a) n))

  -- Our engine completes joined plain words like the same parts joined the other way round.
  either_way : (z : ℕ) → HasZero z → (ws vs all : List ℕ) → Joined o k ws vs → CompletesTo ours o k (ws ++ vs) z all → CompletesTo ours o k (vs ++ ws) z all
  either_way z zero ws vs all j c m l h i =
      let n = joined_net o k ws vs j in
      let p = joined_net o k vs ws (turned o k ws vs j) in
      let a = plain_chosen o k (ws ++ vs) z n zero in
      let b = plain_chosen o k (vs ++ ws) z p zero in
      sym
      (completion_order o k (ws ++ vs) z (vs ++ ws) z (plain_read o k (ws ++ vs) z n zero) (plain_read o k (vs ++ ws) z p zero) (rw (a, b) (among_turned ws vs)) (rw (a, b) (among_turned vs ws)) m l)
      ∙ c m l h i

  part_last : (ws : List ℕ) (set z : ℕ) → Read o k ws set → HasZero z → (vs out all : List ℕ) → Joined o k vs (chosen set ws) → CompletesTo ours o k ws set out
      → length (vs ++ out) ≤ word_limit → CompletesTo ours o k (vs ++ chosen set ws) z all ↔ CompletesTo ours o k (vs ++ out) z all
  part_last ws set z r zero vs out all j c h =
      let n : Net o k out = subst (Net o k) (completes_only o k ws set out r c) (complete_net o k (chosen set ws) (chosen_of o k ws set r)) in
      let t = turned o k vs (chosen set ws) j in
      let u : Joined o k vs out = record { left = j.left; right = n; short = h } in
      let f = part_first ws set z r zero vs out all t c (turned o k vs out u).short in
      ((λ d. either_way z zero out vs all (turned o k vs out u) (f.0 (either_way z zero vs (chosen set ws) all j d))), λ d. either_way z zero (chosen set ws) vs all t (f.1 (either_way z zero vs out all u d)))

  -- Questions about plain words.
  module _ (z : ℕ) (zero : HasZero z) (x y : ℕ) (ws vs : List ℕ) (n : Net o k ws) (p : Net o k vs) where
    pub plain_word : (m : List ℕ) → (x < o + k → Kind o k y → SameAnswer o k ws vs x y) → word_of (questioned o k ws z x y m).answer ≡ word_of (questioned o k vs z x y m).answer
    plain_word m f =
        same_word o k x y m ws z vs z (plain_read o k ws z n zero) (plain_read o k vs z p zero)
        (rw (plain_chosen o k ws z n zero, plain_chosen o k vs z p zero) f)

    word_plain : x < o + k → Kind o k y → word_of (questioned o k ws z x y (blank (o + k))).answer ≡ word_of (questioned o k vs z x y (blank (o + k))).answer → SameAnswer o k ws vs x y
    word_plain node kind e =
        rw (plain_chosen o k ws z n zero, plain_chosen o k vs z p zero) at
        (word_same o k x y ws z vs z (plain_read o k ws z n zero) (plain_read o k vs z p zero) node kind e)

  alike_exactly : (ws : List ℕ) (set : ℕ) (vs : List ℕ) (set' z : ℕ) → Read o k ws set → Read o k vs set' → HasZero z → (a b : List ℕ)
      → CompletesTo ours o k ws set a → CompletesTo ours o k vs set' b
      → (a ≡ b) ↔ ((us : List ℕ) → Joined o k (chosen set ws) us → Joined o k (chosen set' vs) us → SameWord ours o k z (chosen set ws ++ us) (chosen set' vs ++ us))
  alike_exactly ws set vs set' z n r zero a b c d = (there, back)
    where
      left : List ℕ
      left = chosen set ws

      right : List ℕ
      right = chosen set' vs

      p : complete o k left ≡ a
      p = completes_only o k ws set a n c

      q : complete o k right ≡ b
      q = completes_only o k vs set' b r d

      exactly : (complete o k left ≡ complete o k right) ↔ Alike o k left right
      exactly = complete-alike o k left right (chosen_of o k ws set n) (chosen_of o k vs set' r)

      there : a ≡ b → (us : List ℕ) → Joined o k left us → Joined o k right us → SameWord ours o k z (left ++ us) (right ++ us)
      there e us i j x y m =
          let f = joined_net o k left us i in
          let g = joined_net o k right us j in
          plain_word z zero x y (left ++ us) (right ++ us) f g m (exactly.0 (p ∙ e ∙ sym q) us f g x y)

      third : (ws us : List ℕ) → Net o k (ws ++ us) → Net o k us
      third ws us f = record { few = f.few; short = omega (arith, f.short, length-append ws us); legal = λ w m. f.legal w (Memᴰ.append_right ws m) }

      back : ((us : List ℕ) → Joined o k left us → Joined o k right us → SameWord ours o k z (left ++ us) (right ++ us)) → a ≡ b
      back h =
          sym p
          ∙ exactly.1
          (λ us f g x y node kind. word_plain z zero x y (left ++ us) (right ++ us) f g node kind
          (h us (record { left = chosen_of o k ws set n; right = third left us f; short = f.short }) (record { left = chosen_of o k vs set' r; right = third left us f; short = g.short }) x y (blank (o + k))))
          ∙ q

-- A list that is too short is shorter than the supported words, whose number is given.
short_needs : (o k : ℕ) (ws : List ℕ) (set : ℕ) (m l : List ℕ) (n : ℕ) → (completed_by o k ws set m l).answer ≡ Err (completed.Short n) → (out : List ℕ) → Lists o k (chosen set ws) out
    → (n ≡ length out) × (length l < n)
short_needs o k ws set m l n e out c =
    let all = complete o k (chosen set ws) in
    let d = ((completion_obeys o k ws set m l).exactly 8).0 (ap (λ (r : Completed). (completed_reply r).number) e) in
    let q = (completion_obeys o k ws set m l).leaves 8 d in
    let net = chosen_of o k ws set ((past_checks o k ws set).0 (d.0, d.1.0, d.1.1.0, d.1.1.1.0)) in
    let size : length (complete o k (chosen set ws)) ≡ n = ap (λ (r : Completed). (completed_reply r).first) (sym (ap (λ (r : CompletionOutcome). r.answer) q) ∙ e) in
    let same : length (complete o k (chosen set ws)) ≡ length out = ap (length {A = ℕ}) (lists_unique o k (chosen set ws) all out (complete_lists o k (chosen set ws) net) c) in
    let less : length l < length (complete o k (chosen set ws)) = ltb-true (length l) (length all) d.1.1.1.1.1 in
    (omega arith, omega arith)

-- Our engine keeps demand 3.
pub demand_3 : Demand3 ours
demand_3 = record {
  lists = λ o k ws set r. (complete o k (chosen set ws), completes_to o k ws set r, complete_lists o k (chosen set ws) (chosen_of o k ws set r));
  needs = short_needs;
  again = λ o k ws set z r zero out c.
      let a = completes_only o k ws set out r c in
      let n = chosen_of o k ws set r in
      subst (λ (l : List ℕ). CompletesTo ours o k l z l) a
      (subst (CompletesTo ours o k (complete o k (chosen set ws)) z) (complete_again o k (chosen set ws) n) (plain_to o k z zero (complete o k (chosen set ws)) (complete_net o k (chosen set ws) n)));
  part = part_first;
  part_right = part_last;
  alike = alike_exactly;
  keeps = λ o k ws set z r zero vs j x y m s.
      let n = joined_net o k (chosen set ws) vs j in
      keeps_said o k x y m ws set (chosen set ws ++ vs) z r (plain_read o k (chosen set ws ++ vs) z n zero) s
      (rw (plain_chosen o k (chosen set ws ++ vs) z n zero) (joining_keeps o k (chosen set ws) vs j.left n x y s));
  others = λ o k ws set z r zero vs j a h f x y m q.
      let n = joined_net o k (chosen set ws) vs j in
      same_word o k x y m (chosen set ws ++ vs) z ws set (plain_read o k (chosen set ws ++ vs) z n zero) r
      (rw (plain_chosen o k (chosen set ws ++ vs) z n zero) (λ node kind. others_keep o k (chosen set ws) vs j.left n a h f x y node kind q));
}
