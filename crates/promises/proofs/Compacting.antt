-- Our engine keeps what is promised of compaction.
use Prim.Native.Nat.{ℕ, ◌+◌, ◌-◌}
use mathlib.Core.Path.{◌≡◌, sym, ap, subst, ◌∙◌}
use mathlib.Core.List.{List, [], append-nil}
use mathlib.Core.Logic.{◌↔◌}
use native.Mathlib.Omega.{arith}
use lib.ListN.{length, take, replicate, length-replicate}
use lib.Seq.{take-append_seam}
use borrow.Author.Tests.{le-ltb}
use Rattle.theory.specs.Nets.{Net}
use Rattle.theory.specs.Marks.{blank}
use Rattle.theory.specs.Completion.{complete}
use Rattle.theory.specs.Compaction.{Compacted, compacted}
use Rattle.theory.proofs.completion.Demand3.{alike}
use Rattle.theory.proofs.compaction.Thinning.{compacted_compacted}
use Rattle.theory.proofs.compaction.Compacting.{compacted_among, compacted_ascending, compacted_needed, compact_net, compact_complete, compact_again, compact_order}
use Rattle.compact.specs.Table.{CompactionOutcome, compacted_reply, freed}
use Rattle.promises.specs.Engines.{Engine, HasZero, ours}
use Rattle.promises.specs.Demand3.{CompletesTo, SameWord}
use Rattle.promises.specs.Compacting.{CompactsTo, Compacting}
use Rattle.promises.proofs.Tests.{past_plain}
use Rattle.promises.proofs.Demand3.{plain_to, plain_only, plain_word}

-- No engine compacts a list to two lists: it gives the length of each and leaves each in front.
pub compacts_once : (e : Engine) (o k : ℕ) (ws a b : List ℕ) → CompactsTo e o k ws a → CompactsTo e o k ws b → a ≡ b
compacts_once e o k ws a b c d =
    let room : length (blank (o + k)) ≡ o + k = length-replicate {A = ℕ} (o + k) 0 in
    let p = sym (c (blank (o + k)) (omega arith)) ∙ d (blank (o + k)) (omega arith) in
    let size : length a ≡ length b = ap (λ (r : CompactionOutcome). (compacted_reply r.answer).first) p in
    sym (take-append_seam a (replicate (length ws - length a) 0))
    ∙ ap (λ (r : CompactionOutcome). take (length a) r.list) p
    ∙ ap (λ (i : ℕ). take i (freed b ws)) size
    ∙ take-append_seam b (replicate (length ws - length b) 0)

module _ (o k : ℕ) where
  -- Our engine compacts a net to its compacted list, and to no other.
  compacts_to : (ws : List ℕ) → Net o k ws → CompactsTo ours o k ws (compacted o k ws)
  compacts_to ws n m h = let t = (past_plain o k ws).1 n in rw (t.0, t.1, t.2, le-ltb (length m) (o + k) h)

  compacts_only : (ws : List ℕ) → Net o k ws → (out : List ℕ) → CompactsTo ours o k ws out → compacted o k ws ≡ out
  compacts_only ws n out = compacts_once ours o k ws (compacted o k ws) out (compacts_to ws n)

  module _ (ws : List ℕ) (n : Net o k ws) (out : List ℕ) (c : CompactsTo ours o k ws out) where
    is_compacted : Compacted o k ws out
    is_compacted = subst (Compacted o k ws) (compacts_only ws n out c) (compacted_compacted o k ws n.legal)

    left_net : Net o k out
    left_net = subst (Net o k) (compacts_only ws n out c) (compact_net o k ws n)

    same_complete : complete o k out ≡ complete o k ws
    same_complete = subst (λ (l : List ℕ). complete o k l ≡ complete o k ws) (compacts_only ws n out c) (compact_complete o k ws n)

    completes_alike : (z : ℕ) → HasZero z → (all : List ℕ) → CompletesTo ours o k out z all ↔ CompletesTo ours o k ws z all
    completes_alike z zero all = (
      (λ d. subst (CompletesTo ours o k ws z) (sym same_complete ∙ plain_only o k z zero out all left_net d) (plain_to o k z zero ws n)),
      λ d. subst (CompletesTo ours o k out z) (same_complete ∙ plain_only o k z zero ws all n d) (plain_to o k z zero out left_net),
    )

    same_words : (z : ℕ) → HasZero z → SameWord ours o k z out ws
    same_words z zero x y m =
        plain_word o k z zero x y out ws left_net n m
        (λ node kind. rw (append-nil out, append-nil ws) at ((alike o k out ws left_net n).0 same_complete [] (rw (append-nil out) left_net) (rw (append-nil ws) n) x y node kind))

    compacts_again : CompactsTo ours o k out out
    compacts_again =
        let e = compacts_only ws n out c in
        subst (CompactsTo ours o k out) (subst (λ (l : List ℕ). compacted o k l ≡ l) e (compact_again o k ws n)) (compacts_to out left_net)

pub compacting : Compacting ours
compacting = record {
  lists = λ o k ws n. (compacted o k ws, compacts_to o k ws n, compacted_compacted o k ws n.legal);
  part = λ o k ws n out c. let t = is_compacted o k ws n out c in (compacted_ascending o k ws out t, compacted_among o k ws out t);
  needed = λ o k ws n out c. compacted_needed o k ws out (is_compacted o k ws n out c);
  completed = completes_alike;
  words = same_words;
  again = compacts_again;
  order = λ o k ws vs n p to from out c.
      subst (CompactsTo ours o k vs) (sym (compact_order o k ws n vs p to from) ∙ compacts_only o k ws n out c) (compacts_to o k vs p);
}
