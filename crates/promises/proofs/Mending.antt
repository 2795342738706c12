-- Our engine keeps what is promised of mending.
use Prim.Native.Nat.{ℕ, ◌+◌, ◌*◌}
use mathlib.Core.Path.{◌≡◌, sym, ap, subst, ◌∙◌}
use mathlib.Core.List.{List, []}
use native.Mathlib.Omega.{arith}
use lib.ListN.{length, take, drop, replicate, length-replicate}
use lib.Seq.{take-append_seam}
use borrow.Author.Tests.{le-ltb}
use Rattle.theory_laws.specs.Over.{over}
use Rattle.theory.specs.Nets.{Net}
use Rattle.theory.specs.Marks.{blank}
use Rattle.theory.specs.Clashes.{ClashFree}
use Rattle.theory.specs.Mending.{DroppedWord, threes, Mended, PartOf, kept_from, dropped_from}
use Rattle.theory.proofs.mending.Keeping.{part_among, length_threes, threes_one_to_one, free_none, kept_behind, kept_free, dropped_rejected, rejected_clash, free_unchanged, all_told, mending_mended}
use Rattle.mend.specs.Table.{MendingOutcome, mended_reply}
use Rattle.promises.specs.Engines.{Engine, ours}
use Rattle.promises.specs.Mending.{MendsTo, Mending}
use Rattle.promises.proofs.Tests.{past_plain}
use Rattle.promises.proofs.PlainLists.{room_for_all}
use Rattle.promises.proofs.Clashing.{clashing}
use Rattle.promises.proofs.Demand3.{plain_read, plain_chosen}

-- What stands in front, where two lists written over one are the same.
front_same : (a b l : List ℕ) → length a ≡ length b → over a l ≡ over b l → a ≡ b
front_same a b l size e =
    sym (take-append_seam a (drop (length a) l))
    ∙ ap (take (length a)) e
    ∙ ap (λ (i : ℕ). take i (over b l)) size
    ∙ take-append_seam b (drop (length b) l)

-- No engine mends a net in two ways: it gives both counts and writes both lists.
pub mends_once : (e : Engine) (o k : ℕ) (ws a b : List ℕ) (ds es : List DroppedWord) → MendsTo e o k ws a ds → MendsTo e o k ws b es → (a ≡ b) × (ds ≡ es)
mends_once e o k ws a b ds es c d =
    let room : length (blank (o + k)) ≡ o + k = length-replicate {A = ℕ} (o + k) 0 in
    let lent : List ℕ = replicate (3 * length ws) 0 in
    let long : length lent ≡ 3 * length ws = length-replicate {A = ℕ} (3 * length ws) 0 in
    let p = sym (c ws lent (blank (o + k)) (omega arith) (omega arith) (omega arith)) ∙ d ws lent (blank (o + k)) (omega arith) (omega arith) (omega arith) in
    let kept = ap (λ (r : MendingOutcome). r.kept) p in
    let dropped = ap (λ (r : MendingOutcome). r.dropped) p in
    let first : length a ≡ length b = ap (λ (r : MendingOutcome). (mended_reply r.answer).first) p in
    let second : length ds ≡ length es = ap (λ (r : MendingOutcome). (mended_reply r.answer).second) p in
    let size : length (threes ds) ≡ length (threes es) = length_threes ds ∙ ap (λ (i : ℕ). 3 * i) second ∙ sym (length_threes es) in
    (front_same a b ws first kept, threes_one_to_one ds es (front_same (threes ds) (threes es) lent size dropped))

module _ (o k : ℕ) where
  -- Our engine mends a net to the words that the loop keeps and drops, and to no others.
  mends_to : (ws : List ℕ) → Net o k ws → MendsTo ours o k ws (kept_from o k [] ws) (dropped_from o k [] ws)
  mends_to ws n kept dropped m h i j =
      let t = (past_plain o k ws).1 n in
      rw (t.0, t.1, t.2, le-ltb (length m) (o + k) h, (room_for_all o k ws kept dropped m).1 (i, j))

  module _ (ws : List ℕ) (n : Net o k ws) (out : List ℕ) (ds : List DroppedWord) (c : MendsTo ours o k ws out ds) where
    is_mended : Mended o k [] ws out ds
    is_mended =
        let e = mends_once ours o k ws (kept_from o k [] ws) out (dropped_from o k [] ws) ds (mends_to ws n) c in
        rw (← e.0, ← e.1) (mending_mended o k ws n.legal)

    kept_part : PartOf out ws × (length out + length ds ≡ length ws)
    kept_part =
        let b = kept_behind o k out [] ws ds is_mended in
        (subst (λ (l : List ℕ). PartOf l ws) (sym b.whole) b.part, omega (arith, all_told o k out [] ws ds is_mended))

    out_free : ClashFree o k out
    out_free = kept_free o k out [] ws ds (free_none o k) is_mended

    out_net : Net o k out
    out_net =
        record { few = n.few; short = omega (arith, n.short, kept_part.1); legal = λ w m. n.legal w (part_among out ws kept_part.0 w m) }

pub mending : Mending ours
mending = record {
  lists = λ o k ws n. (kept_from o k [] ws, dropped_from o k [] ws, mends_to o k ws n, mending_mended o k ws n.legal);
  part = kept_part;
  free = out_free;
  tested = λ o k ws n out ds c z zero m room.
      let net = out_net o k ws n out ds c in
      clashing.none o k out z m (plain_read o k out z net zero) room
      (rw (plain_chosen o k out z net zero) (out_free o k ws n out ds c));
  smallest = λ o k ws n out ds c. dropped_rejected o k out [] ws ds (is_mended o k ws n out ds c);
  back = λ o k ws n out ds c d h. rejected_clash o k out d (dropped_rejected o k out [] ws ds (is_mended o k ws n out ds c) d h);
  unchanged = λ o k ws n out ds c f. free_unchanged o k out [] ws ds f (is_mended o k ws n out ds c);
}
