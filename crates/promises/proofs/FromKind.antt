-- Any engine that keeps the three demands keeps the laws of demand 3 where it is asked from the kind.
use Prim.Native.Nat.{ℕ, ◌+◌, ◌*◌, ◌-◌, ◌≤◌, ◌<◌}
use mathlib.Core.Path.{◌≡◌, refl, sym, ap, subst, ◌∙◌}
use mathlib.Core.List.{List, [], ◌++◌, append-nil, Memᴰ}
use mathlib.Core.Logic.{◌↔◌}
use native.Mathlib.Omega.{arith}
use lib.ListN.{length, length-replicate}
use borrow.Author.Tests.{le-ltb, lt-leb}
use Rattle.std.specs.Prelude.{Err, Ok}
use Rattle.theory.specs.Words.{Sign, is, tail_of}
use Rattle.theory.specs.Nets.{Kind, Links, Net}
use Rattle.theory.specs.Support.{Supported}
use Rattle.theory.specs.Marks.{At, marker_to, U, blank}
use Rattle.theory.specs.Origins.{chosen}
use Rattle.theory.specs.Completion.{complete, Lists}
use Rattle.theory.proofs.machine.Bounds.{full_done}
use Rattle.theory.proofs.completion.Completing.{complete_lists, lists_unique}
use Rattle.theory.proofs.completion.Demand3.{part_of, lists_as, same_completed, beside_joined, others_supported}
use Rattle.theory.proofs.Legal.{legal_links}
use Rattle.theory.proofs.support.Joining.{Sub, ends}
use Rattle.net.proofs.Replies.{refusal_numbers}
use Rattle.scan.specs.Table.{ScanOutcome, scan_table, scan_reply, Scanned}
use Rattle.scan.specs.declared.ScanError.TheVariants as scanned
use Rattle.promises.specs.Tables.{Due}
use Rattle.promises.specs.Engines.{Engine, Read, HasZero, ours}
use Rattle.promises.specs.Demand1.{Demand1}
use Rattle.promises.specs.Demand2.{Demand2}
use Rattle.promises.specs.Demand3.{CompletesTo, Joined, Demand3}
use Rattle.promises.specs.FromKind.{KindMarks, SameFromKind, Demand3FromKind}
use Rattle.promises.proofs.Tests.{past_checks, chosen_of}
use Rattle.promises.proofs.Demand1.{demand_1}
use Rattle.promises.proofs.Demand2.{demand_2}
use Rattle.promises.proofs.Demand3.{joined_net, plain_read, plain_chosen, completes_once, demand_3}

-- An outcome with number 0 is done.
number_0 : (r : Scanned) → (scan_reply r).number ≡ 0 → (count : ℕ) × (r ≡ Ok count)
number_0 (Ok count) e = (count, refl)
number_0 (Err (scanned.Spent count)) e = absurd (omega arith)
number_0 (Err (scanned.Refused r)) e = absurd (omega (arith, refusal_numbers r))

module _ (e : Engine) (first : Demand1 e) (second : Demand2 e) (o k : ℕ) where
  -- No clause of the table applies to a scan from a kind over a net that has room and rounds enough.
  scan_done_lem : (ws : List ℕ) (set : ℕ) → Read o k ws set → (y : ℕ) → Kind o k y → (budget : ℕ) → 3 * (o + k) - 1 ≤ budget → (room : List ℕ) → o + k ≤ length room
      → (count : ℕ) × ((e.scan o k ws set y budget room).answer ≡ Ok count)
  scan_done_lem ws set r y h budget g room l =
      let t = (past_checks o k ws set).1 r in
      let due : Due 0 (scan_table o k ws set y budget room) =
      (t.0, (t.1, (t.2, (t.3, (lt-leb (o + k) y h.high, (le-ltb (length room) (o + k) l, (rw (full_done o k (chosen set ws) (chosen_of o k ws set r).legal y h.high budget g), refl))))))) in
      number_0 (e.scan o k ws set y budget room).answer (((first.scan o k ws set y budget room).exactly 0).1 due)

  -- So there are marks from every kind.
  from_every : (ws : List ℕ) (set : ℕ) → Read o k ws set → (y : ℕ) → Kind o k y → (m : List ℕ) × KindMarks e o k ws set y m
  from_every ws set r y h =
      let long : length (blank (o + k)) ≡ o + k = length-replicate {A = ℕ} (o + k) 0 in
      let (count, q) = scan_done_lem ws set r y h (3 * (o + k) - 1) (omega arith) (blank (o + k)) (omega arith) in
      let left = (e.scan o k ws set y (3 * (o + k) - 1) (blank (o + k))).marks in
      (left, record { kind = h; budget = 3 * (o + k) - 1; room = blank (o + k); count = count; done = λ i. record { answer = q i; marks = left } })

  -- The marks of a scan from a kind that is done say what the chosen words support; `ps` names these.
  module _ (ws : List ℕ) (set y : ℕ) (m ps : List ℕ) (p : chosen set ws ≡ ps) (t : KindMarks e o k ws set y m) where
    said : (x : ℕ) → x < o + k → (s : Sign) → At m (marker_to s) x ↔ Supported o k (Links ps) x y s
    said x h s =
        subst (λ (l : List ℕ). At l (marker_to s) x ↔ Supported o k (Links ps) x y s) (ap (λ (r : ScanOutcome). r.marks) t.done)
        (rw p at (second.scan_to o k ws set y t.budget t.room t.count (ap (λ (r : ScanOutcome). r.answer) t.done) t.kind x h s))

    said_up : (z : ℕ) → Kind o k z → At m U z ↔ Supported o k (Links ps) y z is
    said_up z h =
        subst (λ (l : List ℕ). At l U z ↔ Supported o k (Links ps) y z is) (ap (λ (r : ScanOutcome). r.marks) t.done)
        (rw p at (second.scan o k ws set y t.budget t.room t.count (ap (λ (r : ScanOutcome). r.answer) t.done) z h is))

  -- So where all that one list supports another does, its marks are marks of the other.
  into : (ws : List ℕ) (set : ℕ) (vs : List ℕ) (set' : ℕ) (ps qs : List ℕ) → chosen set ws ≡ ps → chosen set' vs ≡ qs → Sub (Supported o k (Links ps)) (Supported o k (Links qs))
      → (y : ℕ) (m l : List ℕ) → KindMarks e o k ws set y m → KindMarks e o k vs set' y l → (x : ℕ) → x < o + k → (s : Sign) → At m (marker_to s) x → At l (marker_to s) x
  into ws set vs set' ps qs p q f y m l t u x h s a = (said vs set' y l qs q u x h s).1 (f x y s ((said ws set y m ps p t x h s).0 a))

  module _ (z : ℕ) (zero : HasZero z) where
    -- Where the marks from every kind are the same over two lists of plain words, all that the one supports the other does.
    supported_into : (ws vs : List ℕ) → Net o k ws → Net o k vs → SameFromKind e o k z ws vs → Sub (Supported o k (Links ws)) (Supported o k (Links vs))
    supported_into ws vs n r f x y s p =
        let h = ends o k (Links ws) (legal_links o k ws n.legal) x y s p in
        let (m, t) = from_every ws z (plain_read o k ws z n zero) y h.1 in
        let (l, u) = from_every vs z (plain_read o k vs z r zero) y h.1 in
        (said vs z y l vs (plain_chosen o k vs z r zero) u x h.0 s).0 ((f y m l t u x h.0 s).0 ((said ws z y m ws (plain_chosen o k ws z n zero) t x h.0 s).1 p))

    alike_from_kind : Demand3 e → (ws : List ℕ) (set : ℕ) (vs : List ℕ) (set' : ℕ) → Read o k ws set → Read o k vs set' → (a b : List ℕ)
        → CompletesTo e o k ws set a → CompletesTo e o k vs set' b
        → (a ≡ b) ↔ ((us : List ℕ) → Joined o k (chosen set ws) us → Joined o k (chosen set' vs) us → SameFromKind e o k z (chosen set ws ++ us) (chosen set' vs ++ us))
    alike_from_kind third ws set vs set' n r a b c d = (there, back)
      where
        left : List ℕ
        left = chosen set ws

        right : List ℕ
        right = chosen set' vs

        ln : Net o k left
        ln = chosen_of o k ws set n

        rn : Net o k right
        rn = chosen_of o k vs set' r

        -- What the engine completes a net to is the completed list of its chosen words.
        completed_to : (us : List ℕ) (q : ℕ) (out : List ℕ) → Read o k us q → CompletesTo e o k us q out → Lists o k (chosen q us) out
        completed_to us q out n c =
            let (all, t, p) = third.lists o k us q n in
            subst (Lists o k (chosen q us)) (completes_once e o k us q all out t c) p

        p : Lists o k left a
        p = completed_to ws set a n c

        q : Lists o k right b
        q = completed_to vs set' b r d

        there : a ≡ b → (us : List ℕ) → Joined o k left us → Joined o k right us → SameFromKind e o k z (left ++ us) (right ++ us)
        there f us i j y m l t u x h s =
            let same : complete o k left ≡ complete o k right =
            lists_unique o k left (complete o k left) a (complete_lists o k left ln) p ∙ f ∙ lists_unique o k right b (complete o k right) q (complete_lists o k right rn) in
            let g = plain_chosen o k (left ++ us) z (joined_net o k left us i) zero in
            let w = plain_chosen o k (right ++ us) z (joined_net o k right us j) zero in (
              into (left ++ us) z (right ++ us) z (left ++ us) (right ++ us) g w (beside_joined o k left right us (same_completed o k left right ln rn same)) y m l t u x h s,
              into (right ++ us) z (left ++ us) z (right ++ us) (left ++ us) w g (beside_joined o k right left us (same_completed o k right left rn ln (sym same))) y l m u t x h s,
            )

        back : ((us : List ℕ) → Joined o k left us → Joined o k right us → SameFromKind e o k z (left ++ us) (right ++ us)) → a ≡ b
        back f =
            let none : Net o k [] = record { few = ln.few; short = omega arith; legal = λ w m. elim m [ ] } in
            let same : SameFromKind e o k z left right =
            rw (append-nil left, append-nil right) at (f [] (record { left = ln; right = none; short = rw append-nil ln.short }) (record { left = rn; right = none; short = rw append-nil rn.short })) in
            let turned : SameFromKind e o k z right left = λ y m l t u x h s. let g = same y l m u t x h s in (g.1, g.0) in
            lists_unique o k right a b (lists_as o k left right a (supported_into left right ln rn same) (supported_into right left rn ln turned) p) q

    -- Links joined to the chosen words of ws, the marks m beforehand and l afterwards.
    module _ (ws : List ℕ) (set : ℕ) (vs : List ℕ) (j : Joined o k (chosen set ws) vs) (y : ℕ) (m l : List ℕ) (t : KindMarks e o k ws set y m)
        (u : KindMarks e o k (chosen set ws ++ vs) z y l) where
      abbrev picked : List ℕ
      picked = chosen set ws

      joined : chosen z (picked ++ vs) ≡ picked ++ vs
      joined = plain_chosen o k (picked ++ vs) z (joined_net o k picked vs j) zero

      keeps_from_kind : (x : ℕ) → x < o + k → (s : Sign) → At m (marker_to s) x → At l (marker_to s) x
      keeps_from_kind = into ws set (picked ++ vs) z picked (picked ++ vs) refl joined (part_of o k picked vs) y m l t u

      keeps_up_from_kind : (x : ℕ) → Kind o k x → At m U x → At l U x
      keeps_up_from_kind x h p = (said_up (picked ++ vs) z y l (picked ++ vs) joined u x h).1 (part_of o k picked vs y x is ((said_up ws set y m picked refl t x h).0 p))

      module _ (a : ℕ) (g : a < o) (f : (w : ℕ) → Memᴰ w vs → tail_of w ≡ a) where
        others_from_kind : (x : ℕ) → x < o + k → (x ≡ a → ⊥) → (s : Sign) → At l (marker_to s) x ↔ At m (marker_to s) x
        others_from_kind x h q s =
            let r = others_supported o k picked vs j.left.legal j.right.legal a g f x y s q in
            let after = said (picked ++ vs) z y l (picked ++ vs) joined u x h s in
            let before = said ws set y m picked refl t x h s in
            ((λ p. before.1 (r.0 (after.0 p))), λ p. after.1 (r.1 (before.0 p)))

        others_up_from_kind : (x : ℕ) → Kind o k x → At l U x ↔ At m U x
        others_up_from_kind x h =
            let r = others_supported o k picked vs j.left.legal j.right.legal a g f y x is (λ q. omega (arith, t.kind.low)) in
            let after = said_up (picked ++ vs) z y l (picked ++ vs) joined u x h in
            let before = said_up ws set y m picked refl t x h in
            ((λ p. before.1 (r.0 (after.0 p))), λ p. after.1 (r.1 (before.0 p)))

-- The laws from the kind, of any engine that keeps the demands.
pub from_kind : (e : Engine) → Demand1 e → Demand2 e → Demand3 e → Demand3FromKind e
from_kind e a b c = record {
  done = scan_done_lem e a b;
  alike = λ o k ws set vs set' z n r zero p q. alike_from_kind e a b o k z zero c ws set vs set' n r p q;
  keeps = λ o k ws set z zero vs j y m l t u. keeps_from_kind e a b o k z zero ws set vs j y m l t u;
  keeps_up = λ o k ws set z zero vs j y m l t u. keeps_up_from_kind e a b o k z zero ws set vs j y m l t u;
  others = λ o k ws set z zero vs j d g f y m l t u. others_from_kind e a b o k z zero ws set vs j y m l t u d g f;
  others_up = λ o k ws set z zero vs j d g f y m l t u. others_up_from_kind e a b o k z zero ws set vs j y m l t u d g f;
}

-- So ours has them.
pub ours_from_kind : Demand3FromKind ours
ours_from_kind = from_kind ours demand_1 demand_2 demand_3
