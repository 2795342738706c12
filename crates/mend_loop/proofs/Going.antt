-- The loop over the words: what is left to do gives, behind what is done, what the whole does.
use Prim.Native.Nat.{ℕ, ◌+◌, ◌*◌, ◌≤◌, ◌<◌}
use mathlib.Core.Path.{◌≡◌, refl, sym, ap, ◌∙◌}
use mathlib.Core.Bool.{true, false}
use mathlib.Core.List.{List, [], ◌∷◌, ◌++◌, append_assoc, append-nil}
use native.Mathlib.Omega.{arith}
use native.Mathlib.Numerals.{add-one}
use borrow.Author.Tests.{lt-ltb, le-ltb}
use lib.ListN.{length, get_or, take, drop, set, length-set, length-append, length-drop, take-append-drop, drop_of_length-le}
use lib.Seq.{length-take-le, drop-cons, drop-drop, drop-set-lt, take_at, drop_at}
use Rattle.theory_laws.specs.Over.{over}
use Rattle.theory.specs.Inside.{Ends, Inside}
use Rattle.theory.specs.Mending.{DroppedWord, threes, clashing_node, clashing_kind, rejects, kept_from, dropped_from}
use Rattle.theory.proofs.mending.Searching.{first_found}
use Rattle.theory.proofs.mending.Keeping.{length_threes}
use Rattle.mend_loop.proofs.Trying.{one_more, more_inside}

-- Where the search for a kind ends.
pub kind_bound : (o k : ℕ) (ws : List ℕ) (x : ℕ) → clashing_kind o k ws x ≤ o + k
kind_bound o k ws x = (first_found _ _ _ o k).high

-- ── one word more of the definition ──
module _ (o k : ℕ) (kept : List ℕ) (w : ℕ) (ws : List ℕ) where
  keeps_drop : rejects o k kept w ≡ true → kept_from o k kept (w ∷ ws) ≡ kept_from o k kept ws
  unfolding kept_from
  keeps_drop e = rw e

  keeps_keep : rejects o k kept w ≡ false → kept_from o k kept (w ∷ ws) ≡ kept_from o k (kept ++ w ∷ []) ws
  unfolding kept_from
  keeps_keep e = rw e

  drops_drop : rejects o k kept w ≡ true → threes (dropped_from o k kept (w ∷ ws)) ≡ w ∷ clashing_node (o + k) (kept ++ w ∷ []) w ∷ clashing_kind o k (kept ++ w ∷ []) (clashing_node (o + k) (kept ++ w ∷ []) w) ∷ threes (dropped_from o k kept ws)
  unfolding dropped_from threes
  drops_drop e = rw e

  drops_keep : rejects o k kept w ≡ false → dropped_from o k kept (w ∷ ws) ≡ dropped_from o k (kept ++ w ∷ []) ws
  unfolding dropped_from
  drops_keep e = rw e

keeps_end : (o k : ℕ) (kept : List ℕ) → kept_from o k kept [] ≡ kept
unfolding kept_from
keeps_end o k kept = refl

drops_end : (o k : ℕ) (kept : List ℕ) → threes (dropped_from o k kept []) ≡ []
unfolding dropped_from threes
drops_end o k kept = refl

-- One place further in two lists that are the same from there on.
drop_more : (n j : ℕ) (a b : List ℕ) → drop n a ≡ drop n b → drop (n + j) a ≡ drop (n + j) b
drop_more n j a b e = sym (drop-drop j n a) ∙ ap (drop j) e ∙ drop-drop j n b

module _ (o k n : ℕ) (ws kept₀ dropped₀ m₀ : List ℕ) where
  -- After i words, of which `count` were kept and `lost` dropped.
  pub record Going (kept dropped m : List ℕ) (count lost i : ℕ) : Type 0 where
    pub come : i ≤ length ws
    pub told : count + lost ≡ i
    pub kept_long : length kept ≡ length kept₀
    pub dropped_long : length dropped ≡ length dropped₀
    pub marks_long : length m ≡ length m₀
    pub keeps_left : kept_from o k [] ws ≡ kept_from o k (take count kept) (drop i ws)
    pub drops_left : threes (dropped_from o k [] ws) ≡ take (3 * lost) dropped ++ threes (dropped_from o k (take count kept) (drop i ws))
    pub kept_past : drop count kept ≡ drop count kept₀
    pub dropped_past : drop (3 * lost) dropped ≡ drop (3 * lost) dropped₀
    pub marks_past : drop n m ≡ drop n m₀
    pub inside : Inside n (take count kept)

  pub going : Going kept₀ dropped₀ m₀ 0 0 0
  going = record {
    come = omega arith;
    told = refl;
    kept_long = refl;
    dropped_long = refl;
    marks_long = refl;
    keeps_left = refl;
    drops_left = refl;
    kept_past = refl;
    dropped_past = refl;
    marks_past = refl;
    inside = λ w h. elim h [ ];
  }

  module _ (size : n ≡ o + k) (places : length ws ≤ length kept₀) (entries : 3 * length ws ≤ length dropped₀)
      {kept dropped m : List ℕ} {count lost i : ℕ} (g : Going kept dropped m count lost i) where
    module _ (l : i < length ws) where
      abbrev w : ℕ
      w = get_or ws i 0

      abbrev K : List ℕ
      K = take count kept

      fits : count < length kept
      fits = omega (arith, g.told, g.kept_long)

      next : drop i ws ≡ w ∷ drop (i + 1) ws
      next = rw (add-one i) (drop-cons ws i 0 l)

      module _ {node : ℕ} (f : node ≡ clashing_node n (K ++ w ∷ []) w) where
        node_is : node ≡ clashing_node (o + k) (K ++ w ∷ []) w
        node_is = rw (← size) f

        -- The word is kept.
        pub going_keep : {m' : List ℕ} → length m' ≡ length m → drop n m' ≡ drop n m → n ≤ node → Ends n w → Going (set kept count w) dropped m' (count + 1) lost (i + 1)
        going_keep m-long m-past h d =
            let r : rejects o k K w ≡ false = rw (← node_is, ← size) (le-ltb node n h) in
            let more = one_more kept count w fits in
            record {
              come = omega arith;
              told = omega (arith, g.told);
              kept_long = length-set kept count w ∙ g.kept_long;
              dropped_long = g.dropped_long;
              marks_long = m-long ∙ g.marks_long;
              keeps_left = g.keeps_left ∙ rw (next, more) (keeps_keep o k K w (drop (i + 1) ws) r);
              drops_left = g.drops_left ∙ rw (next, more) (ap (λ (ds : List DroppedWord). take (3 * lost) dropped ++ threes ds) (drops_keep o k K w (drop (i + 1) ws) r));
              kept_past = drop-set-lt (count + 1) kept count w (omega arith) ∙ drop_more count 1 kept kept₀ g.kept_past;
              dropped_past = g.dropped_past;
              marks_past = m-past ∙ g.marks_past;
              inside = more_inside kept count w fits n g.inside d;
            }

        -- The word is dropped.
        pub going_drop : {m' : List ℕ} → length m' ≡ length m → drop n m' ≡ drop n m → {kind : ℕ} {dropped' : List ℕ} → node < n → kind ≡ clashing_kind o k (K ++ w ∷ []) node
            → dropped' ≡ take (3 * lost) dropped ++ w ∷ node ∷ kind ∷ drop (3 * lost + 3) dropped → Going kept dropped' m' count (lost + 1) (i + 1)
        going_drop m-long m-past {kind} {dropped'} h e p =
            let r : rejects o k K w ≡ true = rw (← node_is, ← size) (lt-ltb node n h) in
            let three = w ∷ node ∷ kind ∷ [] in
            let front = take (3 * lost) dropped ++ three in
            let whole : dropped' ≡ front ++ drop (3 * lost + 3) dropped = p ∙ sym (append_assoc (take (3 * lost) dropped) three (drop (3 * lost + 3) dropped)) in
            let long : 3 * lost + 3 ≤ length dropped = omega (arith, g.told, g.dropped_long) in
            let short : length (take (3 * lost) dropped) ≡ 3 * lost = length-take-le (3 * lost) dropped (omega arith) in
            let size' : length front ≡ 3 * (lost + 1) = omega (arith, length-append (take (3 * lost) dropped) three) in
            let three-more : 3 * (lost + 1) ≡ 3 * lost + 3 = omega arith in
            let past : drop (3 * (lost + 1)) dropped' ≡ drop (3 * lost + 3) dropped = ap (drop (3 * (lost + 1))) whole ∙ drop_at front (drop (3 * lost + 3) dropped) (3 * (lost + 1)) size' in
            let done : take (3 * (lost + 1)) dropped' ≡ front = ap (take (3 * (lost + 1))) whole ∙ take_at front (drop (3 * lost + 3) dropped) (3 * (lost + 1)) size' in
            let rest = threes (dropped_from o k K (drop (i + 1) ws)) in
            let told : threes (dropped_from o k K (drop i ws)) ≡ three ++ rest = rw next (drops_drop o k K w (drop (i + 1) ws) r ∙ rw (← node_is, ← e)) in
            record {
              come = omega arith;
              told = omega (arith, g.told);
              kept_long = g.kept_long;
              dropped_long = ap length whole ∙ omega (arith, length-append front (drop (3 * lost + 3) dropped), length-drop (3 * lost + 3) dropped, g.dropped_long);
              marks_long = m-long ∙ g.marks_long;
              keeps_left = g.keeps_left ∙ rw next (keeps_drop o k K w (drop (i + 1) ws) r);
              drops_left = g.drops_left ∙ rw (done, told) (sym (append_assoc (take (3 * lost) dropped) three rest));
              kept_past = g.kept_past;
              dropped_past = past ∙ rw three-more (drop_more (3 * lost) 3 dropped dropped₀ g.dropped_past);
              marks_past = m-past ∙ g.marks_past;
              inside = g.inside;
            }

    -- All words are read.
    module _ (l : length ws ≤ i) where
      kept_end : kept_from o k [] ws ≡ take count kept
      kept_end = g.keeps_left ∙ rw (drop_of_length-le ws l) (keeps_end o k (take count kept))

      dropped_end : threes (dropped_from o k [] ws) ≡ take (3 * lost) dropped
      dropped_end = g.drops_left ∙ rw (drop_of_length-le ws l, drops_end o k (take count kept)) (append-nil (take (3 * lost) dropped))

      kept_size : length (kept_from o k [] ws) ≡ count
      kept_size = ap length kept_end ∙ length-take-le count kept (omega (arith, g.told, g.come, g.kept_long))

      dropped_size : length (threes (dropped_from o k [] ws)) ≡ 3 * lost
      dropped_size = ap length dropped_end ∙ length-take-le (3 * lost) dropped (omega (arith, g.told, g.come, g.dropped_long))

      pub kept_over : kept ≡ over (kept_from o k [] ws) kept₀
      kept_over = sym (take-append-drop count kept) ∙ rw (kept_size, kept_end, g.kept_past)

      pub dropped_over : dropped ≡ over (threes (dropped_from o k [] ws)) dropped₀
      dropped_over = sym (take-append-drop (3 * lost) dropped) ∙ rw (dropped_size, dropped_end, g.dropped_past)

      pub count_end : count ≡ length (kept_from o k [] ws)
      count_end = sym kept_size

      pub lost_end : lost ≡ length (dropped_from o k [] ws)
      lost_end = omega (arith, dropped_size, length_threes (dropped_from o k [] ws))
