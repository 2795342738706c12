-- The first item of a program, in the terms of the code.
use Prim.Native.Nat.{ℕ, suc, ◌+◌, ◌-◌, ◌/◌, ◌%◌, ◌≤◌, ◌<◌}
use mathlib.Core.Path.{◌≡◌, refl, sym, ap, subst, ◌∙◌}
use mathlib.Core.Bool.{Bool, true, false, cond, ◌&&◌}
use mathlib.Core.List.{List, [], ◌∷◌, map}
use native.Mathlib.Omega.{arith}
use borrow.Author.Tests.{eqb-true}
use lib.Dec.{eqb, ltb, leb}
use lib.ListN.{length, get_or, take, drop}
use lib.Seq.{take_all}
use Rattle.theory_laws.proofs.Booleans.{contradiction}
use Rattle.unit_program.specs.declared.Instruction.{Instruction}
use Rattle.unit_program.specs.declared.Instruction.TheVariants as instruction
use Rattle.unit_program.specs.Programs.{op_of, rest_of, clear_of, set_of, link_of, decode, Item, parts, items}
use Rattle.unit_program.specs.Faults.{is_loop, before_end, Sound}
use Rattle.unit_program.specs.Runs.{does, sets, Stand, stand, pass, passes, onward, run_items}
use Rattle.unit_program.proofs.Parsing.{plain_first, loop_first}

-- One word is a loop, and no other.
loop_word_lem : (n w : ℕ) → w ≡ 50331648 → decode n w ≡ instruction.Loop
unfolding decode
loop_word_lem n w e = ap (decode n) e

no_loop : (q : Bool) (i : Instruction) → is_loop i ≡ false → is_loop (cond q i instruction.Unknown) ≡ false
no_loop true i e = e
no_loop false i e = refl

no_link : (r : ℕ) (q : Bool) → is_loop (cond q (instruction.Link (record { sign = r % 2; at_head = eqb (r / 2 % 2) 1; test = r / 65536; put = r / 256 % 256 })) instruction.Unknown) ≡ false
no_link r true = refl
no_link r false = refl

word_loop : (n w : ℕ) → is_loop (decode n w) ≡ true → w ≡ 50331648
unfolding decode
word_loop n w h = at (eqb (op_of w) 0) (eqb (op_of w) 1) (eqb (op_of w) 2) (eqb w 50331648) (eqb w 67108864) refl h
  where
    at : (a b c d e : Bool) → eqb w 50331648 ≡ d
        → is_loop (cond a (clear_of (rest_of w)) (cond b (set_of n (rest_of w)) (cond c (link_of (rest_of w)) (cond d instruction.Loop (cond e instruction.End instruction.Unknown))))) ≡ true
        → w ≡ 50331648
    at true b c d e f g = contradiction (sym (no_loop (leb 1 (rest_of w) && leb (rest_of w) 255) (instruction.Clear (rest_of w)) refl) ∙ g)
    at false true c d e f g = contradiction (sym (no_loop (leb (rest_of w / 65536) 7 && ltb (rest_of w % 65536) n) (instruction.Set (rest_of w / 65536) (rest_of w % 65536)) refl) ∙ g)
    at false false true d e f g = contradiction (sym (no_link (rest_of w) (leb (rest_of w / 65536) 7 && (leb (rest_of w / 256 % 256) 7 && leb (rest_of w % 256) 3))) ∙ g)
    at false false false true e f g = eqb-true w 50331648 f
    at false false false false true f g = contradiction g
    at false false false false false f g = contradiction g

-- What is told of an item: what the program still does after it, and that its rest has no fault.
abbrev pub Told : ℕ → List ℕ → List ℕ → ℕ → List ℕ → Stand → ℕ → Type 0
Told n ws ps budget m s places =
    (run_items ws (items n ps) budget m ≡ onward s (λ l k. run_items ws (items n (drop places ps)) l k))
    × ((0 < places) × (places ≤ length ps) × Sound n false (drop places ps))

module _ (n : ℕ) (ws : List ℕ) (budget : ℕ) (m : List ℕ) where
  -- A plain command.
  plain : (w : ℕ) (ps : List ℕ) → Sound n false (w ∷ ps) → (w ≡ 50331648 → ⊥) → (s : Stand) → pass ws (decode n w ∷ []) budget false m ≡ s → Told n ws (w ∷ ps) budget m s 1
  unfolding run_items
  plain w ps h other s e =
      let t = plain_first n w ps h (λ f. other (word_loop n w (ap is_loop f))) in
      (ap (λ (q : List Item). run_items ws q budget m) t.taken ∙ ap (λ (q : Stand). onward q (λ l k. run_items ws (items n ps) l k)) e, (omega arith, omega arith, t.rest))

  pub item_spent : (ps : List ℕ) → Sound n false ps → 0 < length ps → (get_or ps 0 0 ≡ 50331648 → ⊥) → budget ≡ 0 → Told n ws ps budget m (stand false 0 false m) 1
  unfolding pass
  item_spent [] h l other e = absurd (omega arith)
  item_spent (w ∷ ps) h l other e = plain w ps h other (stand false 0 false m) (ap (λ (b : ℕ). pass ws (decode n w ∷ []) b false m) e)

  pub item_plain : (ps : List ℕ) → Sound n false ps → 0 < length ps → (get_or ps 0 0 ≡ 50331648 → ⊥) → (budget ≡ 0 → ⊥) → {r : Bool} {m' : List ℕ}
      → m' ≡ does ws (decode n (get_or ps 0 0)) m → r ≡ sets ws (decode n (get_or ps 0 0)) m → Told n ws ps budget m (stand true (budget - 1) r m') 1
  unfolding pass
  item_plain [] h l other e f g = absurd (omega arith)
  item_plain (w ∷ ps) h l other e {r} {m'} f g =
      let b : budget ≡ suc (budget - 1) = omega arith in
      plain w ps h other (stand true (budget - 1) r m')
      (ap (λ (b : ℕ). pass ws (decode n w ∷ []) b false m) b ∙ (λ i. stand true (budget - 1) (sym g i) (sym f i)))

  -- A loop, whose end stands after e commands.
  pub item_loop : (ps : List ℕ) → Sound n false ps → 0 < length ps → get_or ps 0 0 ≡ 50331648 → {e : ℕ} → e ≡ before_end n (take (length ps - 1) (drop 1 ps)) → (s : Stand)
      → s ≡ passes ws (map (decode n) (take (e + 1 - 1) (drop 1 ps))) (suc budget) budget m → Told n ws ps budget m s (e + 1 + 1)
  unfolding run_items
  item_loop [] h l w e s f = absurd (omega arith)
  item_loop (w ∷ ps) h l eq {e} f s g =
      let t = loop_first n w ps h (loop_word_lem n w eq) in
      let a : take (suc (length ps) - 1) ps ≡ ps = take_all (suc (length ps) - 1) ps (omega arith) in
      let b : e ≡ before_end n ps = f ∙ ap (before_end n) a in
      let c : e + 1 - 1 ≡ before_end n ps = omega (arith, b) in
      let d : e + 1 + 1 ≡ suc (suc (before_end n ps)) = omega (arith, b) in
      let z : s ≡ passes ws (map (decode n) (take (before_end n ps) ps)) (suc budget) budget m = g ∙ ap (λ (i : ℕ). passes ws (map (decode n) (take i ps)) (suc budget) budget m) c in
      subst (Told n ws (w ∷ ps) budget m s) (sym d) (
        ap (λ (q : List Item). run_items ws q budget m) t.taken ∙ ap (λ (q : Stand). onward q (λ l k. run_items ws (items n (drop (suc (before_end n ps)) ps)) l k)) (sym z),
        (omega arith, omega (arith, t.short), t.rest),
      )

  -- Its end stands in the program.
  pub loop_short : (ps : List ℕ) → Sound n false ps → 0 < length ps → get_or ps 0 0 ≡ 50331648 → {e : ℕ} → e ≡ before_end n (take (length ps - 1) (drop 1 ps)) → e + 2 ≤ length ps
  loop_short [] h l w f = absurd (omega arith)
  loop_short (w ∷ ps) h l eq {e} f =
      let t = loop_first n w ps h (loop_word_lem n w eq) in
      let a : take (suc (length ps) - 1) ps ≡ ps = take_all (suc (length ps) - 1) ps (omega arith) in
      let b : e ≡ before_end n ps = f ∙ ap (before_end n) a in
      omega (arith, b, t.short)

-- ── nothing is left of a program ──
pub program_end : (n : ℕ) (ws ps : List ℕ) (left : ℕ) (m : List ℕ) → length ps ≡ 0 → stand true left false m ≡ run_items ws (items n ps) left m
unfolding run_items parts
program_end n ws [] left m h = refl
program_end n ws (p ∷ ps) left m h = absurd (omega arith)
