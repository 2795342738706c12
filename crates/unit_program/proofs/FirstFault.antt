-- The computed place is the first at which something is wrong.
use Prim.Native.Nat.{ℕ, zero, suc, ◌+◌, ◌-◌, ◌≤◌, ◌<◌}
use mathlib.Core.Path.{◌≡◌, refl, sym, ap, subst, ◌∙◌}
use mathlib.Core.Bool.{Bool, true, false, not, ◌||◌}
use mathlib.Core.List.{List, [], ◌∷◌}
use mathlib.Core.Logic.{◌↔◌}
use native.Mathlib.Omega.{arith}
use native.Mathlib.Decide.{dec_lt, ℕ_discrete}
use borrow.Author.Tests.{not-true}
use lib.ListN.{length, get_or, drop, length-drop}
use lib.Seq.{get_or-drop}
use Rattle.theory_laws.proofs.Booleans.{contradiction, not_so, or_true, or_split, or_none_left, or_none_right}
use Rattle.unit_program.specs.declared.Instruction.{Instruction}
use Rattle.unit_program.specs.declared.Instruction.TheVariants as instruction
use Rattle.unit_program.specs.Programs.{decode}
use Rattle.unit_program.specs.Faults.{is_end, is_loop, ends, faulty, within, sound_prefix, first_fault}
use Rattle.unit_program.proofs.Parsing.{prefix_most}
use Rattle.unit_program.specs.Wrong.{command_at, Open, Wrong, unknown, nested, endless, outside, FirstWrong}

end_of : (i : Instruction) → is_end i ≡ true → i ≡ instruction.End
end_of instruction.End h = refl
end_of instruction.Loop h = contradiction h
end_of (instruction.Clear s) h = contradiction h
end_of (instruction.Set j v) h = contradiction h
end_of (instruction.Link c) h = contradiction h
end_of instruction.Unknown h = contradiction h

-- ── whether an end comes ──
none_ends : (n : ℕ) (ws : List ℕ) → ends n ws ≡ false → (j : ℕ) → j < length ws → command_at n ws j ≡ instruction.End → ⊥
unfolding ends
none_ends n [] h j l e = omega arith
none_ends n (w ∷ ws) h zero l e = contradiction (sym (or_none_left (is_end (decode n w)) (ends n ws) h) ∙ ap is_end e)
none_ends n (w ∷ ws) h (suc j) l e = none_ends n ws (or_none_right (is_end (decode n w)) (ends n ws) h) j (omega arith) e

-- An end that comes.
record Comes (n : ℕ) (ws : List ℕ) : Type 0 where
  place : ℕ
  below : place < length ws
  is : command_at n ws place ≡ instruction.End

one_ends : (n : ℕ) (ws : List ℕ) → ends n ws ≡ true → Comes n ws
unfolding ends
one_ends n [] h = contradiction h
one_ends n (w ∷ ws) h =
    or_split (is_end (decode n w)) (ends n ws) h (λ e. record { place = 0; below = omega arith; is = end_of (decode n w) e })
    (λ e. let t = one_ends n ws e in record { place = suc t.place; below = (let b = t.below in omega arith); is = t.is })

-- ── whether a place stands inside a loop, as the code keeps it ──
unfoldable flag_at : ℕ → Bool → List ℕ → ℕ → Bool
flag_at n inside ps zero = inside
flag_at n inside [] (suc i) = inside
flag_at n inside (w ∷ ps) (suc i) = flag_at n (within inside (decode n w)) ps i

flag_next : (n : ℕ) (inside : Bool) (ps : List ℕ) (i : ℕ) → i < length ps → flag_at n inside ps (suc i) ≡ within (flag_at n inside ps i) (command_at n ps i)
unfolding flag_at
flag_next n inside [] i h = absurd (omega arith)
flag_next n inside (w ∷ ps) zero h = refl
flag_next n inside (w ∷ ps) (suc i) h = flag_next n (within inside (decode n w)) ps i (omega arith)

module _ (n : ℕ) (ps : List ℕ) where
  -- A loop that is open stays open over a command that is no end.
  open_more : (i : ℕ) → (command_at n ps i ≡ instruction.End → ⊥) → Open n ps i → Open n ps (suc i)
  open_more i h o = record { start = o.start; before = (let b = o.before in omega arith); opens = o.opens; unclosed = λ j l g. pick j l g (ℕ_discrete j i) }
    where
      pick : (j : ℕ) → o.start < j → j < suc i → Dec (j ≡ i) → command_at n ps j ≡ instruction.End → ⊥
      pick j l g (yes e) q = h (ap (command_at n ps) (sym e) ∙ q)
      pick j l g (no e) q = o.unclosed j l (omega arith) q

  open_less : (i : ℕ) → (command_at n ps i ≡ instruction.Loop → ⊥) → Open n ps (suc i) → Open n ps i
  open_less i h o = pick (ℕ_discrete o.start i)
    where
      pick : Dec (o.start ≡ i) → Open n ps i
      pick (yes e) = absurd (h (ap (command_at n ps) (sym e) ∙ o.opens))
      pick (no e) = record { start = o.start; before = (let b = o.before in omega arith); opens = o.opens; unclosed = λ j l g. o.unclosed j l (omega arith) }

  open_here : (i : ℕ) → command_at n ps i ≡ instruction.Loop → Open n ps (suc i)
  open_here i e = record { start = i; before = omega arith; opens = e; unclosed = λ j l g. absurd (omega arith) }

  open_shut : (i : ℕ) → command_at n ps i ≡ instruction.End → Open n ps (suc i) → ⊥
  open_shut i e o = pick (ℕ_discrete o.start i)
    where
      pick : Dec (o.start ≡ i) → ⊥
      pick (yes f) = contradiction (ap is_loop (sym e ∙ ap (command_at n ps) (sym f) ∙ o.opens))
      pick (no f) = o.unclosed i (let b = o.before in omega arith) (omega arith) e

  flag_open : (i : ℕ) → i ≤ length ps → (flag_at n false ps i ≡ true) ↔ Open n ps i
  unfolding flag_at
  flag_open zero h = (λ e. contradiction e, λ o. absurd (omega (arith, o.before)))
  flag_open (suc i) h = at (command_at n ps i) refl (flag_open i (omega arith))
    where
      next : flag_at n false ps (suc i) ≡ within (flag_at n false ps i) (command_at n ps i)
      next = flag_next n false ps i (omega arith)

      -- A command that neither opens nor shuts.
      keeps : is_end (command_at n ps i) ≡ false → is_loop (command_at n ps i) ≡ false → flag_at n false ps (suc i) ≡ flag_at n false ps i → (flag_at n false ps i ≡ true) ↔ Open n ps i
          → (flag_at n false ps (suc i) ≡ true) ↔ Open n ps (suc i)
      keeps e l s t = (
        (λ q. open_more i (λ f. contradiction (sym e ∙ ap is_end f)) (t.0 (sym s ∙ q))),
        λ o. s ∙ t.1 (open_less i (λ f. contradiction (sym l ∙ ap is_loop f)) o),
      )

      at : (c : Instruction) → command_at n ps i ≡ c → (flag_at n false ps i ≡ true) ↔ Open n ps i → (flag_at n false ps (suc i) ≡ true) ↔ Open n ps (suc i)
      at (instruction.Clear s) e t = keeps (ap is_end e) (ap is_loop e) (next ∙ ap (within (flag_at n false ps i)) e) t
      at (instruction.Set j v) e t = keeps (ap is_end e) (ap is_loop e) (next ∙ ap (within (flag_at n false ps i)) e) t
      at (instruction.Link c) e t = keeps (ap is_end e) (ap is_loop e) (next ∙ ap (within (flag_at n false ps i)) e) t
      at instruction.Unknown e t = keeps (ap is_end e) (ap is_loop e) (next ∙ ap (within (flag_at n false ps i)) e) t
      at instruction.Loop e t = (λ q. open_here i e, λ o. next ∙ ap (within (flag_at n false ps i)) e)
      at instruction.End e t = (λ q. contradiction (sym (next ∙ ap (within (flag_at n false ps i)) e) ∙ q), λ o. absurd (open_shut i e o))

  -- ── a command at fault, as the code tests it, is wrong ──
  rest_at : (i j : ℕ) → get_or (drop (suc i) ps) j 0 ≡ get_or ps (suc i + j) 0
  rest_at i j = get_or-drop (suc i) ps j 0

  after_none : (i : ℕ) → ends n (drop (suc i) ps) ≡ false → (j : ℕ) → i < j → j < length ps → command_at n ps j ≡ instruction.End → ⊥
  after_none i h j l g e =
      let s : suc i + (j - suc i) ≡ j = omega arith in
      none_ends n (drop (suc i) ps) h (j - suc i) (let d = length-drop (suc i) ps in omega arith) (ap (decode n) (rest_at i (j - suc i) ∙ ap (λ (q : ℕ). get_or ps q 0) s) ∙ e)

  after_one : (i : ℕ) → ends n (drop (suc i) ps) ≡ true → ((j : ℕ) → i < j → j < length ps → command_at n ps j ≡ instruction.End → ⊥) → ⊥
  after_one i h f =
      let t = one_ends n (drop (suc i) ps) h in
      f (suc i + t.place) (omega arith) (let d = length-drop (suc i) ps in let b = t.below in omega arith) (ap (decode n) (sym (rest_at i t.place)) ∙ t.is)

  abbrev tests : ℕ → Bool
  tests i = faulty (flag_at n false ps i) (ends n (drop (suc i) ps)) (command_at n ps i)

  special : Instruction → Bool
  special instruction.Loop = true
  special instruction.End = true
  special instruction.Unknown = true
  special (instruction.Clear s) = false
  special (instruction.Set j v) = false
  special (instruction.Link c) = false

  wrong_special : (i : ℕ) → Wrong n ps i → special (command_at n ps i) ≡ true
  unfolding special
  wrong_special i (unknown e) = ap special e
  wrong_special i (nested e o) = ap special e
  wrong_special i (endless e f) = ap special e
  wrong_special i (outside e f) = ap special e

  loop_tests : (i : ℕ) → i ≤ length ps → command_at n ps i ≡ instruction.Loop → ((flag_at n false ps i || not (ends n (drop (suc i) ps))) ≡ true) ↔ Wrong n ps i
  loop_tests i h e = (to, from)
    where
      to : (flag_at n false ps i || not (ends n (drop (suc i) ps))) ≡ true → Wrong n ps i
      to q =
          or_split (flag_at n false ps i) (not (ends n (drop (suc i) ps))) q (λ f. nested e ((flag_open i h).0 f))
          (λ f. endless e (after_none i (not-true (ends n (drop (suc i) ps)) f)))

      from : Wrong n ps i → (flag_at n false ps i || not (ends n (drop (suc i) ps))) ≡ true
      from (unknown f) = contradiction (ap is_loop (sym f ∙ e))
      from (nested f o) = rw ((flag_open i h).1 o)
      from (endless f g) = rw (not_so (ends n (drop (suc i) ps)) (λ q. after_one i q g)) (or_true (flag_at n false ps i))
      from (outside f g) = contradiction (ap is_loop (sym f ∙ e))

  end_tests : (i : ℕ) → i ≤ length ps → command_at n ps i ≡ instruction.End → (not (flag_at n false ps i) ≡ true) ↔ Wrong n ps i
  end_tests i h e = ((λ q. outside e (λ o. contradiction (sym (not-true (flag_at n false ps i) q) ∙ (flag_open i h).1 o))), from)
    where
      from : Wrong n ps i → not (flag_at n false ps i) ≡ true
      from (unknown f) = contradiction (ap is_end (sym f ∙ e))
      from (nested f o) = contradiction (ap is_end (sym f ∙ e))
      from (endless f g) = contradiction (ap is_end (sym f ∙ e))
      from (outside f g) = rw (not_so (flag_at n false ps i) (λ q. g ((flag_open i h).0 q)))

  tests_wrong : (i : ℕ) → i ≤ length ps → (tests i ≡ true) ↔ Wrong n ps i
  unfolding special
  tests_wrong i h = at (command_at n ps i) refl
    where
      reads : (c : Instruction) → command_at n ps i ≡ c → tests i ≡ faulty (flag_at n false ps i) (ends n (drop (suc i) ps)) c
      reads c e = ap (faulty (flag_at n false ps i) (ends n (drop (suc i) ps))) e

      plain : special (command_at n ps i) ≡ false → tests i ≡ false → (tests i ≡ true) ↔ Wrong n ps i
      plain s t = (λ q. contradiction (sym t ∙ q), λ w. contradiction (sym s ∙ wrong_special i w))

      at : (c : Instruction) → command_at n ps i ≡ c → (tests i ≡ true) ↔ Wrong n ps i
      at (instruction.Clear s) e = plain (ap special e) (reads (instruction.Clear s) e)
      at (instruction.Set j v) e = plain (ap special e) (reads (instruction.Set j v) e)
      at (instruction.Link c) e = plain (ap special e) (reads (instruction.Link c) e)
      at instruction.Unknown e = (λ q. unknown e, λ w. reads instruction.Unknown e)
      at instruction.Loop e = let t = loop_tests i h e in (λ q. t.0 (sym (reads instruction.Loop e) ∙ q), λ w. reads instruction.Loop e ∙ t.1 w)
      at instruction.End e = let t = end_tests i h e in (λ q. t.0 (sym (reads instruction.End e) ∙ q), λ w. reads instruction.End e ∙ t.1 w)

-- ── the first place ──
abbrev tests_from : ℕ → Bool → List ℕ → ℕ → Bool
tests_from n inside ps i = faulty (flag_at n inside ps i) (ends n (drop (suc i) ps)) (command_at n ps i)

module _ (n : ℕ) (inside : Bool) (w : ℕ) (ps : List ℕ) where
  prefix_stops : faulty inside (ends n ps) (decode n w) ≡ true → sound_prefix n inside (w ∷ ps) ≡ 0
  unfolding sound_prefix
  prefix_stops e = rw e

  prefix_goes : faulty inside (ends n ps) (decode n w) ≡ false → sound_prefix n inside (w ∷ ps) ≡ suc (sound_prefix n (within inside (decode n w)) ps)
  unfolding sound_prefix
  prefix_goes e = rw e

no_places : (n : ℕ) (inside : Bool) → sound_prefix n inside [] ≡ 0
unfolding sound_prefix
no_places n inside = refl

prefix_none : (n : ℕ) (inside : Bool) (ps : List ℕ) (j : ℕ) → j < sound_prefix n inside ps → tests_from n inside ps j ≡ false
unfolding flag_at
prefix_none n inside [] j h = absurd (omega (arith, no_places n inside))
prefix_none n inside (w ∷ ps) zero h = not_so (faulty inside (ends n ps) (decode n w)) (λ e. let z = prefix_stops n inside w ps e in omega arith)
prefix_none n inside (w ∷ ps) (suc j) h = at (faulty inside (ends n ps) (decode n w)) refl (λ l. prefix_none n (within inside (decode n w)) ps j l)
  where
    at : (q : Bool) → faulty inside (ends n ps) (decode n w) ≡ q
        → (j < sound_prefix n (within inside (decode n w)) ps → tests_from n (within inside (decode n w)) ps j ≡ false) → tests_from n inside (w ∷ ps) (suc j) ≡ false
    at true e go = absurd (omega (arith, prefix_stops n inside w ps e))
    at false e go = go (omega (arith, prefix_goes n inside w ps e))

prefix_one : (n : ℕ) (inside : Bool) (ps : List ℕ) → sound_prefix n inside ps < length ps → tests_from n inside ps (sound_prefix n inside ps) ≡ true
unfolding flag_at
prefix_one n inside [] h = absurd (omega arith)
prefix_one n inside (w ∷ ps) h = at (faulty inside (ends n ps) (decode n w)) refl (λ l. prefix_one n (within inside (decode n w)) ps l)
  where
    at : (q : Bool) → faulty inside (ends n ps) (decode n w) ≡ q
        → (sound_prefix n (within inside (decode n w)) ps < length ps → tests_from n (within inside (decode n w)) ps (sound_prefix n (within inside (decode n w)) ps) ≡ true)
        → tests_from n inside (w ∷ ps) (sound_prefix n inside (w ∷ ps)) ≡ true
    at true e go = ap (tests_from n inside (w ∷ ps)) (prefix_stops n inside w ps e) ∙ e
    at false e go =
        ap (tests_from n inside (w ∷ ps)) (prefix_goes n inside w ps e) ∙ go (omega (arith, prefix_goes n inside w ps e))

-- A program with a fault: the computed place is the first wrong one.
pub first_wrong : (n : ℕ) (ps : List ℕ) → sound_prefix n false ps < length ps → FirstWrong n ps (sound_prefix n false ps)
first_wrong n ps h = record {
  below = h;
  wrong = (tests_wrong n ps (sound_prefix n false ps) (omega arith)).0 (prefix_one n false ps h);
  first = λ j l w. contradiction (sym (prefix_none n false ps j l) ∙ (tests_wrong n ps j (omega arith)).1 w);
}

-- A program without one: nothing is wrong at any place.
pub none_wrong : (n : ℕ) (ps : List ℕ) → sound_prefix n false ps ≡ length ps → (i : ℕ) → i < length ps → Wrong n ps i → ⊥
none_wrong n ps e i h w = contradiction (sym (prefix_none n false ps i (omega arith)) ∙ (tests_wrong n ps i (omega arith)).1 w)

-- No second place is the first.
pub first_wrong_unique : (n : ℕ) (ps : List ℕ) (p q : ℕ) → FirstWrong n ps p → FirstWrong n ps q → p ≡ q
first_wrong_unique n ps p q a b = pick (dec_lt p q) (dec_lt q p)
  where
    pick : Dec (p < q) → Dec (q < p) → p ≡ q
    pick (yes h) d = absurd (b.first p h a.wrong)
    pick (no h) (yes l) = absurd (a.first q l b.wrong)
    pick (no h) (no l) = omega arith

-- The place that is computed is p, in the program, exactly if p is the first wrong one.
pub fault_exactly : (n : ℕ) (ps : List ℕ) (p : ℕ) → ((first_fault n ps ≡ p) × (p < length ps)) ↔ FirstWrong n ps p
fault_exactly n ps p = (
  (λ t. subst (FirstWrong n ps) t.0 (first_wrong n ps (omega (arith, t.0, t.1)))),
  λ w. (first_wrong_unique n ps (first_fault n ps) p (first_wrong n ps (found w)) w, w.below),
)
  where
    -- Something is wrong, so the place is not past the end.
    found : FirstWrong n ps p → sound_prefix n false ps < length ps
    found w = pick (dec_lt (sound_prefix n false ps) (length ps))
      where
        pick : Dec (sound_prefix n false ps < length ps) → sound_prefix n false ps < length ps
        pick (yes h) = h
        pick (no h) = absurd (none_wrong n ps (let m = prefix_most n false ps in omega arith) p w.below w.wrong)
