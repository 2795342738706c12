-- Lemmas 9 to 12: a path without repeats gives a proof, whose list is ours, and whose depth and size are as stated.
use Prim.Native.Nat.{ℕ, suc, ◌+◌, ◌*◌, ◌<◌}
use mathlib.Core.Path.{◌≡◌, refl, sym, ap, ◌∙◌}
use mathlib.Core.Bool.{true, false}
use mathlib.Core.List.{List, [], ◌∷◌, ◌++◌, Memᴰ}
use mathlib.Core.Logic.{inl, inr}
use native.Mathlib.Omega.{arith}
use native.Mathlib.Decide.{dec_lt}
use lib.Dec.{ltb}
use lib.ListN.{length, length-append}
use borrow.Author.Tests.{lt-ltb, le-ltb}
use Rattle.theory_laws.proofs.Booleans.{contradiction}
use Rattle.theory.specs.Words.{Sign, is, isnt, word}
use Rattle.theory.specs.Nets.{Kind, Links, Net}
use Rattle.theory.specs.Paths.{last_of, Crossing}
use Rattle.theory.specs.Reasons.{FirstLinks, SecondLinks, Strict}
use Rattle.theory.proofs.sequent.Complete.{link_listed, head_kind, fresh_in_net}
use Rattle.theory.specs.Sequents.{Individual, ↛⊢, ↛⊢', Proof, right}
use Rattle.theory.specs.ProofFiles.{proof_size, proof_depth, left_steps, proof_steps, proof_branches, proof_file}
use Rattle.proof_form.specs.Checker.{stands_in}
use Rattle.proof_form.specs.Ours.{Hop, hop, climb, fall, cross, over_turn, hops, object_start, object_hops, chain_file, our_file, our_depth, our_size}
use Rattle.proof_form.proofs.Tests.{by_test, decides_stands}
use Rattle.proof_form.proofs.Chains.{Goes, to_kind, to_sign, HopsLead, chain}

length_climb : (u : ℕ) (xs : List ℕ) → length (climb u xs) ≡ length xs
unfolding climb
length_climb u [] = refl
length_climb u (v ∷ xs) = ap suc (length_climb v xs)

pub length_fall : (u : ℕ) (ys : List ℕ) → length (fall u ys) ≡ length ys
unfolding fall
length_fall u [] = refl
length_fall u (v ∷ ys) = ap suc (length_fall v ys)

length_turn : (ws : List ℕ) (u : ℕ) (ys : List ℕ) → length (over_turn ws u ys) ≡ length ys
unfolding over_turn
length_turn ws u [] = refl
length_turn ws u (v ∷ ys) = ap suc (length_fall v ys)

pub length_hops : (ws : List ℕ) (u : ℕ) (xs ys : List ℕ) → length (hops ws u xs ys) ≡ length xs + length ys
unfolding hops
length_hops ws u xs ys =
    let a = length-append (climb u xs) (over_turn ws (last_of u xs) ys) in
    let b = length_climb u xs in
    let c = length_turn ws (last_of u xs) ys in omega arith

module _ (o k : ℕ) (ws : List ℕ) (net : Net o k ws) where
  abbrev L : ℕ → ℕ → Sign → Type 0
  L = Links ws

  -- ── the hops of a path lead along it ──
  module _ (Γ : List ℕ) (part : (w : ℕ) → Memᴰ w ws → Memᴰ w Γ) (a : ℕ) (one : Individual o k a) where
    leads_both : (hs hs' : List Hop) (v w y : ℕ) (s r t : Sign) → HopsLead o k Γ a one v s hs w r → HopsLead o k Γ a one w r hs' y t → HopsLead o k Γ a one v s (hs ++ hs') y t
    leads_both [] hs' v w y s r t e f = rw (e.0, e.1) f
    leads_both (h ∷ hs) hs' v w y s r t e f = (e.0, leads_both hs hs' (to_kind o k Γ a one h) w y (to_sign o k Γ a one h) r t e.1 f)

    climb_leads : (u : ℕ) (xs : List ℕ) → Kind o k u → FirstLinks L u xs → HopsLead o k Γ a one u is (climb u xs) (last_of u xs) is × Kind o k (last_of u xs)
    unfolding climb
    climb_leads u [] h f = ((refl, refl), h)
    climb_leads u (v ∷ xs) h f =
        let hv = head_kind o k ws net u v is f.0 in
        let r = climb_leads v xs hv f.1 in
        ((record { low = h; high = hv; listed = part _ (link_listed ws u v is f.0); kind = refl; sign = refl }, r.0), r.1)

    -- A node of a second part that ends in a kind is a kind.
    second_kind : (u : ℕ) (ys : List ℕ) → SecondLinks L u ys → Kind o k (last_of u ys) → Kind o k u
    second_kind u [] f h = h
    second_kind u (v ∷ ys) f h = head_kind o k ws net v u is f.0

    fall_leads : (u : ℕ) (ys : List ℕ) → SecondLinks L u ys → Kind o k (last_of u ys) → HopsLead o k Γ a one u isnt (fall u ys) (last_of u ys) isnt
    unfolding fall
    fall_leads u [] f h = (refl, refl)
    fall_leads u (v ∷ ys) f h = (
      record { low = second_kind v ys f.1 h; high = head_kind o k ws net v u is f.0; listed = part _ (link_listed ws v u is f.0); kind = refl; sign = refl },
      fall_leads v ys f.1 h,
    )

    -- The crossing's hop, whichever link it uses.
    record Crosses (u v : ℕ) (h : Hop) : Type 0 where
      goes : Goes o k Γ a one u is h
      kind : to_kind o k Γ a one h ≡ v
      sign : to_sign o k Γ a one h ≡ isnt

    other_way : (u v : ℕ) → stands_in (word u v isnt) ws ≡ false → Crossing L u v → L v u isnt
    other_way u v e (inl l) = contradiction (sym e ∙ (decides_stands (word u v isnt) ws).1 (link_listed ws u v isnt l))
    other_way u v e (inr l) = l

    crosses : (u v : ℕ) → Kind o k u → Kind o k v → Crossing L u v → Crosses u v (cross ws u v)
    crosses u v hu hv c = by_test (Crosses u v) (stands_in (word u v isnt) ws) (hop ↛⊢ u v) (hop ↛⊢' v u)
        (λ e. record { goes = record { low = hu; high = hv; listed = part _ ((decides_stands (word u v isnt) ws).0 e); kind = refl; sign = refl }; kind = refl; sign = refl })
        (λ e. record { goes = record { low = hv; high = hu; listed = part _ (link_listed ws v u isnt (other_way u v e c)); kind = refl; sign = refl }; kind = refl; sign = refl })

    turn_leads : (u v : ℕ) (ys : List ℕ) → Kind o k u → Crossing L u v → SecondLinks L v ys → Kind o k (last_of v ys) → HopsLead o k Γ a one u is (over_turn ws u (v ∷ ys)) (last_of v ys) isnt
    unfolding over_turn
    turn_leads u v ys hu c f h =
        let x = crosses u v hu (second_kind v ys f h) c in
        (x.goes, rw (x.kind, x.sign) (fall_leads v ys f h))

    hops_lead : (u y : ℕ) (s : Sign) (xs ys : List ℕ) → Kind o k u → Kind o k y → Strict L u xs ys y s → HopsLead o k Γ a one u is (hops ws u xs ys) y s
    unfolding hops over_turn
    hops_lead u y is xs [] hu hy p = let c = climb_leads u xs hu p.0 in leads_both (climb u xs) [] u (last_of u xs) y is is is c.0 (p.1, refl)
    hops_lead u y is xs (z ∷ zs) hu hy p = absurd p
    hops_lead u y isnt xs [] hu hy p = absurd p
    hops_lead u y isnt xs (z ∷ zs) hu hy p =
        let c = climb_leads u xs hu p.0 in
        let hl : Kind o k (last_of z zs) = rw p.3 hy in
        leads_both (climb u xs) (over_turn ws (last_of u xs) (z ∷ zs)) u (last_of u xs) y is is isnt c.0 (rw (← p.3) (turn_leads (last_of u xs) z zs c.1 p.1 p.2 hl))

  -- ── our proof ──
  pub record Ours (x y : ℕ) (s : Sign) (xs ys : List ℕ) : Type 0 where
    pub proof : Proof o k ws x y s
    pub form : proof_file proof ≡ our_file o (o + k) ws x y s xs ys
    pub deep : proof_depth proof ≡ our_depth o x (length xs + length ys)
    pub sized : proof_size proof ≡ our_size o x (length xs + length ys)

  kind_ours : (x y : ℕ) (s : Sign) (xs ys : List ℕ) → Kind o k x → Kind o k y → Strict L x xs ys y s → Ours x y s xs ys
  unfolding proof_file proof_size proof_depth left_steps proof_steps proof_branches our_file our_depth our_size chain_file
  kind_ours x y s xs ys hx hy p =
      let n = o + k in
      let w = word n x is in
      let one : Individual o k n = inr refl in
      let hs = hops ws x xs ys in
      let r = chain o k (w ∷ ws) n one hs x is y s (Memᴰ.head refl) (hops_lead (w ∷ ws) (λ v m. Memᴰ.tail m) n one x y s xs ys hx hy p) in
      let no : ltb x o ≡ false = le-ltb x o hx.low in
      let el = length_hops ws x xs ys in
      let ez : suc (suc (2 * length hs)) ≡ 1 + suc (2 * length hs) = omega arith in
      record {
        proof = right hx (fresh_in_net o k ws net) r.proof;
        form = rw (no, r.lefted, r.sized, r.said, r.branched (suc (2 * suc (length hs))) 1, ez);
        deep = rw no (let z = r.deep in omega arith);
        sized = rw no (let z = r.sized in omega arith);
      }

  -- A proof that is a chain from one of the object's own links on.
  object_chain : (x y v : ℕ) (s t : Sign) (xs ys : List ℕ) (hs : List Hop) → (hx : x < o) → object_hops ws xs ys ≡ hs → object_start x xs ys ≡ word x v t → suc (length hs) ≡ length xs + length ys
      → Memᴰ (word x v t) ws → HopsLead o k ws x (inl hx) v t hs y s → Ours x y s xs ys
  unfolding proof_file our_file our_depth our_size chain_file
  object_chain x y v s t xs ys hs hx eh eg el m e =
      let r = chain o k ws x (inl hx) hs v t y s m e in
      let here : ltb x o ≡ true = lt-ltb x o hx in
      let ez : 0 + suc (2 * length hs) ≡ suc (2 * length hs) = omega arith in
      record {
        proof = r.proof;
        form = rw (here, eh, eg, r.lefted, r.sized, r.said, r.branched (suc (2 * suc (length hs))) 0, ez);
        deep = rw here (r.deep ∙ el);
        sized = rw here (let z = r.sized in omega arith);
      }

  not_object : {x : ℕ} → x < o → Kind o k x → ⊥
  not_object hx h = omega (arith, hx, h.low)

  own : (x z : ℕ) → x < o → Crossing L x z → L x z isnt
  own x z hx (inl l) = l
  own x z hx (inr l) = absurd (not_object hx (head_kind o k ws net z x isnt l))

  strict_rest : (x v y : ℕ) (s : Sign) (xs ys : List ℕ) → Strict L x (v ∷ xs) ys y s → L x v is × Strict L v xs ys y s
  strict_rest x v y is xs [] p = (p.0.0, (p.0.1, p.1))
  strict_rest x v y is xs (z ∷ zs) p = absurd p
  strict_rest x v y isnt xs [] p = absurd p
  strict_rest x v y isnt xs (z ∷ zs) p = (p.0.0, (p.0.1, p.1, p.2, p.3))

  object_ours : (x y : ℕ) (s : Sign) (xs ys : List ℕ) → x < o → Kind o k y → Strict L x xs ys y s → Ours x y s xs ys
  unfolding object_hops object_start
  object_ours x y s (v ∷ xs) ys hx hy p =
      let q = strict_rest x v y s xs ys p in
      let e = length_hops ws v xs ys in
      object_chain x y v s is (v ∷ xs) ys (hops ws v xs ys) hx refl refl (omega arith) (link_listed ws x v is q.0) (hops_lead ws (λ w m. m) x (inl hx) v y s xs ys (head_kind o k ws net x v is q.0) hy q.1)
  object_ours x y is [] [] hx hy p = absurd (not_object hx (rw p.1 hy))
  object_ours x y isnt [] [] hx hy p = absurd p
  object_ours x y is [] (z ∷ zs) hx hy p = absurd p
  object_ours x y isnt [] (z ∷ zs) hx hy p =
      let e = length_fall z zs in
      let hl : Kind o k (last_of z zs) = rw p.3 hy in
      object_chain x y z isnt isnt [] (z ∷ zs) (fall z zs) hx refl refl (omega arith) (link_listed ws x z isnt (own x z hx p.1)) (rw (← p.3) (fall_leads ws (λ w m. m) x (inl hx) z zs p.2 hl))

  -- A path without repeats to a kind gives a proof of the statement that it shows, which is ours.
  pub ours : (x y : ℕ) (s : Sign) (xs ys : List ℕ) → x < o + k → Kind o k y → Strict L x xs ys y s → Ours x y s xs ys
  ours x y s xs ys hx hy p = side (dec_lt x o)
    where
      side : Dec (x < o) → Ours x y s xs ys
      side (yes h) = object_ours x y s xs ys h hy p
      side (no h) = kind_ours x y s xs ys (record { low = omega arith; high = hx }) hy p
