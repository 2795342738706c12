-- Demand 3 over lists of words, with the limits: nets are accepted by numbers 1, 2 and 3, and so are the joined lists.
use Prim.Native.Nat.{ℕ, suc, ◌+◌, ◌≤◌, ◌<◌}
use mathlib.Core.Path.{◌≡◌, refl, sym, ◌∙◌, ap}
use mathlib.Core.List.Memᴰ
use mathlib.Core.List.{List, [], ◌∷◌, ◌++◌, append-nil, Memᴰ}
use mathlib.Core.Logic.{inl, inr, ◌↔◌, ⊎_elim}
use native.Mathlib.Omega.{arith}
use lib.ListN.{length, get_or}
use Rattle.theory_laws.proofs.Booleans.{same_test}
use Rattle.theory.specs.Words.{Sign, word, tail_of, sign_of, sign_at, word_limit}
use Rattle.theory.specs.Nets.{Kind, Links, LegalWords, Net}
use Rattle.theory.specs.Support.{Supported, linked}
use Rattle.theory.specs.Marks.{has, marker_of, At}
use Rattle.theory.specs.Completion.{Ascending, Lists, full_marks, complete}
use Rattle.theory.proofs.Legal.{legal_links}
use Rattle.theory.proofs.support.Joining.{Sub, Join, into, monotone, beside, ends, elsewhere}
use Rattle.theory.proofs.completion.Ascending.{tail_word, head_word, parity_word, sign_word, sign_at_number}
use Rattle.theory.proofs.completion.Completing.{lists_unique, complete_lists, full_exact}

-- ── the links of joined lists ──
join_links : (ws vs : List ℕ) (x y : ℕ) (s : Sign) → Links (ws ++ vs) x y s → Join (Links ws) (Links vs) x y s
join_links ws vs x y s l = ⊎_elim
    (λ m. inl (record { it = l.it; listed = m; tail = l.tail; head = l.head; sign = l.sign }))
    (λ m. inr (record { it = l.it; listed = m; tail = l.tail; head = l.head; sign = l.sign }))
    (Memᴰ.append_cases ws l.listed)

links_join : (ws vs : List ℕ) (x y : ℕ) (s : Sign) → Join (Links ws) (Links vs) x y s → Links (ws ++ vs) x y s
links_join ws vs x y s (inl l) = record { it = l.it; listed = Memᴰ.append_left vs l.listed; tail = l.tail; head = l.head; sign = l.sign }
links_join ws vs x y s (inr l) = record { it = l.it; listed = Memᴰ.append_right ws l.listed; tail = l.tail; head = l.head; sign = l.sign }

module _ (o k : ℕ) where
  legal_right : (ws vs : List ℕ) → LegalWords o k (ws ++ vs) → LegalWords o k vs
  legal_right ws vs l w m = l w (Memᴰ.append_right ws m)

  joined : (ws vs : List ℕ) (x y : ℕ) (s : Sign) → Supported o k (Links (ws ++ vs)) x y s ↔ Supported o k (Join (Links ws) (Links vs)) x y s
  joined ws vs x y s = (monotone o k _ _ (join_links ws vs) x y s, monotone o k _ _ (links_join ws vs) x y s)

  -- The part of a joined net supports no more than the whole.
  pub part_of : (ws vs : List ℕ) → Sub (Supported o k (Links ws)) (Supported o k (Links (ws ++ vs)))
  part_of ws vs = monotone o k (Links ws) (Links (ws ++ vs)) (λ x y s n. links_join ws vs x y s (inl n))

  -- Two nets that support the same have the same completed lists.
  pub lists_as : (ws vs out : List ℕ) → Sub (Supported o k (Links ws)) (Supported o k (Links vs)) → Sub (Supported o k (Links vs)) (Supported o k (Links ws)) → Lists o k ws out → Lists o k vs out
  lists_as ws vs out f g c = record { ascending = c.ascending; exact = λ w. ((λ m. f _ _ _ ((c.exact w).0 m)), λ p. (c.exact w).1 (g _ _ _ p)) }

  module _ (ws out : List ℕ) (n : Net o k ws) (c : Lists o k ws out) where
    -- A completed list makes exactly the supported statements.
    out_supported : (x y : ℕ) (s : Sign) → Links out x y s → Supported o k (Links ws) x y s
    out_supported x y s l =
        let e : sign_of l.it ≡ s = ap sign_at l.sign ∙ sign_at_number s in
        rw (l.tail, l.head, e) at ((c.exact l.it).0 l.listed)

    supported_out : (x y : ℕ) (s : Sign) → Supported o k (Links ws) x y s → Links out x y s
    supported_out x y s p =
        let e = ends o k (Links ws) (legal_links o k ws n.legal) x y s p in
        let h : y < 1024 = omega (arith, n.few, e.1.high) in
        let a = tail_word x y s h in
        let b = head_word x y s h in
        let d = sign_word x y s in
        record { it = word x y s; listed = (c.exact (word x y s)).1 (rw (a, b, d) p); tail = a; head = b; sign = parity_word x y s }

    out_legal : LegalWords o k out
    out_legal w m = let e = ends o k (Links ws) (legal_links o k ws n.legal) _ _ _ ((c.exact w).0 m) in record { tail = e.0; head = e.1 }

    out_below : (w : ℕ) → Memᴰ w out → w < word_limit
    out_below w m = omega (arith, n.few, (out_legal w m).tail)

  -- An ascending list of numbers below a bound is no longer than the bound.
  ascending_length : (lo hi : ℕ) (l : List ℕ) → lo ≤ hi → Ascending lo l → ((w : ℕ) → Memᴰ w l → w < hi) → length l + lo ≤ hi
  ascending_length lo hi [] h a f = omega arith
  ascending_length lo hi (w ∷ l) h a f =
      let i = ascending_length (suc w) hi l (f w (Memᴰ.head refl)) a.1 (λ v m. f v (Memᴰ.tail m)) in
      omega (arith, a.0)

  -- A completed list is an acceptable net.
  pub complete_net : (ws : List ℕ) → Net o k ws → Net o k (complete o k ws)
  complete_net ws n =
      let c = complete_lists o k ws n in
      let l = ascending_length 0 word_limit (complete o k ws) (omega arith) c.ascending (out_below ws (complete o k ws) n c) in
      record { few = n.few; short = omega arith; legal = out_legal ws (complete o k ws) n c }

  -- Completing a completed list changes nothing.
  pub complete_again : (ws : List ℕ) → Net o k ws → complete o k (complete o k ws) ≡ complete o k ws
  complete_again ws n =
      let out = complete o k ws in
      let c = complete_lists o k ws n in
      lists_unique o k out (complete o k out) out (complete_lists o k out (complete_net ws n))
      (lists_as ws out out (λ x y s p. linked (supported_out ws out n c x y s p)) (into o k (Links out) (Links ws) (out_supported ws out n c)) c)

  -- Completing a part of a joined net beforehand changes nothing in the joined net's completed list.
  pub complete_part : (ws vs : List ℕ) → Net o k ws → Net o k (ws ++ vs) → Net o k (complete o k ws ++ vs) → complete o k (complete o k ws ++ vs) ≡ complete o k (ws ++ vs)
  complete_part ws vs n j d =
      let out = complete o k ws in
      let c = complete_lists o k ws n in
      lists_unique o k (ws ++ vs) (complete o k (out ++ vs)) (complete o k (ws ++ vs))
      (lists_as (out ++ vs) (ws ++ vs) (complete o k (out ++ vs))
      (into o k (Links (out ++ vs)) (Links (ws ++ vs)) (λ x y s l. ⊎_elim
      (λ m. part_of ws vs x y s (out_supported ws out n c x y s m))
      (λ m. linked (links_join ws vs x y s (inr m))) (join_links out vs x y s l)))
      (into o k (Links (ws ++ vs)) (Links (out ++ vs)) (λ x y s l. ⊎_elim
      (λ m. linked (links_join out vs x y s (inl (supported_out ws out n c x y s (linked m)))))
      (λ m. linked (links_join out vs x y s (inr m))) (join_links ws vs x y s l)))
      (complete_lists o k (out ++ vs) d))
      (complete_lists o k (ws ++ vs) j)

  -- Two nets answer the question (x, y) alike: the word, not the rounds.
  abbrev pub SameAnswer : List ℕ → List ℕ → ℕ → ℕ → Type 0
  SameAnswer ws vs x y = (s : Sign) → has (marker_of s) (get_or (full_marks o k ws x) y 0) ≡ has (marker_of s) (get_or (full_marks o k vs x) y 0)

  answer_same : (ws vs : List ℕ) → Net o k ws → Net o k vs → (x y : ℕ) → x < o + k → Kind o k y
      → ((s : Sign) → Supported o k (Links ws) x y s ↔ Supported o k (Links vs) x y s) → SameAnswer ws vs x y
  answer_same ws vs a b x y h hy e s =
      same_test (has (marker_of s) (get_or (full_marks o k ws x) y 0)) (has (marker_of s) (get_or (full_marks o k vs x) y 0))
      (λ p. (full_exact o k vs b x y s h hy).1 ((e s).0 ((full_exact o k ws a x y s h hy).0 p)))
      (λ p. (full_exact o k ws a x y s h hy).1 ((e s).1 ((full_exact o k vs b x y s h hy).0 p)))

  same_supported : (ws vs : List ℕ) → Net o k ws → Net o k vs → ((x y : ℕ) → x < o + k → Kind o k y → SameAnswer ws vs x y) → Sub (Supported o k (Links ws)) (Supported o k (Links vs))
  same_supported ws vs a b e x y s p =
      let i = ends o k (Links ws) (legal_links o k ws a.legal) x y s p in
      (full_exact o k vs b x y s i.0 i.1).0 (sym (e x y i.0 i.1 s) ∙ (full_exact o k ws a x y s i.0 i.1).1 p)

  -- What a net supports a net with the same completed list supports.
  pub same_completed : (ws vs : List ℕ) → Net o k ws → Net o k vs → complete o k ws ≡ complete o k vs → Sub (Supported o k (Links ws)) (Supported o k (Links vs))
  same_completed ws vs a b e x y s p =
      out_supported vs (complete o k vs) b (complete_lists o k vs b) x y s
      (rw e at (supported_out ws (complete o k ws) a (complete_lists o k ws a) x y s p))

  -- It does so beside any third net.
  pub beside_joined : (ws vs us : List ℕ) → Sub (Supported o k (Links ws)) (Supported o k (Links vs)) → Sub (Supported o k (Links (ws ++ us))) (Supported o k (Links (vs ++ us)))
  beside_joined ws vs us f x y s p = (joined vs us x y s).1 (beside o k (Links ws) (Links vs) f (Links us) x y s ((joined ws us x y s).0 p))

  -- No third net that may be joined to both makes any answer differ.
  abbrev pub Alike : List ℕ → List ℕ → Type 0
  Alike ws vs = (us : List ℕ) → Net o k (ws ++ us) → Net o k (vs ++ us) → (x y : ℕ) → x < o + k → Kind o k y → SameAnswer (ws ++ us) (vs ++ us) x y

  -- Two nets have the same completed list exactly if they are alike.
  pub alike : (ws vs : List ℕ) → Net o k ws → Net o k vs → (complete o k ws ≡ complete o k vs) ↔ Alike ws vs
  alike ws vs a b = (
    (λ e us c d x y hx hy. answer_same (ws ++ us) (vs ++ us) c d x y hx hy
        (λ s. (beside_joined ws vs us (same_completed ws vs a b e) x y s, beside_joined vs ws us (same_completed vs ws b a (sym e)) x y s))),
    λ f.
        let g : (x y : ℕ) → x < o + k → Kind o k y → SameAnswer ws vs x y = λ x y hx hy. rw (append-nil ws, append-nil vs) at (f [] (rw (append-nil ws) a) (rw (append-nil vs) b) x y hx hy) in
        lists_unique o k vs (complete o k ws) (complete o k vs)
        (lists_as ws vs (complete o k ws) (same_supported ws vs a b g) (same_supported vs ws b a (λ x y hx hy s. sym (g x y hx hy s))) (complete_lists o k ws a))
        (complete_lists o k vs b),
  )

  -- Joining removes no yes and no no.
  pub joining_keeps : (ws vs : List ℕ) → Net o k ws → Net o k (ws ++ vs) → (x y : ℕ) (s : Sign) → x < o + k → Kind o k y
      → At (full_marks o k ws x) (marker_of s) y → At (full_marks o k (ws ++ vs) x) (marker_of s) y
  joining_keeps ws vs a b x y s h hy p = (full_exact o k (ws ++ vs) b x y s h hy).1 (part_of ws vs x y s ((full_exact o k ws a x y s h hy).0 p))

  -- Links from one object support nothing new about another node.
  pub others_supported : (ws vs : List ℕ) → LegalWords o k ws → LegalWords o k vs → (a : ℕ) → a < o → ((w : ℕ) → Memᴰ w vs → tail_of w ≡ a)
      → (x y : ℕ) (s : Sign) → (x ≡ a → ⊥) → Supported o k (Links (ws ++ vs)) x y s ↔ Supported o k (Links ws) x y s
  others_supported ws vs n p a ha from x y s q =
      let e = elsewhere o k a ha (Links ws) (Links vs) (legal_links o k ws n) (legal_links o k vs p) (λ x y s l. sym l.tail ∙ from l.it l.listed) x y s q in
      ((λ t. e.0 ((joined ws vs x y s).0 t)), λ t. (joined ws vs x y s).1 (e.1 t))

  -- So they change no answer to a question about another node.
  pub others_keep : (ws vs : List ℕ) → Net o k ws → Net o k (ws ++ vs) → (a : ℕ) → a < o → ((w : ℕ) → Memᴰ w vs → tail_of w ≡ a)
      → (x y : ℕ) → x < o + k → Kind o k y → (x ≡ a → ⊥) → SameAnswer (ws ++ vs) ws x y
  others_keep ws vs n j a ha from x y h hy q =
      answer_same (ws ++ vs) ws j n x y h hy (λ s. others_supported ws vs n.legal (legal_right ws vs j.legal) a ha from x y s q)
