-- A question's line says what it seems to say: two lines that are the same have the same x and y, and either the same word and count or the same
-- number of a refusal.
use Rattle.std.specs.Prelude.{Err, Ok}
use Prim.Native.Nat.{ℕ, ◌<◌}
use mathlib.Core.Path.{◌≡◌, refl, sym, ap, ◌∙◌}
use mathlib.Core.Bool.{false, cond}
use mathlib.Core.List.{List, [], ◌∷◌, ◌++◌, Memᴰ}
use native.Mathlib.Omega.{arith}
use borrow.Author.Tests.{eqb-false, ne_eqb}
use lib.Dec.{eqb}
use lib.ListN.{length, get_or, drop}
use Rattle.net.specs.Table.{refusal_reply}
use Rattle.net.specs.declared.Refusal.{Refusal}
use Rattle.net.proofs.Replies.{refusal_numbers}
use Rattle.question.specs.declared.Answer.{Answer}
use Rattle.question.specs.declared.Answer.TheVariants.{None, Yes, No, Both}
use Rattle.question.specs.Table.{Asked}
use Rattle.text_field.specs.Decimal.{decimal, Digit}
use Rattle.text_field.proofs.Denoting.{decimal_digits, decimal_one_to_one}
use Rattle.ask_answer.specs.Ending.{field, last_field, refused_word, answer_word, answer_fields}
use Rattle.ask_answer.proofs.Ends.{word_size}
use Rattle.ask_line.specs.Line.{line_of}

-- The byte c does not stand in a list.
abbrev Free : ℕ → List ℕ → Type 0
Free c [] = Unit {0}
Free c (b ∷ l) = (eqb b c ≡ false) × Free c l

-- Where a byte ends a field in which it does not stand, the field and what follows it are determined.
split : (c : ℕ) (f g r q : List ℕ) → Free c f → Free c g → f ++ c ∷ r ≡ g ++ c ∷ q → (f ≡ g) × (r ≡ q)
split c [] [] r q h k e = (refl, ap (drop 1) e)
split c [] (b ∷ g) r q h k e = absurd (eqb-false b c k.0 (sym (ap (λ (l : List ℕ). get_or l 0 0) e)))
split c (a ∷ f) [] r q h k e = absurd (eqb-false a c h.0 (ap (λ (l : List ℕ). get_or l 0 0) e))
split c (a ∷ f) (b ∷ g) r q h k e =
    let (p, t) = split c f g r q h.1 k.1 (ap (drop 1) e) in
    (cc (ap (λ (l : List ℕ). get_or l 0 0) e), t)

-- A byte below the digits stands in no decimal.
digits_free : (c : ℕ) → c < 48 → (l : List ℕ) → ((b : ℕ) → Memᴰ b l → Digit b) → Free c l
digits_free c h [] d = tt
digits_free c h (b ∷ l) d = (ne_eqb b c (λ e. omega (arith, (d b (Memᴰ.head refl)).low)), digits_free c h l (λ v m. d v (Memᴰ.tail m)))

decimal_free : (c n : ℕ) → c < 48 → Free c (decimal n)
decimal_free c n h = digits_free c h (decimal n) (decimal_digits n)

-- The space stands in none of the words.
word_free : (a : Answer) → Free 32 (answer_word a)
word_free None = (refl, (refl, (refl, (refl, tt))))
word_free Yes = (refl, (refl, (refl, tt)))
word_free No = (refl, (refl, tt))
word_free Both = (refl, (refl, (refl, (refl, tt))))

refused_free : Free 32 refused_word
refused_free = (refl, (refl, (refl, (refl, (refl, (refl, (refl, tt)))))))

-- The answer of a word: by its size, and of the two with four letters by the first.
abbrev answer_of : List ℕ → Answer
answer_of l = cond (eqb (length l) 2) No (cond (eqb (length l) 3) Yes (cond (eqb (get_or l 0 0) 98) Both None))

answer_of_word : (a : Answer) → answer_of (answer_word a) ≡ a
answer_of_word None = refl
answer_of_word Yes = refl
answer_of_word No = refl
answer_of_word Both = refl

-- A number at the end of a line.
last_number : (n m : ℕ) → n < 4294967296 → m < 4294967296 → last_field (decimal n) ≡ last_field (decimal m) → n ≡ m
last_number n m h k e = decimal_one_to_one n m h k (split 10 (decimal n) (decimal m) [] [] (decimal_free 10 n (omega arith)) (decimal_free 10 m (omega arith)) e).0

-- The end of a line says the word and the count.
pub end_done : (a b : Answer) (c d : ℕ) → c < 4294967296 → d < 4294967296 → answer_fields (Ok (a, c)) ≡ answer_fields (Ok (b, d)) → (a ≡ b) × (c ≡ d)
end_done a b c d h k e =
    let (p, q) = split 32 (answer_word a) (answer_word b) (last_field (decimal c)) (last_field (decimal d)) (word_free a) (word_free b) e in
    (sym (answer_of_word a) ∙ ap answer_of p ∙ answer_of_word b, last_number c d h k q)

-- Or the number of a refusal.
pub end_refused : (r s : Refusal) → answer_fields (Err r) ≡ answer_fields (Err s) → (refusal_reply r).number ≡ (refusal_reply s).number
end_refused r s e =
    let t = split 32 refused_word refused_word (last_field (decimal (refusal_reply r).number)) (last_field (decimal (refusal_reply s).number)) refused_free refused_free e in
    last_number (refusal_reply r).number (refusal_reply s).number (omega (arith, refusal_numbers r)) (omega (arith, refusal_numbers s)) t.1

-- And which of the two it says.
pub end_differs : (a : Answer) (c : ℕ) (r : Refusal) → answer_fields (Ok (a, c)) ≡ answer_fields (Err r) → ⊥
end_differs a c r e =
    let t = split 32 (answer_word a) refused_word (last_field (decimal c)) (last_field (decimal (refusal_reply r).number)) (word_free a) refused_free e in
    omega (arith, ap length t.0, word_size a)

-- A line says x, y and its end.
pub line_says : (x y u v : ℕ) (a b : Asked) → x < 4294967296 → y < 4294967296 → u < 4294967296 → v < 4294967296 → line_of x y a ≡ line_of u v b
    → (x ≡ u) × (y ≡ v) × (answer_fields a ≡ answer_fields b)
unfolding line_of
line_says x y u v a b hx hy hu hv e =
    let (p, t) = split 32 (decimal x) (decimal u) (field (decimal y) (answer_fields a)) (field (decimal v) (answer_fields b)) (decimal_free 32 x (omega arith)) (decimal_free 32 u (omega arith)) e in
    let (q, r) = split 32 (decimal y) (decimal v) (answer_fields a) (answer_fields b) (decimal_free 32 y (omega arith)) (decimal_free 32 v (omega arith)) t in
    (decimal_one_to_one x u hx hu p, decimal_one_to_one y v hy hv q, r)
