-- Each outcome of a completion by rows, in the terms of the code.
use Rattle.completion.specs.declared.CompletionError.TheVariants as completed
use Rattle.std.specs.Prelude.{Err, Ok}
use Prim.Native.Nat.{ℕ, ◌+◌, ◌<◌, ◌≤◌}
use mathlib.Core.Path.{◌≡◌, refl, sym, ap, ◌∙◌}
use mathlib.Core.List.{List, ◌++◌}
use native.Mathlib.Omega.{arith}
use borrow.Author.Tests.{lt-ltb, le-ltb}
use lib.Dec.{ltb}
use lib.ListN.{length, drop}
use Rattle.theory_laws.specs.Over.{over}
use Rattle.theory_laws.proofs.Booleans.{or_true}
use Rattle.theory.specs.Words.{Sign, is, isnt}
use Rattle.theory.specs.Nets.{Net}
use Rattle.theory.specs.Completion.{complete}
use Rattle.theory.specs.Rows.{width, rows_size, Exact, supported_rows}
use Rattle.theory.proofs.rows.Exactly.{supported_rows_length, filled_exact}
use Rattle.rows_steps.specs.Listing.{all_pairs}
use Rattle.rows_steps.proofs.Listing.{listed}
use Rattle.net.specs.Clauses.{call}
use Rattle.net.specs.declared.Refusal.TheVariants.{ShortBuffer}
use Rattle.completion.specs.Table.{Completed}
use Rattle.rows_completion.specs.Table.{RowsOutcome, rows_outcome, rows_clauses, rows_done}

same : {r q : Completed} {a b c d e f : List ℕ} → r ≡ q → a ≡ b → c ≡ d → e ≡ f → rows_outcome r a c e ≡ rows_outcome q b d f
same p u v w = λ i. record { answer = p i; yeses = u i; noes = v i; list = w i }

module _ (o k n : ℕ) (ws yeses noes l : List ℕ) where
  -- What the table says.
  abbrev said : RowsOutcome
  said = call (rows_clauses o k ws yeses noes l n) (rows_done o k ws yeses noes l n)

  -- Number 5.
  pub yes_short : length yeses < rows_size n → rows_outcome (Err (completed.Refused ShortBuffer)) yeses noes l ≡ said
  yes_short h = rw (lt-ltb (length yeses) (rows_size n) h)

  pub no_short : length noes < rows_size n → rows_outcome (Err (completed.Refused ShortBuffer)) yeses noes l ≡ said
  no_short h = rw (lt-ltb (length noes) (rows_size n) h, or_true (ltb (length yeses) (rows_size n)))

  -- The code filled the rows, and was left with ys and ns.
  module _ (net : Net o k ws) (size : n ≡ o + k) (enough : rows_size n ≤ length yeses) (enough' : rows_size n ≤ length noes) {ys ns : List ℕ}
      (y : ys ≡ supported_rows o k ws is ++ drop (rows_size n) yeses) (z : ns ≡ supported_rows o k ws isnt ++ drop (rows_size n) noes) where
    filled : (s : Sign) (a b : List ℕ) → a ≡ supported_rows o k ws s ++ drop (rows_size n) b → a ≡ over (supported_rows o k ws s) b
    filled s a b e = e ∙ ap (λ (i : ℕ). supported_rows o k ws s ++ drop i b) (ap rows_size size ∙ sym (supported_rows_length o k ws s))

    exact : (s : Sign) (a b : List ℕ) → a ≡ supported_rows o k ws s ++ drop (rows_size n) b → Exact o k ws s a
    exact s a b e = rw e (filled_exact o k ws net s (drop (rows_size n) b))

    -- The list out of them is the completed list.
    from_rows : all_pairs (width n) 0 n ys ns ≡ complete o k ws
    from_rows = rw size (listed o k ws net ys ns (exact is ys yeses y) (exact isnt ns noes z))

    module _ {needed : ℕ} (c : needed ≡ length (all_pairs (width n) 0 n ys ns)) where
      count : needed ≡ length (complete o k ws)
      count = c ∙ ap length from_rows

      -- Number 8.
      pub list_short : length l < needed → rows_outcome (Err (completed.Short needed)) ys ns l ≡ said
      list_short f =
          let g : length l < length (complete o k ws) = omega (arith, count) in
          rw (le-ltb (length yeses) (rows_size n) enough, le-ltb (length noes) (rows_size n) enough', lt-ltb (length l) (length (complete o k ws)) g)
          (same (ap (λ (q : ℕ). Err (completed.Short q)) count) (filled is ys yeses y) (filled isnt ns noes z) refl)

      -- Number 0.
      pub list_done : needed ≤ length l → {l' : List ℕ} → l' ≡ over (all_pairs (width n) 0 n ys ns) l → rows_outcome (Ok needed) ys ns l' ≡ said
      list_done f v =
          let g : length (complete o k ws) ≤ length l = omega (arith, count) in
          rw (le-ltb (length yeses) (rows_size n) enough, le-ltb (length noes) (rows_size n) enough', le-ltb (length l) (length (complete o k ws)) g)
          (same (ap Ok count) (filled is ys yeses y) (filled isnt ns noes z) (v ∙ ap (λ (q : List ℕ). over q l) from_rows))
