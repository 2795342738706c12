-- Numbers 1, 2, 15 and 3 as the check of a net, numbers 1 to 3 as that of a plain list, the tests of number 4 for a statement, and what a reply is:
-- of each refusal, and of those checks.
use Rattle.std.specs.Prelude.{ℕ, ◌+◌, Bool, ◌||◌, List, [], ◌∷◌, ltb, leb, length, get_or, Err, Ok, Result}
use Rattle.theory.specs.Words.{node_limit, word_limit}
use Rattle.theory.specs.Origins.{origin_limit, set_limit}
use Rattle.net_word.specs.Legal.{legal, legal_from, plain_cause, cause_of, cause_number}
use Rattle.net.specs.Passing.{passing}
use Rattle.net.specs.Clauses.{Clause, clause, call}
use Rattle.net.specs.declared.Refusal.{Refusal}
use Rattle.net.specs.declared.Refusal.TheVariants.{TooManyNodes, TooManyWords, BadSet, IllegalWord, BadQuestion, ShortBuffer}
use Rattle.net.specs.declared.Reply as struct

-- The refusal of the illegal word w at index i, with its cause: of a word with an origin, and of a plain one.
abbrev pub illegal_at : ℕ → ℕ → ℕ → Refusal
illegal_at n i w = IllegalWord i (cause_of n w)

abbrev pub illegal_plain : ℕ → ℕ → ℕ → Refusal
illegal_plain n i w = IllegalWord i (plain_cause n w)

-- Clauses 1 and 2, where `refused` is what a refusal leaves: on the number of nodes, a sum of whole numbers, and on the number of words.
abbrev pub size_clauses : {A : Type 0} → (Refusal → A) → ℕ → ℕ → ℕ → List (Clause A) → List (Clause A)
size_clauses refused o k count rest = clause 1 (ltb node_limit (o + k)) (refused TooManyNodes) ∷ clause 2 (ltb word_limit count) (refused TooManyWords) ∷ rest

-- Clause 3: some word fails the test. The first that does is refused, by its index in the whole list and the word itself.
abbrev pub word_clause : {A : Type 0} → (Refusal → A) → (ℕ → Bool) → (ℕ → ℕ → Refusal) → List ℕ → Clause A
word_clause refused test illegal ws = clause 3 (ltb (passing test ws) (length ws)) (refused (illegal (passing test ws) (get_or ws (passing test ws) 0)))

-- The clauses with which every call on a net begins: 1, 2, 15 for the set of origins, and 3. All words are counted and tested, chosen or not. Then come
-- the clauses of the operation.
abbrev pub net_clauses : {A : Type 0} → (Refusal → A) → ℕ → ℕ → List ℕ → ℕ → List (Clause A) → List (Clause A)
net_clauses refused o k ws set rest =
    size_clauses refused o k (length ws)
    (clause 15 (ltb set_limit set) (refused BadSet)
    ∷ word_clause refused (legal_from origin_limit o (o + k)) (illegal_at (o + k)) ws
    ∷ rest)

-- Those of a call on a plain list: a word of 2,097,152 or more has a tail that is no node.
abbrev pub plain_clauses : {A : Type 0} → (Refusal → A) → ℕ → ℕ → List ℕ → List (Clause A) → List (Clause A)
plain_clauses refused o k ws rest = size_clauses refused o k (length ws) (word_clause refused (legal o (o + k)) (illegal_plain (o + k)) ws ∷ rest)

-- What the check of a net answers: the number of its nodes, or a refusal.
abbrev pub Checked : Type 0
Checked = Result ℕ Refusal

-- The check of a net: these clauses, or the number of nodes.
abbrev pub net_table : ℕ → ℕ → List ℕ → ℕ → List (Clause Checked)
net_table o k ws set = net_clauses Err o k ws set []

abbrev pub net_done : ℕ → ℕ → Checked
net_done o k = Ok (o + k)

unfoldable pub check_net : ℕ → ℕ → List ℕ → ℕ → Checked
check_net o k ws set = call (net_table o k ws set) (net_done o k)

-- The check of a plain list.
abbrev pub plain_table : ℕ → ℕ → List ℕ → List (Clause Checked)
plain_table o k ws = plain_clauses Err o k ws []

unfoldable pub check_plain : ℕ → ℕ → List ℕ → Checked
check_plain o k ws = call (plain_table o k ws) (net_done o k)

-- The sizes alone.
unfoldable pub check_sizes : ℕ → ℕ → ℕ → Checked
check_sizes o k count = call (size_clauses Err o k count []) (net_done o k)

-- Number 4 for a statement about x and y in a net of n nodes: x is no node, or y is no kind.
abbrev pub bad_pair : ℕ → ℕ → ℕ → ℕ → Bool
bad_pair o n x y = leb n x || (ltb y o || leb n y)

-- Number 4 where a sign is asked besides.
abbrev pub bad_statement : ℕ → ℕ → ℕ → ℕ → ℕ → Bool
bad_statement o n x y sign = bad_pair o n x y || ltb 1 sign

-- A reply, which is an answer in the terms of the number table: its number and up to two values, 0 where neither the paper nor this project names one.
abbrev pub Reply : Type 0
Reply = struct.Reply

abbrev pub reply : ℕ → ℕ → ℕ → Reply
reply n a b = record { number = n; first = a; second = b }

-- The reply of each refusal; an illegal word's has its index and its cause.
abbrev pub refusal_reply : Refusal → Reply
refusal_reply TooManyNodes = reply 1 0 0
refusal_reply TooManyWords = reply 2 0 0
refusal_reply (IllegalWord i c) = reply 3 i (cause_number c)
refusal_reply BadQuestion = reply 4 0 0
refusal_reply ShortBuffer = reply 5 0 0
refusal_reply BadSet = reply 15 0 0

-- The reply of each answer of these checks: 0, to which this project adds the number of nodes, or the refusal's.
abbrev pub checked_reply : Checked → Reply
checked_reply (Ok n) = reply 0 n 0
checked_reply (Err r) = refusal_reply r
