-- A word's sign is 0 or 1.
use native.Mathlib.Omega.{arith}
use Rattle.scan_block.proofs.has_sign.Goals as goal

pub returns-then-sign-eq-IS : goal.returns-then-sign-eq-IS
returns-then-sign-eq-IS c = λ e k l q. c.some_is.ensures e k l (omega arith)

pub returns-then-sign-eq-ISNT : goal.returns-then-sign-eq-ISNT
returns-then-sign-eq-ISNT c = λ e k l q. c.some_isnt.ensures e k l (omega arith)

pub returns : goal.returns
returns c = λ e k l q. omega arith
