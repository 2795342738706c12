use Prim.Native.Nat.{◌+◌, ◌*◌}
use mathlib.Core.Path.{◌≡◌}
use native.Mathlib.Omega.{arith}
use borrow.Author.Tests.{not-true, not-false}
use lib.ListN.{length}
use Rattle.proof_check.proofs.Closing.{closing_fault, closing_cut, closing_unfit, closing_branches, closing_length, closing_right, closing_wrong}
use Rattle.proof_check.proofs.close_walk.Goals as goal

pub returns-then-not-fitted : goal.returns-then-not-fitted
returns-then-not-fitted c =
    closing_unfit c.args.list.now c.args.branches c.args.base c.args.walked _ _ _ c.in-Upto.is (not-true _ c.if-not-fitted.true-raw)

pub returns-then-met-branches : goal.returns-then-met-branches
returns-then-met-branches c =
    closing_branches c.args.list.now c.args.branches c.args.base c.args.walked _ _ _ c.in-Upto.is (not-false _ c.if-not-fitted.false-raw) c.if-met-branches.true

pub returns-then-list-base : goal.returns-then-list-base
returns-then-list-base c =
    closing_length c.args.list.now c.args.branches c.args.base c.args.walked _ _ _ c.in-Upto.is (not-false _ c.if-not-fitted.false-raw) (omega arith) (λ (e : c.args.base + 3 * c.in-Upto.end ≡ length c.args.list.now). omega arith)

pub returns-then-base-end : goal.returns-then-base-end
returns-then-base-end c =
    closing_length c.args.list.now c.args.branches c.args.base c.args.walked _ _ _ c.in-Upto.is (not-false _ c.if-not-fitted.false-raw) (omega arith) (λ (e : c.args.base + 3 * c.in-Upto.end ≡ length c.args.list.now). omega arith)

pub returns-then-branch_fits : goal.returns-then-branch_fits
returns-then-branch_fits c =
    closing_right c.args.list.now c.args.branches c.args.base c.args.walked _ _ _ c.in-Upto.is _ (not-false _ c.if-not-fitted.false-raw) (omega arith) (omega arith) c.branch_fits.ensures c.if-branch_fits.true

pub returns-in-Fault : goal.returns-in-Fault
returns-in-Fault c =
    closing_fault c.args.list.now c.args.branches c.args.base c.args.walked _ c.in-Fault.is

pub returns-in-Cut : goal.returns-in-Cut
returns-in-Cut c =
    closing_cut c.args.list.now c.args.branches c.args.base c.args.walked c.in-Cut.is

pub returns-else-branch_fits : goal.returns-else-branch_fits
returns-else-branch_fits c =
    closing_wrong c.args.list.now c.args.branches c.args.base c.args.walked _ _ _ c.in-Upto.is _ (not-false _ c.if-not-fitted.false-raw) (omega arith) (omega arith) c.branch_fits.ensures c.if-branch_fits.false
