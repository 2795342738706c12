use Rattle.std.proofs.Common.{◌+◌, ◌*◌}
use Rattle.proof_branch.proofs.+check_premises_check_sequent.Given as goal

abbrev pub decreases-check_premises : goal.decreases-check_premises
decreases-check_premises l = 2 * l.depth + 1

abbrev pub decreases-check_sequent : goal.decreases-check_sequent
decreases-check_sequent l = 2 * l.depth
