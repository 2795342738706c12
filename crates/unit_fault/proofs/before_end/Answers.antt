use mathlib.Core.Path.{◌≡◌, sym, ◌∙◌}
use mathlib.Core.Bool.{true, false}
use Rattle.std.proofs.Common.{rules, tests}
use Rattle.std.proofs.lemmas.Iterator.{YieldsList-from_slice, IsFirst-from_position, index_from_first}
use Rattle.unit_program.specs.Programs.{decode}
use Rattle.unit_program.specs.Faults.{is_end, before_end}
use Rattle.unit_fault.proofs.Faults.{none_before, end_first, end_later}
use Rattle.unit_fault.proofs.before_end.Goals as goal

pub returns : goal.returns
returns c =
    let first = IsFirst-from_position _ _ _ (λ w. true ≡ is_end (decode c.args.n w)) (λ w. false ≡ is_end (decode c.args.n w)) c.position.ensures.ran (YieldsList-from_slice c.args.program.now (cc)) (λ x q k. search (rules, tests)) (λ x q k. search (rules, tests)) in
    c.unwrap_or.ensures ∙ sym (index_from_first (before_end c.args.n) _ _ (none_before c.args.n) (end_first c.args.n) (end_later c.args.n) c.args.program.now _ first)
