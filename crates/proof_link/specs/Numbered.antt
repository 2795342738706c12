-- A link of the path as numbers.
use Rattle.theory.specs.ProofFiles.{rule_of}
use Rattle.proof_form.specs.Ours.{Hop}
use Rattle.proof_link.specs.declared.Link.{Link}

abbrev pub link_of : Hop → Link
link_of h = record { rule = rule_of h.rule; tail = h.tail; head = h.head }
