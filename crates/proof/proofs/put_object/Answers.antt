use Prim.Native.Nat.{◌-◌}
use mathlib.Core.Path.{ap, ◌∙◌}
use mathlib.Core.List.{[]}
use lib.ListN.{length}
use Rattle.theory_laws.specs.Over.{over}
use Rattle.theory.specs.Origins.{chosen}
use Rattle.proof_form.specs.Ours.{chain_file}
use Rattle.proof_form.specs.FromReason.{hops_from, start_at}
use Rattle.proof.specs.Listed.{object_list}
use Rattle.proof.proofs.Putting.{object_size, put_short, put_done}
use Rattle.proof.proofs.put_object.Goals as goal

pub returns-then-list-size : goal.returns-then-list-size
returns-then-list-size c = λ past.
    let ws = (chosen c.args.set c.args.words.now) in
    put_short (object_list ws c.args.x c.args.path.now) past c.args.list.now _ (object_size ws c.args.path.now c.args.x (start_at c.args.x c.args.path.now)) c.if-list-size.true

pub returns : goal.returns
returns c = λ past.
    let ws = (chosen c.args.set c.args.words.now) in
    let hs = hops_from ws c.args.path.now 1 (length c.args.path.now - 4) in
    put_done (object_list ws c.args.x c.args.path.now) past c.args.list.now _ (object_size ws c.args.path.now c.args.x (start_at c.args.x c.args.path.now)) _ c.if-list-size.false
    (c.write_object.ensures ∙ ap (λ z. over (chain_file 0 [] c.args.x z hs (length c.args.path.now - 4)) c.args.list.now) c.start_word-start.ensures)
