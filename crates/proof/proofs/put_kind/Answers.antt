use Prim.Native.Nat.{◌+◌}
use mathlib.Core.Path.{ap, ◌∙◌}
use Rattle.theory_laws.specs.Over.{over}
use Rattle.theory.specs.Words.{is, word, sign_at, sign_number}
use Rattle.theory.specs.Origins.{chosen}
use Rattle.proof.specs.Listed.{kind_list}
use Rattle.proof.proofs.Putting.{kind_size, kind_deep, kind_fits, kind_list_lem, put_short, put_done}
use Rattle.proof.proofs.put_kind.Goals as goal

pub returns-then-links-gt-KIND_LINKS : goal.returns-then-links-gt-KIND_LINKS
returns-then-links-gt-KIND_LINKS c = λ past.
    kind_deep c.args.n (chosen c.args.set c.args.words.now) c.args.x c.args.y c.args.sign c.args.path.now past c.args.list.now c.if-links-gt-KIND_LINKS.true

pub returns-then-list-size : goal.returns-then-list-size
returns-then-list-size c = λ past.
    let ws = (chosen c.args.set c.args.words.now) in
    let z = kind_size ws c.args.path.now (2 + sign_number (sign_at c.args.sign)) c.args.n (word c.args.x c.args.y (sign_at c.args.sign)) (word c.args.n c.args.x is) in
    kind_fits c.args.n ws c.args.x c.args.y c.args.sign c.args.path.now past c.args.list.now c.if-links-gt-KIND_LINKS.false _
    (put_short (kind_list c.args.n ws c.args.x c.args.y c.args.sign c.args.path.now) past c.args.list.now _ z c.if-list-size.true)

pub returns : goal.returns
returns c = λ past.
    let ws = (chosen c.args.set c.args.words.now) in
    let z = kind_size ws c.args.path.now (2 + sign_number (sign_at c.args.sign)) c.args.n (word c.args.x c.args.y (sign_at c.args.sign)) (word c.args.n c.args.x is) in
    let e = kind_list_lem c.args.n ws c.args.x c.args.y c.args.sign c.args.path.now past c.args.list.now _ _ c.requires.room.5 c.word_of-goal.ensures c.word_of-start.ensures in
    kind_fits c.args.n ws c.args.x c.args.y c.args.sign c.args.path.now past c.args.list.now c.if-links-gt-KIND_LINKS.false _
    (put_done (kind_list c.args.n ws c.args.x c.args.y c.args.sign c.args.path.now) past c.args.list.now _ z _ c.if-list-size.false
    (c.write_kind.ensures ∙ ap (λ w. over w c.args.list.now) e))
