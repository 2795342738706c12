use Rattle.std.proofs.Common.{arith, sym, ap, subst, ◌∙◌}
use Rattle.netfile.proofs.Told.{bodies_in, bodies_told, AllInside, inside_told}
use Rattle.netfile.proofs.read_bodies.Goals as goal

pub returns-in_default : goal.returns-in_default
returns-in_default c = sym (bodies_told c.args.file.now ∙ ap (bodies_in c.args.file.now) (sym c.read_entries.ensures ∙ c.in_default.is))

pub body-requires : goal.body-requires
body-requires c = let i = subst (AllInside c.args.file.now) (sym c.read_entries.ensures ∙ c.in-Ok.is) (inside_told _) in (omega (arith, i), omega (arith, i))

pub body-requires-2 : goal.body-requires-2
body-requires-2 c = let i = subst (AllInside c.args.file.now) (sym c.read_entries.ensures ∙ c.in-Ok.is) (inside_told _) in (omega (arith, i), omega (arith, i))

pub body-requires-3 : goal.body-requires-3
body-requires-3 c = let i = subst (AllInside c.args.file.now) (sym c.read_entries.ensures ∙ c.in-Ok.is) (inside_told _) in (omega (arith, i), omega (arith, i))

pub body-requires-4 : goal.body-requires-4
body-requires-4 c = let i = subst (AllInside c.args.file.now) (sym c.read_entries.ensures ∙ c.in-Ok.is) (inside_told _) in (omega (arith, i), omega (arith, i))

pub returns : goal.returns
returns c =
    let e = bodies_told c.args.file.now ∙ ap (bodies_in c.args.file.now) (sym c.read_entries.ensures ∙ c.in-Ok.is) in
    sym (e ∙ simp (c.body.ensures, c.body-2.ensures, c.body-3.ensures, c.body-4.ensures))
