use Rattle.std.proofs.Common.{rules, sym, ap, ◌∙◌, ◌≡◌, Err}
use Rattle.netfile.specs.Contents.{contents_of}
use Rattle.netfile.proofs.Told.{contents_in, contents_told}
use Rattle.netfile.proofs.read_contents.Goals as goal

pub returns-in_err-questions : goal.returns-in_err-questions
returns-in_err-questions c =
    let t : contents_of c.args.file.now ≡ Err c.in_err-questions.field-0.0 = contents_told _ ∙ ap contents_in (sym c.read_entries.ensures ∙ c.in_err-questions.was) in
    search rules

pub returns : goal.returns
returns c = sym (contents_told _ ∙ ap contents_in (sym c.read_entries.ensures ∙ c.in_ok-questions.was))
