use Rattle.std.proofs.Common.{arith, sym, ◌∙◌}
use Rattle.netfile.proofs.Reading.{contents_fit, first_start, missized, first_shut, second_shut, third_shut, fourth_shut, all_open}
use Rattle.netfile.proofs.read_entries.Goals as goal

pub returns-then-wrong_size : goal.returns-then-wrong_size
returns-then-wrong_size c = sym (missized _ (sym c.wrong_size.ensures ∙ c.if-wrong_size.true) _ _ _)

pub entry_count-count-requires : goal.entry_count-count-requires
entry_count-count-requires c = first_start c.args.file.now (sym c.wrong_size.ensures ∙ c.if-wrong_size.false)

pub open_entry-requires : goal.open_entry-requires
open_entry-requires c = let f = contents_fit _ (sym c.wrong_size.ensures ∙ c.if-wrong_size.false) _ c.entry_count-count.ensures in (omega (arith, f), f.1, f.2)

pub returns-in_default : goal.returns-in_default
returns-in_default c =
    sym (first_shut _ (sym c.wrong_size.ensures ∙ c.if-wrong_size.false) _ c.entry_count-count.ensures
    _ c.open_entry.ensures c.in_default.is _ _ _)

pub open_entry-requires-2 : goal.open_entry-requires-2
open_entry-requires-2 c = let f = contents_fit _ (sym c.wrong_size.ensures ∙ c.if-wrong_size.false) _ c.entry_count-count.ensures in (omega (arith, f), f.1, f.2)

pub returns-in_default-open_entry : goal.returns-in_default-open_entry
returns-in_default-open_entry c =
    sym (second_shut _ (sym c.wrong_size.ensures ∙ c.if-wrong_size.false) _ c.entry_count-count.ensures
    _ c.in-Some.nodes.0 c.in-Some.nodes.1 c.open_entry.ensures c.in-Some.is
    _ c.open_entry-2.ensures c.in_default-open_entry.is _ _ _)

pub open_entry-requires-3 : goal.open_entry-requires-3
open_entry-requires-3 c = let f = contents_fit _ (sym c.wrong_size.ensures ∙ c.if-wrong_size.false) _ c.entry_count-count.ensures in (omega (arith, f), f.1, f.2)

pub returns-in_default-open_entry-2 : goal.returns-in_default-open_entry-2
returns-in_default-open_entry-2 c =
    sym (third_shut _ (sym c.wrong_size.ensures ∙ c.if-wrong_size.false) _ c.entry_count-count.ensures
    _ c.in-Some.nodes.0 c.in-Some.nodes.1 c.open_entry.ensures c.in-Some.is
    _ c.in-Some-open_entry.words.0 c.in-Some-open_entry.words.1 c.open_entry-2.ensures c.in-Some-open_entry.is
    _ c.open_entry-3.ensures c.in_default-open_entry-2.is _ _ _)

pub open_fourth-requires : goal.open_fourth-requires
open_fourth-requires c = contents_fit _ (sym c.wrong_size.ensures ∙ c.if-wrong_size.false) _ c.entry_count-count.ensures

pub returns-in_default-open_fourth : goal.returns-in_default-open_fourth
returns-in_default-open_fourth c =
    sym (fourth_shut _ (sym c.wrong_size.ensures ∙ c.if-wrong_size.false) _ c.entry_count-count.ensures
    _ c.in-Some.nodes.0 c.in-Some.nodes.1 c.open_entry.ensures c.in-Some.is
    _ c.in-Some-open_entry.words.0 c.in-Some-open_entry.words.1 c.open_entry-2.ensures c.in-Some-open_entry.is
    _ c.in-Some-open_entry-2.questions.0 c.in-Some-open_entry-2.questions.1 c.open_entry-3.ensures c.in-Some-open_entry-2.is
    _ c.open_fourth.ensures c.in_default-open_fourth.is _ _ _)

pub returns : goal.returns
returns c =
    sym (all_open _ (sym c.wrong_size.ensures ∙ c.if-wrong_size.false) _ c.entry_count-count.ensures
    _ c.in-Some.nodes.0 c.in-Some.nodes.1 c.open_entry.ensures c.in-Some.is
    _ c.in-Some-open_entry.words.0 c.in-Some-open_entry.words.1 c.open_entry-2.ensures c.in-Some-open_entry.is
    _ c.in-Some-open_entry-2.questions.0 c.in-Some-open_entry-2.questions.1 c.open_entry-3.ensures c.in-Some-open_entry-2.is
    _ c.in-Some-open_fourth.set.0 c.in-Some-open_fourth.set.1 c.open_fourth.ensures c.in-Some-open_fourth.is _ _ _)
