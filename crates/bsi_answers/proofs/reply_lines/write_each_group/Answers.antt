use Rattle.std.proofs.Common.{◌≡◌, get_or, sym, subst, arith}
use Rattle.std.proofs.lemmas.Option.{get_or_from_slice_get}
use Rattle.bsi_aggregates.specs.Groups.{Grouped}
use Rattle.bsi_syntax.specs.Notations.{AppendsText}
use Rattle.bsi_answers.specs.ReplyLines.{IsGroupText}
use Rattle.bsi_answers.proofs.Listed.{texts_all, texts_more, texts_none}
use Rattle.bsi_answers.proofs.reply_lines.write_each_group.Goals as goal

pub groups-init : goal.groups-init
groups-init g c =
    texts_none (IsGroupText (g.N.Notation.number_texts c.args.notation.now) c.args.by.now c.args.c) c.args.line.now.items c.args.groups.now.groups

pub groups-preserved : goal.groups-preserved
groups-preserved g c =
    let Is = IsGroupText (g.N.Notation.number_texts c.args.notation.now) c.args.by.now c.args.c in
    let groups = c.args.groups.now.groups in
    let group : Grouped = record { entries = c.get.result.entries.now; answer = c.get.result.answer.now } in
    let is : get_or groups c.groups.k group ≡ group = get_or_from_slice_get groups c.groups.k group group c.get.ensures.group in
    texts_more Is c.args.line.now.items groups c.groups.k group c.groups.line.items c.write_group.new.line.items
    (omega (arith, c.groups-test.true, c.len-k-end.ensures)) c.groups.invariant
    (subst (λ (one : Grouped). AppendsText (IsGroupText (g.N.Notation.number_texts c.args.notation.now) c.args.by.now c.args.c one) c.groups.line.items c.write_group.new.line.items)
    (sym is) c.in_ok-write_group.ensures)

pub returns : goal.returns
returns g c =
    texts_all (IsGroupText (g.N.Notation.number_texts c.args.notation.now) c.args.by.now c.args.c) c.args.line.now.items c.args.groups.now.groups c.groups.k c.groups.line.items
    (omega (arith, c.groups-test.false, c.len-k-end.ensures)) c.groups.invariant
