use Rattle.std.proofs.Common.{◌≡◌, arith, sym, ◌∙◌}
use Rattle.csv.specs.Records.{fields_of}
use Rattle.bsi_input.proofs.Layouts.{place_here, place_next, place_nowhere}
use Rattle.bsi_logical.specs.HeaderTitles.{titles_of}
use Rattle.bsi_logical.proofs.Titling.{length-titles_of}
use Rattle.bsi_logical.proofs.titles.title_index.Goals as goal

pub fields-preserved : goal.fields-preserved
fields-preserved c =
    let header = fields_of c.args.header.now in
    place_next (titles_of header) c.fields.index c.args.title.now (omega (arith, length-titles_of header)) (sym c.has_title.ensures ∙ c.if-has_title.false) c.fields.invariant

pub returns-then-has_title : goal.returns-then-has_title
returns-then-has_title c =
    let header = fields_of c.args.header.now in
    place_here (titles_of header) c.fields.index c.args.title.now (omega (arith, length-titles_of header)) (sym c.has_title.ensures ∙ c.if-has_title.true) c.fields.invariant

pub returns : goal.returns
returns c =
    let header = fields_of c.args.header.now in
    let all : c.len.result ≡ c.fields.index = omega arith in
    all ∙ place_nowhere (titles_of header) c.fields.index c.args.title.now (omega (arith, length-titles_of header)) c.fields.invariant
