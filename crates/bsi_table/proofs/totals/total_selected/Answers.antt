use Rattle.std.proofs.Common.{length, ap, sym, subst, rules, ◌∙◌, SFits, to_z, of_z, to_z-of_z}
use Rattle.std.specs.Int.{w128}
use Rattle.bsi_bits.specs.BitList.{set_positions}
use Rattle.bsi_rows.specs.Numbering.{numbered_at}
use Rattle.bsi_digits.specs.WholeNumbers.{signed_sum, IsSignedLeastOf, IsSignedGreatestOf, IsSignedMedianOf}
use Rattle.bsi_rows.specs.declared.query.Answer.TheVariants.{Count, Sum, Value, Rows}
use Rattle.bsi_rows.specs.Answers.{columns_of_total, missing_of}
use Rattle.bsi_digits.specs.Ranks.{IsSignedRankOf}
use Rattle.bsi_table.specs.Encoded.{sourced_rows}
use Rattle.bsi_table.specs.Totals.{IsTotalAt}
use Rattle.bsi_rows.proofs.Missing.{there}
use Rattle.bsi_table.proofs.TableRows.{even-read, feeders-sourced_rows, numbers-read}
use Rattle.bsi_table.proofs.totals.total_selected.Goals as goal

pub returns-in-Count-clause-answer : goal.returns-in-Count-clause-answer
returns-in-Count-clause-answer c =
    let rows = sourced_rows c.args.origins.now.rows c.args.columns.now in
    subst (λ t. IsTotalAt t c.args.selection.now.bits rows (Count c.count.result)) (sym c.in-Count.is) (ap Count c.count.ensures)

pub sum-requires : goal.sum-requires
sum-requires c =
    let columns = c.args.columns.now in
    let within = there (length columns) c.in-Sum.c (ap (λ t. missing_of (length columns) (columns_of_total t)) (sym c.in-Sum.is) ∙ c.requires.there) in
    even-read c.args.origins.now.rows columns c.args.selection.now.bits c.requires.selection c.requires.even c.in-Sum.c c.index-columns-c.result within c.index-columns-c.is

pub returns-in-Sum-clause-answer : goal.returns-in-Sum-clause-answer
returns-in-Sum-clause-answer c =
    let columns = c.args.columns.now in
    let rows = sourced_rows c.args.origins.now.rows columns in
    let within = there (length columns) c.in-Sum.c (ap (λ t. missing_of (length columns) (columns_of_total t)) (sym c.in-Sum.is) ∙ c.requires.there) in
    let numbers = numbers-read c.args.origins.now.rows columns c.args.selection.now.bits c.requires.selection c.requires.even c.in-Sum.c c.index-columns-c.result within c.index-columns-c.is in
    let read : SFits w128 c.sum.result = search rules in
    subst (λ t. IsTotalAt t c.args.selection.now.bits rows (Sum (to_z w128 (of_z w128 c.sum.result)))) (sym c.in-Sum.is)
    (ap Sum (to_z-of_z read ∙ c.sum.ensures.sum ∙ ap signed_sum numbers))

pub least-requires : goal.least-requires
least-requires c =
    let columns = c.args.columns.now in
    let within = there (length columns) c.in-Least.c (ap (λ t. missing_of (length columns) (columns_of_total t)) (sym c.in-Least.is) ∙ c.requires.there) in
    even-read c.args.origins.now.rows columns c.args.selection.now.bits c.requires.selection c.requires.even c.in-Least.c c.index-columns-c-in-Least.result within c.index-columns-c-in-Least.is

pub returns-in_ok-least-in-Least-clause-answer : goal.returns-in_ok-least-in-Least-clause-answer
returns-in_ok-least-in-Least-clause-answer c =
    let columns = c.args.columns.now in
    let rows = sourced_rows c.args.origins.now.rows columns in
    let within = there (length columns) c.in-Least.c (ap (λ t. missing_of (length columns) (columns_of_total t)) (sym c.in-Least.is) ∙ c.requires.there) in
    let numbers = numbers-read c.args.origins.now.rows columns c.args.selection.now.bits c.requires.selection c.requires.even c.in-Least.c c.index-columns-c-in-Least.result within c.index-columns-c-in-Least.is in
    let answer = c.in_ok-least-in-Least.field-0 in
    subst (λ t. IsTotalAt t c.args.selection.now.bits rows (Value answer)) (sym c.in-Least.is)
    (subst (λ numbers. IsSignedLeastOf numbers answer) numbers c.in_ok-least-in-Least.ensures.least)

pub greatest-requires : goal.greatest-requires
greatest-requires c =
    let columns = c.args.columns.now in
    let within = there (length columns) c.in-Greatest.c (ap (λ t. missing_of (length columns) (columns_of_total t)) (sym c.in-Greatest.is) ∙ c.requires.there) in
    even-read c.args.origins.now.rows columns c.args.selection.now.bits c.requires.selection c.requires.even c.in-Greatest.c c.index-columns-c-in-Greatest.result within c.index-columns-c-in-Greatest.is

pub returns-in_ok-greatest-in-Greatest-clause-answer : goal.returns-in_ok-greatest-in-Greatest-clause-answer
returns-in_ok-greatest-in-Greatest-clause-answer c =
    let columns = c.args.columns.now in
    let rows = sourced_rows c.args.origins.now.rows columns in
    let within = there (length columns) c.in-Greatest.c (ap (λ t. missing_of (length columns) (columns_of_total t)) (sym c.in-Greatest.is) ∙ c.requires.there) in
    let numbers = numbers-read c.args.origins.now.rows columns c.args.selection.now.bits c.requires.selection c.requires.even c.in-Greatest.c c.index-columns-c-in-Greatest.result within c.index-columns-c-in-Greatest.is in
    let answer = c.in_ok-greatest-in-Greatest.field-0 in
    subst (λ t. IsTotalAt t c.args.selection.now.bits rows (Value answer)) (sym c.in-Greatest.is)
    (subst (λ numbers. IsSignedGreatestOf numbers answer) numbers c.in_ok-greatest-in-Greatest.ensures.greatest)

pub median-requires : goal.median-requires
median-requires c =
    let columns = c.args.columns.now in
    let within = there (length columns) c.in-Median.c (ap (λ t. missing_of (length columns) (columns_of_total t)) (sym c.in-Median.is) ∙ c.requires.there) in
    even-read c.args.origins.now.rows columns c.args.selection.now.bits c.requires.selection c.requires.even c.in-Median.c c.index-columns-c-in-Median.result within c.index-columns-c-in-Median.is

pub returns-in_ok-median-in-Median-clause-answer : goal.returns-in_ok-median-in-Median-clause-answer
returns-in_ok-median-in-Median-clause-answer c =
    let columns = c.args.columns.now in
    let rows = sourced_rows c.args.origins.now.rows columns in
    let within = there (length columns) c.in-Median.c (ap (λ t. missing_of (length columns) (columns_of_total t)) (sym c.in-Median.is) ∙ c.requires.there) in
    let numbers = numbers-read c.args.origins.now.rows columns c.args.selection.now.bits c.requires.selection c.requires.even c.in-Median.c c.index-columns-c-in-Median.result within c.index-columns-c-in-Median.is in
    let answer = c.in_ok-median-in-Median.field-0 in
    subst (λ t. IsTotalAt t c.args.selection.now.bits rows (Value answer)) (sym c.in-Median.is)
    (subst (λ numbers. IsSignedMedianOf numbers answer) numbers c.in_ok-median-in-Median.ensures)

pub ranked-requires : goal.ranked-requires
ranked-requires c =
    let columns = c.args.columns.now in
    let within = there (length columns) c.in-Rank.c (ap (λ t. missing_of (length columns) (columns_of_total t)) (sym c.in-Rank.is) ∙ c.requires.there) in
    even-read c.args.origins.now.rows columns c.args.selection.now.bits c.requires.selection c.requires.even c.in-Rank.c c.index-columns-c-in-Rank.result within c.index-columns-c-in-Rank.is

pub returns-in_ok-ranked-in-Rank-clause-answer : goal.returns-in_ok-ranked-in-Rank-clause-answer
returns-in_ok-ranked-in-Rank-clause-answer c =
    let columns = c.args.columns.now in
    let rows = sourced_rows c.args.origins.now.rows columns in
    let within = there (length columns) c.in-Rank.c (ap (λ t. missing_of (length columns) (columns_of_total t)) (sym c.in-Rank.is) ∙ c.requires.there) in
    let numbers = numbers-read c.args.origins.now.rows columns c.args.selection.now.bits c.requires.selection c.requires.even c.in-Rank.c c.index-columns-c-in-Rank.result within c.index-columns-c-in-Rank.is in
    let answer = c.in_ok-ranked-in-Rank.field-0 in
    subst (λ t. IsTotalAt t c.args.selection.now.bits rows (Value answer)) (sym c.in-Rank.is)
    (subst (λ numbers. IsSignedRankOf c.in-Rank.rank numbers answer) numbers c.in_ok-ranked-in-Rank.ensures)

pub number_rows-requires : goal.number_rows-requires
number_rows-requires c = c.requires.selection

pub returns-in_ok-number_rows-in-Rows-clause-answer : goal.returns-in_ok-number_rows-in-Rows-clause-answer
returns-in_ok-number_rows-in-Rows-clause-answer c =
    let row_feeders = c.args.origins.now.rows in
    let rows = sourced_rows row_feeders c.args.columns.now in
    subst (λ t. IsTotalAt t c.args.selection.now.bits rows (Rows c.in_ok-number_rows-in-Rows.field-0)) (sym c.in-Rows.is)
    (c.in_ok-number_rows-in-Rows.ensures ∙ ap (λ feeders. numbered_at feeders (set_positions c.args.selection.now.bits)) (sym (feeders-sourced_rows row_feeders c.args.columns.now)))
