use Rattle.std.proofs.Common.{◌∷◌, ◌++◌, [], length, ap, sym, subst, arith, ◌∙◌, below_more}
use Rattle.std.proofs.lemmas.List.{get_or_append_left, length-append}
use Rattle.std.proofs.Math.Seq.{get_or-append_seam}
use Rattle.bsi_schema.specs.Columns.{column_at}
use Rattle.bsi_table.specs.Encoded.{encoded_at, no_entries, Encodes}
use Rattle.bsi_table.proofs.columns.make_each.Goals as goal

pub columns-preserved : goal.columns-preserved
columns-preserved c =
    let before = c.columns.made.items in
    let made = c.in_ok-make_one.field-0 in
    let items = c.push_reserved.ensures.items in
    let last = ap (λ xs. encoded_at xs c.columns.c) items ∙ ap (λ k. encoded_at (before ++ made ∷ []) k) (sym c.columns.invariant.long)
    ∙ get_or-append_seam before made [] no_entries in
    record {
      room = omega (arith, c.push_reserved.ensures.capacity, c.columns.invariant.room);
      long = ap length items ∙ omega (arith, length-append before (made ∷ []), c.columns.invariant.long);
      each = below_more _ _
          (λ k below.
          let earlier = ap (λ xs. encoded_at xs k) items ∙ get_or_append_left before (made ∷ []) no_entries k (omega (arith, c.columns.invariant.long)) in
          subst (λ encoded. Encodes (column_at c.args.schema.now.columns k) encoded 0) (sym earlier) (c.columns.invariant.each k below))
          (subst (λ encoded. Encodes (column_at c.args.schema.now.columns c.columns.c) encoded 0) (sym last) c.in_ok-make_one.ensures);
    }
