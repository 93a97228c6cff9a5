use Rattle.std.proofs.Common.{All, length, ap, sym, subst, arith, rules, ◌∙◌, SFits, w64, to_z-of_z}
use Rattle.std.proofs.lemmas.Int.{ints}
use Rattle.bsi_digits.specs.Offsets.{IsInRange}
use Rattle.bsi_table.specs.Encoded.{IsInForm}
use Rattle.std.proofs.lemmas.List.Elements.{All-nil}
use Rattle.bsi_shift.specs.Shifted.{shifted_size}
use Rattle.bsi_table.proofs.Keeping.{shifted_nothing}
use Rattle.bsi_table.proofs.columns.make_one.Goals as goal

pub returns : goal.returns
returns c =
    let made = c.new.ensures in
    let nothing = shifted_nothing c.new.result c.in_ok-stored.stored (ap (λ s. s.stored) made) c.in_ok-stored.ensures.empty in
    let read : SFits w64 c.offset.result = search rules in
    record {
      form = subst (λ f. IsInForm f c.new.result.stored) c.form.ensures.form (subst (λ s. IsInForm c.form.result.now s.stored) (sym made) c.in_ok-stored.ensures.form);
      offset = ap (λ s. s.offset) made ∙ to_z-of_z read ∙ c.offset.ensures.offset;
      rows = ap length nothing;
      low = omega (arith, ints, c.offset.ensures.offset);
      high = omega (arith, ints, c.offset.ensures.offset, c.offset.ensures.below);
      range = subst (All (IsInRange c.new.result.offset (shifted_size c.new.result))) (sym nothing) (All-nil (IsInRange c.new.result.offset (shifted_size c.new.result)));
    }
