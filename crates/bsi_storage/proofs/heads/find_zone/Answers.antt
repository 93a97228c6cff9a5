use Rattle.std.proofs.Common.{◌≡◌, ◌∷◌, [], length, map, is_some, ap, rules, sym, subst, ◌∙◌}
use Rattle.std.specs.Prelude.{count_by}
use Rattle.std.specs.Int.{w64, cast_unsigned}
use Rattle.std.proofs.lemmas.Int.{to_z-of_z}
use Rattle.std.proofs.lemmas.List.{length-map}
use Rattle.bsi_digits.specs.Orders.{values_at}
use Rattle.bsi_digits.specs.WholeNumbers.{IsSignedGreatestOf, IsSignedLeastOf}
use Rattle.bsi_shift.specs.Shifted.{shifted_entries}
use Rattle.bsi_storage.specs.Heads.{greatest_of, least_of, numbers_of}
use Rattle.bsi_storage.proofs.Zones.{all_numbers, count_of_numbers, greatest_is, least_is}
use Rattle.bsi_storage.proofs.heads.find_zone.Goals as goal

pub least-requires : goal.least-requires
least-requires c = sym (ap length c.not_null-rows.ensures ∙ length-map (shifted_entries c.args.column.now) is_some)

pub greatest-requires : goal.greatest-requires
greatest-requires c = sym (ap length c.not_null-rows.ensures ∙ length-map (shifted_entries c.args.column.now) is_some)

pub returns : goal.returns
returns c =
    let entries = shifted_entries c.args.column.now in
    let numbers = numbers_of entries in
    let bits : c.not_null-rows.result.now.bits ≡ map is_some entries = c.not_null-rows.ensures in
    let values : values_at c.not_null-rows.result.now.bits entries ≡ numbers = ap (λ bs. values_at bs entries) bits ∙ all_numbers entries in
    let count : c.count.result ≡ length numbers = c.count.ensures ∙ ap (count_by (λ b. b)) bits ∙ count_of_numbers entries in
    let least = least_is numbers c.in_ok-least.least (subst (λ xs. IsSignedLeastOf xs c.in_ok-least.least) values c.in_ok-least.ensures.least) in
    let greatest = greatest_is numbers c.in_ok-greatest.greatest (subst (λ xs. IsSignedGreatestOf xs c.in_ok-greatest.greatest) values c.in_ok-greatest.ensures.greatest) in
    let first : c.cast_unsigned.result ≡ cast_unsigned w64 (least_of numbers) = c.cast_unsigned.ensures ∙ ap (cast_unsigned w64) (to_z-of_z w64 c.unwrap_or.result (search rules) ∙ c.unwrap_or.ensures ∙ least) in
    let last : c.cast_unsigned-2.result ≡ cast_unsigned w64 (greatest_of numbers) = c.cast_unsigned-2.ensures ∙ ap (cast_unsigned w64) (to_z-of_z w64 c.unwrap_or-2.result (search rules) ∙ c.unwrap_or-2.ensures ∙ greatest) in
    (λ i. count i ∷ first i ∷ last i ∷ [])
