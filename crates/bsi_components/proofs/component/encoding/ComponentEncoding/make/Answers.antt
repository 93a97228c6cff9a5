use Rattle.std.proofs.Common.{◌+◌, ◌-◌, length, ap, refl, sym, ◌∙◌}
use Rattle.bsi_kernels.proofs.PlaceBitmaps.{count_made}
use Rattle.bsi_components.proofs.MarkedDigits.{marked_none, marked_digits, itself_marked}
use Rattle.bsi_components.proofs.component.encoding.ComponentEncoding.make.Goals as goal

-- a bitmap for each digit from the first on, and those of the places
pub invariant_of-result : goal.invariant_of-result
invariant_of-result g c =
    let base = c.args.base in
    let own = base - g.M.Marking.first base in
    let rs = c.in_ok-bitmaps.bitmaps.vectors in
    let stored = c.stored_places.ensures in
    let many = c.in_ok-bitmaps.ensures.count ∙ ap (λ f. base - f + c.stored_places.result) c.first_stored.ensures in
    let count = count_made base own c.stored_places.result (length rs) many stored.few stored.enough stored.some in
    itself_marked g.met.M.Marking.sound (marked_none base rs c.requires.0 c.requires.1 count (many ∙ ap (λ places. own + places) stored.count) c.in_ok-bitmaps.ensures.empty)

pub returns : goal.returns
returns g c =
    let base = c.args.base in
    let own = base - g.M.Marking.first base in
    let rs = c.in_ok-bitmaps.bitmaps.vectors in
    let stored = c.stored_places.ensures in
    let many = c.in_ok-bitmaps.ensures.count ∙ ap (λ f. base - f + c.stored_places.result) c.first_stored.ensures in
    let count = count_made base own c.stored_places.result (length rs) many stored.few stored.enough stored.some in
    (sym (marked_digits g.met.M.Marking.sound (marked_none base rs c.requires.0 c.requires.1 count (many ∙ ap (λ places. own + places) stored.count) c.in_ok-bitmaps.ensures.empty)), refl)
