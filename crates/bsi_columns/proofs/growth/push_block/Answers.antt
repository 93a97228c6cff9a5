use Rattle.std.proofs.Common.{◌≡◌, ◌<◌, ◌≤◌, ◌+◌, ◌++◌, ℕ, length, get_or, ap, ◌∙◌, sym, subst}
use Rattle.std.proofs.lemmas.List.{length-map, take_at}
use Rattle.bsi_columns.proofs.growth.push_block.Goals as goal

pub push_block_reserved-requires-clause-few : goal.push_block_reserved-requires-clause-few
push_block_reserved-requires-clause-few g c =
    let numbers = c.args.numbers.now in
    let digits = c.write_digits.new.digits in
    let long : length digits ≡ length numbers = ap length c.write_digits.ensures.digits ∙ length-map numbers _ in
    rw take_at (subst (λ (n : ℕ). n ≤ 64) (sym long) c.requires.few)

pub push_block_reserved-requires-clause-room : goal.push_block_reserved-requires-clause-room
push_block_reserved-requires-clause-room g c =
    let numbers = c.args.numbers.now in
    let digits = c.write_digits.new.digits in
    let long : length digits ≡ length numbers = ap length c.write_digits.ensures.digits ∙ length-map numbers _ in
    rw take_at (subst (λ (n : ℕ). n ≤ g.E.Encoding.room_of c.args.component.now) (sym long) c.requires.room)

pub push_block_reserved-requires-clause-below : goal.push_block_reserved-requires-clause-below
push_block_reserved-requires-clause-below g c =
    let numbers = c.args.numbers.now in
    let digits = c.write_digits.new.digits in
    let long : length digits ≡ length numbers = ap length c.write_digits.ensures.digits ∙ length-map numbers _ in
    rw take_at (λ k below. subst (λ (b : ℕ). get_or digits k 0 < b) (sym c.requires.base) (c.write_digits.ensures.below k (subst (λ (n : ℕ). k < n) long below)))

-- all digits that were written are appended
pub returns-clause-digits : goal.returns-clause-digits
returns-clause-digits g c =
    let numbers = c.args.numbers.now in
    let digits = c.write_digits.new.digits in
    let long : length digits ≡ length numbers = ap length c.write_digits.ensures.digits ∙ length-map numbers _ in
    c.push_block_reserved.ensures.digits ∙ ap (λ ds. g.E.Encoding.digits c.args.component.now ++ ds) (take_at digits _ (length numbers) long ∙ c.write_digits.ensures.digits)

pub returns-clause-room : goal.returns-clause-room
returns-clause-room g c =
    let numbers = c.args.numbers.now in
    let digits = c.write_digits.new.digits in
    let long : length digits ≡ length numbers = ap length c.write_digits.ensures.digits ∙ length-map numbers _ in
    subst (λ (n : ℕ). g.E.Encoding.room_of c.args.component.now ≤ g.E.Encoding.room_of c.push_block_reserved.new.self + n) (ap length (take_at digits _ (length numbers) long) ∙ long) c.push_block_reserved.ensures.room
