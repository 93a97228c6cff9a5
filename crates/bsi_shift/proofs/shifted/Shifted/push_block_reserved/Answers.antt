use Rattle.std.proofs.Common.{◌≡◌, ℤ, All, ◌++◌, ap, subst, sym, ◌∙◌, rules, arith}
use mir.Syntax.{w64}
use mir.Val.{of_z, to_z}
use Rattle.std.proofs.lemmas.Int.{to_z-of_z}
use Rattle.bsi_digits.specs.Digits.{max_size}
use Rattle.bsi_digits.specs.Blocks.{offset_entries}
use Rattle.bsi_digits.specs.Offsets.{IsInRange}
use Rattle.bsi_columns.specs.AnyColumns.{any_size}
use Rattle.bsi_shift.specs.Shifted.{shifted_entries}
use Rattle.bsi_shift.proofs.Shifting.{block_below, entries_more, shifted_more, wider_range}
use Rattle.bsi_shift.proofs.shifted.Shifted.push_block_reserved.Goals as goal

-- numbers of the column's own offset
pub push_block_reserved-requires-clause-below : goal.push_block_reserved-requires-clause-below
push_block_reserved-requires-clause-below c =
    let inside = c.self.inside in
    let numbers = c.args.numbers.now in
    let not_null = c.args.not_null in
    let range : All (IsInRange inside.offset (any_size inside.stored)) (offset_entries c.args.offset numbers not_null) =
    subst (λ v. All (IsInRange v.offset (any_size v.stored)) (offset_entries c.args.offset numbers not_null)) (sym c.self.view_is) c.requires.range in
    let same : c.args.offset ≡ inside.offset = sym (to_z-of_z w64 c.args.offset c.ranges.offset) ∙ ap (to_z w64) c.if-offset-self.true ∙ to_z-of_z w64 inside.offset (search rules) in
    let own_range : All (IsInRange inside.offset (any_size inside.stored)) (offset_entries inside.offset numbers not_null) =
    subst (λ (o : ℤ). All (IsInRange inside.offset (any_size inside.stored)) (offset_entries o numbers not_null)) same range in
    block_below inside.stored inside.offset inside.size numbers not_null c.self.invariant c.requires.block own_range

pub invariant_of-self : goal.invariant_of-self
invariant_of-self c =
    let inside = c.self.inside in
    let numbers = c.args.numbers.now in
    let not_null = c.args.not_null in
    let range : All (IsInRange inside.offset (any_size inside.stored)) (offset_entries c.args.offset numbers not_null) =
    subst (λ v. All (IsInRange v.offset (any_size v.stored)) (offset_entries c.args.offset numbers not_null)) (sym c.self.view_is) c.requires.range in
    let same : c.args.offset ≡ inside.offset = sym (to_z-of_z w64 c.args.offset c.ranges.offset) ∙ ap (to_z w64) c.if-offset-self.true ∙ to_z-of_z w64 inside.offset (search rules) in
    let own_range : All (IsInRange inside.offset (any_size inside.stored)) (offset_entries inside.offset numbers not_null) =
    subst (λ (o : ℤ). All (IsInRange inside.offset (any_size inside.stored)) (offset_entries o numbers not_null)) same range in
    shifted_more inside.stored inside.offset inside.size numbers not_null c.self.invariant c.requires.block own_range c.push_block_reserved.new.self c.push_block_reserved.ensures.entries c.push_block_reserved.ensures.form

pub returns-then-offset-self-clause-entries : goal.returns-then-offset-self-clause-entries
returns-then-offset-self-clause-entries c =
    let inside = c.self.inside in
    let numbers = c.args.numbers.now in
    let not_null = c.args.not_null in
    let range : All (IsInRange inside.offset (any_size inside.stored)) (offset_entries c.args.offset numbers not_null) =
    subst (λ v. All (IsInRange v.offset (any_size v.stored)) (offset_entries c.args.offset numbers not_null)) (sym c.self.view_is) c.requires.range in
    let same : c.args.offset ≡ inside.offset = sym (to_z-of_z w64 c.args.offset c.ranges.offset) ∙ ap (to_z w64) c.if-offset-self.true ∙ to_z-of_z w64 inside.offset (search rules) in
    let own_range : All (IsInRange inside.offset (any_size inside.stored)) (offset_entries inside.offset numbers not_null) =
    subst (λ (o : ℤ). All (IsInRange inside.offset (any_size inside.stored)) (offset_entries o numbers not_null)) same range in
    entries_more inside.stored inside.offset inside.size numbers not_null c.self.invariant c.requires.block own_range c.push_block_reserved.new.self c.push_block_reserved.ensures.entries c.args.self.now c.self.view_is
    ∙ ap (λ o. shifted_entries c.args.self.now ++ offset_entries o numbers not_null) (sym same)

pub move_block-requires-clause-range : goal.move_block-requires-clause-range
move_block-requires-clause-range c =
    let inside = c.self.inside in
    let numbers = c.args.numbers.now in
    let not_null = c.args.not_null in
    let range : All (IsInRange inside.offset (any_size inside.stored)) (offset_entries c.args.offset numbers not_null) =
    subst (λ v. All (IsInRange v.offset (any_size v.stored)) (offset_entries c.args.offset numbers not_null)) (sym c.self.view_is) c.requires.range in
    let wider = wider_range inside.offset (any_size inside.stored) max_size (offset_entries c.args.offset numbers not_null) (omega (arith, c.self.invariant.size_is, c.self.invariant.small)) range in
    subst (λ (o : ℤ). All (IsInRange o max_size) (offset_entries (to_z w64 (of_z w64 c.args.offset)) numbers not_null)) (sym (to_z-of_z w64 inside.offset (search rules)))
    (subst (λ (o : ℤ). All (IsInRange inside.offset max_size) (offset_entries o numbers not_null)) (sym (to_z-of_z w64 c.args.offset c.ranges.offset)) wider)

-- numbers that are moved to the column's offset
pub push_block_reserved-requires-2-clause-below : goal.push_block_reserved-requires-2-clause-below
push_block_reserved-requires-2-clause-below c =
    let inside = c.self.inside in
    let numbers = c.args.numbers.now in
    let not_null = c.args.not_null in
    let range : All (IsInRange inside.offset (any_size inside.stored)) (offset_entries c.args.offset numbers not_null) =
    subst (λ v. All (IsInRange v.offset (any_size v.stored)) (offset_entries c.args.offset numbers not_null)) (sym c.self.view_is) c.requires.range in
    let stored = c.move_block.new.stored in
    let moved : offset_entries inside.offset stored not_null ≡ offset_entries c.args.offset numbers not_null =
    ap (λ o. offset_entries o stored not_null) (sym (to_z-of_z w64 inside.offset (search rules))) ∙ c.move_block.ensures.entries
    ∙ ap (λ o. offset_entries o numbers not_null) (to_z-of_z w64 c.args.offset c.ranges.offset) in
    let own_range : All (IsInRange inside.offset (any_size inside.stored)) (offset_entries inside.offset stored not_null) =
    subst (All (IsInRange inside.offset (any_size inside.stored))) (sym moved) range in
    block_below inside.stored inside.offset inside.size stored not_null c.self.invariant c.move_block.ensures.block own_range

pub invariant_of-self-2 : goal.invariant_of-self-2
invariant_of-self-2 c =
    let inside = c.self.inside in
    let numbers = c.args.numbers.now in
    let not_null = c.args.not_null in
    let range : All (IsInRange inside.offset (any_size inside.stored)) (offset_entries c.args.offset numbers not_null) =
    subst (λ v. All (IsInRange v.offset (any_size v.stored)) (offset_entries c.args.offset numbers not_null)) (sym c.self.view_is) c.requires.range in
    let stored = c.move_block.new.stored in
    let moved : offset_entries inside.offset stored not_null ≡ offset_entries c.args.offset numbers not_null =
    ap (λ o. offset_entries o stored not_null) (sym (to_z-of_z w64 inside.offset (search rules))) ∙ c.move_block.ensures.entries
    ∙ ap (λ o. offset_entries o numbers not_null) (to_z-of_z w64 c.args.offset c.ranges.offset) in
    let own_range : All (IsInRange inside.offset (any_size inside.stored)) (offset_entries inside.offset stored not_null) =
    subst (All (IsInRange inside.offset (any_size inside.stored))) (sym moved) range in
    shifted_more inside.stored inside.offset inside.size stored not_null c.self.invariant c.move_block.ensures.block own_range c.push_block_reserved-2.new.self c.push_block_reserved-2.ensures.entries c.push_block_reserved-2.ensures.form

pub returns-clause-entries : goal.returns-clause-entries
returns-clause-entries c =
    let inside = c.self.inside in
    let numbers = c.args.numbers.now in
    let not_null = c.args.not_null in
    let range : All (IsInRange inside.offset (any_size inside.stored)) (offset_entries c.args.offset numbers not_null) =
    subst (λ v. All (IsInRange v.offset (any_size v.stored)) (offset_entries c.args.offset numbers not_null)) (sym c.self.view_is) c.requires.range in
    let stored = c.move_block.new.stored in
    let moved : offset_entries inside.offset stored not_null ≡ offset_entries c.args.offset numbers not_null =
    ap (λ o. offset_entries o stored not_null) (sym (to_z-of_z w64 inside.offset (search rules))) ∙ c.move_block.ensures.entries
    ∙ ap (λ o. offset_entries o numbers not_null) (to_z-of_z w64 c.args.offset c.ranges.offset) in
    let own_range : All (IsInRange inside.offset (any_size inside.stored)) (offset_entries inside.offset stored not_null) =
    subst (All (IsInRange inside.offset (any_size inside.stored))) (sym moved) range in
    entries_more inside.stored inside.offset inside.size stored not_null c.self.invariant c.move_block.ensures.block own_range c.push_block_reserved-2.new.self c.push_block_reserved-2.ensures.entries c.args.self.now c.self.view_is
    ∙ ap (λ es. shifted_entries c.args.self.now ++ es) moved
