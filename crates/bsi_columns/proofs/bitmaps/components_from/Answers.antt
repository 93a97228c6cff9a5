use Rattle.std.proofs.Common.{◌≡◌, ℕ, ◌+◌, ◌<◌, ◌++◌, ◌∷◌, [], length, map, get_or, take, drop, ap, sym, subst, ◌∙◌, arith, length-append}
use Rattle.std.proofs.lemmas.List.{map-append}
use Rattle.bsi_components.specs.PlaceNumbers.{place_count, HasNumberPastBase, numbers_in}
use Rattle.bsi_digits.specs.Digits.{IsBase}
use Rattle.bsi_columns.proofs.FromBitmaps.{enough_left, no_others, own_level, own_long, read_all, read_more, IsReadUpTo}
use Rattle.bsi_columns.proofs.bitmaps.components_from.Goals as goal

pub split_off_first-requires : goal.split_off_first-requires
split_off_first-requires g c =
    let count = c.place_count.ensures.count ∙ ap place_count c.base-base.ensures.base in
    let enough = enough_left c.args.bases.now c.args.places.items c.components.i _ _ c.components.places.items c.components.invariant.read c.requires.count (omega arith) in
    omega (arith, enough, count)

pub from_places-requires-clause-count : goal.from_places-requires-clause-count
from_places-requires-clause-count g c =
    let is_base = subst IsBase c.base-base.ensures.base c.base-base.ensures.within in
    let count = c.place_count.ensures.count ∙ ap place_count c.base-base.ensures.base in
    let own_is = c.in_ok-own.ensures.first ∙ ap (λ n. take n c.components.places.items) count in
    own_long c.args.bases.now c.args.places.items c.components.i _ _ c.components.places.items c.components.invariant.read c.requires.count (omega arith)
    c.in_ok-own.own.items own_is is_base ∙ ap place_count (sym c.base-base.ensures.base)

pub from_places-requires-clause-level : goal.from_places-requires-clause-level
from_places-requires-clause-level g c =
    let is_base = subst IsBase c.base-base.ensures.base c.base-base.ensures.within in
    let count = c.place_count.ensures.count ∙ ap place_count c.base-base.ensures.base in
    let own_is = c.in_ok-own.ensures.first ∙ ap (λ n. take n c.components.places.items) count in
    own_level c.args.bases.now c.args.places.items c.components.i _ _ c.components.places.items c.components.invariant.read c.requires.count (omega arith)
    c.in_ok-own.own.items own_is is_base

pub returns-in_default-clause-none : goal.returns-in_default-clause-none
returns-in_default-clause-none g c =
    let is_base = subst IsBase c.base-base.ensures.base c.base-base.ensures.within in
    let count = c.place_count.ensures.count ∙ ap place_count c.base-base.ensures.base in
    let own_is = c.in_ok-own.ensures.first ∙ ap (λ n. take n c.components.places.items) count in
    let none = rw c.in_default.is at c.in_ok-component.ensures.none in
    let past = subst (λ b. HasNumberPastBase b (numbers_in c.in_ok-own.own.items)) c.base-base.ensures.base none in
    no_others c.args.bases.now c.args.places.items c.components.i _ _ c.components.places.items c.components.invariant.read c.requires.count (omega arith)
    c.in_ok-own.own.items own_is is_base past

pub components-preserved : goal.components-preserved
components-preserved g c =
    let cs = c.components.components.items in
    let component = c.in-Some.component in
    let is_base = subst IsBase c.base-base.ensures.base c.base-base.ensures.within in
    let count = c.place_count.ensures.count ∙ ap place_count c.base-base.ensures.base in
    let own_is = c.in_ok-own.ensures.first ∙ ap (λ n. take n c.components.places.items) count in
    let rest_is = c.in_ok-own.ensures.remaining ∙ ap (λ n. drop n c.components.places.items) count in
    let made = rw c.in-Some.is at c.in_ok-component.ensures.made in
    let below = rw c.in-Some.is at c.in_ok-component.ensures.below in
    let small = subst (λ (b : ℕ). (r : ℕ) → get_or (numbers_in c.in_ok-own.own.items) r 0 < b) c.base-base.ensures.base below in
    let more = read_more c.args.bases.now c.args.places.items c.components.i _ _ c.components.places.items c.components.invariant.read c.requires.count (omega arith)
    c.in_ok-own.own.items own_is is_base c.split_off_first.new.bitmaps.items rest_is (g.E.Encoding.digits component) made.1 small (g.E.Encoding.base_of component) (made.0 ∙ c.base-base.ensures.base) in
    record {
      room = c.push_reserved.ensures.capacity ∙ c.components.invariant.room;
      long = ap length c.push_reserved.ensures.items ∙ length-append cs (component ∷ []) ∙ ap (λ n. n + 1) c.components.invariant.long;
      read =
          subst (λ bases. IsReadUpTo c.args.bases.now c.args.places.items (c.components.i + 1) bases (map g.E.Encoding.digits c.push_reserved.new.self.items) c.split_off_first.new.bitmaps.items)
          (sym (ap (map g.E.Encoding.base_of) c.push_reserved.ensures.items ∙ map-append g.E.Encoding.base_of cs (component ∷ [])))
          (subst (λ ds. IsReadUpTo c.args.bases.now c.args.places.items (c.components.i + 1) (map g.E.Encoding.base_of cs ++ g.E.Encoding.base_of component ∷ []) ds c.split_off_first.new.bitmaps.items)
          (sym (ap (map g.E.Encoding.digits) c.push_reserved.ensures.items ∙ map-append g.E.Encoding.digits cs (component ∷ []))) more);
    }

pub returns-clause-bitmaps : goal.returns-clause-bitmaps
returns-clause-bitmaps g c =
    let all : c.components.i ≡ length c.args.bases.now = omega arith in
    (read_all c.args.bases.now c.args.places.items c.components.i _ _ c.components.places.items c.components.invariant.read c.requires.count all).2

pub returns-clause-bases : goal.returns-clause-bases
returns-clause-bases g c =
    let all : c.components.i ≡ length c.args.bases.now = omega arith in
    (read_all c.args.bases.now c.args.places.items c.components.i _ _ c.components.places.items c.components.invariant.read c.requires.count all).0
