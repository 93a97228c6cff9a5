use Rattle.std.proofs.Common.{◌≡◌, ℕ, ◌+◌, ◌-◌, ◌*◌, ◌≤◌, ◌∷◌, [], ◌++◌, take, arith, ap, ap₂, sym, ◌∙◌, append_assoc}
use Rattle.bsi_segments.specs.Lanes.{lanes_of}
use Rattle.bsi_storage.proofs.ColumnHeads.{all_checksums, checksums, next_bitmap}
use Rattle.bsi_storage.proofs.heads.encode_checksums.Goals as goal

fewer : (count k long : ℕ) → k + 1 ≤ count → (count - k) * long ≡ (count - (k + 1)) * long + long
fewer count k long within = (let e : count - k ≡ count - (k + 1) + 1 = omega (arith, within) in ap (λ m. m * long) e ∙ omega arith)

pub split_at-requires : goal.split_at-requires
split_at-requires c = omega (arith, c.bitmaps.invariant.long, fewer c.args.count c.bitmaps.counter c.args.long (omega (arith, c.bitmaps-test.true)))

pub bitmaps-preserved : goal.bitmaps-preserved
bitmaps-preserved c =
    let k = c.bitmaps.counter in
    let old = c.args.words.now.items in
    record {
      long = omega (arith, c.bitmaps.invariant.long, c.split_at.ensures.back_len, fewer c.args.count k c.args.long (omega (arith, c.bitmaps-test.true)));
      sums = λ n bits all long is.
          (let before = c.bitmaps.invariant.sums n bits all long is in
          let next = next_bitmap c.args.count n c.args.long bits k c.bitmaps.rest.now all long c.bitmaps-test.true before.0 in (
            c.split_at.ensures.back ∙ next.left,
            c.in_ok-push.ensures.items
                ∙ ap₂ (λ ws w. ws ++ w ∷ []) before.1 (c.lanes_checksum.ensures ∙ ap lanes_of c.split_at.ensures.front)
                ∙ append_assoc old (checksums (take k bits)) (lanes_of (take c.args.long c.bitmaps.rest.now) ∷ [])
                ∙ ap (λ ws. old ++ ws) (sym next.sums),
          ));
    }

pub returns : goal.returns
returns c = λ n bits all long is.
    ((c.bitmaps.invariant.sums n bits all long is).1
    ∙ ap (λ ws. c.args.words.now.items ++ ws) (all_checksums c.args.count n bits c.bitmaps.counter all (omega (arith, c.bitmaps-test.false))))
