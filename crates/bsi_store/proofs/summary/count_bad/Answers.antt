use Rattle.std.proofs.Common.{None, false, ◌≡◌, ◌+◌, ◌<◌, ◌-◌, ◌^◌, ◌++◌, ◌∷◌, [], ℕ, List, map, min, take, get_or, length, suc, arith, ap, refl, sym, ◌∙◌}
use Rattle.std.proofs.Math.Seq.{take-suc}
use Rattle.std.proofs.lemmas.List.{map-append, take_all}
use Rattle.std.proofs.lemmas.List.Sums.{sum_by_push}
use Rattle.std.specs.List.{sum_by}
use Rattle.bsi_answers.specs.RowFiles.{fed_counts, FedCounts}
use Rattle.bsi_answers.specs.declared.fed.Fed.{Fed}
use Rattle.bsi_store.specs.Saving.{bad_total}
use Rattle.bsi_store.proofs.summary.count_bad.Goals as goal

-- a sum that stays at the most is that of the sums
stays : (sum more most : ℕ) → min (min sum most + more) most ≡ min (sum + more) most
stays sum more most = omega arith

-- one file more
total_push : (fed : List Fed) (k : ℕ) (d : Fed) → k < length fed
    → bad_total (map fed_counts (take (k + 1) fed)) ≡ min (bad_total (map fed_counts (take k fed)) + (get_or fed k d).bad) (2 ^ 64 - 1)
total_push fed k d within =
    let f : FedCounts → ℕ = λ file. file.bad in
    let before = map fed_counts (take k fed) in
    let one = fed_counts (get_or fed k d) in
    let next : k + 1 ≡ suc k = omega arith in
    let split : map fed_counts (take (k + 1) fed) ≡ before ++ one ∷ [] =
    ap (λ n. map fed_counts (take n fed)) next ∙ (ap (map fed_counts) (take-suc fed k d within) ∙ map-append fed_counts (take k fed) (get_or fed k d ∷ [])) in
    ap bad_total split ∙ (ap (λ n. min n (2 ^ 64 - 1)) (sum_by_push f before one) ∙ sym (stays (sum_by f before) one.bad (2 ^ 64 - 1)))

abbrev no_fed : Fed
no_fed = record { accepted = 0; bad = 0; stopped = false; fault = None; closed = false }

pub files-init : goal.files-init
files-init c = refl

pub files-preserved : goal.files-preserved
files-preserved c =
    c.saturating_add-bad.ensures ∙ (ap (λ (n : ℕ). min (n + (get_or c.args.fed.now c.files.counts-index no_fed).bad) (2 ^ 64 - 1)) c.files.invariant
    ∙ sym (total_push c.args.fed.now c.files.counts-index no_fed c.files-test.true))

pub returns : goal.returns
returns c = c.files.invariant ∙ ap (λ (fs : List Fed). bad_total (map fed_counts fs)) (take_all c.files.counts-index c.args.fed.now c.files-test.false)
