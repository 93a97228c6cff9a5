use Rattle.std.proofs.Common.{◌≡◌, ℕ, length, arith, subst}
use Rattle.bsi_store.specs.Surveyed.{AreSurveyed}
use Rattle.bsi_store.proofs.Seen.{surveyed_more}
use Rattle.bsi_store.proofs.surveying.survey_in_turn.Goals as goal

pub files-init : goal.files-init
files-init g c = c.in_ok-survey.ensures

pub files-preserved : goal.files-preserved
files-preserved g c =
    surveyed_more g.S.Read.remaining c.args.options.now c.files.k c.files.survey c.read_more.new.self c.in_ok-file.file c.files.invariant
    c.in-Ok-true.ensures.dialect c.in-Ok-true.ensures.preserved (c.in-Ok-true.ensures.sees c.in-Ok-true.field-0-test) c.in-Ok-true.ensures.looked

pub returns : goal.returns
returns g c =
    let last : c.files.k ≡ length c.args.paths.now = omega (arith, c.files-test.false, c.files.auto.k-end, c.requires) in
    subst (λ (n : ℕ). AreSurveyed g.S.Read.remaining c.args.options.now n c.files.survey) last c.files.invariant
