use Rattle.std.proofs.Common.{◌≡◌, None, IfSome, length}
use Rattle.bsi_store.specs.Surveyed.{AreSurveyed}
use Rattle.bsi_store.proofs.surveying.join_surveys.Given as goal

-- the surveys so far are joined
abbrev pub invariant-files : goal.invariant-files
invariant-files g l = record {
  k : l.k ≡ length l.yielded;
  first : l.joined ≡ None → length l.yielded ≡ 0;
  joined : IfSome l.joined (AreSurveyed g.S.Read.remaining l.fn.options (length l.yielded));
}
