use Rattle.std.proofs.Common.{◌≡◌, rules, ◌&&◌, nat_eq}
use Rattle.std.specs.Bool.{Decides}
use Rattle.std.specs.Ordering.{int_eq}
use Rattle.std.proofs.lemmas.Slice.Eq.{slice_eq-Decides}
use Rattle.std.proofs.lemmas.Bool.Decides.{Decides-int_eq, Decides-eqb}
use Rattle.bsi_schema.specs.declared.limits.Limits.{Limits}
use Rattle.bsi_schema.proofs.limits.have_same_limits.Goals as goal

-- limits are equal where both of their numbers are
same_limits : (a b : Limits) → Decides (int_eq a.least b.least && nat_eq a.size b.size) (a ≡ b)
same_limits a b = search (rules, Decides-int_eq, Decides-eqb)

pub returns : goal.returns
returns c = slice_eq-Decides same_limits _ _ _ c.eq.ensures
