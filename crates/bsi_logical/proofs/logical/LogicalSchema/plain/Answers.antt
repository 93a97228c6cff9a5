use Rattle.std.proofs.Common.{◌≡◌, ℕ, List, Vec, Global, map, ap, ap₂, sym, subst, ◌∙◌, rules}
use Rattle.std.proofs.lemmas.Simd.{map-map}
use Rattle.bsi_schema.specs.Limits.{limits_of}
use Rattle.bsi_schema.specs.declared.limits.Limits.{Limits}
use Rattle.bsi_kinds.specs.declared.kind.Kind.{Kind}
use Rattle.bsi_kinds.specs.declared.kind.Kind.TheVariants.{Decimal}
use Rattle.bsi_logical.specs.Logical.{names_of, plain_logical, IsLogical}
use Rattle.bsi_logical.specs.declared.dialect.Dialect.{Dialect}
use Rattle.bsi_logical.proofs.Plain.{plain_is}
use Rattle.bsi_logical.proofs.logical.LogicalSchema.plain.Goals as goal

pub returns : goal.returns
returns c =
    let seen : Vec ℕ Global → List ℕ = λ t. t.items in
    let titles : map seen c.in_ok-titles.titles.items ≡ names_of c.args.schema = search rules in
    let listed : c.in_ok-kinds.kinds.items ≡ map (λ (limits : Limits). Decimal 0) c.limits.result.now = search rules in
    let kinds : c.in_ok-kinds.kinds.items ≡ map (λ column. Decimal 0) c.args.schema.columns =
    listed ∙ ap (map (λ (limits : Limits). Decimal 0)) c.limits.ensures.limits ∙ map-map (λ (limits : Limits). Decimal 0) limits_of c.args.schema.columns in
    let l = plain_logical c.args.schema c.args.limit in
    ap₂ (λ (ts : List (List ℕ)) (ks : List Kind). record l { titles = ts; kinds = ks; dialect = c.usual.result; nulls = map seen c.new.result.items }) titles kinds
    ∙ ap₂ (λ (d : Dialect) (ws : List (Vec ℕ Global)). record l { dialect = d; nulls = map seen ws }) c.usual.ensures c.new.ensures.items

pub invariant_of-result : goal.invariant_of-result
invariant_of-result c = subst IsLogical (sym (returns c)) (plain_is c.args.schema c.limits.ensures.declared c.args.limit)
