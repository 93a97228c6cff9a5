use Rattle.std.proofs.Common.{◌≡◌, Some, subst, sym}
use Rattle.bsi_store.specs.Kinds.{SaysSchema}
use Rattle.bsi_store.proofs.heads.open_heads.Goals as goal
use Rattle.bsi_syntax.specs.Bytes.{Bytes}

-- the schema that was said of the heads is that of the table
pub returns-clause-says : goal.returns-clause-says
returns-clause-says g c = λ t notes kinds keeps.
    (let known = g.S.Read.remaining c.args.file.now in
    let some : c.in-Ok-Some.field-0 ≡ Some c.in-Ok-Some.heads = c.in-Ok-Some.field-0-is in
    let are = (rw some at c.in-Ok-Some.ensures.heads) t notes kinds keeps in
    subst (λ (k : Bytes). SaysSchema k t c.in_ok-schema.schema) (c.kinds.ensures known t notes kinds are)
    (c.in_ok-schema.ensures t (sym (c.schema.ensures known t notes kinds are))))
