use Rattle.std.proofs.Common.{◌≡◌, Some, None, true, false, codes, drop, IfOk, subst, sym, ◌∙◌, ap, rules}
use Rattle.std.specs.Str.{bytes_eq}
use Rattle.std.proofs.lemmas.Result.{IfOk-weaker}
use Rattle.csv.specs.Records.{field_at, fields_of}
use Rattle.bsi_syntax.specs.declared.setups.DeclaredTable.{DeclaredTable}
use Rattle.bsi_syntax.specs.Setups.{capacities_after, declared_after, declared_table, table_after, IsChange, IsSetup, Setup}
use Rattle.bsi_syntax.proofs.Adding.{not_done}
use Rattle.bsi_syntax.proofs.Tables.{changed_by, feeder_keeps, limit_keeps, setup_empty, setup_feeder, setup_table, unchanged}
use Rattle.bsi_syntax.proofs.setups.Setup.declare.Goals as goal

-- the record has no field
pub returns-in_default-clause-done : goal.returns-in_default-clause-done
returns-in_default-clause-done c =
    let fields = fields_of c.args.fields.now in
    let none : field_at fields 0 ≡ None = search (rules, c.get.ensures.value, c.in_default.is) in
    not_done (declared_after c.args.self.now fields) c.args.self.now (setup_empty c.args.self.now fields none)

-- a feeder
pub invariant_of-self : goal.invariant_of-self
invariant_of-self c =
    let capacities = c.self.inside.capacities.items in
    let limit = c.self.inside.table.limit in
    let behind = drop 1 (fields_of c.args.fields.now) in
    unchanged (λ items. IsSetup items limit) c.declare_feeder.result (capacities_after capacities behind) capacities c.declare_feeder.new.capacities.items
    c.declare_feeder.ensures.done c.declare_feeder.ensures.unchanged c.self.invariant (feeder_keeps capacities limit behind c.self.invariant)

pub returns-then-eq-clause-done : goal.returns-then-eq-clause-done
returns-then-eq-clause-done c =
    let before : Setup = record { table = c.self.inside.table; capacities = c.self.inside.capacities.items } in
    let after : Setup = record { table = c.self.inside.table; capacities = c.declare_feeder.new.capacities.items } in
    let fields = fields_of c.args.fields.now in
    let word = c.in-Some.word.now in
    let first : field_at fields 0 ≡ Some word = search (rules, c.get.ensures.value, c.in-Some.is) in
    let is : bytes_eq word (codes "feeder") ≡ true = ap (bytes_eq word) (sym c.as_slice.ensures) ∙ sym c.eq.ensures ∙ c.if-eq.true in
    subst (λ old. IfOk c.declare_feeder.result (λ done. IsChange (declared_after old fields) old after done)) c.self.view_is
    (IfOk-weaker c.declare_feeder.result _ _ (λ done change.
    subst (λ later. IsChange later before after done) (sym (setup_feeder before fields word first is))
    (changed_by (λ capacities. record before { capacities = capacities }) (capacities_after before.capacities (drop 1 fields)) before.capacities after.capacities done change))
    c.declare_feeder.ensures.done)

-- a record of the table
pub invariant_of-self-2 : goal.invariant_of-self-2
invariant_of-self-2 c =
    let capacities = c.self.inside.capacities.items in
    let table = c.self.inside.table in
    let fields = fields_of c.args.fields.now in
    unchanged {T = DeclaredTable} (λ after. IsSetup capacities after.limit) c.read_setup.result (table_after table fields) table (declared_table c.read_setup.new.schema c.read_setup.new.limit)
    c.read_setup.ensures.done (search (rules, c.read_setup.ensures.unchanged)) c.self.invariant (limit_keeps capacities table fields c.self.invariant)

pub returns-clause-done : goal.returns-clause-done
returns-clause-done c =
    let before : Setup = record { table = c.self.inside.table; capacities = c.self.inside.capacities.items } in
    let after : Setup = record { table = declared_table c.read_setup.new.schema c.read_setup.new.limit; capacities = c.self.inside.capacities.items } in
    let fields = fields_of c.args.fields.now in
    let word = c.in-Some.word.now in
    let first : field_at fields 0 ≡ Some word = search (rules, c.get.ensures.value, c.in-Some.is) in
    let other : bytes_eq word (codes "feeder") ≡ false = ap (bytes_eq word) (sym c.as_slice.ensures) ∙ sym c.eq.ensures ∙ c.if-eq.false in
    subst (λ old. IfOk c.read_setup.result (λ done. IsChange (declared_after old fields) old after done)) c.self.view_is
    (IfOk-weaker c.read_setup.result _ _ (λ done change.
    subst (λ later. IsChange later before after done) (sym (setup_table before fields word first other))
    (changed_by {A = DeclaredTable} (λ table. record before { table = table }) (table_after before.table fields) before.table after.table done change))
    c.read_setup.ensures.done)
