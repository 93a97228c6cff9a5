use Rattle.std.proofs.Common.{◌≡◌, ◌++◌, take}
use Rattle.bsi_fixtures.proofs.columns.append.Given as goal

abbrev pub invariant-loop-entry : goal.invariant-loop-entry
invariant-loop-entry g l = record {
  entries : g.C.Column.entries l.column ≡ g.C.Column.entries l.initial.column ++ take l.entry-index l.entries;
  form : g.C.Column.form_of l.column ≡ g.C.Column.form_of l.initial.column;
}
