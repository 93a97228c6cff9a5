use Rattle.std.proofs.Common.{◌≡◌, ◌+◌, drop}
use Rattle.std.specs.List.{position_or_len}
use Rattle.std.specs.Str.{bytes_eq}
use Rattle.bsi_check.proofs.diagnostics.kinds.count_other_titles.Given as goal

-- no title so far is this one
abbrev pub invariant-columns : goal.invariant-columns
invariant-columns l =
    position_or_len (λ title. bytes_eq title l.fn.name) l.fn.logical.titles
    ≡ l.c + position_or_len (λ title. bytes_eq title l.fn.name) (drop l.c l.fn.logical.titles)
