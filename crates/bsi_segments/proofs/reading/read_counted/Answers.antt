use Rattle.std.proofs.Common.{ℕ, [], ◌∷◌, subst}
use Rattle.std.specs.Io.KnownBytes.{Consumes}
use Rattle.std.proofs.lemmas.Result.{err_from_is_err_and}
use Rattle.bsi_segments.specs.Segments.{bytes_of, magic, MeetsFault}
use Rattle.bsi_segments.proofs.ChunkBytes.{faults_behind}
use Rattle.bsi_segments.proofs.reading.read_counted.Goals as goal

pub returns-in_err-words-clause-fault : goal.returns-in_err-words-clause-fault
returns-in_err-words-clause-fault g c =
    let p = err_from_is_err_and c.from_residual-in_err-words.result c.from_residual-in_err-words.ensures.1 in
    let a = g.R.Read.remaining c.args.reader.now in
    let b = g.R.Read.remaining c.read_first.new.reader in
    let version = c.in-Some-version_of.version in
    let first : Consumes a b (bytes_of (c.in-Some.first ∷ [])) = rw c.in-Some.is at c.in_ok-first.ensures.read in
    let ours : Consumes a b (bytes_of (magic version ∷ [])) = subst (λ (w : ℕ). Consumes a b (bytes_of (w ∷ []))) c.in-Some-version_of.ensures.some first in
    let meets : MeetsFault a (g.R.Read.remaining c.read_rest.new.reader) c.in_err-words.field-0.0 =
    faults_behind version a b _ c.in_err-words.field-0.0 ours c.in_err-words.ensures.fault in
    rw (p.1, p.2) meets
