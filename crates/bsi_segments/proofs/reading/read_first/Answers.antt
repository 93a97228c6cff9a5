use Rattle.std.proofs.Common.{◌≡◌, take, [], ◌∷◌, ◌∙◌, subst, arith}
use Rattle.std.specs.Io.KnownBytes.{Consumes}
use Rattle.std.proofs.lemmas.List.{take_all}
use Rattle.bsi_segments.specs.Segments.{bytes_of}
use Rattle.bsi_segments.proofs.reading.read_first.Goals as goal

pub returns-clause-read : goal.returns-clause-read
returns-clause-read g c =
    let bytes = c.fill.new.bytes in
    let all : take c.in-Ok.consumed bytes ≡ bytes_of (c.word_of.result ∷ []) = take_all c.in-Ok.consumed bytes (omega (arith, c.in-Ok.ensures.long, c.if-consumed-lt8.false)) ∙ c.word_of.ensures in
    let consumed : Consumes (g.R.Read.remaining c.args.reader.now) (g.R.Read.remaining c.fill.new.reader) (bytes_of (c.word_of.result ∷ [])) = subst (Consumes _ _) all c.in-Ok.ensures.read in
    consumed
