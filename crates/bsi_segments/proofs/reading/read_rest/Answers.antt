use Rattle.std.proofs.Common.{◌≢◌, ap, sym, subst, ◌∙◌}
use Rattle.std.proofs.lemmas.Result.{err_from_is_err_and}
use Rattle.bsi_segments.specs.Segments.{checksum_of, AreWords, IsRestFault}
use Rattle.bsi_segments.proofs.ChunkBytes.{damaged, fails_in_sum, fails_in_words}
use Rattle.bsi_segments.proofs.reading.read_rest.Goals as goal

pub returns-in_err-read_words-clause-fault : goal.returns-in_err-read_words-clause-fault
returns-in_err-read_words-clause-fault g c =
    let p = err_from_is_err_and c.from_residual-in_err-read_words.result c.from_residual-in_err-read_words.ensures.1 in
    let meets : IsRestFault (g.R.Read.remaining c.args.reader.now) (g.R.Read.remaining c.read_words.new.reader) c.in_err-read_words.field-0.0 =
    fails_in_words _ _ _ c.in_ok-count.count c.in_err-read_words.field-0.0 c.in_ok-count.ensures.fits c.in_ok-count.ensures.read c.in_err-read_words.ensures.fault in
    rw (p.1, p.2) meets

pub returns-in_err-sum-clause-fault : goal.returns-in_err-sum-clause-fault
returns-in_err-sum-clause-fault g c =
    let p = err_from_is_err_and c.from_residual-in_err-sum.result c.from_residual-in_err-sum.ensures.1 in
    let meets : IsRestFault (g.R.Read.remaining c.args.reader.now) (g.R.Read.remaining c.read_word-2.new.reader) c.in_err-sum.field-0.0 =
    fails_in_sum _ _ _ _ c.in_ok-count.count _ _ c.in_err-sum.field-0.0 c.in_ok-count.ensures.fits c.in_ok-count.ensures.read c.in_ok-read_words.ensures.read c.in_err-sum.ensures.fault in
    rw (p.1, p.2) meets

pub returns-then-sum-checksum-clause-fault : goal.returns-then-sum-checksum-clause-fault
returns-then-sum-checksum-clause-fault g c =
    let new = c.read_words.new.words.items in
    let are : AreWords new = subst AreWords c.deref.ensures.value c.know_words.ensures in
    let other : c.in_ok-sum.sum ≢ checksum_of new = λ same. c.if-sum-checksum.true (same ∙ sym (c.checksum.ensures ∙ ap checksum_of c.deref-2.ensures.value)) in
    damaged _ _ _ _ c.in_ok-count.count c.in_ok-sum.sum _ new are c.in_ok-sum.ensures.fits other c.new-words.ensures.items c.in_ok-count.ensures.read c.in_ok-read_words.ensures.read c.in_ok-sum.ensures.read
