use Rattle.std.proofs.Common.{◌≡◌, ap, subst, ◌∙◌, arith}
use Rattle.bsi_bits.specs.BitList.{word_count}
use Rattle.bsi_segments.specs.Lanes.{lanes_of}
use Rattle.bsi_pread.specs.Offsets.{StandAt}
use Rattle.bsi_segments.specs.Segments.{AreWords}
use Rattle.bsi_pread.proofs.Placing.{many_read, stand_read}
use Rattle.bsi_pread.proofs.bitmaps.read_bitmap.Goals as goal

pub returns-then-lanes_checksum-sum-clause-fault : goal.returns-then-lanes_checksum-sum-clause-fault
returns-then-lanes_checksum-sum-clause-fault g c =
    let words = c.read_words.new.words.items in
    let known = g.R.ReadAt.all_bytes c.args.reader.now in
    let seen = g.R.ReadAt.all_bytes c.new-input.result.reader.now in
    let same : seen ≡ known = ap (λ b. g.R.ReadAt.all_bytes b.now) c.new-input.ensures.reader in
    let long : c.div_ceil-count.result ≡ word_count c.args.rows = omega (arith, c.div_ceil-count.ensures) in
    record {
      words = words;
      fit = subst AreWords c.deref.ensures.value c.know_words.ensures;
      many = many_read known seen _ c.args.at c.new-input.result.at c.div_ceil-count.result c.in_ok-words.words.items words same c.new-input.ensures.at c.in_ok-read_words.ensures.read c.in_ok-words.ensures.items ∙ long;
      there = stand_read known seen _ c.args.at c.new-input.result.at c.div_ceil-count.result c.in_ok-words.words.items words same c.new-input.ensures.at c.in_ok-read_words.ensures.read c.in_ok-words.ensures.items;
      none = λ bits long is sum_is. c.if-lanes_checksum-sum.true (c.lanes_checksum.ensures ∙ ap lanes_of c.deref-2.ensures.value ∙ sum_is);
    }

pub returns-in-Some-clause-words : goal.returns-in-Some-clause-words
returns-in-Some-clause-words g c =
    let words = c.read_words.new.words.items in
    let known = g.R.ReadAt.all_bytes c.args.reader.now in
    let seen = g.R.ReadAt.all_bytes c.new-input.result.reader.now in
    let same : seen ≡ known = ap (λ b. g.R.ReadAt.all_bytes b.now) c.new-input.ensures.reader in
    subst (StandAt known c.args.at) c.in-Some.ensures.made.1
    (stand_read known seen _ c.args.at c.new-input.result.at c.div_ceil-count.result c.in_ok-words.words.items words same c.new-input.ensures.at c.in_ok-read_words.ensures.read c.in_ok-words.ensures.items)

pub returns-in-None-clause-fault : goal.returns-in-None-clause-fault
returns-in-None-clause-fault g c =
    let words = c.read_words.new.words.items in
    let known = g.R.ReadAt.all_bytes c.args.reader.now in
    let seen = g.R.ReadAt.all_bytes c.new-input.result.reader.now in
    let same : seen ≡ known = ap (λ b. g.R.ReadAt.all_bytes b.now) c.new-input.ensures.reader in
    let long : c.div_ceil-count.result ≡ word_count c.args.rows = omega (arith, c.div_ceil-count.ensures) in
    record {
      words = words;
      fit = subst AreWords c.deref.ensures.value c.know_words.ensures;
      many = many_read known seen _ c.args.at c.new-input.result.at c.div_ceil-count.result c.in_ok-words.words.items words same c.new-input.ensures.at c.in_ok-read_words.ensures.read c.in_ok-words.ensures.items ∙ long;
      there = stand_read known seen _ c.args.at c.new-input.result.at c.div_ceil-count.result c.in_ok-words.words.items words same c.new-input.ensures.at c.in_ok-read_words.ensures.read c.in_ok-words.ensures.items;
      none = λ bits long is sum_is. c.in-None.ensures.none bits long is;
    }
