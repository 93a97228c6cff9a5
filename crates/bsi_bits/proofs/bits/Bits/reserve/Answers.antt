use Rattle.std.proofs.Common.{◌≡◌, length, ap, sym, ◌∙◌, arith}
use Rattle.std.proofs.lemmas.Result.{on_ok_weaker}
use Rattle.bsi_bits.proofs.Reading.{length-bits_of}
use Rattle.bsi_bits.proofs.bits.Bits.reserve.Goals as goal

pub room_to_make-growth-requires : goal.room_to_make-growth-requires
room_to_make-growth-requires c = rw (← c.self.view_is, length-bits_of c.self.inside.len c.self.inside.words.items) at c.requires

-- the capacity is that of as many words as the bits and those that room is made for fill
pub returns-clause-ok : goal.returns-clause-ok
returns-clause-ok c =
    let made = c.room_to_make-growth.ensures in
    on_ok_weaker c.reserve.result
    (λ enough. omega (arith, enough, made.enough, made.within, c.div_ceil-words.ensures, c.len.ensures))
    c.reserve.ensures.ok

pub returns-clause-doubles : goal.returns-clause-doubles
returns-clause-doubles c =
    let made = c.room_to_make-growth.ensures in
    let long : length c.args.self.now.bits ≡ c.self.inside.len = ap (λ b. length b.bits) (sym c.self.view_is) ∙ length-bits_of c.self.inside.len c.self.inside.words.items in
    on_ok_weaker c.reserve.result
    (λ enough low. omega (arith, long, enough, made.doubles, made.within, c.div_ceil-words.ensures, c.len.ensures))
    c.reserve.ensures.ok
