-- Bytes that wait, and those that were written before them.
use Rattle.std.proofs.Common.{◌≡◌, ℕ, ◌+◌, List, [], ◌++◌, length, min, take, Some, None, IfSome, option_map, Result, Ok, Err, refl, sym, ap, subst, ◌∙◌, arith}
use Rattle.std.specs.Prelude.{OnOk, OnErr}
use Rattle.std.specs.Io.KnownBytes.{Appends}
use Rattle.std.proofs.lemmas.List.{append-nil, append_assoc, take-append-le, take_all, take_min}
use Rattle.std.proofs.Math.Seq.{take-nil, take-append-add}
use Rattle.csv.proofs.WriteFacts.{appends-more, appends-none}
use Rattle.csv.specs.Reading.{strip_bom}
use Rattle.bsi_input.specs.Texts.{ForText}
use Rattle.bsi_input.specs.BufferedOutput.{AppendsAllBut, AppendsPrefix}
use Rattle.bsi_syntax.specs.Bytes.{KnownBytes}

-- nothing was written, and all of it waits
pub put_none : (now : KnownBytes) (text : List ℕ) → AppendsAllBut now now text text
put_none now text = record { gone = []; text_is = refl; written = appends-none now }

-- all of it was written
pub put_all : (before after : KnownBytes) (text waiting : List ℕ) → Appends before after text → waiting ≡ [] → AppendsAllBut before after waiting text
put_all before after text waiting written none = record {
  gone = text;
  text_is = sym (ap (λ rest. text ++ rest) none ∙ append-nil text);
  written = written;
}

-- what waited was written, and then the text after it
pub cut_whole : (before middle after : KnownBytes) (first last : List ℕ) → Appends before middle first → AppendsPrefix middle after last
    → AppendsPrefix before after (first ++ last)
cut_whole before middle after first last written cut =
    (length first + cut.0, subst (Appends before after) (sym (take-append-add first last cut.0)) (appends-more before middle after first (take cut.0 last) written cut.1))

module _ (before middle after : KnownBytes) (waiting text : List ℕ) (put : AppendsAllBut before middle waiting text) where
  -- more text waits after what waited, of which a first part was written
  pub put_more : (rest more : List ℕ) → AppendsAllBut middle after rest (waiting ++ more) → AppendsAllBut before after rest (text ++ more)
  put_more rest more next = record {
    gone = put.gone ++ next.gone;
    text_is = ap (λ xs. xs ++ more) put.text_is ∙ append_assoc put.gone waiting more ∙ ap (λ xs. put.gone ++ xs) next.text_is
        ∙ sym (append_assoc put.gone next.gone rest);
    written = appends-more before middle after put.gone next.gone put.written next.written;
  }

  -- a first part of both was written, and no more of them will be
  pub put_cut : (more : List ℕ) → AppendsPrefix middle after (waiting ++ more) → AppendsPrefix before after (text ++ more)
  put_cut more cut =
      let whole : put.gone ++ (waiting ++ more) ≡ text ++ more =
      sym (append_assoc put.gone waiting more) ∙ ap (λ xs. xs ++ more) (sym put.text_is) in
      subst (AppendsPrefix before after) whole (cut_whole before middle after put.gone (waiting ++ more) put.written cut)

  -- what waited was written
  pub put_written : Appends middle after waiting → Appends before after text
  put_written written =
      subst (Appends before after) (sym put.text_is) (appends-more before middle after put.gone waiting put.written written)

-- the whole of a text is a first part of it
pub cut_all : (before after : KnownBytes) (text : List ℕ) → Appends before after text → AppendsPrefix before after text
cut_all before after text written = (length text, subst (Appends before after) (sym (take_all (length text) text (omega arith))) written)

-- a first part of what waited is one of what waited and of the text after it
pub cut_front : (before after : KnownBytes) (waiting more : List ℕ) → AppendsPrefix before after waiting → AppendsPrefix before after (waiting ++ more)
cut_front before after waiting more cut =
    let m : ℕ = min cut.0 (length waiting) in
    let part : take m (waiting ++ more) ≡ take cut.0 waiting = take-append-le m waiting more (omega arith) ∙ take_min cut.0 waiting in
    (m, subst (Appends before after) (sym part) cut.1)

-- where nothing waits, no more is written
pub cut_end : (before now after : KnownBytes) (text waiting : List ℕ) → AppendsPrefix before now text → waiting ≡ [] → AppendsPrefix now after waiting → AppendsPrefix before after text
cut_end before now after text waiting cut none more =
    let nothing : Appends now after [] = subst (λ xs. Appends now after xs) (ap (take more.0) none ∙ take-nil more.0) more.1 in
    (cut.0, subst (Appends before after) (append-nil (take cut.0 text)) (appends-more before now after (take cut.0 text) [] cut.1 nothing))

-- what follows from what is so where a call succeeds, or fails
pub on_ok : {T E P Q : Type 0} (r : Result T E) → (P → Q) → OnOk r P → OnOk r Q
on_ok (Ok x) then_so p = then_so p
on_ok (Err e) then_so p = tt

pub on_fault : {T E P Q : Type 0} (r : Result T E) → (P → Q) → OnErr r P → OnErr r Q
on_fault (Ok x) then_so p = tt
on_fault (Err e) then_so p = then_so p

-- of the text that a reader is about to read
pub from_known : (known source : KnownBytes) (P : List ℕ → Type 0) → source ≡ option_map strip_bom known → ForText source P → IfSome known P
from_known None source P is so = tt
from_known (Some bytes) source P is so = so bytes is
