-- A first part of a file: some whole segments, and of the next one fewer bytes than all.
use Rattle.std.proofs.Common.{◌≡◌, ℕ, ◌<◌, ◌≤◌, List, [], ◌∷◌, ◌++◌, length, take, drop, inl, inr, refl, sym, ap, subst, ◌∙◌, arith, length-append, append_assoc}
use Rattle.std.specs.Prelude.{◌⊎◌}
use Rattle.std.specs.List.{flat_map}
use Rattle.std.proofs.Math.Seq.{drop-append_seam, take-append_seam}
use Rattle.std.proofs.lemmas.Bool.{cases_lt}
use Rattle.std.proofs.lemmas.Grind.{flat_map-append}
use Rattle.std.proofs.lemmas.List.{drop-append-le, take-append-drop, take-append-le}
use Rattle.std.proofs.lemmas.List.Elements.{All-cons, All-head, All-nil, All-tail}
use Rattle.bsi_rows.specs.Rows.{SourcedRow}
use Rattle.bsi_rows.specs.Table.{Table}
use Rattle.bsi_storage.specs.Opens.{IsCutFile, IsCutSegment, IsFileOfFirst}
use Rattle.bsi_storage.specs.Saved.{part_bytes, with_only, IsFileOf, IsPartOf, Part}
use Rattle.bsi_storage.proofs.OneTable.{ArePartsOf}

-- the shorter one of two first parts is a first part of the other
module _ (a b c d : List ℕ) (short : length c ≤ length a) (same : a ++ b ≡ c ++ d) where
  front : take (length c) a ≡ c
  front = sym (take-append-le (length c) a b short) ∙ ap (take (length c)) same ∙ take-append_seam c d

  begins : a ≡ c ++ drop (length c) a
  begins = sym (take-append-drop (length c) a) ∙ ap (λ bs. bs ++ drop (length c) a) front

  ends : drop (length c) a ++ b ≡ d
  ends = sym (drop-append-le (length c) a b short) ∙ ap (drop (length c)) same ∙ drop-append_seam c d

module _ (t : Table) (kinds : List ℕ) where
  -- so many whole ones, and how many bytes of the next one
  record CutAt (ps : List Part) (first : List ℕ) : Type 0 where
    whole : List Part
    more : List Part
    cut : List ℕ
    parts : ps ≡ whole ++ more
    is_cut : IsCutSegment cut
    bytes : first ≡ flat_map (part_bytes t kinds) whole ++ cut
    valid : ArePartsOf t kinds whole

  find : (ps : List Part) (first rest : List ℕ) → ArePartsOf t kinds ps → flat_map (part_bytes t kinds) ps ≡ first ++ rest → 0 < length rest → CutAt ps first
  find [] first rest are same some = absurd (omega (arith, some, ap (λ (bs : List ℕ). length bs) same, length-append first rest))
  find (p ∷ ps) first rest are same some = elim (cases_lt (length first) (length (part_bytes t kinds p))) [
    | inl within ↦ record {
      whole = [];
      more = p ∷ ps;
      cut = first;
      parts = refl;
      is_cut = record {
        version = p.version;
        table = with_only t p.rows;
        notes = p.notes;
        kinds = kinds;
        valid = All-head (IsPartOf t kinds) p ps are;
        rest = drop (length first) (part_bytes t kinds p);
        some =
            (let long = ap (λ (bs : List ℕ). length bs) (begins (part_bytes t kinds p) (flat_map (part_bytes t kinds) ps) first rest (omega (arith, within)) same) in
            omega (arith, within, long, length-append first (drop (length first) (part_bytes t kinds p))));
        whole = begins (part_bytes t kinds p) (flat_map (part_bytes t kinds) ps) first rest (omega (arith, within)) same;
      };
      bytes = refl;
      valid = All-nil (IsPartOf t kinds);
    }
    | inr past ↦
        let behind = find ps (drop (length (part_bytes t kinds p)) first) rest (All-tail (IsPartOf t kinds) p ps are)
        (sym (ends first rest (part_bytes t kinds p) (flat_map (part_bytes t kinds) ps) past (sym same))) some in
        record {
          whole = p ∷ behind.whole;
          more = behind.more;
          cut = behind.cut;
          parts = ap (λ rs. p ∷ rs) behind.parts;
          is_cut = behind.is_cut;
          bytes =
              begins first rest (part_bytes t kinds p) (flat_map (part_bytes t kinds) ps) past (sym same)
              ∙ ap (λ bs. part_bytes t kinds p ++ bs) behind.bytes
              ∙ sym (append_assoc (part_bytes t kinds p) (flat_map (part_bytes t kinds) behind.whole) behind.cut);
          valid =
              All-cons (IsPartOf t kinds) p behind.whole
              (All-head (IsPartOf t kinds) p ps are) behind.valid;
        }
  ]

-- the last one of some
record Last {X : Type 0} (xs : List X) : Type 0 where
  before : List X
  last : X
  is : xs ≡ before ++ last ∷ []

last_of : {X : Type 0} (x : X) (xs : List X) → Last (x ∷ xs)
last_of x [] = record { before = []; last = x; is = refl }
last_of x (y ∷ ys) = (let behind = last_of y ys in record { before = x ∷ behind.before; last = behind.last; is = ap (λ zs. x ∷ zs) behind.is })

module _ (bytes first rest : List ℕ) (t : Table) (notes kinds : List ℕ) (file : IsFileOf bytes t notes kinds) (same : bytes ≡ first ++ rest) (some : 0 < length rest) where
  cut_at : CutAt t kinds (file.before ++ file.last ∷ []) first
  cut_at = find t kinds (file.before ++ file.last ∷ []) first rest file.each (sym file.bytes_are ∙ same) some

  rows : List Part → List SourcedRow
  rows parts = flat_map (λ (p : Part). p.rows) parts

  file_of_first : (whole : List Part) → 0 < length whole → cut_at.whole ≡ whole → IsFileOfFirst (flat_map (part_bytes t kinds) whole) t kinds
  unfolding cut_at rows
  file_of_first [] none is = absurd (omega (arith, none))
  file_of_first (w ∷ ws) many is =
      let last = last_of w ws in
      let all : t.rows ≡ rows (w ∷ ws) ++ rows cut_at.more = file.rows_are ∙ ap rows cut_at.parts ∙ flat_map-append (λ (p : Part). p.rows) cut_at.whole cut_at.more ∙ ap (λ ps. rows ps ++ rows cut_at.more) is in
      record {
        first = with_only t (rows (w ∷ ws));
        notes = last.last.notes;
        more = rows cut_at.more;
        file = record {
          before = last.before;
          last = last.last;
          bytes_are = ap (flat_map (part_bytes t kinds)) last.is;
          rows_are = ap rows last.is;
          notes_are = refl;
          each = subst (ArePartsOf t kinds) (is ∙ last.is) cut_at.valid;
          within = omega (arith, file.within, ap (λ (rs : List SourcedRow). length rs) all, length-append (rows (w ∷ ws)) (rows cut_at.more));
        };
        all = λ i. record t { rows = all i };
      }

  pub are_cut : IsCutFile first t kinds
  are_cut = record {
    whole = flat_map (part_bytes t kinds) cut_at.whole;
    cut = cut_at.cut;
    are = cut_at.bytes;
    is_cut = cut_at.is_cut;
    valid = by cut_at.whole refl;
  }
    where
      by : (whole : List Part) → cut_at.whole ≡ whole → (flat_map (part_bytes t kinds) whole ≡ []) ⊎ IsFileOfFirst (flat_map (part_bytes t kinds) whole) t kinds
      by [] is = inl refl
      by (w ∷ ws) is = inr (file_of_first (w ∷ ws) (omega arith) is)
