-- Lemmas on the lines of scripts.
use Rattle.std.proofs.Common.{◌≡◌, ◌≢◌, ◌∙◌, ◌<◌, true, false, sym, refl, ap, length, Option, Some, None, Bor, ℕ, List, [], ◌∷◌, ◌++◌, map, append_assoc, length-append, Ok, Err, arith, ◌+◌, ◌⊎◌, inl, inr, ⊎_elim}
use Rattle.std.specs.Prelude.{◌==◌, All, IfSome, IfNone, MatchOption, codes}
use Rattle.std.specs.List.{position_or_len, before_first, after_first}
use Rattle.std.proofs.lemmas.List.{map-append, flat_map_more}
use Rattle.std.proofs.lemmas.List.Splits.{slice_split_first, slice_split_none, length-slice_split}
use Rattle.std.proofs.lemmas.List.Sums.{fails_before_first}
use Rattle.std.proofs.lemmas.List.Elements.{filter-append, All-push}
use Rattle.fault.specs.declared.refusal.Refusal.{Refusal}
use Rattle.fault.specs.declared.refusal.Refusal.TheVariants.{NoMemory, BadScript}
use Rattle.sqlchecks.specs.Columns.{Tables}
use Rattle.schemaread.specs.Schemas.{SchemaSays}
use Rattle.lines.specs.Script.{is_skipped, counted, pieces, members_text, text_of_lines, IsMemberCount, HasParts, HasLines, HasBadSchema, Stage, IsBegun, IsWrong, IsMissing, IsBadAt, IsScriptFault}
use Rattle.lines.specs.Script.Stage.{Opening, Named, Within, After}
use Rattle.lines.specs.Reading.{IsTaken, IsCutAfter, IsCounted, IsNoneCounted, IsOpening, IsBlock, IsEndless, IsSaid, IsUnsaid}
use Rattle.lines.specs.declared.line.Line.{Line}
use Rattle.lines.specs.Line.{line_text, IsInRange, IsNoLine}

-- a split at the first LF takes the first piece off
pub pieces_split : (text : List ℕ) (r : Option (Bor (List ℕ) × Bor (List ℕ)))
    → MatchOption r (position_or_len (λ b. b == 10) text ≡ length text) (λ x. (position_or_len (λ b. b == 10) text < length text) × (x.0.now ≡ before_first (λ b. b == 10) text) × (x.1.now ≡ after_first (λ b. b == 10) text))
    → IfSome r (λ p. pieces text ≡ p.0.now ∷ pieces p.1.now)
pieces_split text None h = tt
pieces_split text (Some x) h = slice_split_first (λ b. b == 10) text 0 h.0 ∙ (λ i. sym h.1 i ∷ pieces (sym h.2 i))

-- and without one the text is the one piece
pub pieces_last : (text : List ℕ) (r : Option (Bor (List ℕ) × Bor (List ℕ)))
    → MatchOption r (position_or_len (λ b. b == 10) text ≡ length text) (λ x. (position_or_len (λ b. b == 10) text < length text) × (x.0.now ≡ before_first (λ b. b == 10) text) × (x.1.now ≡ after_first (λ b. b == 10) text))
    → IfNone r (pieces text ≡ text ∷ [])
pieces_last text None h = slice_split_none (λ b. b == 10) text (λ k d lt. fails_before_first (λ b. b == 10) text k d (omega (arith, lt, h)))
pieces_last text (Some x) h = tt

some_piece : (text : List ℕ) → pieces text ≢ []
some_piece text e = omega (arith, ap length e, length-slice_split (λ c. c == 10) text)

-- ---- lines that were taken off

taken_none : (before : ℕ) (text : List ℕ) → IsTaken before text [] before text
taken_none before text = (refl, omega arith)

module _ (before number : ℕ) (text rest : List ℕ) (lines : List (List ℕ)) (taken : IsTaken before text lines number rest) where
  taken_then : (number' : ℕ) (after : List ℕ) (more : List (List ℕ)) → IsTaken number rest more number' after → IsTaken before text (lines ++ more) number' after
  taken_then number' after more next = (taken.0 ∙ ap (λ ls. lines ++ ls) next.0 ∙ sym (append_assoc lines more (pieces after)), omega (arith, taken.1, next.1, length-append lines more))

  taken_more : (number' : ℕ) (after line : List ℕ) → pieces rest ≡ line ∷ pieces after → number' ≡ number + 1 → IsTaken before text (lines ++ line ∷ []) number' after
  taken_more number' after line next is = taken_then number' after (line ∷ []) (next, is)

  cut_then : (more : List (List ℕ)) (refusal : Refusal) → IsCutAfter number rest more refusal → IsCutAfter before text (lines ++ more) refusal
  cut_then more refusal (line, whole, is) = (
    line,
    taken.0 ∙ ap (λ ls. lines ++ ls) whole ∙ sym (append_assoc lines more (line ∷ [])),
    is ∙ ap BadScript (omega (arith, taken.1, length-append lines more)),
  )

-- ---- lines that are skipped

pub counted_append : (xs ys : List (List ℕ)) → counted (xs ++ ys) ≡ counted xs ++ counted ys
counted_append xs ys = filter-append _ xs ys

counted_skipped : (line : List ℕ) (lines : List (List ℕ)) → is_skipped line ≡ true → counted (line ∷ lines) ≡ counted lines
counted_skipped line lines skipped = rw skipped refl

pub counted_first : (line : List ℕ) (lines : List (List ℕ)) → is_skipped line ≡ false → counted (line ∷ lines) ≡ line ∷ counted lines
counted_first line lines counts = rw counts refl

counted_one : (xs : List (List ℕ)) (line : List ℕ) → counted xs ≡ [] → is_skipped line ≡ false → counted (xs ++ line ∷ []) ≡ line ∷ []
counted_one xs line none counts = counted_append xs (line ∷ []) ∙ ap (λ ls. ls ++ counted (line ∷ [])) none ∙ counted_first line [] counts

counted_none_more : (xs ys zs : List (List ℕ)) → counted xs ≡ zs → counted ys ≡ [] → counted (xs ++ ys) ≡ zs ++ []
counted_none_more xs ys zs some none = counted_append xs ys ∙ (λ i. some i ++ none i)

-- only lines that are skipped were taken off a text, which leaves the rest
abbrev pub SkipsTo : ℕ → List ℕ → ℕ → List ℕ → Type 0
SkipsTo before text number rest = (skipped : List (List ℕ)) × IsTaken before text skipped number rest × (counted skipped ≡ [])

module _ (before number number' : ℕ) (text rest after line : List ℕ) (next : pieces rest ≡ line ∷ pieces after) (is : number' ≡ number + 1) where
  pub skips_more : SkipsTo before text number rest → is_skipped line ≡ true → SkipsTo before text number' after
  skips_more (skipped, taken, none) skips = (
    skipped ++ line ∷ [],
    taken_more before number text rest skipped taken number' after line next is,
    counted_none_more skipped (line ∷ []) [] none (counted_skipped line [] skips),
  )

-- ---- bad lines

-- a line that may not stand there
bad_line : (stage : Stage) (number : ℕ) (text rest line : List ℕ) (before : List (List ℕ)) → IsTaken 0 text (before ++ line ∷ []) number rest → IsBegun stage before → is_skipped line ≡ false → IsWrong stage line → IsBadAt text number
bad_line stage number text rest line before taken begun counts wrong = record {
  stage = stage;
  before = before;
  line = line;
  after = pieces rest;
  whole = taken.0 ∙ append_assoc before (line ∷ []) (pieces rest);
  number = omega (arith, taken.1, length-append before (line ∷ []));
  begun = begun;
  bad = inl (counts, wrong);
}

-- the text ends where more has to stand
bad_end : (stage : Stage) (text : List ℕ) (before : List (List ℕ)) (refusal : Refusal) → IsCutAfter 0 text before refusal → IsBegun stage before → ((line : List ℕ) → IsMissing stage line) → (k : ℕ) × (refusal ≡ BadScript k) × IsBadAt text k
bad_end stage text before refusal (line, whole, is) begun missing = (
  0 + length before + 1,
  is,
  record {
    stage = stage;
    before = before;
    line = line;
    after = [];
    whole = whole;
    number = omega arith;
    begun = begun;
    bad = inr (refl, missing line);
  },
)

-- ---- the opening

module _ (text first rest : List ℕ) (number : ℕ) (opens : IsCounted 0 text first number rest) where
  module _ (members : ℕ) (group : IsMemberCount members) (names : first ≡ members_text members) where
    named : (between : List (List ℕ)) → counted between ≡ [] → IsBegun (Named members) ((opens.0 ++ first ∷ []) ++ between)
    named between none = (counted_none_more (opens.0 ++ first ∷ []) between (first ∷ []) (counted_one opens.0 first opens.2 opens.3) none ∙ ap (λ l. l ∷ []) names, group)

    pub second_missing : (refusal : Refusal) → IsNoneCounted number rest refusal → (k : ℕ) × (refusal ≡ BadScript k) × IsBadAt text k
    second_missing refusal (between, cut, none) =
        bad_end (Named members) text _ refusal (cut_then 0 number text rest (opens.0 ++ first ∷ []) opens.1 between refusal cut) (named between none) (λ line. tt)

    module _ (number' : ℕ) (second after : List ℕ) (next : IsCounted number rest second number' after) where
      second_taken : IsTaken 0 text (((opens.0 ++ first ∷ []) ++ next.0) ++ second ∷ []) number' after
      second_taken =
          let t = taken_then 0 number text rest (opens.0 ++ first ∷ []) opens.1 number' after (next.0 ++ second ∷ []) next.1 in
          let e = append_assoc (opens.0 ++ first ∷ []) next.0 (second ∷ []) in
          (t.0 ∙ ap (λ ls. ls ++ pieces after) (sym e), t.1 ∙ ap (λ ls. 0 + length ls) (sym e))

      pub second_wrong : second ≢ codes "schema" → IsBadAt text number'
      second_wrong other = bad_line (Named members) number' text after second ((opens.0 ++ first ∷ []) ++ next.0) second_taken (named next.0 next.2) next.3 other

      pub opening_of : second ≡ codes "schema" → IsOpening text members number' after
      opening_of is =
          let before = (opens.0 ++ first ∷ []) ++ next.0 in
          let t = second_taken in
          let n = named next.0 next.2 in
          (before, (t.0 ∙ ap (λ l. (before ++ l ∷ []) ++ pieces after) is, t.1 ∙ ap (λ l. 0 + length (before ++ l ∷ [])) is), n.0, n.1)

-- ---- the schema

-- these lines, none of which is `end`, were taken off a text, which leaves the rest
abbrev pub BlockTo : ℕ → List ℕ → List ℕ → ℕ → List ℕ → Type 0
BlockTo before text block number rest = (lines : List (List ℕ)) × IsTaken before text lines number rest × All (λ line. line ≢ codes "end") lines × (block ≡ text_of_lines lines)

pub block_empty : (before : ℕ) (text block : List ℕ) → block ≡ [] → BlockTo before text block before text
block_empty before text block empty = ([], taken_none before text, λ k d lt. absurd (omega (arith, lt)), empty)

module _ (before number number' : ℕ) (text block rest after line : List ℕ) (so_far : BlockTo before text block number rest) (next : pieces rest ≡ line ∷ pieces after) (is : number' ≡ number + 1) where
  pub block_more : (block' : List ℕ) → line ≢ codes "end" → block' ≡ block ++ (line ++ 10 ∷ []) → BlockTo before text block' number' after
  block_more block' other longer = (
    so_far.0 ++ line ∷ [],
    taken_more before number text rest so_far.0 so_far.1 number' after line next is,
    All-push (λ x. x ≢ codes "end") so_far.0 line so_far.2 other,
    longer ∙ ap (λ b. b ++ (line ++ 10 ∷ [])) so_far.3 ∙ flat_map_more (λ l. l ++ 10 ∷ []) [] so_far.0 line,
  )

  pub block_ends : line ≡ codes "end" → IsBlock before text block number' after
  block_ends names =
      let t = taken_more before number text rest so_far.0 so_far.1 number' after line next is in
      (so_far.0, (t.0 ∙ ap (λ l. (so_far.0 ++ l ∷ []) ++ pieces after) names, t.1 ∙ ap (λ l. before + length (so_far.0 ++ l ∷ [])) names), so_far.2, so_far.3)

-- ---- the lines after it

append_nil : (xs : List (List ℕ)) → xs ++ [] ≡ xs
append_nil [] = refl
append_nil (x ∷ xs) = ap (λ l. x ∷ l) (append_nil xs)

-- the lines that were taken off say these in range
abbrev pub SaidTo : ℕ → ℕ → List ℕ → ℕ → List ℕ → List Line → Type 0
SaidTo before members text number rest lines = (taken : List (List ℕ)) × IsTaken before text taken number rest × (counted taken ≡ map line_text lines) × All (IsInRange members) lines

module _ (before members number number' : ℕ) (text rest after line : List ℕ) (lines : List Line) (so_far : SaidTo before members text number rest lines) (next : pieces rest ≡ line ∷ pieces after) (is : number' ≡ number + 1) where
  pub said_skip : is_skipped line ≡ true → SaidTo before members text number' after lines
  said_skip skips = (
    so_far.0 ++ line ∷ [],
    taken_more before number text rest so_far.0 so_far.1 number' after line next is,
    counted_append so_far.0 (line ∷ []) ∙ (λ i. so_far.2 i ++ counted_skipped line [] skips i) ∙ append_nil (map line_text lines),
    so_far.3,
  )

  pub said_more : (read : Line) → is_skipped line ≡ false → IsInRange members read → line ≡ line_text read → SaidTo before members text number' after (lines ++ read ∷ [])
  said_more read counts range reads = (
    so_far.0 ++ line ∷ [],
    taken_more before number text rest so_far.0 so_far.1 number' after line next is,
    counted_append so_far.0 (line ∷ []) ∙ (λ i. so_far.2 i ++ (counted_first line [] counts ∙ ap (λ l. l ∷ []) reads) i) ∙ sym (map-append line_text lines (read ∷ [])),
    All-push (IsInRange members) lines read so_far.3 range,
  )

-- ---- whole scripts

module _ (members number number' : ℕ) (text rest after block : List ℕ) (opening : IsOpening text members number rest) (between : IsBlock number rest block number' after) where
  -- the lines up to `end`
  through : List (List ℕ)
  through = (opening.0 ++ codes "schema" ∷ []) ++ (between.0 ++ codes "end" ∷ [])

  through_taken : IsTaken 0 text through number' after
  unfolding through
  through_taken = taken_then 0 number text rest (opening.0 ++ codes "schema" ∷ []) opening.1 number' after (between.0 ++ codes "end" ∷ []) between.1

  parts_of : (more : List (List ℕ)) → HasParts (through ++ more) members block more
  unfolding through
  parts_of more = record {
    opening = opening.0;
    block = between.0;
    whole = simp append_assoc;
    opens = opening.2;
    group = opening.3;
    first_end = between.2;
    schema_text = between.3;
  }

  bad_schema_of : (refusal : Refusal) → SchemaSays block (Err refusal) → HasBadSchema text refusal
  bad_schema_of refusal says = (members, block, pieces after, rw through_taken.0 (parts_of (pieces after)), some_piece after, says)

  -- the schema's refusal
  pub schema_fault : (refusal : Refusal) → (refusal ≡ NoMemory) ⊎ SchemaSays block (Err refusal) → IsScriptFault text refusal
  schema_fault refusal (inl e) = inl e
  schema_fault refusal (inr says) = inr (inr (bad_schema_of refusal says))

  -- a bad line after the schema
  pub line_fault : (schema : Tables) (refusal : Refusal) → SchemaSays block (Ok schema) → (refusal ≡ NoMemory) ⊎ IsUnsaid number' members after refusal → IsScriptFault text refusal
  line_fault schema refusal says (inl e) = inl e
  line_fault schema refusal says (inr u) = inr (inl (
    number' + length u.taken + 1,
    u.number,
    record {
      stage = After members;
      before = through ++ u.taken;
      line = u.line;
      after = u.after;
      whole = through_taken.0 ∙ ap (λ ls. through ++ ls) u.whole ∙ sym (append_assoc through u.taken (u.line ∷ u.after));
      number = omega (arith, through_taken.1, length-append through u.taken);
      begun = (block, u.taken, schema, u.lines, parts_of u.taken, says, u.counts, u.range);
      bad = ⊎_elim (λ (h : (is_skipped u.line ≡ false) × IsNoLine members u.line). inl h) (λ (h : (u.after ≡ []) × (u.line ≢ [])). inr h) u.bad;
    },
  ))

-- a schema without its end
pub block_fault : (members number : ℕ) (text rest : List ℕ) (refusal : Refusal) → IsOpening text members number rest → (refusal ≡ NoMemory) ⊎ IsEndless number rest refusal → IsScriptFault text refusal
block_fault members number text rest refusal opening (inl e) = inl e
block_fault members number text rest refusal (opening, taken, opens, group) (inr (lines, cut, no_end)) =
    inr (inl (bad_end Within text ((opening ++ codes "schema" ∷ []) ++ lines) refusal (cut_then 0 number text rest (opening ++ codes "schema" ∷ []) taken lines refusal cut)
    (opening, lines, members, append_assoc opening (codes "schema" ∷ []) lines, (opens, group), no_end) (λ line. tt)))
