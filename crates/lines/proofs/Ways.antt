-- No script begins with a line that may not stand there, so the ways in which a script is answered exclude one another.
use Rattle.std.proofs.Common.{◌<◌, ◌^◌, ◌≡◌, ◌≢◌, ◌∙◌, ◌⊎◌, inl, inr, Ok, Err, true, false, sym, refl, ap, subst, ℕ, List, [], ◌∷◌, ◌++◌, map, length, length-append, arith}
use Rattle.std.specs.Prelude.{All, codes}
use Rattle.std.proofs.lemmas.List.{same_from_push}
use Rattle.std.proofs.lemmas.List.Elements.{All-head, All-tail}
use Rattle.fault.specs.declared.refusal.Refusal.{Refusal}
use Rattle.fault.specs.declared.refusal.Refusal.TheVariants.{NoMemory, BadScript}
use Rattle.sqlchecks.specs.Columns.{Tables}
use Rattle.schemaread.specs.Schemas.{SchemaSays}
use Rattle.schemaread.specs.Laws.{SaysOneSchema}
use Rattle.lines.specs.declared.line.Line.{Line}
use Rattle.lines.specs.Line.{line_text, IsInRange}
use Rattle.lines.specs.Script.{is_skipped, counted, pieces, members_text, IsMemberCount, HasParts, HasLines, HasBadSchema, Stage, IsBegun, IsWrong, IsMissing, IsBadAt, IsScriptFault}
use Rattle.lines.specs.Script.Stage.{Opening, Named, Within, After}
use Rattle.lines.proofs.Parts.{Places, places, counted_at, opening_counted, same_opening, no_end_within, same_parts, parts_counted, parts_more, parts_less}
use Rattle.lines.proofs.Texts.{same_said}
use Rattle.lines.proofs.Parts.Places.{Same, Earlier, Later}

-- ---- what lines up to `end` are not

module _ (lines : List (List ℕ)) (m : ℕ) (schema : List ℕ) (rest : List (List ℕ)) (p : HasParts lines m schema rest) where
  past_opening : counted lines ≢ []
  past_opening e = let none : members_text m ∷ (codes "schema" ∷ counted (p.block ++ codes "end" ∷ rest)) ≡ [] = sym (parts_counted lines m schema rest p) ∙ e in cc

  past_named : (n : ℕ) → counted lines ≢ members_text n ∷ []
  past_named n e = let one : members_text m ∷ (codes "schema" ∷ counted (p.block ++ codes "end" ∷ rest)) ≡ members_text n ∷ [] = sym (parts_counted lines m schema rest p) ∙ e in cc

  past_block : ¬ IsBegun Within lines
  past_block (opening, block, n, e, opened, none) =
      no_end_within block p.block rest none (same_opening n m opening p.opening block (p.block ++ codes "end" ∷ rest) opened (p.opens, p.group) (sym e ∙ p.whole)).1

-- ---- a line that counts and may not stand there

-- a line among those that say lines is the text of one
line_among : (front : List (List ℕ)) (line : List ℕ) (back : List (List ℕ)) (m : ℕ) (lines : List Line) → All (IsInRange m) lines → front ++ line ∷ back ≡ map line_text lines
    → (said : Line) × IsInRange m said × (line ≡ line_text said)
line_among [] line back m [] range e = absurd cc
line_among [] line back m (l ∷ ls) range e = (l, All-head (IsInRange m) l ls range, cc)
line_among (f ∷ fs) line back m [] range e = absurd cc
line_among (f ∷ fs) line back m (l ∷ ls) range e = line_among fs line back m ls (All-tail (IsInRange m) l ls range) cc

module _ (before more : List (List ℕ)) (line : List ℕ) (counts : is_skipped line ≡ false) where
  counted_with : (front : List (List ℕ)) → counted before ≡ front → front ++ line ∷ counted more ≡ counted (before ++ line ∷ more)
  counted_with front e = sym (counted_at before line more counts ∙ ap (λ ls. ls ++ line ∷ counted more) e)

  no_opening : counted before ≡ [] → IsWrong Opening line → (m : ℕ) (rest : List (List ℕ)) → IsMemberCount m → counted (before ++ line ∷ more) ≢ members_text m ∷ rest
  no_opening none wrong m rest group e = let first : line ∷ counted more ≡ members_text m ∷ rest = counted_with [] none ∙ e in wrong m group cc

  no_schema : (m n : ℕ) (rest : List (List ℕ)) → counted before ≡ members_text m ∷ [] → line ≢ codes "schema" → counted (before ++ line ∷ more) ≢ members_text n ∷ (codes "schema" ∷ rest)
  no_schema m n rest opened wrong e = let second : members_text m ∷ (line ∷ counted more) ≡ members_text n ∷ (codes "schema" ∷ rest) = counted_with (members_text m ∷ []) opened ∙ e in wrong cc

  wrong_first : counted before ≡ [] → IsWrong Opening line → (later : Stage) → ¬ IsBegun later (before ++ line ∷ more)
  wrong_first none wrong Opening begun = let one : line ∷ counted more ≡ [] = counted_with [] none ∙ begun in cc
  wrong_first none wrong (Named n) begun = no_opening none wrong n [] begun.1 begun.0
  wrong_first none wrong Within (opening, block, n, e, opened, no_end) = no_opening none wrong n (codes "schema" ∷ counted block) opened.1 (ap counted e ∙ opening_counted n opening block opened.0)
  wrong_first none wrong (After n) (schema, rest, tables, lines, p, says, said, range) =
      no_opening none wrong n (codes "schema" ∷ counted (p.block ++ codes "end" ∷ rest)) p.group (parts_counted (before ++ line ∷ more) n schema rest p)

  wrong_second : (m : ℕ) → counted before ≡ members_text m ∷ [] → line ≢ codes "schema" → (later : Stage) → ¬ IsBegun later (before ++ line ∷ more)
  wrong_second m opened wrong Opening begun = let two : members_text m ∷ (line ∷ counted more) ≡ [] = counted_with (members_text m ∷ []) opened ∙ begun in cc
  wrong_second m opened wrong (Named n) begun = let two : members_text m ∷ (line ∷ counted more) ≡ members_text n ∷ [] = counted_with (members_text m ∷ []) opened ∙ begun.0 in cc
  wrong_second m opened wrong Within (opening, block, n, e, opens, no_end) = no_schema m n (counted block) opened wrong (ap counted e ∙ opening_counted n opening block opens.0)
  wrong_second m opened wrong (After n) (schema, rest, tables, lines, p, says, said, range) =
      no_schema m n (counted (p.block ++ codes "end" ∷ rest)) opened wrong (parts_counted (before ++ line ∷ more) n schema rest p)

  module _ (m : ℕ) (schema : List ℕ) (rest : List (List ℕ)) (p : HasParts before m schema rest) where
    whole : HasParts (before ++ line ∷ more) m schema (rest ++ line ∷ more)
    whole = parts_more before m schema rest (line ∷ more) p

    wrong_third : IsWrong (After m) line → (later : Stage) → ¬ IsBegun later (before ++ line ∷ more)
    wrong_third wrong Opening begun = past_opening (before ++ line ∷ more) m schema (rest ++ line ∷ more) whole begun
    wrong_third wrong (Named n) begun = past_named (before ++ line ∷ more) m schema (rest ++ line ∷ more) whole n begun.0
    wrong_third wrong Within begun = past_block (before ++ line ∷ more) m schema (rest ++ line ∷ more) whole begun
    wrong_third wrong (After n) (schema', rest', tables, lines, p', says, said, range) =
        let same = same_parts (before ++ line ∷ more) m n schema schema' (rest ++ line ∷ more) rest' whole p' in
        let among = line_among (counted rest) line (counted more) n lines range (sym (counted_at rest line more counts) ∙ ap counted same.2 ∙ said) in
        wrong among.0 (subst (λ k. IsInRange k among.0) (sym same.0) among.1) among.2

  -- no script begins with a line that may not stand there
  wrong_ends : (stage later : Stage) → IsBegun stage before → IsWrong stage line → ¬ IsBegun later (before ++ line ∷ more)
  wrong_ends Opening later begun wrong = wrong_first begun wrong later
  wrong_ends (Named m) later begun wrong = wrong_second m begun.0 wrong later
  wrong_ends Within later begun wrong = absurd wrong
  wrong_ends (After m) later (schema, rest, tables, lines, p, says, said, range) wrong = wrong_third m schema rest p wrong later

-- ---- bad lines

not_nothing : (between : List (List ℕ)) (line : List ℕ) (rest : List (List ℕ)) → between ++ line ∷ rest ≢ []
not_nothing between line rest e = omega (arith, ap length e, length-append between (line ∷ rest))

-- it counts and may not stand there, or no LF ends it
abbrev IsBadThere : Stage → List ℕ → List (List ℕ) → Type 0
IsBadThere stage line after = ((is_skipped line ≡ false) × IsWrong stage line) ⊎ ((after ≡ []) × IsMissing stage line)

-- a bad line stands in no longer beginning of a script
module _ (stage later : Stage) (before : List (List ℕ)) (line : List ℕ) (after lines between : List (List ℕ)) (next : List ℕ) (rest : List (List ℕ)) (begun : IsBegun stage before) where
  bad_within : lines ≡ before ++ line ∷ between → after ≡ between ++ next ∷ rest → IsBegun later lines → ¬ IsBadThere stage line after
  bad_within longer then goes (inl (counts, wrong)) = wrong_ends before between line counts stage later begun wrong (subst (IsBegun later) longer goes)
  bad_within longer then goes (inr (last, missing)) = not_nothing between next rest (sym then ∙ last)

bad_alike : (text : List ℕ) (k j : ℕ) (b : IsBadAt text k) (c : IsBadAt text j) → Places b.before b.line b.after c.before c.line c.after → k ≡ j
bad_alike text k j b c (Same e l a) = omega (arith, b.number, c.number, ap length e)
bad_alike text k j b c (Earlier between e a) = absurd (bad_within b.stage c.stage b.before b.line b.after c.before between c.line c.after b.begun e a c.begun b.bad)
bad_alike text k j b c (Later between e a) = absurd (bad_within c.stage b.stage c.before c.line c.after b.before between b.line b.after c.begun e a b.begun c.bad)

pub one_bad_line : (text : List ℕ) (k j : ℕ) → IsBadAt text k → IsBadAt text j → k ≡ j
one_bad_line text k j b c = bad_alike text k j b c (places b.before b.line b.after c.before c.line c.after (sym b.whole ∙ c.whole))

-- ---- scripts that are read

-- after the schema a script may end
may_end : (lines : List (List ℕ)) (m : ℕ) (schema : List ℕ) (rest : List (List ℕ)) → HasParts lines m schema rest → (stage : Stage) → IsBegun stage lines → ¬ IsMissing stage []
may_end lines m schema rest p Opening begun missing = past_opening lines m schema rest p begun
may_end lines m schema rest p (Named n) begun missing = past_named lines m schema rest p n begun.0
may_end lines m schema rest p Within begun missing = past_block lines m schema rest p begun
may_end lines m schema rest p (After n) begun missing = missing refl

module _ (front : List (List ℕ)) (m : ℕ) (read : IsBegun (After m) front) (stage : Stage) (before : List (List ℕ)) (line : List ℕ) (after : List (List ℕ)) (begun : IsBegun stage before) where
  bad_last : before ≡ front → line ≡ [] → ¬ IsBadThere stage line after
  bad_last b l (inl (counts, wrong)) = let skipped : true ≡ false = ap is_skipped (sym l) ∙ counts in cc
  bad_last b l (inr (last, missing)) = may_end front m read.0 read.1 read.4 stage (subst (IsBegun stage) b begun) (subst (IsMissing stage) l missing)

  bad_nowhere : IsBadThere stage line after → ¬ Places before line after front [] []
  bad_nowhere bad (Same b l a) = bad_last b l bad
  bad_nowhere bad (Earlier between b a) = bad_within stage (After m) before line after front between [] [] begun b a read bad
  bad_nowhere bad (Later between b a) = not_nothing between line after (sym a)

pub read_is_not_bad : (text : List ℕ) (members : ℕ) (schema : Tables) (lines : List Line) (k : ℕ) → HasLines text members schema lines → ¬ IsBadAt text k
read_is_not_bad text members schema lines k r b =
    let front = parts_less (pieces text) members r.block r.rest ([] ∷ []) r.parts in
    bad_nowhere front.0 members (r.block, r.rest, schema, lines, front.1, r.says, r.counts, r.range) b.stage b.before b.line b.after b.begun b.bad
    (places b.before b.line b.after front.0 [] [] (sym b.whole ∙ front.2))

-- ---- schemas that are refused

module _ (one_schema : SaysOneSchema) where
  not_both : (block : List ℕ) (schema : Tables) (refusal : Refusal) → SchemaSays block (Ok schema) → ¬ SchemaSays block (Err refusal)
  not_both block schema refusal says refused = let same : Ok schema ≡ Err refusal = one_schema block (Ok schema) (Err refusal) says refused in cc

  pub read_is_not_refused : (text : List ℕ) (members : ℕ) (schema : Tables) (lines : List Line) (refusal : Refusal) → HasLines text members schema lines → ¬ HasBadSchema text refusal
  read_is_not_refused text members schema lines refusal r (n, block, rest, p, some, refused) =
      let same = same_parts (pieces text) members n r.block block (r.rest ++ [] ∷ []) rest r.parts p in
      not_both block schema refusal (subst (λ b. SchemaSays b (Ok schema)) same.1 r.says) refused

  module _ (m : ℕ) (block : List ℕ) (refusal : Refusal) (refused : SchemaSays block (Err refusal)) where
    -- past a schema that is refused no script goes
    unread : (lines : List (List ℕ)) (rest : List (List ℕ)) → HasParts lines m block rest → (stage : Stage) → ¬ IsBegun stage lines
    unread lines rest p Opening begun = past_opening lines m block rest p begun
    unread lines rest p (Named n) begun = past_named lines m block rest p n begun.0
    unread lines rest p Within begun = past_block lines m block rest p begun
    unread lines rest p (After n) (schema, rest', tables, said, p', says, counts, range) =
        let same = same_parts lines n m schema block rest' rest p' p in
        not_both block tables refusal (subst (λ b. SchemaSays b (Ok tables)) same.1 says) refused

    -- nor is a line before it bad
    module _ (before more rest : List (List ℕ)) (line : List ℕ) (counts : is_skipped line ≡ false) (p : HasParts (before ++ line ∷ more) m block rest) where
      unread_line : (stage : Stage) → IsBegun stage before → ¬ IsWrong stage line
      unread_line Opening begun wrong = no_opening before more line counts begun wrong m (codes "schema" ∷ counted (p.block ++ codes "end" ∷ rest)) p.group (parts_counted (before ++ line ∷ more) m block rest p)
      unread_line (Named n) begun wrong = no_schema before more line counts n m (counted (p.block ++ codes "end" ∷ rest)) begun.0 wrong (parts_counted (before ++ line ∷ more) m block rest p)
      unread_line Within begun wrong = wrong
      unread_line (After n) (schema, rest', tables, said, p', says, counts', range) wrong =
          let same = same_parts (before ++ line ∷ more) n m schema block (rest' ++ line ∷ more) rest (parts_more before n schema rest' (line ∷ more) p') p in
          not_both block tables refusal (subst (λ b. SchemaSays b (Ok tables)) same.1 says) refused

    module _ (front : List (List ℕ)) (p : HasParts front m block []) (next : List ℕ) (rest : List (List ℕ)) (stage : Stage) (before : List (List ℕ)) (line : List ℕ) (after : List (List ℕ)) (begun : IsBegun stage before) where
      unread_within : (between : List (List ℕ)) → front ≡ before ++ line ∷ between → after ≡ between ++ next ∷ rest → ¬ IsBadThere stage line after
      unread_within between e then (inl (counts, wrong)) = unread_line before between [] line counts (subst (λ ls. HasParts ls m block []) e p) stage begun wrong
      unread_within between e then (inr (last, missing)) = not_nothing between next rest (sym then ∙ last)

      unread_nowhere : IsBadThere stage line after → ¬ Places before line after front next rest
      unread_nowhere bad (Same b l a) = unread front [] p stage (subst (IsBegun stage) b begun)
      unread_nowhere bad (Earlier between b a) = unread_within between b a bad
      unread_nowhere bad (Later between b a) = unread (front ++ next ∷ between) (next ∷ between) (parts_more front m block [] (next ∷ between) p) stage (subst (IsBegun stage) b begun)

    bad_not_refused : (text : List ℕ) (k : ℕ) (rest : List (List ℕ)) → IsBadAt text k → HasParts (pieces text) m block rest → ¬ (rest ≢ [])
    bad_not_refused text k [] b p some = some refl
    bad_not_refused text k (next ∷ rest) b p some =
        let front = parts_less (pieces text) m block [] (next ∷ rest) p in
        unread_nowhere front.0 front.1 next rest b.stage b.before b.line b.after b.begun b.bad
        (places b.before b.line b.after front.0 next rest (sym b.whole ∙ front.2))

  pub bad_is_not_refused : (text : List ℕ) (k : ℕ) (refusal : Refusal) → IsBadAt text k → ¬ HasBadSchema text refusal
  bad_is_not_refused text k refusal b (m, block, rest, p, some, refused) = bad_not_refused m block refusal refused text k rest b p some

  pub one_refusal : (text : List ℕ) (q r : Refusal) → HasBadSchema text q → HasBadSchema text r → q ≡ r
  one_refusal text q r (m, block, rest, p, some, refused) (n, block', rest', p', some', refused') =
      let same = same_parts (pieces text) m n block block' rest rest' p p' in
      let one : Err q ≡ Err r = one_schema block' (Err q) (Err r) (subst (λ b. SchemaSays b (Err q)) same.1 refused) refused' in
      cc

  pub one_reading : (text : List ℕ) (m n : ℕ) (schema schema' : Tables) (lines lines' : List Line) → HasLines text m schema lines → HasLines text n schema' lines' → (m ≡ n) × (schema ≡ schema') × (lines ≡ lines')
  one_reading text m n schema schema' lines lines' r q =
      let same = same_parts (pieces text) m n r.block q.block (r.rest ++ [] ∷ []) (q.rest ++ [] ∷ []) r.parts q.parts in
      let tables : Ok schema ≡ Ok schema' = one_schema q.block (Ok schema) (Ok schema') (subst (λ b. SchemaSays b (Ok schema)) same.1 r.says) q.says in
      let rest = same_from_push r.rest q.rest [] [] same.2 in
      let few : n < 2 ^ 64 = omega (arith, q.parts.group) in
      let range : All (IsInRange n) lines = subst (λ k. All (IsInRange k) lines) same.0 r.range in
      (same.0, cc, same_said n few lines lines' range q.range (sym r.counts ∙ ap counted rest.0 ∙ q.counts))

  -- ---- faults

  pub read_has_no_fault : (text : List ℕ) (members : ℕ) (schema : Tables) (lines : List Line) (refusal : Refusal) → HasLines text members schema lines → IsScriptFault text refusal → refusal ≡ NoMemory
  read_has_no_fault text members schema lines refusal r (inl memory) = memory
  read_has_no_fault text members schema lines refusal r (inr (inl (k, e, b))) = absurd (read_is_not_bad text members schema lines k r b)
  read_has_no_fault text members schema lines refusal r (inr (inr refused)) = absurd (read_is_not_refused text members schema lines refusal r refused)

  pub one_fault : (text : List ℕ) (q r : Refusal) → IsScriptFault text q → IsScriptFault text r → (q ≡ r) ⊎ (q ≡ NoMemory) ⊎ (r ≡ NoMemory)
  one_fault text q r (inl memory) f = inr (inl memory)
  one_fault text q r (inr f) (inl memory) = inr (inr memory)
  one_fault text q r (inr (inl (k, e, b))) (inr (inl (j, d, c))) = inl (e ∙ ap BadScript (one_bad_line text k j b c) ∙ sym d)
  one_fault text q r (inr (inl (k, e, b))) (inr (inr refused)) = absurd (bad_is_not_refused text k r b refused)
  one_fault text q r (inr (inr refused)) (inr (inl (k, e, b))) = absurd (bad_is_not_refused text k q b refused)
  one_fault text q r (inr (inr refused)) (inr (inr refused')) = inl (one_refusal text q r refused refused')
