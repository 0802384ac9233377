-- A text has one opening, one block and one rest: two ways to divide the same lines are one.
use Rattle.std.proofs.Common.{◌≡◌, ◌≢◌, ◌∙◌, false, sym, refl, ap, ℕ, List, [], ◌∷◌, ◌++◌, length, length-append, get_or, drop, arith}
use Rattle.std.specs.Prelude.{All, codes}
use Rattle.std.proofs.lemmas.List.{append_assoc, get_or_at}
use Rattle.std.proofs.lemmas.Fmt.{decimal_injective}
use Rattle.lines.specs.Script.{is_skipped, counted, members_text, text_of_lines, IsMemberCount, IsOpened, HasParts}
use Rattle.lines.proofs.Scripts.{counted_append, counted_first}

-- ---- two places in one list

-- how a line stands to another, where each has these lines before it and these after it
pub data Places (before : List (List ℕ)) (line : List ℕ) (after : List (List ℕ)) (before' : List (List ℕ)) (line' : List ℕ) (after' : List (List ℕ)) : Type 0 where
  Same : before ≡ before' → line ≡ line' → after ≡ after' → Places before line after before' line' after'
  Earlier : (between : List (List ℕ)) → before' ≡ before ++ line ∷ between → after ≡ between ++ line' ∷ after' → Places before line after before' line' after'
  Later : (between : List (List ℕ)) → before ≡ before' ++ line' ∷ between → after' ≡ between ++ line ∷ after → Places before line after before' line' after'

onward : (first first' : List ℕ) (before : List (List ℕ)) (line : List ℕ) (after before' : List (List ℕ)) (line' : List ℕ) (after' : List (List ℕ)) → first ≡ first'
    → Places before line after before' line' after' → Places (first ∷ before) line after (first' ∷ before') line' after'
onward first first' before line after before' line' after' e (Same b l a) = Same (λ i. e i ∷ b i) l a
onward first first' before line after before' line' after' e (Earlier between b a) = Earlier between (λ i. sym e i ∷ b i) a
onward first first' before line after before' line' after' e (Later between b a) = Later between (λ i. e i ∷ b i) a

pub places : (before : List (List ℕ)) (line : List ℕ) (after before' : List (List ℕ)) (line' : List ℕ) (after' : List (List ℕ)) → before ++ line ∷ after ≡ before' ++ line' ∷ after' → Places before line after before' line' after'
places [] line after [] line' after' e =
    let one : line ≡ line' = cc in
    let rest : after ≡ after' = cc in
    Same refl one rest
places [] line after (first' ∷ before') line' after' e =
    let one : first' ∷ before' ≡ line ∷ before' = cc in
    let rest : after ≡ before' ++ line' ∷ after' = cc in
    Earlier before' one rest
places (first ∷ before) line after [] line' after' e =
    let one : first ∷ before ≡ line' ∷ before = cc in
    let rest : after' ≡ before ++ line ∷ after = cc in
    Later before one rest
places (first ∷ before) line after (first' ∷ before') line' after' e =
    let one : first ≡ first' = cc in
    let rest : before ++ line ∷ after ≡ before' ++ line' ∷ after' = cc in
    onward first first' before line after before' line' after' one (places before line after before' line' after' rest)

-- ---- the lines that count

pub counted_at : (before : List (List ℕ)) (line : List ℕ) (after : List (List ℕ)) → is_skipped line ≡ false → counted (before ++ line ∷ after) ≡ counted before ++ line ∷ counted after
counted_at before line after counts = counted_append before (line ∷ after) ∙ ap (λ ls. counted before ++ ls) (counted_first line after counts)

-- ---- openings

same_members : (m n : ℕ) → IsMemberCount m → IsMemberCount n → members_text m ≡ members_text n → m ≡ n
same_members m n group group' e = decimal_injective m n (omega (arith, group)) (omega (arith, group')) (ap (drop 8) e)

pub opening_counted : (m : ℕ) (opening more : List (List ℕ)) → counted opening ≡ members_text m ∷ [] → counted (opening ++ codes "schema" ∷ more) ≡ members_text m ∷ (codes "schema" ∷ counted more)
opening_counted m opening more opens = counted_at opening (codes "schema") more refl ∙ ap (λ ls. ls ++ codes "schema" ∷ counted more) opens

not_longer : (m n : ℕ) (opening opening' between : List (List ℕ)) → counted opening ≡ members_text m ∷ [] → counted opening' ≡ members_text n ∷ [] → opening ≢ opening' ++ codes "schema" ∷ between
not_longer m n opening opening' between opens opens' e =
    let two : members_text m ∷ [] ≡ members_text n ∷ (codes "schema" ∷ counted between) = sym opens ∙ ap counted e ∙ opening_counted n opening' between opens' in cc

module _ (m n : ℕ) (opening opening' more more' : List (List ℕ)) (opens : IsOpened opening m) (opens' : IsOpened opening' n) where
  opening_at : Places opening (codes "schema") more opening' (codes "schema") more' → (m ≡ n) × (more ≡ more')
  opening_at (Same o l a) = let one : members_text m ∷ [] ≡ members_text n ∷ [] = sym opens.0 ∙ ap counted o ∙ opens'.0 in (same_members m n opens.1 opens'.1 cc, a)
  opening_at (Earlier between o a) = absurd (not_longer n m opening' opening between opens'.0 opens.0 o)
  opening_at (Later between o a) = absurd (not_longer m n opening opening' between opens.0 opens'.0 o)

  pub same_opening : opening ++ codes "schema" ∷ more ≡ opening' ++ codes "schema" ∷ more' → (m ≡ n) × (more ≡ more')
  same_opening e = opening_at (places opening (codes "schema") more opening' (codes "schema") more' e)

-- ---- blocks

pub no_end_within : (block before between : List (List ℕ)) → All (λ line. line ≢ codes "end") block → block ≢ before ++ codes "end" ∷ between
no_end_within block before between none e =
    none (length before) [] (omega (arith, ap length e, length-append before (codes "end" ∷ between))) (ap (λ ls. get_or ls (length before) []) e ∙ get_or_at before (codes "end") between [] (length before) refl)

module _ (block block' rest rest' : List (List ℕ)) (none : All (λ line. line ≢ codes "end") block) (none' : All (λ line. line ≢ codes "end") block') where
  block_at : Places block (codes "end") rest block' (codes "end") rest' → (block ≡ block') × (rest ≡ rest')
  block_at (Same b l a) = (b, a)
  block_at (Earlier between b a) = absurd (no_end_within block' block between none' b)
  block_at (Later between b a) = absurd (no_end_within block block' between none b)

  same_block : block ++ codes "end" ∷ rest ≡ block' ++ codes "end" ∷ rest' → (block ≡ block') × (rest ≡ rest')
  same_block e = block_at (places block (codes "end") rest block' (codes "end") rest' e)

-- ---- parts

pub same_parts : (lines : List (List ℕ)) (m n : ℕ) (schema schema' : List ℕ) (rest rest' : List (List ℕ)) → HasParts lines m schema rest → HasParts lines n schema' rest' → (m ≡ n) × (schema ≡ schema') × (rest ≡ rest')
same_parts lines m n schema schema' rest rest' p q =
    let o = same_opening m n p.opening q.opening (p.block ++ codes "end" ∷ rest) (q.block ++ codes "end" ∷ rest') (p.opens, p.group) (q.opens, q.group) (sym p.whole ∙ q.whole) in
    let b = same_block p.block q.block rest rest' p.first_end q.first_end o.1 in
    (o.0, p.schema_text ∙ ap text_of_lines b.0 ∙ sym q.schema_text, b.1)

pub parts_counted : (lines : List (List ℕ)) (m : ℕ) (schema : List ℕ) (rest : List (List ℕ)) (p : HasParts lines m schema rest) → counted lines ≡ members_text m ∷ (codes "schema" ∷ counted (p.block ++ codes "end" ∷ rest))
parts_counted lines m schema rest p = ap counted p.whole ∙ opening_counted m p.opening (p.block ++ codes "end" ∷ rest) p.opens

-- with more lines after them
pub parts_more : (lines : List (List ℕ)) (m : ℕ) (schema : List ℕ) (rest more : List (List ℕ)) → HasParts lines m schema rest → HasParts (lines ++ more) m schema (rest ++ more)
parts_more lines m schema rest more p = record {
  opening = p.opening;
  block = p.block;
  whole = ap (λ ls. ls ++ more) p.whole ∙ simp append_assoc;
  opens = p.opens;
  group = p.group;
  first_end = p.first_end;
  schema_text = p.schema_text;
}

-- without the last of them
pub parts_less : (lines : List (List ℕ)) (m : ℕ) (schema : List ℕ) (rest more : List (List ℕ)) → HasParts lines m schema (rest ++ more) → (front : List (List ℕ)) × HasParts front m schema rest × (lines ≡ front ++ more)
parts_less lines m schema rest more p = (
  p.opening ++ (codes "schema" ∷ (p.block ++ (codes "end" ∷ rest))),
  record {
    opening = p.opening;
    block = p.block;
    whole = refl;
    opens = p.opens;
    group = p.group;
    first_end = p.first_end;
    schema_text = p.schema_text;
  },
  p.whole ∙ simp append_assoc,
)
