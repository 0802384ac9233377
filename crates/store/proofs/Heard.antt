-- Lines that are heard one after the other, and blocks of them.
use Rattle.std.proofs.Common.{◌≡◌, ◌∙◌, ℕ, ◌≤◌, List, [], ◌∷◌, ◌++◌, length, refl, sym, ap, subst, arith, append-nil}
use Rattle.std.specs.Prelude.{map, All}
use Rattle.std.specs.List.{flat_map}
use Rattle.std.proofs.lemmas.List.{map_push}
use Rattle.std.proofs.lemmas.List.Concat.{flat_map-append}
use Rattle.std.proofs.lemmas.List.Elements.{All-nil, All-push}
use Rattle.journal.specs.declared.line.Line.{Line}
use Rattle.journal.specs.Blocks.{IsBody, HasNoBlock, block_text, blocks_text, last_sum, sum_after}
use Rattle.journal.proofs.Frames.{block_longer, blocks_push, last_push}
use Rattle.store.specs.Telling.{AreHeard, IsToldTo, body_of}

abbrev all_of : List (List Line) → List Line
all_of blocks = flat_map (λ (lines : List Line). lines) blocks

-- lines more
pub heard_on : {H : Type 0} (hears : H → Line → H → Type 0) (old mid new : H) (lines more : List Line) → AreHeard hears old lines mid → AreHeard hears mid more new → AreHeard hears old (lines ++ more) new
heard_on {H = H} hears old mid new [] more same heard = subst (λ (x : H). AreHeard hears x more new) same heard
heard_on hears old mid new (line ∷ lines) more heard then = (heard.0, heard.1, heard_on hears heard.0 mid new lines more heard.2 then)

-- one line more
pub heard_more : {H : Type 0} (hears : H → Line → H → Type 0) (old mid new : H) (lines : List Line) (line : Line) → AreHeard hears old lines mid → hears mid line new → AreHeard hears old (lines ++ line ∷ []) new
heard_more hears old mid new lines line heard more = heard_on hears old mid new lines (line ∷ []) heard (new, more, refl)

-- what is so after some blocks
abbrev pub ToldSoFar : {H : Type 0} (hears : H → Line → H → Type 0) → ℕ → List ℕ → H → H → ℕ → List ℕ → Type 0
ToldSoFar hears before text old new sum rest =
    (blocks : List (List Line)) × All IsBody (map body_of blocks) × (text ≡ blocks_text before (map body_of blocks) rest) × (sum ≡ last_sum before (map body_of blocks)) × AreHeard hears old (all_of blocks) new

pub told_none : {H : Type 0} (hears : H → Line → H → Type 0) (before : ℕ) (text : List ℕ) (old : H) → ToldSoFar hears before text old old before text
told_none hears before text old = ([], All-nil IsBody, refl, refl, refl)

all_push : (blocks : List (List Line)) (lines : List Line) → all_of (blocks ++ lines ∷ []) ≡ all_of blocks ++ lines
all_push blocks lines = flat_map-append (λ (lines : List Line). lines) blocks (lines ∷ []) ∙ ap (λ (more : List Line). all_of blocks ++ more) (append-nil lines)

pub told_more : {H : Type 0} (hears : H → Line → H → Type 0) (before : ℕ) (text : List ℕ) (old mid new : H) (sum next : ℕ) (rest body left : List ℕ) → ToldSoFar hears before text old mid sum rest
    → IsBody body → rest ≡ block_text sum body left → next ≡ sum_after sum body → (lines : List Line) → body ≡ body_of lines → AreHeard hears mid lines new → ToldSoFar hears before text old new next left
told_more hears before text old mid new sum next rest body left told is e n lines spelled heard =
    let blocks = told.0 in
    let bodies = map body_of blocks in
    let pushed : map body_of (blocks ++ lines ∷ []) ≡ bodies ++ body ∷ [] = map_push body_of blocks lines ∙ ap (λ (b : List ℕ). bodies ++ b ∷ []) (sym spelled) in (
      blocks ++ lines ∷ [],
      subst (All IsBody) (sym pushed) (All-push IsBody bodies body told.1 is),
      told.2 ∙ ap (blocks_text before bodies) (e ∙ ap (λ (s : ℕ). block_text s body left) told.3) ∙ sym (blocks_push before bodies body left) ∙ ap (λ (bs : List (List ℕ)). blocks_text before bs left) (sym pushed),
      n ∙ ap (λ (s : ℕ). sum_after s body) told.3 ∙ sym (last_push before bodies body) ∙ ap (last_sum before) (sym pushed),
      subst (λ (ls : List Line). AreHeard hears old ls new) (sym (all_push blocks lines)) (heard_on hears old mid new (all_of blocks) lines told.4 heard),
    )

pub told_to : {H : Type 0} (hears : H → Line → H → Type 0) (before : ℕ) (text : List ℕ) (old new : H) (sum : ℕ) (rest : List ℕ) → ToldSoFar hears before text old new sum rest → HasNoBlock sum rest → IsToldTo hears before text old new sum rest
told_to hears before text old new sum rest told none = (told.0, (told.1, told.2, told.3, none), told.4)

-- what follows blocks is no longer than the text
pub rest_shorter : (before : ℕ) (bodies : List (List ℕ)) (rest : List ℕ) → length rest ≤ length (blocks_text before bodies rest)
rest_shorter before [] rest = omega arith
rest_shorter before (body ∷ bodies) rest =
    omega (arith, rest_shorter (sum_after before body) bodies rest, block_longer before body (blocks_text (sum_after before body) bodies rest))
