-- What the laws of `refused` rest on besides the clauses that they speak of.
use Rattle.std.proofs.Common.{◌≡◌, ◌≢◌, ℕ, ◌<◌, Option, Some, None, List, length, refl, sym, ap, ◌∙◌, subst}
use Rattle.std.specs.Prelude.{IfSome}
use Rattle.flight.specs.Ranges.{IsNumber}
use Rattle.journal.specs.Blocks.{IsBody, HasNoBlock, AreWholeBlocks, block_text, framed_text, sum_after}
use Rattle.journal.proofs.Frames.{framed_same, sum_small}

pub none_of : {A : Type 0} (r : Option A) (F : A → Type 0) → IfSome r F → ((a : A) → F a → ⊥) → r ≡ None
none_of (Some a) F f never = absurd (never a f)
none_of None F f never = refl

pub other_sum : (before sum : ℕ) (body rest text b more : List ℕ) → IsNumber before → IsNumber sum → IsNumber (length body) → text ≡ framed_text sum body rest → sum ≢ sum_after before body → IsBody b → text ≡ block_text before b more → ⊥
other_sum before sum body rest text b more low small fits framed other is block =
    let same = framed_same sum (sum_after before b) body b rest more small (sum_small before b low) fits is.2 (sym framed ∙ block) in
    other (same.0 ∙ ap (sum_after before) (sym same.1))

pub goes_on : (before sum : ℕ) (text left body rest : List ℕ) (bodies : List (List ℕ)) → AreWholeBlocks before text bodies sum left → IsBody body → text ≡ block_text before body rest → sum ≡ before → left ≢ text
goes_on before sum text left body rest bodies whole is begins same stays =
    let none : HasNoBlock before text = subst (λ s. HasNoBlock s text) same (subst (λ l. HasNoBlock sum l) stays whole.3) in
    none body rest is begins
