-- What the tokens of a text spell is what the text is parsed to.
use Rattle.std.proofs.Common.{◌≡◌, ℕ, List, length, Ok, Err, refl, ap, ◌∙◌, inl, inr}
use Rattle.std.specs.Prelude.{◌⊎◌}
use Rattle.fault.specs.declared.refusal.Refusal.TheVariants.{NoMemory}
use Rattle.phrase.specs.declared.fault.ReadError.{ReadError}
use Rattle.phrase.specs.declared.fault.ReadError.TheVariants as errors
use Rattle.phrase.specs.Grammar.{Phrase}
use Rattle.phrase.specs.Reading.{Fails}
use Rattle.phrase.proofs.Laws.{IsLawful}
use Rattle.sqltokens.specs.declared.token.Token.{Token}
use Rattle.sqltokens.specs.What.{What, pieces, whats}
use Rattle.sqltokens.specs.Lexing.{IsTokens}
use Rattle.sqltokens.specs.Syntax.{all_of, at_place}
use Rattle.sqltokens.proofs.Told.{of_tokens}
use Rattle.sqltokens.proofs.Whole.{left_within}
use Rattle.namesyntax.specs.Parsing.{IsWithin, refusal_of, or_syntax, parsed}

pub parsed_ok : {A : Type 0} (p : Phrase What A) (text : List ℕ) (ts : List Token) (a : A) → IsTokens text 0 (pieces ts) → all_of p (whats ts) ≡ Ok a → parsed p text ≡ Ok a
parsed_ok p text ts a are e = ap or_syntax (of_tokens p text ts are ∙ ap (at_place (pieces ts) (length text)) e)

pub parsed_err : {A : Type 0} (p : Phrase What A) (text : List ℕ) (ts : List Token) (e : ReadError) → IsTokens text 0 (pieces ts) → Fails e (all_of p (whats ts)) → (refusal_of e (pieces ts) (length text) ≡ NoMemory) ⊎ (parsed p text ≡ Err (refusal_of e (pieces ts) (length text)))
parsed_err p text ts errors.Memory are e = inl refl
parsed_err p text ts (errors.Wrong left) are e = inr (ap or_syntax (of_tokens p text ts are ∙ ap (at_place (pieces ts) (length text)) e))

pub within : {A : Type 0} (p : Phrase What A) → IsLawful p → (ts : List Token) (e : ReadError) → Fails e (all_of p (whats ts)) → IsWithin e (length ts)
within p P ts errors.Memory e = tt
within p P ts (errors.Wrong left) e = left_within p P ts left e
