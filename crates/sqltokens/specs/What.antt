-- What a token says, without where it lies.
use Rattle.std.specs.Prelude.{ℕ, Bool, false, List, map}
use denote.Enum.Bare.{sameb}
use Rattle.sqltokens.specs.contracts.token.Keyword as keywords
use Rattle.sqltokens.specs.contracts.token.Sign as signs
use Rattle.sqltokens.specs.declared.token.Keyword.{Keyword}
use Rattle.sqltokens.specs.declared.token.Sign.{Sign}
use Rattle.sqltokens.specs.declared.token.Kind.{Kind}
use Rattle.sqltokens.specs.declared.token.Kind.TheVariants as kind
use Rattle.sqltokens.specs.declared.token.Token.{Token}
use Rattle.phrase.specs.Grammar.{Fixed}

pub data What : Type 0 where
  Word : Keyword → What
  Symbol : Sign → What
  Name : List ℕ → What
  Digits : List ℕ → What
  Text : List ℕ → What
  Stray : What

abbrev pub what_of : Kind → What
what_of (kind.Keyword k) = Word k
what_of (kind.Sign s) = Symbol s
what_of (kind.Name n) = Name n.now
what_of (kind.Digits d) = Digits d.digits.now
what_of (kind.Text t) = Text t.source.now
what_of kind.Stray = Stray

abbrev pub what : Token → What
what t = what_of t.kind

abbrev pub whats : List Token → List What
whats ts = map what ts

abbrev pub is_word : Keyword → What → Bool
is_word k (Word j) = sameb keywords.the_type j k
is_word k w = false

abbrev pub is_symbol : Sign → What → Bool
is_symbol s (Symbol j) = sameb signs.the_type j s
is_symbol s w = false

abbrev pub word : Keyword → Fixed What
word k = record { what = Word k; is = is_word k }

abbrev pub sign : Sign → Fixed What
sign s = record { what = Symbol s; is = is_symbol s }

-- a token, and where it begins
pub record Piece : Type 0 where
  pub what : What
  pub at : ℕ

abbrev pub piece : Token → Piece
piece t = record { what = what_of t.kind; at = t.at }

abbrev pub pieces : List Token → List Piece
pieces ts = map piece ts
