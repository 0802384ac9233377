-- The text of a refusal stands behind its number, of two digits, and a blank.
use Rattle.std.proofs.Common.{◌≡◌, ◌≢◌, ℕ, ◌<◌, List, [], ◌∷◌, ◌++◌, length, get_or, refl, lit<, arith}
use Rattle.std.specs.Fmt.{digits}
use Rattle.fault.specs.declared.refusal.Refusal.{Refusal}
use Rattle.fault.specs.declared.refusal.Refusal.TheVariants.{Syntax, UnknownTable, UnknownColumn, WrongType, NotAssignable, EmptyPeriod, OutOfRange, TooLarge, BadSchema, KeyOverlap, NoParent, RowLimit, NumberRange, Old, Gap, NotLeader, NotClosed, TimeFull, LogFull, TermFull, StoreFault, NodeDown, LifeFull, NoMemory, BadStore, NoView, BadFlight, BrokenLife, Unsent, StampOrder, WrongAnswer, BadScript}
use Rattle.fault.specs.Refusal.{shown, text_of}

no_blank : (n : ℕ) → 32 < n → n ≢ 32
no_blank n above = λ e. absurd (omega (arith, e))

pub two_digits : (r : Refusal) → (d : ℕ) × (e : ℕ) × (d ≢ 32) × (e ≢ 32) × (shown r ≡ d ∷ e ∷ 32 ∷ text_of r)
unfolding digits
two_digits (Syntax a) = (49, 48, no_blank 49 (lit< tt), no_blank 48 (lit< tt), refl)
two_digits UnknownTable = (49, 49, no_blank 49 (lit< tt), no_blank 49 (lit< tt), refl)
two_digits UnknownColumn = (49, 50, no_blank 49 (lit< tt), no_blank 50 (lit< tt), refl)
two_digits WrongType = (49, 51, no_blank 49 (lit< tt), no_blank 51 (lit< tt), refl)
two_digits NotAssignable = (49, 52, no_blank 49 (lit< tt), no_blank 52 (lit< tt), refl)
two_digits EmptyPeriod = (49, 53, no_blank 49 (lit< tt), no_blank 53 (lit< tt), refl)
two_digits OutOfRange = (49, 54, no_blank 49 (lit< tt), no_blank 54 (lit< tt), refl)
two_digits TooLarge = (49, 55, no_blank 49 (lit< tt), no_blank 55 (lit< tt), refl)
two_digits BadSchema = (49, 56, no_blank 49 (lit< tt), no_blank 56 (lit< tt), refl)
two_digits KeyOverlap = (50, 48, no_blank 50 (lit< tt), no_blank 48 (lit< tt), refl)
two_digits (NoParent a b c) = (50, 49, no_blank 50 (lit< tt), no_blank 49 (lit< tt), refl)
two_digits RowLimit = (50, 50, no_blank 50 (lit< tt), no_blank 50 (lit< tt), refl)
two_digits NumberRange = (50, 51, no_blank 50 (lit< tt), no_blank 51 (lit< tt), refl)
two_digits Old = (51, 48, no_blank 51 (lit< tt), no_blank 48 (lit< tt), refl)
two_digits Gap = (51, 49, no_blank 51 (lit< tt), no_blank 49 (lit< tt), refl)
two_digits (NotLeader a) = (51, 50, no_blank 51 (lit< tt), no_blank 50 (lit< tt), refl)
two_digits (NotClosed a) = (51, 51, no_blank 51 (lit< tt), no_blank 51 (lit< tt), refl)
two_digits TimeFull = (51, 53, no_blank 51 (lit< tt), no_blank 53 (lit< tt), refl)
two_digits LogFull = (51, 54, no_blank 51 (lit< tt), no_blank 54 (lit< tt), refl)
two_digits TermFull = (51, 55, no_blank 51 (lit< tt), no_blank 55 (lit< tt), refl)
two_digits StoreFault = (52, 48, no_blank 52 (lit< tt), no_blank 48 (lit< tt), refl)
two_digits NodeDown = (52, 49, no_blank 52 (lit< tt), no_blank 49 (lit< tt), refl)
two_digits LifeFull = (52, 50, no_blank 52 (lit< tt), no_blank 50 (lit< tt), refl)
two_digits NoMemory = (52, 51, no_blank 52 (lit< tt), no_blank 51 (lit< tt), refl)
two_digits BadStore = (52, 52, no_blank 52 (lit< tt), no_blank 52 (lit< tt), refl)
two_digits NoView = (52, 53, no_blank 52 (lit< tt), no_blank 53 (lit< tt), refl)
two_digits BadFlight = (53, 48, no_blank 53 (lit< tt), no_blank 48 (lit< tt), refl)
two_digits (BrokenLife a b) = (53, 49, no_blank 53 (lit< tt), no_blank 49 (lit< tt), refl)
two_digits (Unsent a b) = (53, 50, no_blank 53 (lit< tt), no_blank 50 (lit< tt), refl)
two_digits (StampOrder a b) = (53, 51, no_blank 53 (lit< tt), no_blank 51 (lit< tt), refl)
two_digits (WrongAnswer a b) = (53, 52, no_blank 53 (lit< tt), no_blank 52 (lit< tt), refl)
two_digits (BadScript a) = (54, 48, no_blank 54 (lit< tt), no_blank 48 (lit< tt), refl)

pub behind_blank : (d e : ℕ) (text before after : List ℕ) → d ≢ 32 → e ≢ 32 → ((i : ℕ) → i < length before → get_or before i 0 ≢ 32)
    → d ∷ e ∷ 32 ∷ text ≡ before ++ 32 ∷ after → after ≡ text
behind_blank d e text [] after first second none is = absurd (first (cc))
behind_blank d e text (b ∷ []) after first second none is = absurd (second (cc))
behind_blank d e text (b ∷ c ∷ []) after first second none is = cc
behind_blank d e text (b ∷ c ∷ x ∷ rest) after first second none is = absurd (none 2 (omega arith) (cc))
