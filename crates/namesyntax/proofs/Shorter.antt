-- What is read leaves fewer tokens.
use Rattle.std.proofs.Common.{◌≡◌, ◌<◌, Bool, true, List, Result, Ok, Err, length, ap, arith}
use Rattle.std.specs.Prelude.{IfOk}
use Rattle.std.proofs.lemmas.List.{length-map, length-append}
use Rattle.sqltokens.specs.declared.token.Token.{Token}
use Rattle.sqltokens.specs.What.{What, what, whats}
use Rattle.phrase.specs.Grammar.{Phrase, Fixed, expect}
use Rattle.phrase.specs.Reading.{Gives}
use Rattle.phrase.specs.declared.fault.ReadError.{ReadError}
use Rattle.phrase.proofs.Laws.{IsFixed, IsLawful, Begins, expect_ok}
use Rattle.phrase.proofs.Loops.{takes_some}

-- a token that is always the same
pub by_one : (f : Fixed What) → IsFixed f → (old new : List Token) → expect f.is (whats old) ≡ Ok (whats new) → length new < length old
by_one f F old new e = omega (arith, ap length (expect_ok f F (whats old) (whats new) e), length-map old what, length-map new what)

-- a phrase behind such a token
pub behind : {A X : Type 0} → (f : Fixed What) → IsFixed f → (p : Phrase What A) → IsLawful p → (view : X → A) → (r : Result X ReadError) → (old mid new : List Token)
    → expect f.is (whats old) ≡ Ok (whats mid) → Gives (λ x. (view x, whats new)) r (p.read (whats mid)) → IfOk r (λ x. length new < length old)
behind f F p P view (Ok x) old mid new e g =
    let one = by_one f F old mid e in
    let h = P.found (whats mid) (view x, whats new) g in
    omega (arith, one, ap length h.whole, length-append (p.spell (view x)) (whats new), length-map mid what, length-map new what)
behind f F p P view (Err n) old mid new e g = tt

-- such a token behind a phrase
pub before : {A : Type 0} → (f : Fixed What) → IsFixed f → (p : Phrase What A) → IsLawful p → (a : A) → (old mid new : List Token)
    → p.read (whats old) ≡ Ok (a, whats mid) → expect f.is (whats mid) ≡ Ok (whats new) → length new < length old
before f F p P a old mid new g e =
    let one = by_one f F mid new e in
    let h = P.found (whats old) (a, whats mid) g in
    omega (arith, one, ap length h.whole, length-append (p.spell a) (whats mid), length-map old what, length-map mid what)

-- a phrase that begins with a token
pub by_some : {A X : Type 0} → (test : What → Bool) → (p : Phrase What A) → Begins test p true → IsLawful p → (view : X → A) → (r : Result X ReadError) → (old new : List Token)
    → Gives (λ x. (view x, whats new)) r (p.read (whats old)) → IfOk r (λ x. length new < length old)
by_some test p B P view (Ok x) old new g =
    let lt = takes_some test p B P (whats old) (view x, whats new) g in
    omega (arith, lt, length-map old what, length-map new what)
by_some test p B P view (Err n) old new g = tt
