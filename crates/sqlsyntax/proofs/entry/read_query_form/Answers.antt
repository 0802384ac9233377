use Rattle.std.proofs.Common.{◌≡◌, ℕ, List, length, Ok, Err, sym, ap, subst, ◌∙◌}
use Rattle.std.specs.Prelude.{◌⊎◌}
use Rattle.fault.specs.declared.refusal.Refusal.{Refusal}
use Rattle.fault.specs.declared.refusal.Refusal.TheVariants.{NoMemory}
use Rattle.phrase.specs.Reading.{Fails}
use Rattle.sqltokens.specs.declared.token.Token.{Token}
use Rattle.sqltokens.specs.What.{whats, pieces}
use Rattle.sqltokens.specs.Syntax.{all_of}
use Rattle.sqlsyntax.specs.Queries.{query, query_form}
use Rattle.namesyntax.specs.Parsing.{IsWithin, refusal_of, parsed}
use Rattle.sqlsyntax.proofs.LawsQuery.{query_lawful}
use Rattle.namesyntax.proofs.Parsed.{parsed_ok, parsed_err, within}
use Rattle.sqlsyntax.proofs.entry.read_query_form.Goals as goal

pub returns-in-Ok : goal.returns-in-Ok
returns-in-Ok c =
    subst (λ (t : List ℕ). parsed query t ≡ Ok (query_form c.in-Ok.whole)) c.as_bytes-text.ensures.value
    (parsed_ok query c.as_bytes-text.result.now c.in_ok-tokens.tokens.items (query_form c.in-Ok.whole) c.in_ok-tokens.ensures
    (ap (λ (l : List Token). all_of query (whats l)) (sym c.deref.ensures.value) ∙ c.in-Ok.ensures))

pub refusal-requires : goal.refusal-requires
refusal-requires c =
    let fails = subst (λ (l : List Token). Fails c.in-Err.error (all_of query (whats l))) c.deref.ensures.value c.in-Err.ensures in
    subst (λ (l : List Token). IsWithin c.in-Err.error (length l)) (sym c.deref-in-Err.ensures.value) (within query query_lawful c.in_ok-tokens.tokens.items c.in-Err.error fails)

pub returns : goal.returns
returns c =
    let fails = subst (λ (l : List Token). Fails c.in-Err.error (all_of query (whats l))) c.deref.ensures.value c.in-Err.ensures in
    let is : c.refusal.result ≡ refusal_of c.in-Err.error (pieces c.in_ok-tokens.tokens.items) (length c.as_bytes-text.result.now) =
    c.refusal.ensures ∙ ap (λ (l : List Token). refusal_of c.in-Err.error (pieces l) (length c.as_bytes-text.result.now)) c.deref-in-Err.ensures.value in
    subst (λ (t : List ℕ). (c.refusal.result ≡ NoMemory) ⊎ (parsed query t ≡ Err c.refusal.result)) c.as_bytes-text.ensures.value
    (subst (λ (r : Refusal). (r ≡ NoMemory) ⊎ (parsed query c.as_bytes-text.result.now ≡ Err r)) (sym is)
    (parsed_err query c.as_bytes-text.result.now c.in_ok-tokens.tokens.items c.in-Err.error c.in_ok-tokens.ensures fails))
