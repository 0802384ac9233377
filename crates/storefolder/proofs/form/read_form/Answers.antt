use Rattle.std.proofs.Common.{◌≡◌, List, ℕ, subst, inl, inr, ⊎_elim, string_bytes, rules}
use Rattle.storefolder.specs.Forms.{IsRefusedForm}
use Rattle.storefolder.proofs.Forms.{no_parts, no_tables, refused_so}
use Rattle.storefolder.proofs.form.read_form.Goals as goal

pub returns-in-Err-clause-err : goal.returns-in-Err-clause-err
returns-in-Err-clause-err c =
    let text : c.as_str.result.now ≡ string_bytes c.args.text = search rules in
    let why = ⊎_elim inl (λ none. inr (no_parts c.as_str.result.now c.in_ok-rest.rest.now c.in_ok-rest.ensures.only none)) c.in-Err.ensures.err in
    subst (λ (t : List ℕ). IsRefusedForm t c.refusal_of.result) text (refused_so c.as_str.result.now c.in-Err.refusal c.refusal_of.result why c.refusal_of.ensures.memory c.refusal_of.ensures.other)

pub returns-in-Err-read_tables-clause-err : goal.returns-in-Err-read_tables-clause-err
returns-in-Err-read_tables-clause-err c =
    let text : c.as_str.result.now ≡ string_bytes c.args.text = search rules in
    let why = ⊎_elim inl (λ none. inr (no_tables c.as_str.result.now c.in_ok-rest.rest.now c.in_ok-rest.ensures.only c.in-Ok.parts.0 c.in-Ok.parts.1 c.in-Ok.ensures.only (λ tables says. none tables (rw c.as_str-2.ensures says)))) c.in-Err-read_tables.ensures.err in
    subst (λ (t : List ℕ). IsRefusedForm t c.refusal_of-in-Err-read_tables.result) text
    (refused_so c.as_str.result.now c.in-Err-read_tables.refusal c.refusal_of-in-Err-read_tables.result why c.refusal_of-in-Err-read_tables.ensures.memory c.refusal_of-in-Err-read_tables.ensures.other)
