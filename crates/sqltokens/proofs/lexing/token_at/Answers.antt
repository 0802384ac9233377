use Rattle.std.proofs.Common.{arith, sym, ap, subst, ◌∙◌, ℕ, List, ◌+◌, drop}
use Rattle.std.proofs.lemmas.List.{take_rest}
use Rattle.sqltokens.specs.What.{What, Digits, Text}
use Rattle.sqltokens.specs.Lexing.{IsLongest, longest_text}
use Rattle.sqltokens.proofs.Lexemes.{word_longest, digits_longest, text_longest, no_text}
use Rattle.sqltokens.proofs.Ascii.{all_digits, between_quotes}
use Rattle.sqltokens.proofs.lexing.token_at.Goals as goal

pub returns-then-is_ascii_alphabetic-clause-found : goal.returns-then-is_ascii_alphabetic-clause-found
returns-then-is_ascii_alphabetic-clause-found c =
    let w = c.word_len-n.ensures in
    (w.within.1, w.within.0, subst (λ (v : What). IsLongest c.args.bytes.now c.word_len-n.result v) (sym c.word_kind.ensures) (word_longest c.args.bytes.now c.word_len-n.result c.requires (sym c.is_ascii_alphabetic.ensures.value ∙ c.if-is_ascii_alphabetic.true) w.within w.each w.ends))

pub returns-then-is_ascii_digit-clause-found : goal.returns-then-is_ascii_digit-clause-found
returns-then-is_ascii_digit-clause-found c =
    let w = c.digits_len-n.ensures in
    (w.within.1, w.within.0, subst (λ (d : List ℕ). IsLongest c.args.bytes.now c.digits_len-n.result (Digits d)) (sym c.digits.ensures) (digits_longest c.args.bytes.now c.digits_len-n.result c.requires (sym c.is_ascii_alphabetic.ensures.value ∙ c.if-is_ascii_alphabetic.false) (sym c.is_ascii_digit.ensures.value ∙ c.if-is_ascii_digit.true) w.within w.each w.ends))

pub returns-then-n-eq0-clause-none : goal.returns-then-n-eq0-clause-none
returns-then-n-eq0-clause-none c = no_text c.args.bytes.now c.requires c.if-first-eq39.true (ap longest_text (sym (take_rest c.args.bytes.now 1)) ∙ sym c.text_len-n.ensures.value ∙ c.if-n-eq0.true)

pub returns-else-n-eq0-clause-found : goal.returns-else-n-eq0-clause-found
returns-else-n-eq0-clause-found c =
    let l = text_longest c.args.bytes.now c.text_len-n.result c.requires c.if-first-eq39.true (ap longest_text (sym (take_rest c.args.bytes.now 1)) ∙ sym c.text_len-n.ensures.value) (omega arith) in
    (l.within, omega arith, subst (λ (t : List ℕ). IsLongest c.args.bytes.now (c.text_len-n.result + 1) (Text t)) (sym c.quoted.ensures) l)

pub digits-requires-clause-all_digits : goal.digits-requires-clause-all_digits
digits-requires-clause-all_digits c =
    let w = c.digits_len-n.ensures in
    all_digits c.args.bytes.now c.digits_len-n.result w.within.1 (sym c.is_ascii_digit.ensures.value ∙ c.if-is_ascii_digit.true) w.each

pub quoted-requires : goal.quoted-requires
quoted-requires c = between_quotes (drop 1 c.args.bytes.now) c.text_len-n.result (ap longest_text (sym (take_rest c.args.bytes.now 1)) ∙ sym c.text_len-n.ensures.value) (omega arith)
