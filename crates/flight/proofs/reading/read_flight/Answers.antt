use Rattle.std.proofs.Common.{◌≡◌, refl, rules, true, false, length, map}
use Rattle.flight.specs.Contents.{in_life}
use Rattle.flight.specs.Ranges.{one_at_a_time}
use Rattle.flight.proofs.Whole.{no_version, no_head, no_word, no_block, no_tables, no_lives, not_ended, not_in_turn, only_flight, file_of, not_empty, all_read, not_true}
use Rattle.flight.proofs.reading.read_flight.Goals as goal

pub returns-in_err-version-clause-err : goal.returns-in_err-version-clause-err
returns-in_err-version-clause-err c =
    let none = no_version c.args.text.now c.in_err-version.field-0.0 c.in_err-version.ensures.err in
    search (rules, none)

pub returns-in_err-head-clause-err : goal.returns-in_err-head-clause-err
returns-in_err-head-clause-err c =
    let none = no_head c.args.text.now c.in_ok-version.version c.in_ok-version.rest.now c.in_ok-version.ensures.only c.in_err-head.field-0.0 c.in_err-head.ensures.err in
    search (rules, none)

pub returns-in_err-rest-clause-err : goal.returns-in_err-rest-clause-err
returns-in_err-rest-clause-err c =
    let none = no_word c.args.text.now c.in_ok-version.version c.in_ok-version.rest.now c.in_ok-version.ensures.only c.in_ok-head.head c.in_ok-head.rest.now c.in_ok-head.ensures.only c.in_err-rest.field-0.0 c.in_err-rest.ensures.err.0 c.in_err-rest.ensures.err.1 in
    search (rules, none)

pub returns-in_err-schema-clause-err : goal.returns-in_err-schema-clause-err
returns-in_err-schema-clause-err c =
    let none = no_block c.args.text.now c.in_ok-version.version c.in_ok-version.rest.now c.in_ok-version.ensures.only c.in_ok-head.head c.in_ok-head.rest.now c.in_ok-head.ensures.only c.in_ok-rest.rest.now c.in_ok-rest.ensures.ok c.in_err-schema.field-0.0 c.in_err-schema.ensures.err in
    search (rules, none)

pub returns-in_err-tables-clause-err : goal.returns-in_err-tables-clause-err
returns-in_err-tables-clause-err c =
    let unread = rw c.as_str.ensures at c.in_err-tables.ensures.err in
    let none = no_tables c.args.text.now c.in_ok-version.version c.in_ok-version.rest.now c.in_ok-version.ensures.only c.in_ok-head.head c.in_ok-head.rest.now c.in_ok-head.ensures.only c.in_ok-rest.rest.now c.in_ok-rest.ensures.ok c.in_ok-schema.schema c.in_ok-schema.rest.now c.in_ok-schema.ensures.only
    c.in_err-tables.field-0.0 unread in
    search (rules, none)

pub returns-in_err-lives-clause-err : goal.returns-in_err-lives-clause-err
returns-in_err-lives-clause-err c =
    let one = rw c.as_str.ensures at c.in_ok-tables.ensures.only in
    let none = no_lives c.args.text.now c.in_ok-version.version c.in_ok-version.rest.now c.in_ok-version.ensures.only c.in_ok-head.head c.in_ok-head.rest.now c.in_ok-head.ensures.only c.in_ok-rest.rest.now c.in_ok-rest.ensures.ok c.in_ok-schema.schema c.in_ok-schema.rest.now c.in_ok-schema.ensures.only
    c.in_ok-tables.tables one c.in_err-lives.field-0.0 c.in_err-lives.ensures.err in
    search (rules, none)

pub returns-then-not-is_empty-clause-err : goal.returns-then-not-is_empty-clause-err
returns-then-not-is_empty-clause-err c =
    let one = rw c.as_str.ensures at c.in_ok-tables.ensures.only in
    let over : c.is_empty.result ≡ false = search rules in
    not_ended c.args.text.now c.in_ok-version.version c.in_ok-version.rest.now c.in_ok-version.ensures.only c.in_ok-head.head c.in_ok-head.rest.now c.in_ok-head.ensures.only c.in_ok-rest.rest.now c.in_ok-rest.ensures.ok c.in_ok-schema.schema c.in_ok-schema.rest.now c.in_ok-schema.ensures.only
    c.in_ok-tables.tables one (map in_life c.in_ok-lives.lives.items) c.in_ok-lives.answers.items c.in_ok-lives.rest.now c.in_ok-lives.ensures.only _ refl (not_empty c.in_ok-lives.rest.now c.is_empty.result c.is_empty.ensures over)

pub returns-then-not-are_one_at_a_time-clause-err : goal.returns-then-not-are_one_at_a_time-clause-err
returns-then-not-are_one_at_a_time-clause-err c =
    let one = rw c.as_str.ensures at c.in_ok-tables.ensures.only in
    let over : one_at_a_time (map in_life c.in_ok-lives.lives.items) ≡ false = search rules in
    not_in_turn c.args.text.now c.in_ok-version.version c.in_ok-version.rest.now c.in_ok-version.ensures.only c.in_ok-head.head c.in_ok-head.rest.now c.in_ok-head.ensures.only c.in_ok-rest.rest.now c.in_ok-rest.ensures.ok c.in_ok-schema.schema c.in_ok-schema.rest.now c.in_ok-schema.ensures.only
    c.in_ok-tables.tables one (map in_life c.in_ok-lives.lives.items) c.in_ok-lives.answers.items c.in_ok-lives.rest.now c.in_ok-lives.ensures.only _ refl (not_true _ over)

pub returns-clause-ok : goal.returns-clause-ok
returns-clause-ok c =
    let says = rw c.as_str.ensures at c.in_ok-tables.ensures.ok in
    let empty : length c.in_ok-lives.rest.now ≡ 0 = search rules in
    let turn : one_at_a_time (map in_life c.in_ok-lives.lives.items) ≡ true = search rules in
    file_of c.args.text.now c.in_ok-version.version c.in_ok-version.rest.now c.in_ok-head.head c.in_ok-head.rest.now c.in_ok-rest.rest.now c.in_ok-schema.schema c.in_ok-schema.rest.now c.in_ok-tables.tables (map in_life c.in_ok-lives.lives.items) c.in_ok-lives.answers.items
    c.in_ok-lives.rest.now c.in_ok-version.ensures.ok.1 c.in_ok-head.ensures.ok c.in_ok-rest.ensures.ok.0 c.in_ok-schema.ensures.ok.1 says c.in_ok-lives.ensures.ok (all_read c.in_ok-lives.rest.now empty) turn

pub returns-clause-only : goal.returns-clause-only
returns-clause-only c =
    let one = rw c.as_str.ensures at c.in_ok-tables.ensures.only in
    only_flight c.args.text.now c.in_ok-version.version c.in_ok-version.rest.now c.in_ok-version.ensures.only c.in_ok-head.head c.in_ok-head.rest.now c.in_ok-head.ensures.only c.in_ok-rest.rest.now c.in_ok-rest.ensures.ok c.in_ok-schema.schema c.in_ok-schema.rest.now c.in_ok-schema.ensures.only
    c.in_ok-tables.tables one (map in_life c.in_ok-lives.lives.items) c.in_ok-lives.answers.items c.in_ok-lives.rest.now c.in_ok-lives.ensures.only
