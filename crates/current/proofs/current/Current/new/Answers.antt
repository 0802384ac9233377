use Rattle.std.proofs.Common.{◌∙◌, [], ◌∷◌, length, ap, arith}
use Rattle.std.proofs.lemmas.List.{length-append}
use Rattle.current.specs.Table.{rows_of_table}
use Rattle.current.specs.Places.{rows_at}
use Rattle.current.specs.Current.{columns_at}
use Rattle.current.proofs.Reading.{none_more_columns}
use Rattle.current.proofs.Tabled.{none_more}
use Rattle.current.proofs.current.Current.new.Goals as goal

pub loop-preserved : goal.loop-preserved
loop-preserved c =
    let old = c.loop.tables.items in
    let items = c.in_ok-push.ensures.items in
    let long = ap length items ∙ length-append old (c.new.result ∷ []) in
    let was = c.loop.invariant.long in
    record {
      long = omega (arith, long, was);
      columns = λ n. ap (λ xs. columns_at xs n) items ∙ none_more_columns old c.new.result c.new.ensures.columns c.loop.invariant.columns n;
      rows = λ n. ap (λ xs. rows_at rows_of_table xs n) items ∙ none_more rows_of_table old c.new.result c.new.ensures.rows c.loop.invariant.rows n;
    }
