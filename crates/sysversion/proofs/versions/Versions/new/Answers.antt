use Rattle.std.proofs.Common.{◌∙◌, [], ◌∷◌, length, ap, arith}
use Rattle.std.specs.Prelude.{slice_get}
use Rattle.std.specs.Option.{option_map_or}
use Rattle.std.proofs.lemmas.List.{length-append}
use Rattle.sysversion.specs.Versions.{versions_of_table}
use Rattle.sysversion.proofs.Tabled.{none_more}
use Rattle.sysversion.proofs.versions.Versions.new.Goals as goal

pub loop-preserved : goal.loop-preserved
loop-preserved c =
    let old = c.loop.tables.items in
    let items = c.in_ok-push.ensures.items in
    let long = ap length items ∙ length-append old (c.new.result ∷ []) in
    let was = c.loop.invariant.long in
    record {
      long = omega (arith, long, was);
      versions = λ n. ap (λ xs. option_map_or versions_of_table (slice_get xs n) []) items
          ∙ none_more versions_of_table old c.new.result c.new.ensures c.loop.invariant.versions n;
    }
