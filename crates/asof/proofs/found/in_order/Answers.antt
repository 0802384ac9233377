use Rattle.std.proofs.Common.{◌∙◌, map, ap, rules}
use Rattle.std.specs.Ordering.{is_lt}
use Rattle.std.specs.Cmp.{IsTotalOrder, nat_cmp_total, on_total, then_total}
use Rattle.std.specs.List.Sorted.{IsSortedBy, IsStableBy}
use Rattle.std.proofs.lemmas.List.MinMax.{ranks_by}
use Rattle.std.proofs.lemmas.List.Sorted.{answers_always}
use Rattle.rowlaws.specs.Rows.{KeysOrdered}
use Rattle.versionlaws.specs.Versions.{Version}
use Rattle.versionlaws.specs.Answering.{version_cmp}
use Rattle.sysversion.specs.declared.version.Version.{Version as Declared}
use Rattle.sysversion.specs.Lists.{version_of}
use Rattle.asof.proofs.Sorting.{sorted_is, order_map}
use Rattle.asof.proofs.found.in_order.Goals as goal
use denote.Ref.{Bor}

version_total : KeysOrdered → IsTotalOrder version_cmp
version_total keys = then_total (on_total (λ (v : Version). v.row.key) keys) (then_total (on_total (λ (v : Version). v.row.period.start) nat_cmp_total) (on_total (λ (v : Version). v.row.system_start) nat_cmp_total))

abbrev seen : Bor Declared → Version
seen v = version_of v.now

pub returns : goal.returns
returns c =
    let versions : IsTotalOrder version_cmp = version_total c.keys_ordered.ensures in
    let total : IsTotalOrder (λ (a b : Bor Declared). version_cmp (seen a) (seen b)) = on_total seen versions in
    let weak = ranks_by versions seen in
    let answers = answers_always _ _ _ (λ f a r q k. search rules) in
    let sorted : IsSortedBy (λ (a b : Bor Declared). is_lt (version_cmp (seen a) (seen b))) c.sort_by.new.self.items = c.in_ok-sort_by.ensures.sorted _ weak answers in
    let stable : IsStableBy (λ (a b : Bor Declared). is_lt (version_cmp (seen a) (seen b))) c.args.versions.items c.sort_by.new.self.items = c.in_ok-sort_by.ensures.stable _ weak answers in
    ap (map seen) (sorted_is (λ (a b : Bor Declared). version_cmp (seen a) (seen b)) total c.args.versions.items c.sort_by.new.self.items sorted stable) ∙ order_map seen version_cmp c.args.versions.items
