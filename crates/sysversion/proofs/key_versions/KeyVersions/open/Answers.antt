use Rattle.std.proofs.Common.{◌≡◌, ◌∙◌, length, map, sym, ap, subst}
use Rattle.std.proofs.lemmas.List.{length-map}
use Rattle.current.specs.Rows.{row_of}
use Rattle.sysversion.specs.Lists.{version_of}
use Rattle.sysversion.specs.Days.{AreReached}
use Rattle.sysversion.proofs.Open.{ok_of, err_of}
use Rattle.sysversion.proofs.Reaching.{reached_more, reached_back}
use Rattle.sysversion.proofs.key_versions.KeyVersions.open.Goals as goal

pub invariant_of-self-then-is_err : goal.invariant_of-self-then-is_err
invariant_of-self-then-is_err c =
    let versions = c.self.inside.list in
    let kept = err_of c.open-opened.result (sym c.is_err.ensures.value ∙ c.if-is_err.true) c.open-opened.ensures.err in
    let long : c.len.result ≡ length (map version_of versions) = c.len.ensures ∙ ap length c.versions.ensures ∙ sym (length-map versions version_of) in
    let back = reached_back c.self.inside.reached c.insert.new.self c.remove.new.self (map version_of versions) c.reach_of.result c.args.row.period.start.number c.len.result long c.in_ok-insert.ensures.updates c.remove.ensures.updates c.self.invariant in
    subst (λ vs. AreReached c.remove.new.self (map version_of vs)) (sym kept) back

pub invariant_of-self-else-is_err : goal.invariant_of-self-else-is_err
invariant_of-self-else-is_err c =
    let versions = c.self.inside.list in
    let opened = ok_of c.open-opened.result (sym c.is_err.ensures.value ∙ c.if-is_err.false) c.open-opened.ensures.ok in
    let long : c.len.result ≡ length (map version_of versions) = c.len.ensures ∙ ap length c.versions.ensures ∙ sym (length-map versions version_of) in
    let more = reached_more c.self.inside.reached c.insert.new.self (map version_of versions) (row_of c.args.row) c.reach_of.result c.len.result long c.reach_of.ensures.covers c.reach_of.ensures.short c.in_ok-insert.ensures.updates c.self.invariant in
    subst (λ vs. AreReached c.insert.new.self vs) (sym opened) more
