use Rattle.std.proofs.Common.{◌≡◌, ◌∙◌, ◌++◌, ◌∷◌, [], None, length, map, sym, ap, subst}
use Rattle.std.proofs.lemmas.List.{length-map, map-append}
use Rattle.current.specs.Rows.{row_of}
use Rattle.sysversion.specs.declared.version.Version.{Version}
use Rattle.sysversion.specs.Lists.{version_of}
use Rattle.sysversion.specs.Open.{AreIndexed}
use Rattle.sysversion.proofs.Open.{indexed_more, indexed_back, ok_of, err_of}
use Rattle.sysversion.proofs.version_list.VersionList.open.Goals as goal

pub invariant_of-self-then-is_err : goal.invariant_of-self-then-is_err
invariant_of-self-then-is_err c =
    let versions = c.self.inside.versions in
    let kept : c.push-pushed.new.self ≡ versions = err_of c.push-pushed.result (sym c.is_err.ensures.value ∙ c.if-is_err.true) c.push-pushed.ensures.err in
    let long : c.len.result ≡ length (map version_of versions) = c.len.ensures ∙ sym (length-map versions version_of) in
    let back = indexed_back c.self.inside.open_places c.insert.new.self c.remove.new.self (map version_of versions) c.args.row.period.start.number c.len.result long c.in_ok-insert.ensures.updates c.remove.ensures.updates c.self.invariant in
    subst (λ vs. AreIndexed c.remove.new.self (map version_of vs)) (sym kept) back

pub invariant_of-self-else-is_err : goal.invariant_of-self-else-is_err
invariant_of-self-else-is_err c =
    let versions = c.self.inside.versions in
    let version : Version = record { row = c.args.row; end = None } in
    let pushed : c.push-pushed.new.self ≡ versions ++ version ∷ [] = ok_of c.push-pushed.result (sym c.is_err.ensures.value ∙ c.if-is_err.false) c.push-pushed.ensures.ok in
    let long : c.len.result ≡ length (map version_of versions) = c.len.ensures ∙ sym (length-map versions version_of) in
    let more = indexed_more c.self.inside.open_places c.insert.new.self (map version_of versions) (row_of c.args.row) c.len.result long c.in_ok-insert.ensures.updates c.self.invariant in
    subst (λ vs. AreIndexed c.insert.new.self vs) (sym (ap (map version_of) pushed ∙ map-append version_of versions (version ∷ []))) more
