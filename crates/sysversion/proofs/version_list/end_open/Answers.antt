use Rattle.std.proofs.Common.{◌≡◌, ◌∙◌, true, length, map, sym, ap, subst, arith}
use Rattle.std.specs.Prelude.{slice_set}
use Rattle.std.proofs.lemmas.List.{length-map}
use Rattle.sysversion.specs.Lists.{version_of}
use Rattle.sysversion.specs.Open.{is_open_from, open_from, ended_from, AreIndexed}
use Rattle.sysversion.proofs.Open.{is_there, end_of, some_there, passes_there, indexed_ended, ended_same, one_fewer, none_ended, get_mapped, set_mapped}
use Rattle.sysversion.proofs.Tabled.{got}
use Rattle.sysversion.proofs.version_list.end_open.Goals as goal

pub loop-place-preserved : goal.loop-place-preserved
loop-place-preserved c =
    let s = c.args.start in
    let t = c.args.t in
    let p = c.in-Some.place in
    let inv = c.loop-place.invariant in
    let stored = c.loop-place.versions in
    let versions = map version_of stored in
    let found = c.at_mut.result.now in
    let ended = c.end_at.new.self in
    let there : is_there (is_open_from s) versions p ≡ true = sym (inv.indexed s p) ∙ c.in-Some.ensures.some in
    let less = some_there (is_open_from s) versions p there in
    let long = length-map stored version_of in
    let at = get_mapped version_of stored p found (got stored p found (omega (arith, less, long)) c.at_mut.ensures.item) in
    let so = passes_there (is_open_from s) versions p (version_of found) at there in
    let next : map version_of (slice_set stored p ended) ≡ slice_set versions p (end_of t (version_of found)) = set_mapped version_of stored p ended ∙ ap (slice_set versions p) c.end_at.ensures in
    record {
      indexed = subst (λ vs. AreIndexed c.remove.new.self vs) (sym next) (indexed_ended c.loop-place.open_places c.remove.new.self versions s p t (version_of found) at so c.remove.ensures.updates inv.indexed);
      same = ap (map (ended_from t s)) next ∙ ended_same t s versions p (version_of found) at so ∙ inv.same;
      few =
          let one = one_fewer t s versions p (version_of found) at so in
          let few = ap (λ vs. length (open_from s vs)) next in
          let most = inv.few in
          let counted = c.at_mut.ensures.counted in
          omega (arith, one, few, most, counted);
    }

pub returns-clause-ended : goal.returns-clause-ended
returns-clause-ended c =
    let inv = c.loop-place.invariant in
    sym (none_ended c.args.t c.args.start (map version_of c.loop-place.versions) (λ p. sym (inv.indexed c.args.start p) ∙ c.in_default.ensures.none p)) ∙ inv.same
