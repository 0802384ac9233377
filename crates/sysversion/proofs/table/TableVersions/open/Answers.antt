use Rattle.std.proofs.Common.{◌≡◌, length, ap, sym, subst, arith}
use Rattle.sysversion.specs.Lists.{lists_of}
use Rattle.sysversion.proofs.Kept.{AreKeyed, AreShort, IsLeast, open_keyed, open_short, open_least}
use Rattle.sysversion.proofs.table.TableVersions.open.Goals as goal

pub invariant_of-self : goal.invariant_of-self
invariant_of-self c =
    let s = c.args.self.now in
    let same = sym c.in_err-opened.ensures.err in
    record {
      ordered = c.keys_in_order.ensures;
      of_keys = subst (λ lists. AreKeyed lists) same s.of_keys;
      short = subst (λ lists. AreShort s.columns lists) same s.short;
      least = subst (λ lists. IsLeast s.columns lists) same s.least;
    }

pub invariant_of-self-2 : goal.invariant_of-self-2
invariant_of-self-2 c =
    let s = c.args.self.now in
    let row = c.args.row in
    let old = lists_of s.lists in
    let new = lists_of c.open_row-opened.new.lists in
    let e = c.in_ok-opened.ensures.ok in
    let long : length c.as_slice.result.now ≡ length row.key = ap length c.as_slice.ensures in
    let most = c.max-columns.ensures in
    record {
      ordered = c.keys_in_order.ensures;
      of_keys = open_keyed row old new e s.of_keys;
      short = open_short row old new e s.columns c.max-columns.result (omega (arith, most)) (omega (arith, most, long)) s.short;
      least = λ n short. let both = open_least row old new e s.columns s.least n short in omega (arith, most, long, both.0, both.1);
    }
