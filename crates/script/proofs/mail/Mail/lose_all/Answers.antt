use Rattle.std.proofs.Common.{arith, ◌≡◌, ◌∙◌, length, map, ap, sym, subst}
use Rattle.script.specs.Mail.{as_lost, lost_first, NoneLeft}
use Rattle.script.proofs.Mailing.{all_lost, none_map}
use Rattle.script.proofs.mail.Mail.lose_all.Goals as goal

pub invariant_of-self : goal.invariant_of-self
invariant_of-self c =
    let mail = c.self.inside in
    let all : c.len-self-inside.result ≡ length mail.sent.items = omega (arith, c.len-self-inside.ensures) in (
      omega (arith, c.len-self-inside.ensures),
      subst (λ n. NoneLeft mail.settled (lost_first n mail.sent.items)) (sym all)
          (subst (NoneLeft mail.settled) (sym (all_lost mail.all_lost mail.sent.items)) (none_map mail.settled _ c.self.invariant.1)),
    )

pub returns : goal.returns
returns c =
    let mail = c.self.inside in
    let all : c.len-self-inside.result ≡ length mail.sent.items = omega (arith, c.len-self-inside.ensures) in
    ap (λ n. lost_first n mail.sent.items) all ∙ all_lost mail.all_lost mail.sent.items ∙ ap (map as_lost) c.self.view_is
