use Rattle.std.proofs.Common.{◌≡◌, ◌∙◌, ◌+◌, arith, rules}
use Rattle.playback.proofs.Sendings.{posted_as}
use Rattle.playback.proofs.play.Play.post.Goals as goal

pub returns-in_ok-clone-in-Some-get-clause-sent : goal.returns-in_ok-clone-in-Some-get-clause-sent
returns-in_ok-clone-in-Some-get-clause-sent c =
    let found = c.in-Some-get.ensures.lookup in
    let copy : c.in_ok-clone-in-Some-get.field-0 ≡ c.in-Some-get.post.now.message = search rules in
    let place : c.saturating_add.result ≡ c.in-Some.at + 1 = omega (arith, found.3.0, c.saturating_add.ensures) in (
      posted_as c.deref.result.now c.args.self.now.posts.items c.in-Some.at c.saturating_add.result c.in-Some-get.post.now c.in_ok-clone-in-Some-get.field-0 c.deref.ensures.value found.3.0 found.1 place copy,
      c.in_ok-clone-in-Some-get.ensures.cases.1.0 ∙ c.if-post-member.true,
    )
