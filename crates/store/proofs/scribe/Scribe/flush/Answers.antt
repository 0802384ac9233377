use Rattle.std.proofs.Common.{◌≡◌, ◌≢◌, [], arith, length, string_bytes, refl, rules}
use Rattle.store.proofs.Continuing.{continues_same, continues_torn, continues_written}
use Rattle.store.proofs.Written.{none_long, on_err}
use Rattle.store.proofs.scribe.Scribe.flush.Goals as goal

pub returns-in_err-check-clause-lost : goal.returns-in_err-check-clause-lost
returns-in_err-check-clause-lost g c = on_err _ (continues_same g.J.Device.contents c.args.self.now)

pub returns-then-is_empty-clause-continues : goal.returns-then-is_empty-clause-continues
returns-then-is_empty-clause-continues g c = (λ empty. continues_same g.J.Device.contents c.args.self.now, λ some. absurd (let long : length (string_bytes c.args.self.now.buffer) ≡ 0 = grind arith in some (none_long (string_bytes c.args.self.now.buffer) long)))

pub returns-in-Ok-clause-continues : goal.returns-in-Ok-clause-continues
returns-in-Ok-clause-continues g c = (
  λ empty. absurd (let no : string_bytes c.args.self.now.buffer ≢ [] = search rules in no empty),
  λ some. continues_written g.J.Device.contents c.args.self.now c.write.new.self c.in_ok-check.ensures.ok c.in-Ok.ensures.ok c.in-Ok.ensures.empty c.in-Ok.ensures.sum c.write.ensures.same.1 some,
)

pub returns-in-Err-clause-lost : goal.returns-in-Err-clause-lost
returns-in-Err-clause-lost g c = continues_torn g.J.Device.contents c.args.self.now _ c.in_ok-check.ensures.ok refl c.in-Err.ensures.err c.write.ensures.same.1
