use Rattle.std.proofs.Common.{◌∙◌, sym, drop}
use Rattle.storefolder.proofs.Leavings.{left_begins, cut_left, torn_begins, full_not_torn}
use Rattle.storefolder.proofs.torn.is_torn.Goals as goal

pub returns : goal.returns
returns c =
    let left = drop c.args.at c.args.bytes.now in
    let front = c.before_zero.result.now in
    let rest = c.before_zero.ensures.rest in
    let is = sym c.behind.ensures ∙ rest.2 in
    let lacks = c.before_zero.ensures.lacks in
    record {
      cut = λ cut. c.begins_block.ensures.1 (left_begins left front rest.0 is lacks (cut_left left cut));
      parts = λ parts. c.begins_block.ensures.1 (left_begins left front rest.0 is lacks parts);
      full = λ full yes. full_not_torn left full (front, rest.0, c.begins_block.ensures.0 yes, rest.1, is);
      exact = (λ yes. (front, rest.0, c.begins_block.ensures.0 yes, rest.1, is), λ torn. c.begins_block.ensures.1 (torn_begins left front rest.0 is lacks torn));
    }
