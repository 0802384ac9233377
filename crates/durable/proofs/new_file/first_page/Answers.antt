use Rattle.std.proofs.Common.{◌∙◌, ◌++◌, ◌+◌, ◌-◌, ℕ, List, replicate, take, ap}
use Rattle.durable.specs.declared.new_file.TheConstants.{HEAD}
use Rattle.durable.proofs.new_file.first_page.Goals as goal

pub returns : goal.returns
returns c =
    c.in_ok-resize.ensures.items
    ∙ ap (λ (n : ℕ). take 1024 c.extend_from_slice.new.self.items ++ replicate (1024 - n) 0) (c.in_ok-extend_from_slice.ensures.len ∙ ap (λ (n : ℕ). n + 108) c.in_ok-page.ensures.len)
    ∙ ap (λ (xs : List ℕ). take 1024 xs ++ replicate 916 0) (c.in_ok-extend_from_slice.ensures.items ∙ ap (λ (xs : List ℕ). xs ++ HEAD) c.in_ok-page.ensures.items)
