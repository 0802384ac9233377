use Rattle.std.proofs.Common.{reverse, sym, subst}
use Rattle.apply.specs.Reads.{FewForAll, AreFew}
use Rattle.apply.proofs.tables.Tables.reads.Goals as goal

pub returns-clause-few : goal.returns-clause-few
unfolding AreFew
returns-clause-few c = λ schema list are stamped. subst (λ n. ∥ FewForAll schema (reverse list) n ∥₁) (sym c.reads.ensures) (are.reads stamped)
