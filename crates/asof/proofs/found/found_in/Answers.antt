use Rattle.std.proofs.Common.{◌≡◌, ◌∙◌, length, subst, arith}
use Rattle.std.specs.Prelude.{IfSome}
use Rattle.sqlread.specs.Shapes.{time_of}
use Rattle.sysversion.specs.Versions.{versions_of_table}
use Rattle.asof.specs.Named.{IsNamed}
use Rattle.asof.proofs.Naming.{only_named, few_of_key, few_on_day, few_of_all, few_of_all_on_day, if_ok}
use Rattle.asof.proofs.found.found_in.Goals as goal

pub returns-in-Some-clause-found : goal.returns-in-Some-clause-found
returns-in-Some-clause-found c =
    let versions = versions_of_table c.args.table.now in
    let terms = c.args.terms.now in
    let columns = c.columns.result in
    let key = c.in-Some.key in
    let named : (length key ≡ columns) × IsNamed terms key = subst (λ o. IfSome o (λ k. (length k ≡ columns) × IsNamed terms k)) c.in-Some.is c.in_ok-key.ensures.some in
    if_ok c.found_of_key.result (λ found h. h ∙ only_named (time_of c.args.time.now) terms key columns versions named.0 named.1 c.columns.ensures.bound) c.found_of_key.ensures.found

pub returns-in-Some-clause-few : goal.returns-in-Some-clause-few
returns-in-Some-clause-few c =
    let versions = versions_of_table c.args.table.now in
    let terms = c.args.terms.now in
    let columns = c.columns.result in
    let key = c.in-Some.key in
    let named : (length key ≡ columns) × IsNamed terms key = subst (λ o. IfSome o (λ k. (length k ≡ columns) × IsNamed terms k)) c.in-Some.is c.in_ok-key.ensures.some in
    let most = c.found_of_key.ensures.counted in
    if_ok c.found_of_key.result (λ found h zero. few_of_key terms key columns versions c.found_of_key.new.count named.0 named.1 (omega (arith, zero, most))) c.found_of_key.ensures.found

pub returns-in-None-clause-few : goal.returns-in-None-clause-few
returns-in-None-clause-few c =
    let versions = versions_of_table c.args.table.now in
    let none = c.in_ok-key.ensures.none c.in-None.is in
    if_ok c.found_of_all.result (λ found h zero. few_of_all c.args.terms.now c.columns.result versions c.found_of_all.new.count none c.columns.ensures.least) c.found_of_all.ensures.found

pub returns-in-Some-clause-few_on_day : goal.returns-in-Some-clause-few_on_day
returns-in-Some-clause-few_on_day c =
    let versions = versions_of_table c.args.table.now in
    let terms = c.args.terms.now in
    let columns = c.columns.result in
    let key = c.in-Some.key in
    let named : (length key ≡ columns) × IsNamed terms key = subst (λ o. IfSome o (λ k. (length k ≡ columns) × IsNamed terms k)) c.in-Some.is c.in_ok-key.ensures.some in
    if_ok c.found_of_key.result (λ found h zero. few_on_day terms key columns versions c.found_of_key.new.count named.0 named.1 (λ day asked. let most = c.found_of_key.ensures.few day asked in omega (arith, zero, most))) c.found_of_key.ensures.found

pub returns-in-None-clause-few_on_day : goal.returns-in-None-clause-few_on_day
returns-in-None-clause-few_on_day c =
    let versions = versions_of_table c.args.table.now in
    let none = c.in_ok-key.ensures.none c.in-None.is in
    if_ok c.found_of_all.result (λ found h zero. few_of_all_on_day c.args.terms.now c.columns.result versions c.found_of_all.new.count none c.columns.ensures.least) c.found_of_all.ensures.found
