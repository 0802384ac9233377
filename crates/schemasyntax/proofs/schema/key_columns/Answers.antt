use Rattle.std.proofs.Common.{◌≡◌, Ok, [], ◌∷◌, ◌++◌, List, Option, ap, subst, ◌∙◌}
use Rattle.std.specs.Option.{option_to_list}
use Rattle.std.proofs.lemmas.List.{map_push}
use Rattle.sqltokens.specs.declared.token.Sign.TheVariants.{Comma}
use Rattle.sqltokens.specs.What.{whats, is_symbol}
use Rattle.phrase.specs.Grammar.{many}
use Rattle.phrase.specs.Reading.{with_front}
use Rattle.namesyntax.specs.declared.forms.Name.{Name}
use Rattle.namesyntax.specs.Names.{Bytes, name_of, names_of, another_name}
use Rattle.schemasyntax.proofs.LawsSchema.{key_columns_read}
use Rattle.schemasyntax.proofs.schema.key_columns.Goals as goal

pub returns : goal.returns
returns c =
    let one : c.push.new.self.items ≡ c.in_ok-first.first ∷ [] = c.in_ok-push.ensures.items ∙ ap (λ (l : List Name). l ++ c.in_ok-first.first ∷ []) c.new-columns.ensures.items in
    let two : c.push-2.new.self.items ≡ c.in_ok-first.first ∷ c.in_ok-second.second ∷ [] = c.in_ok-push-2.ensures.items ∙ ap (λ (l : List Name). l ++ c.in_ok-second.second ∷ []) one in
    let both : names_of c.push-2.new.self.items ≡ name_of c.in_ok-first.first ∷ name_of c.in_ok-second.second ∷ [] = ap names_of two in
    let apart : names_of c.more.new.all.items ≡ names_of c.pop.new.self.items ++ name_of c.unwrap-period.result ∷ [] =
    ap names_of (c.pop.ensures.items ∙ ap (λ (o : Option Name). c.pop.new.self.items ++ option_to_list o) c.unwrap-period.ensures) ∙ map_push name_of c.pop.new.self.items c.unwrap-period.result in
    key_columns_read (whats c.args.cursor.now.rest.now) (whats c.name.new.cursor.rest.now) (whats c.sign.new.cursor.rest.now) (whats c.name-2.new.cursor.rest.now) (whats c.more.new.cursor.rest.now)
    (name_of c.in_ok-first.first) (name_of c.in_ok-second.second) (name_of c.unwrap-period.result) (names_of c.more.new.all.items) (names_of c.pop.new.self.items)
    c.in_ok-first.ensures c.in_ok-sign.ensures c.in_ok-second.ensures
    (subst (λ (l : List Bytes). with_front l ((many (is_symbol Comma) another_name).read (whats c.name-2.new.cursor.rest.now)) ≡ Ok (names_of c.more.new.all.items, whats c.more.new.cursor.rest.now)) both c.in_ok-more.ensures)
    apart
