use Rattle.std.proofs.Common.{◌≡◌, ◌∙◌, Option, Some, None, List, [], map, ap, sym, refl}
use Rattle.std.specs.Option.{option_copied, option_map_or}
use Rattle.sysversion.specs.declared.version.Version.{Version}
use Rattle.sysversion.specs.Lists.{version_of, list_in}
use Rattle.sysversion.proofs.OfKey.{list_of_key}
use Rattle.sysversion.proofs.table.TableVersions.of_key.Goals as goal
use denote.Ref.{Bor}

lent : (found : Option (Bor (List Version))) → option_map_or (λ list. map version_of list.now) found [] ≡ list_in (option_copied found)
lent None = refl
lent (Some list) = refl

pub returns : goal.returns
returns c = let s = c.args.self.now in lent c.get.result ∙ ap list_in c.get.ensures.value ∙ sym (list_of_key s.lists s.ordered s.of_keys c.args.key.now)
