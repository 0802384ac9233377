use Rattle.std.proofs.lemmas.Str.{IsUtf8-from_ascii}
use Rattle.sqltokens.proofs.Ascii.{ok_where}
use Rattle.namesyntax.proofs.LawsNames.{name_ascii}
use Rattle.namesyntax.proofs.names.name_from.Goals as goal

pub unwrap-requires : goal.unwrap-requires
unwrap-requires c = ok_where c.from_utf8.result _ _ _ c.from_utf8.ensures.cases (IsUtf8-from_ascii c.args.bytes.now (name_ascii c.args.bytes.now c.requires))
