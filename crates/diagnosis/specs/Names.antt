-- The names of files as texts.
use Rattle.std.specs.Prelude.{ℕ, List, ◌++◌, codes, decimal}
use Rattle.diagnosis.specs.declared.name.Name.{Name}
use Rattle.diagnosis.specs.declared.name.Name.TheVariants.{Input, Given, OfNode}

-- the name of a file, by which it is found
abbrev pub name_text : Name → List ℕ
name_text Input = codes "standard input"
name_text (Given name) = name.now
name_text (OfNode folder node end) = folder.now ++ codes "/node" ++ decimal node ++ end.now
