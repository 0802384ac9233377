-- A list checked member by member.
use Rattle.std.proofs.Common.{◌≡◌, List, [], ◌∷◌, ◌++◌, Result, Ok, Err, refl, sym, ap, ◌∙◌, append_assoc}
use Rattle.fault.specs.declared.refusal.Refusal.{Refusal}
use Rattle.sqlchecks.specs.Answering.{◌>>=◌, each_of}

-- what is made so far, before what is made of the rest
abbrev pub joined : {B : Type 0} → List B → Result (List B) Refusal → Result (List B) Refusal
joined front (Ok bs) = Ok (front ++ bs)
joined front (Err r) = Err r
