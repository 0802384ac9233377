use Rattle.storelaws.proofs.one_list.Goals as goal

pub returns : goal.returns
returns g c = λ language n sessions left after. let all = c.one_list_explains_sessions.ensures.sessions language n in (all.list sessions, all.explains sessions after.0)
