-- All sessions are one run.
use Rattle.std.proofs.Common.{◌≡◌, ℕ, zero, suc, false, None, List, [], ◌∷◌, ◌++◌, map, length, replicate, refl, sym, ap, ◌∙◌, subst, append-nil, append_assoc}
use Rattle.std.proofs.lemmas.List.{length-replicate, map-append}
use Rattle.model.specs.Lists.{IsBeginning}
use Rattle.model.specs.Transactions.{Language}
use Rattle.model.specs.declared.message.Message.{Message}
use Rattle.model.specs.Members.{Node}
use Rattle.model.specs.Worlds.{World, Event, Stop, new_world, fresh, stopped, happens, run, GivesAll}
use Rattle.onelist.specs.Explained.{OneListExplains}
use Rattle.safety.proofs.Lists.{get_replicate}
use Rattle.safety.proofs.World.{new_outset}
use Rattle.onelist.proofs.Brought.{new_empty}
use Rattle.safety.proofs.Closing.{new_closing, sealed_rises}
use Rattle.safety.proofs.Agreeing.{agrees}
use Rattle.safety.proofs.Runs.{run_append}
use Rattle.onelist.proofs.Explained.{gives_append, one_list_explains}
use Rattle.sessions.specs.Kills.{durable, stop_all, read_end, opened, AreStopped}
use Rattle.sessions.specs.Sessions.{Session, events_of, IsSession, AreSessions, found_after, new_databases, later, later_output, in_run, joined, joined_gave, so_far, AreOneRun, IsAlone, OneListExplainsAll}
use Rattle.sessions.proofs.Kills.{run_stopped, run_length, halt_sent, halted, end_is_right}
use Rattle.sessions.proofs.Later.{beside, run_beside, all_beside, all_own}

-- ---- outputs of a run in pieces

module _ (language : Language) (n : ℕ) where
  halts_give : (k : ℕ) (w : World) → GivesAll language n w (stop_all k) (replicate k [])
  halts_give zero w = refl
  halts_give (suc k) w = ([], replicate k [], refl, refl, halts_give k (happens language n w (Stop (suc k))))

-- ---- one session in the run

-- a world at the end of a session, or of none
pub record Ended (n : ℕ) (found : List Node) (w : World) : Type 0 where
  pub stopped : AreStopped w
  pub long : length w.nodes ≡ n
  pub holds : durable w ≡ found

module _ (language : Language) (n : ℕ) (found : List Node) (w : World) (E : Ended n found w) where
  pub halted_world : run language n w (stop_all n) ≡ beside w.sent (opened found)
  halted_world =
      let v = run language n w (stop_all n) in
      ap (λ z. let u : World = record { nodes = z; sent = v.sent } in u) (halted language n w E.stopped E.long ∙ E.holds) ∙
      ap (λ z. let u : World = record { nodes = found; sent = z } in u) (halt_sent language n n w ∙ sym (append-nil w.sent))

  pub moment_is : (early : List Event) → run language n w (stop_all n ++ map (later (length w.sent)) early) ≡ beside w.sent (run language n (opened found) early)
  moment_is early = run_append language n (stop_all n) (map (later (length w.sent)) early) w ∙ ap (λ v. run language n v (map (later (length w.sent)) early)) halted_world ∙ run_beside w.sent language n early (opened found)

  pub ended : (s : Session) → IsSession language n found s → Ended n s.left (run language n w (in_run n w s))
  ended s S = record {
    stopped = run_stopped language n (in_run n w s) w E.stopped;
    long = run_length language n (in_run n w s) w ∙ E.long;
    holds = ap durable (moment_is (events_of s) ∙ ap (beside w.sent) (run_append language n s.filed (read_end s.moment) (opened found))) ∙ sym (end_is_right language n (run language n (opened found) s.filed) s.moment s.left S.leaves);
  }

  pub session_gives : (s : Session) → IsSession language n found s → GivesAll language n w (in_run n w s) (replicate n [] ++ map (map (later_output (length w.sent))) s.gave)
  session_gives s S =
      gives_append language n (stop_all n) (map (later (length w.sent)) (events_of s)) w (replicate n []) (map (map (later_output (length w.sent))) s.gave) (halts_give language n n w)
      (subst (λ v. GivesAll language n v (map (later (length w.sent)) (events_of s)) (map (map (later_output (length w.sent))) s.gave)) (sym halted_world) (all_beside w.sent language n (events_of s) (opened found) s.gave S.gives))

-- ---- all sessions

module _ (language : Language) (n : ℕ) where
  pub joined_append : (before after : List Session) (w : World) → joined language n w (before ++ after) ≡ joined language n w before ++ joined language n (run language n w (joined language n w before)) after
  joined_append [] after w = refl
  joined_append (s ∷ ss) after w =
      let v = run language n w (in_run n w s) in
      ap (λ z. in_run n w s ++ z) (joined_append ss after v) ∙
      sym (append_assoc (in_run n w s) (joined language n v ss) (joined language n (run language n v (joined language n v ss)) after)) ∙
      ap (λ u. in_run n w s ++ joined language n v ss ++ joined language n u after) (sym (run_append language n (in_run n w s) (joined language n v ss) w))

  pub all_give : (ss : List Session) (found : List Node) (w : World) → Ended n found w → AreSessions language n found ss → GivesAll language n w (joined language n w ss) (joined_gave language n w ss)
  all_give [] found w E A = refl
  all_give (s ∷ ss) found w E (S, A) =
      let v = run language n w (in_run n w s) in
      gives_append language n (in_run n w s) (joined language n v ss) w (replicate n [] ++ map (map (later_output (length w.sent))) s.gave) (joined_gave language n v ss)
      (session_gives language n found w E s S) (all_give ss s.left v (ended language n found w E s S) A)

  pub ended_after : (before after : List Session) (found : List Node) (w : World) → Ended n found w → AreSessions language n found (before ++ after) → Ended n (found_after found before) (run language n w (joined language n w before))
  ended_after [] after found w E A = E
  ended_after (s ∷ ss) after found w E (S, A) =
      let v = run language n w (in_run n w s) in
      subst (Ended n (found_after s.left ss)) (sym (run_append language n (in_run n w s) (joined language n v ss) w)) (ended_after ss after s.left v (ended language n found w E s S) A)

  pub new_ended : Ended n (new_databases n) (new_world n)
  new_ended = record {
    stopped = get_replicate (λ x. x.up ≡ false → stopped x ≡ x) n (fresh 0 None) (λ d. absurd (cc));
    long = length-replicate n (fresh 0 None);
    holds = refl;
  }

  pub are_one_run : (sessions : List Session) → AreSessions language n (new_databases n) sessions → AreOneRun language n sessions
  are_one_run sessions A = record {
    begins = λ before after p. ap (λ v. v.nodes) (halted_world language n (found_after (new_databases n) before) (so_far language n before)
        (ended_after before after (new_databases n) (new_world n) new_ended (subst (AreSessions language n (new_databases n)) (sym p) A)));
    goes = λ before after s p early late q. ap (λ v. v.nodes) (moment_is language n (found_after (new_databases n) before) (so_far language n before)
        (ended_after before (s ∷ after) (new_databases n) (new_world n) new_ended (subst (AreSessions language n (new_databases n)) (sym p) A)) early);
    gives = all_give sessions (new_databases n) (new_world n) new_ended A;
    agree = agrees language n (new_world n) (new_outset n) (joined language n (new_world n) sessions);
  }

  pub alone : (before : List Message) (found : List Node) (events : List Event) → IsAlone language n before found events
  alone before found events =
      let so : beside before (opened found) ≡ (let v : World = record { nodes = found; sent = before } in v) = ap (λ z. let v : World = record { nodes = found; sent = z } in v) (append-nil before) in
      record {
        same = ap (λ v. (run language n v (map (later (length before)) events)).nodes) (sym so) ∙ ap (λ v. v.nodes) (run_beside before language n events (opened found));
        gives = λ outs g. subst (λ v. GivesAll language n v (map (later (length before)) events) (map (map (later_output (length before))) outs)) so (all_beside before language n events (opened found) outs g);
        no_more = λ outs g. all_own before language n events (opened found) outs (subst (λ v. GivesAll language n v (map (later (length before)) events) outs) (sym so) g);
      }

  pub one_list : OneListExplains language n (new_world n)
  one_list = one_list_explains language n (new_world n) (new_outset n) (new_empty n) (sealed_rises language n (new_world n) (new_outset n) (new_closing n))

  -- what the file has of a session so far is a beginning of what it has later
  within : (sessions more : List Session) (s t : Session) → IsBeginning (events_of s) (events_of t) →
      (rest : List Event) × (joined language n (new_world n) (sessions ++ t ∷ more) ≡ joined language n (new_world n) (sessions ++ s ∷ []) ++ rest)
  within sessions more s t (late, p) =
      let w = so_far language n sessions in
      let before = joined language n (new_world n) sessions in
      let c = length w.sent in
      let others = joined language n (run language n w (in_run n w t)) more in
      let mine : in_run n w t ≡ in_run n w s ++ map (later c) late =
      ap (λ z. stop_all n ++ map (later c) z) (sym p) ∙ ap (λ z. stop_all n ++ z) (map-append (later c) (events_of s) late) ∙ sym (append_assoc (stop_all n) (map (later c) (events_of s)) (map (later c) late)) in
      let this : joined language n (new_world n) (sessions ++ s ∷ []) ≡ before ++ in_run n w s = joined_append sessions (s ∷ []) (new_world n) ∙ ap (λ z. before ++ z) (append-nil (in_run n w s)) in
      let that : joined language n (new_world n) (sessions ++ t ∷ more) ≡ (before ++ in_run n w s) ++ (map (later c) late ++ others) =
      joined_append sessions (t ∷ more) (new_world n) ∙ ap (λ z. before ++ (z ++ others)) mine ∙
      ap (λ z. before ++ z) (append_assoc (in_run n w s) (map (later c) late) others) ∙ sym (append_assoc before (in_run n w s) (map (later c) late ++ others)) in
      (map (later c) late ++ others, that ∙ ap (λ z. z ++ (map (later c) late ++ others)) (sym this))

  pub one_list_explains_all : OneListExplainsAll language n
  one_list_explains_all = record {
    list = λ sessions. one_list.list (joined language n (new_world n) sessions);
    explains = λ sessions A. (one_list.explains (joined language n (new_world n) sessions) (joined_gave language n (new_world n) sessions) (all_give sessions (new_databases n) (new_world n) new_ended A)).0;
    in_order = λ sessions A. (one_list.explains (joined language n (new_world n) sessions) (joined_gave language n (new_world n) sessions) (all_give sessions (new_databases n) (new_world n) new_ended A)).1;
    goes_on = λ sessions more. subst (λ z. IsBeginning (one_list.list (joined language n (new_world n) sessions)) (one_list.list z)) (sym (joined_append sessions more (new_world n)))
        (one_list.goes_on (joined language n (new_world n) sessions) (joined language n (so_far language n sessions) more));
    goes_on_within = λ sessions more s t b. let W = within sessions more s t b in
        subst (λ z. IsBeginning (one_list.list (joined language n (new_world n) (sessions ++ s ∷ []))) (one_list.list z)) (sym W.1) (one_list.goes_on (joined language n (new_world n) (sessions ++ s ∷ [])) W.0);
  }
