-- What is told, and what is written of it, one after another.
use Rattle.std.proofs.Common.{◌≡◌, ◌∙◌, ℕ, ℤ, ◌+◌, ◌<◌, ◌≤◌, inl, inr, Option, Some, None, List, [], ◌∷◌, ◌++◌, get_or, length, map, take, cond, nat_lt, refl, sym, ap, subst, append_assoc, append-nil, arith}
use Rattle.std.specs.Prelude.{All, max}
use Rattle.std.proofs.lemmas.Bool.{lt-ltb, le-ltb}
use Rattle.std.proofs.lemmas.List.{map-append, take_more}
use Rattle.std.proofs.lemmas.List.Elements.{All-head, All-tail}
use Rattle.flight.specs.declared.outcome.Outcome.{Outcome}
use Rattle.flight.specs.Telling.{outcome_of, outcomes_of}
use Rattle.model.specs.declared.entry.Told.{Told}
use Rattle.model.specs.declared.message.Message.{Message}
use Rattle.model.specs.Transactions.{Language}
use Rattle.model.specs.Worlds.{Event, GivesAll, Gives, Output, Start, Stop, World, happens, numbered, run}
use Rattle.model.specs.Worlds.Output.{Sent, Applied, Refused, Answered}
use Rattle.journal.specs.declared.line.Line.{Line}
use Rattle.journal.specs.declared.line.Taken.{Taken}
use Rattle.journal.specs.declared.stored.Summary.{Summary}
use Rattle.journal.specs.declared.line.Line.TheVariants.{Opens, Rests, Life, Clock, Takes, Saves, Made, Ends, Answer, Printed}
use Rattle.store.specs.Noting.{AreWritten, IsEnd, IsIdle, LeadAll, Leads, Step, first_told, noted_after, step_of, told_in}
use Rattle.store.specs.Recording.{IsSilent, IsStartOrStop, IsTrue, NobodySays, RecordAll, Records, reading_after}
use Rattle.store.proofs.Recording.{all_left, all_right}

-- ---- what is told

pub told_in-append : (xs ys : List Output) → told_in (xs ++ ys) ≡ told_in xs ++ told_in ys
told_in-append [] ys = refl
told_in-append (Sent number message ∷ xs) ys = told_in-append xs ys
told_in-append (Applied m told ∷ xs) ys = ap (λ (l : List Told). told ∷ l) (told_in-append xs ys)
told_in-append (Refused m refusal ∷ xs) ys = told_in-append xs ys
told_in-append (Answered m answer ∷ xs) ys = told_in-append xs ys

sent_none : (k : ℕ) (messages : List Message) → told_in (numbered k messages) ≡ []
sent_none k [] = refl
sent_none k (message ∷ more) = sent_none (k + 1) more

applied_all : (m : ℕ) (told : List Told) → told_in (map (Applied m) told) ≡ told
applied_all m [] = refl
applied_all m (one ∷ more) = ap (λ (l : List Told). one ∷ l) (applied_all m more)

-- what a step tells that sent some messages
pub step_told : (k m : ℕ) (sent : List Message) (told : List Told) → told_in (numbered k sent ++ map (Applied m) told) ≡ told
step_told k m sent told =
    told_in-append (numbered k sent) (map (Applied m) told)
    ∙ ap (λ (l : List Told). l ++ told_in (map (Applied m) told)) (sent_none k sent)
    ∙ applied_all m told

-- ---- what is told first by some, and then by more

pub noted_after-append : (noted : ℕ) (xs ys : List Told) → noted_after noted (xs ++ ys) ≡ noted_after (noted_after noted xs) ys
noted_after-append noted [] ys = refl
noted_after-append noted (x ∷ xs) ys = noted_after-append (max noted x.index) xs ys

pub first_told-append : (noted : ℕ) (xs ys : List Told) → first_told noted (xs ++ ys) ≡ first_told noted xs ++ first_told (noted_after noted xs) ys
first_told-append noted [] ys = refl
first_told-append noted (x ∷ xs) ys =
    let front : List Told = cond (nat_lt noted x.index) (x ∷ []) [] in
    ap (λ (l : List Told). front ++ l) (first_told-append (max noted x.index) xs ys)
    ∙ sym (append_assoc front (first_told (max noted x.index) xs) (first_told (noted_after (max noted x.index) xs) ys))

-- ---- lines one after another

pub led_both : (one two : List Line) (a b c : ℕ) (r s t : Option Step) (early late : List (List Output)) → LeadAll a r early one b s → LeadAll b s late two c t → LeadAll a r (early ++ late) (one ++ two) c t
led_both [] two a b c r s t early late x y =
    subst (λ (gave : List (List Output)). LeadAll a r (gave ++ late) two c t) (sym x.0)
    (subst (λ (n : ℕ). LeadAll n r late two c t) x.1 (subst (λ (q : Option Step). LeadAll b q late two c t) x.2 y))
led_both (line ∷ one) two a b c r s t early late (first, rest, mid, on, is, leads, more) y =
    (first, rest ++ late, mid, on, ap (λ (gave : List (List Output)). gave ++ late) is ∙ append_assoc first rest late, leads, led_both one two mid b c on s t rest late more y)

-- lines that record no event and end no step
pub silent_lead : (noted : ℕ) (step : Option Step) (lines : List Line) → All IsSilent lines → LeadAll noted step [] lines noted step
silent_lead noted step [] silent = (refl, refl, refl)
silent_lead noted step (line ∷ lines) silent = ([], [], noted, step, refl, go line (All-head IsSilent line lines silent), silent_lead noted step lines (All-tail IsSilent line lines silent))
  where
    go : (line : Line) → IsSilent line → Leads noted step [] line noted step
    go (Opens journal sum marks) s = (refl, refl, refl)
    go (Rests m stored) s = (refl, refl, refl)
    go (Life m stored) s = absurd s
    go (Clock now) s = (refl, refl, refl)
    go (Takes m taken) s = absurd s
    go (Saves m stored) s = (refl, refl, refl)
    go (Made m outcomes) s = absurd s
    go (Ends m) s = absurd s
    go (Answer m query answer) s = (refl, refl, refl)
    go (Printed client number words) s = (refl, refl, refl)

-- ---- what is written

pub written_both : (a b c : ℕ) (early late : List (List Output)) (one two : List Line) → AreWritten a early one b → AreWritten b late two c → AreWritten a (early ++ late) (one ++ two) c
written_both a b c early late one two x y = λ step idle.
    let first = x step idle in
    let more = y first.0 first.1 in
    (more.0, more.1, led_both one two a b c step first.0 more.0 early late first.2 more.2)

-- nothing is given
pub written_silent : (noted last : ℕ) (gave : List (List Output)) (lines : List Line) → gave ≡ [] → All IsSilent lines → last ≡ noted → AreWritten noted gave lines last
written_silent noted last gave lines none silent same = λ step idle.
    (step, idle, subst (λ (n : ℕ). LeadAll noted step gave lines n step) (sym same) (subst (λ (g : List (List Output)). LeadAll noted step g lines noted step) (sym none) (silent_lead noted step lines silent)))

-- a start, and a stop
pub life_written : (noted last m : ℕ) (stored : Summary) (gave : List (List Output)) → gave ≡ [] ∷ [] → last ≡ noted → AreWritten noted gave (Life m stored ∷ []) last
life_written noted last m stored gave is same = λ step idle. (None, tt, ([] ∷ [], [], last, None, is, (refl, idle, same, refl), (refl, refl, refl)))

pub end_written : (noted last m : ℕ) (gave : List (List Output)) → gave ≡ [] ∷ [] → last ≡ noted → AreWritten noted gave (Ends m ∷ []) last
end_written noted last m gave is same = λ step idle. (None, tt, ([] ∷ [], [], last, None, is, (refl, idle, same, refl), (refl, refl, refl)))

-- a step, which has an end
pub step_written : (noted last m : ℕ) (taken : Taken) (outs : List Output) (told : List Told) (quiet lines : List Line) → told_in outs ≡ told → All IsSilent quiet → IsEnd m noted told lines last → AreWritten noted (outs ∷ []) (Takes m taken ∷ (quiet ++ lines)) last
step_written noted last m taken outs told quiet lines is silent end = λ step idle.
    let mid = noted_after noted (told_in outs) in
    let on : Option Step = Some (step_of noted m (told_in outs)) in
    let ends : LeadAll mid on [] lines last None = subst (λ (t : List Told). IsEnd m noted t lines last) (sym is) end in
    (None, tt, (outs ∷ [], [], mid, on, refl, (outs, refl, idle, refl, refl), led_both quiet lines mid mid last on on None [] [] (silent_lead mid on quiet silent) ends))

-- a step that told nothing, and has none
pub fall_written : (noted last m : ℕ) (taken : Taken) (outs : List Output) (quiet : List Line) → told_in outs ≡ [] → All IsSilent quiet → last ≡ noted → AreWritten noted (outs ∷ []) (Takes m taken ∷ quiet) last
fall_written noted last m taken outs quiet none silent same = λ step idle.
    let mid = noted_after noted (told_in outs) in
    let on : Option Step = Some (step_of noted m (told_in outs)) in
    let stays : mid ≡ last = ap (noted_after noted) none ∙ sym same in
    (on, ap (λ (t : List Told). outcomes_of (first_told noted t)) none, (outs ∷ [], [], mid, on, refl, (outs, refl, idle, refl, refl), subst (λ (n : ℕ). LeadAll mid on [] quiet n on) stays (silent_lead mid on quiet silent)))

-- the end of a step
pub made_end : (m noted last : ℕ) (told : List Told) (outcomes : List Outcome) (lines : List Line) → outcomes ≡ outcomes_of (first_told noted told) → last ≡ noted_after noted told → All IsSilent lines → IsEnd m noted told (Made m outcomes ∷ lines) last
made_end m noted last told outcomes lines are same silent =
    let mid = noted_after noted told in
    let with_due : List Outcome → Option Step = λ os. Some (record { member = m; due = os }) in
    ([], [], mid, None, refl, (refl, ap with_due (sym are), refl, refl), subst (λ (n : ℕ). LeadAll mid None [] lines n None) (sym same) (silent_lead mid None lines silent))

-- ---- starts and stops

module _ (language : Language) (n : ℕ) where
  -- what the first of these events gave, and what the others did
  given_parts : (one two : List Event) (w : World) (gave : List (List Output)) → GivesAll language n w (one ++ two) gave → (first rest : List (List Output)) × (gave ≡ first ++ rest) × GivesAll language n w one first × GivesAll language n (run language n w one) two rest
  given_parts [] two w gave g = ([], gave, refl, refl, g)
  given_parts (e ∷ one) two w gave (out, rest, is, first, more) =
      let next = given_parts one two (happens language n w e) rest more in
      (out ∷ next.0, next.1, is ∙ ap (λ (x : List (List Output)). out ∷ x) next.2, (out, next.0, refl, first, next.3), next.4)

  gave_none : (events : List Event) (w : World) (gave : List (List Output)) → events ≡ [] → GivesAll language n w events gave → gave ≡ []
  gave_none events w gave none g = subst (λ (es : List Event). GivesAll language n w es gave) none g

  idle_gives : (e : Event) (w : World) (out : List Output) → IsStartOrStop e → Gives language n w e out → out ≡ []
  idle_gives e w out (m, inl start) gives = subst (λ (x : Event). Gives language n w x out) start gives
  idle_gives e w out (m, inr stop) gives = subst (λ (x : Event). Gives language n w x out) stop gives

  gave_one : (events : List Event) (e : Event) (w : World) (gave : List (List Output)) → events ≡ e ∷ [] → All IsStartOrStop events → GivesAll language n w events gave → gave ≡ [] ∷ []
  gave_one events e w gave one idle g =
      let given : GivesAll language n w (e ∷ []) gave = subst (λ (es : List Event). GivesAll language n w es gave) one g in
      let is = idle_gives e w given.0 (All-head IsStartOrStop e [] (subst (All IsStartOrStop) one idle)) given.3 in
      given.2 ∙ ap (λ (out : List Output). out ∷ given.1) is ∙ ap (λ (rest : List (List Output)). [] ∷ rest) given.4

  idle_lead : (w : World) (reading : Option ℤ) (noted : ℕ) (step : Option Step) (line : Line) (events : List Event) (gave : List (List Output)) → IsIdle step → Records w reading line events → IsTrue NobodySays line → All IsStartOrStop events → GivesAll language n w events gave →
      (left : Option Step) × IsIdle left × Leads noted step gave line noted left
  idle_lead w reading noted step (Opens journal sum marks) events gave idle r t all g = (step, idle, (gave_none events w gave r g, refl, refl))
  idle_lead w reading noted step (Rests m stored) events gave idle r t all g = (step, idle, (gave_none events w gave r g, refl, refl))
  idle_lead w reading noted step (Life m stored) events gave idle r t all g = (None, tt, (gave_one events (Start m) w gave r.0 all g, idle, refl, refl))
  idle_lead w reading noted step (Clock now) events gave idle r t all g = (step, idle, (gave_none events w gave r g, refl, refl))
  idle_lead w reading noted step (Takes m taken) events gave idle (now, shown, event, is, are) t all g = (Some (step_of noted m []), refl, ([], gave_one events event w gave are all g, idle, refl, refl))
  idle_lead w reading noted step (Saves m stored) events gave idle r t all g = (step, idle, (gave_none events w gave r g, refl, refl))
  idle_lead w reading noted step (Made m outcomes) events gave idle r t all g = absurd t
  idle_lead w reading noted step (Ends m) events gave idle r t all g = (None, tt, (gave_one events (Stop m) w gave r all g, idle, refl, refl))
  idle_lead w reading noted step (Answer m query answer) events gave idle r t all g = (step, idle, (gave_none events w gave r g, refl, refl))
  idle_lead w reading noted step (Printed client number words) events gave idle r t all g = (step, idle, (gave_none events w gave r g, refl, refl))

  -- lines that record these and nothing else, and end no step
  pub idle_written : (lines : List Line) (w : World) (reading : Option ℤ) (noted : ℕ) (events : List Event) (gave : List (List Output)) → RecordAll language n w reading lines events → All (IsTrue NobodySays) lines → All IsStartOrStop events → GivesAll language n w events gave → AreWritten noted gave lines noted
  idle_written [] w reading noted events gave none true all g = λ step idle. (step, idle, (gave_none events w gave none g, refl, refl))
  idle_written (line ∷ lines) w reading noted events gave (first, rest, one, more, is) true all g = λ step idle.
      let parts = given_parts first rest w gave (subst (λ (es : List Event). GivesAll language n w es gave) is g) in
      let split = subst (All IsStartOrStop) is all in
      let here = idle_lead w reading noted step line first parts.0 idle one (All-head (IsTrue NobodySays) line lines true) (all_left IsStartOrStop first rest split) parts.3 in
      let then_those = idle_written lines (run language n w first) (reading_after reading line) noted rest parts.1 more (All-tail (IsTrue NobodySays) line lines true) (all_right IsStartOrStop first rest split) parts.4 here.0 here.1 in
      (then_those.0, then_those.1, (parts.0, parts.1, noted, here.0, parts.2, here.2, then_those.2))

-- ---- one after another

module _ (old : ℕ) (told : List Told) where
  -- of the first so many those that are told for the first time have these outcomes, and this is the last entry of which is told
  pub record IsNoted (i noted : ℕ) (outcomes : List Outcome) : Type 0 where
    pub last : noted ≡ noted_after old (take i told)
    pub are : outcomes ≡ outcomes_of (first_told old (take i told))

  last_more : (i : ℕ) (one : Told) → i < length told → one ≡ get_or told i one → noted_after old (take (i + 1) told) ≡ max (noted_after old (take i told)) one.index
  last_more i one within is = ap (noted_after old) (take_more told i one within) ∙ noted_after-append old (take i told) (get_or told i one ∷ []) ∙ ap (λ (t : Told). max (noted_after old (take i told)) t.index) (sym is)

  first_more : (i : ℕ) (one : Told) → i < length told → one ≡ get_or told i one
      → outcomes_of (first_told old (take (i + 1) told)) ≡ outcomes_of (first_told old (take i told)) ++ outcomes_of (cond (nat_lt (noted_after old (take i told)) one.index) (one ∷ []) [] ++ [])
  first_more i one within is =
      ap (λ (t : List Told). outcomes_of (first_told old t)) (take_more told i one within)
      ∙ ap outcomes_of (first_told-append old (take i told) (get_or told i one ∷ []))
      ∙ map-append outcome_of (first_told old (take i told)) (first_told (noted_after old (take i told)) (get_or told i one ∷ []))
      ∙ ap (λ (t : Told). outcomes_of (first_told old (take i told)) ++ outcomes_of (cond (nat_lt (noted_after old (take i told)) t.index) (t ∷ []) [] ++ [])) (sym is)

  pub noted_none : IsNoted 0 old []
  noted_none = record { last = refl; are = refl }

  pub noted_more : (i noted : ℕ) (outcomes : List Outcome) (one : Told) → i < length told → one ≡ get_or told i one → noted < one.index → IsNoted i noted outcomes → IsNoted (i + 1) one.index (outcomes ++ outcome_of one ∷ [])
  noted_more i noted outcomes one within is later n =
      let last = n.last in
      record {
        last = omega (arith, later, last, last_more i one within is);
        are = ap (λ (l : List Outcome). l ++ outcome_of one ∷ []) n.are
            ∙ sym (first_more i one within is
            ∙ ap (λ b. outcomes_of (first_told old (take i told)) ++ outcomes_of (cond b (one ∷ []) [] ++ [])) (lt-ltb (noted_after old (take i told)) one.index (omega (arith, later, last))));
      }

  -- one that is not past the last is none
  pub noted_still : (i noted : ℕ) (outcomes : List Outcome) (one : Told) → i < length told → one ≡ get_or told i one → one.index ≤ noted → IsNoted i noted outcomes → IsNoted (i + 1) noted outcomes
  noted_still i noted outcomes one within is early n =
      let last = n.last in
      record {
        last = omega (arith, early, last, last_more i one within is);
        are = n.are
            ∙ sym (first_more i one within is
            ∙ ap (λ b. outcomes_of (first_told old (take i told)) ++ outcomes_of (cond b (one ∷ []) [] ++ [])) (le-ltb (noted_after old (take i told)) one.index (omega (arith, early, last)))
            ∙ append-nil (outcomes_of (first_told old (take i told))));
      }

  -- all of them
  pub noted_all : (i noted : ℕ) (outcomes : List Outcome) → take i told ≡ told → IsNoted i noted outcomes → (outcomes ≡ outcomes_of (first_told old told)) × (noted ≡ noted_after old told)
  noted_all i noted outcomes all n = (n.are ∙ ap (λ (t : List Told). outcomes_of (first_told old t)) all, n.last ∙ ap (noted_after old) all)
