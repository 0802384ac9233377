-- What is played goes on from what happened before, and members are left with what was compared.
use Rattle.std.proofs.Common.{◌≡◌, ◌∙◌, ℕ, zero, suc, List, [], ◌∷◌, ◌++◌, Option, Some, None, Result, Ok, Err, IfOk, true, false, inl, inr, map, refl, sym, ap, subst}
use Rattle.std.specs.Prelude.{◌⊎◌, slice_get}
use Rattle.std.proofs.lemmas.List.{map-append}
use Rattle.keep.specs.Durable.{Durable}
use Rattle.journal.specs.declared.line.Line.{Line}
use Rattle.journal.specs.declared.stored.Summary.{Summary}
use Rattle.journal.specs.declared.line.Line.TheVariants.{Opens, Rests, Life, Clock, Takes, Saves, Made, Ends, Answer, Printed}
use Rattle.believed.specs.Agreement.{Agree, decided}
use Rattle.believed.specs.Explained.{IsDecidedInOrder, IsExplained, WereSubmitted}
use Rattle.model.specs.Transactions.{Language}
use Rattle.model.specs.Worlds.{Event, Start, Stop, new_world}
use Rattle.playback.specs.Histories.{History, and_then}
use Rattle.playback.specs.Playing.{GoesDown, IsLeft, Meets, Plays, Rested}
use Rattle.playback.specs.Scenes.{Scene, happened, met, outset, scene_of, with_member}
use Rattle.playback.specs.Standings.{Standing, Down, Up, Within}
use Rattle.playback.specs.declared.play.Play.{Play}
use Rattle.sqlchecks.specs.Columns.{Tables}
use Rattle.sqlread.specs.Meaning.{language_of}
use Rattle.world.specs.Deeds.{Deed, Happened}
use Rattle.store.specs.Telling.{AreHeard, IsTold}
use Rattle.store.specs.declared.telling.End.{End}
use Rattle.std.specs.List.{flat_map}
use Rattle.storefolder.specs.Hearing.{AreTold, HasHeard, sum_after}
use Rattle.storeaudit.specs.Audit.{AreLeft, IsUpheld, WasPlayed}
use Rattle.storeaudit.specs.Found.{AreAlike, IsAlike, IsNext}
use Rattle.storeaudit.specs.declared.auditing.Audited.{Audited}
use Rattle.storeaudit.specs.declared.auditing.Verdict.TheVariants.{Yes}

-- what a play hears
abbrev Hears : Play → Line → Play → Type 0
Hears old line new = Plays (scene_of old) line (scene_of new)

-- lines that it hears are lines of its scene
heard : (p : Play) (lines : List Line) (q : Play) → AreHeard Hears p lines q → AreHeard Plays (scene_of p) lines (scene_of q)
heard p [] q same = ap scene_of same
heard p (line ∷ lines) q told = (scene_of told.0, told.1, heard told.0 lines q told.2)

text_heard : (before : Option ℕ) (text : List ℕ) (p q : Play) (end : Option End) → IsTold Hears before text p q end → IsTold Plays before text (scene_of p) (scene_of q) end
text_heard before text p q None told = (told.0, ap scene_of told.1)
text_heard before text p q (Some end) told =
    let blocks = told.3 in
    (told.0, told.1, told.2, (blocks.0, blocks.1, heard p (flat_map (λ (lines : List Line). lines) blocks.0) q blocks.2), told.4)

texts_heard : (before after : Option ℕ) (texts : List (List ℕ)) (p q : Play) → AreTold Hears before texts p q after → AreTold Plays before texts (scene_of p) (scene_of q) after
texts_heard before after [] p q told = (ap scene_of told.0, told.1)
texts_heard before after (text ∷ texts) p q told =
    (scene_of told.0, told.1, text_heard before text p told.0 told.1 told.2, texts_heard (sum_after before told.1) after texts told.0 q told.3)

pub all_heard : (count : ℕ) (p q : Play) → HasHeard Hears count p q → HasHeard Plays count (scene_of p) (scene_of q)
all_heard count p q told = (told.0, told.1, told.2, texts_heard told.0 told.1 told.2 p q told.3, told.4)

-- ---- what happened goes on

-- all journals are there, and so many members with these tables had these events
abbrev IsWhole : Scene → Tables → ℕ → List Event → Type 0
IsWhole s tables members events = (s.is_later ≡ false) × (s.history ≡ record { tables = tables; members = members; deeds = map Happened events })

-- the same group, after some events
abbrev Goes : Scene → Scene → Type 0
Goes s t = (tables : Tables) (members : ℕ) (events : List Event) → IsWhole s tables members events → (later : List Event) × IsWhole t tables members later

same : (s t : Scene) → t.is_later ≡ s.is_later → t.history ≡ s.history → Goes s t
same s t first is = λ tables members events was. (events, (first ∙ was.0, is ∙ was.1))

-- nothing but what is waited for, or how members stand, is another
alike_in : (s t u : Scene) → t ≡ u → u.is_later ≡ s.is_later → u.history ≡ s.history → Goes s t
alike_in s t u is first history = same s t (ap (λ (z : Scene). z.is_later) is ∙ first) (ap (λ (z : Scene). z.history) is ∙ history)

one : (s t : Scene) (event : Event) → t.is_later ≡ s.is_later → t.history ≡ and_then s.history event → Goes s t
one s t event first is = λ tables members events was.
    let more : map Happened events ++ Happened event ∷ [] ≡ map Happened (events ++ event ∷ []) = sym (map-append Happened events (event ∷ [])) in (
      events ++ event ∷ [],
      (first ∙ was.0, is ∙ ap (λ (h : History). and_then h event) was.1 ∙ ap (λ (deeds : List Deed). let h : History = record { tables = tables; members = members; deeds = deeds } in h) more),
    )

-- one event happened, and nothing but how members stand, or what is waited for, is another
one_in : (s t u : Scene) (event : Event) → t ≡ u → u.is_later ≡ s.is_later → u.history ≡ and_then s.history event → Goes s t
one_in s t u event is first history = one s t event (ap (λ (z : Scene). z.is_later) is ∙ first) (ap (λ (z : Scene). z.history) is ∙ history)

follows : (s m t : Scene) → Goes s m → Goes m t → Goes s t
follows s m t first next = λ tables members events was.
    let a = first tables members events was in
    next tables members a.0 a.1

down : (s t : Scene) (m : ℕ) → GoesDown s m t → Goes s t
down s t m is = one_in s t (happened (with_member s m Down) is.1) is.1 is.4 refl refl

rested : (s t : Scene) (m : ℕ) (standing : Standing) → Rested s m standing t → Goes s t
rested s t m Up is = one_in s t (happened (with_member s m Down) (Stop m)) (Stop m) is refl refl
rested s t m Down is = alike_in s t s is refl refl
rested s t m (Within job) is = alike_in s t s is refl refl

-- where all journals are there each member goes on as it was
meets : (s t : Scene) (m : ℕ) (found : Summary) → Meets s m found t → Goes s t
meets s t m found (inl is) = alike_in s t s is refl refl
meets s t m found (inr later) = λ tables members events was. absurd (let no : true ≡ false = sym later.0 ∙ was.0 in cc)

plays : (s : Scene) (line : Line) (t : Scene) → Plays s line t → Goes s t
plays s (Opens journal sum marks) t is = alike_in s t _ is refl refl
plays s (Rests m stored) t is = rested s t m is.0 is.2
plays s (Life m stored) t is =
    follows s is.0 t (down s is.0 m is.2)
    (follows is.0 is.1 t (meets is.0 is.1 m stored is.3) (one_in is.1 t (with_member (met (happened is.1 (Start m)) stored.length) m Up) (Start m) is.4 refl refl))
plays s (Clock now) t is = alike_in s t _ is refl refl
plays s (Takes m taken) t is = alike_in s t _ is.2 refl refl
plays s (Saves m stored) t is = alike_in s t s is refl refl
plays s (Made m outcomes) t is = one_in s t _ _ is.5 refl refl
plays s (Ends m) t is = one_in s t _ (Stop m) is.1 refl refl
plays s (Answer m text answer) t is = one_in s t _ _ is.6 refl refl
plays s (Printed client number words) t is = alike_in s t _ is.1 refl refl

all_played : (s : Scene) (lines : List Line) (t : Scene) → AreHeard Plays s lines t → Goes s t
all_played s [] t is = alike_in s t s is refl refl
all_played s (line ∷ lines) t is = follows s is.0 t (plays s line is.0 is.1) (all_played is.0 lines t is.2)

text_played : (before : Option ℕ) (text : List ℕ) (s t : Scene) (end : Option End) → IsTold Plays before text s t end → Goes s t
text_played before text s t None told = alike_in s t s told.1 refl refl
text_played before text s t (Some end) told = all_played s (flat_map (λ (lines : List Line). lines) told.3.0) t told.3.2

texts_played : (before after : Option ℕ) (texts : List (List ℕ)) (s t : Scene) → AreTold Plays before texts s t after → Goes s t
texts_played before after [] s t told = alike_in s t s told.0 refl refl
texts_played before after (text ∷ texts) s t told =
    follows s told.0 t (text_played before text s told.0 told.1 told.2) (texts_played (sum_after before told.1) after texts told.0 t told.3)

left : (s t : Scene) (m : ℕ) (d : Durable) → IsLeft s m d t → Goes s t
left s t m d is =
    let up : Scene = happened is.0 (Start m) in
    follows s is.0 t (down s is.0 m is.1) (follows is.0 up t (one is.0 up (Start m) refl refl) (one_in up t (happened up (Stop m)) (Stop m) is.3 refl refl))

all_left : (s : Scene) (n : ℕ) (missing : List ℕ) (t : Scene) → AreLeft s n missing t → Goes s t
all_left s zero missing t is = alike_in s t s is.1 refl refl
all_left s (suc n) missing t is = follows s is.1 t (all_left s n is.0 is.1 is.2) (next is.3)
  where
    next : ((missing ≡ is.0 ++ suc n ∷ []) × (t ≡ is.1)) ⊎ ((missing ≡ is.0) × (d : Durable) × IsLeft is.1 (suc n) d t) → Goes is.1 t
    next (inl away) = alike_in is.1 t is.1 away.1 refl refl
    next (inr there) = left is.1 t (suc n) there.1 there.2

-- ---- databases that are alike

module _ {I : Type 0} (holds : I → Durable → Type 0) (sound : I → Type 0) where
  next_left : (found : Option (Option I)) (s : Scene) (n : ℕ) (before missing : List ℕ) (t : Scene) → IsNext holds sound found s (suc n) before missing t
      → ((missing ≡ before ++ suc n ∷ []) × (t ≡ s)) ⊎ ((missing ≡ before) × (d : Durable) × IsLeft s (suc n) d t)
  next_left (Some (Some database)) s n before missing t is = inr (is.0, is.1.0, is.1.3)
  next_left (Some None) s n before missing t is = inl is
  next_left None s n before missing t is = absurd is

  pub alike : (databases : List (Option I)) (s : Scene) (n : ℕ) (missing : List ℕ) (t : Scene) → AreAlike holds sound databases s n missing t → AreLeft s n missing t
  alike databases s zero missing t is = is
  alike databases s (suc n) missing t is = (is.0, is.1, alike databases s n is.0 is.1 is.2, next_left (slice_get databases n) is.1 n is.0 missing t is.3)

-- ---- a yes

-- what is said of a play that began with nothing
pub upheld : (audited : Audited) (s t : Scene) → s ≡ outset audited.members (record { tables = audited.schema; members = audited.members; deeds = [] }) false
    → WasPlayed s audited.sessions audited.members audited.missing.items t
    → ((language : Language) (n : ℕ) (events : List Event) → Agree language n (new_world n) events)
    → ((language : Language) (n : ℕ) (events : List Event) → IsExplained language n (new_world n) events)
    → ((language : Language) (n : ℕ) (events : List Event) → WereSubmitted events (decided language n (new_world n) events))
    → ((language : Language) (n : ℕ) (events : List Event) → IsDecidedInOrder language n (new_world n) events)
    → IsUpheld (Yes audited)
upheld audited s t begins played agree explained submitted ordered =
    let mid : Scene = played.0 in
    let texts = played.1 in
    let goes : Goes s t = follows s mid t (texts_played texts.0 texts.1 texts.2 s mid texts.3) (all_left mid audited.members audited.missing.items t played.2) in
    let run = goes audited.schema audited.members [] (ap (λ (z : Scene). z.is_later) begins, ap (λ (z : Scene). z.history) begins) in
    let language : Language = language_of audited.schema in (
      run.0,
      t,
      subst (λ (z : Scene). WasPlayed z audited.sessions audited.members audited.missing.items t) begins played,
      run.1.1,
      (
        agree language audited.members run.0,
        explained language audited.members run.0,
        submitted language audited.members run.0,
        ordered language audited.members run.0,
      ),
    )

-- what follows of what is given
pub ok_more : {A E : Type 0} {P Q : A → Type 0} (r : Result A E) → IfOk r P → ((x : A) → P x → Q x) → IfOk r Q
ok_more (Ok x) p more = more x p
ok_more (Err e) p more = tt
