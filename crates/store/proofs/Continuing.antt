-- A journal that goes on.
use Rattle.std.proofs.Common.{◌≡◌, ◌≢◌, ◌∙◌, ◌⊎◌, ⊎_elim, ℕ, ℤ, Option, Some, None, Result, Ok, Err, OnOk, OnErr, List, [], ◌∷◌, ◌++◌, refl, sym, ap, subst, append-nil, append_assoc, map, string_bytes}
use Rattle.std.specs.Prelude.{All, IsSome, decimal, length}
use Rattle.std.specs.Io.KnownBytes.{append_known}
use Rattle.std.proofs.lemmas.List.Elements.{All-nil, All-cons, All-head, All-tail}
use Rattle.flight.specs.Additions.{Adds}
use Rattle.flight.specs.Spelling.{number_text}
use Rattle.journal.specs.Blocks.{sum_after, block_text, blocks_text, last_sum}
use Rattle.journal.specs.Spelling.{line_text}
use Rattle.journal.specs.declared.line.Line.{Line}
use Rattle.store.specs.declared.device.DeviceError.{DeviceError}
use Rattle.store.specs.declared.scribe.Scribe.{Scribe}
use Rattle.store.specs.declared.voice.Voice.{Voice}
use Rattle.store.specs.Announcing.{HasContinued, HasFiled, HasWaited}
use Rattle.store.specs.Continuing.{Continues, IsBlockWritten, IsContinued, IsKeptOn, IsUnfiled, bodies_of, left_of, reading_in}
use Rattle.store.specs.Journals.{IsSpent}
use Rattle.store.specs.Lines.{Lines, and_then, behind, lines_in, no_lines, one_block, rest_behind, waiting}
use Rattle.store.specs.Recording.{IsSilent, last_reading, reading_after}
use Rattle.store.specs.Writing.{AppendsPart, IsWritten, IsSummed, lines_text}
use Rattle.store.proofs.Lines.{lines_then, none_first, some_behind, then_none}
use Rattle.store.proofs.Recording.{last_both as readings_both, silent_both, silent_one}
use Rattle.store.proofs.Texts.{lines_both}
use Rattle.store.proofs.Written.{append_nothing, line_added}

-- ---- texts of blocks

block_rest : (sum : ℕ) (body rest : List ℕ) → block_text sum body rest ≡ block_text sum body [] ++ rest
block_rest sum body rest = sym (
    append_assoc (decimal (length body)) (32 ∷ number_text 10 (sum_after sum body) (body ++ [])) rest
    ∙ ap (λ (x : List ℕ). decimal (length body) ++ 32 ∷ x) (
    append_assoc (decimal (sum_after sum body)) (10 ∷ (body ++ [])) rest
    ∙ ap (λ (x : List ℕ). decimal (sum_after sum body) ++ 10 ∷ (x ++ rest)) (append-nil body)
    )
    )

pub none_some : {A : Type 0} (o : Option A) → o ≡ None → IsSome o → ⊥
none_some None is k = cc k
none_some (Some x) is k = cc is

blocks_rest : (sum : ℕ) (bodies : List (List ℕ)) (rest : List ℕ) → blocks_text sum bodies rest ≡ blocks_text sum bodies [] ++ rest
blocks_rest sum [] rest = refl
blocks_rest sum (body ∷ bodies) rest =
    block_rest sum body (blocks_text (sum_after sum body) bodies rest)
    ∙ ap (λ (x : List ℕ). block_text sum body [] ++ x) (blocks_rest (sum_after sum body) bodies rest)
    ∙ sym (append_assoc (block_text sum body []) (blocks_text (sum_after sum body) bodies []) rest)
    ∙ ap (λ (x : List ℕ). x ++ rest) (sym (block_rest sum body (blocks_text (sum_after sum body) bodies [])))

last_both : (sum : ℕ) (one two : List (List ℕ)) → last_sum sum (one ++ two) ≡ last_sum (last_sum sum one) two
last_both sum [] two = refl
last_both sum (body ∷ one) two = last_both (sum_after sum body) one two

blocks_both : (sum : ℕ) (one two : List (List ℕ)) (rest : List ℕ) → blocks_text sum (one ++ two) rest ≡ blocks_text sum one (blocks_text (last_sum sum one) two rest)
blocks_both sum [] two rest = refl
blocks_both sum (body ∷ one) two rest = ap (block_text sum body) (blocks_both (sum_after sum body) one two rest)

filled_both : (one two : List (List ℕ)) → All (λ (body : List ℕ). body ≢ []) one → All (λ (body : List ℕ). body ≢ []) two → All (λ (body : List ℕ). body ≢ []) (one ++ two)
filled_both [] two a b = b
filled_both (body ∷ one) two a b = All-cons (λ (body : List ℕ). body ≢ []) body (one ++ two) (All-head (λ (body : List ℕ). body ≢ []) body one a) (filled_both one two (All-tail (λ (body : List ℕ). body ≢ []) body one a) b)

known_both : (held : Option (List ℕ)) (a b : List ℕ) → append_known (append_known held a) b ≡ append_known held (a ++ b)
known_both None a b = refl
known_both (Some xs) a b = ap Some (append_assoc xs a b)

-- ---- texts of lines of two calls

text_joined : (buffer : List ℕ) (one two : List Line) → buffer ++ lines_text (one ++ two) ≡ (buffer ++ lines_text one) ++ lines_text two
text_joined buffer one two = ap (λ (x : List ℕ). buffer ++ x) (lines_both one two) ∙ sym (append_assoc buffer (lines_text one) (lines_text two))

bodies_joined : (buffer : List ℕ) (one : List (List Line)) (rest : List Line) (two : List (List Line)) → bodies_of buffer (one ++ behind rest two) ≡ bodies_of buffer one ++ bodies_of (left_of buffer one rest) two
bodies_joined buffer [] rest [] = refl
bodies_joined buffer [] rest (group ∷ two) = ap (λ (x : List ℕ). x ∷ bodies_of [] two) (text_joined buffer rest group)
bodies_joined buffer (group ∷ one) rest two = ap (λ (x : List (List ℕ)). (buffer ++ lines_text group) ∷ x) (bodies_joined [] one rest two)

left_joined : (buffer : List ℕ) (one : List (List Line)) (rest : List Line) (two : List (List Line)) (more : List Line) → left_of buffer (one ++ behind rest two) (rest_behind rest two more) ≡ left_of (left_of buffer one rest) two more
left_joined buffer [] rest [] more = text_joined buffer rest more
left_joined buffer [] rest (group ∷ two) more = refl
left_joined buffer (group ∷ one) rest two more = left_joined [] one rest two more

-- ---- of an empty buffer

pub bodies_alone : (groups : List (List Line)) → bodies_of [] groups ≡ map lines_text groups
bodies_alone [] = refl
bodies_alone (group ∷ groups) = ap (λ (x : List (List ℕ)). lines_text group ∷ x) (bodies_alone groups)

pub left_alone : (groups : List (List Line)) (rest : List Line) → left_of [] groups rest ≡ lines_text rest
left_alone [] rest = refl
left_alone (group ∷ groups) rest = left_alone groups rest

module _ {J : Type 0} (contents : J → Option (List ℕ)) where
  -- ---- one call

  pub continues_same : (s : Scribe J) → Continues contents s s no_lines
  continues_same s = record {
    front = [];
    back = block_text s.sum (string_bytes s.buffer ++ []) [];
    filled = All-nil (λ (body : List ℕ). body ≢ []);
    torn = refl;
    device = sym (append_nothing (contents s.device));
    live = λ up. (refl, sym (append-nil (string_bytes s.buffer)), refl);
    reading = refl;
    spent = λ k. (refl, refl);
  }

  pub continues_with : (s t : Scribe J) (line : Line) → s.failure ≡ None → Adds (string_bytes s.buffer) (string_bytes t.buffer) (line_text line) → t.device ≡ s.device → t.sum ≡ s.sum
      → t.reading ≡ reading_after s.reading line → Continues contents s t (waiting (line ∷ []))
  continues_with s t line up added device sum reading = record {
    front = [];
    back = block_text s.sum (string_bytes s.buffer ++ lines_text (line ∷ [])) [];
    filled = All-nil (λ (body : List ℕ). body ≢ []);
    torn = refl;
    device = ap contents device ∙ sym (append_nothing (contents s.device));
    live = λ up. (refl, line_added (string_bytes s.buffer) (string_bytes t.buffer) line added, sum);
    reading = reading;
    spent = λ k. absurd (none_some s.failure up k);
  }

  -- an error that wrote nothing
  pub continues_failed : (s t : Scribe J) → s.failure ≡ None → IsSome t.failure → t.device ≡ s.device → t.reading ≡ s.reading → Continues contents s t no_lines
  continues_failed s t up failed device reading = record {
    front = [];
    back = block_text s.sum (string_bytes s.buffer ++ []) [];
    filled = All-nil (λ (body : List ℕ). body ≢ []);
    torn = refl;
    device = ap contents device ∙ sym (append_nothing (contents s.device));
    live = λ up. absurd (none_some t.failure up failed);
    reading = reading;
    spent = λ k. absurd (none_some s.failure up k);
  }

  pub continues_written : (s t : Scribe J) → s.failure ≡ None → IsWritten (contents s.device) (contents t.device) s.sum (string_bytes s.buffer) → string_bytes t.buffer ≡ [] → IsSummed s.sum t.sum (string_bytes s.buffer)
      → t.reading ≡ s.reading → string_bytes s.buffer ≢ [] → Continues contents s t (one_block [])
  continues_written s t up written empty summed reading some = record {
    front = [];
    back = block_text (sum_after s.sum (string_bytes s.buffer ++ [])) [] [];
    filled = All-cons (λ (body : List ℕ). body ≢ []) (string_bytes s.buffer ++ []) [] (λ none. some (sym (append-nil (string_bytes s.buffer)) ∙ none)) (All-nil (λ (body : List ℕ). body ≢ []));
    torn = refl;
    device = written.1 some ∙ ap (λ (text : List ℕ). append_known (contents s.device) (block_text s.sum text [])) (sym (append-nil (string_bytes s.buffer)));
    live = λ up. (refl, empty, summed.1 some ∙ ap (sum_after s.sum) (sym (append-nil (string_bytes s.buffer))));
    reading = reading;
    spent = λ k. absurd (none_some s.failure up k);
  }

  -- an error that may have written a beginning of a block
  pub continues_torn : (s t : Scribe J) → s.failure ≡ None → IsSome t.failure → AppendsPart (contents s.device) (contents t.device) (block_text s.sum (string_bytes s.buffer) []) → t.reading ≡ s.reading → Continues contents s t no_lines
  continues_torn s t up failed part reading = record {
    front = part.0;
    back = part.1;
    filled = All-nil (λ (body : List ℕ). body ≢ []);
    torn = ap (λ (text : List ℕ). block_text s.sum text []) (append-nil (string_bytes s.buffer)) ∙ part.2;
    device = part.3;
    live = λ up. absurd (none_some t.failure up failed);
    reading = reading;
    spent = λ k. absurd (none_some s.failure up k);
  }

  -- ---- calls one after another

  pub continues_both : (s t u : Scribe J) (a b : Lines) → Continues contents s t a → Continues contents t u b → Continues contents s u (and_then a b)
  continues_both s t u a b c d = go t.failure refl
    where
      go : (o : Option DeviceError) → t.failure ≡ o → Continues contents s u (and_then a b)
      go (Some e) is =
          let stays = d.spent (subst IsSome (sym is) refl) in
          let none : and_then a b ≡ a = ap (and_then a) stays.1 ∙ then_none a in
          subst (λ (x : Scribe J). Continues contents s x (and_then a b)) (sym stays.0) (subst (Continues contents s t) (sym none) c)
      go None is =
          let l = c.live is in
          let buffer = string_bytes s.buffer in
          let groups = a.groups ++ behind a.rest b.groups in
          let rest = rest_behind a.rest b.groups b.rest in
          let one = bodies_of buffer a.groups in
          let two = bodies_of (left_of buffer a.groups a.rest) b.groups in
          let bodies : bodies_of buffer groups ≡ one ++ two = bodies_joined buffer a.groups a.rest b.groups in
          let left = left_joined buffer a.groups a.rest b.groups b.rest in
          let next : bodies_of (string_bytes t.buffer) b.groups ≡ two = ap (λ (x : List ℕ). bodies_of x b.groups) l.1 in
          let after : left_of (string_bytes t.buffer) b.groups b.rest ≡ left_of (left_of buffer a.groups a.rest) b.groups b.rest = ap (λ (x : List ℕ). left_of x b.groups b.rest) l.1 in
          let sums : last_sum t.sum (bodies_of (string_bytes t.buffer) b.groups) ≡ last_sum s.sum (bodies_of buffer groups) =
          ap (last_sum t.sum) next ∙ ap (λ n. last_sum n two) l.2 ∙ sym (last_both s.sum one two) ∙ ap (last_sum s.sum) (sym bodies) in
          record {
            front = d.front;
            back = d.back;
            filled = subst (All (λ (body : List ℕ). body ≢ [])) (sym bodies) (filled_both one two c.filled (subst (All (λ (body : List ℕ). body ≢ [])) next d.filled));
            torn = ap (λ n. block_text n (left_of buffer groups rest) []) (sym sums)
                ∙ ap (λ (text : List ℕ). block_text (last_sum t.sum (bodies_of (string_bytes t.buffer) b.groups)) text []) (left ∙ sym after)
                ∙ d.torn;
            device =
                d.device
                ∙ ap (λ (x : List (List ℕ)). append_known (contents t.device) (blocks_text t.sum x d.front)) next
                ∙ ap (λ held. append_known held (blocks_text t.sum two d.front)) (c.device ∙ ap (λ (x : List ℕ). append_known (contents s.device) (blocks_text s.sum one x)) l.0)
                ∙ known_both (contents s.device) (blocks_text s.sum one []) (blocks_text t.sum two d.front)
                ∙ ap (append_known (contents s.device)) (
                sym (blocks_rest s.sum one (blocks_text t.sum two d.front))
                ∙ ap (λ n. blocks_text s.sum one (blocks_text n two d.front)) l.2
                ∙ sym (blocks_both s.sum one two d.front)
                ∙ ap (λ (x : List (List ℕ)). blocks_text s.sum x d.front) (sym bodies)
                );
            live = λ up. let m = d.live up in (m.0, m.1 ∙ after ∙ sym left, m.2 ∙ sums);
            reading = d.reading ∙ ap (λ (r : Option ℤ). last_reading r (lines_in b)) c.reading ∙ sym (readings_both s.reading (lines_in a) (lines_in b)) ∙ ap (last_reading s.reading) (sym (lines_then a b));
            spent = λ k.
                let first = c.spent k in
                let second = d.spent (subst (λ x. IsSome x.failure) (sym first.0) k) in
                (second.0 ∙ first.0, ap (λ (x : Lines). and_then x b) first.1 ∙ ap (and_then no_lines) second.1);
          }

  -- ---- a journal that may be away

  pub continued_same : (s : Option (Scribe J)) → IsContinued contents s s no_lines
  continued_same None = (refl, refl)
  continued_same (Some s) = continues_same s

  pub continued_is : (s t : Option (Scribe J)) → t ≡ s → IsContinued contents s t no_lines
  continued_is s t is = subst (λ (x : Option (Scribe J)). IsContinued contents s x no_lines) (sym is) (continued_same s)

  pub continued_both : (s t u : Option (Scribe J)) (a b : Lines) → IsContinued contents s t a → IsContinued contents t u b → IsContinued contents s u (and_then a b)
  continued_both None t u a b c d =
      let e = subst (λ (x : Option (Scribe J)). IsContinued contents x u b) c.0 d in
      (e.0, ap (λ (x : Lines). and_then x b) c.1 ∙ ap (and_then no_lines) e.1)
  continued_both (Some s) None u a b c d = absurd c
  continued_both (Some s) (Some t) None a b c d = absurd d
  continued_both (Some s) (Some t) (Some u) a b c d = continues_both s t u a b c d

  pub continued_spent : (s t : Option (Scribe J)) (lines : Lines) → IsContinued contents s t lines → IsSpent s → (t ≡ s) × (lines ≡ no_lines)
  continued_spent None t lines c spent = c
  continued_spent (Some s) None lines c spent = absurd c
  continued_spent (Some s) (Some t) lines c spent = let stays = c.spent spent in (ap Some stays.0, stays.1)

  pub continued_reading : (s t : Option (Scribe J)) (lines : Lines) → IsContinued contents s t lines → reading_in t ≡ last_reading (reading_in s) (lines_in lines)
  continued_reading None t lines c = ap reading_in c.0 ∙ ap (λ (l : Lines). last_reading None (lines_in l)) (sym c.1)
  continued_reading (Some s) None lines c = absurd c
  continued_reading (Some s) (Some t) lines c = c.reading

  -- ---- lines that record no event

  pub kept_none : (s t : Option (Scribe J)) → IsContinued contents s t no_lines → IsKeptOn contents s t
  kept_none s t c = (no_lines, All-nil IsSilent, c)

  pub kept_by : (s t : Option (Scribe J)) (line : Line) → IsSilent line → IsContinued contents s t (waiting (line ∷ [])) → IsKeptOn contents s t
  kept_by s t line silent c = (waiting (line ∷ []), silent_one line silent, c)

  -- the buffer was written, if anything was in it
  pub kept_written : (s t : Scribe J) → IsBlockWritten contents s t → IsKeptOn contents (Some s) (Some t)
  kept_written s t (empty, some) = go (string_bytes s.buffer) refl
    where
      go : (buffer : List ℕ) → string_bytes s.buffer ≡ buffer → IsKeptOn contents (Some s) (Some t)
      go [] is = kept_none (Some s) (Some t) (empty is)
      go (x ∷ xs) is = (one_block [], All-nil IsSilent, some (λ none. absurd (cc (is, none))))

  pub kept_same : (s : Option (Scribe J)) → IsKeptOn contents s s
  kept_same s = kept_none s s (continued_same s)

  pub kept_is : (s t : Option (Scribe J)) → t ≡ s → IsKeptOn contents s t
  kept_is s t is = kept_none s t (continued_is s t is)

  pub kept_both : (s t u : Option (Scribe J)) → IsKeptOn contents s t → IsKeptOn contents t u → IsKeptOn contents s u
  kept_both s t u (a, quiet, c) (b, silent, d) = (and_then a b, subst (All IsSilent) (sym (lines_then a b)) (silent_both (lines_in a) (lines_in b) quiet silent), continued_both s t u a b c d)

  pub unfiled_same : (s : Option (Scribe J)) → IsUnfiled contents s s
  unfiled_same s = ([], All-nil IsSilent, continued_same s)

  -- a line that stays in the buffer, if it came there
  pub unfiled_added : {A E : Type 0} (r : Result A E) (s t : Scribe J) (line : Line) → IsSilent line → OnOk r (Continues contents s t (waiting (line ∷ []))) → OnErr r (Continues contents s t no_lines) → IsUnfiled contents (Some s) (Some t)
  unfiled_added (Ok x) s t line silent added lost = (line ∷ [], silent_one line silent, added)
  unfiled_added (Err e) s t line silent added lost = ([], All-nil IsSilent, lost)

  pub unfiled_either : (s t : Scribe J) (line : Line) → IsSilent line → Continues contents s t no_lines ⊎ Continues contents s t (waiting (line ∷ [])) → IsUnfiled contents (Some s) (Some t)
  unfiled_either s t line silent either = ⊎_elim (λ lost. ([], All-nil IsSilent, lost)) (λ added. (line ∷ [], silent_one line silent, added)) either

  pub kept_unfiled : (s t : Option (Scribe J)) → IsUnfiled contents s t → IsKeptOn contents s t
  kept_unfiled s t (lines, silent, c) = (waiting lines, silent, c)

  -- ---- a voice whose journal went on

  pub continued_less : (s : Scribe J) (one two : Type 0) (v : Option (Voice J)) → (one → two) → HasContinued contents s one v → HasContinued contents s two v
  continued_less s one two None less h = absurd h
  continued_less s one two (Some v) less (on, same) = (on, λ none. less (same none))

  -- none of the lines went to the device
  pub continued_waited : (s : Scribe J) (same : Type 0) (v w : Option (Voice J)) → HasContinued contents s same v → HasWaited contents v w → HasContinued contents s same w
  continued_waited s same None w h wait = absurd h
  continued_waited s same (Some v) None h wait = absurd wait
  continued_waited s same (Some v) (Some w) ((a, quiet, c), still) (b, silent, d) = (
    (and_then a (waiting b), subst (All IsSilent) (sym (lines_then a (waiting b))) (silent_both (lines_in a) b quiet silent), continued_both (Some s) (Some v.scribe) (Some w.scribe) a (waiting b) c d),
    λ none. still (none_first a.groups [] none),
  )

  -- one did
  pub continued_filed : (s : Scribe J) (one two : Type 0) (v w : Option (Voice J)) → HasContinued contents s one v → HasFiled contents v w → HasContinued contents s two w
  continued_filed s one two None w h told = absurd h
  continued_filed s one two (Some v) None h told = absurd told
  continued_filed s one two (Some v) (Some w) ((a, quiet, c), still) (line, silent, d) = (
    (and_then a (one_block (line ∷ [])), subst (All IsSilent) (sym (lines_then a (one_block (line ∷ [])))) (silent_both (lines_in a) (line ∷ []) quiet (silent_one line silent)), continued_both (Some s) (Some v.scribe) (Some w.scribe) a (one_block (line ∷ [])) c d),
    λ none. absurd (some_behind a.groups (a.rest ++ line ∷ []) [] none),
  )
