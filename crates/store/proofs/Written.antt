-- What is written to a journal.
use Rattle.std.proofs.Common.{◌≡◌, ◌≢◌, ◌∙◌, ℕ, Option, Some, None, List, [], ◌∷◌, ◌++◌, refl, sym, ap, subst, append-nil, append_assoc, arith, length, string_bytes, Result, Ok, Err, IsOk, OnOk, OnErr}
use Rattle.std.specs.Prelude.{IsSome}
use Rattle.std.specs.Io.KnownBytes.{append_known}
use Rattle.std.proofs.lemmas.Option.{same_Some}
use Rattle.flight.specs.Additions.{Adds}
use Rattle.journal.specs.Blocks.{block_text}
use Rattle.journal.specs.Spelling.{line_text}
use Rattle.journal.specs.declared.line.Line.{Line}
use Rattle.journal.specs.declared.line.Line.TheVariants.{Opens, Rests, Life, Clock, Takes, Saves, Made, Ends, Answer, Printed}
use Rattle.store.specs.declared.device.DeviceError.{DeviceError}
use Rattle.store.specs.declared.scribe.Scribe.{Scribe}
use Rattle.store.specs.Writing.{AppendsPart, IsWritten, IsLastWritten, with_line}
use Rattle.store.specs.Journals.{IsAdded, IsAllOn, IsFlushed, EndsWith, IsLonger, IsOpened, IsPartOn, device_in}

-- a beginning of a block that was made of this buffer
pub part_of_block : (old new : Option (List ℕ)) (sum : ℕ) (buffer text none block made : List ℕ) → text ≡ buffer → none ≡ [] → block ≡ made → Adds none made (block_text sum text)
    → AppendsPart old new block → AppendsPart old new (block_text sum buffer [])
part_of_block old new sum buffer text none block made same empty is adds part =
    let whole : block ≡ block_text sum buffer [] = is ∙ sym (append-nil made) ∙ adds [] ∙ ap (λ (x : List ℕ). x ++ block_text sum text []) empty ∙ ap (λ (x : List ℕ). block_text sum x []) same in
    subst (λ (x : List ℕ). AppendsPart old new x) whole part

-- an error with this
pub on_err : {A E P : Type 0} (r : Result A E) → P → OnErr r P
on_err (Ok x) p = tt
on_err (Err e) p = p

-- a line has text
line_some : (line : Line) → line_text line [] ≢ []
line_some (Opens journal sum marks) e = absurd (cc e)
line_some (Rests member stored) e = absurd (cc e)
line_some (Life member stored) e = absurd (cc e)
line_some (Clock reading) e = absurd (cc e)
line_some (Takes member taken) e = absurd (cc e)
line_some (Saves member stored) e = absurd (cc e)
line_some (Made member outcomes) e = absurd (cc e)
line_some (Ends member) e = absurd (cc e)
line_some (Answer member query answer) e = absurd (cc e)
line_some (Printed client number words) e = absurd (cc e)

none_behind : (front back : List ℕ) → front ++ back ≡ [] → back ≡ []
none_behind [] back e = e
none_behind (x ∷ front) back e = absurd (cc e)

-- so have lines of which it is the last
with_line_some : (before : List ℕ) (line : Line) → with_line before line ≢ []
with_line_some before line e = line_some line (none_behind before (line_text line []) e)

-- a line that was added
pub line_added : (old new : List ℕ) (line : Line) → Adds old new (line_text line) → new ≡ with_line old line
line_added old new line adds = sym (append-nil new) ∙ adds []

last_written : (old new : Option (List ℕ)) (sum : ℕ) (before : List ℕ) (line : Line) → new ≡ append_known old (block_text sum (with_line before line) []) → IsLastWritten new line
last_written None new sum before line e = subst (λ (x : Option (List ℕ)). IsLastWritten x line) (sym e) tt
last_written (Some held) new sum before line e = subst (λ (x : Option (List ℕ)). IsLastWritten x line) (sym e) (held, sum, before, refl)

pub written_line : (old new : Option (List ℕ)) (sum : ℕ) (before buffer : List ℕ) (line : Line) → Adds before buffer (line_text line) → IsWritten old new sum buffer → IsLastWritten new line
written_line old new sum before buffer line adds written =
    let whole = subst (λ (x : List ℕ). IsWritten old new sum x) (line_added before buffer line adds) written in
    last_written old new sum before line (whole.1 (with_line_some before line))

-- a line that was added, and then all written, is the last one on the device
pub told_last : {J : Type 0} (contents : J → Option (List ℕ)) (s t u : Option (Scribe J)) (line : Line) → IsAdded s t line → IsFlushed contents t u → EndsWith contents u line
told_last contents None t u line added flushed = absurd added
told_last contents (Some s) None u line added flushed = absurd added
told_last contents (Some s) (Some t) None line added flushed = absurd flushed
told_last contents (Some s) (Some t) (Some u) line added flushed =
    (written_line (contents t.device) (contents u.device) t.sum (string_bytes s.buffer) (string_bytes t.buffer) line added.0 flushed.0, flushed.1)

-- the same, where the call that writes it may fail
pub on_told : {J A E : Type 0} (contents : J → Option (List ℕ)) (r : Result A E) (s t u : Option (Scribe J)) (line told : Line) → line ≡ told → IsAdded s t line → OnOk r (IsFlushed contents t u) → OnOk r (EndsWith contents u told)
on_told contents (Ok x) s t u line told same added flushed = subst (λ (l : Line). EndsWith contents u l) same (told_last contents s t u line added flushed)
on_told contents (Err e) s t u line told same added flushed = tt

-- and stays so once nothing more is written
pub on_settled : {J A E : Type 0} (contents : J → Option (List ℕ)) (r : Result A E) (s t : Option (Scribe J)) (line : Line) → EndsWith contents s line → OnOk r (IsFlushed contents s t) → OnOk r (EndsWith contents t line)
on_settled contents (Err e) s t line ends flushed = tt
on_settled contents (Ok x) None t line ends flushed = absurd ends
on_settled contents (Ok x) (Some s) None line ends flushed = absurd flushed
on_settled contents (Ok x) (Some s) (Some t) line ends flushed = (subst (λ (held : Option (List ℕ)). IsLastWritten held line) (sym (flushed.0.0 ends.1)) ends.0, flushed.1)

-- ---- a journal that begins

pub longer_none : {J : Type 0} (s : Option (Scribe J)) → IsLonger s s
longer_none None = refl
longer_none (Some s) = ([], sym (append-nil (string_bytes s.buffer)), refl, refl)

pub longer_more : {J : Type 0} (s t u : Option (Scribe J)) → IsLonger s t → IsLonger t u → IsLonger s u
longer_more {J = D} None t u a b = subst (λ (x : Option (Scribe D)). IsLonger x u) a b
longer_more (Some s) None u a b = absurd a
longer_more (Some s) (Some t) None a b = absurd b
longer_more (Some s) (Some t) (Some u) a b =
    (a.0 ++ b.0, b.1 ∙ ap (λ (x : List ℕ). x ++ b.0) a.1 ∙ append_assoc (string_bytes s.buffer) a.0 b.0, b.2 ∙ a.2, b.3 ∙ a.3)

pub longer_added : {J : Type 0} (s t : Option (Scribe J)) (line : Line) → IsAdded s t line → IsLonger s t
longer_added None t line added = absurd added
longer_added (Some s) None line added = absurd added
longer_added (Some s) (Some t) line added = (line_text line [], line_added (string_bytes s.buffer) (string_bytes t.buffer) line added.0, added.1, added.2)

pub longer_from : {J : Type 0} (s first t : Option (Scribe J)) (line : Line) → first ≡ s → IsAdded first t line → IsLonger s t
longer_from {J = D} s first t line same added = subst (λ (x : Option (Scribe D)). IsLonger x t) same (longer_added first t line added)

pub on_longer : {J A E : Type 0} (r : Result A E) (s t u : Option (Scribe J)) (line : Line) → IsLonger s t → OnOk r (IsAdded t u line) → OnOk r (IsLonger s u)
on_longer (Ok x) s t u line longer added = longer_more s t u longer (longer_added t u line added)
on_longer (Err e) s t u line longer added = tt

opened : {J : Type 0} (contents : J → Option (List ℕ)) (first : Scribe J) (t u v : Option (Scribe J)) (journal marks : ℕ) → IsAdded (Some first) t (Opens journal first.sum marks) → IsLonger t u → IsFlushed contents u v
    → IsOpened contents (Some first) v journal marks
opened contents first None u v journal marks added longer flushed = absurd added
opened contents first (Some t) None v journal marks added longer flushed = absurd longer
opened contents first (Some t) (Some u) None journal marks added longer flushed = absurd flushed
opened contents first (Some t) (Some u) (Some v) journal marks added longer flushed = λ empty.
    let more = longer.0 in
    let line = Opens journal first.sum marks in
    let whole : string_bytes u.buffer ≡ line_text line more = longer.1 ∙ added.0 more ∙ ap (λ (x : List ℕ). x ++ line_text line more) empty in
    let from : contents u.device ≡ contents first.device = ap contents (longer.2 ∙ added.1) in
    let sums : u.sum ≡ first.sum = longer.3 ∙ added.2 in
    let a = subst (λ (x : List ℕ). IsWritten (contents u.device) (contents v.device) u.sum x) whole flushed.0 in
    let b = subst (λ (n : ℕ). IsWritten (contents u.device) (contents v.device) n (line_text line more)) sums a in
    (more, subst (λ (x : Option (List ℕ)). IsWritten x (contents v.device) first.sum (line_text line more)) from b)

pub on_opened : {J A E : Type 0} (contents : J → Option (List ℕ)) (r : Result A E) (s t u v : Option (Scribe J)) (first : Scribe J) (journal sum marks : ℕ) → s ≡ Some first → sum ≡ first.sum → IsAdded s t (Opens journal sum marks) → IsLonger t u
    → OnOk r (IsFlushed contents u v) → OnOk r (IsOpened contents s v journal marks)
on_opened {J = D} contents (Ok x) s t u v first journal sum marks same sums added longer flushed =
    let a = subst (λ (w : Option (Scribe D)). IsAdded w t (Opens journal sum marks)) same added in
    let b = subst (λ (n : ℕ). IsAdded (Some first) t (Opens journal n marks)) sums a in
    subst (λ (w : Option (Scribe D)). IsOpened contents w v journal marks) (sym same) (opened contents first t u v journal marks b longer flushed)
on_opened contents (Err e) s t u v first journal sum marks same sums added longer flushed = tt

-- ---- a journal that ends

pub none_long : {A : Type 0} (xs : List A) → length xs ≡ 0 → xs ≡ []
none_long [] none = refl
none_long (x ∷ xs) none = absurd (omega (arith, none))

pub ok_then : {A E P : Type 0} (r : Result A E) → IsOk r → OnOk r P → P
ok_then (Ok x) is p = p
ok_then (Err e) is p = absurd (cc is)

pub then_err : {A E P Q : Type 0} (r : Result A E) → (P → Q) → OnErr r P → OnErr r Q
then_err (Ok x) f p = tt
then_err (Err e) f p = f p

pub then_ok : {A E P Q : Type 0} (r : Result A E) → (P → Q) → OnOk r P → OnOk r Q
then_ok (Ok x) f p = f p
then_ok (Err e) f p = tt

pub all_on : {J : Type 0} (contents : J → Option (List ℕ)) (s t u : Option (Scribe J)) → IsLonger s t → IsFlushed contents t u → IsAllOn contents s (device_in u)
all_on {J = D} contents None t u longer flushed = absurd (subst (λ (x : Option (Scribe D)). IsFlushed contents x u) longer flushed)
all_on contents (Some s) None u longer flushed = absurd longer
all_on contents (Some s) (Some t) None longer flushed = absurd flushed
all_on contents (Some s) (Some t) (Some u) longer flushed =
    let a = subst (λ (x : List ℕ). IsWritten (contents t.device) (contents u.device) t.sum x) longer.1 flushed.0 in
    let b = subst (λ (n : ℕ). IsWritten (contents t.device) (contents u.device) n (string_bytes s.buffer ++ longer.0)) longer.3 a in
    (longer.0, subst (λ (x : Option (List ℕ)). IsWritten x (contents u.device) s.sum (string_bytes s.buffer ++ longer.0)) (ap contents longer.2) b)

-- part of what went to the buffer since then
pub part_on : {J : Type 0} (contents : J → Option (List ℕ)) (s t : Option (Scribe J)) (device : Option J) → IsLonger s t → IsPartOn contents t device → IsPartOn contents s device
part_on {J = D} contents None t device longer part = subst (λ (x : Option (Scribe D)). IsPartOn contents x device) longer part
part_on contents (Some s) None device longer part = absurd longer
part_on contents (Some s) (Some t) None longer part = absurd part
part_on contents (Some s) (Some t) (Some device) longer part =
    let whole : string_bytes t.buffer ++ part.0 ≡ string_bytes s.buffer ++ (longer.0 ++ part.0) = ap (λ (x : List ℕ). x ++ part.0) longer.1 ∙ append_assoc (string_bytes s.buffer) longer.0 part.0 in
    let a = subst (λ (x : List ℕ). AppendsPart (contents t.device) (contents device) (block_text t.sum x [])) whole part.1 in
    let b = subst (λ (n : ℕ). AppendsPart (contents t.device) (contents device) (block_text n (string_bytes s.buffer ++ (longer.0 ++ part.0)) [])) longer.3 a in
    (longer.0 ++ part.0, subst (λ (x : Option (List ℕ)). AppendsPart x (contents device) (block_text s.sum (string_bytes s.buffer ++ (longer.0 ++ part.0)) [])) (ap contents longer.2) b)

pub append_nothing : (held : Option (List ℕ)) → append_known held [] ≡ held
append_nothing None = refl
append_nothing (Some xs) = ap Some (append-nil xs)

-- what was written is part of a block
pub part_written : (old mid new : Option (List ℕ)) (sum : ℕ) (buffer : List ℕ) → new ≡ mid → IsWritten old mid sum buffer → AppendsPart old new (block_text sum buffer [])
part_written old mid new sum [] same written = ([], block_text sum [] [], refl, same ∙ written.0 refl ∙ sym (append_nothing old))
part_written old mid new sum (x ∷ xs) same written = (block_text sum (x ∷ xs) [], [], sym (append-nil (block_text sum (x ∷ xs) [])), same ∙ written.1 (λ e. absurd (cc e)))

-- nothing went to the device
pub same_on : {J : Type 0} (contents : J → Option (List ℕ)) (s : Option (Scribe J)) (device : Option J) → device ≡ device_in s → IsPartOn contents s device
same_on contents None device is = is
same_on contents (Some s) None is = absurd (cc is)
same_on contents (Some s) (Some device) is =
    ([], ([], block_text s.sum (string_bytes s.buffer ++ []) [], refl, ap contents (same_Some device s.device is) ∙ sym (append_nothing (contents s.device))))

-- a flush that fails
pub part_flushed : {J : Type 0} (contents : J → Option (List ℕ)) (s t : Scribe J) → (s.failure ≡ None → AppendsPart (contents s.device) (contents t.device) (block_text s.sum (string_bytes s.buffer) [])) → (IsSome s.failure → t ≡ s) → IsPartOn contents (Some s) (Some t.device)
part_flushed contents s t part spent = go s.failure refl
  where
    go : (o : Option DeviceError) → s.failure ≡ o → IsPartOn contents (Some s) (Some t.device)
    go None is = ([], subst (λ (x : List ℕ). AppendsPart (contents s.device) (contents t.device) (block_text s.sum x [])) (sym (append-nil (string_bytes s.buffer))) (part is))
    go (Some e) is = same_on contents (Some s) (Some t.device) (ap (λ x. Some x.device) (spent (subst IsSome (sym is) refl)))
