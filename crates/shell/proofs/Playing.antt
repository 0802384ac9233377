-- Lemmas on lines that a pilot plays, and on what is printed of them.
use Rattle.std.proofs.Common.{◌≡◌, ◌∙◌, ◌+◌, ◌<◌, ℕ, inl, inr, List, [], ◌∷◌, ◌++◌, Option, length, get_or, take, drop, refl, sym, ap, subst, append_assoc}
use Rattle.std.specs.Prelude.{Bool, Result, Ok, Err, IfOk, IfSome, OnErr, ◌⊎◌}
use Rattle.std.specs.Io.KnownBytes.{Appends}
use Rattle.std.specs.declared.vec.Vec.{Vec}
use Rattle.std.specs.declared.alloc.Global.{Global}
use Rattle.std.proofs.lemmas.List.{take-append-drop, take_more}
use Rattle.answertext.specs.Appending.{append-none, appends-more, begins-more}
use Rattle.answertext.specs.Sinks.{AppendsBeginning}
use Rattle.flight.specs.declared.flight.Answered.{Answered}
use Rattle.flight.specs.declared.flight.Version.TheVariants.{Three}
use Rattle.flight.specs.declared.life.Life.{Life}
use Rattle.forms.specs.declared.form.Form.{Form}
use Rattle.lines.specs.declared.line.Line.{Line}
use Rattle.lines.specs.Script.{HasLines}
use Rattle.live.specs.Saying.{IsSaidOf}
use Rattle.live.specs.declared.said.Said.{Said}
use Rattle.sqlchecks.specs.Columns.{Tables}
use Rattle.shell.specs.Audit.{evidence_of}
use Rattle.shell.specs.Live.{BeginsLines, BeginsRun, EndsRun, PlaysAll, PlaysLines, PrintsRun}
use Rattle.shell.specs.Showing.{BeginsVerdict, IsVerdictIn, PlaysIn, PrintsLines, TellsIn, unshown}
use Rattle.shell.specs.Sim.{IsOfText}
use Rattle.shell.specs.declared.showing.Showing.{Showing}

module _ {P : Type 0} (plays : P → Line → List ℕ → P → Type 0) where
  pub plays-more : (a : P) (xs : List Line) (printed : List ℕ) (b : P) (y : Line) (text : List ℕ) (c : P)
      → PlaysAll plays a xs printed b → plays b y text c → PlaysAll plays a (xs ++ y ∷ []) (printed ++ text) c
  plays-more a [] printed b y text c p q =
      (c, text, [], subst (λ (s : P). plays s y text c) p.0 q, (refl, refl), ap (λ l. l ++ text) p.1 ∙ sym (append-none text))
  plays-more a (x ∷ xs) printed b y text c p q =
      (p.0, p.1, p.2 ++ text, p.3, plays-more p.0 xs p.2 b y text c p.4 q, ap (λ l. l ++ text) p.5 ∙ append_assoc p.1 p.2 text)

  -- one line more
  pub plays-next : (a : P) (xs : List Line) (i : ℕ) (printed : List ℕ) (b : P) (y : Line) (text : List ℕ) (c : P) → i < length xs → y ≡ get_or xs i y
      → PlaysAll plays a (take i xs) printed b → plays b y text c → PlaysAll plays a (take (i + 1) xs) (printed ++ text) c
  plays-next a xs i printed b y text c less is p q =
      let grown : take (i + 1) xs ≡ take i xs ++ y ∷ [] = take_more xs i y less ∙ ap (λ x. take i xs ++ x ∷ []) (sym is) in
      subst (λ (l : List Line). PlaysAll plays a l (printed ++ text) c) (sym grown) (plays-more a (take i xs) printed b y text c p q)

  -- nothing of the next line was written
  pub begun-before : (a : P) (xs : List Line) (i : ℕ) (printed : List ℕ) (b : P) (old new : Option (List ℕ))
      → PlaysAll plays a (take i xs) printed b → Appends old new printed → BeginsLines plays xs a old new
  begun-before a xs i printed b old new p grown = record {
    some = take i xs;
    rest = drop i xs;
    whole = take-append-drop i xs;
    printed = printed;
    last = b;
    played = p;
    begun = (printed, [], append-none printed, grown);
  }

  -- a beginning of the next line was
  pub begun-within : (a : P) (xs : List Line) (i : ℕ) (printed : List ℕ) (b : P) (y : Line) (text : List ℕ) (c : P) (old mid new : Option (List ℕ)) → i < length xs → y ≡ get_or xs i y
      → PlaysAll plays a (take i xs) printed b → Appends old mid printed → plays b y text c → AppendsBeginning mid new text → BeginsLines plays xs a old new
  begun-within a xs i printed b y text c old mid new less is p grown q begun = record {
    some = take (i + 1) xs;
    rest = drop (i + 1) xs;
    whole = take-append-drop (i + 1) xs;
    printed = printed ++ text;
    last = c;
    played = plays-next a xs i printed b y text c less is p q;
    begun = begins-more old mid new printed text grown begun;
  }

  -- the next line was not written whole
  pub begun-at : {O : Type 0} (holds : O → Option (List ℕ)) (a : P) (xs : List Line) (i : ℕ) (b : P) (y : Line) (c : P) (old : Option (List ℕ)) (mid new : O) → i < length xs → y ≡ get_or xs i y
      → (printed : List ℕ) × PlaysAll plays a (take i xs) printed b × Appends old (holds mid) printed
      → (new ≡ mid) ⊎ ((text : List ℕ) × plays b y text c × AppendsBeginning (holds mid) (holds new) text)
      → BeginsLines plays xs a old (holds new)
  begun-at {O} holds a xs i b y c old mid new less is f (inl same) =
      begun-before a xs i f.0 b old (holds new) f.1 (subst (λ (w : O). Appends old (holds w) f.0) (sym same) f.2)
  begun-at holds a xs i b y c old mid new less is f (inr s) = begun-within a xs i f.0 b y s.0 c old (holds mid) (holds new) less is f.1 f.2 s.1 s.2

  -- all lines were written
  pub begun-all : (a : P) (xs : List Line) (printed : List ℕ) (b : P) (old new : Option (List ℕ)) → PlaysAll plays a xs printed b → Appends old new printed → BeginsLines plays xs a old new
  begun-all a xs printed b old new p grown = record {
    some = xs;
    rest = [];
    whole = append-none xs;
    printed = printed;
    last = b;
    played = p;
    begun = (printed, [], append-none printed, grown);
  }

-- what a pilot's lines print is what they may print, where it says of each line what that may say
module _ {P : Type 0} (form : Form) (plays : P → Line → Said → P → Type 0) (says : (a : P) (line : Line) (said : Said) (b : P) → plays a line said b → IsSaidOf line said) where
  pub lines_printed : (a : Showing P) (lines : List Line) (printed : List ℕ) (b : Showing P) → PlaysAll (PlaysIn form plays) a lines printed b → PrintsLines form a.has_answered lines printed
  lines_printed a [] printed b p = p.1
  lines_printed a (line ∷ lines) printed b p =
      let q : TellsIn form plays a line p.1 p.3.0 p.0 = p.3.1 in
      (q.0, p.1, p.2, says a.pilot line q.0 p.0.pilot q.1, q.2, subst (λ (f : Bool). PrintsLines form f lines p.2) q.4 (lines_printed p.0 lines p.2 b p.4), p.5)

-- a run whose lines are all played
module _ {P : Type 0} (form : Form) (plays : P → Line → Said → P → Type 0) (recorded : P → List (Vec Life Global) → List (Vec Answered Global) → Type 0) (tables : Tables) (lines : List Line) (pilot : P)
    (lives : List (Vec Life Global)) (answers : List (Vec Answered Global)) (a : Option (List ℕ)) where
  -- what is said was
  pub run_printed : {E : Type 0} (r : Result ℕ E) (b c : Option (List ℕ)) → (printed : List ℕ) × (last : Showing P) × PlaysLines form plays pilot lines printed last × recorded last.pilot lives answers × Appends a b printed
      → IfOk r (λ status. (text : List ℕ) × IsVerdictIn form (evidence_of Three tables lives answers) status text × Appends b c text)
      → IfOk r (λ status. PrintsRun form plays recorded tables lines pilot status a c)
  run_printed (Ok status) b c f s = record {
    printed = f.0;
    last = f.1;
    played = f.2;
    lives = lives;
    answers = answers;
    told = f.3;
    text = s.0;
    said = s.1;
    grown = appends-more a b c f.0 s.0 f.4 s.2;
  }
  run_printed (Err e) b c f s = s

  -- what is said was not written whole
  pub run_begun : {E O : Type 0} (r : Result ℕ E) (holds : O → Option (List ℕ)) (x y : O) → (printed : List ℕ) × (last : Showing P) × PlaysLines form plays pilot lines printed last × recorded last.pilot lives answers × Appends a (holds x) printed
      → OnErr r ((y ≡ x) ⊎ BeginsVerdict form (evidence_of Three tables lives answers) (holds x) (holds y))
      → OnErr r (BeginsLines (PlaysIn form plays) lines (unshown pilot) a (holds y) ⊎ BeginsRun form plays recorded tables lines pilot a (holds y))
  run_begun (Ok status) holds x y f s = s
  run_begun {E} {O} (Err e) holds x y f (inl same) = inl (record {
    some = lines;
    rest = [];
    whole = append-none lines;
    printed = f.0;
    last = f.1;
    played = f.2;
    begun = (f.0, [], append-none f.0, subst (λ (o : O). Appends a (holds o) f.0) (sym same) f.4);
  })
  run_begun (Err e) holds x y f (inr s) = inr (record {
    printed = f.0;
    last = f.1;
    played = f.2;
    lives = lives;
    answers = answers;
    told = f.3;
    status = s.0;
    text = s.1;
    said = s.2;
    begun = begins-more a (holds x) (holds y) f.0 s.1 f.4 s.3;
  })

-- what was read is a script; what was played is followed by what is said
module _ (known : Option (List ℕ)) (text : List ℕ) (is : IfSome known (λ bytes. text ≡ bytes)) (nodes : ℕ) (tables : Tables) (lines : List Line) (has : HasLines text nodes tables lines)
    {P : Type 0} (form : Form) (plays : P → Line → Said → P → Type 0) (says : (a : P) (line : Line) (said : Said) (b : P) → plays a line said b → IsSaidOf line said)
    (recorded : P → List (Vec Life Global) → List (Vec Answered Global) → Type 0) (pilot : P) (a c : Option (List ℕ)) where
  pub run_ended : {E : Type 0} (r : Result ℕ E) → IfOk r (λ status. PrintsRun form plays recorded tables lines pilot status a c) → IfOk r (λ status. IsOfText known (EndsRun form nodes status a c))
  run_ended (Ok status) p = (text, is, (tables, lines, has, (p.lives, p.answers, (p.printed, p.text, lines_printed form plays says (unshown pilot) lines p.printed p.last p.played, p.said, p.grown))))
  run_ended (Err e) p = p
