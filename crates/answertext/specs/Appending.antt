-- The laws of sinks: writes that follow each other.
use Rattle.std.proofs.Common.{◌≡◌, ◌∙◌, ℕ, List, [], ◌∷◌, ◌++◌, Option, None, Some, refl, sym, ap, subst, append_assoc}
use Rattle.std.specs.List.{concat, FoldsTo}
use Rattle.std.specs.Fmt.{HasWritten, IsPlainFormatter}
use Rattle.std.specs.declared.fmt.Formatter.{Formatter}
use Rattle.std.specs.Io.KnownBytes.{Appends, Keeps}
use Rattle.answertext.specs.Sinks.{AppendsBeginning}

pub append-none : {A : Type 0} (xs : List A) → xs ++ [] ≡ xs
append-none [] = refl
append-none (x ∷ xs) = ap (λ l. x ∷ l) (append-none xs)

-- ---- writers

pub appends-nothing : (a : Option (List ℕ)) → Appends a a []
appends-nothing None = tt
appends-nothing (Some xs) = sym (append-none xs)

pub appends-more : (a b c : Option (List ℕ)) (x y : List ℕ) → Appends a b x → Appends b c y → Appends a c (x ++ y)
appends-more None b c x y p q = tt
appends-more (Some us) None c x y p q = absurd p
appends-more (Some us) (Some vs) None x y p q = absurd q
appends-more (Some us) (Some vs) (Some ws) x y p q = q ∙ ap (λ l. l ++ y) p ∙ append_assoc us x y

pub appends-kept : (a b c : Option (List ℕ)) (x : List ℕ) → Appends a b x → Keeps b c → Appends a c x
appends-kept None b c x p q = tt
appends-kept (Some us) None c x p q = absurd p
appends-kept (Some us) (Some vs) None x p q = absurd q
appends-kept (Some us) (Some vs) (Some ws) x p q = q ∙ p

pub begins-nothing : (a : Option (List ℕ)) (x : List ℕ) → AppendsBeginning a a x
begins-nothing a x = ([], x, refl, appends-nothing a)

pub begins-more : (a b c : Option (List ℕ)) (x y : List ℕ) → Appends a b x → AppendsBeginning b c y → AppendsBeginning a c (x ++ y)
begins-more a b c x y p q = (x ++ q.0, q.1, append_assoc x q.0 q.1 ∙ ap (λ l. x ++ l) q.2, appends-more a b c x q.0 p q.3)

pub begins-longer : (a b : Option (List ℕ)) (x y : List ℕ) → AppendsBeginning a b x → AppendsBeginning a b (x ++ y)
begins-longer a b x y p = (p.0, p.1 ++ y, sym (append_assoc p.0 p.1 y) ∙ ap (λ l. l ++ y) p.2, p.3)

-- ---- formatters

concat-more : (xs ys : List (List ℕ)) → concat (xs ++ ys) ≡ concat xs ++ concat ys
concat-more [] ys = refl
concat-more (x ∷ xs) ys = ap (λ l. x ++ l) (concat-more xs ys) ∙ sym (append_assoc x (concat xs) (concat ys))

module _ {W : Type 0} (took : W → List ℕ → W → Type 0) where
  calls-more : (a : W) (xs : List (List ℕ)) (b : W) (ys : List (List ℕ)) (c : W) → FoldsTo took a xs b → FoldsTo took b ys c → FoldsTo took a (xs ++ ys) c
  calls-more a [] b ys c p q = subst (λ (w : W). FoldsTo took w ys c) (sym p) q
  calls-more a (x ∷ xs) b ys c p q = (p.0, p.1, calls-more p.0 xs b ys c p.2 q)

  pub has_written-nothing : (f : Formatter W) → IsPlainFormatter f → HasWritten took f [] f
  has_written-nothing f plain = record { wrote = record { parts = []; calls = refl; whole = refl }; plain = plain }

  pub has_written-more : (f g h : Formatter W) (x y : List ℕ) → HasWritten took f x g → HasWritten took g y h → HasWritten took f (x ++ y) h
  has_written-more f g h x y p q = record {
    wrote = record {
      parts = p.wrote.parts ++ q.wrote.parts;
      calls = calls-more f.writer p.wrote.parts g.writer q.wrote.parts h.writer p.wrote.calls q.wrote.calls;
      whole = concat-more p.wrote.parts q.wrote.parts ∙ ap (λ l. l ++ concat q.wrote.parts) p.wrote.whole ∙ ap (λ l. x ++ l) q.wrote.whole;
    };
    plain = q.plain;
  }
