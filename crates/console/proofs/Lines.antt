-- Texts that go over several lines.
use Rattle.std.proofs.Common.{◌≡◌, ◌∙◌, ℕ, suc, ◌+◌, Bool, true, false, List, [], ◌∷◌, ◌++◌, Option, None, Some, IfSome, sym, ap, subst, inl, inr, below_more, add-one}
use Rattle.std.specs.Io.BufRead.{drop_through}
use Rattle.console.specs.Lines.{IsBegun, IsWhole, IsNextLine, IsNoLine, behind_lines, last_line, with_lines, is_ended}

-- what holds of the bytes that an input has left, where they are known
pub if_known : (known : Option (List ℕ)) (P Q : List ℕ → Type 0) → ((xs : List ℕ) → P xs → Q xs) → IfSome known P → IfSome known Q
if_known None P Q f h = h
if_known (Some xs) P Q f h = f xs h

module _ (first xs : List ℕ) (more : ℕ) (text : List ℕ) (behind : Option (List ℕ)) (begun : IsBegun first xs more text behind) where
  -- a line more
  pub begun_on : (line longer : List ℕ) (left : Option (List ℕ)) → is_ended (last_line first more xs) ≡ false → IsNextLine behind line left → longer ≡ text ++ 10 ∷ line → IsBegun first xs (more + 1) longer left
  begun_on line longer left goes next is =
      let known = subst (λ (b : Option (List ℕ)). IsNextLine b line left) begun.left next in
      let one : suc more ≡ more + 1 = sym (add-one more) in
      let spelled : longer ≡ with_lines first (suc more) xs = is ∙ ap (λ (t : List ℕ). t ++ 10 ∷ line) begun.spelled ∙ ap (λ (l : List ℕ). with_lines first more xs ++ 10 ∷ l) known.0.1 in
      let behind_it : left ≡ Some (behind_lines (suc more) xs) = known.1 in
      record {
        spelled = spelled ∙ ap (λ (n : ℕ). with_lines first n xs) one;
        left = behind_it ∙ ap (λ (n : ℕ). Some (behind_lines n xs)) one;
        each = below_more _ _ begun.each (goes, known.0.0);
      }

  -- which is its last one then
  pub last_on : (line : List ℕ) (left : Option (List ℕ)) → IsNextLine behind line left → line ≡ last_line first (more + 1) xs
  last_on line left next =
      let known = subst (λ (b : Option (List ℕ)). IsNextLine b line left) begun.left next in
      let one : suc more ≡ more + 1 = sym (add-one more) in
      known.0.1 ∙ ap (λ (n : ℕ). last_line first n xs) one

  -- it has ended
  pub whole_ended : is_ended (last_line first more xs) ≡ true → IsWhole first xs text behind
  whole_ended ended = (more, begun, inl ended)

  -- the input has
  pub whole_over : (left : Option (List ℕ)) → IsNoLine behind left → IsWhole first xs text left
  whole_over left none =
      let known = subst (λ (b : Option (List ℕ)). IsNoLine b left) begun.left none in
      let empty : left ≡ Some [] = known.1 ∙ ap (λ (ys : List ℕ). Some (drop_through 10 ys)) known.0 in
      (more, record { spelled = begun.spelled; left = empty ∙ ap Some (sym known.0); each = begun.each }, inr empty)

-- a text that has begun, and whether its last line ends so
abbrev pub Gathers : (first : List ℕ) (more : ℕ) (text : List ℕ) (behind : Option (List ℕ)) (is_whole : Bool) → List ℕ → Type 0
Gathers first more text behind is_whole xs = IsBegun first xs more text behind × (is_whole ≡ is_ended (last_line first more xs))
