-- The lines of covering words, one behind another.
use Rattle.std.proofs.Common.{◌≡◌, ◌∙◌, ℕ, ◌≤◌, List, [], ◌∷◌, ◌++◌, inl, inr, refl, sym, ap, subst, append_assoc, append-nil}
use Rattle.std.specs.Prelude.{codes}
use Rattle.lx_base.specs.Spelling.{greatest_unit}
use Rattle.lx_base.specs.Text.{joined}
use Rattle.lx_base.specs.declared.settings.Enc.{Enc}
use Rattle.lx_base.specs.declared.settings.Options.{Options}
use Rattle.lx_cover.specs.Cover.{IsCovering}
use Rattle.lx_layout.specs.Endings.{Ending}
use Rattle.lx_regex.specs.Kernel.{IsWord}
use Rattle.lx_regex.specs.Match.{Outcome}
use Rattle.lx_regex.specs.Term.{Term}
use Rattle.lx_rules.specs.declared.resolved.Act.{Act}
use Rattle.lx_rules.specs.declared.resolved.Scanner.{Scanner}
use Rattle.lx_compile.specs.Covering.{AreWordLines, IsWordLine, match_text, word_line, word_text}

-- ---- a line

-- four texts, one behind another
four-texts : (text word middle match end : List ℕ) → (((text ++ word) ++ middle) ++ match) ++ end ≡ text ++ (word ++ (middle ++ (match ++ end)))
four-texts text word middle match end =
    append_assoc ((text ++ word) ++ middle) match end ∙ append_assoc (text ++ word) middle (match ++ end)
    ∙ append_assoc text word (middle ++ (match ++ end))

-- the line of a word is put in four parts
pub word_line-parts : (endings : ℕ → Ending) (word : List ℕ) (outcome : Outcome) (text first second third last : List ℕ)
    → first ≡ text ++ word_text word → second ≡ first ++ joined (codes " : " ∷ []) [] → third ≡ second ++ match_text endings outcome
    → last ≡ third ++ joined (codes "\n" ∷ []) [] → last ≡ text ++ word_line endings word outcome
word_line-parts endings word outcome text first second third last one two three four =
    four
    ∙ ap (λ front. front ++ joined (codes "\n" ∷ []) [])
    (three ∙ ap (λ front. front ++ match_text endings outcome) (two ∙ ap (λ front. front ++ joined (codes " : " ∷ []) []) one))
    ∙ four-texts text (word_text word) (joined (codes " : " ∷ []) []) (match_text endings outcome) (joined (codes "\n" ∷ []) [])

-- ---- words

word-push : (enc : Enc) (rules : List Term) (word : List ℕ) (unit : ℕ) → IsWord enc rules word → unit ≤ greatest_unit enc
    → IsWord enc rules (word ++ unit ∷ [])
word-push enc rules [] unit is low = (low, tt)
word-push enc rules (first ∷ word) unit is low = (is.0, word-push enc rules word unit is.1 low)

-- covering words are of the encoding's units
pub covering-units : (enc : Enc) (rules : List Term) (word : List ℕ) → IsCovering enc rules word → IsWord enc rules word
covering-units enc rules word (inl none) = subst (IsWord enc rules) (sym none) tt
covering-units enc rules word (inr leaves) =
    subst (IsWord enc rules) (sym leaves.2) (word-push enc rules leaves.0 leaves.1 leaves.3.units leaves.4.0)

-- ---- lines

module _ (options : Options) (acts : List Act) (scanner : Scanner) where
  -- behind a text stand the lines of some words, where the others are left
  pub record HaveLines (words rest : List (List ℕ)) (start text : List ℕ) : Type 0 where
    pub lines : List ℕ
    pub is : text ≡ start ++ lines
    pub continues : (more : List ℕ) → AreWordLines options acts scanner rest more → AreWordLines options acts scanner words (lines ++ more)

  pub HaveLines-start : (words : List (List ℕ)) (start : List ℕ) → HaveLines words words start start
  HaveLines-start words start = record { lines = []; is = sym (append-nil start); continues = λ more are. are }

  pub HaveLines-next : (words : List (List ℕ)) (word : List ℕ) (rest : List (List ℕ)) (start text after line : List ℕ)
      → HaveLines words (word ∷ rest) start text → IsWordLine options acts scanner word line → after ≡ text ++ line → HaveLines words rest start after
  HaveLines-next words word rest start text after line have tells is = record {
    lines = have.lines ++ line;
    is = is ∙ ap (λ (front : List ℕ). front ++ line) have.is ∙ append_assoc start have.lines line;
    continues = λ more are.
        subst (AreWordLines options acts scanner words) (sym (append_assoc have.lines line more)) (have.continues (line ++ more) (line, more, tells, are, refl));
  }

  pub HaveLines-end : (words : List (List ℕ)) (start text : List ℕ) → HaveLines words [] start text
      → (lines : List ℕ) × AreWordLines options acts scanner words lines × (text ≡ start ++ lines)
  HaveLines-end words start text have =
      (have.lines, subst (AreWordLines options acts scanner words) (append-nil have.lines) (have.continues [] refl), have.is)
