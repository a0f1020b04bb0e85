-- The tags that a match gave values, each told at the first statement that gave it one.
use Rattle.std.proofs.Common.{◌≡◌, ◌∙◌, sym, ap, refl, ℕ, Bool, true, false, not, ◌||◌, List, [], ◌∷◌, get_or, take, Option, Some, None, if◌then◌else◌}
use Rattle.std.specs.List.{list_any}
use Rattle.std.specs.Str.{bytes_eq}
use Rattle.std.proofs.lemmas.Slice.Eq.{bytes_eq-Decides}
use Rattle.lx_base.specs.Letters.{equal_words}
use Rattle.lx_ccode.proofs.Words.{equal_words-self, equal_words-true}
use Rattle.lx_ccode.specs.declared.piece.Piece.{Piece}
use Rattle.lx_ccode.specs.declared.piece.Stmt.{Stmt}
use Rattle.lx_ccode.specs.declared.piece.Stmt.TheVariants.{Tag}
use Rattle.lx_step.specs.declared.answers.StmtAt.{StmtAt}
use Rattle.lx_step.specs.Firsts.{gives_as, gives_at, is_first, is_given, no_place}
use Rattle.lx_step.specs.Held.{Held}
use Rattle.lx_step.specs.Tags.{gives}
use Rattle.lx_run.specs.Tags.{new_tag_text}
use Rattle.lx_run.specs.Values.{gives_same, onto, statement_at, statements_at, tag_text}

bytes_eq-words : (word other : List ℕ) → bytes_eq word other ≡ equal_words other word
bytes_eq-words word other = by (bytes_eq word other) (equal_words other word) refl refl where
  by : (a b : Bool) → bytes_eq word other ≡ a → equal_words other word ≡ b → a ≡ b
  by true true p q = refl
  by true false p q = let same : word ≡ other = (bytes_eq-Decides word other).0 p in sym (ap (equal_words other) same ∙ equal_words-self other) ∙ q
  by false true p q = sym p ∙ (bytes_eq-Decides word other).1 (sym (equal_words-true other word q))
  by false false p q = refl

if-true : (test : Bool) → (if test then true else false) ≡ test
if-true true = refl
if-true false = refl

if-false : (test : Bool) → (if test then false else false) ≡ false
if-false true = refl
if-false false = refl

-- a statement gives the tag of another one a value of the same sort
gives_same-gives : (word : List ℕ) (history : Bool) (register : ℕ) (other : Stmt) → gives_same (Tag word history register) other ≡ gives history word other
gives_same-gives word true register (Tag tag true place) = if-true (bytes_eq word tag) ∙ bytes_eq-words word tag
gives_same-gives word true register (Tag tag false place) = if-false (bytes_eq word tag)
gives_same-gives word false register (Tag tag true place) = if-false (bytes_eq word tag)
gives_same-gives word false register (Tag tag false place) = if-true (bytes_eq word tag) ∙ bytes_eq-words word tag
gives_same-gives word true register _ = refl
gives_same-gives word false register _ = refl

module _ (piece : Piece) where
  any-given : (word : List ℕ) (history : Bool) (register : ℕ) (before : List StmtAt)
      → list_any (gives_same (Tag word history register)) (statements_at piece before) ≡ list_any (gives_at piece.blocks history word) before
  any-given word history register [] = refl
  any-given word history register (place ∷ before) = by (statement_at piece place) (any-given word history register before) where
    by : (found : Option Stmt) → list_any (gives_same (Tag word history register)) (statements_at piece before) ≡ list_any (gives_at piece.blocks history word) before
        → list_any (gives_same (Tag word history register)) (onto found (statements_at piece before)) ≡ (gives_as history word found || list_any (gives_at piece.blocks history word) before)
    by None rest = rest
    by (Some other) rest =
        ap (λ given. given || list_any (gives_same (Tag word history register)) (statements_at piece before)) (gives_same-gives word history register other)
        ∙ ap (λ given. gives history word other || given) rest

  -- a statement that gives no tag a value
  none-same : (statement : Stmt) → ((other : Stmt) → gives_same statement other ≡ false) → (statements : List Stmt) → list_any (gives_same statement) statements ≡ false
  none-same statement none [] = refl
  none-same statement none (other ∷ statements) = ap (λ given. given || list_any (gives_same statement) statements) (none other) ∙ none-same statement none statements

  given-same : (before : List StmtAt) (statement : Stmt) → list_any (gives_same statement) (statements_at piece before) ≡ is_given piece.blocks before (Some statement)
  given-same before (Tag word history register) = any-given word history register before
  given-same before statement = none-same statement (λ other. refl) (statements_at piece before)

  module _ (held : Held) (places : List StmtAt) (at : ℕ) (statement : Stmt) (same : held.piece ≡ piece) (is : statement_at piece (get_or places at no_place) ≡ Some statement) where
    abbrev before : List StmtAt
    before = take at places

    told_first : (first : Bool) → first ≡ is_first held.piece.blocks places at → list_any (gives_same statement) (statements_at piece before) ≡ not first
    unfolding is_first
    told_first first told =
        let found : first ≡ not (is_given piece.blocks before (Some statement)) =
        told ∙ ap (λ (piece : Piece). is_first piece.blocks places at) same ∙ ap (λ statement. not (is_given piece.blocks before statement)) is in
        given-same before statement ∙ turned (is_given piece.blocks before (Some statement)) ∙ ap not (sym found)
      where
        turned : (given : Bool) → given ≡ not (not given)
        turned true = refl
        turned false = refl

    text : (first : Bool) → first ≡ is_first held.piece.blocks places at
        → new_tag_text held (statements_at piece before) (statement_at piece (get_or places at no_place)) ≡ (if not first then [] else tag_text held statement)
    text first told =
        ap (new_tag_text held (statements_at piece before)) is ∙ ap (λ (given : Bool). if given then [] else tag_text held statement) (told_first first told)

    pub new_tag_text-given : (first : Bool) → first ≡ is_first held.piece.blocks places at → first ≡ false
        → new_tag_text held (statements_at piece before) (statement_at piece (get_or places at no_place)) ≡ []
    new_tag_text-given first told given = text first told ∙ ap (λ (first : Bool). if not first then [] else tag_text held statement) given

    pub new_tag_text-first : (first : Bool) → first ≡ is_first held.piece.blocks places at → first ≡ true
        → new_tag_text held (statements_at piece before) (statement_at piece (get_or places at no_place)) ≡ tag_text held statement
    new_tag_text-first first told new = text first told ∙ ap (λ (first : Bool). if not first then [] else tag_text held statement) new

  pub new_tag_text-none : (held : Held) (before : List Stmt) (places : List StmtAt) (at : ℕ) → statement_at piece (get_or places at no_place) ≡ None
      → new_tag_text held before (statement_at piece (get_or places at no_place)) ≡ []
  new_tag_text-none held before places at none = ap (new_tag_text held before) none
