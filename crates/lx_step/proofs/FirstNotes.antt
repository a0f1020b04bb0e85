-- The first statements of a match that give tags values, as they are noted and read.
use Rattle.std.proofs.Common.{◌≡◌, ◌∙◌, sym, ap, subst, refl, ℕ, zero, suc, ◌+◌, ◌-◌, ◌<◌, ◌≤◌, ◌==◌, Bool, true, false, not, List, [], ◌∷◌, length, length-set, map, drop, drop-cons, get_or, get_or-set_other, get_or-set_same, set, take, eq-eqb, eqb-true, Option, Some, None, IfSome, slice_get, arith}
use Rattle.std.specs.Borrow.{Bor}
use Rattle.std.specs.List.{list_any}
use Rattle.std.specs.Option.{option_map}
use Rattle.std.proofs.lemmas.Bool.{false≢true, ne_eqb}
use Rattle.std.proofs.lemmas.List.{get_or_default}
use Rattle.lx_base.specs.Letters.{equal_words}
use Rattle.lx_ccode.proofs.Words.{equal_words-self, equal_words-true}
use Rattle.lx_ccode.specs.declared.piece.CodeBlock.{CodeBlock}
use Rattle.lx_ccode.specs.declared.piece.Stmt.{Stmt}
use Rattle.lx_ccode.specs.declared.piece.Stmt.TheVariants.{Tag}
use Rattle.lx_ccode.specs.Machine.{code_at}
use Rattle.lx_ccode.specs.NameSets.{first_place}
use Rattle.lx_step.specs.declared.answers.StmtAt.{StmtAt}
use Rattle.lx_step.specs.declared.firsts.First.{First}
use Rattle.lx_step.specs.declared.tags.TagTable.{TagTable}
use Rattle.lx_step.specs.Firsts.{AreFirsts, AreFirstsFrom, first_from, gives_as, gives_at, is_first, is_given, no_first, no_place, noted, with_noted}
use Rattle.lx_step.specs.Places.{statement_at}
use Rattle.lx_step.specs.Tags.{AreTags, gives, tag_names, told_name}
use Rattle.lx_step.proofs.Places.{any-stands}
use Rattle.lx_step.proofs.TagLists.{gives-none}
use Rattle.lx_step.proofs.TagTables.{first_place-distinct, first_place-within, first_place-word}

-- ---- one place more

gives-tag : (history other : Bool) (tag word : List ℕ) (register : ℕ) → gives history tag (Tag word other register) ≡ true → (history ≡ other) × (equal_words word tag ≡ true)
gives-tag true true tag word register e = (refl, e)
gives-tag false false tag word register e = (refl, e)
gives-tag true false tag word register e = absurd (false≢true e)
gives-tag false true tag word register e = absurd (false≢true e)

gives-same : (history : Bool) (tag word : List ℕ) (register : ℕ) → equal_words word tag ≡ true → gives history tag (Tag word history register) ≡ true
gives-same true tag word register e = e
gives-same false tag word register e = e

noted-same : (history : Bool) (index : ℕ) (first : First) → noted history (with_noted history index first) ≡ index
noted-same true index first = refl
noted-same false index first = refl

-- a note of the other sort changes nothing
noted-other : (history other : Bool) (index : ℕ) (first : First) → (history ≡ other → ⊥) → noted history (with_noted other index first) ≡ noted history first
noted-other true true index first apart = absurd (apart refl)
noted-other false false index first apart = absurd (apart refl)
noted-other true false index first apart = refl
noted-other false true index first apart = refl

module _ (blocks : List CodeBlock) (index : ℕ) (place : StmtAt) (places : List StmtAt) (firsts : List First) where
  abbrev name_at : ℕ → List ℕ
  name_at number = get_or (tag_names blocks) number []

  -- where the statement gives no tag of the piece a value, all stays as it is
  pub AreFirstsFrom-none : ((number : ℕ) → number < length firsts → (history : Bool) → gives_at blocks history (name_at number) place ≡ false)
      → AreFirstsFrom blocks (suc index) places firsts → AreFirstsFrom blocks index (place ∷ places) firsts
  AreFirstsFrom-none none before = record {
    many = before.many;
    each = λ number h history. rw (none number h history) (before.each number h history);
  }

  -- nor where it names a tag that the piece has not
  pub AreFirstsFrom-unknown : (table : TagTable) (word : List ℕ) (other : Bool) (register : ℕ) → AreTags blocks table → statement_at blocks place ≡ Some (Tag word other register)
      → first_place (tag_names blocks) word ≡ None → AreFirstsFrom blocks (suc index) places firsts → AreFirstsFrom blocks index (place ∷ places) firsts
  AreFirstsFrom-unknown table word other register tags is none before =
      AreFirstsFrom-none (λ number h history. by number (let many = before.many in omega (arith, h, many)) history (gives_at blocks history (name_at number) place) refl) before
    where
      some_none : {place : ℕ} → Some place ≡ None → ⊥
      some_none e = cc

      by : (number : ℕ) → number < length (tag_names blocks) → (history test : Bool) → gives_at blocks history (name_at number) place ≡ test → test ≡ false
      by number h history true given =
          let same = gives-tag history other (name_at number) word register (sym (ap (gives_as history (name_at number)) is) ∙ given) in
          absurd (some_none (sym (first_place-distinct (tag_names blocks) number tags.listed.distinct h)
          ∙ ap (first_place (tag_names blocks)) (sym (equal_words-true word (name_at number) same.1)) ∙ none))
      by number h history false given = refl

  module _ (word : List ℕ) (other : Bool) (register number : ℕ) (is : statement_at blocks place ≡ Some (Tag word other register)) (found : first_place (tag_names blocks) word ≡ Some number)
      (table : TagTable) (tags : AreTags blocks table) (before : AreFirstsFrom blocks (suc index) places firsts) where
    abbrev after : List First
    after = set firsts number (with_noted other index (get_or firsts number no_first))

    gives_is : (history : Bool) (tag : List ℕ) → gives_at blocks history tag place ≡ gives history tag (Tag word other register)
    gives_is history tag = ap (gives_as history tag) is

    one : (at : ℕ) → at < length firsts → (history : Bool) → IfSome (first_from (gives_at blocks history (name_at at)) index (place ∷ places)) (λ index. noted history (get_or after at no_first) ≡ index)
    one at h history = by (gives_at blocks history (name_at at) place) refl where
      within : at < length (tag_names blocks)
      within = let many = before.many in omega (arith, h, many)

      same_number : equal_words word (name_at at) ≡ true → at ≡ number
      same_number same =
          let places : Some at ≡ Some number = sym (first_place-distinct (tag_names blocks) at tags.listed.distinct within) ∙ ap (first_place (tag_names blocks)) (sym (equal_words-true word (name_at at) same)) ∙ found in
          cc

      kept : (same : Bool) → (at == number) ≡ same → gives_at blocks history (name_at at) place ≡ false → noted history (get_or after at no_first) ≡ noted history (get_or firsts at no_first)
      kept true is_same none =
          let at_is : at ≡ number = eqb-true at number is_same in
          let here : number < length firsts = omega (arith, h, at_is) in
          let apart : history ≡ other → ⊥ = λ sort. false≢true (sym none ∙ gives_is history (name_at at)
          ∙ subst (λ sort. gives history (name_at at) (Tag word sort register) ≡ true) sort
          (gives-same history (name_at at) word register (ap (λ one. equal_words word (name_at one)) at_is ∙ first_place-word (tag_names blocks) word number found))) in
          ap (λ one. noted history (get_or after one no_first)) at_is ∙ ap (noted history) (get_or-set_same firsts number (with_noted other index (get_or firsts number no_first)) no_first here)
          ∙ noted-other history other index (get_or firsts number no_first) apart ∙ ap (λ one. noted history (get_or firsts one no_first)) (sym at_is)
      kept false is_other none =
          ap (noted history) (get_or-set_other firsts number at (with_noted other index (get_or firsts number no_first)) no_first (λ same. false≢true (sym is_other ∙ eq-eqb at number same)))

      change : (found : Option ℕ) → IfSome found (λ index. noted history (get_or firsts at no_first) ≡ index) → noted history (get_or after at no_first) ≡ noted history (get_or firsts at no_first)
          → IfSome found (λ index. noted history (get_or after at no_first) ≡ index)
      change None h e = tt
      change (Some found) h e = e ∙ h

      by : (test : Bool) → gives_at blocks history (name_at at) place ≡ test
          → IfSome (first_from (gives_at blocks history (name_at at)) index (place ∷ places)) (λ index. noted history (get_or after at no_first) ≡ index)
      by true given =
          let same = gives-tag history other (name_at at) word register (sym (gives_is history (name_at at)) ∙ given) in
          let at_is : at ≡ number = same_number same.1 in
          let here : number < length firsts = omega (arith, h, at_is) in
          rw given
          (ap (λ one. noted history (get_or after one no_first)) at_is ∙ ap (noted history) (get_or-set_same firsts number (with_noted other index (get_or firsts number no_first)) no_first here)
          ∙ ap (λ sort. noted history (with_noted sort index (get_or firsts number no_first))) (sym same.0) ∙ noted-same history index (get_or firsts number no_first))
      by false none = rw none
          (change (first_from (gives_at blocks history (name_at at)) (suc index) places) (before.each at h history) (kept (at == number) refl none))

    pub AreFirstsFrom-tag : AreFirstsFrom blocks index (place ∷ places) after
    AreFirstsFrom-tag =
        let long : length after ≡ length firsts = length-set firsts number (with_noted other index (get_or firsts number no_first)) in
        record {
          many = long ∙ before.many;
          each = λ at h history. one at (omega (arith, h, long)) history;
        }

-- ---- a note is read

module _ (test : StmtAt → Bool) (found : ℕ) where
  -- a place for which the test holds is the first one where no place before it is
  first_is : (places : List StmtAt) (from index : ℕ) → index < length places → test (get_or places index no_place) ≡ true → IfSome (first_from test from places) (λ place. found ≡ place)
      → (from + index == found) ≡ not (list_any test (take index places))
  first_is [] from index h here is = absurd (omega (arith, h))
  first_is (place ∷ places) from zero h here is = let at : found ≡ from = rw here at is in eq-eqb (from + 0) found (omega (arith, at))
  first_is (place ∷ places) from (suc index) h here is = by (test place) refl is (first_is places (suc from) index (omega (arith, h)) here) where
    by : (passes : Bool) → test place ≡ passes → IfSome (first_from test from (place ∷ places)) (λ place. found ≡ place)
        → (IfSome (first_from test (suc from) places) (λ place. found ≡ place) → (suc from + index == found) ≡ not (list_any test (take index places)))
        → (from + suc index == found) ≡ not (list_any test (place ∷ take index places))
    by true passes is later =
        let at : found ≡ from = rw passes at is in rw passes (ne_eqb (from + suc index) found (λ same. absurd (omega (arith, same, at))))
    by false passes is later =
        let next : from + suc index ≡ suc from + index = omega arith in rw passes (ap (λ n. n == found) next ∙ later (rw passes at is))

module _ (blocks : List CodeBlock) (places : List StmtAt) (index : ℕ) where
  abbrev place_is : Option Stmt
  place_is = statement_at blocks (get_or places index no_place)

  pub is_first-other : ((word : List ℕ) (history : Bool) (register : ℕ) → place_is ≡ Some (Tag word history register) → ⊥) → true ≡ is_first blocks places index
  unfolding is_first
  is_first-other other = by place_is refl where
    by : (statement : Option Stmt) → place_is ≡ statement → true ≡ not (is_given blocks (take index places) place_is)
    by None is = rw is refl
    by (Some (Tag word history register)) is = absurd (other word history register is)
    by (Some statement) is = rw is refl

  pub is_first-unknown : (word : List ℕ) (history : Bool) (register : ℕ) → place_is ≡ Some (Tag word history register) → first_place (tag_names blocks) word ≡ None → true ≡ is_first blocks places index
  unfolding is_first
  is_first-unknown word history register is none = rw is (ap not (sym (no_one (take index places)))) where
    no_statement : (statement : Stmt) (block stmt : ℕ) (code : List Stmt) → code_at blocks (Some block) ≡ Some code → slice_get code stmt ≡ Some statement → gives history word statement ≡ false
    no_statement statement block stmt code at here = by (gives history word statement) refl where
      by : (test : Bool) → gives history word statement ≡ test → test ≡ false
      by true given = absurd (false≢true (sym (gives-none blocks history word none) ∙ any-stands (gives history word) blocks block stmt code statement at here given))
      by false given = refl

    no_place_gives : (place : StmtAt) → gives_at blocks history word place ≡ false
    no_place_gives place = by (code_at blocks (Some place.block)) refl where
      in_code : (code : List Stmt) → code_at blocks (Some place.block) ≡ Some code → (found : Option Stmt) → slice_get code place.stmt ≡ found → gives_as history word found ≡ false
      in_code code at None here = refl
      in_code code at (Some statement) here = no_statement statement place.block place.stmt code at here

      by : (code : Option (List Stmt)) → code_at blocks (Some place.block) ≡ code → gives_as history word (elim code [ None ↦ None | Some code ↦ slice_get code place.stmt ]) ≡ false
      by None at = refl
      by (Some code) at = in_code code at (slice_get code place.stmt) refl

    no_one : (before : List StmtAt) → list_any (gives_at blocks history word) before ≡ false
    no_one [] = refl
    no_one (place ∷ before) = rw (no_place_gives place) (no_one before)

  pub is_first-tag : (table : TagTable) (firsts : List First) (word : List ℕ) (history : Bool) (register number : ℕ) → AreTags blocks table → AreFirsts blocks places firsts → index < length places
      → place_is ≡ Some (Tag word history register) → first_place (tag_names blocks) word ≡ Some number → (noted history (get_or firsts number no_first) == index) ≡ is_first blocks places index
  unfolding is_first
  is_first-tag table firsts word history register number tags notes h is found =
      let names : List (List ℕ) = tag_names blocks in
      let within : number < length firsts = let many = notes.many in omega (arith, many, first_place-within names word number found) in
      let named : word ≡ get_or names number [] = equal_words-true word (get_or names number []) (first_place-word names word number found) in
      let note : IfSome (first_from (gives_at blocks history word) 0 places) (λ place. noted history (get_or firsts number no_first) ≡ place) =
      subst (λ one. IfSome (first_from (gives_at blocks history one) 0 places) (λ place. noted history (get_or firsts number no_first) ≡ place)) (sym named) (notes.each number within history) in
      let here : gives_at blocks history word (get_or places index no_place) ≡ true = ap (gives_as history word) is ∙ gives-same history word word register (equal_words-self word) in
      let zero_more : 0 + index ≡ index = omega arith in
      eqb-turned (noted history (get_or firsts number no_first)) index ∙ ap (λ n. n == noted history (get_or firsts number no_first)) (sym zero_more)
      ∙ first_is (gives_at blocks history word) (noted history (get_or firsts number no_first)) places 0 index h here note ∙ ap (λ statement. not (is_given blocks (take index places) statement)) (sym is)
    where
      eqb-turned : (a b : ℕ) → (a == b) ≡ (b == a)
      eqb-turned a b = by (a == b) refl where
        by : (test : Bool) → (a == b) ≡ test → test ≡ (b == a)
        by true is = sym (eq-eqb b a (sym (eqb-true a b is)))
        by false is = sym (ne_eqb b a (λ same. false≢true (sym is ∙ eq-eqb a b (sym same))))

-- the number of a tag that was looked for
pub number_is : (blocks : List CodeBlock) (table : TagTable) (word shown : List ℕ) (found wanted : Option ℕ) → AreTags blocks table → shown ≡ word
    → found ≡ first_place (map (told_name blocks) table.tags.items) shown → found ≡ wanted → first_place (tag_names blocks) word ≡ wanted
number_is blocks table word shown found wanted tags same is wanted_is =
    ap (first_place (tag_names blocks)) (sym same) ∙ ap (λ names. first_place names shown) (sym tags.listed.named) ∙ sym is ∙ wanted_is

-- one of the two numbers of a tag is noted
module _ (blocks : List CodeBlock) (index : ℕ) (place : StmtAt) (places : List StmtAt) (firsts : List First) (word : List ℕ) (other : Bool) (register number : ℕ) (first : First)
    (is : statement_at blocks place ≡ Some (Tag word other register)) (found : first_place (tag_names blocks) word ≡ Some number) (table : TagTable) (tags : AreTags blocks table) (read : first ≡ get_or firsts number first)
    (before : AreFirstsFrom blocks (suc index) places firsts) where
  here : number < length firsts
  here = let many = before.many in omega (arith, many, first_place-within (tag_names blocks) word number found)

  noted_at : (history : Bool) → other ≡ history → AreFirstsFrom blocks index (place ∷ places) (set firsts number (with_noted history index first))
  noted_at history sort =
      let first_is : first ≡ get_or firsts number no_first = read ∙ get_or_default firsts number first no_first here in
      subst (λ one. AreFirstsFrom blocks index (place ∷ places) (set firsts number (with_noted history index one))) (sym first_is)
      (subst (λ sort. AreFirstsFrom blocks index (place ∷ places) (set firsts number (with_noted sort index (get_or firsts number no_first)))) sort
      (AreFirstsFrom-tag blocks index place places firsts word other register number is found table tags before))

  pub AreFirstsFrom-history : other ≡ true → AreFirstsFrom blocks index (place ∷ places) (set firsts number (record { offset = first.offset; history = index }))
  AreFirstsFrom-history sort = noted_at true sort

  pub AreFirstsFrom-offset : other ≡ false → AreFirstsFrom blocks index (place ∷ places) (set firsts number (record { offset = index; history = first.history }))
  AreFirstsFrom-offset sort = noted_at false sort

-- the statement that was found at a place
pub stands_as : (found : Option (Bor Stmt)) (statement : Bor Stmt) (there : Option Stmt) (other : Stmt) → option_map (λ (one : Bor Stmt). one.now) found ≡ there → found ≡ Some statement
    → statement.now ≡ other → there ≡ Some other
stands_as found statement there other is some same = sym is ∙ ap (option_map (λ (one : Bor Stmt). one.now)) some ∙ ap Some same

-- none was found, or none that names a tag
pub is_first-none : (blocks : List CodeBlock) (places : List StmtAt) (index : ℕ) (found : Option (Bor Stmt)) → option_map (λ (one : Bor Stmt). one.now) found ≡ statement_at blocks (get_or places index no_place) → found ≡ None
    → true ≡ is_first blocks places index
is_first-none blocks places index found is none =
    is_first-other blocks places index (λ word history register tagged. absurd (let clash : None ≡ Some (Tag word history register) = sym (ap (option_map (λ (one : Bor Stmt). one.now)) none) ∙ is ∙ tagged in cc))

pub is_first-untagged : (blocks : List CodeBlock) (places : List StmtAt) (index : ℕ) (statement : Stmt) → statement_at blocks (get_or places index no_place) ≡ Some statement
    → ((word : List ℕ) (history : Bool) (register : ℕ) → statement ≡ Tag word history register → ⊥) → true ≡ is_first blocks places index
is_first-untagged blocks places index statement is other =
    is_first-other blocks places index (λ word history register tagged. other word history register (let same : Some statement ≡ Some (Tag word history register) = sym is ∙ tagged in cc))

-- the place before is noted
pub AreFirstsFrom-next : (blocks : List CodeBlock) (places : List StmtAt) (index : ℕ) (old new : List First) → 0 < index → index ≤ length places
    → ((others : List StmtAt) → AreFirstsFrom blocks (suc (index - 1)) others old → AreFirstsFrom blocks (index - 1) (get_or places (index - 1) no_place ∷ others) new)
    → AreFirstsFrom blocks index (drop index places) old → AreFirstsFrom blocks (index - 1) (drop (index - 1) places) new
AreFirstsFrom-next blocks places index old new some within step before =
    let next : suc (index - 1) ≡ index = omega (arith, some) in
    subst (λ places. AreFirstsFrom blocks (index - 1) places new) (sym (drop-cons places (index - 1) no_place (omega (arith, some, within))))
    (step (drop (suc (index - 1)) places) (subst (λ n. AreFirstsFrom blocks n (drop n places) old) (sym next) before))
