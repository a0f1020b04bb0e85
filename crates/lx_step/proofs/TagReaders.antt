-- What readers answer of tags.
use Rattle.std.proofs.Common.{◌≡◌, ◌∙◌, sym, ap, subst, refl, ℕ, zero, suc, ◌<◌, Bool, true, false, List, [], ◌∷◌, length, map, get_or, Option, Some, None, is_some, slice_get, if◌then◌else◌, arith}
use Rattle.std.specs.List.{AllByRecursion, list_any}
use Rattle.std.specs.Option.{option_map}
use Rattle.std.proofs.lemmas.Bool.{false≢true}
use Rattle.std.proofs.lemmas.List.{length-map}
use Rattle.lx_base.specs.Letters.{equal_words}
use Rattle.lx_ccode.proofs.Words.{equal_words-true}
use Rattle.lx_ccode.specs.declared.piece.CodeBlock.{CodeBlock}
use Rattle.lx_ccode.specs.NameSets.{first_place}
use Rattle.lx_ccode.specs.Statements.{all_statements}
use Rattle.lx_step.specs.declared.tags.TagName.{TagName}
use Rattle.lx_step.specs.declared.tags.TagTable.{TagTable}
use Rattle.lx_step.specs.Held.{Held, history_of, offset_of}
use Rattle.lx_step.specs.Tags.{AreTags, HasFlags, gives_history, gives_offset, tag_names, told_name}
use Rattle.lx_step.proofs.TagLists.{gives-none}

-- the tag at the place of a name, and the name
pub record IsTagOf (blocks : List CodeBlock) (tags : List TagName) (name : List ℕ) (number : ℕ) (tag : TagName) : Type 0 where
  pub named : told_name blocks tag ≡ name
  pub flags : HasFlags blocks (all_statements blocks) tag
  pub within : number < length tags

not_none : (found : Option ℕ) (number : ℕ) → option_map suc found ≡ Some number → (place : ℕ) × (found ≡ Some place) × (number ≡ suc place)
not_none None number e = absurd cc
not_none (Some place) number e = (place, refl, cc)

pub IsTagOf-found : (blocks : List CodeBlock) (tags : List TagName) (name : List ℕ) (number : ℕ) (none : TagName) → AllByRecursion (HasFlags blocks (all_statements blocks)) tags
    → first_place (map (told_name blocks) tags) name ≡ Some number → IsTagOf blocks tags name number (get_or tags number none)
IsTagOf-found blocks [] name number none flags e = absurd cc
IsTagOf-found blocks (tag ∷ tags) name number none flags e = by (equal_words (told_name blocks tag) name) refl e (IsTagOf-found blocks tags name) where
  by : (same : Bool) → equal_words (told_name blocks tag) name ≡ same → first_place (map (told_name blocks) (tag ∷ tags)) name ≡ Some number
      → ((number : ℕ) (none : TagName) → AllByRecursion (HasFlags blocks (all_statements blocks)) tags → first_place (map (told_name blocks) tags) name ≡ Some number → IsTagOf blocks tags name number (get_or tags number none))
      → IsTagOf blocks (tag ∷ tags) name number (get_or (tag ∷ tags) number none)
  by true same e later =
      let zero_is : 0 ≡ number = let h : Some 0 ≡ Some number = rw same at e in cc in
      subst (λ n. IsTagOf blocks (tag ∷ tags) name n (get_or (tag ∷ tags) n none)) zero_is
      (record { named = equal_words-true (told_name blocks tag) name same; flags = flags.0; within = omega arith })
  by false same e later =
      let found = not_none (first_place (map (told_name blocks) tags) name) number (rw same at e) in
      let rest = later found.0 none flags.1 found.1 in
      subst (λ n. IsTagOf blocks (tag ∷ tags) name n (get_or (tag ∷ tags) n none)) (sym found.2)
      (record { named = rest.named; flags = rest.flags; within = let below = rest.within in omega (arith, below) })

module _ (held : Held) (table : TagTable) (shown : List CodeBlock) (name : List ℕ) (are : AreTags held.piece.blocks table) (blocks : shown ≡ held.piece.blocks) where
  abbrev tags : List TagName
  tags = table.tags.items

  at_names : first_place (map (told_name shown) tags) name ≡ first_place (tag_names held.piece.blocks) name
  at_names =
      ap (λ one. first_place (map (told_name one) tags) name) blocks
      ∙ ap (λ names. first_place names name) are.listed.named

  no_offset : first_place (map (told_name shown) tags) name ≡ None → list_any (gives_offset name) (all_statements held.piece.blocks) ≡ false
  no_offset none = gives-none held.piece.blocks false name (sym at_names ∙ none)

  no_history : first_place (map (told_name shown) tags) name ≡ None → list_any (gives_history name) (all_statements held.piece.blocks) ≡ false
  no_history none = gives-none held.piece.blocks true name (sym at_names ∙ none)

  pub offset_of-none : None ≡ first_place (map (told_name shown) tags) name → None ≡ offset_of held name
  unfolding offset_of
  offset_of-none none = rw (no_offset (sym none)) refl

  pub offset-unknown : None ≡ first_place (map (told_name shown) tags) name → false ≡ list_any (gives_offset name) (all_statements held.piece.blocks)
  offset-unknown none = sym (no_offset (sym none))

  pub history_of-none : None ≡ first_place (map (told_name shown) tags) name → None ≡ history_of held name
  unfolding history_of
  history_of-none none = rw (no_history (sym none)) refl

  pub history-unknown : None ≡ first_place (map (told_name shown) tags) name → false ≡ list_any (gives_history name) (all_statements held.piece.blocks)
  history-unknown none = sym (no_history (sym none))

  module _ (number : ℕ) (tag : TagName) (found : Some number ≡ first_place (map (told_name shown) tags) name) (there : tag ≡ get_or tags number tag) where
    is_tag : IsTagOf held.piece.blocks tags name number tag
    is_tag =
        subst (IsTagOf held.piece.blocks tags name number) (sym there)
        (IsTagOf-found held.piece.blocks tags name number tag are.flags (ap (λ names. first_place names name) are.listed.named ∙ sym at_names ∙ sym found))

    pub offset_flag : tag.has_offset ≡ list_any (gives_offset name) (all_statements held.piece.blocks)
    offset_flag = is_tag.flags.offset ∙ ap (λ one. list_any (gives_offset one) (all_statements held.piece.blocks)) is_tag.named

    pub history_flag : tag.has_history ≡ list_any (gives_history name) (all_statements held.piece.blocks)
    history_flag = is_tag.flags.history ∙ ap (λ one. list_any (gives_history one) (all_statements held.piece.blocks)) is_tag.named

    some : {A : Type 0} (read : ℕ → Option A) (test : Bool) (place : Option ℕ) → test ≡ true → place ≡ Some number
        → read number ≡ (if test then elim place [ None ↦ None | Some at ↦ read at ] else None)
    some read true None e f = absurd cc
    some read true (Some at) e f = let same : at ≡ number = cc in ap read (sym same)
    some read false place e f = absurd (false≢true e)

    pub offset_of-not : tag.has_offset ≡ false → None ≡ offset_of held name
    unfolding offset_of
    offset_of-not flag = rw (sym offset_flag ∙ flag) refl

    pub history_of-not : tag.has_history ≡ false → None ≡ history_of held name
    unfolding history_of
    history_of-not flag = rw (sym history_flag ∙ flag) refl

    pub offset_of-some : tag.has_offset ≡ true → slice_get held.given.offsets number ≡ offset_of held name
    unfolding offset_of
    offset_of-some flag =
        some (λ place. slice_get held.given.offsets place) (list_any (gives_offset name) (all_statements held.piece.blocks)) (first_place (tag_names held.piece.blocks) name) (sym offset_flag ∙ flag) (sym at_names ∙ sym found)

    pub history_of-some : tag.has_history ≡ true → slice_get held.given.histories number ≡ history_of held name
    unfolding history_of
    history_of-some flag =
        some (λ place. slice_get held.given.histories place) (list_any (gives_history name) (all_statements held.piece.blocks)) (first_place (tag_names held.piece.blocks) name) (sym history_flag ∙ flag) (sym at_names ∙ sym found)

    known : {A : Type 0} (items : List A) → length items ≡ length (tag_names held.piece.blocks) → is_some (slice_get items number) ≡ true
    known items long =
        let count : length (tag_names held.piece.blocks) ≡ length tags = ap length (sym are.listed.named) ∙ length-map tags (told_name held.piece.blocks) in
        let within = is_tag.within in
        there_is items number (omega (arith, long, count, within))
      where
        there_is : {A : Type 0} (items : List A) (place : ℕ) → place < length items → is_some (slice_get items place) ≡ true
        there_is [] place h = absurd (omega (arith, h))
        there_is (item ∷ items) zero h = refl
        there_is (item ∷ items) (suc place) h = there_is items place (omega (arith, h))

    pub offset-known : tag.has_offset ≡ true → length held.given.offsets ≡ length (tag_names held.piece.blocks)
        → is_some (slice_get held.given.offsets number) ≡ list_any (gives_offset name) (all_statements held.piece.blocks)
    offset-known flag long = known held.given.offsets long ∙ sym flag ∙ offset_flag

    pub history-known : tag.has_history ≡ true → length held.given.histories ≡ length (tag_names held.piece.blocks)
        → is_some (slice_get held.given.histories number) ≡ list_any (gives_history name) (all_statements held.piece.blocks)
    history-known flag long = known held.given.histories long ∙ sym flag ∙ history_flag

pub is_some-map : {A B : Type 0} (f : A → B) (found : Option A) → is_some (option_map f found) ≡ is_some found
is_some-map f None = refl
is_some-map f (Some item) = refl
