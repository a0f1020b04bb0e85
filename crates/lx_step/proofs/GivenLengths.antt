-- What is kept of values, by its lengths.
use Rattle.std.proofs.Common.{◌≡◌, ◌∙◌, sym, ap, refl, ℕ, ◌/◌, Bool, true, false, List, length, length-set, Option, Some, None, Result, Ok, Err, IfOk, OnErr, map}
use Rattle.lx_base.specs.declared.lists.Memory.{Memory}
use Rattle.lx_ccode.specs.declared.piece.CodeBlock.{CodeBlock}
use Rattle.lx_ccode.specs.declared.piece.CondCase.{CondCase}
use Rattle.lx_ccode.specs.declared.piece.Piece.{Piece}
use Rattle.lx_ccode.specs.declared.piece.Stmt.{Stmt}
use Rattle.lx_ccode.specs.declared.piece.Stmt.TheVariants.{Tag, Count, End}
use Rattle.lx_ccode.specs.Machine.{Machine}
use Rattle.lx_ccode.specs.NameSets.{first_place}
use Rattle.lx_step.specs.declared.scanner.Going.{Going}
use Rattle.lx_step.specs.Given.{Given, with_item}
use Rattle.lx_step.specs.declared.tags.TagName.{TagName}
use Rattle.lx_step.specs.Steps.{KeepsLengths, given_after}
use Rattle.lx_step.specs.Tags.{tag_names, told_name}

length-with_item : {A : Type 0} (place : Option ℕ) (item : A) (items : List A) → length (with_item place item items) ≡ length items
length-with_item None item items = refl
length-with_item (Some place) item items = length-set items place item

KeepsLengths-after : (names : List (List ℕ)) (statement : Stmt) (machine : Machine) (given : Given) → KeepsLengths given (given_after names statement machine given)
KeepsLengths-after names (Tag tag false register) machine given =
    record { offsets = length-with_item (first_place names tag) (machine.registers register) given.offsets; histories = refl; entries = refl }
KeepsLengths-after names (Tag tag true history) machine given =
    record { offsets = refl; histories = length-with_item (first_place names tag) (machine.histories history) given.histories; entries = refl }
KeepsLengths-after names (Count groups) machine given = record { offsets = refl; histories = refl; entries = refl }
KeepsLengths-after names (End place register) machine given =
    record { offsets = refl; histories = refl; entries = length-set given.entries (place / 2) _ }
KeepsLengths-after names _ machine given = record { offsets = refl; histories = refl; entries = refl }

pub KeepsLengths-same : (old new : Given) → new ≡ old → KeepsLengths old new
KeepsLengths-same old new same = record {
  offsets = ap (λ (given : Given). length given.offsets) same;
  histories = ap (λ (given : Given). length given.histories) same;
  entries = ap (λ (given : Given). length given.entries) same;
}

pub KeepsLengths-given : (names : List (List ℕ)) (statement : Stmt) (machine : Machine) (old new : Given) → new ≡ given_after names statement machine old → KeepsLengths old new
KeepsLengths-given names statement machine old new is =
    let kept : KeepsLengths old (given_after names statement machine old) = KeepsLengths-after names statement machine old in
    record {
      offsets = ap (λ (given : Given). length given.offsets) is ∙ kept.offsets;
      histories = ap (λ (given : Given). length given.histories) is ∙ kept.histories;
      entries = ap (λ (given : Given). length given.entries) is ∙ kept.entries;
    }

-- a step that may find no memory
pub IfOk-lengths : (names : List (List ℕ)) (statement : Stmt) (machine : Machine) (old new : Given) (result : Result Going Memory) → IfOk result (λ going. new ≡ given_after names statement machine old)
    → OnErr result (new ≡ old) → KeepsLengths old new
IfOk-lengths names statement machine old new (Ok going) is kept = KeepsLengths-given names statement machine old new is
IfOk-lengths names statement machine old new (Err memory) is kept = KeepsLengths-same old new kept

-- ---- a statement that gives a tag a value

-- the names of a piece's tags
abbrev pub names_of : Piece → List (List ℕ)
names_of piece = tag_names piece.blocks

-- the number that was found is that of the name
pub numbered : (piece : Piece) (shown : List CodeBlock) (tags : List TagName) (word name : List ℕ) (number : Option ℕ) → map (told_name piece.blocks) tags ≡ tag_names piece.blocks
    → shown ≡ piece.blocks → word ≡ name → number ≡ first_place (map (told_name shown) tags) word → number ≡ first_place (names_of piece) name
numbered piece shown tags word name number all blocks same is =
    is ∙ ap (λ word. first_place (map (told_name shown) tags) word) same ∙ ap (λ blocks. first_place (map (told_name blocks) tags) name) blocks ∙ ap (λ names. first_place names name) all

pub IfOk-tag : (piece : Piece) (statement : Stmt) (name : List ℕ) (is_history : Bool) (place : ℕ) (machine : Machine) (old new : Given) (result : Result Going Memory) (number : Option ℕ)
    → statement ≡ Tag name is_history place → is_history ≡ true → number ≡ first_place (names_of piece) name
    → IfOk result (λ going. (conds : List CondCase) (names : List (List ℕ)) (name : List ℕ) → number ≡ first_place names name → new ≡ given_after names (Tag name true place) machine old)
    → IfOk result (λ going. new ≡ given_after (names_of piece) statement machine old)
IfOk-tag piece statement name is_history place machine old new (Ok going) number is flag found given =
    given piece.conds (names_of piece) name found ∙ ap (λ one. given_after (names_of piece) one machine old) (sym (is ∙ ap (λ flag. Tag name flag place) flag))
IfOk-tag piece statement name is_history place machine old new (Err memory) number is flag found given = tt
