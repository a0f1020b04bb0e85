-- No `/*!` begins in the names of the files met.
use Rattle.std.proofs.Common.{◌≡◌, ℕ, zero, suc, ◌-◌, Bool, true, false, not, cond, ◌&&◌, ◌||◌, arith, List, [], ◌∷◌, ◌++◌, length, take, codes, Option, Some, None, Ok, Err, refl, sym, ◌∙◌, ap, subst, append_assoc, ◌==◌}
use Rattle.std.specs.Prelude.{All, IfSome}
use Rattle.std.specs.List.{AllByRecursion, list_any}
use Rattle.std.specs.Str.{is_utf8}
use Rattle.std.proofs.lemmas.Bool.{eqb-true, not-true}
use Rattle.std.proofs.lemmas.List.Elements.{All-nil, All-cons, All-append}
use Rattle.lx_base.specs.declared.faults.Fault.TheVariants.{IncludeDepth}
use Rattle.lx_base.specs.declared.places.Pos.{Pos}
use Rattle.lx_base.specs.declared.settings.Options.{Options}
use Rattle.lx_base.specs.Letters.{begins_with}
use Rattle.lx_base.specs.Places.{file_start}
use Rattle.lx_files.specs.Held.{bytes_of}
use Rattle.lx_files.specs.declared.files.HeldFile.{HeldFile}
use Rattle.lx_split.specs.declared.includes.IncludeBlock.{IncludeBlock}
use Rattle.lx_split.specs.declared.pieces.SourcePiece.{SourcePiece}
use Rattle.lx_split.specs.Bodies.{after_file_name}
use Rattle.lx_split.specs.Expanded.{HasNoOpening}
use Rattle.lx_split.specs.IncludeNames.{after_blanks, checked_name, file_name_of, folder_of, in_folder, is_allowed_name, is_nothing, name_before, names_for, quoted_name}
use Rattle.lx_split.specs.Includes.{Expansion, Met, expanded, expansion, fails, file_expansion, file_or, first_file, found_include, found_then, gives, go_on, if_named, include_expansion, include_of, leave_block, main_expansion, met, piece_then, pieces_expansion, pieces_within, with_file}
use Rattle.lx_split.specs.Pieces.{Split}
use Rattle.lx_split.specs.Searches.{from_first}
use Rattle.lx_split.proofs.Cutting.{from_first-nowhere}
use Rattle.lx_split.proofs.Straddles.{HasNone-append, HasNone-behind, HasNone-cons, HasNone-front, StopsAtSlash-opening}

-- ---- the name of an include

-- also with a `/` before it
abbrev IsClean : List ℕ → Type 0
IsClean name = HasNoOpening (47 ∷ name)

is_nothing-nil : (text : List ℕ) → is_nothing text ≡ true → text ≡ []
is_nothing-nil [] none = refl
is_nothing-nil (letter ∷ text) none = absurd (omega (arith, eqb-true (length (letter ∷ text)) 0 none))

both : (a b : Bool) → (a && b) ≡ true → (a ≡ true) × (b ≡ true)
both true b is = (refl, is)
both false b is = absurd (cc)

IsClean-allowed : (name : List ℕ) → is_allowed_name name ≡ true → IsClean name
IsClean-allowed name allowed =
    let opening = from_first (begins_with (codes "/*!")) name in
    let some = not (is_nothing name) && not (list_any (λ letter. letter == 13) name) in
    let last = both (some && not (begins_with (codes "*!") name)) (is_nothing opening) allowed in
    let first = both some (not (begins_with (codes "*!") name)) last.0 in
    HasNone-cons (begins_with (codes "/*!")) 47 name (not-true (begins_with (codes "*!") name) first.1)
    (from_first-nowhere (begins_with (codes "/*!")) refl name (is_nothing-nil opening last.1))

IsClean-checked : (quoted name : List ℕ) → checked_name quoted ≡ Some name → IsClean name
IsClean-checked quoted name is = by (is_allowed_name quoted) (is_utf8 quoted) refl is
  where
    by : (allowed text : Bool) → is_allowed_name quoted ≡ allowed → cond allowed (cond text (Some quoted) None) None ≡ Some name →
        IsClean name
    by true true allowed is = let same : quoted ≡ name = cc in subst IsClean same (IsClean-allowed quoted allowed)
    by true false allowed is = absurd (cc)
    by false text allowed is = absurd (cc)

IsClean-before : (quoted name : List ℕ) (rest : Option (List ℕ)) → name_before quoted rest ≡ Some name → IsClean name
IsClean-before quoted name None is = absurd (cc)
IsClean-before quoted name (Some rest) is = by (is_nothing (after_blanks (length rest) rest)) is
  where
    by : (ends : Bool) → cond ends (checked_name (take (length quoted - length rest - 1) quoted)) None ≡ Some name → IsClean name
    by true is = IsClean-checked (take (length quoted - length rest - 1) quoted) name is
    by false is = absurd (cc)

IsClean-quoted : (text name : List ℕ) → quoted_name text ≡ Some name → IsClean name
IsClean-quoted [] name is = absurd (cc)
IsClean-quoted (letter ∷ text) name is = by (letter == 34) is
  where
    by : (quote : Bool) → cond quote (name_before text (after_file_name text)) None ≡ Some name → IsClean name
    by true is = IsClean-before text name (after_file_name text) is
    by false is = absurd (cc)

IsClean-of : (body name : List ℕ) → file_name_of body ≡ Some name → IsClean name
IsClean-of body name is = IsClean-quoted (after_blanks (length body) body) name is

HasNoOpening-clean : (name : List ℕ) → IsClean name → HasNoOpening name
HasNoOpening-clean name clean = HasNone-behind (begins_with (codes "/*!")) (47 ∷ []) name clean

-- ---- folders

-- a folder has nothing, or ends with a `/` of the name
data IsFolder (name folder : List ℕ) : Type 0 where
  nothing : folder ≡ [] → IsFolder name folder
  ending : (front rest : List ℕ) → folder ≡ front ++ 47 ∷ [] → name ≡ front ++ 47 ∷ rest → IsFolder name folder

abbrev has_slash : List ℕ → Bool
has_slash = list_any (λ letter. letter == 47)

folder_of-nothing : (name : List ℕ) → folder_of name ≡ [] → has_slash name ≡ false
folder_of-nothing [] none = refl
folder_of-nothing (letter ∷ name) none = at (has_slash (letter ∷ name)) none
  where
    at : (b : Bool) → cond b (letter ∷ folder_of name) [] ≡ [] → b ≡ false
    at true none = absurd (cc)
    at false none = refl

IsFolder-cons : (letter : ℕ) (name folder : List ℕ) → has_slash (letter ∷ name) ≡ true → (folder ≡ [] → has_slash name ≡ false) →
    IsFolder name folder → IsFolder (letter ∷ name) (letter ∷ folder)
IsFolder-cons letter name folder slash none (nothing is) = at (letter == 47) refl slash
  where
    at : (b : Bool) → (letter == 47) ≡ b → (b || has_slash name) ≡ true → IsFolder (letter ∷ name) (letter ∷ folder)
    at true same slash = let same : letter ≡ 47 = eqb-true letter 47 same in ending [] name (cc) (cc)
    at false same slash = absurd (let none = none is in cc)
IsFolder-cons letter name folder slash none (ending front rest is text) =
    ending (letter ∷ front) rest (ap (λ (l : List ℕ). letter ∷ l) is) (ap (λ (l : List ℕ). letter ∷ l) text)

folder_of-is : (name : List ℕ) → IsFolder name (folder_of name)
folder_of-is [] = nothing refl
folder_of-is (letter ∷ name) = at (has_slash (letter ∷ name)) refl (folder_of-is name)
  where
    at : (b : Bool) → has_slash (letter ∷ name) ≡ b → IsFolder name (folder_of name) →
        IsFolder (letter ∷ name) (cond b (letter ∷ folder_of name) [])
    at true slash later = IsFolder-cons letter name (folder_of name) slash (folder_of-nothing name) later
    at false slash later = nothing refl

-- the name of an include in the folder has no `/*!`
abbrev IsCleanFolder : List ℕ → Type 0
IsCleanFolder folder = (name : List ℕ) → IsClean name → HasNoOpening (folder ++ name)

IsCleanFolder-of : (name folder : List ℕ) → HasNoOpening name → IsFolder name folder → IsCleanFolder folder
IsCleanFolder-of name folder none (nothing is) inner clean = rw is (HasNoOpening-clean inner clean)
IsCleanFolder-of name folder none (ending front rest is text) inner clean =
    let own = HasNone-front (begins_with (codes "/*!")) StopsAtSlash-opening front (47 ∷ rest) (subst HasNoOpening text none) in
    let whole = HasNone-append (begins_with (codes "/*!")) StopsAtSlash-opening front inner own clean in
    let same : folder ++ inner ≡ front ++ 47 ∷ inner = ap (λ (l : List ℕ). l ++ inner) is ∙ append_assoc front (47 ∷ []) inner in
    subst HasNoOpening (sym same) whole

in_folder-clean : (dir : Option (List ℕ)) (name : List ℕ) → IfSome dir HasNoOpening → IsClean name →
    AllByRecursion HasNoOpening (in_folder dir name)
in_folder-clean None name none clean = tt
in_folder-clean (Some folder) name none clean = (HasNone-append (begins_with (codes "/*!")) StopsAtSlash-opening folder name none clean, tt)

names_for-clean : (options : Options) (folder name : List ℕ) → IfSome options.dir HasNoOpening → IsCleanFolder folder → IsClean name →
    AllByRecursion HasNoOpening (names_for options folder name)
names_for-clean options folder name none clean_folder clean = by (begins_with (codes "/") name)
  where
    by : (absolute : Bool) → AllByRecursion HasNoOpening (cond absolute (name ∷ []) ((folder ++ name) ∷ in_folder options.dir name))
    by true = (HasNoOpening-clean name clean, tt)
    by false = (clean_folder name clean, in_folder-clean options.dir name none clean)

-- a file is found under one of the names
abbrev IsCleanFile : Option HeldFile → Type 0
IsCleanFile found = IfSome found (λ file. HasNoOpening file.name)

file_or-clean : (other : Option HeldFile) (name : List ℕ) (bytes : Option (List ℕ)) → HasNoOpening name → IsCleanFile other →
    IsCleanFile (file_or other name bytes)
file_or-clean other name None none clean = clean
file_or-clean other name (Some bytes) none clean = none

first_file-clean : (seen : List HeldFile) (names : List (List ℕ)) → AllByRecursion HasNoOpening names → IsCleanFile (first_file seen names)
first_file-clean seen [] none = tt
first_file-clean seen (name ∷ names) none =
    file_or-clean (first_file seen names) name (bytes_of seen name) none.0 (first_file-clean seen names none.1)

-- ---- expansions

abbrev AreClean : Met → Type 0
AreClean files = All HasNoOpening files.names

with_file-clean : (files : Met) (file : HeldFile) → AreClean files → HasNoOpening file.name → AreClean (with_file files file)
with_file-clean files file clean none =
    All-append HasNoOpening files.names (file.name ∷ []) clean (All-cons HasNoOpening file.name [] none (All-nil HasNoOpening))

-- the names met afterwards have none, if those before have none
abbrev KeepsClean : (Met → Expansion) → Type 0
KeepsClean next = (files : Met) → AreClean files → AreClean (next files).met

KeepsClean-found_then : (files : Met) (found : Split) (next : Met → Expansion) → AreClean files → KeepsClean next →
    AreClean (found_then files found next).met
KeepsClean-found_then files (Ok pieces) next clean keeps = keeps files clean
KeepsClean-found_then files (Err fault) next clean keeps = clean

module _ (expand_include : Met → IncludeBlock → Expansion)
    (keeps : (include : IncludeBlock) → KeepsClean (λ files. expand_include files include)) where
  KeepsClean-piece_then : (piece : SourcePiece) (include : Option IncludeBlock) →
      KeepsClean (λ files. piece_then expand_include files piece include)
  KeepsClean-piece_then piece None files clean = clean
  KeepsClean-piece_then piece (Some include) files clean = keeps include files clean

  KeepsClean-expanded : (pieces : List SourcePiece) → KeepsClean (λ files. expanded expand_include files pieces)
  KeepsClean-expanded [] files clean = clean
  KeepsClean-expanded (piece ∷ pieces) files clean =
      let one = piece_then expand_include files piece (include_of piece) in
      KeepsClean-found_then one.met one.found (λ later. expanded expand_include later pieces)
      (KeepsClean-piece_then piece (include_of piece) files clean) (KeepsClean-expanded pieces)

-- what an expander of pieces does in each folder of a file
abbrev KeepsCleanIn : (expand : (folder : List ℕ) → Met → List SourcePiece → Expansion) → Type 0
KeepsCleanIn expand =
    (folder : List ℕ) → IsCleanFolder folder → (pieces : List SourcePiece) → KeepsClean (λ files. expand folder files pieces)

module _ (expand : (folder : List ℕ) → Met → List SourcePiece → Expansion) (keeps : KeepsCleanIn expand) (options : Options) where
  KeepsClean-go_on : (folder : List ℕ) → IsCleanFolder folder → (split : Split) → KeepsClean (λ files. go_on (expand folder) files split)
  KeepsClean-go_on folder clean_folder (Ok pieces) files clean = keeps folder clean_folder pieces files clean
  KeepsClean-go_on folder clean_folder (Err fault) files clean = clean

  file_expansion-clean : (at : Pos) (files : Met) (file : HeldFile) → AreClean files → HasNoOpening file.name →
      AreClean (file_expansion expand options at files file).met
  file_expansion-clean at files file clean none =
      KeepsClean-go_on (folder_of file.name) (IsCleanFolder-of file.name (folder_of file.name) none (folder_of-is file.name))
      (pieces_within options at (length files.names) files.total file.bytes) (with_file files file) (with_file-clean files file clean none)

  found_include-clean : (seen : List HeldFile) (files : Met) (include : IncludeBlock) (name : List ℕ) (file : Option HeldFile) →
      AreClean files → IsCleanFile file → AreClean (found_include options seen expand files include name file).met
  found_include-clean seen files include name None clean none = clean
  found_include-clean seen files include name (Some file) clean none =
      let inner = file_expansion expand options include.at files file in
      KeepsClean-found_then inner.met inner.found (λ later. gives later (leave_block include ∷ []))
      (file_expansion-clean include.at files file clean none) (λ later clean. clean)

if_named-clean : (files : Met) (include : IncludeBlock) (next : List ℕ → Expansion) (name : Option (List ℕ)) → AreClean files →
    ((given : List ℕ) → name ≡ Some given → AreClean (next given).met) → AreClean (if_named files include next name).met
if_named-clean files include next None clean keeps = clean
if_named-clean files include next (Some name) clean keeps = keeps name refl

module _ (options : Options) (seen : List HeldFile) (none : IfSome options.dir HasNoOpening) where
  include_expansion-clean : (left : ℕ) (folder : List ℕ) → IsCleanFolder folder → (include : IncludeBlock) →
      KeepsClean (λ files. include_expansion options seen left folder files include)
  unfolding include_expansion
  include_expansion-clean zero folder clean_folder include files clean =
      if_named-clean files include (λ name. fails files (IncludeDepth include.at 33)) (file_name_of include.body) clean
      (λ name named. clean)
  include_expansion-clean (suc left) folder clean_folder include files clean =
      let inner : (folder : List ℕ) → Met → List SourcePiece → Expansion = λ folder. expanded (include_expansion options seen left folder) in
      if_named-clean files include
      (λ name. found_include options seen inner files include name (first_file seen (names_for options folder name)))
      (file_name_of include.body) clean
      (λ name named.
      found_include-clean inner
      (λ folder clean_folder.
      KeepsClean-expanded (include_expansion options seen left folder) (include_expansion-clean left folder clean_folder))
      options seen files include name (first_file seen (names_for options folder name)) clean
      (first_file-clean seen (names_for options folder name)
      (names_for-clean options folder name none clean_folder (IsClean-of include.body name named))))

  main_expansion-clean : (main : List ℕ) (bytes : Option (List ℕ)) → HasNoOpening main →
      AreClean (main_expansion options seen main bytes).met
  main_expansion-clean main None clean = All-cons HasNoOpening main [] clean (All-nil HasNoOpening)
  main_expansion-clean main (Some bytes) clean =
      file_expansion-clean (pieces_expansion options seen 32)
      (λ folder clean_folder.
      KeepsClean-expanded (include_expansion options seen 32 folder) (include_expansion-clean 32 folder clean_folder))
      options (file_start 0) (met [] 0) (record { name = main; bytes = bytes }) (All-nil HasNoOpening) clean

pub expansion-clean : (options : Options) (seen : List HeldFile) (main : List ℕ) → IfSome options.dir HasNoOpening → HasNoOpening main →
    All HasNoOpening (expansion options seen main).met.names
expansion-clean options seen main none clean = main_expansion-clean options seen none main (bytes_of seen main) clean
