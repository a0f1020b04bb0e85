-- The file names of includes.
use Rattle.std.specs.Prelude.{ℕ, zero, suc, ◌-◌, Bool, not, List, [], ◌∷◌, ◌++◌, length, take, codes, Option, Some, None, ◌==◌, ◌&&◌, if◌then◌else◌}
use Rattle.std.specs.List.{list_any}
use Rattle.std.specs.Str.{is_utf8}
use Rattle.lx_base.specs.declared.settings.Options.{Options}
use Rattle.lx_base.specs.Letters.{begins_with}
use Rattle.lx_token.specs.Blanks.{after_blank}
use Rattle.lx_split.specs.Bodies.{after_file_name}
use Rattle.lx_split.specs.Searches.{from_first}

-- behind a blank or a comment, if one begins here, the text goes on
abbrev pub behind_blank : (next : List ℕ → List ℕ) → List ℕ → Option (List ℕ) → List ℕ
behind_blank next text None = text
behind_blank next text (Some rest) = next rest

-- what is left of a text behind the blanks and the comments at its front. None of them is empty, so as many steps serve as the
-- text has bytes
abbrev pub after_blanks : (steps : ℕ) → List ℕ → List ℕ
after_blanks zero text = text
after_blanks (suc steps) text = behind_blank (after_blanks steps) text (after_blank text)

abbrev pub is_nothing : List ℕ → Bool
is_nothing text = length text == 0

-- a name is not empty and has no carriage return, and no mark of emitted text can begin in it, also with the `/` of a folder
-- before it
abbrev pub is_allowed_name : List ℕ → Bool
is_allowed_name name =
    not (is_nothing name) && not (list_any (λ letter. letter == 13) name) && not (begins_with (codes "*!") name)
    && is_nothing (from_first (begins_with (codes "/*!")) name)

-- these bytes, if they are the name of a file: such a name, in UTF-8
abbrev pub checked_name : List ℕ → Option (List ℕ)
checked_name name = if is_allowed_name name then (if is_utf8 name then Some name else None) else None

-- the name before its closing quote, of which these follow, if they are blanks and comments
abbrev pub name_before : (quoted : List ℕ) → Option (List ℕ) → Option (List ℕ)
name_before quoted None = None
name_before quoted (Some rest) =
    if is_nothing (after_blanks (length rest) rest) then checked_name (take (length quoted - length rest - 1) quoted) else None

-- the name behind its opening quote
abbrev pub quoted_name : List ℕ → Option (List ℕ)
quoted_name [] = None
quoted_name (letter ∷ text) = if letter == 34 then name_before text (after_file_name text) else None

-- the file name in the body of an include: `"`, the name and `"`, with blanks and comments around
abbrev pub file_name_of : (body : List ℕ) → Option (List ℕ)
file_name_of body = quoted_name (after_blanks (length body) body)

-- the folder of a file with this name: the name up to its last `/`, or nothing where it has none
abbrev pub folder_of : List ℕ → List ℕ
folder_of [] = []
folder_of (letter ∷ name) = if list_any (λ other. other == 47) (letter ∷ name) then letter ∷ folder_of name else []

-- the name in the folder that the options name, if they name one
abbrev pub in_folder : Option (List ℕ) → (name : List ℕ) → List (List ℕ)
in_folder None name = []
in_folder (Some folder) name = (folder ++ 47 ∷ name) ∷ []

-- the names under which an include is looked for, in order: in the folder of the file that includes it and then in that of
-- the options; a name that begins with `/` as it is
abbrev pub names_for : Options → (folder name : List ℕ) → List (List ℕ)
names_for options folder name =
    if begins_with (codes "/") name then name ∷ [] else (folder ++ name) ∷ in_folder options.dir name
