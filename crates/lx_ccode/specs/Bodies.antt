-- The texts of pieces without a scanner: what stands in an output in the place of a directive or of a block without rules.
use Rattle.std.specs.Prelude.{ℕ, List, [], ◌∷◌, ◌++◌, map, codes, Option, ◌==◌, ◌&&◌, if◌then◌else◌}
use Rattle.std.specs.Fmt.{decimal}
use Rattle.lx_base.specs.Text.{joined}
use Rattle.lx_base.specs.Names.{Spellings, get_state, condition_prefix, tag_prefix}
use Rattle.lx_ccode.specs.declared.bodies.Body.{Body}
use Rattle.lx_ccode.specs.declared.bodies.Body.TheVariants.{Empty, MaxFill, MaxGroups, Registers, Histories, Conditions, StateSwitch}
use Rattle.lx_ccode.specs.declared.bodies.FileState.{FileState}
use Rattle.lx_ccode.specs.declared.bodies.Format.{Format}
use Rattle.lx_ccode.specs.declared.piece.LineMark.{LineMark}
use Rattle.lx_ccode.specs.Registers.{history_text}
use Rattle.lx_ccode.specs.Text.{line_then, state_case_then, start_then}

-- the format with a word in the place of each `@@`
abbrev pub filled : (word format : List ℕ) → List ℕ
filled word [] = []
filled word (letter ∷ []) = letter ∷ []
filled word (letter ∷ next ∷ format) =
    if (letter == 64) && (next == 64) then word ++ filled word format else letter ∷ filled word (next ∷ format)

-- the words with a separator between each two
abbrev pub separated : (separator : List ℕ) → List (List ℕ) → List ℕ
separated separator [] = []
separated separator (word ∷ []) = word
separated separator (word ∷ next ∷ words) = word ++ (separator ++ separated separator (next ∷ words))

-- a list of words, each in its format, and a line feed; nothing for no words
abbrev pub list_then : Format → List (List ℕ) → List ℕ → List ℕ
list_then format [] tail = tail
list_then format (word ∷ words) tail =
    joined (separated format.separator (map (λ word. filled word format.format) (word ∷ words)) ∷ codes "\n" ∷ []) tail

-- the numbers of the conditions, as the values of an enumeration
abbrev pub conditions_then : Spellings → List (List ℕ) → List ℕ → List ℕ
conditions_then names [] tail = tail
conditions_then names (cond ∷ conds) tail =
    joined (codes "\t" ∷ (condition_prefix names ++ cond) ∷ codes ",\n" ∷ []) (conditions_then names conds tail)

-- the cases of a switch over the states of all pieces
abbrev pub file_states_then : List FileState → List ℕ → List ℕ
file_states_then [] tail = tail
file_states_then (state ∷ states) tail = state_case_then state.number state.case (file_states_then states tail)

-- the body's text, by the spellings that hold at the end of the source
abbrev pub body_then : Spellings → Body → List ℕ → List ℕ
body_then names Empty tail = tail
body_then names (MaxFill units) tail = joined (codes "#define YYMAXFILL " ∷ decimal units ∷ codes "\n" ∷ []) tail
body_then names (MaxGroups groups) tail = joined (codes "#define YYMAXNMATCH " ∷ decimal groups ∷ codes "\n" ∷ []) tail
body_then names (Registers format numbers) tail = list_then format (map (λ register. tag_prefix names ++ decimal register) numbers) tail
body_then names (Histories format numbers) tail = list_then format (map (history_text names) numbers) tail
body_then names (Conditions conds) tail = joined (codes "enum YYCONDTYPE {\n" ∷ []) (conditions_then names conds (joined (codes "};\n" ∷ []) tail))
body_then names (StateSwitch states start conds) tail =
    joined (codes "\tswitch (" ∷ get_state names ∷ codes "()) {\n" ∷ []) (file_states_then states (
    joined (codes "\tdefault: goto " ∷ []) (start_then start conds (joined (codes ";\n\t}\n" ∷ []) tail))))

-- a piece without a scanner, from its begin mark to its end mark
abbrev pub body_piece_text : (number : ℕ) → Spellings → Body → Option LineMark → List ℕ
body_piece_text number names body line =
    joined (codes "/*!begin:re2c " ∷ decimal number ∷ codes "*/\n" ∷ []) (body_then names body (line_then line (joined (codes "/*!end:re2c*/" ∷ []) [])))
