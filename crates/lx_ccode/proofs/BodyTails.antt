-- The text of a body and what stands behind it, and bodies that are written part by part.
use Rattle.std.proofs.Common.{[], ◌++◌, ◌∙◌, ◌∷◌, ◌≡◌, List, Option, ap, append_assoc, map, refl, sym, ℕ}
use Rattle.std.proofs.lemmas.List.{append-nil}
use Rattle.std.specs.Fmt.{decimal}
use Rattle.std.specs.Prelude.{codes}
use Rattle.lx_base.specs.Names.{Spellings, condition_prefix, get_state, tag_prefix}
use Rattle.lx_base.specs.Text.{joined}
use Rattle.lx_ccode.specs.Bodies.{body_piece_text, body_then, conditions_then, file_states_then, filled, list_then, separated}
use Rattle.lx_ccode.specs.Registers.{history_text}
use Rattle.lx_ccode.specs.Text.{line_then, start_then}
use Rattle.lx_ccode.specs.declared.bodies.Body.{Body}
use Rattle.lx_ccode.specs.declared.bodies.Body.TheVariants.{Empty, MaxFill, MaxGroups, Registers, Histories, Conditions, StateSwitch}
use Rattle.lx_ccode.specs.declared.bodies.FileState.{FileState}
use Rattle.lx_ccode.specs.declared.bodies.Format.{Format}
use Rattle.lx_ccode.specs.declared.piece.LineMark.{LineMark}
use Rattle.lx_ccode.proofs.Tails.{joined-append, joined-nil, part_written, start_then-append, state_parts}

-- one value of the enumeration of the conditions
abbrev pub condition_parts : Spellings → List ℕ → List (List ℕ)
condition_parts names cond = codes "\t" ∷ (condition_prefix names ++ cond) ∷ codes ",\n" ∷ []

list_then-append : (format : Format) (words : List (List ℕ)) (tail rest : List ℕ) → list_then format words tail ++ rest ≡ list_then format words (tail ++ rest)
list_then-append format [] tail rest = refl
list_then-append format (word ∷ words) tail rest =
    joined-append (separated format.separator (map (λ w. filled w format.format) (word ∷ words)) ∷ codes "\n" ∷ []) tail rest

conditions_then-append : (names : Spellings) (conds : List (List ℕ)) (tail rest : List ℕ)
    → conditions_then names conds tail ++ rest ≡ conditions_then names conds (tail ++ rest)
conditions_then-append names [] tail rest = refl
conditions_then-append names (cond ∷ conds) tail rest = joined-append (condition_parts names cond) (conditions_then names conds tail) rest
    ∙ ap (joined (condition_parts names cond)) (conditions_then-append names conds tail rest)

conditions_then-nil : (names : Spellings) (conds : List (List ℕ)) (before tail : List ℕ)
    → (before ++ conditions_then names conds []) ++ tail ≡ before ++ conditions_then names conds tail
conditions_then-nil names conds before tail = append_assoc before (conditions_then names conds []) tail
    ∙ ap (λ (b : List ℕ). before ++ b) (conditions_then-append names conds [] tail)

file_states_then-append : (states : List FileState) (tail rest : List ℕ) → file_states_then states tail ++ rest ≡ file_states_then states (tail ++ rest)
file_states_then-append [] tail rest = refl
file_states_then-append (state ∷ states) tail rest =
    let parts : List (List ℕ) = state_parts state.number state.case in
    joined-append parts (file_states_then states tail) rest ∙ ap (joined parts) (file_states_then-append states tail rest)

pub file_states_then-nil : (states : List FileState) (before tail : List ℕ)
    → (before ++ file_states_then states []) ++ tail ≡ before ++ file_states_then states tail
file_states_then-nil states before tail = append_assoc before (file_states_then states []) tail
    ∙ ap (λ (b : List ℕ). before ++ b) (file_states_then-append states [] tail)

body_then-append : (names : Spellings) (body : Body) (tail rest : List ℕ) → body_then names body tail ++ rest ≡ body_then names body (tail ++ rest)
body_then-append names Empty tail rest = refl
body_then-append names (MaxFill units) tail rest = joined-append (codes "#define YYMAXFILL " ∷ decimal units ∷ codes "\n" ∷ []) tail rest
body_then-append names (MaxGroups groups) tail rest = joined-append (codes "#define YYMAXNMATCH " ∷ decimal groups ∷ codes "\n" ∷ []) tail rest
body_then-append names (Registers format numbers) tail rest = list_then-append format (map (λ register. tag_prefix names ++ decimal register) numbers) tail rest
body_then-append names (Histories format numbers) tail rest = list_then-append format (map (history_text names) numbers) tail rest
body_then-append names (Conditions conds) tail rest =
    let head : List (List ℕ) = codes "enum YYCONDTYPE {\n" ∷ [] in
    joined-append head (conditions_then names conds (joined (codes "};\n" ∷ []) tail)) rest
    ∙ ap (joined head) (conditions_then-append names conds (joined (codes "};\n" ∷ []) tail) rest)
body_then-append names (StateSwitch states start conds) tail rest =
    let head : List (List ℕ) = codes "\tswitch (" ∷ get_state names ∷ codes "()) {\n" ∷ [] in
    let default : List (List ℕ) = codes "\tdefault: goto " ∷ [] in
    let end : List ℕ = joined (codes ";\n\t}\n" ∷ []) tail in
    joined-append head (file_states_then states (joined default (start_then start conds end))) rest
    ∙ ap (joined head) (file_states_then-append states (joined default (start_then start conds end)) rest
    ∙ ap (λ (l : List ℕ). file_states_then states (joined default l)) (start_then-append start conds end rest))

body_then-nil : (names : Spellings) (body : Body) (before tail : List ℕ) → (before ++ body_then names body []) ++ tail ≡ before ++ body_then names body tail
body_then-nil names body before tail = append_assoc before (body_then names body []) tail
    ∙ ap (λ (b : List ℕ). before ++ b) (body_then-append names body [] tail)

-- a piece: its begin mark, its body and its end
pub body_piece_written : (number : ℕ) (names : Spellings) (body : Body) (line : Option LineMark) (o0 o1 o2 o3 : List ℕ) → o0 ≡ []
    → o1 ≡ o0 ++ joined (codes "/*!begin:re2c " ∷ decimal number ∷ codes "*/\n" ∷ []) [] → o2 ≡ o1 ++ body_then names body []
    → o3 ≡ o2 ++ line_then line (joined (codes "/*!end:re2c*/" ∷ []) []) → o3 ≡ body_piece_text number names body line
body_piece_written number names body line o0 o1 o2 o3 e0 e1 e2 e3 =
    let head : List (List ℕ) = codes "/*!begin:re2c " ∷ decimal number ∷ codes "*/\n" ∷ [] in
    let end : List ℕ = line_then line (joined (codes "/*!end:re2c*/" ∷ []) []) in
    e3 ∙ part_written {f = body_then names body} o2 o1 end e2 (body_then-nil names body)
    ∙ part_written {f = joined head} o1 o0 (body_then names body end) e1 (joined-nil head)
    ∙ ap (λ (l : List ℕ). l ++ joined head (body_then names body end)) e0

-- ---- lists in a format

-- each word in the format
abbrev pub filled_all : Format → List (List ℕ) → List (List ℕ)
filled_all format words = map (λ word. filled word format.format) words

-- each word behind a separator
abbrev pub behind_separators : List ℕ → List (List ℕ) → List ℕ
behind_separators separator [] = []
behind_separators separator (word ∷ words) = separator ++ (word ++ behind_separators separator words)

separated-cons : (separator word : List ℕ) (words : List (List ℕ)) → separated separator (word ∷ words) ≡ word ++ behind_separators separator words
separated-cons separator word [] = sym (append-nil word)
separated-cons separator word (next ∷ words) = ap (λ (l : List ℕ). word ++ (separator ++ l)) (separated-cons separator next words)

-- a list: its first word, the others behind separators, and the line feed
pub list_written : (format : Format) (first : List ℕ) (others : List (List ℕ)) (o0 o1 o2 o3 : List ℕ) → o1 ≡ o0 ++ filled first format.format
    → o2 ++ [] ≡ o1 ++ behind_separators format.separator (filled_all format others) → o3 ≡ o2 ++ 10 ∷ [] → o3 ≡ o0 ++ list_then format (first ∷ others) []
list_written format first others o0 o1 o2 o3 e1 e2 e3 =
    let word : List ℕ = filled first format.format in
    let rest : List ℕ = behind_separators format.separator (filled_all format others) in
    let all : List ℕ = separated format.separator (word ∷ filled_all format others) in
    let before : o2 ≡ o0 ++ all = sym (append-nil o2) ∙ e2 ∙ ap (λ (l : List ℕ). l ++ rest) e1 ∙ append_assoc o0 word rest
    ∙ ap (λ (l : List ℕ). o0 ++ l) (sym (separated-cons format.separator word (filled_all format others))) in
    e3 ∙ ap (λ (l : List ℕ). l ++ 10 ∷ []) before ∙ append_assoc o0 all (10 ∷ [])

-- the enumeration of the conditions: its head, its values, and its end
pub enumeration_written : (names : Spellings) (conds : List (List ℕ)) (o0 o1 o2 o3 : List ℕ) → o1 ≡ o0 ++ joined (codes "enum YYCONDTYPE {\n" ∷ []) []
    → o2 ≡ o1 ++ conditions_then names conds [] → o3 ≡ o2 ++ joined (codes "};\n" ∷ []) []
    → o3 ≡ o0 ++ joined (codes "enum YYCONDTYPE {\n" ∷ []) (conditions_then names conds (joined (codes "};\n" ∷ []) []))
enumeration_written names conds o0 o1 o2 o3 e1 e2 e3 =
    let head : List (List ℕ) = codes "enum YYCONDTYPE {\n" ∷ [] in
    let end : List ℕ = joined (codes "};\n" ∷ []) [] in
    e3 ∙ part_written {f = conditions_then names conds} o2 o1 end e2 (conditions_then-nil names conds)
    ∙ part_written {f = joined head} o1 o0 (conditions_then names conds end) e1 (joined-nil head)
