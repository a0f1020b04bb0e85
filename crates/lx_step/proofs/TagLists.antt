-- The tags that statements name.
use Rattle.std.proofs.Common.{◌≡◌, ◌∙◌, sym, ap, subst, refl, if◌then◌else◌, ℕ, zero, suc, ◌+◌, ◌<◌, ◌≤◌, Bool, true, false, not, ◌||◌, List, [], ◌∷◌, ◌++◌, length, length-append, append_assoc, append-nil, drop, take, get_or, Option, Some, None, is_some, arith}
use Rattle.std.specs.List.{list_any}
use Rattle.std.specs.Option.{option_map}
use Rattle.std.proofs.lemmas.Bool.{false≢true}
use Rattle.std.proofs.Math.Seq.{take-suc}
use Rattle.lx_base.specs.Letters.{equal_words}
use Rattle.lx_ccode.proofs.Words.{equal_words-true}
use Rattle.lx_ccode.specs.declared.piece.Stmt.{Stmt}
use Rattle.lx_ccode.specs.declared.piece.Stmt.TheVariants.{Tag}
use Rattle.lx_ccode.specs.declared.piece.CodeBlock.{CodeBlock}
use Rattle.lx_ccode.specs.NameSets.{first_place}
use Rattle.lx_ccode.specs.Statements.{all_statements, statement_count}
use Rattle.lx_step.specs.Tags.{gives, has_name, is_new, names_from, tag_names, with_name}

-- ---- which names there are

is_some-map : (found : Option ℕ) → is_some (option_map suc found) ≡ is_some found
is_some-map None = refl
is_some-map (Some place) = refl

has_name-next : (name : List ℕ) (names : List (List ℕ)) (tag : List ℕ) → has_name (name ∷ names) tag ≡ (equal_words name tag || has_name names tag)
has_name-next name names tag = by (equal_words name tag) refl where
  by : (same : Bool) → equal_words name tag ≡ same → has_name (name ∷ names) tag ≡ (same || has_name names tag)
  by true is = rw is refl
  by false is = rw is (is_some-map (first_place names tag))

or-assoc : (a b c : Bool) → ((a || b) || c) ≡ (a || (b || c))
or-assoc true b c = refl
or-assoc false b c = refl

or-false : (a : Bool) → (a || false) ≡ a
or-false true = refl
or-false false = refl

has_name-append : (names : List (List ℕ)) (name tag : List ℕ) → has_name (names ++ name ∷ []) tag ≡ (has_name names tag || equal_words name tag)
has_name-append [] name tag = has_name-next name [] tag ∙ or-false (equal_words name tag)
has_name-append (first ∷ names) name tag =
    has_name-next first (names ++ name ∷ []) tag ∙ ap (λ rest. equal_words first tag || rest) (has_name-append names name tag)
    ∙ sym (or-assoc (equal_words first tag) (has_name names tag) (equal_words name tag)) ∙ ap (λ one. one || equal_words name tag) (sym (has_name-next first names tag))

has_name-with : (name : List ℕ) (names : List (List ℕ)) (tag : List ℕ) → has_name (with_name name names) tag ≡ (has_name names tag || equal_words name tag)
has_name-with name names tag = by (first_place names name) refl where
  there : (same : Bool) → equal_words name tag ≡ same → has_name names name ≡ true → has_name names tag ≡ (has_name names tag || same)
  there true is known = let here : has_name names tag ≡ true = subst (λ word. has_name names word ≡ true) (equal_words-true name tag is) known in rw here refl
  there false is known = sym (or-false (has_name names tag))

  by : (found : Option ℕ) → first_place names name ≡ found → has_name (elim found [ None ↦ names ++ name ∷ [] | Some number ↦ names ]) tag ≡ (has_name names tag || equal_words name tag)
  by None is = has_name-append names name tag
  by (Some number) is = there (equal_words name tag) refl (ap is_some is)

-- the statement names the tag
abbrev pub names_it : (tag : List ℕ) → Stmt → Bool
names_it tag (Tag other is_history place) = equal_words other tag
names_it tag _ = false

has_name-from : (statements : List Stmt) (names : List (List ℕ)) (tag : List ℕ) → has_name (names_from statements names) tag ≡ (has_name names tag || list_any (names_it tag) statements)
has_name-from [] names tag = sym (or-false (has_name names tag))
has_name-from (Tag name is_history place ∷ statements) names tag =
    has_name-from statements (with_name name names) tag ∙ ap (λ has. has || list_any (names_it tag) statements) (has_name-with name names tag)
    ∙ or-assoc (has_name names tag) (equal_words name tag) (list_any (names_it tag) statements)
has_name-from (_ ∷ statements) names tag = has_name-from statements names tag

-- a tag is named where it is given an offset or a history
pub names_it-offset : (tag : List ℕ) (statements : List Stmt) → list_any (gives false tag) statements ≡ true → list_any (names_it tag) statements ≡ true
names_it-offset tag [] e = e
names_it-offset tag (Tag other false place ∷ statements) e = more (equal_words other tag) e (names_it-offset tag statements) where
  more : (same : Bool) → (same || list_any (gives false tag) statements) ≡ true → (list_any (gives false tag) statements ≡ true → list_any (names_it tag) statements ≡ true)
      → (same || list_any (names_it tag) statements) ≡ true
  more true e later = refl
  more false e later = later e
names_it-offset tag (Tag other true place ∷ statements) e = more (equal_words other tag) (names_it-offset tag statements e) where
  more : (same : Bool) → list_any (names_it tag) statements ≡ true → (same || list_any (names_it tag) statements) ≡ true
  more true h = refl
  more false h = h
names_it-offset tag (_ ∷ statements) e = names_it-offset tag statements e

pub names_it-history : (tag : List ℕ) (statements : List Stmt) → list_any (gives true tag) statements ≡ true → list_any (names_it tag) statements ≡ true
names_it-history tag [] e = e
names_it-history tag (Tag other true place ∷ statements) e = more (equal_words other tag) e (names_it-history tag statements) where
  more : (same : Bool) → (same || list_any (gives true tag) statements) ≡ true → (list_any (gives true tag) statements ≡ true → list_any (names_it tag) statements ≡ true)
      → (same || list_any (names_it tag) statements) ≡ true
  more true e later = refl
  more false e later = later e
names_it-history tag (Tag other false place ∷ statements) e = more (equal_words other tag) (names_it-history tag statements e) where
  more : (same : Bool) → list_any (names_it tag) statements ≡ true → (same || list_any (names_it tag) statements) ≡ true
  more true h = refl
  more false h = h
names_it-history tag (_ ∷ statements) e = names_it-history tag statements e

or-none : (a b : Bool) → a ≡ false → b ≡ false → (a || b) ≡ false
or-none true b p q = p
or-none false b p q = q

names_it-none : (tag : List ℕ) (statements : List Stmt) → list_any (gives false tag) statements ≡ false → list_any (gives true tag) statements ≡ false → list_any (names_it tag) statements ≡ false
names_it-none tag [] p q = refl
names_it-none tag (Tag other false place ∷ statements) p q = by (equal_words other tag) p (names_it-none tag statements) where
  by : (same : Bool) → (same || list_any (gives false tag) statements) ≡ false
      → (list_any (gives false tag) statements ≡ false → list_any (gives true tag) statements ≡ false → list_any (names_it tag) statements ≡ false) → (same || list_any (names_it tag) statements) ≡ false
  by true p later = p
  by false p later = later p q
names_it-none tag (Tag other true place ∷ statements) p q = by (equal_words other tag) q (names_it-none tag statements) where
  by : (same : Bool) → (same || list_any (gives true tag) statements) ≡ false
      → (list_any (gives false tag) statements ≡ false → list_any (gives true tag) statements ≡ false → list_any (names_it tag) statements ≡ false) → (same || list_any (names_it tag) statements) ≡ false
  by true q later = q
  by false q later = later p q
names_it-none tag (_ ∷ statements) p q = names_it-none tag statements p q

-- the tags of blocks, and of statements behind them
module _ (blocks : List CodeBlock) (statements : List Stmt) (tag : List ℕ) where
  has_name-behind : has_name (names_from statements (tag_names blocks)) tag ≡ (list_any (names_it tag) (all_statements blocks) || list_any (names_it tag) statements)
  has_name-behind = has_name-from statements (tag_names blocks) tag ∙ ap (λ has. has || list_any (names_it tag) statements) (has_name-from (all_statements blocks) [] tag)

  or-right : (a b : Bool) → b ≡ true → (a || b) ≡ true
  or-right true b e = refl
  or-right false b e = e

  or-left : (a b : Bool) → a ≡ true → (a || b) ≡ true
  or-left true b e = refl
  or-left false b e = absurd (false≢true e)

  pub has_name-statements : list_any (names_it tag) statements ≡ true → true ≡ has_name (names_from statements (tag_names blocks)) tag
  has_name-statements e = sym (has_name-behind ∙ or-right (list_any (names_it tag) (all_statements blocks)) (list_any (names_it tag) statements) e)

  pub has_name-blocks : list_any (names_it tag) (all_statements blocks) ≡ true → true ≡ has_name (names_from statements (tag_names blocks)) tag
  has_name-blocks e = sym (has_name-behind ∙ or-left (list_any (names_it tag) (all_statements blocks)) (list_any (names_it tag) statements) e)

  pub has_name-last : (last : Bool) → list_any (gives false tag) statements ≡ false → list_any (gives true tag) statements ≡ false
      → list_any (gives false tag) (all_statements blocks) ≡ false → last ≡ list_any (gives true tag) (all_statements blocks) → last ≡ has_name (names_from statements (tag_names blocks)) tag
  has_name-last true p q r e = has_name-blocks (names_it-history tag (all_statements blocks) (sym e))
  has_name-last false p q r e =
      sym (has_name-behind ∙ or-none (list_any (names_it tag) (all_statements blocks)) (list_any (names_it tag) statements) (names_it-none tag (all_statements blocks) r (sym e)) (names_it-none tag statements p q))

-- a tag that has no number is given nothing
pub gives-none-from : (statements : List Stmt) (history : Bool) (tag : List ℕ) → first_place (names_from statements []) tag ≡ None → list_any (gives history tag) statements ≡ false
gives-none-from statements history tag none = by history (list_any (gives history tag) statements) refl where
  none_named : list_any (names_it tag) statements ≡ false
  none_named = sym (has_name-from statements [] tag) ∙ ap is_some none

  by : (history test : Bool) → list_any (gives history tag) statements ≡ test → test ≡ false
  by true true is = absurd (false≢true (sym none_named ∙ names_it-history tag statements is))
  by false true is = absurd (false≢true (sym none_named ∙ names_it-offset tag statements is))
  by history false is = refl

pub gives-none : (blocks : List CodeBlock) (history : Bool) (tag : List ℕ) → first_place (tag_names blocks) tag ≡ None → list_any (gives history tag) (all_statements blocks) ≡ false
gives-none blocks history tag none = gives-none-from (all_statements blocks) history tag none

-- ---- how many there are

pub names_from-append : (front back : List Stmt) (names : List (List ℕ)) → names_from (front ++ back) names ≡ names_from back (names_from front names)
names_from-append [] back names = refl
names_from-append (Tag name is_history place ∷ front) back names = names_from-append front back (with_name name names)
names_from-append (_ ∷ front) back names = names_from-append front back names

length-with_name : (name : List ℕ) (names : List (List ℕ)) → length names ≤ length (with_name name names)
length-with_name name names = by (first_place names name) where
  by : (found : Option ℕ) → length names ≤ length {A = List ℕ} (elim found [ None ↦ names ++ name ∷ [] | Some number ↦ names ])
  by None = omega (arith, length-append names (name ∷ []))
  by (Some number) = omega arith

pub length-names_from : (statements : List Stmt) (names : List (List ℕ)) → length names ≤ length (names_from statements names)
length-names_from [] names = omega arith
length-names_from (Tag name is_history place ∷ statements) names = omega (arith, length-with_name name names, length-names_from statements (with_name name names))
length-names_from (_ ∷ statements) names = length-names_from statements names

-- ---- counted

-- one statement more
pub counted-next : (statements : List Stmt) (names : List (List ℕ)) (place count : ℕ) (statement : Stmt) (new : Bool) → place < length statements → statement ≡ get_or statements place statement
    → new ≡ is_new (names_from (take place statements) names) statement → count + length names ≡ length (names_from (take place statements) names)
    → (if new then count + 1 else count) + length names ≡ length (names_from (take (place + 1) statements) names)
counted-next statements names place count statement new below is told so_far =
    let next : place + 1 ≡ suc place = omega arith in
    let split : take (place + 1) statements ≡ take place statements ++ statement ∷ [] = ap (λ n. take n statements) next ∙ take-suc statements place statement below ∙ ap (λ one. take place statements ++ one ∷ []) (sym is) in
    by (names_from (take place statements) names) statement new told so_far ∙ ap length (sym (names_from-append (take place statements) (statement ∷ []) names)) ∙ ap (λ front. length (names_from front names)) (sym split)
  where
    tagged : (known : List (List ℕ)) (tag : List ℕ) (found : Option ℕ) (new : Bool) → new ≡ not (is_some found) → count + length names ≡ length known
        → (if new then count + 1 else count) + length names ≡ length {A = List ℕ} (elim found [ None ↦ known ++ tag ∷ [] | Some number ↦ known ])
    tagged known tag None true e so = omega (arith, so, length-append known (tag ∷ []))
    tagged known tag None false e so = absurd (false≢true e)
    tagged known tag (Some number) true e so = absurd (false≢true (sym e))
    tagged known tag (Some number) false e so = so

    other : (known : List (List ℕ)) (new : Bool) → new ≡ false → count + length names ≡ length known → (if new then count + 1 else count) + length names ≡ length known
    other known true e so = absurd (false≢true (sym e))
    other known false e so = so

    by : (known : List (List ℕ)) (statement : Stmt) (new : Bool) → new ≡ is_new known statement → count + length names ≡ length known
        → (if new then count + 1 else count) + length names ≡ length (names_from (statement ∷ []) known)
    by known (Tag tag is_history at) new e so = tagged known tag (first_place known tag) new e so
    by known _ new e so = other known new e so

pub all_statements-take : (blocks : List CodeBlock) (place : ℕ) (block : CodeBlock) (front : List Stmt) → place < length blocks → block ≡ get_or blocks place block → front ≡ block.stmts
    → all_statements (take (place + 1) blocks) ≡ all_statements (take place blocks) ++ front
all_statements-take blocks place block front below is front_is =
    let next : place + 1 ≡ suc place = omega arith in
    ap (λ n. all_statements (take n blocks)) next ∙ ap all_statements (take-suc blocks place block below)
    ∙ all_statements-append (take place blocks) (get_or blocks place block) ∙ ap (λ (one : CodeBlock). all_statements (take place blocks) ++ one.stmts) (sym is) ∙ ap (λ stmts. all_statements (take place blocks) ++ stmts) (sym front_is)
  where
    all_statements-append : (blocks : List CodeBlock) (last : CodeBlock) → all_statements (blocks ++ last ∷ []) ≡ all_statements blocks ++ last.stmts
    all_statements-append [] last = append-nil last.stmts
    all_statements-append (first ∷ blocks) last = ap (λ rest. first.stmts ++ rest) (all_statements-append blocks last) ∙ sym (append_assoc first.stmts (all_statements blocks) last.stmts)

-- the blocks before, and one more
pub counted-block : (blocks : List CodeBlock) (place count more : ℕ) (block : CodeBlock) (front : List Stmt) → place < length blocks → block ≡ get_or blocks place block → front ≡ block.stmts
    → count ≡ length (tag_names (take place blocks)) → more + length (tag_names (take place blocks)) ≡ length (names_from front (tag_names (take place blocks)))
    → count + more ≡ length (tag_names (take (place + 1) blocks))
counted-block blocks place count more block front below is front_is so_far told =
    let all : length (tag_names (take (place + 1) blocks)) ≡ length (names_from front (tag_names (take place blocks))) =
    ap (λ statements. length (names_from statements [])) (all_statements-take blocks place block front below is front_is) ∙ ap length (names_from-append (all_statements (take place blocks)) front []) in
    omega (arith, all, so_far, told)

-- there are at most as many as statements
pub length-names : (statements : List Stmt) (names : List (List ℕ)) → length (names_from statements names) ≤ length names + length statements
length-names [] names = omega arith
length-names (Tag name is_history place ∷ statements) names = let rest = length-names statements (with_name name names) in omega (arith, rest, length-one name names) where
  length-one : (name : List ℕ) (names : List (List ℕ)) → length (with_name name names) ≤ suc (length names)
  length-one name names = by (first_place names name) where
    by : (found : Option ℕ) → length {A = List ℕ} (elim found [ None ↦ names ++ name ∷ [] | Some number ↦ names ]) ≤ suc (length names)
    by None = omega (arith, length-append names (name ∷ []))
    by (Some number) = omega arith
length-names (_ ∷ statements) names = let rest = length-names statements names in omega (arith, rest)

pub all_statements-split : (blocks : List CodeBlock) (place : ℕ) → all_statements blocks ≡ all_statements (take place blocks) ++ all_statements (drop place blocks)
all_statements-split [] zero = refl
all_statements-split [] (suc place) = refl
all_statements-split (block ∷ blocks) zero = refl
all_statements-split (block ∷ blocks) (suc place) =
    ap (λ rest. block.stmts ++ rest) (all_statements-split blocks place) ∙ sym (append_assoc block.stmts (all_statements (take place blocks)) (all_statements (drop place blocks)))

pub length-all_statements : (blocks : List CodeBlock) → length (all_statements blocks) ≡ statement_count blocks
length-all_statements [] = refl
length-all_statements (block ∷ blocks) = length-append block.stmts (all_statements blocks) ∙ ap (λ n. length block.stmts + n) (length-all_statements blocks)

-- the first blocks name at most as many tags as there are statements
pub length-tag_names-take : (blocks : List CodeBlock) (place : ℕ) → length (tag_names (take place blocks)) ≤ statement_count blocks
length-tag_names-take blocks place =
    let names : List (List ℕ) = tag_names (take place blocks) in
    let most : length names ≤ 0 + length (all_statements (take place blocks)) = length-names (all_statements (take place blocks)) [] in
    let parts : length (all_statements blocks) ≡ length (all_statements (take place blocks)) + length (all_statements (drop place blocks)) =
    ap length (all_statements-split blocks place) ∙ length-append (all_statements (take place blocks)) (all_statements (drop place blocks)) in
    omega (arith, most, parts, length-all_statements blocks)
