-- What is read is the front of a text, and the rest stands behind it.
use Rattle.std.proofs.Common.{◌≡◌, ℕ, suc, ◌≤◌, List, ◌∷◌, length, drop, Option, ap, ◌∙◌, arith}
use Rattle.lx_parse.specs.declared.items.Item.{Item}
use Rattle.lx_parse.specs.declared.sorts.Sort.{Sort}
use Rattle.lx_parse.specs.Expressions.{Part, Reads, sign, group, bare, repeated, first_post, next_post, first_cat, next_cat, first_diff, next_diff}
use Rattle.lx_parse.specs.Items.{place, ReadsNames, first_name, next_name, ReadsList, no_list, all_conditions, conditions, ReadsHead, plain, trailing, any, end, ReadsAction, code, code_and_target, target, ReadsItem, define, configure, rule}

-- the second list is what is left of the first one behind a front
pub data IsBehind : List Sort → List Sort → Type 0 where
  here : (rest : List Sort) → IsBehind rest rest
  further : (sort : Sort) (text rest : List Sort) → IsBehind text rest → IsBehind (sort ∷ text) rest

pub behind_trans : (text middle rest : List Sort) → IsBehind text middle → IsBehind middle rest → IsBehind text rest
behind_trans text middle rest (here _) behind = behind
behind_trans text middle rest (further sort tail _ first) behind = further sort tail rest (behind_trans tail middle rest first behind)

pub behind_next : (text rest : List Sort) (sort : Sort) → IsBehind text (sort ∷ rest) → IsBehind text rest
behind_next text rest sort behind = behind_trans text (sort ∷ rest) rest behind (further sort rest rest (here rest))

pub behind_shorter : (text rest : List Sort) → IsBehind text rest → length rest ≤ length text
behind_shorter text rest (here _) = omega arith
behind_shorter text rest (further sort tail _ behind) = let less = behind_shorter tail rest behind in omega arith

pub drop-place : (text rest : List Sort) → IsBehind text rest → drop (place (length text) rest) text ≡ rest
drop-place text rest (here _) =
    let none : place (length text) text ≡ 0 = omega arith in ap (λ count. drop count text) none
drop-place text rest (further sort tail _ behind) =
    let less = behind_shorter tail rest behind in
    let more : place (length text) rest ≡ suc (place (length tail) rest) = omega arith in
    ap (λ count. drop count (sort ∷ tail)) more ∙ drop-place tail rest behind

pub reads_behind : (part : Part) (text rest : List Sort) → Reads part text rest → IsBehind text rest
reads_behind part text rest (sign sort _ is) = further sort rest rest (here rest)
reads_behind part text rest (group inner _ read) = further _ inner rest (behind_next inner rest _ (reads_behind _ _ _ read))
reads_behind part text rest (bare _ _ read) = reads_behind _ text rest read
reads_behind part text rest (repeated _ _ sort read is) = behind_next text rest sort (reads_behind _ _ _ read)
reads_behind part text rest (first_post _ _ read) = reads_behind _ text rest read
reads_behind part text rest (next_post _ middle _ read more) =
    behind_trans text middle rest (reads_behind _ _ _ read) (reads_behind _ _ _ more)
reads_behind part text rest (first_cat _ _ read) = reads_behind _ text rest read
reads_behind part text rest (next_cat _ middle _ read more) =
    behind_trans text middle rest (behind_next text middle _ (reads_behind _ _ _ read)) (reads_behind _ _ _ more)
reads_behind part text rest (first_diff _ _ read) = reads_behind _ text rest read
reads_behind part text rest (next_diff _ middle _ read more) =
    behind_trans text middle rest (behind_next text middle _ (reads_behind _ _ _ read)) (reads_behind _ _ _ more)

pub names_behind : (text rest : List Sort) → ReadsNames text rest → IsBehind text rest
names_behind text rest (first_name _) = further _ rest rest (here rest)
names_behind text rest (next_name _ _ read) = behind_next text rest _ (behind_next text (_ ∷ rest) _ (names_behind _ _ read))

pub list_behind : (text rest : List Sort) → ReadsList text rest → IsBehind text rest
list_behind text rest (no_list _) = here text
list_behind text rest (all_conditions _) = further _ (_ ∷ _ ∷ rest) rest (further _ (_ ∷ rest) rest (further _ rest rest (here rest)))
list_behind text rest (conditions names _ read) = further _ names rest (behind_next names rest _ (names_behind _ _ read))

pub head_behind : (size : ℕ) (slash : Option ℕ) (text rest : List Sort) → ReadsHead size slash text rest → IsBehind text rest
head_behind size slash text rest (plain _ _ read) = reads_behind _ text rest read
head_behind size slash text rest (trailing _ middle _ read more) =
    behind_trans text middle rest (behind_next text middle _ (reads_behind _ _ _ read)) (reads_behind _ _ _ more)
head_behind size slash text rest (any _) = further _ rest rest (here rest)
head_behind size slash text rest (end _) = further _ rest rest (here rest)

pub action_behind : (size : ℕ) (goes coded : Option ℕ) (text rest : List Sort) → ReadsAction size goes coded text rest → IsBehind text rest
action_behind size goes coded text rest (code _) = further _ rest rest (here rest)
action_behind size goes coded text rest (code_and_target _) = further _ (_ ∷ _ ∷ rest) rest (further _ (_ ∷ rest) rest (further _ rest rest (here rest)))
action_behind size goes coded text rest (target _) = further _ (_ ∷ rest) rest (further _ rest rest (here rest))

pub item_behind : (size : ℕ) (item : Item) (text rest : List Sort) → ReadsItem size item text rest → IsBehind text rest
item_behind size item text rest (define inner _ read) =
    further _ (_ ∷ inner) rest (further _ inner rest (behind_next inner rest _ (reads_behind _ _ _ read)))
item_behind size item text rest (configure value _ is) =
    further _ (_ ∷ value ∷ _ ∷ rest) rest (further _ (value ∷ _ ∷ rest) rest (further value (_ ∷ rest) rest (further _ rest rest (here rest))))
item_behind size item text rest (rule _ _ _ _ head stop _ list read last) =
    behind_trans text head rest (list_behind _ _ list)
    (behind_trans head stop rest (head_behind _ _ _ _ read) (action_behind _ _ _ _ _ last))
