-- Tables of tags, and how tags are found in them by their names.
use Rattle.std.proofs.Common.{◌≡◌, ◌∙◌, sym, ap, subst, refl, inl, inr, ◌⊎◌, ltb, ltb-true, ltb-false, if◌then◌else◌, ℕ, zero, suc, ◌+◌, ◌<◌, ◌≤◌, ◌==◌, Bool, true, false, ◌||◌, List, [], ◌∷◌, ◌++◌, length, append_assoc, drop, take-append-drop, length-append, length-set, length-take-le, map, set, take, get_or, get_or-set_other, get_or-set_same, get_or-take, take-suc, take-take, mod-lt, eq-eqb, eqb-true, Option, Some, None, arith}
use Rattle.std.specs.List.{AllByRecursion, list_any}
use Rattle.std.specs.Option.{option_map}
use Rattle.std.proofs.Math.Seq.{map-set_same}
use Rattle.std.proofs.lemmas.Bool.{false≢true}
use Rattle.std.proofs.lemmas.List.{get_or_append_left, get_or_at, length-map, map-append, take-append-le, take_at, get_or-map, get_or_default}
use Rattle.std.proofs.lemmas.List.Folds.{list_any-append}
use Rattle.lx_base.specs.Letters.{equal_words}
use Rattle.lx_base.specs.Names.{AreDistinct, IsNoneOf}
use Rattle.lx_ccode.proofs.Words.{equal_words-self, equal_words-true}
use Rattle.lx_ccode.specs.declared.piece.CodeBlock.{CodeBlock}
use Rattle.lx_ccode.specs.declared.piece.Stmt.{Stmt}
use Rattle.lx_ccode.specs.declared.piece.Stmt.TheVariants.{Tag}
use Rattle.lx_ccode.specs.NameSets.{first_place}
use Rattle.lx_ccode.specs.Statements.{all_statements}
use Rattle.lx_step.specs.declared.answers.StmtAt.{StmtAt}
use Rattle.lx_step.specs.declared.tags.TagName.{TagName}
use Rattle.lx_step.specs.declared.tags.TagTable.{TagTable}
use Rattle.lx_step.specs.Tags.{AreLinked, AreTagsOf, HasFlags, IsTableOf, bucket_of, gives_history, gives_offset, hash_from, last_in, marked, names_from, new_tag, no_tag, tag_name, tag_names, told_name}
use Rattle.lx_step.proofs.TagLists.{all_statements-split, all_statements-take, gives-none-from, length-names_from, names_from-append}

-- ---- the first place of a name

later : (found : Option ℕ) (place : ℕ) → option_map suc found ≡ Some (suc place) → found ≡ Some place
later None place e = absurd cc
later (Some other) place e = let same : other ≡ place = cc in ap Some same

not_first : (found : Option ℕ) → (option_map suc found ≡ Some 0 → ⊥)
not_first None e = cc
not_first (Some other) e = cc

later_none : (found : Option ℕ) → option_map suc found ≡ None → found ≡ None
later_none None e = refl
later_none (Some place) e = absurd cc

some_none : {place : ℕ} → Some place ≡ None → ⊥
some_none e = cc

first_place-other : (names : List (List ℕ)) (name tag : List ℕ) → equal_words name tag ≡ false → first_place (names ++ name ∷ []) tag ≡ first_place names tag
first_place-other [] name tag e = rw e refl
first_place-other (first ∷ names) name tag e = ap (λ rest. if equal_words first tag then Some 0 else option_map suc rest) (first_place-other names name tag e)

pub first_place-new : (names : List (List ℕ)) (name : List ℕ) → first_place names name ≡ None → first_place (names ++ name ∷ []) name ≡ Some (length names)
first_place-new [] name e = rw (equal_words-self name) refl
first_place-new (first ∷ names) name e = by (equal_words first name) refl e (first_place-new names name) where
  by : (same : Bool) → equal_words first name ≡ same → first_place (first ∷ names) name ≡ None → (first_place names name ≡ None → first_place (names ++ name ∷ []) name ≡ Some (length names))
      → first_place (first ∷ (names ++ name ∷ [])) name ≡ Some (suc (length names))
  by true is e more = absurd (some_none (rw is at e))
  by false is e more = rw is (ap (option_map suc) (more (later_none (first_place names name) (rw is at e))))

IsNoneOf-push : (word : List ℕ) (names : List (List ℕ)) (name : List ℕ) → IsNoneOf word names → (word ≡ name → ⊥) → IsNoneOf word (names ++ name ∷ [])
IsNoneOf-push word [] name none apart = (apart, tt)
IsNoneOf-push word (first ∷ names) name none apart = (none.0, IsNoneOf-push word names name none.1 apart)

AreDistinct-push : (names : List (List ℕ)) (name : List ℕ) → AreDistinct names → first_place names name ≡ None → AreDistinct (names ++ name ∷ [])
AreDistinct-push [] name distinct none = (tt, tt)
AreDistinct-push (first ∷ names) name distinct none = by (equal_words first name) refl none (AreDistinct-push names name distinct.1) where
  by : (same : Bool) → equal_words first name ≡ same → first_place (first ∷ names) name ≡ None → (first_place names name ≡ None → AreDistinct (names ++ name ∷ []))
      → AreDistinct (first ∷ (names ++ name ∷ []))
  by true is e more = absurd (some_none (rw is at e))
  by false is e more = (
    IsNoneOf-push first names name distinct.0 (λ same. false≢true (sym is ∙ ap (equal_words first) (sym same) ∙ equal_words-self first)),
    more (later_none (first_place names name) (rw is at e)),
  )

none_of : (word : List ℕ) (names : List (List ℕ)) (place : ℕ) → IsNoneOf word names → place < length names → equal_words word (get_or names place []) ≡ false
none_of word [] place none h = absurd (omega (arith, h))
none_of word (first ∷ names) zero none h = by (equal_words word first) refl where
  by : (same : Bool) → equal_words word first ≡ same → equal_words word first ≡ false
  by true is = absurd (none.0 (equal_words-true word first is))
  by false is = is
none_of word (first ∷ names) (suc place) none h = none_of word names place none.1 (omega (arith, h))

-- where names differ, each stands first at its own place
pub first_place-distinct : (names : List (List ℕ)) (place : ℕ) → AreDistinct names → place < length names → first_place names (get_or names place []) ≡ Some place
first_place-distinct [] place distinct h = absurd (omega (arith, h))
first_place-distinct (first ∷ names) zero distinct h = rw (equal_words-self first) refl
first_place-distinct (first ∷ names) (suc place) distinct h =
    let below : place < length names = omega (arith, h) in
    rw (none_of first names place distinct.0 below) (ap (option_map suc) (first_place-distinct names place distinct.1 below))

-- the first place of a name has it
pub first_place-word : (names : List (List ℕ)) (word : List ℕ) (place : ℕ) → first_place names word ≡ Some place → equal_words word (get_or names place []) ≡ true
first_place-word [] word place e = absurd cc
first_place-word (first ∷ names) word place e = by (equal_words first word) refl place e (first_place-word names word) where
  by : (same : Bool) → equal_words first word ≡ same → (place : ℕ) → first_place (first ∷ names) word ≡ Some place
      → ((place : ℕ) → first_place names word ≡ Some place → equal_words word (get_or names place []) ≡ true) → equal_words word (get_or (first ∷ names) place []) ≡ true
  by true is zero e more = ap (equal_words word) (equal_words-true first word is) ∙ equal_words-self word
  by true is (suc place) e more = let clash : Some 0 ≡ Some (suc place) = rw is at e in absurd cc
  by false is zero e more = absurd (not_first (first_place names word) (rw is at e))
  by false is (suc place) e more = more place (later (first_place names word) place (rw is at e))

pub first_place-within : (names : List (List ℕ)) (word : List ℕ) (place : ℕ) → first_place names word ≡ Some place → place < length names
first_place-within [] word place e = absurd cc
first_place-within (first ∷ names) word place e = by (equal_words first word) refl place e (first_place-within names word) where
  by : (same : Bool) → equal_words first word ≡ same → (place : ℕ) → first_place (first ∷ names) word ≡ Some place
      → ((place : ℕ) → first_place names word ≡ Some place → place < length names) → place < suc (length names)
  by true is zero e more = omega arith
  by true is (suc place) e more = let clash : Some 0 ≡ Some (suc place) = rw is at e in absurd cc
  by false is zero e more = omega arith
  by false is (suc place) e more = let below = more place (later (first_place names word) place (rw is at e)) in omega (arith, below)

-- ---- the last name in a bucket

pub bucket_of-lt : (buckets : ℕ) (name : List ℕ) → 0 < buckets → bucket_of buckets name < buckets
unfolding bucket_of
bucket_of-lt buckets name some = mod-lt (hash_from name 0) some

-- so many names are to be looked at from a place back
abbrev pub room : Option ℕ → ℕ
room None = 0
room (Some place) = suc place

module _ (buckets : ℕ) where
  abbrev behind : (here : Bool) → Option ℕ → Option ℕ
  behind here found = elim found [ None ↦ if here then Some 0 else None | Some place ↦ Some (suc place) ]

  abbrev first_or : (here : Bool) → Option ℕ → Option ℕ
  first_or here rest = if here then Some 0 else option_map suc rest

  last_in-push : (bucket : ℕ) (names : List (List ℕ)) (name : List ℕ)
      → last_in buckets bucket (names ++ name ∷ []) ≡ (if bucket_of buckets name == bucket then Some (length names) else last_in buckets bucket names)
  last_in-push bucket [] name = refl
  last_in-push bucket (first ∷ names) name = ap (behind (bucket_of buckets first == bucket)) (last_in-push bucket names name) ∙ by (bucket_of buckets name == bucket) where
    by : (test : Bool) → behind (bucket_of buckets first == bucket) (if test then Some (length names) else last_in buckets bucket names)
        ≡ (if test then Some (suc (length names)) else last_in buckets bucket (first ∷ names))
    by true = refl
    by false = refl

  -- the last name in a bucket is in it
  last_in-bucket : (bucket : ℕ) (names : List (List ℕ)) (place : ℕ) → last_in buckets bucket names ≡ Some place → bucket_of buckets (get_or names place []) ≡ bucket
  last_in-bucket bucket [] place e = absurd cc
  last_in-bucket bucket (first ∷ names) place e = by (last_in buckets bucket names) refl (bucket_of buckets first == bucket) refl place e (last_in-bucket bucket names) where
    by : (found : Option ℕ) → last_in buckets bucket names ≡ found → (here : Bool) → (bucket_of buckets first == bucket) ≡ here → (place : ℕ) → behind here found ≡ Some place
        → ((place : ℕ) → last_in buckets bucket names ≡ Some place → bucket_of buckets (get_or names place []) ≡ bucket) → bucket_of buckets (get_or (first ∷ names) place []) ≡ bucket
    by None is true here zero e more = eqb-true (bucket_of buckets first) bucket here
    by None is true here (suc place) e more = absurd cc
    by None is false here place e more = absurd cc
    by (Some found) is test here zero e more = absurd cc
    by (Some found) is test here (suc place) e more = let same : found ≡ place = cc in more place (is ∙ ap Some same)

  -- the name is looked for from a place back: all names in its bucket from there on are others
  pub record IsSought (names : List (List ℕ)) (name : List ℕ) (at : Option ℕ) : Type 0 where
    pub within : room at ≤ length names
    pub last : at ≡ last_in buckets (bucket_of buckets name) (take (room at) names)
    pub same : first_place names name ≡ first_place (take (room at) names) name

  pub IsSought-last : (names : List (List ℕ)) (name : List ℕ) → IsSought names name (last_in buckets (bucket_of buckets name) names)
  IsSought-last [] name = record { within = omega arith; last = refl; same = refl }
  IsSought-last (first ∷ names) name =
      by (last_in buckets (bucket_of buckets name) names) (IsSought-last names name) (bucket_of buckets first == bucket_of buckets name) refl
    where
      apart : (same : Bool) → equal_words first name ≡ same → (bucket_of buckets first == bucket_of buckets name) ≡ false → same ≡ false
      apart true is differ =
          absurd (false≢true (sym differ ∙ eq-eqb (bucket_of buckets first) (bucket_of buckets name) (ap (bucket_of buckets) (equal_words-true first name is))))
      apart false is differ = refl

      by : (found : Option ℕ) → IsSought names name found → (here : Bool) → (bucket_of buckets first == bucket_of buckets name) ≡ here
          → IsSought (first ∷ names) name (behind here found)
      by (Some place) sought here is = record {
        within = let within = sought.within in omega (arith, within);
        last = ap (behind here) sought.last ∙ ap (λ one. behind one (last_in buckets (bucket_of buckets name) (take (suc place) names))) (sym is);
        same = ap (first_or (equal_words first name)) sought.same;
      }
      by None sought true is = record {
        within = omega arith;
        last = rw is refl;
        same = ap (first_or (equal_words first name)) sought.same;
      }
      by None sought false is = record {
        within = omega arith;
        last = refl;
        same = rw (apart (equal_words first name) refl is) (ap (option_map suc) sought.same);
      }

  -- from a name that is another one it goes back to the last one before it in the bucket
  pub IsSought-before : (names : List (List ℕ)) (name : List ℕ) (place : ℕ) (before : Option ℕ) → IsSought names name (Some place) → equal_words (get_or names place []) name ≡ false
      → before ≡ last_in buckets (bucket_of buckets (get_or names place [])) (take place names) → IsSought names name before × (room before ≤ place)
  IsSought-before names name place before sought differ is =
      let below : place < length names = let within = sought.within in omega (arith, within) in
      let long : length (take place names) ≡ place = length-take-le place names (omega (arith, below)) in
      let in_bucket : bucket_of buckets (get_or names place []) ≡ bucket_of buckets name =
      ap (bucket_of buckets) (sym (get_or-take (suc place) names place [] (omega arith))) ∙ last_in-bucket (bucket_of buckets name) (take (suc place) names) place (sym sought.last) in
      let at : before ≡ last_in buckets (bucket_of buckets name) (take place names) = is ∙ ap (λ bucket. last_in buckets bucket (take place names)) in_bucket in
      let prior : IsSought (take place names) name before = subst (IsSought (take place names) name) (sym at) (IsSought-last (take place names) name) in
      let few : room before ≤ place = let within = prior.within in omega (arith, within, long) in
      let front : take (room before) (take place names) ≡ take (room before) names = take-take (room before) place names few in (
        record {
          within = omega (arith, few, below);
          last = prior.last ∙ ap (last_in buckets (bucket_of buckets name)) front;
          same =
              sought.same ∙ ap (λ front. first_place front name) (take-suc names place [] below) ∙ first_place-other (take place names) (get_or names place []) name differ
              ∙ prior.same ∙ ap (λ front. first_place front name) front;
        },
        few,
      )

-- ---- one name more

module _ (names : List (List ℕ)) (befores latest : List (Option ℕ)) (name : List ℕ) (linked : AreLinked names befores latest) (long : length befores ≡ length names) where
  abbrev count : ℕ
  count = length latest

  abbrev bucket : ℕ
  bucket = bucket_of count name

  abbrev names_more : List (List ℕ)
  names_more = names ++ name ∷ []

  abbrev latest_more : List (Option ℕ)
  latest_more = set latest bucket (Some (length names))

  abbrev befores_more : List (Option ℕ)
  befores_more = befores ++ get_or latest bucket None ∷ []

  within : bucket < count
  within = bucket_of-lt count name linked.some

  last_of : (other : ℕ) → other < count → get_or latest_more other None ≡ last_in count other names_more
  last_of other h = by (bucket == other) refl where
    choice : (test : Bool) → (bucket == other) ≡ test → last_in count other names_more ≡ (if test then Some (length names) else last_in count other names)
    choice test is = last_in-push count other names name ∙ ap (λ (one : Bool). if one then Some (length names) else last_in count other names) is

    by : (test : Bool) → (bucket == other) ≡ test → get_or latest_more other None ≡ last_in count other names_more
    by true is =
        ap (λ one. get_or latest_more one None) (sym (eqb-true bucket other is)) ∙ get_or-set_same latest bucket (Some (length names)) None within ∙ sym (choice true is)
    by false is =
        get_or-set_other latest bucket other (Some (length names)) None (λ same. false≢true (sym is ∙ eq-eqb bucket other (sym same))) ∙ linked.last other h ∙ sym (choice false is)

  before_of : (place : ℕ) → (place < length names) ⊎ (place ≡ length names)
      → get_or befores_more place None ≡ last_in count (bucket_of count (get_or names_more place [])) (take place names_more)
  before_of place (inl below) =
      get_or_append_left befores (get_or latest bucket None ∷ []) None place (omega (arith, below, long)) ∙ linked.before place below
      ∙ ap (λ one. last_in count (bucket_of count one) (take place names)) (sym (get_or_append_left names (name ∷ []) [] place below))
      ∙ ap (last_in count (bucket_of count (get_or names_more place []))) (sym (take-append-le place names (name ∷ []) (omega (arith, below))))
  before_of place (inr at) =
      get_or_at befores (get_or latest bucket None) [] None place (long ∙ sym at) ∙ linked.last bucket within
      ∙ ap (λ one. last_in count (bucket_of count one) names) (sym (get_or_at names name [] [] place (sym at)))
      ∙ ap (last_in count (bucket_of count (get_or names_more place []))) (sym (take_at names (name ∷ []) place (sym at)))

  AreLinked-push : AreLinked names_more befores_more latest_more
  AreLinked-push =
      let same : length latest_more ≡ count = length-set latest bucket (Some (length names)) in
      record {
        some = let some = linked.some in omega (arith, some, same);
        last = λ other h. last_of other (omega (arith, h, same)) ∙ ap (λ one. last_in one other names_more) (sym same);
        before = λ place h. before_of place (below_or_at place (omega (arith, h, length-append names (name ∷ []))))
            ∙ ap (λ one. last_in one (bucket_of one (get_or names_more place [])) (take place names_more)) (sym same);
      }
    where
      below_or_at : (place : ℕ) → place < suc (length names) → (place < length names) ⊎ (place ≡ length names)
      below_or_at place h = by (ltb place (length names)) refl where
        by : (test : Bool) → ltb place (length names) ≡ test → (place < length names) ⊎ (place ≡ length names)
        by true is = inl (ltb-true place (length names) is)
        by false is = inr (let past = ltb-false place (length names) is in omega (arith, past, h))

pub IsTableOf-push : (blocks : List CodeBlock) (names : List (List ℕ)) (old new : TagTable) (at : StmtAt) (name : List ℕ) → IsTableOf blocks names old → first_place names name ≡ None → tag_name blocks at ≡ name
    → new.tags.items ≡ old.tags.items ++ new_tag at (get_or old.latest.items (bucket_of (length old.latest.items) name) None) ∷ []
    → new.latest.items ≡ set old.latest.items (bucket_of (length old.latest.items) name) (Some (length old.tags.items)) → IsTableOf blocks (names ++ name ∷ []) new
IsTableOf-push blocks names old new at name table none named tags latest =
    let tag : TagName = new_tag at (get_or old.latest.items (bucket_of (length old.latest.items) name) None) in
    let many : length old.tags.items ≡ length names = sym (length-map old.tags.items (told_name blocks)) ∙ ap length table.named in
    let befores : map (λ (one : TagName). one.before) new.tags.items ≡ map (λ (one : TagName). one.before) old.tags.items ++ tag.before ∷ [] =
    ap (map (λ (one : TagName). one.before)) tags ∙ map-append (λ (one : TagName). one.before) old.tags.items (tag ∷ []) in
    record {
      named =
          ap (map (told_name blocks)) tags ∙ map-append (told_name blocks) old.tags.items (tag ∷ []) ∙ ap (λ front. front ++ tag_name blocks at ∷ []) table.named
          ∙ ap (λ one. names ++ one ∷ []) named;
      distinct = AreDistinct-push names name table.distinct none;
      linked =
          subst (λ befores. AreLinked (names ++ name ∷ []) befores new.latest.items) (sym befores)
          (subst (AreLinked (names ++ name ∷ []) (map (λ (one : TagName). one.before) old.tags.items ++ tag.before ∷ []))
          (ap (λ count. set old.latest.items (bucket_of (length old.latest.items) name) (Some count)) (sym many) ∙ sym latest)
          (AreLinked-push names (map (λ (one : TagName). one.before) old.tags.items) old.latest.items name table.linked (length-map old.tags.items (λ (one : TagName). one.before) ∙ many)));
    }

-- ---- looking for a name

module _ (blocks : List CodeBlock) (names : List (List ℕ)) (table : TagTable) (name : List ℕ) (is : IsTableOf blocks names table) where
  abbrev buckets_of : ℕ
  buckets_of = length table.latest.items

  abbrev told : List (List ℕ)
  told = map (told_name blocks) table.tags.items

  own : IsTableOf blocks told table
  own = subst (λ names. IsTableOf blocks names table) (sym is.named) is

  pub sought_first : (count bucket : ℕ) (at : Option ℕ) → count ≡ buckets_of → bucket ≡ bucket_of count name → bucket < count → at ≡ get_or table.latest.items bucket at → IsSought buckets_of told name at
  sought_first count bucket at many is_bucket below read =
      let within : bucket < buckets_of = omega (arith, below, many) in
      let here : at ≡ last_in buckets_of bucket told = read ∙ get_or_default table.latest.items bucket at None within ∙ own.linked.last bucket within in
      let named : bucket ≡ bucket_of buckets_of name = is_bucket ∙ ap (λ one. bucket_of one name) many in
      subst (IsSought buckets_of told name) (sym (here ∙ ap (λ one. last_in buckets_of one told) named)) (IsSought-last buckets_of told name)

  module _ (at : Option ℕ) (number : ℕ) (tag : TagName) (word : List ℕ) (sought : IsSought buckets_of told name at) (is_at : at ≡ Some number) (read : tag ≡ get_or table.tags.items number tag)
      (named : word ≡ tag_name blocks tag.at) where
    here : IsSought buckets_of told name (Some number)
    here = subst (IsSought buckets_of told name) is_at sought

    below : number < length table.tags.items
    below = let within = here.within in omega (arith, within, length-map table.tags.items (told_name blocks))

    told_is : get_or told number [] ≡ word
    told_is = get_or-map (told_name blocks) table.tags.items number tag [] below ∙ ap (told_name blocks) (sym read) ∙ sym named

    pub sought_found : equal_words word name ≡ true → Some number ≡ first_place told name
    sought_found same =
        sym (first_place-distinct told number own.distinct (let within = here.within in omega (arith, within))) ∙ ap (first_place told) (told_is ∙ equal_words-true word name same)

    pub sought_next : equal_words word name ≡ false → IsSought buckets_of told name tag.before × (room tag.before ≤ number)
    sought_next differ =
        IsSought-before buckets_of told name number tag.before here (ap (λ one. equal_words one name) told_is ∙ differ)
        (ap (λ (one : TagName). one.before) read ∙ sym (get_or-map (λ (one : TagName). one.before) table.tags.items number tag None below)
        ∙ own.linked.before number (let within = here.within in omega (arith, within)))

    pub sought_nearer : equal_words word name ≡ false → room tag.before < room at
    sought_nearer differ = let few = (sought_next differ).1 in let at_is : room at ≡ suc number = ap room is_at in omega (arith, few, at_is)

-- ---- marks

told_name-marked : (blocks : List CodeBlock) (history : Bool) (tag : TagName) → told_name blocks (marked history tag) ≡ told_name blocks tag
told_name-marked blocks true tag = refl
told_name-marked blocks false tag = refl

before-marked : (history : Bool) (tag : TagName) → (marked history tag).before ≡ tag.before
before-marked true tag = refl
before-marked false tag = refl

-- a mark changes neither names nor links
pub IsTableOf-marked : (blocks : List CodeBlock) (names : List (List ℕ)) (old new : TagTable) (number : ℕ) (history : Bool) → IsTableOf blocks names old
    → new.tags.items ≡ set old.tags.items number (marked history (get_or old.tags.items number no_tag)) → new.latest.items ≡ old.latest.items → IsTableOf blocks names new
IsTableOf-marked blocks names old new number history table tags latest =
    let tag : TagName = get_or old.tags.items number no_tag in
    let told : map (told_name blocks) new.tags.items ≡ map (told_name blocks) old.tags.items =
    ap (map (told_name blocks)) tags ∙ map-set_same (told_name blocks) old.tags.items number (marked history tag) no_tag (told_name-marked blocks history tag) in
    let befores : map (λ (one : TagName). one.before) new.tags.items ≡ map (λ (one : TagName). one.before) old.tags.items =
    ap (map (λ (one : TagName). one.before)) tags ∙ map-set_same (λ (one : TagName). one.before) old.tags.items number (marked history tag) no_tag (before-marked history tag) in
    record {
      named = told ∙ table.named;
      distinct = table.distinct;
      linked =
          subst (λ befores. AreLinked names befores new.latest.items) (sym befores)
          (subst (AreLinked names (map (λ (one : TagName). one.before) old.tags.items)) (sym latest) table.linked);
    }

-- ---- flags

or_false : (a : Bool) → (a || false) ≡ a
or_false true = refl
or_false false = refl

or_true : (a : Bool) → (a || true) ≡ true
or_true true = refl
or_true false = refl

one_any : (test : Stmt → Bool) (statement : Stmt) → list_any test (statement ∷ []) ≡ test statement
one_any test statement = or_false (test statement)

any-push : (test : Stmt → Bool) (statements : List Stmt) (statement : Stmt) → list_any test (statements ++ statement ∷ []) ≡ (list_any test statements || test statement)
any-push test statements statement = list_any-append test statements (statement ∷ []) ∙ ap (λ rest. list_any test statements || rest) (one_any test statement)

any-push_none : (test : Stmt → Bool) (statements : List Stmt) (statement : Stmt) → test statement ≡ false → list_any test (statements ++ statement ∷ []) ≡ list_any test statements
any-push_none test statements statement none = any-push test statements statement ∙ ap (λ rest. list_any test statements || rest) none ∙ or_false (list_any test statements)

any-push_some : (test : Stmt → Bool) (statements : List Stmt) (statement : Stmt) → test statement ≡ true → list_any test (statements ++ statement ∷ []) ≡ true
any-push_some test statements statement some = any-push test statements statement ∙ ap (λ rest. list_any test statements || rest) some ∙ or_true (list_any test statements)

HasFlags-none : (blocks : List CodeBlock) (statements : List Stmt) (statement : Stmt) (tag : TagName) → gives_offset (told_name blocks tag) statement ≡ false
    → gives_history (told_name blocks tag) statement ≡ false → HasFlags blocks statements tag → HasFlags blocks (statements ++ statement ∷ []) tag
HasFlags-none blocks statements statement tag no_offset no_history flags = record {
  offset = flags.offset ∙ sym (any-push_none (gives_offset (told_name blocks tag)) statements statement no_offset);
  history = flags.history ∙ sym (any-push_none (gives_history (told_name blocks tag)) statements statement no_history);
}

-- a statement that gives no tag a value
pub all-HasFlags-none : (blocks : List CodeBlock) (statements : List Stmt) (statement : Stmt) (tags : List TagName) → ((tag : List ℕ) → gives_offset tag statement ≡ false)
    → ((tag : List ℕ) → gives_history tag statement ≡ false) → AllByRecursion (HasFlags blocks statements) tags → AllByRecursion (HasFlags blocks (statements ++ statement ∷ [])) tags
all-HasFlags-none blocks statements statement [] no_offset no_history flags = tt
all-HasFlags-none blocks statements statement (tag ∷ tags) no_offset no_history flags = (
  HasFlags-none blocks statements statement tag (no_offset (told_name blocks tag)) (no_history (told_name blocks tag)) flags.0,
  all-HasFlags-none blocks statements statement tags no_offset no_history flags.1,
)

module _ (blocks : List CodeBlock) (statements : List Stmt) (word : List ℕ) (register : ℕ) where
  other_flags : (history : Bool) (tag : TagName) → equal_words word (told_name blocks tag) ≡ false → HasFlags blocks statements tag
      → HasFlags blocks (statements ++ Tag word history register ∷ []) tag
  other_flags true tag differ flags = HasFlags-none blocks statements (Tag word true register) tag refl differ flags
  other_flags false tag differ flags = HasFlags-none blocks statements (Tag word false register) tag differ refl flags

  own_flags : (history : Bool) (tag : TagName) → equal_words word (told_name blocks tag) ≡ true → HasFlags blocks statements tag
      → HasFlags blocks (statements ++ Tag word history register ∷ []) (marked history tag)
  own_flags true tag same flags = record {
    offset = flags.offset ∙ sym (any-push_none (gives_offset (told_name blocks tag)) statements (Tag word true register) refl);
    history = sym (any-push_some (gives_history (told_name blocks tag)) statements (Tag word true register) same);
  }
  own_flags false tag same flags = record {
    offset = sym (any-push_some (gives_offset (told_name blocks tag)) statements (Tag word false register) same);
    history = flags.history ∙ sym (any-push_none (gives_history (told_name blocks tag)) statements (Tag word false register) refl);
  }

  others_flags : (history : Bool) (tags : List TagName) → IsNoneOf word (map (told_name blocks) tags) → AllByRecursion (HasFlags blocks statements) tags
      → AllByRecursion (HasFlags blocks (statements ++ Tag word history register ∷ [])) tags
  others_flags history [] none flags = tt
  others_flags history (tag ∷ tags) none flags =
      (other_flags history tag (apart (equal_words word (told_name blocks tag)) refl) flags.0, others_flags history tags none.1 flags.1)
    where
      apart : (same : Bool) → equal_words word (told_name blocks tag) ≡ same → equal_words word (told_name blocks tag) ≡ false
      apart true is = absurd (none.0 (equal_words-true word (told_name blocks tag) is))
      apart false is = is

  -- the tag of the statement is marked, and no other one
  pub all-HasFlags-marked : (history : Bool) (tags : List TagName) (number : ℕ) → AreDistinct (map (told_name blocks) tags) → first_place (map (told_name blocks) tags) word ≡ Some number
      → AllByRecursion (HasFlags blocks statements) tags
      → AllByRecursion (HasFlags blocks (statements ++ Tag word history register ∷ [])) (set tags number (marked history (get_or tags number no_tag)))
  all-HasFlags-marked history [] number distinct found flags = tt
  all-HasFlags-marked history (tag ∷ tags) number distinct found flags = by (equal_words (told_name blocks tag) word) refl number found (λ number e. all-HasFlags-marked history tags number distinct.1 e flags.1) where
    turned : (same : Bool) → equal_words word (told_name blocks tag) ≡ same → equal_words (told_name blocks tag) word ≡ false → same ≡ false
    turned true is differ =
        absurd (false≢true (sym differ ∙ ap (λ one. equal_words one word) (sym (equal_words-true word (told_name blocks tag) is)) ∙ equal_words-self word))
    turned false is differ = refl

    by : (same : Bool) → equal_words (told_name blocks tag) word ≡ same → (number : ℕ) → first_place (map (told_name blocks) (tag ∷ tags)) word ≡ Some number
        → ((number : ℕ) → first_place (map (told_name blocks) tags) word ≡ Some number
        → AllByRecursion (HasFlags blocks (statements ++ Tag word history register ∷ [])) (set tags number (marked history (get_or tags number no_tag))))
        → AllByRecursion (HasFlags blocks (statements ++ Tag word history register ∷ [])) (set (tag ∷ tags) number (marked history (get_or (tag ∷ tags) number no_tag)))
    by true is zero e more =
        let named : told_name blocks tag ≡ word = equal_words-true (told_name blocks tag) word is in (
          own_flags history tag (ap (equal_words word) named ∙ equal_words-self word) flags.0,
          others_flags history tags (subst (λ one. IsNoneOf one (map (told_name blocks) tags)) named distinct.0) flags.1,
        )
    by true is (suc number) e more = let clash : Some 0 ≡ Some (suc number) = rw is at e in absurd cc
    by false is zero e more = absurd (not_first (first_place (map (told_name blocks) tags) word) (rw is at e))
    by false is (suc number) e more = (
      other_flags history tag (turned (equal_words word (told_name blocks tag)) refl is) flags.0,
      more number (later (first_place (map (told_name blocks) tags) word) number (rw is at e)),
    )

pub all-HasFlags-push : (blocks : List CodeBlock) (statements : List Stmt) (tags : List TagName) (tag : TagName) → AllByRecursion (HasFlags blocks statements) tags → HasFlags blocks statements tag
    → AllByRecursion (HasFlags blocks statements) (tags ++ tag ∷ [])
all-HasFlags-push blocks statements [] tag flags last = (last, tt)
all-HasFlags-push blocks statements (first ∷ tags) tag flags last = (flags.0, all-HasFlags-push blocks statements tags tag flags.1 last)

-- ---- tags of statements

module _ (blocks : List CodeBlock) (statements : List Stmt) where
  -- behind a statement that names no tag they are the same
  pub AreTagsOf-unnamed : (table : TagTable) (statement : Stmt) → ((word : List ℕ) (history : Bool) (register : ℕ) → statement ≡ Tag word history register → ⊥)
      → AreTagsOf blocks statements table → AreTagsOf blocks (statements ++ statement ∷ []) table
  AreTagsOf-unnamed table (Tag word history register) other tags = absurd (other word history register refl)
  AreTagsOf-unnamed table statement other tags = record {
    listed = subst (λ names. IsTableOf blocks names table) (sym (names_from-append statements (statement ∷ []) [])) tags.listed;
    flags = all-HasFlags-none blocks statements statement table.tags.items (λ tag. refl) (λ tag. refl) tags.flags;
  }

  module _ (old new : TagTable) (word : List ℕ) (history : Bool) (register number : ℕ) where
    abbrev more : List Stmt
    more = statements ++ Tag word history register ∷ []

    -- behind one that names a tag of the table, this is marked
    pub AreTagsOf-known : AreTagsOf blocks statements old → first_place (map (told_name blocks) old.tags.items) word ≡ Some number
        → new.tags.items ≡ set old.tags.items number (marked history (get_or old.tags.items number no_tag)) → new.latest.items ≡ old.latest.items → AreTagsOf blocks more new
    AreTagsOf-known tags found marks latest =
        let known : first_place (names_from statements []) word ≡ Some number = ap (λ names. first_place names word) (sym tags.listed.named) ∙ found in
        let same : names_from statements [] ≡ names_from more [] =
        sym (ap (λ (place : Option ℕ). elim place [ None ↦ names_from statements [] ++ word ∷ [] | Some number ↦ names_from statements [] ]) known) ∙ sym (names_from-append statements (Tag word history register ∷ []) []) in
        record {
          listed = subst (λ names. IsTableOf blocks names new) same (IsTableOf-marked blocks (names_from statements []) old new number history tags.listed marks latest);
          flags =
              subst (AllByRecursion (HasFlags blocks more)) (sym marks)
              (all-HasFlags-marked blocks statements word register history old.tags.items number (subst AreDistinct (sym tags.listed.named) tags.listed.distinct) found tags.flags);
        }

  -- one more tag, of which nothing is told yet
  pub added_names : (word : List ℕ) (history : Bool) (register : ℕ) → first_place (names_from statements []) word ≡ None
      → names_from (statements ++ Tag word history register ∷ []) [] ≡ names_from statements [] ++ word ∷ []
  added_names word history register none =
      names_from-append statements (Tag word history register ∷ []) []
      ∙ ap (λ (place : Option ℕ). elim place [ None ↦ names_from statements [] ++ word ∷ [] | Some number ↦ names_from statements [] ]) none

  pub AreTagsOf-new : (old middle new : TagTable) (at : StmtAt) (word : List ℕ) (history : Bool) (register : ℕ) → AreTagsOf blocks statements old
      → first_place (map (told_name blocks) old.tags.items) word ≡ None → tag_name blocks at ≡ word
      → middle.tags.items ≡ old.tags.items ++ new_tag at (get_or old.latest.items (bucket_of (length old.latest.items) word) None) ∷ []
      → middle.latest.items ≡ set old.latest.items (bucket_of (length old.latest.items) word) (Some (length old.tags.items))
      → new.tags.items ≡ set middle.tags.items (length old.tags.items) (marked history (get_or middle.tags.items (length old.tags.items) no_tag)) → new.latest.items ≡ middle.latest.items
      → AreTagsOf blocks (statements ++ Tag word history register ∷ []) new
  AreTagsOf-new old middle new at word history register tags found named added latest marks same =
      let names : List (List ℕ) = names_from statements [] in
      let none : first_place names word ≡ None = ap (λ names. first_place names word) (sym tags.listed.named) ∙ found in
      let count : length old.tags.items ≡ length names = sym (length-map old.tags.items (told_name blocks)) ∙ ap length tags.listed.named in
      let tag : TagName = new_tag at (get_or old.latest.items (bucket_of (length old.latest.items) word) None) in
      let table : IsTableOf blocks (names ++ word ∷ []) middle = IsTableOf-push blocks names old middle at word tags.listed none named added latest in
      let flags : AllByRecursion (HasFlags blocks statements) middle.tags.items =
      subst (AllByRecursion (HasFlags blocks statements)) (sym added) (all-HasFlags-push blocks statements old.tags.items tag tags.flags (record {
        offset = sym (ap (λ one. list_any (gives_offset one) statements) named ∙ gives-none-from statements false word none);
        history = sym (ap (λ one. list_any (gives_history one) statements) named ∙ gives-none-from statements true word none);
      })) in
      let place : first_place (map (told_name blocks) middle.tags.items) word ≡ Some (length old.tags.items) =
      ap (λ names. first_place names word) table.named ∙ first_place-new names word none ∙ ap Some (sym count) in
      record {
        listed =
            subst (λ names. IsTableOf blocks names new) (sym (added_names word history register none))
            (IsTableOf-marked blocks (names ++ word ∷ []) middle new (length old.tags.items) history table marks same);
        flags =
            subst (AllByRecursion (HasFlags blocks (statements ++ Tag word history register ∷ []))) (sym marks)
            (all-HasFlags-marked blocks statements word register history middle.tags.items (length old.tags.items) (subst AreDistinct (sym table.named) table.distinct) place flags);
      }

-- ---- room

names_from-front : (front back : List Stmt) → length (names_from front []) ≤ length (names_from (front ++ back) [])
names_from-front front back = omega (arith, length-names_from back (names_from front []), ap length (names_from-append front back []))

-- with a name that is new there are more tags than before
pub few_tags : (blocks : List CodeBlock) (statements : List Stmt) (table : TagTable) (word : List ℕ) (history : Bool) (register capacity : ℕ) → AreTagsOf blocks statements table
    → first_place (map (told_name blocks) table.tags.items) word ≡ None → length (names_from (statements ++ Tag word history register ∷ []) []) ≤ capacity → length table.tags.items < capacity
few_tags blocks statements table word history register capacity tags none enough =
    let names : List (List ℕ) = names_from statements [] in
    let count : length table.tags.items ≡ length names = sym (length-map table.tags.items (told_name blocks)) ∙ ap length tags.listed.named in
    let more : length (names_from (statements ++ Tag word history register ∷ []) []) ≡ length names + 1 =
    ap length (added_names blocks statements word history register (ap (λ names. first_place names word) (sym tags.listed.named) ∙ none)) ∙ length-append names (word ∷ []) in
    omega (arith, count, more, enough)

-- the statements up to a place, and the next one
pub statements-next : (before statements : List Stmt) (place : ℕ) (statement : Stmt) → place < length statements → statement ≡ get_or statements place statement
    → (before ++ take place statements) ++ statement ∷ [] ≡ before ++ take (place + 1) statements
statements-next before statements place statement below is =
    let next : place + 1 ≡ suc place = omega arith in
    append_assoc before (take place statements) (statement ∷ []) ∙ ap (λ one. before ++ (take place statements ++ one ∷ [])) is
    ∙ ap (λ front. before ++ front) (sym (take-suc statements place statement below)) ∙ ap (λ count. before ++ take count statements) (sym next)

pub length-names-next : (before statements : List Stmt) (place : ℕ) (statement : Stmt) → place < length statements → statement ≡ get_or statements place statement
    → length (names_from ((before ++ take place statements) ++ statement ∷ []) []) ≤ length (names_from (before ++ statements) [])
length-names-next before statements place statement below is =
    let front : (before ++ take place statements) ++ statement ∷ [] ≡ before ++ take (place + 1) statements = statements-next before statements place statement below is in
    let all : (before ++ take (place + 1) statements) ++ drop (place + 1) statements ≡ before ++ statements =
    append_assoc before (take (place + 1) statements) (drop (place + 1) statements) ∙ ap (λ rest. before ++ rest) (take-append-drop (place + 1) statements) in
    omega (arith, names_from-front (before ++ take (place + 1) statements) (drop (place + 1) statements), ap (λ one. length (names_from one [])) front, ap (λ one. length (names_from one [])) all)

pub length-names-block : (blocks : List CodeBlock) (place : ℕ) (block : CodeBlock) (front : List Stmt) → place < length blocks → block ≡ get_or blocks place block → front ≡ block.stmts
    → length (names_from (all_statements (take place blocks) ++ front) []) ≤ length (tag_names blocks)
length-names-block blocks place block front below is front_is =
    let here : all_statements (take (place + 1) blocks) ≡ all_statements (take place blocks) ++ front = all_statements-take blocks place block front below is front_is in
    let all : all_statements blocks ≡ all_statements (take (place + 1) blocks) ++ all_statements (drop (place + 1) blocks) = all_statements-split blocks (place + 1) in
    omega (arith, names_from-front (all_statements (take (place + 1) blocks)) (all_statements (drop (place + 1) blocks)), ap (λ one. length (names_from one [])) here, ap (λ one. length (names_from one [])) all)
