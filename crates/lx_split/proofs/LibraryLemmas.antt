-- What is known of files, as more is read.
use Rattle.std.proofs.Common.{◌≡◌, ℕ, Bool, true, false, cond, if◌then◌else◌, List, [], ◌∷◌, ◌++◌, Option, Some, None, IfSome, IsSome, is_some, option_and_then, MatchOption, ◌≤◌, ◌<◌, ◌+◌, suc, length, drop, get_or, arith, refl, sym, ◌∙◌, ap, subst}
use Rattle.std.specs.Map.{lookup}
use Rattle.std.specs.Option.{option_map}
use Rattle.std.specs.Str.{bytes_eq}
use Rattle.std.proofs.lemmas.Slice.Eq.{bytes_eq-Decides}
use Rattle.std.proofs.Math.Seq.{drop-cons}
use Rattle.lx_files.specs.Counts.{Rose}
use Rattle.lx_files.specs.Held.{Sees, bytes_of}
use Rattle.lx_files.specs.declared.files.HeldFile.{HeldFile}
use Rattle.lx_split.specs.declared.library.Library.{Library}
use Rattle.lx_split.specs.Includes.{file_or, first_file}
use Rattle.lx_split.specs.Libraries.{Agrees, IsReadFrom, ReadsOn, known, known_bytes, known_file}

-- an entry behind others is found where they have none that passes
pub lookup-last : {K X : Type 0} (test : K → Bool) (entries : List (K × X)) (key : K) (value : X) →
    (test key ≡ true → lookup test entries ≡ None) →
    lookup test (entries ++ (key, value) ∷ []) ≡ (if test key then Some value else lookup test entries)
lookup-last test [] key value none = refl
lookup-last test (entry ∷ entries) key value none =
    at (test entry.0) (test key) refl refl (lookup-last test entries key value)
  where
    at : (here last : Bool) → test entry.0 ≡ here → test key ≡ last →
        ((test key ≡ true → lookup test entries ≡ None) → lookup test (entries ++ (key, value) ∷ []) ≡ (if test key then Some value else lookup test entries)) →
        cond here (Some entry.1) (lookup test (entries ++ (key, value) ∷ [])) ≡ (if last then Some value else cond here (Some entry.1) (lookup test entries))
    at true true here last later = absurd (let found = none last in let shown = rw here at found in cc)
    at true false here last later = refl
    at false true here last later =
        let more = later (λ is. let found = none is in rw here at found) in rw last at more
    at false false here last later = let more = later (λ is. absurd (cc)) in rw last at more

-- whether two names are the same
same_name : (name other : List ℕ) → bytes_eq name other ≡ true → name ≡ other
same_name name other is = (bytes_eq-Decides name other).0 is

other_way : (name other : List ℕ) (b : Bool) → bytes_eq name other ≡ b → bytes_eq other name ≡ b
other_way name other true is = (bytes_eq-Decides other name).1 (sym (same_name name other is))
other_way name other false is = at (bytes_eq other name) refl
  where
    at : (b : Bool) → bytes_eq other name ≡ b → bytes_eq other name ≡ false
    at true back = absurd (let there = (bytes_eq-Decides name other).1 (sym (same_name other name back)) in cc)
    at false back = back

-- one more name is known, of which nothing was
module _ (before after : Library) (name : List ℕ) (answer : Option (List ℕ)) (unknown : known before name ≡ None)
    (added : (other : List ℕ) → known after other ≡ (if bytes_eq other name then Some answer else known before other)) where
  known-name : (other : List ℕ) → bytes_eq other name ≡ true → known after other ≡ Some answer
  known-name other is = let more = added other in rw is at more

  known-other : (other : List ℕ) → bytes_eq other name ≡ false → known after other ≡ known before other
  known-other other is = let more = added other in rw is at more

  agrees-before : (seen : List HeldFile) → Agrees seen after → Agrees seen before
  agrees-before seen agrees other found is = at (bytes_eq other name) refl
    where
      at : (b : Bool) → bytes_eq other name ≡ b → bytes_of seen other ≡ found
      at true same = absurd (let e = ap (known before) (same_name other name same) in cc)
      at false same = agrees other found (known-other other same ∙ is)

  agrees-after : (seen : List HeldFile) → bytes_of seen name ≡ answer → Agrees seen before → Agrees seen after
  agrees-after seen here agrees other found is = at (bytes_eq other name) refl
    where
      at : (b : Bool) → bytes_eq other name ≡ b → bytes_of seen other ≡ found
      at true same =
          let e = ap (bytes_of seen) (same_name other name same) in
          let k = known-name other same in cc
      at false same = agrees other found (sym (known-other other same) ∙ is)

  -- names of which still nothing is known
  unknown-before : (other : List ℕ) → known after other ≡ None → (bytes_eq other name ≡ false) × (known before other ≡ None)
  unknown-before other none = at (bytes_eq other name) refl
    where
      at : (b : Bool) → bytes_eq other name ≡ b → (bytes_eq other name ≡ false) × (known before other ≡ None)
      at true same = absurd (let k = known-name other same in cc)
      at false same = (same, sym (known-other other same) ∙ none)

read-more : (held : Option (List HeldFile)) (before after : Library) (name : List ℕ) (answer : Option (List ℕ)) → known before name ≡ None →
    ((other : List ℕ) → known after other ≡ (if bytes_eq other name then Some answer else known before other)) →
    IfSome held (λ files. bytes_of files name ≡ answer) → IsReadFrom held before → IsReadFrom held after
read-more (Some files) before after name answer unknown added given from = record {
  seen = from.seen;
  sees = from.sees;
  agrees = agrees-after before after name answer unknown added from.seen (ap (λ (l : List HeldFile). bytes_of l name) from.sees ∙ given) from.agrees;
  others = λ never. absurd (cc);
}
read-more None before after name None unknown added given from = record {
  seen = from.seen;
  sees = tt;
  agrees = agrees-after before after name None unknown added from.seen (from.others refl name unknown) from.agrees;
  others = λ is other none. from.others refl other (unknown-before before after name None unknown added other none).1;
}
read-more None before after name (Some bytes) unknown added given from =
    let file : HeldFile = record { name = name; bytes = bytes } in record {
      seen = file ∷ from.seen;
      sees = tt;
      agrees = agrees-after before after name (Some bytes) unknown added (file ∷ from.seen) (rw ((bytes_eq-Decides name name).1 refl) refl) agrees;
      others = λ is other none.
          let still = unknown-before before after name (Some bytes) unknown added other none in
          rw (other_way other name false still.0) (from.others refl other still.1);
    }
  where
    agrees : Agrees (record { name = name; bytes = bytes } ∷ from.seen) before
    agrees other found is = at (bytes_eq name other) refl
      where
        at : (b : Bool) → bytes_eq name other ≡ b → (if b then Some bytes else bytes_of from.seen other) ≡ found
        at true same = absurd (let e = ap (known before) (same_name name other same) in cc)
        at false same = from.agrees other found is

-- one more name was read, of which nothing was known
pub ReadsOn-more : (held : Option (List HeldFile)) (before after : Library) (name : List ℕ) (answer : Option (List ℕ)) → known before name ≡ None →
    ((other : List ℕ) → known after other ≡ (if bytes_eq other name then Some answer else known before other)) →
    IfSome held (λ files. bytes_of files name ≡ answer) → ReadsOn held before after
ReadsOn-more held before after name answer unknown added given = record {
  agrees = agrees-before before after name answer unknown added;
  read = read-more held before after name answer unknown added given;
}

-- first from files that hold this, and then from files that hold the same
pub ReadsOn-trans : (held held' : Option (List HeldFile)) (first second third : Library) → held' ≡ held → ReadsOn held first second → ReadsOn held' second third →
    ReadsOn held first third
ReadsOn-trans held held' first second third same one two = record {
  agrees = λ seen agrees. one.agrees seen (two.agrees seen agrees);
  read = λ from. subst (λ (h : Option (List HeldFile)). IsReadFrom h third) same (two.read (subst (λ (h : Option (List HeldFile)). IsReadFrom h second) (sym same) (one.read from)));
}

-- where nothing is known
pub IsReadFrom-empty : (held : Option (List HeldFile)) (library : Library) → library.by_name.entries ≡ [] → IsReadFrom held library
IsReadFrom-empty (Some files) library none = record { seen = files; sees = refl; agrees = λ name answer is. absurd (let k = ap (lookup (λ key. bytes_eq name key.items)) none in cc); others = λ never. absurd (cc) }
IsReadFrom-empty None library none = record { seen = []; sees = tt; agrees = λ name answer is. absurd (let k = ap (lookup (λ key. bytes_eq name key.items)) none in cc); others = λ is name unknown. refl }

-- a count that rose from a later value rose from an earlier one
pub Rose-from : (first second third : ℕ) → first ≤ second → Rose second third → Rose first third
Rose-from first second third le rose = λ less. rose (omega arith)

pub missing-given : (held : Option (List HeldFile)) (CountRose : Type 0) (name : List ℕ) → MatchOption held CountRose (λ files. bytes_of files name ≡ None) →
    IfSome held (λ files. bytes_of files name ≡ None)
missing-given None CountRose name missing = tt
missing-given (Some files) CountRose name missing = missing

pub unknown_option : (found : Option (Option (List ℕ))) → is_some found ≡ false → found ≡ None
unknown_option None is = refl
unknown_option (Some answer) is = absurd (cc)

known_none : (found : Option (Option (List ℕ))) → IsSome found → is_some (option_and_then (λ bytes. bytes) found) ≡ false → found ≡ Some None
known_none None some none = absurd (cc)
known_none (Some None) some none = refl
known_none (Some (Some bytes)) some none = absurd (cc)

-- a name of which it is known that there is no file
pub first_file-past : (library : Library) (seen : List HeldFile) (name : List ℕ) (names : List (List ℕ)) → Agrees seen library → IsSome (known library name) →
    is_some (known_bytes library name) ≡ false → first_file seen (name ∷ names) ≡ first_file seen names
first_file-past library seen name names agrees some none =
    let missing = agrees name None (known_none (known library name) some none) in rw missing

known_some : (name : List ℕ) (found : Option (Option (List ℕ))) → is_some (option_and_then (λ bytes. bytes) found) ≡ true →
    (bytes : List ℕ) × (found ≡ Some (Some bytes))
known_some name None is = absurd (cc)
known_some name (Some None) is = absurd (cc)
known_some name (Some (Some bytes)) is = (bytes, refl)

-- a name of which bytes are known
pub first_file-here : (library : Library) (seen : List HeldFile) (name : List ℕ) (names : List (List ℕ)) → Agrees seen library →
    is_some (known_bytes library name) ≡ true → first_file seen (name ∷ names) ≡ known_file library (Some name)
first_file-here library seen name names agrees is =
    let some = known_some name (known library name) is in
    ap (λ (o : Option (List ℕ)). file_or (first_file seen names) name o) (agrees name (Some some.0) some.1)
    ∙ sym (ap (λ (o : Option (Option (List ℕ))). option_map (λ bytes. let file : HeldFile = record { name = name; bytes = bytes } in file) (option_and_then (λ bytes. bytes) o)) some.1)

-- the names from one on
pub drop-here : (names : List (List ℕ)) (i : ℕ) (name : List ℕ) → i < length names → name ≡ get_or names i name → drop i names ≡ name ∷ drop (i + 1) names
drop-here names i name less is =
    let size : i + 1 ≡ suc i = omega arith in
    rw size (drop-cons names i name less ∙ ap (λ (n : List ℕ). n ∷ drop (suc i) names) (sym is))

bytes_known : (found : Option (Option (List ℕ))) (bytes : List ℕ) → option_and_then (λ bytes. bytes) found ≡ Some bytes → found ≡ Some (Some bytes)
bytes_known None bytes is = absurd (cc)
bytes_known (Some answer) bytes is = ap (λ (o : Option (List ℕ)). Some o) is

-- bytes that are known of a name are seen under it
pub bytes_of-known : (library : Library) (seen : List HeldFile) (name bytes : List ℕ) → Agrees seen library → known_bytes library name ≡ Some bytes →
    bytes_of seen name ≡ Some bytes
bytes_of-known library seen name bytes agrees is = agrees name (Some bytes) (bytes_known (known library name) bytes is)

-- the files can be seen
pub sees_any : (held : Option (List HeldFile)) → (seen : List HeldFile) × Sees held seen
sees_any None = ([], tt)
sees_any (Some files) = (files, refl)

-- what was read on from files that hold the same
pub IsReadFrom-on : (held held' : Option (List HeldFile)) (before after : Library) → held' ≡ held → ReadsOn held' before after → IsReadFrom held before → IsReadFrom held after
IsReadFrom-on held held' before after same reads from =
    subst (λ (h : Option (List HeldFile)). IsReadFrom h after) same (reads.read (subst (λ (h : Option (List HeldFile)). IsReadFrom h before) (sym same) from))
