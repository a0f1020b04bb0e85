-- Conditions as entries of a map.
use Rattle.std.proofs.Common.{◌≡◌, ℕ, zero, suc, ◌+◌, Bool, true, false, List, [], ◌∷◌, ◌++◌, map, get_or, Option, None, Some, refl, sym, ap, ◌∙◌, arith, Vec, Global}
use Rattle.std.specs.Prelude.{◌||◌, is_some, not, slice_get, if◌then◌else◌}
use Rattle.std.specs.List.{position_or_len}
use Rattle.std.specs.Map.{keys_of, lookup, values_of}
use Rattle.std.specs.Option.{option_map_or}
use Rattle.std.specs.Str.{bytes_eq}
use Rattle.std.proofs.lemmas.Slice.Eq.{bytes_eq-Decides}
use Rattle.indexmap.specs.IndexMap.{insert_entry, set_value_at}
use Rattle.lx_exprs.specs.Checks.{is_among}
use Rattle.lx_rules.specs.declared.conditions.Conditions.{Conditions}
use Rattle.lx_rules.specs.declared.conditions.KeptCondition.{KeptCondition}
use Rattle.lx_rules.specs.declared.conditions.Standing.{Standing}
use Rattle.lx_rules.specs.Blocks.{add_conds, every}
use Rattle.lx_rules.specs.Conditions.{condition_view, kept_of, nothing_kept, taken}
use Rattle.lx_rules.proofs.CondSets.CondNames.{is_among-append, is_among-here}

-- equality of keys is that of their names
abbrev pub same_key : {K : Type 0} → (K → List ℕ) → K → K → Bool
same_key items key other = bytes_eq (items key) (items other)

module _ {K V : Type 0} (items : K → List ℕ) where
  abbrev pub names_in : List (K × V) → List (List ℕ)
  names_in entries = map (λ entry. items entry.0) entries

  abbrev pub found_in : (name : List ℕ) → List (K × V) → Option V
  found_in name entries = lookup (λ key. bytes_eq name (items key)) entries

  -- a name that has an entry is among the names
  pub found-is_among : (name : List ℕ) (entries : List (K × V)) → is_some (found_in name entries) ≡ is_among name (names_in entries)
  found-is_among name [] = refl
  found-is_among name (entry ∷ entries) = at (bytes_eq name (items entry.0)) (found-is_among name entries)
    where
      at : (test : Bool) → is_some (found_in name entries) ≡ is_among name (names_in entries)
          → is_some (if test then Some entry.1 else found_in name entries) ≡ (test || is_among name (names_in entries))
      at true later = refl
      at false later = later

  -- what has no entry is not found
  pub found-none : (name : List ℕ) (entries : List (K × V)) → is_some (found_in name entries) ≡ false → found_in name entries ≡ None
  found-none name entries none = at (found_in name entries) none
    where
      at : (found : Option V) → is_some found ≡ false → found ≡ None
      at None none = refl
      at (Some value) none = absurd (let h : true ≡ false = none in cc)

  module _ (key : K) (value : V) where
    abbrev inserted : List (K × V) → List (K × V)
    inserted entries = insert_entry (same_key items) entries key value

    -- a new name goes last
    pub names-insert : (entries : List (K × V))
        → names_in (inserted entries) ≡ (if is_among (items key) (names_in entries) then names_in entries else names_in entries ++ items key ∷ [])
    names-insert [] = refl
    names-insert (entry ∷ entries) = at (bytes_eq (items key) (items entry.0)) (is_among (items key) (names_in entries)) (names-insert entries)
      where
        at : (test among : Bool) → names_in (inserted entries) ≡ (if among then names_in entries else names_in entries ++ items key ∷ [])
            → names_in (if test then (entry.0, value) ∷ entries else entry ∷ inserted entries)
            ≡ (if test || among then items entry.0 ∷ names_in entries else items entry.0 ∷ names_in entries ++ items key ∷ [])
        at true among later = refl
        at false true later = ap (λ l. items entry.0 ∷ l) later
        at false false later = ap (λ l. items entry.0 ∷ l) later

    -- and is found at its number
    pub number-insert : (entries : List (K × V))
        → get_or (names_in (inserted entries)) (position_or_len (same_key items key) (keys_of entries)) [] ≡ items key
    number-insert [] = refl
    number-insert (entry ∷ entries) = at (bytes_eq (items key) (items entry.0)) refl (number-insert entries)
      where
        at : (test : Bool) → bytes_eq (items key) (items entry.0) ≡ test
            → get_or (names_in (inserted entries)) (position_or_len (same_key items key) (keys_of entries)) [] ≡ items key
            → get_or (names_in (if test then (entry.0, value) ∷ entries else entry ∷ inserted entries))
            (if not test then 1 + position_or_len (same_key items key) (keys_of entries) else 0) [] ≡ items key
        at true e later = sym ((bytes_eq-Decides (items key) (items entry.0)).0 e)
        at false e later =
            let next : 1 + position_or_len (same_key items key) (keys_of entries) ≡ suc (position_or_len (same_key items key) (keys_of entries)) = omega arith in
            ap (λ i. get_or (items entry.0 ∷ names_in (inserted entries)) i []) next ∙ later

    -- it has the value, and the others have theirs
    pub found-insert : (name : List ℕ) (entries : List (K × V))
        → found_in name (inserted entries) ≡ (if bytes_eq name (items key) then Some value else found_in name entries)
    found-insert name [] = refl
    found-insert name (entry ∷ entries) = by (bytes_eq (items key) (items entry.0)) refl (found-insert name entries)
      where
        here : (test : Bool) → (if test then Some value else found_in name entries)
            ≡ (if test then Some value else (if test then Some entry.1 else found_in name entries))
        here true = refl
        here false = refl

        there : (test other : Bool) → bytes_eq name (items entry.0) ≡ test → bytes_eq name (items key) ≡ other → bytes_eq (items key) (items entry.0) ≡ false
            → found_in name (inserted entries) ≡ (if other then Some value else found_in name entries)
            → (if test then Some entry.1 else found_in name (inserted entries))
            ≡ (if other then Some value else (if test then Some entry.1 else found_in name entries))
        there true true e f apart later =
            let same : items key ≡ items entry.0 = sym ((bytes_eq-Decides name (items key)).0 f) ∙ (bytes_eq-Decides name (items entry.0)).0 e in
            absurd (let h : true ≡ false = sym ((bytes_eq-Decides (items key) (items entry.0)).1 same) ∙ apart in cc)
        there true false e f apart later = refl
        there false true e f apart later = later
        there false false e f apart later = later

        by : (test : Bool) → bytes_eq (items key) (items entry.0) ≡ test
            → found_in name (inserted entries) ≡ (if bytes_eq name (items key) then Some value else found_in name entries)
            → found_in name (if test then (entry.0, value) ∷ entries else entry ∷ inserted entries)
            ≡ (if bytes_eq name (items key) then Some value else found_in name (entry ∷ entries))
        by true e later =
            here (bytes_eq name (items entry.0))
            ∙ ap (λ text. if bytes_eq name text then Some value else found_in name (entry ∷ entries)) (sym ((bytes_eq-Decides (items key) (items entry.0)).0 e))
        by false e later = there (bytes_eq name (items entry.0)) (bytes_eq name (items key)) refl refl e later

  -- the place of the first entry with a name
  abbrev pub number_in : (name : List ℕ) → List (K × V) → ℕ
  number_in name entries = position_or_len (λ key. bytes_eq name (items key)) (keys_of entries)

  next_number : (name : List ℕ) (entries : List (K × V)) → 1 + number_in name entries ≡ suc (number_in name entries)
  next_number name entries = omega arith

  -- the name stands there
  pub number-name : (name : List ℕ) (entries : List (K × V)) → is_among name (names_in entries) ≡ true
      → get_or (names_in entries) (number_in name entries) [] ≡ name
  number-name name [] among = absurd (let h : false ≡ true = among in cc)
  number-name name (entry ∷ entries) among = at (bytes_eq name (items entry.0)) refl among (number-name name entries)
    where
      at : (test : Bool) → bytes_eq name (items entry.0) ≡ test → (test || is_among name (names_in entries)) ≡ true
          → (is_among name (names_in entries) ≡ true → get_or (names_in entries) (number_in name entries) [] ≡ name)
          → get_or (items entry.0 ∷ names_in entries) (if not test then 1 + number_in name entries else 0) [] ≡ name
      at true e found later = sym ((bytes_eq-Decides name (items entry.0)).0 e)
      at false e found later = ap (λ i. get_or (items entry.0 ∷ names_in entries) i []) (next_number name entries) ∙ later found

  -- and so does its value
  pub number-value : (name : List ℕ) (entries : List (K × V)) → slice_get (values_of entries) (number_in name entries) ≡ found_in name entries
  number-value name [] = refl
  number-value name (entry ∷ entries) = at (bytes_eq name (items entry.0)) (number-value name entries)
    where
      at : (test : Bool) → slice_get (values_of entries) (number_in name entries) ≡ found_in name entries
          → slice_get (entry.1 ∷ values_of entries) (if not test then 1 + number_in name entries else 0)
          ≡ (if test then Some entry.1 else found_in name entries)
      at true later = refl
      at false later = ap (slice_get (entry.1 ∷ values_of entries)) (next_number name entries) ∙ later

  -- a value that is put there is found by the name
  pub found-set : (value : V) (name : List ℕ) (entries : List (K × V)) → is_among name (names_in entries) ≡ true → (other : List ℕ)
      → found_in other (set_value_at entries (number_in name entries) value) ≡ (if bytes_eq other name then Some value else found_in other entries)
  found-set value name [] among other = absurd (let h : false ≡ true = among in cc)
  found-set value name (entry ∷ entries) among other =
      at (bytes_eq name (items entry.0)) refl among (λ found. found-set value name entries found other)
    where
      here : (test : Bool) → (if test then Some value else found_in other entries)
          ≡ (if test then Some value else (if test then Some entry.1 else found_in other entries))
      here true = refl
      here false = refl

      there : (test named : Bool) → bytes_eq other (items entry.0) ≡ test → bytes_eq other name ≡ named → bytes_eq name (items entry.0) ≡ false
          → found_in other (set_value_at entries (number_in name entries) value) ≡ (if named then Some value else found_in other entries)
          → (if test then Some entry.1 else found_in other (set_value_at entries (number_in name entries) value))
          ≡ (if named then Some value else (if test then Some entry.1 else found_in other entries))
      there true true e f apart later =
          let same : name ≡ items entry.0 = sym ((bytes_eq-Decides other name).0 f) ∙ (bytes_eq-Decides other (items entry.0)).0 e in
          absurd (let h : true ≡ false = sym ((bytes_eq-Decides name (items entry.0)).1 same) ∙ apart in cc)
      there true false e f apart later = refl
      there false true e f apart later = later
      there false false e f apart later = later

      at : (test : Bool) → bytes_eq name (items entry.0) ≡ test → (test || is_among name (names_in entries)) ≡ true
          → (is_among name (names_in entries) ≡ true
          → found_in other (set_value_at entries (number_in name entries) value) ≡ (if bytes_eq other name then Some value else found_in other entries))
          → found_in other (set_value_at (entry ∷ entries) (if not test then 1 + number_in name entries else 0) value)
          ≡ (if bytes_eq other name then Some value else found_in other (entry ∷ entries))
      at true e found later =
          here (bytes_eq other (items entry.0))
          ∙ ap (λ text. if bytes_eq other text then Some value else found_in other (entry ∷ entries)) (sym ((bytes_eq-Decides name (items entry.0)).0 e))
      at false e found later =
          ap (λ i. found_in other (set_value_at (entry ∷ entries) i value)) (next_number name entries)
          ∙ there (bytes_eq other (items entry.0)) (bytes_eq other name) refl refl e (later found)

  -- and the names stay
  pub names-set : (value : V) (entries : List (K × V)) (place : ℕ) → names_in (set_value_at entries place value) ≡ names_in entries
  names-set value [] place = refl
  names-set value (entry ∷ entries) zero = refl
  names-set value (entry ∷ entries) (suc place) = ap (λ l. items entry.0 ∷ l) (names-set value entries place)

  -- a name that is appended stands where it would have
  pub number-inserted : (key : K) (value : V) (entries : List (K × V))
      → number_in (items key) (insert_entry (same_key items) entries key value) ≡ number_in (items key) entries
  number-inserted key value [] =
      ap (λ (test : Bool). if not test then 1 + 0 else 0) ((bytes_eq-Decides (items key) (items key)).1 refl)
  number-inserted key value (entry ∷ entries) = at (bytes_eq (items key) (items entry.0)) refl (number-inserted key value entries)
    where
      at : (test : Bool) → bytes_eq (items key) (items entry.0) ≡ test
          → number_in (items key) (insert_entry (same_key items) entries key value) ≡ number_in (items key) entries
          → number_in (items key) (if test then (entry.0, value) ∷ entries else entry ∷ insert_entry (same_key items) entries key value)
          ≡ (if not test then 1 + number_in (items key) entries else 0)
      at true e later = ap (λ (test : Bool). if not test then 1 + number_in (items key) entries else 0) e
      at false e later =
          ap (λ (test : Bool). if not test then 1 + number_in (items key) (insert_entry (same_key items) entries key value) else 0) e
          ∙ ap (λ n. 1 + n) later

-- a name that is not that of `<*>` is appended where it is new
pub add_conds-one : (cond : List ℕ) (seen : List (List ℕ)) → bytes_eq cond every ≡ false
    → add_conds (cond ∷ []) seen ≡ (if is_among cond seen then seen else seen ++ cond ∷ [])
add_conds-one cond seen other = ap (λ (test : Bool). if test || is_among cond seen then seen else seen ++ cond ∷ []) other

-- and then it is there
pub added_among : (cond : List ℕ) (seen : List (List ℕ)) → bytes_eq cond every ≡ false → is_among cond (add_conds (cond ∷ []) seen) ≡ true
added_among cond seen other = ap (is_among cond) (add_conds-one cond seen other) ∙ at (is_among cond seen) refl
  where
    at : (test : Bool) → is_among cond seen ≡ test → is_among cond (if test then seen else seen ++ cond ∷ []) ≡ true
    at true e = e
    at false e = is_among-append cond seen (cond ∷ []) ∙ ap (λ (b : Bool). b || is_among cond (cond ∷ [])) e ∙ is_among-here cond []

abbrev name_of : Vec ℕ Global → List ℕ
name_of key = key.items

module _ (before after : Conditions) (cond : List ℕ) (other_name : bytes_eq cond every ≡ false) (shared : after.shared ≡ before.shared) where
  kept_by : (conditions : Conditions) (name : List ℕ) (all : Bool) → bytes_eq name every ≡ all
      → kept_of conditions name
      ≡ (if all then condition_view conditions.shared else option_map_or condition_view (found_in name_of name conditions.named.entries) nothing_kept)
  kept_by conditions name all e =
      ap (λ (test : Bool). if test then condition_view conditions.shared else option_map_or condition_view (found_in name_of name conditions.named.entries) nothing_kept) e

  abbrev kept_in : Option KeptCondition → Standing × List ℕ
  kept_in found = option_map_or condition_view found nothing_kept

  -- a condition that is appended without rules changes nothing
  pub kept-new : (new : KeptCondition) → condition_view new ≡ nothing_kept → found_in name_of cond before.named.entries ≡ None → (name : List ℕ)
      → found_in name_of name after.named.entries ≡ (if bytes_eq name cond then Some new else found_in name_of name before.named.entries)
      → kept_of after name ≡ kept_of before name
  kept-new new nothing none name found = by (bytes_eq name every) (bytes_eq name cond) refl refl found
    where
      by : (all here : Bool) → bytes_eq name every ≡ all → bytes_eq name cond ≡ here
          → found_in name_of name after.named.entries ≡ (if here then Some new else found_in name_of name before.named.entries)
          → kept_of after name ≡ kept_of before name
      by true here e f is = kept_by after name true e ∙ ap condition_view shared ∙ sym (kept_by before name true e)
      by false true e f is =
          let absent = ap (λ l. found_in name_of l before.named.entries) ((bytes_eq-Decides name cond).0 f) ∙ none in
          kept_by after name false e ∙ ap kept_in is ∙ nothing ∙ sym (kept_by before name false e ∙ ap kept_in absent)
      by false false e f is = kept_by after name false e ∙ ap kept_in is ∙ sym (kept_by before name false e)

  -- a rule is taken up for a condition alone
  pub kept-taken : (place : ℕ) (rule : Standing) (held : KeptCondition) → condition_view held ≡ taken place rule (kept_of before cond) → (name : List ℕ)
      → found_in name_of name after.named.entries ≡ (if bytes_eq name cond then Some held else found_in name_of name before.named.entries)
      → kept_of after name ≡ (if bytes_eq name cond then taken place rule (kept_of before name) else kept_of before name)
  kept-taken place rule held takes name found = by (bytes_eq name every) (bytes_eq name cond) refl refl found
    where
      by : (all here : Bool) → bytes_eq name every ≡ all → bytes_eq name cond ≡ here
          → found_in name_of name after.named.entries ≡ (if here then Some held else found_in name_of name before.named.entries)
          → kept_of after name ≡ (if here then taken place rule (kept_of before name) else kept_of before name)
      by true true e f is =
          let same : name ≡ every = (bytes_eq-Decides name every).0 e in
          let here : name ≡ cond = (bytes_eq-Decides name cond).0 f in
          absurd (let h : true ≡ false = sym ((bytes_eq-Decides cond every).1 (sym here ∙ same)) ∙ other_name in cc)
      by true false e f is = kept_by after name true e ∙ ap condition_view shared ∙ sym (kept_by before name true e)
      by false true e f is =
          kept_by after name false e ∙ ap kept_in is ∙ takes ∙ ap (λ l. taken place rule (kept_of before l)) (sym ((bytes_eq-Decides name cond).0 f))
      by false false e f is = kept_by after name false e ∙ ap kept_in is ∙ sym (kept_by before name false e)

-- what is found by a name is what is kept of it
pub kept_found : (conditions : Conditions) (cond : List ℕ) (held : KeptCondition) → bytes_eq cond every ≡ false
    → found_in name_of cond conditions.named.entries ≡ Some held → kept_of conditions cond ≡ condition_view held
kept_found conditions cond held other found =
    ap (λ (test : Bool). if test then condition_view conditions.shared else option_map_or condition_view (found_in name_of cond conditions.named.entries) nothing_kept) other
    ∙ ap (λ o. option_map_or condition_view o nothing_kept) found
