-- Copies of conditions, entry by entry.
use Rattle.std.proofs.Common.{◌≡◌, ℕ, zero, suc, ◌≤◌, arith, Bool, true, false, List, [], ◌∷◌, length, map, take, Some, refl, sym, ap, ap₂, ◌∙◌, Vec, Global}
use Rattle.std.proofs.lemmas.List.{length-map, take_all}
use Rattle.std.specs.Prelude.{slice_get, if◌then◌else◌}
use Rattle.std.specs.List.{AllByRecursion, IsDistinct}
use Rattle.std.specs.Map.{keys_of, lookup}
use Rattle.std.specs.Option.{option_map_or}
use Rattle.std.specs.Str.{bytes_eq}
use Rattle.std.proofs.lemmas.Slice.Eq.{bytes_eq-Decides}
use Rattle.std.proofs.lemmas.Map.Keys.{IsDistinct-head, IsDistinct-tail}
use Rattle.indexmap.specs.IndexMap.{insert_entry}
use Rattle.lx_rules.specs.declared.conditions.KeptCondition.{KeptCondition}
use Rattle.lx_rules.specs.declared.conditions.Standing.{Standing}
use Rattle.lx_rules.specs.Conditions.{condition_view}
use Rattle.lx_rules.proofs.CondSets.ConditionEntries.{found_in, names_in, same_key}

other_way : (one other : List ℕ) → bytes_eq other one ≡ false → bytes_eq one other ≡ false
other_way one other apart = at (bytes_eq one other) refl
  where
    at : (b : Bool) → bytes_eq one other ≡ b → b ≡ false
    at false e = refl
    at true e =
        absurd (let h : false ≡ true = sym apart ∙ (bytes_eq-Decides other one).1 (sym ((bytes_eq-Decides one other).0 e)) in cc)

module _ {K V W : Type 0} (items : K → List ℕ) (view : V → W) where
  -- the names of entries, each with what is seen of its value
  abbrev pub seen_in : List (K × V) → List (List ℕ × W)
  seen_in entries = map (λ entry. (items entry.0, view entry.1)) entries

  -- an entry more, as it is seen
  pub seen-insert : (key : K) (value : V) (entries : List (K × V))
      → seen_in (insert_entry (same_key items) entries key value) ≡ insert_entry bytes_eq (seen_in entries) (items key) (view value)
  seen-insert key value [] = refl
  seen-insert key value (entry ∷ entries) = at (bytes_eq (items key) (items entry.0)) (seen-insert key value entries)
    where
      at : (test : Bool) → seen_in (insert_entry (same_key items) entries key value) ≡ insert_entry bytes_eq (seen_in entries) (items key) (view value)
          → seen_in (if test then (entry.0, value) ∷ entries else entry ∷ insert_entry (same_key items) entries key value)
          ≡ (if test then (items entry.0, view value) ∷ seen_in entries else (items entry.0, view entry.1) ∷ insert_entry bytes_eq (seen_in entries) (items key) (view value))
      at true later = refl
      at false later = ap (λ l. (items entry.0, view entry.1) ∷ l) later

  -- the names and the values that are found are those that are seen
  pub names-seen : (entries : List (K × V)) → names_in items entries ≡ map (λ (entry : List ℕ × W). entry.0) (seen_in entries)
  names-seen [] = refl
  names-seen (entry ∷ entries) = ap (λ l. items entry.0 ∷ l) (names-seen entries)

  pub found-seen : (name : List ℕ) (nothing : W) (entries : List (K × V))
      → option_map_or view (found_in items name entries) nothing ≡ option_map_or (λ seen. seen) (lookup (bytes_eq name) (seen_in entries)) nothing
  found-seen name nothing [] = refl
  found-seen name nothing (entry ∷ entries) = at (bytes_eq name (items entry.0)) (found-seen name nothing entries)
    where
      at : (test : Bool)
          → option_map_or view (found_in items name entries) nothing ≡ option_map_or (λ seen. seen) (lookup (bytes_eq name) (seen_in entries)) nothing
          → option_map_or view (if test then Some entry.1 else found_in items name entries) nothing
          ≡ option_map_or (λ seen. seen) (if test then Some (view entry.1) else lookup (bytes_eq name) (seen_in entries)) nothing
      at true later = refl
      at false later = later

  -- a name that stands behind another one is another
  later-other : (key : K) (entries : List (K × V)) (place : ℕ) (entry : K × V) → AllByRecursion (λ other. same_key items key other ≡ false) (keys_of entries)
      → slice_get entries place ≡ Some entry → bytes_eq (items entry.0) (items key) ≡ false
  later-other key [] place entry others is = absurd (let h = is in cc)
  later-other key (first ∷ entries) zero entry others is =
      let same : first ≡ entry = cc (is) in
      other_way (items entry.0) (items key) (ap (λ (e : K × V). bytes_eq (items key) (items e.0)) (sym same) ∙ others.0)
  later-other key (first ∷ entries) (suc place) entry others is = later-other key entries place entry others.1 is

  -- the entry at a place goes behind those before it
  pub insert-taken : (entries : List (K × V)) (place : ℕ) (entry : K × V) → IsDistinct (same_key items) (keys_of entries)
      → slice_get entries place ≡ Some entry
      → insert_entry bytes_eq (take place (seen_in entries)) (items entry.0) (view entry.1) ≡ take (suc place) (seen_in entries)
  insert-taken [] place entry distinct is = absurd (let h = is in cc)
  insert-taken (first ∷ entries) zero entry distinct is =
      let same : first ≡ entry = cc (is) in ap (λ (e : K × V). (items e.0, view e.1) ∷ []) (sym same)
  insert-taken (first ∷ entries) (suc place) entry distinct is =
      let other = later-other first.0 entries place entry (IsDistinct-head (same_key items) first.0 (keys_of entries) distinct) is in
      ap (λ (b : Bool). if b then (items first.0, view entry.1) ∷ take place (seen_in entries) else (items first.0, view first.1) ∷ insert_entry bytes_eq (take place (seen_in entries)) (items entry.0) (view entry.1)) other
      ∙ ap (λ l. (items first.0, view first.1) ∷ l) (insert-taken entries place entry (IsDistinct-tail (same_key items) first.0 (keys_of entries) distinct) is)

-- the names of conditions, each with what is kept of it
abbrev pub seen_entries : List (Vec ℕ Global × KeptCondition) → List (List ℕ × (Standing × List ℕ))
seen_entries entries = seen_in (λ (key : Vec ℕ Global). key.items) condition_view entries

module _ (entries named after : List (Vec ℕ Global × KeptCondition)) (number : ℕ) (so_far : seen_entries named ≡ take number (seen_entries entries)) where
  -- a copy of the entry at a place is put behind those of the entries before it
  pub seen-copied : (entry : Vec ℕ Global × KeptCondition) (key : Vec ℕ Global) (copy : KeptCondition)
      → IsDistinct (same_key (λ (key : Vec ℕ Global). key.items)) (keys_of entries) → slice_get entries number ≡ Some entry → key.items ≡ entry.0.items
      → condition_view copy ≡ condition_view entry.1 → after ≡ insert_entry (same_key (λ (key : Vec ℕ Global). key.items)) named key copy
      → seen_entries after ≡ take (suc number) (seen_entries entries)
  seen-copied entry key copy distinct found named_so copied is =
      ap seen_entries is ∙ seen-insert (λ (k : Vec ℕ Global). k.items) condition_view key copy named
      ∙ ap₂ (λ (l : List (List ℕ × (Standing × List ℕ))) (n : List ℕ). insert_entry bytes_eq l n (condition_view copy)) so_far named_so
      ∙ ap (insert_entry bytes_eq (take number (seen_entries entries)) entry.0.items) copied
      ∙ insert-taken (λ (k : Vec ℕ Global). k.items) condition_view entries number entry distinct found

  -- behind the last place all are copied
  pub seen-all : length entries ≤ number → seen_entries named ≡ seen_entries entries
  seen-all past =
      let count = length-map {B = List ℕ × (Standing × List ℕ)} entries (λ (entry : Vec ℕ Global × KeptCondition). (entry.0.items, condition_view entry.1)) in
      so_far ∙ take_all number (seen_entries entries) (omega (arith, count, past))
