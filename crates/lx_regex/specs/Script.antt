-- The script of a tree: all that a walk through it meets, in order. Its units, choices and tag events are read from it.
use Rattle.std.specs.Prelude.{ℕ, suc, ◌+◌, ◌-◌, ◌*◌, min, List, [], ◌∷◌, ◌++◌, map, Option, Some, None, Bool, true, false, ◌&&◌, ◌||◌, nat_lt, nat_le, nat_eq, if◌then◌else◌}
use Rattle.lx_base.specs.declared.settings.Enc.{Enc}
use Rattle.lx_base.specs.declared.settings.Enc.TheVariants.{Byte, Ucs2, Utf8, Utf16, Utf32}
use Rattle.lx_base.specs.Spelling.{spell}
use Rattle.lx_regex.specs.Term.{Term, empty, class, any_unit, cat, alt, repeat, tag, group, Terms, nil, cons, copies, parts}
use Rattle.lx_regex.specs.Tree.{Tree, blank, point, unit, row, chosen, iterations, event, inside, Row, row_end, beside, Choice, here, later, Iterations, stop, iteration}

-- a part begins or ends, a code unit is read, a tag is set or unset, or one of several ways is picked
pub data Symbol : Type 0 where
  begins : (part : ℕ) → Symbol
  ends : (part : ℕ) → Symbol
  reads : (number : ℕ) → Symbol
  sets : (number : ℕ) → Symbol
  unsets : (number : ℕ) → Symbol
  picks : (choice : ℕ) → Symbol

-- a tag put into an ascending list
abbrev pub put_tag : ℕ → List ℕ → List ℕ
put_tag number [] = number ∷ []
put_tag number (other ∷ others) = if nat_le number other then number ∷ other ∷ others else other ∷ put_tag number others

-- two ascending lists as one
abbrev pub merge_tags : List ℕ → List ℕ → List ℕ
merge_tags [] others = others
merge_tags (number ∷ numbers) others = put_tag number (merge_tags numbers others)

-- the tags and group ends of a term, ascending
abbrev mutual
  pub tags_in : Term → List ℕ
  tags_in empty = []
  tags_in (class ranges) = []
  tags_in any_unit = []
  tags_in (cat members) = tags_among members
  tags_in (alt members) = tags_among members
  tags_in (repeat body low high) = tags_in body
  tags_in (tag number) = number ∷ []
  tags_in (group opening closing body) = put_tag opening (put_tag closing (tags_in body))

  pub tags_among : Terms → List ℕ
  tags_among nil = []
  tags_among (cons member members) = merge_tags (tags_in member) (tags_among members)

-- the class has a code point of one UTF-16 unit
abbrev pub has_short : List (ℕ × ℕ) → Bool
has_short [] = false
has_short (range ∷ ranges) = nat_lt range.0 0x10000 || has_short ranges

-- the class has a code point of two UTF-16 units
abbrev pub has_long : List (ℕ × ℕ) → Bool
has_long [] = false
has_long (range ∷ ranges) = nat_le 0x10000 range.1 || has_long ranges

-- in UTF-16 a class with spellings of both lengths prefers two units, 0, to one unit, 1
abbrev pub leaf_choice : Enc → (ranges : List (ℕ × ℕ)) → (number : ℕ) → List Symbol
leaf_choice Utf16 ranges number =
    if has_short ranges && has_long ranges then picks (if nat_lt number 0x10000 then 1 else 0) ∷ [] else []
leaf_choice Byte ranges number = []
leaf_choice Ucs2 ranges number = []
leaf_choice Utf8 ranges number = []
leaf_choice Utf32 ranges number = []

-- one more iteration is within the bound
abbrev pub may_iterate : (done : ℕ) → (high : Option ℕ) → Bool
may_iterate done None = true
may_iterate done (Some high) = nat_lt done high

-- iterating is a choice, 0, where the repetition may also stop
abbrev pub iterate_choice : (low done : ℕ) → List Symbol
iterate_choice low done = if nat_le low done then picks 0 ∷ [] else []

-- stopping is a choice, 1, where the repetition may also iterate
abbrev pub stop_choice : (done : ℕ) → (high : Option ℕ) → List Symbol
stop_choice done high = if may_iterate done high then picks 1 ∷ [] else []

-- the place of the member that was chosen, from 0
abbrev pub chosen_place : {members : Terms} → Choice members → ℕ
chosen_place (here tree) = 0
chosen_place (later choice) = suc (chosen_place choice)

-- the tags and group ends of the members that were not chosen, ascending
abbrev pub tags_beside : {members : Terms} → Choice members → List ℕ
tags_beside (here {member} {members} tree) = tags_among members
tags_beside (later {member} {members} choice) = merge_tags (tags_in member) (tags_beside choice)

-- The part of an iteration's body: the copy of that number, or beyond the last copy the last one.
abbrev pub copy_part : (part : ℕ) → (body : Term) → (low : ℕ) → (high : Option ℕ) → (done : ℕ) → ℕ
copy_part part body low high done = part + 1 + min done (copies low high - 1) * parts body

module _ (enc : Enc) where
  -- The script of a tree whose term is this part. The parts inside have the numbers after it, in preorder.
  abbrev mutual
    pub script : {e : Term} → (part : ℕ) → Tree e → List Symbol
    script part blank = begins part ∷ ends part ∷ []
    script part (point {ranges} number within) =
        begins part ∷ (leaf_choice enc ranges number ++ (map reads (spell enc number) ++ ends part ∷ []))
    script part (unit number) = begins part ∷ reads number ∷ ends part ∷ []
    script part (row trees) = begins part ∷ (row_script (part + 1) trees ++ ends part ∷ [])
    script part (chosen choice) =
        begins part ∷ picks (chosen_place choice)
        ∷ (map unsets (tags_beside choice) ++ (choice_script (part + 1) choice ++ ends part ∷ []))
    script part (iterations {body} {low} {high} count trees least most) =
        begins part ∷ (iterations_script part low high 0 trees ++ ends part ∷ [])
    script part (event {number}) = begins part ∷ sets number ∷ ends part ∷ []
    script part (inside {opening} {closing} tree) =
        begins part ∷ sets opening ∷ (script (part + 1) tree ++ sets closing ∷ ends part ∷ [])

    pub row_script : {members : Terms} → (part : ℕ) → Row members → List Symbol
    row_script part row_end = []
    row_script part (beside {member} {members} tree trees) = script part tree ++ row_script (part + parts member) trees

    pub choice_script : {members : Terms} → (part : ℕ) → Choice members → List Symbol
    choice_script part (here tree) = script part tree
    choice_script part (later {member} {members} choice) = choice_script (part + parts member) choice

    -- the iterations that are left when so many are done; a repetition without iteration unsets the tags of its body
    pub iterations_script :
        {body : Term} {count : ℕ} → (part low : ℕ) → (high : Option ℕ) → (done : ℕ) → Iterations body count → List Symbol
    iterations_script part low high done (stop {body}) =
        stop_choice done high ++ (if nat_eq done 0 then map unsets (tags_in body) else [])
    iterations_script part low high done (iteration {body} {count} tree trees) =
        iterate_choice low done
        ++ (script (copy_part part body low high done) tree ++ iterations_script part low high (suc done) trees)

-- the code units of a script
abbrev pub units : List Symbol → List ℕ
units [] = []
units (reads number ∷ rest) = number ∷ units rest
units (begins part ∷ rest) = units rest
units (ends part ∷ rest) = units rest
units (sets number ∷ rest) = units rest
units (unsets number ∷ rest) = units rest
units (picks choice ∷ rest) = units rest

-- the choices of a script
abbrev pub choices : List Symbol → List ℕ
choices [] = []
choices (picks choice ∷ rest) = choice ∷ choices rest
choices (reads number ∷ rest) = choices rest
choices (begins part ∷ rest) = choices rest
choices (ends part ∷ rest) = choices rest
choices (sets number ∷ rest) = choices rest
choices (unsets number ∷ rest) = choices rest
