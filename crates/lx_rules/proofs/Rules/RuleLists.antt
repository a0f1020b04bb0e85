-- The rules of conditions, and how far they go.
use Rattle.std.proofs.Common.{◌≡◌, ℕ, ◌+◌, ◌-◌, ◌≤◌, Bool, true, false, List, [], ◌∷◌, ◌++◌, max, refl, sym, ap, ap₂, ◌∙◌, arith}
use Rattle.std.specs.Prelude.{not, if◌then◌else◌}
use Rattle.std.proofs.lemmas.List.Elements.{filter-append}
use Rattle.lx_exprs.specs.Checks.{is_among}
use Rattle.lx_exprs.specs.Defined.{fits, whole_room}
use Rattle.lx_exprs.specs.declared.values.Room.{Room}
use Rattle.lx_regex.specs.declared.rules.Kind.TheVariants as kind
use Rattle.lx_rules.specs.declared.conditions.Running.{Running}
use Rattle.lx_rules.specs.Blocks.{nesting_of, not_of_kind, rules_under, size_of, tags_of}
use Rattle.lx_rules.specs.Conditions.{nothing_runs, room_behind, running_with}
use Rattle.lx_regex.specs.Pattern.{is_end}
use Rattle.lx_rules.specs.Items.{is_default}
use Rattle.lx_rules.specs.Kept.{IsRunning, is_within, plain_of, plain_under}
use Rattle.lx_rules.specs.Rules.{RuleOf}

-- rules go as far as those in front and those behind
pub size_of-both : (front back : List RuleOf) → size_of (front ++ back) ≡ size_of front + size_of back
size_of-both [] back = omega arith
size_of-both (rule ∷ front) back = let later = size_of-both front back in omega (arith, later)

pub nesting_of-both : (front back : List RuleOf) → nesting_of (front ++ back) ≡ max (nesting_of front) (nesting_of back)
nesting_of-both [] back = omega arith
nesting_of-both (rule ∷ front) back = let later = nesting_of-both front back in omega (arith, later)

pub tags_of-both : (front back : List RuleOf) → tags_of (front ++ back) ≡ tags_of front + tags_of back
tags_of-both [] back = omega arith
tags_of-both (rule ∷ front) back = let later = tags_of-both front back in omega (arith, later)

plain_of-append : (front back : List RuleOf) → plain_of (front ++ back) ≡ plain_of front ++ plain_of back
plain_of-append front back =
    ap (not_of_kind is_end) (filter-append (λ (rule : RuleOf). not (is_default rule.kind)) front back)
    ∙ filter-append (λ (rule : RuleOf). not (is_end rule.kind)) (not_of_kind is_default front) (not_of_kind is_default back)

pub plain_under-append : (cond : List ℕ) (front back : List RuleOf) → plain_under cond (front ++ back) ≡ plain_under cond front ++ plain_under cond back
plain_under-append cond front back =
    ap plain_of (filter-append (λ (rule : RuleOf). is_among cond rule.conds) front back)
    ∙ plain_of-append (rules_under cond front) (rules_under cond back)

-- of one rule
module _ (cond : List ℕ) (rule : RuleOf) where
  pub plain_under-star : rule.kind ≡ kind.Default → plain_under cond (rule ∷ []) ≡ []
  plain_under-star star = at (is_among cond rule.conds)
    where
      at : (test : Bool) → plain_of (if test then rule ∷ [] else []) ≡ []
      at true = rw (star) refl
      at false = refl

  pub plain_under-end : rule.kind ≡ kind.Eof → plain_under cond (rule ∷ []) ≡ []
  plain_under-end end = at (is_among cond rule.conds)
    where
      at : (test : Bool) → plain_of (if test then rule ∷ [] else []) ≡ []
      at true = rw (end) refl
      at false = refl

  pub plain_under-one : rule.kind ≡ kind.Plain → is_among cond rule.conds ≡ true → plain_under cond (rule ∷ []) ≡ rule ∷ []
  plain_under-one plain is = rw (is, plain) refl

  pub plain_under-none : is_among cond rule.conds ≡ false → plain_under cond (rule ∷ []) ≡ []
  plain_under-none is = rw (is) refl

-- nothing goes nowhere
pub IsRunning-nothing : IsRunning [] nothing_runs
IsRunning-nothing = record { size = refl; nesting = refl; tags = refl }

-- rules go with others
pub IsRunning-both : (front back : List RuleOf) (running more : Running) → IsRunning front running → IsRunning back more
    → IsRunning (front ++ back) (running_with running more)
IsRunning-both front back running more one two = record {
  size = let all = size_of-both front back in let a = one.size in let b = two.size in omega (arith, all, a, b);
  nesting = let all = nesting_of-both front back in let a = one.nesting in let b = two.nesting in omega (arith, all, a, b);
  tags = let all = tags_of-both front back in let a = one.tags in let b = two.tags in omega (arith, all, a, b);
}

-- what is within a room, number by number
pub within_room : (room : Room) (size nesting count : ℕ) → fits room size nesting count ≡ true → (size ≤ room.size) × (nesting ≤ 256) × (count ≤ room.tags)
within_room room size nesting count e = search arith

pub fits_so : (room : Room) (size nesting count : ℕ) → size ≤ room.size → nesting ≤ 256 → count ≤ room.tags → fits room size nesting count ≡ true
fits_so room size nesting count a b c = search (arith, a, b, c)

-- behind rules within the limits there is what they leave
room_left : (running : Running) → running.nesting ≤ 256 → running.tags ≤ 128 → (room_behind running).size ≡ 4096 - running.size
room_left running a b = search (arith, a, b)

-- what fits with more fits without it
fits_front : (size more nesting other count own : ℕ) → fits whole_room (size + more) (max nesting other) (count + own) ≡ true
    → fits whole_room size nesting count ≡ true
fits_front size more nesting other count own e =
    let all = within_room whole_room (size + more) (max nesting other) (count + own) e in
    let a = all.0 in let b = all.1 in let c = all.2 in
    fits_so whole_room size nesting count (omega (arith, a)) (omega (arith, b)) (omega (arith, c))

-- the rules of a condition are within the limits where more are
pub is_within-front : (cond : List ℕ) (front back : List RuleOf) → is_within (front ++ back) cond ≡ true → is_within front cond ≡ true
is_within-front cond front back fit =
    let all = plain_under-append cond front back in
    let one = plain_under cond front in let two = plain_under cond back in
    let sizes = ap size_of all ∙ size_of-both one two in
    let depths = ap nesting_of all ∙ nesting_of-both one two in
    let counts = ap tags_of all ∙ tags_of-both one two in
    fits_front (size_of one) (size_of two) (nesting_of one) (nesting_of two) (tags_of one) (tags_of two)
    (ap₂ (λ s n. fits whole_room s n (tags_of one + tags_of two)) (sym sizes) (sym depths)
    ∙ ap (fits whole_room (size_of (plain_under cond (front ++ back))) (nesting_of (plain_under cond (front ++ back)))) (sym counts) ∙ fit)

-- a rule behind others within the limits has room
pub is_within-room :
    (cond : List ℕ) (rules : List RuleOf) (rule : RuleOf) (running : Running) → rule.kind ≡ kind.Plain → is_among cond rule.conds ≡ true
    → IsRunning (plain_under cond rules) running → is_within (rules ++ rule ∷ []) cond ≡ true
    → fits (room_behind running) rule.meaning.size rule.meaning.nesting rule.meaning.count ≡ true
is_within-room cond rules rule running plain is runs fit =
    let one = plain_under cond rules in
    let all = plain_under-append cond rules (rule ∷ []) ∙ ap (λ l. one ++ l) (plain_under-one cond rule plain is) in
    let sizes = ap size_of all ∙ size_of-both one (rule ∷ []) in
    let depths = ap nesting_of all ∙ nesting_of-both one (rule ∷ []) in
    let counts = ap tags_of all ∙ tags_of-both one (rule ∷ []) in
    let whole = plain_under cond (rules ++ rule ∷ []) in
    let most = within_room whole_room (size_of whole) (nesting_of whole) (tags_of whole) fit in
    let a = most.0 in let b = most.1 in let c = most.2 in
    let s = runs.size in let n = runs.nesting in let t = runs.tags in
    let left = room_left running (omega (arith, b, depths, n)) (omega (arith, c, counts, t)) in
    fits_so (room_behind running) rule.meaning.size rule.meaning.nesting rule.meaning.count (omega (arith, a, sizes, s, left)) (omega (arith, b, depths))
    (omega (arith, c, counts, t))

-- what fits in a room fits in a greater one
pub fits_wider : (room greater : Room) (size nesting count : ℕ) → room.size ≤ greater.size → room.tags ≤ greater.tags → fits room size nesting count ≡ true
    → fits greater size nesting count ≡ true
fits_wider room greater size nesting count more tags e =
    let all = within_room room size nesting count e in
    let a = all.0 in let b = all.1 in let c = all.2 in
    fits_so greater size nesting count (omega (arith, a, more)) b (omega (arith, c, tags))
