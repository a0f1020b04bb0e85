-- What is read of a rule with a trailing context stands for what that means.
use Rattle.std.proofs.Common.{◌≡◌, ℕ, suc, ◌+◌, ◌*◌, ◌≤◌, ◌⊎◌, inl, inr, Bool, true, false, [], ◌∷◌, ◌++◌, length, max, Option, None, Some, IfNone, IfSome, refl, sym, ap, ap₂, ◌∙◌, arith, length-append}
use Rattle.std.specs.Prelude.{if◌then◌else◌}
use Rattle.lx_regex.specs.Expr.{term_of}
use Rattle.lx_regex.specs.Term.{cat, cons, nil, tag}
use Rattle.lx_regex.specs.declared.expr.Expr.{Expr}
use Rattle.lx_exprs.specs.Defined.{Meaning, count_of, fits, is_built, kept, slash_tag, term_of_meaning}
use Rattle.lx_exprs.specs.Expressions.{IsReadAsBehind}
use Rattle.lx_exprs.specs.Values.{IsCounted, IsRoom, IsValue}
use Rattle.lx_exprs.specs.declared.expressions.Reading.{Reading}
use Rattle.lx_exprs.specs.declared.values.Room.{Room}
use Rattle.lx_exprs.specs.declared.values.Value.{Value}
use Rattle.lx_exprs.proofs.Contents.ValueLimits.{built_seen, grows}
use Rattle.lx_rules.specs.Items.{behind_slash, in_whole, trailing}
use Rattle.lx_rules.specs.Keeping.{IsRuleExpr}
use Rattle.lx_rules.specs.Kept.{IsExprKept}
use Rattle.lx_rules.proofs.Rules.RuleLists.{within_room}

-- how many groups a rule has whose expression has so many, the whole match among them
abbrev pub groups_in : (is_group : Bool) → (groups : ℕ) → ℕ
groups_in is_group groups = if is_group then kept (suc groups) else 0

groups_same : (is_group : Bool) (groups more : ℕ) → groups_in is_group (kept (groups + more)) ≡ groups_in is_group (groups + more)
groups_same true groups more = omega arith
groups_same false groups more = refl

groups_few : (is_group : Bool) (groups tags : ℕ) → groups_in is_group (kept groups) ≤ suc (kept (tags + 2 * kept (kept groups)))
groups_few true groups tags = omega arith
groups_few false groups tags = omega arith

module _ (is_group : Bool) (room : Room) (meaning later : Meaning) (first : Value) (number : ℕ) (second : Reading) (one : IsValue room meaning first)
    (count : meaning.count ≡ count_of (record { tags = meaning.tags; groups = meaning.groups })) (is_number : number ≡ kept (length meaning.tags))
    (two : IsReadAsBehind room (behind_slash meaning) later second) where
  abbrev both : Meaning
  both = (trailing is_group meaning later).means

  -- all tags are counted
  count_is : later.count ≡ (length meaning.tags + 1 + length later.tags) + 2 * kept (kept (meaning.groups + later.groups))
  count_is =
      let all = length-append (meaning.tags ++ slash_tag ∷ []) later.tags in
      let front = length-append meaning.tags (slash_tag ∷ []) in
      let same : length ((meaning.tags ++ slash_tag ∷ []) ++ later.tags) ≡ length meaning.tags + 1 + length later.tags = omega (arith, all, front) in
      two.count ∙ ap (λ n. n + 2 * kept (kept (meaning.groups + later.groups))) same

  front_less : meaning.count ≤ later.count
  front_less = let all = count_is in omega (arith, all, count)

  tags_is : second.value.tags ≡ kept later.count
  tags_is = two.value.counted.tags_is

  pub first_less : first.tags ≤ second.value.tags
  first_less = let own = one.counted.tags_is in let tags = tags_is in let less = front_less in omega (arith, own, tags, less)

  -- what stands around a part that is not built is not built
  parts_past : (is_built room meaning ≡ false) ⊎ (is_built room later ≡ false) → is_built room both ≡ false
  parts_past (inl past) = grows room meaning both (omega arith) (omega arith) front_less past
  parts_past (inr past) = grows room later both (omega arith) (omega arith) (omega arith) past

  module _ (size nesting groups : ℕ) (size_is : size ≡ kept (kept (first.size + 1) + second.value.size)) (nesting_is : nesting ≡ max first.nesting second.value.nesting)
      (groups_is : groups ≡ groups_in is_group (kept (first.groups + second.value.groups))) (within : IsRoom room) where
    groups_are : groups ≡ groups_in is_group (kept (meaning.groups + later.groups))
    groups_are =
        let a = one.counted.groups_is in let b = two.value.counted.groups_is in
        groups_is ∙ ap₂ (λ g more. groups_in is_group (kept (g + more))) a b

    counted : IsCounted both size nesting groups second.value.tags
    counted =
        let a = one.counted in let b = two.value.counted in
        let s = a.size_is in let s' = b.size_is in let n = a.nesting_is in let n' = b.nesting_is in record {
          size_is = omega (arith, size_is, s, s');
          nesting_is = omega (arith, nesting_is, n, n');
          groups_is = groups_are ∙ groups_same is_group meaning.groups later.groups;
          tags_is = tags_is;
        }

    abbrev it_fits : Bool
    it_fits = fits room size nesting second.value.tags

    built_is : it_fits ≡ is_built room both
    built_is = built_seen room both size nesting groups second.value.tags within counted

    -- below the limit the slash has its own number
    slash_same : it_fits ≡ true → number ≡ length meaning.tags
    slash_same fit =
        let most = within_room room size nesting second.value.tags fit in
        let few = most.2 in let limit = within.1 in let tags = tags_is in let all = count_is in omega (arith, is_number, few, limit, tags, all)

    expr_is : (found : Option Expr)
        → IfSome found (λ expr. term_of 0 expr ≡ cat (cons (in_whole is_group (term_of_meaning meaning)) (cons (tag number) (cons (term_of_meaning later) nil))))
        → IfSome found (λ expr. it_fits ≡ true)
        → IfNone found ((it_fits ≡ false) ⊎ ((is_built room meaning ≡ false) ⊎ (is_built room later ≡ false)))
        → IsExprKept (is_built room both) both found
    expr_is None term fit (inl past) = sym built_is ∙ past
    expr_is None term fit (inr past) = parts_past past
    expr_is (Some expr) term fit past =
        term
        ∙ ap (λ n. cat (cons (in_whole is_group (term_of_meaning meaning)) (cons (tag n) (cons (term_of_meaning later) nil)))) (slash_same fit)

    -- what is read stands for what the rule means
    pub read_is : (found : Option Expr)
        → IfSome found (λ expr. term_of 0 expr ≡ cat (cons (in_whole is_group (term_of_meaning meaning)) (cons (tag number) (cons (term_of_meaning later) nil))))
        → IfSome found (λ expr. it_fits ≡ true)
        → IfNone found ((it_fits ≡ false) ⊎ ((is_built room meaning ≡ false) ⊎ (is_built room later ≡ false)))
        → IsRuleExpr (is_built room both) both (Some (length meaning.tags))
        (record { size = size; nesting = nesting; tags = second.tags; groups = groups; count = second.value.tags; slash = Some number; expr = found })
    read_is found term fit past =
        let all = tags_is ∙ ap kept count_is in
        let few = groups_few is_group (meaning.groups + later.groups) (length meaning.tags + 1 + length later.tags) in
        let same = groups_are in record {
          size = counted.size_is;
          nesting = counted.nesting_is;
          tags = two.tags;
          groups = counted.groups_is;
          count = counted.tags_is;
          few = omega (arith, same, all, few);
          slash_is = ap Some is_number;
          counted = omega (arith, all, is_number);
          expr = expr_is found term fit past;
        }
