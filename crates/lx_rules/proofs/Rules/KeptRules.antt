-- One rule more is kept.
use Rattle.std.proofs.Common.{◌≡◌, ℕ, suc, ◌≤◌, Bool, true, false, List, [], ◌∷◌, ◌++◌, length, Option, None, Some, IfSome, refl, sym, ap, ◌∙◌, subst, arith, length-append, append-nil}
use Rattle.std.specs.Prelude.{◌||◌, if◌then◌else◌}
use Rattle.std.specs.List.{list_any}
use Rattle.std.specs.Option.{option_map, option_or}
use Rattle.std.proofs.lemmas.Slice.Zip.{all_zipped_more}
use Rattle.lx_regex.specs.declared.expr.Expr.{Expr}
use Rattle.lx_base.specs.declared.places.Pos.{Pos}
use Rattle.lx_regex.specs.declared.rules.Kind.{Kind}
use Rattle.lx_regex.specs.declared.rules.Kind.TheVariants as kind
use Rattle.lx_exprs.specs.Checks.{is_among}
use Rattle.lx_exprs.specs.Defined.{Meaning, fits, is_built, kept}
use Rattle.lx_exprs.specs.FitDefinitions.{FitsKept}
use Rattle.lx_exprs.specs.declared.values.Room.{Room}
use Rattle.lx_rules.specs.declared.conditions.Conditions.{Conditions}
use Rattle.lx_rules.specs.declared.conditions.Standing.{Standing}
use Rattle.lx_rules.specs.declared.heads.Head.{Head}
use Rattle.lx_rules.specs.declared.heads.Head.TheVariants as head
use Rattle.lx_rules.specs.declared.kept.KeptRule.{KeptRule}
use Rattle.lx_rules.specs.declared.rule_exprs.RuleExpr.{RuleExpr}
use Rattle.lx_rules.specs.Blocks.{add_conds}
use Rattle.lx_rules.specs.Conditions.{AreNumbers, cond_names, conds_seen, nothing_runs, places_of, room_behind, room_under, running_of, running_with, standing_of, standing_with}
use Rattle.lx_regex.specs.Pattern.{is_end}
use Rattle.lx_rules.specs.Items.{end_meaning, is_default}
use Rattle.lx_rules.specs.Keeping.{HasReadKinds, IsBoundedExpr, IsBoundedHead, IsExprOf, IsFitExpr, IsHeadKept, IsHeadOf, IsRuleExpr, standing_in}
use Rattle.lx_rules.specs.Kept.{AreKept, HasExprKinds, IsExprKept, IsKeptRule, IsRunning, is_within, may_stand, plain_under, places_from}
use Rattle.lx_rules.specs.Rules.{RuleOf}
use Rattle.lx_rules.proofs.CondSets.CondNames.{add_conds-front, conditions_of-snoc, is_among-here, is_among-there}
use Rattle.lx_rules.proofs.CondSets.CondNumbers.{AreNumbers-more, conds_seen-more}
use Rattle.lx_rules.proofs.Rules.FirstRules.{first_from-more}
use Rattle.lx_rules.proofs.Rules.RuleLists.{IsRunning-both, IsRunning-nothing, fits_wider, is_within-front, is_within-room, plain_under-append, plain_under-end, plain_under-none, plain_under-one, plain_under-star}
use Rattle.lx_rules.proofs.ZippedLists.{list_any-weaker, zip-so}

-- a rule of another kind than `$`
no_end : {A : Type 0} (rule : RuleOf) (k : Kind) → rule.kind ≡ k → is_end k ≡ false → is_end rule.kind ≡ true → A
no_end rule k is other end = absurd (let h : true ≡ false = sym end ∙ ap is_end is ∙ other in cc)

-- the first rule that a head brings
default_in : (room : Room) (sort : Kind) (meaning : Meaning) (slash : Option ℕ) (read : Head) (number : ℕ) (at : Pos) → IsHeadOf room sort meaning slash read
    → (standing_in read number at).first_default ≡ (if is_default sort then Some (record { number = number; at = at }) else None)
default_in room sort meaning slash (head.Default read) number at is =
    ap (λ (k : Kind). if is_default k then Some (record { number = number; at = at }) else None) (sym is.0)
default_in room sort meaning slash head.End number at is =
    ap (λ (k : Kind). if is_default k then Some (record { number = number; at = at }) else None) (sym is.0)
default_in room sort meaning slash (head.Plain read) number at is =
    ap (λ (k : Kind). if is_default k then Some (record { number = number; at = at }) else None) (sym is.0)

end_in : (room : Room) (sort : Kind) (meaning : Meaning) (slash : Option ℕ) (read : Head) (number : ℕ) (at : Pos) → IsHeadOf room sort meaning slash read
    → (standing_in read number at).first_end ≡ (if is_end sort then Some (record { number = number; at = at }) else None)
end_in room sort meaning slash (head.Default read) number at is =
    ap (λ (k : Kind). if is_end k then Some (record { number = number; at = at }) else None) (sym is.0)
end_in room sort meaning slash head.End number at is =
    ap (λ (k : Kind). if is_end k then Some (record { number = number; at = at }) else None) (sym is.0)
end_in room sort meaning slash (head.Plain read) number at is =
    ap (λ (k : Kind). if is_end k then Some (record { number = number; at = at }) else None) (sym is.0)

-- what may stand in no scanner may stand in none behind more rules
expr_more : (less more : Bool) (meaning : Meaning) (expr : Option Expr) → (less ≡ false → more ≡ false) → IsExprKept less meaning expr
    → IsExprKept more meaning expr
expr_more less more meaning None so is = so is
expr_more less more meaning (Some expr) so is = is

may_stand-more : (rules more : List RuleOf) (rule : RuleOf) → may_stand rules rule ≡ false → may_stand (rules ++ more) rule ≡ false
may_stand-more rules more rule none =
    list_any-weaker (is_within (rules ++ more)) (is_within rules) (λ cond fit. is_within-front cond rules more fit) rule.conds none

-- so a rule with this head stands under its conditions
abbrev stands_with : RuleOf → Head → Standing
stands_with rule read = standing_in read rule.act.number rule.at

-- what is kept of an expression fits, as what was read of it does
fits_of : (one : KeptRule) (read : RuleExpr) → IsExprOf read one → IsBoundedExpr read → FitsKept 0 one.expr one.size one.count
fits_of one read is bounded = let expr = is.expr in let size = is.size in let count = is.count in rw (expr, size, count) bounded

kinds_kept : (one : KeptRule) (read : RuleExpr) → IsExprOf read one → HasReadKinds read → HasExprKinds one.tags one.slash one.expr
kinds_kept one read is kinds = let tags = is.tags in let slash = is.slash in let expr = is.expr in rw (tags, slash, expr) kinds

counted_kept : (one : KeptRule) (read : RuleExpr) → IsExprOf read one → IfSome read.slash (λ number. number ≤ read.count)
    → IfSome one.slash (λ number. number ≤ one.count)
counted_kept one read is counts = let slash = is.slash in let count = is.count in rw (slash, count) counts

few_kept : (one : KeptRule) (read : RuleExpr) → IsExprOf read one → read.groups ≤ suc read.count → one.groups ≤ suc one.count
few_kept one read is few = let groups = is.groups in let count = is.count in omega (arith, groups, count, few)

-- what is kept of a head is what is wanted of its rule, which counts so far for its conditions
record IsOneKept (all : List RuleOf) (rule : RuleOf) (one : KeptRule) (read : Head) (number : ℕ) (at : Pos) : Type 0 where
  kind : one.kind ≡ rule.kind
  size : one.size ≡ kept rule.meaning.size
  nesting : one.nesting ≡ kept rule.meaning.nesting
  tags : one.tags ≡ rule.meaning.tags
  groups : one.groups ≡ rule.meaning.groups
  count : one.count ≡ kept rule.meaning.count
  few : one.groups ≤ suc one.count
  slash : one.slash ≡ option_map kept rule.slash
  counted : IfSome one.slash (λ number. number ≤ one.count)
  end : is_end rule.kind ≡ true → rule.meaning ≡ end_meaning
  expr : IsExprKept (may_stand all rule) rule.meaning one.expr
  fits : FitsKept 0 one.expr one.size one.count
  kinds : HasExprKinds one.tags one.slash one.expr
  counts : (cond : List ℕ) → is_among cond rule.conds ≡ true → IsRunning (plain_under cond (rule ∷ [])) (standing_in read number at).running

module _ (rules : List RuleOf) (rule : RuleOf) (held : List KeptRule) (before : Conditions) (is : AreKept rules held before) where
  abbrev all : List RuleOf
  all = rules ++ rule ∷ []

  -- what is kept stays kept
  rule_stays : (names more : List (List ℕ)) → names ≡ cond_names before ++ more → (one : KeptRule) (other : RuleOf)
      → IsKeptRule (cond_names before) rules one other → IsKeptRule names all one other
  rule_stays names more grows one other so =
      let longer = length-append rules (rule ∷ []) in
      let most = so.placed in
      let named = ap (λ (l : List (List ℕ)). length l) grows ∙ length-append (cond_names before) more in record {
        number = so.number;
        placed = (most.0, omega (arith, longer, most.1));
        conds = ap (λ l. conds_seen l one.conds) grows ∙ conds_seen-more (cond_names before) more one.conds so.listed ∙ so.conds;
        listed = AreNumbers-more (length (cond_names before)) (length names) one.conds (omega (arith, named)) so.listed;
        kind = so.kind;
        at = so.at;
        target = so.target;
        size = so.size;
        nesting = so.nesting;
        tags = so.tags;
        groups = so.groups;
        count = so.count;
        few = so.few;
        slash = so.slash;
        counted = so.counted;
        end = so.end;
        expr = expr_more (may_stand rules other) (may_stand all other) other.meaning one.expr (may_stand-more rules (rule ∷ []) other) so.expr;
        fits = so.fits;
        kinds = so.kinds;
      }

  -- a rule that has room in none of its conditions may stand in no scanner
  module _ (room : Room) (plain : rule.kind ≡ kind.Plain) (past : fits room rule.meaning.size rule.meaning.nesting rule.meaning.count ≡ false) where
    none_stands : (part : List (List ℕ)) → ((cond : List ℕ) → is_among cond part ≡ true → is_among cond rule.conds ≡ true)
        → (room_under before part).size ≤ room.size → (room_under before part).tags ≤ room.tags → list_any (is_within all) part ≡ false
    none_stands [] among size tags = refl
    none_stands (cond ∷ part) among size tags =
        at (is_within all cond) refl
        (none_stands part (λ other found. among other (is_among-there other cond part found)) (omega (arith, size)) (omega (arith, tags)))
      where
        at : (test : Bool) → is_within all cond ≡ test → list_any (is_within all) part ≡ false → (test || list_any (is_within all) part) ≡ false
        at false e later = later
        at true e later =
            let fit = is_within-room cond rules rule (running_of before cond) plain (among cond (is_among-here cond part)) (is.running cond) e in
            let wide = fits_wider (room_behind (running_of before cond)) room rule.meaning.size rule.meaning.nesting rule.meaning.count
            (omega (arith, size)) (omega (arith, tags)) fit in
            absurd (let h : false ≡ true = sym past ∙ wide in cc)

  plain_expr : rule.kind ≡ kind.Plain → (expr : Option Expr)
      → IsExprKept (is_built (room_under before rule.conds) rule.meaning) rule.meaning expr → IsExprKept (may_stand all rule) rule.meaning expr
  plain_expr plain (Some expr) means = means
  plain_expr plain None past =
      none_stands (room_under before rule.conds) plain past rule.conds (λ cond found. found) (omega arith) (omega arith)

  -- the expression of `*` always stands, and what stands in the place of that of `$`
  always_expr : (expr : Option Expr) → IsExprKept true rule.meaning expr → IsExprKept (may_stand all rule) rule.meaning expr
  always_expr (Some expr) means = means
  always_expr None past = absurd (let h : true ≡ false = past in cc)

  -- the new rule is kept
  expr_kept :
      (one : KeptRule) (given : Head) (number : ℕ) (at : Pos) (stands : Bool) (read : RuleExpr) → one.kind ≡ rule.kind
      → IsRuleExpr stands rule.meaning rule.slash read → IsExprOf read one → IsFitExpr read → (is_end rule.kind ≡ true → rule.meaning ≡ end_meaning)
      → ((expr : Option Expr) → IsExprKept stands rule.meaning expr → IsExprKept (may_stand all rule) rule.meaning expr)
      → ((cond : List ℕ) → is_among cond rule.conds ≡ true → IsRunning (plain_under cond (rule ∷ [])) (standing_in given number at).running)
      → IsOneKept all rule one given number at
  expr_kept one given number at stands read kind_is means same bounded end expr counts = record {
    kind = kind_is;
    size = same.size ∙ means.size;
    nesting = same.nesting ∙ means.nesting;
    tags = same.tags ∙ means.tags;
    groups = same.groups ∙ means.groups;
    count = same.count ∙ means.count;
    few = few_kept one read same means.few;
    slash = same.slash ∙ means.slash_is;
    counted = counted_kept one read same means.counted;
    end = end;
    expr = expr one.expr (subst (IsExprKept stands rule.meaning) (sym same.expr) means.expr);
    fits = fits_of one read same bounded.0;
    kinds = kinds_kept one read same bounded.1;
    counts = counts;
  }

  one_kept : (one : KeptRule) (read : Head) (number : ℕ) (at : Pos) → IsHeadOf (room_under before rule.conds) rule.kind rule.meaning rule.slash read
      → IsHeadKept read one → IsBoundedHead read → IsOneKept all rule one read number at
  one_kept one (head.Default read) number at head_of headed bounded =
      expr_kept one (head.Default read) number at true read (headed.0 ∙ sym head_of.0) head_of.1 headed.1 bounded (no_end rule kind.Default head_of.0 refl) always_expr
      (λ cond found. subst (λ l. IsRunning l nothing_runs) (sym (plain_under-star cond rule head_of.0)) IsRunning-nothing)
  one_kept one head.End number at head_of headed bounded =
      let read = headed.1.0 in
      let means =
      subst (λ (s : Option ℕ). IsRuleExpr true rule.meaning s read) (sym head_of.2)
      (subst (λ (m : Meaning). IsRuleExpr true m None read) (sym head_of.1) headed.1.1) in
      expr_kept one head.End number at true read (headed.0 ∙ sym head_of.0) means headed.1.3 headed.1.2 (λ end. head_of.1) always_expr
      (λ cond found. subst (λ l. IsRunning l nothing_runs) (sym (plain_under-end cond rule head_of.0)) IsRunning-nothing)
  one_kept one (head.Plain read) number at head_of headed bounded =
      expr_kept one (head.Plain read) number at (is_built (room_under before rule.conds) rule.meaning) read (headed.0 ∙ sym head_of.0) head_of.1 headed.1 bounded
      (no_end rule kind.Plain head_of.0 refl) (plain_expr head_of.0)
      (λ cond found.
      let size = head_of.1.size in let nesting = head_of.1.nesting in let count = head_of.1.count in
      subst (λ l. IsRunning l (standing_in (head.Plain read) number at).running) (sym (plain_under-one cond rule head_of.0 found))
      (record { size = omega (arith, size); nesting = omega (arith, nesting); tags = omega (arith, count) }))

  -- the rules behind it are kept
  pub rules_kept :
      (one : KeptRule) (after : Conditions) (read : Head) → cond_names after ≡ add_conds rule.conds (cond_names before)
      → conds_seen (cond_names after) one.conds ≡ rule.conds → AreNumbers (length (cond_names after)) one.conds
      → ((cond : List ℕ) → standing_of after cond
      ≡ (if is_among cond rule.conds then standing_with (standing_of before cond) (standing_in read rule.act.number rule.at) else standing_of before cond))
      → ((cond : List ℕ) → places_of after cond ≡ places_from 0 all cond)
      → one.number ≡ rule.act.number → rule.act.number ≡ suc (length rules) → one.at ≡ rule.at → one.target ≡ rule.target
      → IsHeadOf (room_under before rule.conds) rule.kind rule.meaning rule.slash read → IsHeadKept read one → IsBoundedHead read
      → AreKept all (held ++ one ∷ []) after
  rules_kept one after read names seen listed counts places number place at_is target head_of headed bounded = record {
    names = names ∙ ap (add_conds rule.conds) is.names ∙ sym (conditions_of-snoc rules rule);
    each =
        all_zipped_more (IsKeptRule (cond_names after) all) held rules one rule
        (zip-so (IsKeptRule (cond_names before) rules) (IsKeptRule (cond_names after) all)
        (rule_stays (cond_names after) grows.0 (names ∙ grows.1)) held rules is.each) fresh;
    running = λ cond. runs cond (is_among cond rule.conds) refl;
    defaults = λ cond.
        first_from-more is_default rules rule cond (standing_of before cond).first_default (standing_of after cond).first_default (stands_with rule read).first_default
        (is.defaults cond)
        (default_in (room_under before rule.conds) rule.kind rule.meaning rule.slash read rule.act.number rule.at head_of
        ∙ ap (λ (n : ℕ). if is_default rule.kind then Some (record { number = n; at = rule.at }) else None) place)
        (defaults_after cond);
    ends = λ cond.
        first_from-more is_end rules rule cond (standing_of before cond).first_end (standing_of after cond).first_end (stands_with rule read).first_end (is.ends cond)
        (end_in (room_under before rule.conds) rule.kind rule.meaning rule.slash read rule.act.number rule.at head_of
        ∙ ap (λ (n : ℕ). if is_end rule.kind then Some (record { number = n; at = rule.at }) else None) place)
        (ends_after cond);
    places = places;
  }
    where
      grows : (more : List (List ℕ)) × (add_conds rule.conds (cond_names before) ≡ cond_names before ++ more)
      grows = add_conds-front rule.conds (cond_names before)

      stands : (cond : List ℕ) (test : Bool) → is_among cond rule.conds ≡ test
          → standing_of after cond ≡ (if test then standing_with (standing_of before cond) (stands_with rule read) else standing_of before cond)
      stands cond test found = counts cond ∙ ap (λ b. if b then standing_with (standing_of before cond) (stands_with rule read) else standing_of before cond) found

      defaults_after : (cond : List ℕ) (test : Bool) → is_among cond rule.conds ≡ test
          → (standing_of after cond).first_default
          ≡ (if test then option_or (standing_of before cond).first_default (stands_with rule read).first_default else (standing_of before cond).first_default)
      defaults_after cond true found = ap (λ (s : Standing). s.first_default) (stands cond true found)
      defaults_after cond false found = ap (λ (s : Standing). s.first_default) (stands cond false found)

      ends_after : (cond : List ℕ) (test : Bool) → is_among cond rule.conds ≡ test
          → (standing_of after cond).first_end
          ≡ (if test then option_or (standing_of before cond).first_end (stands_with rule read).first_end else (standing_of before cond).first_end)
      ends_after cond true found = ap (λ (s : Standing). s.first_end) (stands cond true found)
      ends_after cond false found = ap (λ (s : Standing). s.first_end) (stands cond false found)

      new : IsOneKept all rule one read rule.act.number rule.at
      new = one_kept one read rule.act.number rule.at head_of headed bounded

      fresh : IsKeptRule (cond_names after) all one rule
      fresh =
          let longer = length-append rules (rule ∷ []) in record {
            number = number;
            placed = (omega (arith, number, place), omega (arith, number, place, longer));
            conds = seen;
            listed = listed;
            kind = new.kind;
            at = at_is;
            target = target;
            size = new.size;
            nesting = new.nesting;
            tags = new.tags;
            groups = new.groups;
            count = new.count;
            few = new.few;
            slash = new.slash;
            counted = new.counted;
            end = new.end;
            expr = new.expr;
            fits = new.fits;
            kinds = new.kinds;
          }

      runs : (cond : List ℕ) (test : Bool) → is_among cond rule.conds ≡ test → IsRunning (plain_under cond all) (running_of after cond)
      runs cond true found =
          let now : running_of after cond ≡ running_with (running_of before cond) (stands_with rule read).running =
          ap (λ (s : Standing). s.running) (stands cond true found) in
          subst (IsRunning (plain_under cond all)) (sym now)
          (subst (λ l. IsRunning l (running_with (running_of before cond) (stands_with rule read).running)) (sym (plain_under-append cond rules (rule ∷ [])))
          (IsRunning-both (plain_under cond rules) (plain_under cond (rule ∷ [])) (running_of before cond) (stands_with rule read).running (is.running cond)
          (new.counts cond found)))
      runs cond false found =
          let now : running_of after cond ≡ running_of before cond = ap (λ (s : Standing). s.running) (stands cond false found) in
          let none : plain_under cond all ≡ plain_under cond rules =
          plain_under-append cond rules (rule ∷ []) ∙ ap (λ l. plain_under cond rules ++ l) (plain_under-none cond rule found)
          ∙ append-nil (plain_under cond rules) in
          subst (IsRunning (plain_under cond all)) (sym now) (subst (λ l. IsRunning l (running_of before cond)) (sym none) (is.running cond))
