use Rattle.std.proofs.Common.{◌≡◌, ◌<◌, ◌∙◌, ℕ, List, Bor, [], false, ap, sym, subst, get_or, length, map, take}
use Rattle.std.specs.Prelude.{if◌then◌else◌}
use Rattle.std.specs.List.{AllByRecursion}
use Rattle.std.specs.Str.{bytes_eq}
use Rattle.std.proofs.Math.ListN.{get_or-map}
use Rattle.std.proofs.lemmas.List.{length-map}
use Rattle.lx_exprs.specs.Checks.{is_among}
use Rattle.lx_rules.specs.Blocks.{every}
use Rattle.lx_rules.specs.Conditions.{cond_names, kept_of, taken}
use Rattle.lx_rules.proofs.CondSets.CondNumbers.{names_one, none_at, numbers_one, take_one, within_one}
use Rattle.lx_rules.proofs.Rules.TakenRules.{taken-more}
use Rattle.lx_rules.proofs.conditions.Conditions.count_each.Goals as goal

abbrev nothing : Bor (List ℕ)
nothing = record { ref_ptr = (0, 0); now = [] }

abbrev names_in : List (Bor (List ℕ)) → List (List ℕ)
names_in conds = map (λ cond. cond.now) conds

below : (conds : List (Bor (List ℕ))) (index : ℕ) → index < length conds → index < length (names_in conds)
below conds index lt = subst (λ n. index < n) (sym (length-map conds (λ cond. cond.now))) lt

name_at : (conds : List (Bor (List ℕ))) (index : ℕ) → get_or (names_in conds) index [] ≡ (get_or conds index nothing).now
name_at conds index = get_or-map (λ cond. cond.now) conds index nothing

pub count-requires : goal.count-requires
count-requires c =
    let conds = c.args.conds.now in
    let index = c.loop-cond.cond-index in
    subst (λ name. bytes_eq name every ≡ false) (name_at conds index) (none_at every (names_in conds) index [] c.requires (below conds index c.loop-cond-test.true))

pub loop-cond-preserved : goal.loop-cond-preserved
loop-cond-preserved c =
    let conds = c.args.conds.now in
    let index = c.loop-cond.cond-index in
    let name = (get_or conds index nothing).now in
    let seen = take index (names_in conds) in
    let lt = below conds index c.loop-cond-test.true in
    let is = name_at conds index in
    let first = c.args.self.now in
    let last = c.loop-cond.self in
    let next = c.count.new.self in
    let before = c.loop-cond.invariant in
    let counts = c.in_ok-count.ensures in record {
      names = names_one (names_in conds) index name lt is (cond_names first) (cond_names last) (cond_names next) before.names counts.names;
      numbers =
          ap (map (λ number. get_or (cond_names next) number [])) c.in_ok-push.ensures.items
          ∙ numbers_one (names_in conds) index name lt is (cond_names last) (cond_names next) c.loop-cond.numbers.items c.in_ok-count.field-0 counts.names before.within
          before.numbers counts.number;
      within =
          subst (AllByRecursion (λ number. number < length (cond_names next))) (sym c.in_ok-push.ensures.items)
          (within_one (cond_names last) (cond_names next) name c.loop-cond.numbers.items c.in_ok-count.field-0 counts.names before.within counts.within);
      kept = λ cond.
          taken-more c.args.place c.args.rule seen name (kept_of first) (kept_of last) (kept_of next) before.kept counts.kept cond
          ∙ ap (λ l. if is_among cond l then taken c.args.place c.args.rule (kept_of first cond) else kept_of first cond)
          (sym (take_one (names_in conds) index name lt is));
    }
