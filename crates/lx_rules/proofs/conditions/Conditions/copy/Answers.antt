use Rattle.std.proofs.Common.{◌≡◌, ◌∙◌, ℕ, true, false, List, Vec, Global, add-one, ap, ap₂, arith, map, sym}
use Rattle.std.specs.Prelude.{if◌then◌else◌}
use Rattle.std.specs.Map.{lookup}
use Rattle.std.specs.Option.{option_map_or}
use Rattle.std.specs.Str.{bytes_eq}
use Rattle.lx_rules.specs.declared.conditions.Standing.{Standing}
use Rattle.lx_rules.specs.Blocks.{every}
use Rattle.lx_rules.specs.Conditions.{condition_view, nothing_kept}
use Rattle.lx_rules.proofs.CondSets.CopiedConditions.{found-seen, names-seen, seen-all, seen-copied}
use Rattle.lx_rules.proofs.conditions.Conditions.copy.Goals.{in-Some+in_ok-from_slice+in_ok-copy+in_ok-insert+in-None-1, in-Some+in_ok-from_slice+in_ok-copy+in_ok-insert+in-Some-1, in_default}
use Rattle.lx_rules.proofs.conditions.Conditions.copy.Goals as goal

abbrev items : Vec ℕ Global → List ℕ
items key = key.items

pub loop-number-preserved : goal.loop-number-preserved
loop-number-preserved c = elim c.match-get_index.branch [
  | in-Some+in_ok-from_slice+in_ok-copy+in_ok-insert+in-None-1 w ↦
      let entries = c.args.self.now.named.entries in
      let number = c.loop-number.number in
      rw (add-one number, w.named-is)
      (seen-copied entries c.loop-number.named.entries _ number c.loop-number.invariant (w.in-Some.name.now, w.in-Some.kept.now)
      w.in_ok-from_slice.field-0 w.in_ok-copy.field-0 c.len-number-end.ensures.unique (sym w.in-Some.ensures.entry)
      (w.in_ok-from_slice.ensures.items ∙ w.as_slice.ensures.value) w.in_ok-copy.ensures w.in_ok-insert.ensures.entries)
  | in-Some+in_ok-from_slice+in_ok-copy+in_ok-insert+in-Some-1 w ↦
      let entries = c.args.self.now.named.entries in
      let number = c.loop-number.number in
      rw (add-one number, w.named-is)
      (seen-copied entries c.loop-number.named.entries _ number c.loop-number.invariant (w.in-Some.name.now, w.in-Some.kept.now)
      w.in_ok-from_slice.field-0 w.in_ok-copy.field-0 c.len-number-end.ensures.unique (sym w.in-Some.ensures.entry)
      (w.in_ok-from_slice.ensures.items ∙ w.as_slice.ensures.value) w.in_ok-copy.ensures w.in_ok-insert.ensures.entries)
  | in_default w ↦ absurd (let none : false ≡ true = w.in_default.ensures.found.1 (omega (arith, c.loop-number-test.true, c.len-number-end.ensures.len)) in cc)
]

pub returns-clause-names : goal.returns-clause-names
returns-clause-names c =
    let entries = c.args.self.now.named.entries in
    let named = c.loop-number.named.entries in
    names-seen items condition_view named
    ∙ ap (map (λ (entry : List ℕ × (Standing × List ℕ)). entry.0))
    (seen-all entries named named c.loop-number.number c.loop-number.invariant (omega (arith, c.len-number-end.ensures.len, c.loop-number-test.false)))
    ∙ sym (names-seen items condition_view entries)

pub returns-clause-kept : goal.returns-clause-kept
returns-clause-kept c = λ cond.
    let entries = c.args.self.now.named.entries in
    let named = c.loop-number.named.entries in
    ap₂ (λ (shared found : Standing × List ℕ). if bytes_eq cond every then shared else found) c.in_ok-shared.ensures
    (found-seen items condition_view cond nothing_kept named
    ∙ ap (λ seen. option_map_or (λ s. s) (lookup (bytes_eq cond) seen) nothing_kept)
    (seen-all entries named named c.loop-number.number c.loop-number.invariant (omega (arith, c.len-number-end.ensures.len, c.loop-number-test.false)))
    ∙ sym (found-seen items condition_view cond nothing_kept entries))
