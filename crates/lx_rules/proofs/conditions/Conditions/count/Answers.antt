use Rattle.std.proofs.Common.{◌≡◌, ◌<◌, ◌∙◌, ℕ, List, Vec, Global, [], true, length, ap, sym, refl, subst, get_or}
use Rattle.std.specs.Prelude.{Some, slice_get, if◌then◌else◌}
use Rattle.std.specs.Map.{values_of}
use Rattle.std.specs.Str.{bytes_eq}
use Rattle.indexmap.specs.IndexMap.{set_value_at, with_value_at}
use Rattle.lx_exprs.specs.Checks.{is_among}
use Rattle.lx_rules.specs.declared.conditions.Conditions.{Conditions}
use Rattle.lx_rules.specs.Conditions.{cond_names, condition_view, kept_of, taken}
use Rattle.lx_rules.proofs.CondSets.ConditionEntries.{added_among, found-set, found_in, kept-taken, kept_found, names-set, names_in, number-name, number-value}
use Rattle.lx_rules.proofs.conditions.Conditions.count.Goals as goal

abbrev items : Vec ℕ Global → List ℕ
items key = key.items

pub returns-clause-names : goal.returns-clause-names
returns-clause-names c =
    names-set items c.take.new.self c.number_of.new.self.named.entries c.in_ok-number.number ∙ c.in_ok-number.ensures.names

pub returns-clause-number : goal.returns-clause-number
returns-clause-number c =
    let entries = c.number_of.new.self.named.entries in
    let number = c.in_ok-number.number in
    let cond = c.args.cond.now in
    let among : is_among cond (names_in items entries) ≡ true =
    ap (is_among cond) c.in_ok-number.ensures.names ∙ added_among cond (cond_names c.args.self.now) c.requires in
    ap (λ l. get_or l number []) (names-set items c.take.new.self entries number) ∙ ap (λ n. get_or (names_in items entries) n []) c.in_ok-number.ensures.number
    ∙ number-name items cond entries among

pub returns-clause-within : goal.returns-clause-within
returns-clause-within c =
    let number = c.in_ok-number.number in
    subst (λ (l : List (List ℕ)). number < length l) (sym (names-set items c.take.new.self c.number_of.new.self.named.entries number))
    c.in_ok-number.ensures.within

pub returns-clause-kept : goal.returns-clause-kept
returns-clause-kept c = λ other.
    let middle = c.number_of.new.self in
    let entries = middle.named.entries in
    let number = c.in_ok-number.number in
    let cond = c.args.cond.now in
    let first = c.index_mut.result.now in
    let held = c.take.new.self in
    let after : Conditions = record { named = with_value_at middle.named number held; shared = middle.shared } in
    let among : is_among cond (names_in items entries) ≡ true =
    ap (is_among cond) c.in_ok-number.ensures.names ∙ added_among cond (cond_names c.args.self.now) c.requires in
    let found : found_in items cond entries ≡ Some first =
    sym (number-value items cond entries) ∙ ap (slice_get (values_of entries)) (sym c.in_ok-number.ensures.number) ∙ c.index_mut.ensures.value in
    let takes : condition_view held ≡ taken c.args.place c.args.rule (kept_of middle cond) =
    c.in_ok-take.ensures ∙ ap (taken c.args.place c.args.rule) (sym (kept_found middle cond first c.requires found)) in
    kept-taken middle after cond c.requires refl c.args.place c.args.rule held takes other
    (ap (λ n. found_in items other (set_value_at entries n held)) c.in_ok-number.ensures.number ∙ found-set items held cond entries among other)
    ∙ ap (λ kept. if bytes_eq other cond then taken c.args.place c.args.rule kept else kept) (c.in_ok-number.ensures.kept other)
