use Rattle.std.proofs.Common.{◌≡◌, ◌∙◌, ◌++◌, ◌∷◌, ℕ, List, Bool, true, Vec, Global, [], ap, sym, refl}
use Rattle.std.specs.Prelude.{Some, is_some, if◌then◌else◌}
use Rattle.std.specs.Str.{bytes_eq}
use Rattle.lx_exprs.specs.Checks.{is_among}
use Rattle.lx_rules.specs.declared.conditions.Conditions.{Conditions}
use Rattle.lx_rules.specs.Conditions.{cond_names}
use Rattle.lx_rules.proofs.CondSets.ConditionEntries.{add_conds-one, found-insert, found-is_among, found-none, found_in, kept-new, names-insert, names_in, number-inserted, number_in}
use Rattle.lx_rules.proofs.conditions.Conditions.number_of.Goals as goal

abbrev items : Vec ℕ Global → List ℕ
items key = key.items

pub returns-in-Some-clause-names : goal.returns-in-Some-clause-names
returns-in-Some-clause-names c =
    let seen = cond_names c.args.self.now in
    let among : is_among c.args.cond.now seen ≡ true = sym (found-is_among items c.args.cond.now c.args.self.now.named.entries) ∙ sym c.in-Some.ensures.found in
    sym (add_conds-one c.args.cond.now seen c.requires ∙ ap (λ (test : Bool). if test then seen else seen ++ c.args.cond.now ∷ []) among)

pub returns-clause-names : goal.returns-clause-names
returns-clause-names c =
    let seen = cond_names c.args.self.now in
    let named : c.in_ok-name.name.items ≡ c.args.cond.now = c.in_ok-name.ensures.items in
    ap (names_in items) c.in_ok-number.ensures.entries ∙ names-insert items c.in_ok-name.name c.none.result c.args.self.now.named.entries
    ∙ ap (λ (name : List ℕ). if is_among name seen then seen else seen ++ name ∷ []) named ∙ sym (add_conds-one c.args.cond.now seen c.requires)

pub returns-clause-number : goal.returns-clause-number
returns-clause-number c =
    let key = c.in_ok-name.name in
    c.in_ok-number.ensures.index ∙ sym (number-inserted items key c.none.result c.args.self.now.named.entries)
    ∙ ap (number_in items key.items) (sym c.in_ok-number.ensures.entries)
    ∙ ap (λ name. number_in items name c.insert_full.new.self.entries) c.in_ok-name.ensures.items

pub returns-clause-kept : goal.returns-clause-kept
returns-clause-kept c = λ other.
    let entries = c.args.self.now.named.entries in
    let after : Conditions = record { named = c.insert_full.new.self; shared = c.args.self.now.shared } in
    let none = found-none items c.args.cond.now entries (sym c.get_index_of.ensures.found ∙ ap is_some c.in_default.is) in
    kept-new c.args.self.now after c.args.cond.now c.requires refl c.none.result c.none.ensures none other
    (ap (found_in items other) c.in_ok-number.ensures.entries ∙ found-insert items c.in_ok-name.name c.none.result other entries
    ∙ ap (λ (name : List ℕ). if bytes_eq other name then Some c.none.result else found_in items other entries) c.in_ok-name.ensures.items)
