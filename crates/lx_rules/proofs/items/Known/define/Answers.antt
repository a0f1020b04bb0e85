use Rattle.std.proofs.Common.{◌≡◌, ◌∙◌, ◌+◌, ◌*◌, ◌++◌, List, arith, ◌∷◌, [], ap, length, sym, subst, refl, None}
use Rattle.std.proofs.lemmas.Result.{err_from_is_err_and}
use Rattle.std.specs.Option.{option_map}
use Rattle.lx_exprs.specs.declared.definitions.Kept.{Kept}
use Rattle.lx_regex.specs.declared.rules.Tag.{Tag}
use Rattle.lx_exprs.proofs.Contents.ValueContents.{fits_counted}
use Rattle.lx_forms.specs.Lexemes.{Lexeme, nth_lexeme}
use Rattle.lx_exprs.specs.Checks.{StopsAt}
use Rattle.lx_exprs.specs.Expressions.{ExpressionChecks, IsRead}
use Rattle.lx_exprs.specs.Defined.{IsDefined, definition_of, whole_room}
use Rattle.lx_exprs.specs.Seen.{definition_view, definitions_view}
use Rattle.lx_forms.specs.Seen.{lexemes_view}
use Rattle.lx_rules.specs.Seen.{known_definitions, used_definitions}
use Rattle.lx_rules.proofs.Blocks.ItemSteps.{define_refused, define_taken, definition_of-behind, read_known}
use Rattle.lx_rules.proofs.items.Known.define.Goals as goal

pub returns-in_err-reading-clause-taken : goal.returns-in_err-reading-clause-taken
returns-in_err-reading-clause-taken c = λ state holds.
    let lexemes = lexemes_view c.args.block.lexemes in
    let none : definition_of state.definitions (nth_lexeme lexemes c.args.name).text ≡ None =
    ap (λ (l : Lexeme). definition_of state.definitions l.text) (sym c.at-name.ensures)
    ∙ ap (λ definitions. definition_of definitions c.at-name.result.text.now) (sym holds.definitions)
    ∙ ap (λ definitions. definition_of definitions c.at-name.result.text.now) (sym c.scope-scope.ensures.seen)
    ∙ sym c.get.ensures.found ∙ ap (option_map (λ kept. definition_view c.at-name.result.text.now kept.now)) c.in_default.is in
    let p = err_from_is_err_and c.from_residual.result c.from_residual.ensures.1 in
    rw (p.1, p.2)
    (define_refused c.args.block.options.now lexemes c.args.self.now state holds c.args.name c.args.from c.args.until c.in_err-reading.field-0.0 none
    (subst (λ definitions. StopsAt (ExpressionChecks c.args.block.options.now lexemes definitions c.args.from c.args.until) c.in_err-reading.field-0.0)
    c.scope-scope.ensures.seen c.in_err-reading.ensures.read))

pub returns-clause-taken : goal.returns-clause-taken
returns-clause-taken c = λ state holds.
    let lexemes = lexemes_view c.args.block.lexemes in
    let none : definition_of state.definitions (nth_lexeme lexemes c.args.name).text ≡ None =
    ap (λ (l : Lexeme). definition_of state.definitions l.text) (sym c.at-name.ensures)
    ∙ ap (λ definitions. definition_of definitions c.at-name.result.text.now) (sym holds.definitions)
    ∙ ap (λ definitions. definition_of definitions c.at-name.result.text.now) (sym c.scope-scope.ensures.seen)
    ∙ sym c.get.ensures.found ∙ ap (option_map (λ kept. definition_view c.at-name.result.text.now kept.now)) c.in_default.is in
    let reading = c.in_ok-reading.reading in
    let read = read_known c.args.block.options.now lexemes c.args.self.now state holds whole_room c.args.from c.args.until reading
    (subst (λ definitions. IsRead c.args.block.options.now lexemes definitions whole_room c.args.from c.args.until reading) c.scope-scope.ensures.seen c.in_ok-reading.ensures.read) in
    let counted = read.stands.value.counted in
    let given : Kept = record { at = c.at-name.result.at; size = reading.value.size; nesting = reading.value.nesting; tags = reading.tags; groups = reading.value.groups; expr = c.in_ok-into_kept.field-0 } in
    let defined : IsDefined (nth_lexeme lexemes c.args.name).text (nth_lexeme lexemes c.args.name).at read.meaning (definition_view (nth_lexeme lexemes c.args.name).text given) =
    record {
      name_is = refl;
      at_is = ap (λ (l : Lexeme). l.at) c.at-name.ensures;
      size = counted.size_is;
      nesting = counted.nesting_is;
      tags = read.stands.tags;
      groups = counted.groups_is;
      term = c.in_ok-into_kept.ensures.term read.meaning read.stands.value;
    } in
    define_taken c.args.block.options.now lexemes c.args.self.now state holds c.args.name c.args.from c.args.until c.add.new.self given reading none read defined
    (subst (λ (l : Lexeme). definitions_view c.add.new.self ≡ definitions_view c.args.self.now.own ++ definition_view l.text given ∷ []) c.at-name.ensures c.in_ok-add.ensures.added)
    (c.in_ok-add.ensures.fit holds.fit.2 (
      fits_counted 1 c.in_ok-into_kept.field-0 reading.value.size reading.value.tags (length reading.tags + 2 * reading.value.groups)
          (let tags = read.stands.tags in let all = ap (λ (l : List Tag). length l) tags in let groups = counted.groups_is in
          let count = read.stands.count in let counts = counted.tags_is in omega (arith, all, groups, count, counts))
          (c.in_ok-into_kept.ensures.kept c.in_ok-reading.ensures.bounded),
      c.in_ok-into_kept.ensures.kinds reading.tags c.in_ok-reading.ensures.kinds,
    ))

pub add-requires : goal.add-requires
add-requires c =
    let name = c.at-name.result.text.now in
    let known = c.args.self.now in
    let none : definition_of (known_definitions known) name ≡ None =
    ap (λ definitions. definition_of definitions name) (sym c.scope-scope.ensures.seen)
    ∙ sym c.get.ensures.found ∙ ap (option_map (λ kept. definition_view name kept.now)) c.in_default.is in
    definition_of-behind (definitions_view known.before.definitions) (definitions_view known.own) name
    (definition_of-behind (used_definitions known.is_use known.before) (definitions_view known.before.definitions ++ definitions_view known.own) name none)
