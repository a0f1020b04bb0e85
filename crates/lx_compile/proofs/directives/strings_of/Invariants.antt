use Rattle.std.proofs.Common.{◌≡◌, ◌++◌, drop}
use Rattle.lx_forms.specs.Seen.{lexemes_view}
use Rattle.lx_compile.specs.Directives.{strings_of}
use Rattle.lx_compile.proofs.directives.strings_of.Given as goal

abbrev pub invariant-loop-item : goal.invariant-loop-item
invariant-loop-item l =
    l.strings.items ++ strings_of (lexemes_view l.lexemes) (drop l.item-index l.items) ≡ strings_of (lexemes_view l.lexemes) l.items
