-- What the code that tells covering words holds.
use Rattle.std.specs.Prelude.{◌≡◌}
use Rattle.lx_layout.specs.Endings.{Ending}
use Rattle.lx_layout.specs.Rules.{names_of}
use Rattle.lx_compile.specs.declared.cover_lines.ToldEnd.{ToldEnd}

-- what is told of a rule's end is that of the ending
pub record TellsEnd (told : ToldEnd) (ending : Ending) : Type 0 where
  pub action : told.action.now ≡ ending.action
  pub slash : told.slash ≡ ending.slash
  pub tags : names_of told.tags.now ≡ ending.tags
  pub goes : told.goes.now ≡ ending.goes_to
