-- The names of files and folders that texts tell.
use Rattle.std.specs.Prelude.{◌≡◌, true, false, ℕ, List, ◌++◌, codes, IfSome}
use Rattle.lx_base.specs.Letters.{begins_with}
use Rattle.lx_base.specs.declared.settings.Format.TheVariants.{Three}
use Rattle.lx_base.specs.declared.settings.Job.{Job}
use Rattle.lx_base.specs.declared.settings.Job.TheVariants.{Compile}
use Rattle.lx_base.specs.declared.settings.Options.{Options}

-- nowhere in the name does `/*!` begin, by which a block opens
abbrev pub OpensNoBlock : (name : List ℕ) → Type 0
OpensNoBlock name = (front tail : List ℕ) → name ≡ front ++ tail → begins_with (codes "/*!") tail ≡ false

-- nor in that of the file that is compiled, if one is
abbrev pub CompilesPlainFile : Job → Type 0
CompilesPlainFile (Compile file to) = OpensNoBlock file
CompilesPlainFile job = Unit {0}

-- nor in that of the file where the output goes, if it goes to one
abbrev pub WritesPlainFile : Job → Type 0
WritesPlainFile (Compile file to) = IfSome to OpensNoBlock
WritesPlainFile job = Unit {0}

-- No block opens in the names of the source and of the folder for includes. None does in that of the output where text of format 3 tells it,
-- unless covering words are given in its place.
pub record HavePlainNames (options : Options) : Type 0 where
  pub file : CompilesPlainFile options.job
  pub dir : IfSome options.dir OpensNoBlock
  pub output : options.format ≡ Three → options.lines ≡ true → options.cover ≡ false → WritesPlainFile options.job
