-- Generated sources: their text, and how they are compiled.
use Rattle.std.specs.Prelude.{ℕ, zero, suc, false, List, [], ◌∷◌, ◌++◌, codes, None}
use Rattle.std.specs.Fmt.{decimal}
use Rattle.lx_base.specs.Text.{joined}
use Rattle.lx_base.specs.declared.settings.EmptyPolicy.TheVariants.{MatchEmpty}
use Rattle.lx_base.specs.declared.settings.Enc.TheVariants.{Byte}
use Rattle.lx_base.specs.declared.settings.Job.TheVariants.{Compile}
use Rattle.lx_base.specs.declared.settings.Options.{Options}
use Rattle.lx_base.specs.declared.settings.Format.TheVariants.{Two}
use Rattle.lx_base.specs.declared.settings.SurPolicy.TheVariants.{Ignore}
use Rattle.lx_files.specs.declared.files.HeldFile.{HeldFile}

-- ---- the source

-- the lines of so many rules, numbered from this one on: a word and its number, once to three times, and a numeral
abbrev pub rule_lines_then : (number count : ℕ) → List ℕ → List ℕ
rule_lines_then number zero tail = tail
rule_lines_then number (suc count) tail =
    joined (codes "\"w" ∷ decimal number ∷ codes "x\"{1,3} [0-9]+ { }\n" ∷ []) (rule_lines_then (suc number) count tail)

-- the source of so many rules
abbrev pub source_text : (rules : ℕ) → List ℕ
source_text rules = codes "/*!re2c\nre2c:yyfill:enable = 0;\n" ++ rule_lines_then 1 rules (codes "* { }\n*/\n")

-- ---- its compilation

-- the name under which it is compiled
abbrev pub source_name : List ℕ
source_name = codes "source.re"

-- the files of its compilation
abbrev pub source_files : (rules : ℕ) → List HeldFile
source_files rules = record { name = source_name; bytes = source_text rules } ∷ []

-- it is compiled without line marks, and else as a command line asks that names it alone
abbrev pub source_options : Options
source_options = record {
  job = Compile source_name None;
  format = Two;
  lines = false;
  conds = false;
  states = false;
  tags = false;
  captures = false;
  posix = false;
  custom = false;
  warn = false;
  cover = false;
  enc = Byte;
  surrogates = Ignore;
  empty = MatchEmpty;
  dir = None;
}
