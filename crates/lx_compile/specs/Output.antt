-- What the output of a source is.
use Rattle.std.specs.Prelude.{◌≡◌, ℕ, List, None, Ok, if◌then◌else◌}
use Rattle.lx_base.specs.declared.settings.Options.{Options}
use Rattle.lx_base.specs.Names.{Spellings}
use Rattle.lx_files.specs.declared.files.HeldFile.{HeldFile}
use Rattle.lx_rules.specs.Environments.{Environment, config_of, first_environment}
use Rattle.lx_split.specs.Includes.{expansion}
use Rattle.lx_split.specs.declared.pieces.SourcePiece.{SourcePiece}
use Rattle.lx_compile.specs.Covering.{cover_of}
use Rattle.lx_compile.specs.Facts.{directives_fault}
use Rattle.lx_compile.specs.FirstFault.{setting_of}
use Rattle.lx_compile.specs.Made.{AreMade}
use Rattle.lx_compile.specs.Options.{asks_for_cover, out_name}
use Rattle.lx_compile.specs.Parts.{AreParts}
use Rattle.lx_compile.specs.Writing.{output_text}
use Rattle.lx_compile.specs.declared.made.Made.{Made}
use Rattle.lx_compile.specs.declared.parts.Part.{Part}

-- The output of pieces, where files of these names were met and this is made, is their texts outside of blocks, unchanged, with the text of one
-- piece in the place of each block. The pieces are numbered from 1, and the states of the file from 0. Scanners are in the encoding of the
-- options, custom where these say so, and with the configurations of their blocks; directives speak of all pieces, by the spellings that hold
-- at the end, and have no fault.
pub record IsOutputOf (options : Options) (names : List (List ℕ)) (pieces : List SourcePiece) (made : List Made) (output : List ℕ) : Type 0 where
  pub parts : List Part
  pub last : Environment
  pub parts_are : AreParts options first_environment pieces parts last
  pub made_are : AreMade (setting_of options names parts) 1 0 parts made
  pub no_fault : directives_fault (config_of last.settings).names made ≡ None
  pub text : output ≡ output_text (config_of last.settings).names (out_name options) made

-- the output of a source over these files, where this is made of it: that of its pieces with those of included files put in
pub record IsOutput (options : Options) (seen : List HeldFile) (main : List ℕ) (made : List Made) (output : List ℕ) : Type 0 where
  pub pieces : List SourcePiece
  pub pieces_are : (expansion options seen main).found ≡ Ok pieces
  pub is : IsOutputOf options (expansion options seen main).met.names pieces made output

-- the spellings that hold at the end of it
abbrev pub last_names : {options : Options} {seen : List HeldFile} {main : List ℕ} {made : List Made} {output : List ℕ}
    → IsOutput options seen main made output → Spellings
last_names output = (config_of output.is.last.settings).names

-- what a compilation gives where this is made and this is the output: the output; or, where covering words are asked for, their text in its place
abbrev pub given_text : Options → List Made → (output : List ℕ) → List ℕ
given_text options made output = if asks_for_cover options then cover_of made else output

-- what is given of pieces
abbrev pub IsGivenOf : Options → (names : List (List ℕ)) → List SourcePiece → List Made → (text : List ℕ) → Type 0
IsGivenOf options names pieces made text = (output : List ℕ) × IsOutputOf options names pieces made output × (text ≡ given_text options made output)

-- what is given of a source
abbrev pub IsGiven : Options → (seen : List HeldFile) → (main : List ℕ) → List Made → (text : List ℕ) → Type 0
IsGiven options seen main made text = (output : List ℕ) × IsOutput options seen main made output × (text ≡ given_text options made output)
