-- Outputs of sources in which no block opens.
use Rattle.std.proofs.Common.{◌≡◌, ℕ, ◌+◌, ◌-◌, ◌≤◌, arith, Bool, true, false, List, [], ◌∷◌, length, Option, Some, None, Ok, Err, refl, subst, append-nil, ◌∙◌}
use Rattle.std.specs.Prelude.{if◌then◌else◌}
use Rattle.std.proofs.lemmas.List.{take_all}
use Rattle.lx_base.specs.Names.{Spellings}
use Rattle.lx_base.specs.Places.{file_start}
use Rattle.lx_base.specs.declared.faults.Fault.TheVariants.{TooLong}
use Rattle.lx_base.specs.declared.places.Pos.{Pos}
use Rattle.lx_base.specs.declared.settings.Options.{Options}
use Rattle.lx_files.specs.Held.{bytes_of}
use Rattle.lx_files.specs.declared.files.HeldFile.{HeldFile}
use Rattle.lx_rules.specs.Environments.{Environment, config_of, first_environment}
use Rattle.lx_split.specs.IncludeNames.{folder_of}
use Rattle.lx_split.specs.Includes.{Expansion, Met, expanded, expansion, go_on, include_expansion, main_expansion, met, pieces_within, with_file}
use Rattle.lx_split.specs.Marks.{mark_place}
use Rattle.lx_split.specs.Openers.{from_opener}
use Rattle.lx_split.specs.Pieces.{Split, outside, pieces_of, pieces_without_marks, unless_marked}
use Rattle.lx_split.specs.declared.includes.IncludeBlock.{IncludeBlock}
use Rattle.lx_split.specs.declared.pieces.SourcePiece.{SourcePiece}
use Rattle.lx_compile.specs.FirstFault.{setting_of}
use Rattle.lx_compile.specs.Made.{AreMade, Setting}
use Rattle.lx_compile.specs.Options.{out_name}
use Rattle.lx_compile.specs.Output.{IsOutput, IsOutputOf}
use Rattle.lx_compile.specs.Parts.{AreParts}
use Rattle.lx_compile.specs.Writing.{output_text}
use Rattle.lx_compile.specs.declared.made.Made.{Made}
use Rattle.lx_compile.specs.declared.made.Made.TheVariants as made
use Rattle.lx_compile.specs.declared.parts.Part.{Part}
use Rattle.lx_compile.specs.declared.parts.Part.TheVariants.{Outside, Block}

module _ (options : Options) (source : List ℕ) (none : from_opener options source ≡ []) where
  -- the pieces of such a source are its text
  pieces_of-outside : (file : ℕ) (pieces : List SourcePiece) → pieces_of options file source ≡ Ok pieces → pieces ≡ outside source
  pieces_of-outside file pieces are = by (mark_place (file_start file) source) are
    where
      whole : pieces_without_marks options file source ≡ Ok (outside source)
      whole = let all : length source ≤ length source - 0 = omega arith in rw (none, take_all (length source - 0) source all) refl

      by : (mark : Option Pos) → unless_marked mark (pieces_without_marks options file source) ≡ Ok pieces → pieces ≡ outside source
      by None is = let done = whole in cc
      by (Some at) is = absurd cc

  pieces_within-outside : (at : Pos) (file before : ℕ) (pieces : List SourcePiece) → pieces_within options at file before source ≡ Ok pieces
      → pieces ≡ outside source
  pieces_within-outside at file before pieces are = by _ are
    where
      by : (is_long : Bool) → if◌then◌else◌ {A = Split} is_long (Err (TooLong at (before + length source))) (pieces_of options file source) ≡ Ok pieces
          → pieces ≡ outside source
      by true is = absurd cc
      by false is = pieces_of-outside file pieces is

  -- and stay, where includes are put in
  expanded-outside : (expand_include : Met → IncludeBlock → Expansion) (files : Met) (text : List ℕ)
      → (expanded expand_include files (outside text)).found ≡ Ok (outside text)
  expanded-outside expand_include files [] = refl
  expanded-outside expand_include files (letter ∷ text) = refl

  go_on-outside : (expand_include : Met → IncludeBlock → Expansion) (files : Met) (split : Split)
      → ((pieces : List SourcePiece) → split ≡ Ok pieces → pieces ≡ outside source) → (pieces : List SourcePiece)
      → (go_on (expanded expand_include) files split).found ≡ Ok pieces → pieces ≡ outside source
  go_on-outside expand_include files (Err fault) cut pieces are = absurd cc
  go_on-outside expand_include files (Ok found) cut pieces are =
      let same = cut found refl in
      let whole = expanded-outside expand_include files source in
      let is = subst (λ (l : List SourcePiece). (expanded expand_include files l).found ≡ Ok pieces) same are in cc

  main-outside : (seen : List HeldFile) (main : List ℕ) (pieces : List SourcePiece) → (main_expansion options seen main (Some source)).found ≡ Ok pieces
      → pieces ≡ outside source
  main-outside seen main pieces are =
      go_on-outside (include_expansion options seen 32 (folder_of main))
      (with_file (met [] 0) (record { name = main; bytes = source }))
      (pieces_within options (file_start 0) (length {A = List ℕ} []) 0 source)
      (λ pieces are. pieces_within-outside (file_start 0) (length {A = List ℕ} []) 0 pieces are) pieces are

module _ (options : Options) (setting : Setting) (names : Spellings) (out : List ℕ) (last : Environment) where
  -- what is made of outside text is that text
  made-outside : (source : List ℕ) (parts : List Part) (all : List Made) → AreParts options first_environment (outside source) parts last
      → AreMade setting 1 0 parts all → output_text names out all ≡ source
  made-outside [] [] [] are made_are = refl
  made-outside [] [] (one ∷ all) are made_are = absurd made_are
  made-outside [] (part ∷ parts) all are made_are = absurd are
  made-outside (letter ∷ source) [] all are made_are = absurd are
  made-outside (letter ∷ source) (Block at line content ∷ parts) all are made_are = absurd are
  made-outside (letter ∷ source) (Outside text ∷ part ∷ parts) all are made_are = absurd are.1
  made-outside (letter ∷ source) (Outside text ∷ []) [] are made_are = absurd made_are
  made-outside (letter ∷ source) (Outside text ∷ []) (made.Scanners piece checks warnings cover groups ∷ all) are made_are = absurd made_are
  made-outside (letter ∷ source) (Outside text ∷ []) (made.Bare at line directive ∷ all) are made_are = absurd made_are
  made-outside (letter ∷ source) (Outside text ∷ []) (made.Outside other ∷ one ∷ all) are made_are = absurd made_are.1
  made-outside (letter ∷ source) (Outside text ∷ []) (made.Outside other ∷ []) are made_are = append-nil other ∙ made_are.0 ∙ are.0

output_of-outside : (options : Options) (names : List (List ℕ)) (source output : List ℕ) (all : List Made)
    → IsOutputOf options names (outside source) all output → output ≡ source
output_of-outside options names source output all is =
    is.text
    ∙ made-outside options (setting_of options names is.parts) (config_of is.last.settings).names (out_name options) is.last source
    is.parts all is.parts_are is.made_are

pub IsOutput-outside : (options : Options) (seen : List HeldFile) (main source output : List ℕ) (all : List Made) → bytes_of seen main ≡ Some source
    → from_opener options source ≡ [] → IsOutput options seen main all output → output ≡ source
IsOutput-outside options seen main source output all bytes none is =
    let same = main-outside options source none seen main is.pieces
    (subst (λ (found : Option (List ℕ)). (main_expansion options seen main found).found ≡ Ok is.pieces) bytes is.pieces_are) in
    output_of-outside options (expansion options seen main).met.names source output all
    (subst (λ (pieces : List SourcePiece). IsOutputOf options (expansion options seen main).met.names pieces all output) same is.is)
