-- A compilation goes by what is held under each name, and by nothing else of the files.
use Rattle.std.proofs.Common.{◌≡◌, ◌∙◌, ℕ, zero, suc, List, [], ◌∷◌, Option, Some, None, refl, sym, ap, subst}
use Rattle.std.proofs.Math.Path.{fun_ext}
use Rattle.lx_base.specs.Places.{file_start}
use Rattle.lx_base.specs.declared.faults.Fault.{Fault}
use Rattle.lx_base.specs.declared.settings.Options.{Options}
use Rattle.lx_compile.specs.FirstFault.{IsFaultOfPieces, IsFirstFault}
use Rattle.lx_compile.specs.Output.{IsOutput, IsOutputOf}
use Rattle.lx_compile.specs.declared.made.Made.{Made}
use Rattle.lx_files.specs.Held.{bytes_of}
use Rattle.lx_files.specs.declared.files.HeldFile.{HeldFile}
use Rattle.lx_split.specs.Includes.{Expansion, Met, expanded, expansion, file_expansion, file_or, first_file, found_include, if_named, include_expansion, main_expansion, met}
use Rattle.lx_split.specs.IncludeNames.{file_name_of, names_for}
use Rattle.lx_split.specs.declared.includes.IncludeBlock.{IncludeBlock}

module _ (options : Options) (seen other : List HeldFile) (same : (name : List ℕ) → bytes_of seen name ≡ bytes_of other name) where
  first_file-same : (names : List (List ℕ)) → first_file seen names ≡ first_file other names
  first_file-same [] = refl
  first_file-same (name ∷ names) =
      ap (λ (found : Option HeldFile). file_or found name (bytes_of seen name)) (first_file-same names) ∙ ap (file_or (first_file other names) name) (same name)

  -- how an include stands for pieces
  abbrev Expands : Type 0
  Expands = (folder : List ℕ) → Met → IncludeBlock → Expansion

  named-same : (expand expand' : Expands) → expand ≡ expand' → (folder : List ℕ) (files : Met) (include : IncludeBlock) (name : List ℕ)
      → found_include options seen (λ folder. expanded (expand folder)) files include name (first_file seen (names_for options folder name))
      ≡ found_include options other (λ folder. expanded (expand' folder)) files include name (first_file other (names_for options folder name))
  named-same expand expand' alike folder files include name =
      ap (λ (expand : Expands). found_include options seen (λ folder. expanded (expand folder)) files include name (first_file seen (names_for options folder name))) alike
      ∙ ap (found_include options seen (λ folder. expanded (expand' folder)) files include name) (first_file-same (names_for options folder name))
      ∙ found-same (first_file other (names_for options folder name))
    where
      found-same : (found : Option HeldFile) → found_include options seen (λ folder. expanded (expand' folder)) files include name found
          ≡ found_include options other (λ folder. expanded (expand' folder)) files include name found
      found-same None = refl
      found-same (Some file) = refl

  include_expansion-same : (left : ℕ) → include_expansion options seen left ≡ include_expansion options other left
  unfolding include_expansion
  include_expansion-same zero = refl
  include_expansion-same (suc left) =
      fun_ext (λ folder. fun_ext (λ files. fun_ext (λ include.
      ap (λ (next : List ℕ → Expansion). if_named files include next (file_name_of include.body))
      (fun_ext (named-same (include_expansion options seen left) (include_expansion options other left) (include_expansion-same left) folder files include)))))

  main_expansion-same : (main : List ℕ) (given : Option (List ℕ)) → main_expansion options seen main given ≡ main_expansion options other main given
  main_expansion-same main None = refl
  main_expansion-same main (Some bytes) =
      ap (λ (expand : Expands). file_expansion (λ folder. expanded (expand folder)) options (file_start 0) (met [] 0) (record { name = main; bytes = bytes }))
      (include_expansion-same 32)

  expansion-same : (main : List ℕ) → expansion options seen main ≡ expansion options other main
  expansion-same main = ap (main_expansion options seen main) (same main) ∙ main_expansion-same main (bytes_of other main)

  pub IsFirstFault-same : (main : List ℕ) (made : List Made) (fault : Option Fault) → IsFirstFault options seen main made fault
      → IsFirstFault options other main made fault
  IsFirstFault-same main made fault is =
      subst (λ (whole : Expansion). IsFaultOfPieces options whole.met.names whole.found made fault) (expansion-same main) is

  pub IsOutput-same : (main : List ℕ) (made : List Made) (output : List ℕ) → IsOutput options seen main made output → IsOutput options other main made output
  IsOutput-same main made output is = record {
    pieces = is.pieces;
    pieces_are = sym (ap (λ (whole : Expansion). whole.found) (expansion-same main)) ∙ is.pieces_are;
    is = subst (λ (whole : Expansion). IsOutputOf options whole.met.names is.pieces made output) (expansion-same main) is.is;
  }
