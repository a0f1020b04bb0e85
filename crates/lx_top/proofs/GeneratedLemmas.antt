-- How the compilation of a generated source ends.
use Rattle.std.proofs.Common.{◌≡◌, ◌≤◌, ◌∙◌, ℕ, List, [], Some, None, Result, Ok, Err, IsErrAnd, refl, ap, sym, subst, arith}
use Rattle.std.specs.Prelude.{if◌then◌else◌}
use Rattle.std.specs.Global.{Vec}
use Rattle.std.specs.Str.{bytes_eq}
use Rattle.lx_compile.specs.FirstFault.{StopsWith}
use Rattle.lx_compile.specs.Output.{IsGiven, IsOutput}
use Rattle.lx_compile.specs.declared.made.Made.{Made}
use Rattle.lx_files.specs.Counts.{Rose}
use Rattle.lx_files.specs.Held.{Binds, bytes_of}
use Rattle.lx_files.specs.declared.files.HeldFile.{HeldFile}
use Rattle.lx_source.proofs.SourceFaults.{no-fault}
use Rattle.lx_source.specs.Sources.{source_files, source_name, source_options, source_text}
use Rattle.lx_split.specs.declared.expanding.ExpandStop.{ExpandStop}
use Rattle.lx_split.specs.declared.expanding.ExpandStop.TheVariants as stop
use Rattle.lx_top.specs.Puts.{halt_of_expand}
use Rattle.lx_top.specs.Steps.{CompilesSource}
use Rattle.lx_top.specs.declared.endings.Halt.{Halt}
use Rattle.lx_top.specs.declared.endings.Halt.TheVariants as halt
use Rattle.lx_top.proofs.SeenFiles.{IsFirstFault-same, IsOutput-same}

module _ (rules : ℕ) (files seen : List HeldFile) (text : List ℕ) (text_is : text ≡ source_text rules) (bound : Binds [] files source_name text)
    (sees : seen ≡ files) where
  -- the source is held, and no other file
  holds-source : (name : List ℕ) → bytes_of seen name ≡ bytes_of (source_files rules) name
  holds-source name =
      ap (λ (held : List HeldFile). bytes_of held name) sees ∙ bound name
      ∙ ap (λ (bytes : List ℕ). if bytes_eq source_name name then Some bytes else None) text_is

  -- it compiles
  pub Compiles-source : (made : List Made) (output : Vec ℕ) → IsGiven source_options seen source_name made output.items → CompilesSource rules (Ok output)
  Compiles-source made output (whole, is, given) = (
    made,
    IsOutput-same source_options seen (source_files rules) holds-source source_name made output.items
        (subst (IsOutput source_options seen source_name made) (sym given) is),
  )

  module _ (few : rules ≤ 200) (names : List (List ℕ)) where
    -- it has no fault, and no read of it fails
    halt_of_expand-source : (stopped : ExpandStop) → StopsWith source_options seen source_name (Rose 0 0) names stopped
        → halt_of_expand stopped ≡ halt.OutOfMemory
    halt_of_expand-source stop.Memory stops = refl
    halt_of_expand-source (stop.Fault fault) stops =
        absurd (no-fault rules stops.0.0 fault few
        (IsFirstFault-same source_options seen (source_files rules) holds-source source_name stops.0.0 (Some fault) stops.0.1))
    halt_of_expand-source stop.ReadFailed stops = let none : 18446744073709551615 ≤ 0 = stops.0 (omega arith) in absurd (omega (arith, none))

    -- or memory ran out
    pub Halts-source : (stopped : ExpandStop) (ended : Result (Vec ℕ) Halt) → IsErrAnd ended (λ given. given ≡ halt_of_expand stopped)
        → StopsWith source_options seen source_name (Rose 0 0) names stopped → CompilesSource rules ended
    Halts-source stopped (Ok output) is stops = absurd is
    Halts-source stopped (Err halted) is stops = is ∙ halt_of_expand-source stopped stops
