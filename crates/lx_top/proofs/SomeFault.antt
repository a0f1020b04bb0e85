-- A command line has a first fault over the files, or it has none: one of both is there, under two negations.
use Rattle.std.proofs.Common.{ℕ, zero, suc, ◌<◌, List, drop, Option, Some, None, refl, inl, inr, arith}
use Rattle.lx_base.specs.declared.faults.Fault.{Fault}
use Rattle.lx_base.specs.declared.faults.Fault.TheVariants.{NoFile, NotEmitted}
use Rattle.lx_base.specs.declared.settings.Job.{Job}
use Rattle.lx_base.specs.declared.settings.Job.TheVariants.{Compile, Run, Source}
use Rattle.lx_base.specs.declared.settings.Options.{Options}
use Rattle.lx_files.specs.declared.files.HeldFile.{HeldFile}
use Rattle.lx_files.specs.Held.{bytes_of}
use Rattle.lx_words.specs.Options.{words_fault}
use Rattle.lx_ccode.specs.declared.piece.Piece.{Piece}
use Rattle.lx_ccode.specs.Front.{BeginsWithPiece}
use Rattle.lx_creader.specs.Marks.{BeginsBlock, IsFirstBegin}
use Rattle.lx_compile.specs.declared.made.Made.{Made}
use Rattle.lx_top.specs.Emitted.{IsEmittedFault, IsRunFault, input_fault, place_in}
use Rattle.lx_top.specs.FirstFault.{AreMadeBy, AreMadeFor, IsFaultBehind, IsFaultOf, IsFirstFault}
use Rattle.lx_top.specs.Jobs.{options_for}
use Rattle.lx_compile.proofs.SomeFault.{IsFirstFault-some as IsSourceFault-some}
use Rattle.lx_base.specs.Places.{file_start}

-- ---- runs

module _ (block : Option ℕ) (window step : ℕ) (name : List ℕ) (given : Option (List ℕ)) (bytes : List ℕ)
    (none : (fault : Option Fault) → IsEmittedFault block window step name given bytes fault → ⊥) where
  -- a first begin mark that is asked for: a piece stands there, or none does
  no_first : (offset : ℕ) → IsFirstBegin block bytes offset → ⊥
  no_first offset first = none (Some (NotEmitted (place_in bytes offset) offset)) (inl (offset, inr (first, no_piece), refl))
    where
      no_piece : (piece : Piece) → BeginsWithPiece (drop offset bytes) piece → ⊥
      no_piece piece begins = none (input_fault name piece window step given) (inr (piece, record { offset = offset; first = first; begins = begins }, refl))

  -- so there is no such mark: one of them would be the first
  no_begin_below : (count place : ℕ) → place < count → BeginsBlock block (drop place bytes) → ⊥
  no_begin_below zero place before begins = absurd (omega arith)
  no_begin_below (suc count) place before begins =
      no_first place (record { begins = begins; none_before = λ other before_other. no_begin_below count other (omega arith) })

  no_begin : (place : ℕ) → BeginsBlock block (drop place bytes) → ⊥
  no_begin place = no_begin_below (suc place) place (omega arith)

  emitted_fault : ⊥
  emitted_fault = none (Some (NotEmitted (place_in bytes 0) 0)) (inl (0, inl (no_begin, refl), refl))

-- a run has a first fault, or none
run_fault : (block : Option ℕ) (window step : ℕ) (name : List ℕ) (given : Option (List ℕ)) (emitted : List ℕ) (scanned : Option (List ℕ))
    → ((fault : Option Fault) → IsRunFault block window step name given emitted scanned fault → ⊥) → ⊥
run_fault block window step name given emitted None none = none (Some (NoFile (file_start 0) emitted)) refl
run_fault block window step name given emitted (Some bytes) none = emitted_fault block window step name given bytes none

-- ---- jobs

job_fault : (options : Options) (job : Job) (files : List HeldFile) (made : List Made) → AreMadeFor options job files made
    → ((fault : Option Fault) → IsFaultOf options job files made fault → ⊥) → ⊥
job_fault options (Compile file to) files made are none = IsSourceFault-some options files file made are none
job_fault options (Run input emitted block window piece) files made are none = run_fault block window piece input (bytes_of files input) emitted (bytes_of files emitted) none
job_fault options (Source rules to) files made are none = none None refl

fault_behind : (of_words : Option Fault) (options : Options) (files : List HeldFile) (made : List Made) → AreMadeFor options options.job files made
    → ((fault : Option Fault) → IsFaultBehind of_words options files made fault → ⊥) → ⊥
fault_behind None options files made are none = job_fault options options.job files made are none
fault_behind (Some first) options files made are none = none (Some first) refl

-- a command line has a first fault, or none
pub IsFirstFault-some : (words : List (List ℕ)) (files : List HeldFile) (made : List Made) → AreMadeBy words files made
    → ((fault : Option Fault) → IsFirstFault words files made fault → ⊥) → ⊥
IsFirstFault-some words files made are none = fault_behind (words_fault words) (options_for words) files made are none
