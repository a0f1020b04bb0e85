-- Expansions one behind another.
use Rattle.std.proofs.Common.{◌≡◌, ℕ, zero, suc, List, [], ◌∷◌, ◌++◌, length, Some, None, Ok, Err, refl, sym, ap, append_assoc, append-nil}
use Rattle.lx_base.specs.declared.faults.Fault.{Fault}
use Rattle.lx_base.specs.declared.faults.Fault.TheVariants.{IncludeDepth, NoFile, Syntax}
use Rattle.lx_base.specs.declared.settings.Options.{Options}
use Rattle.lx_files.specs.declared.files.HeldFile.{HeldFile}
use Rattle.lx_split.specs.declared.includes.IncludeBlock.{IncludeBlock}
use Rattle.lx_split.specs.declared.pieces.SourcePiece.{SourcePiece}
use Rattle.lx_split.specs.IncludeNames.{file_name_of, folder_of, names_for}
use Rattle.lx_split.specs.Pieces.{Split}
use Rattle.lx_split.specs.Includes.{Expansion, Met, and_then, behind, enter_block, fails, first_file, found_then, gives, include_expansion, leave_block, pieces_expansion, pieces_then, pieces_within, with_file}

-- pieces behind others
pieces_then-append : (first second : List SourcePiece) (found : Split) → pieces_then first (pieces_then second found) ≡ pieces_then (first ++ second) found
pieces_then-append first second (Ok pieces) = ap (λ (l : List SourcePiece). Ok l) (sym (append_assoc first second pieces))
pieces_then-append first second (Err fault) = refl

pub behind-append : (first second : List SourcePiece) (later : Expansion) → behind first (behind second later) ≡ behind (first ++ second) later
behind-append first second later = ap (λ (f : Split). record { met = later.met; found = f }) (pieces_then-append first second later.found)

pieces_then-nil : (found : Split) → pieces_then [] found ≡ found
pieces_then-nil (Ok pieces) = refl
pieces_then-nil (Err fault) = refl

pub behind-nil : (later : Expansion) → behind [] later ≡ later
behind-nil later = ap (λ (f : Split). record { met = later.met; found = f }) (pieces_then-nil later.found)

found_then-pieces : (files : Met) (pieces : List SourcePiece) (found : Split) (next : Met → Expansion) →
    found_then files (pieces_then pieces found) next ≡ behind pieces (found_then files found next)
found_then-pieces files pieces (Ok more) next = sym (behind-append pieces more (next files))
found_then-pieces files pieces (Err fault) next = refl

-- what is behind pieces goes on behind them
pub and_then-behind : (pieces : List SourcePiece) (first : Expansion) (next : Met → Expansion) →
    and_then (behind pieces first) next ≡ behind pieces (and_then first next)
and_then-behind pieces first next = found_then-pieces first.met pieces first.found next

found_then-and_then : (files : Met) (found : Split) (next last : Met → Expansion) →
    and_then (found_then files found next) last ≡ found_then files found (λ later. and_then (next later) last)
found_then-and_then files (Ok pieces) next last = and_then-behind pieces (next files) last
found_then-and_then files (Err fault) next last = refl

pub and_then-and_then : (first : Expansion) (next last : Met → Expansion) →
    and_then (and_then first next) last ≡ and_then first (λ later. and_then (next later) last)
and_then-and_then first next last = found_then-and_then first.met first.found next last

found_then-nothing : (files : Met) (found : Split) → found_then files found (λ later. behind [] (gives later [])) ≡ record { met = files; found = found }
found_then-nothing files (Ok pieces) = ap (λ (l : List SourcePiece). gives files l) (append-nil pieces)
found_then-nothing files (Err fault) = refl

-- nothing behind an expansion
pub and_then-nothing : (first : Expansion) → and_then first (λ later. behind [] (gives later [])) ≡ first
and_then-nothing first = found_then-nothing first.met first.found

-- a fault ends the whole
pub fails-through : (pieces : List SourcePiece) (first : Expansion) (files : Met) (fault : Fault) (next : Met → Expansion) → first ≡ fails files fault →
    behind pieces (and_then first next) ≡ fails files fault
fails-through pieces first files fault next is = ap (λ (e : Expansion). behind pieces (and_then e next)) is

module _ (options : Options) (seen : List HeldFile) (folder : List ℕ) (files : Met) (include : IncludeBlock) where
  -- an include whose name is not well-formed
  pub include_expansion-unnamed : (left : ℕ) → file_name_of include.body ≡ None → include_expansion options seen left folder files include ≡ fails files (Syntax include.at)
  unfolding include_expansion
  include_expansion-unnamed zero none = rw none
  include_expansion-unnamed (suc left) none = rw none

  module _ (name : List ℕ) (named : file_name_of include.body ≡ Some name) where
    -- an include that is nested too deeply
    pub include_expansion-deep : include_expansion options seen 0 folder files include ≡ fails files (IncludeDepth include.at 33)
    unfolding include_expansion
    include_expansion-deep = rw named

    module _ (left : ℕ) where
      -- an include without a file
      pub include_expansion-none : first_file seen (names_for options folder name) ≡ None →
          include_expansion options seen (suc left) folder files include ≡ fails files (NoFile include.at name)
      unfolding include_expansion
      include_expansion-none none = rw (named, none)

      module _ (file : HeldFile) (found : first_file seen (names_for options folder name) ≡ Some file) where
        -- an include whose file has a fault
        pub include_expansion-faulty : (fault : Fault) → pieces_within options include.at (length files.names) files.total file.bytes ≡ Err fault →
            include_expansion options seen (suc left) folder files include ≡ fails (with_file files file) fault
        unfolding include_expansion
        include_expansion-faulty fault is = rw (named, found, is)

        -- an include whose file has these pieces
        pub include_expansion-pieces : (pieces : List SourcePiece) → pieces_within options include.at (length files.names) files.total file.bytes ≡ Ok pieces →
            include_expansion options seen (suc left) folder files include
            ≡ behind (enter_block (length files.names) ∷ [])
            (and_then (pieces_expansion options seen left (folder_of file.name) (with_file files file) pieces) (λ later. gives later (leave_block include ∷ [])))
        unfolding include_expansion
        include_expansion-pieces pieces is = rw (named, found, is)
