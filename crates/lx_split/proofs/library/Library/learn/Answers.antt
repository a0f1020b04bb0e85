use Rattle.std.proofs.Common.{◌≡◌, Option, Some, IfSome, List, ℕ, sym, ◌∙◌, ap, subst}
use Rattle.lx_files.specs.Counts.{Rose}
use Rattle.lx_files.specs.Held.{bytes_of}
use Rattle.lx_split.proofs.LibraryLemmas.{ReadsOn-more, missing-given, unknown_option}
use Rattle.lx_split.specs.Libraries.{known}
use Rattle.lx_split.proofs.library.Library.learn.Goals.{in-Ok, in-Err-Missing}
use Rattle.lx_split.proofs.library.Library.learn.Goals as goal

pub returns-clause-reads : goal.returns-clause-reads
returns-clause-reads g c =
    let held = g.F.Files.held c.args.files.now in
    let name = c.args.name.now in
    let Given : Option (List ℕ) → Type 0 = λ answer. IfSome held (λ files. bytes_of files name ≡ answer) in
    let unknown = unknown_option (known c.args.self.now name) (sym c.is_known.ensures ∙ c.if-is_known.false) in
    let given : Given c.match-read.bytes =
    elim c.match-read.branch [
      | in-Ok w ↦ subst Given (sym (w.bytes-is ∙ ap (λ (l : List ℕ). Some l) w.from_vec.ensures)) w.in-Ok.ensures.gives
      | in-Err-Missing w ↦ subst Given (sym w.bytes-is)
          (missing-given held (Rose (g.F.Files.faults c.args.files.now) (g.F.Files.faults c.read.new.self)) name (rw w.in-Err-Missing.field-0-is at w.in-Err-Missing.ensures.refuses))
    ] in
    ReadsOn-more held c.args.self.now c.add.new.self name c.match-read.bytes unknown c.in_ok-add.ensures.added given
