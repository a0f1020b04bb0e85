use Rattle.std.proofs.Common.{List, ℕ, Some, sym, ◌∙◌, ap}
use Rattle.lx_files.specs.Counts.{Rose}
use Rattle.lx_split.specs.IncludeNames.{names_for}
use Rattle.lx_split.specs.Includes.{expand_stop, first_file}
use Rattle.lx_split.specs.Walks.{inner_folder, whole_from}
use Rattle.lx_split.proofs.ExpandStops.{MatchResult-residual, StopsExpansion-none, StopsExpansion-read, StopsExpansion-whole}
use Rattle.lx_split.proofs.Growth.{AreFirstMet-from}
use Rattle.lx_split.proofs.Walks.{has_inner, whole_from-none}
use Rattle.lx_split.proofs.expanding.take_include.Goals as goal

pub returns-in_err-first-clause-expands : goal.returns-in_err-first-clause-expands
returns-in_err-first-clause-expands g c = λ seen agrees.
    let walk = c.args.walk.now in
    let names = c.args.names.now in
    let include = c.args.wanted.now.include in
    MatchResult-residual c.from_residual.result c.in_err-first.field-0.0 _ _ c.from_residual.ensures.1
    (StopsExpansion-read (whole_from c.args.opts.now seen names walk (Some include)) (Rose (g.F.Files.faults c.args.files.now) (g.F.Files.faults c.find.new.files)) names
    c.in_err-first.field-0.0 c.in_err-first.ensures.refuses (AreFirstMet-from c.args.opts.now seen names walk include))

pub returns-in_default-clause-expands : goal.returns-in_default-clause-expands
returns-in_default-clause-expands g c = λ seen agrees.
    let walk = c.args.walk.now in
    let names = c.args.names.now in
    let wanted = c.args.wanted.now in
    let options = c.args.opts.now in
    let has = has_inner walk c.requires.inside in
    let looked = c.as_slice.ensures.value ∙ c.requires.wanted.looked_for ∙ ap (λ (folder : List ℕ). names_for options folder wanted.name) (ap inner_folder has.files) in
    let none = ap (first_file seen) (sym looked) ∙ c.in_ok-first.ensures.found seen agrees ∙ sym c.in_default.ensures in
    StopsExpansion-none (whole_from options seen names walk (Some wanted.include)) (Rose (g.F.Files.faults c.args.files.now) (g.F.Files.faults c.find.new.files)) names
    walk.total wanted.include.at wanted.name c.no_file.result
    (whole_from-none options seen names walk wanted.include has wanted.name c.requires.wanted.named c.requires.wanted.depth none)
    (rw c.as_str.ensures at c.no_file.ensures)

pub returns-in_err-enter_include-clause-expands : goal.returns-in_err-enter_include-clause-expands
returns-in_err-enter_include-clause-expands g c = λ seen agrees.
    let walk = c.args.walk.now in
    let names = c.args.names.now in
    let wanted = c.args.wanted.now in
    let options = c.args.opts.now in
    let looked = c.as_slice.ensures.value ∙ c.requires.wanted.looked_for in
    let found = ap (first_file seen) (sym looked) ∙ c.in_ok-first.ensures.found seen agrees ∙ sym c.in-Some.ensures in
    MatchResult-residual c.from_residual-in_err-enter_include.result (expand_stop c.in_err-enter_include.field-0.0) _ _ c.from_residual-in_err-enter_include.ensures.1
    (StopsExpansion-whole (whole_from options seen names walk (Some wanted.include)) (Rose (g.F.Files.faults c.args.files.now) (g.F.Files.faults c.find.new.files)) c.enter_include.new.names
    c.in_err-enter_include.field-0.0 (c.in_err-enter_include.ensures.expands seen wanted.name c.requires.wanted.named found))

pub returns-clause-expands : goal.returns-clause-expands
returns-clause-expands g c = λ seen agrees.
    let wanted = c.args.wanted.now in
    let looked = c.as_slice.ensures.value ∙ c.requires.wanted.looked_for in
    let found = ap (first_file seen) (sym looked) ∙ c.in_ok-first.ensures.found seen agrees ∙ sym c.in-Some.ensures in
    c.in_ok-enter_include.ensures.expands seen wanted.name c.requires.wanted.named found
