use Rattle.std.proofs.Common.{◌≡◌, ◌∙◌, ◌∷◌, ◌+◌, ◌++◌, ℕ, List, Option, ap, sym, subst, drop, arith}
use Rattle.std.proofs.lemmas.Result.{err_from_is_err_and}
use Rattle.lx_base.specs.Names.{Spellings}
use Rattle.lx_base.specs.declared.faults.Fault.{Fault}
use Rattle.lx_base.specs.declared.faults.Stop.{Stop}
use Rattle.lx_compile.specs.Facts.{directives_fault, fault_among}
use Rattle.lx_compile.specs.Writing.{StopsAs, made_text, output_text, text_among}
use Rattle.lx_compile.specs.declared.made.Made.{Made}
use Rattle.lx_compile.proofs.AskedFacts.{CanTell-at}
use Rattle.lx_compile.proofs.ItemRuns.{drop-item}
use Rattle.lx_compile.proofs.WrittenTexts.{line_after-written, number_behind-le, shown-within, text_among-more}
use Rattle.lx_compile.proofs.writing.append_all.Goals as goal

pub slice_bounds-line_after-count : goal.slice_bounds-line_after-count
slice_bounds-line_after-count c =
    let all : List Made = c.args.made.now in
    let place = c.loop-one.one-index in
    let one : Made = c.one-item.result in
    let output : List ℕ = c.loop-one.output.items in
    let after : List ℕ = c.append_made.new.output.items in
    let text : List ℕ = made_text c.args.names.now c.args.out.now all c.loop-one.number c.loop-one.line one in
    let tell = CanTell-at c.args.facts.now all place one c.loop-one-test.true c.one-item.is c.requires.facts in
    let written = c.in_ok-append_made.ensures all (drop (place + 1) all) tell in
    let is : after ≡ output ++ text = written.0 in
    shown-within c.len-before.result output text after c.as_slice.result.now (c.len-before.ensures ∙ c.loop-one.output.ok.0) is
    c.as_slice.ensures.value

pub slice_bounds-line_after-start : goal.slice_bounds-line_after-start
slice_bounds-line_after-start c =
    let all : List Made = c.args.made.now in
    let place = c.loop-one.one-index in
    let one : Made = c.one-item.result in
    let output : List ℕ = c.loop-one.output.items in
    let after : List ℕ = c.append_made.new.output.items in
    let text : List ℕ = made_text c.args.names.now c.args.out.now all c.loop-one.number c.loop-one.line one in
    let tell = CanTell-at c.args.facts.now all place one c.loop-one-test.true c.one-item.is c.requires.facts in
    let written = c.in_ok-append_made.ensures all (drop (place + 1) all) tell in
    let is : after ≡ output ++ text = written.0 in
    shown-within c.len-before.result output text after c.as_slice.result.now (c.len-before.ensures ∙ c.loop-one.output.ok.0) is
    c.as_slice.ensures.value

pub loop-one-preserved : goal.loop-one-preserved
loop-one-preserved c =
    let names : Spellings = c.args.names.now in
    let out : List ℕ = c.args.out.now in
    let all : List Made = c.args.made.now in
    let place = c.loop-one.one-index in
    let one : Made = c.one-item.result in
    let rest : List Made = drop (place + 1) all in
    let number : ℕ = c.loop-one.number in
    let line : ℕ = c.loop-one.line in
    let output : List ℕ = c.loop-one.output.items in
    let after : List ℕ = c.append_made.new.output.items in
    let whole : List ℕ = c.args.output.now.items ++ output_text names out all in
    let text : List ℕ = made_text names out all number line one in
    let from = drop-item all place one c.loop-one-test.true c.one-item.is in
    let tell = CanTell-at c.args.facts.now all place one c.loop-one-test.true c.one-item.is c.requires.facts in
    let written = c.in_ok-append_made.ensures all rest tell in
    let is : after ≡ output ++ text = written.0 in
    let clean : fault_among names all (one ∷ rest) ≡ fault_among names all rest = written.1 in
    let before : output ++ text_among names out all number line (one ∷ rest) ≡ whole =
    ap (λ l. output ++ text_among names out all number line l) (sym from) ∙ c.loop-one.invariant.text in
    let faults : fault_among names all (one ∷ rest) ≡ directives_fault names all =
    ap (fault_among names all) (sym from) ∙ c.loop-one.invariant.fault in
    let begins = line_after-written line c.line_after-line.result c.len-before.result output text after c.as_slice.result.now
    (c.len-before.ensures ∙ c.loop-one.output.ok.0) is c.as_slice.ensures.value c.line_after-line.ensures in
    let most = number_behind-le number one in record {
      text =
          text_among-more names out all number line one rest output after whole c.number_behind-number.result c.line_after-line.result
          before is c.number_behind-number.ensures begins;
      fault = sym clean ∙ faults;
      small = omega (arith, c.number_behind-number.ensures, most, c.loop-one.invariant.small);
    }

pub returns-in_err-append_made : goal.returns-in_err-append_made
returns-in_err-append_made c =
    let names : Spellings = c.args.names.now in
    let all : List Made = c.args.made.now in
    let place = c.loop-one.one-index in
    let one : Made = c.one-item.result in
    let rest : List Made = drop (place + 1) all in
    let from = drop-item all place one c.loop-one-test.true c.one-item.is in
    let faults : fault_among names all (one ∷ rest) ≡ directives_fault names all =
    ap (fault_among names all) (sym from) ∙ c.loop-one.invariant.fault in
    let tell = CanTell-at c.args.facts.now all place one c.loop-one-test.true c.one-item.is c.requires.facts in
    let stopped : Stop = c.in_err-append_made.field-0.0 in
    let stops : StopsAs (fault_among names all (one ∷ rest)) stopped = c.in_err-append_made.ensures all rest tell in
    let p = err_from_is_err_and c.from_residual.result c.from_residual.ensures.1 in
    rw (p.1, p.2) (subst (λ (found : Option Fault). StopsAs found stopped) faults stops)
