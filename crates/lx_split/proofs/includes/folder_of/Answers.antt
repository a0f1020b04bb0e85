use Rattle.std.proofs.Common.{◌≡◌, ◌+◌, ◌-◌, ap, ℕ, arith, sym, ◌∙◌, subst, take}
use Rattle.std.proofs.lemmas.Bool.{eqb-true}
use Rattle.std.proofs.lemmas.Str.{IsCharBoundary-after_ascii}
use Rattle.std.specs.List.{slice_index}
use Rattle.memchr.specs.Find.{IsLastByte, is_byte}
use Rattle.std.specs.Prelude.{Some, None}
use Rattle.lx_split.proofs.IncludeTexts.{folder_of-last, folder_of-none}
use Rattle.lx_split.proofs.includes.folder_of.Goals as goal

pub range-requires-clause-end_boundary : goal.range-requires-clause-end_boundary
range-requires-clause-end_boundary c =
    let name = c.args.name.now in
    let last = subst (λ l. IsLastByte (is_byte 47) l (Some c.in-Some.index)) c.as_bytes.ensures.value c.in-Some.ensures in
    let within = last.0.high in
    let slash = eqb-true (slice_index name c.in-Some.index) 47 last.1 in
    IsCharBoundary-after_ascii name c.in-Some.index c.utf8.name within (omega arith)

pub returns-in-Some : goal.returns-in-Some
returns-in-Some c =
    let name = c.args.name.now in
    let last = subst (λ l. IsLastByte (is_byte 47) l (Some c.in-Some.index)) c.as_bytes.ensures.value c.in-Some.ensures in
    let whole = folder_of-last name c.in-Some.index last.0.high last.1 last.0.after in
    let size : c.in-Some.index + 1 - 0 ≡ c.in-Some.index + 1 = omega arith in
    c.range.ensures.value ∙ ap (λ (n : ℕ). take n name) size ∙ sym whole

pub returns-in-None : goal.returns-in-None
returns-in-None c =
    let name = c.args.name.now in
    sym (folder_of-none name (subst (λ l. IsLastByte (is_byte 47) l None) c.as_bytes.ensures.value c.in-None.ensures))
