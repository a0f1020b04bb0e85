use Rattle.std.proofs.Common.{◌∙◌, ◌++◌, ℕ, suc, List, Option, None, add-one, ap, ap₂, arith, drop, length}
use Rattle.std.specs.Prelude.{slice_index_or}
use Rattle.std.specs.Option.{option_or}
use Rattle.lx_rules.specs.Environments.{Settings, names_over}
use Rattle.lx_rules.proofs.Spellings.SpelledNames.{less_max, names_over-behind, names_over-push}
use Rattle.lx_rules.proofs.environment.Settings.over.Goals as goal

pub loop-place-preserved : goal.loop-place-preserved
loop-place-preserved c =
    let here = c.args.self.now.names.items in
    let there = c.args.other.now.names.items in
    let place = c.loop-place.place in
    let word = c.in_ok-copy_over.ensures
    ∙ ap₂ (λ (l m : List (Option (List ℕ))). option_or (slice_index_or l place None) (slice_index_or m place None)) c.deref.ensures.value c.deref-in-loop-place.ensures.value in
    let within = less_max place (length here) (length there) (omega (arith, c.len.ensures, c.len-2.ensures, c.max-count.ensures, c.loop-place-test.true)) in
    rw (add-one place)
    (ap (λ l. l ++ names_over (drop (suc place) here) (drop (suc place) there)) c.in_ok-push.ensures.items
    ∙ names_over-push here there c.loop-place.names.items (names_over here there) place c.in_ok-copy_over.field-0 within word c.loop-place.invariant)

pub returns : goal.returns
returns c =
    let here = c.args.self.now.names.items in
    let there = c.args.other.now.names.items in
    let names = names_over-behind here there c.loop-place.names.items (names_over here there) c.loop-place.place (omega (arith, c.len.ensures, c.len-2.ensures, c.max-count.ensures, c.loop-place-test.false))
    (omega (arith, c.len.ensures, c.len-2.ensures, c.max-count.ensures, c.loop-place-test.false)) c.loop-place.invariant in
    let same : Settings = record { names = names_over here there; eof = c.or.result; fill = c.or-2.result } in
    ap (λ (l : List (Option (List ℕ))). record same { names = l }) names
    ∙ ap₂ (λ (eof : Option (Option ℕ)) fill. record same { eof = eof; fill = fill }) c.or.ensures c.or-2.ensures
