use Rattle.std.proofs.Common.{◌≡◌, ◌∙◌, ◌+◌, ◌++◌, ◌∷◌, [], None, Some, Bor, Global, ap, drop, get_or, map, sym, append_assoc}
use Rattle.std.proofs.lemmas.List.{map-append}
use Rattle.std.proofs.lemmas.Option.{slice_get-get_or, slice_get-map, slice_get_past}
use Rattle.std.specs.Option.{option_map}
use Rattle.std.specs.Prelude.{slice_get}
use Rattle.std.specs.declared.rc.Rc.{Rc}
use Rattle.lx_rules.specs.declared.kept.KeptRule.{KeptRule}
use Rattle.lx_rules.specs.Finishing.{kept_at}
use Rattle.lx_rules.proofs.ScannerSets.KeptScanners.{kept_at-next}
use Rattle.lx_rules.proofs.scanners.rules_under.Goals as goal

abbrev rule_in : Rc KeptRule Global → KeptRule
rule_in held = held.value

pub loop-place-preserved-in_default : goal.loop-place-preserved-in_default
loop-place-preserved-in_default c =
    let places = c.places-places.result.now in
    let held = c.as_slice-held.result.now in
    let index = c.loop-place.place-index in
    let place = get_or places index 0 in
    let none : slice_get (map rule_in held) place ≡ None =
    slice_get-map rule_in held place ∙ ap (option_map rule_in) (slice_get_past held place c.in_default.ensures.lookup.3) in
    ap (λ l. map (λ (one : Bor KeptRule). one.now) c.loop-place.rules.items ++ l)
    (sym (kept_at-next places (map rule_in held) index None c.loop-place-test.true none))
    ∙ c.loop-place.invariant

pub loop-place-preserved : goal.loop-place-preserved
loop-place-preserved c =
    let places = c.places-places.result.now in
    let held = c.as_slice-held.result.now in
    let index = c.loop-place.place-index in
    let place = get_or places index 0 in
    let rule = c.in-Some.rule in
    let rest = kept_at (drop (index + 1) places) (map rule_in held) in
    let before = map (λ (one : Bor KeptRule). one.now) c.loop-place.rules.items in
    let lookup = c.in-Some.ensures.lookup in
    let found : slice_get (map rule_in held) place ≡ Some rule.now.value =
    slice_get-map rule_in held place ∙ ap (option_map rule_in) (slice_get-get_or held place rule.now lookup.3.0 ∙ ap Some (sym lookup.1)) in
    ap (λ l. map (λ (one : Bor KeptRule). one.now) l ++ rest) c.in_ok-push.ensures.items
    ∙ ap (λ l. l ++ rest) (map-append (λ (one : Bor KeptRule). one.now) c.loop-place.rules.items (c.deref.result ∷ []))
    ∙ append_assoc before (c.deref.result.now ∷ []) rest
    ∙ ap (λ (value : KeptRule). before ++ value ∷ rest) c.deref.ensures
    ∙ ap (λ l. before ++ l) (sym (kept_at-next places (map rule_in held) index (Some rule.now.value) c.loop-place-test.true found)) ∙ c.loop-place.invariant
