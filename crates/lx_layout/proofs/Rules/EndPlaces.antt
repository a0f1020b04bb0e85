-- The places of the ends of rules by the numbers of the rules.
use Rattle.std.specs.Prelude.{◌≡◌, ℕ, zero, suc, ◌+◌, ◌<◌, List, [], ◌∷◌, ◌++◌, length, Option, Some, None, Bool, true, false, IfSome, MatchOption, is_some, nat_eq, nat_lt, option_map, refl, slice_index_or, if◌then◌else◌}
use Rattle.std.proofs.Common.{sym, ap, ◌∙◌, subst, add-one, arith, eqb-true, length-take-le, lt-ltb, take, true≢false}
use Rattle.std.proofs.Math.Seq.{take-suc}
use Rattle.std.specs.Borrow.{Bor}
use Rattle.lx_layout.specs.NumberIndexes.{with_place}
use Rattle.lx_layout.specs.RuleEnds.{end_place, ending_of, endings_of, no_ending}
use Rattle.lx_layout.specs.declared.rule_ends.RuleEnd.{RuleEnd}
use Rattle.lx_layout.proofs.Rules.FirstPlaces.{first_place-pushed}

-- with the end behind the first ones the place of each number that has none is that of the end
pub end_place-next : (ends : List RuleEnd) (place : ℕ) (end : RuleEnd) (number : ℕ) → place < length ends → end ≡ slice_index_or ends place end
    → end_place (take (place + 1) ends) number ≡ with_place (end_place (take place ends) number) end.rule.now.number place number
end_place-next ends place end number lt read =
    let count : length (take place ends) ≡ place = length-take-le place ends (omega (arith, lt)) in
    ap (λ n. end_place (take n ends) number) (add-one place)
    ∙ ap (λ l. end_place l number) (take-suc ends place end lt ∙ ap (λ other. take place ends ++ other ∷ []) (sym read))
    ∙ first_place-pushed (λ (other : RuleEnd). other.rule.now.number) (take place ends) end number
    ∙ ap (λ n. with_place (end_place (take place ends) number) end.rule.now.number n number) count

pub end_place-none : (ends : List RuleEnd) (number : ℕ) → end_place ends number ≡ None → endings_of ends number ≡ no_ending
end_place-none [] number is = refl
end_place-none (end ∷ ends) number is =
    by (nat_eq number end.rule.now.number) (end_place ends number) (λ e. end_place-none ends number e) is refl
  where
    by : (t : Bool) (found : Option ℕ) → (end_place ends number ≡ None → endings_of ends number ≡ no_ending)
        → (if t then Some 0 else option_map suc found) ≡ None → end_place ends number ≡ found
        → (if t then ending_of end else endings_of ends number) ≡ no_ending
    by true found again is has = absurd (cc)
    by false None again is has = again has
    by false (Some place) again is has = absurd (cc)

-- the end at the place of a number is that of the rule
abbrev pub IsEndOf : List RuleEnd → (number : ℕ) → RuleEnd → Type 0
IsEndOf ends number end = (endings_of ends number ≡ ending_of end) × (end.rule.now.number ≡ number)

abbrev pub StandsAt : List RuleEnd → (number place : ℕ) → Type 0
StandsAt ends number place = (place < length ends) × ((other : RuleEnd) → IsEndOf ends number (slice_index_or ends place other))

pub end_place-some : (ends : List RuleEnd) (number place : ℕ) → end_place ends number ≡ Some place → StandsAt ends number place
end_place-some [] number place is = absurd (cc)
end_place-some (end ∷ ends) number place is =
    by (nat_eq number end.rule.now.number) refl (end_place ends number) (λ behind e. end_place-some ends number behind e) is
  where
    at : (t : Bool) → ℕ → Type 0
    at t found = (found < length (end ∷ ends))
        × ((other : RuleEnd) → ((if t then ending_of end else endings_of ends number) ≡ ending_of (slice_index_or (end ∷ ends) found other))
        × ((slice_index_or (end ∷ ends) found other).rule.now.number ≡ number))

    by : (t : Bool) → nat_eq number end.rule.now.number ≡ t → (found : Option ℕ)
        → ((behind : ℕ) → found ≡ Some behind → StandsAt ends number behind)
        → (if t then Some 0 else option_map suc found) ≡ Some place
        → (place < length (end ∷ ends))
        × ((other : RuleEnd) → ((if t then ending_of end else endings_of ends number) ≡ ending_of (slice_index_or (end ∷ ends) place other))
        × ((slice_index_or (end ∷ ends) place other).rule.now.number ≡ number))
    by true same found again e = let zeroth : zero ≡ place = cc in
        subst (λ n. at true n) zeroth (omega arith, λ other. (refl, sym (eqb-true number end.rule.now.number same)))
    by false other None again e = absurd (cc)
    by false differ (Some behind) again e = let next : suc behind ≡ place = cc in
        let h : StandsAt ends number behind = again behind refl in
        subst (λ n. at false n) next (omega (arith, h.0), λ other. h.1 other)

-- what is read at that place
pub end_found : (ends : List RuleEnd) (number place : ℕ) (found : Option (Bor RuleEnd)) → Some place ≡ end_place ends number
    → is_some found ≡ nat_lt place (length ends) → IfSome found (λ end. end.now ≡ slice_index_or ends place end.now)
    → MatchOption found ((endings_of ends number ≡ no_ending) × (end_place ends number ≡ None)) (λ end. IsEndOf ends number end.now)
end_found ends number place None is some read =
    let h : StandsAt ends number place = end_place-some ends number place (sym is) in
    absurd (true≢false (sym (some ∙ lt-ltb place (length ends) h.0)))
end_found ends number place (Some end) is some read =
    let h : StandsAt ends number place = end_place-some ends number place (sym is) in
    subst (λ other. IsEndOf ends number other) (sym read) (h.1 end.now)
