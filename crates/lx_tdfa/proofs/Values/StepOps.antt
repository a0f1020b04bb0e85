-- What the operations of steps and endings leave in registers.
use Rattle.std.proofs.Common.{◌≡◌, ◌≢◌, ℕ, zero, suc, ◌+◌, ◌*◌, ◌<◌, ◌≤◌, max, List, [], ◌∷◌, length, Some, Bool, true, false, nat_eq, if◌then◌else◌, slice_get, slice_index, refl, ap, ◌∙◌, sym, subst, arith, mul-le-mul_right, suc-mul, unwrap_or}
use Rattle.std.proofs.lemmas.Option.{slice_get_within}
use Rattle.lx_auto.specs.declared.ops.Op.{Op}
use Rattle.lx_tnfa.specs.Tnfa.{Tnfa, kinds_for}
use Rattle.lx_tnfa.specs.declared.states.Event.{Event}
use Rattle.lx_tdfa.specs.Registers.{all_tag_ops, ending_ops, first_of, kinds_at, kinds_of_rule, step_ops, tag_ops, widest}
use Rattle.lx_tdfa.specs.Steps.{Ending, Step}
use Rattle.lx_tdfa.proofs.Values.RegisterWrites.{AllAvoid, AllAvoid-append, IsAlone, alone, alone-before, alone-behind}
use Rattle.lx_tdfa.proofs.Values.TagOps.{tag_ops-avoid}

-- no rule has more tags than the widest
kinds_for-widest : (rules : List (ℕ × List Bool)) (number : ℕ) → length (unwrap_or (kinds_for rules number) []) ≤ widest rules
kinds_for-widest [] number = omega arith
kinds_for-widest (rule ∷ rules) number = at (nat_eq rule.0 number) (kinds_for-widest rules number)
  where
    at : (b : Bool) → length (unwrap_or (kinds_for rules number) []) ≤ widest rules
        → length (unwrap_or (if b then Some rule.1 else kinds_for rules number) []) ≤ max (length rule.1) (widest rules)
    at true rest = omega arith
    at false rest = omega arith

pub kinds_of_rule-widest : (tnfa : Tnfa) (rule : ℕ) → length (kinds_of_rule tnfa rule) ≤ widest tnfa.rules
kinds_of_rule-widest tnfa rule = kinds_for-widest tnfa.rules rule

first_of-suc : (width index : ℕ) → first_of width (suc index) ≡ first_of width index + width
first_of-suc width index = suc-mul (suc index) width

first_of-le : (width low high : ℕ) → low ≤ high → first_of width low ≤ first_of width high
first_of-le width low high le = let more : suc low ≤ suc high = omega arith in mul-le-mul_right width more

-- the registers of places come behind the first ones
pub first_of-width : (width index : ℕ) → width ≤ first_of width index
first_of-width width index = let e : first_of width index ≡ index * width + width = suc-mul index width in omega arith

pub all_tag_ops-avoid : (reg : ℕ) (first : Bool) (source target tag : ℕ) (events : List Event) (kinds : List Bool)
    → ((k : ℕ) → k < length kinds → reg ≡ target + k → ⊥) → AllAvoid reg (all_tag_ops first source target tag events kinds)
all_tag_ops-avoid reg first source target tag events [] out = tt
all_tag_ops-avoid reg first source target tag events (many ∷ kinds) out =
    AllAvoid-append reg (tag_ops first source target tag events many) (all_tag_ops first (suc source) (suc target) (suc tag) events kinds)
    (tag_ops-avoid reg target here first source tag events many)
    (all_tag_ops-avoid reg first (suc source) (suc target) (suc tag) events kinds later)
  where
    here : reg ≢ target
    here e = let at : reg ≡ target + 0 = omega arith in let within : 0 < suc (length kinds) = omega arith in out 0 within at

    later : (k : ℕ) → k < length kinds → reg ≡ suc target + k → ⊥
    later k within e = let at : reg ≡ target + suc k = omega arith in let more : suc k < suc (length kinds) = omega arith in out (suc k) more at

alone_same : (reg other : ℕ) (ops block same : List Op) → other ≡ reg → block ≡ same → IsAlone other ops block → IsAlone reg ops same
alone_same reg other ops block same at is a = subst (λ r. IsAlone r ops same) at (subst (λ b. IsAlone other ops b) is a)

pub all_tag_ops-alone : (first : Bool) (source target tag : ℕ) (events : List Event) (kinds : List Bool) (t from reg number : ℕ) (many : Bool)
    → slice_get kinds t ≡ Some many → reg ≡ target + t → from ≡ source + t → number ≡ tag + t
    → IsAlone reg (all_tag_ops first source target tag events kinds) (tag_ops first from reg number events many)
all_tag_ops-alone first source target tag events [] t from reg number many at r f n = absurd (cc at)
all_tag_ops-alone first source target tag events (other ∷ kinds) zero from reg number many at r f n =
    let r' : target ≡ reg = omega arith in
    let f' : source ≡ from = omega arith in
    let n' : tag ≡ number = omega arith in
    let m' : other ≡ many = cc at in
    let same : tag_ops first source target tag events other ≡ tag_ops first from reg number events many =
    ap (λ s. tag_ops first s target tag events other) f' ∙ ap (λ s. tag_ops first from s tag events other) r'
    ∙ ap (λ s. tag_ops first from reg s events other) n' ∙ ap (λ s. tag_ops first from reg number events s) m' in
    alone_same reg target (all_tag_ops first source target tag events (other ∷ kinds)) (tag_ops first source target tag events other)
    (tag_ops first from reg number events many) r' same
    (alone target (tag_ops first source target tag events other) (all_tag_ops first (suc source) (suc target) (suc tag) events kinds)
    (all_tag_ops-avoid target first (suc source) (suc target) (suc tag) events kinds (λ k within e. omega arith)))
all_tag_ops-alone first source target tag events (other ∷ kinds) (suc t) from reg number many at r f n =
    let r' : reg ≡ suc target + t = omega arith in
    let f' : from ≡ suc source + t = omega arith in
    let n' : number ≡ suc tag + t = omega arith in
    let apart : reg ≢ target = λ e. omega arith in
    alone-behind reg (tag_ops first source target tag events other) (all_tag_ops first (suc source) (suc target) (suc tag) events kinds)
    (tag_ops first from reg number events many) (tag_ops-avoid reg target apart first source tag events other)
    (all_tag_ops-alone first (suc source) (suc target) (suc tag) events kinds t from reg number many at r' f' n')

-- with so many registers for each place
module _ (tnfa : Tnfa) (width : ℕ) (narrow : (rule : ℕ) → length (kinds_of_rule tnfa rule) ≤ width) where
  pub step_ops-avoid : (first : Bool) (index : ℕ) (steps : List Step) (reg : ℕ) → reg < first_of width index
      → AllAvoid reg (step_ops tnfa width first index steps)
  step_ops-avoid first index [] reg below = tt
  step_ops-avoid first index (step ∷ steps) reg below =
      let e : first_of width (suc index) ≡ first_of width index + width = first_of-suc width index in
      let below' : reg < first_of width (suc index) = omega arith in
      AllAvoid-append reg (all_tag_ops first (first_of width step.from) (first_of width index) 0 step.events (kinds_at tnfa step.to))
      (step_ops tnfa width first (suc index) steps)
      (all_tag_ops-avoid reg first (first_of width step.from) (first_of width index) 0 step.events (kinds_at tnfa step.to) (λ k within e. omega arith))
      (step_ops-avoid first (suc index) steps reg below')

  pub step_ops-alone : (first : Bool) (index : ℕ) (steps : List Step) (place : ℕ) (step : Step) (t reg : ℕ) (many : Bool)
      → slice_get steps place ≡ Some step → slice_get (kinds_at tnfa step.to) t ≡ Some many → reg ≡ first_of width (index + place) + t
      → IsAlone reg (step_ops tnfa width first index steps) (tag_ops first (first_of width step.from + t) reg t step.events many)
  step_ops-alone first index [] place step t reg many at kind r = absurd (cc at)
  step_ops-alone first index (other ∷ steps) zero step t reg many at kind r =
      let same : other ≡ step = cc at in
      subst (λ s. IsAlone reg (step_ops tnfa width first index (s ∷ steps)) (tag_ops first (first_of width step.from + t) reg t step.events many)) (sym same)
      (let kinds : List Bool = kinds_at tnfa step.to in
      let within : t < length kinds = slice_get_within kinds t many kind in
      let short : length kinds ≤ width = narrow (slice_index tnfa.owners step.to.part) in
      let e : first_of width (suc index) ≡ first_of width index + width = first_of-suc width index in
      let i : first_of width (index + 0) ≡ first_of width index = (let z : index + 0 ≡ index = omega arith in ap (first_of width) z) in
      let r' : reg ≡ first_of width index + t = omega arith in
      let below : reg < first_of width (suc index) = omega arith in
      alone-before reg (all_tag_ops first (first_of width step.from) (first_of width index) 0 step.events kinds)
      (step_ops tnfa width first (suc index) steps) (tag_ops first (first_of width step.from + t) reg t step.events many)
      (step_ops-avoid first (suc index) steps reg below)
      (all_tag_ops-alone first (first_of width step.from) (first_of width index) 0 step.events kinds t (first_of width step.from + t) reg t many kind r' refl (omega arith)))
  step_ops-alone first index (other ∷ steps) (suc place) step t reg many at kind r =
      let z : index + suc place ≡ suc index + place = omega arith in
      let i : first_of width (index + suc place) ≡ first_of width (suc index + place) = ap (first_of width) z in
      let r' : reg ≡ first_of width (suc index + place) + t = omega arith in
      let up : suc index ≤ suc index + place = omega arith in
      let above : first_of width (suc index) ≤ first_of width (suc index + place) = first_of-le width (suc index) (suc index + place) up in
      let e : first_of width (suc index) ≡ first_of width index + width = first_of-suc width index in
      let short : length (kinds_at tnfa other.to) ≤ width = narrow (slice_index tnfa.owners other.to.part) in
      alone-behind reg (all_tag_ops first (first_of width other.from) (first_of width index) 0 other.events (kinds_at tnfa other.to))
      (step_ops tnfa width first (suc index) steps) (tag_ops first (first_of width step.from + t) reg t step.events many)
      (all_tag_ops-avoid reg first (first_of width other.from) (first_of width index) 0 other.events (kinds_at tnfa other.to) (λ k within e. omega arith))
      (step_ops-alone first (suc index) steps place step t reg many at kind r')

  pub ending_ops-avoid : (first : Bool) (ending : Ending) (reg : ℕ) → width ≤ reg → AllAvoid reg (ending_ops tnfa width first ending)
  ending_ops-avoid first ending reg above =
      let short : length (kinds_of_rule tnfa ending.rule) ≤ width = narrow ending.rule in
      all_tag_ops-avoid reg first (first_of width ending.from) 0 0 ending.events (kinds_of_rule tnfa ending.rule) (λ k within e. omega arith)

  pub ending_ops-alone : (first : Bool) (ending : Ending) (t : ℕ) (many : Bool) → slice_get (kinds_of_rule tnfa ending.rule) t ≡ Some many
      → IsAlone t (ending_ops tnfa width first ending) (tag_ops first (first_of width ending.from + t) t t ending.events many)
  ending_ops-alone first ending t many kind =
      all_tag_ops-alone first (first_of width ending.from) 0 0 ending.events (kinds_of_rule tnfa ending.rule) t (first_of width ending.from + t) t t many kind
      (omega arith) refl (omega arith)
