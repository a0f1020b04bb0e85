-- What the automata of a block are, where it is known whether there is a first one.
use Rattle.std.proofs.Common.{◌≡◌, ℕ, List, [], ◌∷◌, Option, Some, None, ap, refl}
use Rattle.std.specs.Prelude.{unwrap_or}
use Rattle.lx_auto.specs.declared.automaton.Auto.{Auto}
use Rattle.lx_gen.specs.Automata.{seen_autos}
use Rattle.lx_gen.specs.declared.automata.ScannerAuto.{ScannerAuto}
use Rattle.lx_gen.specs.declared.automata.ScannerAuto.TheVariants.{Own, AsFirst}
use Rattle.lx_compile.specs.Models.{first_auto}

pub seen-none : (items : List ScannerAuto) → first_auto items ≡ None → seen_autos items ≡ []
seen-none [] none = refl
seen-none (Own auto checks ∷ items) none = absurd (let is = none in cc)
seen-none (AsFirst by ∷ items) none = refl

pub begins-own : (items : List ScannerAuto) (auto : Auto) → first_auto items ≡ Some auto
    → (checks : List ℕ) × (rest : List ScannerAuto) × (items ≡ Own auto checks ∷ rest)
begins-own [] auto some = absurd (let is = some in cc)
begins-own (Own first checks ∷ items) auto some =
    (checks, items, ap (λ (o : Option Auto). Own (unwrap_or o auto) checks ∷ items) some)
begins-own (AsFirst by ∷ items) auto some = absurd (let is = some in cc)
