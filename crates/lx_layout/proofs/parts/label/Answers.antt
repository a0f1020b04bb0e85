use Rattle.std.proofs.Common.{◌≡◌, ◌∙◌, ◌<◌, ◌++◌, List, ℕ, Some, Option, ap, arith, length, sym}
use Rattle.lx_layout.specs.Parts.{labelled}
use Rattle.lx_layout.proofs.Laying.LaidWhole.{labelled-set}
use Rattle.lx_layout.proofs.parts.label.Goals as goal

pub returns-in_ok-name : goal.returns-in_ok-name
returns-in_ok-name c front codes put at =
    let blocks = c.args.blocks.now.items in
    let name : c.in_ok-name.name ≡ c.in-Some.cond = c.in_ok-name.ensures in
    let within : c.args.begin < length blocks = omega (arith, c.if-begin-len.true, c.len.ensures, c.args.blocks.now.ok.0) in
    labelled-set blocks front codes c.args.begin c.index_mut.result.now c.in_ok-name.name put at within c.index_mut.ensures.value
    ∙ ap (λ (n : List ℕ). front ++ labelled (Some n) codes) name
    ∙ ap (λ (o : Option (List ℕ)). front ++ labelled o codes) (sym c.in-Some.is)
