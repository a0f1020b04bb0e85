use Rattle.std.proofs.Common.{◌≡◌, ◌∙◌, ◌++◌, ◌∷◌, [], ℕ, List, ap, sym}
use Rattle.std.specs.Prelude.{codes}
use Rattle.std.proofs.lemmas.Result.{on_ok_weaker}
use Rattle.lx_base.specs.Text.{joined}
use Rattle.lx_ccode.proofs.Tails.{joined-nil}
use Rattle.lx_compile.specs.Warnings.{saying, units_text}
use Rattle.lx_warn.specs.declared.lists.Warning.{Warning}
use Rattle.lx_warn.specs.declared.lists.Warning.TheVariants.{Undefined}
use Rattle.lx_compile.proofs.warning_lines.append_saying.Goals as goal

-- what is said of a word, in two parts
saying-undefined : (old middle new word units : List ℕ) (warning : Warning) → warning ≡ Undefined word → units ≡ word
    → middle ≡ old ++ joined (codes "no rule after" ∷ []) [] → new ≡ middle ++ units_text units → new ≡ old ++ saying warning
saying-undefined old middle new word units warning is same first second =
    second ∙ ap (λ text. text ++ units_text units) first ∙ joined-nil (codes "no rule after" ∷ []) old (units_text units)
    ∙ ap (λ word. old ++ joined (codes "no rule after" ∷ []) (units_text word)) same ∙ ap (λ one. old ++ saying one) (sym is)

pub returns-in_ok-append_parts-in-Undefined : goal.returns-in_ok-append_parts-in-Undefined
returns-in_ok-append_parts-in-Undefined c =
    on_ok_weaker c.append_units.result
    (saying-undefined _ _ _ c.in-Undefined.word c.as_slice.result.now c.args.warning.now c.in-Undefined.is c.as_slice.ensures
    c.in_ok-append_parts-in-Undefined.ensures) c.append_units.ensures
