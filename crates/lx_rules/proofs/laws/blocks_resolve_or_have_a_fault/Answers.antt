use Rattle.lx_forms.specs.Lexemes.{lexemes_of}
use Rattle.lx_rules.proofs.Blocks.BlockVerdicts.{body_expressions, verdict_among}
use Rattle.lx_rules.proofs.Blocks.ItemRuns.{body-alike}
use Rattle.lx_rules.proofs.Blocks.Readiness.{stands_ready}
use Rattle.lx_rules.proofs.laws.blocks_resolve_or_have_a_fault.Goals as goal

pub returns : goal.returns
returns c = λ options kind at environment body tokens items has stands read.
    verdict_among options kind has at environment (lexemes_of body tokens) items (stands_ready options environment stands)
    (body_expressions body tokens items (body-alike kind has body tokens items read))
