use Rattle.std.proofs.Common.{refl}
use Rattle.lx_auto.specs.declared.automaton.Auto.{Auto}
use Rattle.lx_min.specs.Merges.{IsMerge}
use Rattle.lx_min.specs.Numberings.{numbered_classes}
use Rattle.lx_min.proofs.MergedLists.{IsAuto-merged, IsMerge-listed}
use Rattle.lx_min.proofs.merging.merged.Goals as goal

pub returns-clause-merge : goal.returns-clause-merge
returns-clause-merge c =
    IsMerge-listed c.args.auto (numbered_classes c.args.numbering.now) c.args.numbering.now.chosen.items c.in_ok-merged_states.field-0
    c.requires.numbering.classes refl (λ number. refl) c.in_ok-merged_states.ensures

pub returns-clause-formed : goal.returns-clause-formed
returns-clause-formed c =
    let answer : Auto = record { states = c.in_ok-merged_states.field-0; regs = c.args.auto.regs; mregs = c.args.auto.mregs } in
    let is : IsMerge c.args.auto answer (numbered_classes c.args.numbering.now) =
    IsMerge-listed c.args.auto (numbered_classes c.args.numbering.now) c.args.numbering.now.chosen.items c.in_ok-merged_states.field-0
    c.requires.numbering.classes refl (λ number. refl) c.in_ok-merged_states.ensures in
    IsAuto-merged c.args.auto answer (numbered_classes c.args.numbering.now) is c.requires.formed c.requires.numbering.few
