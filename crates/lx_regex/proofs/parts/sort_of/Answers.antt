use Rattle.std.proofs.Common.{◌∙◌, sym, ap, ⊎_elim}
use Rattle.lx_regex.specs.declared.parts.PartSort.TheVariants.{Class, Group}
use Rattle.lx_regex.proofs.Trees.Folds.{term_of-empty, term_of-class, term_of-any_unit, term_of-cat, term_of-alt, term_of-rep, term_of-stag, term_of-mtag, term_of-group}
use Rattle.lx_regex.proofs.PartTables.PartLists.{sort_for, set_of-ranges_of, group_number}
use Rattle.lx_regex.proofs.parts.sort_of.Goals as goal
use Rattle.lx_regex.proofs.parts.sort_of.Goals.{in-Empty, in-Class+in_ok-copy-in-Class, in-AnyUnit, in-Cat, in-Alt, in-Rep, in-Group, in-STag2}

pub returns : goal.returns
returns c =
    let e = c.args.expr.now in
    let sort = c.match-expr.sort in
    elim c.match-expr.branch [
      | in-Empty w ↦ sort_for sort e _ _ w.in-Empty.is term_of-empty (λ tags. w.sort-is)
      | in-Class+in_ok-copy-in-Class w ↦ sort_for sort e _ _ w.in-Class.is (λ tags. term_of-class tags w.in-Class.set)
          (λ tags. w.sort-is ∙ ap Class (w.in_ok-copy-in-Class.ensures.ranges ∙ sym (set_of-ranges_of w.in-Class.set)))
      | in-AnyUnit w ↦ sort_for sort e _ _ w.in-AnyUnit.is term_of-any_unit (λ tags. w.sort-is)
      | in-Cat w ↦ sort_for sort e _ _ w.in-Cat.is (λ tags. term_of-cat tags _) (λ tags. w.sort-is)
      | in-Alt w ↦ sort_for sort e _ _ w.in-Alt.is (λ tags. term_of-alt tags _) (λ tags. w.sort-is)
      | in-Rep w ↦ sort_for sort e _ _ w.in-Rep.is (λ tags. term_of-rep tags _ _ _) (λ tags. w.sort-is)
      | in-Group w ↦ sort_for sort e _ _ w.in-Group.is (λ tags. term_of-group tags w.in-Group.number w.in-Group.field-1)
          (λ tags. w.sort-is ∙ ap Group (sym (group_number tags w.in-Group.number)))
      | in-STag2 w ↦ ⊎_elim
          (λ h. sort_for sort e _ _ h (λ tags. term_of-stag tags w.in-STag.number) (λ tags. w.sort-is))
          (λ h. sort_for sort e _ _ h (λ tags. term_of-mtag tags w.in-STag.number) (λ tags. w.sort-is)) w.in-STag.is
    ]
