use Rattle.std.proofs.Common.{◌∙◌, sym, ap, map, Some}
use Rattle.lx_ccode.specs.NameSets.{first_place}
use Rattle.lx_step.specs.Tags.{name_of, told_name}
use Rattle.lx_step.proofs.TagTables.{AreTagsOf-known, AreTagsOf-new, AreTagsOf-unnamed, few_tags}
use Rattle.lx_step.proofs.tags.TagTable.list_one.Goals as goal
use Rattle.lx_step.proofs.tags.TagTable.list_one.Goals.{in-Some, in-None+in_ok-number-in-None}

pub returns-in_default-clause-tags : goal.returns-in_default-clause-tags
returns-in_default-clause-tags c = λ before tags. AreTagsOf-unnamed c.args.blocks.now before c.args.self.now c.args.statement.now c.in_default.not-Tag tags

pub returns-in_err-number-in-None-clause-succeeds : goal.returns-in_err-number-in-None-clause-succeeds
returns-in_err-number-in-None-clause-succeeds c = λ before tags enough.
    let none = ap (first_place (map (told_name c.args.blocks.now) c.args.self.now.tags.items)) (sym c.as_slice.ensures) ∙ sym c.number_of.ensures.number ∙ c.in-None.is in
    absurd (let bad = c.in_err-number-in-None.ensures.succeeds (few_tags c.args.blocks.now before c.args.self.now c.in-Tag.name c.in-Tag.is_history c.in-Tag.field-2 _ tags none (rw c.in-Tag.is at enough)) in cc)

pub returns-clause-tags : goal.returns-clause-tags
returns-clause-tags c = λ before tags.
    let found = ap (first_place (map (told_name c.args.blocks.now) c.args.self.now.tags.items)) (sym c.as_slice.ensures) ∙ sym c.number_of.ensures.number in
    elim c.match-number_of.branch [
      | in-Some w ↦
          rw c.in-Tag.is (AreTagsOf-known c.args.blocks.now before c.args.self.now c.mark.new.self c.in-Tag.name c.in-Tag.is_history c.in-Tag.field-2 w.in-Some.number tags (found ∙ w.in-Some.is)
          (rw (w.self-is, w.number-is) at c.mark.ensures.tags) (rw w.self-is at c.mark.ensures.latest))
      | in-None+in_ok-number-in-None w ↦
          rw c.in-Tag.is (AreTagsOf-new c.args.blocks.now before c.args.self.now w.add.new.self c.mark.new.self c.args.at c.in-Tag.name c.in-Tag.is_history c.in-Tag.field-2 tags (found ∙ w.in-None.is)
          (ap name_of c.requires.stands ∙ ap (λ one. name_of (Some one)) c.in-Tag.is)
          (rw w.as_slice-in-None.ensures at w.in_ok-number-in-None.ensures.tags) (rw w.as_slice-in-None.ensures at w.in_ok-number-in-None.ensures.latest)
          (rw (w.self-is, w.number-is, w.in_ok-number-in-None.ensures.number) at c.mark.ensures.tags) (rw w.self-is at c.mark.ensures.latest))
    ]
