use Rattle.std.proofs.Common.{◌∙◌, ap, sym, subst, List, ℕ, IsTrue, ◌↔◌, arith}
use Rattle.std.specs.Prelude.{codes, nat_eq}
use Rattle.std.proofs.lemmas.Bool.Decides.{Decides-eqb}
use Rattle.lx_base.specs.Letters.{is_digit, after_letters, front_letters}
use Rattle.lx_ccode.specs.Reading.{number_at}
use Rattle.lx_creader.specs.Fitted.{long}
use Rattle.lx_creader.specs.Marks.{HasNoNeedlessZero}
use Rattle.lx_creader.proofs.BeginMarks.{numbered_decides, TellsFront, begin}
use Rattle.lx_creader.proofs.find.begins_piece.Goals as goal

pub returns : goal.returns
returns c =
    let bytes = c.args.bytes.now in
    let text = c.skip-text.ensures in
    let value = c.long_at.ensures ∙ ap (λ t. long (number_at t)) text in
    let begins : TellsFront c.begins_with-begins.result bytes begin = record { stands = c.begins_with-begins.ensures.stands; differs = c.begins_with-begins.ensures.differs } in
    let spelled = subst (λ (l : List ℕ). IsTrue c.has_no_needless_zero-spelled.result ↔ HasNoNeedlessZero l) (c.front_digits.ensures ∙ ap (front_letters is_digit) text) c.has_no_needless_zero-spelled.ensures in
    let told : TellsFront c.begins_with-closes.result c.after_digits.result.now (codes "*/") = record { stands = c.begins_with-closes.ensures.stands; differs = c.begins_with-closes.ensures.differs } in
    let closes = subst (λ (l : List ℕ). TellsFront c.begins_with-closes.result l (codes "*/")) (c.after_digits.ensures ∙ ap (after_letters is_digit) text) told in
    let same = Decides-eqb c.long_at.result c.from.result in
    numbered_decides bytes c.args.number c.begins_with-begins.result c.has_no_needless_zero-spelled.result (nat_eq c.long_at.result c.from.result) c.begins_with-closes.result c.are_true.result
    (omega arith) begins spelled (λ e. sym value ∙ same.0 e ∙ c.from.ensures, λ is. same.1 (value ∙ is ∙ sym c.from.ensures)) closes c.are_true.ensures
