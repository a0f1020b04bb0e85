use Rattle.std.proofs.Common.{◌∙◌, ap, subst, List, ℕ, IsTrue, ◌↔◌}
use Rattle.std.specs.Prelude.{codes, nat_lt}
use Rattle.std.proofs.lemmas.Bool.Decides.{Decides-ltb}
use Rattle.lx_base.specs.Letters.{is_digit, after_letters, front_letters}
use Rattle.lx_ccode.specs.Reading.{number_at}
use Rattle.lx_creader.specs.Fitted.{long}
use Rattle.lx_creader.specs.Marks.{HasNoNeedlessZero}
use Rattle.lx_creader.proofs.BeginMarks.{scanner_decides, TellsFront, begin}
use Rattle.lx_creader.proofs.find.begins_scanner.Goals as goal

pub returns : goal.returns
returns c =
    let bytes = c.args.bytes.now in
    let text = c.skip-text.ensures in
    let value = c.long_at-small.ensures ∙ ap (λ t. long (number_at t)) text in
    let begins : TellsFront c.begins_with-begins.result bytes begin = record { stands = c.begins_with-begins.ensures.stands; differs = c.begins_with-begins.ensures.differs } in
    let spelled = subst (λ (l : List ℕ). IsTrue c.has_no_needless_zero-spelled.result ↔ HasNoNeedlessZero l) (c.front_digits.ensures ∙ ap (front_letters is_digit) text) c.has_no_needless_zero-spelled.ensures in
    let rest = c.after_digits.ensures ∙ ap (after_letters is_digit) text in
    let again = c.after_digits-2.ensures ∙ ap (after_letters is_digit) text in
    let told : TellsFront c.begins_with-names.result c.after_digits.result.now (codes "*/\n/*!names:re2c ") = record { stands = c.begins_with-names.ensures.stands; differs = c.begins_with-names.ensures.differs } in
    let names = subst (λ (l : List ℕ). TellsFront c.begins_with-names.result l (codes "*/\n/*!names:re2c ")) rest told in
    let headed : TellsFront c.begins_with-head.result c.after_digits-2.result.now (codes "*/\n/*!head:re2c ") = record { stands = c.begins_with-head.ensures.stands; differs = c.begins_with-head.ensures.differs } in
    let head = subst (λ (l : List ℕ). TellsFront c.begins_with-head.result l (codes "*/\n/*!head:re2c ")) again headed in
    scanner_decides bytes c.long_at-small.result c.begins_with-begins.result c.has_no_needless_zero-spelled.result (nat_lt c.long_at-small.result 4294967296) c.begins_with-names.result c.begins_with-head.result
    c.is_either.result c.are_true.result begins spelled value (Decides-ltb c.long_at-small.result 4294967296) names head c.is_either.ensures c.are_true.ensures
