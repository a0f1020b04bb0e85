use Rattle.std.proofs.Common.{sym, subst, ◌∙◌}
use Rattle.std.proofs.lemmas.Result.{err_from_is_err_and}
use Rattle.lx_cover.proofs.OneCover.{IsCover-sum}
use Rattle.lx_cover.specs.Cover.{IsCover}
use Rattle.lx_cover.specs.declared.covering.TheConstants.{COVER_LIMIT}
use Rattle.lx_regex.specs.Pattern.{patterns_of, terms_of}
use Rattle.lx_compile.specs.Covering.{IsCoveredWhere}
use Rattle.lx_compile.specs.Options.{asks_for_cover}
use Rattle.lx_compile.proofs.ScannerRuns.{StopsWithFault-long}
use Rattle.lx_compile.proofs.covered.append_cover.Goals as goal

pub returns-in_err-words : goal.returns-in_err-words
returns-in_err-words c =
    let frame = c.args.frame.now in
    let options = frame.options.now in
    let scanner = c.args.scanner.now in
    let p = err_from_is_err_and c.from_residual.result c.from_residual.ensures.1 in
    rw (p.1, p.2)
    (StopsWithFault-long options frame.at scanner c.in_err-words.field-0.0 (sym c.asks_for_cover.ensures ∙ c.if-not-asks_for_cover.false)
    (c.in_err-words.ensures options.enc (patterns_of scanner.set.rules) c.requires.built c.requires.within.classes))

pub append_words-requires-clause-cover : goal.append_words-requires-clause-cover
append_words-requires-clause-cover c =
    let options = c.args.frame.now.options.now in
    let patterns = patterns_of c.args.scanner.now.set.rules in
    let cover = c.in_ok-words.ensures options.enc patterns c.requires.built c.requires.within.classes in
    subst (IsCover options.enc (terms_of patterns)) (sym c.as_slice.ensures) cover.0

pub returns : goal.returns
returns c =
    let frame = c.args.frame.now in
    let options = frame.options.now in
    let scanner = c.args.scanner.now in
    let patterns = patterns_of scanner.set.rules in
    let cover = c.in_ok-words.ensures options.enc patterns c.requires.built c.requires.within.classes in
    let own = c.in_ok-append_words.ensures in
    let covered : IsCoveredWhere options frame.acts.now scanner (asks_for_cover options) frame.number own.0 =
    rw (sym c.asks_for_cover.ensures, c.if-not-asks_for_cover.false) own.1 in (
      λ sum long. IsCover-sum options.enc (terms_of patterns) c.in_ok-words.words COVER_LIMIT sum cover.0 cover.1 long.1,
      (own.0, covered, own.2),
    )
