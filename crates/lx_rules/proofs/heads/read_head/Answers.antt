use Rattle.std.proofs.Common.{◌∙◌, ◌≡◌, None, true, ap, map, sym, subst}
use Rattle.std.specs.Prelude.{MatchResult}
use Rattle.lx_exprs.specs.Seen.{IsStop}
use Rattle.lx_forms.specs.Lexemes.{Lexeme, sort_at}
use Rattle.lx_forms.specs.Seen.{lexemes_view}
use Rattle.lx_rules.specs.Conditions.{room_under}
use Rattle.lx_rules.specs.Items.{any_meaning, as_rule, twice}
use Rattle.lx_rules.specs.Keeping.{IsRuleExpr}
use Rattle.lx_rules.specs.declared.heads.Head.TheVariants as head
use Rattle.lx_rules.proofs.Rules.HeadSteps.{IsOnce, end_read, star_read}
use Rattle.lx_rules.proofs.heads.read_head.Goals as goal

pub returns-in_ok-read-in-Star-clause-read : goal.returns-in_ok-read-in-Star-clause-read
returns-in_ok-read-in-Star-clause-read c = λ state holds.
    let options = c.args.block.options.now in
    let lexemes = lexemes_view c.args.block.lexemes in
    let known = c.args.known.now in
    let conds = map (λ cond. cond.now) c.args.conds.now in
    let any = c.in_ok-read-in-Star.read in
    let star = ap sort_at (sym c.at-start.ensures) ∙ sym c.sort.ensures ∙ c.in-Star.is in
    let given =
    subst (λ is_group. IsRuleExpr true (as_rule is_group any_meaning) None any) (c.are_groups.ensures state.definitions) c.in_ok-read-in-Star.ensures.means in
    let once = subst
    (λ (l : Lexeme). MatchResult c.read_once.result (λ given. (c.first_default.result ≡ None) × (given ≡ head.Default any)) (IsStop (twice l.at c.first_default.result)))
    c.at-start.ensures c.read_once.ensures in
    star_read options lexemes known state holds conds c.args.head c.args.slash c.args.until (room_under known.conds conds) any c.read_once.result star given
    (subst (λ first. IsOnce options lexemes known state holds conds c.args.head c.args.slash c.args.until first (head.Default any) c.read_once.result)
    (c.first_default.ensures state holds) once)

pub returns-in-Dollar-clause-read : goal.returns-in-Dollar-clause-read
returns-in-Dollar-clause-read c = λ state holds.
    let options = c.args.block.options.now in
    let lexemes = lexemes_view c.args.block.lexemes in
    let known = c.args.known.now in
    let conds = map (λ cond. cond.now) c.args.conds.now in
    let dollar = ap sort_at (sym c.at-start.ensures) ∙ sym c.sort.ensures ∙ c.in-Dollar.is in
    let once = subst
    (λ (l : Lexeme). MatchResult c.read_once-in-Dollar.result (λ given. (c.first_end.result ≡ None) × (given ≡ head.End)) (IsStop (twice l.at c.first_end.result)))
    c.at-start.ensures c.read_once-in-Dollar.ensures in
    end_read options lexemes known state holds conds c.args.head c.args.slash c.args.until (room_under known.conds conds) c.read_once-in-Dollar.result dollar
    (subst (λ first. IsOnce options lexemes known state holds conds c.args.head c.args.slash c.args.until first head.End c.read_once-in-Dollar.result)
    (c.first_end.ensures state holds) once)
