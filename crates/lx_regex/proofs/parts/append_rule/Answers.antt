use Rattle.std.proofs.Common.{◌≡◌, ◌⊎◌, false, true, length, sym, ap, ◌∙◌, subst, append-nil, ⊎_elim}
use Rattle.std.proofs.lemmas.Result.{on_ok_weaker}
use Rattle.std.specs.Bool.{OnFalse}
use Rattle.std.specs.Prelude.{ℕ, ◌+◌, ◌<◌, ◌++◌, [], map, if◌then◌else◌}
use Rattle.lx_regex.specs.Expr.{term_of}
use Rattle.lx_regex.specs.PartList.{shown}
use Rattle.lx_regex.specs.Parts.{parts_in}
use Rattle.lx_regex.specs.Pattern.{is_end}
use Rattle.lx_regex.specs.Term.{parts}
use Rattle.lx_regex.specs.declared.rules.Kind.{Kind}
use Rattle.lx_regex.specs.declared.rules.Kind.TheVariants.{Plain, Default}
use Rattle.lx_regex.proofs.parts.append_rule.Goals as goal

not_end : (kind : Kind) → (kind ≡ Plain) ⊎ (kind ≡ Default) → is_end kind ≡ false
not_end kind is = ⊎_elim (λ h. ap is_end h) (λ h. ap is_end h) is

pub append-requires : goal.append-requires
append-requires c =
    subst
    (λ b. OnFalse b ((tags : ℕ) → length c.args.list.now.items + parts (term_of tags c.args.rule.now.expr) < 4294967296))
    (not_end c.args.rule.now.kind c.in-Plain.is) c.requires

pub returns-in-Eof : goal.returns-in-Eof
returns-in-Eof c =
    let ends : is_end c.args.rule.now.kind ≡ true = ap is_end c.in-Eof.is in
    rw ends (sym (append-nil c.args.list.now.items))

pub returns-in-Plain : goal.returns-in-Plain
returns-in-Plain c =
    let rule = c.args.rule.now in
    let no = not_end rule.kind c.in-Plain.is in
    let own = parts_in rule.number 0 c.args.place (length c.args.list.now.items) (term_of (length rule.tags) rule.expr) in
    on_ok_weaker c.append.result
    (λ more. more (length rule.tags)
    ∙ ap (λ l. c.args.list.now.items ++ map (shown (length rule.tags)) l) (sym (append-nil own) ∙ ap (λ b. if b then [] else own ++ []) (sym no)))
    c.append.ensures
