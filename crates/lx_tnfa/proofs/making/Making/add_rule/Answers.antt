use Rattle.std.proofs.Common.{◌≡◌, ◌∙◌, ◌*◌, ◌∷◌, [], ◌++◌, Some, ap, refl, subst, arith, length}
use Rattle.std.proofs.lemmas.Result.{on_ok_weaker}
use Rattle.std.specs.Bool.{OnFalse}
use Rattle.std.specs.Prelude.{replicate}
use Rattle.lx_regex.specs.Automaton.{final}
use Rattle.lx_regex.specs.Expr.{term_of}
use Rattle.lx_regex.specs.Pattern.{is_end, pattern_of, sorts_of}
use Rattle.lx_regex.specs.Term.{parts}
use Rattle.lx_tnfa.specs.Making.{CanAdd}
use Rattle.lx_tnfa.specs.declared.making.Making.{Making}
use Rattle.lx_tnfa.proofs.Construction.RuleLists.{adds_end, adds_rule, is_rule, seen_push}
use Rattle.lx_tnfa.proofs.Construction.ShapeFacts.{parts_shape}
use Rattle.lx_tnfa.proofs.making.Making.add_rule.Goals as goal

pub returns-in-Eof : goal.returns-in-Eof
returns-in-Eof c =
    let tags = c.in_ok-rule_tags.ensures in
    adds_end c.args.self.now (record { building = c.args.self.now.building; owners = c.args.self.now.owners; rules = c.push.new.self; begins = c.args.self.now.begins }) c.args.rule.now
    (ap is_end c.in-Eof.is) c.requires.are_classes
    (seen_push c.args.self.now.rules.items c.push.new.self.items _ c.args.rule.now.number (sorts_of (pattern_of c.args.rule.now)) c.in_ok-push.ensures.items tags.number tags.many)
    refl refl refl

pub returns-in_ok-build-in-Plain : goal.returns-in_ok-build-in-Plain
returns-in_ok-build-in-Plain c =
    let rule = c.args.rule.now in
    let old = c.args.self.now in
    let tags = c.in_ok-rule_tags.ensures in
    let new : Making = record { building = c.build.new.building; owners = c.push_owners.new.owners; rules = c.push.new.self; begins = c.push-in-Plain.new.self } in
    let part : c.len-part.result ≡ length old.owners.items = omega (arith, c.len-part.ensures) in
    let states = rw (c.as_slice.ensures, part) at (c.in_ok-build-in-Plain.ensures final c.in_ok-exits-in-Plain.ensures) in
    let can = subst (λ b. OnFalse b (CanAdd old rule)) (is_rule rule.kind c.in-Plain.is) c.requires.can in
    let has = rw c.as_slice.ensures at c.in_ok-shape-in-Plain.ensures in
    let index : c.len-index.result ≡ length old.rules.items = omega (arith, c.len-index.ensures) in
    let count = parts_shape (term_of (length rule.tags) rule.expr) c.in_ok-shape-in-Plain.shape has (omega (arith, can.room.parts)) in
    let begins = c.in_ok-push-in-Plain.ensures.items ∙ ap (λ n. old.begins.items ++ 2 * n ∷ []) part in
    on_ok_weaker c.push_owners.result
    (λ owners. adds_rule old new rule (is_rule rule.kind c.in-Plain.is)
    (seen_push old.rules.items c.push.new.self.items _ rule.number (sorts_of (pattern_of rule)) c.in_ok-push.ensures.items tags.number tags.many)
    (owners ∙ ap (λ n. old.owners.items ++ replicate n (Some c.len-index.result)) count
    ∙ ap (λ place. old.owners.items ++ replicate (parts (pattern_of rule).term) (Some place)) index) begins states)
    c.push_owners.ensures

pub overflow_cast-owner : goal.overflow_cast-owner
overflow_cast-owner c =
    let can = subst (λ b. OnFalse b (CanAdd c.args.self.now c.args.rule.now)) (is_rule c.args.rule.now.kind c.in-Plain.is) c.requires.can in
    omega (arith, can.rules, c.len-index.ensures)
