-- The statements at a rule's end give what is told of the rule, over traces.
use Rattle.std.specs.Prelude.{◌≡◌, ℕ, zero, suc, List, [], ◌∷◌, ◌++◌, Bool, true, false, Option, Some, None, refl}
use Rattle.std.proofs.Common.{sym, ap, subst, append_assoc, append-nil}
use Rattle.lx_auto.specs.Bank.{Bank, read}
use Rattle.lx_auto.specs.declared.automaton.Held.{Held}
use Rattle.lx_auto.specs.declared.automaton.Held.TheVariants.{Reg, MReg}
use Rattle.lx_ccode.specs.declared.piece.Piece.{Piece}
use Rattle.lx_ccode.specs.declared.piece.Stmt.{Stmt}
use Rattle.lx_ccode.specs.declared.piece.Stmt.TheVariants.{Accept, Back, Code, Cond, Count, End, Jump, Tag}
use Rattle.lx_ccode.specs.Machine.{Answer, Machine, Value as Given, back, condition, goes_on, group_count, group_end, step, stuck}
use Rattle.lx_ccode.specs.Runs.{Ended}
use Rattle.lx_ccode.specs.Traces.{is_peek, is_skip}
use Rattle.lx_ccode.proofs.TraceSteps.{EndsSo, ends_at, ends_quiet}
use Rattle.lx_regex.specs.Values.{Value}
use Rattle.lx_tdfa.specs.Promise.{tag_value}
use Rattle.lx_layout.specs.Endings.{Ending, action_code, back_code, cond_code, ending_code, ends_code, groups_code, is_slash, last_code, name_or_none, slash_held, tag_code, tags_code, unless}
use Rattle.lx_layout.specs.Told.{cond_behind, cond_given, ends_given, groups_given, outcome_by, put_back, slash_value, tag_given, told_at, told_with, values_given}
use Rattle.lx_layout.proofs.Carrying.MachineSteps.{bank_of}
use Rattle.lx_layout.proofs.Rules.RuleEnds.{held_value, held_values, slash_value-held}

module _ (piece : Piece) (stream : List ℕ) (answers : List Answer) (machine : Machine) where
  abbrev bank : Bank
  bank = bank_of machine

  -- the machine with another cursor, in a condition, and where this was given
  abbrev at : (cursor : ℕ) → (cond : List ℕ) → List Given → Machine
  at cursor cond given = record machine { cursor = cursor; cond = cond; values = given }

  -- code ends so, from a cursor, a condition and what was given
  record Gives (code : List Stmt) (cursor : ℕ) (cond : List ℕ) (given : List Given) (end : Ended) : Type 0 where
    gives : EndsSo piece stream 0 0 code (at cursor cond given) answers end

  first : (statement : Stmt) {code : List Stmt} {cursor next : ℕ} {cond behind : List ℕ} {given more : List Given} {end : Ended}
      → is_peek statement ≡ false → is_skip statement ≡ false
      → step piece stream statement code (at cursor cond given) answers ≡ goes_on code (at next behind more) answers → Gives code next behind more end
      → Gives (statement ∷ code) cursor cond given end
  first statement quiet still e later = record { gives = ends_quiet piece stream statement quiet still e later.gives }

  -- ---- tags and groups

  ends_gives : (values : List Held) (place : ℕ) (code : List Stmt) (cursor : ℕ) (cond : List ℕ) (given : List Given) (end : Ended)
      → Gives code cursor cond (given ++ ends_given (held_values bank values) place) end → Gives (ends_code values place code) cursor cond given end
  ends_gives [] place code cursor cond given end later = subst (λ l. Gives code cursor cond l end) (append-nil given) later
  ends_gives (Reg reg ∷ values) place code cursor cond given end later =
      let value : Given = group_end place (bank.regs reg) in
      first (End place (suc reg)) refl refl refl
      (ends_gives values (suc place) code cursor cond (given ++ value ∷ []) end
      (subst (λ l. Gives code cursor cond l end) (sym (append_assoc given (value ∷ []) (ends_given (held_values bank values) (suc place)))) later))
  ends_gives (MReg mreg ∷ values) place code cursor cond given end later = ends_gives values (suc place) code cursor cond given end later

  groups_gives : (groups : ℕ) (values : List Held) (code : List Stmt) (cursor : ℕ) (cond : List ℕ) (given : List Given) (end : Ended)
      → Gives code cursor cond (given ++ groups_given groups (held_values bank values)) end
      → Gives (groups_code groups values code) cursor cond given end
  groups_gives zero values code cursor cond given end later = subst (λ l. Gives code cursor cond l end) (append-nil given) later
  groups_gives (suc groups) values code cursor cond given end later =
      let value : Given = group_count (suc groups) in
      first (Count (suc groups)) refl refl refl
      (ends_gives values 0 code cursor cond (given ++ value ∷ []) end
      (subst (λ l. Gives code cursor cond l end) (sym (append_assoc given (value ∷ []) (ends_given (held_values bank values) 0))) later))

  tag_gives : (held : Held) (name : List ℕ) (code : List Stmt) (cursor : ℕ) (cond : List ℕ) (given : List Given) (end : Ended)
      → Gives code cursor cond (given ++ tag_given (tag_value (read bank held)) name ∷ []) end → Gives (tag_code held name ∷ code) cursor cond given end
  tag_gives (Reg reg) name code cursor cond given end later = first (Tag name false (suc reg)) refl refl refl later
  tag_gives (MReg mreg) name code cursor cond given end later = first (Tag name true mreg) refl refl refl later

  tags_gives : (ending : Ending) (number : ℕ) (names : List (List ℕ)) (values : List Held) (code : List Stmt) (cursor : ℕ) (cond : List ℕ)
      (given : List Given) (end : Ended) → Gives code cursor cond (given ++ values_given ending number names (held_values bank values)) end
      → Gives (tags_code ending number names values code) cursor cond given end
  tags_gives ending number [] values code cursor cond given end later = groups_gives ending.groups values code cursor cond given end later
  tags_gives ending number (name ∷ names) [] code cursor cond given end later = subst (λ l. Gives code cursor cond l end) (append-nil given) later
  tags_gives ending number (name ∷ names) (held ∷ values) code cursor cond given end later =
      by (is_slash ending.slash number) later (λ more. tags_gives ending (suc number) names values code cursor cond more end)
    where
      by : (test : Bool)
          → Gives code cursor cond (given ++ unless test (tag_given (tag_value (read bank held)) name)
          (values_given ending (suc number) names (held_values bank values))) end
          → ((more : List Given) → Gives code cursor cond (more ++ values_given ending (suc number) names (held_values bank values)) end
          → Gives (tags_code ending (suc number) names values code) cursor cond more end)
          → Gives (unless test (tag_code held name) (tags_code ending (suc number) names values code)) cursor cond given end
      by true later again = again given later
      by false later again =
          let value : Given = tag_given (tag_value (read bank held)) name in
          tag_gives held name (tags_code ending (suc number) names values code) cursor cond given end
          (again (given ++ value ∷ []) (subst (λ l. Gives code cursor cond l end) (sym (append_assoc given (value ∷ [])
          (values_given ending (suc number) names (held_values bank values)))) later))

  -- ---- the last statements

  -- what is kept counts for nothing where the match ends
  action_gives : (rule : ℕ) (ending : Ending) (action : Option (List ℕ)) (forgets : Bool) (cursor : ℕ) (cond : List ℕ) (given : List Given)
      → Gives (action_code rule ending action forgets) cursor cond given
      (record { outcome = outcome_by rule action; cursor = cursor; cond = cond; values = given })
  action_gives rule ending None true cursor cond given = record { gives = ends_quiet piece stream (Accept 0) refl refl refl jumps }
    where
      jumps : EndsSo piece stream 0 0 (Jump (name_or_none ending.goes_to) rule ∷ [])
          (record machine { cursor = cursor; cond = cond; values = given; accept = 0 }) answers
          (record { outcome = outcome_by rule None; cursor = cursor; cond = cond; values = given })
      jumps = ends_at piece stream (Jump (name_or_none ending.goes_to) rule) refl refl refl
  action_gives rule ending None false cursor cond given =
      record { gives = ends_at piece stream (Jump (name_or_none ending.goes_to) rule) refl refl refl }
  action_gives rule ending (Some action) forgets cursor cond given =
      record { gives = ends_at piece stream (Code rule ending.line action) refl refl refl }

  cond_gives : (rule : ℕ) (ending : Ending) (goes_to action : Option (List ℕ)) (forgets : Bool) (cursor : ℕ) (cond : List ℕ) (given : List Given)
      → Gives (cond_code goes_to (action_code rule ending action forgets)) cursor cond given
      (record { outcome = outcome_by rule action; cursor = cursor; cond = cond_behind goes_to cond; values = given ++ cond_given goes_to })
  cond_gives rule ending None action forgets cursor cond given =
      subst (λ l. Gives (action_code rule ending action forgets) cursor cond given
      (record { outcome = outcome_by rule action; cursor = cursor; cond = cond; values = l })) (sym (append-nil given))
      (action_gives rule ending action forgets cursor cond given)
  cond_gives rule ending (Some next) action forgets cursor cond given =
      first (Cond next) refl refl refl (action_gives rule ending action forgets cursor next (given ++ condition next ∷ []))

  -- what is told, where these values were given
  abbrev told_on : (rule : ℕ) → Ending → (cond : List ℕ) → List Given → (cursor : ℕ) → (to : Option ℕ) → Ended
  told_on rule ending cond given cursor None = record { outcome = stuck; cursor = cursor; cond = cond; values = given }
  told_on rule ending cond given cursor (Some to) = record {
    outcome = outcome_by rule ending.action;
    cursor = to;
    cond = cond_behind ending.goes_to cond;
    values = given ++ cond_given ending.goes_to;
  }

  told_on-with : (endings : ℕ → Ending) (rule : ℕ) (values : List Value) (cursor : ℕ) (cond : List ℕ) (to : Option ℕ)
      → told_on rule (endings rule) cond (values_given (endings rule) 0 (endings rule).tags values) cursor to
      ≡ told_with endings cond rule cursor values to
  told_on-with endings rule values cursor cond None = refl
  told_on-with endings rule values cursor cond (Some to) = refl

  -- the cursor goes back, and the rule's last statements come
  back_gives : (endings : ℕ → Ending) (rule : ℕ) (held : Option Held) (cursor : ℕ) (cond : List ℕ) (given : List Given)
      → Gives (back_code held (last_code endings rule)) cursor cond given
      (told_on rule (endings rule) cond given cursor (put_back (held_value bank held) cursor))
  back_gives endings rule None cursor cond given =
      cond_gives rule (endings rule) (endings rule).goes_to (endings rule).action (endings rule).forgets cursor cond given
  back_gives endings rule (Some (MReg mreg)) cursor cond given =
      cond_gives rule (endings rule) (endings rule).goes_to (endings rule).action (endings rule).forgets cursor cond given
  back_gives endings rule (Some (Reg reg)) cursor cond given = by (bank.regs reg) refl where
    by : (value : Option ℕ) → bank.regs reg ≡ value
        → Gives (Back (suc reg) ∷ last_code endings rule) cursor cond given (told_on rule (endings rule) cond given cursor value)
    by None e =
        record { gives = ends_at piece stream (Back (suc reg)) refl refl (ap (λ o. back o (last_code endings rule) (at cursor cond given) answers) e) }
    by (Some to) e =
        first (Back (suc reg)) refl refl (ap (λ o. back o (last_code endings rule) (at cursor cond given) answers) e)
        (cond_gives rule (endings rule) (endings rule).goes_to (endings rule).action (endings rule).forgets to cond given)

  rule_gives : (endings : ℕ → Ending) (rule : ℕ) (values : List Held) (cursor : ℕ) (cond : List ℕ)
      → Gives (ending_code endings rule values) cursor cond [] (told_at endings cond rule cursor (held_values bank values))
  rule_gives endings rule values cursor cond =
      let ending : Ending = endings rule in
      let given : List Given = values_given ending 0 ending.tags (held_values bank values) in
      let tail : List Stmt = back_code (slash_held ending.slash values) (last_code endings rule) in
      let end : Ended = told_on rule ending cond given cursor (put_back (slash_value ending.slash (held_values bank values)) cursor) in
      subst (λ e. Gives (ending_code endings rule values) cursor cond [] e)
      (told_on-with endings rule (held_values bank values) cursor cond (put_back (slash_value ending.slash (held_values bank values)) cursor))
      (tags_gives ending 0 ending.tags values tail cursor cond [] end
      (subst (λ o. Gives tail cursor cond given (told_on rule ending cond given cursor (put_back o cursor)))
      (sym (slash_value-held bank values ending.slash)) (back_gives endings rule (slash_held ending.slash values) cursor cond given)))

  -- from the rule's block on, with the values held so, where nothing was given yet
  pub ending_ends : (endings : ℕ → Ending) (rule : ℕ) (values : List Held) → machine.values ≡ []
      → EndsSo piece stream 0 0 (ending_code endings rule values) machine answers
      (told_at endings machine.cond rule machine.cursor (held_values bank values))
  ending_ends endings rule values none =
      subst (λ l. EndsSo piece stream 0 0 (ending_code endings rule values) (record machine { values = l }) answers
      (told_at endings machine.cond rule machine.cursor (held_values bank values))) (sym none)
      (rule_gives endings rule values machine.cursor machine.cond).gives
