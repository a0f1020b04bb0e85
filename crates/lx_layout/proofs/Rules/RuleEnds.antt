-- The statements at a rule's end give what the run tells of the rule.
use Rattle.std.specs.Prelude.{◌≡◌, ℕ, zero, suc, ◌+◌, ◌≤◌, List, [], ◌∷◌, ◌++◌, length, map, Option, Some, None, Bool, true, false, refl, slice_get}
use Rattle.std.proofs.Common.{sym, ap, subst, arith, append_assoc, append-nil}
use Rattle.lx_auto.specs.Bank.{Bank, read, read_all}
use Rattle.lx_auto.specs.declared.automaton.Held.{Held}
use Rattle.lx_auto.specs.declared.automaton.Held.TheVariants.{Reg, MReg}
use Rattle.lx_ccode.specs.declared.piece.Piece.{Piece}
use Rattle.lx_ccode.specs.declared.piece.Stmt.{Stmt}
use Rattle.lx_ccode.specs.declared.piece.Stmt.TheVariants.{Accept, Back, Goto, Jump}
use Rattle.lx_ccode.specs.Machine as machine
use Rattle.lx_ccode.specs.Machine.{Answer, Machine, back, condition, goes_on, group_count, group_end, jump, step, stuck}
use Rattle.lx_ccode.specs.Runs.{Ended}
use Rattle.lx_ccode.specs.Statements.{code_of}
use Rattle.lx_regex.specs.Values.{Value}
use Rattle.lx_tdfa.specs.Promise.{tag_value}
use Rattle.lx_layout.specs.Endings.{Ending, action_code, back_code, cond_code, ending_code, ends_code, groups_code, is_slash, last_code, name_or_none, rule_code, slash_held, tag_code, tags_code, unless}
use Rattle.lx_layout.specs.Told.{cond_behind, cond_given, ends_given, groups_given, outcome_by, put_back, slash_value, tag_given, told_at, told_with, values_given}
use Rattle.lx_layout.proofs.Runs.OperationSteps.{machine_at}
use Rattle.lx_layout.proofs.Runs.PartialRuns.{EndsIn, LeadsIn, end_in, last_in, step_in, widen_end}

-- the values that are held so, as values of tags
abbrev pub held_values : Bank → List Held → List Value
held_values k hs = map tag_value (read_all k hs)

-- one of them, if there is one
abbrev pub held_value : Bank → Option Held → Option Value
held_value k None = None
held_value k (Some h) = Some (tag_value (read k h))

slice_get-held_values : (k : Bank) (hs : List Held) (j : ℕ) → slice_get (held_values k hs) j ≡ held_value k (slice_get hs j)
slice_get-held_values k [] j = refl
slice_get-held_values k (h ∷ hs) zero = refl
slice_get-held_values k (h ∷ hs) (suc j) = slice_get-held_values k hs j

pub slash_value-held : (k : Bank) (hs : List Held) (s : Option ℕ) → slash_value s (held_values k hs) ≡ held_value k (slash_held s hs)
slash_value-held k hs None = refl
slash_value-held k hs (Some j) = slice_get-held_values k hs j

module _ (p : Piece) (x : List ℕ) (start : ℕ) (mk lim : ℕ) (u : Option ℕ) (ac : ℕ) (kept r0 : Option ℕ) (k : Bank) (q : List Answer) (n0 : ℕ) where
  -- code ends so, from a cursor, a condition and what was given, with so many steps behind it
  record Gives (b : List Stmt) (cur : ℕ) (c : List ℕ) (l : List machine.Value) (e : Ended) : Type 0 where
    gives : EndsIn p x start (length b + n0) b (machine_at cur mk lim u ac kept r0 k c l) q e

  first : {s : Stmt} {b : List Stmt} {cur cur' : ℕ} {c c' : List ℕ} {l l' : List machine.Value} {e : Ended}
      → step p x s b (machine_at cur mk lim u ac kept r0 k c l) q ≡ goes_on b (machine_at cur' mk lim u ac kept r0 k c' l') q → Gives b cur' c' l' e
      → Gives (s ∷ b) cur c l e
  first {s} {b} h g = record { gives = end_in p x start (suc (length b) + n0) (step_in p x start h (omega arith)) g.gives (omega arith) }

  ends_run : (hs : List Held) (i : ℕ) (b : List Stmt) (cur : ℕ) (c : List ℕ) (l : List machine.Value) (e : Ended)
      → Gives b cur c (l ++ ends_given (held_values k hs) i) e → Gives (ends_code hs i b) cur c l e
  ends_run [] i b cur c l e h = subst (λ z. Gives b cur c z e) (append-nil l) h
  ends_run (Reg r ∷ hs) i b cur c l e h =
      let v : machine.Value = group_end i (k.regs r) in
      first refl (ends_run hs (suc i) b cur c (l ++ v ∷ []) e
      (subst (λ z. Gives b cur c z e) (sym (append_assoc l (v ∷ []) (ends_given (held_values k hs) (suc i)))) h))
  ends_run (MReg r ∷ hs) i b cur c l e h = ends_run hs (suc i) b cur c l e h

  groups_run : (g : ℕ) (hs : List Held) (b : List Stmt) (cur : ℕ) (c : List ℕ) (l : List machine.Value) (e : Ended)
      → Gives b cur c (l ++ groups_given g (held_values k hs)) e → Gives (groups_code g hs b) cur c l e
  groups_run zero hs b cur c l e h = subst (λ z. Gives b cur c z e) (append-nil l) h
  groups_run (suc g) hs b cur c l e h =
      let v : machine.Value = group_count (suc g) in
      first refl (ends_run hs 0 b cur c (l ++ v ∷ []) e (subst (λ z. Gives b cur c z e) (sym (append_assoc l (v ∷ []) (ends_given
      (held_values k hs) 0))) h))

  tag_first : (d : Held) (t : List ℕ) (b : List Stmt) (cur : ℕ) (c : List ℕ) (l : List machine.Value) (e : Ended)
      → Gives b cur c (l ++ tag_given (tag_value (read k d)) t ∷ []) e → Gives (tag_code d t ∷ b) cur c l e
  tag_first (Reg r) t b cur c l e h = first refl h
  tag_first (MReg r) t b cur c l e h = first refl h

  tags_run : (a : Ending) (i : ℕ) (ts : List (List ℕ)) (hs : List Held) (b : List Stmt) (cur : ℕ) (c : List ℕ) (l : List machine.Value) (e : Ended)
      → Gives b cur c (l ++ values_given a i ts (held_values k hs)) e → Gives (tags_code a i ts hs b) cur c l e
  tags_run a i [] hs b cur c l e h = groups_run a.groups hs b cur c l e h
  tags_run a i (t ∷ ts) [] b cur c l e h = subst (λ z. Gives b cur c z e) (append-nil l) h
  tags_run a i (t ∷ ts) (d ∷ hs) b cur c l e h = at (is_slash a.slash i) h (λ l'. tags_run a (suc i) ts hs b cur c l' e)
    where
      vs : List machine.Value
      vs = values_given a (suc i) ts (held_values k hs)

      at : (s : Bool) → Gives b cur c (l ++ unless s (tag_given (tag_value (read k d)) t) (values_given a (suc i) ts (held_values k hs))) e
          → ((l' : List machine.Value) → Gives b cur c (l' ++ values_given a (suc i) ts (held_values k hs)) e
          → Gives (tags_code a (suc i) ts hs b) cur c l' e)
          → Gives (unless s (tag_code d t) (tags_code a (suc i) ts hs b)) cur c l e
      at true h again = again l h
      at false h again =
          let v : machine.Value = tag_given (tag_value (read k d)) t in
          tag_first d t (tags_code a (suc i) ts hs b) cur c l e
          (again (l ++ v ∷ []) (subst (λ z. Gives b cur c z e) (sym (append_assoc l (v ∷ []) (values_given a (suc i) ts (held_values k hs)))) h))

  -- what is kept counts for nothing where the match ends
  action_run : (n : ℕ) (a : Ending) (t : Option (List ℕ)) (f : Bool) (cur : ℕ) (c : List ℕ) (l : List machine.Value)
      → Gives (action_code n a t f) cur c l (record { outcome = outcome_by n t; cursor = cur; cond = c; values = l })
  action_run n a None true cur c l = record { gives = end_in p x start (2 + n0) forgets jumps (omega arith) }
    where
      last : List Stmt
      last = Jump (name_or_none a.goes_to) n ∷ []

      forgets : LeadsIn p x start 1 (Accept 0 ∷ last) (machine_at cur mk lim u ac kept r0 k c l) q last (machine_at cur mk lim u 0 kept r0 k c l) q
      forgets = step_in p x start refl (omega arith)

      jumps : EndsIn p x start 1 last (machine_at cur mk lim u 0 kept r0 k c l) q
          (record { outcome = outcome_by n None; cursor = cur; cond = c; values = l })
      jumps = last_in p x start refl
  action_run n a None false cur c l = record { gives = widen_end p x start (1 + n0) (last_in p x start refl) (omega arith) }
  action_run n a (Some t) f cur c l = record { gives = widen_end p x start (1 + n0) (last_in p x start refl) (omega arith) }

  cond_run : (n : ℕ) (a : Ending) (g t : Option (List ℕ)) (f : Bool) (cur : ℕ) (c : List ℕ) (l : List machine.Value)
      → Gives (cond_code g (action_code n a t f)) cur c l (record
      { outcome = outcome_by n t; cursor = cur; cond = cond_behind g c; values = l ++ cond_given g })
  cond_run n a None t f cur c l =
      subst (λ z. Gives (action_code n a t f) cur c l (record { outcome = outcome_by n t; cursor = cur; cond = c; values = z })) (sym (append-nil l))
      (action_run n a t f cur c l)
  cond_run n a (Some d) t f cur c l = first refl (action_run n a t f cur d (l ++ condition d ∷ []))

  -- what is told, where these values were given
  abbrev told_on : (n : ℕ) (a : Ending) (c : List ℕ) (l : List machine.Value) (cur : ℕ) (o : Option ℕ) → Ended
  told_on n a c l cur None = record { outcome = stuck; cursor = cur; cond = c; values = l }
  told_on n a c l cur (Some to) = record { outcome = outcome_by n a.action; cursor = to; cond = cond_behind a.goes_to c; values = l ++ cond_given a.goes_to }

  -- from this code on the run ends by the rule, from any cursor and with any values given before
  abbrev EndsBy : (rest : List Stmt) → (n : ℕ) → Ending → Type 0
  EndsBy rest n a = (cur : ℕ) (c : List ℕ) (l : List machine.Value) → Gives rest cur c l (told_on n a c l cur (Some cur))

  last_run : (endings : ℕ → Ending) (n : ℕ) → EndsBy (last_code endings n) n (endings n)
  last_run endings n cur c l = cond_run n (endings n) (endings n).goes_to (endings n).action (endings n).forgets cur c l

  back_run : (n : ℕ) (a : Ending) (rest : List Stmt) (s : Option Held) (cur : ℕ) (c : List ℕ) (l : List machine.Value) → EndsBy rest n a
      → Gives (back_code s rest) cur c l (told_on n a c l cur (put_back (held_value k s) cur))
  back_run n a rest None cur c l by_rest = by_rest cur c l
  back_run n a rest (Some (MReg r)) cur c l by_rest = by_rest cur c l
  back_run n a rest (Some (Reg r)) cur c l by_rest = at (k.regs r) refl
    where
      at : (v : Option ℕ) → k.regs r ≡ v → Gives (Back (suc r) ∷ rest) cur c l (told_on n a c l cur v)
      at None e = record { gives = widen_end p x start (suc (length rest) + n0) one_step (omega arith) }
        where
          one_step : EndsIn p x start 1 (Back (suc r) ∷ rest) (machine_at cur mk lim u ac kept r0 k c l) q (told_on n a c l cur None)
          one_step = last_in p x start (ap (λ v. back v rest (machine_at cur mk lim u ac kept r0 k c l) q) e)
      at (Some v) e = first (ap (λ v. back v rest (machine_at cur mk lim u ac kept r0 k c l) q) e) (by_rest v c l)

  told_on-with : (endings : ℕ → Ending) (n : ℕ) (vs : List Value) (cur : ℕ) (c : List ℕ) (o : Option ℕ)
      → told_on n (endings n) c (values_given (endings n) 0 (endings n).tags vs) cur o ≡ told_with endings c n cur vs o
  told_on-with endings n vs cur c None = refl
  told_on-with endings n vs cur c (Some to) = refl

  rule_run : (endings : ℕ → Ending) (n : ℕ) (hs : List Held) (rest : List Stmt) (cur : ℕ) (c : List ℕ) → EndsBy rest n (endings n)
      → Gives (rule_code endings n hs rest) cur c [] (told_at endings c n cur (held_values k hs))
  rule_run endings n hs rest cur c by_rest =
      let a : Ending = endings n in
      let vs : List machine.Value = values_given a 0 a.tags (held_values k hs) in
      let tail : List Stmt = back_code (slash_held a.slash hs) rest in
      let e : Ended = told_on n a c vs cur (put_back (slash_value a.slash (held_values k hs)) cur) in
      subst (λ z. Gives (rule_code endings n hs rest) cur c [] z)
      (told_on-with endings n (held_values k hs) cur c (put_back (slash_value a.slash (held_values k hs)) cur))
      (tags_run a 0 a.tags hs tail cur c [] e (subst (λ z. Gives tail cur c vs (told_on n a c vs cur (put_back z cur))) (sym
      (slash_value-held k hs a.slash)) (back_run n a rest (slash_held a.slash hs) cur c vs by_rest)))

module _ (p : Piece) (x : List ℕ) (start : ℕ) (mk lim : ℕ) (u : Option ℕ) (ac : ℕ) (kept r0 : Option ℕ) (k : Bank) (q : List Answer)
    (endings : ℕ → Ending) where
  -- from the rule's block on, with the values held so
  pub ending_run : (n : ℕ) (hs : List Held) (cur : ℕ) (c : List ℕ)
      → EndsIn p x start (length (ending_code endings n hs)) (ending_code endings n hs) (machine_at cur mk lim u ac kept r0 k c []) q
      (told_at endings c n cur (held_values k hs))
  ending_run n hs cur c =
      let z : length (ending_code endings n hs) + 0 ≤ length (ending_code endings n hs) = omega arith in
      widen_end p x start (length (ending_code endings n hs)) (rule_run p x start mk lim u ac kept r0 k q 0 endings n hs (last_code endings n) cur c
      (last_run p x start mk lim u ac kept r0 k q 0 endings n)).gives z

  -- by a jump to that block
  pub goto_run : (n block : ℕ) (hs : List Held) (cur : ℕ) (c : List ℕ)
      → slice_get (code_of p.blocks) block ≡ Some (ending_code endings n hs)
      → EndsIn p x start (suc (length (ending_code endings n hs))) (Goto block ∷ []) (machine_at cur mk lim u ac kept r0 k c []) q
      (told_at endings c n cur (held_values k hs))
  goto_run n block hs cur c has =
      let m : Machine = machine_at cur mk lim u ac kept r0 k c [] in
      let s = step_in p x start {s = Goto block} {b = []} {m = m} {q = q} (ap (λ o. jump o m q) has) (omega arith) in
      end_in p x start (suc (length (ending_code endings n hs))) s (ending_run n hs cur c) (omega arith)
