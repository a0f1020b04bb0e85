-- The same for two walks from one cut, or from the beginning of a rule, that part at a choice.
use Rattle.lx_posix.specs.Numbers.{IsFirstOf}
use Rattle.lx_posix.specs.Parting.{Parting, by_digit, by_down, by_up, events, keep, parts_here}
use Rattle.lx_posix.specs.Walks.{after, depth, kept, lowest}
use Rattle.std.specs.Prelude.{◌≡◌, ℕ, suc, ◌-◌, ◌<◌, ◌≤◌, min, List, [], ◌∷◌, ◌++◌, Some, refl}
use Rattle.std.proofs.Common.{sym, ap, ap₂, ◌∙◌, subst, arith, append_assoc, append-nil, inl, inr}
use Rattle.lx_base.specs.declared.settings.Enc.{Enc}
use Rattle.lx_regex.specs.Automaton.{automaton}
use Rattle.lx_regex.specs.Cut.{Cut, EndsInUnit, GoesOn, IsCut, SamePlace}
use Rattle.lx_regex.specs.Plain.{IsPlain, mark_of}
use Rattle.lx_regex.specs.Script.{Symbol, begins, choices, ends, picks, reads, sets, units, unsets}
use Rattle.lx_regex.specs.Term.{Term}
use Rattle.lx_regex.proofs.KernelCuts.Kernels.{ends_behind}
use Rattle.lx_regex.proofs.Walks.Exchange.{plain_from}
use Rattle.lx_regex.proofs.Walks.Fronts.{DiffersBefore}
use Rattle.lx_regex.proofs.Walks.PlainWalk.{IsPlainList, IsUnseen, plain_list, units_append}
use Rattle.lx_posix.proofs.Counted.NumbersOfCuts.{first_of}
use Rattle.lx_posix.proofs.Fronts.PartDepth.{depth_append}
use Rattle.lx_posix.proofs.Fronts.SameFront.{one_parting}
use Rattle.lx_posix.proofs.Kernels.KernelStep.{ends_on}
use Rattle.lx_posix.proofs.Orders.CutOrder.{within}
use Rattle.lx_posix.proofs.Searches.DroppedWalks.{goes_by, no_front, one_depth, one_place, path_on}
use Rattle.lx_posix.proofs.Searches.Shortcuts.{AreUnseen, all_unseen, plain_tail, shortcut, unseen_back}
use Rattle.lx_posix.proofs.Searches.StatePaths.{at_state}
use Rattle.lx_posix.proofs.Steps.KeptInParts.{kept_in_parts}

-- no state of a front behind its last unit is passed by a list before its first unit
abbrev AreLateUnseen : (front list : List Symbol) → Type 0
AreLateUnseen [] l = Unit {0}
AreLateUnseen (begins p ∷ y) l = (units y ≡ [] → IsUnseen (begins p) l) × AreLateUnseen y l
AreLateUnseen (ends p ∷ y) l = (units y ≡ [] → IsUnseen (ends p) l) × AreLateUnseen y l
AreLateUnseen (reads u ∷ y) l = AreLateUnseen y l
AreLateUnseen (sets t ∷ y) l = AreLateUnseen y l
AreLateUnseen (unsets t ∷ y) l = AreLateUnseen y l
AreLateUnseen (picks t ∷ y) l = AreLateUnseen y l

late_of_plain : (y l : List Symbol) → IsPlainList (y ++ l) → AreLateUnseen y l
late_of_plain [] l h = tt
late_of_plain (begins p ∷ y) l h = (λ q. unseen_back (begins p) y l q h.0, late_of_plain y l h.1)
late_of_plain (ends p ∷ y) l h = (λ q. unseen_back (ends p) y l q h.0, late_of_plain y l h.1)
late_of_plain (reads u ∷ y) l h = late_of_plain y l h
late_of_plain (sets t ∷ y) l h = late_of_plain y l h
late_of_plain (unsets t ∷ y) l h = late_of_plain y l h
late_of_plain (picks t ∷ y) l h = late_of_plain y l h

late_back : (y a l : List Symbol) → units a ≡ [] → AreLateUnseen y (a ++ l) → AreLateUnseen y l
late_back [] a l q h = tt
late_back (begins p ∷ y) a l q h = (λ r. unseen_back (begins p) a l q (h.0 r), late_back y a l q h.1)
late_back (ends p ∷ y) a l q h = (λ r. unseen_back (ends p) a l q (h.0 r), late_back y a l q h.1)
late_back (reads u ∷ y) a l q h = late_back y a l q h
late_back (sets t ∷ y) a l q h = late_back y a l q h
late_back (unsets t ∷ y) a l q h = late_back y a l q h
late_back (picks t ∷ y) a l q h = late_back y a l q h

late_all : (y l : List Symbol) → AreUnseen y l → AreLateUnseen y l
late_all [] l h = tt
late_all (begins p ∷ y) l h = (λ q. h.0, late_all y l h.1)
late_all (ends p ∷ y) l h = (λ q. h.0, late_all y l h.1)
late_all (reads u ∷ y) l h = late_all y l h
late_all (sets t ∷ y) l h = late_all y l h
late_all (unsets t ∷ y) l h = late_all y l h
late_all (picks t ∷ y) l h = late_all y l h

quiet_front : (y z : List Symbol) → units (y ++ z) ≡ [] → units y ≡ []
quiet_front y z q = no_front (units y) (units z) (sym (units_append y z) ∙ q)

late_append : (y z l : List Symbol) → AreLateUnseen y l → AreLateUnseen z l → AreLateUnseen (y ++ z) l
late_append [] z l h k = k
late_append (begins p ∷ y) z l h k = (λ q. h.0 (quiet_front y z q), late_append y z l h.1 k)
late_append (ends p ∷ y) z l h k = (λ q. h.0 (quiet_front y z q), late_append y z l h.1 k)
late_append (reads u ∷ y) z l h k = late_append y z l h k
late_append (sets t ∷ y) z l h k = late_append y z l h k
late_append (unsets t ∷ y) z l h k = late_append y z l h k
late_append (picks t ∷ y) z l h k = late_append y z l h k

unseen_late : (x : Symbol) (y l k : List Symbol) → IsUnseen x (y ++ l) → (units y ≡ [] → IsUnseen x k) → IsUnseen x (y ++ k)
unseen_late x [] l k h u = u refl
unseen_late x (begins p ∷ y) l k h u = (h.0, unseen_late x y l k h.1 u)
unseen_late x (ends p ∷ y) l k h u = (h.0, unseen_late x y l k h.1 u)
unseen_late x (reads t ∷ y) l k h u = tt
unseen_late x (sets t ∷ y) l k h u = unseen_late x y l k h u
unseen_late x (unsets t ∷ y) l k h u = unseen_late x y l k h u
unseen_late x (picks t ∷ y) l k h u = unseen_late x y l k h u

plain_late : (y l k : List Symbol) → IsPlainList (y ++ l) → IsPlainList k → AreLateUnseen y k → IsPlainList (y ++ k)
plain_late [] l k h p u = p
plain_late (begins b ∷ y) l k h p u = (unseen_late (begins b) y l k h.0 u.0, plain_late y l k h.1 p u.1)
plain_late (ends b ∷ y) l k h p u = (unseen_late (ends b) y l k h.0 u.0, plain_late y l k h.1 p u.1)
plain_late (reads t ∷ y) l k h p u = plain_late y l k h p u
plain_late (sets t ∷ y) l k h p u = plain_late y l k h p u
plain_late (unsets t ∷ y) l k h p u = plain_late y l k h p u
plain_late (picks t ∷ y) l k h p u = plain_late y l k h p u

-- where two lists part, and what each keeps from there
pub parting_at : (a : List Symbol) → units a ≡ [] → (d i j : ℕ) → i < j → (l l' : List Symbol)
    → Parting 1 d (events (a ++ picks i ∷ l)) (events (a ++ picks j ∷ l')) (depth d a)
    (keep 1 (depth d a) (depth d a) (events l)) (keep 1 (depth d a) (depth d a) (events l'))
parting_at [] q d i j lt l l' = parts_here lt
parting_at (begins p ∷ a) q d i j lt l l' = by_down (parting_at a q (suc d) i j lt l l')
parting_at (ends p ∷ a) q d i j lt l l' = by_up (parting_at a q (d - 1) i j lt l l')
parting_at (reads u ∷ a) q d i j lt l l' = cc
parting_at (sets t ∷ a) q d i j lt l l' = parting_at a q d i j lt l l'
parting_at (unsets t ∷ a) q d i j lt l l' = parting_at a q d i j lt l l'
parting_at (picks x ∷ a) q d i j lt l l' = by_digit refl (parting_at a q d i j lt l l')

pub keep_lowest : (l : List Symbol) (d m : ℕ) → keep 1 d m (events l) ≡ lowest d m l
keep_lowest [] d m = refl
keep_lowest (begins p ∷ l) d m = keep_lowest l (suc d) m
keep_lowest (ends p ∷ l) d m = keep_lowest l (d - 1) (min m (d - 1))
keep_lowest (reads u ∷ l) d m = refl
keep_lowest (sets t ∷ l) d m = keep_lowest l d m
keep_lowest (unsets t ∷ l) d m = keep_lowest l d m
keep_lowest (picks x ∷ l) d m = keep_lowest l d m

differs_at : (a : List Symbol) (i j : ℕ) → i < j → (l l' : List Symbol)
    → DiffersBefore (choices (a ++ picks i ∷ l)) (choices (a ++ picks j ∷ l'))
differs_at [] i j lt l l' = inl lt
differs_at (begins p ∷ a) i j lt l l' = differs_at a i j lt l l'
differs_at (ends p ∷ a) i j lt l l' = differs_at a i j lt l l'
differs_at (reads u ∷ a) i j lt l l' = differs_at a i j lt l l'
differs_at (sets t ∷ a) i j lt l l' = differs_at a i j lt l l'
differs_at (unsets t ∷ a) i j lt l l' = differs_at a i j lt l l'
differs_at (picks x ∷ a) i j lt l l' = inr (refl, differs_at a i j lt l l')

module _ (enc : Enc) (rules : List Term) where
  -- Two walks from one place part at a choice, and come to a unit: which is first is told by what they keep from there.
  branches :
      (w : List ℕ) (u : ℕ) (j : Cut) (common y z : List Symbol) (lesser greater : ℕ) → units j.front ≡ w → lesser < greater
      → units common ≡ [] → units y ≡ u ∷ [] → units z ≡ u ∷ []
      → IsCut enc rules (w ++ u ∷ []) (after j (common ++ picks lesser ∷ y))
      → IsCut enc rules (w ++ u ∷ []) (after j (common ++ picks greater ∷ z))
      → kept (after j common) z ≤ kept (after j common) y
      → (n : ℕ) × IsFirstOf enc rules (after j (common ++ picks lesser ∷ y)) (after j (common ++ picks greater ∷ z)) n
  branches w u j common y z lesser greater uj lt uc uy uz iy iz le =
      let y' = common ++ picks lesser ∷ y in
      let z' = common ++ picks greater ∷ z in
      let d = depth 0 j.front in
      let u1 : units (common ++ picks lesser ∷ y) ≡ u ∷ [] = units_append common (picks lesser ∷ y) ∙ ap₂ (λ a b. a ++ b) uc uy in
      let u2 : units (common ++ picks greater ∷ z) ≡ u ∷ [] = units_append common (picks greater ∷ z) ∙ ap₂ (λ a b. a ++ b) uc uz in
      let df : DiffersBefore (choices (j.front ++ (common ++ picks lesser ∷ y))) (choices (j.front ++ (common ++ picks greater ∷ z))) =
      subst
      (λ l. DiffersBefore (choices l) (choices (j.front ++ (common ++ picks greater ∷ z)))) (append_assoc j.front common (picks lesser ∷ y))
      (subst
      (λ l. DiffersBefore (choices ((j.front ++ common) ++ picks lesser ∷ y)) (choices l)) (append_assoc j.front common (picks greater ∷ z))
      (differs_at (j.front ++ common) lesser greater lt y z)) in
      let r =
      within enc rules j y' z' iy.possible.0 iz.possible.0 u iy.after_unit iz.after_unit u1 u2 iy.possible.1 iz.possible.1 df in
      let p = parting_at common uc d lesser greater lt y z in
      let p' =
      subst
      (λ l. Parting 1 (depth 0 j.front) (events l) (events (common ++ picks greater ∷ z)) r.0 r.1 r.2)
      (append-nil (common ++ picks lesser ∷ y))
      (subst
      (λ l. Parting 1 (depth 0 j.front) (events ((common ++ picks lesser ∷ y) ++ [])) (events l) r.0 r.1 r.2)
      (append-nil (common ++ picks greater ∷ z))
      r.3) in
      let o = one_parting p p' in
      let o1 = o.1 in
      let o2 = o.2 in
      let deep : depth 0 (j.front ++ common) ≡ depth (depth 0 j.front) common = depth_append enc j.front common 0 in
      let k1 : kept (after j common) y ≡ r.1 =
      ap (λ n. lowest n n y) deep ∙ sym (keep_lowest y (depth d common) (depth d common)) ∙ o1 in
      let k2 : kept (after j common) z ≡ r.2 =
      ap (λ n. lowest n n z) deep ∙ sym (keep_lowest z (depth d common) (depth d common)) ∙ o2 in
      (min r.1 r.2, first_of enc rules (w ++ u ∷ []) _ _ _ iy iz (r.5 (omega arith)))

  pub dropped_branch :
      (w : List ℕ) (u : ℕ) (j : Cut) (common first second rest more : List Symbol) (lesser greater : ℕ) (m : Symbol) (s : ℕ)
      → units j.front ≡ w → lesser < greater → mark_of m ≡ Some s → units common ≡ [] → units first ≡ [] → units second ≡ []
      → GoesOn enc rules (after j (common ++ picks lesser ∷ first)) (m ∷ more) → EndsInUnit (m ∷ rest)
      → IsCut enc rules (w ++ u ∷ []) (after j (common ++ picks greater ∷ (second ++ m ∷ rest)))
      → kept (after j common) second ≤ kept (after j common) first
      → (walk : List Symbol) × IsCut enc rules (w ++ u ∷ []) (after j walk)
      × SamePlace enc rules (after j walk) (after j (common ++ picks greater ∷ (second ++ m ∷ rest)))
      × ((n : ℕ) × IsFirstOf enc rules (after j walk) (after j (common ++ picks greater ∷ (second ++ m ∷ rest))) n)
  dropped_branch w u j common first second rest more lesser greater m s uj lt is_mark uc uf1 us1 gj er kz le =
      let c = shortcut first m s is_mark rest more in
      let q = kz.possible.0 in
      let gk = kz.possible.1 in
      let lead : List Symbol = j.front ++ common in
      let uf : units c.fore ≡ [] = quiet_front c.fore c.left_out (ap units (sym c.is_front) ∙ uf1) in
      let us : units (second ++ c.skipped) ≡ [] = units_append second c.skipped ∙ ap₂ (λ a b. a ++ b) us1 c.without_unit in
      let uk : units (j.front ++ (common ++ picks greater ∷ (second ++ m ∷ rest))) ≡ w ++ units (m ∷ rest) =
      units_append j.front _ ∙ ap₂ (λ a b. a ++ b) uj
      (units_append common _ ∙ ap₂ (λ a b. a ++ b) uc (units_append second (m ∷ rest) ∙ ap (λ l. l ++ units (m ∷ rest)) us1)) in
      let ur : units (m ∷ rest) ≡ u ∷ [] = drop_word w (units (m ∷ rest)) (u ∷ []) (sym uk ∙ kz.reads_word) in
      let ub : units (c.at ∷ c.back) ≡ u ∷ [] =
      ap (λ l. l ++ units (c.at ∷ c.back)) (sym c.without_unit) ∙ sym (units_append c.skipped (c.at ∷ c.back)) ∙ ap units (sym c.goes)
      ∙ ur in
      let eb : EndsInUnit (c.at ∷ c.back) =
      ends_behind c.skipped (c.at ∷ c.back) er.0 er.1 (sym c.goes ∙ er.2) (λ e. some (sym ub ∙ e)) in
      let a : List Symbol = (j.front ++ common) ++ picks lesser ∷ c.fore in
      let b : List Symbol = (j.front ++ common) ++ picks greater ∷ (second ++ c.skipped) in
      let fk : j.front ++ (common ++ picks greater ∷ (second ++ m ∷ rest))
      ≡ ((j.front ++ common) ++ picks greater ∷ (second ++ c.skipped)) ++ (c.at ∷ c.back) =
      ap (λ l. j.front ++ (common ++ picks greater ∷ (second ++ l))) c.goes ∙ simp append_assoc in
      let gk' : GoesOn enc rules (record { rule = j.rule; front = b ++ (c.at ∷ c.back) }) q =
      subst (λ l. GoesOn enc rules (record { rule = j.rule; front = l }) q) fk gk in
      let pk =
      at_state enc
      (automaton rules) (path_on enc rules j.rule (b ++ (c.at ∷ c.back)) q gk') b (c.back ++ q) c.at c.state c.is_mark
      (append_assoc b (c.at ∷ c.back) q) in
      let f0 : (j.front ++ (common ++ picks lesser ∷ first)) ++ m ∷ more ≡ (j.front ++ common) ++ picks lesser ∷ (first ++ m ∷ more) =
      simp append_assoc in
      let f1 : (j.front ++ common) ++ picks lesser ∷ (c.fore ++ (c.at ∷ c.behind))
      ≡ ((j.front ++ common) ++ picks lesser ∷ c.fore) ++ (c.at ∷ c.behind) =
      simp append_assoc in
      let fj : (j.front ++ (common ++ picks lesser ∷ first)) ++ m ∷ more
      ≡ ((j.front ++ common) ++ picks lesser ∷ c.fore) ++ (c.at ∷ c.behind) =
      f0 ∙ ap (λ l. (j.front ++ common) ++ picks lesser ∷ l) c.comes ∙ f1 in
      let pj =
      at_state enc
      (automaton rules) (path_on enc rules j.rule (j.front ++ (common ++ picks lesser ∷ first)) (m ∷ more) gj) a c.behind c.at c.state
      c.is_mark fj in
      let path = pj.1 (c.at ∷ (c.back ++ q)) pk.0 in
      let g1 : (((j.front ++ common) ++ picks greater ∷ (second ++ c.skipped)) ++ (c.at ∷ c.back)) ++ q
      ≡ (j.front ++ common) ++ ((picks greater ∷ (second ++ c.skipped)) ++ (c.at ∷ (c.back ++ q))) =
      simp append_assoc in
      let p1 = plain_from _ (subst IsPlain (gk'.3 ∙ g1) gk'.4) in
      let p2 : IsPlainList (c.at ∷ (c.back ++ q)) =
      plain_tail b (c.at ∷ (c.back ++ q))
      (subst IsPlainList (append_assoc b (c.at ∷ c.back) q) (plain_from _ (subst IsPlain gk'.3 gk'.4))) in
      let late =
      late_back lead (picks greater ∷ (second ++ c.skipped)) (c.at ∷ (c.back ++ q)) us (late_of_plain lead _ p1) in
      let unseen =
      all_unseen c.fore c.skipped (c.at ∷ c.back) q c.without_unit (λ e. some (sym ub ∙ e))
      (subst (λ l. AreUnseen c.fore l) c.goes c.unseen) in
      let late' =
      late_append lead (picks lesser ∷ c.fore) (c.at ∷ (c.back ++ q)) late (late_all c.fore (c.at ∷ (c.back ++ q)) unseen) in
      let p3 = plain_late a (c.at ∷ c.behind) (c.at ∷ (c.back ++ q)) (plain_from _ (subst IsPlain (gj.3 ∙ fj) gj.4)) p2 late' in
      let ga : GoesOn enc rules (record { rule = j.rule; front = a }) (c.at ∷ (c.back ++ q)) =
      goes_by enc rules j.rule a (c.at ∷ (c.back ++ q)) (j.front ++ (common ++ picks lesser ∷ first)) (m ∷ more) gj path
      (plain_list _ p3) in
      let gb : GoesOn enc rules (record { rule = j.rule; front = b }) (c.at ∷ (c.back ++ q)) =
      (gk'.0, gk'.1, gk'.2, gk'.3 ∙ append_assoc b (c.at ∷ c.back) q, gk'.4) in
      let go : GoesOn enc rules (record { rule = j.rule; front = a ++ (c.at ∷ c.back) }) q =
      (ga.0, ga.1, ga.2, ga.3 ∙ sym (append_assoc a (c.at ∷ c.back) q), ga.4) in
      let fa : ((j.front ++ common) ++ picks lesser ∷ c.fore) ++ (c.at ∷ c.back)
      ≡ j.front ++ (common ++ picks lesser ∷ (c.fore ++ (c.at ∷ c.back))) =
      simp append_assoc in
      let place = one_place enc rules c.at c.state c.is_mark c.back eb j.rule a b q q go gk' in
      let place1 =
      subst
      (λ l. SamePlace enc rules (record { rule = j.rule; front = l })
      (record { rule = j.rule; front = ((j.front ++ common) ++ picks greater ∷ (second ++ c.skipped)) ++ (c.at ∷ c.back) })) fa
      place in
      let place2 =
      subst
      (λ l. SamePlace enc rules (after j (common ++ picks lesser ∷ (c.fore ++ (c.at ∷ c.back)))) (record { rule = j.rule; front = l }))
      (sym fk)
      place1 in
      let deep = one_depth enc rules j.rule j.rule a b (c.at ∷ (c.back ++ q)) ga gb in
      let da = depth_append enc (j.front ++ common) (picks lesser ∷ c.fore) 0 in
      let db = depth_append enc (j.front ++ common) (picks greater ∷ (second ++ c.skipped)) 0 in
      let level : depth (depth 0 (j.front ++ common)) c.fore ≡ depth (depth 0 (j.front ++ common)) (second ++ c.skipped) = sym da ∙ deep
      ∙ db in
      let k : Cut = after j common in
      let k1 = kept_in_parts (after j common) c.fore (c.at ∷ c.back) uf in
      let k2 = kept_in_parts (after j common) c.fore c.left_out uf in
      let k3 = kept_in_parts (after j common) (second ++ c.skipped) (c.at ∷ c.back) us in
      let k4 : kept (after j common) first ≡ kept (after j common) (c.fore ++ c.left_out) = ap (λ l. kept (after j common) l) c.is_front in
      let k5 : kept (after j common) (second ++ m ∷ rest) ≡ kept (after j common) ((second ++ c.skipped) ++ (c.at ∷ c.back)) =
      ap (λ l. kept (after j common) l) (ap (λ l. second ++ l) c.goes ∙ sym (append_assoc second c.skipped (c.at ∷ c.back))) in
      let k6 :
      lowest (depth (depth 0 (j.front ++ common)) c.fore) (depth (depth 0 (j.front ++ common)) c.fore) (c.at ∷ c.back)
      ≡ lowest (depth (depth 0 (j.front ++ common)) (second ++ c.skipped)) (depth (depth 0 (j.front ++ common)) (second ++ c.skipped))
      (c.at ∷ c.back) =
      ap (λ d. lowest d d (c.at ∷ c.back)) level in
      let k7 = kept_in_parts (after j common) second (m ∷ rest) us1 in
      let uw : units (c.fore ++ (c.at ∷ c.back)) ≡ u ∷ [] = units_append c.fore (c.at ∷ c.back) ∙ ap₂ (λ a b. a ++ b) uf ub in
      let uz : units (second ++ m ∷ rest) ≡ u ∷ [] = units_append second (m ∷ rest) ∙ ap₂ (λ a b. a ++ b) us1 ur in
      let ew : EndsInUnit (j.front ++ (common ++ picks lesser ∷ (c.fore ++ (c.at ∷ c.back)))) =
      ends_on j.front _ (ends_on common _ (ends_on (picks lesser ∷ c.fore) (c.at ∷ c.back) eb)) in
      let own : IsCut enc rules (w ++ u ∷ []) (after j (common ++ picks lesser ∷ (c.fore ++ (c.at ∷ c.back)))) =
      record {
        reads_word = units_append j.front _ ∙ ap₂ (λ a b. a ++ b) uj (units_append common _ ∙ ap₂ (λ a b. a ++ b) uc uw);
        after_unit = ew;
        possible = (q, subst (λ l. GoesOn enc rules (record { rule = j.rule; front = l }) q) fa go);
      } in
      let n =
      branches w u j common (c.fore ++ (c.at ∷ c.back)) (second ++ m ∷ rest) lesser greater uj lt uc uw uz own kz (omega arith) in
      (common ++ picks lesser ∷ (c.fore ++ (c.at ∷ c.back)), own, place2, n)
    where
      some : u ∷ [] ≡ [] → ⊥
      some e = cc

      drop_word : (w x y : List ℕ) → w ++ x ≡ w ++ y → x ≡ y
      drop_word [] x y e = e
      drop_word (a ∷ w) x y e = drop_word w x y (cc)
