-- A walk is plain exactly where it visits no state twice between two units.
use Rattle.std.proofs.Common.{◌≢◌, ◌↔◌, ℕ, suc, List, [], ◌∷◌, ◌++◌, map, ap, arith}
use Rattle.std.specs.Prelude.{AllPairs}
use Rattle.std.proofs.lemmas.List.Kept.{AllPairs-cons}
use Rattle.lx_base.specs.declared.settings.Enc.{Enc}
use Rattle.lx_base.specs.Spelling.{spell}
use Rattle.lx_regex.specs.Automaton.{State, label}
use Rattle.lx_regex.specs.Plain.{IsPlain}
use Rattle.lx_regex.specs.Script.{leaf_choice, reads}
use Rattle.lx_regex.specs.Walk.{Walk, stay, moved, at_point, at_unit, mark, symbols}
use Rattle.lx_regex.proofs.Walks.Candidates.{plain_mark_back, plain_tail, unseen_label_back, unseen_mark_back}
use Rattle.lx_regex.proofs.Walks.Exchange.{plain_from}
use Rattle.lx_regex.proofs.Walks.PlainWalk as plain
use Rattle.lx_regex.proofs.Walks.PlainWalk.{IsPlainList, IsUnseen, plain_list, walk_plain}
use Rattle.lx_tnfa.specs.PlainWalks.{VisitsOnce, first_states}
use Rattle.lx_tnfa.proofs.Searching.SearchBasics.{Each}
use Rattle.lx_tnfa.proofs.Searching.SearchPaths.{All-from_each, Each-from_all}

module _ (enc : Enc) (states : List State) where
  abbrev IsFresh : (s : ℕ) → {state : ℕ} → Walk states 0 state → Type 0
  IsFresh = plain.IsFresh enc states 0

  abbrev IsPlainWalk : {state : ℕ} → Walk states 0 state → Type 0
  IsPlainWalk = plain.IsPlainWalk enc states 0

  fresh_each : (s : ℕ) {state : ℕ} (walk : Walk states 0 state) → IsFresh s walk → Each (λ other. s ≢ other) (first_states walk)
  fresh_each s stay h = tt
  fresh_each s (moved ways way stands among walk) h = (h.0, fresh_each s walk h.1)
  fresh_each s (at_point ranges number stands within walk) h = (h, tt)
  fresh_each s (at_unit number stands walk) h = (h, tt)

  each_fresh : (s : ℕ) {state : ℕ} (walk : Walk states 0 state) → Each (λ other. s ≢ other) (first_states walk) → IsFresh s walk
  each_fresh s stay h = tt
  each_fresh s (moved ways way stands among walk) h = (h.0, each_fresh s walk h.1)
  each_fresh s (at_point ranges number stands within walk) h = h.0
  each_fresh s (at_unit number stands walk) h = h.0

  none_apart : AllPairs (λ (s other : ℕ). s ≢ other) []
  none_apart i j d lt within = absurd (omega arith)

  one_apart : (s : ℕ) → AllPairs (λ (s other : ℕ). s ≢ other) (s ∷ [])
  one_apart s i j d lt within = absurd (omega arith)

  -- the states until the first unit are apart where the walk is plain
  first_apart : {state : ℕ} (walk : Walk states 0 state) → IsPlainWalk walk → AllPairs (λ (s other : ℕ). s ≢ other) (first_states walk)
  first_apart stay h = none_apart
  first_apart (moved {state = s} ways way stands among walk) h =
      AllPairs-cons (λ (s other : ℕ). s ≢ other) s (first_states walk)
      (All-from_each (λ other. s ≢ other) (first_states walk) (fresh_each s walk h.0)) (first_apart walk h.1)
  first_apart (at_point {state = s} ranges number stands within walk) h = one_apart s
  first_apart (at_unit {state = s} number stands walk) h = one_apart s

  plain_once : {state : ℕ} (walk : Walk states 0 state) → IsPlainWalk walk → VisitsOnce walk
  plain_once stay h = tt
  plain_once (moved {state = s} ways way stands among walk) h =
      (first_apart (moved {state = s} ways way stands among walk) h, plain_once walk h.1)
  plain_once (at_point ranges number stands within walk) h = plain_once walk h
  plain_once (at_unit number stands walk) h = plain_once walk h

  once_plain : {state : ℕ} (walk : Walk states 0 state) → VisitsOnce walk → IsPlainWalk walk
  once_plain stay h = tt
  once_plain (moved {state = s} ways way stands among walk) h = (
    each_fresh s walk (Each-from_all (λ other. s ≢ other) (first_states walk) (λ k d lt. h.0 0 (suc k) d (omega arith) (omega arith))),
    once_plain walk h.1,
  )
  once_plain (at_point ranges number stands within walk) h = once_plain walk h
  once_plain (at_unit number stands walk) h = once_plain walk h

  unseen_fresh : (s : ℕ) {state : ℕ} (walk : Walk states 0 state) → IsUnseen (mark s) (symbols enc walk []) → IsFresh s walk
  unseen_fresh s stay h = tt
  unseen_fresh s (moved {state = other} ways way stands among walk) h =
      let back = unseen_mark_back (mark s) other _ h in
      ((λ e. back.0 (ap mark e)), unseen_fresh s walk (unseen_label_back (mark s) way _ back.1))
  unseen_fresh s (at_point {state = other} ranges number stands within walk) h = λ e. (unseen_mark_back (mark s) other _ h).0 (ap mark e)
  unseen_fresh s (at_unit {state = other} number stands walk) h = λ e. (unseen_mark_back (mark s) other _ h).0 (ap mark e)

  symbols_plain : {state : ℕ} (walk : Walk states 0 state) → IsPlainList (symbols enc walk []) → IsPlainWalk walk
  symbols_plain stay h = tt
  symbols_plain (moved {state = s} ways way stands among walk) h =
      let back = plain_mark_back s _ h in
      (unseen_fresh s walk (unseen_label_back (mark s) way _ back.0), symbols_plain walk (plain_tail (label way) (symbols enc walk []) back.1))
  symbols_plain (at_point {state = s} ranges number stands within walk) h =
      symbols_plain walk
      (plain_tail (map reads (spell enc number)) (symbols enc walk [])
      (plain_tail (leaf_choice enc ranges number) (map reads (spell enc number) ++ symbols enc walk []) (plain_mark_back s _ h).1))
  symbols_plain (at_unit {state = s} number stands walk) h = symbols_plain walk (plain_mark_back s _ h).1

  pub plain_visits : {state : ℕ} (walk : Walk states 0 state) → IsPlain (symbols enc walk []) ↔ VisitsOnce walk
  plain_visits walk = (
    λ is. plain_once walk (symbols_plain walk (plain_from (symbols enc walk []) is)),
    λ once. plain_list (symbols enc walk []) (walk_plain enc states 0 walk (once_plain walk once)),
  )
