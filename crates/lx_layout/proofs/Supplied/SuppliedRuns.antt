-- Blocks that serve an automaton with a supply run as it does, under every legal schedule, unless a refill or a check ends the run.
use Rattle.std.specs.Prelude.{◌≡◌, ◌≢◌, ℕ, zero, suc, ◌+◌, ◌-◌, ◌*◌, ◌<◌, ◌≤◌, Bool, true, false, List, [], ◌∷◌, length, Contains, Option, Some, None, refl, slice_get}
use Rattle.std.proofs.Common.{inr, sym, ap, ◌∙◌, subst, arith}
use Rattle.lx_auto.specs.Automaton.{IsAuto, edge_on, state_of}
use Rattle.lx_auto.specs.Bank.{Bank}
use Rattle.lx_auto.specs.Run.{Left, Standing, by_edge}
use Rattle.lx_auto.specs.declared.automaton.Auto.{Auto}
use Rattle.lx_auto.specs.declared.automaton.Edge.{Edge}
use Rattle.lx_ccode.specs.declared.piece.Piece.{Piece}
use Rattle.lx_ccode.specs.declared.piece.Stmt.{Stmt}
use Rattle.lx_ccode.specs.declared.piece.Stmt.TheVariants.{Goto}
use Rattle.lx_ccode.specs.Machine.{Answer, Machine, jump}
use Rattle.lx_ccode.specs.Runs.{Ended}
use Rattle.lx_ccode.specs.Schedules.{Buffer}
use Rattle.lx_ccode.specs.Statements.{code_of, statement_count}
use Rattle.lx_fill.specs.Checks.{Reads, Suffices, ends as reads_none, goes_on as reads_on, graph_of, meets as reads_last, stops as reads_one}
use Rattle.lx_layout.specs.Endings.{Ending, ending_code}
use Rattle.lx_layout.specs.RightInMode.{AreEnough, AreStoredBy}
use Rattle.lx_layout.specs.Stops.{last_standing, or_here}
use Rattle.lx_layout.specs.Supplied.{IsEnd, IsTarget, Serves, ServesEntry, ServesState, ends, goes, reads}
use Rattle.lx_layout.specs.Halting.{Halting, is_entered}
use Rattle.lx_layout.specs.Supplies.{Supply, entry, state}
use Rattle.lx_layout.proofs.BlockLayouts.CodesInBlocks.{length-block}
use Rattle.lx_layout.proofs.BlockLayouts.Questions.{FitsTable}
use Rattle.lx_layout.proofs.Runs.PartialRuns.{EndsIn, end_in, step_in, widen_end}
use Rattle.lx_layout.proofs.Supplied.Claims.{ends_so}
use Rattle.lx_layout.proofs.Supplied.EnteredStates.{behind_entry, entered-edge}
use Rattle.lx_layout.proofs.Supplied.ReaderClaims.{Claims, TellsOrEnds, mach, reader_claim, told_behind}
use Rattle.lx_layout.proofs.Supplied.ReaderRuns.{reader_code}
use Rattle.lx_layout.proofs.Supplied.SufficientUnits.{HoldsAs, HoldsAs-edge, StandsAt, suffices-more, suffices-one}
use Rattle.lx_layout.proofs.Supplied.StateRuns.{stop_run, target_code}

-- where no edge leads on, the run stands
last_standing-lone : (auto : Auto) (st : Standing) (w : List ℕ) → (state_of auto.states st.state).edges ≡ [] → last_standing auto st w ≡ st
last_standing-lone auto st [] lone = refl
last_standing-lone auto st (unit ∷ w) lone =
    ap (λ es. or_here st (by_edge (state_of auto.states st.state) st (edge_on es unit)) (λ next. last_standing auto next w)) lone

-- where no edge leads on, no units are read
suffices-lone : (auto : Auto) (check : ℕ → ℕ) (number units : ℕ) → graph_of auto number ≡ [] → Suffices (graph_of auto) check number units
suffices-lone auto check number units lone = λ others given. by number others lone given
  where
    no_way : (at next : ℕ) → graph_of auto at ≡ [] → Contains (graph_of auto at) next → ⊥
    no_way at next none way = let few : way.0 < length (graph_of auto at) = way.1 in let e = ap length none in omega (arith, few, e)

    by : (at others : ℕ) → graph_of auto at ≡ [] → Reads (graph_of auto) check at others → others ≤ units
    by at others none (reads_none _ _) = omega arith
    by at others none (reads_one _ next way) = absurd (no_way at next none way)
    by at others none (reads_last _ next way checked) = absurd (no_way at next none way)
    by at others none (reads_on _ next more way unchecked later) = absurd (no_way at next none way)

-- the start has a check, or reads nothing
pub suffices-start : (auto : Auto) (check : ℕ → ℕ) (units : ℕ) → AreEnough auto check → check 0 ≡ 0 → Suffices (graph_of auto) check 0 units
suffices-start auto check units enough unchecked = by (graph_of auto 0) refl
  where
    by : (l : List ℕ) → graph_of auto 0 ≡ l → Suffices (graph_of auto) check 0 units
    by [] e = suffices-lone auto check 0 units e
    by (next ∷ l) e =
        let some : graph_of auto 0 ≢ [] = λ none. let n : length (graph_of auto 0) ≡ 0 = ap length none in let m = ap length e in omega (arith, n, m) in
        absurd (enough.start some unchecked)

module _ (p : Piece) (x : List ℕ) (start : ℕ) (supply : Supply) (halting : Halting) (endings : ℕ → Ending) (greatest : ℕ) (auto : Auto) (place : ℕ → ℕ) (saved : Option (ℕ → ℕ)) (rules : ℕ → ℕ) (fall : ℕ)
    (end_rule : Option ℕ) (begin : ℕ) (serves : Serves supply halting endings greatest auto (code_of p.blocks) place saved rules fall end_rule)
    (enters : ServesEntry supply halting endings greatest auto (code_of p.blocks) place saved rules fall end_rule begin) (formed : IsAuto auto)
    (at_limit : p.eof ≡ supply.eof) (stored : AreStoredBy supply.stored p) (fits : FitsTable supply.among p)
    (enough : supply.eof ≡ None → AreEnough auto supply.check)
    (first : Option ℕ) (cond : List ℕ) where
  pub target : (number : ℕ) (o : Option Edge) (to : ℕ) → number < length auto.states
      → IsTarget supply halting endings greatest auto (code_of p.blocks) place saved rules fall number (state_of auto.states number) o to
      → (next : List Stmt) × (slice_get (code_of p.blocks) to ≡ Some next)
  target number o to lt is = target_code p x start supply halting endings greatest auto place saved rules fall end_rule serves formed first cond 0 None number o to lt is

  -- the entry has a block, where it stands apart
  entry_code : (rule block : ℕ) → ServesEntry supply halting endings greatest auto (code_of p.blocks) place saved rules fall (Some rule) block
      → (code : List Stmt) × (slice_get (code_of p.blocks) block ≡ Some code)
  entry_code rule block reader =
      reader_code supply halting endings greatest auto (code_of p.blocks) place saved rules fall entry 0 block
      (λ unit to. IsTarget supply halting endings greatest auto (code_of p.blocks) place saved rules fall 0 (state_of auto.states 0)
      (edge_on (state_of auto.states 0).edges unit) to) (λ end. slice_get (code_of p.blocks) end ≡ Some (ending_code endings rule []))
      (λ unit to is. target 0 (edge_on (state_of auto.states 0).edges unit) to formed.start is) reader.1

  -- so has each state; one to which no match comes has the entry's
  pub next_code : (number : ℕ) → number < length auto.states → (code : List Stmt) × (slice_get (code_of p.blocks) (place number) ≡ Some code)
  next_code number lt = by_entry (is_entered end_rule auto number) refl
    where
      by : ServesState supply halting endings greatest auto (code_of p.blocks) place saved rules fall number (state_of auto.states number)
          → (code : List Stmt) × (slice_get (code_of p.blocks) (place number) ≡ Some code)
      by (ends lone is) = target number None (place number) lt is
      by (goes lone block own is) = (Goto block ∷ [], own)
      by (reads some reader) =
          reader_code supply halting endings greatest auto (code_of p.blocks) place saved rules fall (state number) (supply.check number) (place number)
          (λ unit block. IsTarget supply halting endings greatest auto (code_of p.blocks) place saved rules fall number (state_of auto.states number)
          (edge_on (state_of auto.states number).edges unit) block)
          (IsEnd supply halting endings greatest auto (code_of p.blocks) place saved rules fall number (state_of auto.states number).accept)
          (λ unit to is. target number (edge_on (state_of auto.states number).edges unit) to lt is) reader

      by_entry : (t : Bool) → is_entered end_rule auto number ≡ t
          → (code : List Stmt) × (slice_get (code_of p.blocks) (place number) ≡ Some code)
      by_entry true entered = by (serves.states number lt entered)
      by_entry false never =
          let behind = behind_entry end_rule auto number never in
          let apart = subst (λ o. ServesEntry supply halting endings greatest auto (code_of p.blocks) place saved rules fall o begin) behind.some enters in
          let code = entry_code behind.rule begin apart in
          (code.0, ap (λ n. slice_get (code_of p.blocks) (place n)) behind.zeroth ∙ ap (λ n. slice_get (code_of p.blocks) n) (apart.0 behind.never) ∙ code.1)

  abbrev pub at : (pos lim : ℕ) → Option Left → (u kept : Option ℕ) → Bank → Machine
  at pos lim held u kept k = mach p x start supply halting endings greatest auto place saved rules fall end_rule serves formed at_limit stored fits next_code first cond pos lim held u kept k

  abbrev pub StandsOn : List ℕ → (lim : ℕ) → Standing → List Answer → Buffer → Type 0
  StandsOn w lim st q buffer = StandsAt p x start supply greatest auto w lim st q buffer

  abbrev pub Tells : (lim : ℕ) → Standing → List Stmt → Option Left → (u kept : Option ℕ) → Bank → List Answer → (told : Ended) → Type 0
  Tells lim st code held u kept k q told =
      Claims p x start supply halting endings greatest auto place saved rules fall end_rule serves formed at_limit stored fits next_code first cond lim st code held u kept k q told

  abbrev pub told_on : Standing → List ℕ → Ended
  told_on st w = told_behind endings cond auto (last_standing auto st w)

  -- where the match ends in a state
  module _ (st : Standing) (held : Option Left) (k : Bank) (h : HoldsAs halting auto st held k) where
    end_run : (block lim : ℕ) (u kept : Option ℕ) (q : List Answer) (code : List Stmt)
        → IsEnd supply halting endings greatest auto (code_of p.blocks) place saved rules fall st.state (state_of auto.states st.state).accept block
        → slice_get (code_of p.blocks) block ≡ Some code
        → EndsIn p x start (3 * statement_count p.blocks) code (at st.offset lim held u kept k) q (told_behind endings cond auto st)
    end_run block lim u kept q code is own =
        stop_run p x start supply halting endings greatest auto place saved rules fall end_rule serves formed first cond lim kept st.state block st.offset code st.left held u k
        st.bank q h.state is own h.agrees h.found h.same h.fresh

    -- without an edge
    lone_claim : (w : List ℕ) (block lim : ℕ) (u kept : Option ℕ) (q : List Answer) (buffer : Buffer) (code : List Stmt) → StandsOn w lim st q buffer
        → (state_of auto.states st.state).edges ≡ []
        → EndsIn p x start (4 * statement_count p.blocks) code (at st.offset lim held u kept k) q (told_behind endings cond auto st)
        → Tells lim st code held u kept k q (told_on st w)
    lone_claim w block lim u kept q buffer code stands lone over =
        let below = stands.below in
        ends_so p x start {Told = λ e. TellsOrEnds p supply (length x) (told_on st w) e} over refl (omega (arith, below))
        (inr (ap (λ s. told_behind endings cond auto s) (sym (last_standing-lone auto st w lone))))

  -- from the block of a state on, where the units and the answers that are left are fewer than some
  abbrev pub FromState : (g : ℕ) → Type 0
  FromState g =
      (w : List ℕ) (lim : ℕ) (u kept : Option ℕ) (q : List Answer) (buffer : Buffer) (st : Standing) (held : Option Left) (k : Bank) (code : List Stmt)
      → length w + length q < g → is_entered end_rule auto st.state ≡ true → HoldsAs halting auto st held k → StandsOn w lim st q buffer → slice_get (code_of p.blocks) (place st.state) ≡ Some code
      → Tells lim st code held u kept k q (told_on st w)

  pub state_claim : (g : ℕ) → FromState g
  state_claim zero w lim u kept q buffer st held k code few entered h stands own = absurd (omega (arith, few))
  state_claim (suc g) w lim u kept q buffer st held k code few entered h stands own =
      by (serves.states st.state h.state entered) (state_claim g)
    where
      by : ServesState supply halting endings greatest auto (code_of p.blocks) place saved rules fall st.state (state_of auto.states st.state) → FromState g
          → Tells lim st code held u kept k q (told_on st w)
      by (ends lone is) later =
          lone_claim st held k h w (place st.state) lim u kept q buffer code stands lone
          (widen_end p x start (4 * statement_count p.blocks) (end_run st held k h (place st.state) lim u kept q code is own) (omega arith))
      by (goes lone block jumps is) later =
          let next = target st.state None block h.state is in
          let n = length-block (code_of p.blocks) (place st.state) (Goto block ∷ []) jumps in
          let same : Goto block ∷ [] ≡ code = cc in
          let one = step_in p x start {s = Goto block} {b = []} {b' = next.0} {m = at st.offset lim held u kept k} {m' = at st.offset lim held u kept k}
          {q = q} {q' = q} (ap (λ o. jump o (at st.offset lim held u kept k) q) next.1) (omega arith) in
          let over = end_in p x start (4 * statement_count p.blocks) one (end_run st held k h block lim u kept q next.0 is next.1) (omega (arith, n)) in
          lone_claim st held k h w block lim u kept q buffer code stands lone
          (subst (λ c. EndsIn p x start (4 * statement_count p.blocks) c (at st.offset lim held u kept k) q (told_behind endings cond auto st)) same over)
      by (reads some reader) later =
          reader_claim p x start supply halting endings greatest auto place saved rules fall end_rule serves formed at_limit stored fits next_code first cond st held k h
          (state st.state) (supply.check st.state) (place st.state)
          (IsEnd supply halting endings greatest auto (code_of p.blocks) place saved rules fall st.state (state_of auto.states st.state).accept)
          (λ to is. target st.state None to h.state is) code own w lim u kept q buffer stands suffices (told_on st w) reader there
          (λ unit w' e. ap (λ l. told_on st l) e)
          (λ to next lim' u' kept' q' e is is_next.
          subst (λ l. EndsIn p x start (3 * statement_count p.blocks) next (at st.offset lim' held u' kept' k) q' (told_on st l)) (sym e)
          (end_run st held k h to lim' u' kept' q' next is is_next))
          (λ lim' u' kept' q' buffer' fewer stands'. later w lim' u' kept' q' buffer' st held k code (omega (arith, few, fewer)) entered h stands' own)
          (λ unit w' edge e code' lim' u' kept' q' buffer' fewer on is stands'.
          let n = ap length e in
          later w' lim' u' kept' q' buffer' _ _ _ code' (omega (arith, few, fewer, n))
          (entered-edge end_rule auto st.state unit edge h.state on) (HoldsAs-edge halting auto st held k unit edge formed serves.onward h on) stands' is)
        where
          there : supply.eof ≡ None → supply.check st.state ≡ 0 → st.offset < lim
          there none unchecked =
              let one = suffices-one auto supply.check st.state (lim - st.offset) some (stands.ready none unchecked) in omega (arith, one)

          suffices : supply.eof ≡ None → (lim' : ℕ) → lim ≤ lim' → st.offset + supply.check st.state ≤ lim'
              → Suffices (graph_of auto) supply.check st.state (lim' - st.offset)
          suffices none lim' more room = by_check (supply.check st.state) refl
            where
              by_check : (n : ℕ) → supply.check st.state ≡ n → Suffices (graph_of auto) supply.check st.state (lim' - st.offset)
              by_check zero e =
                  suffices-more auto supply.check st.state (lim - st.offset) (lim' - st.offset) (omega (arith, more)) (stands.ready none e)
              by_check (suc n) e =
                  suffices-more auto supply.check st.state (supply.check st.state) (lim' - st.offset) (omega (arith, room))
                  ((enough none).most st.state (λ z. omega (arith, e, z)))
