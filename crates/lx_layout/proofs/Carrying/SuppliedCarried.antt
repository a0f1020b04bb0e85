-- A piece whose blocks serve an automaton with some supply of units carries the automaton.
use Rattle.std.specs.Prelude.{◌≡◌, ◌⊎◌, ℕ, zero, suc, ◌+◌, ◌<◌, ◌≤◌, Bool, true, false, ◌||◌, List, [], ◌∷◌, length, Option, Some, None, refl, slice_get}
use Rattle.std.proofs.Common.{inl, inr, sym, ap, ◌∙◌, subst, arith}
use Rattle.lx_auto.specs.Automaton.{IsAuto, edge_on, state_of}
use Rattle.lx_auto.specs.Bank.{Bank}
use Rattle.lx_auto.specs.Run.{Standing, start_with}
use Rattle.lx_auto.specs.declared.automaton.Accept.{Accept}
use Rattle.lx_auto.specs.declared.automaton.Auto.{Auto}
use Rattle.lx_auto.specs.declared.automaton.Edge.{Edge}
use Rattle.lx_auto.specs.declared.automaton.State.{State}
use Rattle.lx_auto.proofs.States.{edge_on-leads, state_formed}
use Rattle.lx_ccode.specs.declared.piece.CodeBlock.{CodeBlock}
use Rattle.lx_ccode.specs.declared.piece.Piece.{Piece}
use Rattle.lx_ccode.specs.declared.piece.Stmt.{Stmt}
use Rattle.lx_ccode.specs.declared.piece.Stmt.TheVariants.{Goto, Peek}
use Rattle.lx_ccode.specs.Machine.{Answer, Machine, code_at}
use Rattle.lx_ccode.specs.Scanners.{IsMadeBy, IsOfScanner, StandsIn}
use Rattle.lx_ccode.specs.Statements.{code_of}
use Rattle.lx_ccode.proofs.TraceSteps.{LeadsSo, goto_step}
use Rattle.lx_layout.specs.Carries.{Carries, EndsAs, GoesBy, HasEdge, IsUnitOf, NamesItsOwn, ReadsAs, StopsAs}
use Rattle.lx_layout.specs.Codes.{accept_code, saved_by}
use Rattle.lx_layout.specs.Endings.{Ending, ending_code}
use Rattle.lx_layout.specs.Fallback.{edge_code, fallback_code}
use Rattle.lx_layout.specs.Supplied.{EndsBy, IsEnd, IsTarget, Serves, ServesEntry, ServesReader, ServesState, ends, goes, reads}
use Rattle.lx_layout.specs.Halting.{Halting, is_entered, is_saved}
use Rattle.lx_layout.specs.Supplies.{Reader, Supply}
use Rattle.lx_layout.specs.Supplies as supplies
use Rattle.lx_layout.proofs.BlockLayouts.Questions.{FitsTable}
use Rattle.lx_layout.proofs.Supplied.EnteredStates.{behind_entry, entered-lone}
use Rattle.lx_layout.proofs.Carrying.ServedEdges.{edge_leads, passed, passed_stands}
use Rattle.lx_layout.proofs.Carrying.ServedEnds.{stop_ends}
use Rattle.lx_layout.proofs.Carrying.ServedReaders.{Enters, reader_code, reader_enters}
use Rattle.lx_layout.proofs.Carrying.SavedAccepts.{Stands, stands_still}
use Rattle.lx_layout.proofs.Carrying.SilentTraces.{walk_ends, walk_leads, walk_step}
use Rattle.lx_layout.proofs.Carrying.RunStates.{IsUsual, edge_within, usual_reached, usual_start}
use Rattle.lx_layout.proofs.Runs.CarriedSteps.{ends_as, follows}
use Rattle.lx_layout.proofs.Runs.UnitsLeft.{edge_on-one}

-- what has code is a block of the piece
block_within : (blocks : List CodeBlock) (block : ℕ) (code : List Stmt) → code_at blocks (Some block) ≡ Some code → block < length blocks
block_within [] block code is = absurd cc
block_within (first ∷ blocks) zero code is = omega arith
block_within (first ∷ blocks) (suc block) code is = let within = block_within blocks block code is in omega (arith, within)

module _ (supply : Supply) (halting : Halting) (endings : ℕ → Ending) (greatest : ℕ) (auto : Auto) (piece : Piece) (place : ℕ → ℕ) (saved : Option (ℕ → ℕ)) (rules : ℕ → ℕ) (fall : ℕ)
    (end_rule : Option ℕ) (entry : ℕ) (serves : Serves supply halting endings greatest auto (code_of piece.blocks) place saved rules fall end_rule)
    (serves_entry : ServesEntry supply halting endings greatest auto (code_of piece.blocks) place saved rules fall end_rule entry) (formed : IsAuto auto)
    (fits : FitsTable supply.among piece) where
  abbrev state_at : ℕ → State
  state_at number = state_of auto.states number

  abbrev Code : ℕ → List Stmt → Type 0
  Code block code = code_at piece.blocks (Some block) ≡ Some code

  abbrev Ends : ℕ → ℕ → Type 0
  Ends number block =
      IsEnd supply halting endings greatest auto (code_of piece.blocks) place saved rules fall number (state_at number).accept block

  abbrev Target : ℕ → Option Edge → ℕ → Type 0
  Target number o block = IsTarget supply halting endings greatest auto (code_of piece.blocks) place saved rules fall number (state_at number) o block

  abbrev Reads : ℕ → Standing → Type 0
  Reads block standing = ReadsAs piece endings auto place saved halting.falls block standing

  -- ---- each target has a block

  end_code : (number : ℕ) → number < length auto.states → (block : ℕ) → Ends number block → (code : List Stmt) × Code block code
  end_code number lt block end = by (state_at number).accept refl end.1 where
    by : (o : Option Accept) → (state_at number).accept ≡ o
        → EndsBy supply halting endings greatest auto (code_of piece.blocks) place saved rules fall o block → (code : List Stmt) × Code block code
    by None e is = (
      fallback_code (halting.falls 0) serves.choices,
      ap (λ n. slice_get (code_of piece.blocks) n) is ∙ serves.fallback number lt (serves.falls number lt e end.0),
    )
    by (Some accept) e (inl has) = (accept_code auto accept.ops (rules accept.rule), has)
    by (Some accept) e (inr shared) = (
      ending_code endings accept.rule accept.values,
      ap (λ n. slice_get (code_of piece.blocks) n) shared.0
          ∙ serves.ends number accept lt e (ap (λ t. t || is_saved halting (state_at number)) end.0),
    )

  target_code : (number : ℕ) → number < length auto.states → (o : Option Edge) (block : ℕ) → Target number o block
      → (code : List Stmt) × Code block code
  target_code number lt None block target = end_code number lt block target
  target_code number lt (Some edge) block target = (edge_code halting auto (state_at number) (saved_by saved number) edge (place edge.to), target)

  -- this reader reads units as the state with this number does
  abbrev ReadsLike : (number : ℕ) → Reader → (units block : ℕ) → (Stops : ℕ → Type 0) → Type 0
  ReadsLike number reader units block Stops =
      ServesReader supply halting endings greatest auto (code_of piece.blocks) place saved rules fall reader units block
      (λ unit to. Target number (edge_on (state_at number).edges unit) to) Stops

  like_code : (number : ℕ) → number < length auto.states → (reader : Reader) (units block : ℕ) (Stops : ℕ → Type 0)
      → ReadsLike number reader units block Stops → (code : List Stmt) × Code block code
  like_code number lt reader units block Stops reader_serves =
      reader_code piece [] [] supply halting endings greatest auto place saved rules fall reader units block
      (λ unit to. Target number (edge_on (state_at number).edges unit) to) Stops
      (λ unit to. target_code number lt (edge_on (state_at number).edges unit) to) reader_serves

  -- each state has a block; one to which no match comes has the entry's
  state_code : (number : ℕ) → number < length auto.states → (code : List Stmt) × Code (place number) code
  state_code number lt = by_entry (is_entered end_rule auto number) refl where
    by : ServesState supply halting endings greatest auto (code_of piece.blocks) place saved rules fall number (state_at number)
        → (code : List Stmt) × Code (place number) code
    by (ends none end) = end_code number lt (place number) end
    by (goes none block has end) = (Goto block ∷ [], has)
    by (reads some reader) = like_code number lt _ _ (place number) _ reader

    by_entry : (t : Bool) → is_entered end_rule auto number ≡ t → (code : List Stmt) × Code (place number) code
    by_entry true entered = by (serves.states number lt entered)
    by_entry false never =
        let behind = behind_entry end_rule auto number never in
        let apart = subst (λ o. ServesEntry supply halting endings greatest auto (code_of piece.blocks) place saved rules fall o entry) behind.some serves_entry in
        let code = like_code 0 formed.start _ _ entry _ apart.1 in
        (code.0, ap (λ n. slice_get (code_of piece.blocks) (place n)) behind.zeroth ∙ ap (λ n. slice_get (code_of piece.blocks) n) (apart.0 behind.never) ∙ code.1)

  -- ---- what reads a unit

  module _ (stream : List ℕ) (machine : Machine) (answers : List Answer) (standing : Standing) (usual : IsUsual halting auto standing)
      (stands : Stands piece endings auto place saved halting.falls machine standing) where
    abbrev Goes : List Stmt → Option Edge → Type 0
    Goes code o = GoesBy piece endings auto place saved halting.falls stream code machine answers standing o

    goes_on_edge : (o : Option Edge) (unit : ℕ) (code : List Stmt) → edge_on (state_at standing.state).edges unit ≡ o → machine.cursor < machine.limit
        → Enters piece stream answers code machine (Target standing.state o) → Goes code o
    goes_on_edge None unit code on before enters =
        ends_as piece endings auto place saved halting.falls stream code machine answers standing (enters.peeks + 0) (let few = enters.few in omega (arith, few))
        (walk_ends piece stream enters.walks
        (stop_ends supply halting endings greatest auto piece place saved rules fall end_rule serves formed stream answers enters.block enters.to
        (record machine { state = enters.state; unit = enters.unit }) standing usual.state enters.target enters.has
        (stands_still piece endings auto place saved halting.falls stands enters.state enters.unit) usual.left usual.fresh))
    goes_on_edge (Some edge) unit code on before enters =
        let leads = edge_on-leads auto.regs auto.mregs (length auto.states) (state_at standing.state).edges unit edge
        (state_formed auto standing.state formed).lead on in
        let next = state_code edge.to leads.0 in
        let here : Machine = record machine { state = enters.state; unit = enters.unit } in
        let own : List Stmt = edge_code halting auto (state_at standing.state) (saved_by saved standing.state) edge (place edge.to) in
        let target : Code enters.block own = enters.target in
        let has = enters.has in
        let same : own ≡ enters.to = cc in
        let walk = edge_leads piece endings auto place saved halting formed stream answers standing edge here next.0 leads.1 next.1 before in
        follows piece endings auto place saved halting.falls stream code machine answers standing edge next.0
        (passed piece endings auto place saved halting formed stream answers standing edge here) (enters.peeks + 0)
        (let few = enters.few in omega (arith, few))
        (walk_leads piece stream enters.walks
        (subst (λ (l : List Stmt). LeadsSo piece stream 0 1 (place edge.to) l here answers next.0
        (passed piece endings auto place saved halting formed stream answers standing edge here)) same walk))
        next.1
        (passed_stands piece endings auto place saved halting formed stream answers standing edge here leads.1
        (λ none falls. serves.onward standing.state edge usual.state none (edge_on-one (state_at standing.state).edges unit edge on) falls)
        (stands_still piece endings auto place saved halting.falls stands enters.state enters.unit))
        refl refl

    -- where the match ends whatever follows
    stops_at : (block : ℕ) (code : List Stmt) → Code block code → Ends standing.state block
        → EndsAs piece endings auto place saved halting.falls stream code machine answers 0 standing
    stops_at block code has end =
        ends_as piece endings auto place saved halting.falls stream code machine answers standing 0 (omega arith)
        (stop_ends supply halting endings greatest auto piece place saved rules fall end_rule serves formed stream answers block code machine standing usual.state end has
        stands usual.left usual.fresh)

    stops_behind : (block : ℕ) → Ends standing.state block
        → EndsAs piece endings auto place saved halting.falls stream (Goto block ∷ []) machine answers 0 standing
    stops_behind block end =
        let to = end_code standing.state usual.state block end in
        ends_as piece endings auto place saved halting.falls stream (Goto block ∷ []) machine answers standing 0 (omega arith)
        (walk_ends piece stream (walk_step piece stream (Goto block) refl refl (goto_step piece stream [] machine answers block to.0 to.1))
        (stop_ends supply halting endings greatest auto piece place saved rules fall end_rule serves formed stream answers block to.0 machine standing usual.state end to.1
        stands usual.left usual.fresh))

  -- from a reader's block the machine goes as the run does
  reader_reads : (standing : Standing) → IsUsual halting auto standing → (reader : Reader) (units block : ℕ) (Stops : ℕ → Type 0)
      → ReadsLike standing.state reader units block Stops → ((unit : ℕ) → IsUnitOf piece unit → unit ≤ greatest) → Reads block standing
  reader_reads standing usual reader units block Stops reader_serves within =
      let code = like_code standing.state usual.state reader units block Stops reader_serves in
      record {
        code = code.0;
        is = code.1;
        goes = λ stream machine answers unit stands enough here of_piece.
            goes_on_edge stream machine answers standing usual stands (edge_on (state_at standing.state).edges unit) unit code.0 refl enough.one
            (reader_enters piece stream answers supply halting endings greatest auto place saved rules fall reader units block
            (λ unit to. Target standing.state (edge_on (state_at standing.state).edges unit) to) Stops
            (λ unit to. target_code standing.state usual.state (edge_on (state_at standing.state).edges unit) to)
            fits machine unit here code.0 reader_serves code.1 enough (within unit of_piece));
      }

  no_edge : (number unit : ℕ) → (state_at number).edges ≡ [] → edge_on (state_at number).edges unit ≡ None
  no_edge number unit none = ap (λ edges. edge_on edges unit) none

  -- in a state without an edge the match ends
  ended_reads : (block : ℕ) (standing : Standing) → (state_at standing.state).edges ≡ [] → StopsAs piece endings auto place saved halting.falls block standing
      → Reads block standing
  ended_reads block standing none stops = record {
    code = stops.code;
    is = stops.is;
    goes = λ stream machine answers unit stands enough here of_piece.
        subst (λ o. GoesBy piece endings auto place saved halting.falls stream stops.code machine answers standing o) (sym (no_edge standing.state unit none))
        (stops.stops stream machine answers stands);
  }

  place_stops : (standing : Standing) → IsUsual halting auto standing → (state_at standing.state).edges ≡ []
      → StopsAs piece endings auto place saved halting.falls (place standing.state) standing
  place_stops standing usual none =
      by (serves.states standing.state usual.state (entered-lone end_rule auto standing.state none)) where
        by : ServesState supply halting endings greatest auto (code_of piece.blocks) place saved rules fall standing.state (state_at standing.state)
            → StopsAs piece endings auto place saved halting.falls (place standing.state) standing
        by (ends also end) =
            let code = end_code standing.state usual.state (place standing.state) end in
            record {
              code = code.0;
              is = code.1;
              stops = λ stream machine answers stands. stops_at stream machine answers standing usual stands (place standing.state) code.0 code.1 end;
            }
        by (goes also block has end) = record {
          code = Goto block ∷ [];
          is = has;
          stops = λ stream machine answers stands. stops_behind stream machine answers standing usual stands block end;
        }
        by (reads some reader) = absurd (some none)

  place_reads : (standing : Standing) → IsUsual halting auto standing → ((unit : ℕ) → IsUnitOf piece unit → unit ≤ greatest)
      → Reads (place standing.state) standing
  place_reads standing usual within = by_entry (is_entered end_rule auto standing.state) refl where
    by : ServesState supply halting endings greatest auto (code_of piece.blocks) place saved rules fall standing.state (state_at standing.state)
        → Reads (place standing.state) standing
    by (ends none end) = ended_reads (place standing.state) standing none (place_stops standing usual none)
    by (goes none block has end) = ended_reads (place standing.state) standing none (place_stops standing usual none)
    by (reads some reader) = reader_reads standing usual _ _ (place standing.state) _ reader within

    by_entry : (t : Bool) → is_entered end_rule auto standing.state ≡ t → Reads (place standing.state) standing
    by_entry true entered = by (serves.states standing.state usual.state entered)
    by_entry false never =
        let behind = behind_entry end_rule auto standing.state never in
        let apart = subst (λ o. ServesEntry supply halting endings greatest auto (code_of piece.blocks) place saved rules fall o entry) behind.some serves_entry in
        let here : place standing.state ≡ entry = ap (λ n. place n) behind.zeroth ∙ apart.0 behind.never in
        let stop : ℕ → Type 0 = λ end. slice_get (code_of piece.blocks) end ≡ Some (ending_code endings behind.rule []) in
        subst (λ block. Reads block standing) (sym here)
        (reader_reads standing usual supplies.entry 0 entry stop
        (subst (λ n. ReadsLike n supplies.entry 0 entry stop) (sym behind.zeroth) apart.1) within)

  entry_reads : (given : Option ℕ) → ServesEntry supply halting endings greatest auto (code_of piece.blocks) place saved rules fall given entry
      → ((unit : ℕ) → IsUnitOf piece unit → unit ≤ greatest) → (start : ℕ) (bank : Bank) → Reads entry (start_with start bank)
  entry_reads None is within start bank =
      subst (λ block. Reads block (start_with start bank)) (sym is) (place_reads (start_with start bank) (usual_start halting auto formed serves.onward start bank) within)
  entry_reads (Some rule) reader within start bank =
      reader_reads (start_with start bank) (usual_start halting auto formed serves.onward start bank) _ _ entry _ reader.1 within

  pub supplied_carries : ((unit : ℕ) → IsUnitOf piece unit → unit ≤ greatest)
      → ((state other : ℕ) → HasEdge auto state → HasEdge auto other → place state ≡ place other → state ≡ other)
      → ((block : ℕ) → IsOfScanner piece.blocks entry block → StandsIn piece.blocks block Peek
      → (block ≡ entry) ⊎ ((state : ℕ) × HasEdge auto state × (place state ≡ block)))
      → ((statement : Stmt) → IsMadeBy piece.blocks entry statement → NamesItsOwn auto statement)
      → Carries piece entry endings auto
  supplied_carries within apart peeks own = record {
    place = place;
    saved = saved;
    falls = halting.falls;
    blocks = λ number has.
        let code = state_code number (edge_within auto number has) in
        block_within piece.blocks (place number) code.0 code.1;
    apart = apart;
    peeks = peeks;
    registers = own;
    starts = λ start bank empty. entry_reads end_rule serves_entry within start bank;
    moves = λ standing reached. place_reads standing (usual_reached halting auto formed serves.onward standing reached) within;
    stops = λ standing reached none. place_stops standing (usual_reached halting auto formed serves.onward standing reached) none;
  }

  -- with its places
  pub supplied_carries_at : ((unit : ℕ) → IsUnitOf piece unit → unit ≤ greatest)
      → ((state other : ℕ) → HasEdge auto state → HasEdge auto other → place state ≡ place other → state ≡ other)
      → ((block : ℕ) → IsOfScanner piece.blocks entry block → StandsIn piece.blocks block Peek
      → (block ≡ entry) ⊎ ((state : ℕ) × HasEdge auto state × (place state ≡ block)))
      → ((statement : Stmt) → IsMadeBy piece.blocks entry statement → NamesItsOwn auto statement)
      → (carries : Carries piece entry endings auto) × (carries.place ≡ place)
  unfolding supplied_carries
  supplied_carries_at within apart peeks own = (supplied_carries within apart peeks own, refl)
