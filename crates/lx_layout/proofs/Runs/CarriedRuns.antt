-- Where a run of an automaton goes, the machine goes in a piece that carries it.
use Rattle.std.specs.Prelude.{◌≡◌, ℕ, suc, ◌+◌, ◌<◌, ◌≤◌, List, [], ◌∷◌, ◌++◌, length, drop, Option, Some, None, refl}
use Rattle.std.proofs.Common.{sym, ap, ap₂, ◌∙◌, subst, arith}
use Rattle.std.specs.List.{AllByRecursion}
use Rattle.lx_auto.specs.Automaton.{edge_on, state_of}
use Rattle.lx_auto.specs.Bank.{Bank}
use Rattle.lx_auto.specs.Run.{Standing, and_then, behind_edge, by_edge, found_behind, run, start_with, step}
use Rattle.lx_auto.specs.declared.automaton.Auto.{Auto}
use Rattle.lx_auto.specs.declared.automaton.Edge.{Edge}
use Rattle.lx_auto.proofs.Runs.{run-one_more}
use Rattle.lx_ccode.specs.declared.piece.Piece.{Piece}
use Rattle.lx_ccode.specs.declared.piece.Stmt.{Stmt}
use Rattle.lx_ccode.specs.Machine.{Answer, Machine, code_at}
use Rattle.lx_ccode.specs.Scanners.{CheckAtMost, units_checked}
use Rattle.lx_ccode.specs.Traces.{is_peek, is_skip}
use Rattle.lx_ccode.proofs.TraceSteps.{All-code, All-implied}
use Rattle.lx_layout.specs.Carries.{Carries, EndsAs, GoesBy, HasUnits, IsReached, IsUnitOf, LeadsTo, ReadsAs, StandsAs}
use Rattle.lx_layout.specs.Endings.{Ending}
use Rattle.lx_layout.specs.Stops.{told_found}
use Rattle.lx_layout.proofs.Carrying.SilentTraces.{counted_on, next_on}
use Rattle.lx_layout.proofs.Runs.UnitsLeft.{left_unit}

-- a run that stands somewhere stands behind each further step
pub reached_on : (auto : Auto) (standing next : Standing) (unit : ℕ) → IsReached auto standing → step auto standing unit ≡ Some next
    → IsReached auto next
reached_on auto standing next unit reached e = (
  reached.0,
  reached.1,
  reached.2 ++ unit ∷ [],
  reached.3,
  run-one_more auto (start_with reached.0 reached.1) reached.2 unit
      ∙ ap (λ o. and_then o (λ last. step auto last unit)) reached.4 ∙ e,
)

module _ (piece : Piece) (entry : ℕ) (endings : ℕ → Ending) (auto : Auto) (carries : Carries piece entry endings auto) (stream : List ℕ) where
  abbrev Leads : List Stmt → Machine → List Answer → (units : ℕ) → Standing → Type 0
  Leads code machine answers units standing = LeadsTo piece endings auto carries.place carries.saved carries.falls stream code machine answers units standing

  abbrev Ends : List Stmt → Machine → List Answer → (units : ℕ) → Standing → Type 0
  Ends code machine answers units standing = EndsAs piece endings auto carries.place carries.saved carries.falls stream code machine answers units standing

  abbrev Stands : Machine → Standing → Type 0
  Stands machine standing = StandsAs piece endings auto carries.place carries.saved carries.falls machine standing

  abbrev Goes : List Stmt → Machine → List Answer → Standing → Option Edge → Type 0
  Goes code machine answers standing o = GoesBy piece endings auto carries.place carries.saved carries.falls stream code machine answers standing o

  -- ---- stretches one behind another

  then_leads : {units more : ℕ} {code : List Stmt} {machine : Machine} {answers : List Answer} {between last : Standing}
      (first : Leads code machine answers units between) → Leads first.next first.after answers more last
      → Leads code machine answers (units + more) last
  then_leads {code = code} {machine = machine} {answers = answers} first then =
      let peeks = counted_on piece stream code machine answers first.steps then.steps first.leads is_peek in
      record {
        steps = first.steps + then.steps;
        next = then.next;
        after = then.after;
        leads = next_on piece stream code machine answers first.steps then.steps first.leads ∙ then.leads;
        at_place = then.at_place;
        stands = then.stands;
        passes = counted_on piece stream code machine answers first.steps then.steps first.leads is_skip ∙ ap₂ (λ a b. a + b) first.passes then.passes;
        reads = omega (arith, peeks, first.reads, then.reads);
        limit = then.limit ∙ first.limit;
        cond = then.cond ∙ first.cond;
      }

  then_ends : {units more : ℕ} {code : List Stmt} {machine : Machine} {answers : List Answer} {between last : Standing}
      (first : Leads code machine answers units between) → Ends first.next first.after answers more last
      → Ends code machine answers (units + more) last
  then_ends {code = code} {machine = machine} {answers = answers} {last = last} first then =
      let peeks = counted_on piece stream code machine answers first.steps then.steps first.leads is_peek in
      record {
        steps = first.steps + then.steps;
        outcome = then.outcome;
        after = then.after;
        over = next_on piece stream code machine answers first.steps then.steps first.leads ∙ then.over;
        tells = then.tells ∙ ap (λ c. told_found endings c (found_behind auto last) last.offset) first.cond;
        passes = counted_on piece stream code machine answers first.steps then.steps first.leads is_skip ∙ ap₂ (λ a b. a + b) first.passes then.passes;
        reads = omega (arith, peeks, first.reads, then.reads);
      }

  -- ---- along a word

  -- no check asks for more units than there are left behind the word
  module _ (ahead : ℕ) (some : 0 < ahead) (checks : CheckAtMost ahead piece.blocks) where
    has_units : (block : ℕ) (code : List Stmt) (machine : Machine) → code_at piece.blocks (Some block) ≡ Some code
        → machine.cursor + ahead ≤ machine.limit → HasUnits code machine
    has_units block code machine is le = record {
      one = omega (arith, some, le);
      checked = All-implied (λ s. units_checked s ≤ ahead) (λ s. machine.cursor + units_checked s ≤ machine.limit) (λ s few. omega (arith, few, le)) code
          (All-code (λ s. units_checked s ≤ ahead) piece.blocks block code is checks);
    }

    -- where a run stands, the machine goes on a unit as the run goes
    goes_at : (block : ℕ) (standing : Standing) → ReadsAs piece endings auto carries.place carries.saved carries.falls block standing
        → (code : List Stmt) (machine : Machine) (answers : List Answer) (unit : ℕ) (more : List ℕ)
        → code_at piece.blocks (Some block) ≡ Some code → Stands machine standing → unit ∷ more ≡ drop machine.cursor stream → IsUnitOf piece unit
        → machine.cursor + ahead ≤ machine.limit → Goes code machine answers standing (edge_on (state_of auto.states standing.state).edges unit)
    goes_at block standing reads code machine answers unit more at stands split is le =
        let read = reads.is in
        let same : reads.code ≡ code = cc in
        let here = left_unit machine.cursor unit more stream split in
        subst (λ c. Goes c machine answers standing (edge_on (state_of auto.states standing.state).edges unit)) same
        (reads.goes stream machine answers unit stands (has_units block reads.code machine read le) here.1 is)

    -- what is asked of the machine where a word is to be passed
    pub record Meets (block : ℕ) (code : List Stmt) (machine : Machine) (standing : Standing) (word rest : List ℕ) : Type 0 where
      pub at : code_at piece.blocks (Some block) ≡ Some code
      pub stands : Stands machine standing
      pub split : word ++ rest ≡ drop machine.cursor stream
      pub units : AllByRecursion (IsUnitOf piece) word
      pub enough : machine.cursor + (length word + ahead) ≤ suc machine.limit

    meets_next : {block : ℕ} {code : List Stmt} {machine : Machine} {answers : List Answer} {standing : Standing} {unit : ℕ} {word rest : List ℕ} (edge : Edge)
        → Meets block code machine standing (unit ∷ word) rest → (first : Leads code machine answers 1 (behind_edge (state_of auto.states standing.state) standing edge))
        → Meets (carries.place edge.to) first.next first.after (behind_edge (state_of auto.states standing.state) standing edge) word rest
    meets_next {machine = machine} {unit = unit} {word = word} {rest = rest} edge meets first =
        let here = left_unit machine.cursor unit (word ++ rest) stream meets.split in
        let one_on : first.after.cursor ≡ suc machine.cursor = first.stands.cursor ∙ ap suc (sym meets.stands.cursor) in
        let enough = meets.enough in
        let limit = first.limit in
        record {
          at = first.at_place;
          stands = first.stands;
          split = here.2 ∙ ap (λ n. drop n stream) (sym one_on);
          units = meets.units.1;
          enough = omega (arith, one_on, enough, limit);
        }

    -- a word leads to where its run stands, and the rest of the stream is left
    pub record Led (code : List Stmt) (machine : Machine) (answers : List Answer) (word rest : List ℕ) (last : Standing) : Type 0 where
      pub leads : Leads code machine answers (length word) last
      pub reached : IsReached auto last
      pub cursor : leads.after.cursor ≡ machine.cursor + length word
      pub left : rest ≡ drop leads.after.cursor stream

    -- by an edge first
    led_on : {block : ℕ} {code : List Stmt} {machine : Machine} {answers : List Answer} {standing last : Standing} {unit : ℕ} {word rest : List ℕ} (edge : Edge)
        → Meets block code machine standing (unit ∷ word) rest
        → (first : Leads code machine answers 1 (behind_edge (state_of auto.states standing.state) standing edge))
        → Led first.next first.after answers word rest last → Led code machine answers (unit ∷ word) rest last
    unfolding then_leads
    led_on {code = code} {machine = machine} {answers = answers} {last = last} {word = word} edge meets first then =
        let one : 1 + length word ≡ suc (length word) = omega arith in
        let one_on : first.after.cursor ≡ suc machine.cursor = first.stands.cursor ∙ ap suc (sym meets.stands.cursor) in
        let cursor = then.cursor in
        let leads = then_leads first then.leads in
        record {
          leads = record {
            steps = leads.steps;
            next = leads.next;
            after = leads.after;
            leads = leads.leads;
            at_place = leads.at_place;
            stands = leads.stands;
            passes = leads.passes ∙ one;
            reads = let few = leads.reads in omega (arith, few);
            limit = leads.limit;
            cond = leads.cond;
          };
          reached = then.reached;
          cursor = omega (arith, one_on, cursor);
          left = then.left;
        }

    -- from the place of the state where a run stands to the place of the one where it stands behind a word
    pub lead : (word rest : List ℕ) (standing last : Standing) (code : List Stmt) (machine : Machine) (answers : List Answer) → IsReached auto standing
        → run auto standing word ≡ Some last → Meets (carries.place standing.state) code machine standing word rest
        → Led code machine answers word rest last
    lead [] rest standing last code machine answers reached ran meets =
        let same : standing ≡ last = cc in
        subst (λ (s : Standing). Led code machine answers [] rest s) same
        (record {
          leads = record {
            steps = 0;
            next = code;
            after = machine;
            leads = refl;
            at_place = meets.at;
            stands = meets.stands;
            passes = refl;
            reads = omega arith;
            limit = refl;
            cond = refl;
          };
          reached = reached;
          cursor = omega arith;
          left = meets.split;
        })
    lead (unit ∷ word) rest standing last code machine answers reached ran meets =
        by (edge_on (state_of auto.states standing.state).edges unit) refl ran
        (goes_at (carries.place standing.state) standing (carries.moves standing reached) code machine answers unit (word ++ rest)
        meets.at meets.stands meets.split meets.units.0 (let enough = meets.enough in omega (arith, enough)))
        (λ next code machine reached ran meets. lead word rest next last code machine answers reached ran meets)
      where
        by : (o : Option Edge) → edge_on (state_of auto.states standing.state).edges unit ≡ o
            → and_then (by_edge (state_of auto.states standing.state) standing o) (λ next. run auto next word) ≡ Some last
            → Goes code machine answers standing o
            → ((next : Standing) (code : List Stmt) (machine : Machine) → IsReached auto next → run auto next word ≡ Some last
            → Meets (carries.place next.state) code machine next word rest → Led code machine answers word rest last)
            → Led code machine answers (unit ∷ word) rest last
        by None on ran goes again = absurd cc
        by (Some edge) on ran goes again =
            let next : Standing = behind_edge (state_of auto.states standing.state) standing edge in
            let stepped : step auto standing unit ≡ Some next = ap (by_edge (state_of auto.states standing.state) standing) on in
            led_on edge meets goes.leads
            (again next goes.leads.next goes.leads.after (reached_on auto standing next unit reached stepped) ran (meets_next edge meets goes.leads))

    -- where no edge is on the next unit, the match ends
    stop : (standing : Standing) (block : ℕ) (code : List Stmt) (machine : Machine) (answers : List Answer) (unit : ℕ) (rest : List ℕ)
        → ReadsAs piece endings auto carries.place carries.saved carries.falls block standing
        → edge_on (state_of auto.states standing.state).edges unit ≡ None → code_at piece.blocks (Some block) ≡ Some code → Stands machine standing
        → unit ∷ rest ≡ drop machine.cursor stream → IsUnitOf piece unit → machine.cursor + ahead ≤ machine.limit
        → Ends code machine answers 0 standing
    stop standing block code machine answers unit rest reads none at stands split is le =
        subst (λ o. Goes code machine answers standing o) none
        (goes_at block standing reads code machine answers unit rest at stands split is le)

    stop_behind : {word rest : List ℕ} {unit : ℕ} {last : Standing} {code : List Stmt} {machine : Machine} {answers : List Answer}
        → Led code machine answers word (unit ∷ rest) last → edge_on (state_of auto.states last.state).edges unit ≡ None → IsUnitOf piece unit
        → machine.cursor + (length word + ahead) ≤ machine.limit → Ends code machine answers (length word) last
    stop_behind {word} {rest} {unit} {last} {code} {machine} {answers} led none is enough =
        let leads = led.leads in
        let cursor = led.cursor in
        let limit = leads.limit in
        let nothing : length word + 0 ≡ length word = omega arith in
        subst (λ n. Ends code machine answers n last) nothing
        (then_ends led.leads
        (stop last (carries.place last.state) leads.next leads.after answers unit rest (carries.moves last led.reached) none leads.at_place leads.stands
        led.left is (omega (arith, cursor, limit, enough))))

    -- ---- from the entry

    at_start : (start : ℕ) (bank : Bank) → bank.mregs 0 ≡ [] → IsReached auto (start_with start bank)
    at_start start bank empty = (start, bank, [], empty, refl)

    -- the match ends behind the word, where the run stands
    pub match_ends : (word rest : List ℕ) (unit start : ℕ) (bank : Bank) (last : Standing) (code : List Stmt) (machine : Machine) (answers : List Answer)
        → bank.mregs 0 ≡ [] → run auto (start_with start bank) word ≡ Some last → edge_on (state_of auto.states last.state).edges unit ≡ None
        → IsUnitOf piece unit → machine.cursor + (length word + ahead) ≤ machine.limit
        → Meets entry code machine (start_with start bank) word (unit ∷ rest) → Ends code machine answers (length word) last
    match_ends [] rest unit start bank last code machine answers empty ran none is enough meets =
        let same : start_with start bank ≡ last = cc in
        subst (λ (s : Standing). Ends code machine answers 0 s) same
        (stop (start_with start bank) entry code machine answers unit rest (carries.starts start bank empty)
        (subst (λ (s : Standing). edge_on (state_of auto.states s.state).edges unit ≡ None) (sym same) none) meets.at meets.stands meets.split is
        (omega (arith, enough)))
    match_ends (first ∷ word) rest unit start bank last code machine answers empty ran none is enough meets =
        by (edge_on (state_of auto.states 0).edges first) refl ran
        (goes_at entry (start_with start bank) (carries.starts start bank empty) code machine answers first (word ++ unit ∷ rest)
        meets.at meets.stands meets.split meets.units.0 (omega (arith, enough)))
      where
        by : (o : Option Edge) → edge_on (state_of auto.states 0).edges first ≡ o
            → and_then (by_edge (state_of auto.states 0) (start_with start bank) o) (λ next. run auto next word) ≡ Some last
            → Goes code machine answers (start_with start bank) o → Ends code machine answers (suc (length word)) last
        by None on ran goes = absurd cc
        by (Some edge) on ran goes =
            let next : Standing = behind_edge (state_of auto.states 0) (start_with start bank) edge in
            let stepped : step auto (start_with start bank) first ≡ Some next = ap (by_edge (state_of auto.states 0) (start_with start bank)) on in
            let reached = reached_on auto (start_with start bank) next first (at_start start bank empty) stepped in
            stop_behind (led_on edge meets goes.leads
            (lead word (unit ∷ rest) next last goes.leads.next goes.leads.after answers reached ran (meets_next edge meets goes.leads))) none is enough
