-- A body has one tree, and what the automaton refuses is the first token with which no well-formed body goes on.
use Rattle.std.proofs.Common.{◌≡◌, ℕ, zero, suc, ◌+◌, ◌≤◌, Bool, true, false, List, [], ◌∷◌, ◌++◌, length, take, drop, Some, None, Ok, Err, refl, sym, ap, subst, ◌∙◌, arith, append_assoc}
use Rattle.lx_parse.specs.declared.items.Item.{Item}
use Rattle.lx_parse.specs.declared.forms.Form.{Form}
use Rattle.lx_parse.specs.declared.forms.Form.TheVariants as forms
use Rattle.lx_parse.specs.declared.sorts.Sort.{Sort}
use Rattle.lx_parse.specs.declared.sorts.Sort.TheVariants.{Name, Format, Number, Str, Code, Equals, Semicolon, Close, Star, Greater}
use Rattle.lx_parse.specs.declared.states.Goal.{Goal}
use Rattle.lx_parse.specs.declared.states.Goal.TheVariants as goals
use Rattle.lx_parse.specs.declared.states.State.{State}
use Rattle.lx_parse.specs.declared.states.State.TheVariants as states
use Rattle.lx_parse.specs.declared.states.Step.{Step}
use Rattle.lx_parse.specs.declared.states.Step.TheVariants.{Refuse, Go, Done}
use Rattle.lx_parse.specs.Items.{place}
use Rattle.lx_parse.specs.Blocks.{IsBody, BeginsBody, IsRefused}
use Rattle.lx_parse.specs.Automaton.{next, may_end}
use Rattle.lx_parse.proofs.Runs.{Items, with_item, follow, at_last, run}
use Rattle.lx_parse.proofs.Begun as front
use Rattle.lx_parse.proofs.Soundness.{sound}
use Rattle.lx_parse.proofs.Completeness.{complete}

-- the automaton reads the sorts to the end
abbrev IsAccepted : (at : ℕ) → State → List Sort → Type 0
IsAccepted at state sorts = (items : List Item) × (run sorts at state ≡ Ok items)

-- sorts with which the automaton gets to the end
abbrev Completion : (at : ℕ) → State → Type 0
Completion at state = (more : List Sort) × IsAccepted at state more

expression_completion : (goal : Goal) (depth at : ℕ) → Completion at (states.Operator goal depth)
expression_completion (goals.Define name from) zero at = (Semicolon ∷ [], (_, refl))
expression_completion (goals.Head first head None) zero at = (Code ∷ [], (_, refl))
expression_completion (goals.Head first head (Some slash)) zero at = (Code ∷ [], (_, refl))
expression_completion goal (suc depth) at =
    let more = expression_completion goal depth (suc at) in (Close ∷ more.0, more.1)

completion : (state : State) (at : ℕ) → Completion at state
completion (states.Between forms.Items) at = ([], (_, refl))
completion (states.Between forms.Format) at = (Format ∷ Equals ∷ Str ∷ Semicolon ∷ [], (_, refl))
completion (states.Between forms.Separator) at = ([], (_, refl))
completion (states.Between forms.Nothing) at = ([], (_, refl))
completion (states.Named name) at = (Code ∷ [], (_, refl))
completion (states.Defined name) at = (Str ∷ Semicolon ∷ [], (_, refl))
completion (states.ConfigName name) at = (Equals ∷ Number ∷ Semicolon ∷ [], (_, refl))
completion (states.ConfigValue name) at = (Number ∷ Semicolon ∷ [], (_, refl))
completion (states.ConfigEnd name value) at = (Semicolon ∷ [], (_, refl))
completion (states.List first) at = (Star ∷ Greater ∷ Str ∷ Code ∷ [], (_, refl))
completion (states.ListStar first) at = (Greater ∷ Str ∷ Code ∷ [], (_, refl))
completion (states.ListName first) at = (Greater ∷ Str ∷ Code ∷ [], (_, refl))
completion (states.ListComma first) at = (Name ∷ Greater ∷ Str ∷ Code ∷ [], (_, refl))
completion (states.Listed first) at = (Str ∷ Code ∷ [], (_, refl))
completion (states.Operand goal depth) at = let more = expression_completion goal depth (suc at) in (Str ∷ more.0, more.1)
completion (states.Operator goal depth) at = expression_completion goal depth at
completion (states.Action first head) at = (Code ∷ [], (_, refl))
completion (states.Target head) at = (Name ∷ Code ∷ [], (_, refl))
completion (states.TargetCode head goes) at = (Code ∷ [], (_, refl))
completion (states.JumpTarget head) at = (Name ∷ [], (_, refl))
completion (states.TextWord forms.Format) at = (Equals ∷ Str ∷ Semicolon ∷ [], (_, refl))
completion (states.TextWord form) at = (Equals ∷ Str ∷ Semicolon ∷ [], (_, refl))
completion (states.TextValue forms.Format) at = (Str ∷ Semicolon ∷ [], (_, refl))
completion (states.TextValue form) at = (Str ∷ Semicolon ∷ [], (_, refl))
completion (states.TextEnd forms.Format value) at = (Semicolon ∷ [], (_, refl))
completion (states.TextEnd form value) at = (Semicolon ∷ [], (_, refl))

accepted_go : (state after : State) (sort : Sort) (at : ℕ) (sorts : List Sort) → next state sort at ≡ Go after
    → IsAccepted (suc at) after sorts → IsAccepted at state (sort ∷ sorts)
accepted_go state after sort at sorts e accepted = (accepted.0, ap (follow (run sorts) at) e ∙ accepted.1)

accepted_behind_go : (state after : State) (sort : Sort) (at : ℕ) (sorts : List Sort) → next state sort at ≡ Go after
    → IsAccepted at state (sort ∷ sorts) → IsAccepted (suc at) after sorts
accepted_behind_go state after sort at sorts e accepted = (accepted.0, sym (ap (follow (run sorts) at) e) ∙ accepted.1)

accepted_done : (state : State) (item : Item) (form : Form) (sort : Sort) (at : ℕ) (sorts : List Sort) → next state sort at ≡ Done item form
    → IsAccepted (suc at) (states.Between form) sorts → IsAccepted at state (sort ∷ sorts)
accepted_done state item form sort at sorts e accepted = (item ∷ accepted.0, ap (follow (run sorts) at) e ∙ ap (with_item item) accepted.1)

items_behind : (item : Item) (items : List Item) (rest : Items) → with_item item rest ≡ Ok items → (others : List Item) × (rest ≡ Ok others)
items_behind item items (Ok others) e = (others, refl)
items_behind item items (Err at) e = absurd (cc)

refusal_behind : (item : Item) (at : ℕ) (rest : Items) → with_item item rest ≡ Err at → rest ≡ Err at
refusal_behind item at (Ok others) e = absurd (cc)
refusal_behind item at (Err other) e = cc

accepted_behind_done : (state : State) (item : Item) (form : Form) (sort : Sort) (at : ℕ) (sorts : List Sort) → next state sort at ≡ Done item form
    → IsAccepted at state (sort ∷ sorts) → IsAccepted (suc at) (states.Between form) sorts
accepted_behind_done state item form sort at sorts e accepted =
    items_behind item accepted.0 (run sorts (suc at) (states.Between form)) (sym (ap (follow (run sorts) at) e) ∙ accepted.1)

-- the automaton does not get to the end behind the front as the tail goes on
abbrev IsStuck : (at : ℕ) → State → (front tail : List Sort) → Type 0
IsStuck at state front [] = IsAccepted at state front → ⊥
IsStuck at state front (sort ∷ tail) = (more : List Sort) → IsAccepted at state (front ++ sort ∷ more) → ⊥

-- so many sorts are read, and then one is refused
record Refuses (count at : ℕ) (state : State) (sorts : List Sort) : Type 0 where
  begins : (more : List Sort) × IsAccepted at state (take count sorts ++ more)
  stuck : IsStuck at state (take count sorts) (drop count sorts)

refuses_here : (at : ℕ) (state : State) (sort : Sort) (sorts : List Sort) → next state sort at ≡ Refuse → Refuses 0 at state (sort ∷ sorts)
refuses_here at state sort sorts e = record {
  begins = completion state at;
  stuck = λ more accepted. let refused = ap (follow (run more) at) e in absurd (cc (refused, accepted.1));
}

stuck_before : (at after_at : ℕ) (state after : State) (sort : Sort) (front tail : List Sort)
    → ((sorts : List Sort) → IsAccepted at state (sort ∷ sorts) → IsAccepted after_at after sorts)
    → IsStuck after_at after front tail → IsStuck at state (sort ∷ front) tail
stuck_before at after_at state after sort front [] behind stuck = λ accepted. stuck (behind front accepted)
stuck_before at after_at state after sort front (next ∷ tail) behind stuck = λ more accepted. stuck more (behind (front ++ next ∷ more) accepted)

-- what is true of a refusal at the place that stands so many sorts behind the first one
abbrev RefusesFrom : (at : ℕ) → State → List Sort → (place : ℕ) → Type 0
RefusesFrom at state sorts place = (count : ℕ) × (at + count ≡ place) × Refuses count at state sorts

refuses_step : (at place : ℕ) (state : State) (sort : Sort) (sorts : List Sort) (step : Step)
    → ((state : State) → run sorts (suc at) state ≡ Err place → RefusesFrom (suc at) state sorts place)
    → next state sort at ≡ step → follow (run sorts) at step ≡ Err place → RefusesFrom at state (sort ∷ sorts) place
refuses_step at place state sort sorts Refuse again e refused =
    let here : at ≡ place = cc in
    (0, omega arith, refuses_here at state sort sorts e)
refuses_step at place state sort sorts (Go after) again e refused =
    let found = again after refused in
    let count : at + suc found.0 ≡ place = omega (arith, found.1) in (
      suc found.0,
      count,
      record {
        begins = (found.2.begins.0, accepted_go state after sort at (take found.0 sorts ++ found.2.begins.0) e found.2.begins.1);
        stuck = stuck_before at (suc at) state after sort (take found.0 sorts) (drop found.0 sorts)
            (λ sorts accepted. accepted_behind_go state after sort at sorts e accepted) found.2.stuck;
      },
    )
refuses_step at place state sort sorts (Done item form) again e refused =
    let found = again (states.Between form) (refusal_behind item place (run sorts (suc at) (states.Between form)) refused) in
    let count : at + suc found.0 ≡ place = omega (arith, found.1) in (
      suc found.0,
      count,
      record {
        begins = (found.2.begins.0, accepted_done state item form sort at (take found.0 sorts ++ found.2.begins.0) e found.2.begins.1);
        stuck = stuck_before at (suc at) state (states.Between form) sort (take found.0 sorts) (drop found.0 sorts)
            (λ sorts accepted. accepted_behind_done state item form sort at sorts e accepted) found.2.stuck;
      },
    )

refused_at : (test : Bool) (at place : ℕ) → at_last test at ≡ Err place → at ≡ place
refused_at true at place e = absurd (cc)
refused_at false at place e = cc

refuses : (sorts : List Sort) (at place : ℕ) (state : State) → run sorts at state ≡ Err place → RefusesFrom at state sorts place
refuses [] at place state e =
    let last : at ≡ place = refused_at (may_end state) at place e in
    (0, omega (arith, last), record { begins = completion state at; stuck = λ accepted. absurd (cc (e, accepted.1)) })
refuses (sort ∷ sorts) at place state e =
    refuses_step at place state sort sorts (next state sort at) (λ state refused. refuses sorts (suc at) place state refused) refl e

-- the automaton reads the body of items
run-body : (form : Form) (sorts : List Sort) (items : List Item) → IsBody form sorts items → run sorts 0 (states.Between form) ≡ Ok items
run-body form sorts items body =
    let first : place (length sorts) sorts ≡ 0 = omega arith in
    let whole : length sorts ≤ length sorts = omega arith in
    subst (λ at. run sorts at (states.Between form) ≡ Ok items) first (complete (length sorts) form items sorts body whole)

-- what the automaton reads is a body of the items that it gives
pub body-run : (form : Form) (sorts : List Sort) (items : List Item) → run sorts 0 (states.Between form) ≡ Ok items → IsBody form sorts items
body-run form sorts items e =
    let whole : 0 + length sorts ≡ length sorts = omega arith in
    sound (length sorts) sorts 0 whole form sorts (states.Between form) items (front.between form sorts) e

-- a body has at most one list of items
pub one_tree : (form : Form) (sorts : List Sort) (items other : List Item) → IsBody form sorts items → IsBody form sorts other → items ≡ other
one_tree form sorts items other body another =
    let one = run-body form sorts items body in
    let two = run-body form sorts other another in cc

refused_tail : (form : Form) (front tail : List Sort) → IsStuck 0 (states.Between form) front tail → IsRefused form front tail
refused_tail form front [] stuck = λ items body. stuck (items, run-body form front items body)
refused_tail form front (sort ∷ tail) stuck = λ begins.
    stuck begins.0 (
      begins.1,
      subst (λ sorts. run sorts 0 (states.Between form) ≡ Ok begins.1) (append_assoc front (sort ∷ []) begins.0)
          (run-body form ((front ++ sort ∷ []) ++ begins.0) begins.1 begins.2),
    )

-- where the automaton refuses a sort, those before it begin a body, and none goes on with it
pub refused_run : (form : Form) (sorts : List Sort) (place : ℕ) → run sorts 0 (states.Between form) ≡ Err place
    → BeginsBody form (take place sorts) × IsRefused form (take place sorts) (drop place sorts)
refused_run form sorts place e =
    let found = refuses sorts 0 place (states.Between form) e in
    let count : found.0 ≡ place = omega (arith, found.1) in
    subst (λ count. BeginsBody form (take count sorts) × IsRefused form (take count sorts) (drop count sorts)) count
    (let begins = found.2.begins in (
      (begins.0, begins.1.0, body-run form (take found.0 sorts ++ begins.0) begins.1.0 begins.1.1),
      refused_tail form (take found.0 sorts) (drop found.0 sorts) found.2.stuck,
    ))
