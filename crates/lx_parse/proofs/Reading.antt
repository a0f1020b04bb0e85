-- The parser's loop: what it has read, and what the rest of the tokens is still to give.
use Rattle.std.proofs.Common.{◌≡◌, ℕ, suc, ◌+◌, ◌-◌, ◌≤◌, ◌<◌, Bool, true, false, List, [], ◌∷◌, ◌++◌, length, take, drop, get_or, Ok, Err, refl, sym, ap, subst, ◌∙◌, arith, append_assoc, append-nil}
use Rattle.std.proofs.lemmas.List.{drop_more}
use Rattle.lx_base.specs.declared.blocks.BlockKind.{BlockKind}
use Rattle.lx_base.specs.declared.faults.Fault.TheVariants.{Syntax}
use Rattle.lx_base.specs.declared.places.Pos.{Pos}
use Rattle.lx_token.specs.declared.kinds.TokenKind.TheVariants as kinds
use Rattle.lx_token.specs.declared.list.Token.{Token}
use Rattle.lx_base.specs.Places.{place_after}
use Rattle.lx_token.specs.Spans.{AreInOrder}
use Rattle.lx_parse.specs.declared.items.Item.{Item}
use Rattle.lx_parse.specs.declared.forms.Form.{Form}
use Rattle.lx_parse.specs.declared.sorts.Sort.{Sort}
use Rattle.lx_parse.specs.declared.states.State.{State}
use Rattle.lx_parse.specs.declared.states.State.TheVariants as states
use Rattle.lx_parse.specs.declared.states.Step.{Step}
use Rattle.lx_parse.specs.declared.states.Step.TheVariants.{Refuse, Go, Done}
use Rattle.lx_parse.specs.Sorts.{sort_in, sorts_of}
use Rattle.lx_parse.specs.Blocks.{form_of, IsBody, IsSyntaxFault, place_of_next}
use Rattle.lx_parse.specs.Automaton.{next, may_end}
use Rattle.lx_parse.proofs.Runs.{Items, with_item, follow, at_last, run}
use Rattle.lx_parse.proofs.Refusals.{body-run, refused_run}

-- items before those of a rest
abbrev pub with_items : List Item → Items → Items
with_items front (Ok items) = Ok (front ++ items)
with_items front (Err place) = Err place

-- the tokens stand one behind another, from some offset on
abbrev pub AreSpans : (size : ℕ) → List Token → Type 0
AreSpans size tokens = (from : ℕ) × AreInOrder from size tokens

-- tokens that stand in order are no more than the bytes that they stand in
few_tokens : (from size : ℕ) (tokens : List Token) → from ≤ size → AreInOrder from size tokens → from + length tokens ≤ size
few_tokens from size [] within spans = omega arith
few_tokens from size (token ∷ tokens) within spans =
    let rest = few_tokens token.to size tokens spans.2 spans.3 in omega (arith, spans.0, spans.1)

pub few_spans : (size : ℕ) (tokens : List Token) → AreInOrder 0 size tokens → length tokens ≤ size
few_spans size tokens spans = let few = few_tokens 0 size tokens (omega arith) spans in omega arith

-- what an index past the tokens stands for
abbrev pub no_token : Token
no_token = record { kind = kinds.Name; from = 0; to = 0; at = record { file = 0; line = 0; col = 0 } }

pub token_at : (listed tokens : List Token) (place : ℕ) → listed ≡ tokens → place < length listed
    → drop place tokens ≡ get_or listed place no_token ∷ drop (place + 1) tokens
token_at listed tokens place same within =
    subst (λ tokens. drop place tokens ≡ get_or listed place no_token ∷ drop (place + 1) tokens) same (drop_more listed place no_token within)

pub spans_next : (size : ℕ) (token : Token) (tokens rest : List Token) → tokens ≡ token ∷ rest → AreSpans size tokens → AreSpans size rest
spans_next size token tokens rest split spans = (token.to, (subst (λ tokens. AreInOrder spans.0 size tokens) split spans.1).3)

pub step_is : (state : State) (sort given : Sort) (place : ℕ) (step result : Step) → given ≡ sort → result ≡ next state given place → result ≡ step
    → next state sort place ≡ step
step_is state sort given place step result same made is = sym (subst (λ sort. result ≡ next state sort place) same made) ∙ is

with_items-with_item : (front : List Item) (item : Item) (rest : Items) → with_items front (with_item item rest) ≡ with_items (front ++ item ∷ []) rest
with_items-with_item front item (Ok items) = ap Ok (sym (append_assoc front (item ∷ []) items))
with_items-with_item front item (Err place) = refl

with_items-none : (rest : Items) → with_items [] rest ≡ rest
with_items-none (Ok items) = refl
with_items-none (Err place) = refl

module _ (kind : BlockKind) (body : List ℕ) where
  -- what the tokens give is the items before those that the rest gives from a state on
  abbrev pub HasRead : (tokens : List Token) (place : ℕ) → List Item → State → Type 0
  HasRead tokens place items state =
      run (sorts_of kind body tokens) 0 (states.Between (form_of kind)) ≡ with_items items (run (sorts_of kind body (drop place tokens)) place state)

  -- the sort of a token
  abbrev pub token_sort : Token → Sort
  token_sort token = sort_in kind token.kind (take (token.to - token.from) (drop token.from body))

  pub read_none : (tokens : List Token) → HasRead tokens 0 [] (states.Between (form_of kind))
  read_none tokens = sym (with_items-none (run (sorts_of kind body tokens) 0 (states.Between (form_of kind))))

  module _ (tokens : List Token) (place : ℕ) (items : List Item) (state : State) (token : Token) where
    -- the rest of the tokens begins with the token
    abbrev IsNext : Type 0
    IsNext = drop place tokens ≡ token ∷ drop (place + 1) tokens

    run_next : (step : Step) → IsNext → next state (token_sort token) place ≡ step
        → run (sorts_of kind body (drop place tokens)) place state ≡ follow (run (sorts_of kind body (drop (place + 1) tokens))) place step
    run_next step split is =
        ap (λ tokens. run (sorts_of kind body tokens) place state) split ∙ ap (follow (run (sorts_of kind body (drop (place + 1) tokens))) place) is

    pub read_go : (after : State) → IsNext → next state (token_sort token) place ≡ Go after → HasRead tokens place items state
        → HasRead tokens (place + 1) items after
    read_go after split is read =
        let one : suc place ≡ place + 1 = omega arith in
        read ∙ ap (with_items items) (run_next (Go after) split is ∙ ap (λ at. run (sorts_of kind body (drop (place + 1) tokens)) at after) one)

    pub read_done : (item : Item) (form : Form) → IsNext → next state (token_sort token) place ≡ Done item form → HasRead tokens place items state
        → HasRead tokens (place + 1) (items ++ item ∷ []) (states.Between form)
    read_done item form split is read =
        let one : suc place ≡ place + 1 = omega arith in
        let rest = run (sorts_of kind body (drop (place + 1) tokens)) (place + 1) (states.Between form) in
        read ∙ (ap (with_items items) (run_next (Done item form) split is
        ∙ ap (λ at. with_item item (run (sorts_of kind body (drop (place + 1) tokens)) at (states.Between form))) one)
        ∙ with_items-with_item items item rest)

    syntax_fault : (start at : Pos) → run (sorts_of kind body tokens) 0 (states.Between (form_of kind)) ≡ Err place
        → at ≡ place_of_next start body (drop place tokens) → IsSyntaxFault kind body start tokens (Syntax at)
    syntax_fault start at refused same =
        let found = refused_run (form_of kind) (sorts_of kind body tokens) place refused in
        record { count = place; begins = found.0; refused = found.1; fault_is = ap Syntax same }

    pub read_refused : (start : Pos) → IsNext → next state (token_sort token) place ≡ Refuse → HasRead tokens place items state
        → IsSyntaxFault kind body start tokens (Syntax token.at)
    read_refused start split is read =
        syntax_fault start token.at (read ∙ ap (with_items items) (run_next Refuse split is)) (ap (place_of_next start body) (sym split))

    run_end : (test : Bool) → drop place tokens ≡ [] → may_end state ≡ test
        → run (sorts_of kind body (drop place tokens)) place state ≡ at_last test place
    run_end test none is = ap (λ tokens. run (sorts_of kind body tokens) place state) none ∙ ap (λ test. at_last test place) is

    pub read_end : drop place tokens ≡ [] → may_end state ≡ true → HasRead tokens place items state
        → IsBody (form_of kind) (sorts_of kind body tokens) items
    read_end none is read =
        body-run (form_of kind) (sorts_of kind body tokens) items (read ∙ (ap (with_items items) (run_end true none is) ∙ ap Ok (append-nil items)))

    pub read_refused_end : (start at : Pos) → at ≡ place_after start body → drop place tokens ≡ [] → may_end state ≡ false → HasRead tokens place items state
        → IsSyntaxFault kind body start tokens (Syntax at)
    read_refused_end start at same none is read =
        syntax_fault start at (read ∙ ap (with_items items) (run_end false none is)) (same ∙ ap (place_of_next start body) (sym none))
