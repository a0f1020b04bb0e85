-- A body is read, or it is refused: its run gives the items, or the place of the token that is refused.
use Rattle.std.proofs.Common.{◌≡◌, ℕ, ◌⊎◌, List, drop, Ok, Err, inl, inr, refl}
use Rattle.lx_base.specs.declared.blocks.BlockKind.{BlockKind}
use Rattle.lx_base.specs.declared.faults.Fault.{Fault}
use Rattle.lx_base.specs.declared.faults.Fault.TheVariants.{Syntax}
use Rattle.lx_base.specs.declared.places.Pos.{Pos}
use Rattle.lx_token.specs.declared.list.Token.{Token}
use Rattle.lx_parse.specs.declared.items.Item.{Item}
use Rattle.lx_parse.specs.declared.states.State.TheVariants as states
use Rattle.lx_parse.specs.Blocks.{IsBody, IsSyntaxFault, form_of, place_of_next}
use Rattle.lx_parse.specs.Sorts.{sorts_of}
use Rattle.lx_parse.proofs.Runs.{Items, run}
use Rattle.lx_parse.proofs.Refusals.{body-run, refused_run}

module _ (kind : BlockKind) (body : List ℕ) (start : Pos) (tokens : List Token) where
  -- the body has these items, or this fault
  abbrev IsReadOrRefused : Type 0
  IsReadOrRefused =
      ((items : List Item) × IsBody (form_of kind) (sorts_of kind body tokens) items)
      ⊎ ((fault : Fault) × IsSyntaxFault kind body start tokens fault)

  run_answers : (answer : Items) → run (sorts_of kind body tokens) 0 (states.Between (form_of kind)) ≡ answer → IsReadOrRefused
  run_answers (Ok items) is = inl (items, body-run (form_of kind) (sorts_of kind body tokens) items is)
  run_answers (Err place) is =
      let found = refused_run (form_of kind) (sorts_of kind body tokens) place is in
      inr (
        Syntax (place_of_next start body (drop place tokens)),
        record { count = place; begins = found.0; refused = found.1; fault_is = refl },
      )

  -- a body is read or refused
  pub read_or_refused : IsReadOrRefused
  read_or_refused = run_answers (run (sorts_of kind body tokens) 0 (states.Between (form_of kind))) refl
