-- The blocks where a match ends in a state: each of them is led to, and leads to the rule's block or the fallback.
use Rattle.std.specs.Prelude.{ℕ, zero, suc, List, [], ◌∷◌, Option, Some, None}
use Rattle.lx_auto.specs.declared.automaton.Accept.{Accept}
use Rattle.lx_auto.specs.declared.automaton.Auto.{Auto}
use Rattle.lx_auto.specs.declared.ops.Op.{Op}
use Rattle.lx_ccode.specs.declared.piece.Stmt.{Stmt}
use Rattle.lx_ccode.specs.declared.piece.Stmt.TheVariants.{Goto}
use Rattle.lx_layout.specs.Codes.{accept_code}
use Rattle.lx_layout.specs.Layout.{StandsFrom, end_block, end_blocks, lone_blocks, lone_code, lone_place, own_block, own_blocks}
use Rattle.lx_layout.proofs.LiveBlocks.LedCodes.{Leads, leads-accept}
use Rattle.lx_layout.proofs.LiveBlocks.LedReaders.{IsClosed}
use Rattle.lx_layout.proofs.LiveBlocks.LedTrees.{AllFrom}

module _ (R : ℕ → Type 0) (blocks : List (List Stmt)) (closed : IsClosed R blocks) (auto : Auto) (rules : ℕ → ℕ) (fall : ℕ) where
  -- where a match by an accept goes on, or the fallback
  abbrev pub IsEndLed : Option Accept → Type 0
  IsEndLed None = R fall
  IsEndLed (Some accept) = R (rules accept.rule)

  -- a block of its own for the end, or that of the rule
  pub own_led : (own : ℕ) (accept : Option Accept) → R (end_block auto rules fall own accept)
      → StandsFrom blocks own (end_blocks auto rules fall accept)
      → AllFrom R own (end_blocks auto rules fall accept) × IsEndLed accept
  own_led own None led stands = (tt, led)
  own_led own (Some accept) led stands = by accept.ops led stands
    where
      by : (ops : List Op) → R (own_block own (rules accept.rule) ops)
          → StandsFrom blocks own (own_blocks auto rules fall (rules accept.rule) ops)
          → AllFrom R own (own_blocks auto rules fall (rules accept.rule) ops) × R (rules accept.rule)
      by [] led stands = (tt, led)
      by (op ∷ ops) led stands = (
        (led, tt),
        leads-accept R auto (op ∷ ops) (rules accept.rule)
            (closed.goes own (accept_code auto (op ∷ ops) (rules accept.rule)) stands.0 led),
      )

  -- a state without edges
  pub lone_led : (number from : ℕ) (accept : Option Accept) → R (lone_place auto rules fall number from accept)
      → StandsFrom blocks from (lone_blocks auto rules fall number accept)
      → AllFrom R from (lone_blocks auto rules fall number accept) × IsEndLed accept
  lone_led (suc number) from accept led stands = own_led from accept led stands
  lone_led zero from accept led stands = by accept led stands
    where
      by : (accept : Option Accept) → R from → StandsFrom blocks from (lone_code auto rules fall accept ∷ [])
          → AllFrom R from (lone_code auto rules fall accept ∷ []) × IsEndLed accept
      by None led stands =
          let goes : Leads R (Goto fall ∷ []) = closed.goes from (Goto fall ∷ []) stands.0 led in ((led, tt), goes.0.0)
      by (Some accept) led stands = (
        (led, tt),
        leads-accept R auto accept.ops (rules accept.rule)
            (closed.goes from (accept_code auto accept.ops (rules accept.rule)) stands.0 led),
      )
