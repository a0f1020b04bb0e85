-- Where a match ends in an automaton with greater numbers of rules: the blocks are the same, if those of the rules are.
use Rattle.std.specs.Prelude.{◌≡◌, ℕ, zero, suc, ◌+◌, List, [], ◌∷◌, Option, Some, None, refl}
use Rattle.std.proofs.Common.{ap, ap₂, ◌∙◌}
use Rattle.lx_auto.specs.declared.automaton.Accept.{Accept}
use Rattle.lx_auto.specs.declared.automaton.Auto.{Auto}
use Rattle.lx_auto.specs.declared.ops.Op.{Op}
use Rattle.lx_ccode.specs.declared.piece.Stmt.{Stmt}
use Rattle.lx_layout.specs.Codes.{accept_code, restore_code}
use Rattle.lx_layout.specs.Layout.{end_block, end_blocks, end_size, lone_blocks, lone_code, lone_place, lone_size, own_block, own_blocks, restore_blocks}
use Rattle.lx_renumber.specs.Renumbered.{renumbered}
use Rattle.lx_layout.proofs.Fronts.RenumberedAccepts.{all, each}

module _ (by : ℕ) where
  pub end_size-renumbered : (accept : Option Accept) → end_size (each by accept) ≡ end_size accept
  end_size-renumbered None = refl
  end_size-renumbered (Some accept) = refl

  pub lone_size-renumbered : (number : ℕ) (accept : Option Accept) → lone_size number (each by accept) ≡ lone_size number accept
  lone_size-renumbered zero accept = refl
  lone_size-renumbered (suc number) accept = end_size-renumbered accept

  -- the blocks of the rules, by the greater numbers and by the others
  module _ (others rules : ℕ → ℕ) (are : (rule : ℕ) → others (rule + by) ≡ rules rule) where
    pub restore_blocks-renumbered : (accepts : List Accept) → restore_blocks others (all by accepts) ≡ restore_blocks rules accepts
    restore_blocks-renumbered [] = refl
    restore_blocks-renumbered (accept ∷ accepts) =
        ap₂ (λ block codes. restore_code block ∷ codes) (are accept.rule) (restore_blocks-renumbered accepts)

    module _ (auto : Auto) (fall : ℕ) where
      pub end_block-renumbered : (own : ℕ) (accept : Option Accept)
          → end_block (renumbered by auto) others fall own (each by accept) ≡ end_block auto rules fall own accept
      end_block-renumbered own None = refl
      end_block-renumbered own (Some accept) = ap (λ rule. own_block own rule accept.ops) (are accept.rule)

      pub lone_place-renumbered : (number own : ℕ) (accept : Option Accept)
          → lone_place (renumbered by auto) others fall number own (each by accept) ≡ lone_place auto rules fall number own accept
      lone_place-renumbered zero own accept = refl
      lone_place-renumbered (suc number) own accept = end_block-renumbered own accept

      own_blocks-renumbered : (block : ℕ) (ops : List Op)
          → own_blocks (renumbered by auto) others fall block ops ≡ own_blocks auto rules fall block ops
      own_blocks-renumbered block [] = refl
      own_blocks-renumbered block (op ∷ ops) = refl

      pub end_blocks-renumbered : (accept : Option Accept)
          → end_blocks (renumbered by auto) others fall (each by accept) ≡ end_blocks auto rules fall accept
      end_blocks-renumbered None = refl
      end_blocks-renumbered (Some accept) =
          ap (λ block. own_blocks (renumbered by auto) others fall block accept.ops) (are accept.rule)
          ∙ own_blocks-renumbered (rules accept.rule) accept.ops

      lone_code-renumbered : (accept : Option Accept)
          → lone_code (renumbered by auto) others fall (each by accept) ≡ lone_code auto rules fall accept
      lone_code-renumbered None = refl
      lone_code-renumbered (Some accept) = ap (λ block. accept_code auto accept.ops block) (are accept.rule)

      pub lone_blocks-renumbered : (number : ℕ) (accept : Option Accept)
          → lone_blocks (renumbered by auto) others fall number (each by accept) ≡ lone_blocks auto rules fall number accept
      lone_blocks-renumbered zero accept = ap (λ (code : List Stmt). code ∷ []) (lone_code-renumbered accept)
      lone_blocks-renumbered (suc number) accept = end_blocks-renumbered accept
