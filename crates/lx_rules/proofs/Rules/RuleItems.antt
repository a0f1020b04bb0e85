-- Rules as items of a block.
use Rattle.std.proofs.Common.{ℕ, zero, suc, ◌-◌, ◌≤◌, ◌==◌, inl, List, [], ◌∷◌, drop, length, Option, None, Some, refl, sym, ap, ◌∙◌, arith}
use Rattle.std.proofs.lemmas.List.{length-take, length-drop}
use Rattle.lx_base.specs.declared.settings.Options.{Options}
use Rattle.lx_parse.specs.declared.items.Item.TheVariants as item
use Rattle.lx_token.specs.declared.list.Token.{Token}
use Rattle.lx_rules.specs.declared.heads.Head.{Head}
use Rattle.lx_rules.specs.declared.items.Known.{Known}
use Rattle.lx_forms.specs.Lexemes.{Lexeme, nth_lexeme, lexemes_of}
use Rattle.lx_rules.specs.Items.{State, ListChecks, TargetChecks, act_of, conds_of, rule_of, with_rule}
use Rattle.lx_rules.specs.Rules.{RuleOf}
use Rattle.lx_rules.specs.Keeping.{Holds, IsHeadRead, IsNew, IsBoundedHead, IsTaken}
use Rattle.lx_rules.specs.Conditions.{room_under}
use Rattle.lx_rules.specs.FitScanners.{IsShort}
use Rattle.lx_rules.proofs.Blocks.ItemFits.{act_number}
use Rattle.lx_rules.proofs.Rules.RuleSteps.{acts_counted}

-- the text of a token is no longer than the body
pub text_short : (body : List ℕ) (tokens : List Token) (place : ℕ) → length (nth_lexeme (lexemes_of body tokens) place).text ≤ length body
text_short body [] place = omega arith
text_short body (token ∷ tokens) zero = omega (arith, length-take (token.to - token.from) (drop token.from body), length-drop token.from body)
text_short body (token ∷ tokens) (suc place) = text_short body tokens place

act_short : (options : Options) (body : List ℕ) (tokens : List Token) (number : ℕ) (goes code : Option ℕ) → length body ≤ 16777216
    → IsShort (act_of options (lexemes_of body tokens) number goes code).code
act_short options body tokens number None None few = tt
act_short options body tokens number (Some goes) None few = tt
act_short options body tokens number goes (Some code) few = let short = text_short body tokens code in omega (arith, short, few)

module _ (options : Options) (body : List ℕ) (tokens : List Token) (known : Known) (state : State) (holds : Holds known state) where
  abbrev lexemes : List Lexeme
  lexemes = lexemes_of body tokens

  abbrev conds : (first head : ℕ) → List (List ℕ)
  conds first head = conds_of options lexemes first head

  module _ (first head : ℕ) (slash : Option ℕ) (until : ℕ) (goes code : Option ℕ) (read : Head)
      (heads : IsHeadRead options lexemes state (conds first head) head slash until (room_under known.conds (conds first head)) read) where
    -- the rule that is taken
    abbrev pub taken : RuleOf
    taken = rule_of options lexemes (suc (length state.rules)) first head goes code heads.1.0 heads.1.1

    pub taken_new : length body ≤ 16777216 → IsBoundedHead read → IsNew known (conds first head) read (nth_lexeme lexemes head).at taken.target taken.act taken
    taken_new few bounded = record {
      conds_are = refl;
      at_is = refl;
      target_is = refl;
      act_is = refl;
      head_of = heads.1.3;
      bounded = bounded;
      number = act_number options lexemes (suc (length state.rules)) goes code ∙ ap suc (sym (acts_counted known state holds));
      short = act_short options body tokens (suc (length state.rules)) goes code few;
    }

    pub rule_taken : (after : Known) → ListChecks options lexemes (first == head) (nth_lexeme lexemes first).at None
        → TargetChecks options lexemes goes None → Holds after (with_rule state taken)
        → IsTaken options lexemes state (item.Rule first head slash until goes code) after
    rule_taken after listed targeted next = record {
      checked = inl (listed, inl (heads.0, targeted));
      next = with_rule state taken;
      is_after = (heads.1.0, heads.1.1, heads.1.2, refl);
      holds = next;
    }
