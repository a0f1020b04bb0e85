-- The steps of an expression, one behind another.
use Rattle.std.proofs.Common.{◌≡◌, ℕ, zero, suc, ◌+◌, ◌<◌, arith, Bool, List, [], ◌∷◌, ◌++◌, map, reverse, length, take, drop, get_or, None, Some, Ok, Err, refl, sym, ap, ap₂, ◌∙◌, subst, Vec, Global}
use Rattle.std.proofs.lemmas.List.{reverse-append}
use Rattle.lx_base.specs.declared.faults.Fault.{Fault}
use Rattle.lx_base.specs.declared.faults.Stop.{Stop}
use Rattle.lx_base.specs.declared.faults.Stop.TheVariants as stop
use Rattle.lx_base.specs.declared.settings.Options.{Options}
use Rattle.lx_exprs.specs.declared.expressions.Operands.{Operands as Held}
use Rattle.lx_exprs.specs.declared.operands.Operand.{Operand}
use Rattle.lx_exprs.specs.declared.operands.Operand.TheVariants as operand
use Rattle.lx_exprs.specs.declared.values.Room.{Room}
use Rattle.lx_exprs.specs.declared.values.Value.{Value}
use Rattle.lx_exprs.specs.Checks.{StopsAt}
use Rattle.lx_exprs.specs.Defined.{Before, Definition, Meaning, kept}
use Rattle.lx_regex.specs.declared.rules.Tag.{Tag}
use Rattle.lx_forms.specs.Lexemes.{Lexeme}
use Rattle.lx_exprs.specs.Reading.{AreOperands, AreValues, DifferenceChecks, Goes, ends, refused, next, IsDifference, IsLeafRead, IsStepTaken, IsStepped, Operands, StepChecks, StopsReading, SubtractChecks, Subtracts, in_place, with_more}
use Rattle.lx_forms.specs.Steps.{Step, reads, subtracts}
use Rattle.lx_exprs.specs.Operands.{IsOperand}

-- the last of some operands, as they are listed from the last one on
pub reversed : (front items : List Operand) (value : Operand) → items ≡ front ++ value ∷ [] → reverse items ≡ value ∷ reverse front
reversed front items value same = ap reverse same ∙ reverse-append front (value ∷ [])

pub values_more : (room : Room) (meanings : List Meaning) (meaning : Meaning) (front items : List Operand) (value : Operand) → items ≡ front ++ value ∷ []
    → IsOperand room meaning value → AreValues room meanings (reverse front) → AreValues room (meaning ∷ meanings) (reverse items)
values_more room meanings meaning front items value same is are =
    subst (AreValues room (meaning ∷ meanings)) (sym (reversed front items value same)) (is, are)

-- the last two of the meanings, and their operands
pub record HasTwo (room : Room) (meanings : List Meaning) (front : List Operand) (left right : Operand) : Type 0 where
  pub first : Meaning
  pub second : Meaning
  pub others : List Meaning
  pub are : meanings ≡ second ∷ first ∷ others
  pub left_is : IsOperand room first left
  pub right_is : IsOperand room second right
  pub others_are : AreValues room others (reverse front)

pub last_two : (room : Room) (meanings : List Meaning) (items middle front : List Operand) (left right : Operand) → items ≡ middle ++ right ∷ []
    → middle ≡ front ++ left ∷ [] → AreValues room meanings (reverse items) → HasTwo room meanings front left right
last_two room meanings items middle front left right last before are =
    go meanings (subst (AreValues room meanings) (reversed middle items right last ∙ ap (λ l. right ∷ l) (reversed front middle left before)) are)
  where
    go : (l : List Meaning) → AreValues room l (right ∷ left ∷ reverse front) → HasTwo room l front left right
    go [] is = absurd is
    go (second ∷ []) is = absurd is.1
    go (second ∷ first ∷ others) is =
        record { first = first; second = second; others = others; are = refl; left_is = is.1.0; right_is = is.0; others_are = is.1.1 }

module _ (options : Options) (definitions : List Definition) where
  -- a leaf is read
  pub leaf_taken : (room : Room) (operands : Operands) (old new : Held) (is_operand : Bool) (lexeme : Lexeme) (value : Value)
      → AreOperands room operands old → new.values.items ≡ old.values.items ++ operand.Whole value ∷ []
      → new.groups ≡ kept (old.groups + value.groups) → new.open_groups ≡ old.open_groups
      → IsLeafRead options definitions room is_operand (record { tags = old.seen; groups = old.groups }) lexeme new.seen value
      → IsStepTaken options definitions room operands (reads is_operand lexeme) new
  leaf_taken room operands old new is_operand lexeme value are values groups around read =
      let same : before old.seen old.groups ≡ operands.seen = ap₂ before are.tags are.groups in
      let here = subst (λ before. IsLeafRead options definitions room is_operand before lexeme new.seen value) same read in
      record {
        checked = here.checked;
        after = with_more operands here.meaning;
        stepped = (here.meaning, here.means, refl);
        stands = record {
          values = values_more room operands.meanings here.meaning old.values.items new.values.items (operand.Whole value) values here.stands are.values;
          tags = here.seen;
          groups = groups ∙ ap₂ (λ a b. kept (a + b)) are.groups here.stands.counted.groups_is;
          open_groups = ap (λ (l : Vec ℕ Global). reverse l.items) around ∙ are.open_groups;
        };
      }
    where
      before : List Tag → ℕ → Before
      before tags groups = record { tags = tags; groups = groups }

  -- a difference is put in the place of its sides
  pub subtract_taken : (room : Room) (operands : Operands) (old new : Held) (operand : Bool) (sign : Lexeme) (front : List Operand) (left right value : Operand)
      → AreOperands room operands old → (two : HasTwo room operands.meanings front left right) → new.values.items ≡ front ++ value ∷ []
      → new.seen ≡ old.seen → new.groups ≡ old.groups → new.open_groups ≡ old.open_groups
      → DifferenceChecks options definitions operand two.first two.second sign None
      × ((meaning : Meaning) × IsDifference options definitions operand two.first two.second meaning × IsOperand room meaning value)
      → IsStepTaken options definitions room operands (subtracts operand sign) new
  subtract_taken room operands old new operand sign front left right value are two values seen groups around read = record {
    checked = subst (λ l. SubtractChecks options definitions operand l sign None) (sym two.are) read.0;
    after = in_place operands (read.1.0 ∷ two.others);
    stepped = (
      read.1.0 ∷ two.others,
      subst (λ l. Subtracts options definitions operand l (read.1.0 ∷ two.others)) (sym two.are) (read.1.0, read.1.1, refl),
      refl,
    );
    stands = record {
      values = values_more room two.others read.1.0 front new.values.items value values read.1.2 two.others_are;
      tags = seen ∙ are.tags;
      groups = groups ∙ are.groups;
      open_groups = ap (λ (l : Vec ℕ Global). reverse l.items) around ∙ are.open_groups;
    };
  }

  pub subtract_stops : (room : Room) (meanings : List Meaning) (operand : Bool) (sign : Lexeme) (front : List Operand) (left right : Operand) (stopped : Stop)
      → (two : HasTwo room meanings front left right) → StopsAt (DifferenceChecks options definitions operand two.first two.second sign) stopped
      → StopsAt (SubtractChecks options definitions operand meanings sign) stopped
  subtract_stops room meanings operand sign front left right stopped two is =
      subst (λ l. StopsAt (SubtractChecks options definitions operand l sign) stopped) (sym two.are) (at stopped is)
    where
      at : (s : Stop) → StopsAt (DifferenceChecks options definitions operand two.first two.second sign) s
          → StopsAt (SubtractChecks options definitions operand (two.second ∷ two.first ∷ two.others) sign) s
      at stop.Memory h = tt
      at (stop.Fault fault) h = h

  -- one step more
  pub goes-snoc : (first operands after : Operands) (steps : List Step) (step : Step) → Goes options definitions first steps (Ok operands)
      → StepChecks options definitions operands step None → IsStepped options definitions operands step after
      → Goes options definitions first (steps ++ step ∷ []) (Ok after)
  goes-snoc first operands after [] step ends checks is = next after checks is ends
  goes-snoc first operands after (other ∷ steps) step (next middle checked stepped rest) checks is =
      next middle checked stepped (goes-snoc middle operands after steps step rest checks is)

  goes-refused : (first operands : Operands) (steps : List Step) (step : Step) (others : List Step) (fault : Fault)
      → Goes options definitions first steps (Ok operands) → StepChecks options definitions operands step (Some fault)
      → Goes options definitions first (steps ++ step ∷ others) (Err fault)
  goes-refused first operands [] step others fault ends checks = refused fault checks
  goes-refused first operands (other ∷ steps) step others fault (next middle checked stepped rest) checks =
      next middle checked stepped (goes-refused middle operands steps step others fault rest checks)

  pub goes-stops : (first operands : Operands) (steps : List Step) (step : Step) (others : List Step) (stopped : Stop)
      → Goes options definitions first steps (Ok operands) → StopsAt (StepChecks options definitions operands step) stopped
      → StopsReading options definitions first (steps ++ step ∷ others) stopped
  goes-stops first operands steps step others stop.Memory goes checks = tt
  goes-stops first operands steps step others (stop.Fault fault) goes checks = goes-refused first operands steps step others fault goes checks

-- what is seen of a list up to a place, and from it on
pub take-next : {A B : Type 0} (f : A → B) (i : ℕ) (list : List A) (default : A) → i < length list
    → take (suc i) (map f list) ≡ take i (map f list) ++ f (get_or list i default) ∷ []
take-next f i [] default lt = absurd (omega (arith, lt))
take-next f zero (x ∷ list) default lt = refl
take-next f (suc i) (x ∷ list) default lt = ap (λ l. f x ∷ l) (take-next f i list default (omega (arith, lt)))

pub drop-next : {A B : Type 0} (f : A → B) (i : ℕ) (list : List A) (default : A) → i < length list
    → drop i (map f list) ≡ f (get_or list i default) ∷ drop (suc i) (map f list)
drop-next f i [] default lt = absurd (omega (arith, lt))
drop-next f zero (x ∷ list) default lt = refl
drop-next f (suc i) (x ∷ list) default lt = drop-next f i list default (omega (arith, lt))
