-- Tokens of each kind, as they are read behind the tags before them.
use Rattle.std.proofs.Common.{◌≡◌, ℕ, Bool, true, false, List, [], ◌∷◌, ◌++◌, Option, None, Some, inl, Result, MatchResult, refl, subst, sym}
use Rattle.std.specs.Prelude.{if◌then◌else◌}
use Rattle.std.proofs.lemmas.List.{append-nil}
use Rattle.std.proofs.lemmas.Result.{MatchResult-weaker}
use Rattle.lx_base.specs.declared.faults.Fault.{Fault}
use Rattle.lx_base.specs.declared.faults.Stop.{Stop}
use Rattle.lx_base.specs.declared.faults.Stop.TheVariants as stop
use Rattle.lx_base.specs.declared.settings.Options.{Options}
use Rattle.lx_class.specs.Ranges.{InRanges}
use Rattle.lx_class.specs.declared.ranges.Range.{Range}
use Rattle.lx_token.specs.declared.kinds.TokenKind.{TokenKind}
use Rattle.lx_token.specs.declared.kinds.TokenKind.TheVariants as kind
use Rattle.lx_exprs.specs.declared.values.Room.{Room}
use Rattle.lx_exprs.specs.declared.values.Value.{Value}
use Rattle.lx_exprs.specs.Checks.{IsFilled, LeafChecks, LeafHas, PointsAre, StopsAt, class_ranges, is_tag_among, tag_fault, tag_name, tag_of}
use Rattle.lx_exprs.specs.Defined.{Before, Definition, Meaning, count_of}
use Rattle.lx_regex.specs.declared.rules.Tag.{Tag}
use Rattle.lx_forms.specs.Lexemes.{Lexeme, points_in}
use Rattle.lx_exprs.specs.Points.{singles}
use Rattle.lx_exprs.specs.Meanings.{IsLeafMeaning, IsSetOf, class_meaning, meaning_of_string, tag_meaning}
use Rattle.lx_exprs.specs.Reading.{IsLeafRead}
use Rattle.lx_exprs.specs.Values.{IsValue}
use Rattle.lx_exprs.proofs.Forms.ClassForms.{filled-same}

module _ (options : Options) (definitions : List Definition) (room : Room) (operand : Bool) (before : Before) (lexeme : Lexeme) where
  -- a token of some kind is read, where the checks of that kind find nothing and its meaning stands
  pub kind-read : (sort : TokenKind) → lexeme.kind ≡ sort → LeafChecks options definitions sort operand before.tags lexeme None
      → (meaning : Meaning) → IsLeafMeaning options definitions operand sort before lexeme meaning → (after : List Tag)
      → after ≡ before.tags ++ meaning.tags → (value : Value) → IsValue room meaning value
      → IsLeafRead options definitions room operand before lexeme after value
  kind-read sort same checked meaning means after seen value stands = record {
    checked = subst (λ kind. LeafChecks options definitions kind operand before.tags lexeme None) (sym same) checked;
    meaning = meaning;
    means = subst (λ kind. IsLeafMeaning options definitions operand kind before lexeme meaning) (sym same) means;
    stands = stands;
    seen = seen;
  }

  -- or it is refused
  pub kind-stops : (sort : TokenKind) → lexeme.kind ≡ sort → (fault : Fault) → LeafChecks options definitions sort operand before.tags lexeme (Some fault)
      → LeafChecks options definitions lexeme.kind operand before.tags lexeme (Some fault)
  kind-stops sort same fault found =
      subst (λ kind. LeafChecks options definitions kind operand before.tags lexeme (Some fault)) (sym same) found

  -- a class of the points of the token, where it is filled or need not be
  module _ (sort : lexeme.kind ≡ kind.Class) (set : List Range) (points : PointsAre options definitions lexeme (class_ranges lexeme) None)
      (has : IsSetOf (LeafHas options definitions kind.Class lexeme) set) where
    filled : (fault : Option Fault) → IsFilled options definitions options.empty operand lexeme.at (InRanges set) fault
        → LeafChecks options definitions kind.Class operand before.tags lexeme fault
    filled fault is =
        inl (points, filled-same options definitions options.empty operand lexeme.at (InRanges set) (LeafHas options definitions kind.Class lexeme) has.points fault is)

    pub class-read : (value : Value)
        → IsFilled options definitions options.empty operand lexeme.at (InRanges set) None
        × IsValue room (class_meaning operand options.empty 0 [] 0 (count_of before) set) value
        → IsLeafRead options definitions room operand before lexeme before.tags value
    class-read value is =
        kind-read kind.Class sort (filled None is.0) (class_meaning operand options.empty 0 [] 0 (count_of before) set) (set, has, refl) before.tags (sym (append-nil before.tags)) value is.1

    pub class-stops : (stopped : Stop) → StopsAt (IsFilled options definitions options.empty operand lexeme.at (InRanges set)) stopped
        → StopsAt (LeafChecks options definitions lexeme.kind operand before.tags lexeme) stopped
    class-stops stop.Memory is = tt
    class-stops (stop.Fault fault) is = kind-stops kind.Class sort fault (filled (Some fault) is)

  -- a string, in quotes that tell cases apart or not
  module _ (result : Result Value Stop) where
    abbrev pub ReadsString : (count : ℕ) → (is_caseless : Bool) → Type 0
    ReadsString count is_caseless =
        MatchResult result
        (λ value. PointsAre options definitions lexeme (singles (points_in lexeme)) None
        × IsValue room (meaning_of_string options definitions is_caseless count lexeme) value)
        (StopsAt (PointsAre options definitions lexeme (singles (points_in lexeme))))

    abbrev ReadsLeaf : Type 0
    ReadsLeaf =
        MatchResult result (IsLeafRead options definitions room operand before lexeme before.tags)
        (StopsAt (LeafChecks options definitions lexeme.kind operand before.tags lexeme))

    reads-leaf : (sort : TokenKind) (is_caseless : Bool) → lexeme.kind ≡ sort
        → ((fault : Option Fault) → PointsAre options definitions lexeme (singles (points_in lexeme)) fault
        → LeafChecks options definitions sort operand before.tags lexeme fault)
        → IsLeafMeaning options definitions operand sort before lexeme (meaning_of_string options definitions is_caseless (count_of before) lexeme)
        → ReadsString (count_of before) is_caseless → ReadsLeaf
    reads-leaf sort is_caseless same checks means reads =
        MatchResult-weaker result reads
        (λ value is.
        kind-read sort same (checks None is.0) (meaning_of_string options definitions is_caseless (count_of before) lexeme) means before.tags (sym (append-nil before.tags))
        value is.1)
        stops
      where
        stops : (stopped : Stop) → StopsAt (PointsAre options definitions lexeme (singles (points_in lexeme))) stopped
            → StopsAt (LeafChecks options definitions lexeme.kind operand before.tags lexeme) stopped
        stops stop.Memory is = tt
        stops (stop.Fault fault) is = kind-stops sort same fault (checks (Some fault) is)

    pub string-reads : lexeme.kind ≡ kind.Str → ReadsString (count_of before) false → ReadsLeaf
    string-reads same reads = reads-leaf kind.Str false same (λ fault is. is) refl reads

    pub caseless-reads : lexeme.kind ≡ kind.IStr → ReadsString (count_of before) true → ReadsLeaf
    caseless-reads same reads = reads-leaf kind.IStr true same (λ fault is. is) refl reads

  -- a tag is taken where tags are allowed and it was not seen before
  pub tag_fault-none : (many : Bool) → options.tags ≡ true → is_tag_among (tag_name lexeme) before.tags ≡ false
      → None ≡ tag_fault options definitions many lexeme before.tags
  tag_fault-none many allowed new = rw (allowed, new) refl

  -- the token of a tag is read
  pub tag-read : (many : Bool) → lexeme.kind ≡ (if many then kind.MTag else kind.STag) → None ≡ tag_fault options definitions many lexeme before.tags
      → (after : List Tag) → after ≡ before.tags ++ tag_of many lexeme ∷ [] → (value : Value)
      → IsValue room (tag_meaning before (tag_of many lexeme)) value → IsLeafRead options definitions room operand before lexeme after value
  tag-read true same checked after seen value stands =
      kind-read kind.MTag same checked (tag_meaning before (tag_of true lexeme)) refl after seen value stands
  tag-read false same checked after seen value stands =
      kind-read kind.STag same checked (tag_meaning before (tag_of false lexeme)) refl after seen value stands
