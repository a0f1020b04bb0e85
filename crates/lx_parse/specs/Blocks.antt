-- The grammar of the bodies of blocks, and where a body that is none is refused.
use Rattle.std.specs.Prelude.{◌≡◌, ℕ, Bool, true, false, List, [], ◌∷◌, ◌++◌, length, take, drop}
use Rattle.lx_base.specs.declared.blocks.BlockKind.{BlockKind}
use Rattle.lx_base.specs.declared.blocks.BlockKind.TheVariants as block
use Rattle.lx_base.specs.declared.faults.Fault.{Fault}
use Rattle.lx_base.specs.declared.faults.Fault.TheVariants.{Syntax}
use Rattle.lx_base.specs.declared.faults.Stop.{Stop}
use Rattle.lx_base.specs.declared.faults.Stop.TheVariants as stop
use Rattle.lx_base.specs.declared.places.Pos.{Pos}
use Rattle.lx_token.specs.declared.list.Token.{Token}
use Rattle.lx_base.specs.Places.{place_after}
use Rattle.lx_parse.specs.declared.items.Item.{Item}
use Rattle.lx_parse.specs.declared.sorts.Sort.{Sort}
use Rattle.lx_parse.specs.declared.forms.Form.{Form}
use Rattle.lx_parse.specs.declared.forms.Form.TheVariants as forms
use Rattle.lx_parse.specs.Sorts.{sorts_of}
use Rattle.lx_parse.specs.Items.{ReadsItems, ReadsTexts, ReadsSeparator, ReadsNothing}

-- a block that has a body of tokens
abbrev pub has_tokens : BlockKind → Bool
has_tokens block.Ignore = false
has_tokens block.Include = false
has_tokens block.Enter = false
has_tokens block.Leave = false
has_tokens kind = true

-- what the body of a block holds
abbrev pub form_of : BlockKind → Form
form_of block.Code = forms.Items
form_of block.Rules = forms.Items
form_of block.Use = forms.Items
form_of block.Stags = forms.Format
form_of block.Mtags = forms.Format
form_of kind = forms.Nothing

-- the sorts hold these items, in a body of so many tokens
abbrev pub ReadsForm : (size : ℕ) → Form → List Item → List Sort → Type 0
ReadsForm size forms.Items items sorts = ReadsItems size items sorts
ReadsForm size forms.Format items sorts = ReadsTexts size items sorts
ReadsForm size forms.Separator items sorts = ReadsSeparator size items sorts
ReadsForm size forms.Nothing items sorts = ReadsNothing items sorts

-- a body of these sorts is well-formed, and has these items
abbrev pub IsBody : Form → List Sort → List Item → Type 0
IsBody form sorts items = ReadsForm (length sorts) form items sorts

-- the sorts are the front of a well-formed body
abbrev pub BeginsBody : Form → List Sort → Type 0
BeginsBody form front = (more : List Sort) × (items : List Item) × IsBody form (front ++ more) items

-- no well-formed body goes on behind the front as the tail does: with its first sort, or by ending where it is empty
abbrev pub IsRefused : Form → (front tail : List Sort) → Type 0
IsRefused form front [] = (items : List Item) → IsBody form front items → ⊥
IsRefused form front (sort ∷ tail) = BeginsBody form (front ++ sort ∷ []) → ⊥

-- the place of the first of the tokens, or that of the end of the body that begins at a place
abbrev pub place_of_next : Pos → (body : List ℕ) → List Token → Pos
place_of_next start body [] = place_after start body
place_of_next start body (token ∷ tokens) = token.at

-- what is true of the fault of a body: behind some tokens, which begin a well-formed body, stands the first one with which
-- none goes on
pub record IsSyntaxFault (kind : BlockKind) (body : List ℕ) (start : Pos) (tokens : List Token) (fault : Fault) : Type 0 where
  pub count : ℕ
  pub begins : BeginsBody (form_of kind) (take count (sorts_of kind body tokens))
  pub refused : IsRefused (form_of kind) (take count (sorts_of kind body tokens)) (drop count (sorts_of kind body tokens))
  pub fault_is : fault ≡ Syntax (place_of_next start body (drop count tokens))

-- a call that is to give the items stops with the fault of the body, or where memory runs out
abbrev pub StopsWith : BlockKind → (body : List ℕ) → Pos → List Token → Stop → Type 0
StopsWith kind body start tokens stop.Memory = Unit {0}
StopsWith kind body start tokens (stop.Fault fault) = IsSyntaxFault kind body start tokens fault
