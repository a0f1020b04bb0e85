-- What is made of parts, one behind another.
use Rattle.std.proofs.Common.{◌≡◌, ℕ, suc, ◌+◌, add-one, List, [], ◌∷◌, ◌++◌, length, refl, ap, subst, append_assoc, append-nil}
use Rattle.std.specs.Prelude.{All}
use Rattle.std.specs.List.{AllByRecursion}
use Rattle.std.proofs.lemmas.List.Elements.{All-from_recursion}
use Rattle.lx_base.specs.declared.places.Pos.{Pos}
use Rattle.lx_compile.specs.Made.{AreMade, IsMadeOf, Setting}
use Rattle.lx_compile.specs.Writing.{IsPrintable}
use Rattle.lx_compile.specs.declared.made.Made.{Made}
use Rattle.lx_compile.specs.declared.made.Made.TheVariants as variant
use Rattle.lx_compile.specs.declared.parts.Content.{Content}
use Rattle.lx_compile.specs.declared.parts.Content.TheVariants.{Asks, Scanners}
use Rattle.lx_compile.specs.declared.parts.Part.{Part}
use Rattle.lx_compile.specs.declared.parts.Part.TheVariants.{Outside, Block}

-- this is made of the first parts; the pieces of the others are numbered from here on, and so are their states
pub record HasMade (setting : Setting) (parts rest : List Part) (number first_state : ℕ) (made : List Made) : Type 0 where
  pub continues : (more : List Made) → AreMade setting number first_state rest more → AreMade setting 1 0 parts (made ++ more)

pub HasMade-start : (setting : Setting) (parts : List Part) → HasMade setting parts parts 1 0 []
HasMade-start setting parts = record { continues = λ more are. are }

pub HasMade-outside : (setting : Setting) (parts rest : List Part) (number first_state : ℕ) (made : List Made) (text : List ℕ)
    → HasMade setting parts (Outside text ∷ rest) number first_state made
    → HasMade setting parts rest number first_state (made ++ variant.Outside text ∷ [])
HasMade-outside setting parts rest number first_state made text has =
    record { continues = λ more are. rw append_assoc (has.continues (variant.Outside text ∷ more) (refl, are)) }

pub HasMade-block : (setting : Setting) (parts rest : List Part) (number first_state next : ℕ) (made : List Made) (at : Pos) (line : ℕ)
    (content : Content) (one : Made) → HasMade setting parts (Block at line content ∷ rest) number first_state made
    → IsMadeOf setting number first_state next at line content one → HasMade setting parts rest (number + 1) next (made ++ one ∷ [])
HasMade-block setting parts rest number first_state next made at line content one has is =
    rw add-one (record { continues = λ more are. rw append_assoc (has.continues (one ∷ more) (next, is, are)) })

pub HasMade-end : (setting : Setting) (parts : List Part) (number first_state : ℕ) (made : List Made)
    → HasMade setting parts [] number first_state made → AreMade setting 1 0 parts made
HasMade-end setting parts number first_state made has = subst (AreMade setting 1 0 parts) (append-nil made) (has.continues [] tt)

-- as much is made as there are parts
pub AreMade-length : (setting : Setting) (number first_state : ℕ) (parts : List Part) (made : List Made)
    → AreMade setting number first_state parts made → length made ≡ length parts
AreMade-length setting number first_state [] [] are = refl
AreMade-length setting number first_state [] (one ∷ made) are = absurd are
AreMade-length setting number first_state (Outside text ∷ parts) [] are = absurd are
AreMade-length setting number first_state (Outside text ∷ parts) (variant.Outside other ∷ made) are =
    ap suc (AreMade-length setting number first_state parts made are.1)
AreMade-length setting number first_state (Outside text ∷ parts) (variant.Scanners piece checks warnings cover groups ∷ made) are = absurd are
AreMade-length setting number first_state (Outside text ∷ parts) (variant.Bare at line directive ∷ made) are = absurd are
AreMade-length setting number first_state (Block at line content ∷ parts) [] are = absurd are
AreMade-length setting number first_state (Block at line content ∷ parts) (one ∷ made) are =
    ap suc (AreMade-length setting (suc number) are.0 parts made are.2)

-- a piece of scanners that is made is valid
IsMadeOf-printable : (setting : Setting) (number first_state next : ℕ) (at : Pos) (line : ℕ) (content : Content) (one : Made)
    → IsMadeOf setting number first_state next at line content one → IsPrintable one
IsMadeOf-printable setting number first_state next at line content (variant.Outside text) is = tt
IsMadeOf-printable setting number first_state next at line (Scanners resolved) (variant.Scanners piece checks warnings cover groups) is = is.0.generated.valid
IsMadeOf-printable setting number first_state next at line (Asks directive) (variant.Scanners piece checks warnings cover groups) is = absurd is
IsMadeOf-printable setting number first_state next at line content (variant.Bare place mark directive) is = tt

EachIsPrintable-made : (setting : Setting) (number first_state : ℕ) (parts : List Part) (made : List Made)
    → AreMade setting number first_state parts made → AllByRecursion IsPrintable made
EachIsPrintable-made setting number first_state [] [] are = tt
EachIsPrintable-made setting number first_state [] (one ∷ made) are = absurd are
EachIsPrintable-made setting number first_state (Outside text ∷ parts) [] are = absurd are
EachIsPrintable-made setting number first_state (Outside text ∷ parts) (variant.Outside other ∷ made) are =
    (tt, EachIsPrintable-made setting number first_state parts made are.1)
EachIsPrintable-made setting number first_state (Outside text ∷ parts) (variant.Scanners piece checks warnings cover groups ∷ made) are = absurd are
EachIsPrintable-made setting number first_state (Outside text ∷ parts) (variant.Bare at line directive ∷ made) are = absurd are
EachIsPrintable-made setting number first_state (Block at line content ∷ parts) [] are = absurd are
EachIsPrintable-made setting number first_state (Block at line content ∷ parts) (one ∷ made) are = (
  IsMadeOf-printable setting number first_state are.0 at line content one are.1,
  EachIsPrintable-made setting (suc number) are.0 parts made are.2,
)

pub IsPrintable-made : (setting : Setting) (number first_state : ℕ) (parts : List Part) (made : List Made)
    → AreMade setting number first_state parts made → All IsPrintable made
IsPrintable-made setting number first_state parts made are = All-from_recursion IsPrintable made (EachIsPrintable-made setting number first_state parts made are)
